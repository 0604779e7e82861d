-- What a lock call of a desk wants at the table: its view counts how often it took a lock, died and was cancelled.
use Rattle.std.proofs.Common.{◌≡◌, ◌≢◌, ◌⊎◌, ⊎_elim, inl, inr, ℕ, zero, suc, ◌+◌, ◌<◌, ◌≤◌, ◌==◌, ◌||◌, eqb, not, Bool, true, false, true≢false, List, [], ◌∷◌, ◌++◌, length, set, if◌then◌else◌, Option, Some, None, refl, sym, ap, ◌∙◌, subst, arith}
use Rattle.std.proofs.lemmas.Bool.{cases_Bool}
use Rattle.std.proofs.lemmas.Bool.Decides.{nat_tests}
use Rattle.std.specs.Arc.{arc_value}
use mathlib.Core.Option.{some, some-injective}
use lib.ListN.{get_elem?}
use Rattle.atomic_table.proofs.Lists.{set_here, set_else, at_longer}
use Rattle.ww_plain.specs.Numbers.{is_among, AreDifferent}
use Rattle.ww_plain.proofs.Members.{or_cases, same_from_eqb, different_head, different_tail}
use Rattle.ww_word.specs.declared.owner.Owner.{Owner}
use Rattle.ww_queue.specs.declared.entry.Entry.{Entry}
use Rattle.ww_model.specs.declared.event.Event.TheVariants.{Fast, Join, Take, Die, Leave}
use Rattle.ww_view.specs.declared.view.Met.{Met}
use Rattle.ww_view.specs.declared.view.View.{View}
use Rattle.ww_view.specs.Made.{without, met_at, stopped_at}
use Rattle.ww_invariant.specs.declared.cells.Part.{Part}
use Rattle.ww_invariant.specs.declared.cells.Sight.{Sight}
use Rattle.ww_invariant.specs.declared.cells.Start.{Start}
use Rattle.ww_invariant.specs.Rule.{St, Sat}
use Rattle.ww_invariant.specs.Steps.{nobody, first_seat, without_first, with_seat}
use Rattle.ww_invariant.proofs.Fits.{place_low}
use Rattle.ww_laws.specs.Scene.{Step, performs}
use Rattle.ww_laws.specs.Premises.{Wants}
use Rattle.ww_refines.specs.Tables.{TableMoment}
use Rattle.ww_refines.specs.Plays as play
use Rattle.ww_refines.specs.Plays.{Plays, IsFound}
use Rattle.ww_refines.specs.Naps.{IsPlayOf, ArePlaysOf, no_more, one_more}
use Rattle.ww_table.specs.declared.board.Board.{Board}
use Rattle.ww_seat.specs.Calls.{HasMet}
use Rattle.ww_seat.specs.Standings.{Standing, view_in}
use Rattle.ww_seat.specs.Work.{IsPlaced, has_joined}
use Rattle.ww_seat.specs.declared.waits.Waits.{Waits}
use Rattle.ww_seat.proofs.Among.{last_among}
use Rattle.ww_steps.specs.declared.turn.Turn.{Turn}
use Rattle.ww_steps.specs.declared.turn.Turn.TheVariants as at
use Rattle.ww_steps.specs.declared.turn.Answer.{Answer}
use Rattle.ww_steps.specs.declared.turn.Answer.TheVariants.{Done, Again, Awaits, Sleeps, Busy, Invalid, Already, NoSpace, Deadlk, Interrupted}
use Rattle.ww_steps.specs.Situations.{Situation, is_at_rest}
use Rattle.ww_steps.specs.Stations.{IsWhere}
use Rattle.ww_steps.specs.Answers.{IsLockAnswer, IsTryAnswer, IsSlowAnswer, IsWaitAnswer, IsNextAnswer, IsLooking}
use Rattle.ww_callers.specs.Stages.{IsDesk}
use Rattle.ww_callers.specs.Deeds.{Call, lock, try_lock, lock_slow, go_on, HasDone}
use Rattle.ww_loops.specs.Loops.{waits_at, lock_for}
use Rattle.ww_loops.proofs.Looping.{added}
use Rattle.ww_loops.specs.Wanting.{WantsOnly, DiesOnly, WantsItsLock, LockCallsWantTheirLock}

-- ---- of views

-- inside a guard it stands in the list there, or in none
pub Placed : View → Type 0
Placed v = (m : ℕ) → v.inside ≡ suc m → (v.waits ≡ 0) ⊎ (v.waits ≡ suc m)

-- how often it took a lock, died and was cancelled
abbrev pub ends : View → ℕ
ends v = v.takes + v.deaths + length v.stopped

-- none of this
pub record Stays (v w : View) : Type 0 where
  pub takes : w.takes ≡ v.takes
  pub deaths : w.deaths ≡ v.deaths
  pub stopped : w.stopped ≡ v.stopped
  pub locks : (k : ℕ) → is_among k w.locks ≡ true → is_among k v.locks ≡ true
  pub met : (w.met ≡ v.met) ⊎ (w.met ≡ None)

-- it wants a lock by the step, or its wait ends
abbrev pub is_wait : Option Step → Bool
is_wait (Some (performs (Fast s n))) = true
is_wait (Some (performs (Join s n))) = true
is_wait (Some (performs (Take s n))) = true
is_wait (Some (performs (Die s n))) = true
is_wait (Some (performs (Leave s n))) = true
is_wait _ = false

-- it took this lock; died there; or was cancelled there
pub record Takes (v : View) (n : ℕ) (w : View) : Type 0 where
  pub takes : w.takes ≡ v.takes + 1
  pub deaths : w.deaths ≡ v.deaths
  pub stopped : w.stopped ≡ v.stopped
  pub locks : (k : ℕ) → is_among k w.locks ≡ true → (is_among k v.locks ≡ true) ⊎ (k ≡ n)

pub record Dies (v : View) (n : ℕ) (w : View) : Type 0 where
  pub takes : w.takes ≡ v.takes
  pub deaths : w.deaths ≡ v.deaths + 1
  pub stopped : w.stopped ≡ v.stopped
  pub met : (m : Met) → w.met ≡ Some m → m.lock ≡ n

pub record Leaves (v : View) (n : ℕ) (w : View) : Type 0 where
  pub takes : w.takes ≡ v.takes
  pub deaths : w.deaths ≡ v.deaths
  pub by : ℕ
  pub stopped : w.stopped ≡ (n, by) ∷ v.stopped

-- what a play makes of these
pub data Waited (v : View) : Option Step → View → Type 0 where
  quiet : (x : Option Step) (w : View) → is_wait x ≡ false → Stays v w → w.waits ≡ v.waits → (Placed v → Placed w) → Waited v x w
  joins : (x : Option Step) (n : ℕ) (w : View) → x ≡ Some (performs (Join v.who n)) → Stays v w → v.waits ≡ 0 →
      w.waits ≡ suc n → Placed w → Waited v x w
  fasts : (x : Option Step) (n : ℕ) (w : View) → x ≡ Some (performs (Fast v.who n)) → Takes v n w → v.waits ≡ 0 → w.waits ≡ 0 →
      Placed w → Waited v x w
  takes : (x : Option Step) (n : ℕ) (w : View) → x ≡ Some (performs (Take v.who n)) → Takes v n w → v.inside ≡ suc n → w.waits ≡ 0 →
      Placed w → Waited v x w
  dies : (x : Option Step) (n : ℕ) (w : View) → x ≡ Some (performs (Die v.who n)) → Dies v n w → v.waits ≡ suc n → w.waits ≡ 0 →
      Placed w → Waited v x w
  leaves : (x : Option Step) (n : ℕ) (w : View) → x ≡ Some (performs (Leave v.who n)) → Leaves v n w → v.waits ≡ suc n →
      w.waits ≡ 0 → Placed w → Waited v x w

-- whoever waits in none is placed
no_list : (v : View) → v.waits ≡ 0 → Placed v
unfolding Placed
no_list v none m is = inl none

outside_all : (v : View) → v.inside ≡ 0 → Placed v
unfolding Placed
outside_all v out m is = absurd (omega arith)

goes_in : (v w : View) (n : ℕ) → w.inside ≡ suc n → (w.waits ≡ 0) ⊎ (w.waits ≡ suc n) → Placed w
unfolding Placed
goes_in v w n inside place m is = let same : suc n ≡ suc m = sym inside ∙ is in ⊎_elim inl (λ waits. inr (waits ∙ same)) place

stays_placed : (v w : View) → w.inside ≡ v.inside → w.waits ≡ v.waits → Placed v → Placed w
unfolding Placed
stays_placed v w inside waits p m is = ⊎_elim (λ none. inl (waits ∙ none)) (λ at. inr (waits ∙ at)) (p m (sym inside ∙ is))

all_stays : (v : View) → Stays v v
all_stays v = record { takes = refl; deaths = refl; stopped = refl; locks = λ k is. is; met = inl refl }

-- who has one lock fewer had each that it has
had_one : (k n m : ℕ) (l : List ℕ) → (is_among k (without n l) ≡ true → is_among k l ≡ true) → (b : Bool) → not (m == n) ≡ b →
    is_among k (if b then m ∷ without n l else without n l) ≡ true → is_among k (m ∷ l) ≡ true
had_one k n m l later true same is = ⊎_elim (λ here. ap (λ b. b || is_among k l) here)
    (λ isnt. ap (λ b. b || is_among k l) isnt ∙ later (sym (ap (λ b. b || is_among k (without n l)) isnt) ∙ is)) (cases_Bool (m == k))
had_one k n m l later false same is = ⊎_elim (λ here. ap (λ b. b || is_among k l) here)
    (λ isnt. ap (λ b. b || is_among k l) isnt ∙ later is) (cases_Bool (m == k))

had : (k n : ℕ) (l : List ℕ) → is_among k (without n l) ≡ true → is_among k l ≡ true
had k n [] is = is
had k n (m ∷ l) is = had_one k n m l (had k n l) (not (m == n)) refl is

-- and who has one lock more had each other one
got : (k n : ℕ) (l : List ℕ) → is_among k (l ++ n ∷ []) ≡ true → (is_among k l ≡ true) ⊎ (k ≡ n)
got k n l is = ⊎_elim inl
    (λ isnt. inr (last (n == k) refl (sym (ap (λ b. b || (n == k)) isnt) ∙ sym (added k n l) ∙ is)))
    (cases_Bool (is_among k l))
  where
    last : (b : Bool) → (n == k) ≡ b → b ≡ true → k ≡ n
    last true same is = grind (arith, nat_tests)
    last false same is = absurd (true≢false (sym is))

-- where it dies its view says
met_there : (inside n : ℕ) (stamp : Option ℕ) (o : Owner) (q : List Entry) (m : Met) → inside ≡ suc n →
    met_at inside stamp o q ≡ Some m → m.lock ≡ n
met_there zero n stamp o q m at is = absurd (omega arith)
met_there (suc i) n None o q m at is = absurd (cc)
met_there (suc i) n (Some k) o q m at is = let same : record { lock = i; stamp = k; owner = o; list = q } ≡ m = cc in
    ap (λ (x : Met). x.lock) (sym same) ∙ (let z : i ≡ n = omega arith in z)

-- and where it is cancelled
stopped_there : (inside heeded n : ℕ) (before : List (ℕ × ℕ)) → inside ≡ suc n → heeded ≢ 0 →
    (k : ℕ) × (stopped_at inside heeded before ≡ (n, k) ∷ before)
stopped_there zero heeded n before at isnt = absurd (omega arith)
stopped_there (suc i) zero n before at isnt = absurd (isnt refl)
stopped_there (suc i) (suc h) n before at isnt = (h, ap (λ j. (j, h) ∷ before) (let z : i ≡ n = omega arith in z))

-- ---- each play

module _ {key : Start} (m : TableMoment key) (id : ℕ) (me : Sat) (here : get_elem? m.table.views id ≡ some me.0) where
  abbrev v : View
  v = me.0.part.core

  WaitedBy : Option Step → List Sight → Type 0
  WaitedBy x views = (w : Sight) × (get_elem? views id ≡ some w) × Waited v x w.part.core

  stands : (w : Sight) → get_elem? (set m.table.views id w) id ≡ some w
  stands w = set_here m.table.views id w (place_low m.table.views id me.0 here)

  found : (u : View) (i : ℕ) → IsFound m id me i u → Waited v None u
  found _ _ (play.looks n o is valid hit) = quiet _ _ refl (record { takes = refl; deaths = refl; stopped = refl; locks = λ k has. has; met = inl refl }) refl
      (stays_placed v _ refl refl)
  found _ _ _ = quiet _ _ refl (record { takes = refl; deaths = refl; stopped = refl; locks = λ k has. has; met = inl refl }) refl
      (stays_placed v _ refl refl)

  made : (x : Option Step) (w : Sight) → Waited v x w.part.core → WaitedBy x (set m.table.views id w)
  unfolding WaitedBy
  made x w h = (w, stands w, h)

  parted : (w : Sight) (others : List Sight) → w.part ≡ me.0.part → WaitedBy None (set m.table.views id w ++ others)
  unfolding WaitedBy
  parted w others same = (
    w,
    at_longer (set m.table.views id w) others id w (stands w),
    subst (λ (p : Part). Waited v None p.core) (sym same) (quiet None v refl (all_stays v) refl (λ p. p)),
  )

  joined : (w spent : Sight) (other : ℕ) → other ≢ id → w.part ≡ me.0.part → WaitedBy None (set (set m.table.views id w) other spent)
  unfolding WaitedBy
  joined w spent other apart same = (
    w,
    set_else (set m.table.views id w) other id spent (λ is. apart (sym is)) ∙ stands w,
    subst (λ (p : Part). Waited v None p.core) (sym same) (quiet None v refl (all_stays v) refl (λ p. p)),
  )

  each_waited : (x : Option Step) (s : St) → Plays m id me x s → WaitedBy x s.views
  each_waited _ _ (play.draws may room) = made _ _ (quiet _ _ refl
      (record { takes = refl; deaths = refl; stopped = refl; locks = λ k has. has; met = inr refl }) refl (stays_placed v _ refl refl))
  each_waited _ _ (play.ends may hit) = made _ _ (quiet _ _ refl
      (record { takes = refl; deaths = refl; stopped = refl; locks = λ k has. has; met = inr refl }) refl (stays_placed v _ refl refl))
  each_waited _ _ (play.takes_free n small may hit) = made _ _ (fasts _ n _ refl
      (record { takes = refl; deaths = refl; stopped = refl; locks = λ k. got k n v.locks }) may.away.1 may.away.1
      (no_list _ may.away.1))
  each_waited _ _ (play.takes_bare n big low may hit) = made _ _ (fasts _ n _ refl
      (record { takes = refl; deaths = refl; stopped = refl; locks = λ k. got k n v.locks }) may.away.1 may.away.1
      (no_list _ may.away.1))
  each_waited _ _ (play.gives_free n x small away own has top hit) = made _ _ (quiet _ _ refl
      (record { takes = refl; deaths = refl; stopped = refl; locks = λ k. had k n v.locks; met = inr refl }) refl (stays_placed v _ refl refl))
  each_waited _ _ (play.gives_bare n big low away own hit) = made _ _ (quiet _ _ refl
      (record { takes = refl; deaths = refl; stopped = refl; locks = λ k. had k n v.locks; met = inr refl }) refl (stays_placed v _ refl refl))
  each_waited _ _ (play.enters n low may hit) = made _ _ (quiet _ _ refl
      (record { takes = refl; deaths = refl; stopped = refl; locks = λ k has. has; met = inl refl }) refl
      (λ _. goes_in v _ n refl (⊎_elim (λ own. inl own.0) (⊎_elim (λ waits. inr waits) (λ new. inl new.0)) may.why)))
  each_waited _ _ (play.exits n may out top) = made _ _ (quiet _ _ refl
      (record { takes = refl; deaths = refl; stopped = refl; locks = λ k has. has; met = inl refl }) refl (λ _. outside_all _ refl))
  each_waited _ _ (play.exits_to_sleep n heeds may waits calm top) = made _ _ (quiet _ _ refl
      (record { takes = refl; deaths = refl; stopped = refl; locks = λ k has. has; met = inl refl }) refl (λ _. outside_all _ refl))
  each_waited _ _ (play.joins n o may valid hit) = made _ _ (joins _ n _ refl
      (record { takes = refl; deaths = refl; stopped = refl; locks = λ k has. has; met = inl refl }) may.not_waiting refl
      (goes_in v _ n may.inside (inr refl)))
  each_waited _ _ (play.takes_inside n o y others small may valid hit top) =
      made _ _ (takes _ n _ refl
      (record { takes = refl; deaths = refl; stopped = refl; locks = λ k. got k n v.locks }) may.inside refl
      (no_list _ refl))
  each_waited _ _ (play.takes_bare_inside n o big may valid hit) =
      made _ _ (takes _ n _ refl
      (record { takes = refl; deaths = refl; stopped = refl; locks = λ k. got k n v.locks }) may.inside refl
      (no_list _ refl))
  each_waited _ _ (play.gives_inside n o x may has valid hit top) = made _ _ (quiet _ _ refl
      (record { takes = refl; deaths = refl; stopped = refl; locks = λ k. had k n v.locks; met = inr refl }) refl (stays_placed v _ refl refl))
  each_waited _ _ (play.gives_bare_inside n o big may valid hit) = made _ _ (quiet _ _ refl
      (record { takes = refl; deaths = refl; stopped = refl; locks = λ k. had k n v.locks; met = inr refl }) refl (stays_placed v _ refl refl))
  each_waited _ _ (play.dies n o k may valid hit) = made _ _ (dies _ n _ refl
      (record { takes = refl; deaths = refl; stopped = refl; met = λ x. met_there v.inside n _ o v.list x may.inside }) may.waits refl
      (no_list _ refl))
  each_waited _ _ (play.leaves n o may valid hit) = let t = stopped_there v.inside v.heeded n v.stopped may.inside may.heeded in
      made _ _ (leaves _ n _ refl (record { takes = refl; deaths = refl; by = t.0; stopped = t.1 }) may.waits refl (no_list _ refl))
  each_waited _ _ (play.finds i u is) = made _ _ (found u i is)
  each_waited _ _ (play.cuts_off p ps idle) = parted (without_first me.0) (first_seat (length me.0.held) me.0.idle ∷ []) refl
  each_waited _ _ (play.takes_in other w apart there on bare) = joined (with_seat me.0 w) nobody other apart refl
  each_waited _ _ _ = made _ _ (quiet _ _ refl
      (record { takes = refl; deaths = refl; stopped = refl; locks = λ k has. has; met = inl refl }) refl (stays_placed v _ refl refl))

pub waited : {key : Start} (v w : View) (x : Option Step) → IsPlayOf key v x w → Waited v x w
unfolding WaitedBy
waited v w x p = let t = each_waited p.moment p.id p.me p.here x p.table p.plays in
    let same : t.0.part.core ≡ w = ap (λ (s : Sight). s.part.core) (some-injective _ _ (sym t.1 ∙ p.there)) ∙ p.after in
    let of_both : View × View → Type 0 = λ z. Waited z.0 x z.1 in subst of_both (λ i. (p.before i, same i)) t.2

-- ---- one after the other

stays_even : (v w : View) → Stays v w → ends w ≡ ends v
stays_even v w s = let a = s.takes in let b = s.deaths in omega (arith, ap (λ (l : List (ℕ × ℕ)). length l) s.stopped)

took_once : (v w : View) (n : ℕ) → Takes v n w → ends w ≡ ends v + 1
took_once v w n t = let a = t.takes in let b = t.deaths in omega (arith, ap (λ (l : List (ℕ × ℕ)). length l) t.stopped)

died_once : (v w : View) (n : ℕ) → Dies v n w → ends w ≡ ends v + 1
died_once v w n t = let a = t.takes in let b = t.deaths in omega (arith, ap (λ (l : List (ℕ × ℕ)). length l) t.stopped)

left_once : (v w : View) (n : ℕ) → Leaves v n w → ends w ≡ ends v + 1
left_once v w n t = let a = t.takes in let b = t.deaths in omega (arith, ap (λ (l : List (ℕ × ℕ)). length l) t.stopped)

once_more : (v w : View) (x : Option Step) → Waited v x w → (ends w ≡ ends v) ⊎ (ends w ≡ ends v + 1)
once_more v w _ (quiet x _ is s waits placed) = inl (stays_even v w s)
once_more v w _ (joins x n _ is s none waits placed) = inl (stays_even v w s)
once_more v w _ (fasts x n _ is t none waits placed) = inr (took_once v w n t)
once_more v w _ (takes x n _ is t inside waits placed) = inr (took_once v w n t)
once_more v w _ (dies x n _ is t waited waits placed) = inr (died_once v w n t)
once_more v w _ (leaves x n _ is t waited waits placed) = inr (left_once v w n t)

more : {key : Start} (u w : View) (xs : List (Option Step)) → ArePlaysOf key u xs w → ends u ≤ ends w
more _ _ _ (no_more v) = omega arith
more _ w _ (one_more u v _ x xs p ps) = let rest = more v w xs ps in
    ⊎_elim (λ same. omega arith) (λ grown. omega arith) (once_more u v x (waited u v x p))

stays_then : (u v w : View) → Stays u v → Stays v w → Stays u w
stays_then u v w a b = record {
  takes = b.takes ∙ a.takes;
  deaths = b.deaths ∙ a.deaths;
  stopped = b.stopped ∙ a.stopped;
  locks = λ k is. a.locks k (b.locks k is);
  met = ⊎_elim (λ same. ⊎_elim (λ was. inl (same ∙ was)) (λ none. inr (same ∙ none)) a.met) inr b.met;
}

-- ---- which lock a step wants

quiet_wants : (d n : ℕ) (x : Option Step) (y : Step) → is_wait x ≡ false → x ≡ Some y → Wants d n y → ⊥
quiet_wants d n x y idle is (inl w) = true≢false (sym (ap is_wait (is ∙ ap Some w)) ∙ idle)
quiet_wants d n x y idle is (inr (inl w)) = true≢false (sym (ap is_wait (is ∙ ap Some w)) ∙ idle)
quiet_wants d n x y idle is (inr (inr w)) = true≢false (sym (ap is_wait (is ∙ ap Some w)) ∙ idle)

quiet_dies : (d n : ℕ) (x : Option Step) → is_wait x ≡ false → x ≡ Some (performs (Die d n)) → ⊥
quiet_dies d n x idle is = true≢false (sym (ap is_wait is) ∙ idle)

fast_wants : (s n d m : ℕ) (x : Option Step) (y : Step) → x ≡ Some (performs (Fast s n)) → x ≡ Some y → Wants d m y → m ≡ n
fast_wants s n d m x y at is (inl w) = let z = sym at ∙ is ∙ ap Some w in let same : n ≡ m = cc in sym same
fast_wants s n d m x y at is (inr (inl w)) = absurd (let z = sym at ∙ is ∙ ap Some w in cc)
fast_wants s n d m x y at is (inr (inr w)) = absurd (let z = sym at ∙ is ∙ ap Some w in cc)

join_wants : (s n d m : ℕ) (x : Option Step) (y : Step) → x ≡ Some (performs (Join s n)) → x ≡ Some y → Wants d m y → m ≡ n
join_wants s n d m x y at is (inl w) = absurd (let z = sym at ∙ is ∙ ap Some w in cc)
join_wants s n d m x y at is (inr (inl w)) = let z = sym at ∙ is ∙ ap Some w in let same : n ≡ m = cc in sym same
join_wants s n d m x y at is (inr (inr w)) = absurd (let z = sym at ∙ is ∙ ap Some w in cc)

take_wants : (s n d m : ℕ) (x : Option Step) (y : Step) → x ≡ Some (performs (Take s n)) → x ≡ Some y → Wants d m y → m ≡ n
take_wants s n d m x y at is (inl w) = absurd (let z = sym at ∙ is ∙ ap Some w in cc)
take_wants s n d m x y at is (inr (inl w)) = absurd (let z = sym at ∙ is ∙ ap Some w in cc)
take_wants s n d m x y at is (inr (inr w)) = let z = sym at ∙ is ∙ ap Some w in let same : n ≡ m = cc in sym same

die_wants : (s n d m : ℕ) (x : Option Step) (y : Step) → x ≡ Some (performs (Die s n)) → x ≡ Some y → Wants d m y → ⊥
die_wants s n d m x y at is (inl w) = let z = sym at ∙ is ∙ ap Some w in cc
die_wants s n d m x y at is (inr (inl w)) = let z = sym at ∙ is ∙ ap Some w in cc
die_wants s n d m x y at is (inr (inr w)) = let z = sym at ∙ is ∙ ap Some w in cc

leave_wants : (s n d m : ℕ) (x : Option Step) (y : Step) → x ≡ Some (performs (Leave s n)) → x ≡ Some y → Wants d m y → ⊥
leave_wants s n d m x y at is (inl w) = let z = sym at ∙ is ∙ ap Some w in cc
leave_wants s n d m x y at is (inr (inl w)) = let z = sym at ∙ is ∙ ap Some w in cc
leave_wants s n d m x y at is (inr (inr w)) = let z = sym at ∙ is ∙ ap Some w in cc

pub only_more : (d : ℕ) (P Q : ℕ → Type 0) (xs : List (Option Step)) → ((n : ℕ) → P n → Q n) → WantsOnly d P xs → WantsOnly d Q xs
only_more d P Q [] f h = tt
only_more d P Q (x ∷ xs) f h = (λ n y is want. f n (h.0 n y is want), only_more d P Q xs f h.1)

dies_more : (d : ℕ) (P Q P' Q' : ℕ → Type 0) (xs : List (Option Step)) → ((n : ℕ) → P n → P' n) → ((n : ℕ) → Q n → Q' n) →
    DiesOnly d P Q xs → DiesOnly d P' Q' xs
dies_more d P Q P' Q' [] f g h = tt
dies_more d P Q P' Q' (x ∷ xs) f g h = (
  λ n is. (f n (h.0 n is).0, only_more d Q Q' xs g (h.0 n is).1),
  dies_more d P Q P' Q' xs f g h.1,
)

-- ---- where no wait ends

pub record NoneEnds (d : ℕ) (v w : View) (xs : List (Option Step)) : Type 0 where
  pub wants : WantsOnly d (λ n. (v.waits ≡ 0) × (w.waits ≡ suc n)) xs
  pub dies : DiesOnly d (λ _. ⊥) (λ _. ⊥) xs
  pub waits : (v.waits ≡ 0) ⊎ (w.waits ≡ v.waits)
  pub stays : Stays v w

pub none_ends : {key : Start} (d : ℕ) (u w : View) (xs : List (Option Step)) → ArePlaysOf key u xs w → ends w ≡ ends u → NoneEnds d u w xs
none_ends d _ _ _ (no_more v) same = record { wants = tt; dies = tt; waits = inr refl; stays = all_stays v }
none_ends d _ w _ (one_more u v _ x xs p ps) same = go (waited u v x p) (more v w xs ps) (λ even. none_ends d v w xs ps even)
  where
    go : Waited u x v → ends v ≤ ends w → (ends w ≡ ends v → NoneEnds d v w xs) → NoneEnds d u w (x ∷ xs)
    go (quiet _ _ is s waits placed) low later = let r = later (same ∙ sym (stays_even u v s)) in record {
      wants = (
        λ n y at want. absurd (quiet_wants d n x y is at want),
        only_more d (λ n. (v.waits ≡ 0) × (w.waits ≡ suc n)) (λ n. (u.waits ≡ 0) × (w.waits ≡ suc n)) xs (λ n h. (sym waits ∙ h.0, h.1)) r.wants,
      );
      dies = (λ n at. absurd (quiet_dies d n x is at), r.dies);
      waits = ⊎_elim (λ none. inl (sym waits ∙ none)) (λ still. inr (still ∙ waits)) r.waits;
      stays = stays_then u v w s r.stays;
    }
    go (joins _ n _ is s none waits placed) low later = let r = later (same ∙ sym (stays_even u v s)) in
        let at : w.waits ≡ suc n = ⊎_elim (λ nowhere. absurd (omega arith)) (λ still. still ∙ waits) r.waits in record {
          wants = (
            λ m y is' want. (none, at ∙ ap suc (sym (join_wants u.who n d m x y is is' want))),
            only_more d (λ m. (v.waits ≡ 0) × (w.waits ≡ suc m)) (λ m. (u.waits ≡ 0) × (w.waits ≡ suc m)) xs
                (λ m h. absurd (let z = h.0 in omega arith)) r.wants,
          );
          dies = (λ m is'. absurd (let z = sym is ∙ is' in cc), r.dies);
          waits = inl none;
          stays = stays_then u v w s r.stays;
        }
    go (fasts _ n _ is t none waits placed) low later = absurd (let grown = took_once u v n t in omega arith)
    go (takes _ n _ is t inside waits placed) low later = absurd (let grown = took_once u v n t in omega arith)
    go (dies _ n _ is t waited waits placed) low later = absurd (let grown = died_once u v n t in omega arith)
    go (leaves _ n _ is t waited waits placed) low later = absurd (let grown = left_once u v n t in omega arith)

-- ---- where one does

record OneEnds (d : ℕ) (v w : View) (xs : List (Option Step)) : Type 0 where
  lock : ℕ
  wants : WantsOnly d (λ m. (m ≡ lock) ⊎ (w.waits ≡ suc m)) xs
  dies : DiesOnly d (λ m. (m ≡ lock) × Dies v lock w) (λ m. w.waits ≡ suc m) xs
  waits : (v.waits ≡ 0) ⊎ (v.waits ≡ suc lock)
  how : Takes v lock w ⊎ (Dies v lock w ⊎ Leaves v lock w)

takes_later : (u v w : View) (n : ℕ) → Stays u v → Takes v n w → Takes u n w
takes_later u v w n s t = let a = s.takes in let b = t.takes in record {
  takes = omega arith;
  deaths = t.deaths ∙ s.deaths;
  stopped = t.stopped ∙ s.stopped;
  locks = λ k is. ⊎_elim (λ was. inl (s.locks k was)) inr (t.locks k is);
}

dies_later : (u v w : View) (n : ℕ) → Stays u v → Dies v n w → Dies u n w
dies_later u v w n s t = let a = s.deaths in let b = t.deaths in
    record { takes = t.takes ∙ s.takes; deaths = omega arith; stopped = t.stopped ∙ s.stopped; met = t.met }

leaves_later : (u v w : View) (n : ℕ) → Stays u v → Leaves v n w → Leaves u n w
leaves_later u v w n s t = record {
  takes = t.takes ∙ s.takes;
  deaths = t.deaths ∙ s.deaths;
  by = t.by;
  stopped = t.stopped ∙ ap (λ (l : List (ℕ × ℕ)). (n, t.by) ∷ l) s.stopped;
}

takes_before : (u v w : View) (n : ℕ) → Takes u n v → Stays v w → Takes u n w
takes_before u v w n t s = record {
  takes = s.takes ∙ t.takes;
  deaths = s.deaths ∙ t.deaths;
  stopped = s.stopped ∙ t.stopped;
  locks = λ k is. t.locks k (s.locks k is);
}

dies_before : (u v w : View) (n : ℕ) → Dies u n v → Stays v w → Dies u n w
dies_before u v w n t s = record {
  takes = s.takes ∙ t.takes;
  deaths = s.deaths ∙ t.deaths;
  stopped = s.stopped ∙ t.stopped;
  met = λ m is. ⊎_elim (λ same. t.met m (sym same ∙ is)) (λ none. absurd (let z = sym none ∙ is in cc)) s.met;
}

leaves_before : (u v w : View) (n : ℕ) → Leaves u n v → Stays v w → Leaves u n w
leaves_before u v w n t s =
    record { takes = s.takes ∙ t.takes; deaths = s.deaths ∙ t.deaths; by = t.by; stopped = s.stopped ∙ t.stopped }

place_of : (v : View) (n : ℕ) → Placed v → v.inside ≡ suc n → (v.waits ≡ 0) ⊎ (v.waits ≡ suc n)
unfolding Placed
place_of v n p is = p n is

one_ends : {key : Start} (d : ℕ) (u w : View) (xs : List (Option Step)) → ArePlaysOf key u xs w → Placed u → ends w ≡ ends u + 1 →
    OneEnds d u w xs
one_ends d _ _ _ (no_more v) place once = absurd (omega arith)
one_ends d _ w _ (one_more u v _ x xs p ps) place once = go (waited u v x p) (λ placed even. one_ends d v w xs ps placed even)
    (λ even. none_ends d v w xs ps even)
  where
    -- nothing is wanted after that but what it waits for at last
    rest_wants : (n : ℕ) → NoneEnds d v w xs → WantsOnly d (λ m. (m ≡ n) ⊎ (w.waits ≡ suc m)) xs
    rest_wants n r = only_more d (λ m. (v.waits ≡ 0) × (w.waits ≡ suc m)) (λ m. (m ≡ n) ⊎ (w.waits ≡ suc m)) xs (λ m h. inr h.1) r.wants

    rest_dies : (n : ℕ) → NoneEnds d v w xs → DiesOnly d (λ m. (m ≡ n) × Dies u n w) (λ m. w.waits ≡ suc m) xs
    rest_dies n r = dies_more d (λ _. ⊥) (λ _. ⊥) (λ m. (m ≡ n) × Dies u n w) (λ m. w.waits ≡ suc m) xs (λ m h. absurd h)
        (λ m h. absurd h) r.dies

    go : Waited u x v → (Placed v → ends w ≡ ends v + 1 → OneEnds d v w xs) → (ends w ≡ ends v → NoneEnds d v w xs) →
        OneEnds d u w (x ∷ xs)
    go (quiet _ _ is s waits placed) later last = let r = later (placed place) (once ∙ ap (λ (k : ℕ). k + 1) (sym (stays_even u v s))) in record {
      lock = r.lock;
      wants = (λ n y at want. absurd (quiet_wants d n x y is at want), r.wants);
      dies = (
        λ n at. absurd (quiet_dies d n x is at),
        dies_more d (λ m. (m ≡ r.lock) × Dies v r.lock w) (λ m. w.waits ≡ suc m) (λ m. (m ≡ r.lock) × Dies u r.lock w) (λ m. w.waits ≡ suc m) xs
            (λ m h. (h.0, dies_later u v w r.lock s h.1)) (λ m h. h) r.dies,
      );
      waits = ⊎_elim (λ none. inl (sym waits ∙ none)) (λ at. inr (sym waits ∙ at)) r.waits;
      how = ⊎_elim (λ t. inl (takes_later u v w r.lock s t)) (⊎_elim (λ t. inr (inl (dies_later u v w r.lock s t)))
          (λ t. inr (inr (leaves_later u v w r.lock s t)))) r.how;
    }
    go (joins _ n _ is s none waits placed) later last = let r = later placed (once ∙ ap (λ (k : ℕ). k + 1) (sym (stays_even u v s))) in
        let same : n ≡ r.lock = ⊎_elim (λ nowhere. absurd (omega arith)) (λ at. omega arith) r.waits in record {
          lock = r.lock;
          wants = (λ m y is' want. inl (join_wants u.who n d m x y is is' want ∙ same), r.wants);
          dies = (
            λ m is'. absurd (let z = sym is ∙ is' in cc),
            dies_more d (λ m. (m ≡ r.lock) × Dies v r.lock w) (λ m. w.waits ≡ suc m) (λ m. (m ≡ r.lock) × Dies u r.lock w)
                (λ m. w.waits ≡ suc m) xs (λ m h. (h.0, dies_later u v w r.lock s h.1)) (λ m h. h) r.dies,
          );
          waits = inl none;
          how = ⊎_elim (λ t. inl (takes_later u v w r.lock s t)) (⊎_elim (λ t. inr (inl (dies_later u v w r.lock s t)))
              (λ t. inr (inr (leaves_later u v w r.lock s t)))) r.how;
        }
    go (fasts _ n _ is t none waits placed) later last = let r = last (once ∙ sym (took_once u v n t)) in record {
      lock = n;
      wants = (λ m y is' want. inl (fast_wants u.who n d m x y is is' want), rest_wants n r);
      dies = (λ m is'. absurd (let z = sym is ∙ is' in cc), rest_dies n r);
      waits = inl none;
      how = inl (takes_before u v w n t r.stays);
    }
    go (takes _ n _ is t inside waits placed) later last = let r = last (once ∙ sym (took_once u v n t)) in record {
      lock = n;
      wants = (λ m y is' want. inl (take_wants u.who n d m x y is is' want), rest_wants n r);
      dies = (λ m is'. absurd (let z = sym is ∙ is' in cc), rest_dies n r);
      waits = place_of u n place inside;
      how = inl (takes_before u v w n t r.stays);
    }
    go (dies _ n _ is t waited waits placed) later last = let r = last (once ∙ sym (died_once u v n t)) in
        let died = dies_before u v w n t r.stays in record {
          lock = n;
          wants = (λ m y is' want. absurd (die_wants u.who n d m x y is is' want), rest_wants n r);
          dies = (
            λ m is'. (
              ((let z = sym is ∙ is' in let same : n ≡ m = cc in sym same), died),
              only_more d (λ m. (v.waits ≡ 0) × (w.waits ≡ suc m)) (λ m. w.waits ≡ suc m) xs (λ m h. h.1) r.wants,
            ),
            rest_dies n r,
          );
          waits = inr waited;
          how = inr (inl died);
        }
    go (leaves _ n _ is t waited waits placed) later last = let r = last (once ∙ sym (left_once u v n t)) in record {
      lock = n;
      wants = (λ m y is' want. absurd (leave_wants u.who n d m x y is is' want), rest_wants n r);
      dies = (λ m is'. absurd (let z = sym is ∙ is' in cc), rest_dies n r);
      waits = inr waited;
      how = inr (inr (leaves_before u v w n t r.stays));
    }

-- ---- of desks

placed_at : (b : Bool) (m : ℕ) (v : View) → IsPlaced b m v → (v.waits ≡ 0) ⊎ (v.waits ≡ suc m)
placed_at true m v h = inr h.0
placed_at false m v h = inl h.0

where_waits : (b : Board) (wakes : List ℕ) (turn : Turn) (s : Standing) → IsWhere b wakes turn s → (n : ℕ) → (view_in s).waits ≡ suc n →
    waits_at turn ≡ Some n
where_waits b wakes at.Rests s h n is = absurd (let none = h.1 in omega arith)
where_waits b wakes (at.Wants m arrival waits) s h n is =
    ⊎_elim (λ none. absurd (omega arith)) (λ there. ap Some (let z : m ≡ n = omega arith in z)) h.0.place
where_waits b wakes (at.Looks m arrival waits) s h n is = ⊎_elim (λ none. absurd (omega arith))
    (λ there. ap Some (let z : m ≡ n = omega arith in z)) (placed_at (has_joined arrival) m (view_in s) h.1.place)
where_waits b wakes (at.Gives m) s h n is = absurd (let none = h.away.1 in omega arith)

where_placed : (b : Board) (wakes : List ℕ) (turn : Turn) (s : Standing) → IsWhere b wakes turn s → Placed (view_in s)
where_placed b wakes at.Rests s h = outside_all (view_in s) h.0
where_placed b wakes (at.Wants m arrival waits) s h = outside_all (view_in s) h.0.outside
where_placed b wakes (at.Looks m arrival waits) s h = goes_in (view_in s) (view_in s) m h.1.inside
    (placed_at (has_joined arrival) m (view_in s) h.1.place)
where_placed b wakes (at.Gives m) s h = outside_all (view_in s) h.away.0

-- a desk's call stands at the lock for which its seat waits
pub desk_waits : (s : Situation) → IsDesk s → (n : ℕ) → s.view.waits ≡ suc n → waits_at s.turn ≡ Some n
desk_waits s d n is = let h = d.station in ap (λ (x : Situation). waits_at x.turn) d.seen
    ∙ where_waits (arc_value h.board) h.wake.items h.turn h.seat d.keeps.stands n (ap (λ (x : Situation). x.view.waits) (sym d.seen) ∙ is)

desk_placed : (s : Situation) → IsDesk s → Placed s.view
desk_placed s d = let h = d.station in subst (λ (x : Situation). Placed x.view) (sym d.seen)
    (where_placed (arc_value h.board) h.wake.items h.turn h.seat d.keeps.stands)

rest_waits_not : (turn : Turn) (n : ℕ) → is_at_rest turn ≡ true → waits_at turn ≢ Some n
rest_waits_not at.Rests n rests is = cc
rest_waits_not (at.Wants m arrival waits) n rests is = true≢false (sym rests)
rest_waits_not (at.Looks m arrival waits) n rests is = true≢false (sym rests)
rest_waits_not (at.Gives m) n rests is = true≢false (sym rests)

-- what it says of itself its view counts
pub record IsCounted (s : Situation) : Type 0 where
  pub takes : s.takes ≡ s.view.takes
  pub deaths : s.deaths ≡ s.view.deaths
  pub stopped : s.interrupted ≡ s.view.stopped
  pub held : s.held ≡ s.view.locks
  pub differ : AreDifferent s.held

pub counted : (s : Situation) → IsDesk s → IsCounted s
counted s d = subst IsCounted (sym d.seen)
    (record { takes = refl; deaths = refl; stopped = refl; held = refl; differ = d.keeps.owns.differ })

-- ---- what the answers say

pub record SameEnds (s s' : Situation) : Type 0 where
  pub takes : s'.takes ≡ s.takes
  pub deaths : s'.deaths ≡ s.deaths
  pub stopped : s'.interrupted ≡ s.interrupted

abbrev EndsBy : ℕ → Answer → Situation → Situation → Type 0
EndsBy n Done s s' = (s'.takes ≡ s.takes + 1) × (s'.deaths ≡ s.deaths) × (s'.interrupted ≡ s.interrupted)
    × (s'.held ≡ s.held ++ n ∷ []) × (is_at_rest s'.turn ≡ true)
EndsBy n (Deadlk k) s s' = (s'.takes ≡ s.takes) × (s'.deaths ≡ s.deaths + 1) × (s'.interrupted ≡ s.interrupted)
    × HasMet n k s'.view × (is_at_rest s'.turn ≡ true)
EndsBy n (Interrupted by) s s' = (s'.takes ≡ s.takes) × (s'.deaths ≡ s.deaths) × (s'.interrupted ≡ (n, by) ∷ s.interrupted)
    × (is_at_rest s'.turn ≡ true)
EndsBy n _ s s' = SameEnds s s' × ((s'.view.waits ≡ s.view.waits) ⊎ ((m : ℕ) → waits_at s'.turn ≡ Some m → n ≡ m))

pub same_ends : (s s' t : Situation) → s' ≡ t → t.takes ≡ s.takes → t.deaths ≡ s.deaths → t.interrupted ≡ s.interrupted → SameEnds s s'
same_ends s s' t is took deaths stopped = record {
  takes = ap (λ (x : Situation). x.takes) is ∙ took;
  deaths = ap (λ (x : Situation). x.deaths) is ∙ deaths;
  stopped = ap (λ (x : Situation). x.interrupted) is ∙ stopped;
}

one_lock : (n m : ℕ) → ◌≡◌ {A = Option ℕ} (Some n) (Some m) → n ≡ m
one_lock n m is = cc

-- nothing has changed
unchanged : (n : ℕ) (s s' : Situation) → s' ≡ s →
    SameEnds s s' × ((s'.view.waits ≡ s.view.waits) ⊎ ((m : ℕ) → waits_at s'.turn ≡ Some m → n ≡ m))
unchanged n s s' is = (same_ends s s' s is refl refl refl, inl (ap (λ (x : Situation). x.view.waits) is))

-- its call waits for this lock then
waiting : (n : ℕ) (s s' : Situation) → SameEnds s s' → waits_at s'.turn ≡ Some n →
    SameEnds s s' × ((s'.view.waits ≡ s.view.waits) ⊎ ((m : ℕ) → waits_at s'.turn ≡ Some m → n ≡ m))
waiting n s s' same at = (same, inr (λ m is. one_lock n m (sym at ∙ is)))

took_it : (n : ℕ) (s s' t : Situation) → s' ≡ t → t.takes ≡ s.takes + 1 → t.deaths ≡ s.deaths → t.interrupted ≡ s.interrupted →
    t.held ≡ s.held ++ n ∷ [] → is_at_rest t.turn ≡ true → EndsBy n Done s s'
took_it n s s' t is took deaths stopped held = λ rests. (
  ap (λ (x : Situation). x.takes) is ∙ took,
  ap (λ (x : Situation). x.deaths) is ∙ deaths,
  ap (λ (x : Situation). x.interrupted) is ∙ stopped,
  ap (λ (x : Situation). x.held) is ∙ held,
  ap (λ (x : Situation). is_at_rest x.turn) is ∙ rests,
)

locked_ends : (n : ℕ) (a : Answer) (s s' : Situation) (waits : Waits) → IsLockAnswer s n waits a s' → EndsBy n a s s'
locked_ends n Done s s' waits h = took_it n s s' _ h.1.1 refl refl refl refl h.0.rests
locked_ends n Again s s' waits h = waiting n s s' (same_ends s s' _ h.2 refl refl refl) (ap (λ (x : Situation). waits_at x.turn) h.2)
locked_ends n Busy s s' waits h = unchanged n s s' h.1
locked_ends n Already s s' waits h = unchanged n s s' h.1
locked_ends n Invalid s s' waits h = unchanged n s s' h.1
locked_ends n _ s s' waits h = absurd h

tried_ends : (n : ℕ) (a : Answer) (s s' : Situation) → IsTryAnswer s n a s' → EndsBy n a s s'
tried_ends n Done s s' h = took_it n s s' _ h.1.1 refl refl refl refl h.0.rests
tried_ends n Busy s s' h = ⊎_elim (λ busy. unchanged n s s' busy.1)
    (λ vain. (
      same_ends s s' _ vain.1.1 refl refl refl,
      inr (λ m is. absurd (rest_waits_not s.turn m vain.0.rests (sym (ap (λ (x : Situation). waits_at x.turn) vain.1.1) ∙ is))),
    )) h
tried_ends n Already s s' h = unchanged n s s' h.1
tried_ends n Invalid s s' h = unchanged n s s' h.1
tried_ends n _ s s' h = absurd h

slow_ends : (n : ℕ) (a : Answer) (s s' : Situation) (waits : Waits) → IsSlowAnswer s n waits a s' → EndsBy n a s s'
slow_ends n Done s s' waits h = took_it n s s' _ h.3.1 refl refl refl refl h.2.rests
slow_ends n Again s s' waits h = locked_ends n Again s s' waits h.2
slow_ends n Busy s s' waits h = unchanged n s s' h.1
slow_ends n Invalid s s' waits h = unchanged n s s' h.2
slow_ends n _ s s' waits h = absurd h

looking_at : (n : ℕ) (waits : Waits) (turn : Turn) → IsLooking n waits turn → waits_at turn ≡ Some n
looking_at n waits (at.Looks m arrival w) h = ap Some h.0
looking_at n waits at.Rests h = absurd h
looking_at n waits (at.Wants m arrival w) h = absurd h
looking_at n waits (at.Gives m) h = absurd h

wait_ends : (n : ℕ) (a : Answer) (s s' : Situation) (waits : Waits) → IsWaitAnswer s n waits a s' → EndsBy n a s s'
wait_ends n Done s s' waits h = took_it n s s' _ h.1 refl refl refl refl refl
wait_ends n Awaits s s' waits h = (same_ends s s' _ h.now refl refl refl, inl (ap (λ (x : Situation). x.view.waits) h.now))
wait_ends n Again s s' waits h = waiting n s s' (same_ends s s' _ h.4 refl refl refl) (looking_at n waits s'.turn h.0)
wait_ends n Sleeps s s' waits h = waiting n s s' (same_ends s s' _ h.3 refl refl refl) (ap (λ (x : Situation). waits_at x.turn) h.3)
wait_ends n (Deadlk k) s s' waits h = let now = h.1.now in (
  ap (λ (x : Situation). x.takes) now,
  ap (λ (x : Situation). x.deaths) now,
  ap (λ (x : Situation). x.interrupted) now,
  h.1.met,
  ap (λ (x : Situation). is_at_rest x.turn) now,
)
wait_ends n (Interrupted by) s s' waits h = (
  ap (λ (x : Situation). x.takes) h.2,
  ap (λ (x : Situation). x.deaths) h.2,
  ap (λ (x : Situation). x.interrupted) h.2,
  ap (λ (x : Situation). is_at_rest x.turn) h.2,
)
wait_ends n _ s s' waits h = absurd h

next_ends : (n : ℕ) (a : Answer) (turn : Turn) (s s' : Situation) → waits_at turn ≡ Some n → IsNextAnswer turn s a s' → EndsBy n a s s'
next_ends n a at.Rests s s' is h = absurd (cc)
next_ends n a (at.Wants m arrival waits) s s' is h = subst (λ k. EndsBy k a s s') (one_lock m n is) (wait_ends m a s s' waits h)
next_ends n a (at.Looks m arrival waits) s s' is h = subst (λ k. EndsBy k a s s') (one_lock m n is) (wait_ends m a s s' waits h)
next_ends n a (at.Gives m) s s' is h = absurd (cc)

call_ends : (call : Call) (n : ℕ) (a : Answer) (s s' : Situation) → lock_for call s.turn ≡ Some n → HasDone call s a s' → EndsBy n a s s'
call_ends (lock m waits) n a s s' is h = subst (λ k. EndsBy k a s s') (one_lock m n is) (locked_ends m a s s' waits h)
call_ends (try_lock m) n a s s' is h = subst (λ k. EndsBy k a s s') (one_lock m n is) (tried_ends m a s s' h)
call_ends (lock_slow m waits) n a s s' is h = subst (λ k. EndsBy k a s s') (one_lock m n is) (slow_ends m a s s' waits h)
call_ends go_on n a s s' is h = next_ends n a s.turn s s' is h.0
call_ends _ n a s s' is h = absurd (cc)

-- ---- so what it wants is its lock

not_twice : (n : ℕ) (front : List ℕ) → is_among n front ≡ true → AreDifferent (front ++ n ∷ []) → ⊥
not_twice n [] is differ = true≢false (sym is)
not_twice n (m ∷ front) is differ = let new = different_head m (front ++ n ∷ []) differ in
    elim (or_cases (eqb m n) (is_among n front) is) [
      | inl same ↦ let here = rw (same_from_eqb m n same) at new in true≢false (sym (last_among front n) ∙ here)
      | inr later ↦ not_twice n front later (different_tail m (front ++ n ∷ []) differ)
    ]

first_at : List (ℕ × ℕ) → ℕ
first_at [] = 0
first_at (p ∷ ps) = p.0

module _ {key : Start} (n : ℕ) (s s' : Situation) (xs : List (Option Step)) (desk : IsDesk s) (desk' : IsDesk s')
    (plays : ArePlaysOf key s.view xs s'.view) where
  c : IsCounted s
  c = counted s desk

  c' : IsCounted s'
  c' = counted s' desk'

  rests_wanting_none : is_at_rest s'.turn ≡ true → (m : ℕ) → s'.view.waits ≡ suc m → ⊥
  rests_wanting_none rests m is = rest_waits_not s'.turn m rests (desk_waits s' desk' m is)

  wants_none_else : (a : Answer) → SameEnds s s' → ((s'.view.waits ≡ s.view.waits) ⊎ ((m : ℕ) → waits_at s'.turn ≡ Some m → n ≡ m)) →
      WantsItsLock s.view.who n a xs
  wants_none_else a same waits =
      let takes : s'.view.takes ≡ s.view.takes = sym c'.takes ∙ same.takes ∙ c.takes in
      let deaths : s'.view.deaths ≡ s.view.deaths = sym c'.deaths ∙ same.deaths ∙ c.deaths in
      let stopped : s'.view.stopped ≡ s.view.stopped = sym c'.stopped ∙ same.stopped ∙ c.stopped in
      let r = none_ends s.view.who s.view s'.view xs plays (omega (arith, ap (λ (l : List (ℕ × ℕ)). length l) stopped)) in record {
        wants = only_more s.view.who (λ m. (s.view.waits ≡ 0) × (s'.view.waits ≡ suc m)) (λ m. n ≡ m) xs
            (λ m h. ⊎_elim (λ still. absurd (let x = h.0 in let y = h.1 in omega arith)) (λ f. f m (desk_waits s' desk' m h.1)) waits) r.wants;
        dies = dies_more s.view.who (λ _. ⊥) (λ _. ⊥) (λ m. (n ≡ m) × ((k : ℕ) × (a ≡ Deadlk k))) (λ m. ⊥) xs (λ m h. absurd h) (λ m h. h) r.dies;
      }

  -- a wait ended, at this lock
  module _ (a : Answer) (once : ends s'.view ≡ ends s.view + 1) (rests : is_at_rest s'.turn ≡ true) where
    r : OneEnds s.view.who s.view s'.view xs
    r = one_ends s.view.who s.view s'.view xs plays (desk_placed s desk) once

    at_its_lock : n ≡ r.lock → (Dies s.view r.lock s'.view → (k : ℕ) × (a ≡ Deadlk k)) → WantsItsLock s.view.who n a xs
    at_its_lock same says = record {
      wants = only_more s.view.who (λ m. (m ≡ r.lock) ⊎ (s'.view.waits ≡ suc m)) (λ m. n ≡ m) xs
          (λ m h. ⊎_elim (λ is. same ∙ sym is) (λ waits. absurd (rests_wanting_none rests m waits)) h) r.wants;
      dies = dies_more s.view.who (λ m. (m ≡ r.lock) × Dies s.view r.lock s'.view) (λ m. s'.view.waits ≡ suc m)
          (λ m. (n ≡ m) × ((k : ℕ) × (a ≡ Deadlk k))) (λ m. ⊥) xs (λ m h. (same ∙ sym h.0, says h.1)) (rests_wanting_none rests) r.dies;
    }

  wants_it : (a : Answer) → EndsBy n a s s' → WantsItsLock s.view.who n a xs
  unfolding first_at r
  wants_it Done h =
      let takes : s'.view.takes ≡ s.view.takes + 1 = sym c'.takes ∙ h.0 ∙ ap (λ (k : ℕ). k + 1) c.takes in
      let deaths : s'.view.deaths ≡ s.view.deaths = sym c'.deaths ∙ h.1 ∙ c.deaths in
      let stopped : s'.view.stopped ≡ s.view.stopped = sym c'.stopped ∙ h.2 ∙ c.stopped in
      let once : ends s'.view ≡ ends s.view + 1 = omega (arith, ap (λ (l : List (ℕ × ℕ)). length l) stopped) in
      let o = r Done once h.4 in
      let among : is_among n s'.view.locks ≡ true = ap (is_among n) (sym c'.held ∙ h.3) ∙ last_among s.held n in
      at_its_lock Done once h.4
      (⊎_elim (λ t. ⊎_elim (λ was. absurd (not_twice n s.held (ap (is_among n) c.held ∙ was) (subst AreDifferent h.3 c'.differ)))
      (λ is. is) (t.locks n among))
      (⊎_elim (λ t. absurd (let same = t.takes in omega arith)) (λ t. absurd (let same = t.takes in omega arith))) o.how)
      (λ t. absurd (let same = t.takes in omega arith))
  wants_it (Deadlk k) h =
      let takes : s'.view.takes ≡ s.view.takes = sym c'.takes ∙ h.0 ∙ c.takes in
      let deaths : s'.view.deaths ≡ s.view.deaths + 1 = sym c'.deaths ∙ h.1 ∙ ap (λ (j : ℕ). j + 1) c.deaths in
      let stopped : s'.view.stopped ≡ s.view.stopped = sym c'.stopped ∙ h.2 ∙ c.stopped in
      let once : ends s'.view ≡ ends s.view + 1 = omega (arith, ap (λ (l : List (ℕ × ℕ)). length l) stopped) in
      let o = r (Deadlk k) once h.4 in
      at_its_lock (Deadlk k) once h.4
      (⊎_elim (λ t. absurd (let same = t.deaths in omega arith))
      (⊎_elim (λ t. t.met _ h.3.noted) (λ t. absurd (let same = t.deaths in omega arith))) o.how)
      (λ t. (k, refl))
  wants_it (Interrupted by) h =
      let takes : s'.view.takes ≡ s.view.takes = sym c'.takes ∙ h.0 ∙ c.takes in
      let deaths : s'.view.deaths ≡ s.view.deaths = sym c'.deaths ∙ h.1 ∙ c.deaths in
      let stopped : s'.view.stopped ≡ (n, by) ∷ s.view.stopped = sym c'.stopped ∙ h.2 ∙ ap (λ (l : List (ℕ × ℕ)). (n, by) ∷ l) c.stopped in
      let longer : length s'.view.stopped ≡ suc (length s.view.stopped) = ap (λ (l : List (ℕ × ℕ)). length l) stopped in
      let once : ends s'.view ≡ ends s.view + 1 = omega arith in
      let o = r (Interrupted by) once h.3 in
      at_its_lock (Interrupted by) once h.3
      (⊎_elim (λ t. absurd (omega (arith, ap (λ (l : List (ℕ × ℕ)). length l) t.stopped)))
      (⊎_elim (λ t. absurd (let same = t.deaths in omega arith)) (λ t. ap first_at (sym stopped ∙ t.stopped))) o.how)
      (λ t. absurd (let same = t.deaths in omega arith))
  wants_it Again h = wants_none_else Again h.0 h.1
  wants_it Awaits h = wants_none_else Awaits h.0 h.1
  wants_it Sleeps h = wants_none_else Sleeps h.0 h.1
  wants_it Busy h = wants_none_else Busy h.0 h.1
  wants_it Invalid h = wants_none_else Invalid h.0 h.1
  wants_it Already h = wants_none_else Already h.0 h.1
  wants_it NoSpace h = wants_none_else NoSpace h.0 h.1

pub lock_calls_want_their_lock : LockCallsWantTheirLock
lock_calls_want_their_lock key call n s s' a xs is h = λ desk desk' plays.
    wants_it n s s' xs desk desk' plays a (call_ends call n a s s' is h)
