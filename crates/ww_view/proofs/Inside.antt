-- What a seat inside a guard knows after its own event, and what any seat knows of what it found.
use Rattle.std.proofs.Common.{rules, length, ◌≡◌, ◌≢◌, ⊎_elim, ℕ, suc, ◌<◌, Bool, List, ◌∷◌, Some, refl, sym, ap, ◌∙◌, subst, arith, true≢false}
use mathlib.Core.Logic.{dite}
use native.Mathlib.Decide.{dec_le}
use Rattle.ww_word.specs.declared.owner.Owner.{Owner}
use Rattle.ww_word.specs.Owner.{with_waiters}
use Rattle.ww_queue.specs.declared.kind.Kind.TheVariants.{WaitDie}
use Rattle.ww_queue.specs.declared.entry.Entry.{Entry}
use Rattle.ww_queue.specs.Queue.{Has, Stands, joined, left}
use Rattle.ww_queue.specs.Rules.{owed_signs}
use Rattle.ww_queue.proofs.Joins.{joined_new}
use Rattle.ww_queue.proofs.Leaves.{left_gone}
use Rattle.ww_queue.proofs.Signs.{signed_why}
use Rattle.ww_model.specs.declared.state.Holder.TheVariants.{Taken}
use Rattle.ww_model.specs.declared.event.Event.TheVariants.{Clear, Join, Sign, Take, Ask, Give, Die, Heed, Leave}
use Rattle.ww_model.specs.State.{State, put, any_below, is_taken_by, waiter_of, owner_as, owes, place_of, word_of}
use Rattle.ww_model.specs.Event.{Possible, after, given_to}
use Rattle.ww_model.specs.Lawful.{IsLawful}
use Rattle.ww_model.proofs.Puts.{put_here, put_cases}
use Rattle.ww_model.proofs.Holders.{not_given}
use Rattle.ww_model.proofs.Outcomes.{same_test, taken_true, true_taken}
use Rattle.ww_model.proofs.Slots.{below_found, found_below}
use Rattle.ww_model.proofs.Dues.{by_kind, wound_from, sign_for, sign_owed, sign_some}
use Rattle.ww_view.specs.declared.view.View.{View}
use Rattle.ww_view.specs.Word.{taken_word, asked_word, given_word, rest_word}
use Rattle.ww_view.specs.View.{owns, KnowsQueues, Knows, IsQuiet}
use Rattle.ww_view.specs.Made.{entry_of_view, queued, taken, has_asked, given, died, has_heeded, interrupted, has_looked, noted, has_condemned, has_read, found_none, found_uncancelled, cleared, fast_missed, fast_kept, glanced, has_seen_word, found_pending, shut_out, stepped}
use Rattle.ww_view.proofs.Written.{word_join, word_take, word_ask, word_give, word_die, word_leave}
use Rattle.ww_view.proofs.Mine.{taken_from, gets, gives, bare_still}

-- a changed function, at a number that is the changed one
put_at : {A : Type 0} (f : ℕ → A) (n : ℕ) (x : A) (m : ℕ) → m ≡ n → put f n x m ≡ x
put_at f n x m same = ap (put f n x) same ∙ put_here f n x

module _ (c : State) (v : View) (l : IsLawful c) (k : Knows c v) where
  -- the seat is inside of one lock, whose word it knows to be x
  seen_is : (d : State) (n : ℕ) (x : Owner) → v.inside ≡ suc n → x ≡ word_of d n →
      (m : ℕ) (o : Owner) → v.inside ≡ suc m → Some x ≡ Some o → o ≡ word_of d m
  seen_is d n x at is m o here saw =
      let same : n ≡ m = omega arith in let told : o ≡ x = cc in told ∙ is ∙ ap (word_of d) same

  -- its list there is q
  list_is : (n : ℕ) (q : List Entry) → v.inside ≡ suc n → (m : ℕ) → v.inside ≡ suc m → put c.queue n q m ≡ q
  list_is n q at m here = put_at c.queue n q m (omega arith)

  -- the seat as a waiter, by its view
  view_entry : entry_of_view v ≡ waiter_of c v.who
  view_entry = λ i. let e : Entry = record { seat = v.who; stamp = k.itself.stamp i; holds = same_holds i } in e
    where
      lock_of : (n : ℕ) → c.owner n ≡ Taken v.who → n < c.locks
      lock_of n own = dite (dec_le c.locks n)
          (λ beyond. absurd (let o = l.base.owners.beyond n beyond in cc)) (λ below. omega arith)

      same_holds : any_below (length v.owned) (owns v) ≡ any_below c.locks (λ n. is_taken_by v.who (c.owner n))
      same_holds = same_test (any_below (length v.owned) (owns v)) (any_below c.locks (λ n. is_taken_by v.who (c.owner n)))
          (λ some. let f = below_found (length v.owned) (owns v) some in let own = k.owned.has f.0 f.2 in
          found_below c.locks (λ n. is_taken_by v.who (c.owner n)) f.0 (lock_of f.0 own)
          (true_taken v.who (c.owner f.0) own))
          (λ some. let f = below_found c.locks (λ n. is_taken_by v.who (c.owner n)) some in
          let low : f.0 < length v.owned = (let z = f.1 in let r = k.owned.room in omega arith) in
          found_below (length v.owned) (owns v) f.0 low (k.owned.lacks f.0 (taken_true v.who (c.owner f.0) f.2)))

  -- the seat joins that list, and then stands in it
  stands : (n : ℕ) → v.inside ≡ suc n → v.waits ≡ 0 →
      KnowsQueues (put c.queue n (joined (c.queue n) (waiter_of c v.who))) v.who v.inside
      (joined v.list (entry_of_view v)) (suc n)
  stands n at none = let x = waiter_of c v.who in let q = joined (c.queue n) x in record {
    list = λ m is. (λ i. joined (k.queues.list n at i) (view_entry i)) ∙ sym (list_is n q at m is);
    waits = λ m. put_cases c.queue n q m (λ y. Stands y v.who → suc n ≡ suc m) (λ is _. ap suc (sym is))
        (λ _ h. absurd (let z = k.queues.waits m h in omega arith));
    waited = λ m is. subst (λ y. Stands y v.who) (sym (put_at c.queue n q m (omega arith)))
        (x, joined_new (c.queue n) x, refl);
  }

  pub mine_join : (n : ℕ) (o : Owner) → v.inside ≡ suc n → v.waits ≡ 0 → o ≡ word_of c n → Possible c (Join v.who n) →
      Knows (after c (Join v.who n)) (queued v n o)
  mine_join n o at none found can = let word = ap with_waiters found ∙ sym (word_join c v.who n l.base) in
      search (rules, stands n at none, seen_is (after c (Join v.who n)) n (with_waiters o) at word)

  -- the seat leaves the list of the lock that it is inside of, and then stands in none
  gone : (n : ℕ) → v.inside ≡ suc n →
      KnowsQueues (put c.queue n (left (c.queue n) v.who)) v.who v.inside (left v.list v.who) 0
  gone n at = let q = left (c.queue n) v.who in record {
    list = λ m is. ap (λ (x : List Entry). left x v.who) (k.queues.list n at) ∙ sym (list_is n q at m is);
    waits = λ m. put_cases c.queue n q m (λ y. Stands y v.who → 0 ≡ suc m)
        (λ _ h. absurd (left_gone (c.queue n) v.who (l.base.queues.at n).once h.0 h.1 h.2))
        (λ isnt h. absurd (isnt (l.base.guards.own_guard m n h.0 h.1 ((k.guard.guards n at).1 ∙ ap suc (sym h.2)))));
    waited = λ m is. absurd (omega arith);
  }

  pub mine_take : (n : ℕ) → v.inside ≡ suc n → Possible c (Take v.who n) → Knows (after c (Take v.who n)) (taken v n)
  mine_take n at can = let o = taken_word v.who v.stamp (left v.list v.who) in let d = after c (Take v.who n) in
      let back = sym (word_take c v.who n) in let has = gets c v l k n can.base.inside.lock in
      let word = (λ i. taken_word v.who (k.itself.stamp i) (left (k.queues.list n at i) v.who)) ∙ back in
      search (rules, has, gone n at, taken_from v.kind v.sign, seen_is d n o at word)

  pub mine_ask : (n : ℕ) (o : Owner) → v.inside ≡ suc n → o ≡ word_of c n → Possible c (Ask v.who n) →
      Knows (after c (Ask v.who n)) (has_asked v o)
  mine_ask n o at found can = let word = ap asked_word found ∙ sym (word_ask c v.who n can.base) in
      search (rules, seen_is (after c (Ask v.who n)) n (asked_word o) at word)

  -- b: whether the word had HANDOFF
  pub mine_give : (n : ℕ) (b : Bool) → v.inside ≡ suc n → b ≡ c.asked n → Possible c (Give v.who n) →
      Knows (after c (Give v.who n)) (given v n b)
  mine_give n b at found can = let lock = can.base.inside.lock in let d = after c (Give v.who n) in
      let back = gives c v l k n (given_to (c.asked n) (c.queue n)) lock (not_given (c.asked n) (c.queue n) v.who) in
      let word = (λ i. given_word (found i) (k.queues.list n at i)) ∙ sym (word_give c v.who n l.base) in
      search (rules, back, bare_still c v l k n lock, seen_is d n (given_word b v.list) at word)

  pub mine_die : (n : ℕ) (o : Owner) → v.inside ≡ suc n → o ≡ word_of c n → Possible c (Die v.who n) →
      Knows (after c (Die v.who n)) (died v o)
  mine_die n o at found can =
      let back = sym (word_die c v.who n l.base can.base) in
      let word = (λ i. rest_word (left (k.queues.list n at i) v.who) (found i)) ∙ back in
      search (rules, gone n at, seen_is (after c (Die v.who n)) n (rest_word (left v.list v.who) o) at word)

  pub mine_heed : (n : ℕ) → Possible c (Heed v.who n) → Knows (after c (Heed v.who n)) (has_heeded v (c.cancel v.who))
  mine_heed n can = let mark = sym (put_here c.heeded v.who (c.cancel v.who)) in search (rules, mark)

  pub mine_leave : (n : ℕ) (o : Owner) → v.inside ≡ suc n → o ≡ word_of c n → Possible c (Leave v.who n) →
      Knows (after c (Leave v.who n)) (interrupted v o)
  mine_leave n o at found can =
      let back = sym (word_leave c v.who n l.base can.base) in
      let word = (λ i. rest_word (left (k.queues.list n at i) v.who) (found i)) ∙ back in
      let mark = sym (put_here c.heeded v.who 0) in
      search (rules, gone n at, seen_is (after c (Leave v.who n)) n (rest_word (left v.list v.who) o) at word, mark)

  -- ---- signs

  -- in Wait-Die nobody owes itself a sign
  not_itself : (n j : ℕ) → c.kind ≡ WaitDie → Has (owes c v.who n) (v.who, j) → ⊥
  not_itself n j dying h = let o = owner_as c (c.owner n) in
      (signed_why o (c.queue n) v.who v.who j
      (subst (λ x. Has (owed_signs x o (c.queue n) v.who) (v.who, j)) dying h)).0 refl

  -- the seat signs itself in Wound-Wait alone, as the owner
  own_unknown : Possible c (Sign v.who v.who) → v.sign ≡ Some 0 → ⊥
  own_unknown can is = let n = place_of c v.who in let owed = sign_owed c v.who v.who can.signs.owed in by_kind c.kind ⊥
      (λ wounding. let w = wound_from c v.who n v.who (sign_for c v.who v.who) wounding owed in
      ⊎_elim (λ bare. true≢false (sym (k.owned.lacks n w.0) ∙ bare n))
      (λ x. let y = x.0 in let z = k.itself.kind in absurd (cc)) (k.quiet is))
      (λ dying. not_itself n (sign_for c v.who v.who) dying owed)

  pub mine_sign : (u : ℕ) → Possible c (Sign v.who u) → Knows (after c (Sign v.who u)) (has_condemned v u)
  mine_sign u can = let j = sign_for c v.who u in
      let signs : (m t i : ℕ) → v.inside ≡ suc m → Has (u ∷ v.signed) t → Has (owes c v.who m) (t, i) →
      put c.sign u j t ≢ 0 = λ m t i is mark h.
      put_cases c.sign u j t (λ x. x ≢ 0) (λ _ z. let p = sign_some c v.who u l.base can.signs.owed in omega arith)
      (λ isnt. ⊎_elim (λ same. absurd (isnt same)) (λ mark'. k.signed m t i is mark' h) mark) in
      let own : (i : ℕ) → v.sign ≡ Some i → put c.sign u j v.who ≡ i = λ i is. put_cases c.sign u j v.who (λ x. x ≡ i)
      (λ same. absurd (own_unknown (subst (λ x. Possible c (Sign v.who x)) (sym same) can)
      (is ∙ ap Some (let a = k.sign i is in let b = can.signs.unsigned in let d = ap c.sign same in
      let z : i ≡ 0 = omega arith in z))))
      (λ _. k.sign i is) in assumption (signs, own)

  pub mine_clear : Possible c (Clear v.who) → IsQuiet v → Knows (after c (Clear v.who)) (cleared v)
  mine_clear can quiet = record {
    itself = k.itself;
    owned = k.owned;
    guard = k.guard;
    queues = k.queues;
    seen = k.seen;
    signed = λ m t i is mark h. put_cases c.sign v.who 0 t (λ x. x ≢ 0)
        (λ same. absurd (⊎_elim (λ a. a.0.inside m (k.guard.guards m is).1)
        (λ a. not_itself m i a.1.kind (subst (λ x. Has (owes c v.who m) (x, i)) same h)) can.signs))
        (λ _. k.signed m t i is mark h);
    sign = λ i is. put_here c.sign v.who 0 ∙ (let z : 0 ≡ i = cc in z);
    quiet = λ _. quiet;
    heeded = k.heeded;
  }

-- ---- what is no event

module _ (c : State) (v : View) (k : Knows c v) where
  pub mine_look : (n : ℕ) (o : Owner) → v.inside ≡ suc n → o ≡ word_of c n → Knows c (has_looked v o)
  mine_look n o at found = search rules

  -- the sign of that seat was not 0
  pub mine_lost_sign : (u : ℕ) → c.sign u ≢ 0 → Knows c (noted v u)
  mine_lost_sign u found = search rules

  pub mine_read : (j : ℕ) → c.sign v.who ≡ j → (j ≡ 0 → IsQuiet v) → Knows c (has_read v j)
  mine_read j found quiet = search rules

  pub mine_read_none : Knows c (found_none v)
  mine_read_none = search rules

  pub mine_uncancelled : Knows c (found_uncancelled v)
  mine_uncancelled = assumption

  pub mine_missed : Knows c (fast_missed v)
  mine_missed = assumption

  pub mine_kept : Knows c (fast_kept v)
  mine_kept = assumption

  pub mine_glanced : Knows c (glanced v)
  mine_glanced = assumption

  pub mine_seen_word : (n word : ℕ) → Knows c (has_seen_word v n word)
  mine_seen_word n word = assumption

  pub mine_found_pending : Knows c (found_pending v)
  mine_found_pending = assumption

  pub mine_shut_out : Knows c (shut_out v)
  mine_shut_out = assumption

  pub mine_stepped : Knows c (stepped v)
  mine_stepped = assumption
