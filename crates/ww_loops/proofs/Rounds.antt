-- Each loop ends in Wait-Die: its rounds are over in the end, so its context is, and a context that is over is in no loop.
use Rattle.std.proofs.Common.{◌≡◌, ◌≢◌, ◌⊎◌, ⊎_elim, inl, inr, ℕ, zero, suc, ◌+◌, ◌<◌, ◌≤◌, ◌==◌, ◌||◌, ◌++◌, ◌∷◌, [], Bool, true, false, true≢false, List, length, Option, Some, None, if◌then◌else◌, refl, sym, ap, ◌∙◌, subst, arith}
use Rattle.std.proofs.lemmas.Bool.{cases_Bool, cases_lt}
use Rattle.ww_plain.specs.Numbers.{is_among}
use Rattle.ww_plain.proofs.Members.{is_among-head, is_among-append}
use Rattle.ww_queue.specs.declared.kind.Kind.TheVariants.{WaitDie}
use Rattle.ww_queue.specs.Queue.{Stands}
use Rattle.ww_model.specs.declared.event.Event.TheVariants.{Die, End}
use Rattle.ww_model.specs.declared.state.Holder.TheVariants.{Taken}
use Rattle.ww_model.specs.State.{State}
use Rattle.ww_view.specs.declared.view.View.{View}
use Rattle.ww_view.specs.View.{owns}
use Rattle.ww_invariant.specs.declared.cells.Start.{Start}
use Rattle.ww_laws.specs.Scene.{Scene, Step, performs, May}
use Rattle.ww_laws.specs.Premises.{InTheEnd, WaitsForEver, RestsOn, HoldersRelease, ContextsEndOrDie, IsOver}
use Rattle.ww_laws.proofs.Endless.{FoundAt, unless, holds_at}
use Rattle.ww_laws.proofs.Ending.{ends_or_not, same_on}
use Rattle.ww_laws.proofs.Runs.{lawful_at}
use Rattle.ww_laws.proofs.Served.{same_context, drawn_on}
use Rattle.ww_laws.proofs.Steps.{taken_or_not}
use Rattle.ww_refines.specs.Moment.{core, view}
use Rattle.ww_refines.specs.Endless.{RunsAlong}
use Rattle.ww_refines.proofs.Following.{knows_there, who_there}
use Rattle.ww_steps.specs.declared.turn.Answer.{Answer}
use Rattle.ww_steps.specs.declared.turn.Answer.TheVariants.{Done, Already, Deadlk}
use Rattle.ww_steps.specs.Situations.{Situation}
use Rattle.ww_callers.specs.Stages.{Stage}
use Rattle.ww_callers.specs.Deeds.{Call, begin, end, HasDone, Deed, steps, answers}
use Rattle.ww_callers.specs.Drives.{thread_move}
use Rattle.ww_loops.specs.Contexts.{as_scenes, steps_by, AllAreServed}
use Rattle.ww_loops.specs.Loops.{lock_for, AnswersAt, LoopState, outside, ease, owes, told, first, is_owed, phase_after, MayCall, Goes, HoldsJust, FitsLoop, LoopsBy, IsRoundOver, LoopsNoMore, RoundsGoOn, ProgramGoesOn, LoopEnds, AreLoops, LoopsEnd}
use Rattle.ww_callers.proofs.Runs.{accounted_on}
use Rattle.ww_loops.proofs.Ending.{along, contexts_are_over_in_drives}
use Rattle.ww_loops.proofs.Desks.{desk_stays, idle_then, is_current, taken_by, owned_by}
use Rattle.ww_loops.proofs.Looping.{HeldThen, held_then, look_held, answer_or_not, does_at, from, loop, fits, holds, in_call, phase_until, answer_of, wants_may, dies_told, backs_off_by, deed_of, loops_do_back_off}

-- ---- what a phase is

pub outside_or_not : (ph : LoopState) → (ph ≡ outside) ⊎ (ph ≢ outside)
outside_or_not outside = inl refl
outside_or_not ease = inr (λ is. cc)
outside_or_not (owes m) = inr (λ is. cc)
outside_or_not (told m) = inr (λ is. cc)
outside_or_not (first m) = inr (λ is. cc)

told_or_not : (ph : LoopState) → ((m : ℕ) × (ph ≡ told m)) ⊎ ((m : ℕ) → ph ≢ told m)
told_or_not (told m) = inl (m, refl)
told_or_not outside = inr (λ m is. cc)
told_or_not ease = inr (λ m is. cc)
told_or_not (owes n) = inr (λ m is. cc)
told_or_not (first n) = inr (λ m is. cc)

-- whoever has asked for something is in a round
record IsInRound (s : Situation) (ph : LoopState) (has : List ℕ) : Type 0 where
  holds : HoldsJust s ph has
  runs : ph ≢ outside
  untold : (m : ℕ) → ph ≢ told m

in_round : (s : Situation) (ph : LoopState) (has : List ℕ) → FitsLoop s ph has → 0 < length has → IsInRound s ph has
in_round s outside has f some = absurd (let none = ap (λ (l : List ℕ). length l) f in omega arith)
in_round s ease has f some = record { holds = f; runs = λ is. cc; untold = λ m is. cc }
in_round s (owes n) has f some = record { holds = f; runs = λ is. cc; untold = λ m is. cc }
in_round s (told n) has f some = absurd (let none = ap (λ (l : List ℕ). length l) f in omega arith)
in_round s (first n) has f some = absurd (let none = ap (λ (l : List ℕ). length l) f.0 in omega arith)

some_among : (l : List ℕ) → 0 < length l → (n : ℕ) × (is_among n l ≡ true)
some_among [] some = absurd (omega arith)
some_among (n ∷ l) some = (n, is_among-head n l)

-- only `begin` begins a loop
begins_only : (call : Call) (want : Option ℕ) (a : Answer) → MayCall outside call want → phase_after outside call want a ≢ outside →
    (call ≡ begin) × (a ≡ Done)
begins_only call (Some n) a may isnt = absurd may
begins_only begin None Done may isnt = (refl, refl)
begins_only _ None _ may isnt = absurd (isnt refl)

-- no loop ends its context
ends_none : (ph : LoopState) → MayCall ph end None → ph ≡ outside
ends_none outside may = refl
ends_none ease may = absurd (true≢false (sym may))
ends_none (owes m) may = absurd (true≢false (sym may))
ends_none (told m) may = absurd (may refl)
ends_none (first m) may = absurd (true≢false (sym may))

-- a call for a lock releases none
still_held : (n m : ℕ) (a : Answer) (s s' : Situation) → HeldThen m a s s' → is_among n s.held ≡ true → is_among n s'.held ≡ true
still_held n m Done s s' h is = ap (is_among n) h ∙ is_among-append n s.held (m ∷ []) ∙ ap (λ b. b || is_among n (m ∷ [])) is
still_held n m Already s s' h is = ap (is_among n) h.0 ∙ is
still_held n m _ s s' h is = ap (is_among n) h ∙ is

-- and no call of a round does
keeps_held : (ph : LoopState) (call : Call) (a : Answer) (s s' : Situation) (want : Option ℕ) → lock_for call s.turn ≡ want →
    MayCall ph call want → ph ≢ outside → ((m : ℕ) → ph ≢ told m) → HasDone call s a s' → (n : ℕ) →
    is_among n s.held ≡ true → is_among n s'.held ≡ true
keeps_held ph call a s s' (Some k) is may runs = λ untold h n among. still_held n k a s s' (held_then call k a s s' is h) among
keeps_held outside call a s s' None is may runs = λ untold h n among. absurd (runs refl)
keeps_held ease call a s s' None is may runs = λ untold h n among. ap (is_among n) (look_held call a s s' may h) ∙ among
keeps_held (owes m) call a s s' None is may runs = λ untold h n among. ap (is_among n) (look_held call a s s' may h) ∙ among
keeps_held (told m) call a s s' None is may runs = λ untold h n among. absurd (untold m refl)
keeps_held (first m) call a s s' None is may runs = λ untold h n among. ap (is_among n) (look_held call a s s' may h) ∙ among

-- a loop that ends holds just what its last round asked for, and what it owes
ends_holding : (s : Situation) (ph : LoopState) (has : List ℕ) (ph' : LoopState) (has' : List ℕ) → Goes s ph has ph' has' → ph' ≡ outside →
    FitsLoop s ph has → HoldsJust s ph has
ends_holding s outside has ph' has' g is f = absurd (let to = sym g.2 ∙ is in cc)
ends_holding s ease has ph' has' g is f = f
ends_holding s (owes m) has ph' has' g is f = f
ends_holding s (told m) has ph' has' g is f = absurd (let to = sym g.1 ∙ is in cc)
ends_holding s (first m) has ph' has' g is f = absurd g

goes_out : (s : Situation) (ph : LoopState) (had : List ℕ) (ph' : LoopState) (had' : List ℕ) → ph ≡ outside → Goes s ph had ph' had' → s.stamp ≢ 0
goes_out s ph had ph' had' is g = some (subst (λ p. Goes s p had ph' had') is g)
  where
    some : (s.held ≡ []) × (s.stamp ≢ 0) × (ph' ≡ ease) × (had' ≡ []) → s.stamp ≢ 0
    some all = all.1

never_outside : (ph : LoopState) (call : Call) (want : Option ℕ) (a : Answer) → MayCall ph call want → ph ≢ outside →
    phase_after ph call want a ≢ outside
never_outside outside call want a may runs is = runs refl
never_outside ease call None a may runs is = cc
never_outside ease call (Some n) (Deadlk k) may runs is = cc
never_outside ease call (Some n) _ may runs is = cc
never_outside (owes m) call None a may runs is = cc
never_outside (owes m) call (Some n) (Deadlk k) may runs is = cc
never_outside (owes m) call (Some n) Already may runs is = either (m == n) is
  where
    either : (b : Bool) → (if b then ease else owes m) ≢ outside
    either true is = cc
    either false is = cc
never_outside (owes m) call (Some n) _ may runs is = cc
never_outside (told m) call None a may runs is = cc
never_outside (told m) call (Some n) a may runs is = may
never_outside (first m) call None a may runs is = cc
never_outside (first m) call (Some n) Done may runs is = cc
never_outside (first m) call (Some n) (Deadlk k) may runs is = cc
never_outside (first m) call (Some n) _ may runs is = cc

later_then : {P : ℕ → Type 0} (i j : ℕ) → i ≤ j → InTheEnd j P → InTheEnd i P
later_then i j more e = let x = e.1 in (e.0, omega arith, e.2)

-- ---- along a drive

module _ {key : Start} (stage : ℕ → Stage key) (deed : ℕ → Deed) (phase : ℕ → ℕ → LoopState) (asked : ℕ → ℕ → List ℕ)
    (h : AreLoops stage deed phase asked) where
  abbrev pub stamp_at : ℕ → ℕ → ℕ
  stamp_at k d = (core (stage k).moment).stamp d

  abbrev pub run : RunsAlong (λ j. (stage j).moment) (λ j. thread_move (deed j))
  run = along stage deed (accounted_on stage deed h.endless)

  -- a context stays until its desk ends it
  stamp_stays : (k d : ℕ) → 0 < stamp_at k d → steps_by key deed k ≢ performs (End d) → stamp_at (suc k) d ≡ stamp_at k d
  stamp_stays k d some isnt = let a = run in
      sym (ap (λ (c : State). c.stamp d) (a.shown (suc k)).core)
      ∙ same_on a.scene (steps_by key deed) a.run d k (suc k) (omega arith)
      (subst (λ (c : State). 0 < c.stamp d) (sym (a.shown k).core) some)
      (λ x low below. let is : k ≡ x = omega arith in subst (λ y. steps_by key deed y ≢ performs (End d)) is isnt)
      ∙ ap (λ (c : State). c.stamp d) (a.shown k).core

  -- ... and doesn't come again
  pub same_between : (i x k d : ℕ) → i ≤ x → x ≤ k → 0 < stamp_at i d → stamp_at k d ≡ stamp_at i d → stamp_at x d ≡ stamp_at i d
  same_between i x k d early late some same = let a = run in let st = steps_by key deed in
      let here : (y : ℕ) → (a.scene y).core.stamp d ≡ stamp_at y d = λ y. ap (λ (c : State). c.stamp d) (a.shown y).core in
      let drawn = (lawful_at a.scene st a.run i).base.stamps.below d in
      let at_i = here i in let at_k = here k in
      sym (here x) ∙ same_context a.scene st a.run x k d ((a.scene i).core.stamp d) late
      (drawn_on a.scene st a.run i x ((a.scene i).core.stamp d) early drawn) (omega arith) (omega arith) ∙ at_k ∙ same

  -- whoever dies waits
  dies_waiting : (k d m : ℕ) → steps_by key deed k ≡ performs (Die d m) → Stands ((core (stage k).moment).queue m) d
  dies_waiting k d m is = let a = run in let may = subst (May (a.scene k)) is (a.run.may k) in
      subst (λ (c : State). Stands (c.queue m) d) (a.shown k).core may.possible.base.waits

  module _ (d : ℕ) (low : d < key.seats) (g : RoundsGoOn stage deed phase asked d) where
    abbrev pub Over : ℕ → Type 0
    Over = IsRoundOver stage deed phase asked d

    -- ---- rounds are over

    asks_until : (left i : ℕ) → phase i d ≢ outside → ((m : ℕ) → phase i d ≢ told m) → g.most ≤ length (asked i d) + left →
        InTheEnd i Over
    asks_until zero i runs untold room = let e = g.asks i runs untold in ⊎_elim
        (λ longer. absurd (let few = g.finite e.0 in omega arith)) (λ over. (e.0, e.1, over)) e.2
    asks_until (suc left) i runs untold room = let e = g.asks i runs untold in ⊎_elim
        (λ longer. let r = in_round ((stage e.0).desk d) (phase e.0 d) (asked e.0 d)
        (fits stage deed phase asked h d low e.0) (omega arith) in
        later_then i e.0 e.1 (asks_until left e.0 r.runs r.untold (omega arith)))
        (λ over. (e.0, e.1, over)) e.2

    pub round_over : (i : ℕ) → phase i d ≢ outside → InTheEnd i Over
    round_over i runs = ⊎_elim
        (λ t. let e = g.backs_off i t.0 t.1 in later_then i e.0 e.1 (asks_until g.most e.0
        (λ is. let z = sym e.2 ∙ is in cc) (λ m is. let z = sym e.2 ∙ is in cc) (omega arith)))
        (λ untold. asks_until g.most i runs untold (omega arith))
        (told_or_not (phase i d))

    -- who died has released all in the end
    released : (i m : ℕ) → deed i ≡ steps d (Some (performs (Die d m))) →
        InTheEnd i (λ j. (n : ℕ) → (core (stage j).moment).owner n ≢ Taken d)
    released i m dies = let t = dies_told stage deed phase asked h d low i m dies in let after = t.3.later in
        let e = g.backs_off (suc t.0) m t.4 in let more = e.1 in ⊎_elim
        (λ f. let x = f.from in (f.at, omega arith, f.holds))
        (λ still. absurd (let z = sym still ∙ e.2 in cc))
        (backs_off_by stage deed phase asked h d low m (suc t.0) e.0 more t.4)

    -- ---- so holders release, and contexts end or die

    releases : (i n : ℕ) → (core (stage i).moment).owner n ≡ Taken d →
        InTheEnd i (λ j. ((core (stage j).moment).owner n ≢ Taken d) ⊎ WaitsForEver (as_scenes stage) (steps_by key deed) d j)
    releases i n own = ⊎_elim
        (λ out. let e = g.releases i n out own in (e.0, e.1, inl e.2))
        (λ runs. let e = round_over i runs in ⊎_elim
        (λ out. ⊎_elim (λ still. let r = g.releases e.0 n out still in later_then i e.0 e.1 (r.0, r.1, inl r.2))
        (λ isnt. (e.0, e.1, inl isnt)) (taken_or_not ((core (stage e.0).moment).owner n) d))
        (⊎_elim (λ dies. let r = released e.0 dies.0 dies.1 in later_then i e.0 e.1 (r.0, r.1, inl (r.2 n)))
        (λ waits. (e.0, e.1, inr waits))) e.2)
        (outside_or_not (phase i d))

    -- its context ends, or goes on
    goes_till : (i j : ℕ) → i ≤ j → 0 < stamp_at i d →
        FoundAt (λ k. steps_by key deed k ≡ performs (End d)) i j ⊎ (stamp_at j d ≡ stamp_at i d)
    goes_till i j later some = unless (λ k. steps_by key deed k ≡ performs (End d)) (λ k. stamp_at k d ≡ stamp_at i d) i j later refl
        (λ k _ _ same. ⊎_elim inl (λ isnt. inr (stamp_stays k d (omega arith) isnt ∙ same)) (ends_or_not d (steps_by key deed k)))

    abbrev IsLast : ℕ → ℕ → Type 0
    IsLast i j = (k : ℕ) → j ≤ k → stamp_at k d ≡ stamp_at i d → phase k d ≡ outside → phase (suc k) d ≡ outside

    loops_no_more : (i j x : ℕ) → i ≤ j → j ≤ x → 0 < stamp_at i d → IsLast i j → stamp_at x d ≡ stamp_at i d → phase x d ≡ outside →
        LoopsNoMore stage deed phase asked d x
    loops_no_more i j x early late some last same out = λ k later alike. holds_at (λ y. phase y d ≡ outside) x k later out
        (λ y low below still. last y (omega arith)
        (same_between i y k d (omega arith) (omega arith) some (alike ∙ same)) still)

    abbrev Ends : ℕ → Type 0
    Ends j = IsOver (as_scenes stage) (steps_by key deed) d j
        ⊎ (WaitsForEver (as_scenes stage) (steps_by key deed) d j ⊎ ((m : ℕ) × (steps_by key deed j ≡ performs (Die d m))))

    -- ... if it begins no further loop
    ends_after : ProgramGoesOn stage deed phase asked d → (x : ℕ) → 0 < stamp_at x d → LoopsNoMore stage deed phase asked d x →
        InTheEnd x Ends
    ends_after p x some no_more = let e = p.ends x some no_more in (e.0, e.1, inl e.2)

    ends : ProgramGoesOn stage deed phase asked d → (i : ℕ) → 0 < stamp_at i d → InTheEnd i Ends
    ends p i some = let f = p.few_loops i some in let j = f.0 in ⊎_elim
        (λ over. (over.at, over.from, inl (inl over.holds)))
        (λ same. ⊎_elim
        (λ out. later_then i j f.1
        (ends_after p j (omega arith) (loops_no_more i j j f.1 (omega arith) some f.2 same out)))
        (λ runs. let e = round_over j runs in ⊎_elim
        (λ out. ⊎_elim
        (λ over. let x = over.from in let y = f.1 in (over.at, omega arith, inl (inl over.holds)))
        (λ still. let w = still ∙ same in let y = f.1 in let z = e.1 in later_then i e.0 (omega arith)
        (ends_after p e.0 (omega arith) (loops_no_more i j e.0 f.1 e.1 some f.2 w out)))
        (goes_till j e.0 e.1 (omega arith)))
        (⊎_elim (λ dies. later_then i j f.1 (e.0, e.1, inr (inr (dies.0, ap (λ x. steps_by key (λ _. x) 0) dies.1))))
        (λ waits. later_then i j f.1 (e.0, e.1, inr (inl waits)))) e.2)
        (outside_or_not (phase j d)))
        (goes_till i j f.1 some)

    -- ---- in a loop a context doesn't end

    no_end : (k : ℕ) → phase k d ≢ outside → steps_by key deed k ≢ performs (End d)
    no_end k runs is = let at = deed_of stage deed phase asked h k (End d) is in
        let e = answer_of stage deed phase asked h d low k (Some (performs (End d))) at in
        let m = (loop stage deed phase asked h d low).when_answers e.0 e.1 e.2 e.3.answer in
        let ends = (h.keeps d low).end_ends k e.0 e.1 e.2 at e.3 in
        runs (sym (phase_until stage deed phase asked h d low k e.0 e.1 e.2 e.3)
        ∙ ends_none (phase e.0 d) (subst (λ c. MayCall (phase e.0 d) c (lock_for c ((stage e.0).desk d).turn)) ends m.may))

    -- between two calls its desk says whether it has a context
    stamp_known : (k : ℕ) → (stage k).calling d ≡ false → ((stage k).desk d).stamp ≡ stamp_at k d
    stamp_known k idle = (h.know k d low idle).stamp
        ∙ ap (λ (v : View). v.stamp) (is_current (stage k) (from stage deed phase asked h k) d low idle)
        ∙ (knows_there (stage k).moment d low).itself.stamp ∙ ap (core (stage k).moment).stamp (who_there (stage k).moment d low)

    begun_again : (k : ℕ) → (stage k).calling d ≡ false → ((stage k).desk d).stamp ≢ 0 → 0 < stamp_at (suc k) d
    begun_again k idle some = let same = stamp_known k idle in let up : 0 < stamp_at k d = omega arith in
        let stays = stamp_stays k d up (λ is. let at = deed_of stage deed phase asked h k (End d) is in
        true≢false (sym (does_at stage deed phase asked h k (steps d (Some (performs (End d)))) at).calling ∙ idle)) in omega arith

    begun : (k : ℕ) (call : Call) (a : Answer) → deed k ≡ answers d call a → phase k d ≡ outside → phase (suc k) d ≢ outside →
        0 < stamp_at (suc k) d
    begun k call a is out runs = let l = loop stage deed phase asked h d low in let m = l.when_answers k call a is in
        let want = lock_for call ((stage k).desk d).turn in let does = does_at stage deed phase asked h k (answers d call a) is in
        let b = begins_only call want a (subst (λ p. MayCall p call want) out m.may)
        (λ z. runs (m.next ∙ ap (λ p. phase_after p call want a) out ∙ z)) in
        let done = subst (λ c. HasDone c ((stage k).desk d) Done ((stage (suc k)).desk d)) b.0
        (subst (λ c. HasDone call ((stage k).desk d) c ((stage (suc k)).desk d)) b.1 does.done) in
        let same = stamp_known (suc k) (idle_then (stage k) (stage (suc k)) d call a does) in let some = done.4 in omega arith

    context_at : (k : ℕ) → phase k d ≢ outside → 0 < stamp_at k d
    context_at zero runs = (loop stage deed phase asked h d low).context runs
    context_at (suc k) runs = let l = loop stage deed phase asked h d low in ⊎_elim
        (λ out. ⊎_elim (λ e. begun k e.0 e.1 e.2 out runs)
        (λ isnt. ⊎_elim (λ st. absurd (runs (st.next ∙ out)))
        (λ go. begun_again k go.idle
        (goes_out ((stage k).desk d) (phase k d) (asked k d) (phase (suc k) d) (asked (suc k) d) out go.goes))
        (l.otherwise k isnt)) (answer_or_not d (deed k)))
        (λ was. let some = context_at k was in let same = stamp_stays k d some (no_end k was) in omega arith)
        (outside_or_not (phase k d))

    -- ---- how a loop ends

    ends_at : (k : ℕ) → phase k d ≢ outside → phase (suc k) d ≡ outside → LoopEnds stage deed phase asked d k
    ends_at k runs out = let l = loop stage deed phase asked h d low in ⊎_elim
        (λ e. let m = l.when_answers k e.0 e.1 e.2 in
        absurd (never_outside (phase k d) e.0 (lock_for e.0 ((stage k).desk d).turn) e.1 m.may runs (sym m.next ∙ out)))
        (λ isnt. ⊎_elim (λ st. absurd (runs (sym st.next ∙ out)))
        (λ go. record {
          runs = runs;
          ends = out;
          exact = λ n. holds stage deed phase asked h d low k n go.idle
              ∙ ends_holding ((stage k).desk d) (phase k d) (asked k d) (phase (suc k) d) (asked (suc k) d) go.goes out
              (fits stage deed phase asked h d low k) n;
        }) (l.otherwise k isnt))
        (answer_or_not d (deed k))

    -- it ends, or runs on with the same context
    pub runs_on : (j k : ℕ) → j ≤ k → phase j d ≢ outside →
        FoundAt (LoopEnds stage deed phase asked d) j k ⊎ ((phase k d ≢ outside) × (stamp_at k d ≡ stamp_at j d))
    runs_on j k later runs = unless (LoopEnds stage deed phase asked d) (λ x. (phase x d ≢ outside) × (stamp_at x d ≡ stamp_at j d))
        j k later (runs, refl)
        (λ x _ _ q. ⊎_elim (λ out. inl (ends_at x q.0 out))
        (λ on. inr (on, stamp_stays x d (context_at x q.0) (no_end x q.0) ∙ q.1)) (outside_or_not (phase (suc x) d)))

    found : (i j : ℕ) → FoundAt (LoopEnds stage deed phase asked d) i j → InTheEnd i (LoopEnds stage deed phase asked d)
    found i j f = (f.at, f.from, f.holds)

    -- ---- a loop that has asked for something owns something

    owning : (j k : ℕ) → j ≤ k → phase k d ≢ outside → stamp_at k d ≡ stamp_at j d → RestsOn (as_scenes stage) (steps_by key deed) d j →
        0 < length (asked k d) → InTheEnd k (LoopEnds stage deed phase asked d)
    owning j k later runs same rests some =
        let s = (stage k).desk d in let r = in_round s (phase k d) (asked k d) (fits stage deed phase asked h d low k) some in
        let n = some_among (asked k d) some in
        let held : is_among n.0 s.held ≡ true = r.holds n.0 ∙ ap (λ b. b || is_owed (phase k d) n.0) n.1 in
        let rests_not : (x : ℕ) → k ≤ x → (stage x).calling d ≡ false → stamp_at x d ≡ stamp_at k d →
        is_among n.0 ((stage x).desk d).held ≡ true → ⊥ =
        λ x more idle alike has. (rests x (omega arith) (alike ∙ same)).0 n.0
        (taken_by (stage x) (from stage deed phase asked h x) d low n.0 (holds stage deed phase asked h d low x n.0 idle ∙ has)) in
        ⊎_elim
        (λ on. let e = (h.keeps d low).ends k on in let x = e.0 in let call = e.1 in let a = e.2 in
        ⊎_elim (λ at. answered k k call a (omega arith) refl refl at r n.0 held rests_not)
        (λ c. let more = c.later in answered k x call a (omega arith) (same_desk k x call a c) (phase_until stage deed phase asked h d low k x call a c)
        c.answer r n.0 held rests_not)
        e.3)
        (λ idle. absurd (rests_not k (omega arith) idle refl held))
        (cases_Bool ((stage k).calling d))
      where
        same_desk : (k x : ℕ) (call : Call) (a : Answer) → AnswersAt stage deed d k x call a → (stage x).desk d ≡ (stage k).desk d
        same_desk k x call a c = let more = c.later in holds_at (λ y. (stage y).desk d ≡ (stage k).desk d) k x (omega arith) refl
            (λ y low below same. desk_stays (stage y) (stage (suc y)) d (deed y) (h.endless.goes_on y) (c.amid y low (omega arith))
            (λ call a is. true≢false (sym (c.amid (suc y) (omega arith) (omega arith))
            ∙ idle_then (stage y) (stage (suc y)) d call a (does_at stage deed phase asked h y (answers d call a) is))) ∙ same)

        answered : (k x : ℕ) (call : Call) (a : Answer) → k ≤ x → (stage x).desk d ≡ (stage k).desk d → phase x d ≡ phase k d →
            deed x ≡ answers d call a → IsInRound ((stage k).desk d) (phase k d) (asked k d) → (n : ℕ) →
            is_among n ((stage k).desk d).held ≡ true →
            ((y : ℕ) → k ≤ y → (stage y).calling d ≡ false → stamp_at y d ≡ stamp_at k d →
            is_among n ((stage y).desk d).held ≡ true → ⊥) → InTheEnd k (LoopEnds stage deed phase asked d)
        answered k x call a more desk ph at = λ r n held rests_not.
            let does = does_at stage deed phase asked h x (answers d call a) at in let s = (stage x).desk d in
            let s' = (stage (suc x)).desk d in let m = (loop stage deed phase asked h d low).when_answers x call a at in
            let want = lock_for call s.turn in
            let has = keeps_held (phase x d) call a s s' want refl m.may (λ is. r.runs (sym ph ∙ is)) (λ t is. r.untold t (sym ph ∙ is))
            does.done n (ap (λ (y : Situation). is_among n y.held) desk ∙ held) in
            ⊎_elim (λ f. found k (suc x) f)
            (λ on. absurd (rests_not (suc x) (omega arith) (idle_then (stage x) (stage (suc x)) d call a does) on.1 has))
            (runs_on k (suc x) (omega arith) r.runs)

    -- in the end it has asked for something, or its round is over
    asks_some : (j : ℕ) → phase j d ≢ outside → InTheEnd j (λ k. (0 < length (asked k d)) ⊎ Over k)
    asks_some j runs = ⊎_elim
        (λ t. let e = g.backs_off j t.0 t.1 in let f = g.asks e.0 (λ is. let z = sym e.2 ∙ is in cc) (λ m is. let z = sym e.2 ∙ is in cc) in
        later_then j e.0 e.1 (f.0, f.1, ⊎_elim (λ longer. inl (omega arith)) inr f.2))
        (λ untold. let f = g.asks j runs untold in (f.0, f.1, ⊎_elim (λ longer. inl (omega arith)) inr f.2))
        (told_or_not (phase j d))

    -- a context that rests is in no loop for long
    rests_not : (j : ℕ) → phase j d ≢ outside → RestsOn (as_scenes stage) (steps_by key deed) d j →
        InTheEnd j (LoopEnds stage deed phase asked d)
    rests_not j runs rests = let e = asks_some j runs in let k = e.0 in ⊎_elim
        (λ f. found j k f)
        (λ on. let still = rests k e.1 on.1 in ⊎_elim
        (λ some. later_then j k e.1 (owning j k e.1 on.0 on.1 rests some))
        (⊎_elim (λ out. absurd (on.0 out))
        (⊎_elim (λ dies. let w = dies_waiting k d dies.0 (ap (λ x. steps_by key (λ _. x) 0) dies.1) in
        absurd (still.1 dies.0 w.0 w.1 w.2))
        (λ waits. let w = waits.1 k (omega arith) in absurd (still.1 waits.0 w.0 w.1 w.2)))) e.2)
        (runs_on j k e.1 runs)

    ends_when_over : (i j : ℕ) → i ≤ j → phase i d ≢ outside → IsOver (as_scenes stage) (steps_by key deed) d j →
        InTheEnd i (LoopEnds stage deed phase asked d)
    ends_when_over i j later runs over = ⊎_elim (λ f. found i j f)
        (λ on. ⊎_elim (λ ended. absurd (no_end j on.0 ended)) (λ rests. later_then i j later (rests_not j on.0 rests)) over)
        (runs_on i j later runs)

  pub holders_release : ((d : ℕ) → d < key.seats → RoundsGoOn stage deed phase asked d) → HoldersRelease (as_scenes stage) (steps_by key deed)
  holders_release goes i s n own = ⊎_elim (λ low. releases s low (goes s low) i n own)
      (λ far. absurd (((stage i).moment.strangers s far).bare n own)) (cases_lt s key.seats)

  contexts_end : ((d : ℕ) → d < key.seats → ProgramGoesOn stage deed phase asked d) → ContextsEndOrDie (as_scenes stage) (steps_by key deed)
  contexts_end goes i s some = ⊎_elim (λ low. ends s low (goes s low).rounds (goes s low) i some)
      (λ far. absurd (let none = ((stage i).moment.strangers s far).stamp in omega arith)) (cases_lt s key.seats)

pub loops_end : LoopsEnd
loops_end key stage deed phase asked h served goes i = λ d low kind runs.
    let back = loops_do_back_off stage deed phase asked h in
    let rounds : (e : ℕ) → e < key.seats → RoundsGoOn stage deed phase asked e = λ e few. (goes e few).rounds in
    let over = contexts_are_over_in_drives key stage deed (accounted_on stage deed h.endless) served (holders_release stage deed phase asked h rounds)
    (contexts_end stage deed phase asked h goes) back.backs_off back.takes_first i d kind
    (context_at stage deed phase asked h d low (rounds d low) i runs) in
    ends_when_over stage deed phase asked h d low (rounds d low) i over.0 over.1 runs over.2
