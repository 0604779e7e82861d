-- A loop backs off, and takes the contended lock first: from its states, and from what each call wants.
use Rattle.std.proofs.Common.{◌≡◌, ◌≢◌, ◌⊎◌, ⊎_elim, inl, inr, ℕ, zero, suc, ◌<◌, ◌≤◌, ◌==◌, ◌||◌, ◌++◌, ◌∷◌, [], Bool, true, false, true≢false, List, Option, Some, None, IsSome, if◌then◌else◌, refl, sym, ap, ◌∙◌, subst, arith}
use Rattle.std.specs.Prelude.{Result, Ok, Err}
use Rattle.std.proofs.lemmas.Bool.{cases_Bool, cases_lt}
use Rattle.std.proofs.lemmas.Bool.Decides.{nat_tests}
use mathlib.Core.Logic.{dite}
use native.Mathlib.Decide.{ℕ_discrete}
use Rattle.ww_plain.specs.Numbers.{is_among}
use Rattle.ww_plain.proofs.Members.{is_among-append}
use Rattle.ww_model.specs.declared.event.Event.{Event}
use Rattle.ww_model.specs.declared.event.Event.TheVariants.{Fast, Join, Take, Die, End}
use Rattle.ww_model.specs.declared.state.Holder.TheVariants.{Taken}
use Rattle.ww_model.specs.Event.{actor}
use Rattle.ww_model.specs.State.{State, OwnsNone}
use Rattle.ww_model.proofs.Puts.{put_here, put_else}
use Rattle.ww_view.specs.declared.view.View.{View}
use Rattle.ww_view.specs.View.{owns}
use Rattle.ww_invariant.specs.declared.cells.Start.{Start}
use Rattle.ww_laws.specs.Scene.{Scene, Step, performs}
use Rattle.ww_laws.specs.Premises.{Wants}
use Rattle.ww_laws.proofs.Endless.{FoundAt, unless, holds_at}
use Rattle.ww_refines.specs.Moment.{core, view}
use Rattle.ww_refines.specs.Endless.{step_of}
use Rattle.ww_refines.proofs.Unlocking.{performed}
use Rattle.ww_steps.specs.declared.turn.Turn.{Turn}
use Rattle.ww_steps.specs.declared.turn.Turn.TheVariants as at
use Rattle.ww_steps.specs.declared.turn.Answer.{Answer}
use Rattle.ww_steps.specs.declared.turn.Answer.TheVariants.{Done, Again, Awaits, Sleeps, Busy, Invalid, Already, NoSpace, Deadlk, Interrupted}
use Rattle.ww_steps.specs.declared.outlook.Outlook.{Outlook}
use Rattle.ww_steps.specs.declared.outlook.NoOutlook.{NoOutlook}
use Rattle.ww_steps.specs.declared.outlook.NoOutlook.TheVariants.{Inside, NoLock}
use Rattle.ww_steps.specs.Outlooks.{IsOutlookAnswer, IsWoundedAnswer}
use Rattle.ww_steps.specs.Situations.{Situation, is_inside}
use Rattle.ww_steps.specs.Answers.{IsNextAnswer, IsWaitAnswer, IsDoneAnswer, IsHasAnswer, IsFreeAnswer, IsCancelAnswer, IsHeedAnswer}
use Rattle.ww_callers.specs.Stages.{Stage}
use Rattle.ww_seat.proofs.Among.{last_among}
use Rattle.ww_callers.specs.Deeds.{IsDriven, Call, begin, done, end, lock, try_lock, lock_slow, go_on, has, is_free, outlook, is_wounded, cancel, heed, HasDone, Deed, steps, answers, Does}
use Rattle.ww_callers.specs.Drives.{thread_move, IsEndlessDrive}
use Rattle.ww_callers.proofs.Runs.{driven, accounted_on}
use Rattle.ww_loops.specs.Contexts.{as_scenes, steps_by}
use Rattle.ww_loops.specs.Loops.{waits_at, lock_for, AnswersAt, KeepsToItsCalls, LoopState, outside, ease, owes, told, first, is_owed, after_lock, phase_after, asked_after, is_look, MayCall, Goes, HoldsJust, FitsLoop, AnswersInLoop, StaysInLoop, GoesInLoop, LoopsBy, AreLoops, BackOffFirst, LoopsBackOff}
use Rattle.ww_loops.proofs.Ending.{event_at}
use Rattle.ww_loops.proofs.Desks.{desk_stays, held_stays, idle_then, is_current, taken_by, owned_by, lt_unless}

-- ---- what a call for a lock makes of what the desk holds

abbrev pub HeldThen : ℕ → Answer → Situation → Situation → Type 0
HeldThen n Done s s' = s'.held ≡ s.held ++ n ∷ []
HeldThen n Already s s' = (s'.held ≡ s.held) × (is_among n s.held ≡ true)
HeldThen n _ s s' = s'.held ≡ s.held

held_locked : (n : ℕ) (a : Answer) (s s' : Situation) (waits : _) → HasDone (lock n waits) s a s' → HeldThen n a s s'
held_locked n Done s s' waits h = ap (λ (x : Situation). x.held) h.1.1
held_locked n Again s s' waits h = ap (λ (x : Situation). x.held) h.2
held_locked n Busy s s' waits h = ap (λ (x : Situation). x.held) h.1
held_locked n Already s s' waits h = (ap (λ (x : Situation). x.held) h.1, h.0.holds)
held_locked n Invalid s s' waits h = ap (λ (x : Situation). x.held) h.1
held_locked n _ s s' waits h = absurd h

held_tried : (n : ℕ) (a : Answer) (s s' : Situation) → HasDone (try_lock n) s a s' → HeldThen n a s s'
held_tried n Done s s' h = ap (λ (x : Situation). x.held) h.1.1
held_tried n Busy s s' h = ⊎_elim (λ busy. ap (λ (x : Situation). x.held) busy.1) (λ vain. ap (λ (x : Situation). x.held) vain.1.1) h
held_tried n Already s s' h = (ap (λ (x : Situation). x.held) h.1, h.0.holds)
held_tried n Invalid s s' h = ap (λ (x : Situation). x.held) h.1
held_tried n _ s s' h = absurd h

held_slowly : (n : ℕ) (a : Answer) (s s' : Situation) (waits : _) → HasDone (lock_slow n waits) s a s' → HeldThen n a s s'
held_slowly n Done s s' waits h = ap (λ (x : Situation). x.held) h.3.1
held_slowly n Again s s' waits h = ap (λ (x : Situation). x.held) h.2.2
held_slowly n Busy s s' waits h = ap (λ (x : Situation). x.held) h.1
held_slowly n Invalid s s' waits h = ap (λ (x : Situation). x.held) h.2
held_slowly n _ s s' waits h = absurd h

held_waited : (n : ℕ) (a : Answer) (s s' : Situation) (waits : _) → IsWaitAnswer s n waits a s' → HeldThen n a s s'
held_waited n Done s s' waits h = ap (λ (x : Situation). x.held) h.1
held_waited n Again s s' waits h = ap (λ (x : Situation). x.held) h.4
held_waited n Awaits s s' waits h = ap (λ (x : Situation). x.held) h.now
held_waited n Sleeps s s' waits h = ap (λ (x : Situation). x.held) h.3
held_waited n (Deadlk k) s s' waits h = ap (λ (x : Situation). x.held) h.1.now
held_waited n (Interrupted by) s s' waits h = ap (λ (x : Situation). x.held) h.2
held_waited n _ s s' waits h = absurd h

held_next : (n : ℕ) (a : Answer) (turn : Turn) (s s' : Situation) → waits_at turn ≡ Some n → IsNextAnswer turn s a s' → HeldThen n a s s'
held_next n a at.Rests s s' is h = absurd (cc)
held_next n a (at.Wants m arrival waits) s s' is h = let same : m ≡ n = cc in
    subst (λ k. HeldThen k a s s') same (held_waited m a s s' waits h)
held_next n a (at.Looks m arrival waits) s s' is h = let same : m ≡ n = cc in
    subst (λ k. HeldThen k a s s') same (held_waited m a s s' waits h)
held_next n a (at.Gives m) s s' is h = absurd (cc)

pub held_then : (call : Call) (n : ℕ) (a : Answer) (s s' : Situation) → lock_for call s.turn ≡ Some n → HasDone call s a s' →
    HeldThen n a s s'
held_then (lock m waits) n a s s' is h = let same : m ≡ n = cc in subst (λ k. HeldThen k a s s') same (held_locked m a s s' waits h)
held_then (try_lock m) n a s s' is h = let same : m ≡ n = cc in subst (λ k. HeldThen k a s s') same (held_tried m a s s' h)
held_then (lock_slow m waits) n a s s' is h = let same : m ≡ n = cc in
    subst (λ k. HeldThen k a s s') same (held_slowly m a s s' waits h)
held_then go_on n a s s' is h = held_next n a s.turn s s' is h.0
held_then _ n a s s' is h = absurd (cc)

-- ---- what a look makes of it: nothing

same_in : (s s' t : Situation) → s' ≡ t → t.held ≡ s.held → s'.held ≡ s.held
same_in s s' t is same = ap (λ (x : Situation). x.held) is ∙ same

cancel_held : (u : ℕ) (a : Answer) (s s' : Situation) → IsCancelAnswer s u a s' → s'.held ≡ s.held
cancel_held u Done s s' h = same_in s s' _ h.3 refl
cancel_held u Already s s' h = same_in s s' _ h.2 refl
cancel_held u Busy s s' h = same_in s s' _ h.1 refl
cancel_held u Invalid s s' h = same_in s s' _ h.2 refl
cancel_held u _ s s' h = absurd h

heed_held : (a : Answer) (s s' : Situation) → IsHeedAnswer s a s' → s'.held ≡ s.held
heed_held Done s s' h = same_in s s' _ h.1 refl
heed_held Busy s s' h = same_in s s' _ h.2 refl
heed_held Invalid s s' h = same_in s s' _ h.1 refl
heed_held _ s s' h = absurd h

done_held : (a : Answer) (s s' : Situation) → IsDoneAnswer s a s' → s'.held ≡ s.held
done_held Done s s' h = same_in s s' _ h.3 refl
done_held Busy s s' h = same_in s s' _ h.1 refl
done_held Invalid s s' h = same_in s s' _ h.2 refl
done_held _ s s' h = absurd h

has_held : (n : ℕ) (a : Answer) (s s' : Situation) → IsHasAnswer s n a s' → s'.held ≡ s.held
has_held n Done s s' h = same_in s s' _ h.1 refl
has_held n Busy s s' h = same_in s s' _ h.1 refl
has_held n Invalid s s' h = same_in s s' _ h.2 refl
has_held n _ s s' h = absurd h

free_held : (n : ℕ) (a : Answer) (s s' : Situation) → IsFreeAnswer s n a s' → s'.held ≡ s.held
free_held n Done s s' h = same_in s s' _ h.3 refl
free_held n Busy s s' h = ⊎_elim (λ busy. same_in s s' _ busy.1 refl) (λ held. same_in s s' _ held.2.2 refl) h
free_held n Invalid s s' h = same_in s s' _ h.2 refl
free_held n _ s s' h = absurd h

outlook_held : (n : ℕ) (seen : Result Outlook NoOutlook) (s s' : Situation) → IsOutlookAnswer s n seen s' → s'.held ≡ s.held
outlook_held n (Ok seen) s s' h = same_in s s' _ h.2.3 refl
outlook_held n (Err Inside) s s' h = same_in s s' _ h.1 refl
outlook_held n (Err NoLock) s s' h = same_in s s' _ h.2 refl

wounded_held : (seen : Result Bool NoOutlook) (s s' : Situation) → IsWoundedAnswer s seen s' → s'.held ≡ s.held
wounded_held (Ok true) s s' h = same_in s s' _ h.2.2 refl
wounded_held (Ok false) s s' h = ⊎_elim (λ bare. same_in s s' _ bare.1 refl) (λ none. same_in s s' _ none.1 refl) h.1
wounded_held (Err Inside) s s' h = same_in s s' _ h.1 refl
wounded_held (Err NoLock) s s' h = absurd h

pub look_held : (call : Call) (a : Answer) (s s' : Situation) → is_look call ≡ true → HasDone call s a s' → s'.held ≡ s.held
look_held done a s s' is h = done_held a s s' h
look_held (has n) a s s' is h = has_held n a s s' h
look_held (is_free n) a s s' is h = free_held n a s s' h
look_held (outlook n) a s s' is h = outlook_held n h.1.0 s s' h.1.1
look_held is_wounded a s s' is h = wounded_held h.1.0 s s' h.1.1
look_held (cancel u) a s s' is h = cancel_held u a s s' h.0
look_held heed a s s' is h = heed_held a s s' h
look_held _ a s s' is h = absurd (true≢false (sym is))

-- ---- what the desk holds, after a call

or_swaps : (x y z : Bool) → ((x || y) || z) ≡ ((x || z) || y)
or_swaps true y z = refl
or_swaps false true true = refl
or_swaps false true false = refl
or_swaps false false true = refl
or_swaps false false false = refl

or_more : (x y b : Bool) → x ≡ true → (y || b) ≡ x → ((y || true) || b) ≡ x
or_more x true b is same = same
or_more x false b is same = sym is

or_less : (y b : Bool) → ((y || false) || b) ≡ (y || b)
or_less true b = refl
or_less false b = refl

pub or_none : (y : Bool) → (y || false) ≡ y
or_none true = refl
or_none false = refl

among_one : (x n : ℕ) → is_among x (n ∷ []) ≡ (n == x)
among_one x n = or_none (n == x)

pub added : (x n : ℕ) (l : List ℕ) → is_among x (l ++ n ∷ []) ≡ (is_among x l || (n == x))
added x n l = is_among-append x l (n ∷ []) ∙ ap (λ c. is_among x l || c) (among_one x n)

took_more : (n : ℕ) (s s' : Situation) (ph : LoopState) (asked : List ℕ) → s'.held ≡ s.held ++ n ∷ [] → HoldsJust s ph asked →
    HoldsJust s' ph (asked ++ n ∷ [])
took_more n s s' ph asked is f x = ap (is_among x) is ∙ added x n s.held ∙ ap (λ c. c || (n == x)) (f x)
    ∙ or_swaps (is_among x asked) (is_owed ph x) (n == x) ∙ ap (λ c. c || is_owed ph x) (sym (added x n asked))

had_already : (n : ℕ) (s s' : Situation) (ph : LoopState) (asked : List ℕ) → s'.held ≡ s.held → is_among n s.held ≡ true →
    HoldsJust s ph asked → HoldsJust s' ph (asked ++ n ∷ [])
had_already n s s' ph asked is here f x = ap (is_among x) is ∙ f x ∙ sym (ap (λ c. c || is_owed ph x) (added x n asked) ∙ by_cases)
  where
    by_cases : ((is_among x asked || (n == x)) || is_owed ph x) ≡ (is_among x asked || is_owed ph x)
    by_cases = ⊎_elim
        (λ same. let e : n ≡ x = grind (arith, nat_tests) in ap (λ c. (is_among x asked || c) || is_owed ph x) same
        ∙ or_more (is_among x asked || is_owed ph x) (is_among x asked) (is_owed ph x)
        (sym (f x) ∙ ap (λ y. is_among y s.held) (sym e) ∙ here) refl)
        (λ other. ap (λ c. (is_among x asked || c) || is_owed ph x) other ∙ or_less (is_among x asked) (is_owed ph x))
        (cases_Bool (n == x))

-- the body asks for what it owes
owed_asked : (m : ℕ) (s s' : Situation) (asked : List ℕ) → s'.held ≡ s.held → HoldsJust s (owes m) asked →
    HoldsJust s' ease (asked ++ m ∷ [])
owed_asked m s s' asked is f x = ap (is_among x) is ∙ f x ∙ sym (or_none (is_among x asked || (m == x)))
    ∙ ap (λ c. c || false) (sym (added x m asked))

fits_same : (s s' : Situation) (ph : LoopState) (asked : List ℕ) → s'.held ≡ s.held → FitsLoop s ph asked → FitsLoop s' ph asked
fits_same s s' outside asked is f = f
fits_same s s' ease asked is f = λ x. ap (is_among x) is ∙ f x
fits_same s s' (owes m) asked is f = λ x. ap (is_among x) is ∙ f x
fits_same s s' (told m) asked is f = f
fits_same s s' (first m) asked is f = (f.0, is ∙ f.1)

begun : (call : Call) (a : Answer) (s s' : Situation) (asked : List ℕ) → HasDone call s a s' → asked ≡ [] →
    FitsLoop s' (phase_after outside call None a) asked
begun begin Done s s' asked h none = λ x. ap (λ (y : Situation). is_among x y.held) h.6 ∙ ap (is_among x) h.2
    ∙ sym (ap (λ l. is_among x l || false) none)
begun _ _ s s' asked h none = none

fits_ease : (n : ℕ) (a : Answer) (s s' : Situation) (asked : List ℕ) → HeldThen n a s s' → FitsLoop s ease asked →
    FitsLoop s' (after_lock ease n a) (asked_after ease asked (Some n) a)
fits_ease n Done s s' asked h f = took_more n s s' ease asked h f
fits_ease n Already s s' asked h f = had_already n s s' ease asked h.0 h.1 f
fits_ease n (Deadlk k) s s' asked h f = refl
fits_ease n _ s s' asked h f = fits_same s s' ease asked h f

fits_already : (m n : ℕ) (b : Bool) (s s' : Situation) (asked : List ℕ) → (m == n) ≡ b → HeldThen n Already s s' → FitsLoop s (owes m) asked →
    FitsLoop s' (if b then ease else owes m) (asked ++ n ∷ [])
fits_already m n true s s' asked is h f = let e : m ≡ n = grind (arith, nat_tests) in
    subst (λ k. HoldsJust s' ease (asked ++ k ∷ [])) e (owed_asked m s s' asked h.0 f)
fits_already m n false s s' asked is h f = had_already n s s' (owes m) asked h.0 h.1 f

fits_owes : (m n : ℕ) (a : Answer) (s s' : Situation) (asked : List ℕ) → HeldThen n a s s' → FitsLoop s (owes m) asked →
    FitsLoop s' (after_lock (owes m) n a) (asked_after (owes m) asked (Some n) a)
fits_owes m n Done s s' asked h f = took_more n s s' (owes m) asked h f
fits_owes m n Already s s' asked h f = fits_already m n (m == n) s s' asked refl h f
fits_owes m n (Deadlk k) s s' asked h f = refl
fits_owes m n _ s s' asked h f = fits_same s s' (owes m) asked h f

fits_first : (m n : ℕ) (a : Answer) (s s' : Situation) (asked : List ℕ) → n ≡ m → HeldThen n a s s' → FitsLoop s (first m) asked →
    FitsLoop s' (after_lock (first m) n a) []
fits_first m n Done s s' asked is h f = λ x. ap (is_among x) (h ∙ ap (λ l. l ++ n ∷ []) f.1) ∙ among_one x n ∙ ap (λ k. k == x) is
fits_first m n (Deadlk k) s s' asked is h f = refl
fits_first m n Already s s' asked is h f = (refl, h.0 ∙ f.1)
fits_first m n _ s s' asked is h f = (refl, h ∙ f.1)

fits_after : (call : Call) (a : Answer) (s s' : Situation) (want : Option ℕ) (ph : LoopState) (asked : List ℕ) →
    lock_for call s.turn ≡ want → MayCall ph call want → HasDone call s a s' → FitsLoop s ph asked →
    FitsLoop s' (phase_after ph call want a) (asked_after ph asked want a)
fits_after call a s s' None outside asked is may = λ h f. begun call a s s' asked h f
fits_after call a s s' None ease asked is may = λ h f. fits_same s s' ease asked (look_held call a s s' may h) f
fits_after call a s s' None (owes m) asked is may = λ h f. fits_same s s' (owes m) asked (look_held call a s s' may h) f
fits_after call a s s' None (told m) asked is may = λ h f. f
fits_after call a s s' None (first m) asked is may = λ h f. fits_same s s' (first m) asked (look_held call a s s' may h) f
fits_after call a s s' (Some n) outside asked is may = λ h f. absurd may
fits_after call a s s' (Some n) ease asked is may = λ h f. fits_ease n a s s' asked (held_then call n a s s' is h) f
fits_after call a s s' (Some n) (owes m) asked is may = λ h f. fits_owes m n a s s' asked (held_then call n a s s' is h) f
fits_after call a s s' (Some n) (told m) asked is may = λ h f. absurd may
fits_after call a s s' (Some n) (first m) asked is may = λ h f. fits_first m n a s s' asked may (held_then call n a s s' is h) f

fits_goes : (s : Situation) (ph : LoopState) (asked : List ℕ) (ph' : LoopState) (asked' : List ℕ) → Goes s ph asked ph' asked' → FitsLoop s ph asked →
    FitsLoop s ph' asked'
fits_goes s outside asked ph' asked' g f = subst (λ p. FitsLoop s p asked') (sym g.2) (subst (λ l. HoldsJust s ease l) (sym g.3)
    (λ x. ap (is_among x) g.0))
fits_goes s ease asked ph' asked' g f = subst (λ p. FitsLoop s p asked') (sym g.0) g.1
fits_goes s (owes m) asked ph' asked' g f = ⊎_elim
    (λ asks. subst (λ p. FitsLoop s p asked') (sym asks.0) (subst (λ l. FitsLoop s ease l) (sym asks.1) (owed_asked m s s asked refl f)))
    (λ ends. subst (λ p. FitsLoop s p asked') (sym ends.0) ends.1) g
fits_goes s (told m) asked ph' asked' g f = subst (λ p. FitsLoop s p asked') (sym g.1) (g.2, g.0)
fits_goes s (first m) asked ph' asked' g f = absurd g

goes_told : (m : ℕ) (s : Situation) (ph : LoopState) (had : List ℕ) (ph' : LoopState) (had' : List ℕ) → ph ≡ told m → Goes s ph had ph' had' →
    (s.held ≡ []) × (ph' ≡ first m) × (had' ≡ [])
goes_told m s ph had ph' had' is g = subst (λ p. Goes s p had ph' had') is g

goes_not : (m : ℕ) (s : Situation) (ph : LoopState) (had : List ℕ) (ph' : LoopState) (had' : List ℕ) → ph ≡ first m → Goes s ph had ph' had' → ⊥
goes_not m s ph had ph' had' is g = subst (λ p. Goes s p had ph' had') is g

may_not : (m n : ℕ) (ph : LoopState) (call : Call) → ph ≡ told m → MayCall ph call (Some n) → ⊥
may_not m n ph call is may = subst (λ p. MayCall p call (Some n)) is may

may_first : (m n : ℕ) (ph : LoopState) (call : Call) → ph ≡ first m → MayCall ph call (Some n) → n ≡ m
may_first m n ph call is may = subst (λ p. MayCall p call (Some n)) is may

-- ---- what a call makes of the phase

told_after : (m : ℕ) (call : Call) (want : Option ℕ) (a : Answer) → MayCall (told m) call want → phase_after (told m) call want a ≡ told m
told_after m call None a may = refl
told_after m call (Some n) a may = absurd may

first_then : (m n : ℕ) (a : Answer) → n ≡ m → (a ≡ Done) ⊎ ((after_lock (first m) n a ≡ told m) ⊎ (after_lock (first m) n a ≡ first m))
first_then m n Done is = inl refl
first_then m n (Deadlk k) is = inr (inl (ap told is))
first_then m n _ is = inr (inr refl)

first_after : (m : ℕ) (call : Call) (want : Option ℕ) (a : Answer) → MayCall (first m) call want →
    ((want ≡ Some m) × (a ≡ Done)) ⊎ ((phase_after (first m) call want a ≡ told m) ⊎ (phase_after (first m) call want a ≡ first m))
first_after m call None a may = inr (inr refl)
first_after m call (Some n) a may = ⊎_elim (λ got. inl (ap Some may, got)) inr (first_then m n a may)

dead : (ph : LoopState) (n k : ℕ) → after_lock ph n (Deadlk k) ≡ told n
dead outside n k = refl
dead ease n k = refl
dead (owes m) n k = refl
dead (told m) n k = refl
dead (first m) n k = refl

pub answer_or_not : (d : ℕ) (x : Deed) →
    ((call : Call) × (a : Answer) × (x ≡ answers d call a)) ⊎ ((call : Call) (a : Answer) → x ≢ answers d call a)
answer_or_not d (answers e call a) = dite (ℕ_discrete e d) (λ is. inl (call, a, ap (λ k. answers k call a) is))
    (λ isnt. inr (λ c b is. isnt (let same : e ≡ d = cc in same)))
answer_or_not d _ = inr (λ c b is. cc)

-- ---- along a drive

module _ {key : Start} (stage : ℕ → Stage key) (deed : ℕ → Deed) (phase : ℕ → ℕ → LoopState) (asked : ℕ → ℕ → List ℕ)
    (h : AreLoops stage deed phase asked) where
  pub does_at : (k : ℕ) (x : Deed) → deed k ≡ x → Does (stage k) (stage (suc k)) x
  does_at k x is = subst (λ (y : Deed). Does (stage k) (stage (suc k)) y) is (h.endless.goes_on k)

  pub from : (k : ℕ) → IsDriven (stage k)
  from = driven stage deed h.endless

  -- an event of the locks is a step of its desk
  pub deed_of : (k : ℕ) (e : Event) → steps_by key deed k ≡ performs e → deed k ≡ steps (actor e) (Some (performs e))
  deed_of k e is = event_at stage deed (accounted_on stage deed h.endless) k e (performed key (thread_move (deed k)) e is)

  pub wants_deed : (k d n : ℕ) → Wants d n (steps_by key deed k) → (x : Step) × (deed k ≡ steps d (Some x)) × Wants d n x
  wants_deed k d n (inl is) = (performs (Fast d n), deed_of k (Fast d n) is, inl refl)
  wants_deed k d n (inr (inl is)) = (performs (Join d n), deed_of k (Join d n) is, inr (inl refl))
  wants_deed k d n (inr (inr is)) = (performs (Take d n), deed_of k (Take d n) is, inr (inr refl))

  module _ (d : ℕ) (low : d < key.seats) where
    pub loop : LoopsBy stage deed phase asked d
    loop = h.loops d low

    pub fits : (k : ℕ) → FitsLoop ((stage k).desk d) (phase k d) (asked k d)
    fits zero = loop.begins
    fits (suc k) = let s = (stage k).desk d in let s' = (stage (suc k)).desk d in let f = fits k in ⊎_elim
        (λ e. let call = e.0 in let a = e.1 in let m = loop.when_answers k call a e.2 in let want = lock_for call s.turn in
        subst (λ p. FitsLoop s' p (asked (suc k) d)) (sym m.next) (subst (λ l. FitsLoop s' (phase_after (phase k d) call want a) l) (sym m.asks)
        (fits_after call a s s' want (phase k d) (asked k d) refl m.may (does_at k (answers d call a) e.2).done f)))
        (λ isnt. let held = held_stays (stage k) (stage (suc k)) d (deed k) (h.endless.goes_on k) isnt in ⊎_elim
        (λ st. subst (λ p. FitsLoop s' p (asked (suc k) d)) (sym st.next) (subst (λ l. FitsLoop s' (phase k d) l) (sym st.asks)
        (fits_same s s' (phase k d) (asked k d) held f)))
        (λ g. fits_same s s' (phase (suc k) d) (asked (suc k) d) held
        (fits_goes s (phase k d) (asked k d) (phase (suc k) d) (asked (suc k) d) g.goes f))
        (loop.otherwise k isnt))
        (answer_or_not d (deed k))

    -- between two calls the seat has what the desk holds, and no more
    pub holds : (k n : ℕ) → (stage k).calling d ≡ false → owns (view (stage k).moment d) n ≡ is_among n ((stage k).desk d).held
    holds k n idle = ap (λ (v : View). owns v n) (sym (is_current (stage k) (from k) d low idle)) ∙ (h.know k d low idle).holds n

    pub bare : (k : ℕ) → (stage k).calling d ≡ false → ((stage k).desk d).held ≡ [] → OwnsNone (core (stage k).moment) d
    bare k idle none n own = true≢false (sym (owned_by (stage k) (from k) d low n own) ∙ holds k n idle ∙ ap (is_among n) none)

    -- amid a call the phase stays
    pub in_call : (k : ℕ) → (stage k).calling d ≡ true → ((call : Call) (a : Answer) → deed k ≢ answers d call a) →
        phase (suc k) d ≡ phase k d
    in_call k on isnt = ⊎_elim (λ st. st.next) (λ g. absurd (true≢false (sym on ∙ g.idle))) (loop.otherwise k isnt)

    pub phase_until : (i j : ℕ) (call : Call) (a : Answer) → AnswersAt stage deed d i j call a → phase j d ≡ phase i d
    phase_until i j call a c = let later = c.later in holds_at (λ k. phase k d ≡ phase i d) i j (omega arith) refl
        (λ k low below same. in_call k (c.amid k low (omega arith))
        (λ call a is. true≢false (sym (c.amid (suc k) (omega arith) (omega arith))
        ∙ idle_then (stage k) (stage (suc k)) d call a (does_at k (answers d call a) is))) ∙ same)

    -- a step is amid a call, which answers
    pub answer_of : (i : ℕ) (x : Option Step) → deed i ≡ steps d x → (j : ℕ) × (call : Call) × (a : Answer) × AnswersAt stage deed d i j call a
    answer_of i x is = let e = (h.keeps d low).ends i (does_at i (steps d x) is).calling in
        (e.0, e.1, e.2, ⊎_elim (λ at. absurd (let z = sym is ∙ at in cc)) (λ c. c) e.3)

    -- what a loop wants it may call for
    pub wants_may : (i n : ℕ) (x : Step) → deed i ≡ steps d (Some x) → Wants d n x → (call : Call) × MayCall (phase i d) call (Some n)
    wants_may i n x is want = let e = answer_of i (Some x) is in let j = e.0 in let call = e.1 in let a = e.2 in
        let m = loop.when_answers j call a e.3.answer in (
          call,
          subst (λ p. MayCall p call (Some n)) (phase_until i j call a e.3)
              (subst (λ w. MayCall (phase j d) call w) ((h.keeps d low).wants i j n x call a is want e.3) m.may),
        )

    -- a loop whose context died is told so
    pub dies_told : (i m : ℕ) → deed i ≡ steps d (Some (performs (Die d m))) →
        (j : ℕ) × (call : Call) × (a : Answer) × AnswersAt stage deed d i j call a × (phase (suc j) d ≡ told m)
    dies_told i m is = let e = answer_of i (Some (performs (Die d m))) is in let j = e.0 in let call = e.1 in let a = e.2 in
        let died = (h.keeps d low).dies i j m call a is e.3 in (
          j,
          call,
          a,
          e.3,
          (loop.when_answers j call a e.3.answer).next ∙ ap (λ w. phase_after (phase j d) call w a) died.0
              ∙ ap (after_lock (phase j d) m) died.1.1 ∙ dead (phase j d) m died.1.0,
        )

    -- until it owns nothing it stays told
    pub backs_off_by : (m i j : ℕ) → i ≤ j → phase i d ≡ told m →
        FoundAt (λ k. OwnsNone (core (stage k).moment) d) i j ⊎ (phase j d ≡ told m)
    backs_off_by m i j later is = unless (λ k. OwnsNone (core (stage k).moment) d) (λ k. phase k d ≡ told m) i j later is
        (λ k _ _ still. ⊎_elim
        (λ e. let want = lock_for e.0 ((stage k).desk d).turn in let a = loop.when_answers k e.0 e.1 e.2 in
        inr (a.next ∙ ap (λ p. phase_after p e.0 want e.1) still
        ∙ told_after m e.0 want e.1 (subst (λ p. MayCall p e.0 want) still a.may)))
        (λ isnt. ⊎_elim (λ st. inr (st.next ∙ still))
        (λ g. inl (bare k g.idle
        (goes_told m ((stage k).desk d) (phase k d) (asked k d) (phase (suc k) d) (asked (suc k) d) still g.goes).0))
        (loop.otherwise k isnt))
        (answer_or_not d (deed k)))

    -- until it has the contended lock it is told, or takes that first
    takes_first_by : (m i j : ℕ) → i ≤ j → phase i d ≡ told m →
        ((k : ℕ) → i < k → k ≤ j → (core (stage k).moment).owner m ≢ Taken d) → (phase j d ≡ told m) ⊎ (phase j d ≡ first m)
    takes_first_by m i j later is lacks = holds_at (λ k. (phase k d ≡ told m) ⊎ (phase k d ≡ first m)) i j later (inl is)
        (λ k above below q. ⊎_elim
        (λ e. let want = lock_for e.0 ((stage k).desk d).turn in let a = loop.when_answers k e.0 e.1 e.2 in ⊎_elim
        (λ still. inl (a.next ∙ ap (λ p. phase_after p e.0 want e.1) still
        ∙ told_after m e.0 want e.1 (subst (λ p. MayCall p e.0 want) still a.may)))
        (λ still. let to = a.next ∙ ap (λ p. phase_after p e.0 want e.1) still in ⊎_elim
        (λ got. absurd (lacks (suc k) (omega arith) (omega arith) (got_it k m e.0 e.1 e.2 got.0 got.1)))
        (⊎_elim (λ t. inl (to ∙ t)) (λ f. inr (to ∙ f)))
        (first_after m e.0 want e.1 (subst (λ p. MayCall p e.0 want) still a.may))) q)
        (λ isnt. ⊎_elim (λ st. ⊎_elim (λ still. inl (st.next ∙ still)) (λ still. inr (st.next ∙ still)) q)
        (λ g. ⊎_elim
        (λ still. inr
        (goes_told m ((stage k).desk d) (phase k d) (asked k d) (phase (suc k) d) (asked (suc k) d) still g.goes).1)
        (λ still. absurd (goes_not m ((stage k).desk d) (phase k d) (asked k d) (phase (suc k) d) (asked (suc k) d) still g.goes)) q)
        (loop.otherwise k isnt))
        (answer_or_not d (deed k)))
      where
        got_it : (k m : ℕ) (call : Call) (a : Answer) → deed k ≡ answers d call a → lock_for call ((stage k).desk d).turn ≡ Some m →
            a ≡ Done → (core (stage (suc k)).moment).owner m ≡ Taken d
        got_it k m call a is for got = let does = does_at k (answers d call a) is in
            let s = (stage k).desk d in let s' = (stage (suc k)).desk d in
            taken_by (stage (suc k)) (from (suc k)) d low m (holds (suc k) m (idle_then (stage k) (stage (suc k)) d call a does)
            ∙ ap (is_among m) (held_then call m Done s s' for (subst (λ b. HasDone call s b s') got does.done))
            ∙ last_among s.held m)

  -- a step of a desk is that of a seat of the table
  seat_of : (k d : ℕ) (x : Option Step) → deed k ≡ steps d x → d < key.seats
  seat_of k d x is = (does_at k (steps d x) is).seat

  -- from where its context died to where it wants a lock again it has answered, and was told
  module _ (i j s m n : ℕ) (later : i < j) (dies : steps_by key deed i ≡ performs (Die s m)) (wants : Wants s n (steps_by key deed j)) where
    died : deed i ≡ steps s (Some (performs (Die s m)))
    died = deed_of i (Die s m) dies

    seat : s < key.seats
    seat = seat_of i s (Some (performs (Die s m))) died

    told_at : (k : ℕ) × (i < k) × (k ≤ j) × (phase k s ≡ told m)
    told_at = let w = wants_deed j s n wants in let e = dies_told s seat i m died in let k = e.0 in
        let after = e.3.later in
        ⊎_elim (λ before. absurd ((h.keeps s seat).dies_last i j k m n w.0 e.1 e.2 later died w.1 w.2 before e.3))
        (λ most. (suc k, omega arith, lt_unless k j most (λ is. let z = sym w.1 ∙ ap deed (sym is) ∙ e.3.answer in cc), e.4))
        (cases_lt j k)

  pub loops_do_back_off : BackOffFirst stage deed
  loops_do_back_off = record {
    backs_off = λ i j s m n later dies wants. let t = told_at i j s m n later dies wants in let low = seat i j s m n later dies wants in
        let w = wants_deed j s n wants in let after = t.1 in ⊎_elim
        (λ f. let x = f.from in let y = f.before in (f.at, omega arith, omega arith, f.holds))
        (λ still. absurd (let may = wants_may s low j n w.0 w.1 w.2 in may_not m n (phase j s) may.0 still may.1))
        (backs_off_by s low m t.0 j t.2 t.3);
    takes_first = λ i j s m n later dies wants lacks. let t = told_at i j s m n later dies wants in
        let low = seat i j s m n later dies wants in let w = wants_deed j s n wants in let after = t.1 in
        let may = wants_may s low j n w.0 w.1 w.2 in ⊎_elim
        (λ still. absurd (may_not m n (phase j s) may.0 still may.1))
        (λ still. may_first m n (phase j s) may.0 still may.1)
        (takes_first_by s low m t.0 j t.2 t.3 (λ k above below. (lacks k (omega arith) below).0));
  }

pub loops_back_off : LoopsBackOff
loops_back_off key stage deed phase asked h = loops_do_back_off stage deed phase asked h
