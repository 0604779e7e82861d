-- Two loops, one after the other: the first has the lock, ends and releases it; the second takes it, ends and releases it.
use Rattle.std.proofs.Common.{◌≡◌, ◌≢◌, ◌⊎◌, ⊎_elim, inl, inr, ℕ, zero, suc, ◌<◌, ◌≤◌, ◌==◌, ◌||◌, Bool, true, false, true≢false, List, [], ◌∷◌, length, replicate, set, Option, Some, refl, sym, ap, ◌∙◌, subst, arith}
use Rattle.std.specs.List.{slice_index_or}
use Rattle.std.proofs.lemmas.Bool.Decides.{nat_tests}
use mathlib.Core.Logic.{dite}
use native.Mathlib.Decide.{ℕ_discrete, dec_le}
use Rattle.ww_plain.specs.Numbers.{is_among}
use Rattle.ww_queue.specs.declared.kind.Kind.{Kind}
use Rattle.ww_queue.specs.Queue.{StandsNot}
use Rattle.ww_model.specs.declared.event.Event.TheVariants.{Fast, FastGive, Die, End}
use Rattle.ww_model.specs.declared.state.Holder.TheVariants.{Taken}
use Rattle.ww_model.specs.State.{State, put, OwnsNone, InNoQueue}
use Rattle.ww_view.specs.Made.{without, fast_taken, fast_given}
use Rattle.ww_view.specs.View.{owns}
use Rattle.ww_invariant.specs.declared.cells.Part.{Part}
use Rattle.ww_invariant.specs.declared.cells.Sight.{Sight}
use Rattle.ww_invariant.specs.Layout.{lock_at}
use Rattle.ww_invariant.specs.Rule.{wakes_owed}
use Rattle.ww_invariant.specs.Steps.{knowing}
use Rattle.ww_laws.specs.Scene.{Step, performs}
use Rattle.ww_laws.specs.Premises.{Wants, RestsOn, HoldersRelease, ContextsEndOrDie}
use Rattle.ww_refines.specs.Moment.{Moment, core, view, HasToWake}
use Rattle.ww_refines.proofs.Following.{knows_there, who_there}
use Rattle.ww_refines.proofs.Pictures.{Picture, At, Next, seated, acting, gives_as, gives_then, locks_as, locks_then}
use Rattle.ww_refines.proofs.Small.{small, AreSeated, first_is, second_is, nothing_owed, holder_2, waiter_1, p_4, first_locks}
use Rattle.ww_refines.proofs.CalledOff.{free}
use Rattle.ww_seat.specs.Calls.{HasStayedOut}
use Rattle.ww_seat.specs.declared.waits.Waits.TheVariants.{ToTheEnd}
use Rattle.ww_steps.specs.declared.turn.Answer.{Answer}
use Rattle.ww_steps.specs.declared.turn.Answer.TheVariants.{Done}
use Rattle.ww_steps.specs.Situations.{Situation}
use Rattle.ww_steps.specs.Answers.{IsHeldAtRest}
use Rattle.ww_callers.specs.Stages.{Stage}
use Rattle.ww_callers.specs.Deeds.{Call, Deed, calls, steps, answers, halts, lock, unlock, Does}
use Rattle.ww_callers.specs.Drives.{IsDueBy, IsServed}
use Rattle.ww_callers.proofs.Shown.{Desks, staged, called, answered, IsAnswer, OwesNobody, nothing_due, calls_does, steps_does, answers_does}
use Rattle.ww_callers.proofs.Sleeping.{has_no_mark}
use Rattle.ww_callers.proofs.Starting.{is_of_world, q_3, g_3, owe_nobody}
use Rattle.ww_callers.proofs.Turns.{once_locked}
use Rattle.ww_loops.specs.Contexts.{as_scenes, steps_by}
use Rattle.ww_loops.specs.Calls.{KnowsItsSeat, AllKnowTheirSeats, LockCall}
use Rattle.ww_loops.specs.Loops.{lock_for, AnswersAt, KeepsToItsCalls, LoopState, outside, ease, told, AnswersInLoop, StaysInLoop, GoesInLoop, LoopsBy, RoundsGoOn, ProgramGoesOn, IsOldestInLoop}
use Rattle.ww_loops.specs.Witness.{LoopsAreInDrives}
use Rattle.ww_loops.proofs.Claiming.{says_locked}
use Rattle.ww_loops.proofs.Looping.{or_none}

-- ---- the steps at the table

abbrev p_5 : Kind → Picture
p_5 kind = gives_as (small kind) (p_4 kind) 1 0 (holder_2 kind)

releases : (kind : Kind) → Next (first_locks kind).at 0 (Some (performs (FastGive 0 0))) (p_5 kind)
unfolding put ℕ_discrete lock_at
releases kind = gives_then (first_locks kind).at 1 0 (holder_2 kind) (acting refl refl refl (omega arith) refl refl) 0 (omega arith)
    (omega arith) (refl, refl) refl refl

abbrev p_6 : Kind → Picture
p_6 kind = locks_as (small kind) (p_5 kind) 0 0 (waiter_1 kind)

second_locks : (kind : Kind) → Next (releases kind).at 1 (Some (performs (Fast 1 0))) (p_6 kind)
unfolding put ℕ_discrete lock_at
second_locks kind = locks_then (releases kind).at 0 1 (waiter_1 kind) (acting refl refl refl (omega arith) refl refl) 0 (omega arith)
    (omega arith) (record { away = (refl, refl); base = inl (omega arith); signs = inr (inl refl) }) refl

-- the second has the lock, and has released it
abbrev owner_1 : Kind → Sight
owner_1 kind = knowing (waiter_1 kind) (fast_taken (waiter_1 kind).part.core 0)

abbrev free_1 : Kind → Sight
free_1 kind = knowing (owner_1 kind) (fast_given (owner_1 kind).part.core 0)

abbrev p_7 : Kind → Picture
p_7 kind = gives_as (small kind) (p_6 kind) 0 0 (owner_1 kind)

second_gives : (kind : Kind) → Next (second_locks kind).at 1 (Some (performs (FastGive 1 0))) (p_7 kind)
unfolding put ℕ_discrete lock_at
second_gives kind = gives_then (second_locks kind).at 0 1 (owner_1 kind) (acting refl refl refl (omega arith) refl refl) 0 (omega arith)
    (omega arith) (refl, refl) refl refl

-- ---- the desks

-- it has released this lock, by what its seat knows then
abbrev once_freed : Situation → ℕ → Sight → Situation
once_freed s n v = record s { held = without n s.held; view = v.part.core }

says_freed : (s : Situation) (v : Sight) (n : ℕ) → IsHeldAtRest s n → HasStayedOut s.view v.part.core → v.part.core.inside ≡ 0 →
    s.cancelled ≡ v.part.counts.cancelled → IsAnswer s v (unlock n) Done (once_freed s n v)
says_freed s v n has stays out same = record { done = (has, (stays, refl)); outside = λ _. out; sees = refl; cancelled = same }

abbrev freed : Kind → Situation
freed kind = once_freed ((q_3 kind).desk 0) 0 (free kind)

abbrev q_4 : Kind → Desks
q_4 kind = called (q_3 kind) 0

abbrev q_5 : Kind → Desks
q_5 kind = answered (q_4 kind) 0 Done (freed kind)

abbrev q_6 : Kind → Desks
q_6 kind = called (q_5 kind) 1

abbrev locked : Kind → Situation
locked kind = once_locked ((q_6 kind).desk 1) 0 (owner_1 kind).part.core

abbrev q_7 : Kind → Desks
q_7 kind = answered (q_6 kind) 1 Done (locked kind)

abbrev q_8 : Kind → Desks
q_8 kind = called (q_7 kind) 1

abbrev freed_1 : Kind → Situation
freed_1 kind = once_freed ((q_8 kind).desk 1) 0 (free_1 kind)

abbrev q_9 : Kind → Desks
q_9 kind = answered (q_8 kind) 1 Done (freed_1 kind)

is_freed : (kind : Kind) → IsAnswer ((q_4 kind).desk 0) (free kind) (unlock 0) Done (freed kind)
unfolding put ℕ_discrete
is_freed kind = says_freed ((q_4 kind).desk 0) (free kind) 0 (record { rests = refl; holds = refl })
    (record { attempts = refl; debts = refl; naps = refl; deaf = refl }) refl refl

is_locked : (kind : Kind) → IsAnswer ((q_6 kind).desk 1) (owner_1 kind) (lock 0 ToTheEnd) Done (locked kind)
unfolding put ℕ_discrete lock_at
is_locked kind = says_locked ((q_6 kind).desk 1) (owner_1 kind) 0
    (record { rests = refl; lacks = refl; there = omega arith; wants = refl })
    (record { attempts = refl; debts = refl; naps = refl; deaf = refl }) refl refl

is_freed_1 : (kind : Kind) → IsAnswer ((q_8 kind).desk 1) (free_1 kind) (unlock 0) Done (freed_1 kind)
unfolding put ℕ_discrete
is_freed_1 kind = says_freed ((q_8 kind).desk 1) (free_1 kind) 0 (record { rests = refl; holds = refl })
    (record { attempts = refl; debts = refl; naps = refl; deaf = refl }) refl refl

-- ---- the drive, and its loops

abbrev deed : ℕ → Deed
deed zero = calls 0
deed (suc zero) = steps 0 (Some (performs (FastGive 0 0)))
deed (suc (suc zero)) = answers 0 (unlock 0) Done
deed (suc (suc (suc zero))) = calls 1
deed (suc (suc (suc (suc zero)))) = steps 1 (Some (performs (Fast 1 0)))
deed (suc (suc (suc (suc (suc zero))))) = answers 1 (lock 0 ToTheEnd) Done
deed (suc (suc (suc (suc (suc (suc zero)))))) = calls 1
deed (suc (suc (suc (suc (suc (suc (suc zero))))))) = steps 1 (Some (performs (FastGive 1 0)))
deed (suc (suc (suc (suc (suc (suc (suc (suc zero)))))))) = answers 1 (unlock 0) Done
deed (suc (suc (suc (suc (suc (suc (suc (suc (suc i))))))))) = halts

-- the loop of the first ends at once, and that of the second once it has the lock
abbrev phase_0 : ℕ → LoopState
phase_0 zero = ease
phase_0 (suc i) = outside

abbrev phase_1 : ℕ → LoopState
phase_1 (suc (suc (suc (suc (suc (suc (suc i))))))) = outside
phase_1 _ = ease

abbrev phase : ℕ → ℕ → LoopState
phase i zero = phase_0 i
phase i (suc zero) = phase_1 i
phase i (suc (suc d)) = outside

abbrev asked_0 : ℕ → List ℕ
asked_0 zero = 0 ∷ []
asked_0 (suc i) = []

abbrev asked_1 : ℕ → List ℕ
asked_1 (suc (suc (suc (suc (suc (suc zero)))))) = 0 ∷ []
asked_1 _ = []

abbrev asked : ℕ → ℕ → List ℕ
asked i zero = asked_0 i
asked i (suc zero) = asked_1 i
asked i (suc (suc d)) = []

-- a time with that behind it, from when on nothing happens
abbrev late : ℕ → ℕ
late i = suc (suc (suc (suc (suc (suc (suc (suc (suc i))))))))

-- ---- what the desks hold

pub none_there : (k n : ℕ) → slice_index_or (replicate k false) n false ≡ false
none_there zero n = refl
none_there (suc k) zero = refl
none_there (suc k) (suc n) = none_there k n

none_at_all : (n : ℕ) → slice_index_or (false ∷ replicate 64 false) n false ≡ false
none_at_all zero = refl
none_at_all (suc n) = none_there 64 n

pub one_there : (n : ℕ) → slice_index_or (true ∷ replicate 64 false) n false ≡ is_among n (0 ∷ [])
one_there zero = refl
one_there (suc n) = none_there 64 n ∙ sym (let e : (0 == suc n) ≡ false = grind (arith, nat_tests) in ap (λ b. b || false) e)

module _ (kind : Kind) where
  abbrev moment : ℕ → Moment (small kind)
  moment zero = (first_locks kind).at.moment
  moment (suc zero) = (first_locks kind).at.moment
  moment (suc (suc zero)) = (releases kind).at.moment
  moment (suc (suc (suc zero))) = (releases kind).at.moment
  moment (suc (suc (suc (suc zero)))) = (releases kind).at.moment
  moment (suc (suc (suc (suc (suc zero))))) = (second_locks kind).at.moment
  moment (suc (suc (suc (suc (suc (suc zero)))))) = (second_locks kind).at.moment
  moment (suc (suc (suc (suc (suc (suc (suc zero))))))) = (second_locks kind).at.moment
  moment (suc (suc (suc (suc (suc (suc (suc (suc i)))))))) = (second_gives kind).at.moment

  abbrev desks : ℕ → Desks
  desks zero = q_3 kind
  desks (suc zero) = q_4 kind
  desks (suc (suc zero)) = q_4 kind
  desks (suc (suc (suc zero))) = q_5 kind
  desks (suc (suc (suc (suc zero)))) = q_6 kind
  desks (suc (suc (suc (suc (suc zero))))) = q_6 kind
  desks (suc (suc (suc (suc (suc (suc zero)))))) = q_7 kind
  desks (suc (suc (suc (suc (suc (suc (suc zero))))))) = q_8 kind
  desks (suc (suc (suc (suc (suc (suc (suc (suc zero)))))))) = q_8 kind
  desks (suc (suc (suc (suc (suc (suc (suc (suc (suc i))))))))) = q_9 kind

  abbrev stage : ℕ → Stage (small kind)
  stage i = staged (moment i) (desks i)

  goes_on : (i : ℕ) → Does (stage i) (stage (suc i)) (deed i)
  unfolding put ℕ_discrete lock_at
  goes_on zero = calls_does (first_locks kind).at (q_3 kind) 0 (omega arith) refl refl refl
  goes_on (suc zero) = steps_does (first_locks kind).at (q_4 kind) (releases kind) refl refl
  goes_on (suc (suc zero)) = answers_does (releases kind).at (q_4 kind) 1 0 (free kind) (seated refl refl refl (omega arith)) refl
      (unlock 0) Done (freed kind) (is_freed kind)
  goes_on (suc (suc (suc zero))) = calls_does (releases kind).at (q_5 kind) 1 (omega arith) refl refl refl
  goes_on (suc (suc (suc (suc zero)))) = steps_does (releases kind).at (q_6 kind) (second_locks kind) refl refl
  goes_on (suc (suc (suc (suc (suc zero))))) = answers_does (second_locks kind).at (q_6 kind) 0 1 (owner_1 kind)
      (seated refl refl refl (omega arith)) refl (lock 0 ToTheEnd) Done (locked kind) (is_locked kind)
  goes_on (suc (suc (suc (suc (suc (suc zero)))))) = calls_does (second_locks kind).at (q_7 kind) 1 (omega arith) refl refl refl
  goes_on (suc (suc (suc (suc (suc (suc (suc zero))))))) = steps_does (second_locks kind).at (q_8 kind) (second_gives kind) refl refl
  goes_on (suc (suc (suc (suc (suc (suc (suc (suc zero)))))))) = answers_does (second_gives kind).at (q_8 kind) 0 1 (free_1 kind)
      (seated refl refl refl (omega arith)) refl (unlock 0) Done (freed_1 kind) (is_freed_1 kind)
  goes_on (suc (suc (suc (suc (suc (suc (suc (suc (suc i))))))))) = refl

  -- ---- each desk knows its seat

  first_knows : KnowsItsSeat ((q_3 kind).desk 0)
  unfolding put ℕ_discrete
  first_knows = record { holds = one_there; stamp = refl }

  first_knows_then : KnowsItsSeat (freed kind)
  unfolding put ℕ_discrete
  first_knows_then = record { holds = none_at_all; stamp = refl }

  second_knows : KnowsItsSeat ((q_3 kind).desk 1)
  unfolding put ℕ_discrete
  second_knows = record { holds = none_there 65; stamp = refl }

  second_knows_then : KnowsItsSeat (locked kind)
  unfolding put ℕ_discrete
  second_knows_then = record { holds = one_there; stamp = refl }

  second_knows_later : KnowsItsSeat (freed_1 kind)
  unfolding put ℕ_discrete
  second_knows_later = record { holds = none_at_all; stamp = refl }

  know : AllKnowTheirSeats stage
  unfolding put ℕ_discrete
  know zero zero low idle = first_knows
  know (suc zero) zero low idle = first_knows
  know (suc (suc zero)) zero low idle = first_knows
  know (suc (suc (suc zero))) zero low idle = first_knows_then
  know (suc (suc (suc (suc zero)))) zero low idle = first_knows_then
  know (suc (suc (suc (suc (suc zero))))) zero low idle = first_knows_then
  know (suc (suc (suc (suc (suc (suc zero)))))) zero low idle = first_knows_then
  know (suc (suc (suc (suc (suc (suc (suc zero))))))) zero low idle = first_knows_then
  know (suc (suc (suc (suc (suc (suc (suc (suc zero)))))))) zero low idle = first_knows_then
  know (suc (suc (suc (suc (suc (suc (suc (suc (suc i))))))))) zero low idle = first_knows_then
  know zero (suc zero) low idle = second_knows
  know (suc zero) (suc zero) low idle = second_knows
  know (suc (suc zero)) (suc zero) low idle = second_knows
  know (suc (suc (suc zero))) (suc zero) low idle = second_knows
  know (suc (suc (suc (suc zero)))) (suc zero) low idle = second_knows
  know (suc (suc (suc (suc (suc zero))))) (suc zero) low idle = second_knows
  know (suc (suc (suc (suc (suc (suc zero)))))) (suc zero) low idle = second_knows_then
  know (suc (suc (suc (suc (suc (suc (suc zero))))))) (suc zero) low idle = second_knows_then
  know (suc (suc (suc (suc (suc (suc (suc (suc zero)))))))) (suc zero) low idle = second_knows_then
  know (suc (suc (suc (suc (suc (suc (suc (suc (suc i))))))))) (suc zero) low idle = second_knows_later
  know i (suc (suc d)) low idle = absurd (omega arith)

  -- ---- the calls

  amid_0 : (k : ℕ) → 1 ≤ k → k ≤ 2 → (stage k).calling 0 ≡ true
  unfolding put ℕ_discrete
  amid_0 zero low high = absurd (omega arith)
  amid_0 (suc zero) low high = refl
  amid_0 (suc (suc zero)) low high = refl
  amid_0 (suc (suc (suc k))) low high = absurd (omega arith)

  amid_1 : (k : ℕ) → 4 ≤ k → k ≤ 5 → (stage k).calling 1 ≡ true
  unfolding put ℕ_discrete
  amid_1 (suc (suc (suc (suc zero)))) low high = refl
  amid_1 (suc (suc (suc (suc (suc zero))))) low high = refl
  amid_1 (suc (suc (suc (suc (suc (suc k)))))) low high = absurd (omega arith)
  amid_1 _ low high = absurd (omega arith)

  amid_2 : (k : ℕ) → 7 ≤ k → k ≤ 8 → (stage k).calling 1 ≡ true
  unfolding put ℕ_discrete
  amid_2 (suc (suc (suc (suc (suc (suc (suc zero))))))) low high = refl
  amid_2 (suc (suc (suc (suc (suc (suc (suc (suc zero)))))))) low high = refl
  amid_2 (suc (suc (suc (suc (suc (suc (suc (suc (suc k))))))))) low high = absurd (omega arith)
  amid_2 _ low high = absurd (omega arith)

  abbrev Ends : ℕ → ℕ → Type 0
  Ends d i = (j : ℕ) × (call : Call) × (a : Answer) × ((deed i ≡ answers d call a) ⊎ AnswersAt stage deed d i j call a)

  ends_0 : (i : ℕ) → (stage i).calling 0 ≡ true → Ends 0 i
  unfolding put ℕ_discrete
  ends_0 zero on = absurd (true≢false (sym on))
  ends_0 (suc zero) on = (2, unlock 0, Done, inr (record { later = omega arith; amid = amid_0; answer = refl }))
  ends_0 (suc (suc zero)) on = (2, unlock 0, Done, inl refl)
  ends_0 (suc (suc (suc zero))) on = absurd (true≢false (sym on))
  ends_0 (suc (suc (suc (suc zero)))) on = absurd (true≢false (sym on))
  ends_0 (suc (suc (suc (suc (suc zero))))) on = absurd (true≢false (sym on))
  ends_0 (suc (suc (suc (suc (suc (suc zero)))))) on = absurd (true≢false (sym on))
  ends_0 (suc (suc (suc (suc (suc (suc (suc zero))))))) on = absurd (true≢false (sym on))
  ends_0 (suc (suc (suc (suc (suc (suc (suc (suc zero)))))))) on = absurd (true≢false (sym on))
  ends_0 (suc (suc (suc (suc (suc (suc (suc (suc (suc i))))))))) on = absurd (true≢false (sym on))

  ends_1 : (i : ℕ) → (stage i).calling 1 ≡ true → Ends 1 i
  unfolding put ℕ_discrete
  ends_1 zero on = absurd (true≢false (sym on))
  ends_1 (suc zero) on = absurd (true≢false (sym on))
  ends_1 (suc (suc zero)) on = absurd (true≢false (sym on))
  ends_1 (suc (suc (suc zero))) on = absurd (true≢false (sym on))
  ends_1 (suc (suc (suc (suc zero)))) on = (5, lock 0 ToTheEnd, Done, inr (record { later = omega arith; amid = amid_1; answer = refl }))
  ends_1 (suc (suc (suc (suc (suc zero))))) on = (5, lock 0 ToTheEnd, Done, inl refl)
  ends_1 (suc (suc (suc (suc (suc (suc zero)))))) on = absurd (true≢false (sym on))
  ends_1 (suc (suc (suc (suc (suc (suc (suc zero))))))) on = (8, unlock 0, Done, inr (record { later = omega arith; amid = amid_2; answer = refl }))
  ends_1 (suc (suc (suc (suc (suc (suc (suc (suc zero)))))))) on = (8, unlock 0, Done, inl refl)
  ends_1 (suc (suc (suc (suc (suc (suc (suc (suc (suc i))))))))) on = absurd (true≢false (sym on))

  -- which steps they make
  steps_0 : (i : ℕ) (x : Step) → deed i ≡ steps 0 (Some x) → x ≡ performs (FastGive 0 0)
  steps_0 zero x is = absurd (cc)
  steps_0 (suc zero) x is = let same : performs (FastGive 0 0) ≡ x = cc in sym same
  steps_0 (suc (suc zero)) x is = absurd (cc)
  steps_0 (suc (suc (suc zero))) x is = absurd (cc)
  steps_0 (suc (suc (suc (suc zero)))) x is = absurd (let e : ◌≡◌ {A = ℕ} 1 0 = cc in omega arith)
  steps_0 (suc (suc (suc (suc (suc zero))))) x is = absurd (cc)
  steps_0 (suc (suc (suc (suc (suc (suc zero)))))) x is = absurd (cc)
  steps_0 (suc (suc (suc (suc (suc (suc (suc zero))))))) x is = absurd (let e : ◌≡◌ {A = ℕ} 1 0 = cc in omega arith)
  steps_0 (suc (suc (suc (suc (suc (suc (suc (suc zero)))))))) x is = absurd (cc)
  steps_0 (suc (suc (suc (suc (suc (suc (suc (suc (suc i))))))))) x is = absurd (cc)

  steps_1 : (i : ℕ) (x : Step) → deed i ≡ steps 1 (Some x) → ((i ≡ 4) × (x ≡ performs (Fast 1 0))) ⊎ (x ≡ performs (FastGive 1 0))
  steps_1 zero x is = absurd (cc)
  steps_1 (suc zero) x is = absurd (let e : ◌≡◌ {A = ℕ} 0 1 = cc in omega arith)
  steps_1 (suc (suc zero)) x is = absurd (cc)
  steps_1 (suc (suc (suc zero))) x is = absurd (cc)
  steps_1 (suc (suc (suc (suc zero)))) x is = let same : performs (Fast 1 0) ≡ x = cc in inl (refl, sym same)
  steps_1 (suc (suc (suc (suc (suc zero))))) x is = absurd (cc)
  steps_1 (suc (suc (suc (suc (suc (suc zero)))))) x is = absurd (cc)
  steps_1 (suc (suc (suc (suc (suc (suc (suc zero))))))) x is = let same : performs (FastGive 1 0) ≡ x = cc in inr (sym same)
  steps_1 (suc (suc (suc (suc (suc (suc (suc (suc zero)))))))) x is = absurd (cc)
  steps_1 (suc (suc (suc (suc (suc (suc (suc (suc (suc i))))))))) x is = absurd (cc)

  wants_none : (d e m n : ℕ) (x : Step) → x ≡ performs (FastGive e m) → Wants d n x → ⊥
  wants_none d e m n x is (inl want) = let both = sym is ∙ want in cc
  wants_none d e m n x is (inr (inl want)) = let both = sym is ∙ want in cc
  wants_none d e m n x is (inr (inr want)) = let both = sym is ∙ want in cc

  wants_lock : (n : ℕ) (x : Step) → x ≡ performs (Fast 1 0) → Wants 1 n x → n ≡ 0
  wants_lock n x is (inl want) = let both : performs (Fast 1 0) ≡ performs (Fast 1 n) = sym is ∙ want in let same : 0 ≡ n = cc in sym same
  wants_lock n x is (inr (inl want)) = absurd (let both = sym is ∙ want in cc)
  wants_lock n x is (inr (inr want)) = absurd (let both = sym is ∙ want in cc)

  -- the call of the second that is on its way at 4 is for lock 0
  answered_1 : (j : ℕ) (call : Call) (a : Answer) → AnswersAt stage deed 1 4 j call a → call ≡ lock 0 ToTheEnd
  unfolding put ℕ_discrete
  answered_1 zero call a c = absurd (let is = c.answer in cc)
  answered_1 (suc zero) call a c = absurd (let is = c.answer in cc)
  answered_1 (suc (suc zero)) call a c = absurd (let is = c.answer in let e : ◌≡◌ {A = ℕ} 0 1 = cc in omega arith)
  answered_1 (suc (suc (suc zero))) call a c = absurd (let is = c.answer in cc)
  answered_1 (suc (suc (suc (suc zero)))) call a c = absurd (let is = c.answer in cc)
  answered_1 (suc (suc (suc (suc (suc zero))))) call a c = let same : lock 0 ToTheEnd ≡ call = (let is = c.answer in cc) in sym same
  answered_1 (suc (suc (suc (suc (suc (suc zero)))))) call a c = absurd (let is = c.answer in cc)
  answered_1 (suc (suc (suc (suc (suc (suc (suc zero))))))) call a c = absurd (let is = c.answer in cc)
  answered_1 (suc (suc (suc (suc (suc (suc (suc (suc zero)))))))) call a c = absurd (true≢false (sym (c.amid 6 (omega arith) (omega arith))))
  answered_1 (suc (suc (suc (suc (suc (suc (suc (suc (suc i))))))))) call a c = absurd (let is = c.answer in cc)

  keeps_0 : KeepsToItsCalls stage deed 0
  keeps_0 = record {
    ends = ends_0;
    wants = λ i j n x call a is want c. absurd (wants_none 0 0 0 n x (steps_0 i x is) want);
    dies = λ i j m call a is c. absurd (let same = steps_0 i (performs (Die 0 m)) is in cc);
    dies_last = λ g i j m n x call a less is at want later c. absurd (let same = steps_0 g (performs (Die 0 m)) is in cc);
    end_ends = λ i j call a is c. absurd (let same = steps_0 i (performs (End 0)) is in cc);
  }

  keeps_1 : KeepsToItsCalls stage deed 1
  keeps_1 = record {
    ends = ends_1;
    wants = λ i j n x call a is want c. ⊎_elim
        (λ locks. let at = answered_1 j call a (subst (λ k. AnswersAt stage deed 1 k j call a) locks.0 c) in
        ap (λ y. lock_for y ((stage j).desk 1).turn) at ∙ ap Some (sym (wants_lock n x locks.1 want)))
        (λ gives. absurd (wants_none 1 1 0 n x gives want)) (steps_1 i x is);
    dies = λ i j m call a is c. absurd (⊎_elim (λ locks. let same = locks.1 in cc) (λ same. cc) (steps_1 i (performs (Die 1 m)) is));
    dies_last = λ g i j m n x call a less is at want later c.
        ⊎_elim (λ locks. let same = locks.1 in cc) (λ same. cc) (steps_1 g (performs (Die 1 m)) is);
    end_ends = λ i j call a is c. absurd (⊎_elim (λ locks. let same = locks.1 in cc) (λ same. cc) (steps_1 i (performs (End 1)) is));
  }

  keeps : (d : ℕ) → d < 2 → KeepsToItsCalls stage deed d
  keeps zero low = keeps_0
  keeps (suc zero) low = keeps_1
  keeps (suc (suc d)) low = absurd (omega arith)

  -- ---- the loops

  abbrev Answered : ℕ → ℕ → Call → Answer → Type 0
  Answered = AnswersInLoop stage deed phase asked

  answers_0 : (i : ℕ) (call : Call) (a : Answer) → deed i ≡ answers 0 call a → Answered 0 i call a
  answers_0 zero call a is = absurd (cc)
  answers_0 (suc zero) call a is = absurd (cc)
  answers_0 (suc (suc zero)) call a is = let c : unlock 0 ≡ call = cc in let b : Done ≡ a = cc in
      subst (λ x. Answered 0 2 x a) c (subst (λ y. Answered 0 2 (unlock 0) y) b (record { may = tt; next = refl; asks = refl }))
  answers_0 (suc (suc (suc zero))) call a is = absurd (cc)
  answers_0 (suc (suc (suc (suc zero)))) call a is = absurd (cc)
  answers_0 (suc (suc (suc (suc (suc zero))))) call a is = absurd (let e : ◌≡◌ {A = ℕ} 1 0 = cc in omega arith)
  answers_0 (suc (suc (suc (suc (suc (suc zero)))))) call a is = absurd (cc)
  answers_0 (suc (suc (suc (suc (suc (suc (suc zero))))))) call a is = absurd (cc)
  answers_0 (suc (suc (suc (suc (suc (suc (suc (suc zero)))))))) call a is = absurd (let e : ◌≡◌ {A = ℕ} 1 0 = cc in omega arith)
  answers_0 (suc (suc (suc (suc (suc (suc (suc (suc (suc i))))))))) call a is = absurd (cc)

  otherwise_0 : (i : ℕ) → ((call : Call) (a : Answer) → deed i ≢ answers 0 call a) →
      StaysInLoop stage deed phase asked 0 i ⊎ GoesInLoop stage deed phase asked 0 i
  unfolding put ℕ_discrete
  otherwise_0 zero isnt = inr (record { idle = refl; rests = refl; goes = (refl, refl) })
  otherwise_0 (suc i) isnt = inl (record { next = refl; asks = refl })

  answers_1 : (i : ℕ) (call : Call) (a : Answer) → deed i ≡ answers 1 call a → Answered 1 i call a
  answers_1 zero call a is = absurd (cc)
  answers_1 (suc zero) call a is = absurd (cc)
  answers_1 (suc (suc zero)) call a is = absurd (let e : ◌≡◌ {A = ℕ} 0 1 = cc in omega arith)
  answers_1 (suc (suc (suc zero))) call a is = absurd (cc)
  answers_1 (suc (suc (suc (suc zero)))) call a is = absurd (cc)
  answers_1 (suc (suc (suc (suc (suc zero))))) call a is = let c : lock 0 ToTheEnd ≡ call = cc in let b : Done ≡ a = cc in
      subst (λ x. Answered 1 5 x a) c (subst (λ y. Answered 1 5 (lock 0 ToTheEnd) y) b (record { may = tt; next = refl; asks = refl }))
  answers_1 (suc (suc (suc (suc (suc (suc zero)))))) call a is = absurd (cc)
  answers_1 (suc (suc (suc (suc (suc (suc (suc zero))))))) call a is = absurd (cc)
  answers_1 (suc (suc (suc (suc (suc (suc (suc (suc zero)))))))) call a is = let c : unlock 0 ≡ call = cc in let b : Done ≡ a = cc in
      subst (λ x. Answered 1 8 x a) c (subst (λ y. Answered 1 8 (unlock 0) y) b (record { may = tt; next = refl; asks = refl }))
  answers_1 (suc (suc (suc (suc (suc (suc (suc (suc (suc i))))))))) call a is = absurd (cc)

  otherwise_1 : (i : ℕ) → ((call : Call) (a : Answer) → deed i ≢ answers 1 call a) →
      StaysInLoop stage deed phase asked 1 i ⊎ GoesInLoop stage deed phase asked 1 i
  unfolding put ℕ_discrete
  otherwise_1 zero isnt = inl (record { next = refl; asks = refl })
  otherwise_1 (suc zero) isnt = inl (record { next = refl; asks = refl })
  otherwise_1 (suc (suc zero)) isnt = inl (record { next = refl; asks = refl })
  otherwise_1 (suc (suc (suc zero))) isnt = inl (record { next = refl; asks = refl })
  otherwise_1 (suc (suc (suc (suc zero)))) isnt = inl (record { next = refl; asks = refl })
  otherwise_1 (suc (suc (suc (suc (suc zero))))) isnt = absurd (isnt (lock 0 ToTheEnd) Done refl)
  otherwise_1 (suc (suc (suc (suc (suc (suc zero)))))) isnt = inr (record { idle = refl; rests = refl; goes = (refl, refl) })
  otherwise_1 (suc (suc (suc (suc (suc (suc (suc zero))))))) isnt = inl (record { next = refl; asks = refl })
  otherwise_1 (suc (suc (suc (suc (suc (suc (suc (suc zero)))))))) isnt = inl (record { next = refl; asks = refl })
  otherwise_1 (suc (suc (suc (suc (suc (suc (suc (suc (suc i))))))))) isnt = inl (record { next = refl; asks = refl })

  has_context : (d : ℕ) → d < 2 → 0 < (core (first_locks kind).at.moment).stamp d
  unfolding put ℕ_discrete
  has_context zero low = let is = ap (λ (c : State). c.stamp 0) (first_locks kind).at.is_core in omega arith
  has_context (suc zero) low = let is = ap (λ (c : State). c.stamp 1) (first_locks kind).at.is_core in omega arith
  has_context (suc (suc d)) low = absurd (omega arith)

  loops : (d : ℕ) → d < 2 → LoopsBy stage deed phase asked d
  unfolding put ℕ_discrete
  loops zero low = record {
    begins = λ n. sym (or_none (is_among n (0 ∷ [])));
    context = λ _. has_context 0 low;
    when_answers = answers_0;
    otherwise = otherwise_0;
  }
  loops (suc zero) low = record {
    begins = λ n. refl;
    context = λ _. has_context 1 low;
    when_answers = answers_1;
    otherwise = otherwise_1;
  }
  loops (suc (suc d)) low = absurd (omega arith)

  -- ---- in the end both rest

  late_case : (P : ℕ → Type 0) → ((i : ℕ) → P (late i)) → (k : ℕ) → 9 ≤ k → P k
  late_case P h (suc (suc (suc (suc (suc (suc (suc (suc (suc i))))))))) less = h i
  late_case P h _ less = absurd (omega arith)

  sits : AreSeated kind (p_7 kind) (free kind) (free_1 kind)
  unfolding put ℕ_discrete lock_at
  sits = record { first = seated refl refl refl (omega arith); second = seated refl refl refl (omega arith) }

  abbrev last : Moment (small kind)
  last = (second_gives kind).at.moment

  bare_last : (d n : ℕ) → d < 2 → owns (view last d) n ≡ false
  bare_last zero n low = ap (λ (q : Part). slice_index_or q.core.owned n false) (sym (first_is (second_gives kind).at sits)) ∙ none_at_all n
  bare_last (suc zero) n low = ap (λ (q : Part). slice_index_or q.core.owned n false) (sym (second_is (second_gives kind).at sits)) ∙ none_at_all n
  bare_last (suc (suc d)) n low = absurd (omega arith)

  away_last : (d : ℕ) → d < 2 → (view last d).waits ≡ 0
  away_last zero low = ap (λ (q : Part). q.core.waits) (sym (first_is (second_gives kind).at sits))
  away_last (suc zero) low = ap (λ (q : Part). q.core.waits) (sym (second_is (second_gives kind).at sits))
  away_last (suc (suc d)) low = absurd (omega arith)

  owns_none : (d : ℕ) → d < 2 → OwnsNone (core last) d
  owns_none d low n has = true≢false (sym ((knows_there last d low).owned.lacks n (has ∙ ap Taken (sym (who_there last d low))))
      ∙ bare_last d n low)

  in_no_queue : (d : ℕ) → d < 2 → InNoQueue (core last) d
  in_no_queue d low n e has is = let waits = (knows_there last d low).queues.waits n (e, has, is ∙ sym (who_there last d low)) in
      let none = away_last d low in omega arith

  -- nor do others, who have no seat
  bare : (s : ℕ) → OwnsNone (core last) s
  bare s = dite (dec_le 2 s) (λ far. (last.strangers s far).bare) (λ near. owns_none s (omega arith))

  away : (s : ℕ) → InNoQueue (core last) s
  away s = dite (dec_le 2 s) (λ far. (last.strangers s far).waits) (λ near. in_no_queue s (omega arith))

  rests : (s i : ℕ) → RestsOn (as_scenes stage) (steps_by (small kind) deed) s (late i)
  rests s i k later same = late_case (λ x. OwnsNone (core (moment x)) s × InNoQueue (core (moment x)) s)
      (λ _. (bare s, away s)) k (omega arith)

  holders_release : HoldersRelease (as_scenes stage) (steps_by (small kind) deed)
  holders_release i s n has = (late i, omega arith, inl (bare s n))

  contexts_end : ContextsEndOrDie (as_scenes stage) (steps_by (small kind) deed)
  contexts_end i s some = (late i, omega arith, inl (inr (rests s i)))

  rounds_0 : RoundsGoOn stage deed phase asked 0
  rounds_0 = record {
    most = 1;
    finite = few;
    asks = λ i runs untold. (late i, omega arith, inr (inl refl));
    backs_off = λ i m is. absurd (never i m is);
    releases = λ i n out has. (late i, omega arith, owns_none 0 (omega arith) n);
  }
    where
      few : (i : ℕ) → length (asked i 0) ≤ 1
      few zero = omega arith
      few (suc i) = omega arith

      never : (i m : ℕ) → phase i 0 ≢ told m
      never zero m is = cc
      never (suc i) m is = cc

  goes_0 : ProgramGoesOn stage deed phase asked 0
  goes_0 = record {
    rounds = rounds_0;
    few_loops = λ i some. (late i, omega arith, λ k later same out. refl);
    ends = λ i some none. (late i, omega arith, inr (rests 0 i));
  }

  rounds_1 : RoundsGoOn stage deed phase asked 1
  rounds_1 = record {
    most = 1;
    finite = few;
    asks = λ i runs untold. (late i, omega arith, inr (inl refl));
    backs_off = λ i m is. absurd (never i m is);
    releases = λ i n out has. (late i, omega arith, owns_none 1 (omega arith) n);
  }
    where
      few : (i : ℕ) → length (asked i 1) ≤ 1
      few (suc (suc (suc (suc (suc (suc zero)))))) = omega arith
      few _ = omega arith

      never : (i m : ℕ) → phase i 1 ≢ told m
      never (suc (suc (suc (suc (suc (suc (suc i))))))) m is = cc
      never _ m is = cc

  goes_1 : ProgramGoesOn stage deed phase asked 1
  goes_1 = record {
    rounds = rounds_1;
    few_loops = λ i some. (late i, omega arith, λ k later same out. late_case (λ x. phase (suc x) 1 ≡ outside) (λ _. refl) k (omega arith));
    ends = λ i some none. (late i, omega arith, inr (rests 1 i));
  }

  programs_go_on : (d : ℕ) → d < 2 → ProgramGoesOn stage deed phase asked d
  programs_go_on zero low = goes_0
  programs_go_on (suc zero) low = goes_1
  programs_go_on (suc (suc d)) low = absurd (omega arith)

  -- ---- the context of the first is the oldest

  first_is_oldest : IsOldestInLoop stage deed phase 0 0
  unfolding put ℕ_discrete
  first_is_oldest = let one = ap (λ (c : State). c.stamp 0) (first_locks kind).at.is_core in record {
    runs = λ is. cc;
    oldest = record { context = has_context 0 (omega arith); older = λ t some less. absurd (omega arith) };
    unsigned = ap (λ (c : State). c.sign 0) (first_locks kind).at.is_core;
  }

  is_of_kind : (core (first_locks kind).at.moment).kind ≡ kind
  unfolding put ℕ_discrete
  is_of_kind = ap (λ (c : State). c.kind) (first_locks kind).at.is_core

  -- ---- drivers are scheduled: nobody waits, sleeps, or has anybody to wake

  record IsCalm (m : Moment (small kind)) : Type 0 where
    token : (s : ℕ) → m.token s ≡ false
    unowed : (s u : ℕ) → ¬ HasToWake m s u
    risen : (s : ℕ) → m.risen s ≡ 0
    naps : (s : ℕ) → s < 2 → (view m s).naps ≡ 0
    waits : (s : ℕ) → s < 2 → (view m s).waits ≡ 0

  both : (P : ℕ → Type 0) → P 0 → P 1 → (s : ℕ) → s < 2 → P s
  both P first second zero low = first
  both P first second (suc zero) low = second
  both P first second (suc (suc s)) low = absurd (omega arith)

  is_calm : {p : Picture} (a : At (small kind) p) {v w : Sight} (sit : AreSeated kind p v w) → ((s : ℕ) → p.token s ≡ false) → p.rung 0 1 ≡ wakes_owed v.part 1 → p.rung 1 0 ≡ wakes_owed w.part 0 → v.part.core.naps ≡ 0 → w.part.core.naps ≡ 0 →
      v.part.core.waits ≡ 0 → w.part.core.waits ≡ 0 → IsCalm a.moment
  is_calm a {v = v} {w = w} sit no_token paid_1 paid_0 = λ v_naps w_naps v_waits w_waits. record {
    token = λ s. ap (λ (f : ℕ → Bool). f s) a.token ∙ no_token s;
    unowed = nothing_owed a sit paid_1 paid_0;
    risen = λ s. ap (λ (f : ℕ → ℕ). f s) a.risen;
    naps = both (λ s. (view a.moment s).naps ≡ 0) (ap (λ (q : Part). q.core.naps) (sym (first_is a sit)) ∙ v_naps)
        (ap (λ (q : Part). q.core.naps) (sym (second_is a sit)) ∙ w_naps);
    waits = both (λ s. (view a.moment s).waits ≡ 0) (ap (λ (q : Part). q.core.waits) (sym (first_is a sit)) ∙ v_waits)
        (ap (λ (q : Part). q.core.waits) (sym (second_is a sit)) ∙ w_waits);
  }

  calm_1 : IsCalm (first_locks kind).at.moment
  unfolding put ℕ_discrete lock_at
  calm_1 = is_calm (first_locks kind).at {v = holder_2 kind} {w = waiter_1 kind}
      (record { first = seated refl refl refl (omega arith); second = seated refl refl refl (omega arith) })
      (λ s. refl) refl refl refl refl refl refl

  calm_2 : IsCalm (releases kind).at.moment
  unfolding put ℕ_discrete lock_at
  calm_2 = is_calm (releases kind).at {v = free kind} {w = waiter_1 kind}
      (record { first = seated refl refl refl (omega arith); second = seated refl refl refl (omega arith) })
      (λ s. refl) refl refl refl refl refl refl

  calm_3 : IsCalm (second_locks kind).at.moment
  unfolding put ℕ_discrete lock_at
  calm_3 = is_calm (second_locks kind).at {v = free kind} {w = owner_1 kind}
      (record { first = seated refl refl refl (omega arith); second = seated refl refl refl (omega arith) })
      (λ s. refl) refl refl refl refl refl refl

  calm_4 : IsCalm (second_gives kind).at.moment
  unfolding put ℕ_discrete lock_at
  calm_4 = is_calm (second_gives kind).at {v = free kind} {w = free_1 kind} sits (λ s. refl) refl refl refl refl refl refl

  calm : (i : ℕ) → IsCalm (moment i)
  calm zero = calm_1
  calm (suc zero) = calm_1
  calm (suc (suc zero)) = calm_2
  calm (suc (suc (suc zero))) = calm_2
  calm (suc (suc (suc (suc zero)))) = calm_2
  calm (suc (suc (suc (suc (suc zero))))) = calm_3
  calm (suc (suc (suc (suc (suc (suc zero)))))) = calm_3
  calm (suc (suc (suc (suc (suc (suc (suc zero))))))) = calm_3
  calm (suc (suc (suc (suc (suc (suc (suc (suc i)))))))) = calm_4

  owes_nobody : (i : ℕ) → OwesNobody (small kind) (desks i)
  unfolding put ℕ_discrete
  owes_nobody zero = owe_nobody (desks 0) has_no_mark has_no_mark (λ s. refl) (λ s. refl)
  owes_nobody (suc zero) = owe_nobody (desks 1) has_no_mark has_no_mark (λ s. refl) (λ s. refl)
  owes_nobody (suc (suc zero)) = owe_nobody (desks 2) has_no_mark has_no_mark (λ s. refl) (λ s. refl)
  owes_nobody (suc (suc (suc zero))) = owe_nobody (desks 3) has_no_mark has_no_mark (λ s. refl) (λ s. refl)
  owes_nobody (suc (suc (suc (suc zero)))) = owe_nobody (desks 4) has_no_mark has_no_mark (λ s. refl) (λ s. refl)
  owes_nobody (suc (suc (suc (suc (suc zero))))) = owe_nobody (desks 5) has_no_mark has_no_mark (λ s. refl) (λ s. refl)
  owes_nobody (suc (suc (suc (suc (suc (suc zero)))))) = owe_nobody (desks 6) has_no_mark has_no_mark (λ s. refl) (λ s. refl)
  owes_nobody (suc (suc (suc (suc (suc (suc (suc zero))))))) = owe_nobody (desks 7) has_no_mark has_no_mark (λ s. refl) (λ s. refl)
  owes_nobody (suc (suc (suc (suc (suc (suc (suc (suc zero)))))))) = owe_nobody (desks 8) has_no_mark has_no_mark (λ s. refl) (λ s. refl)
  owes_nobody (suc (suc (suc (suc (suc (suc (suc (suc (suc i))))))))) = owe_nobody (q_9 kind) has_no_mark has_no_mark (λ s. refl) (λ s. refl)

  none_due : (i t s : ℕ) → t < 2 → ¬ IsDueBy (stage i) t s
  none_due i = nothing_due (desks i) (owes_nobody i) (moment i) (calm i).unowed

  served : (s : ℕ) → s < 2 → IsServed stage deed s
  served s low = record {
    woken = λ i t few due. absurd (none_due i t s few due);
    rises = λ i token sleeps. absurd (true≢false (sym token ∙ (calm i).token s));
    settles = λ i left. absurd (let due = left.due in let none = (calm i).naps s low in let rose = (calm i).risen s in omega arith);
    looks = λ i n waits acts. absurd (let none = (calm i).waits s low in omega arith);
    leaves = λ i n waits inside. absurd (let none = (calm i).waits s low in omega arith);
  }

  locks_0 : LockCall stage deed 1 0 3 5
  locks_0 = record {
    begun = refl;
    waits = ToTheEnd;
    first = 5;
    answer = Done;
    after = omega arith;
    amid = λ k low high. amid_1 k (omega arith) high;
    answers_first = refl;
    ends = inl (refl, refl);
  }

pub loops_are_in_drives : LoopsAreInDrives
loops_are_in_drives kind = record {
  key = small kind;
  stage = stage kind;
  deed = deed;
  phase = phase;
  asked = asked;
  of_kind = refl;
  core_kind = is_of_kind kind;
  world = is_of_world kind;
  some = omega arith;
  are = record {
    endless = record { begins = (g_3 kind).driven; goes_on = goes_on kind };
    know = know kind;
    keeps = keeps kind;
    loops = loops kind;
  };
  served = served kind;
  goes_on = programs_go_on kind;
  release = holders_release kind;
  end_or_die = contexts_end kind;
  begun = λ d low. both_begun d low;
  oldest = (0, omega arith, first_is_oldest kind);
  call = (1, 0, 3, 5, omega arith, locks_0 kind);
}
  where
    both_begun : (d : ℕ) → d < 2 → phase 0 d ≡ ease
    both_begun zero low = refl
    both_begun (suc zero) low = refl
    both_begun (suc (suc d)) low = absurd (omega arith)
