-- Two loops that are deadlocked: the younger dies, and is told so, while the older sleeps.
use Rattle.std.proofs.Common.{◌≡◌, ◌≢◌, ◌⊎◌, ⊎_elim, inl, inr, ℕ, zero, suc, ◌<◌, ◌≤◌, ◌==◌, ◌||◌, true, false, true≢false, List, [], ◌∷◌, replicate, Some, refl, sym, ap, ◌∙◌, subst, arith}
use Rattle.std.specs.List.{slice_index_or}
use Rattle.std.proofs.lemmas.Bool.Decides.{nat_tests}
use native.Mathlib.Decide.{ℕ_discrete}
use Rattle.ww_plain.specs.Numbers.{is_among}
use Rattle.ww_queue.specs.declared.kind.Kind.{Kind}
use Rattle.ww_queue.specs.declared.kind.Kind.TheVariants.{WoundWait, WaitDie}
use Rattle.ww_model.specs.declared.event.Event.TheVariants.{Die, Unguard, End}
use Rattle.ww_model.specs.State.{State, put}
use Rattle.ww_invariant.specs.declared.cells.Sight.{Sight}
use Rattle.ww_invariant.specs.Layout.{lock_at}
use Rattle.ww_laws.specs.Scene.{Step, performs}
use Rattle.ww_laws.specs.Premises.{Wants}
use Rattle.ww_refines.specs.Moment.{core}
use Rattle.ww_refines.proofs.Pictures.{Picture, At}
use Rattle.ww_refines.proofs.Small.{small}
use Rattle.ww_refines.proofs.Deadlocked.{b_3, b_4, aged_out, wounded_out}
use Rattle.ww_refines.proofs.Doomed.{died_out, IsAboutToDie, are_dead, is_dying, is_wounded}
use Rattle.ww_steps.specs.declared.turn.Answer.{Answer}
use Rattle.ww_steps.specs.declared.turn.Answer.TheVariants.{Deadlk}
use Rattle.ww_callers.specs.Stages.{Stage}
use Rattle.ww_callers.specs.Deeds.{Call, Deed, steps, answers, go_on}
use Rattle.ww_callers.proofs.Shown.{Desks, Shown}
use Rattle.ww_callers.proofs.Backing.{once_told}
use Rattle.ww_callers.proofs.Starting.{is_of_world}
use Rattle.ww_callers.proofs.Doomed.{IsAboutToTell, stage, deed, goes_on}
use Rattle.ww_callers.proofs.Dying as dying
use Rattle.ww_callers.proofs.Wounding as wounding
use Rattle.ww_loops.specs.Calls.{KnowsItsSeat, AllKnowTheirSeats}
use Rattle.ww_loops.specs.Loops.{waits_at, lock_for, AnswersAt, KeepsToItsCalls, LoopState, ease, told, phase_after, asked_after, MayCall, AnswersInLoop, StaysInLoop, GoesInLoop, LoopsBy}
use Rattle.ww_loops.specs.Witness.{HasLoopTold, LoopsAreToldInDrives}
use Rattle.ww_loops.proofs.Looping.{or_none}
use Rattle.ww_loops.proofs.Two.{none_there, one_there}

-- the loop of the older goes on, and that of the younger until its call answers
abbrev phase_1 : ℕ → LoopState
phase_1 (suc (suc (suc i))) = told 0
phase_1 _ = ease

abbrev phase : ℕ → ℕ → LoopState
phase i zero = ease
phase i (suc d) = phase_1 i

abbrev asked_1 : ℕ → List ℕ
asked_1 (suc (suc (suc i))) = []
asked_1 _ = 1 ∷ []

abbrev asked : ℕ → ℕ → List ℕ
asked i zero = 0 ∷ []
asked i (suc d) = asked_1 i

-- Each has asked for one lock and has it, and has a context; the older is between two calls.
record AreInLoops (p : Picture) (q : Desks) (w : Sight) : Type 0 where
  idle : q.calling 0 ≡ false
  first_knows : KnowsItsSeat (q.desk 0)
  second_knows : KnowsItsSeat (once_told (q.desk 1) 0 (died_out w).part.core)
  first_holds : (q.desk 0).held ≡ 0 ∷ []
  second_holds : (q.desk 1).held ≡ 1 ∷ []
  first_context : 0 < p.core.stamp 0
  second_context : 0 < p.core.stamp 1

module _ {kind : Kind} {p : Picture} {a : At (small kind) p} {q : Desks} (g : Shown a q) (v w : Sight) (dead : IsAboutToDie kind p v w)
    (tells : IsAboutToTell q w) (l : AreInLoops p q w) where
  abbrev st : ℕ → Stage (small kind)
  st = stage g v w dead tells

  abbrev made : ℕ → Deed
  made = deed g v w dead tells

  know : AllKnowTheirSeats st
  unfolding put ℕ_discrete
  know zero zero low idle = l.first_knows
  know (suc zero) zero low idle = l.first_knows
  know (suc (suc zero)) zero low idle = l.first_knows
  know (suc (suc (suc i))) zero low idle = l.first_knows
  know zero (suc zero) low idle = absurd (true≢false (sym tells.calling ∙ idle))
  know (suc zero) (suc zero) low idle = absurd (true≢false (sym tells.calling ∙ idle))
  know (suc (suc zero)) (suc zero) low idle = absurd (true≢false (sym tells.calling ∙ idle))
  know (suc (suc (suc i))) (suc zero) low idle = l.second_knows
  know i (suc (suc d)) low idle = absurd (omega arith)

  -- ---- the calls

  calls_none : (i : ℕ) → (st i).calling 0 ≡ false
  unfolding put ℕ_discrete
  calls_none zero = l.idle
  calls_none (suc zero) = l.idle
  calls_none (suc (suc zero)) = l.idle
  calls_none (suc (suc (suc i))) = l.idle

  amid : (k : ℕ) → k ≤ 2 → (st k).calling 1 ≡ true
  unfolding put ℕ_discrete
  amid zero low = tells.calling
  amid (suc zero) low = tells.calling
  amid (suc (suc zero)) low = tells.calling
  amid (suc (suc (suc k))) low = absurd (omega arith)

  steps_0 : (i : ℕ) (x : Step) → made i ≢ steps 0 (Some x)
  steps_0 zero x is = let e : ◌≡◌ {A = ℕ} 1 0 = cc in omega arith
  steps_0 (suc zero) x is = let e : ◌≡◌ {A = ℕ} 1 0 = cc in omega arith
  steps_0 (suc (suc zero)) x is = cc
  steps_0 (suc (suc (suc i))) x is = cc

  steps_1 : (i : ℕ) (x : Step) → made i ≡ steps 1 (Some x) → ((i ≡ 0) × (x ≡ performs (Die 1 0))) ⊎ (x ≡ performs (Unguard 1 0))
  steps_1 zero x is = let same : performs (Die 1 0) ≡ x = cc in inl (refl, sym same)
  steps_1 (suc zero) x is = let same : performs (Unguard 1 0) ≡ x = cc in inr (sym same)
  steps_1 (suc (suc zero)) x is = absurd (cc)
  steps_1 (suc (suc (suc i))) x is = absurd (cc)

  wants_none : (n : ℕ) (x : Step) → (x ≡ performs (Die 1 0)) ⊎ (x ≡ performs (Unguard 1 0)) → Wants 1 n x → ⊥
  wants_none n x (inl is) (inl want) = let both = sym is ∙ want in cc
  wants_none n x (inl is) (inr (inl want)) = let both = sym is ∙ want in cc
  wants_none n x (inl is) (inr (inr want)) = let both = sym is ∙ want in cc
  wants_none n x (inr is) (inl want) = let both = sym is ∙ want in cc
  wants_none n x (inr is) (inr (inl want)) = let both = sym is ∙ want in cc
  wants_none n x (inr is) (inr (inr want)) = let both = sym is ∙ want in cc

  no_wish : (i n : ℕ) (x : Step) → made i ≡ steps 1 (Some x) → Wants 1 n x → ⊥
  no_wish i n x is = wants_none n x (⊎_elim (λ dies. inl dies.1) inr (steps_1 i x is))

  -- the younger's call answers at 2
  answered : (j : ℕ) (call : Call) (b : Answer) → AnswersAt st made 1 0 j call b → (j ≡ 2) × (go_on ≡ call) × (Deadlk 1 ≡ b)
  answered zero call b c = absurd (let is = c.answer in cc)
  answered (suc zero) call b c = absurd (let is = c.answer in cc)
  answered (suc (suc zero)) call b c = let is = c.answer in (refl, (let same : go_on ≡ call = cc in same), (let same : Deadlk 1 ≡ b = cc in same))
  answered (suc (suc (suc i))) call b c = absurd (let is = c.answer in cc)

  for_lock : lock_for go_on ((st 2).desk 1).turn ≡ Some 0
  for_lock = ap waits_at tells.turn

  died : (i m : ℕ) → made i ≡ steps 1 (Some (performs (Die 1 m))) → (i ≡ 0) × (m ≡ 0)
  died i m is = ⊎_elim (λ dies. (dies.0, (let both = dies.1 in let same : m ≡ 0 = cc in same)))
      (λ leaves. absurd (let both = leaves in cc)) (steps_1 i (performs (Die 1 m)) is)

  keeps_0 : KeepsToItsCalls st made 0
  keeps_0 = record {
    ends = λ i on. absurd (true≢false (sym on ∙ calls_none i));
    wants = λ i j n x call b is want c. absurd (steps_0 i x is);
    dies = λ i j m call b is c. absurd (steps_0 i (performs (Die 0 m)) is);
    dies_last = λ i j k m n x call b less is at want later c. steps_0 i (performs (Die 0 m)) is;
    end_ends = λ i j call b is c. absurd (steps_0 i (performs (End 0)) is);
  }

  abbrev Ends : ℕ → Type 0
  Ends i = (j : ℕ) × (call : Call) × (b : Answer) × ((made i ≡ answers 1 call b) ⊎ AnswersAt st made 1 i j call b)

  ends_1 : (i : ℕ) → (st i).calling 1 ≡ true → Ends i
  unfolding put ℕ_discrete
  ends_1 zero on = (2, go_on, Deadlk 1, inr (record { later = omega arith; amid = λ k low high. amid k high; answer = refl }))
  ends_1 (suc zero) on = (2, go_on, Deadlk 1, inr (record { later = omega arith; amid = λ k low high. amid k high; answer = refl }))
  ends_1 (suc (suc zero)) on = (2, go_on, Deadlk 1, inl refl)
  ends_1 (suc (suc (suc i))) on = absurd (true≢false (sym on))

  keeps_1 : KeepsToItsCalls st made 1
  keeps_1 = record {
    ends = ends_1;
    wants = λ i j n x call b is want c. absurd (no_wish i n x is want);
    dies = λ i j m call b is c. let its = died i m is in
        let t = answered j call b (subst (λ k. AnswersAt st made 1 k j call b) its.0 c) in (
          ap (λ e. lock_for e ((st j).desk 1).turn) (sym t.1) ∙ ap (λ k. lock_for go_on ((st k).desk 1).turn) t.0 ∙ for_lock
              ∙ ap Some (sym its.1),
          (1, sym t.2),
        );
    dies_last = λ i j k m n x call b less is at want later c. no_wish j n x at want;
    end_ends = λ i j call b is c. absurd (⊎_elim (λ dies. let both = dies.1 in cc) (λ leaves. let both = leaves in cc)
        (steps_1 i (performs (End 1)) is));
  }

  keeps : (d : ℕ) → d < 2 → KeepsToItsCalls st made d
  keeps zero low = keeps_0
  keeps (suc zero) low = keeps_1
  keeps (suc (suc d)) low = absurd (omega arith)

  -- ---- the loops

  answers_none : (i : ℕ) (call : Call) (b : Answer) → made i ≢ answers 0 call b
  answers_none zero call b is = cc
  answers_none (suc zero) call b is = cc
  answers_none (suc (suc zero)) call b is = let e : ◌≡◌ {A = ℕ} 1 0 = cc in omega arith
  answers_none (suc (suc (suc i))) call b is = cc

  its_answer : AnswersInLoop st made phase asked 1 2 go_on (Deadlk 1)
  its_answer = record {
    may = subst (λ n. MayCall ease go_on n) (sym for_lock) tt;
    next = subst (λ n. told 0 ≡ phase_after ease go_on n (Deadlk 1)) (sym for_lock) refl;
    asks = subst (λ n. [] ≡ asked_after ease (1 ∷ []) n (Deadlk 1)) (sym for_lock) refl;
  }

  answers_1 : (i : ℕ) (call : Call) (b : Answer) → made i ≡ answers 1 call b → AnswersInLoop st made phase asked 1 i call b
  answers_1 zero call b is = absurd (cc)
  answers_1 (suc zero) call b is = absurd (cc)
  answers_1 (suc (suc zero)) call b is = let c : go_on ≡ call = cc in let e : Deadlk 1 ≡ b = cc in
      subst (λ x. AnswersInLoop st made phase asked 1 2 x b) c (subst (λ y. AnswersInLoop st made phase asked 1 2 go_on y) e its_answer)
  answers_1 (suc (suc (suc i))) call b is = absurd (cc)

  otherwise_1 : (i : ℕ) → ((call : Call) (b : Answer) → made i ≢ answers 1 call b) →
      StaysInLoop st made phase asked 1 i ⊎ GoesInLoop st made phase asked 1 i
  otherwise_1 zero isnt = inl (record { next = refl; asks = refl })
  otherwise_1 (suc zero) isnt = inl (record { next = refl; asks = refl })
  otherwise_1 (suc (suc zero)) isnt = absurd (isnt go_on (Deadlk 1) refl)
  otherwise_1 (suc (suc (suc i))) isnt = inl (record { next = refl; asks = refl })

  context : (d : ℕ) → 0 < p.core.stamp d → 0 < (core (st 0).moment).stamp d
  context d some = subst (λ (c : State). 0 < c.stamp d) (sym a.is_core) some

  loops : (d : ℕ) → d < 2 → LoopsBy st made phase asked d
  loops zero low = record {
    begins = λ n. ap (is_among n) l.first_holds ∙ sym (or_none (is_among n (0 ∷ [])));
    context = λ _. context 0 l.first_context;
    when_answers = λ i call b is. absurd (answers_none i call b is);
    otherwise = λ i isnt. inl (record { next = refl; asks = refl });
  }
  loops (suc zero) low = record {
    begins = λ n. ap (is_among n) l.second_holds ∙ sym (or_none (is_among n (1 ∷ [])));
    context = λ _. context 1 l.second_context;
    when_answers = answers_1;
    otherwise = otherwise_1;
  }
  loops (suc (suc d)) low = absurd (omega arith)

  has_loop_told : HasLoopTold kind
  has_loop_told = record {
    key = small kind;
    stage = st;
    deed = made;
    phase = phase;
    asked = asked;
    of_kind = refl;
    world = is_of_world kind;
    are = record {
      endless = record { begins = g.driven; goes_on = goes_on g v w dead tells };
      know = know;
      keeps = keeps;
      loops = loops;
    };
    deadlocked = are_dead a v w dead;
    is_told = (2, 1, 0, 1, omega arith, refl, refl);
  }

-- ---- in each kind

two_there : (n : ℕ) → slice_index_or (false ∷ true ∷ replicate 63 false) n false ≡ is_among n (1 ∷ [])
two_there zero = refl
two_there (suc zero) = refl
two_there (suc (suc n)) = none_there 63 n ∙ sym (let e : (1 == suc (suc n)) ≡ false = grind (arith, nat_tests) in ap (λ b. b || false) e)

pub loops_are_told_in_drives : LoopsAreToldInDrives
unfolding put ℕ_discrete lock_at
loops_are_told_in_drives WaitDie = has_loop_told dying.g_8 aged_out (b_3 WaitDie) is_dying dying.tells_dying (record {
  idle = refl;
  first_knows = record { holds = one_there; stamp = refl };
  second_knows = record { holds = two_there; stamp = refl };
  first_holds = refl;
  second_holds = refl;
  first_context = omega arith;
  second_context = omega arith;
})
loops_are_told_in_drives WoundWait = has_loop_told wounding.g_10 wounded_out b_4 is_wounded wounding.tells_wounded (record {
  idle = refl;
  first_knows = record { holds = one_there; stamp = refl };
  second_knows = record { holds = two_there; stamp = refl };
  first_holds = refl;
  second_holds = refl;
  first_context = omega arith;
  second_context = omega arith;
})
