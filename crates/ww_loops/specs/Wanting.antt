-- What a lock call of a desk wants at the table, by what its clauses say afterwards.
use Rattle.std.specs.Prelude.{ℕ, ◌≡◌, List, [], ◌∷◌, Option, Some, None}
use Rattle.ww_model.specs.declared.event.Event.TheVariants.{Die}
use Rattle.ww_invariant.specs.declared.cells.Start.{Start}
use Rattle.ww_laws.specs.Scene.{Step, performs}
use Rattle.ww_laws.specs.Premises.{Wants}
use Rattle.ww_refines.specs.Naps.{ArePlaysOf}
use Rattle.ww_steps.specs.declared.turn.Answer.{Answer}
use Rattle.ww_steps.specs.declared.turn.Answer.TheVariants.{Deadlk}
use Rattle.ww_steps.specs.Situations.{Situation}
use Rattle.ww_callers.specs.Stages.{IsDesk}
use Rattle.ww_callers.specs.Deeds.{Call, HasDone}
use Rattle.ww_loops.specs.Loops.{lock_for}

-- by these steps the seat wants only such locks
abbrev pub WantsOnly : ℕ → (ℕ → Type 0) → List (Option Step) → Type 0
WantsOnly d P [] = Unit {0}
WantsOnly d P (x ∷ xs) = ((n : ℕ) (y : Step) → x ≡ Some y → Wants d n y → P n) × WantsOnly d P xs

-- it dies only at such locks, and then wants only those
abbrev pub DiesOnly : ℕ → (ℕ → Type 0) → (ℕ → Type 0) → List (Option Step) → Type 0
DiesOnly d P Q [] = Unit {0}
DiesOnly d P Q (x ∷ xs) = ((n : ℕ) → x ≡ Some (performs (Die d n)) → P n × WantsOnly d Q xs) × DiesOnly d P Q xs

-- The seat wanted only this lock; if it died it did so there, wanted none after that, and the answer says so.
pub record WantsItsLock (d n : ℕ) (a : Answer) (xs : List (Option Step)) : Type 0 where
  pub wants : WantsOnly d (λ m. n ≡ m) xs
  pub dies : DiesOnly d (λ m. (n ≡ m) × ((k : ℕ) × (a ≡ Deadlk k))) (λ m. ⊥) xs

-- Whatever the seat of a desk did at the table during a call for a lock.
abbrev pub LockCallsWantTheirLock : Type 0
LockCallsWantTheirLock = (key : Start) (call : Call) (n : ℕ) (s s' : Situation) (a : Answer) (xs : List (Option Step)) →
    lock_for call s.turn ≡ Some n → HasDone call s a s' → IsDesk s → IsDesk s' → ArePlaysOf key s.view xs s'.view →
    WantsItsLock s.view.who n a xs

-- And during one that is for no lock it wanted none, and didn't die.
pub record WantsNone (d : ℕ) (xs : List (Option Step)) : Type 0 where
  pub wants : WantsOnly d (λ m. ⊥) xs
  pub dies : DiesOnly d (λ m. ⊥) (λ m. ⊥) xs

abbrev pub OtherCallsWantNone : Type 0
OtherCallsWantNone = (key : Start) (call : Call) (s s' : Situation) (a : Answer) (xs : List (Option Step)) →
    lock_for call s.turn ≡ None → HasDone call s a s' → IsDesk s → IsDesk s' → ArePlaysOf key s.view xs s'.view →
    WantsNone s.view.who xs
