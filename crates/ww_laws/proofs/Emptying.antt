-- The core can always be emptied: in each state that isn't empty somebody can make its burden smaller.
use Rattle.std.proofs.Common.{ℕ, suc, zero, ◌≤◌, ⊎_elim, arith}
use Rattle.ww_model.specs.State.{State}
use Rattle.ww_model.specs.Run.{Reached}
use Rattle.ww_model.specs.Emptied.{LeadsBy, WindsUp, IsEmptied}
use Rattle.ww_model.specs.Theorem.{CanBeEmptied}
use Rattle.ww_laws.proofs.Moves.{stay, and_then, widened, Sparing}
use Rattle.ww_laws.proofs.Burden.{burden, Lower}
use Rattle.ww_laws.proofs.OutsideMoves.{empty_or_lighter}

-- nobody has to be spared
abbrev NoOne : ℕ → Type 0
NoOne s = ⊥

goes_down : (c : State) → Reached c → ((d : State) → Reached d → Lower c d → LeadsBy (Sparing NoOne) d IsEmptied)
    → LeadsBy (Sparing NoOne) c IsEmptied
goes_down c reached rest = ⊎_elim (stay (Sparing NoOne) c IsEmptied)
    (λ lighter. and_then (Sparing NoOne) c (Lower c) IsEmptied reached lighter rest) (empty_or_lighter NoOne c reached (λ s is. absurd is))

-- with no more steps down than the bound
within : (bound : ℕ) (c : State) → Reached c → burden c ≤ bound → LeadsBy (Sparing NoOne) c IsEmptied
within zero c reached small = goes_down c reached (λ d _ lower. absurd (omega arith))
within (suc bound) c reached small = goes_down c reached (λ d there lower. within bound d there (omega arith))

pub can_be_emptied : CanBeEmptied
can_be_emptied c reached = widened (Sparing NoOne) WindsUp (λ d e may. may.0) c IsEmptied (within (burden c) c reached (omega arith))
