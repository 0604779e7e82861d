use Rattle.std.proofs.Common.{arith, refl}
use Rattle.std.specs.List.{IsDistinct}
use Rattle.ww_plain.specs.Walk.{walk_of, walk_past}
use Rattle.ww_plain.proofs.laws.examples.Goals as goal

pub returns-clause-footprints : goal.returns-clause-footprints
unfolding walk_of walk_past
returns-clause-footprints c by = (refl, refl, refl)

pub returns-clause-legal : goal.returns-clause-legal
unfolding IsDistinct
returns-clause-legal c by = (
  (record { fits = grind arith; no_double = grind arith; answered = refl }, grind arith),
  refl,
  λ legal. grind (arith, legal.0.answered),
  λ legal. grind (arith, legal.0.fits),
  λ legal. grind (arith, legal.0.no_double),
)
