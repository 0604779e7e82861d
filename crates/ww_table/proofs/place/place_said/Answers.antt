use Rattle.std.proofs.Common.{arith}
use Rattle.ww_invariant.proofs.Places.{places}
use Rattle.ww_table.proofs.place.place_said.Goals as goal

pub fetch_add-requires : goal.fetch_add-requires
fetch_add-requires g c = let r = c.requires in (
  r.at.0,
  (let z = c.args.board.now.sized.0 in let fits = c.args.board.now.fits in omega arith),
  places _ _ _ _ _
      c.args.done.now r.at.1 r.said r.may,
)

pub returns-clause-placed : goal.returns-clause-placed
returns-clause-placed g c = let told = c.fetch_add.ensures.2 c.args.done.now c.requires.said in
    record { placed = told.0; above = told.1; few = told.2 }
