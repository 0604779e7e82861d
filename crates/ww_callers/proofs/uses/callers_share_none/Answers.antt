use Rattle.ww_callers.proofs.Applied as kept
use Rattle.ww_callers.proofs.uses.callers_share_none.Goals as goal

pub returns : goal.returns
returns c = record {
  seats = kept.seats_share_none c.owners_exclude.ensures;
  passes = kept.passes_share_none c.passes_exclude.ensures;
  desks = kept.desks_share_none c.desks_exclude.ensures;
}
