use Rattle.std.proofs.Common.{◌≤◌, ◌-◌, length}
use Rattle.std.specs.Io.KnownBytes.{Consumes}
use Rattle.ww_run.proofs.streams.read_front.Given as goal

abbrev pub invariant-loop-block : goal.invariant-loop-block
invariant-loop-block g l = record {
  within : length l.found.items ≤ l.most;
  taken : Consumes
      (g.R.Read.remaining l.initial.reader) (g.R.Read.remaining l.reader) l.found.items;
}

abbrev pub decreases-loop-block : goal.decreases-loop-block
decreases-loop-block g l = l.most - length l.found.items
