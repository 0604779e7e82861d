use Rattle.std.proofs.Common.{drop}
use Rattle.ww_plain.specs.History.{history_of}
use Rattle.ww_plain.proofs.Histories.{IsReplayed}
use Rattle.ww_plain.proofs.history.replays.Given as goal

abbrev pub invariant-loop-next : goal.invariant-loop-next
invariant-loop-next l = IsReplayed l.initial.graph (history_of l.records) l.graph (history_of (drop l.next-index l.records))
