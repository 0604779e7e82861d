use Rattle.std.proofs.Common.{◌≡◌, take}
use Rattle.ww_plain.specs.History.{history_of}
use Rattle.ww_script.specs.Outcome.{places_of}
use Rattle.ww_run.proofs.workers.places.Given as goal

abbrev pub invariant-loop-record : goal.invariant-loop-record
invariant-loop-record l = l.places.items ≡ places_of (history_of (take l.record-index l.records))
