use Rattle.std.proofs.Common.{◌≡◌, drop, take}
use Rattle.ww_plain.specs.Meaning.{turned}
use Rattle.ww_plain.specs.Walk.{last_of}
use Rattle.ww_plain.proofs.meaning.turn.Given as goal

abbrev pub invariant-loop-node : goal.invariant-loop-node
invariant-loop-node l =
    (turned l.nodes l.port l.before (drop l.node-index l.walk) ≡ turned l.initial.nodes l.port l.initial.before l.walk)
    × (l.last ≡ last_of (take l.node-index l.walk))
