-- The flags of the numbers that a list has.
use Rattle.std.proofs.Common.{[], false, replicate}
use Rattle.std.proofs.lemmas.List.{get_or-replicate, length-replicate}
use Rattle.ww_plain.specs.Seen.{Marks}

pub none_marked : Marks (replicate 256 false) []
none_marked = record { size = length-replicate 256 false; flags = λ n lt. get_or-replicate 256 n false false lt }
