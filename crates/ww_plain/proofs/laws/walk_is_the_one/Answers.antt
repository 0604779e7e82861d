use Rattle.ww_plain.proofs.Walks.{gives_walk, only_walk}
use Rattle.ww_plain.proofs.laws.walk_is_the_one.Goals as goal

pub returns : goal.returns
returns c = λ graph start p most some. (gives_walk graph start p most some, only_walk graph start p most)
