use Rattle.ww_script_parts.proofs.Kept.{graph_kept}
use Rattle.ww_script_parts.proofs.scripts.graph_of.Goals as goal

pub returns : goal.returns
returns c = let no = c.in-Err.ensures.ok.1 (graph_kept c.args.version _ _ c.in_ok-nodes_of.ensures).0 in absurd cc
