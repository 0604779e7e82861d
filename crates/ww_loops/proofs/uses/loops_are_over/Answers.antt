use Rattle.ww_loops.proofs.Applied as kept
use Rattle.ww_loops.proofs.uses.loops_are_over.Goals as goal

pub returns : goal.returns
returns c = record {
  loops = kept.each_loop_ends c.loops_end.ensures;
  oldest = kept.oldest_leaves_its_loop c.oldest_loop_ends.ensures;
  contexts = kept.each_context_is_over c.loops_back_off.ensures c.contexts_are_over_in_drives.ensures;
  served = kept.oldest_has_its_lock c.oldest_is_served_in_drives.ensures;
  calls = kept.calls_give_the_lock c.lock_calls_take_their_lock.ensures;
}
