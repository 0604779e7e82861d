use Rattle.std.proofs.Common.{inl, inr}
use Rattle.ww_schedule.proofs.replay.stamp_of_owner.Goals as goal

pub stamp_of-requires : goal.stamp_of-requires
stamp_of-requires c = c.owner_of.ensures.seat c.in-Taken.seat (inl c.in-Taken.is)

pub stamp_of-requires-in-Handed : goal.stamp_of-requires-in-Handed
stamp_of-requires-in-Handed c = c.owner_of.ensures.seat c.in-Handed.seat (inr c.in-Handed.is)
