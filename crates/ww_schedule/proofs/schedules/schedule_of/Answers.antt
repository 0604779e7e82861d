use Rattle.serde_json.specs.View.{view}
use Rattle.ww_json.proofs.Kept.{ranged_kept}
use Rattle.ww_schedule.proofs.Kept.{events_kept}
use Rattle.ww_schedule.proofs.schedules.schedule_of.Goals as goal

pub invariant_of-result : goal.invariant_of-result
invariant_of-result c =
    let locks = ranged_kept 1 64 (view c.in_ok-locks.locks.now) _ c.in_ok-locks-2.ensures in
    let seats = ranged_kept 1 16 (view c.in_ok-seats.seats.now) _ c.in_ok-seats-2.ensures in
    record {
      some_lock = locks.0;
      few_locks = locks.1;
      some_seat = seats.0;
      few_seats = seats.1;
      events = events_kept _ _ _ _ c.in_ok-events-2.ensures;
    }
