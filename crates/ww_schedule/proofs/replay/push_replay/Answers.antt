use Rattle.std.proofs.Common.{◌++◌, string_bytes, ap, ◌∙◌, arith}
use Rattle.ww_model.specs.Snapshot.{state_of}
use Rattle.ww_schedule.specs.Schedules.{Timetable}
use Rattle.ww_schedule.specs.Replay.{line_of_lock, line_of_seat, below_count}
use Rattle.ww_schedule.proofs.Replays.{on_ok, told_of, end_of, replay_told}
use Rattle.ww_schedule.proofs.replay.push_replay.Goals as goal

pub push_locks-requires : goal.push_locks-requires
push_locks-requires c =
    let t = c.args.schedule.now in
    let same = c.deref.ensures.value ∙ ap (λ (s : Timetable). s.events) c.schedule.view_is in
    let told = told_of t (state_of c.args.core.now) c.deref.result.now (state_of c.push_events.new.core)
    (string_bytes c.args.out.now) (string_bytes c.push_events.new.out) c.requires same
    c.in_ok-push_events.ensures in
    let end = end_of t (state_of c.push_events.new.core) _ _ told in
    let size = ap (λ (s : Timetable). s.locks) c.schedule.view_is in
    let there = end.locks in
    omega arith

pub push_seats-requires : goal.push_seats-requires
push_seats-requires c =
    let t = c.args.schedule.now in
    let same = c.deref.ensures.value ∙ ap (λ (s : Timetable). s.events) c.schedule.view_is in
    let told = told_of t (state_of c.args.core.now) c.deref.result.now (state_of c.push_events.new.core)
    (string_bytes c.args.out.now) (string_bytes c.push_events.new.out) c.requires same
    c.in_ok-push_events.ensures in
    let end = end_of t (state_of c.push_events.new.core) _ _ told in
    let size = ap (λ (s : Timetable). s.seats) c.schedule.view_is in
    let there = end.seats in
    omega arith

pub returns : goal.returns
returns c =
    let t = c.args.schedule.now in
    let same = c.deref.ensures.value ∙ ap (λ (s : Timetable). s.events) c.schedule.view_is in
    let told = told_of t (state_of c.args.core.now) c.deref.result.now (state_of c.push_events.new.core)
    (string_bytes c.args.out.now) (string_bytes c.push_events.new.out) c.requires same
    c.in_ok-push_events.ensures in
    let end = state_of c.push_events.new.core in
    on_ok c.push_seats.result
    (λ seats. replay_told t end _ _ _ _ _ told c.in_ok-push_ring.ensures
    (c.in_ok-push_locks.ensures ∙ ap (λ n. string_bytes c.push_ring.new.out ++ below_count n (line_of_lock end))
    (ap (λ (s : Timetable). s.locks) c.schedule.view_is))
    (seats ∙ ap (λ n. string_bytes c.push_locks.new.out ++ below_count n (line_of_seat end))
    (ap (λ (s : Timetable). s.seats) c.schedule.view_is)))
    c.push_seats.ensures
