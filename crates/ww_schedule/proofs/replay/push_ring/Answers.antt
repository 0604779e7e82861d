use Rattle.std.proofs.Common.{◌++◌, None, Some, string_bytes, ap, ◌∙◌, subst}
use Rattle.ww_model.specs.Waits.{CondemnedOf}
use Rattle.ww_model.specs.Snapshot.{state_of}
use Rattle.ww_schedule.specs.ScheduleText.{ring_line}
use Rattle.ww_schedule.proofs.Replays.{on_ok, ring_told}
use Rattle.ww_schedule.proofs.replay.push_ring.Goals as goal

pub returns-in_ok-push_str-in-None : goal.returns-in_ok-push_str-in-None
unfolding ring_line
returns-in_ok-push_str-in-None c =
    on_ok c.push_condemned_line.result
    (ring_told (state_of c.args.core.now) None None _ _ _ c.in-None.ensures (λ seat is. absurd is.0) c.in_ok-push_str-in-None.ensures.bytes)
    c.push_condemned_line.ensures

pub returns-in_ok-push_ring_line-in-Some : goal.returns-in_ok-push_ring_line-in-Some
returns-in_ok-push_ring_line-in-Some c =
    let core = state_of c.args.core.now in
    let condemned = subst (λ seats. CondemnedOf core seats c.condemned_in.result) c.deref-in-Some.ensures.0 c.condemned_in.ensures.least in
    let line = c.in_ok-push_ring_line-in-Some.ensures
    ∙ ap (λ seats. string_bytes c.args.out.now ++ ring_line (Some seats)) c.deref.ensures.0 in
    on_ok c.push_condemned_line-in-Some.result
    (ring_told core (Some c.in-Some.ring.items) c.condemned_in.result _ _ _ c.in-Some.ensures condemned line)
    c.push_condemned_line-in-Some.ensures
