use Rattle.std.proofs.Common.{rules, Bool, true, length, sym, ap, refl, subst, ◌+◌, ◌∙◌}
use Rattle.ww_model.specs.State.{any_below}
use Rattle.ww_view.specs.View.{owns}
use Rattle.ww_invariant.specs.Rule.{Sat}
use Rattle.ww_seat.specs.declared.look.Attempt.TheVariants.{Lost}
use Rattle.ww_seat.specs.Work.{has_joined, looks_again, HasComeTo, IsAtWorkHere}
use Rattle.ww_seat.proofs.Coming.{attempted, come_goes_on, come_here_still, come_looked, come_out, come_stood, come_then, come_touched}
use Rattle.ww_seat.proofs.Stood.{flags_later}
use Rattle.ww_seat.proofs.There.{marks_there}
use Rattle.ww_seat.proofs.Stopped.{goes_on_sees}
use Rattle.ww_seat.proofs.look.look_once.Goals.{In_default-stop_if_cancelled}
use Rattle.ww_seat.proofs.look.look_once.Goals as goal

pub take_inside-requires-clause-at : goal.take_inside-requires-clause-at
take_inside-requires-clause-at c = let x = come_looked c.requires.at c.requires.may c.args.waits c.look-seen.ensures.looked in
    (has_joined c.args.arrival.now, looks_again c.args.arrival.now, come_here_still x c.look-seen.ensures.seat c.requires.may.there)

pub take_inside-requires-clause-marks : goal.take_inside-requires-clause-marks
take_inside-requires-clause-marks c = marks_there c.args.board.now c.look-seen.ensures.seat (search rules) c.requires.may.marks

pub returns-in-Some-clause-came : goal.returns-in-Some-clause-came
returns-in-Some-clause-came c = let same = c.take_inside.ensures.same in
    let x = come_looked c.requires.at c.requires.may c.args.waits c.look-seen.ensures.looked in
    attempted c.take_inside.new.seat c.requires.at (record { seat = same.seat; records = same.records ∙ c.look-seen.ensures.records }) refl refl refl
    (come_then x (c.in-Some.ensures.came (has_joined c.args.arrival.now) (looks_again c.args.arrival.now) c.args.waits x.came.0.working))

pub returns-in-None-clause-came : goal.returns-in-None-clause-came
returns-in-None-clause-came c = let same = c.take_inside.ensures.same in
    let x = come_looked c.requires.at c.requires.may c.args.waits c.look-seen.ensures.looked in
    attempted c.take_inside.new.seat c.requires.at (record { seat = same.seat; records = same.records ∙ c.look-seen.ensures.records }) refl refl refl
    (come_then x (c.in-None.ensures.came (has_joined c.args.arrival.now) (looks_again c.args.arrival.now) c.args.waits x.came.0.working))

pub stand-requires-clause-at : goal.stand-requires-clause-at
stand-requires-clause-at c = let x = come_looked c.requires.at c.requires.may c.args.waits c.look-seen.ensures.looked in
    (looks_again c.args.arrival.now, come_here_still x c.look-seen.ensures.seat c.requires.may.there)

pub stand-requires-clause-holds : goal.stand-requires-clause-holds
stand-requires-clause-holds c = ap (λ (z : Sat). any_below (length z.0.part.core.owned) (owns z.0.part.core))
    c.look-seen.ensures.looked ∙ c.requires.may.any

pub returns-in_default-clause-came : goal.returns-in_default-clause-came
returns-in_default-clause-came c = let same = c.stand.ensures.same in
    attempted c.stand.new.seat c.requires.at (record { seat = same.seat; records = same.records ∙ c.look-seen.ensures.records }) refl refl refl
    (come_touched (come_looked c.requires.at c.requires.may c.args.waits c.look-seen.ensures.looked)
    c.in_default.ensures.stands)

pub stop_if_cancelled-requires-clause-at : goal.stop_if_cancelled-requires-clause-at
stop_if_cancelled-requires-clause-at c =
    let x = come_stood (come_looked c.requires.at c.requires.may c.args.waits c.look-seen.ensures.looked) c.in-Some-stand.ensures.stands in
    (looks_again c.args.arrival.now, come_here_still x c.stand.ensures.same.seat c.requires.may.there)

pub returns-in-Some-stop_if_cancelled-clause-came : goal.returns-in-Some-stop_if_cancelled-clause-came
returns-in-Some-stop_if_cancelled-clause-came c = let same = c.stop_if_cancelled.ensures.same in
    let stopped = c.in-Some-stop_if_cancelled.ensures.stopped in
    attempted c.stop_if_cancelled.new.seat c.requires.at
    (record { seat = same.seat; records = same.records ∙ c.stand.ensures.same.records ∙ c.look-seen.ensures.records })
    c.joining.ensures.joined refl c.joining.ensures.again
    (come_out
    (come_stood (come_looked c.requires.at c.requires.may c.args.waits c.look-seen.ensures.looked) c.in-Some-stand.ensures.stands)
    stopped.0 stopped.1 tt stopped.2.awake stopped.2.deeds)

-- it stands in the wait list, and goes on
went_on : (c : In_default-stop_if_cancelled) → HasComeTo c.args.board.now c.args.lock true (looks_again c.args.arrival.now)
    c.args.waits c.args.seat.now.seat.me c.args.wake.now (c.args.seat.now.seat.me.0.part.core.attempts + 1) Lost
    c.stop_if_cancelled.new.seat.seat.me c.args.wake.now
went_on c = let stopped = c.in_default-stop_if_cancelled.ensures.stopped in
    come_goes_on (come_stood (come_looked c.requires.at c.requires.may c.args.waits c.look-seen.ensures.looked) c.in-Some-stand.ensures.stands)
    stopped.0 stopped.2

pub stay_or_back_off-requires-clause-at : goal.stay_or_back_off-requires-clause-at
stay_or_back_off-requires-clause-at c =
    subst (λ (b : Bool). IsAtWorkHere c.args.board.now c.args.lock true b c.stop_if_cancelled.new.seat) (sym c.joining.ensures.again)
    (come_here_still (went_on (goal.at.stay_or_back_off-requires-clause-at c).In_default-stop_if_cancelled)
    c.stop_if_cancelled.ensures.same.seat c.requires.may.there)

pub stay_or_back_off-requires-clause-seen : goal.stay_or_back_off-requires-clause-seen
stay_or_back_off-requires-clause-seen c = let stands = c.in-Some-stand.ensures.stands in record {
  sees = goes_on_sees c.in_default-stop_if_cancelled.ensures.stopped.0 stands.sees;
  flags = λ again. flags_later c.look-seen.result c.in-Some-stand.word c.requires.may.working
      c.look-seen.ensures.flags stands.flags (sym c.joining.ensures.again ∙ again);
}

pub stay_or_back_off-requires-clause-marks : goal.stay_or_back_off-requires-clause-marks
stay_or_back_off-requires-clause-marks c =
    marks_there c.args.board.now c.stop_if_cancelled.ensures.same.seat (search rules) c.requires.may.marks

pub returns-clause-came : goal.returns-clause-came
returns-clause-came c = let m3 = c.stop_if_cancelled.new.seat.seat.me in
    attempted c.stay_or_back_off.new.seat c.requires.at
    (record {
      seat = c.stay_or_back_off.ensures.same.seat;
      records = c.stay_or_back_off.ensures.same.records ∙ c.stop_if_cancelled.ensures.same.records
          ∙ c.stand.ensures.same.records ∙ c.look-seen.ensures.records;
    }) c.joining.ensures.joined refl c.joining.ensures.again
    (come_then (went_on (goal.at.returns-clause-came c).In_default-stop_if_cancelled)
    (subst (λ (b : Bool). HasComeTo c.args.board.now c.args.lock true b c.args.waits m3 c.args.wake.now m3.0.part.core.attempts
    c.stay_or_back_off.result c.stay_or_back_off.new.seat.seat.me c.stay_or_back_off.new.wake) c.joining.ensures.again
    (c.stay_or_back_off.ensures.came c.args.waits c.in_default-stop_if_cancelled.ensures.stopped.1)))
