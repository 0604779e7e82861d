use Rattle.std.proofs.Common.{true, ap, ◌∙◌}
use Rattle.ww_invariant.specs.declared.cells.Sight.{Sight}
use Rattle.ww_invariant.specs.Guards.{exiting}
use Rattle.ww_seat.specs.Work.{deeds_of, looks_again, HasComeTo}
use Rattle.ww_seat.specs.declared.look.Attempt.TheVariants.{Lost}
use Rattle.ww_seat.specs.declared.waits.Waits as wait
use Rattle.ww_seat.specs.declared.waits.Waits.TheVariants.{ToTheEnd}
use Rattle.ww_seat.proofs.Stood.{stays_goes, stays_outside}
use Rattle.ww_seat.proofs.Naps.{nap_left}
use Rattle.ww_seat.proofs.Coming.{come_here, come_here_still, come_noted, come_out, come_told, come_touched}
use Rattle.ww_seat.proofs.standing.stay_or_back_off.Goals.{After-death}
use Rattle.ww_seat.proofs.standing.stay_or_back_off.Goals as goal

pub returns-in_default-clause-came : goal.returns-in_default-clause-came
returns-in_default-clause-came c = λ waits _. come_touched (come_here c.requires.at c.requires.marks waits) c.ask_if_first.ensures.asked.touched

pub death-requires-clause-at : goal.death-requires-clause-at
death-requires-clause-at c = let signed = c.sign_all.ensures.signed in
    let asked = come_touched (come_here c.requires.at c.requires.marks ToTheEnd) c.ask_if_first.ensures.asked.touched in
    (looks_again c.args.arrival, come_here_still (come_noted asked signed.0 signed.1) c.sign_all.ensures.same.seat c.requires.at.lock)

-- once it asked, signed, and looked whether it has to die
looked : (c : After-death) → (waits : wait.Waits) → HasComeTo c.args.board.now c.args.lock true (looks_again c.args.arrival)
    waits c.args.seat.now.seat.me c.args.wake.now c.args.seat.now.seat.me.0.part.core.attempts Lost
    c.death.new.seat.seat.me c.sign_all.new.wake
looked c waits = let signed = c.sign_all.ensures.signed in
    come_told (come_noted (come_touched (come_here c.requires.at c.requires.marks waits) c.ask_if_first.ensures.asked.touched) signed.0 signed.1)
    c.death.ensures.looked.told

pub leave-requires-clause-may : goal.leave-requires-clause-may
leave-requires-clause-may c = stays_goes
    (come_touched (come_here c.requires.at c.requires.marks ToTheEnd) c.ask_if_first.ensures.asked.touched).came.0.working
    c.in-Some.ensures.asked.asked c.sign_all.ensures.signed.0 c.death.ensures.looked.told c.in-None.ensures.looked.life

pub returns-in-None-clause-came : goal.returns-in-None-clause-came
returns-in-None-clause-came c = λ waits found. let m3 = c.death.new.seat.seat.me in
    let m4 = c.leave.new.seat.seat.me in let out = c.leave.ensures.out in
    let came = looked (goal.at.returns-in-None-clause-came c).After-death waits in
    come_out came (stays_outside came.came.0.working out)
    tt (λ is. ap (λ (z : Sight). z.part.core.uncancelled) (out.view ∙ ap exiting c.death.ensures.looked.told.view)
    ∙ ap (λ (z : Sight). z.part.core.uncancelled) c.sign_all.ensures.signed.0.view
    ∙ ap (λ (z : Sight). z.part.core.uncancelled) c.ask_if_first.ensures.asked.touched.view ∙ found is)
    (nap_left m3 m4 came.came.0.working.place.0 out.view) (ap (λ (z : Sight). deeds_of z.part.core) out.view)

pub back_off-requires-clause-at : goal.back_off-requires-clause-at
back_off-requires-clause-at c = let x = looked (goal.at.back_off-requires-clause-at c).After-death ToTheEnd in
    (looks_again c.args.arrival, come_here_still x c.death.ensures.same.seat c.requires.at.lock)

pub returns-then-not-back_off-clause-came : goal.returns-then-not-back_off-clause-came
returns-then-not-back_off-clause-came c = λ waits _.
    come_touched (looked (goal.at.returns-then-not-back_off-clause-came c).After-death waits) (c.back_off.ensures.backed_off.lost c.if-not-back_off.true)

pub returns-else-not-back_off-clause-came : goal.returns-else-not-back_off-clause-came
returns-else-not-back_off-clause-came c = λ waits _. let off = c.back_off.ensures.backed_off in
    come_out (looked (goal.at.returns-else-not-back_off-clause-came c).After-death waits)
    (off.met c.if-not-back_off.false c.in-Some-death.met c.in-Some-death.ensures.looked.death) tt tt off.idle.awake off.idle.deeds
