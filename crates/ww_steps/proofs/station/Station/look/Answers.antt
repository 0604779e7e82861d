use Rattle.std.proofs.Common.{rules, ap, sym, subst, length, ◌∙◌, arith}
use Rattle.ww_seat.specs.Looks.{CameTo}
use Rattle.ww_seat.specs.declared.look.Look.TheVariants.{Locked}
use Rattle.ww_steps.specs.declared.turn.Turn.TheVariants.{Rests, Looks}
use Rattle.ww_steps.specs.declared.station.Station.{Station}
use Rattle.ww_steps.specs.Stations.{Keeps}
use Rattle.ww_steps.proofs.Locks.{may_look}
use Rattle.ww_steps.proofs.Keeping.{few_counted, took_inside}
use Rattle.ww_steps.proofs.Marks.{written}
use Rattle.ww_steps.proofs.station.Station.look.Goals as goal

pub look_once-attempt-requires-clause-may : goal.look_once-attempt-requires-clause-may
look_once-attempt-requires-clause-may c = may_look c.args.self.now c.deref.result.now c.deref_mut.result.now c.args.lock
    c.args.arrival c.args.waits c.requires.keeps c.deref.ensures c.deref_mut.ensures.value

pub add-requires : goal.add-requires
add-requires c = record { few = few_counted c.args.self.now (Looks c.args.lock c.args.arrival c.args.waits) c.requires.keeps }

pub returns-in-Ended-Locked-clause-keeps : goal.returns-in-Ended-Locked-clause-keeps
returns-in-Ended-Locked-clause-keeps c = let h = c.args.self.now in let q = c.look_once-attempt.new.self in
    let came : CameTo c.args.lock h.seat.me (Locked c.in-Ended-Locked.field-0-0) q.me = search rules in
    subst Keeps (ap (λ (d : Station). let e : Station = record d { turn = Rests } in e) (sym c.add.ensures))
    (took_inside h q c.args.lock c.args.arrival c.args.waits c.in-Ended-Locked.field-0-0 _ c.requires.keeps
    (ap length (written c.look_once-attempt.new.wake _ h.wake.len
    (let a = c.deref_mut.ensures.len in let b = c.look_once-attempt.ensures.long in omega arith))
    ∙ c.look_once-attempt.ensures.long ∙ ap length c.deref_mut.ensures.value)
    c.look_once-attempt.ensures.same came)
