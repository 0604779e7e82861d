use Rattle.std.proofs.Common.{◌∙◌, refl, sym, subst}
use Rattle.std.proofs.lemmas.List.{take_all}
use Rattle.ww_lock.specs.Holding.{Holding}
use Rattle.ww_users.specs.Ways.{IsSameContext}
use Rattle.ww_users.proofs.Contexts.{same_told, same_later, same_backed_off, halted_later}
use Rattle.ww_users.proofs.Entries.{take_next, way_begins, way_skips, way_locks, way_meets, way_doubles, way_contended, way_ends}
use Rattle.ww_users.proofs.trip.lock_entries.Goals as goal

pub loop-position-init : goal.loop-position-init
loop-position-init g c = (way_begins c.args.kept c.args.acquiring c.requires.kept.held, c.requires.kept.listed)

pub loop-position-preserved-then-eq : goal.loop-position-preserved-then-eq
loop-position-preserved-then-eq g c = rw (take_next c.args.list.now c.loop-position.position _ c.loop-position-test.true refl)
    (way_skips _ _ _ _ c.loop-position.invariant.0 (sym c.eq.ensures ∙ c.if-eq.true), tt)

pub returns-in-Already : goal.returns-in-Already
returns-in-Already g c =
    let met = way_meets _ _ _ c.loop-position.invariant.0 (sym c.eq.ensures ∙ c.if-eq.false) in (
      subst (λ (a : Holding). IsSameContext c.args.acquiring a) (sym c.in-Already.ensures.1) c.loop-position.invariant.0.same,
      way_doubles c.args.list.now c.loop-position.position _ c.loop-position-test.true refl (met.0 ∙ c.in-Already.ensures.0) met.1,
    )

pub returns-in-Deadlk : goal.returns-in-Deadlk
returns-in-Deadlk g c = (
  same_later c.loop-position.invariant.0.same (same_backed_off _ _ c.in-Deadlk.ensures.0.told),
  way_contended _ _ c.args.list.now c.loop-position.position _ c.loop-position-test.true refl c.in-Deadlk.ensures.0
      (way_meets _ _ _ c.loop-position.invariant.0 (sym c.eq.ensures ∙ c.if-eq.false)),
)

pub returns-in-Interrupted : goal.returns-in-Interrupted
returns-in-Interrupted g c = let e = c.in-Interrupted.ensures in
    halted_later _ _ _ c.loop-position.invariant.0.same (e.0, (_, same_told e.1))

pub loop-position-preserved : goal.loop-position-preserved
loop-position-preserved g c = rw (take_next c.args.list.now c.loop-position.position _ c.loop-position-test.true refl)
    (way_locks _ _ _ _ _ c.loop-position.invariant.0 c.in-Locked.ensures.0, c.loop-position.invariant.1)

pub returns : goal.returns
returns g c =
    let all = take_all c.loop-position.position c.args.list.now c.loop-position-test.false in
    let way = rw all at c.loop-position.invariant.0 in
    let none = way_ends c.args.list.now c.loop-position.kept way.once c.loop-position.invariant.1 in
    (way.same, (rw none at way.held, rw none at way.once), way.order)
