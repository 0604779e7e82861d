use Rattle.std.proofs.Common.{ap, sym, refl, ◌∙◌, subst}
use Rattle.ww_word.specs.AnySeats.{packed}
use Rattle.ww_view.specs.May.{MayStop}
use Rattle.ww_invariant.specs.declared.cells.Sight.{Sight}
use Rattle.ww_invariant.specs.Rule.{Sat}
use Rattle.ww_invariant.specs.Cancels.{stops, stopping}
use Rattle.ww_invariant.proofs.InsideSteps.{stops_waiting}
use Rattle.ww_table.specs.declared.seat.Stepper.{Stepper}
use Rattle.ww_table.proofs.OnTop.{list_there, in_vain, went}
use Rattle.ww_table.proofs.Seated.{IsTold, on_lock, expected}
use Rattle.ww_table.proofs.seat.Stepper.leave.Goals.{After-compare_exchange-found}
use Rattle.ww_table.proofs.seat.Stepper.leave.Goals as goal

pub compare_exchange-found-requires : goal.compare_exchange-found-requires
compare_exchange-found-requires c = let r = c.owner_left-rest.ensures in let may = c.requires.may in
    on_lock c.args.board.now c.args.lock r.seat.home may.lock r.read.now c.owner_word.ensures c.pack-old.ensures
    (c.pack-new.ensures ∙ ap packed r.owner) (stops_waiting _ _ _ _ c.requires.at.seated c.args.lock c.args.seen may.may may.valid)

told : (c : After-compare_exchange-found) → IsTold stops c.args.lock c.args.seen c.owner_left-rest.new.self.seat.me
    c.compare_exchange-found.result c.compare_exchange-found.new.seat.me
told c = c.compare_exchange-found.ensures.2.0 c.args.lock c.args.seen
    (expected c.args.board.now c.requires.at c.owner_left-rest.ensures.read c.owner_word.ensures c.requires.may.valid c.pack-old.ensures)

pub returns-then-found-old-clause-gone : goal.returns-then-found-old-clause-gone
returns-then-found-old-clause-gone c = let r = c.owner_left-rest.ensures in
    in_vain r.seat r.read (ap (λ (s : Stepper). s.records) r.same) stops c.compare_exchange-found.new.seat c.compare_exchange-found.ensures.0
    (told (goal.at.returns-then-found-old-clause-gone c).After-compare_exchange-found) (λ z. c.if-found-old.true (z ∙ sym c.pack-old.ensures))
    c.requires.may.may.inside

pub leave_list-requires-clause-top : goal.leave_list-requires-clause-top
leave_list-requires-clause-top c = let r = c.owner_left-rest.ensures in let hit = (told (goal.at.leave_list-requires-clause-top c).After-compare_exchange-found).0 (c.if-found-old.false ∙ c.pack-old.ensures) in
    (_, list_there c.args.self.now.seat.me c.args.lock (ap (λ (m : Sat). m.1) hit.0 ∙ ap (λ (m : Sat). m.1) r.read.now) c.list_slot.ensures)

pub returns-clause-gone : goal.returns-clause-gone
returns-clause-gone c = let r = c.owner_left-rest.ensures in let g = c.leave_list.ensures in
    went r.seat r.read (ap (λ (s : Stepper). s.records) r.same) c.compare_exchange-found.new.seat c.leave_list.new.seat
    (λ (v : Sight). stopping v c.args.seen) c.compare_exchange-found.ensures.0
    ((told (goal.at.returns-clause-gone c).After-compare_exchange-found).0 (c.if-found-old.false ∙ c.pack-old.ensures)) refl refl
    c.list_slot.ensures c.take-page.ensures.value (record { home = g.home.0; view = g.view; list = g.list; page = g.page })

pub returns-then-found-old-clause-sure : goal.returns-then-found-old-clause-sure
returns-then-found-old-clause-sure c = let r = c.owner_left-rest.ensures in
    λ saw. absurd (c.if-found-old.true (c.compare_exchange-found.ensures.2.1 c.args.lock c.args.seen
    (subst (λ (m : Sat). MayStop m.0.part.core c.args.lock) (sym r.read.now) c.requires.may.may)
    (ap (λ (m : Sat). m.0.part.core.seen) r.read.now ∙ saw)
    (expected c.args.board.now c.requires.at r.read c.owner_word.ensures c.requires.may.valid c.pack-old.ensures).0 ∙ sym c.pack-old.ensures))
