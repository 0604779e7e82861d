use Rattle.std.proofs.Common.{ap, sym, refl, ◌∙◌}
use Rattle.ww_word.specs.AnySeats.{packed}
use Rattle.ww_invariant.specs.declared.cells.Sight.{Sight}
use Rattle.ww_invariant.specs.Rule.{Sat}
use Rattle.ww_view.specs.Made.{taken}
use Rattle.ww_invariant.specs.Steps.{knowing}
use Rattle.ww_invariant.specs.Waiting.{takes_bare_inside}
use Rattle.ww_invariant.proofs.InsideSteps.{takes_lock_bare}
use Rattle.ww_table.specs.declared.seat.Stepper.{Stepper}
use Rattle.ww_table.proofs.OnTop.{list_there, in_vain, went}
use Rattle.ww_table.proofs.Seated.{IsTold, on_lock, expected}
use Rattle.ww_table.proofs.seat.Stepper.take_bare_inside.Goals.{After-compare_exchange-found}
use Rattle.ww_table.proofs.seat.Stepper.take_bare_inside.Goals as goal

pub compare_exchange-found-requires : goal.compare_exchange-found-requires
compare_exchange-found-requires c = let r = c.own_left-owner.ensures in let may = c.requires.may in
    on_lock c.args.board.now c.args.lock r.seat.home may.lock.1 r.read.now c.owner_word.ensures c.pack-old.ensures
    (c.pack-new.ensures ∙ ap packed r.owner) (takes_lock_bare _ _ _ _ c.requires.at.seated c.args.lock c.args.seen may.lock.0 may.may may.valid)

told : (c : After-compare_exchange-found) → IsTold takes_bare_inside c.args.lock c.args.seen c.own_left-owner.new.self.seat.me
    c.compare_exchange-found.result c.compare_exchange-found.new.seat.me
told c = c.compare_exchange-found.ensures.2 c.args.lock c.args.seen
    (expected c.args.board.now c.requires.at c.own_left-owner.ensures.read c.owner_word.ensures c.requires.may.valid c.pack-old.ensures)

pub returns-then-found-old : goal.returns-then-found-old
returns-then-found-old c = let r = c.own_left-owner.ensures in
    in_vain r.seat r.read (ap (λ (s : Stepper). s.records) r.same) takes_bare_inside c.compare_exchange-found.new.seat c.compare_exchange-found.ensures.0
    (told (goal.at.returns-then-found-old c).After-compare_exchange-found) (λ z. c.if-found-old.true (z ∙ sym c.pack-old.ensures))
    c.requires.may.may.inside

pub leave_list-requires-clause-top : goal.leave_list-requires-clause-top
leave_list-requires-clause-top c = let r = c.own_left-owner.ensures in let hit = (told (goal.at.leave_list-requires-clause-top c).After-compare_exchange-found).0 (c.if-found-old.false ∙ c.pack-old.ensures) in
    (_, list_there c.args.self.now.seat.me c.args.lock (ap (λ (m : Sat). m.1) hit.0 ∙ ap (λ (m : Sat). m.1) r.read.now) c.list_slot.ensures)

pub returns : goal.returns
returns c = let r = c.own_left-owner.ensures in let g = c.leave_list.ensures in
    went r.seat r.read (ap (λ (s : Stepper). s.records) r.same) c.compare_exchange-found.new.seat c.leave_list.new.seat
    (λ (v : Sight). knowing v (taken v.part.core c.args.lock)) c.compare_exchange-found.ensures.0
    ((told (goal.at.returns c).After-compare_exchange-found).0 (c.if-found-old.false ∙ c.pack-old.ensures)) refl refl
    c.list_slot.ensures c.take-page.ensures.value (record { home = g.home.0; view = g.view; list = g.list; page = g.page })
