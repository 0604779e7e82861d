use Rattle.std.proofs.Common.{◌≡◌, length, sym, ap, ◌∙◌, rules}
use Rattle.ww_lock.specs.Holding.{Setting}
use Rattle.ww_lock.specs.Closed.{missing_of, AreAllBelow}
use Rattle.ww_lock.proofs.Closings.{all_come, fits, closed}
use Rattle.ww_lock.proofs.world.World.close.Goals as goal

pub close_in-records-requires-clause-come : goal.close_in-records-requires-clause-come
close_in-records-requires-clause-come c =
    let shared = c.self.inside.board.table.shared in
    let none : missing_of c.args.self.passes c.args.passes.items ≡ 0 = search rules in
    all_come shared.table_id shared.key c.args.self c.args.passes.items c.seats_of-seats.result.items
    (sym (ap (λ (w : Setting). w.home.table) c.self.view_is))
    (c.self.invariant.1 ∙ ap (λ (w : Setting). w.passes) c.self.view_is) c.requires.home none
    c.seats_of-seats.ensures

pub close_in-records-requires-clause-fits : goal.close_in-records-requires-clause-fits
close_in-records-requires-clause-fits c =
    let below : AreAllBelow (length c.in-Ok.rooms.places.items) c.args.passes.items = search rules in
    fits (length c.in-Ok.rooms.places.items) c.args.passes.items c.seats_of-seats.result.items c.seats_of-seats.ensures below

pub returns-clause-ok : goal.returns-clause-ok
returns-clause-ok c =
    let shared = c.self.inside.board.table.shared in
    let none : missing_of c.args.self.passes c.args.passes.items ≡ 0 = search rules in
    closed shared.key c.args.self c.args.passes.items c.seats_of-seats.result.items
    (record { records = c.close_in-records.result.0; graph = c.close_in-records.result.1 })
    (ap (λ (w : Setting). w.first) c.self.view_is)
    (c.self.invariant.1 ∙ ap (λ (w : Setting). w.passes) c.self.view_is) none c.seats_of-seats.ensures
    c.close_in-records.ensures
