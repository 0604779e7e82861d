use Rattle.std.proofs.Common.{rules, ◌≡◌, [], ◌∷◌, ◌++◌, length, ap, ◌∙◌, refl}
use lib.ListN.{get_elem?}
use Rattle.atomic_table.proofs.Lists.{at_last}
use Rattle.ww_tests_below.proofs.tables.last_takes_once.Goals as goal

pub takes_once-requires-clause-new : goal.takes_once-requires-clause-new
takes_once-requires-clause-new g c = let m = c.in_ok-board.ensures in
    let whole : c.in_ok-board.seats.items ≡ c.pop.new.self.items ++ c.in-Some.seat ∷ [] = search rules in (
      length c.pop.new.self.items,
      m.seats_are.new (length c.pop.new.self.items) c.in-Some.seat
          (ap (λ l. get_elem? l (length c.pop.new.self.items)) whole
          ∙ at_last c.pop.new.self.items c.in-Some.seat (length c.pop.new.self.items) refl),
    )
