use Rattle.std.proofs.Common.{rules, ◌≡◌, [], ◌∷◌, ◌++◌}
use Rattle.ww_tests_below.proofs.Popped.{two_new}
use Rattle.ww_tests_below.proofs.rings.two_seats.Goals as goal

pub returns-clause-zero : goal.returns-clause-zero
returns-clause-zero g c =
    let whole : c.in_ok-board.seats.items ≡ c.pop.new.self.items ++ c.in-Some-Some.one ∷ [] = search rules in
    let front : c.pop.new.self.items ≡ c.pop-2.new.self.items ++ c.in-Some-Some.zero ∷ [] = search rules in
    (two_new _ _ _ _ _ _ _ whole front c.in_ok-board.ensures.seats_are).0

pub returns-clause-one : goal.returns-clause-one
returns-clause-one g c =
    let whole : c.in_ok-board.seats.items ≡ c.pop.new.self.items ++ c.in-Some-Some.one ∷ [] = search rules in
    let front : c.pop.new.self.items ≡ c.pop-2.new.self.items ++ c.in-Some-Some.zero ∷ [] = search rules in
    (two_new _ _ _ _ _ _ _ whole front c.in_ok-board.ensures.seats_are).1
