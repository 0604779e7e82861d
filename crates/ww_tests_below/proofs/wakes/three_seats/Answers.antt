use Rattle.std.proofs.Common.{rules, ◌≡◌, [], ◌∷◌, ◌++◌}
use Rattle.ww_tests_below.proofs.Popped.{three_new}
use Rattle.ww_tests_below.proofs.wakes.three_seats.Goals as goal

pub returns-clause-zero : goal.returns-clause-zero
returns-clause-zero g c =
    let whole : c.in_ok-board.seats.items ≡ c.pop.new.self.items ++ c.in-Some-Some-Some.two ∷ [] = search rules in
    let front : c.pop.new.self.items ≡ c.pop-2.new.self.items ++ c.in-Some-Some-Some.one ∷ [] = search rules in
    let first : c.pop-2.new.self.items ≡ c.pop-3.new.self.items ++ c.in-Some-Some-Some.zero ∷ [] = search rules in
    (three_new _ _ _ _ _ _ _ _ _ whole front first c.in_ok-board.ensures.seats_are).0

pub returns-clause-one : goal.returns-clause-one
returns-clause-one g c =
    let whole : c.in_ok-board.seats.items ≡ c.pop.new.self.items ++ c.in-Some-Some-Some.two ∷ [] = search rules in
    let front : c.pop.new.self.items ≡ c.pop-2.new.self.items ++ c.in-Some-Some-Some.one ∷ [] = search rules in
    let first : c.pop-2.new.self.items ≡ c.pop-3.new.self.items ++ c.in-Some-Some-Some.zero ∷ [] = search rules in
    (three_new _ _ _ _ _ _ _ _ _ whole front first c.in_ok-board.ensures.seats_are).1

pub returns-clause-two : goal.returns-clause-two
returns-clause-two g c =
    let whole : c.in_ok-board.seats.items ≡ c.pop.new.self.items ++ c.in-Some-Some-Some.two ∷ [] = search rules in
    let front : c.pop.new.self.items ≡ c.pop-2.new.self.items ++ c.in-Some-Some-Some.one ∷ [] = search rules in
    let first : c.pop-2.new.self.items ≡ c.pop-3.new.self.items ++ c.in-Some-Some-Some.zero ∷ [] = search rules in
    (three_new _ _ _ _ _ _ _ _ _ whole front first c.in_ok-board.ensures.seats_are).2
