use Rattle.std.proofs.Common.{rules, ◌≡◌, [], ◌∷◌, ◌++◌, length, sym, subst}
use Rattle.ww_tests_below.specs.Gathered.{HaveCome}
use Rattle.ww_tests_below.proofs.Gathered.{one_more}
use Rattle.ww_tests_below.proofs.rounds.come.Goals as goal

pub returns : goal.returns
returns g c = let next : c.args.seat.who ≡ length c.args.seats.now.items = search rules in
    let grown : c.push.new.self.items ≡ c.args.seats.now.items ++ c.args.seat ∷ [] = search rules in
    subst (HaveCome c.args._board.now) (sym grown)
    (one_more c.args._board.now c.args.seats.now.items c.args.seat c.requires.come c.requires.next next)
