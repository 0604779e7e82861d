use Rattle.std.proofs.Common.{refl, inl, inr, ◌∙◌}
use Rattle.ww_seat.specs.Standings.{view_in}
use Rattle.ww_seat.proofs.Outside.{owner_of_some, bare_of_none}
use Rattle.ww_seat.proofs.seats.Seat.unsign.Goals as goal

pub returns-then-holds : goal.returns-then-holds
returns-then-holds c = record {
  back = record {
    back = record { same = record { now = refl; size = refl }; away = c.requires.may.0 };
    out = record { attempts = refl; debts = refl; naps = refl; deaf = refl };
  };
  same = refl;
  met = refl;
  signs = inr (inr (inl (owner_of_some (view_in c.args.self.now) (c.requires.may.1 ∙ c.if-holds.true))));
  idle = λ is. refl;
}

pub unsign_bare-requires-clause-bare : goal.unsign_bare-requires-clause-bare
unsign_bare-requires-clause-bare c = (c.requires.may.0, bare_of_none (view_in c.args.self.now) (c.requires.may.1 ∙ c.if-holds.false))
