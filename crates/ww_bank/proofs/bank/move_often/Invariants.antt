use Rattle.std.proofs.Common.{◌≡◌}
use Rattle.ww_lock.specs.Holding.{IsAtHome}
use Rattle.ww_bank.specs.Bank.{OwnMoves}
use Rattle.ww_bank.proofs.bank.move_often.Given as goal

abbrev pub invariant-loop : goal.invariant-loop
invariant-loop g l = IsAtHome l.pass l.world × (l.pass.caller ≡ l.initial.pass.caller) × OwnMoves l.pass.own
