use Rattle.ww_users.specs.Rounds.{StartsRound}
use Rattle.ww_users.proofs.until.lock_until.Given as goal

abbrev pub invariant-loop : goal.invariant-loop
invariant-loop g l =
    (goal.iterator-loop g).can_next l.iterator' × (goal.iterator-loop g).is_finite l.iterator'
    × StartsRound l.initial.acquiring l.world l.acquiring
