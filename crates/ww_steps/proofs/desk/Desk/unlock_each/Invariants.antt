use Rattle.std.proofs.Common.{◌≡◌, ◌++◌, List, length, true, ℕ}
use Rattle.ww_steps.specs.Situations.{is_at_rest}
use Rattle.ww_steps.specs.Answers.{HasReleased, HasSomeHeld}
use Rattle.ww_steps.proofs.desk.Desk.unlock_each.Given as goal

abbrev pub invariant-loop-lock : goal.invariant-loop-lock
invariant-loop-lock l = record {
  rests : is_at_rest l.self.turn ≡ true;
  parts : (gone : List ℕ) × (l.fn.locks ≡ l.left ++ gone) × HasReleased l.fn.self gone l.self;
  same : HasSomeHeld l.fn.self l.self;
  kept : l.self.view.kept ≡ l.fn.self.view.kept;
}

abbrev pub decreases-loop-lock : goal.decreases-loop-lock
decreases-loop-lock l = length l.left
