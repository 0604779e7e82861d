use Rattle.std.proofs.Common.{Some}
use Rattle.ww_table.proofs.seat.Stepper.place.Given as goal

abbrev pub ghosts-place_said : goal.ghosts-place_said
ghosts-place_said a = record { about = Some a.done.now }
