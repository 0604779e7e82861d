use Rattle.std.proofs.Common.{◌≡◌, true, take, IfSome}
use Rattle.ww_plain.specs.Numbers.{is_among}
use Rattle.ww_users.proofs.Entries.{IsPast}
use Rattle.ww_users.proofs.trip.lock_entries.Given as goal

abbrev pub invariant-loop-position : goal.invariant-loop-position
invariant-loop-position g l =
    IsPast l.fn.kept l.fn.acquiring l.acquiring (take l.position l.list) l.kept × IfSome l.kept (λ n. is_among n l.list ≡ true)
