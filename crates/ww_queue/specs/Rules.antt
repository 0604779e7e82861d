-- Which waiter has to die, and which seats are owed a sign.
use Rattle.std.specs.Prelude.{ℕ, ◌==◌, ◌&&◌, Bool, false, not, nat_lt, min, List, [], ◌∷◌, Option, Some, None, if◌then◌else◌}
use Rattle.std.specs.Option.{option_and_then, option_map, option_or}
use Rattle.std.specs.List.{filter_map}
use Rattle.ww_word.specs.declared.owner.Owner.{Owner}
use Rattle.ww_word.specs.Owner.{is_handed}
use Rattle.ww_queue.specs.declared.kind.Kind.{Kind}
use Rattle.ww_queue.specs.declared.kind.Kind.TheVariants.{WoundWait, WaitDie}
use Rattle.ww_queue.specs.declared.entry.Entry.{Entry}
use Rattle.ww_queue.specs.Entry.{is_older, is_holding}
use Rattle.ww_queue.specs.Queue.{entry_of, first_before}

-- there is an owner, and it is another seat
abbrev pub is_other : Option ℕ → ℕ → Bool
is_other None seat = false
is_other (Some owner) seat = not (owner == seat)

-- the owner's stamp, if the owner is another seat with an older context than the waiter
abbrev pub older_owner : Owner → Entry → Option ℕ
older_owner owner e = if is_other owner.seat e.seat && is_older owner.stamp e.stamp then Some owner.stamp else None

-- the stamp for which a waiter that holds locks has to die
abbrev pub cause_of : Kind → Owner → List Entry → ℕ → Entry → Option ℕ
cause_of WoundWait owner q sign e = if nat_lt 0 sign then Some sign else None
cause_of WaitDie owner q sign e = option_or (older_owner owner e) (option_map (λ x. x.stamp) (first_before q e.seat))

-- the stamp for which a waiter has to die
abbrev pub death_of : Kind → Owner → List Entry → ℕ → Entry → Option ℕ
death_of kind owner q sign e = if is_holding e then cause_of kind owner q sign e else None

-- the stamp for which a seat has to die: only a seat that waits here does
abbrev pub must_die : Kind → Owner → List Entry → ℕ → ℕ → Option ℕ
must_die kind owner q me sign = option_and_then (death_of kind owner q sign) (entry_of q me)

-- the seat that owns the lock and has taken it
abbrev pub taker_of : Owner → Option ℕ
taker_of owner = if is_handed owner then None else owner.seat

-- the smaller of two stamps
abbrev pub least_of : Option ℕ → Option ℕ → Option ℕ
least_of None other = other
least_of (Some stamp) None = Some stamp
least_of (Some stamp) (Some other) = Some (min stamp other)

-- the stamp of a waiter that has a context and holds locks
abbrev pub holding_stamp : Entry → Option ℕ
holding_stamp e = if is_holding e then Some e.stamp else None

-- the least stamp of a waiter that has a context and holds locks
abbrev pub least_holding : List Entry → Option ℕ
least_holding [] = None
least_holding (e ∷ es) = least_of (holding_stamp e) (least_holding es)

-- the owner's seat with a waiter's stamp, if there are both and the waiter is older than the owner
abbrev pub owed_wound : Option ℕ → ℕ → Option ℕ → List (ℕ × ℕ)
owed_wound (Some seat) stamp (Some least) = if is_older least stamp then (seat, least) ∷ [] else []
owed_wound _ stamp _ = []

-- a waiter's seat with the stamp for which it has to die, if it is another seat than me and has to
abbrev pub owed_death : Owner → List Entry → ℕ → ℕ → Option (ℕ × ℕ)
owed_death owner q me seat = if seat == me then None else option_map (λ k. (seat, k)) (must_die WaitDie owner q seat 0)

-- the same of each of some waiters
abbrev pub owed_deaths : Owner → List Entry → ℕ → List Entry → List (ℕ × ℕ)
owed_deaths owner q me es = filter_map (λ e. owed_death owner q me e.seat) es

-- the seats that the seat me inside the guard has to sign, with the stamps
abbrev pub owed_signs : Kind → Owner → List Entry → ℕ → List (ℕ × ℕ)
owed_signs WoundWait owner q me = owed_wound (taker_of owner) owner.stamp (least_holding q)
owed_signs WaitDie owner q me = owed_deaths owner q me q
