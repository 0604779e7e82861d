-- What a slot has of a wait list: those who stand there, and zeros where nobody does.
use Rattle.std.specs.Prelude.{◌≡◌, ◌<◌, List, [], length}
use Rattle.ww_queue.specs.declared.entry.Entry.{Entry}
use Rattle.ww_invariant.specs.declared.pages.Presence.{Presence}
use Rattle.ww_invariant.specs.declared.pages.Presence.TheVariants.{Nobody, Somebody}

abbrev pub waiters_of : Presence → List Entry
waiters_of (Nobody a b c) = []
waiters_of (Somebody waiters) = waiters

-- where nobody stands, there is nothing but zeros; so a list that is there isn't empty
abbrev pub IsZerosIfEmpty : Presence → Type 0
IsZerosIfEmpty (Nobody a b c) = (a ≡ 0) × (b ≡ 0) × (c ≡ 0)
IsZerosIfEmpty (Somebody waiters) = 0 < length waiters
