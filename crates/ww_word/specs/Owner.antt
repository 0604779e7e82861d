-- What an owner word means.
use Rattle.std.specs.Prelude.{ℕ, ◌≡◌, ◌+◌, ◌*◌, ◌^◌, ◌<◌, ◌≤◌, ◌==◌, ◌⊎◌, ◌↔◌, Bool, Option, Some, None, not, bit_and, bit_or}
use Rattle.ww_word.specs.declared.owner.Owner.{Owner}

-- WAITERS is 1, HANDOFF is 2 and PICKUP is 4: no flag, WAITERS alone, WAITERS with HANDOFF, or WAITERS with PICKUP
abbrev pub AreFlags : ℕ → Type 0
AreFlags flags = (flags ≡ 0) ⊎ ((flags ≡ 1) ⊎ ((flags ≡ 3) ⊎ (flags ≡ 5)))

-- one of 16 seats owns the lock, or none does: then there is no stamp, and nothing to hand over
abbrev pub IsSeating : Owner → Option ℕ → Type 0
IsSeating owner (Some seat) = seat < 16
IsSeating owner None = (owner.stamp ≡ 0) × (owner.flags ≤ 1)

-- an owner for which there is an owner word
pub record IsValid (owner : Owner) : Type 0 where
  pub seating : IsSeating owner owner.seat
  pub stamp : owner.stamp < 2 ^ 56
  pub flags : AreFlags owner.flags

-- the owner as a number: 0 for none, else the seat plus 1
abbrev pub seat_number : Option ℕ → ℕ
seat_number None = 0
seat_number (Some seat) = seat + 1

-- the owner word
abbrev pub packed : Owner → ℕ
packed owner = owner.flags + 8 * seat_number owner.seat + 256 * owner.stamp

-- the word is read as an owner iff that is valid and packs to the word
abbrev pub IsReadOf : ℕ → Option Owner → Type 0
IsReadOf word read = (owner : Owner) → (read ≡ Some owner) ↔ (IsValid owner × (packed owner ≡ word))

-- the lock was handed to its owner, which has not picked it up yet: PICKUP, which is 4, stands
abbrev pub is_handed : Owner → Bool
is_handed owner = not (bit_and owner.flags 4 == 0)

-- the lock that nobody owns, with an empty wait list
abbrev pub idle : Owner
idle = record { seat = None; stamp = 0; flags = 0 }

-- the same owner with WAITERS set, which is 1
abbrev pub with_waiters : Owner → Owner
with_waiters owner = record owner { flags = bit_or owner.flags 1 }

-- the owner of a lock that was handed to a waiter: WAITERS and PICKUP stand
abbrev pub handed_to : ℕ → ℕ → Owner
handed_to seat stamp = record { seat = Some seat; stamp = stamp; flags = 5 }
