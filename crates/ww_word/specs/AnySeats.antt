-- Owner words of tables that may have more than 16 seats. A seat below 16 has the word that it has where there are no
-- more. The others have words whose lowest three bits no such word has: 7, 6, 4 and 2 for the flags 0, 1, 3 and 5; above
-- them stand twelve bits of the seat, and the stamp.
use Rattle.std.specs.Prelude.{ℕ, ◌≡◌, ◌+◌, ◌-◌, ◌*◌, ◌/◌, ◌%◌, ◌^◌, ◌<◌, ◌≤◌, ◌⊎◌, ◌↔◌, ◌==◌, ◌||◌, Bool, Option, Some, None, nat_lt, if◌then◌else◌}
use Rattle.ww_word.specs.declared.owner.Owner.{Owner}
use Rattle.ww_word.specs.Owner.{AreFlags}

-- a word has room for a seat with a stamp
abbrev pub Fits : ℕ → ℕ → Type 0
Fits seat stamp = ((seat < 16) × (stamp < 2 ^ 56)) ⊎ ((seat < 4096) × (stamp < 2 ^ 49))

-- a seat owns the lock, or none does: then there is no stamp, and nothing to hand over
abbrev pub IsSeating : Owner → Option ℕ → Type 0
IsSeating owner (Some seat) = Fits seat owner.stamp
IsSeating owner None = (owner.stamp ≡ 0) × (owner.flags ≤ 1)

-- an owner for which there is an owner word
pub record IsValid (owner : Owner) : Type 0 where
  pub seating : IsSeating owner owner.seat
  pub flags : AreFlags owner.flags

-- the word of a lock that a seat owns
abbrev pub seat_word : ℕ → ℕ → ℕ → ℕ
seat_word flags seat stamp =
    if nat_lt seat 16 then flags + 8 * (seat + 1) + 256 * stamp else 7 - flags + 8 * seat + 32768 * stamp

abbrev pub packed_as : Owner → Option ℕ → ℕ
packed_as owner None = owner.flags + 256 * owner.stamp
packed_as owner (Some seat) = seat_word owner.flags seat owner.stamp

-- the owner word
abbrev pub packed : Owner → ℕ
packed owner = packed_as owner owner.seat

-- the word is read as an owner iff that is valid and packs to the word
abbrev pub IsReadOf : ℕ → Option Owner → Type 0
IsReadOf word read = (owner : Owner) → (read ≡ Some owner) ↔ (IsValid owner × (packed owner ≡ word))

-- the greatest stamp of a table with this many seats
abbrev pub most_for : ℕ → ℕ
most_for seats = if nat_lt 16 seats then 2 ^ 49 - 1 else 2 ^ 56 - 1

-- the lowest three bits are those of the words of seats from 16 on
abbrev pub is_wide : ℕ → Bool
is_wide word = ((word % 8 == 2) || (word % 8 == 4)) || ((word % 8 == 6) || (word % 8 == 7))

-- the word without its flags: two words that have this in common are of one seat with one stamp
abbrev pub unflagged : ℕ → ℕ
unflagged word = if is_wide word then 2 * (word / 8) + 1 else 2 * (word / 8)
