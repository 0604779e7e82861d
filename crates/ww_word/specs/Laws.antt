-- What holds of owner words as a whole.
use Rattle.std.specs.Prelude.{ℕ, ◌≡◌, ◌+◌, ◌*◌, ◌^◌, ◌<◌, ◌==◌, ◌↔◌, Option, Some, if◌then◌else◌}
use Rattle.ww_word.specs.declared.owner.Owner.{Owner}
use Rattle.ww_word.specs.Owner.{IsValid, packed, IsReadOf, is_handed, idle, with_waiters, handed_to}

-- a valid owner packs to 64 bits
abbrev pub PackingFits : Type 0
PackingFits = (owner : Owner) → IsValid owner → packed owner < 2 ^ 64

-- no two valid owners pack to one word
abbrev pub PackingIsInjective : Type 0
PackingIsInjective = (owner other : Owner) → IsValid owner → IsValid other → packed owner ≡ packed other → owner ≡ other

-- what a valid owner packs to is read as that owner, and what is read packs to its word again
abbrev pub UnpackingIsInverse : Type 0
UnpackingIsInverse =
    ((owner : Owner) → IsValid owner → IsReadOf (packed owner) (Some owner)) ×
    ((word : ℕ) (owner : Owner) → IsReadOf word (Some owner) → packed owner ≡ word)

-- a word is read in one way only
abbrev pub ReadingIsUnique : Type 0
ReadingIsUnique = (word : ℕ) (read other : Option Owner) → IsReadOf word read → IsReadOf word other → read ≡ other

-- WAITERS adds 1 to a word that has no flag, and leaves the others
abbrev pub WaitersAddOne : Type 0
WaitersAddOne = (owner : Owner) → IsValid owner →
    packed (with_waiters owner) ≡ (if owner.flags == 0 then packed owner + 1 else packed owner)

-- handing over makes the word of that seat and stamp with WAITERS and PICKUP
abbrev pub HandingIsSeatAndStamp : Type 0
HandingIsSeatAndStamp = (seat stamp : ℕ) → packed (handed_to seat stamp) ≡ 5 + 8 * (seat + 1) + 256 * stamp

-- the flags of a valid owner say that the lock was handed over iff they are WAITERS and PICKUP
abbrev pub HandingTellsPickup : Type 0
HandingTellsPickup = (owner : Owner) → IsValid owner → is_handed owner ≡ (owner.flags == 5)

-- the word 0 is the free lock with an empty wait list, and no other owner's
abbrev pub ZeroIsIdle : Type 0
ZeroIsIdle = (owner : Owner) → (IsValid owner × (packed owner ≡ 0)) ↔ (owner ≡ idle)
