-- What holds of the owner words of tables with any number of seats.
use Rattle.std.specs.Prelude.{ℕ, ◌≡◌, ◌<◌, ◌^◌, ◌↔◌, Some}
use Rattle.ww_word.specs.declared.owner.Owner.{Owner}
use Rattle.ww_word.specs.Owner as narrow
use Rattle.ww_word.specs.Owner.{AreFlags}
use Rattle.ww_word.specs.AnySeats.{Fits, IsValid, seat_word, packed, unflagged}

-- a valid owner packs to 64 bits
abbrev pub AnyPackingFits : Type 0
AnyPackingFits = (owner : Owner) → IsValid owner → packed owner < 2 ^ 64

-- no two valid owners pack to one word
abbrev pub AnyPackingIsInjective : Type 0
AnyPackingIsInjective = (owner other : Owner) → IsValid owner → IsValid other → packed owner ≡ packed other → owner ≡ other

-- an owner that is valid where there are at most 16 seats is valid wherever there are more, and has the same word
abbrev pub FewSeatsKeepTheirWords : Type 0
FewSeatsKeepTheirWords = (owner : Owner) → narrow.IsValid owner → IsValid owner × (packed owner ≡ narrow.packed owner)

-- the word of a valid owner is, except its flags, that of a seat with a stamp iff that seat owns the lock with that stamp
abbrev pub WordsTellHolders : Type 0
WordsTellHolders = (owner : Owner) (flags seat stamp : ℕ) → IsValid owner → AreFlags flags → Fits seat stamp →
    (unflagged (packed owner) ≡ unflagged (seat_word flags seat stamp)) ↔ ((owner.seat ≡ Some seat) × (owner.stamp ≡ stamp))
