-- Nobody is shut out: where no lock is in its way, a context comes to read, or to write, by moves of its own.
use Rattle.std.specs.Prelude.{ℕ, ◌≡◌, ◌≢◌, Some, None}
use Rattle.ww_protocols.specs.Hall.{Layout, Hall, Move, apart, MayMove, hall_after}
use Rattle.ww_protocols.specs.Readers.{IsReading, IsWriting}

-- moves of this context alone lead from one hall to another
pub data LeadsAlone (l : Layout) (c : ℕ) (from : Hall) : Hall → Type 0 where
  is_there : LeadsAlone l c from from
  and_moves : (h : Hall) (a : Move) → LeadsAlone l c from h → MayMove l h c a → LeadsAlone l c from (hall_after l h c a)

-- it comes to a hall that is such, and whoever read before reads there
pub record ComesTo (l : Layout) (c : ℕ) (from : Hall) (P : Hall → Type 0) : Type 0 where
  pub hall : Hall
  pub way : LeadsAlone l c from hall
  pub there : P hall
  pub read_on : (d n : ℕ) → IsReading from d n → IsReading hall d n

-- at its desk, it comes to read a mutex that nobody has, and others read on
abbrev pub SittersCanRead : Type 0
SittersCanRead = (l : Layout) (h : Hall) (c m : ℕ) → h.sitter c ≡ Some c → h.owner m ≡ None → h.progress c m ≡ apart →
    ComesTo l c h (λ h'. IsReading h' c m)

-- an owner comes to write where nobody has any desk but its own, whatever bits and marks are left
abbrev pub OwnersCanWrite : Type 0
OwnersCanWrite = (l : Layout) (h : Hall) (c m : ℕ) → h.owner m ≡ Some c → ((d : ℕ) → d ≢ c → h.sitter d ≡ None) →
    ComesTo l c h (λ h'. IsWriting h' c m)
