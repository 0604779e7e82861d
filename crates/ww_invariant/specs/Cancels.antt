-- What each step on a cancel makes of the seat.
use Rattle.std.specs.Prelude.{ℕ, ◌≡◌, ◌≢◌, ◌≤◌, ◌-◌, ◌∷◌, Some}
use Rattle.atomic_table.specs.Table.{Step}
use Rattle.ww_word.specs.declared.owner.Owner.{Owner}
use Rattle.ww_word.specs.AnySeats.{packed}
use Rattle.ww_view.specs.May.{MayStop}
use Rattle.ww_view.specs.Made.{found_pending, found_uncancelled, has_heeded, interrupted}
use Rattle.ww_invariant.specs.declared.cells.Cell.{Cell}
use Rattle.ww_invariant.specs.declared.cells.Sight.{Sight}
use Rattle.ww_invariant.specs.Layout.{owner_at, cancel_at}
use Rattle.ww_invariant.specs.Rule.{Sat}
use Rattle.ww_invariant.specs.Steps.{knowing}
use Rattle.ww_invariant.specs.Waiting.{StandsIfWaiting, tries_to}

-- ---- set_cancel: the cancel of a seat is set, if none of it is pending; else the seat counts that one was

abbrev pub cancelling : Sight → ℕ → Sight
cancelling v u = record v {
  part = record (v.part) { counts = record (v.part.counts) { cancelled = u ∷ v.part.counts.cancelled } };
}

abbrev pub finding_pending : Sight → Sight
finding_pending v = knowing v (found_pending v.part.core)

abbrev pub cancels_to : Step Cell → Sat → ℕ → Sat → Type 0
cancels_to st m found m' = (u : ℕ) → st.word ≡ cancel_at m.0.part.core.room u →
    (found ≡ 0 → m' ≡ (cancelling m.0 u, m.1)) × (found ≢ 0 → m' ≡ (finding_pending m.0, m.1))

-- ---- heed: the own cancel becomes 0, and if one was pending the seat has heeded it; else it has found none

abbrev pub finding_uncancelled : Sight → Sight
finding_uncancelled v = knowing v (found_uncancelled v.part.core)

abbrev pub heeding : Sight → ℕ → Sight
heeding v mark = record v {
  part = record (v.part) {
    core = has_heeded v.part.core mark;
    counts = record (v.part.counts) { heeded = (mark - 1) ∷ v.part.counts.heeded };
  };
}

abbrev pub heeds_to : Step Cell → Sat → ℕ → Sat → Type 0
heeds_to st m found m' = st.word ≡ cancel_at m.0.part.core.room m.0.part.core.who →
    (found ≡ 0 → m' ≡ (finding_uncancelled m.0, m.1)) × (found ≢ 0 → m' ≡ (heeding m.0 found, m.1)) × (found ≤ m.0.part.core.seats)

-- ---- leave: out of the wait list, for the cancel that was heeded

abbrev pub stopping : Sight → Owner → Sight
stopping v o = knowing v (interrupted v.part.core o)

abbrev pub stops : ℕ → Owner → Sat → Sat → Type 0
stops n o m m' = (m' ≡ (stopping m.0 o, m.1)) × StandsIfWaiting m.0.part.core

-- The word is still the one that the seat saw last: nobody else writes it while somebody waits and the seat is inside.
abbrev pub leaves_to : Step Cell → Sat → ℕ → Sat → Type 0
leaves_to st m found m' = tries_to stops st m found m' × ((n : ℕ) (o : Owner) →
    MayStop m.0.part.core n → m.0.part.core.seen ≡ Some o → st.word ≡ owner_at m.0.part.core.room n → found ≡ packed o)
