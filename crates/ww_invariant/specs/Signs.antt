-- What each step on a sign makes of the seat.
use Rattle.std.specs.Prelude.{ℕ, ◌≡◌, ◌≢◌}
use Rattle.atomic_table.specs.Table.{Step}
use Rattle.ww_view.specs.View.{IsQuiet}
use Rattle.ww_view.specs.Made.{noted, has_condemned, has_read, found_none, cleared}
use Rattle.ww_invariant.specs.declared.cells.Cell.{Cell}
use Rattle.ww_invariant.specs.declared.cells.Sight.{Sight}
use Rattle.ww_invariant.specs.Layout.{sign_at}
use Rattle.ww_invariant.specs.Rule.{Sat}
use Rattle.ww_invariant.specs.Steps.{knowing}

-- ---- sign: another seat is condemned, if it has no sign yet: either way it has one

-- this step condemned it
abbrev pub condemning : Sight → ℕ → Sight
condemning v u = knowing v (has_condemned v.part.core u)

-- it had a sign before
abbrev pub noting : Sight → ℕ → Sight
noting v u = knowing v (noted v.part.core u)

abbrev pub signs_to : Step Cell → Sat → ℕ → Sat → Type 0
signs_to st m found m' = (u : ℕ) → st.word ≡ sign_at m.0.part.core.room u →
    (found ≡ 0 → m' ≡ (condemning m.0 u, m.1)) × (found ≢ 0 → m' ≡ (noting m.0 u, m.1))

-- ---- own_sign: what the seat finds in its own sign stays so, unless it is 0 and others may sign the seat

abbrev pub having_read : Sight → ℕ → Sight
having_read v k = knowing v (has_read v.part.core k)

abbrev pub finding_none : Sight → Sight
finding_none v = knowing v (found_none v.part.core)

abbrev pub reads_to : Step Cell → Sat → ℕ → Sat → Type 0
reads_to st m found m' = st.word ≡ sign_at m.0.part.core.room m.0.part.core.who →
    (found ≢ 0 → m' ≡ (having_read m.0 found, m.1)) × (found ≡ 0 → IsQuiet m.0.part.core → m' ≡ (having_read m.0 0, m.1))
    × (found ≡ 0 → ¬ IsQuiet m.0.part.core → m' ≡ (finding_none m.0, m.1))

-- ---- clear: the own sign becomes 0

abbrev pub clearing : Sight → Sight
clearing v = knowing v (cleared v.part.core)

abbrev pub clears_to : Step Cell → Sat → ℕ → Sat → Type 0
clears_to st m stored m' = st.word ≡ sign_at m.0.part.core.room m.0.part.core.who → m' ≡ (clearing m.0, m.1)
