-- The table of words at one moment: by its rule, it shows the locks, and its views tell of each seat.
use Rattle.std.specs.Prelude.{ℕ, ◌≡◌, ◌<◌, ◌⊎◌, ◌∷◌, Bool, true}
use mathlib.Core.Option.{some}
use lib.ListN.{get_elem?}
use Rattle.ww_word.specs.AnySeats.{IsValid, packed}
use Rattle.ww_model.specs.State.{State, word_of}
use Rattle.ww_view.specs.declared.view.View.{View}
use Rattle.ww_invariant.specs.declared.cells.Part.{Part}
use Rattle.ww_invariant.specs.declared.cells.Sight.{Sight}
use Rattle.ww_invariant.specs.declared.cells.Start.{Start}
use Rattle.ww_invariant.specs.Rule.{St, Ruled}
use Rattle.ww_refines.specs.Moment.{IsPartOf, Moment}

-- Of the locks' words a view notes nothing by a step, or that of one lock, as it stands there. Of each owner word only one owner is told.
pub data NotesWhatStands (key : Start) (c : State) (v v' : View) : Type 0 where
  nothing : v'.words_seen ≡ v.words_seen → NotesWhatStands key c v v'
  word : (n : ℕ) → n < key.locks → IsValid (word_of c n) → v'.words_seen ≡ (n, packed (word_of c n)) ∷ v.words_seen →
      NotesWhatStands key c v v'

-- a view of the table tells this: of the seat that steps by it, or of one that lies idle in it
abbrev pub TellsPart : Sight → Part → Type 0
TellsPart v p = (v.part ≡ p) ⊎ ((k : ℕ) × (get_elem? v.idle k ≡ some p))

-- some view of the table tells this of seat t
pub record IsToldOf (s : St) (t : ℕ) (p : Part) : Type 0 where
  pub place : ℕ
  pub view : Sight
  pub stands : get_elem? s.views place ≡ some view
  pub seated : view.seated ≡ true
  pub tells : TellsPart view p
  pub who : p.core.who ≡ t

-- A moment of a table that the rule allows: the locks are those that the table shows, and of each seat is known what the table
-- tells.
pub record TableMoment (key : Start) : Type 0 where
  pub table : St
  pub ruled : Ruled key table
  pub part : ℕ → Part
  pub told : (t : ℕ) → t < key.seats → IsToldOf table t (part t)
  pub known : (t : ℕ) → t < key.seats → IsPartOf ruled.core t (part t)
  pub rung : ℕ → ℕ → ℕ
  pub risen : ℕ → ℕ
  pub token : ℕ → Bool
  pub asleep : ℕ → Bool
  pub heeds : ℕ → Bool

-- the moment without its table
abbrev pub moment_of : {key : Start} → TableMoment key → Moment key
moment_of m = record {
  core = m.ruled.core;
  reached = m.ruled.reached;
  strangers = m.ruled.strangers;
  part = m.part;
  told = m.known;
  rung = m.rung;
  risen = m.risen;
  token = m.token;
  asleep = m.asleep;
  heeds = m.heeds;
}
