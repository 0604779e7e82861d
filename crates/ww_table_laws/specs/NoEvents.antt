-- Of what is no event: from every table that the rule allows, such a step leaves the core and the commits as they are.
use Rattle.std.specs.Prelude.{ℕ, suc, ◌≡◌, ◌≢◌, ◌<◌, true, List, ◌∷◌, [], ◌++◌, length, slice_index, slice_set}
use mathlib.Core.Option.{some}
use lib.ListN.{get_elem?}
use Rattle.atomic_table.specs.Table.{stepped, keeps}
use Rattle.ww_word.specs.declared.owner.Owner.{Owner}
use Rattle.ww_word.specs.AnySeats.{IsValid, packed}
use Rattle.ww_view.specs.View.{IsBare, IsQuiet}
use Rattle.ww_view.specs.Made.{fast_missed}
use Rattle.ww_invariant.specs.declared.cells.Part.{Part}
use Rattle.ww_invariant.specs.declared.cells.Sight.{Sight}
use Rattle.ww_invariant.specs.declared.cells.Start.{Start}
use Rattle.ww_invariant.specs.Layout.{owner_at, sign_at, stamp_at}
use Rattle.ww_invariant.specs.Rule.{St, Sat, Ruled, Stays}
use Rattle.ww_invariant.specs.Steps.{knowing, seeing, keeping, nobody, first_seat, without_first, with_seat}
use Rattle.ww_invariant.specs.Guards.{lost, shutting_out, looking, glancing}
use Rattle.ww_invariant.specs.Signs.{noting, having_read, finding_none}
use Rattle.ww_invariant.specs.Cancels.{finding_pending, finding_uncancelled}
use Rattle.ww_table_laws.specs.Laws.{StepsAt, core_of}

-- the table once the seat read a word, or found there another than it expected, and has this view then
abbrev pub once_read : St → ℕ → ℕ → Sat → Sight → St
once_read s i id me w = stepped s i (slice_index s.words i) id me.1 w keeps

-- a look at the owner word inside the guard
abbrev pub LookIsNoEvent : Type 0
LookIsNoEvent = (key : Start) (s : St) (r : Ruled key s) (id : ℕ) (me : Sat) (n : ℕ) (o : Owner) → StepsAt s id me →
    (core_of me).inside ≡ suc n → IsValid o → slice_index s.words (owner_at key.locks n) ≡ packed o →
    Stays key s r (once_read s (owner_at key.locks n) id me (looking me.0 o))

-- a spin read of an owner word from outside the guard
abbrev pub GlanceIsNoEvent : Type 0
GlanceIsNoEvent = (key : Start) (s : St) (r : Ruled key s) (id : ℕ) (me : Sat) (n : ℕ) → StepsAt s id me →
    Stays key s r (once_read s (owner_at key.locks n) id me (glancing me.0))

-- a look from outside whether the seat owns a lock
abbrev pub OwnsIsNoEvent : Type 0
OwnsIsNoEvent = (key : Start) (s : St) (r : Ruled key s) (id : ℕ) (me : Sat) (n : ℕ) → StepsAt s id me →
    Stays key s r (once_read s (owner_at key.locks n) id me me.0)

-- a look whose a lock is, of which the view notes what was found
abbrev pub WhoseIsNoEvent : Type 0
WhoseIsNoEvent = (key : Start) (s : St) (r : Ruled key s) (id : ℕ) (me : Sat) (n : ℕ) → StepsAt s id me →
    Stays key s r (once_read s (owner_at key.locks n) id me (seeing me.0 n (slice_index s.words (owner_at key.locks n))))

-- a spin read of the stamp word
abbrev pub CountIsNoEvent : Type 0
CountIsNoEvent = (key : Start) (s : St) (r : Ruled key s) (id : ℕ) (me : Sat) → StepsAt s id me →
    Stays key s r (once_read s stamp_at id me (glancing me.0))

-- a look at the own sign: what is found is noted, or that nothing was; so too where a context doesn't end, being signed
pub record IsNotedOnly (key : Start) (s : St) (r : Ruled key s) (id : ℕ) (me : Sat) (i : ℕ) : Type 0 where
  pub found : (slice_index s.words i ≡ 0 → IsQuiet (core_of me)) → Stays key s r (once_read s i id me (having_read me.0 (slice_index s.words i)))
  pub found_none : Stays key s r (once_read s i id me (finding_none me.0))

abbrev pub OwnSignIsNoEvent : Type 0
OwnSignIsNoEvent = (key : Start) (s : St) (r : Ruled key s) (id : ℕ) (me : Sat) → StepsAt s id me
    → IsNotedOnly key s r id me (sign_at key.locks (core_of me).who)

-- A try that finds another word than the seat expected: to take a lock at once; to release it at once; to take one at once
-- that it has, or to release one that it hasn't, of those that guard no node; to set a cancel where one is pending; to go
-- inside a guard; to heed a cancel where none is pending; or inside a guard.
pub record IsLostOnly (key : Start) (s : St) (r : Ruled key s) (id : ℕ) (me : Sat) (i : ℕ) : Type 0 where
  pub taking : Stays key s r (once_read s i id me (knowing me.0 (fast_missed (core_of me))))
  pub giving : Stays key s r (once_read s i id me (keeping me.0))
  pub nothing : Stays key s r (once_read s i id me me.0)
  pub cancelling : Stays key s r (once_read s i id me (finding_pending me.0))
  pub entering : Stays key s r (once_read s i id me (shutting_out me.0))
  pub heeding : Stays key s r (once_read s i id me (finding_uncancelled me.0))
  pub others : Stays key s r (once_read s i id me (lost me.0))

abbrev pub LostIsNoEvent : Type 0
LostIsNoEvent = (key : Start) (s : St) (r : Ruled key s) (id : ℕ) (me : Sat) (i : ℕ) → StepsAt s id me → IsLostOnly key s r id me i

-- a sign for a seat that was signed already
abbrev pub LostSignIsNoEvent : Type 0
LostSignIsNoEvent = (key : Start) (s : St) (r : Ruled key s) (id : ℕ) (me : Sat) (u : ℕ) → StepsAt s id me →
    u < key.places → slice_index s.words (sign_at key.locks u) ≢ 0 → Stays key s r (once_read s (sign_at key.locks u) id me (noting me.0 u))

-- the first idle number of a seat is cut off
abbrev pub SplitIsNoEvent : Type 0
SplitIsNoEvent = (key : Start) (s : St) (r : Ruled key s) (id : ℕ) (v : Sight) (p : Part) (ps : List Part) →
    get_elem? s.views id ≡ some v → v.seated ≡ true → v.idle ≡ p ∷ ps →
    Stays key s r (record {
      words = s.words;
      homes = s.homes;
      views = slice_set s.views id (without_first v) ++ first_seat (length v.held) v.idle ∷ [];
    })

-- a seat takes in another that owns nothing
abbrev pub JoinIsNoEvent : Type 0
JoinIsNoEvent = (key : Start) (s : St) (r : Ruled key s) (id : ℕ) (v : Sight) (other : ℕ) (w : Sight) →
    get_elem? s.views id ≡ some v → v.seated ≡ true → other ≢ id
    → get_elem? (slice_set s.views id (with_seat v w)) other ≡ some w → w.seated ≡ true → IsBare w.part.core →
    Stays key s r (record { words = s.words; homes = s.homes; views = slice_set (slice_set s.views id (with_seat v w)) other nobody })
