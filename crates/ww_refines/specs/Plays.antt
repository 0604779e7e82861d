-- What a seat does at the table, play by play, and which step of the scene each is to be.
use Rattle.std.specs.Prelude.{ℕ, suc, ◌≡◌, ◌≢◌, ◌<◌, ◌≤◌, ◌+◌, ◌==◌, Bool, true, List, [], ◌∷◌, ◌++◌, length, slice_index, slice_set, Option, Some, None}
use mathlib.Core.Option.{some}
use lib.ListN.{get_elem?}
use Rattle.atomic_table.specs.Table.{Act, stepped, keeps, takes, gives, chain, rest}
use Rattle.ww_word.specs.declared.owner.Owner.{Owner}
use Rattle.ww_word.specs.Owner.{with_waiters}
use Rattle.ww_word.specs.AnySeats.{IsValid, packed, most_for}
use Rattle.ww_queue.specs.Queue.{left}
use Rattle.ww_model.specs.declared.event.Event.TheVariants.{Begin, Clear, Fast, FastGive, Guard, Join, Sign, Take, Ask, Give, Die, Unguard, Commit, End, Cancel, Heed, Leave}
use Rattle.ww_model.specs.Event.{actor}
use Rattle.ww_plain.specs.declared.node.Node.{Node}
use Rattle.ww_plain.specs.declared.history.Record.{Record}
use Rattle.ww_plain.specs.Graph.{node_at}
use Rattle.ww_plain.specs.History.{recorded_of, last_graph}
use Rattle.ww_view.specs.declared.view.View.{View}
use Rattle.ww_view.specs.Word.{taken_word, asked_word, given_word, rest_word}
use Rattle.ww_view.specs.View.{owns, IsAway, IsBare, IsQuiet}
use Rattle.ww_view.specs.May.{MayFast, MayEnter, MayJoin, MayTake, MayAsk, MayGive, MayDie, MayHeed, MayStop, MaySign, MayClear, MayExit, MayLeave}
use Rattle.ww_view.specs.Made.{ended, fast_taken, fast_missed, fast_given, fast_kept, glanced, has_seen_word, found_pending, shut_out, has_looked, noted, has_read, found_none, found_uncancelled, stepped as made_a_step, taken, given}
use Rattle.ww_invariant.specs.declared.cells.Cell.{Cell}
use Rattle.ww_invariant.specs.declared.cells.Cell.TheVariants.{Content, Line}
use Rattle.ww_invariant.specs.declared.cells.Part.{Part}
use Rattle.ww_invariant.specs.declared.cells.Sight.{Sight}
use Rattle.ww_invariant.specs.declared.cells.Start.{Start}
use Rattle.ww_invariant.specs.Layout.{owner_at, guard_at, sign_at, cancel_at, stamp_at, front_at, list_at}
use Rattle.ww_invariant.specs.Rule.{St, Sat, first_graph}
use Rattle.ww_invariant.specs.Steps.{MayDraw, MayEnd, MayPlace, taker, drawing, drawing_none, taking, giving, knowing, placing, nobody, first_seat, without_first, with_seat}
use Rattle.ww_invariant.specs.Guards.{entering, exiting}
use Rattle.ww_invariant.specs.Waiting.{joining, taking_inside, giving_inside, asking, dying}
use Rattle.ww_invariant.specs.Signs.{condemning, clearing}
use Rattle.ww_invariant.specs.Cancels.{cancelling, heeding, stopping}
use Rattle.ww_laws.specs.Scene.{Step, performs, leaves_to_sleep, finds_no_sign, finds_no_cancel, wakes, falls_asleep, rises}
use Rattle.ww_refines.specs.Moment.{Acts}
use Rattle.ww_refines.specs.Tables.{NotesWhatStands, TableMoment, moment_of}
use Rattle.ww_refines.specs.Moves.{StepsThere, Follows}

module _ {key : Start} (m : TableMoment key) (id : ℕ) (me : Sat) where
  abbrev pub own : View
  own = me.0.part.core

  abbrev pub word : ℕ → ℕ
  word i = slice_index m.table.words i

  -- the value of a node, by the commits so far
  abbrev pub node_there : ℕ → Node
  node_there n = node_at (last_graph (first_graph key) m.ruled.log) n

  -- the table once word i is x, the seat's view is w, and slots came or went
  abbrev pub changed : ℕ → ℕ → Sight → Act Cell → St
  changed i x w a = stepped m.table i x id me.1 w a

  -- ... or the seat only read word i
  abbrev pub read : ℕ → View → St
  read i v = changed i (word i) (knowing me.0 v) keeps

  -- What a seat's view is once it read word i, and made neither an event nor found that it has no sign, or no cancel:
  -- it looked at an owner word inside the guard; read a word from outside; saw whose a lock is; read its own sign, which isn't 0; found a
  -- seat signed, or its cancel pending; or found another word than it expected.
  pub data IsFound : ℕ → View → Type 0 where
    looks : (n : ℕ) (o : Owner) → own.inside ≡ suc n → IsValid o → word (owner_at key.locks n) ≡ packed o →
        IsFound (owner_at key.locks n) (has_looked own o)
    glances : (i : ℕ) → IsFound i (glanced own)
    sees : (n : ℕ) → n < key.locks → IsFound (owner_at key.locks n) (has_seen_word own n (word (owner_at key.locks n)))
    tells_nothing : (i : ℕ) → IsFound i own
    is_signed : word (sign_at key.locks own.who) ≢ 0 →
        IsFound (sign_at key.locks own.who) (has_read own (word (sign_at key.locks own.who)))
    signed_already : (u : ℕ) → u < key.places → word (sign_at key.locks u) ≢ 0 →
        IsFound (sign_at key.locks u) (noted own u)
    pending_already : (i : ℕ) → IsFound i (found_pending own)
    misses : (i : ℕ) → IsFound i (fast_missed own)
    keeps_it : (i : ℕ) → IsFound i (fast_kept own)
    is_shut_out : (i : ℕ) → IsFound i (shut_out own)
    loses : (i : ℕ) → IsFound i (made_a_step own)

  pub data Plays : Option Step → St → Type 0 where
    -- outside the guards
    draws : MayDraw me.0.part → word stamp_at < most_for key.places →
        Plays (Some (performs (Begin own.who)))
        (changed stamp_at (word stamp_at + 1) (drawing me.0 (word stamp_at + 1)) keeps)
    takes_free : (n : ℕ) → n < length (first_graph key) → MayFast own → word (owner_at key.locks n) ≡ 0 →
        Plays (Some (performs (Fast own.who n)))
        (changed (owner_at key.locks n) (packed (taker own)) (taking me.0 n (node_there n)) (takes n (Content (node_there n))))
    gives_free : (n : ℕ) (x : Node) → n < length (first_graph key) → IsAway own → owns own n ≡ true →
        get_elem? me.0.held n ≡ some (Some x) → me.1 ≡ (n, Content x) ∷ rest me.1 →
        word (owner_at key.locks n) ≡ packed (taker own) →
        Plays (Some (performs (FastGive own.who n))) (changed (owner_at key.locks n) 0 (giving me.0 n) gives)
    takes_bare : (n : ℕ) → length (first_graph key) ≤ n → n < key.locks → MayFast own → word (owner_at key.locks n) ≡ 0 →
        Plays (Some (performs (Fast own.who n)))
        (changed (owner_at key.locks n) (packed (taker own)) (knowing me.0 (fast_taken own n)) keeps)
    gives_bare : (n : ℕ) → length (first_graph key) ≤ n → n < key.locks → IsAway own → owns own n ≡ true →
        word (owner_at key.locks n) ≡ packed (taker own) →
        Plays (Some (performs (FastGive own.who n))) (changed (owner_at key.locks n) 0 (knowing me.0 (fast_given own n)) keeps)
    ends : MayEnd own → word (sign_at key.locks own.who) ≡ 0 →
        Plays (Some (performs (End own.who))) (read (sign_at key.locks own.who) (ended own))
    places : (done : Record) → MayPlace me.0 (recorded_of done) →
        Plays (Some (performs (Commit own.who)))
        (changed front_at (word front_at + 1) (placing me.0 (word front_at) done) keeps)
    cancels : (u : ℕ) → IsAway own → u < key.seats → word (cancel_at key.locks u) ≡ 0 →
        Plays (Some (performs (Cancel own.who u)))
        (changed (cancel_at key.locks u) (own.who + 1) (cancelling me.0 u) keeps)
    -- into a guard, and out of it
    enters : (n : ℕ) → n < key.locks → MayEnter own n → word (guard_at key.locks n) ≡ 0 →
        Plays (Some (performs (Guard own.who n)))
        (changed (guard_at key.locks n) (suc own.who) (entering me.0 n (m.ruled.core.queue n))
        (takes (list_at n) (Line (m.ruled.core.queue n))))
    exits : (n : ℕ) → MayExit own n → own.waits ≡ 0 → me.1 ≡ (list_at n, Line own.list) ∷ rest me.1 →
        Plays (Some (performs (Unguard own.who n))) (changed (guard_at key.locks n) 0 (exiting me.0) gives)
    exits_to_sleep : (n : ℕ) (heeds : Bool) → MayLeave own n → own.waits ≡ suc n →
        (heeds ≡ true → own.uncancelled ≡ true) → me.1 ≡ (list_at n, Line own.list) ∷ rest me.1 →
        Plays (Some (leaves_to_sleep own.who n heeds)) (changed (guard_at key.locks n) 0 (exiting me.0) gives)
    -- inside
    joins : (n : ℕ) (o : Owner) → MayJoin own n o → IsValid o → word (owner_at key.locks n) ≡ packed o →
        Plays (Some (performs (Join own.who n)))
        (changed (owner_at key.locks n) (packed (with_waiters o)) (joining me.0 n o) keeps)
    takes_inside : (n : ℕ) (o : Owner) (y : Cell) (others : List (ℕ × Cell)) → n < length (first_graph key) →
        MayTake own n o → IsValid o → word (owner_at key.locks n) ≡ packed o → me.1 ≡ (list_at n, y) ∷ others →
        Plays (Some (performs (Take own.who n)))
        (changed (owner_at key.locks n) (packed (taken_word own.who own.stamp (left own.list own.who)))
        (taking_inside me.0 n (node_there n))
        (chain gives (chain (takes n (Content (node_there n))) (takes (list_at n) y))))
    takes_bare_inside : (n : ℕ) (o : Owner) → length (first_graph key) ≤ n → MayTake own n o → IsValid o →
        word (owner_at key.locks n) ≡ packed o →
        Plays (Some (performs (Take own.who n)))
        (changed (owner_at key.locks n) (packed (taken_word own.who own.stamp (left own.list own.who)))
        (knowing me.0 (taken own n)) keeps)
    gives_inside : (n : ℕ) (o : Owner) (x : Node) → MayGive own n → get_elem? me.0.held n ≡ some (Some x) → IsValid o →
        word (owner_at key.locks n) ≡ packed o → me.1 ≡ (n, Content x) ∷ rest me.1 →
        Plays (Some (performs (Give own.who n)))
        (changed (owner_at key.locks n) (packed (given_word (o.flags == 3) own.list)) (giving_inside me.0 n (o.flags == 3)) gives)
    gives_bare_inside : (n : ℕ) (o : Owner) → length (first_graph key) ≤ n → MayGive own n → IsValid o →
        word (owner_at key.locks n) ≡ packed o →
        Plays (Some (performs (Give own.who n)))
        (changed (owner_at key.locks n) (packed (given_word (o.flags == 3) own.list))
        (knowing me.0 (given own n (o.flags == 3))) keeps)
    asks : (n : ℕ) (o : Owner) → MayAsk own n o → IsValid o → word (owner_at key.locks n) ≡ packed o →
        Plays (Some (performs (Ask own.who n))) (changed (owner_at key.locks n) (packed (asked_word o)) (asking me.0 o) keeps)
    dies : (n : ℕ) (o : Owner) (k : ℕ) → MayDie own n o k → IsValid o → word (owner_at key.locks n) ≡ packed o →
        Plays (Some (performs (Die own.who n)))
        (changed (owner_at key.locks n) (packed (rest_word (left own.list own.who) o)) (dying me.0 o) keeps)
    leaves : (n : ℕ) (o : Owner) → MayStop own n → IsValid o → word (owner_at key.locks n) ≡ packed o →
        Plays (Some (performs (Leave own.who n)))
        (changed (owner_at key.locks n) (packed (rest_word (left own.list own.who) o)) (stopping me.0 o) keeps)
    heeds : (n : ℕ) → MayHeed own n → word (cancel_at key.locks own.who) ≢ 0 →
        Plays (Some (performs (Heed own.who n)))
        (changed (cancel_at key.locks own.who) 0 (heeding me.0 (word (cancel_at key.locks own.who))) keeps)
    signs : (n u k : ℕ) → MaySign own n u k → u < key.places → word (sign_at key.locks u) ≡ 0 →
        Plays (Some (performs (Sign own.who u))) (changed (sign_at key.locks u) k (condemning me.0 u) keeps)
    clears : MayClear own →
        Plays (Some (performs (Clear own.who))) (changed (sign_at key.locks own.who) 0 (clearing me.0) keeps)
    -- no event, but a step of the scene
    finds_unsigned : word (sign_at key.locks own.who) ≡ 0 →
        Plays (Some (finds_no_sign own.who)) (read (sign_at key.locks own.who) (found_none own))
    finds_unsigned_for_long : word (sign_at key.locks own.who) ≡ 0 → IsQuiet own →
        Plays (Some (finds_no_sign own.who)) (read (sign_at key.locks own.who) (has_read own 0))
    finds_uncancelled : word (cancel_at key.locks own.who) ≡ 0 →
        Plays (Some (finds_no_cancel own.who)) (read (cancel_at key.locks own.who) (found_uncancelled own))
    -- none
    finds : (i : ℕ) (v : View) → IsFound i v → Plays None (read i v)
    draws_none : MayDraw me.0.part → most_for key.places ≤ word stamp_at →
        Plays None (changed stamp_at (word stamp_at + 1) (drawing_none me.0) keeps)
    -- a seat is cut off from this one, or taken in by it
    cuts_off : (p : Part) (ps : List Part) → me.0.idle ≡ p ∷ ps →
        Plays None (record {
          words = m.table.words;
          homes = m.table.homes;
          views = slice_set m.table.views id (without_first me.0) ++ first_seat (length me.0.held) me.0.idle ∷ [];
        })
    takes_in : (other : ℕ) (w : Sight) → other ≢ id →
        get_elem? (slice_set m.table.views id (with_seat me.0 w)) other ≡ some w →
        w.seated ≡ true → IsBare w.part.core →
        Plays None (record {
          words = m.table.words;
          homes = m.table.homes;
          views = slice_set (slice_set m.table.views id (with_seat me.0 w)) other nobody;
        })

-- this is a step that seat d makes at the table
abbrev pub IsBy : ℕ → Option Step → Type 0
IsBy d (Some (performs e)) = actor e ≡ d
IsBy d (Some (leaves_to_sleep s n until)) = s ≡ d
IsBy d (Some (finds_no_sign s)) = s ≡ d
IsBy d (Some (finds_no_cancel s)) = s ≡ d
IsBy d (Some (wakes s u)) = ⊥
IsBy d (Some (falls_asleep s)) = ⊥
IsBy d (Some (rises s)) = ⊥
IsBy d None = Unit {0}

-- a moment follows by that step of seat d, in which the table is this
pub record Moved {key : Start} (m : TableMoment key) (d : ℕ) (x : Option Step) (s : St) : Type 0 where
  pub moment : TableMoment key
  pub table : moment.table ≡ s
  pub there : StepsThere (moment_of m) (moment_of moment) d
  pub by : IsBy d x
  pub notes : NotesWhatStands key m.ruled.core (m.part d).core (moment.part d).core
  pub follows : Follows (moment_of m) (moment_of moment) x

-- each play of a seat that acts is a move of that seat
abbrev pub PlaysAreMoves : Type 0
PlaysAreMoves = (key : Start) (m : TableMoment key) (id : ℕ) (me : Sat) (x : Option Step) (s : St) →
    get_elem? m.table.views id ≡ some me.0 → me.0.seated ≡ true → Acts (moment_of m) me.0.part.core.who →
    Plays m id me x s → Moved m me.0.part.core.who x s
