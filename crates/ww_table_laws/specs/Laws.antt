-- What holds of the table as a whole.
use Rattle.std.specs.Prelude.{ℕ, ◌≡◌, ◌<◌, ◌≤◌, ◌+◌, ◌↔◌, [], ◌∷◌, ◌++◌, true, List, length, replicate, slice_index, Some}
use mathlib.Core.Option.{some}
use lib.ListN.{get_elem?}
use Rattle.atomic_table.specs.Table.{stepped, keeps, takes, gives, rest, opening}
use Rattle.ww_word.specs.Owner as narrow
use Rattle.ww_word.specs.declared.owner.Owner.{Owner}
use Rattle.ww_word.specs.AnySeats.{IsValid, packed, most_for}
use Rattle.ww_model.specs.declared.event.Event.{Event}
use Rattle.ww_model.specs.declared.event.Event.TheVariants.{Begin, Fast, FastGive, Commit, End}
use Rattle.ww_model.specs.State.{State, start, word_of}
use Rattle.ww_model.specs.declared.state.Holder.TheVariants.{Nobody}
use Rattle.ww_model.specs.Event.{after}
use Rattle.ww_model.specs.Lawful.{IsLawful}
use Rattle.ww_model.specs.Waits.{IsCycle, AreContexts, IsOneOf, IsCondemned}
use Rattle.ww_plain.specs.declared.node.Node.{Node}
use Rattle.ww_plain.specs.declared.history.Record.{Record}
use Rattle.ww_plain.specs.Graph.{node_at}
use Rattle.ww_plain.specs.History.{Recorded, recorded_of, last_graph}
use Rattle.ww_view.specs.declared.view.View.{View}
use Rattle.ww_view.specs.View.{owns, IsAway, KnowsOwned}
use Rattle.ww_view.specs.May.{MayFast}
use Rattle.ww_view.specs.Made.{ended, fast_given, fast_taken}
use Rattle.ww_invariant.specs.declared.cells.Cell.{Cell}
use Rattle.ww_invariant.specs.declared.cells.Cell.TheVariants.{Content}
use Rattle.ww_invariant.specs.declared.cells.Start.{Start}
use Rattle.atomic_table.specs.Seated.{TableId}
use Rattle.ww_table.specs.declared.seat.Stepper.{Stepper}
use Rattle.ww_table.specs.Made.{AreNew}
use Rattle.ww_table.specs.Closed.{HaveAllCome}
use Rattle.ww_invariant.specs.Layout.{owner_at, sign_at, stamp_at, front_at, words_for, slots_for}
use Rattle.ww_invariant.specs.Homes.{AreSlots}
use Rattle.ww_invariant.specs.Rule.{St, Sat, first_graph, first_sight, Ruled, IsSize, MakesWith, Makes, Stays, AreNodes}
use Rattle.ww_invariant.specs.Steps.{MayDraw, MayEnd, MayPlace, taker, drawing, drawing_none, taking, giving, knowing, placing, IsToldBy}

-- what the seat knows of the core
abbrev pub core_of : Sat → View
core_of me = me.0.part.core

-- a seat of the table that steps: where its view stands, and the seat itself
pub record StepsAt (s : St) (id : ℕ) (me : Sat) : Type 0 where
  pub here : get_elem? s.views id ≡ some me.0
  pub seated : me.0.seated ≡ true

-- the stamp word goes one up as Begin
abbrev pub DrawIsBegin : Type 0
DrawIsBegin = (key : Start) (s : St) (r : Ruled key s) (id : ℕ) (me : Sat) → StepsAt s id me → MayDraw me.0.part →
    slice_index s.words stamp_at < most_for key.places →
    let stamp : ℕ = slice_index s.words stamp_at + 1 in
    Makes key s r (Begin (core_of me).who) (stepped s stamp_at stamp id me.1 (drawing me.0 stamp) keeps)

-- where all stamps are spent, which can't be with 16 seats, no context begins
abbrev pub SpentIsNoEvent : Type 0
SpentIsNoEvent = (key : Start) (s : St) (r : Ruled key s) (id : ℕ) (me : Sat) → StepsAt s id me → MayDraw me.0.part →
    most_for key.places ≤ slice_index s.words stamp_at →
    Stays key s r (stepped s stamp_at (slice_index s.words stamp_at + 1) id me.1 (drawing_none me.0) keeps)

abbrev pub FewSeatsSpendNone : Type 0
FewSeatsSpendNone = (key : Start) (s : St) (r : Ruled key s) → key.places ≡ 16 → slice_index s.words stamp_at < most_for key.places

-- with 16 seats each owner word is the one that `ww_word` packs without its second form
abbrev pub FewSeatsHaveNarrowWords : Type 0
FewSeatsHaveNarrowWords = (key : Start) (s : St) (r : Ruled key s) (n : ℕ) → key.places ≡ 16 → n < key.locks →
    slice_index s.words (owner_at key.locks n) ≡ narrow.packed (word_of r.core n)

-- outside a guard an owner word 0 becomes that of the seat as Fast, and the node that comes out has the fold's value
abbrev pub TakeFreeIsFast : Type 0
TakeFreeIsFast = (key : Start) (s : St) (r : Ruled key s) (id : ℕ) (me : Sat) (n : ℕ) → StepsAt s id me
    → n < length (first_graph key) → MayFast (core_of me) → slice_index s.words (owner_at key.locks n) ≡ 0 →
    let x : Node = node_at (last_graph (first_graph key) r.log) n in
    Makes key s r (Fast (core_of me).who n)
    (stepped s (owner_at key.locks n) (packed (taker (core_of me))) id me.1 (taking me.0 n x) (takes n (Content x)))

-- outside a guard the owner word of the seat without flags becomes 0 as FastGive
abbrev pub GiveFreeIsFastGive : Type 0
GiveFreeIsFastGive = (key : Start) (s : St) (r : Ruled key s) (id : ℕ) (me : Sat) (n : ℕ) (x : Node) → StepsAt s id me
    → n < length (first_graph key) → IsAway (core_of me) → owns (core_of me) n ≡ true →
    get_elem? me.0.held n ≡ some (Some x) → me.1 ≡ (n, Content x) ∷ rest me.1
    → slice_index s.words (owner_at key.locks n) ≡ packed (taker (core_of me)) →
    Makes key s r (FastGive (core_of me).who n) (stepped s (owner_at key.locks n) 0 id me.1 (giving me.0 n) gives)

-- the same of a lock that guards no node: no slot comes or goes
abbrev pub TakeBareIsFast : Type 0
TakeBareIsFast = (key : Start) (s : St) (r : Ruled key s) (id : ℕ) (me : Sat) (n : ℕ) → StepsAt s id me
    → length (first_graph key) ≤ n → n < key.locks → MayFast (core_of me) → slice_index s.words (owner_at key.locks n) ≡ 0 →
    Makes key s r (Fast (core_of me).who n)
    (stepped s (owner_at key.locks n) (packed (taker (core_of me))) id me.1 (knowing me.0 (fast_taken (core_of me) n))
    keeps)

abbrev pub GiveBareIsFastGive : Type 0
GiveBareIsFastGive = (key : Start) (s : St) (r : Ruled key s) (id : ℕ) (me : Sat) (n : ℕ) → StepsAt s id me
    → length (first_graph key) ≤ n → n < key.locks → IsAway (core_of me) → owns (core_of me) n ≡ true →
    slice_index s.words (owner_at key.locks n) ≡ packed (taker (core_of me)) →
    Makes key s r (FastGive (core_of me).who n) (stepped s (owner_at key.locks n) 0 id me.1 (knowing me.0 (fast_given (core_of me) n)) keeps)

-- Outside all guards and lists an owner word, except its flags, is the seat's own if and only if the seat owns the lock:
-- so a seat needs no list of what it holds.
abbrev pub WordsTellOwners : Type 0
WordsTellOwners = (key : Start) (s : St) (r : Ruled key s) (id : ℕ) (me : Sat) (n : ℕ) → StepsAt s id me → n < key.locks →
    IsAway (core_of me) → IsToldBy (core_of me) n (slice_index s.words (owner_at key.locks n))

-- An owner word is 0 if and only if nobody has taken the lock, nobody was handed it, and nobody waits for it: so a look at the
-- word tells whether it is free.
abbrev pub FreeWordsTell : Type 0
FreeWordsTell = (key : Start) (s : St) (r : Ruled key s) (n : ℕ) → n < key.locks →
    (slice_index s.words (owner_at key.locks n) ≡ 0) ↔ ((r.core.owner n ≡ Nobody) × (r.core.queue n ≡ []))

-- An owner whose word stands there is the lock's, with the flags that the lock has.
abbrev pub WordsTellWhose : Type 0
WordsTellWhose = (key : Start) (s : St) (r : Ruled key s) (n : ℕ) (o : Owner) → n < key.locks → IsValid o →
    slice_index s.words (owner_at key.locks n) ≡ packed o → o ≡ word_of r.core n

-- The part of the rule that tells who owns a lock (`RuleTellsOwners`). The owner words show a state of the core, in which a lock
-- has one owner at most; each seat that steps knows which locks are its own there; and each number stands in one place.
pub record RuledOwners (key : Start) (s : St) : Type 0 where
  pub core : State
  pub at : ℕ → ℕ
  pub locks : core.locks ≡ key.locks
  pub words : (n : ℕ) → n < key.locks → slice_index s.words (owner_at key.locks n) ≡ packed (word_of core n)
  pub known : (id : ℕ) (me : Sat) → StepsAt s id me → KnowsOwned core.locks core.owner (core_of me).who (core_of me).owned
  pub places : (id : ℕ) (me : Sat) → StepsAt s id me → at (core_of me).who ≡ id

-- every table has it that the rule allows, of the core that the rule tells
abbrev pub RuleTellsOwners : Type 0
RuleTellsOwners = (key : Start) (s : St) (r : Ruled key s) → (o : RuledOwners key s) × (o.core ≡ r.core)

-- Mutual exclusion, of what two seats know: at each moment a lock is owned by one seat of the table at most. Who owns it stands
-- where any other does that owns it, and so has its number.
abbrev pub OwnersExclude : Type 0
OwnersExclude = (key : Start) (s : St) → RuledOwners key s → (id other : ℕ) (me it : Sat) (n : ℕ) → StepsAt s id me → StepsAt s other it →
    owns (core_of me) n ≡ true → owns (core_of it) n ≡ true → (id ≡ other) × ((core_of me).who ≡ (core_of it).who)

-- the own sign word is found 0, and the context ends, as End
abbrev pub EndIsEnd : Type 0
EndIsEnd = (key : Start) (s : St) (r : Ruled key s) (id : ℕ) (me : Sat) → StepsAt s id me → MayEnd (core_of me)
    → slice_index s.words (sign_at key.locks (core_of me).who) ≡ 0 →
    let i : ℕ = sign_at key.locks (core_of me).who in
    Makes key s r (End (core_of me).who)
    (stepped s i (slice_index s.words i) id me.1 (knowing me.0 (ended (core_of me))) keeps)

-- the front word goes one up as Commit, and the commits are one more: this record, behind all others
abbrev pub PlaceIsCommit : Type 0
PlaceIsCommit = (key : Start) (s : St) (r : Ruled key s) (id : ℕ) (me : Sat) (done : Record) → StepsAt s id me
    → MayPlace me.0 (recorded_of done) →
    let place : ℕ = slice_index s.words front_at in
    MakesWith key s r (Commit (core_of me).who) (r.log ++ recorded_of done ∷ [])
    (stepped s front_at (place + 1) id me.1 (placing me.0 place done) keeps)

-- a lawful state of the core; every cycle of waits there has a condemned member, and each of its members a context
pub record IsSafeState (c : State) : Type 0 where
  pub lawful : IsLawful c
  pub condemned : (seats : List ℕ) → IsCycle c seats → (a : ℕ) × IsOneOf a seats × IsCondemned c a
  pub contexts : (seats : List ℕ) → IsCycle c seats → AreContexts c seats

-- the core that the rule tells of a table is one
abbrev pub RuledIsLawful : Type 0
RuledIsLawful = (key : Start) (s : St) (r : Ruled key s) → IsSafeState r.core

-- Whatever reached states the rule finds in a table, they are one: in each lock, seat and count. So are the commits.
abbrev pub ShownIsOne : Type 0
ShownIsOne = (key : Start) (s : St) (r r' : Ruled key s) → (r.core ≡ r'.core) × (r.log ≡ r'.log)

-- so after a step that is an event that one state is the state after the event, and a run to the state before goes on
abbrev pub StepsExtendTheRun : Type 0
StepsExtendTheRun = (key : Start) (s : St) (r : Ruled key s) (e : Event) (log : List Recorded) (s' : St)
    → MakesWith key s r e log s' → (r' : Ruled key s') → (r'.core ≡ after r.core e) × (r'.log ≡ log)

-- the rule holds of a table made just now, and tells the start of the core and no commits
abbrev pub NewTableShowsStart : Type 0
NewTableShowsStart = (key : Start) (slots : List Cell) → 1 ≤ key.seats → key.seats ≤ key.places → IsSize key.places → key.locks ≤ 16777216
    → length (first_graph key) ≤ key.locks → AreNodes (first_graph key)
    → AreSlots (first_graph key) (slots_for key.locks) slots →
    let s : St = opening (replicate (words_for key.locks key.places) 0) slots (first_sight key) in
    Ruled key s × ((r : Ruled key s) → (r.core ≡ start key.kind key.locks key.places) × (r.log ≡ []))

-- seats that did nothing yet can be handed in to close the table
abbrev pub NewSeatsCanClose : Type 0
NewSeatsCanClose = (table : TableId) (key : Start) (seats : List Stepper) → AreNew table key key.seats seats → HaveAllCome table key seats
