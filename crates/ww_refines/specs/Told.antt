-- Each step of `ww_table`, as it is made and told, is a play: whatever it tells its caller, the table and the seat are then
-- what a play leaves, and this one of the scene.
use Rattle.std.specs.Prelude.{ℕ, suc, ◌≡◌, ◌≢◌, ◌<◌, ◌≤◌, ◌+◌, ◌%◌, ◌^◌, ◌==◌, if◌then◌else◌, nat_lt, zero, Bool, true, List, [], ◌∷◌, length, Option, Some, None}
use mathlib.Core.Option.{some, none}
use mathlib.Core.Option as maybe
use lib.ListN.{get_elem?}
use prog.Atomic.{either}
use Rattle.atomic_table.specs.Table.{Act, Valid, carried_after, rest, step, stepped}
use Rattle.atomic_table.specs.Table as table
use Rattle.ww_word.specs.declared.owner.Owner.{Owner}
use Rattle.ww_word.specs.Owner.{with_waiters}
use Rattle.ww_word.specs.AnySeats.{IsValid, packed, most_for}
use Rattle.ww_queue.specs.Queue.{left}
use Rattle.ww_model.specs.declared.event.Event.TheVariants.{Begin, Clear, Fast, FastGive, Guard, Join, Sign, Take, Ask, Give, Die, Unguard, Commit, End, Cancel, Heed, Leave}
use Rattle.ww_plain.specs.declared.node.Node.{Node}
use Rattle.ww_plain.specs.declared.history.Record.{Record}
use Rattle.ww_plain.specs.History.{recorded_of}
use Rattle.ww_view.specs.declared.view.View.{View}
use Rattle.ww_view.specs.View.{owns, IsAway}
use Rattle.ww_view.specs.Word.{taken_word, asked_word, given_word, rest_word}
use Rattle.ww_view.specs.May.{MayFast, MayGlance, MayEnter, MayJoin, MayTake, MayAsk, MayGive, MayDie, MayHeed, MayStop, MaySign, MayClear, MayLeave}
use Rattle.ww_invariant.specs.declared.cells.Cell.{Cell}
use Rattle.ww_invariant.specs.declared.cells.Cell.TheVariants.{Content, Line}
use Rattle.ww_invariant.specs.declared.cells.Sight.{Sight}
use Rattle.ww_invariant.specs.declared.cells.Start.{Start}
use Rattle.ww_invariant.specs.Layout.{owner_at, guard_at, sign_at, cancel_at, stamp_at, front_at, list_at}
use Rattle.ww_invariant.specs.Rule.{Sat, first_graph}
use Rattle.ww_invariant.specs.Steps.{MayDraw, MayEnd, MayPlace, taker, draws_to, takes_to, gives_to, takes_bare_to, gives_bare_to, owns_to, whose_to, ends_to, places_to}
use Rattle.ww_invariant.specs.Guards.{enters_to, exits_to, looks_to, glances_to, counts_to}
use Rattle.ww_invariant.specs.Waiting.{tries_to, joins, takes_inside, takes_bare_inside, gives_inside, gives_bare_inside, asks, dies_to}
use Rattle.ww_invariant.specs.Signs.{signs_to, reads_to, clears_to}
use Rattle.ww_invariant.specs.Cancels.{cancels_to, heeds_to, leaves_to}
use Rattle.ww_laws.specs.Scene.{Step, performs, leaves_to_sleep, finds_no_sign, finds_no_cancel}
use Rattle.ww_refines.specs.Tables.{TableMoment}
use Rattle.ww_refines.specs.Plays.{Plays, word}

-- no slot of these has this number
abbrev pub IsNoneOf : ℕ → List (ℕ × Cell) → Type 0
IsNoneOf n [] = Unit {0}
IsNoneOf n (x ∷ xs) = (x.0 ≢ n) × IsNoneOf n xs

-- none of the slots that a seat has is at home, and no two are one
abbrev pub AreOut : List (maybe.Option Cell) → List (ℕ × Cell) → Type 0
AreOut homes [] = Unit {0}
AreOut homes (x ∷ xs) = (get_elem? homes x.0 ≡ some none) × IsNoneOf x.0 xs × AreOut homes xs

module _ {key : Start} (m : TableMoment key) (id : ℕ) (me : Sat) where
  -- what the seat knows
  abbrev pub mine : View
  mine = me.0.part.core

  -- it is a seat of the table
  pub record StandsThere : Type 0 where
    pub here : get_elem? m.table.views id ≡ some me.0
    pub seated : me.0.seated ≡ true
    pub out : AreOut m.table.homes me.1

  -- ---- the operations on a word

  -- Word i becomes x. Whatever the seat's view is then, and whichever slots came and went: if that is as the step tells, a play
  -- of the seat leaves the table so, and is this step of the scene, or none.
  abbrev pub IsPlay : Option Step → ℕ → ℕ → (Sat → Type 0) → Type 0
  IsPlay p i x told = (w : Sight) (a : Act Cell) → Valid m.table.homes me.1 a → told (w, carried_after me.1 a) →
      Plays m id me p (stepped m.table i x id me.1 w a)

  -- what a step tells of the operation, of the seat before, of the number that it found and of the seat then
  abbrev pub Tells : Type 1
  Tells = table.Step Cell → Sat → ℕ → Sat → Type 0

  -- a compare-exchange: this step of the scene where it finds what it expects, and else none
  abbrev pub Exchanges : ℕ → ℕ → ℕ → Step → Tells → Type 0
  Exchanges i old new s tells = (slots : ℕ) → let x : ℕ = word m id me i in
      IsPlay (if x == old then Some s else None) i (either (x == old) new x) (tells (step slots i old new none) me x)

  abbrev pub Loads : ℕ → (ℕ → Option Step) → Tells → Type 0
  Loads i p tells = (slots : ℕ) → let x : ℕ = word m id me i in IsPlay (p x) i x (tells (step slots i 0 0 none) me x)

  abbrev pub Stores : ℕ → ℕ → Option Step → Tells → Type 0
  Stores i new p tells = (slots : ℕ) → IsPlay p i new (tells (step slots i new 0 none) me new)

  abbrev pub Swaps : ℕ → ℕ → (ℕ → Option Step) → Tells → Type 0
  Swaps i new p tells = (slots : ℕ) → let x : ℕ = word m id me i in IsPlay (p x) i new (tells (step slots i new 0 none) me x)

  abbrev pub Adds : ℕ → ℕ → (ℕ → Option Step) → Tells → Type 0
  Adds i k p tells = (slots : ℕ) → let x : ℕ = word m id me i in
      IsPlay (p x) i ((x + k) % 2 ^ 64) (tells (step slots i k 0 none) me x)

  -- this step where the number is 0, and else that one
  abbrev pub where_0 : Option Step → Option Step → ℕ → Option Step
  where_0 p q x = if x == 0 then p else q

  -- ---- the steps, each by the name of its function: what that asks of the seat, its operation, and what it tells

  -- a context begins where stamps are left
  abbrev pub where_left : ℕ → Option Step
  where_left x = if nat_lt x (most_for key.places) then Some (performs (Begin mine.who)) else None

  -- out of a guard: in order to sleep, if the seat waits
  abbrev pub way_out : ℕ → ℕ → Bool → Step
  way_out zero n heeds = performs (Unguard mine.who n)
  way_out (suc k) n heeds = leaves_to_sleep mine.who n heeds

  -- outside the guards
  pub record OutsideSteps : Type 0 where
    pub draw : MayDraw me.0.part → Adds stamp_at 1 where_left draws_to
    pub take_free : (n : ℕ) → n < length (first_graph key) → MayFast mine →
        Exchanges (owner_at key.locks n) 0 (packed (taker mine)) (performs (Fast mine.who n)) takes_to
    pub give_free : (n : ℕ) (x : Node) → n < length (first_graph key) → IsAway mine → owns mine n ≡ true →
        get_elem? me.0.held n ≡ some (Some x) → me.1 ≡ (n, Content x) ∷ rest me.1 →
        Exchanges (owner_at key.locks n) (packed (taker mine)) 0 (performs (FastGive mine.who n)) gives_to
    pub take_bare : (n : ℕ) → length (first_graph key) ≤ n → n < key.locks → MayFast mine →
        Exchanges (owner_at key.locks n) 0 (packed (taker mine)) (performs (Fast mine.who n)) takes_bare_to
    pub give_bare : (n : ℕ) → length (first_graph key) ≤ n → n < key.locks → IsAway mine →
        Exchanges (owner_at key.locks n) (packed (taker mine)) 0 (performs (FastGive mine.who n)) gives_bare_to
    pub has : (n : ℕ) → n < key.locks → IsAway mine → Loads (owner_at key.locks n) (λ _. None) owns_to
    pub whose : (n : ℕ) → n < key.locks → Loads (owner_at key.locks n) (λ _. None) whose_to
    pub end : MayEnd mine →
        Loads (sign_at key.locks mine.who) (where_0 (Some (performs (End mine.who))) None) ends_to
    pub place : (done : Record) → MayPlace me.0 (recorded_of done) →
        Adds front_at 1 (λ _. Some (performs (Commit mine.who))) (places_to (Some done))
    pub glance : (n : ℕ) → n < key.locks → MayGlance mine → Loads (owner_at key.locks n) (λ _. None) glances_to
    pub begun : MayGlance mine → Loads stamp_at (λ _. None) counts_to
    pub set_cancel : (u : ℕ) → u < key.seats → IsAway mine →
        Exchanges (cancel_at key.locks u) 0 (mine.who + 1) (performs (Cancel mine.who u)) cancels_to

  -- into a guard and out of it, on signs, and on the own cancel
  pub record GuardSteps : Type 0 where
    pub enter : (n : ℕ) → n < key.locks → MayEnter mine n →
        Exchanges (guard_at key.locks n) 0 (suc mine.who) (performs (Guard mine.who n)) enters_to
    pub exit : (n : ℕ) (heeds : Bool) → MayLeave mine n → (heeds ≡ true → mine.uncancelled ≡ true) →
        me.1 ≡ (list_at n, Line mine.list) ∷ rest me.1 →
        Stores (guard_at key.locks n) 0 (Some (way_out mine.waits n heeds)) exits_to
    pub look : (n : ℕ) → mine.inside ≡ suc n → Loads (owner_at key.locks n) (λ _. None) looks_to
    pub sign : (n u k : ℕ) → u < key.places → MaySign mine n u k →
        Exchanges (sign_at key.locks u) 0 k (performs (Sign mine.who u)) signs_to
    pub own_sign : Loads (sign_at key.locks mine.who) (where_0 (Some (finds_no_sign mine.who)) None) reads_to
    pub clear : MayClear mine →
        Stores (sign_at key.locks mine.who) 0 (Some (performs (Clear mine.who))) clears_to
    pub heed : (n : ℕ) → MayHeed mine n →
        Swaps (cancel_at key.locks mine.who) 0
        (where_0 (Some (finds_no_cancel mine.who)) (Some (performs (Heed mine.who n)))) heeds_to

  -- inside a guard, on the owner word, which is expected to tell this owner
  pub record WordSteps (n : ℕ) (o : Owner) : Type 0 where
    pub join : MayJoin mine n o →
        Exchanges (owner_at key.locks n) (packed o) (packed (with_waiters o)) (performs (Join mine.who n)) (tries_to joins)
    pub ask : MayAsk mine n o →
        Exchanges (owner_at key.locks n) (packed o) (packed (asked_word o)) (performs (Ask mine.who n)) (tries_to asks)
    pub take : (y : Cell) (others : List (ℕ × Cell)) → n < length (first_graph key) → MayTake mine n o →
        me.1 ≡ (list_at n, y) ∷ others →
        Exchanges (owner_at key.locks n) (packed o)
        (packed (taken_word mine.who mine.stamp (left mine.list mine.who)))
        (performs (Take mine.who n)) (tries_to takes_inside)
    pub take_bare_inside : length (first_graph key) ≤ n → MayTake mine n o →
        Exchanges (owner_at key.locks n) (packed o)
        (packed (taken_word mine.who mine.stamp (left mine.list mine.who)))
        (performs (Take mine.who n)) (tries_to takes_bare_inside)
    pub give : (x : Node) → MayGive mine n → get_elem? me.0.held n ≡ some (Some x) →
        me.1 ≡ (n, Content x) ∷ rest me.1 →
        Exchanges (owner_at key.locks n) (packed o) (packed (given_word (o.flags == 3) mine.list))
        (performs (Give mine.who n)) (tries_to gives_inside)
    pub give_bare_inside : length (first_graph key) ≤ n → MayGive mine n →
        Exchanges (owner_at key.locks n) (packed o) (packed (given_word (o.flags == 3) mine.list))
        (performs (Give mine.who n)) (tries_to gives_bare_inside)
    pub die : (k : ℕ) → MayDie mine n o k →
        Exchanges (owner_at key.locks n) (packed o) (packed (rest_word (left mine.list mine.who) o))
        (performs (Die mine.who n)) dies_to
    pub leave : MayStop mine n →
        Exchanges (owner_at key.locks n) (packed o) (packed (rest_word (left mine.list mine.who) o))
        (performs (Leave mine.who n)) leaves_to

-- each step of a seat
pub record AllSteps {key : Start} (m : TableMoment key) (id : ℕ) (me : Sat) : Type 0 where
  pub outside : OutsideSteps m id me
  pub guards : GuardSteps m id me
  pub words : (n : ℕ) (o : Owner) → IsValid o → WordSteps m id me n o

-- ... is a play
abbrev pub StepsArePlays : Type 0
StepsArePlays = (key : Start) (m : TableMoment key) (id : ℕ) (me : Sat) → StandsThere m id me → AllSteps m id me
