-- Of the steps at guards, inside them, on signs and on cancels: from every table that the rule allows each is one event
-- on what is shown.
use Rattle.std.specs.Prelude.{ℕ, suc, ◌≡◌, ◌≢◌, ◌<◌, ◌≤◌, ◌+◌, ◌-◌, ◌==◌, ◌∷◌, List, length, slice_index, Some}
use mathlib.Core.Option.{some}
use lib.ListN.{get_elem?}
use Rattle.atomic_table.specs.Table.{stepped, keeps, takes, gives, chain, rest}
use Rattle.ww_word.specs.declared.owner.Owner.{Owner}
use Rattle.ww_word.specs.Owner.{with_waiters}
use Rattle.ww_word.specs.AnySeats.{IsValid, packed}
use Rattle.ww_queue.specs.declared.entry.Entry.{Entry}
use Rattle.ww_queue.specs.Queue.{left}
use Rattle.ww_model.specs.declared.event.Event.TheVariants.{Clear, Guard, Join, Sign, Take, Ask, Give, Die, Unguard, Cancel, Heed, Leave}
use Rattle.ww_model.specs.declared.event.Answer.TheVariants.{Interrupted}
use Rattle.ww_model.specs.Event.{answer}
use Rattle.ww_model.specs.State.{dies}
use Rattle.ww_model.specs.Run.{Reached}
use Rattle.ww_model.specs.Met.{DeadlkIsMet}
use Rattle.ww_plain.specs.declared.node.Node.{Node}
use Rattle.ww_plain.specs.Graph.{node_at}
use Rattle.ww_plain.specs.History.{last_graph}
use Rattle.ww_view.specs.Word.{taken_word, asked_word, given_word, rest_word}
use Rattle.ww_view.specs.May.{MayEnter, MayExit, MayJoin, MayTake, MayAsk, MayGive, MayDie, MaySign, MayClear, MayHeed, MayStop}
use Rattle.ww_view.specs.Made.{given, taken}
use Rattle.ww_invariant.specs.declared.cells.Cell.{Cell}
use Rattle.ww_invariant.specs.declared.cells.Cell.TheVariants.{Content, Line}
use Rattle.ww_invariant.specs.declared.cells.Start.{Start}
use Rattle.ww_invariant.specs.Layout.{owner_at, guard_at, sign_at, cancel_at, list_at}
use Rattle.ww_invariant.specs.Rule.{St, Sat, first_graph, Ruled, Makes}
use Rattle.ww_invariant.specs.Steps.{knowing}
use Rattle.ww_invariant.specs.Guards.{entering, exiting}
use Rattle.ww_invariant.specs.Waiting.{joining, taking_inside, giving_inside, asking, dying}
use Rattle.ww_invariant.specs.Signs.{condemning, clearing}
use Rattle.ww_invariant.specs.Cancels.{cancelling, heeding, stopping}
use Rattle.ww_view.specs.View.{IsAway}
use Rattle.ww_table_laws.specs.Laws.{StepsAt, core_of}

-- a guard word 0 becomes that of the seat as Guard, and the list that comes out is that of the lock
abbrev pub EnterIsGuard : Type 0
EnterIsGuard = (key : Start) (s : St) (r : Ruled key s) (id : ℕ) (me : Sat) (n : ℕ) → StepsAt s id me →
    n < key.locks → MayEnter (core_of me) n → slice_index s.words (guard_at key.locks n) ≡ 0 → let q : List Entry = r.core.queue n in
    Makes key s r (Guard (core_of me).who n)
    (stepped s (guard_at key.locks n) (suc (core_of me).who) id me.1 (entering me.0 n q) (takes (list_at n) (Line q)))

-- a guard word becomes 0 as Unguard, and the list that goes home is that of the view
abbrev pub ExitIsUnguard : Type 0
ExitIsUnguard = (key : Start) (s : St) (r : Ruled key s) (id : ℕ) (me : Sat) (n : ℕ) → StepsAt s id me →
    MayExit (core_of me) n → me.1 ≡ (list_at n, Line (core_of me).list) ∷ rest me.1 →
    Makes key s r (Unguard (core_of me).who n) (stepped s (guard_at key.locks n) 0 id me.1 (exiting me.0) gives)

-- an owner word gets WAITERS as Join
abbrev pub JoinIsJoin : Type 0
JoinIsJoin = (key : Start) (s : St) (r : Ruled key s) (id : ℕ) (me : Sat) (n : ℕ) (o : Owner) → StepsAt s id me →
    MayJoin (core_of me) n o → IsValid o → slice_index s.words (owner_at key.locks n) ≡ packed o →
    Makes key s r (Join (core_of me).who n) (stepped s (owner_at key.locks n) (packed (with_waiters o)) id me.1 (joining me.0 n o) keeps)

-- an owner word becomes that of a seat inside the guard as Take, and the node that comes out has the fold's value
abbrev pub TakeIsTake : Type 0
TakeIsTake = (key : Start) (s : St) (r : Ruled key s) (id : ℕ) (me : Sat) (n : ℕ) (o : Owner) (y : Cell)
    (others : List (ℕ × Cell)) → StepsAt s id me →
    n < length (first_graph key) → MayTake (core_of me) n o → IsValid o → slice_index s.words (owner_at key.locks n) ≡ packed o →
    me.1 ≡ (list_at n, y) ∷ others → let x : Node = node_at (last_graph (first_graph key) r.log) n in
    Makes key s r (Take (core_of me).who n)
    (stepped s (owner_at key.locks n) (packed (taken_word (core_of me).who (core_of me).stamp
    (left (core_of me).list (core_of me).who))) id me.1
    (taking_inside me.0 n x) (chain gives (chain (takes n (Content x)) (takes (list_at n) y))))

-- an owner word of the seat inside the guard becomes nobody's, or the first waiter's, as Give
abbrev pub GiveIsGive : Type 0
GiveIsGive = (key : Start) (s : St) (r : Ruled key s) (id : ℕ) (me : Sat) (n : ℕ) (o : Owner) (x : Node) → StepsAt s id me →
    MayGive (core_of me) n → get_elem? me.0.held n ≡ some (Some x) → IsValid o → slice_index s.words (owner_at key.locks n) ≡ packed o →
    me.1 ≡ (n, Content x) ∷ rest me.1 →
    Makes key s r (Give (core_of me).who n)
    (stepped s (owner_at key.locks n) (packed (given_word (o.flags == 3) (core_of me).list)) id me.1 (giving_inside me.0 n (o.flags == 3)) gives)

-- the same of a lock that guards no node: no slot comes or goes
abbrev pub TakeBareInsideIsTake : Type 0
TakeBareInsideIsTake = (key : Start) (s : St) (r : Ruled key s) (id : ℕ) (me : Sat) (n : ℕ) (o : Owner) → StepsAt s id me →
    length (first_graph key) ≤ n → MayTake (core_of me) n o → IsValid o → slice_index s.words (owner_at key.locks n) ≡ packed o →
    Makes key s r (Take (core_of me).who n)
    (stepped s (owner_at key.locks n) (packed (taken_word (core_of me).who (core_of me).stamp
    (left (core_of me).list (core_of me).who))) id me.1
    (knowing me.0 (taken (core_of me) n)) keeps)

abbrev pub GiveBareInsideIsGive : Type 0
GiveBareInsideIsGive = (key : Start) (s : St) (r : Ruled key s) (id : ℕ) (me : Sat) (n : ℕ) (o : Owner) → StepsAt s id me →
    length (first_graph key) ≤ n → MayGive (core_of me) n → IsValid o → slice_index s.words (owner_at key.locks n) ≡ packed o →
    Makes key s r (Give (core_of me).who n)
    (stepped s (owner_at key.locks n) (packed (given_word (o.flags == 3) (core_of me).list)) id me.1
    (knowing me.0 (given (core_of me) n (o.flags == 3))) keeps)

-- an owner word gets HANDOFF as Ask
abbrev pub AskIsAsk : Type 0
AskIsAsk = (key : Start) (s : St) (r : Ruled key s) (id : ℕ) (me : Sat) (n : ℕ) (o : Owner) → StepsAt s id me →
    MayAsk (core_of me) n o → IsValid o → slice_index s.words (owner_at key.locks n) ≡ packed o →
    Makes key s r (Ask (core_of me).who n) (stepped s (owner_at key.locks n) (packed (asked_word o)) id me.1 (asking me.0 o) keeps)

-- an owner word loses its flags as the last waiter backs off, or stays, as Die; the seat is told to die of the stamp
-- that the core tells it, and met the context that has it, whatever run led to that core
abbrev pub DieIsDie : Type 0
DieIsDie = (key : Start) (s : St) (r : Ruled key s) (id : ℕ) (me : Sat) (n : ℕ) (o : Owner) (k : ℕ) → StepsAt s id me →
    MayDie (core_of me) n o k → IsValid o → slice_index s.words (owner_at key.locks n) ≡ packed o →
    (dies r.core (core_of me).who n ≡ Some k) × ((run : Reached r.core) → DeadlkIsMet r.core run (core_of me).who n k) ×
    Makes key s r (Die (core_of me).who n)
    (stepped s (owner_at key.locks n) (packed (rest_word (left (core_of me).list (core_of me).who) o)) id me.1 (dying me.0 o) keeps)

-- a sign word 0 becomes the stamp that the view owes as Sign
abbrev pub SignIsSign : Type 0
SignIsSign = (key : Start) (s : St) (r : Ruled key s) (id : ℕ) (me : Sat) (n u k : ℕ) → StepsAt s id me →
    MaySign (core_of me) n u k → u < key.places → slice_index s.words (sign_at key.locks u) ≡ 0 →
    Makes key s r (Sign (core_of me).who u) (stepped s (sign_at key.locks u) k id me.1 (condemning me.0 u) keeps)

-- the own sign word becomes 0 as Clear
abbrev pub ClearIsClear : Type 0
ClearIsClear = (key : Start) (s : St) (r : Ruled key s) (id : ℕ) (me : Sat) → StepsAt s id me → MayClear (core_of me) →
    Makes key s r (Clear (core_of me).who) (stepped s (sign_at key.locks (core_of me).who) 0 id me.1 (clearing me.0) keeps)

-- a cancel word 0 becomes that of the seat as Cancel
abbrev pub CancelIsCancel : Type 0
CancelIsCancel = (key : Start) (s : St) (r : Ruled key s) (id : ℕ) (me : Sat) (u : ℕ) → StepsAt s id me →
    IsAway (core_of me) → u < key.places → slice_index s.words (cancel_at key.locks u) ≡ 0 →
    Makes key s r (Cancel (core_of me).who u)
    (stepped s (cancel_at key.locks u) ((core_of me).who + 1) id me.1 (cancelling me.0 u) keeps)

-- the own cancel word, if it isn't 0, becomes 0 as Heed
abbrev pub HeedIsHeed : Type 0
HeedIsHeed = (key : Start) (s : St) (r : Ruled key s) (id : ℕ) (me : Sat) (n : ℕ) → StepsAt s id me →
    MayHeed (core_of me) n → let mark : ℕ = slice_index s.words (cancel_at key.locks (core_of me).who) in mark ≢ 0 →
    Makes key s r (Heed (core_of me).who n)
    (stepped s (cancel_at key.locks (core_of me).who) 0 id me.1 (heeding me.0 mark) keeps)

-- An owner word loses its flags as the last waiter leaves for a cancel, or stays, as Leave; and the core answers that
-- it was interrupted by the seat that the view names.
abbrev pub LeaveIsLeave : Type 0
LeaveIsLeave = (key : Start) (s : St) (r : Ruled key s) (id : ℕ) (me : Sat) (n : ℕ) (o : Owner) → StepsAt s id me →
    MayStop (core_of me) n → IsValid o → slice_index s.words (owner_at key.locks n) ≡ packed o →
    (answer r.core (Leave (core_of me).who n) ≡ Interrupted ((core_of me).heeded - 1)) ×
    Makes key s r (Leave (core_of me).who n)
    (stepped s (owner_at key.locks n) (packed (rest_word (left (core_of me).list (core_of me).who) o)) id me.1 (stopping me.0 o) keeps)
