-- The laws: of each event, and of each reached state.
use Rattle.std.specs.Prelude.{ℕ, ◌≡◌, ◌<◌, List, ◌∷◌, Some}
use Rattle.ww_queue.specs.declared.kind.Kind.{Kind}
use Rattle.ww_queue.specs.declared.kind.Kind.TheVariants.{WoundWait, WaitDie}
use Rattle.ww_queue.specs.declared.entry.Entry.{Entry}
use Rattle.ww_queue.specs.Queue.{Has, Before, Ascends}
use Rattle.ww_model.specs.declared.state.Holder.TheVariants as holder
use Rattle.ww_model.specs.declared.event.Event.TheVariants.{Guard, Ask, Give, Die}
use Rattle.ww_model.specs.declared.event.Answer.TheVariants.{Handed, Deadlk}
use Rattle.ww_model.specs.State.{State, start, OwnsSome, Inside, dies, place_of}
use Rattle.ww_model.specs.Event.{Possible, after, answer}
use Rattle.ww_model.specs.Lawful.{IsBase, IsLawful, KeepsBase, Keeps}
use Rattle.ww_model.specs.Run.{Reached}
use Rattle.ww_model.specs.Met.{HasMet}
use Rattle.ww_model.specs.Waits.{WaitsFor, IsOneOf, IsRing, IsCondemned}
use Rattle.ww_model.specs.Snapshot.{IsFirst}

-- ---- of each event

-- the base is kept, whatever the signs say
abbrev pub BaseIsKept : Type 0
BaseIsKept = KeepsBase IsBase

-- a possible event of a lawful state leads to a lawful one
abbrev pub LawfulIsKept : Type 0
LawfulIsKept = Keeps IsLawful

-- the start is lawful
abbrev pub StartIsLawful : Type 0
StartIsLawful = (kind : Kind) (locks seats : ℕ) → IsLawful (start kind locks seats)

-- only the first waiter can ask for a lock
abbrev pub OnlyTheFirstAsks : Type 0
OnlyTheFirstAsks = (c : State) (s n : ℕ) → Possible c (Ask s n) → IsFirst (c.queue n) s

-- a lock that is handed over goes to the first waiter of that moment
abbrev pub HandedToTheFirst : Type 0
HandedToTheFirst = (c : State) (s n t : ℕ) → Possible c (Give s n) → answer c (Give s n) ≡ Handed t →
    IsFirst (c.queue n) t × ((after c (Give s n)).owner n ≡ holder.Handed t)

-- ---- of each lawful state

-- every lawful state is so
abbrev pub OfLawful : (State → Type 0) → Type 0
OfLawful P = (c : State) → IsLawful c → P c

-- the guard in which a seat is found is the one that it is inside of
abbrev pub PlaceIsTheGuard : State → Type 0
PlaceIsTheGuard c = (s n : ℕ) → Inside c s n → place_of c s ≡ n

-- the stamps of the waiters with a context ascend in each wait list
abbrev pub QueuesAscend : State → Type 0
QueuesAscend c = (n : ℕ) → Ascends (c.queue n)

-- Wait-Die: where a guard is free, only the first of the waiters with a context may hold locks without a sign
abbrev pub OnlyFirstIsUnsigned : State → Type 0
OnlyFirstIsUnsigned c = c.kind ≡ WaitDie → (n : ℕ) → c.guard n ≡ 0 → (e f : Entry) → Before (c.queue n) e f →
    0 < e.stamp → 0 < f.stamp → OwnsSome c f.seat → 0 < c.sign f.seat

-- nobody waits for two
abbrev pub EachWaitsForOne : State → Type 0
EachWaitsForOne c = (a b d : ℕ) → WaitsFor c a b → WaitsFor c a d → b ≡ d

-- Two rings with a common member have the same members, and if they begin with the same one they are the same.
pub record RingsAreApart (c : State) : Type 0 where
  pub same_members : (ring other : List ℕ) (a b : ℕ) → IsRing c ring → IsRing c other →
      IsOneOf a ring → IsOneOf a other → IsOneOf b ring → IsOneOf b other
  pub same_order : (a : ℕ) (bs ds : List ℕ) → IsRing c (a ∷ bs) → IsRing c (a ∷ ds) → bs ≡ ds

-- ---- of each reached state

-- Wound-Wait: a sign of a seat that owns a lock is the stamp of a context that it met
abbrev pub SignWasMet : Type 0
SignWasMet = (c : State) (run : Reached c) → c.kind ≡ WoundWait → (s : ℕ) → 0 < c.sign s → OwnsSome c s →
    HasMet c run s (c.sign s)

-- every reached state is so
abbrev pub OfReached : (State → Type 0) → Type 0
OfReached P = (c : State) → Reached c → P c

-- each waiter is one of the seats
abbrev pub WaitersAreSeats : State → Type 0
WaitersAreSeats c = (n : ℕ) (e : Entry) → Has (c.queue n) e → e.seat < c.seats

-- seat a can go inside the guard of lock n and then die there, of stamp k
pub record CanGoAndDie (c : State) (a n k : ℕ) : Type 0 where
  pub guard : Possible c (Guard a n)
  pub die : Possible (after c (Guard a n)) (Die a n)
  pub answers : answer (after c (Guard a n)) (Die a n) ≡ Deadlk k

-- so can a condemned seat, where the guard of the lock is free
abbrev pub CondemnedCanDie : State → Type 0
CondemnedCanDie c = (a : ℕ) (condemned : IsCondemned c a) → c.guard condemned.lock ≡ 0 →
    (k : ℕ) → dies c a condemned.lock ≡ Some k → CanGoAndDie c a condemned.lock k
