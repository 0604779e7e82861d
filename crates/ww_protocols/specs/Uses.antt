-- What theorems come to, in words of one mutex or one seat. A theorem that said less wouldn't give it.
use Rattle.std.specs.Prelude.{ℕ, ◌≡◌, ◌≢◌, ◌<◌, ◌⊎◌, true, false, Some, None}
use Rattle.ww_protocols.specs.Class.{Class, waits, due, takes, MayBeMade, after_step, IsReachedFrom, ReachedByRules}
use Rattle.ww_protocols.specs.Hall.{Layout, Hall, reads, IsReachedHall}
use Rattle.ww_protocols.specs.Seats.{IsAtRest}

-- Beside a writer of a mutex nobody else reads or writes it.
abbrev pub WritersAreAlone : Type 0
WritersAreAlone = (l : Layout) (h : Hall) → IsReachedHall l h → (w c m : ℕ) → c ≢ w → h.writes w m ≡ true →
    (h.progress c m ≢ reads) × (h.writes c m ≡ false)

-- Beside the user of a seat nobody uses it.
abbrev pub UsersAreAlone : Type 0
UsersAreAlone = (c : Class) → ReachedByRules c → (s t u : ℕ) → u ≢ t → (c.seat s).user t ≡ true → (c.seat s).user u ≡ false

-- Once a copy of a value has won, no other one may.
abbrev pub NoCopyWinsLater : Type 0
NoCopyWinsLater = (c later : Class) → ReachedByRules c → (t s ticket u r : ℕ) → MayBeMade None c (takes t s ticket) →
    IsReachedFrom None (after_step c (takes t s ticket)) later → ¬ MayBeMade None later (takes u r ticket)

-- Where nobody is in a call of the queue: while a thread waits, each seat is BUSY, or a thread's own.
abbrev pub ThreadsWaitForBusySeats : Type 0
ThreadsWaitForBusySeats = (c : Class) → ReachedByRules c → IsAtRest c → (t s : ℕ) → c.stands t ≡ due → s < c.seats →
    (c.seat s).is_own ≡ false → (c.seat s).busy ≡ true

-- While a task waits that wasn't called, each seat that tasks may claim is BUSY, or a thread's own, or another one that waits was called
-- for it.
abbrev pub TasksWaitForBusySeats : Type 0
TasksWaitForBusySeats = (c : Class) → ReachedByRules c → IsAtRest c → (t s : ℕ) → c.stands t ≡ waits → c.call t ≡ None → s < c.seats →
    c.is_open s ≡ true → (c.seat s).is_own ≡ false →
    ((c.seat s).busy ≡ true) ⊎ ((u : ℕ) × (u ≢ t) × (c.stands u ≡ waits) × (c.call u ≡ Some s))
