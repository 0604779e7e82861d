-- Of a reached state: nothing is where no lock and no seat is.
use Rattle.std.proofs.Common.{ℕ, suc, ◌≡◌, ◌<◌, ◌≤◌, ◌+◌, [], refl, arith}
use Rattle.ww_queue.specs.Queue.{joined}
use Rattle.ww_model.specs.declared.event.Event.{Event}
use Rattle.ww_model.specs.declared.event.Event.TheVariants.{Begin, Guard, Join, Take, Die, Unguard, End, Cancel, Heed, Leave}
use Rattle.ww_model.specs.State.{State, Inside, waiter_of}
use Rattle.ww_model.specs.Event.{BasePossible, after}
use Rattle.ww_model.specs.Run.{Reached, at_start, further}
use Rattle.ww_model.proofs.Puts.{put_cases}
use Rattle.ww_model.proofs.Departures.{none_stood}

-- ---- wait lists

QueuesBeyond : State → Type 0
QueuesBeyond c = (n : ℕ) → c.locks ≤ n → c.queue n ≡ []

keeps_queues_beyond : (c : State) (e : Event) → BasePossible c e → QueuesBeyond c → QueuesBeyond (after c e)
unfolding QueuesBeyond
keeps_queues_beyond c (Join s n) can old m range = put_cases c.queue n (joined (c.queue n) (waiter_of c s)) m (λ q. q ≡ [])
    (λ is. let lock = can.inside.lock in absurd (omega arith)) (λ _. old m range)
keeps_queues_beyond c (Take s n) can old m range = none_stood c.queue n s m (old m range)
keeps_queues_beyond c (Die s n) can old m range = none_stood c.queue n s m (old m range)
keeps_queues_beyond c (Leave s n) can old m range = none_stood c.queue n s m (old m range)
keeps_queues_beyond c _ can old m range = old m range

queues_of : (c : State) → Reached c → QueuesBeyond c
unfolding QueuesBeyond
queues_of _ (at_start kind locks seats) n range = refl
queues_of _ (further c e run can) n range = keeps_queues_beyond c e can.base (queues_of c run) n range

-- where no lock is nobody waits
pub queues_beyond : (c : State) → Reached c → (n : ℕ) → c.locks ≤ n → c.queue n ≡ []
unfolding QueuesBeyond
queues_beyond c run = queues_of c run

-- ---- guards

GuardsWithin : State → Type 0
GuardsWithin c = (s n : ℕ) → c.guard n ≡ suc s → (n < c.locks) × (s < c.seats)

keeps_guards_within : (c : State) (e : Event) → BasePossible c e → GuardsWithin c → GuardsWithin (after c e)
unfolding GuardsWithin
keeps_guards_within c (Guard s n) can old t m = put_cases c.guard n (suc s) m (λ g. g ≡ suc t → (m < c.locks) × (t < c.seats))
    (λ is same. let lock = can.lock in let seat = can.seat in (omega arith, omega arith)) (λ _. old t m)
keeps_guards_within c (Unguard s n) can old t m = put_cases c.guard n 0 m (λ g. g ≡ suc t → (m < c.locks) × (t < c.seats))
    (λ _ same. absurd (omega arith)) (λ _. old t m)
keeps_guards_within c _ can old t m = old t m

guards_of : (c : State) → Reached c → GuardsWithin c
unfolding GuardsWithin
guards_of _ (at_start kind locks seats) s n = λ same. absurd (omega arith)
guards_of _ (further c e run can) s n = keeps_guards_within c e can.base (guards_of c run) s n

-- whoever is in a guard is a seat inside the guard of a lock
pub guards_are : (c : State) → Reached c → (s n : ℕ) → c.guard n ≡ suc s → Inside c s n
unfolding GuardsWithin
guards_are c run s n same = let within = guards_of c run s n same in record { guard = same; lock = within.0; seat = within.1 }

-- ---- stamps

StampsBeyond : State → Type 0
StampsBeyond c = (s : ℕ) → c.seats ≤ s → c.stamp s ≡ 0

keeps_stamps_beyond : (c : State) (e : Event) → BasePossible c e → StampsBeyond c → StampsBeyond (after c e)
unfolding StampsBeyond
keeps_stamps_beyond c (Begin s) can old t range = put_cases c.stamp s (c.drawn + 1) t (λ k. k ≡ 0)
    (λ is. let seat = can.away.seat in absurd (omega arith)) (λ _. old t range)
keeps_stamps_beyond c (End s) can old t range = put_cases c.stamp s 0 t (λ k. k ≡ 0) (λ _. refl) (λ _. old t range)
keeps_stamps_beyond c _ can old t range = old t range

stamps_of : (c : State) → Reached c → StampsBeyond c
unfolding StampsBeyond
stamps_of _ (at_start kind locks seats) s range = refl
stamps_of _ (further c e run can) s range = keeps_stamps_beyond c e can.base (stamps_of c run) s range

-- where no seat is there is no context
pub stamps_beyond : (c : State) → Reached c → (s : ℕ) → c.seats ≤ s → c.stamp s ≡ 0
unfolding StampsBeyond
stamps_beyond c run = stamps_of c run

-- ---- cancels

CancelsBeyond : State → Type 0
CancelsBeyond c = (s : ℕ) → c.seats ≤ s → c.cancel s ≡ 0

keeps_cancels_beyond : (c : State) (e : Event) → BasePossible c e → CancelsBeyond c → CancelsBeyond (after c e)
unfolding CancelsBeyond
keeps_cancels_beyond c (Cancel s v) can old t range = put_cases c.cancel v (s + 1) t (λ k. k ≡ 0)
    (λ is. let seat = can.seat in absurd (omega arith)) (λ _. old t range)
keeps_cancels_beyond c (Heed s n) can old t range = put_cases c.cancel s 0 t (λ k. k ≡ 0) (λ _. refl) (λ _. old t range)
keeps_cancels_beyond c _ can old t range = old t range

cancels_of : (c : State) → Reached c → CancelsBeyond c
unfolding CancelsBeyond
cancels_of _ (at_start kind locks seats) s range = refl
cancels_of _ (further c e run can) s range = keeps_cancels_beyond c e can.base (cancels_of c run) s range

-- where no seat is no cancel is pending
pub cancels_beyond : (c : State) → Reached c → (s : ℕ) → c.seats ≤ s → c.cancel s ≡ 0
unfolding CancelsBeyond
cancels_beyond c run = cancels_of c run
