-- A class: its seats, and the two queues of those that found none of them free.
use Rattle.std.specs.Prelude.{ℕ, ◌≡◌, ◌≢◌, ◌<◌, ◌⊎◌, Bool, true, false, Option, Some, None}
use Rattle.ww_protocols.specs.Seat.{IsFree, Debt, nothing, to_call, to_offer, ClassSeat, SeatStep, free_seat, set, Rule, suspends_what_it_uses, draws_a_new_one, finds_the_ticket, looks_as_it_joins, asks_who_waits, calls_who_waits, calls_the_next, looks_when_called, Unless, MaySeat, next_seat}

-- Where one stands: not in a queue; in it as a task; or as a thread, which is due any seat.
pub data InQueue : Type 0 where
  out : InQueue
  waits : InQueue
  due : InQueue

-- What one looks at that drops its call: nothing, as a thread is due any seat; the seat for which it was called; all seats.
pub data LooksAt : Type 0 where
  at_nothing : LooksAt
  at_its_seat : LooksAt
  at_all : LooksAt

-- Besides seats and queues: which seats tasks may claim now; for which seat each task was called, until it drops that; who looks at the
-- seats one by one, with the queues locked, and which of them it has yet to see; which tickets values have had.
pub record Class : Type 0 where
  pub seats : ℕ
  pub seat : ℕ → ClassSeat
  pub is_open : ℕ → Bool
  pub stands : ℕ → InQueue
  pub call : ℕ → Option ℕ
  pub looks : Option ℕ
  pub unseen : ℕ → Bool
  pub drawn : ℕ → Bool

-- nobody uses a seat, no thread has its own yet, nobody waits, and no context was suspended yet
abbrev pub opened : ℕ → (ℕ → Bool) → (ℕ → Bool) → Class
opened seats are_own are_open = record {
  seats = seats;
  seat = λ s. free_seat (are_own s);
  is_open = are_open;
  stands = λ _. out;
  call = λ _. None;
  looks = None;
  unseen = λ _. false;
  drawn = λ _. false;
}

-- ---- the steps

-- Nobody else comes to a queue while somebody looks with the queues locked. Who takes a ticket has a value with it, or a copy.
pub data QueueStep : Type 0 where
  acts : (s : ℕ) (step : SeatStep) → QueueStep
  suspends : (t s ticket : ℕ) → QueueStep  -- store of the seat's ticket: nobody uses the seat any more
  takes : (t s ticket : ℕ) → QueueStep  -- exchange: it finds the ticket, and sets 0; it resumes or drops the context, and uses the seat
  serves_threads : (t s : ℕ) → QueueStep  -- who has given the seat has handed it to a thread, or finds that none waits
  serves_tasks : (t s : ℕ) → QueueStep  -- and that no task need be called for it
  calls : (u s : ℕ) → QueueStep  -- `called` of the seat is set: the task is called for it
  passes_on : (t u s : ℕ) → QueueStep  -- t was called for the seat, and hasn't come for a lease: u is called for it instead, and t waits on
  joins : (t : ℕ) (how : InQueue) (looks_now : Bool) → QueueStep  -- `seekers` up: it looks at the seats, or stands behind another
  sees_used : (t s : ℕ) → QueueStep  -- load, or an exchange, its own or one that failed: who looks finds the seat in use; or it is a thread's own
  has_looked : (t : ℕ) → QueueStep  -- in vain
  has_found : (t : ℕ) → QueueStep  -- `seekers` down: who looks has a seat
  drops : (t s : ℕ) (look : LooksAt) → QueueStep  -- `called` of the seat is cleared: who was called for it waits again, and looks
  leaves : (t : ℕ) → QueueStep  -- `seekers` down: it has a seat, or its wait has ended
  leaves_called : (t s : ℕ) → QueueStep  -- `called` of the seat is set for the next one, or cleared: so does one that was called for it
  opens : (t s : ℕ) → QueueStep  -- `open` up: tasks may claim this seat, which is to be offered to them
  closes : (s : ℕ) → QueueStep  -- `open` down

-- the seat, when its user has suspended the context; and when one has taken the ticket
abbrev pub suspended : ClassSeat → ℕ → ℕ → ClassSeat
suspended seat t ticket = record seat { user = set seat.user t false; ticket = Some ticket }

abbrev pub resumed : ClassSeat → ℕ → ClassSeat
resumed seat t = record seat { user = set seat.user t true; ticket = None }

-- the seat, when one has done this much of what it had to do of it
abbrev pub settled : ClassSeat → ℕ → Debt → ClassSeat
settled seat t it = record seat { debt = set seat.debt t it }

-- who has to call a task for a seat, besides what it had to do
abbrev pub also_to_call : Debt → Debt
also_to_call nothing = to_call
also_to_call to_call = to_call
also_to_call to_offer = to_offer

abbrev pub looker : Bool → ℕ → Option ℕ
looker true t = Some t
looker false t = None

-- who looks, and at which seats, having dropped its call
abbrev pub looks_so : LooksAt → ℕ → Option ℕ
looks_so at_nothing t = None
looks_so at_its_seat t = Some t
looks_so at_all t = Some t

abbrev pub unseen_so : LooksAt → ℕ → ℕ → Bool
unseen_so at_nothing s = λ _. false
unseen_so at_its_seat s = set (λ _. false) s true
unseen_so at_all s = λ _. true

module _ (c : Class) where
  abbrev pub NobodyIsDue : Type 0
  NobodyIsDue = (t : ℕ) → c.stands t ≢ due

  abbrev pub SomebodyIsDue : Type 0
  SomebodyIsDue = (t : ℕ) × (c.stands t ≡ due)

  -- it waits as a task, and isn't called
  abbrev pub Sleeps : ℕ → Type 0
  Sleeps t = (c.stands t ≡ waits) × (c.call t ≡ None)

  abbrev pub SomebodySleeps : Type 0
  SomebodySleeps = (t : ℕ) × Sleeps t

  abbrev pub NobodySleeps : Type 0
  NobodySleeps = (t : ℕ) → ¬ Sleeps t

  -- no other task sleeps
  abbrev pub IsTheOnlySleeper : ℕ → Type 0
  IsTheOnlySleeper t = (u : ℕ) → Sleeps u → u ≡ t

  -- somebody was called for the seat, and hasn't dropped that
  abbrev pub HasCall : ℕ → Type 0
  HasCall s = (t : ℕ) × (c.call t ≡ Some s)

  abbrev pub AnotherHasCall : ℕ → ℕ → Type 0
  AnotherHasCall t s = (u : ℕ) × (u ≢ t) × (c.call u ≡ Some s)

  -- it is a task, and tasks may not claim the seat
  abbrev pub IsClosedTo : ℕ → ℕ → Type 0
  IsClosedTo t s = (c.stands t ≡ waits) × (c.is_open s ≡ false)

  -- it has seen each seat that it may claim
  abbrev pub HasSeenAll : ℕ → Type 0
  HasSeenAll t = (s : ℕ) → s < c.seats → (c.unseen s ≡ false) ⊎ IsClosedTo t s

  -- in use, or a thread's own
  abbrev pub IsInUse : ℕ → Type 0
  IsInUse s = ¬ IsFree (c.seat s)

  -- no task has to be called for the seat
  abbrev pub NeedsNoCall : ℕ → Type 0
  NeedsNoCall s = (IsInUse s ⊎ (c.is_open s ≡ false)) ⊎ (NobodySleeps ⊎ (HasCall s ⊎ SomebodyIsDue))

  -- one that stands there already is served before one that comes so
  abbrev pub HasOneBefore : InQueue → Type 0
  HasOneBefore how = SomebodyIsDue ⊎ ((how ≡ waits) × SomebodySleeps)

  -- at least at its seat; at all, where no task sleeps before it
  abbrev pub LooksEnough : LooksAt → Type 0
  LooksEnough at_nothing = SomebodyIsDue
  LooksEnough at_its_seat = SomebodySleeps
  LooksEnough at_all = Unit {0}

module _ (left_out : Option Rule) (c : Class) where
  abbrev pub MaySuspend : ℕ → ℕ → ℕ → Type 0
  MaySuspend t s ticket = Unless left_out suspends_what_it_uses ((c.seat s).user t ≡ true) × Unless left_out draws_a_new_one (c.drawn ticket ≡ false)

  pub record MayServeTasks (t s : ℕ) : Type 0 where
    pub has_to : (c.seat s).debt t ≡ to_call
    pub nobody_looks : c.looks ≡ None
    pub no_need : Unless left_out asks_who_waits (NeedsNoCall c s)

  pub record MayComeToWait (t : ℕ) (how : InQueue) (looks_now : Bool) : Type 0 where
    pub nobody_looks : c.looks ≡ None
    pub is_out : c.stands t ≡ out
    pub stays : (how ≡ waits) ⊎ (how ≡ due)
    pub looks_first : Unless left_out looks_as_it_joins ((looks_now ≡ true) ⊎ HasOneBefore c how)

  abbrev pub MayBeMade : QueueStep → Type 0
  MayBeMade (acts s step) = MaySeat left_out (c.seat s) step
  MayBeMade (suspends t s ticket) = MaySuspend t s ticket
  MayBeMade (takes t s ticket) = Unless left_out finds_the_ticket ((c.seat s).ticket ≡ Some ticket)
  MayBeMade (serves_threads t s) = ((c.seat s).debt t ≡ to_offer) × Unless left_out asks_who_waits (IsInUse c s ⊎ NobodyIsDue c)
  MayBeMade (serves_tasks t s) = MayServeTasks t s
  MayBeMade (calls u s) = (c.looks ≡ None) × Unless left_out calls_who_waits (Sleeps c u)
  MayBeMade (passes_on t u s) = (c.looks ≡ None) × (c.call t ≡ Some s) × Unless left_out calls_who_waits (Sleeps c u)
  MayBeMade (joins t how looks_now) = MayComeToWait t how looks_now
  MayBeMade (sees_used t s) = (c.looks ≡ Some t) × IsInUse c s
  MayBeMade (has_looked t) = (c.looks ≡ Some t) × HasSeenAll c t
  MayBeMade (has_found t) = (c.looks ≡ Some t) × ((c.stands t ≡ due) ⊎ (Sleeps c t × (HasSeenAll c t ⊎ IsTheOnlySleeper c t)))
  MayBeMade (drops t s look) = (c.looks ≡ None) × (c.call t ≡ Some s) × Unless left_out looks_when_called (LooksEnough c look)
  MayBeMade (leaves t) = (c.looks ≡ None) × (Sleeps c t ⊎ (c.stands t ≡ due))
  MayBeMade (leaves_called t s) = (c.looks ≡ None) × (c.call t ≡ Some s) × Unless left_out calls_the_next (NobodySleeps c ⊎ AnotherHasCall c t s)
  MayBeMade (opens t s) = Unit {0}
  MayBeMade (closes s) = Unit {0}

module _ (c : Class) where
  abbrev pub after_step : QueueStep → Class
  after_step (acts s step) = record c { seat = set c.seat s (next_seat (c.seat s) step) }
  after_step (suspends t s ticket) = record c { seat = set c.seat s (suspended (c.seat s) t ticket); drawn = set c.drawn ticket true }
  after_step (takes t s ticket) = record c { seat = set c.seat s (resumed (c.seat s) t) }
  after_step (serves_threads t s) = record c { seat = set c.seat s (settled (c.seat s) t to_call) }
  after_step (serves_tasks t s) = record c { seat = set c.seat s (settled (c.seat s) t nothing) }
  after_step (calls u s) = record c { call = set c.call u (Some s) }
  after_step (passes_on t u s) = record c { call = set (set c.call t None) u (Some s) }
  after_step (joins t how looks_now) = record c { stands = set c.stands t how; looks = looker looks_now t; unseen = λ _. true }
  after_step (sees_used t s) = record c { unseen = set c.unseen s false }
  after_step (has_looked t) = record c { looks = None }
  after_step (has_found t) = record c { stands = set c.stands t out; looks = None }
  after_step (drops t s look) = record c { call = set c.call t None; looks = looks_so look t; unseen = unseen_so look s }
  after_step (leaves t) = record c { stands = set c.stands t out }
  after_step (leaves_called t s) = record c { stands = set c.stands t out; call = set c.call t None }
  after_step (opens t s) = record c {
    seat = set c.seat s (settled (c.seat s) t (also_to_call ((c.seat s).debt t)));
    is_open = set c.is_open s true;
  }
  after_step (closes s) = record c { is_open = set c.is_open s false }

-- some steps lead from a class to this one, where this rule may be left out
pub data IsReachedFrom (left_out : Option Rule) (from : Class) : Class → Type 0 where
  begins : IsReachedFrom left_out from from
  goes_on : (c : Class) (step : QueueStep) → IsReachedFrom left_out from c → MayBeMade left_out c step → IsReachedFrom left_out from (after_step c step)

-- so they do from the opening of a class
abbrev pub ReachedWithout : Option Rule → Class → Type 0
ReachedWithout left_out c = (seats : ℕ) × (are_own : ℕ → Bool) × (are_open : ℕ → Bool) × IsReachedFrom left_out (opened seats are_own are_open) c

-- by the rules
abbrev pub ReachedByRules : Class → Type 0
ReachedByRules = ReachedWithout None
