-- One seat: its words `busy` and `ticket`, who uses it and whose own it is, and each access of `busy` as a step.
use Rattle.std.specs.Prelude.{ℕ, ◌≡◌, ◌⊎◌, Bool, true, false, Option, Some, None}
use native.Mathlib.Decide.{ℕ_discrete}

-- What one has yet to do of a seat: nothing; to call a task for it; to offer it to threads, and then that.
pub data Debt : Type 0 where
  nothing : Debt
  to_call : Debt
  to_offer : Debt

-- Whoever acts is a number, a thread or a task.
pub record ClassSeat : Type 0 where
  pub is_own : Bool  -- IS_OWN, which stays: it is a thread's own, or nobody's yet
  pub busy : Bool  -- BUSY
  pub user : ℕ → Bool  -- who uses it
  pub ticket : Option ℕ  -- the number by which its context is suspended
  pub is_taken : Bool  -- it is a thread's own now
  pub owner : ℕ → Bool  -- whose
  pub found_free : ℕ → Bool  -- who has read that its own seat is free, and is about to use it
  pub debt : ℕ → Debt

-- nobody uses it, and anybody may
abbrev pub IsFree : ClassSeat → Type 0
IsFree seat = (seat.busy ≡ false) × (seat.is_own ≡ false)

abbrev pub free_seat : Bool → ClassSeat
free_seat is = record {
  is_own = is;
  busy = false;
  user = λ _. false;
  ticket = None;
  is_taken = false;
  owner = λ _. false;
  found_free = λ _. false;
  debt = λ _. nothing;
}

-- ---- a function changed at one place

module _ {A : Type 0} where
  abbrev pub chosen : {P : Type 0} → Dec P → A → A → A
  chosen (yes _) here there = here
  chosen (no _) here there = there

  -- the function, except this number, where it has that value
  unfoldable pub set : (ℕ → A) → ℕ → A → ℕ → A
  set f t a u = chosen (ℕ_discrete u t) a (f u)

-- ---- the steps

-- Rules that a wrong protocol leaves out.
pub data Rule : Type 0 where
  claims_no_own : Rule  -- nobody claims a seat that is IS_OWN
  uses_its_own : Rule  -- only the thread whose own such a seat is finds it free, to use it
  takes_nobodys : Rule  -- nobody takes as its own a seat that is a thread's own already
  uses_before_it_leaves : Rule  -- who has found its own seat free uses it before it leaves it
  suspends_what_it_uses : Rule  -- only its user suspends a seat's context
  draws_a_new_one : Rule  -- no other value has the ticket
  finds_the_ticket : Rule  -- who takes a ticket finds it in the seat
  looks_as_it_joins : Rule  -- who comes to wait looks at the seats, unless somebody is due one
  asks_who_waits : Rule  -- who has given a seat looks whether somebody waits
  calls_who_waits : Rule  -- who is called waits as a task, and isn't called yet
  calls_the_next : Rule  -- who was called and leaves has the next one called
  looks_when_called : Rule  -- who was called looks, at least at its seat, before it waits again

-- the fact, unless its rule is left out
abbrev pub Unless : Option Rule → Rule → Type 0 → Type 0
Unless left_out rule P = (left_out ≡ Some rule) ⊎ P

-- `goes_over` is no access; the last two are of a table, under a lock; each other is one of the word.
pub data SeatStep : Type 0 where
  claims : (t : ℕ) → SeatStep  -- exchange: it finds the seat free, and sets BUSY
  gives : (t : ℕ) → SeatStep  -- exchange: BUSY goes
  goes_over : (t u : ℕ) → SeatStep  -- u goes on with what t began: a context is given to another thread, or a seat handed over
  finds_own_free : (t : ℕ) → SeatStep  -- load: its thread finds IS_OWN alone
  uses_own : (t : ℕ) → SeatStep  -- store of BUSY and IS_OWN, by that thread
  returns_own : (t : ℕ) → SeatStep  -- store of IS_OWN, by the user, whoever that is
  takes_own : (t : ℕ) → SeatStep  -- it is this thread's own from now on
  leaves_own : (t : ℕ) → SeatStep  -- its thread ends

module _ (left_out : Option Rule) (seat : ClassSeat) where
  -- When it may be made. What an exchange found is so at that moment.
  abbrev pub MaySeat : SeatStep → Type 0
  MaySeat (claims t) = (seat.busy ≡ false) × Unless left_out claims_no_own (seat.is_own ≡ false)
  MaySeat (gives t) = (seat.user t ≡ true) × (seat.is_own ≡ false)
  MaySeat (goes_over t u) = seat.user t ≡ true
  MaySeat (finds_own_free t) = (seat.busy ≡ false) × (seat.is_own ≡ true) × Unless left_out uses_its_own (seat.owner t ≡ true)
  MaySeat (uses_own t) = seat.found_free t ≡ true
  MaySeat (returns_own t) = (seat.user t ≡ true) × (seat.is_own ≡ true)
  MaySeat (takes_own t) = Unless left_out takes_nobodys (seat.is_taken ≡ false)
  MaySeat (leaves_own t) = (seat.owner t ≡ true) × Unless left_out uses_before_it_leaves (seat.found_free t ≡ false)

abbrev pub next_seat : ClassSeat → SeatStep → ClassSeat
next_seat seat (claims t) = record seat { busy = true; user = set seat.user t true }
next_seat seat (gives t) = record seat { busy = false; user = set seat.user t false; debt = set seat.debt t to_offer }
next_seat seat (goes_over t u) = record seat { user = set (set seat.user t false) u true }
next_seat seat (finds_own_free t) = record seat { found_free = set seat.found_free t true }
next_seat seat (uses_own t) = record seat { busy = true; user = set seat.user t true; found_free = set seat.found_free t false }
next_seat seat (returns_own t) = record seat { busy = false; user = set seat.user t false }
next_seat seat (takes_own t) = record seat { is_taken = true; owner = set seat.owner t true }
next_seat seat (leaves_own t) = record seat { is_taken = false; owner = set seat.owner t false }
