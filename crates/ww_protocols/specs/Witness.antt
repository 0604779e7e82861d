-- What is proved is said of something; and it is false where a rule is left out.
use Rattle.std.specs.Prelude.{ℕ, ◌≡◌, ◌≢◌, ◌<◌, true, false, Option, Some, None}
use Rattle.ww_protocols.specs.Seat.{IsFree, nothing, Rule, claims_no_own, uses_its_own, takes_nobodys, uses_before_it_leaves, suspends_what_it_uses, draws_a_new_one, finds_the_ticket, looks_as_it_joins, asks_who_waits, calls_who_waits, calls_the_next, looks_when_called}
use Rattle.ww_protocols.specs.Class.{Class, waits, suspends, takes, MayBeMade, after_step, SomebodyIsDue, SomebodySleeps, ReachedWithout, ReachedByRules}
use Rattle.ww_protocols.specs.Seats.{HasWonTwice, IsAtRest, IsAwaited}

-- nobody is in a call, and a seat is free
pub record HasFree (left_out : Option Rule) : Type 0 where
  pub class_ : Class
  pub s : ℕ
  pub reached : ReachedWithout left_out class_
  pub rest : IsAtRest class_
  pub is_seat : s < class_.seats
  pub free : IsFree (class_.seat s)

-- ---- by the rules

-- one uses a seat that is another's own
pub record HasLent : Type 0 where
  pub class_ : Class
  pub s : ℕ
  pub reached : ReachedByRules class_
  pub user : (t : ℕ) × ((class_.seat s).user t ≡ true)
  pub owner : (t : ℕ) × ((class_.seat s).owner t ≡ true)
  pub others : user.0 ≢ owner.0

-- the first has suspended its context, and the second has resumed it
abbrev pub now_suspended : Class → Class
now_suspended c = after_step c (suspends 0 0 7)

abbrev pub now_resumed : Class → Class
now_resumed c = after_step (now_suspended c) (takes 1 0 7)

-- one suspends its context, another resumes it by the value, and then a third can't, which has a copy and could before
pub record HasResumed : Type 0 where
  pub class_ : Class
  pub reached : ReachedByRules class_
  pub began : (class_.seat 0).user 0 ≡ true
  pub suspended : MayBeMade None class_ (suspends 0 0 7)
  pub nobody : (t : ℕ) → ((now_suspended class_).seat 0).user t ≡ false
  pub resumed : MayBeMade None (now_suspended class_) (takes 1 0 7)
  pub goes_on : ((now_resumed class_).seat 0).user 1 ≡ true
  pub copy : MayBeMade None (now_suspended class_) (takes 2 0 7)
  pub copy_fails : ¬ MayBeMade None (now_resumed class_) (takes 2 0 7)

-- a seat is free that tasks may claim, one waits, and another was called for the seat
abbrev pub HasOneThatWaits : Type 0
HasOneThatWaits = (x : HasFree None) × (x.class_.is_open x.s ≡ true) × SomebodySleeps x.class_

-- one that was called for the only seat hasn't come, and waits; another was called in its place, and uses the seat
pub record HasPassedOn : Type 0 where
  pub class_ : Class
  pub reached : ReachedByRules class_
  pub rest : IsAtRest class_
  pub late : (t : ℕ) × (class_.stands t ≡ waits)
  pub user : (t : ℕ) × ((class_.seat 0).user t ≡ true)
  pub only : class_.seats ≡ 1

abbrev pub SuchAreReached : Type 0
SuchAreReached = HasLent × HasResumed × HasOneThatWaits × HasPassedOn

-- ---- without a rule

pub record HasTwoUsers (left_out : Option Rule) : Type 0 where
  pub class_ : Class
  pub s : ℕ
  pub reached : ReachedWithout left_out class_
  pub one : (t : ℕ) × ((class_.seat s).user t ≡ true)
  pub two : (t : ℕ) × ((class_.seat s).user t ≡ true)
  pub others : one.0 ≢ two.0

-- a seat is free whose context is suspended
pub record HasFreeSuspended (left_out : Option Rule) : Type 0 where
  pub class_ : Class
  pub s : ℕ
  pub ticket : ℕ
  pub reached : ReachedWithout left_out class_
  pub suspended : (class_.seat s).ticket ≡ Some ticket
  pub free : IsFree (class_.seat s)

-- a seat is free, and somebody is due one
abbrev pub HasForgotten : Option Rule → Type 0
HasForgotten left_out = (x : HasFree left_out) × SomebodyIsDue x.class_

-- a seat is free that tasks may claim, somebody waits, and nobody in the queue was called for it
abbrev pub HasUncalled : Option Rule → Type 0
HasUncalled left_out = (x : HasFree left_out) × (x.class_.is_open x.s ≡ true) × SomebodySleeps x.class_ × (¬ IsAwaited x.class_ x.s)

abbrev pub Breaks : Rule → Type 0
Breaks claims_no_own = HasTwoUsers (Some claims_no_own)
Breaks uses_its_own = HasTwoUsers (Some uses_its_own)
Breaks takes_nobodys = HasTwoUsers (Some takes_nobodys)
Breaks uses_before_it_leaves = HasTwoUsers (Some uses_before_it_leaves)
Breaks suspends_what_it_uses = HasTwoUsers (Some suspends_what_it_uses) × HasFreeSuspended (Some suspends_what_it_uses)
Breaks draws_a_new_one = HasWonTwice (Some draws_a_new_one)
Breaks finds_the_ticket = HasTwoUsers (Some finds_the_ticket) × HasWonTwice (Some finds_the_ticket)
Breaks looks_as_it_joins = HasForgotten (Some looks_as_it_joins)
Breaks asks_who_waits = HasForgotten (Some asks_who_waits)
Breaks calls_who_waits = HasUncalled (Some calls_who_waits)
Breaks calls_the_next = HasUncalled (Some calls_the_next)
Breaks looks_when_called = HasUncalled (Some looks_when_called)

abbrev pub EachRuleMatters : Type 0
EachRuleMatters = (rule : Rule) → Breaks rule

-- ---- during a call

-- a seat is free that tasks may claim, somebody waits, and nobody was called for it: while one looks, and while one has yet to offer it
pub record HasNotYet : Type 0 where
  pub class_ : Class
  pub reached : ReachedByRules class_
  pub is_seat : 0 < class_.seats
  pub free : IsFree (class_.seat 0)
  pub open_ : class_.is_open 0 ≡ true
  pub sleeps : SomebodySleeps class_
  pub uncalled : ¬ IsAwaited class_ 0

abbrev pub RestMatters : Type 0
RestMatters = ((x : HasNotYet) × ((s : ℕ) → s < x.class_.seats → (t : ℕ) → (x.class_.seat s).debt t ≡ nothing)) ×
    ((x : HasNotYet) × (x.class_.looks ≡ None))
