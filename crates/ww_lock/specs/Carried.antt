-- What a pass carries through all its states, as contracts see it.
use Rattle.std.specs.Prelude.{ℕ, List, ◌≡◌, ◌<◌, ◌≤◌, ◌+◌, ◌-◌, ◌^◌, ◌⊎◌, [], true, false, length, Option, Some, None}
use mathlib.Core.Option.{some}
use lib.ListN.{get_elem?}
use Rattle.atomic_table.specs.Seated.{TableId}
use Rattle.ww_plain.specs.declared.node.Node.{Node}
use Rattle.ww_plain.specs.Numbers.{is_among}
use Rattle.ww_plain.specs.Graph.{node_at}
use Rattle.ww_view.specs.declared.view.View.{View}
use Rattle.ww_view.specs.declared.view.Met.{Met}
use Rattle.ww_invariant.specs.Rule.{own_of}
use Rattle.ww_seat.specs.Accounts.{Account, account_of}
use Rattle.ww_seat.specs.Calls.{HasMet}
use Rattle.ww_seat.specs.Standings.{Standing, view_in}
use Rattle.ww_seat.specs.declared.waiting.NoLock.{NoLock}
use Rattle.ww_seat.specs.declared.waiting.NoLock.TheVariants.{Deadlk, Interrupted}
use Rattle.ww_lock.specs.Holding.{Holding}

-- Its seat; the parkers that its bells ring, in their order; how many contexts and solos it may still start; and the graph
-- as it was seen.
pub record Carried : Type 0 where
  pub seat : Standing
  pub parkers : List TableId
  pub left : ℕ
  pub seen : List Node

-- what its seat knows
abbrev pub known_of : Carried → View
known_of c = view_in c.seat

-- the nodes that it holds, in the order in which it took them
abbrev pub held_of : Carried → List ℕ
held_of c = (known_of c).locks

-- its stamp, 0 without a context
abbrev pub stamp_of : Carried → ℕ
stamp_of c = (known_of c).stamp

-- what its seat met as it had to back off, until it takes or gives a lock
abbrev pub met_of : Carried → Option Met
met_of c = (known_of c).met

-- what a contract sees of it where its seat has this account, and slept so often without a look at its cancel
abbrev pub seen_with : Carried → Account → ℕ → Holding
seen_with c a deaf = record {
  home = record { table = c.seat.home; parkers = c.parkers };
  caller = a.who;
  left = c.left;
  draws = a.counts.draws;
  stamp = a.stamp;
  own = own_of a.own;
  room = c.seat.room;
  held = a.locks;
  seen = c.seen;
  tries = a.tries;
  takes = a.takes;
  deaths = a.deaths;
  deaf = deaf;
  cancelled = a.counts.cancelled;
  pendings = a.pendings;
  interrupted = a.stopped;
}

abbrev pub holding_of : Carried → Holding
holding_of c = seen_with c (account_of c.seat.me) (known_of c).deaf

-- it may still commit: each node that is held is as it was seen, and one commit more can be counted
pub record MayStillCommit (c : Carried) : Type 0 where
  pub seen : (n : ℕ) → is_among n (held_of c) ≡ true → get_elem? c.seat.me.0.held n ≡ some (Some (node_at c.seen n))
  pub commits : length c.seat.me.0.part.own + c.left + 1 < 2 ^ 32

-- it may begin a context: it has none, holds nothing, and may draw once more
pub record MayBegin (c : Carried) : Type 0 where
  pub fresh : MayStillCommit c
  pub idle : stamp_of c ≡ 0
  pub nothing : held_of c ≡ []
  pub draws : (holding_of c).draws + c.left + 1 < 2 ^ 32

-- what a pass carries once it has spent one of what was left
pub record IsSpent (s : Holding) (c : Carried) : Type 0 where
  pub some : 1 ≤ s.left
  pub now : holding_of c ≡ record s { left = s.left - 1 }
  pub may : MayBegin c

-- it may take the lock of node n, which it doesn't hold: it has a context, or holds nothing
pub record MayLock (n : ℕ) (c : Carried) : Type 0 where
  pub fresh : MayStillCommit c
  pub want : (0 < stamp_of c) ⊎ (held_of c ≡ [])
  pub there : n < length c.seen
  pub new : is_among n (held_of c) ≡ false

-- ... and nothing else
pub record MayLockAlone (n : ℕ) (c : Carried) : Type 0 where
  pub fresh : MayStillCommit c
  pub nothing : held_of c ≡ []
  pub there : n < length c.seen

-- what its seat has met where it came without lock n: an older context of the stamp that it tells; or nothing, where its
-- wait was cancelled
abbrev pub HasMetSo : ℕ → NoLock → Carried → Type 0
HasMetSo n (Deadlk k) c = HasMet n k (known_of c)
HasMetSo n (Interrupted by) c = met_of c ≡ None
