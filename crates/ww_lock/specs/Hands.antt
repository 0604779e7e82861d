-- What is true of each hand between two calls.
use Rattle.std.specs.Prelude.{ℕ, List, Bool, false, ◌≡◌, ◌<◌, ◌+◌, ◌^◌, length, map, Some, slice_get, slice_index_or}
use Rattle.ww_plain.specs.declared.node.Node.{Node}
use Rattle.ww_plain.specs.Numbers.{is_among}
use Rattle.ww_view.specs.View.{IsAway}
use Rattle.ww_seat.specs.Accounts.{Account, account_of}
use Rattle.ww_seat.specs.Bells.{rings_at, sleeps_at}
use Rattle.ww_seat.specs.Standings.{view_in, size_in, IsEven}
use Rattle.ww_lock.specs.declared.hand.Hand.TheInside.{Inside}
use Rattle.ww_lock.specs.Holding.{AreHeld, by_of}
use Rattle.ww_lock.specs.Carried.{Carried}

abbrev pub carried_of : Inside → Carried
carried_of h = record { seat = h.seat; parkers = map rings_at h.bells.items; left = h.left; seen = h.seen }

-- Its seat owns just the locks of the nodes that are held, which have their marks, and is one of 16. Each cancel that it heeded
-- was answered by an interruption. With what is left it stays within what the table counts.
pub record Suits (a : Account) (left : ℕ) (marks : List Bool) (seen : List Node) : Type 0 where
  pub owned : (n : ℕ) → slice_index_or a.owned n false ≡ is_among n a.locks
  pub marked : marks ≡ a.owned
  pub wide : length a.owned ≡ 64
  pub held : AreHeld a.locks seen
  pub answered : by_of a.stopped ≡ a.counts.heeded
  pub draws : a.counts.draws + left < 2 ^ 32
  pub commits : length a.own + left < 2 ^ 32
  pub few : a.who < 16

-- Its seat is inside no guard and in no wait list, and saw as many nodes as its table has. Its own bell rings the parker that it
-- sleeps on. It has woken whom it had to wake, and slept each time that it had to.
pub record Carries (h : Inside) : Type 0 where
  pub away : IsAway (view_in h.seat)
  pub size : size_in h.seat ≡ length h.seen
  pub suits : Suits (account_of h.seat.me) h.left h.marks h.seen
  pub placed : slice_get (map rings_at h.bells.items) (view_in h.seat).who ≡ Some (sleeps_at h.patience)
  pub even : IsEven h.seat.me h.patience h.bells.items
