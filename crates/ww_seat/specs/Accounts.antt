-- What a seat is, has and did, apart from where it is in a call: what a call did is one equation between two accounts.
use Rattle.std.specs.Prelude.{ℕ, ◌+◌, ◌++◌, ◌∷◌, [], List, Bool, true, false, slice_set, Option, Some, None}
use Rattle.ww_queue.specs.declared.kind.Kind.{Kind}
use Rattle.ww_plain.specs.declared.node.Node.{Node}
use Rattle.ww_plain.specs.declared.history.Record.{Record}
use Rattle.ww_view.specs.Made.{without}
use Rattle.ww_invariant.specs.declared.cells.Counts.{Counts}
use Rattle.ww_invariant.specs.Rule.{Sat}

-- Its kind of locks and its number; its stamp, 0 without a context; its log, all its commits with their places; what
-- the table counts of it; of each lock, whether it owns that; the locks that it owns, in the order in which it took them,
-- and the nodes that its view names for them; how often it tried to take a lock at once, took one, and backed off; each
-- time that it was interrupted; and how often it found a cancel pending where it would set one.
pub record Account : Type 0 where
  pub kind : Kind
  pub who : ℕ
  pub stamp : ℕ
  pub own : List (ℕ × Record)
  pub counts : Counts
  pub owned : List Bool
  pub locks : List ℕ
  pub held : List (Option Node)
  pub tries : ℕ
  pub takes : ℕ
  pub deaths : ℕ
  pub stopped : List (ℕ × ℕ)
  pub pendings : ℕ

abbrev pub account_of : Sat → Account
account_of m = record {
  kind = m.0.part.core.kind;
  who = m.0.part.core.who;
  stamp = m.0.part.core.stamp;
  own = m.0.part.own;
  counts = m.0.part.counts;
  owned = m.0.part.core.owned;
  locks = m.0.part.core.locks;
  held = m.0.held;
  tries = m.0.part.core.tries;
  takes = m.0.part.core.takes;
  deaths = m.0.part.core.deaths;
  stopped = m.0.part.core.stopped;
  pendings = m.0.part.core.pendings;
}

-- after one try to take a lock at once
abbrev pub having_tried : Account → Account
having_tried a = record a { tries = a.tries + 1 }

-- one lock more, with this node
abbrev pub having_taken : Account → ℕ → Node → Account
having_taken a n x = record a {
  owned = slice_set a.owned n true;
  locks = a.locks ++ n ∷ [];
  held = slice_set a.held n (Some x);
  takes = a.takes + 1;
}

-- one lock less
abbrev pub having_given : Account → ℕ → Account
having_given a n = record a { owned = slice_set a.owned n false; locks = without n a.locks; held = slice_set a.held n None }

-- it backed off once more
abbrev pub having_died : Account → Account
having_died a = record a { deaths = a.deaths + 1 }

-- it heeded the cancel of this seat, and left the wait list of lock n for it
abbrev pub having_stopped : Account → ℕ → ℕ → Account
having_stopped a n by = record a { counts = record (a.counts) { heeded = by ∷ a.counts.heeded }; stopped = (n, by) ∷ a.stopped }

-- a context of this stamp more
abbrev pub having_begun : Account → ℕ → Account
having_begun a k = record a { stamp = k; counts = record (a.counts) { draws = a.counts.draws + 1 } }

-- ... and no context any more
abbrev pub having_ended : Account → Account
having_ended a = record a { stamp = 0 }

-- one record more, at this place, after which its view names these nodes
abbrev pub having_committed : Account → ℕ → Record → List (Option Node) → Account
having_committed a place r held = record a { own = a.own ++ (place, r) ∷ []; held = held }
