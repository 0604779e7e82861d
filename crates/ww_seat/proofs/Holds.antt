-- What the calls say of a seat, one after another.
use Rattle.std.proofs.Common.{◌≡◌, ℕ, ◌<◌, false, length, get_or, refl, sym, ap, ◌∙◌, subst}
use Rattle.ww_plain.specs.declared.node.Node.{Node}
use Rattle.ww_plain.specs.Graph.{IsNodeOf}
use Rattle.ww_invariant.specs.declared.cells.Sight.{Sight}
use Rattle.ww_invariant.specs.Rule.{Sat}
use Rattle.ww_seat.specs.declared.look.Look.{Look}
use Rattle.ww_seat.specs.declared.look.Look.TheVariants.{Locked, Deadlk, Interrupted, Waits}
use Rattle.ww_seat.specs.Accounts.{Account, having_taken, having_died, having_stopped}
use Rattle.ww_seat.specs.Calls.{HoldsAsBefore, HasTaken, HasToDie, HasStopped}
use Rattle.ww_seat.specs.Looks.{CameTo}

pub holds_same : (m : Sat) → HoldsAsBefore m m
holds_same m = refl

-- by what it is then
pub holds_by : (m m' : Sat) {w : Sight} → m'.0 ≡ w → HoldsAsBefore m (w, m'.1) → HoldsAsBefore m m'
holds_by m m' view same = subst (λ (z : Sight). HoldsAsBefore m (z, m'.1)) (sym view) same

pub holds_then : (a b c : Sat) → HoldsAsBefore a b → HoldsAsBefore b c → HoldsAsBefore a c
holds_then a b c x y = y ∙ x

-- ---- what a look came to, told of where the seat began

pub taken_then : (a b c : Sat) (n : ℕ) (x : Node) → HoldsAsBefore a b → HasTaken b n x c → HasTaken a n x c
taken_then a b c n x h t = record {
  now = t.now ∙ ap (λ (y : Account). having_taken y n x) h;
  node = subst (λ (y : Account). IsNodeOf (length y.held) x) h t.node;
  unmet = t.unmet;
}

pub die_then : (a : Sat) {b c : Sat} {n k : ℕ} → HoldsAsBefore a b → HasToDie b n k c → HasToDie a n k c
die_then a {k} h d = record {
  now = d.now ∙ ap having_died h;
  one = (d.one.0, sym (ap (λ (y : Account). get_or y.owned d.one.0 false) h) ∙ d.one.1);
  context = d.context;
  older = subst (λ (y : Account). k < y.stamp) h d.older;
  met = d.met;
}

pub stopped_then : (a : Sat) {b c : Sat} {n by : ℕ} → HoldsAsBefore a b → HasStopped b n by c → HasStopped a n by c
stopped_then a {n} {by} h s = record { now = s.now ∙ ap (λ (y : Account). having_stopped y n by) h; unmet = s.unmet }

pub came_then : (n : ℕ) (a b c : Sat) (look : Look) → HoldsAsBefore a b → CameTo n b look c → CameTo n a look c
came_then n a b c (Locked x) h l = (l.0, taken_then a b c n x h l.1)
came_then n a b c (Deadlk k) h l = (l.0, die_then a h l.1)
came_then n a b c (Interrupted by) h l = (l.0, stopped_then a h l.1)
came_then n a b c Waits h l = (l.0, l.1, l.2, holds_then a b c h l.3)

-- it set no cancel
pub came_cancels : (n : ℕ) (m m' : Sat) (look : Look) → CameTo n m look m'
    → m'.0.part.counts.cancelled ≡ m.0.part.counts.cancelled
came_cancels n m m' (Locked x) l = ap (λ (a : Account). a.counts.cancelled) l.1.now
came_cancels n m m' (Deadlk k) l = ap (λ (a : Account). a.counts.cancelled) l.1.now
came_cancels n m m' (Interrupted by) l = ap (λ (a : Account). a.counts.cancelled) l.1.now
came_cancels n m m' Waits l = ap (λ (a : Account). a.counts.cancelled) l.3
