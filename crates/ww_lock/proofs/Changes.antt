-- What is prepared, and what its commit makes of a state.
use Rattle.std.proofs.Common.{◌≡◌, ℕ, zero, suc, ◌+◌, ◌-◌, ◌<◌, ◌≤◌, ◌^◌, ◌||◌, ◌∙◌, Bool, List, [], ◌∷◌, ◌++◌, length, length-append, map, fold, true, inl, inr, Option, Some, None, slice_get, refl, sym, ap, arith}
use Rattle.std.specs.List.{AllByRecursion}
use Rattle.std.proofs.lemmas.List.{length-map, map-append}
use mathlib.Core.Option.{some}
use Rattle.ww_plain.specs.Numbers.{with_number, distinct_of}
use Rattle.ww_plain.specs.Graph.{node_at}
use Rattle.ww_plain.specs.Walk.{BeginsWith, walk_of, stop_of}
use Rattle.ww_plain.specs.Footprint.{with_target, walked}
use Rattle.ww_plain.specs.Transaction.{get, add, move, link, sum, reverse, peek, Fits, transaction_of}
use Rattle.ww_plain.specs.Meaning.{answer_of, graph_after}
use Rattle.ww_plain.proofs.Members.{true_or_false, is_among-append, is_among-head}
use Rattle.ww_plain.proofs.Walks.{gives_walk}
use Rattle.ww_view.specs.View.{owns}
use Rattle.ww_invariant.specs.Rule.{own_of}
use Rattle.ww_seat.specs.Accounts.{Account, account_of, having_committed}
use Rattle.ww_seat.specs.Calls.{HoldsAll}
use Rattle.ww_seat.specs.Standings.{Standing, view_in, IsCommit}
use Rattle.ww_lock.specs.declared.hand.Hand.TheInside.{Inside}
use Rattle.ww_lock.specs.declared.prepared.Prepared.TheInside as prepared
use Rattle.ww_lock.specs.declared.prepared.Receipt.{Receipt}
use Rattle.ww_lock.specs.Carried.{held_of, seen_with, holding_of, MayStillCommit}
use Rattle.ww_lock.specs.Hands.{carried_of, Carries}
use Rattle.ww_lock.specs.Moves.{IsCommitted}
use Rattle.ww_lock.proofs.Helds.{all_among}
use Rattle.ww_lock.proofs.Carrying.{carries_as, even_still}
use Rattle.ww_plain.specs.declared.node.Node.{Node}
use Rattle.ww_plain.specs.declared.history.Record.{Record}
use Rattle.ww_plain.specs.Numbers.{is_among}
use Rattle.ww_plain.specs.Footprint.{footprint_of}
use Rattle.ww_plain.specs.Transaction.{Transaction}
use Rattle.ww_plain.specs.History.{Recorded, recorded_of}
use Rattle.ww_lock.specs.Holding.{Holding, Change, Holds, SameAt, AreBelow}
use Rattle.ww_lock.specs.Making.{IsChangeMade, HoldsUnchanged}
use Rattle.ww_seat.specs.Commits.{change_at}

-- the nodes are held as they were before
pub found : (s : Holding) (before after : List Node) (ns : List ℕ)
    → (AllByRecursion (HoldsUnchanged s) (map (change_at before after) ns) → Holds s ns × SameAt before s.seen ns)
    × (Holds s ns × SameAt before s.seen ns → AllByRecursion (HoldsUnchanged s) (map (change_at before after) ns))
found s before after [] = (λ _. (tt, tt), λ _. tt)
found s before after (n ∷ ns) = let rest = found s before after ns in (
  λ all. let more = rest.0 all.1 in ((all.0.0, more.0), (sym all.0.1, more.1)),
  λ both. ((both.0.0, sym both.1.0), rest.1 (both.0.1, both.1.1)),
)

-- what is read at a node
pub node_read : (graph : List Node) (n : ℕ) (x : Node) → slice_get graph n ≡ Some x → node_at graph n ≡ x
node_read [] n x e = absurd cc
node_read (y ∷ ys) zero x e = cc
node_read (y ∷ ys) (suc n) x e = node_read ys n x e

-- ---- a footprint has a node

abbrev pub Some_among : List ℕ → Type 0
Some_among ns = (n : ℕ) × (is_among n ns ≡ true)

still_joined : (ns : List ℕ) (m n : ℕ) → is_among n ns ≡ true → is_among n (with_number ns m) ≡ true
still_joined ns m n e = elim (true_or_false (is_among m ns)) [
  | inl here ↦ rw here e
  | inr absent ↦ rw absent (is_among-append n ns (m ∷ []) ∙ ap (λ (b : Bool). b || is_among n (m ∷ [])) e)
]

still_all : (ns ms : List ℕ) (n : ℕ) → is_among n ns ≡ true → is_among n (fold with_number ns ms) ≡ true
still_all ns [] n e = e
still_all ns (m ∷ ms) n e = still_all (with_number ns m) ms n (still_joined ns m n e)

some_distinct : (ns : List ℕ) → 1 ≤ length ns → Some_among (distinct_of ns)
some_distinct [] one = absurd (omega (arith, one))
some_distinct (n ∷ ns) one = (n, still_all (n ∷ []) ns n (is_among-head n []))

some_target : (ns : List ℕ) (target : Option ℕ) → Some_among ns → Some_among (with_target ns target)
some_target ns None one = one
some_target ns (Some t) one = (one.0, still_joined ns t one.0 one.1)

some_walk : (graph : List Node) (start p most : ℕ) → 1 ≤ most → Some_among (walked graph p (walk_of graph start p most))
some_walk graph start p most one =
    let vs = walk_of graph start p most in
    some_target vs (stop_of graph p vs) (begun vs start (gives_walk graph start p most one).begins)
  where
    begun : (vs : List ℕ) (v : ℕ) → BeginsWith vs v → Some_among vs
    begun [] v begins = absurd begins
    begun (w ∷ ws) v begins = (w, is_among-head w ws)

pub some_footprint : (graph : List Node) (t : Transaction) (size : ℕ) → Fits size t → Some_among (footprint_of graph t)
some_footprint graph (get by nodes) size fits = some_distinct nodes fits.0.some
some_footprint graph (add by amounts) size fits =
    some_distinct (map (λ pair. pair.0) amounts)
    (omega (arith, fits.0.some, length-map amounts (λ (pair : ℕ × ℕ). pair.0)))
some_footprint graph (move from to amount) size fits = some_distinct (from ∷ to ∷ []) (omega arith)
some_footprint graph (link node port target) size fits = some_target (node ∷ []) target (node, is_among-head node [])
some_footprint graph (sum start port length) size fits = some_walk graph start port length fits.some
some_footprint graph (reverse start port length) size fits = some_walk graph start port length fits.some
some_footprint graph (peek node) size fits = (node, is_among-head node [])

-- ---- a commit

-- what contracts see of a transaction that was prepared
abbrev pub change_of : prepared.Inside → Change
change_of p = record {
  transaction = transaction_of p.record.txn;
  answer = answer_of p.record.reply;
  before = p.before.value;
  after = graph_after p.before.value (transaction_of p.record.txn);
}

-- what a seat is asked for a commit, by what is carried
pub record MaySettle (h : Inside) (p : Change) (r : Record) : Type 0 where
  pub owner : (n : ℕ) × (owns (view_in h.seat) n ≡ true)
  pub seq : r.seq ≡ length h.seat.me.0.part.own
  pub held : HoldsAll h.seat.me p.before (footprint_of p.before p.transaction)
  pub fewer : length h.seat.me.0.part.own + 1 < 2 ^ 32

pub many : (own : List (ℕ × Record)) → length (own_of own) ≡ length own
many own = length-map own (λ (x : ℕ × Record). (x.0, recorded_of x.1))

pub may_settle : (h : Inside) (p : Change) (r : Record) → Carries h → MayStillCommit (carried_of h) → IsChangeMade (holding_of (carried_of h)) p
    → r.seq ≡ length (own_of h.seat.me.0.part.own) → Fits (length p.before) p.transaction → MaySettle h p r
may_settle h p r c f made seq fits =
    let ns : List ℕ = footprint_of p.before p.transaction in
    let held : (n : ℕ) → is_among n ns ≡ true
    → is_among n (held_of (carried_of h)) ≡ true =
    λ n e. all_among (λ m. is_among m (held_of (carried_of h)) ≡ true) ns n made.holds e in
    let as_seen : (n : ℕ) → is_among n ns ≡ true
    → node_at p.before n ≡ node_at h.seen n =
    λ n e. all_among (λ m. node_at p.before m ≡ node_at h.seen m) ns n made.contents e in
    let one = some_footprint p.before p.transaction (length p.before) fits in
    record {
      owner = (one.0, c.suits.owned one.0 ∙ held one.0 one.1);
      seq = seq ∙ many h.seat.me.0.part.own;
      held = λ n e. (c.suits.owned n ∙ held n e, f.seen n (held n e) ∙ ap (λ (x : Node). some (Some x)) (sym (as_seen n e)));
      fewer = omega (arith, f.commits);
    }

pub record Commits (h g : Inside) (p : Change) (told : Receipt) : Type 0 where
  pub carries : Carries g
  pub is : IsCommitted (holding_of (carried_of h)) p (holding_of (carried_of g)) told

below_as : (place : ℕ) (records : List (ℕ × Record)) → AllByRecursion (λ q. q.0 < place) records → AreBelow place (own_of records)
below_as place [] all = tt
below_as place (r ∷ rs) all = (all.0, below_as place rs all.1)

pub commits : (h : Inside) (s' : Standing) (p : Change) (r : Record) (before : List Node) (told : Receipt) → Carries h
    → MayStillCommit (carried_of h) → IsCommit h.seat r before told.place s'
    → recorded_of r ≡ record {
      caller = (view_in h.seat).who;
      seq = length (own_of h.seat.me.0.part.own);
      transaction = p.transaction;
      answer = p.answer;
    }
    → told.seq ≡ length (own_of h.seat.me.0.part.own) → answer_of told.reply ≡ p.answer → Commits h (record h { seat = s' }) p told
commits h s' p r before told c f b same seq reply =
    let g : Inside = record h { seat = s' } in
    let own : List (ℕ × Record) = h.seat.me.0.part.own in
    let a : Account = having_committed (account_of h.seat.me) told.place r s'.me.0.held in
    record {
      carries = carries_as h g a c (b.size ∙ c.size) b.away
          (record {
            bells = refl;
            parker = refl;
            even = even_still h.seat.me s'.me h.patience h.patience h.bells.items b.out
                (ap (λ (x : Account). x.counts.cancelled) b.committed.now) refl c.even;
          }) b.committed.now refl (record {
            owned = c.suits.owned;
            marked = c.suits.marked;
            wide = c.suits.wide;
            held = c.suits.held;
            answered = c.suits.answered;
            draws = c.suits.draws;
            commits = omega (arith, f.commits, length-append own ((told.place, r) ∷ []));
            few = c.suits.few;
          });
      is = record {
        own = (λ i. seen_with (record { seat = b.now i; parkers = (carried_of h).parkers; left = h.left; seen = h.seen })
            (b.committed.now i) (b.out.deaf i))
            ∙ ap (λ (os : List (ℕ × Recorded)). let s : Holding = record (holding_of (carried_of h)) { own = os; room = h.seat.room - 1 } in s)
            (map-append (λ (x : ℕ × Record). (x.0, recorded_of x.1)) own ((told.place, r) ∷ [])
            ∙ ap (λ (d : Recorded). own_of own ++ (told.place, d) ∷ []) same);
        above = below_as told.place own b.committed.above;
        seq = seq;
        reply = reply;
      };
    }
