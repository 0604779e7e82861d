-- The seats of passes, as a world is closed.
use Rattle.std.proofs.Common.{◌≡◌, ℕ, zero, suc, ◌<◌, ◌≤◌, eqb, true, true≢false, inl, inr, List, [], ◌∷◌, ◌++◌, length, refl, sym, ap, subst, ◌∙◌, arith}
use Rattle.std.specs.List.{AllByRecursion}
use Rattle.std.proofs.lemmas.Bool.{cases_lt}
use Rattle.ww_queue.specs.Queue.{Has}
use Rattle.ww_plain.specs.declared.node.Node.{Node}
use Rattle.ww_plain.specs.declared.history.Record.{Record}
use Rattle.ww_plain.specs.History.{Recorded, history_of, part_of, IsLegal, last_graph}
use Rattle.ww_plain.proofs.Members.{eqb_same, true_or_false, same_from_eqb, or_cases}
use Rattle.ww_view.specs.View.{IsAway, IsBare}
use Rattle.ww_invariant.specs.declared.cells.Start.{Start}
use Rattle.ww_table.specs.declared.seat.Stepper.{Stepper}
use Rattle.ww_model.specs.State.{one_if}
use Rattle.ww_invariant.specs.Rule.{first_graph, own_of, times}
use Rattle.ww_table.specs.Closed.{HasCome, HaveAllCome, HasPlaces}
use Rattle.ww_table.specs.Closed as table
use Rattle.ww_table.proofs.Making.{all_from}
use Rattle.atomic_table.specs.Seated.{TableId}
use Rattle.ww_seat.specs.Standings.{Standing, standing_of, view_in, IsKept}
use Rattle.ww_seat.proofs.Outside.{nothing_out}
use Rattle.ww_table.specs.Seat.{IsSeated}
use Rattle.ww_lock.specs.declared.hand.Hand.TheInside.{Inside}
use Rattle.ww_lock.specs.declared.close.History.{History}
use Rattle.ww_lock.specs.Holding.{Home, Holding, Setting, AreAtHome, AreBelow, by_of}
use Rattle.ww_lock.specs.Carried.{held_of, holding_of}
use Rattle.ww_lock.specs.Hands.{carried_of, Carries}
use Rattle.ww_lock.specs.Closed.{has_pass, missing_of, WasSeatOf, AreSeatsOf, AreAllBelow, AreParts, IsBalanced, AreBalanced, IsClosed}
use Rattle.ww_lock.proofs.Carrying.{bare_of}

pub seat_of_pass : (h : Inside) (q : Stepper) → Carries h → held_of (carried_of h) ≡ [] → standing_of q ≡ h.seat → IsKept q
    → WasSeatOf (holding_of (carried_of h)) q
seat_of_pass h q c none is k =
    let home = ap (λ (s : Standing). s.home) is in
    let bare = subst (λ (s : Standing). IsBare (view_in s)) (sym is) (bare_of h c none) in
    let away = subst (λ (s : Standing). IsAway (view_in s)) (sym is) c.away in record {
      come = record { seated = subst (λ (t : TableId). IsSeated t q) home k.seated; bare = bare; nothing = nothing_out _ _ k.orderly away.0 bare };
      number = sym k.seated.who ∙ ap (λ (s : Standing). (view_in s).who) is;
      own = ap own_of k.seated.records ∙ ap (λ (s : Standing). own_of s.me.0.part.own) is;
      cancelled = ap (λ (s : Standing). s.me.0.part.counts.cancelled) is;
      heeded = ap (λ (s : Standing). s.me.0.part.counts.heeded) is ∙ sym c.suits.answered;
    }

pub below_own : (place : ℕ) (records : List (ℕ × Record)) → AllByRecursion (λ q. q.0 < place) records → AreBelow place (own_of records)
below_own place [] all = tt
below_own place (r ∷ rs) all = (all.0, below_own place rs all.1)

pub below_further : (m n : ℕ) (own : List (ℕ × Recorded)) → m ≤ n → AreBelow m own → AreBelow n own
below_further m n [] low all = tt
below_further m n (p ∷ ps) low all = (let h = all.0 in omega arith, below_further m n ps low all.1)

pub own_below : (place : ℕ) (records : List (ℕ × Record)) → AreBelow place (own_of records) → AllByRecursion (λ q. q.0 < place) records
own_below place [] all = tt
own_below place (r ∷ rs) all = (all.0, own_below place rs all.1)

pub fits : (place : ℕ) (passes : List Holding) (seats : List Stepper) → AreSeatsOf passes seats
    → AreAllBelow place passes → AllByRecursion (HasPlaces place) seats
fits place [] [] are all = tt
fits place [] (q ∷ qs) are all = absurd are
fits place (s ∷ ss) [] are all = absurd are
fits place (s ∷ ss) (q ∷ qs) are all =
    (own_below place q.records.items (subst (AreBelow place) (sym are.0.own) all.0), fits place ss qs are.1 all.1)

come : (t : TableId) (w : Setting) (passes : List Holding) (seats : List Stepper) → w.home.table ≡ t
    → AreAtHome passes w → AreSeatsOf passes seats → AllByRecursion (HasCome t) seats
come t w [] [] is home are = tt
come t w [] (q ∷ qs) is home are = absurd are
come t w (s ∷ ss) [] is home are = absurd are
come t w (s ∷ ss) (q ∷ qs) is home are = (
  subst (λ (z : TableId). HasCome z q) (ap (λ (x : Home). x.table) home.0.home ∙ is) are.0.come,
  come t w ss qs
      is home.1 are.1,
)

found : (passes : List Holding) (seats : List Stepper) (k : ℕ) → AreSeatsOf passes seats → has_pass passes k ≡ true
    → (q : Stepper) × Has seats q × (q.who ≡ k)
found [] [] k are has = absurd (true≢false (sym has))
found [] (q ∷ qs) k are has = absurd are
found (s ∷ ss) [] k are has = absurd are
found (s ∷ ss) (q ∷ qs) k are has = elim (or_cases (eqb s.caller k) (has_pass ss k) has) [
  | inl here ↦ (q, inl refl, are.0.number ∙ same_from_eqb s.caller k here)
  | inr there ↦ let f = found ss qs k are.1 there in (f.0, inr f.1, f.2)
]

pub all_there : (count : ℕ) (passes : List Holding) → missing_of count passes ≡ 0 → (k : ℕ) → k < count → has_pass passes k ≡ true
all_there zero passes none k lt = absurd (omega (arith, lt))
all_there (suc c) passes none k lt = elim (true_or_false (has_pass passes c)) [
  | inl has ↦ elim (cases_lt k c) [
    | inl less ↦ all_there c passes (rw has at none) k less
    | inr most ↦ subst (λ (j : ℕ). has_pass passes j ≡ true) (same_number c k most lt) has
  ]
  | inr lacks ↦ absurd (omega (arith, rw lacks at none))
]
  where
    same_number : (c k : ℕ) → c ≤ k → k < suc c → c ≡ k
    same_number c k most lt = omega (arith, most, lt)

pub all_come : (t : TableId) (key : Start) (w : Setting) (passes : List Holding) (seats : List Stepper)
    → w.home.table ≡ t → key.seats ≡ w.passes → AreAtHome passes w → missing_of w.passes passes ≡ 0
    → AreSeatsOf passes seats → HaveAllCome t key seats
all_come t key w passes seats is count home none are = record {
  each = come t w passes seats is home are;
  all = λ k lt. found passes seats k are (all_there w.passes passes none k (omega (arith, lt, count)));
}

as_many : (passes : List Holding) (seats : List Stepper) → AreSeatsOf passes seats → length passes ≡ length seats
as_many [] [] are = refl
as_many [] (q ∷ qs) are = absurd are
as_many (s ∷ ss) [] are = absurd are
as_many (s ∷ ss) (q ∷ qs) are = ap suc (as_many ss qs are.1)

parts : (history : List Recorded) (passes : List Holding) (seats : List Stepper) → AreSeatsOf passes seats
    → ((q : Stepper) → Has seats q → part_of q.who history ≡ own_of q.records.items) → AreParts passes history
parts history [] [] are each = tt
parts history [] (q ∷ qs) are each = absurd are
parts history (s ∷ ss) [] are each = absurd are
parts history (s ∷ ss) (q ∷ qs) are each = (
  ap (λ (k : ℕ). part_of k history) (sym are.0.number) ∙ each q (inl refl)
      ∙ are.0.own,
  parts history ss qs are.1 (λ r has. each r (inr has)),
)

-- what holds of each seat, told of its pass
of_each : (passes : List Holding) (seats : List Stepper) (P : Holding → Type 0) → AreSeatsOf passes seats
    → ((s : Holding) (q : Stepper) → WasSeatOf s q → Has seats q → P s) → AllByRecursion P passes
of_each [] [] P are each = tt
of_each [] (q ∷ qs) P are each = absurd are
of_each (s ∷ ss) [] P are each = absurd are
of_each (s ∷ ss) (q ∷ qs) P are each = (each s q are.0 (inl refl), of_each ss qs P are.1 (λ t r is has. each t r is (inr has)))

-- numbers that stand there no time if they are this great are all less
all_less : (most : ℕ) (ks : List ℕ) → ((k : ℕ) → most ≤ k → times k ks ≡ 0) → AllByRecursion (λ k. k < most) ks
all_less most [] none = tt
all_less most (k ∷ ks) none = (
  elim (cases_lt k most) [ inl lt ↦ lt | inr le ↦ absurd (let z = none k le in let e = ap one_if (eqb_same k) in omega (arith, z, e)) ],
  all_less most ks (λ j le. let z = none j le in omega (arith, z)),
)

balances : (key : Start) (w : Setting) (passes : List Holding) (seats : List Stepper) (records : List Record)
    (nodes : List Node) → key.seats ≡ w.passes → AreSeatsOf passes seats → table.IsClosed key seats records nodes
    → AreBalanced w passes
balances key w passes seats records nodes count are c = record {
  pending = c.pending;
  each = of_each passes seats (λ s. AllByRecursion (λ t. IsBalanced s t (c.pending t.caller)) passes) are (λ s q is has.
      of_each passes seats (λ t. IsBalanced s t (c.pending t.caller)) are
      (λ t r at there. rw (sym is.number, sym at.number, sym is.cancelled, sym at.heeded)
      (c.balanced q r has there)));
  callers = of_each passes seats (λ t. AllByRecursion (λ k. k < w.passes) (by_of t.interrupted)) are (λ t r at there.
      all_less w.passes (by_of t.interrupted) (λ k big. ap (times k) (sym at.heeded) ∙ c.strangers k r (omega (arith, big, count)) there));
}

pub closed : (key : Start) (w : Setting) (passes : List Holding) (seats : List Stepper) (h : History)
    → first_graph key ≡ w.first → key.seats ≡ w.passes → missing_of w.passes passes ≡ 0 → AreSeatsOf passes seats
    → table.IsClosed key seats h.records.items h.graph → IsClosed w passes h
closed key w passes seats h first count none are c = let history : List Recorded = history_of h.records.items in record {
  legal = subst (λ (g : List Node). IsLegal g history) first c.legal;
  fold = c.fold ∙ ap (λ (g : List Node). last_graph g history) first;
  count = as_many passes seats are ∙ c.few ∙ count;
  all_there = none;
  callers = all_from (λ r. r.caller < w.passes) history (λ k r e. omega (arith, c.callers k r e, count));
  parts = parts history passes seats are c.parts;
  balanced = balances key w passes seats h.records.items h.graph count are c;
}

pub seats_push : (passes : List Holding) (seats : List Stepper) (s : Holding) (q : Stepper) → AreSeatsOf passes seats
    → WasSeatOf s q → AreSeatsOf (passes ++ s ∷ []) (seats ++ q ∷ [])
seats_push [] [] s q are is = (is, tt)
seats_push [] (r ∷ rs) s q are is = absurd are
seats_push (t ∷ ts) [] s q are is = absurd are
seats_push (t ∷ ts) (r ∷ rs) s q are is = (are.0, seats_push ts rs s q are.1 is)
