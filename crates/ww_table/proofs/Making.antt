-- Making a table: its slots, and its seats one after another.
use Rattle.std.proofs.Common.{refl, ◌≡◌, ℕ, suc, ◌+◌, ◌-◌, ◌*◌, ◌<◌, ◌≤◌, ◌^◌, List, [], ◌∷◌, ◌++◌, length, sym, ap, ◌∙◌, subst, ⊎_elim, arith, None, replicate, length-append, zero, inl, inr}
use mathlib.Core.Option.{some}
use mathlib.Core.Option as maybe
use lib.ListN.{get_elem?, length-replicate}
use Rattle.atomic_table.specs.declared.shared.Seat.{Seat}
use Rattle.atomic_table.specs.Seated.{TableId}
use Rattle.atomic_table.specs.Table.{Splits, opening}
use Rattle.std.specs.List.{AllByRecursion}
use Rattle.ww_plain.specs.declared.node.Node.{Node}
use Rattle.ww_plain.specs.declared.history.Record.{Record}
use Rattle.ww_plain.specs.Graph.{node_at}
use Rattle.ww_invariant.specs.declared.cells.Cell.{Cell}
use Rattle.ww_invariant.specs.declared.cells.Cell.TheVariants.{Content}
use Rattle.ww_invariant.specs.declared.cells.Part.{Part}
use Rattle.ww_invariant.specs.declared.cells.Sight.{Sight}
use Rattle.ww_invariant.specs.declared.cells.Start.{Start}
use Rattle.ww_queue.specs.declared.kind.Kind.{Kind}
use Rattle.ww_invariant.specs.Layout.{IsSized, lock_at}
use Rattle.ww_table.specs.declared.seat.Stepper.{Stepper}
use Rattle.ww_invariant.specs.Rule.{Sat, first_graph, first_part, first_parts, first_sight, Ruled, IsSize, AreNodes}
use Rattle.ww_invariant.specs.Steps.{sight_of, first_seat, rest_of, without_first}
use Rattle.ww_table.specs.Seat.{IsNew}
use Rattle.ww_invariant.specs.Out.{numbers_of}
use Rattle.ww_invariant.specs.Homes.{AreSlots}
use Rattle.ww_table.specs.declared.make.Ticket.{Ticket}
use Rattle.ww_table.specs.Made.{AreNew, AreTickets, HasDoneNothing, IsTicket, less}
use Rattle.ww_table.specs.Closed.{HasCome, HaveAllCome}
use Rattle.ww_queue.specs.Queue.{Has}
use Rattle.ww_model.specs.State.{start}
use Rattle.ww_view.specs.View.{IsBare}
use Rattle.ww_invariant.proofs.Seats.{opens, opens_start, splits, at_end, bare_first}

pub new_seat : {table : TableId} {key : Start} {kind : Kind} {locks places : ℕ} (t : Ticket) (s : Stepper)
    → IsTicket table key t → kind ≡ key.kind → locks ≡ key.locks → places ≡ key.places
    → HasDoneNothing t.seat kind t.who locks places s → IsNew table key t.who s
new_seat {table} t s ticket same locks_are places_are is = let me = ap (λ (q : Seat Cell Sight). q.me) is.seat_is ∙ ticket.me in
    let there = ticket.there in record {
      seated = record {
        home = ap (λ (q : Seat Cell Sight). q.table_id) is.seat_is ∙ ticket.home;
        seated = ap (λ (m : Sat). m.0.seated) me;
        kind = is.kind_is ∙ same ∙ sym (ap (λ (m : Sat). m.0.part.core.kind) me);
        who = ap (λ (m : Sat). m.0.part.core.who) me ∙ sym is.who_is;
        few = subst (λ (x : ℕ × ℕ). x.0 < x.1) (λ i. (sym is.who_is i, sym (is.seats ∙ places_are) i)) there;
        room = ap (λ (m : Sat). m.0.part.core.room) me ∙ sym (is.room ∙ locks_are);
        seats = ap (λ (m : Sat). m.0.part.core.seats) me ∙ sym (is.seats ∙ places_are);
        size = subst IsSize (sym (is.seats ∙ places_are)) ticket.size;
        most = is.most;
        sign = is.sign;
        sized = subst (λ (x : ℕ × ℕ). IsSized x.0 x.1 table) (λ i. (sym (is.room ∙ locks_are) i, sym (is.seats ∙ places_are) i)) ticket.sized;
        stamp = ap (λ (m : Sat). m.0.part.core.stamp) me ∙ sym is.stamp;
        fits = inr (⊎_elim (λ size. omega (arith, is.who_is, there, size)) (λ size. omega (arith, is.who_is, there, size.1)) ticket.size, omega (arith, is.stamp));
        base = is.base;
        step = is.step;
        own = is.own;
        order = is.order ∙ sym (ap (λ (m : Sat). numbers_of m.1) me);
        records = is.records ∙ sym (ap (λ (m : Sat). m.0.part.own) me);
        alone = ap (λ (m : Sat). m.0.idle) me;
        places = subst (AllByRecursion (λ (p : ℕ × Record). p.0 < 2 ^ 44)) (sym is.records) tt;
        page = λ _. is.page;
      };
      number = is.who_is;
      me = me;
    }

elem_mid : {A : Type 0} (xs ys : List A) (y : A) → get_elem? (xs ++ y ∷ ys) (length xs) ≡ some y
elem_mid [] ys y = refl
elem_mid (x ∷ xs) ys y = elem_mid xs ys y

-- the next of the tickets has the number of those before it
pub next_is : {table : TableId} {key : Start} {count : ℕ} {tickets : List Ticket} (yielded rest more : List Ticket) (t : Ticket)
    → AreTickets table key count tickets → yielded ++ rest ≡ tickets → rest ≡ t ∷ more
    → IsTicket table key t × (t.who ≡ length yielded) × (yielded ++ t ∷ more ≡ tickets)
next_is yielded rest more t are whole step =
    let here = ap (λ (l : List Ticket). yielded ++ l) (sym step) ∙ whole in
    let is = are.each (length yielded) t
    (subst (λ (l : List Ticket). get_elem? l (length yielded) ≡ some t) here (elem_mid yielded more t)) in (is.0, is.1, here)

pub tickets_more : (table : TableId) (key : Start) (n : ℕ) (tickets : List Ticket) (t : Ticket)
    → AreTickets table key n tickets → IsTicket table key t → t.who ≡ n → AreTickets table key (n + 1) (tickets ++ t ∷ [])
tickets_more table key n tickets t are new number = record {
  many = let l = length-append tickets (t ∷ []) in let m = are.many in omega arith;
  each = λ k q there. ⊎_elim (λ was. are.each k q was)
      (λ now. subst (λ (x : ℕ × Ticket). IsTicket table key x.1 × (x.1.who ≡ x.0))
      (λ i. (sym (now.0 ∙ are.many) i, now.1 i)) (new, number))
      (at_end tickets t q k there);
}

pub news_more : (table : TableId) (key : Start) (n : ℕ) (seats : List Stepper) (s : Stepper)
    → AreNew table key n seats → IsNew table key n s → AreNew table key (n + 1) (seats ++ s ∷ [])
news_more table key n seats s are new = record {
  many = let l = length-append seats (s ∷ []) in let m = are.many in omega arith;
  new = λ k t there. ⊎_elim (λ was. are.new k t was)
      (λ now. subst (λ (x : ℕ × Stepper). IsNew table key x.0 x.1) (λ i. (sym (now.0 ∙ are.many) i, now.1 i)) new)
      (at_end seats s t k there);
}

-- the idle numbers of the first seat begin with the next
next_idle : (key : Start) (k : ℕ) → k < key.seats - 1 → (less key k).idle ≡ first_part key.kind key.locks key.places k ∷ (less key (k + 1)).idle
next_idle key k more = ap (first_parts key.kind key.locks key.places k) (let z : key.seats - 1 - k ≡ suc (key.seats - 1 - (k + 1)) = omega arith in z)

pub next_splits : (key : Start) (id k : ℕ) (v : Sight) → v ≡ less key k → k < key.seats - 1
    → Splits (Ruled key) id v (without_first v) (first_seat (length v.held) v.idle)
next_splits key id k v is more = splits key id v (first_part key.kind key.locks key.places k) (less key (k + 1)).idle
    (ap (λ (w : Sight). w.seated) is) (ap (λ (w : Sight). w.idle) is ∙ next_idle key k more)

pub next_left : (key : Start) (k : ℕ) (v : Sight) → v ≡ less key k → k < key.seats - 1 → without_first v ≡ less key (k + 1)
next_left key k v is more = ap without_first is
    ∙ ap (λ (l : List Part). let w : Sight = record (first_sight key) { idle = rest_of l } in w)
    (next_idle key k more)

pub next_cut : (key : Start) (k : ℕ) (v : Sight) → v ≡ less key k → k < key.seats - 1
    → first_seat (length v.held) v.idle ≡ sight_of (length (first_graph key)) (first_part key.kind key.locks key.places k)
next_cut key k v is more = ap (λ (w : Sight). first_seat (length w.held) w.idle) is
    ∙ ap (first_seat (length (less key k).held)) (next_idle key k more)
    ∙ ap (λ (n : ℕ). sight_of n (first_part key.kind key.locks key.places k)) (length-replicate {A = _} (length (first_graph key)) None)

-- with all numbers but the last cut off, the first seat is that of the last
pub last_left : (key : Start) (k : ℕ) → k ≡ key.seats - 1
    → less key k ≡ sight_of (length (first_graph key)) (first_part key.kind key.locks key.places k)
last_left key k is = (λ i. record (first_sight key) {
  part = first_part key.kind key.locks key.places (sym is i);
  idle = first_parts key.kind key.locks key.places k ((let z : key.seats - 1 - k ≡ 0 = omega arith in z) i);
})

pub opens_made : (key : Start) (graph : List Node) (slots : List Cell) → first_graph key ≡ graph → 1 ≤ key.seats
    → key.seats ≤ key.places → IsSize key.places → key.locks ≤ 16777216 → length graph ≤ key.locks → AreNodes graph
    → AreSlots graph (64 + key.locks) slots
    → Ruled key (opening (replicate (lock_at key.locks key.locks + 8 * key.places) 0) slots (first_sight key))
opens_made key graph slots same one few size many fits is are =
    opens key one few size many (let l = ap length same in omega arith) (subst AreNodes (sym same) is) slots
    are.many
    (λ n low. are.nodes n (let m = is.few in let l = ap length same in omega arith)
    (let l = ap length same in omega arith)
    ∙ ap (λ (g : List Node). maybe.some (Content (node_at g n))) (sym same))
    (λ n low. are.lists (64 + n) (omega arith) (let m = is.few in omega arith))

pub opens_made_start : (key : Start) (graph : List Node) (slots : List Cell) (same : first_graph key ≡ graph)
    (one : 1 ≤ key.seats) (few : key.seats ≤ key.places) (size : IsSize key.places) (many : key.locks ≤ 16777216) (fits : length graph ≤ key.locks)
    (is : AreNodes graph) (are : AreSlots graph (64 + key.locks) slots)
    → ((opens_made key graph slots same one few size many fits is are).core ≡ start key.kind key.locks key.places)
    × ((opens_made key graph slots same one few size many fits is are).log ≡ [])
unfolding opens_made
opens_made_start key graph slots same one few size many fits is are = opens_start key _ _ _ _ _ _ slots _ _ _

pub all_from : {A : Type 0} (P : A → Type 0) (xs : List A) → ((k : ℕ) (x : A) → get_elem? xs k ≡ some x → P x) → AllByRecursion P xs
all_from P [] each = tt
all_from P (x ∷ xs) each = (each 0 x refl, all_from P xs (λ k y e. each (suc k) y e))

there : {A : Type 0} (xs : List A) (k : ℕ) → k < length xs → (x : A) × Has xs x × (get_elem? xs k ≡ some x)
there [] k low = absurd (omega arith)
there (x ∷ xs) zero low = (x, inl refl, refl)
there (x ∷ xs) (suc k) low = let t = there xs k (omega arith) in (t.0, inr t.1, t.2)

-- seats that did nothing yet hold nothing
pub new_come : (table : TableId) (key : Start) (seats : List Stepper) → AreNew table key key.seats seats → HaveAllCome table key seats
new_come table key seats are = record {
  each = all_from (HasCome table) seats (λ k s e. let n = are.new k s e in record {
    seated = n.seated;
    bare = subst (λ (m : Sat). IsBare m.0.part.core) (sym n.me) (bare_first key.kind key.locks key.places k);
    nothing = ap (λ (m : Sat). m.1) n.me;
  });
  all = λ k low. let m = are.many in let t = there seats k (omega arith) in (t.0, t.1, (are.new k t.0 t.2).number);
}
