-- What a closed table was: all seats hold nothing, so all nodes are at home, and the records are the history.
use Rattle.std.proofs.Common.{◌≡◌, ◌≢◌, ℕ, zero, suc, ◌+◌, ◌<◌, ◌≤◌, true≢false, List, [], ◌∷◌, ◌++◌, length, take, sym, refl, ap, ◌∙◌, subst, ⊎_elim, arith, Option}
use mathlib.Core.Logic.{dite}
use mathlib.Core.Option.{some, some-injective}
use native.Mathlib.Decide.{dec_le}
use lib.ListN.{get_elem?}
use Rattle.atomic_table.specs.declared.shared.Seat.{Seat}
use Rattle.atomic_table.specs.Seated.{TableId}
use Rattle.ww_queue.specs.Queue.{Has}
use Rattle.ww_model.specs.declared.state.Holder.TheVariants.{Taken}
use Rattle.ww_model.specs.Interrupts.{one_of}
use Rattle.ww_plain.specs.declared.node.Node.{Node}
use Rattle.ww_plain.specs.declared.history.Record.{Record}
use Rattle.ww_plain.specs.Graph.{node_at}
use Rattle.ww_plain.specs.History.{history_of, IsLegal, last_graph, part_of}
use Rattle.ww_invariant.specs.declared.cells.Cell.{Cell}
use Rattle.ww_invariant.specs.declared.cells.Cell.TheVariants.{Content}
use Rattle.ww_invariant.specs.declared.cells.Part.{Part}
use Rattle.ww_invariant.specs.declared.cells.Sight.{Sight}
use Rattle.ww_invariant.specs.declared.cells.Start.{Start}
use Rattle.ww_table.specs.declared.seat.Stepper.{Stepper}
use Rattle.ww_invariant.specs.declared.cells.Counts.{Counts}
use Rattle.ww_invariant.specs.Rule.{St, first_graph, own_of, times, PartFits, Ruled}
use Rattle.ww_invariant.specs.Records.{somes}
use Rattle.ww_table.specs.Closed.{HasCome, HaveAllCome, IsClosed, IsGathered, parts_of}
use Rattle.ww_table.proofs.Closing.{has_all, laid_is}
use Rattle.ww_table.proofs.Numbers.{numbers_in, has_number, number_has, first_differs}
use Rattle.std.proofs.lemmas.Map.Steps.{le-length_from_below, length-le_from_distinct_below}
use Rattle.std.proofs.lemmas.List.{length-map}

has_at : {A : Type 0} (xs : List A) (x : A) → Has xs x → (k : ℕ) × (get_elem? xs k ≡ some x)
has_at [] x h = absurd h
has_at (y ∷ ys) x h = ⊎_elim (λ is. (0, ap some (sym is))) (λ more. let t = has_at ys x more in (suc t.0, t.1)) h

-- two lists with the same elements
list_same : (xs ys : List Node) → length xs ≡ length ys → ((n : ℕ) → n < length ys → get_elem? xs n ≡ some (node_at ys n)) → xs ≡ ys
list_same [] [] long same = refl
list_same [] (y ∷ ys) long same = absurd (omega arith)
list_same (x ∷ xs) [] long same = absurd (omega arith)
list_same (x ∷ xs) (y ∷ ys) long same =
    λ i. some-injective x y (same 0 (omega arith)) i ∷ list_same xs ys (omega arith)
    (λ n low. same (suc n) (omega arith)) i

module _ (key : Start) (s : St) (r : Ruled key s) (table : TableId) (id : ℕ) (token : Seat Cell Sight)
    (seats : List Stepper) (count : ℕ) (places : List (Option Record))
    (here : get_elem? s.views id ≡ some token.me.0)
    (come : HaveAllCome table key seats) (g : IsGathered table seats count token places) where
  fits : (p : Part) → Has (parts_of token.me.0) p → PartFits key r.core r.log r.at r.counts id p
  fits p h = let sits = r.seats id token.me.0 here g.seated in
      ⊎_elim (λ is. subst (PartFits key r.core r.log r.at r.counts id) (sym is) sits.part)
      (λ more. let t = has_at token.me.0.idle p more in (sits.idle t.0 p t.1).0) h

  came : (t : Stepper) → Has seats t → HasCome table t
  came t h = has_all (HasCome table) seats t come.each h

  -- nobody owns a lock
  pub nobody_owns : (n t : ℕ) → r.core.owner n ≢ Taken t
  nobody_owns n t own = dite (dec_le key.seats t)
      (λ big. (r.strangers t big).bare n own)
      (λ small. let w = come.all t (omega arith) in let c = came w.0 w.1 in let k = (fits w.0.seat.me.0.part (g.all w.0 w.1)).knows in
      true≢false (sym (k.owned.lacks n (own ∙ ap Taken (sym (c.seated.who ∙ w.2)))) ∙ c.bare n))

  -- the numbers of the seats are just those of the table, and no two are the same
  pub seats_few : length seats ≡ key.seats
  seats_few = let sits = r.seats id token.me.0 here g.seated in let parts = parts_of token.me.0 in let numbers = numbers_in parts in
      let most = length-le_from_distinct_below numbers key.seats (first_differs token.me.0.part token.me.0.idle sits.apart sits.differ)
      (λ q h. let t = number_has parts q h in let f = (fits t.0 t.1).number in let is = t.2 in omega arith) in
      let least = le-length_from_below numbers key.seats
      (λ q low. let w = come.all q low in
      has_number parts w.0.seat.me.0.part q (g.all w.0 w.1) ((came w.0 w.1).seated.who ∙ w.2)) in
      let long = length-map parts (λ (p : Part). p.core.who) in let many = g.many in omega arith

  pub records_are : history_of (somes places) ≡ r.log
  records_are = laid_is r.log (parts_of token.me.0) places g.laid (λ p h. (fits p h).own)
      (λ i x e. let w = come.all x.caller (r.counted.callers i x e) in (w.0.seat.me.0.part, g.all w.0 w.1, (came w.0 w.1).seated.who ∙ w.2))

  -- what was read of the nodes is the graph
  pub nodes_are : (slots : List Cell) (nodes : List Node)
      → ((k : ℕ) (y : Cell) → get_elem? s.homes k ≡ some (some y) → get_elem? slots k ≡ some y)
      → length nodes ≡ length (first_graph key)
      → ((n : ℕ) (x : Node) → n < length (first_graph key) → get_elem? slots n ≡ some (Content x)
      → get_elem? nodes n ≡ some x) → nodes ≡ last_graph (first_graph key) r.log
  nodes_are slots nodes final long same = let size = r.counted.size in
      list_same nodes (last_graph (first_graph key) r.log) (long ∙ sym r.counted.size)
      (λ n low. same n (node_at (last_graph (first_graph key) r.log) n) (omega arith)
      (final n (Content (node_at (last_graph (first_graph key) r.log) n))
      (r.homes.nodes n low (nobody_owns n))))

  pub content_there : (slots : List Cell)
      → ((k : ℕ) (y : Cell) → get_elem? s.homes k ≡ some (some y) → get_elem? slots k ≡ some y) → (n : ℕ)
      → n < length (first_graph key) → (x : Node) × (get_elem? slots n ≡ some (Content x))
  content_there slots final n low = let size = r.counted.size in
      let x = node_at (last_graph (first_graph key) r.log) n in
      (x, final n (Content x) (r.homes.nodes n (omega arith) (nobody_owns n)))

  counts_are : (s : Stepper) → Has seats s → s.seat.me.0.part.counts ≡ r.counts s.who
  counts_are s has = (fits s.seat.me.0.part (g.all s has)).counted ∙ ap r.counts (came s has).seated.who

  balanced : (s t : Stepper) → Has seats s → Has seats t
      → times t.who s.seat.me.0.part.counts.cancelled ≡ times s.who t.seat.me.0.part.counts.heeded
      + one_of s.who t.who (r.core.cancel t.who)
  balanced s t hs ht = ap (λ (k : Counts). times t.who k.cancelled) (counts_are s hs) ∙ r.counted.balanced s.who t.who
      ∙ ap (λ (k : Counts). times s.who k.heeded + one_of s.who t.who (r.core.cancel t.who)) (sym (counts_are t ht))

  -- a number that no seat has set no cancel, so none of its was heeded
  strangers : (k : ℕ) (t : Stepper) → key.seats ≤ k → Has seats t → times k t.seat.me.0.part.counts.heeded ≡ 0
  strangers k t big has = let b = r.counted.balanced k t.who in
      let none = ap (λ (c : Counts). times t.who c.cancelled) (r.counted.strangers k big) in
      let same = ap (λ (c : Counts). times k c.heeded) (counts_are t has) in omega arith

  pub closes : (records : List Record) (nodes : List Node) → records ≡ somes places
      → nodes ≡ last_graph (first_graph key) r.log → IsClosed key seats records nodes
  closes records nodes same are = let log : history_of records ≡ r.log = ap history_of same ∙ records_are in record {
    legal = subst (IsLegal (first_graph key)) (sym log) r.counted.legal;
    fold = are ∙ ap (last_graph (first_graph key)) (sym log);
    callers = λ k x e. r.counted.callers k x (ap (λ l. get_elem? l k) (sym log) ∙ e);
    parts = λ t h. let c = came t h in ap (part_of t.who) log ∙ ap (λ (w : ℕ). part_of w r.log) (sym c.seated.who)
        ∙ sym (fits t.seat.me.0.part (g.all t h)).own ∙ ap own_of (sym c.seated.records);
    few = seats_few;
    pending = r.core.cancel;
    balanced = balanced;
    strangers = strangers;
  }

-- a slice that was lent and came back whole
pub written : {A : Type 0} (size : ℕ) (new rest : List A) → length new ≡ size → take size (new ++ rest) ≡ new
written zero [] rest long = refl
written zero (x ∷ xs) rest long = absurd (omega arith)
written (suc size) [] rest long = absurd (omega arith)
written (suc size) (x ∷ xs) rest long = ap (λ l. x ∷ l) (written size xs rest (omega arith))
