-- A commit: the record joins the history, and the nodes held are what it makes of them.
use Rattle.std.proofs.Common.{◌≡◌, ◌≢◌, ℕ, zero, suc, ◌+◌, ◌<◌, ◌%◌, ◌^◌, true, List, [], ◌∷◌, ◌++◌, length, get_or, refl, sym, ap, ◌∙◌, subst, ⊎_elim, arith, Option, Some, None, length-append, Bool, false, eqb}
use Rattle.std.proofs.lemmas.List.{get_or_past}
use Rattle.std.specs.Bool.{if◌then◌else◌}
use Rattle.std.specs.List.{AllByRecursion}
use mathlib.Core.Logic.{dite}
use mathlib.Core.Option.{none, some, some-injective}
use native.Mathlib.Decide.{ℕ_discrete, dec_le}
use lib.ListN.{get_elem?, length-map}
use Rattle.atomic_table.specs.Table.{step, keeps, stepped, Allows}
use Rattle.ww_invariant.specs.declared.cells.Cell.TheVariants.{Content}
use Rattle.atomic_table.proofs.Lists.{at_snoc}
use Rattle.ww_model.specs.declared.event.Event.TheVariants.{Commit}
use Rattle.ww_plain.specs.declared.node.Node.{Node}
use Rattle.ww_plain.specs.declared.history.Record.{Record}
use Rattle.ww_plain.specs.Numbers.{is_among}
use Rattle.ww_plain.specs.Graph.{no_node, node_at}
use Rattle.ww_plain.specs.Footprint.{footprint_of}
use Rattle.ww_plain.specs.Transaction.{Fits, transaction_of}
use Rattle.ww_plain.specs.Meaning.{graph_after}
use Rattle.ww_plain.specs.Laws.{IsSameInside}
use Rattle.ww_plain.specs.History.{Recorded, recorded_of, IsNext, last_graph, part_from, part_of}
use Rattle.ww_plain.proofs.Members.{true_or_false}
use Rattle.ww_plain.proofs.Frames.{outside, inside}
use Rattle.ww_plain.proofs.Histories.{grows}
use Rattle.ww_invariant.proofs.NodesAfter.{keeps_nodes}
use Rattle.ww_view.specs.View.{owns}
use Rattle.ww_view.proofs.Shows.{shows_commit}
use Rattle.ww_view.proofs.Mine.{mine_commit}
use Rattle.ww_invariant.specs.declared.cells.Start.{Start}
use Rattle.ww_invariant.specs.Rule.{AreNodes, St, Sat, first_graph, own_of, Counted, Sits, Ruled, MakesWith}
use Rattle.ww_invariant.specs.Steps.{known, graph_of, renewed, MayPlace, placing, places_to}
use Rattle.ww_invariant.proofs.Totals.{total_below, parts_whole}
use Rattle.ww_invariant.proofs.Regions.{front_set}
use Rattle.ww_invariant.proofs.Moves.{law, mine, makes_all}

-- ---- lists of nodes held

pub graph_at : (held : List (Option Node)) (n : ℕ) (x : Node) → get_elem? held n ≡ some (Some x) → node_at (graph_of held) n ≡ x
graph_at [] n x e = absurd cc
graph_at (o ∷ os) zero x e = ap known (some-injective o (Some x) e)
graph_at (o ∷ os) (suc n) x e = graph_at os n x e

pub renewed_long : (i : ℕ) (held : List (Option Node)) (graph : List Node) → length (renewed i held graph) ≡ length held
renewed_long i [] graph = refl
renewed_long i (None ∷ os) graph = ap suc (renewed_long (i + 1) os graph)
renewed_long i (Some y ∷ os) graph = ap suc (renewed_long (i + 1) os graph)

pub renewed_at : (i : ℕ) (held : List (Option Node)) (graph : List Node) (n : ℕ) (x : Node)
    → get_elem? held n ≡ some (Some x) → get_elem? (renewed i held graph) n ≡ some (Some (node_at graph (i + n)))
renewed_at i [] graph n x e = absurd cc
renewed_at i (None ∷ os) graph zero x e = absurd (let z = some-injective None (Some x) e in cc)
renewed_at i (Some y ∷ os) graph zero x e = ap (λ (k : ℕ). some (Some (node_at graph k))) (let z : i ≡ i + 0 = omega arith in z)
renewed_at i (None ∷ os) graph (suc n) x e = renewed_at (i + 1) os graph n x e
    ∙ ap (λ (k : ℕ). some (Some (node_at graph k))) (let z : i + 1 + n ≡ i + suc n = omega arith in z)
renewed_at i (Some y ∷ os) graph (suc n) x e = renewed_at (i + 1) os graph n x e
    ∙ ap (λ (k : ℕ). some (Some (node_at graph k))) (let z : i + 1 + n ≡ i + suc n = omega arith in z)

own_more : (own : List (ℕ × Record)) (place : ℕ) (x : Record) → own_of (own ++ (place, x) ∷ []) ≡ own_of own ++ (place, recorded_of x) ∷ []
own_more [] place x = refl
own_more (y ∷ ys) place x = ap (λ l. (y.0, recorded_of y.1) ∷ l) (own_more ys place x)

-- the places of a part are those of the history
part_below : (place caller : ℕ) (log : List Recorded)
    → AllByRecursion (λ (p : ℕ × Recorded). p.0 < place + length log) (part_from place caller log)
part_below place caller [] = tt
part_below place caller (x ∷ log) = go (eqb x.caller caller)
    (subst (λ (k : ℕ). AllByRecursion (λ (p : ℕ × Recorded). p.0 < k) (part_from (place + 1) caller log))
    (let z : place + 1 + length log ≡ place + suc (length log) = omega arith in z)
    (part_below (place + 1) caller log))
  where
    go : (own : Bool) → AllByRecursion (λ (p : ℕ × Recorded). p.0 < place + suc (length log)) (part_from (place + 1) caller log)
        → AllByRecursion (λ (p : ℕ × Recorded). p.0 < place + suc (length log))
        (if own then (place, x) ∷ part_from (place + 1) caller log else part_from (place + 1) caller log)
    go true more = ((omega arith), more)
    go false more = more

own_below : (n : ℕ) (own : List (ℕ × Record)) (part : List (ℕ × Recorded)) → own_of own ≡ part
    → AllByRecursion (λ (p : ℕ × Recorded). p.0 < n) part → AllByRecursion (λ (p : ℕ × Record). p.0 < n) own
own_below n own part is below = go own (subst (AllByRecursion (λ (p : ℕ × Recorded). p.0 < n)) (sym is) below)
  where
    go : (xs : List (ℕ × Record)) → AllByRecursion (λ (p : ℕ × Recorded). p.0 < n) (own_of xs)
        → AllByRecursion (λ (p : ℕ × Record). p.0 < n) xs
    go [] h = tt
    go (x ∷ xs) h = (h.0, go xs h.1)

module _ (key : Start) (s : St) (r : Ruled key s) (id : ℕ) (me : Sat) (here : get_elem? s.views id ≡ some me.0)
    (seated : me.0.seated ≡ true) (x : Record) (may : MayPlace me.0 (recorded_of x)) where
  abbrev graph : List Node
  graph = last_graph (first_graph key) r.log

  abbrev seen : List Node
  seen = graph_of me.0.held

  abbrev new : List Recorded
  new = r.log ++ recorded_of x ∷ []

  sits : Sits key r.core r.log r.at r.counts id me.0
  sits = mine key s r id me here seated

  sizes : length seen ≡ length graph
  sizes = length-map me.0.held known ∙ sits.room ∙ sym r.counted.size

  sees : (n : ℕ) → owns me.0.part.core n ≡ true → node_at seen n ≡ node_at graph n
  sees n own = dite (dec_le (length (first_graph key)) n)
      (λ beyond. get_or_past seen n no_node (let a = sizes in let b = r.counted.size in omega arith)
      ∙ sym (get_or_past graph n no_node (let b = r.counted.size in omega arith)))
      (λ below. graph_at me.0.held n (node_at graph n) (sits.held n own (omega arith)))

  alike : IsSameInside seen graph (transaction_of x.txn)
  alike = inside seen graph (transaction_of x.txn) may.next.fits sizes (λ n among. sees n (may.covers n among))

  next : IsNext graph (recorded_of x)
  next = record {
    fits = subst (λ (k : ℕ). Fits k (transaction_of x.txn)) sizes may.next.fits;
    no_double = may.next.no_double;
    answered = alike.answer ∙ may.next.answered;
  }

  leads : last_graph (first_graph key) new ≡ graph_after graph (transaction_of x.txn)
  leads = (grows (first_graph key) r.log (recorded_of x)).ends

  -- a node that the seat doesn't own stays
  stays : (n : ℕ) → owns me.0.part.core n ≢ true → node_at (last_graph (first_graph key) new) n ≡ node_at graph n
  stays n not = ap (λ (g : List Node). node_at g n) leads
      ∙ outside graph (transaction_of x.txn) n
      (ap (is_among n) alike.footprint ∙ ⊎_elim (λ yes. absurd (not (may.covers n yes))) (λ no. no)
      (true_or_false (is_among n (footprint_of seen (transaction_of x.txn)))))

  -- a node that it owns becomes what the nodes held give
  becomes : (n : ℕ) → owns me.0.part.core n ≡ true
      → node_at (graph_after seen (transaction_of x.txn)) n ≡ node_at (last_graph (first_graph key) new) n
  becomes n own = ⊎_elim (λ yes. alike.agree n yes)
      (λ no. outside seen (transaction_of x.txn) n no ∙ sees n own
      ∙ sym (outside graph (transaction_of x.txn) n (ap (is_among n) alike.footprint ∙ no)))
      (true_or_false (is_among n (footprint_of seen (transaction_of x.txn)))) ∙ ap (λ (g : List Node). node_at g n) (sym leads)

  many : length r.log < 2 ^ 44
  many = let whole = parts_whole key.places 0 r.log
      (λ k y e. let a = r.counted.callers k y e in let b = r.seats_there in omega arith) in
      let most = total_below key.places (2 ^ 32) (λ t. length (part_of t r.log)) r.counted.brief in ⊎_elim (λ is. omega arith) (λ is. let c = is.1 in omega arith) r.sizes

  counted : Counted key r.all (r.core.commits + 1) r.core.cancel new r.counts
  counted = let g = grows (first_graph key) r.log (recorded_of x) in let more = length-append r.log (recorded_of x ∷ []) in record {
    legal = g.legal.1 (r.counted.legal, next);
    graph = subst AreNodes (sym leads) (keeps_nodes graph (transaction_of x.txn) r.counted.graph next.fits).0;
    size = ap length leads ∙ (keeps_nodes graph (transaction_of x.txn) r.counted.graph next.fits).1 ∙ r.counted.size;
    front = let f = r.counted.front in omega arith;
    stamps = r.counted.stamps;
    balanced = r.counted.balanced;
    strangers = r.counted.strangers;
    few = r.counted.few;
    brief = λ t. dite (ℕ_discrete t x.caller)
        (λ e. let own = ap length sits.part.own in let by = may.caller in let f = may.fewer in
        let long : length (own_of me.0.part.own) ≡ length me.0.part.own =
        length-map me.0.part.own (λ (p : ℕ × Record). (p.0, recorded_of p.1)) in
        let part : length (part_of me.0.part.core.who r.log) ≡ length me.0.part.own = omega arith in
        let l : length (part_of t new) ≡ length (part_of me.0.part.core.who r.log) + 1 =
        ap (λ (k : ℕ). length (part_of k new)) e ∙ ap length g.own_part
        ∙ length-append (part_of x.caller r.log) ((length r.log, recorded_of x) ∷ [])
        ∙ ap (λ (k : ℕ). length (part_of k r.log) + 1) by in omega arith)
        (λ ne. subst (λ (l : List (ℕ × Recorded)). length l < 2 ^ 32) (sym (g.other_parts t ne)) (r.counted.brief t));
    callers = λ k y e. ⊎_elim (λ was. r.counted.callers k y was)
        (λ is. subst (λ (z : Recorded). z.caller < key.seats) is
        (subst (λ (t : ℕ). t < key.seats) (sym may.caller) sits.part.number)) (at_snoc r.log (recorded_of x) y k e);
  }

  pub place_makes : MakesWith key s r (Commit me.0.part.core.who) new
      (stepped s 8 (get_or s.words 8 0 + 1) id me.1 (placing me.0 (get_or s.words 8 0) x) keeps)
  place_makes = let c = r.core in let v = me.0.part.core in let k = sits.part.knows in let same = r.words.front in
      let was = r.counted.front in let few = many in let lawful = law key s r id me here seated in
      let can = shows_commit c v lawful k may.owner.0 may.away may.owner.1 (omega arith) in
      let g = grows (first_graph key) r.log (recorded_of x) in
      makes_all key s r id me here seated (Commit v.who) 8 (get_or s.words 8 0 + 1)
      (record (me.0.part) { own = me.0.part.own ++ (get_or s.words 8 0, x) ∷ [] })
      (renewed 0 me.0.held (graph_after seen (transaction_of x.txn))) keeps new r.counts r.all refl refl can
      (mine_commit c v lawful k can) sits.part.counted
      (own_more me.0.part.own (get_or s.words 8 0) x
      ∙ (λ i. sits.part.own i ++ ((same ∙ was) i, recorded_of x) ∷ [])
      ∙ sym (ap (λ (t : ℕ). part_of t new) (sym may.caller) ∙ g.own_part
      ∙ ap (λ (t : ℕ). part_of t r.log ++ (length r.log, recorded_of x) ∷ []) may.caller))
      (record {
        counts_stay = λ t _. refl;
        parts_stay = λ t ne. g.other_parts t (λ z. ne (z ∙ may.caller));
        nodes_stay = λ t n ne own. stays n (λ mine. ne (let z = sym own ∙ k.owned.has n mine in cc));
      })
      (renewed_long 0 me.0.held _ ∙ sits.room)
      (λ n own small. renewed_at 0 me.0.held (graph_after seen (transaction_of x.txn)) n (node_at graph n)
      (sits.held n own small) ∙ ap (λ (j : ℕ). some
      (Some (node_at (graph_after seen (transaction_of x.txn)) j))) (let z : 0 + n ≡ n = omega arith in z)
      ∙ ap (λ (y : Node). some (Some y)) (becomes n own))
      r.drawn
      counted
      (front_set c (Commit v.who) can.base lawful.base key.locks key.places r.all s.words r.words (get_or s.words 8 0 + 1)
      (λ m. tt) refl refl refl refl (ap (λ (y : ℕ). y + 1) (sym same)))
      (record {
        deep = r.homes.deep;
        nodes = λ n low clear. r.homes.nodes n (let a = counted.size in let b = r.counted.size in omega arith) clear
            ∙ ap (λ (y : Node). some (some (Content y))) (sym (stays n (λ own. clear v.who (k.owned.has n own))));
        lists = r.homes.lists;
      })

pub places : (key : Start) (slots id : ℕ) (me : Sat) (about : Option Record) (x : Record) → me.0.seated ≡ true
    → about ≡ Some x → MayPlace me.0 (recorded_of x)
    → Allows (Ruled key) slots id me 8 (λ z. (z + 1) % 2 ^ 64) (places_to about (step slots 8 1 0 none) me)
places key slots id me about x seated is may = λ s r deep at small. let n : ℕ = get_or s.words 8 0 in
    let same = r.words.front in let was = r.counted.front in let few = many key s r id me at seated x may in
    let up : (n + 1) % 2 ^ 64 ≡ n + 1 = omega arith in (
      placing me.0 n x,
      keeps,
      tt,
      subst (λ (y : ℕ). Ruled key (stepped s 8 y id me.1 (placing me.0 n x) keeps)) (sym up)
          (place_makes key s r id me at seated x may).ruled,
      (λ y is'. let e : x ≡ y = (let z : Some x ≡ Some y = sym is ∙ is' in cc) in (
        ap (λ (w : Record). let m : Sat = (placing me.0 n w, me.1) in m) e,
        own_below n me.0.part.own (part_of me.0.part.core.who r.log) (r.seats id me.0 at seated).part.own
            (subst (λ (k : ℕ). AllByRecursion (λ (p : ℕ × Recorded). p.0 < k) (part_of me.0.part.core.who r.log))
            (let z : 0 + length r.log ≡ n = omega arith in z) (part_below 0 me.0.part.core.who r.log)),
        omega arith,
      )),
    )
