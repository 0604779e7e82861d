use Rattle.std.proofs.Common.{◌≡◌, ℕ, suc, ◌<◌, ◌-◌, true, List, ◌∷◌, get_or, drop, length, Some, sym, ap, subst, ◌∙◌, arith}
use Rattle.std.proofs.lemmas.List.{length-map}
use Rattle.std.specs.List.{AllByRecursion}
use Rattle.ww_plain.specs.declared.node.Node.{Node}
use Rattle.ww_plain.specs.Graph.{no_node}
use Rattle.ww_plain.proofs.GraphFacts.{all_item}
use Rattle.ww_view.specs.View.{owns}
use Rattle.ww_invariant.specs.declared.cells.Cell.{Cell}
use Rattle.ww_invariant.specs.declared.cells.Cell.TheVariants.{Content}
use Rattle.ww_invariant.specs.declared.cells.Sight.{Sight}
use Rattle.ww_invariant.specs.Rule.{Sat}
use Rattle.ww_invariant.specs.Out.{slot_of, AreOthers}
use Rattle.ww_seat.specs.declared.committing.NodeChange.{NodeChange}
use Rattle.ww_table.specs.Seat.{size_of}
use Rattle.ww_seat.specs.Commits.{change_at, IsChanged}
use Rattle.ww_seat.proofs.Changes.{out_there, changed_next}
use Rattle.ww_seat.proofs.committing.change.Goals as goal

abbrev none : NodeChange
none = record { number = 0; before = no_node; after = no_node }

-- the next node of the list is the seat's
own_next : (size : ℕ) (v w : Sight) (changes : List NodeChange) (i : ℕ) → i < length changes → v ≡ w
    → AllByRecursion (λ c. (c.number < size) × (owns w.part.core c.number ≡ true)) changes
    → ((get_or changes i none).number < size) × (owns v.part.core (get_or changes i none).number ≡ true)
own_next size v w changes i lt same owned = let t =
    all_item (λ (c : NodeChange). (c.number < size) × (owns w.part.core c.number ≡ true)) changes i none lt owned in
    (t.0, ap (λ (u : Sight). owns u.part.core (get_or changes i none).number) same ∙ t.1)

pub swap_node-requires-clause-out : goal.swap_node-requires-clause-out
swap_node-requires-clause-out c =
    let g = c.requires.may.changes_are in
    let is = c.loop-at.invariant.changed c.requires.may.out.0 g.0 g.1 g.2 g.3 c.requires.may.out.1 in
    let mine = own_next (size_of c.args.board.now) c.loop-at.seat.seat.me.0 c.args.seat.now.seat.me.0
    c.args.changes.now (c.loop-at.at - 1) (omega arith) c.loop-at.invariant.view c.requires.may.owned in
    subst (λ (n : ℕ). (x : Node) × (slot_of c.loop-at.seat.seat.me.1 n ≡ Some (Content x))) (sym c.from.ensures)
    (out_there (get_or c.args.changes.now (c.loop-at.at - 1) none).number is mine.0 mine.1)

pub loop-at-preserved : goal.loop-at-preserved
loop-at-preserved c =
    let i : ℕ = c.loop-at.at - 1 in
    let was : Sat = c.loop-at.seat.seat.me in
    let new : Sat = c.swap_node.new.self.seat.me in
    let t = subst (λ (n : ℕ). (others : List (ℕ × Cell)) × AreOthers was.1 n (Content c.swap_node.result) others
    × (new ≡ (was.0, (n, Content (get_or c.args.changes.now i none).after) ∷ others))) c.from.ensures
    c.swap_node.ensures.swapped in
    let up : c.loop-at.at ≡ suc i = omega arith in
    let mine = own_next (size_of c.args.board.now) c.loop-at.seat.seat.me.0 c.args.seat.now.seat.me.0
    c.args.changes.now i (omega arith) c.loop-at.invariant.view c.requires.may.owned in
    record {
      seated = c.swap_node.ensures.seat;
      view = ap (λ (z : Sat). z.0) t.2 ∙ c.loop-at.invariant.view;
      records = c.swap_node.ensures.records ∙ c.loop-at.invariant.records;
      changed = λ held before after ns are was.
          let many : length c.args.changes.now ≡ length ns = ap length are ∙ length-map ns (change_at before after) in
          changed_next before ns i none are (omega arith)
          (subst (λ (k : ℕ). IsChanged (size_of c.args.board.now) held after (drop k ns) c.loop-at.seat.seat.me) up
          (c.loop-at.invariant.changed held before after ns are was))
          mine.0 mine.1
          t;
    }

pub returns-clause-changed : goal.returns-clause-changed
returns-clause-changed c = let all : c.loop-at.at ≡ 0 = omega arith in record {
  view = c.loop-at.invariant.view;
  changed = λ held before after ns are was.
      subst (λ (k : ℕ). IsChanged (size_of c.args.board.now) held after (drop k ns) c.loop-at.seat.seat.me) all
      (c.loop-at.invariant.changed held before after ns are was);
}
