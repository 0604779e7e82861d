use Rattle.std.proofs.Common.{arith, ◌≡◌, [], ◌∷◌, false, length, length-append, sym, ap, ◌∙◌, subst}
use Rattle.std.specs.Prelude.{slice_set}
use mathlib.Core.Option.{some, some-injective}
use lib.ListN.{get_elem?}
use Rattle.std.specs.Slots.{slots_items, slots_filled}
use Rattle.ww_invariant.specs.declared.cells.Cell.TheVariants.{Content, Line}
use Rattle.ww_invariant.specs.Homes.{AreTakenBelow}
use Rattle.ww_invariant.proofs.Slots.{take_on, node_more}
use Rattle.ww_invariant.proofs.homes.nodes_of.Goals as goal

pub unreachable-requires : goal.unreachable-requires
unreachable-requires c = let i = c.loop-n.invariant in let x = c.requires.nodes c.loop-n.n c.loop-n-test.true in
    let e = sym c.take.ensures.value ∙ ap (get_elem? (slots_items c.loop-n.closed.slots)) c.from.ensures
    ∙ ap (λ l. get_elem? l c.loop-n.n) i.2 ∙ x.1 in
    let z : Line c.in-Line.field-0 ≡ Content x.0 = sym c.in-Line.is ∙ some-injective _ _ e in cc

pub loop-n-preserved : goal.loop-n-preserved
loop-n-preserved c = let i = c.loop-n.invariant in let t = c.take.ensures in let p = c.push_reserved.ensures in
    let here : get_elem? (slots_items c.args.closed.slots) c.loop-n.n ≡ some (Content c.in-Content.node) =
    ap (λ l. get_elem? l c.loop-n.n) (sym i.2)
    ∙ ap (get_elem? (slots_items c.loop-n.closed.slots)) (sym c.from.ensures) ∙ t.value
    ∙ ap some c.in-Content.is in (
      subst (AreTakenBelow _ c.args.count)
          (sym (t.others.1 ∙ ap (λ k. slice_set (slots_filled c.loop-n.closed.slots) k false) c.from.ensures))
          (take_on c.loop-n.n c.args.count (slots_filled c.loop-n.closed.slots) i.0),
      t.others.2 ∙ i.1,
      t.others.0 ∙ i.2,
      (let l = ap length p.items in let m = length-append c.loop-n.nodes.items (c.in-Content.node ∷ []) in let k = i.3 in omega arith),
      (let l = p.len in let m = i.4 in omega arith),
      (let l = p.capacity in let m = i.5 in omega arith),
      λ k x low e. ap (λ l. get_elem? l k) p.items
          ∙ node_more c.loop-n.nodes.items (slots_items c.args.closed.slots) c.loop-n.n c.in-Content.node i.3 here
          i.6 k x low e,
    )
