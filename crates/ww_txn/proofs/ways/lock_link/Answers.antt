use Rattle.std.proofs.Common.{◌≡◌, ◌∷◌, [], false, arith}
use Rattle.std.proofs.lemmas.Grind.{common_steps}
use Rattle.ww_plain.specs.Numbers.{is_among}
use Rattle.ww_plain.specs.Footprint.{with_target}
use Rattle.ww_txn.proofs.Covering.{way_weaker, way_differs, different_one, different_two}
use Rattle.ww_txn.proofs.ways.lock_link.Goals.{in_default-via-in-Some+else-target-node, in_default-via-in_default}
use Rattle.ww_txn.proofs.ways.lock_link.Goals as goal

pub returns-in-Some : goal.returns-in-Some
returns-in-Some g c =
    let new : is_among c.args.node (c.in-Some.target ∷ []) ≡ false = grind (arith, common_steps) in
    let other : is_among c.in-Some.target (c.args.node ∷ []) ≡ false = grind (arith, common_steps) in
    rw (c.in-Some.is, other) (way_weaker _ _ _ _ (λ a h. h.0.0)
    (way_differs _ _ _ _ _ (different_two c.args.node c.in-Some.target new) c.lock_list_as.ensures))

pub returns-in_default : goal.returns-in_default
returns-in_default g c =
    let same : with_target (c.args.node ∷ []) c.args.target ≡ c.args.node ∷ [] = elim c.in_default.branch [
      | in_default-via-in-Some+else-target-node w ↦ grind (arith, common_steps)
      | in_default-via-in_default w ↦ grind (arith, common_steps)
    ] in
    rw same (way_weaker _ _ _ _ (λ a h. h.0.0)
    (way_differs _ _ _ _ _ (different_one c.args.node) c.lock_list_as-in_default.ensures))
