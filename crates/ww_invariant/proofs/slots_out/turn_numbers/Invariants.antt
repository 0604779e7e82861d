use Rattle.std.proofs.Common.{◌≡◌, ◌∷◌, ◌-◌, length, get_or}
use Rattle.ww_invariant.proofs.Turning.{shifted}
use Rattle.ww_invariant.proofs.slots_out.turn_numbers.Given as goal

abbrev pub invariant-loop-at : goal.invariant-loop-at
invariant-loop-at l = let was = l.initial.order.items in let last = get_or was (length was - 1) 0 in
    (l.order.items ≡ shifted was last l.at) × (l.carried ≡ get_or (last ∷ was) l.at 0) × (length l.order.items ≡ l.at-end)
