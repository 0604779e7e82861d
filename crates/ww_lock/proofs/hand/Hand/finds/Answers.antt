use Rattle.std.proofs.Common.{◌<◌, length, sym, ap, ◌∙◌}
use Rattle.ww_plain.specs.Numbers.{is_among}
use Rattle.ww_plain.specs.Graph.{node_at}
use Rattle.ww_lock.specs.Carried.{Carried, held_of}
use Rattle.ww_lock.specs.Hands.{carried_of}
use Rattle.ww_lock.proofs.Changes.{node_read}
use Rattle.ww_lock.proofs.Helds.{all_among}
use Rattle.ww_lock.proofs.hand.Hand.finds.Goals as goal

pub node-requires : goal.node-requires
node-requires c = let h = c.self.inside in let n = c.args.change.now.number in
    all_among (λ k. k < length h.seen) (held_of (carried_of h)) n c.self.invariant.suits.held.there
    (ap (λ (v : Carried). is_among n (held_of v)) c.self.view_is ∙ sym c.holds.ensures ∙ c.if-holds.true)

pub returns-then-holds : goal.returns-then-holds
returns-then-holds c = let n = c.args.change.now.number in
    let read = ap (λ (v : Carried). node_at v.seen n) (sym c.self.view_is)
    ∙ node_read c.self.inside.seen n c.node.result c.node.ensures in
    (λ same. (sym c.holds.ensures ∙ c.if-holds.true, read ∙ c.is_same.ensures.0 same), λ finds. c.is_same.ensures.1 (sym read ∙ finds.1))
