use Rattle.std.proofs.Common.{◌<◌, length, IsTrue, sym, subst}
use Rattle.ww_plain.specs.Numbers.{is_among}
use Rattle.ww_plain.specs.Footprint.{footprint_of}
use Rattle.ww_plain.specs.Transaction.{transaction_of}
use Rattle.ww_table.proofs.Closing.{all_more}
use Rattle.ww_lock.specs.Carried.{held_of}
use Rattle.ww_lock.specs.Hands.{carried_of}
use Rattle.ww_lock.specs.Moves.{MayPrepare}
use Rattle.ww_lock.proofs.Helds.{all_among}
use Rattle.ww_lock.proofs.hand.Hand.change.Goals as goal

pub changes-requires-clause-there : goal.changes-requires-clause-there
changes-requires-clause-there c = let h = c.self.inside in let held = held_of (carried_of h) in
    let may = subst (MayPrepare (transaction_of c.args.txn.now)) (sym c.self.view_is) c.requires.may in
    all_more (λ n. IsTrue (is_among n held)) (λ n. n < length h.seen)
    (λ n among. all_among (λ m. m < length h.seen) held n c.self.invariant.suits.held.there among)
    (footprint_of h.seen (transaction_of c.args.txn.now)) may.covers
