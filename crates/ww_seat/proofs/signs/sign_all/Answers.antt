use Rattle.std.proofs.Common.{◌≡◌, ℕ, List, ◌++◌, refl, sym, ap, ◌∙◌, [], subst}
use Rattle.std.proofs.lemmas.List.{append_assoc}
use Rattle.ww_invariant.specs.declared.cells.Sight.{Sight}
use Rattle.ww_invariant.specs.Rule.{Sat}
use Rattle.ww_queue.proofs.AnyLists.{signs_all}
use Rattle.ww_seat.specs.Work.{AreOwed, HasToWake}
use Rattle.ww_seat.proofs.Working.{touched_read, marked_none, marked_then}
use Rattle.ww_seat.proofs.Signing.{left_of, noted_none, noted_then, still_owed, part_owed, walked_whole}
use Rattle.ww_seat.proofs.signs.sign_all.Goals as goal

pub loop-next-init : goal.loop-next-init
loop-next-init c = let v = c.args.seat.now.seat.me.0.part.core in (
  c.requires.at.seat,
  ([], noted_none c.args.seat.now.seat.me c.requires.at.orderly refl, signs_all v.kind c.args.seen v.list v.who c.requires.seen.once),
  refl,
  marked_none c.args.seat.now.seat.me.0.part.core _ c.requires.marks.woken,
  refl,
)

pub sign_some-requires-clause-at : goal.sign_some-requires-clause-at
sign_some-requires-clause-at c = let i = c.loop-next.invariant in let read = c.owed_signs-owed.ensures.read in record {
  seat = c.owed_signs-owed.ensures.seat;
  lock = c.requires.at.lock;
  orderly = (touched_read i.1.1.orderly read).orderly;
  inside = ap (λ (z : Sight). z.part.core.inside) (ap (λ (z : Sat). z.0) read.now ∙ i.1.1.view) ∙ c.requires.at.inside;
}

pub sign_some-requires-clause-owed : goal.sign_some-requires-clause-owed
sign_some-requires-clause-owed c = let m = c.args.seat.now.seat.me in let i = c.loop-next.invariant in let read = c.owed_signs-owed.ensures in
    subst (AreOwed c.owed_signs-owed.new.self.seat.me.0.part.core) (sym c.as_slice.ensures.value)
    (still_owed c.owed_signs-owed.new.self.seat.me c.owed_signs-owed.result.0.items i.1.1 (ap (λ (z : Sat). z.0) read.read.now)
    (part_owed i.1.0 c.owed_signs-owed.result.0.items (left_of m.0.part.core c.args.seen c.owed_signs-owed.result.1) c.requires.seen
    (walked_whole i.1.1 i.0 read c.in-Some.is i.1.2)))

pub loop-next-preserved : goal.loop-next-preserved
loop-next-preserved c = let m = c.args.seat.now.seat.me in let i = c.loop-next.invariant in let read = c.owed_signs-owed.ensures in
    let m1 = c.loop-next.seat.seat.me in let m2 = c.owed_signs-owed.new.self.seat.me in let m3 = c.sign_some.new.seat.seat.me in
    let same : m2.0 ≡ m1.0 = ap (λ (z : Sat). z.0) read.read.now in
    let slice = c.as_slice.result.now in let left = left_of m.0.part.core c.args.seen c.owed_signs-owed.result.1 in (
      c.sign_some.ensures.same.seat,
      (
        i.1.0 ++ slice,
        noted_then i.1.1 same c.sign_some.ensures.signed.0,
        append_assoc i.1.0 slice left ∙ ap (λ (l : List (ℕ × ℕ)). i.1.0 ++ (l ++ left)) c.as_slice.ensures.value
            ∙ walked_whole i.1.1 i.0 read c.in-Some.is i.1.2,
      ),
      c.sign_some.ensures.same.records ∙ read.records ∙ i.2,
      marked_then m1.0.part.core m3.0.part.core c.args.wake.now c.loop-next.wake c.sign_some.new.wake
          (λ u has. c.sign_some.ensures.signed.1.still.still u (subst (λ (z : Sight). HasToWake z.part.core u) (sym same) has))
          i.3 c.sign_some.ensures.signed.1.marked,
      c.sign_some.ensures.signed.1.long ∙ i.4,
    )
