use Rattle.std.proofs.Common.{ℕ, ◌==◌, ◌+◌, arith, ap, sym, refl, ◌∙◌, subst, ◌∷◌, inr}
use Rattle.atomic_table.specs.Table.{rest}
use Rattle.ww_word.specs.AnySeats.{IsValid, packed}
use Rattle.ww_view.specs.Word.{given_word}
use Rattle.ww_invariant.specs.declared.cells.Cell.TheVariants.{Content, Line}
use Rattle.ww_invariant.specs.declared.cells.Sight.{Sight}
use Rattle.ww_invariant.specs.Rule.{Sat}
use Rattle.ww_invariant.specs.Out.{numbers_of, AreOthers}
use Rattle.ww_invariant.specs.Waiting.{IsStillThere, giving_inside}
use Rattle.ww_invariant.proofs.InsideSteps.{gives_lock}
use Rattle.ww_invariant.proofs.InsideTurning.{given_valid}
use Rattle.ww_invariant.proofs.Turning.{popped}
use Rattle.ww_table.specs.declared.seat.Stepper.{Stepper}
use Rattle.ww_table.proofs.OnTop.{node_out, node_brought}
use Rattle.ww_table.proofs.Seated.{on_lock, seated_as, by_view}
use Rattle.ww_table.proofs.seat.Stepper.give.Goals as goal

pub bring-requires-clause-out : goal.bring-requires-clause-out
bring-requires-clause-out c = let out = c.requires.may.out in
    (Content out.0, node_out _ _ c.args.lock out.0 c.next_owner-owner.ensures.read out.1)

pub pack-new-requires : goal.pack-new-requires
pack-new-requires c = subst IsValid (sym (c.next_owner-owner.ensures.owner ∙ ap (λ (f : ℕ). given_word (f == 3) c.args.self.now.seat.me.0.part.core.list) c.flags.ensures))
    (given_valid (c.args.seen.flags == 3) c.args.self.now.seat.me.0.part.core.seats c.args.self.now.seat.me.0.part.core.list c.requires.may.waiters)

pub compare_exchange-requires : goal.compare_exchange-requires
compare_exchange-requires c = let r = c.next_owner-owner.ensures in let b = c.bring.ensures in let may = c.requires.may in let out = may.out in
    let n = node_brought _ _ c.args.lock out.0 r.read out.1 b.slots in
    on_lock c.args.board.now c.args.lock (b.home.0 ∙ r.seat.home) (let fits = c.args.board.now.fits in let low = may.lock in omega arith)
    (λ i. ((b.view ∙ ap (λ (m : Sat). m.0) r.read.now) i, n.1 i)) c.owner_word.ensures c.pack-old.ensures
    (c.pack-new.ensures ∙ ap packed (r.owner ∙ ap (λ (f : ℕ). given_word (f == 3) c.args.self.now.seat.me.0.part.core.list) c.flags.ensures))
    (gives_lock _ _ _ _ c.requires.at.seated c.args.lock c.args.seen out.0 may.may out.2 may.valid refl)

pub returns : goal.returns
returns c = let r = c.next_owner-owner.ensures in let t = r.read in let b = c.bring.ensures in let may = c.requires.may in let out = may.out in
    let n = node_brought _ _ c.args.lock out.0 t out.1 b.slots in let view = b.view
    ∙ ap (λ (m : Sat). m.0) t.now in
    let told = c.compare_exchange.ensures.2 c.args.lock c.args.seen
    (c.owner_word.ensures ∙ by_view c.args.board.now _ c.requires.at c.args.lock _ view, may.valid, c.pack-old.ensures) in
    let hit = told.0 (told.2 (subst (λ (w : Sight). IsStillThere w.part.core c.args.lock c.args.seen) (sym view)
    (record { inside = may.may.inside; alone = inr may.may.owns; seen = may.seen }))) in
    let p = c.pop.ensures in let left = ap (λ (m : Sat). m.1) hit ∙ ap rest n.1 in
    let items = popped c.bring.new.order.items (numbers_of b.slots.1) c.pop.new.self.items
    c.args.lock c.pop.result (b.order ∙ ap numbers_of n.1) p.items p.variant.1 in record {
      seat = seated_as (giving_inside c.next_owner-owner.new.self.seat.me.0 c.args.lock (c.args.seen.flags == 3))
          r.seat (c.compare_exchange.ensures.0 ∙ b.home.0)
          (ap (λ (m : Sat). m.0) hit ∙ ap (λ (w : Sight). giving_inside w c.args.lock (c.args.seen.flags == 3)) b.view)
          refl refl (items ∙ ap numbers_of (sym left));
      records = ap (λ (s : Stepper). s.records) r.same;
      gave = (
        out.0,
        t.others,
        ap (λ (m : Sat). m.0) hit ∙ ap (λ (w : Sight). giving_inside w c.args.lock (c.args.seen.flags == 3)) view,
        t.apart,
        subst (AreOthers ((64 + c.args.lock, Line c.args.self.now.seat.me.0.part.core.list) ∷ t.others) c.args.lock
            (Content out.0)) (sym left) n.0,
      );
    }
