use Rattle.std.proofs.Common.{arith, ap, sym, refl, ◌∙◌, subst}
use Rattle.atomic_table.specs.Table.{rest}
use Rattle.ww_invariant.specs.declared.cells.Cell.TheVariants.{Content}
use Rattle.ww_invariant.specs.declared.cells.Sight.{Sight}
use Rattle.ww_invariant.specs.Out.{numbers_of, AreOthers}
use Rattle.ww_invariant.specs.Steps.{giving, keeping}
use Rattle.ww_invariant.proofs.Moves.{gives_free}
use Rattle.ww_invariant.proofs.Turning.{popped}
use Rattle.ww_table.proofs.OnTop.{node_up}
use Rattle.ww_table.proofs.Seated.{on_lock, seated_as, own_taker, by_view, few_locks}
use Rattle.ww_table.proofs.seat.Stepper.give_free.Goals as goal

pub compare_exchange-found-requires : goal.compare_exchange-found-requires
compare_exchange-found-requires c = let s = c.requires.at in let may = c.requires.may in let out = may.out in let b = c.args.board.now in
    let up = node_up c.args.self.now.seat.me.1 c.bring.new.seat.me.1 c.args.lock out.0 out.1 c.bring.ensures.slots in
    on_lock b c.args.lock (c.bring.ensures.home.0 ∙ s.home) (let fits = b.fits in let low = may.lock in omega arith)
    (λ i. (c.bring.ensures.view i, up.2 i)) (c.spread_word.ensures b.locks (few_locks b c.args.lock may.lock)) (own_taker _ c.args.self.now s) refl
    (gives_free _ _ _ _ s.seated c.args.lock out.0 may.lock may.away may.owner out.2 refl)

pub returns-then-found-own : goal.returns-then-found-own
returns-then-found-own c = let s = c.requires.at in let out = c.requires.may.out in let b = c.bring.ensures in let e = c.compare_exchange-found.ensures in
    let up = node_up c.args.self.now.seat.me.1 c.bring.new.seat.me.1 c.args.lock out.0 out.1 b.slots in
    let word = c.spread_word.ensures c.args.board.now.locks (few_locks c.args.board.now c.args.lock c.requires.may.lock)
    ∙ by_view c.args.board.now _ s c.args.lock _ b.view in
    let kept = (e.2 c.args.lock word).1 c.if-found-own.true in record {
      seat = seated_as (keeping c.args.self.now.seat.me.0) s (e.0 ∙ b.home.0) (ap (λ m. m.0) kept ∙ ap keeping b.view) refl refl
          (b.order ∙ ap numbers_of (sym (ap (λ m. m.1) kept)));
      records = refl;
      gave = λ no. absurd cc;
      kept = λ _. (out.0, up.0, up.1, kept ∙ (λ i. (keeping (b.view i), up.2 i)));
    }

pub returns : goal.returns
returns c = let s = c.requires.at in let out = c.requires.may.out in let b = c.bring.ensures in let e = c.compare_exchange-found.ensures in
    let up = node_up c.args.self.now.seat.me.1 c.bring.new.seat.me.1 c.args.lock out.0 out.1 b.slots in
    let word = c.spread_word.ensures c.args.board.now.locks (few_locks c.args.board.now c.args.lock c.requires.may.lock)
    ∙ by_view c.args.board.now _ s c.args.lock _ b.view in
    let got = (e.2 c.args.lock word).0 c.if-found-own.false in let p = c.pop.ensures in
    let view = ap (λ m. m.0) got ∙ ap (λ (v : Sight). giving v c.args.lock) b.view in let left = ap (λ m. m.1) got ∙ ap rest up.2 in record {
      seat = seated_as (giving c.args.self.now.seat.me.0 c.args.lock) s (e.0 ∙ b.home.0) view refl refl
          (popped c.bring.new.order.items (numbers_of up.0) c.pop.new.self.items c.args.lock c.pop.result
          (b.order ∙ ap numbers_of up.2) p.items p.variant.1 ∙ ap numbers_of (sym left));
      records = refl;
      gave = λ _. (out.0, view, subst (AreOthers c.args.self.now.seat.me.1 c.args.lock (Content out.0)) (sym left) up.1);
      kept = λ no. absurd cc;
    }
