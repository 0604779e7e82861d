use Rattle.std.proofs.Common.{arith, ℕ, List, [], ◌∷◌, ◌++◌, length, ap, sym, refl, ◌∙◌}
use Rattle.ww_view.specs.Made.{fast_missed}
use Rattle.ww_invariant.specs.Out.{numbers_of}
use Rattle.ww_invariant.specs.Steps.{knowing, taking}
use Rattle.ww_invariant.proofs.Moves.{takes_free}
use Rattle.ww_invariant.proofs.Turning.{numbers_long}
use Rattle.ww_table.proofs.Seated.{on_lock, seated_as, stepped, own_taker, by_view, few_locks}
use Rattle.ww_table.proofs.seat.Stepper.take_free.Goals as goal

pub compare_exchange-found-requires : goal.compare_exchange-found-requires
compare_exchange-found-requires c = let s = c.requires.at in let may = c.requires.may in let b = c.args.board.now in
    on_lock b c.args.lock s.home (let fits = b.fits in let low = may.lock in omega arith) refl
    (c.spread_word.ensures b.locks (few_locks b c.args.lock may.lock)) refl (own_taker _ c.args.self.now s)
    (takes_free _ _ _ _ s.seated c.args.lock may.lock may.may)

pub push-requires : goal.push-requires
push-requires c = let long = numbers_long c.args.self.now.seat.me.1 in
    let same = ap length c.requires.at.order in let room = c.requires.may.room in (omega arith, omega arith)

pub returns-then-found-ne0 : goal.returns-then-found-ne0
returns-then-found-ne0 c = let s = c.requires.at in let e = c.compare_exchange-found.ensures in let b = c.args.board.now in
    let word = c.spread_word.ensures b.locks (few_locks b c.args.lock c.requires.may.lock) ∙ by_view b _ s c.args.lock _ refl in
    let lost = (e.2 c.args.lock word).1 c.if-found-ne0.true in let v = c.args.self.now.seat.me.0 in record {
      seat = stepped (knowing v (fast_missed v.part.core)) s e.0 lost refl;
      records = refl;
      took = λ no. absurd cc;
      lost = λ _. lost;
    }

pub returns : goal.returns
returns c = let s = c.requires.at in let e = c.compare_exchange-found.ensures in let b = c.args.board.now in
    let word = c.spread_word.ensures b.locks (few_locks b c.args.lock c.requires.may.lock) ∙ by_view b _ s c.args.lock _ refl in
    let got = (e.2 c.args.lock word).0 c.if-found-ne0.false in record {
      seat = seated_as (taking c.args.self.now.seat.me.0 c.args.lock got.0) s e.0 (ap (λ m. m.0) got.2) refl refl
          (c.push.ensures.items ∙ ap (λ (l : List ℕ). l ++ c.args.lock ∷ []) s.order ∙ ap numbers_of (sym (ap (λ m. m.1) got.2)));
      records = refl;
      took = λ _. got;
      lost = λ no. absurd cc;
    }
