use Rattle.std.proofs.Common.{arith, ℕ, List, [], ◌∷◌, ◌++◌, length, ap, sym, refl, ◌∙◌, ◌+◌}
use Rattle.ww_invariant.specs.Out.{numbers_of}
use Rattle.ww_invariant.specs.Guards.{entering, shutting_out}
use Rattle.ww_invariant.proofs.InsideSteps.{enters}
use Rattle.ww_invariant.proofs.Moves.{same_shot}
use Rattle.ww_invariant.proofs.Turning.{numbers_long}
use Rattle.ww_table.proofs.Seated.{has_word, seated_as, stepped, by_rule, by_view}
use Rattle.ww_table.proofs.seat.Stepper.enter.Goals as goal

pub compare_exchange-found-requires : goal.compare_exchange-found-requires
compare_exchange-found-requires c = let s = c.requires.at in let may = c.requires.may in
    let word = c.guard_word.ensures ∙ ap (λ (i : ℕ). i + 1) (by_rule c.args.board.now c.args.lock) in (
      s.home,
      has_word c.args.board.now c.args.lock _ may.lock (omega (arith, word)),
      same_shot refl word refl (let z = s.who in omega arith) (enters _ _ _ _ s.seated c.args.lock may.lock may.may),
    )

pub push-requires : goal.push-requires
push-requires c = let long = numbers_long c.args.self.now.seat.me.1 in
    let same = ap length c.requires.at.order in let room = c.requires.may.room in (omega arith, omega arith)

pub returns-then-found-ne0 : goal.returns-then-found-ne0
returns-then-found-ne0 c = let s = c.requires.at in let e = c.compare_exchange-found.ensures in
    let miss = (e.2 c.args.lock (c.guard_word.ensures ∙ ap (λ (i : ℕ). i + 1) (by_view c.args.board.now _ s c.args.lock _ refl))).1 c.if-found-ne0.true in record {
      seat = stepped (shutting_out c.args.self.now.seat.me.0) s e.0 miss refl;
      records = refl;
      entered = λ no. absurd cc;
      lost = λ _. miss;
    }

pub returns : goal.returns
returns c = let s = c.requires.at in let e = c.compare_exchange-found.ensures in
    let got = (e.2 c.args.lock (c.guard_word.ensures ∙ ap (λ (i : ℕ). i + 1) (by_view c.args.board.now _ s c.args.lock _ refl))).0 c.if-found-ne0.false in record {
      seat = seated_as (entering c.args.self.now.seat.me.0 c.args.lock got.0) s e.0 (ap (λ m. m.0) got.3) refl refl
          (c.push.ensures.items ∙ ap (λ (l : List ℕ). l ++ c.list_slot.result ∷ []) s.order
          ∙ ap (λ (k : ℕ). numbers_of c.args.self.now.seat.me.1 ++ k ∷ []) c.list_slot.ensures
          ∙ ap numbers_of (sym (ap (λ m. m.1) got.3)));
      records = refl;
      entered = λ _. got;
      lost = λ no. absurd cc;
    }
