use Rattle.std.proofs.Common.{◌==◌, ap, sym, refl, ◌∙◌, eq-eqb, inl}
use Rattle.ww_word.specs.AnySeats.{packed}
use Rattle.ww_invariant.specs.Guards.{lost}
use Rattle.ww_invariant.specs.Waiting.{asking}
use Rattle.ww_invariant.proofs.InsideSteps.{asks_lock}
use Rattle.ww_table.specs.Steps.{IsEither}
use Rattle.ww_table.proofs.Seated.{on_lock, either, by_view}
use Rattle.ww_table.proofs.seat.Stepper.ask.Goals as goal

pub compare_exchange-requires : goal.compare_exchange-requires
compare_exchange-requires c = let may = c.requires.may in
    on_lock c.args.board.now c.args.lock c.requires.at.home may.lock refl c.owner_word.ensures c.pack-old.ensures
    (c.pack-new.ensures ∙ ap packed c.with_flags.ensures) (asks_lock _ _ _ _ c.requires.at.seated c.args.lock c.args.seen may.may may.valid)

pub returns : goal.returns
returns c = let s = c.requires.at in let may = c.requires.may in let e = c.compare_exchange.ensures in
    let told = e.2 c.args.lock c.args.seen
    (c.owner_word.ensures ∙ by_view c.args.board.now _ s c.args.lock _ refl, may.valid, c.pack-old.ensures) in
    let came : IsEither c.args.board.now c.args.self.now (asking c.args.self.now.seat.me.0 c.args.seen) (lost c.args.self.now.seat.me.0)
    (c.compare_exchange.result == c.pack-old.result) (record c.args.self.now { seat = c.compare_exchange.new.seat }) =
    either s e.0 (λ is. told.0 (is ∙ c.pack-old.ensures), λ isnt. told.1 (λ z. isnt (z ∙ sym c.pack-old.ensures))) (refl, refl) in record {
      seat = came.seat;
      records = refl;
      sure = λ waits saw. eq-eqb _ _ (told.2 (record { inside = may.may.inside; alone = inl waits; seen = saw }) ∙ sym c.pack-old.ensures);
      asked = came.hit;
      lost = came.miss;
    }
