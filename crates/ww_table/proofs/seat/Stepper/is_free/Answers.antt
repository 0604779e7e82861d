use Rattle.std.proofs.Common.{refl, ◌∙◌}
use Rattle.ww_queue.proofs.Outcomes.{same_number, other_number}
use Rattle.ww_invariant.specs.Steps.{seeing}
use Rattle.ww_invariant.proofs.InsideSteps.{whose_anywhere}
use Rattle.ww_table.proofs.Seated.{has_lock, by_rule, by_view, stepped}
use Rattle.ww_table.proofs.seat.Stepper.is_free.Goals as goal

pub load-found-requires : goal.load-found-requires
load-found-requires c = let s = c.requires.at in let low = c.requires.there in (
  s.home,
  has_lock c.args.board.now c.args.lock _ low c.owner_word.ensures,
  whose_anywhere _ _ _ _ s.seated c.args.lock _ (c.owner_word.ensures ∙ by_rule c.args.board.now c.args.lock) low,
)

pub returns : goal.returns
returns c = let s = c.requires.at in let e = c.load-found.ensures in let v = c.args.self.now.seat.me.0 in let found = c.load-found.result in
    let told = e.2.1 c.args.lock (c.owner_word.ensures ∙ by_view c.args.board.now _ s c.args.lock _ refl) in record {
      seat = stepped (seeing v c.args.lock found) s e.0 told.0 refl;
      same = refl;
      free = λ is. told.0 ∙ (λ i. (seeing v c.args.lock (same_number found 0 is i), c.args.self.now.seat.me.1));
      taken = λ isnt. (found, other_number found 0 isnt, told.0);
      word = (found, told.0, told.1);
      lacks = λ is. told.2 (same_number found 0 is);
    }
