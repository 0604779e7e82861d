use Rattle.std.proofs.Common.{refl, sym, ◌∙◌}
use Rattle.ww_word.specs.AnySeats.{packed}
use Rattle.ww_invariant.specs.Steps.{seeing}
use Rattle.ww_invariant.proofs.InsideSteps.{whose_anywhere}
use Rattle.ww_table.proofs.Seated.{has_lock, by_rule, by_view, stepped}
use Rattle.ww_table.proofs.seat.Stepper.whose.Goals as goal

pub load-word-requires : goal.load-word-requires
load-word-requires c = let s = c.requires.at in let low = c.requires.there in (
  s.home,
  has_lock c.args.board.now c.args.lock _ low c.owner_word.ensures,
  whose_anywhere _ _ _ _ s.seated c.args.lock _ (c.owner_word.ensures ∙ by_rule c.args.board.now c.args.lock) low,
)

pub returns : goal.returns
returns c = let s = c.requires.at in let e = c.load-word.ensures in let v = c.args.self.now.seat.me.0 in
    let read = (c.unpack.ensures c.in-Some.owner).0 c.in-Some.is in
    let told = e.2.1 c.args.lock (c.owner_word.ensures ∙ by_view c.args.board.now _ s c.args.lock _ refl) in
    let now = told.0 ∙ (λ i. (seeing v c.args.lock (sym read.1 i), c.args.self.now.seat.me.1)) in record {
      seat = stepped (seeing v c.args.lock (packed c.in-Some.owner)) s e.0 now refl;
      same = refl;
      me = now;
      valid = read.0;
    }
