use Rattle.std.proofs.Common.{arith, sym, ◌∙◌, subst, refl}
use Rattle.ww_word.proofs.AnyWords.{packing_is_injective}
use Rattle.ww_invariant.specs.Guards.{IsSeenBy, looking}
use Rattle.ww_invariant.proofs.InsideSteps.{looks_inside}
use Rattle.ww_table.proofs.Seated.{has_lock, stepped, by_rule, by_view}
use Rattle.ww_table.proofs.seat.Stepper.look.Goals as goal

pub load-word-requires : goal.load-word-requires
load-word-requires c = let s = c.requires.at in let low = c.requires.may.0 in let inside = c.requires.may.1 in (
  s.home,
  has_lock c.args.board.now c.args.lock _ low c.owner_word.ensures,
  looks_inside _ _ _ _ s.seated c.args.lock _ (c.owner_word.ensures ∙ by_rule c.args.board.now c.args.lock) (omega arith),
)

pub returns : goal.returns
returns c = let told = c.load-word.ensures.2 in let read = (c.unpack.ensures c.in-Some.owner).0 c.in-Some.is in
    let same = packing_is_injective told.0 c.in-Some.owner told.1 read.0 (sym told.2 ∙ sym read.1) in
    let sees = subst (IsSeenBy c.args.self.now.seat.me.0.part.core c.args.lock) same
    (told.4 c.args.lock (c.owner_word.ensures ∙ by_view c.args.board.now _ c.requires.at c.args.lock _ refl)) in
    let looked = told.3 ∙ (λ i. (looking c.args.self.now.seat.me.0 (same i), c.args.self.now.seat.me.1)) in record {
      seat = stepped (looking c.args.self.now.seat.me.0 c.in-Some.owner) c.requires.at c.load-word.ensures.0 looked refl;
      records = refl;
      looked = looked;
      valid = read.0;
      there = sees.there;
      own = sees.own;
      flags = sees.flags;
    }
