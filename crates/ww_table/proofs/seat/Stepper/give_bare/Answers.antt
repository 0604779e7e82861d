use Rattle.std.proofs.Common.{refl, ◌∙◌, inl, inr, rules}
use Rattle.ww_plain.proofs.Members.{true_or_false}
use Rattle.ww_view.specs.View.{owns}
use Rattle.ww_view.specs.Made.{fast_given}
use Rattle.ww_invariant.specs.Steps.{knowing, keeping}
use Rattle.ww_invariant.proofs.Moves.{gives_bare}
use Rattle.ww_table.proofs.Seated.{on_lock, stepped, own_taker, by_view, many_locks}
use Rattle.ww_table.proofs.seat.Stepper.give_bare.Goals as goal

pub compare_exchange-found-requires : goal.compare_exchange-found-requires
compare_exchange-found-requires c = let s = c.requires.at in let lock = c.requires.may.0 in let b = c.args.board.now in
    on_lock b c.args.lock s.home lock.lock refl (c.packed_word.ensures b.locks (many_locks b lock.packed)) (own_taker _ c.args.self.now s) refl
    (gives_bare _ _ _ _ s.seated c.args.lock lock.bare lock.lock c.requires.may.1)

pub returns-then-found-own : goal.returns-then-found-own
returns-then-found-own c = let e = c.compare_exchange-found.ensures in let b = c.args.board.now in
    let told = e.2 c.args.lock (c.packed_word.ensures b.locks (many_locks b c.requires.may.0.packed) ∙ by_view b _ c.requires.at c.args.lock _ refl) in
    let s = c.requires.at in let v = c.args.self.now.seat.me.0 in record {
      seat = elim (true_or_false (owns v.part.core c.args.lock)) [
        | inl own ↦ stepped (keeping v) s e.0 (told.2 c.if-found-own.true own) refl
        | inr lacks ↦ stepped v s e.0 (told.3 c.if-found-own.true lacks) refl
      ];
      records = refl;
      tried = search rules;
    }

pub returns : goal.returns
returns c = let e = c.compare_exchange-found.ensures in let b = c.args.board.now in
    let told = e.2 c.args.lock (c.packed_word.ensures b.locks (many_locks b c.requires.may.0.packed) ∙ by_view b _ c.requires.at c.args.lock _ refl) in
    let now = told.1 c.if-found-own.false in let v = c.args.self.now.seat.me.0 in record {
      seat = stepped (knowing v (fast_given v.part.core c.args.lock)) c.requires.at e.0 now refl;
      records = refl;
      tried = search rules;
    }
