use Rattle.std.proofs.Common.{ℕ, ◌==◌, ap, sym, refl, ◌∙◌, subst, inr}
use Rattle.ww_word.specs.AnySeats.{IsValid, packed}
use Rattle.ww_view.specs.Made.{given}
use Rattle.ww_view.specs.Word.{given_word}
use Rattle.ww_invariant.specs.Rule.{Sat}
use Rattle.ww_invariant.specs.Steps.{knowing}
use Rattle.ww_invariant.proofs.InsideSteps.{gives_lock_bare}
use Rattle.ww_invariant.proofs.InsideTurning.{given_valid}
use Rattle.ww_table.specs.declared.seat.Stepper.{Stepper}
use Rattle.ww_table.proofs.OnTop.{still_there}
use Rattle.ww_table.proofs.Seated.{on_lock, expected, stepped}
use Rattle.ww_table.proofs.seat.Stepper.give_bare_inside.Goals as goal

pub pack-new-requires : goal.pack-new-requires
pack-new-requires c = subst IsValid (sym (c.next_owner-owner.ensures.owner ∙ ap (λ (f : ℕ). given_word (f == 3) c.args.self.now.seat.me.0.part.core.list) c.flags.ensures))
    (given_valid (c.args.seen.flags == 3) c.args.self.now.seat.me.0.part.core.seats c.args.self.now.seat.me.0.part.core.list c.requires.may.waiters)

pub compare_exchange-requires : goal.compare_exchange-requires
compare_exchange-requires c = let r = c.next_owner-owner.ensures in let may = c.requires.may in
    on_lock c.args.board.now c.args.lock r.seat.home may.lock.1 r.read.now c.owner_word.ensures c.pack-old.ensures
    (c.pack-new.ensures ∙ ap packed (r.owner ∙ ap (λ (f : ℕ). given_word (f == 3) c.args.self.now.seat.me.0.part.core.list) c.flags.ensures))
    (gives_lock_bare _ _ _ _ c.requires.at.seated c.args.lock c.args.seen may.lock.0 may.may may.valid)

pub returns : goal.returns
returns c = let r = c.next_owner-owner.ensures in let t = r.read in let may = c.requires.may in let e = c.compare_exchange.ensures in
    let told = e.2 c.args.lock c.args.seen (expected c.args.board.now c.requires.at t c.owner_word.ensures may.valid c.pack-old.ensures) in
    let hit = told.0 (told.2 (still_there t (record { inside = may.may.inside; alone = inr may.may.owns; seen = may.seen }))) in record {
      seat = stepped _ r.seat e.0 hit refl;
      records = ap (λ (s : Stepper). s.records) r.same;
      gave = (
        t.others,
        t.apart,
        hit ∙ ap (λ (m : Sat). let now : Sat = (knowing m.0 (given m.0.part.core c.args.lock (c.args.seen.flags == 3)), m.1) in now) t.now,
      );
    }
