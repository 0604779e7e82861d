use Rattle.std.proofs.Common.{◌≡◌, ◌≢◌, true≢false, ℕ, suc, ◌+◌, arith, ap, sym, refl, ◌∙◌, subst, List, ◌∷◌, inl}
use Rattle.std.specs.Prelude.{IsSome}
use Rattle.atomic_table.specs.Table.{rest}
use Rattle.ww_word.specs.AnySeats.{packed}
use Rattle.ww_queue.specs.declared.entry.Entry.{Entry}
use Rattle.ww_queue.specs.Queue.{joined}
use Rattle.ww_view.specs.Made.{entry_of_view}
use Rattle.ww_invariant.specs.declared.cells.Cell.{Cell}
use Rattle.ww_invariant.specs.declared.cells.Cell.TheVariants.{Line}
use Rattle.ww_invariant.specs.Rule.{Sat}
use Rattle.ww_invariant.specs.Out.{numbers_of, slot_of, AreOthers}
use Rattle.ww_invariant.specs.Guards.{lost}
use Rattle.ww_invariant.specs.Waiting.{joins, joining}
use Rattle.ww_invariant.proofs.InsideSteps.{joins_list}
use Rattle.ww_invariant.proofs.InsideTurning.{slot_brought, on_top}
use Rattle.ww_table.proofs.Seated.{IsTold, on_lock, stepped, seated_paged, by_view}
use Rattle.ww_table.proofs.seat.Stepper.join.Goals.{After-compare_exchange-found, After-bring}
use Rattle.ww_table.proofs.seat.Stepper.join.Goals as goal

pub compare_exchange-found-requires : goal.compare_exchange-found-requires
compare_exchange-found-requires c = let may = c.requires.may in
    on_lock c.args.board.now c.args.lock c.requires.at.home may.lock refl c.owner_word.ensures c.pack-old.ensures
    (c.pack-new.ensures ∙ ap packed c.with_waiters.ensures.same) (joins_list _ _ _ _ c.requires.at.seated c.args.lock c.args.seen may.may may.valid)

told : (c : After-compare_exchange-found) → IsTold joins c.args.lock c.args.seen c.args.self.now.seat.me
    c.compare_exchange-found.result c.compare_exchange-found.new.seat.me
told c = c.compare_exchange-found.ensures.2 c.args.lock c.args.seen
    (c.owner_word.ensures ∙ by_view c.args.board.now _ c.requires.at c.args.lock _ refl, c.requires.may.valid, c.pack-old.ensures)

pub returns-then-found-old : goal.returns-then-found-old
returns-then-found-old c = let t = told (goal.at.returns-then-found-old c).After-compare_exchange-found in
    let other : c.compare_exchange-found.result ≢ packed c.args.seen = λ z. c.if-found-old.true (z ∙ sym c.pack-old.ensures) in
    let miss = t.1 other in record {
      seat = stepped (lost c.args.self.now.seat.me.0) c.requires.at c.compare_exchange-found.ensures.0 miss refl;
      records = refl;
      sure = λ waits saw. absurd (other (t.2 (record { inside = c.requires.may.may.inside; alone = inl waits; seen = saw })));
      joined = λ no. absurd cc;
      lost = λ _. miss;
    }

pub pack-new-requires : goal.pack-new-requires
pack-new-requires c = c.with_waiters.ensures.valid c.requires.may.valid

pub bring-requires-clause-order : goal.bring-requires-clause-order
bring-requires-clause-order c = let won = (told (goal.at.bring-requires-clause-order c).After-compare_exchange-found).0 (c.if-found-old.false ∙ c.pack-old.ensures) in
    c.requires.at.order ∙ ap numbers_of (sym (ap (λ (m : Sat). m.1) won.0))

pub bring-requires-clause-out : goal.bring-requires-clause-out
bring-requires-clause-out c = let won = (told (goal.at.bring-requires-clause-out c).After-compare_exchange-found).0 (c.if-found-old.false ∙ c.pack-old.ensures) in (
  Line c.args.self.now.seat.me.0.part.core.list,
  (λ i. slot_of (won.0 i).1 (c.list_slot-slot.ensures i)) ∙ c.requires.may.list,
)

-- the list is the slot taken last then
up : (c : After-bring) → let list = c.args.self.now.seat.me.0.part.core.list in let b = c.bring.ensures in
    AreOthers c.args.self.now.seat.me.1 (64 + c.args.lock) (Line list) b.slots.1
    × (c.bring.new.seat.me.1 ≡ (64 + c.args.lock, Line list) ∷ b.slots.1)
up c = let b = c.bring.ensures in let won = (c.compare_exchange-found.ensures.2 c.args.lock c.args.seen
    (c.owner_word.ensures ∙ by_view c.args.board.now _ c.requires.at c.args.lock _ refl, c.requires.may.valid, c.pack-old.ensures)).0
    (c.if-found-old.false ∙ c.pack-old.ensures) in
    slot_brought c.args.self.now.seat.me.1 c.compare_exchange-found.new.seat.me.1 (64 + c.args.lock) c.list_slot-slot.result
    (Line c.args.self.now.seat.me.0.part.core.list) (ap (λ (m : Sat). m.1) won.0) c.list_slot-slot.ensures c.requires.may.list b.slots

top : (c : After-bring) → c.bring.new.seat.me.1
    ≡ (c.list_slot-slot.result, Line c.args.self.now.seat.me.0.part.core.list) ∷ rest c.bring.new.seat.me.1
top c = on_top c.bring.new.seat.me.1 c.bring.ensures.slots.1 (64 + c.args.lock) c.list_slot-slot.result
    (Line c.args.self.now.seat.me.0.part.core.list) (up c).1 c.list_slot-slot.ensures

pub join_list-requires-clause-top : goal.join_list-requires-clause-top
join_list-requires-clause-top c = (_, top (goal.at.join_list-requires-clause-top c).After-bring, ((told (goal.at.join_list-requires-clause-top c).After-compare_exchange-found).0 (c.if-found-old.false ∙ c.pack-old.ensures)).1.room)

pub unreachable-requires : goal.unreachable-requires
unreachable-requires c = absurd (true≢false
    (sym (subst IsSome (sym c.take.ensures.value ∙ c.in_default.is)
    (c.requires.at.page c.requires.may.may.not_waiting))))

pub returns : goal.returns
returns c = let v = c.args.self.now.seat.me.0 in let b = c.bring.ensures in let s = c.requires.at in let g = c.join_list.ensures in
    let won = (told (goal.at.returns c).After-compare_exchange-found).0 (c.if-found-old.false ∙ c.pack-old.ensures) in
    let entry : ◌≡◌ {A = Entry} (record { seat = c.args.self.now.who; stamp = c.args.self.now.stamp; holds = c.args.holds }) (entry_of_view v.part.core) =
    (λ i. record { seat = sym s.who i; stamp = sym s.stamp i; holds = sym c.requires.may.holds i }) in
    let list = g.list v.part.core.list (top (goal.at.returns c).After-bring) in let view = g.view ∙ b.view ∙ ap (λ (m : Sat). m.0) won.0 in record {
      seat = seated_paged (joining v c.args.lock c.args.seen) s (g.home.0 ∙ b.home.0 ∙ c.compare_exchange-found.ensures.0) view refl
          (λ (out : suc c.args.lock ≡ 0). absurd (omega arith)) refl
          (b.order ∙ ap numbers_of (top (goal.at.returns c).After-bring) ∙ ap numbers_of (sym list));
      records = refl;
      sure = λ _ _. refl;
      joined = λ _. (
        b.slots.1,
        (up (goal.at.returns c).After-bring).0,
        λ i. (
          view i,
          (list
              ∙ (λ j. (c.list_slot-slot.ensures j, Line (joined v.part.core.list ((c.of-entry.ensures ∙ entry) j)))
              ∷ ap (λ (k : List (ℕ × Cell)). rest k) (up (goal.at.returns c).After-bring).1 j)) i,
        ),
      );
      lost = λ no. absurd cc;
    }
