use Rattle.std.proofs.Common.{◌≡◌, [], ◌∷◌, ◌++◌, ℕ, suc, ◌+◌, false, replicate, List, length, map, drop, ap, length-append, append_assoc, refl, sym, subst, ◌∙◌, rules, arith}
use Rattle.ww_invariant.specs.Rule.{first_graph}
use Rattle.ww_lock.specs.declared.hand.Hand.TheInside.{Inside}
use Rattle.ww_lock.specs.Carried.{Carried, holding_of, held_of, stamp_of}
use Rattle.atomic_table.specs.Seated.{TableId}
use Rattle.std.specs.Prelude.{slice_get}
use Rattle.ww_seat.specs.Bells.{leads_to}
use Rattle.ww_lock.specs.Opened.{fresh, home_at, AreFresh, AreRests}
use Rattle.ww_lock.proofs.Openings.{IsNext, next_is, new_carries, new_holding, new_idle, fresh_more}
use Rattle.ww_lock.proofs.world.fresh.Goals.{In-Some-pop}
use Rattle.ww_lock.proofs.world.fresh.Goals as goal

-- the next of the seats, and what it gets
next_seat : (c : In-Some-pop) → let shared = c.args.board.now.table.shared in IsNext shared.table_id shared.key (map leads_to c.args.wires.now)
    c.args.seats.items c.loop-seat.yielded c.next.new.self.rest.items c.in-Some.seat c.pop.new.self.items c.in-Some-pop.field-0
next_seat c = let shared = c.args.board.now.table.shared in
    next_is shared.table_id shared.key (map leads_to c.args.wires.now) c.args.seats.items
    c.loop-seat.yielded c.loop-seat.seat-iterator.rest.items c.next.new.self.rest.items c.in-Some.seat
    c.loop-seat.rests.items c.pop.new.self.items c.in-Some-pop.field-0
    c.requires.seats.new c.loop-seat.invariant.2 (search rules) c.loop-seat.invariant.3 (search rules)

pub new-requires : goal.new-requires
new-requires c =
    let shared = c.args.board.now.table.shared in
    let next = next_seat (goal.at.new-requires c).In-Some-pop in
    record {
      new = (
        shared.table_id,
        shared.key,
        length c.loop-seat.yielded,
        next.new,
        c.args.board.now.few,
        omega (arith, c.args.board.now.few, c.requires.locks),
      );
    }

pub invariant_of-hand : goal.invariant_of-hand
invariant_of-hand c =
    let shared = c.args.board.now.table.shared in
    let next = next_seat (goal.at.invariant_of-hand c).In-Some-pop in
    let hand : Inside = record {
      seat = c.new.result;
      left = c.args.budget;
      marks = replicate 64 false;
      seen = c.in-Some-pop.field-0.seen;
      patience = c.in-Some-pop.field-0.patience;
      bells = c.in-Ok.bells;
    } in
    new_carries shared.table_id shared.key (length c.loop-seat.yielded) c.in-Some.seat hand next.new c.new.ensures refl next.seen
    c.args.board.now.few c.requires.locks c.requires.places (omega (arith, c.ranges.budget.fits))
    (ap (λ (ps : List TableId). slice_get ps (length c.loop-seat.yielded)) c.in-Ok.ensures.placed ∙ next.placed)
    c.in-Ok.ensures.silent next.awake

pub invariant_of-push_reserved : goal.invariant_of-push_reserved
invariant_of-push_reserved c =
    let shared = c.args.board.now.table.shared in
    let next = next_seat (goal.at.invariant_of-push_reserved c).In-Some-pop in
    subst (λ (v : Carried). (stamp_of v ≡ 0) × (held_of v ≡ [])) (sym c.in-Ok-new.ensures.ok)
    (new_idle shared.table_id shared.key (length c.loop-seat.yielded) c.in-Some.seat c.new.result next.new c.new.ensures)

pub loop-seat-preserved : goal.loop-seat-preserved
loop-seat-preserved c =
    let i = c.loop-seat.invariant in
    let shared = c.args.board.now.table.shared in
    let next = next_seat (goal.at.loop-seat-preserved c).In-Some-pop in
    let more : length (c.loop-seat.yielded ++ c.in-Some.seat ∷ []) ≡ length c.loop-seat.yielded + 1 =
    length-append c.loop-seat.yielded (c.in-Some.seat ∷ []) in
    let after : suc (length c.loop-seat.yielded) ≡ length (c.loop-seat.yielded ++ c.in-Some.seat ∷ []) = omega (arith, more) in
    let hand : Inside = record {
      seat = c.new.result;
      left = c.args.budget;
      marks = replicate 64 false;
      seen = c.in-Some-pop.field-0.seen;
      patience = c.in-Some-pop.field-0.patience;
      bells = c.in-Ok.bells;
    } in
    let holding = subst (λ (v : Carried). holding_of v
    ≡ fresh (home_at c.args.board.now c.args.wires.now) (first_graph shared.key) c.args.budget
    (length c.loop-seat.yielded) (holding_of v).room) (sym c.in-Ok-new.ensures.ok)
    (new_holding (home_at c.args.board.now c.args.wires.now) shared.key (length c.loop-seat.yielded) c.in-Some.seat hand
    next.new c.new.ensures next.seen c.in-Ok.ensures.placed) in (
      tt,
      tt,
      append_assoc c.loop-seat.yielded (c.in-Some.seat ∷ []) c.next.new.self.rest.items ∙ next.whole,
      subst (λ (k : ℕ). AreRests (first_graph shared.key) (drop k (map leads_to c.args.wires.now)) c.pop.new.self.items) after next.rests,
      subst (λ (k : ℕ). AreFresh c.push_reserved.new.self.items (first_graph shared.key)
          (home_at c.args.board.now c.args.wires.now) k c.args.budget) (sym more)
          (fresh_more c.loop-seat.all.items c.push_reserved.new.self.items _ (first_graph shared.key)
          (home_at c.args.board.now c.args.wires.now) (length c.loop-seat.yielded) c.args.budget i.4 holding
          c.push_reserved.ensures.items),
      omega (arith, more, i.5, c.push_reserved.ensures.len),
      omega (arith, i.6, c.push_reserved.ensures.capacity),
    )

pub returns-in-Err-clause-err : goal.returns-in-Err-clause-err
returns-in-Err-clause-err c =
    let next = next_seat (goal.at.returns-in-Err-clause-err c).In-Some-pop in
    ap (λ (v : Carried). v.seen) (c.hand.view_is ∙ c.in-Err.ensures.value_returned) ∙ next.seen
