use Rattle.std.proofs.Common.{arith, ℕ, ◌≡◌, ◌<◌, ◌+◌, ◌-◌, length, [], ap, subst, sym, ◌∙◌, refl}
use Rattle.ww_invariant.specs.Rule.{Sat, first_graph, first_part}
use Rattle.ww_invariant.specs.Steps.{sight_of}
use Rattle.ww_table.specs.declared.make.Ticket.{Ticket}
use Rattle.ww_table.specs.Made.{AreTickets}
use Rattle.ww_table.proofs.Making.{tickets_more, next_splits, next_left, next_cut, last_left}
use Rattle.ww_table.proofs.make.cut.Goals as goal

pub split_seat-seat-requires : goal.split_seat-seat-requires
split_seat-seat-requires c = let i = c.loop-who.invariant in let e = c.requires.may.seats_are in let t = c.loop-who-test.true in
    (i.0, (let z = c.requires.may.sized.0 in omega arith), next_splits _ _ c.loop-who.who _ (ap (λ (m : Sat). m.0) i.1) (omega arith))

pub loop-who-preserved : goal.loop-who-preserved
loop-who-preserved c = let i = c.loop-who.invariant in let may = c.requires.may in let e = may.seats_are in let t = c.loop-who-test.true in
    let is = ap (λ (m : Sat). m.0) i.1 in let key = c.args.shared.now.key in
    let more : c.loop-who.who < key.seats - 1 = omega arith in let s = c.split_seat-seat.ensures in let p = c.push_reserved.ensures in
    let ticket : Ticket = record { seat = c.split_seat-seat.result; who = c.loop-who.who } in (
      s.0 ∙ i.0,
      s.2 ∙ (λ j. (next_left key c.loop-who.who _ is more j, ap (λ (m : Sat). m.1) i.1 j)),
      subst (AreTickets c.args.shared.now.table_id key _) (sym p.items) (tickets_more _ key c.loop-who.who _ ticket i.2
          (record {
            there = let few = may.few in omega arith;
            size = may.size;
            sized = may.sized;
            home = s.3 ∙ i.0;
            me = s.4 ∙ (λ j. (next_cut key c.loop-who.who _ is more j, []));
          }) refl),
      (let l = p.len in let m = i.3 in omega arith),
      (let l = p.capacity in let m = i.4 in omega arith),
    )

pub returns : goal.returns
returns c = let i = c.loop-who.invariant in let may = c.requires.may in let e = may.seats_are in let t = c.loop-who-test.false in
    let a = c.loop-who.auto.who-end in let key = c.args.shared.now.key in
    let ended : c.loop-who.who ≡ key.seats - 1 = omega arith in
    let all : c.loop-who.who + 1 ≡ c.args.seats = omega arith in let p = c.push_reserved-2.ensures in
    let last : c.loop-who.who ≡ c.args.seats - 1 = omega arith in
    let ticket : Ticket = record { seat = c.loop-who.first; who = c.args.seats - 1 } in
    subst (λ n. AreTickets c.args.shared.now.table_id key n c.push_reserved-2.new.self.items) all
    (subst (AreTickets c.args.shared.now.table_id key _) (sym p.items)
    (tickets_more _ key c.loop-who.who _ ticket i.2
    (record {
      there = let few = may.few in omega arith;
      size = may.size;
      sized = may.sized;
      home = i.0;
      me = subst (λ (k : ℕ). c.loop-who.first.me ≡ (sight_of (length (first_graph key)) (first_part key.kind key.locks key.places k), []))
          last (i.1 ∙ (λ j. (last_left key c.loop-who.who ended j, [])));
    }) (sym last)))
