use Rattle.std.proofs.Common.{◌≡◌, ℕ, ◌+◌, ◌/◌, false, replicate, length, refl, sym, ap, subst, ◌∙◌, arith, rules, None}
use Rattle.std.specs.Arc.{arc_value}
use Rattle.ww_invariant.specs.Rule.{first_graph}
use Rattle.ww_table.specs.declared.board.Board.{Board}
use Rattle.ww_table.specs.Seat.{IsNew}
use Rattle.ww_steps.specs.declared.turn.Turn.TheVariants.{Rests}
use Rattle.ww_steps.specs.declared.station.Station.{Station}
use Rattle.ww_steps.specs.Opened.{fresh}
use Rattle.ww_steps.proofs.Fresh.{IsFirst, first_keeps, first_seen}
use Rattle.ww_steps.proofs.opening.first.Goals as goal

pub new-seat-requires : goal.new-seat-requires
new-seat-requires c =
    let b = c.deref.result.now in
    let same : b ≡ arc_value c.args.means.board = search rules in
    let none = ap (λ (x : Board). length (first_graph x.table.shared.key)) same ∙ ap length c.requires.table.bare in record {
      new = (b.table.shared.table_id, b.table.shared.key, c.args.ticket.who, c.into_stepper.ensures, omega (arith, none), omega (arith, none));
    }

pub invariant_of-result : goal.invariant_of-result
invariant_of-result c =
    let b = arc_value c.args.means.board in
    let same : c.deref.result.now ≡ b = search rules in
    let f : IsFirst b c.args.ticket.who c.into_stepper.result _ = record {
      board = refl;
      new = subst (λ (x : Board). IsNew x.table.shared.table_id x.table.shared.key c.args.ticket.who c.into_stepper.result) same c.into_stepper.ensures;
      seat = c.new-seat.ensures;
      table = c.requires.table;
      left = c.requires.left;
      count = refl;
      is_done = refl;
      told = refl;
      turn = refl;
      wakes = c.args.means.wakes ∙ ap (λ (n : ℕ). replicate ((n + 63) / 64) 0) c.requires.table.places_are;
    } in
    first_keeps b c.args.ticket.who c.into_stepper.result _ f

pub returns : goal.returns
returns c =
    let b = arc_value c.args.means.board in
    let same : c.deref.result.now ≡ b = search rules in
    let h : Station = record {
      board = c.args.means.board;
      seat = c.new-seat.result;
      count = 0;
      locks = c.args.locks;
      is_done = false;
      seats = c.args.seats;
      told = None;
      turn = Rests;
      left = c.args.left;
      wake = c.args.means.wake;
    } in
    let f : IsFirst b c.args.ticket.who c.into_stepper.result h = record {
      board = refl;
      new = subst (λ (x : Board). IsNew x.table.shared.table_id x.table.shared.key c.args.ticket.who c.into_stepper.result) same c.into_stepper.ensures;
      seat = c.new-seat.ensures;
      table = c.requires.table;
      left = c.requires.left;
      count = refl;
      is_done = refl;
      told = refl;
      turn = refl;
      wakes = c.args.means.wakes ∙ ap (λ (n : ℕ). replicate ((n + 63) / 64) 0) c.requires.table.places_are;
    } in
    first_seen b c.args.ticket.who c.into_stepper.result h f
    ∙ (λ i. fresh b.table.shared.table_id c.args.locks c.args.seats (sym c.requires.kind i) c.args.left c.args.ticket.who)
