use Rattle.std.proofs.Common.{rules, ◌≡◌, ◌<◌, ℕ, length, sym, subst, ◌∙◌, arith}
use Rattle.std.proofs.lemmas.List.Elements.{recursion_from_All}
use Rattle.ww_plain.proofs.GraphFacts.{all_item}
use Rattle.ww_table.specs.declared.board.Board.{Board}
use Rattle.ww_table.specs.declared.seat.Stepper.{Stepper}
use Rattle.ww_table.specs.Closed.{HaveAllCome}
use Rattle.ww_tests_below.specs.Looking.{IsUnused}
use Rattle.ww_tests_below.proofs.Gathered.{all_come}
use Rattle.ww_tests_below.proofs.Trying.{made_unused, made_small}
use Rattle.ww_tests_below.proofs.rounds.crowd.Goals as goal

pub map_vec-requires-after_bounds : goal.map_vec-requires-after_bounds
map_vec-requires-after_bounds g c = λ κs live i x lt is. let board = c.in_ok-board.board in (
  subst (λ (q : Stepper). (k : ℕ) × IsUnused board k q) (sym is)
      (all_item (λ (q : Stepper). (k : ℕ) × IsUnused board k q) c.in_ok-board.seats.items i x lt
      (made_unused _ _ _ _ board c.in_ok-board.seats.items c.in_ok-board.ensures)),
  made_small _ _ _ _ board c.in_ok-board.seats.items c.in_ok-board.ensures (search rules) (search rules) c.requires.1,
)

pub apart-requires : goal.apart-requires
apart-requires g c = recursion_from_All _ c.in_ok-works.works.items (λ i d lt.
    let count : i < length c.in_ok-board.seats.items = omega (arith, lt, c.in_ok-works.ensures.len) in
    let job = (c.in_ok-works.ensures.each i d count).1 in
    job.call.met)

pub closed-requires : goal.closed-requires
closed-requires g c = let count : length c.in_ok-seats.seats.items ≡ c.args.threads = search rules in
    let come = all_come c.in_ok-board.board c.in_ok-seats.seats.items c.in_ok-seats.ensures (count ∙ sym c.in_ok-board.ensures.count_is) in
    subst (λ (v : Board). HaveAllCome v.table.shared.table_id v.table.shared.key c.in_ok-seats.seats.items) (sym c.compare.ensures) come
