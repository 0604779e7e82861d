use Rattle.std.proofs.Common.{rules, arith, ◌≡◌, List, [], ◌∷◌, ◌++◌, ap, sym, ◌∙◌, length, subst, append-nil, append_assoc}
use Rattle.std.specs.List.{AllByRecursion}
use Rattle.ww_view.specs.View.{IsBare}
use Rattle.ww_invariant.specs.Steps.{with_seat}
use Rattle.ww_invariant.specs.declared.cells.Sight.{Sight}
use Rattle.ww_table.specs.declared.seat.Stepper.{Stepper}
use Rattle.ww_invariant.specs.Rule.{Sat}
use Rattle.ww_table.specs.Closed.{HasCome, IsGathered}
use Rattle.ww_invariant.proofs.Seats.{joins}
use Rattle.ww_invariant.proofs.Filling.{all_at}
use Rattle.ww_table.proofs.Closing.{none_left, gathered_more}
use Rattle.ww_table.proofs.close.join_all.Goals as goal

pub join_seat-requires : goal.join_seat-requires
join_seat-requires c = let i = c.loop-seat.invariant in
    let step : c.loop-seat.seat-iterator.rest.items ≡ c.in-Some.seat ∷ c.next.new.self.rest.items = search rules in
    let whole = ap (λ (l : List Stepper). c.loop-seat.yielded ++ l) (sym step) ∙ i.5 in
    let came = all_at (HasCome c.args.shared.now.table_id) c.loop-seat.yielded c.next.new.self.rest.items
    c.in-Some.seat (subst (AllByRecursion (HasCome c.args.shared.now.table_id)) (sym whole) c.requires.come) in
    let is = c.come-other.ensures.seat in (
      i.2,
      ap (λ s. s.table_id) is ∙ came.seated.home,
      ap (λ s. s.me.1) is ∙ came.nothing,
      (let z = c.requires.sized.0 in omega arith),
      joins _ _ _ _ _ i.3 (ap (λ s. s.me.0.seated) is ∙ came.seated.seated) (subst (λ s. IsBare s.me.0.part.core) (sym is) came.bare),
    )

pub loop-seat-preserved : goal.loop-seat-preserved
loop-seat-preserved c = let i = c.loop-seat.invariant in
    let step : c.loop-seat.seat-iterator.rest.items ≡ c.in-Some.seat ∷ c.next.new.self.rest.items = search rules in
    let whole = ap (λ (l : List Stepper). c.loop-seat.yielded ++ l) (sym step) ∙ i.5 in
    let came = all_at (HasCome c.args.shared.now.table_id) c.loop-seat.yielded c.next.new.self.rest.items
    c.in-Some.seat (subst (AllByRecursion (HasCome c.args.shared.now.table_id)) (sym whole) c.requires.come) in
    let is = c.come-other.ensures.seat in let put = c.come-other.ensures.put in let e = c.join_seat.ensures in
    let view = ap (λ (m : Sat). m.0) e.2 in (
      tt,
      tt,
      e.0 ∙ i.2,
      ap (λ (v : Sight). v.seated) view ∙ i.3,
      put.size ∙ i.4,
      append_assoc c.loop-seat.yielded (c.in-Some.seat ∷ []) c.next.new.self.rest.items ∙ whole,
      λ front g. subst (λ l. IsGathered c.args.shared.now.table_id l (length c.args.places.now) c.join_seat.new.seat
          c.come-other.new.places) (append_assoc front c.loop-seat.yielded (c.in-Some.seat ∷ []))
          (gathered_more _ (front ++ c.loop-seat.yielded) c.in-Some.seat _ c.loop-seat.token c.join_seat.new.seat
          c.loop-seat.places c.come-other.new.places (i.6 front g) came put e.0
          (view ∙ ap (λ s. with_seat c.loop-seat.token.me.0 s.me.0) is)),
    )

pub returns : goal.returns
returns c = let i = c.loop-seat.invariant in
    let done : c.loop-seat.seat-iterator.rest.items ≡ [] =
    none_left c.loop-seat.seat-iterator.rest.items
    (let z = c.in-None.ensures.steps.0 in let o = c.loop-seat.seat-iterator.rest.ok in omega arith) in
    let all : c.loop-seat.yielded ≡ c.args.seats.items = sym (append-nil c.loop-seat.yielded)
    ∙ ap (λ l. c.loop-seat.yielded ++ l) (sym done) ∙ i.5 in
    λ front g. subst (λ l. IsGathered c.args.shared.now.table_id (front ++ l) (length c.args.places.now)
    c.loop-seat.token c.loop-seat.places) all (i.6 front g)
