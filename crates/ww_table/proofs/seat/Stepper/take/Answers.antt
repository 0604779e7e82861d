use Rattle.std.proofs.Common.{◌≡◌, ◌≢◌, length-append, ℕ, ◌+◌, arith, ap, sym, refl, ◌∙◌, subst, length, List, [], ◌∷◌, ◌++◌, inl}
use Rattle.ww_plain.specs.Graph.{IsNodeOf}
use Rattle.ww_word.specs.AnySeats.{packed}
use Rattle.ww_invariant.specs.declared.cells.Cell.{Cell}
use Rattle.ww_invariant.specs.declared.cells.Cell.TheVariants.{Content}
use Rattle.ww_invariant.specs.declared.cells.Sight.{Sight}
use Rattle.ww_invariant.specs.Rule.{Sat}
use Rattle.ww_invariant.specs.Out.{numbers_of}
use Rattle.ww_invariant.specs.Waiting.{takes_inside, taking_inside, under_top}
use Rattle.ww_invariant.proofs.InsideSteps.{takes_lock}
use Rattle.ww_invariant.proofs.InsideTurning.{others_long}
use Rattle.ww_invariant.proofs.Turning.{numbers_long, popped}
use Rattle.ww_table.specs.declared.seat.Stepper.{Stepper}
use Rattle.ww_table.proofs.OnTop.{list_there, gone_over, only_tried, still_there}
use Rattle.ww_table.proofs.Seated.{IsTold, on_lock, expected}
use Rattle.ww_table.proofs.seat.Stepper.take.Goals.{After-compare_exchange-found, After-pop}
use Rattle.ww_table.proofs.seat.Stepper.take.Goals as goal

pub compare_exchange-found-requires : goal.compare_exchange-found-requires
compare_exchange-found-requires c = let r = c.own_left-owner.ensures in let may = c.requires.may in
    on_lock c.args.board.now c.args.lock r.seat.home (let fits = c.args.board.now.fits in let low = may.lock in omega arith) r.read.now
    c.owner_word.ensures c.pack-old.ensures (c.pack-new.ensures ∙ ap packed r.owner)
    (takes_lock _ _ _ _ c.requires.at.seated c.args.lock c.args.seen may.lock may.may may.valid refl)

told : (c : After-compare_exchange-found) → IsTold takes_inside c.args.lock c.args.seen c.own_left-owner.new.self.seat.me
    c.compare_exchange-found.result c.compare_exchange-found.new.seat.me
told c = c.compare_exchange-found.ensures.2 c.args.lock c.args.seen
    (expected c.args.board.now c.requires.at c.own_left-owner.ensures.read c.owner_word.ensures c.requires.may.valid c.pack-old.ensures)

pub returns-then-found-old : goal.returns-then-found-old
returns-then-found-old c = let r = c.own_left-owner.ensures in let other : c.compare_exchange-found.result ≢ packed c.args.seen = λ z. c.if-found-old.true (z ∙ sym c.pack-old.ensures) in
    let tried = only_tried c.compare_exchange-found.new.seat r.seat r.read c.compare_exchange-found.ensures.0 ((told (goal.at.returns-then-found-old c).After-compare_exchange-found).1 other) in record {
      seat = tried.0;
      records = ap (λ (s : Stepper). s.records) r.same;
      sure = λ waits saw. absurd (other ((told (goal.at.returns-then-found-old c).After-compare_exchange-found).2 (still_there r.read (record { inside = c.requires.may.may.inside; alone = inl waits; seen = saw }))));
      took = λ no. absurd cc;
      lost = λ _. tried.1;
    }

-- once the last one was taken off, the numbers of the slots that are out but for the list
items : (c : After-pop) → c.pop.new.self.items ≡ numbers_of c.own_left-owner.ensures.read.others
items c = let r = c.own_left-owner.ensures in let p = c.pop.ensures in
    popped _ (numbers_of r.read.others) c.pop.new.self.items (64 + c.args.lock) c.pop.result
    (r.seat.order ∙ ap (λ (m : Sat). numbers_of m.1) r.read.now) p.items p.variant.1

pub push-requires : goal.push-requires
push-requires c = let t = c.own_left-owner.ensures.read in
    let long = ap (λ (k : List ℕ). length k) (items (goal.at.push-requires c).After-pop) in let out = numbers_long t.others in
    let all = others_long _ _ _ t.others t.apart in let room = c.requires.may.room in (omega arith, omega arith)

pub push-requires-2 : goal.push-requires-2
push-requires-2 c = let t = c.own_left-owner.ensures.read in
    let long = ap (λ (k : List ℕ). length k) (items (goal.at.push-requires-2 c).After-pop) in let out = numbers_long t.others in
    let all = others_long _ _ _ t.others t.apart in let room = c.requires.may.room in
    let more = ap (λ (k : List ℕ). length k) c.push.ensures.items in
    let one = length-append c.pop.new.self.items (c.args.lock ∷ []) in (omega arith, omega arith)

pub leave_list-requires-clause-top : goal.leave_list-requires-clause-top
leave_list-requires-clause-top c = let r = c.own_left-owner.ensures in let hit = (told (goal.at.leave_list-requires-clause-top c).After-compare_exchange-found).0 (c.if-found-old.false ∙ c.pack-old.ensures) in
    let node : ℕ × Cell = (c.args.lock, Content hit.0) in
    (_, list_there c.args.self.now.seat.me c.args.lock (ap (λ (m : Sat). m.1) hit.2 ∙ ap (λ (m : Sat). under_top node m.1) r.read.now) c.list_slot-slot.ensures)

pub returns : goal.returns
returns c = let r = c.own_left-owner.ensures in let t = r.read in let g = c.leave_list.ensures in
    let hit = (told (goal.at.returns c).After-compare_exchange-found).0 (c.if-found-old.false ∙ c.pack-old.ensures) in let node : ℕ × Cell = (c.args.lock, Content hit.0) in
    let order = c.push-2.ensures.items ∙ ap (λ (l : List ℕ). l ++ c.list_slot-slot.result ∷ [])
    (c.push.ensures.items ∙ ap (λ (l : List ℕ). l ++ c.args.lock ∷ []) (items (goal.at.returns c).After-pop)) in
    let new : Stepper = record c.own_left-owner.new.self { seat = c.leave_list.new.seat; page = c.leave_list.result; order = c.push-2.new.self } in
    let done = gone_over r.seat t c.compare_exchange-found.new.seat new (λ (v : Sight). taking_inside v c.args.lock hit.0) c.compare_exchange-found.ensures.0
    (ap (λ (m : Sat). m.0) hit.2) (ap (λ (m : Sat). m.1) hit.2 ∙ ap (λ (m : Sat). under_top node m.1) t.now) hit.3 refl
    c.list_slot-slot.ensures c.take-page.ensures.value
    (record { home = g.home.0; view = g.view; list = g.list; page = g.page }) refl order in record {
      seat = done.0;
      records = ap (λ (s : Stepper). s.records) r.same;
      sure = λ _ _. refl;
      took = λ _. (hit.0, t.others, subst (λ (m : Sat). IsNodeOf (length m.0.held) hit.0) t.now hit.1, t.apart, done.1);
      lost = λ no. absurd cc;
    }
