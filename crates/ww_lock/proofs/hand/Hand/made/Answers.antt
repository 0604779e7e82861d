use Rattle.std.proofs.Common.{◌≡◌, ◌∙◌, ◌≤◌, length, IsTrue, sym, ap, subst, arith}
use Rattle.std.specs.List.{AllByRecursion}
use Rattle.ww_plain.specs.Footprint.{footprint_of}
use Rattle.ww_plain.specs.Meaning.{graph_after}
use Rattle.ww_seat.specs.Commits.{changes_of}
use Rattle.ww_lock.specs.Holding.{Holding, Change}
use Rattle.ww_lock.specs.Making.{IsChangeMade, HoldsUnchanged}
use Rattle.ww_lock.specs.Carried.{Carried, holding_of}
use Rattle.ww_lock.proofs.Changes.{change_of, found}
use Rattle.ww_lock.proofs.hand.Hand.made.Goals as goal

-- whose changes are found, with room, can be committed
made_if_found : (s : Holding) (p : Change) → length p.before ≡ length s.seen
    → AllByRecursion (HoldsUnchanged s) (changes_of p.before p.transaction) → 1 ≤ s.room → IsChangeMade s p
made_if_found s p sizes all room = let both =
    (found s p.before (graph_after p.before p.transaction) (footprint_of p.before p.transaction)).0 all in
    record { sizes = sizes; holds = both.0; contents = both.1; room = room }

found_if_made : (s : Holding) (p : Change) → IsChangeMade s p → AllByRecursion (HoldsUnchanged s) (changes_of p.before p.transaction)
found_if_made s p made = (found s p.before (graph_after p.before p.transaction)
    (footprint_of p.before p.transaction)).1 (made.holds, made.contents)

pub returns : goal.returns
returns c =
    let h = c.args.self.now in
    let i = c.prepared.inside in
    let p = change_of i in
    let are : c.deref.result.now ≡ changes_of p.before p.transaction = c.deref.ensures.value ∙ c.prepared.invariant.changes in
    let all : AllByRecursion (HoldsUnchanged (holding_of h)) (changes_of p.before p.transaction) =
    subst (AllByRecursion (HoldsUnchanged (holding_of h))) are (c.finds_all.ensures.0 c.if-not-finds_all.false) in
    let sizes : length i.before.value ≡ length h.seen = sym c.prepared.invariant.size ∙ c.if-prepared-size.false ∙ c.size.ensures.size
    ∙ ap (λ (v : Carried). length v.seen) c.self.view_is in
    let roomy = ap (λ (v : Carried). v.seat.room) c.self.view_is in
    let both : (IsTrue c.is_reserved.result → IsChangeMade (holding_of h) p) × (IsChangeMade (holding_of h) p → IsTrue c.is_reserved.result) = (
      λ yes. made_if_found (holding_of h) p sizes all (let room = c.is_reserved.ensures.0 yes in omega (arith, room, roomy)),
      λ made. c.is_reserved.ensures.1 (let room = made.room in omega (arith, room, roomy)),
    ) in
    subst (λ (q : Change). (IsTrue c.is_reserved.result → IsChangeMade (holding_of h) q)
    × (IsChangeMade (holding_of h) q → IsTrue c.is_reserved.result)) c.prepared.view_is both

pub returns-then-not-finds_all : goal.returns-then-not-finds_all
returns-then-not-finds_all c =
    let h = c.args.self.now in
    let i = c.prepared.inside in
    let p = change_of i in
    let are : changes_of p.before p.transaction ≡ c.deref.result.now = sym (c.deref.ensures.value ∙ c.prepared.invariant.changes) in (
      λ no. absurd (let never = no in cc),
      λ made. let all : AllByRecursion (HoldsUnchanged (holding_of h)) c.deref.result.now =
          subst (AllByRecursion (HoldsUnchanged (holding_of h))) are
          (found_if_made (holding_of h) p (subst (λ (q : Change). IsChangeMade (holding_of h) q) (sym c.prepared.view_is)
          made)) in
          sym c.if-not-finds_all.true ∙ c.finds_all.ensures.1 all,
    )
