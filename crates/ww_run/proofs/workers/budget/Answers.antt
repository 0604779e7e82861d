use Rattle.std.proofs.Common.{rules, ◌≡◌, ◌≤◌, ◌<◌, ◌+◌, ℕ, zero, suc, List, [], ◌∷◌, length, get_or, sym, subst, arith}
use Rattle.std.specs.Ordering.{ord_max, nat_cmp}
use Rattle.std.specs.Global.{Vec}
use Rattle.ww_script_parts.specs.declared.acts.Act.{Act}
use Rattle.ww_run.proofs.workers.budget.Goals as goal

-- the greater of two numbers, and what both are within
max_first : (a b most : ℕ) → most ≡ ord_max nat_cmp a b → a ≤ most
max_first a b most is = search rules

max_second : (a b most : ℕ) → most ≡ ord_max nat_cmp a b → b ≤ most
max_second a b most is = search rules

max_within : (a b other most : ℕ) → most ≡ ord_max nat_cmp a b → a ≤ other → b ≤ other → most ≤ other
max_within a b other most is first second = search rules

-- one script more
one_more : (scripts : List (Vec Act)) (n most more : ℕ) (acts : Vec Act) → n < length scripts → acts ≡ get_or scripts n acts
    → most ≤ more → length acts.items ≤ more
    → ((k : ℕ) (d : Vec Act) → k < n → length (get_or scripts k d).items ≤ most)
    → (k : ℕ) (d : Vec Act) → k < n + 1 → length (get_or scripts k d).items ≤ more
one_more [] n most more acts there is up here before k d lt = absurd (omega (arith, there))
one_more (x ∷ xs) zero most more acts there is up here before zero d lt = subst (λ (v : Vec Act). length v.items ≤ more) is here
one_more (x ∷ xs) zero most more acts there is up here before (suc k) d lt = absurd (omega (arith, lt))
one_more (x ∷ xs) (suc n) most more acts there is up here before zero d lt = omega (arith, before 0 d (omega arith), up)
one_more (x ∷ xs) (suc n) most more acts there is up here before (suc k) d lt =
    one_more xs n most more acts (omega (arith, there)) is up here
    (λ j e low. before (suc j) e (omega (arith, low))) k d (omega (arith, lt))

pub loop-acts-preserved : goal.loop-acts-preserved
loop-acts-preserved c =
    let first = max_first c.loop-acts.most c.len.result c.max-most.result c.max-most.ensures in
    let second = max_second c.loop-acts.most c.len.result c.max-most.result c.max-most.ensures in
    let short : length c.acts-item.result.items ≤ c.max-most.result = search rules in (
      search rules,
      search rules,
      one_more c.args.scripts.now c.loop-acts.acts-index c.loop-acts.most c.max-most.result c.acts-item.result
          c.loop-acts-test.true c.acts-item.is first short c.loop-acts.invariant.2,
      λ other one all.
          let here : length c.acts-item.result.items ≤ other =
          subst (λ (v : Vec Act). length v.items ≤ other) (sym c.acts-item.is)
          (all c.loop-acts.acts-index c.acts-item.result (omega arith)) in
          max_within c.loop-acts.most c.len.result other c.max-most.result c.max-most.ensures
          (c.loop-acts.invariant.3 other one (λ k d lt. all k d (omega (arith, lt)))) (search rules),
    )
