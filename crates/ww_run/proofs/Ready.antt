-- A world that was opened for scripts: its passes are ready for them.
use Rattle.std.proofs.Common.{◌≡◌, ℕ, zero, suc, ◌<◌, ◌≤◌, List, [], ◌∷◌, length, map, get_or, sym, ap, subst, ◌∙◌, arith}
use Rattle.std.proofs.lemmas.List.{length-map}
use Rattle.std.specs.List.{AllByRecursion}
use Rattle.std.specs.Global.{Vec}
use Rattle.ww_plain.specs.declared.node.Node.{Node}
use Rattle.ww_script_parts.specs.declared.acts.Act.{Act}
use Rattle.ww_script.specs.Acts.{Action, deed_of, IsActWithin}
use Rattle.ww_plain.proofs.GraphFacts.{all_item}
use Rattle.ww_lock.specs.Holding.{Holding, Setting, IsAtHome}
use Rattle.ww_lock.specs.Opened.{IsOpened}
use Rattle.ww_script_parts.specs.declared.ranges.Ranges.{Ranges}
use Rattle.ww_plain.specs.declared.node.TheConstants.{PORTS}
use Rattle.ww_script.specs.Scripts.{IsScript, ranges_of}
use Rattle.ww_run.specs.Workers.{AreShort, AreNoLonger, IsBudget, AreReady}

abbrev lists : List (Vec Act) → List (List Action)
lists scripts = map (λ (acts : Vec Act). map deed_of acts.items) scripts

-- no script of a plan has more than 10,000 transactions
pub few_each : (ranges : Ranges) (scripts : List (Vec Act)) → AllByRecursion (IsScript ranges) (lists scripts)
    → (i : ℕ) (d : Vec Act) → i < length scripts → length (get_or scripts i d).items ≤ 10000
few_each ranges [] all i d lt = absurd (omega (arith, lt))
few_each ranges (acts ∷ scripts) all zero d lt = omega (arith, all.0.few, length-map acts.items deed_of)
few_each ranges (acts ∷ scripts) all (suc i) d lt = few_each ranges scripts all.1 i d (omega (arith, lt))

-- what bounds each script bounds it as a list
short_each : (budget : ℕ) (scripts : List (Vec Act))
    → ((i : ℕ) (d : Vec Act) → i < length scripts → length (get_or scripts i d).items ≤ budget)
    → (i : ℕ) (t : List Action) → i < length (lists scripts) → length (get_or (lists scripts) i t) ≤ budget
short_each budget [] each i t lt = absurd (omega (arith, lt))
short_each budget (acts ∷ scripts) each zero t lt =
    omega (arith, each 0 acts (omega arith), length-map acts.items deed_of)
short_each budget (acts ∷ scripts) each (suc i) t lt =
    short_each budget scripts (λ j d low. each (suc j) d (omega (arith, low))) i t (omega (arith, lt))

-- what bounds each script as a list bounds it
long_each : (other : ℕ) (scripts : List (Vec Act)) → AreNoLonger other (lists scripts) → AreShort other scripts
long_each other [] each i d lt = absurd (omega (arith, lt))
long_each other (acts ∷ scripts) each zero d lt =
    omega (arith, each 0 (map deed_of acts.items) (omega arith), length-map acts.items deed_of)
long_each other (acts ∷ scripts) each (suc i) d lt =
    long_each other scripts (λ j t low. each (suc j) t (omega (arith, low))) i d (omega (arith, lt))

-- the least number that bounds the scripts bounds them as lists
pub is_budget : (budget : ℕ) (scripts : List (Vec Act)) → 1 ≤ budget → AreShort budget scripts
    → ((other : ℕ) → 1 ≤ other → AreShort other scripts → budget ≤ other) → IsBudget (lists scripts) budget
is_budget budget scripts some each least = record {
  some = some;
  enough = short_each budget scripts each;
  least = λ other one all. least other one (long_each other scripts all);
}

-- a world has as many passes as there are scripts
pub same_count : (w : Setting) (scripts : List (Vec Act)) (passes : List Holding) (first : List Node) (count budget : ℕ)
    → IsOpened w passes first count budget → count ≡ length scripts → w.passes ≡ length (lists scripts)
same_count w scripts passes first count budget opened many = opened.count ∙ many
    ∙ sym (length-map scripts (λ (acts : Vec Act). map deed_of acts.items))

pub are_ready : (w : Setting) (scripts : List (Vec Act)) (passes : List Holding) (first : List Node) (count budget : ℕ)
    → IsOpened w passes first count budget → count ≡ length scripts
    → AllByRecursion (IsScript (ranges_of (length first) PORTS (length (lists scripts)))) (lists scripts)
    → IsBudget (lists scripts) budget → AreReady w (lists scripts) passes
are_ready w scripts passes first count budget opened many all is_budget =
    let same : length (lists scripts) ≡ length scripts = length-map scripts (λ (acts : Vec Act). map deed_of acts.items) in
    record {
      count = opened.passes_fresh.count ∙ many ∙ sym same;
      budget = λ i d there. subst (IsBudget (lists scripts)) (sym (ap (λ s. s.left) (opened.passes_fresh.each i d there))) is_budget;
      each = λ i t d lt.
          let there : i < length passes = omega (arith, lt, same, many, opened.passes_fresh.count) in
          let is = opened.passes_fresh.each i d there in
          let ranges : ℕ → ℕ → Ranges = λ nodes count. ranges_of nodes PORTS count in
          let number = length (lists scripts) in
          let script : IsScript (ranges (length first) number) (get_or (lists scripts) i t) =
          all_item (IsScript (ranges (length first) number)) (lists scripts) i t lt all in
          record {
            home = all_item (λ s. IsAtHome s w) passes i d there opened.home;
            same_caller = ap (λ s. s.caller) is;
            nothing = ap (λ s. s.own) is;
            none_cancelled = ap (λ s. s.cancelled) is;
            none_pending = ap (λ s. s.pendings) is;
            uninterrupted = ap (λ s. s.interrupted) is;
            budget = omega (arith, is_budget.enough i t lt, ap (λ s. s.left) is);
            suit = subst (λ (n : ℕ). AllByRecursion (IsActWithin (ranges (length w.first) n)) (get_or (lists scripts) i t))
                (sym (same_count w scripts passes first count budget opened many))
                (subst (λ (g : List Node). AllByRecursion (IsActWithin (ranges (length g) number))
                (get_or (lists scripts) i t)) (sym opened.first_graph) script.suit);
          };
    }
