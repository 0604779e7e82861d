-- From what the calls of a crew gave, to the history that its world was closed with.
use Rattle.std.proofs.Common.{◌≡◌, ℕ, zero, suc, ◌+◌, ◌<◌, ◌≤◌, Bool, true, false, inl, inr, eqb, List, [], ◌∷◌, ◌++◌, length, map, get_or, refl, sym, ap, subst, ◌∙◌, arith, zero-add, add-zero}
use Rattle.std.specs.Bool.{if◌then◌else◌}
use Rattle.std.specs.List.{AllByRecursion}
use Rattle.std.specs.Prelude.{◌==◌}
use Rattle.std.proofs.lemmas.Bool.{cases_lt, or_right}
use Rattle.std.proofs.lemmas.Bool.Decides.{nat_tests}
use Rattle.std.proofs.lemmas.List.{length-map, map_push}
use denote.Ref.{Bor}
use denote.Param.Members.{Shared}
use Rattle.ww_plain.specs.History.{Recorded, history_of, part_from, part_of}
use Rattle.ww_plain.proofs.Members.{eqb_same}
use Rattle.ww_plain.proofs.GraphFacts.{all_item}
use Rattle.ww_lock.specs.declared.close.History.{History}
use Rattle.ww_lock.specs.Holding.{Holding, Setting, IsAtHome, AreAtHome}
use Rattle.ww_lock.specs.Opened.{fresh, IsOpened}
use Rattle.ww_lock.specs.Closed.{has_pass, missing_of, AreParts, IsClosed}
use Rattle.ww_txn.specs.Crew.{Opening, IsBeginning, AllMeet, OwnMeet, CanWork, ComesBack, LeavesOwn, IsWorked, AreWorked, CanWorkEach, AreGiven, IsParted}

one_later : (k i : ℕ) → k + suc i ≡ suc k + i
one_later k i = omega arith

-- the passes of a world that was opened just now
pub beginning_at : (o : Opening) (w : Setting) (all : List Holding) → IsOpened w all o.first o.passes o.budget → w.kind ≡ o.kind
    → (i : ℕ) (d : Holding) → i < length all → IsBeginning o w (get_or all i d) × ((get_or all i d).caller ≡ i)
beginning_at o w all h kind i d lt =
    let is = h.passes_fresh.each i d lt in
    let number : (get_or all i d).caller ≡ i = ap (λ (s : Holding). s.caller) is in (
      record {
        kind_is = kind;
        graph_is = h.first_graph;
        count = h.count;
        home = all_item (λ (s : Holding). IsAtHome s w) all i d lt h.home;
        nothing = is ∙ ap (λ (c : ℕ). fresh w.home o.first o.budget c (get_or all i d).room) (sym number);
      },
      number,
    )

-- ---- passes in the order of their callers

-- the callers are numbers in a row, from this one on
abbrev pub AreNumbered : ℕ → List Holding → Type 0
AreNumbered k [] = Unit {0}
AreNumbered k (s ∷ ss) = (s.caller ≡ k) × AreNumbered (suc k) ss

has_each : (k : ℕ) (passes : List Holding) (i : ℕ) → AreNumbered k passes → i < length passes → has_pass passes (k + i) ≡ true
has_each k [] i h lt = absurd (omega (arith, lt))
has_each k (s ∷ passes) zero h lt = let same : (s.caller == k + 0) ≡ true = grind (arith, nat_tests, h.0) in rw same refl
has_each k (s ∷ passes) (suc i) h lt =
    or_right (s.caller == k + suc i) (has_pass passes (k + suc i))
    (subst (λ (n : ℕ). has_pass passes n ≡ true) (sym (one_later k i)) (has_each (suc k) passes i h.1 (omega (arith, lt))))

none_missing : (n : ℕ) (passes : List Holding) → ((k : ℕ) → k < n → has_pass passes k ≡ true) → missing_of n passes ≡ 0
none_missing zero passes each = refl
none_missing (suc n) passes each = rw (each n (omega arith)) (none_missing n passes (λ k lt. each k (omega (arith, lt))))

pub all_there : (n : ℕ) (passes : List Holding) → length passes ≡ n → AreNumbered 0 passes → missing_of n passes ≡ 0
all_there n passes count h = none_missing n passes (λ k lt.
    subst (λ (j : ℕ). has_pass passes j ≡ true) (zero-add k) (has_each 0 passes k h (omega (arith, lt, count))))

-- ---- what the logs are, the history is

later_meet : (test : Recorded → Bool) (own : Bool) (entry : ℕ × Recorded) (xs : List (ℕ × Recorded))
    → OwnMeet test (if own then entry ∷ xs else xs) → OwnMeet test xs
later_meet test true entry xs h = h.1
later_meet test false entry xs h = h

records_meet : (test : Recorded → Bool) (n place : ℕ) (rs : List Recorded)
    → ((c : ℕ) → c < n → OwnMeet test (part_from place c rs)) → AllByRecursion (λ r. r.caller < n) rs → AllMeet test rs
records_meet test n place [] parts callers = tt
records_meet test n place (r ∷ rs) parts callers =
    let rest = part_from (place + 1) r.caller rs in
    let own = subst (λ (b : Bool). OwnMeet test (if b then (place, r) ∷ rest else rest)) (eqb_same r.caller) (parts r.caller callers.0) in (
      own.0,
      records_meet test n (place + 1) rs
          (λ c lt. later_meet test (eqb r.caller c) (place, r) (part_from (place + 1) c rs) (parts c lt)) callers.1,
    )

-- ---- calls of the work

-- a list that is long enough has an element
some_pass : (passes : List Holding) (i : ℕ) → i < length passes → Holding
some_pass [] i lt = absurd (omega (arith, lt))
some_pass (s ∷ passes) i lt = s

module _ {F X : Type 0} (g : Shared F (Bor Setting × (Holding × Unit {0})) (Holding × X)) (f : F) where
  -- what was called for each pass in turn
  pub worked_from : (o : Opening) (w : Setting) (k : ℕ) (rs : List (Holding × X))
      → ((i : ℕ) (d : Holding × X) → i < length rs → IsWorked g f o w (k + i) (get_or rs i d).0 (get_or rs i d).1)
      → AreWorked g f o w k (map (λ (r : Holding × X). r.0) rs) (map (λ (r : Holding × X). r.1) rs)
  worked_from o w k [] each = tt
  worked_from o w k (r ∷ rs) each = (
    subst (λ (c : ℕ). IsWorked g f o w c r.0 r.1) (add-zero k) (each 0 r (omega arith)),
    worked_from o w (suc k) rs (λ i d lt. subst (λ (c : ℕ). IsWorked g f o w c (get_or rs i d).0 (get_or rs i d).1)
        (one_later k i) (each (suc i) d (omega (arith, lt)))),
  )

  -- ... where the passes were those of a world that was opened just now
  all_worked : (o : Opening) (w : Bor Setting) (begun : List Holding) (rs : List (Holding × X))
      → IsOpened w.now begun o.first o.passes o.budget → w.now.kind ≡ o.kind → AreGiven g f w begun rs
      → AreWorked g f o w.now 0 (map (λ (r : Holding × X). r.0) rs) (map (λ (r : Holding × X). r.1) rs)
  all_worked o w begun rs opened kind given = worked_from o w.now 0 rs (λ i r lt.
      let there : i < length begun = omega (arith, lt, given.count) in
      let s = some_pass begun i there in
      let first = beginning_at o w.now begun opened kind i s there in record {
        shown = w;
        shows = refl;
        begun = get_or begun i s;
        number = first.1 ∙ sym (zero-add i);
        beginning = first.0;
        gave = given.each i s r there;
      })

  pub worked_of : (o : Opening) (w : Bor Setting) (begun : List Holding) (rs : List (Holding × X)) (passes : List Holding)
      (values : List X) → IsOpened w.now begun o.first o.passes o.budget → w.now.kind ≡ o.kind → AreGiven g f w begun rs
      → IsParted rs passes values → AreWorked g f o w.now 0 passes values × (length passes ≡ w.now.passes)
  worked_of o w begun rs passes values opened kind given parted =
      let size : length (map (λ (r : Holding × X). r.0) rs) ≡ length rs = simp length-map in
      rw (parted.passes_are, parted.values_are) (
        all_worked o w begun rs opened kind given,
        size ∙ given.count ∙ opened.passes_fresh.count ∙ sym opened.count,
      )

  pub can_work : (o : Opening) (w : Bor Setting) (begun : List Holding) → IsOpened w.now begun o.first o.passes o.budget
      → w.now.kind ≡ o.kind → CanWork g f o → CanWorkEach g f w begun
  can_work o w begun opened kind can = λ i s lt. can w (get_or begun i s) (beginning_at o w.now begun opened kind i s lt).0

  began : (o : Opening) (w : Setting) (k : ℕ) (back : Holding) (value : X) (h : IsWorked g f o w k back value)
      → IsBeginning o h.shown.now h.begun
  began o w k back value h = subst (λ (v : Setting). IsBeginning o v h.begun) (sym h.shows) h.beginning

  -- the passes that came back are at home, and in the order of their callers
  pub came_back : (o : Opening) (w : Setting) (k : ℕ) (backs : List Holding) (values : List X) → ComesBack g f o
      → AreWorked g f o w k backs values → AreAtHome backs w × AreNumbered k backs
  came_back o w k [] [] comes h = (tt, tt)
  came_back o w k [] (value ∷ values) comes h = absurd h
  came_back o w k (back ∷ backs) [] comes h = absurd h
  came_back o w k (back ∷ backs) (value ∷ values) comes h =
      let call = h.0 in
      let mine = comes call.shown call.begun (back, value) (began o w k back value call) call.gave in
      let later = came_back o w (suc k) backs values comes h.1 in (
        (subst (λ (v : Setting). IsAtHome back v) call.shows mine.0, later.0),
        (mine.1 ∙ call.number, later.1),
      )

  owns_meet : (o : Opening) (w : Setting) (test : Recorded → Bool) (history : List Recorded) (k : ℕ) (backs : List Holding)
      (values : List X) → LeavesOwn g f o test → AreWorked g f o w k backs values → AreNumbered k backs → AreParts backs history
      → (c : ℕ) → k ≤ c → c < k + length backs → OwnMeet test (part_of c history)
  owns_meet o w test history k [] values leaves h numbers parts c le lt = absurd (omega (arith, le, lt))
  owns_meet o w test history k (back ∷ backs) [] leaves h numbers parts c le lt = absurd h
  owns_meet o w test history k (back ∷ backs) (value ∷ values) leaves h numbers parts c le lt = elim (cases_lt k c) [
    | inl more ↦ owns_meet o w test history (suc k) backs values leaves h.1 numbers.1 parts.1 c (omega (arith, more)) (omega (arith, lt))
    | inr no_more ↦
        let call = h.0 in
        let own = leaves call.shown call.begun (back, value) (began o w k back value call) call.gave in
        let here : back.caller ≡ c = omega (arith, numbers.0, le, no_more) in
        subst (λ (n : ℕ). OwnMeet test (part_of n history)) here (subst (OwnMeet test) (sym parts.0) own)
  ]

  -- what each log is, the history is
  pub history_meets : (o : Opening) (w : Setting) (test : Recorded → Bool) (backs : List Holding) (values : List X) (h : History)
      → ComesBack g f o → LeavesOwn g f o test → AreWorked g f o w 0 backs values → IsClosed w backs h
      → AllMeet test (history_of h.records.items)
  history_meets o w test backs values h comes leaves worked closed =
      let numbers = (came_back o w 0 backs values comes worked).1 in
      records_meet test w.passes 0 (history_of h.records.items)
      (λ c lt. owns_meet o w test (history_of h.records.items) 0 backs values leaves worked numbers closed.parts c (omega arith)
      (omega (arith, lt, closed.count)))
      closed.callers

-- a pass and a value more
pub parted_more : {X : Type 0} (rs : List (Holding × X)) (passes : List Holding) (values : List X) (s : Holding) (x : X)
    → IsParted rs passes values → IsParted (rs ++ (s, x) ∷ []) (passes ++ s ∷ []) (values ++ x ∷ [])
parted_more {X} rs passes values s x h = record {
  passes_are = ap (λ ss. ss ++ s ∷ []) h.passes_are ∙ sym (map_push (λ (r : Holding × X). r.0) rs (s, x));
  values_are = ap (λ xs. xs ++ x ∷ []) h.values_are ∙ sym (map_push (λ (r : Holding × X). r.1) rs (s, x));
}
