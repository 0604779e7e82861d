-- Scripts, and what workers make of them.
use Rattle.std.proofs.Common.{◌≡◌, ℕ, zero, suc, ◌+◌, ◌<◌, Bool, true, false, List, [], ◌∷◌, ◌++◌, length, map, get_or, Result, Ok, IfOk, refl, sym, ap, subst, ◌∙◌, ◌||◌, arith, zero-add, add-zero}
use Rattle.std.specs.Global.{Vec}
use Rattle.std.specs.declared.alloc.AllocError.{AllocError}
use Rattle.std.specs.Prelude.{◌==◌}
use Rattle.std.proofs.lemmas.Bool.Decides.{nat_tests}
use Rattle.ww_plain.specs.History.{Recorded, part_of}
use Rattle.ww_lock.specs.Holding.{Holding, Setting, IsAtHome, AreAtHome}
use Rattle.ww_lock.specs.Closed.{has_pass, missing_of, AreParts}
use Rattle.ww_script.specs.Acts.{Action}
use Rattle.ww_script.specs.Said.{Said, said_of}
use Rattle.ww_script.specs.Outcome.{IsAnswered, AreAnswered}
use Rattle.ww_outcome.specs.declared.outcome.ScriptAnswer.{ScriptAnswer}
use Rattle.ww_run.specs.declared.worker.Work.{Work}
use Rattle.ww_run.specs.Workers.{HasRun, IsWork, AreWorks, AreParted}
use Rattle.ww_run.proofs.Acts.{one_later}

-- passes in the order of their callers, each of which says of its script what that was told
abbrev pub AreWorked : ℕ → List (List Action) → List (List Said) → List Holding → Type 0
AreWorked number [] [] [] = Unit {0}
AreWorked number (t ∷ ts) (saids ∷ replies) (s ∷ ss) =
    (s.caller ≡ number) × HasRun t saids s × AreWorked (number + 1) ts replies ss
AreWorked number _ _ _ = ⊥

-- a worker more
pub parted_more : (works : List Work) (passes : List Holding) (replies : List (Vec ScriptAnswer)) (work : Work)
    (pass : Holding) (answers : Vec ScriptAnswer)
    → AreParted works passes replies → work.pass ≡ pass → work.told ≡ Ok answers
    → AreParted (works ++ work ∷ []) (passes ++ pass ∷ []) (replies ++ answers ∷ [])
parted_more [] [] [] work pass answers h p q = (p, q, tt)
parted_more [] [] (x ∷ replies) work pass answers h p q = absurd h
parted_more [] (x ∷ passes) replies work pass answers h p q = absurd h
parted_more (x ∷ works) [] replies work pass answers h p q = absurd h
parted_more (x ∷ works) (y ∷ passes) [] work pass answers h p q = absurd h
parted_more (x ∷ works) (y ∷ passes) (z ∷ replies) work pass answers h p q =
    (h.0, h.1, parted_more works passes replies work pass answers h.2 p q)

worked : (w : Setting) (number : ℕ) (scripts : List (List Action)) (works : List Work) (passes : List Holding)
    (replies : List (Vec ScriptAnswer))
    → length works ≡ length scripts
    → ((i : ℕ) (t : List Action) (d : Work) → i < length scripts → IsWork w (number + i) (get_or scripts i t) (get_or works i d))
    → AreParted works passes replies
    → AreWorked number scripts (map (λ answers. map said_of answers.items) replies) passes × AreAtHome passes w
worked w number [] [] [] [] count each h = (tt, tt)
worked w number [] [] [] (x ∷ replies) count each h = absurd h
worked w number [] [] (x ∷ passes) replies count each h = absurd h
worked w number [] (x ∷ works) passes replies count each h = absurd (omega (arith, count))
worked w number (t ∷ scripts) [] passes replies count each h = absurd (omega (arith, count))
worked w number (t ∷ scripts) (work ∷ works) [] replies count each h = absurd h
worked w number (t ∷ scripts) (work ∷ works) (pass ∷ passes) [] count each h = absurd h
worked w number (t ∷ scripts) (work ∷ works) (pass ∷ passes) (answers ∷ replies) count each h =
    let mine : IsWork w (number + 0) t work = each 0 t work (omega arith) in
    let told : HasRun t (map said_of answers.items) work.pass =
    subst (λ (r : Result (Vec ScriptAnswer) AllocError). IfOk r (λ a. HasRun t (map said_of a.items) work.pass)) h.1 mine.told in
    let later = worked w (number + 1) scripts works passes replies (omega (arith, count))
    (λ i u d lt. subst (λ (k : ℕ). IsWork w k (get_or scripts i u) (get_or works i d)) (one_later number i)
    (each (suc i) u d (omega (arith, lt)))) h.2 in (
      (
        ap (λ s. s.caller) (sym h.0) ∙ mine.same_caller ∙ add-zero number,
        subst (HasRun t (map said_of answers.items)) h.0 told,
        later.0,
      ),
      (subst (λ (s : Holding). IsAtHome s w) h.0 mine.home, later.1),
    )

pub all_worked : (w : Setting) (scripts : List (List Action)) (works : List Work) (passes : List Holding)
    (replies : List (Vec ScriptAnswer))
    → AreWorks w scripts works → AreParted works passes replies
    → AreWorked 0 scripts (map (λ answers. map said_of answers.items) replies) passes × AreAtHome passes w
all_worked w scripts works passes replies h parted = worked w 0 scripts works passes replies h.count
    (λ i t d lt. subst (λ (k : ℕ). IsWork w k (get_or scripts i t) (get_or works i d)) (sym (zero-add i)) (h.each i t d lt))
    parted

or_right : (b c : Bool) → c ≡ true → (b || c) ≡ true
or_right true c e = refl
or_right false c e = e

-- each caller has its pass
has_each : (number : ℕ) (scripts : List (List Action)) (replies : List (List Said)) (passes : List Holding) (k : ℕ)
    → AreWorked number scripts replies passes → k < length passes → has_pass passes (number + k) ≡ true
has_each number [] [] [] k h lt = absurd (omega (arith, lt))
has_each number [] [] (s ∷ passes) k h lt = absurd h
has_each number [] (x ∷ replies) passes k h lt = absurd h
has_each number (t ∷ scripts) [] passes k h lt = absurd h
has_each number (t ∷ scripts) (x ∷ replies) [] k h lt = absurd h
has_each number (t ∷ scripts) (x ∷ replies) (s ∷ passes) zero h lt =
    let same : (s.caller == number + 0) ≡ true = grind (arith, nat_tests, h.0) in rw same refl
has_each number (t ∷ scripts) (x ∷ replies) (s ∷ passes) (suc k) h lt =
    or_right (s.caller == number + suc k) (has_pass passes (number + suc k))
    (subst (λ (n : ℕ). has_pass passes n ≡ true) (sym (one_later number k))
    (has_each (number + 1) scripts replies passes k h.2 (omega (arith, lt))))

none_missing : (n : ℕ) (passes : List Holding) → ((k : ℕ) → k < n → has_pass passes k ≡ true) → missing_of n passes ≡ 0
none_missing zero passes each = refl
none_missing (suc n) passes each = rw (each n (omega arith)) (none_missing n passes (λ k lt. each k (omega (arith, lt))))

pub length_worked : (number : ℕ) (scripts : List (List Action)) (replies : List (List Said)) (passes : List Holding)
    → AreWorked number scripts replies passes → length passes ≡ length scripts
length_worked number [] [] [] h = refl
length_worked number [] [] (s ∷ passes) h = absurd h
length_worked number [] (x ∷ replies) passes h = absurd h
length_worked number (t ∷ scripts) [] passes h = absurd h
length_worked number (t ∷ scripts) (x ∷ replies) [] h = absurd h
length_worked number (t ∷ scripts) (x ∷ replies) (s ∷ passes) h =
    ap suc (length_worked (number + 1) scripts replies passes h.2)

pub all_there : (n : ℕ) (scripts : List (List Action)) (replies : List (List Said)) (passes : List Holding)
    → n ≡ length scripts → AreWorked 0 scripts replies passes → missing_of n passes ≡ 0
all_there n scripts replies passes is h = none_missing n passes (λ k lt.
    subst (λ (j : ℕ). has_pass passes j ≡ true) (zero-add k)
    (has_each 0 scripts replies passes k h (omega (arith, lt, is, length_worked 0 scripts replies passes h))))

-- the parts of the history are the logs, and these are what the scripts came to
pub are_answered : (number : ℕ) (scripts : List (List Action)) (replies : List (List Said)) (passes : List Holding)
    (history : List Recorded)
    → AreWorked number scripts replies passes → AreParts passes history → AreAnswered number scripts replies history
are_answered number [] [] [] history h parts = tt
are_answered number [] [] (s ∷ passes) history h parts = absurd h
are_answered number [] (x ∷ replies) passes history h parts = absurd h
are_answered number (t ∷ scripts) [] passes history h parts = absurd h
are_answered number (t ∷ scripts) (x ∷ replies) [] history h parts = absurd h
are_answered number (t ∷ scripts) (x ∷ replies) (s ∷ passes) history h parts = (
  subst (λ (k : ℕ). IsAnswered 0 t x (part_of k history)) h.0
      (subst (λ (part : List (ℕ × Recorded)). IsAnswered 0 t x part) (sym parts.0) h.1.answered),
  are_answered (number + 1) scripts replies passes history h.2 parts.1,
)
