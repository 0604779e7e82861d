-- A script's acts, one after another, and what its pass says of them.
use Rattle.std.proofs.Common.{◌≡◌, ℕ, suc, ◌+◌, ◌≤◌, true, false, cond, List, [], ◌∷◌, ◌++◌, length, refl, sym, ap, subst, ◌∙◌, arith, zero-add, add-zero, append_assoc}
use Rattle.std.specs.List.{AllByRecursion}
use Rattle.std.specs.Prelude.{◌==◌}
use Rattle.std.proofs.lemmas.List.Sums.{sum_by-append}
use Rattle.ww_plain.specs.Meaning.{Answer}
use Rattle.ww_plain.specs.History.{Recorded}
use Rattle.ww_lock.specs.Holding.{Holding, Setting, IsAtHome, by_of}
use Rattle.ww_plain.specs.declared.node.TheConstants.{PORTS}
use Rattle.ww_script.specs.Acts.{Action, does, interruptible, cancels, IsActWithin}
use Rattle.ww_script.specs.Scripts.{ranges_of}
use Rattle.ww_script.specs.Said.{Said, answered, already, interrupted, cancelling}
use Rattle.ww_script.specs.Cancels.{cancelled_in, interrupters_in, times}
use Rattle.ww_script.specs.Outcome.{IsUnrecorded, IsActRecorded, IsAnswered}
use Rattle.ww_run.specs.Workers.{IsAfter, AddsAnswered, pendings_in, IsSaidBy, HasRun, IsReadyToRun}

pub one_later : (m n : ℕ) → m + suc n ≡ m + 1 + n
one_later m n = omega arith

-- ---- answers

-- an act without a record comes first
unrecorded_first : (seq : ℕ) (deed : Action) (said : Said) (deeds : List Action) (saids : List Said) (part : List (ℕ × Recorded))
    → IsUnrecorded said deed → IsAnswered seq deeds saids part → IsAnswered seq (deed ∷ deeds) (said ∷ saids) part
unrecorded_first seq deed (answered a) deeds saids part is h = absurd is
unrecorded_first seq deed (already n) deeds saids part is h = (is, h)
unrecorded_first seq deed (interrupted script) deeds saids part is h = (is, h)
unrecorded_first seq deed (cancelling set) deeds saids part is h = (is, h)

-- one act more without a record
unrecorded_more : (seq : ℕ) (deeds : List Action) (saids : List Said) (part : List (ℕ × Recorded)) (deed : Action) (said : Said)
    → IsAnswered seq deeds saids part → IsUnrecorded said deed
    → IsAnswered seq (deeds ++ deed ∷ []) (saids ++ said ∷ []) part
unrecorded_more seq [] [] [] deed said h is = unrecorded_first seq deed said [] [] [] is tt
unrecorded_more seq [] [] (p ∷ part) deed said h is = absurd h
unrecorded_more seq [] (s ∷ saids) part deed said h is = absurd h
unrecorded_more seq (x ∷ deeds) [] part deed said h is = absurd h
unrecorded_more seq (x ∷ deeds) (answered b ∷ saids) [] deed said h is = absurd h.0
unrecorded_more seq (x ∷ deeds) (answered b ∷ saids) (p ∷ part) deed said h is =
    (h.0, unrecorded_more (seq + 1) deeds saids part deed said h.1 is)
unrecorded_more seq (x ∷ deeds) (already m ∷ saids) part deed said h is =
    (h.0, unrecorded_more seq deeds saids part deed said h.1 is)
unrecorded_more seq (x ∷ deeds) (interrupted m ∷ saids) part deed said h is =
    (h.0, unrecorded_more seq deeds saids part deed said h.1 is)
unrecorded_more seq (x ∷ deeds) (cancelling m ∷ saids) part deed said h is =
    (h.0, unrecorded_more seq deeds saids part deed said h.1 is)

-- one act more that was recorded
recorded_more : (seq : ℕ) (deeds : List Action) (saids : List Said) (part : List (ℕ × Recorded)) (deed : Action) (a : Answer) (r : ℕ × Recorded)
    → IsAnswered seq deeds saids part → IsActRecorded deed (seq + length part) a r.1
    → IsAnswered seq (deeds ++ deed ∷ []) (saids ++ answered a ∷ []) (part ++ r ∷ [])
recorded_more seq [] [] [] deed a r h is = (subst (λ (k : ℕ). IsActRecorded deed k a r.1) (add-zero seq) is, tt)
recorded_more seq [] [] (p ∷ part) deed a r h is = absurd h
recorded_more seq [] (s ∷ saids) part deed a r h is = absurd h
recorded_more seq (x ∷ deeds) [] part deed a r h is = absurd h
recorded_more seq (x ∷ deeds) (answered b ∷ saids) [] deed a r h is = absurd h.0
recorded_more seq (x ∷ deeds) (answered b ∷ saids) (p ∷ part) deed a r h is = (
  h.0,
  recorded_more (seq + 1) deeds saids part deed a r h.1
      (subst (λ (k : ℕ). IsActRecorded deed k a r.1) (one_later seq (length part)) is),
)
recorded_more seq (x ∷ deeds) (already m ∷ saids) part deed a r h is = (h.0, recorded_more seq deeds saids part deed a r h.1 is)
recorded_more seq (x ∷ deeds) (interrupted m ∷ saids) part deed a r h is = (h.0, recorded_more seq deeds saids part deed a r h.1 is)
recorded_more seq (x ∷ deeds) (cancelling m ∷ saids) part deed a r h is = (h.0, recorded_more seq deeds saids part deed a r h.1 is)

-- one act more
answered_more : (deeds : List Action) (saids : List Said) (deed : Action) (said : Said) (s a : Holding)
    → IsAnswered 0 deeds saids s.own → AddsAnswered s deed said a → IsAnswered 0 (deeds ++ deed ∷ []) (saids ++ said ∷ []) a.own
answered_more deeds saids deed (answered answer) s a h adds = rw adds.2
    (recorded_more 0 deeds saids s.own deed answer (adds.0, adds.1) h
    (subst (λ (k : ℕ). IsActRecorded deed k answer adds.1) (sym (zero-add (length s.own))) adds.3))
answered_more deeds saids deed (already n) s a h adds = rw adds.0 (unrecorded_more 0 deeds saids s.own deed (already n) h adds.1)
answered_more deeds saids deed (interrupted n) s a h adds = rw adds.0 (unrecorded_more 0 deeds saids s.own deed (interrupted n) h adds.1)
answered_more deeds saids deed (cancelling n) s a h adds = rw adds.0 (unrecorded_more 0 deeds saids s.own deed (cancelling n) h adds.1)

-- as many acts as answers
same_number : (seq : ℕ) (deeds : List Action) (saids : List Said) (part : List (ℕ × Recorded)) → IsAnswered seq deeds saids part
    → length deeds ≡ length saids
same_number seq [] [] part h = refl
same_number seq [] (s ∷ saids) part h = absurd h
same_number seq (x ∷ deeds) [] part h = absurd h
same_number seq (x ∷ deeds) (answered b ∷ saids) [] h = absurd h.0
same_number seq (x ∷ deeds) (answered b ∷ saids) (p ∷ part) h = ap suc (same_number (seq + 1) deeds saids part h.1)
same_number seq (x ∷ deeds) (already m ∷ saids) part h = ap suc (same_number seq deeds saids part h.1)
same_number seq (x ∷ deeds) (interrupted m ∷ saids) part h = ap suc (same_number seq deeds saids part h.1)
same_number seq (x ∷ deeds) (cancelling m ∷ saids) part h = ap suc (same_number seq deeds saids part h.1)

-- ---- cancels and interruptions

-- what one act cancelled, and the rest
cancelled_first : (x : Action) (s : Said) (deeds : List Action) (saids : List Said)
    → cancelled_in (x ∷ deeds) (s ∷ saids) ≡ cancelled_in (x ∷ []) (s ∷ []) ++ cancelled_in deeds saids
cancelled_first (does t) s deeds saids = refl
cancelled_first (interruptible t) s deeds saids = refl
cancelled_first (cancels v) (answered a) deeds saids = refl
cancelled_first (cancels v) (already n) deeds saids = refl
cancelled_first (cancels v) (interrupted n) deeds saids = refl
cancelled_first (cancels v) (cancelling true) deeds saids = refl
cancelled_first (cancels v) (cancelling false) deeds saids = refl

cancelled_more : (deeds : List Action) (saids : List Said) (deed : Action) (said : Said) → length deeds ≡ length saids
    → cancelled_in (deeds ++ deed ∷ []) (saids ++ said ∷ []) ≡ cancelled_in deeds saids ++ cancelled_in (deed ∷ []) (said ∷ [])
cancelled_more [] [] deed said same = refl
cancelled_more [] (s ∷ saids) deed said same = absurd (omega (arith, same))
cancelled_more (x ∷ deeds) [] deed said same = absurd (omega (arith, same))
cancelled_more (x ∷ deeds) (s ∷ saids) deed said same =
    let one = cancelled_in (x ∷ []) (s ∷ []) in
    let last = cancelled_in (deed ∷ []) (said ∷ []) in
    cancelled_first x s (deeds ++ deed ∷ []) (saids ++ said ∷ [])
    ∙ ap (λ rest. one ++ rest) (cancelled_more deeds saids deed said (omega (arith, same)))
    ∙ sym (append_assoc one (cancelled_in deeds saids) last)
    ∙ ap (λ all. all ++ last) (sym (cancelled_first x s deeds saids))

interrupters_more : (saids : List Said) (said : Said)
    → interrupters_in (saids ++ said ∷ []) ≡ interrupters_in saids ++ interrupters_in (said ∷ [])
interrupters_more [] said = refl
interrupters_more (answered a ∷ saids) said = interrupters_more saids said
interrupters_more (already n ∷ saids) said = interrupters_more saids said
interrupters_more (interrupted n ∷ saids) said = ap (λ rest. n ∷ rest) (interrupters_more saids said)
interrupters_more (cancelling set ∷ saids) said = interrupters_more saids said

pendings_more : (saids : List Said) (said : Said) → pendings_in (saids ++ said ∷ []) ≡ pendings_in saids + pendings_in (said ∷ [])
pendings_more [] said = omega arith
pendings_more (answered a ∷ saids) said = pendings_more saids said
pendings_more (already n ∷ saids) said = pendings_more saids said
pendings_more (interrupted n ∷ saids) said = pendings_more saids said
pendings_more (cancelling true ∷ saids) said = pendings_more saids said
pendings_more (cancelling false ∷ saids) said = let rest = pendings_more saids said in omega (arith, rest)

pub times_both : (n : ℕ) (ks ls : List ℕ) → times n (ks ++ ls) ≡ times n ks + times n ls
times_both n ks ls = sum_by-append (λ k. cond (k == n) 1 0) ks ls

-- what is counted before and now is counted in the whole
counted_more : (n : ℕ) (now counted more all last : List ℕ) → now ≡ last ++ counted → all ≡ more ++ last
    → times n counted ≡ times n more → times n now ≡ times n all
counted_more n now counted more all last is whole same =
    omega (arith, ap (times n) is, ap (times n) whole, times_both n last counted, times_both n more last, same)

-- one act more
ran_more : (deeds : List Action) (saids : List Said) (deed : Action) (said : Said) (s a : Holding)
    → HasRun deeds saids s → IsSaidBy s deed said a → HasRun (deeds ++ deed ∷ []) (saids ++ said ∷ []) a
ran_more deeds saids deed said s a h told = record {
  answered = answered_more deeds saids deed said s a h.answered told.own;
  cancelled = λ victim. counted_more victim a.cancelled s.cancelled (cancelled_in deeds saids) _ _ told.cancelled
      (cancelled_more deeds saids deed said (same_number 0 deeds saids s.own h.answered)) (h.cancelled victim);
  pendings = told.pendings ∙ ap (λ (k : ℕ). k + pendings_in (said ∷ [])) h.pendings ∙ sym (pendings_more saids said);
  interrupted = λ script. counted_more script (by_of a.interrupted) (by_of s.interrupted) (interrupters_in saids) _ _ told.interrupted
      (interrupters_more saids said) (h.interrupted script);
}

-- ---- a script under way

-- How far a script has come: the acts done, and those to come, for which there is budget.
pub record IsUnderWay (w : Setting) (number : ℕ) (deeds rest : List Action) (saids : List Said) (s : Holding) : Type 0 where
  pub done : List Action
  pub parts : deeds ≡ done ++ rest
  pub ran : HasRun done saids s
  pub home : IsAtHome s w
  pub same_caller : s.caller ≡ number
  pub budget : length rest ≤ s.left
  pub suit : AllByRecursion (IsActWithin (ranges_of (length w.first) PORTS w.passes)) rest

pub under_way : (w : Setting) (number : ℕ) (deeds : List Action) (s : Holding) → IsReadyToRun w number deeds s
    → IsUnderWay w number deeds deeds [] s
under_way w number deeds s h = record {
  done = [];
  parts = refl;
  ran = record {
    answered = rw h.nothing tt;
    cancelled = λ victim. ap (times victim) h.none_cancelled;
    pendings = h.none_pending;
    interrupted = λ script. ap (λ all. times script (by_of all)) h.uninterrupted;
  };
  home = h.home;
  same_caller = h.same_caller;
  budget = h.budget;
  suit = h.suit;
}

-- one act more
pub one_more : (w : Setting) (number : ℕ) (deeds now rest : List Action) (saids more : List Said) (deed : Action)
    (said : Said) (s a : Holding)
    → now ≡ deed ∷ rest → more ≡ saids ++ said ∷ []
    → IsUnderWay w number deeds now saids s → IsAtHome a w → IsAfter s a → IsSaidBy s deed said a
    → IsUnderWay w number deeds rest more a
one_more w number deeds now rest saids more deed said s a first grown h home after told =
    let under : IsUnderWay w number deeds (deed ∷ rest) saids s =
    subst (λ (xs : List Action). IsUnderWay w number deeds xs saids s) first h in record {
      done = under.done ++ deed ∷ [];
      parts = under.parts ∙ sym (append_assoc under.done (deed ∷ []) rest);
      ran = rw grown (ran_more under.done saids deed said s a under.ran told);
      home = home;
      same_caller = after.same_caller ∙ under.same_caller;
      budget = omega (arith, under.budget, after.budget);
      suit = under.suit.1;
    }
