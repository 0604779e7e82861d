-- One walk along a wait list finds the signs that are owed.
use Rattle.std.proofs.Common.{ℕ, zero, suc, ◌≡◌, ◌+◌, ◌==◌, ◌⊎◌, inl, inr, ⊎_elim, Bool, true, false, cond, List, [], ◌∷◌, ◌++◌, Option, Some, None, refl, sym, ap, ◌∙◌, subst, arith, append_assoc}
use Rattle.std.proofs.lemmas.Grind.{common_steps}
use Rattle.std.specs.Option.{option_map, option_or}
use Rattle.std.specs.List.{cons_option}
use Rattle.ww_word.specs.declared.owner.Owner.{Owner}
use Rattle.ww_queue.specs.declared.kind.Kind.{Kind}
use Rattle.ww_queue.specs.declared.kind.Kind.TheVariants.{WoundWait, WaitDie}
use Rattle.ww_queue.specs.declared.entry.Entry.{Entry}
use Rattle.ww_queue.specs.Entry.{has_context, is_holding}
use Rattle.ww_queue.specs.Queue.{Has, StandsNot, Once, first_before}
use Rattle.ww_queue.specs.Rules.{must_die, older_owner, owed_death, owed_deaths, owed_signs}
use Rattle.ww_queue.specs.AnySeats.{ahead_with, owed_behind, owed_past, signs_past}
use Rattle.ww_queue.proofs.Outcomes.{by_test, true_picks, false_picks, number_other}
use Rattle.ww_queue.proofs.Deaths.{must_die_of_entry}

-- the stamp of the first context of a front
ahead_in : List Entry → Option ℕ → Option ℕ
ahead_in [] ahead = ahead
ahead_in (e ∷ es) ahead = ahead_in es (ahead_with ahead e)

ahead_kept : (es : List Entry) (k : ℕ) → ahead_in es (Some k) ≡ Some k
unfolding ahead_in
ahead_kept [] k = refl
ahead_kept (e ∷ es) k = ahead_kept es k

same_eq : (n : ℕ) → (n == n) ≡ true
same_eq n = grind (arith, common_steps)

-- the first context before a seat that stands behind the front
first_is : (front rest : List Entry) (e : Entry) → StandsNot front e.seat
    → option_map (λ (x : Entry). x.stamp) (first_before (front ++ e ∷ rest) e.seat) ≡ ahead_in front None
unfolding ahead_in
first_is [] rest e out = ap (option_map (λ (x : Entry). x.stamp))
    (true_picks {A = Option Entry} (e.seat == e.seat) None (cond (has_context e) (Some e) (first_before rest e.seat)) (same_eq e.seat))
first_is (x ∷ xs) rest e out =
    let other : (x.seat == e.seat) ≡ false = number_other x.seat e.seat (out x (inl refl)) in
    ap (option_map (λ (y : Entry). y.stamp)) (false_picks {A = Option Entry} (x.seat == e.seat) None
    (cond (has_context x) (Some x) (first_before (xs ++ e ∷ rest) e.seat)) other)
    ∙ by_test (has_context x) (Some x) (first_before (xs ++ e ∷ rest) e.seat)
    (λ o. option_map (λ (y : Entry). y.stamp) o ≡ ahead_in xs (ahead_with None x))
    (λ is. sym (ap (ahead_in xs) (true_picks {A = Option ℕ} (has_context x) (Some x.stamp) None is) ∙ ahead_kept xs x.stamp))
    (λ isnt. first_is xs rest e (λ y h. out y (inr h))
    ∙ sym (ap (ahead_in xs) (false_picks {A = Option ℕ} (has_context x) (Some x.stamp) None isnt)))

append_has : {A : Type 0} (front rest : List A) (e : A) → Has (front ++ e ∷ rest) e
append_has [] rest e = inl refl
append_has (x ∷ xs) rest e = inr (append_has xs rest e)

append_out : (front rest : List Entry) (e : Entry) → Once (front ++ e ∷ rest) → StandsNot front e.seat
append_out [] rest e once = λ y h. absurd h
append_out (x ∷ xs) rest e once = λ y. ⊎_elim
    (λ same is. once.0 e (append_has xs rest e) (sym is ∙ ap (λ (z : Entry). z.seat) same))
    (append_out xs rest e once.1 y)

map_if : (b : Bool) (seat : ℕ) (x : Option ℕ) → option_map {U = ℕ × ℕ} (λ k. (seat, k)) (cond b x None) ≡ cond b (option_map {U = ℕ × ℕ} (λ k. (seat, k)) x) None
map_if true seat x = refl
map_if false seat x = refl

-- what one waiter is owed
death_is : (owner : Owner) (q front rest : List Entry) (e : Entry) → Once q → q ≡ front ++ e ∷ rest
    → must_die WaitDie owner q e.seat 0 ≡ cond (is_holding e) (option_or (older_owner owner e) (ahead_in front None)) None
death_is owner q front rest e once is =
    must_die_of_entry WaitDie owner q e 0 once (subst (λ (l : List Entry). Has l e) (sym is) (append_has front rest e))
    ∙ ap (λ (o : Option ℕ). cond (is_holding e) (option_or (older_owner owner e) o) None)
    (ap (λ (l : List Entry). option_map (λ (x : Entry). x.stamp) (first_before l e.seat)) is
    ∙ first_is front rest e (append_out front rest e (subst Once is once)))

behind_is : (owner : Owner) (me : ℕ) (q front rest : List Entry) (e : Entry) → Once q → q ≡ front ++ e ∷ rest
    → owed_death owner q me e.seat ≡ owed_behind owner me (ahead_in front None) e
behind_is owner me q front rest e once is =
    ap (λ (o : Option ℕ). cond (e.seat == me) None (option_map {U = ℕ × ℕ} (λ k. (e.seat, k)) o)) (death_is owner q front rest e once is)
    ∙ ap (λ (o : Option (ℕ × ℕ)). cond (e.seat == me) None o)
    (map_if (is_holding e) e.seat (option_or (older_owner owner e) (ahead_in front None)))

ahead_more : (front : List Entry) (e : Entry) (ahead : Option ℕ) → ahead_in (front ++ e ∷ []) ahead ≡ ahead_with (ahead_in front ahead) e
unfolding ahead_in
ahead_more [] e ahead = refl
ahead_more (x ∷ xs) e ahead = ahead_more xs e (ahead_with ahead x)

walk : (owner : Owner) (me : ℕ) (q front rest : List Entry) → Once q → q ≡ front ++ rest
    → owed_past owner me (ahead_in front None) zero rest ≡ owed_deaths owner q me rest
walk owner me q front [] once is = refl
walk owner me q front (e ∷ es) once is =
    let more = walk owner me q (front ++ e ∷ []) es once (is ∙ sym (append_assoc front (e ∷ []) es)) in
    let tail : owed_past owner me (ahead_with (ahead_in front None) e) zero es ≡ owed_deaths owner q me es =
    ap (λ (o : Option ℕ). owed_past owner me o zero es) (sym (ahead_more front e None)) ∙ more in
    (λ i. cons_option (sym (behind_is owner me q front es e once is) i) (tail i))

-- all signs are owed to the waiters from the first one on
pub signs_all : (kind : Kind) (owner : Owner) (q : List Entry) (me : ℕ) → Once q → signs_past kind owner q me 0 ≡ owed_signs kind owner q me
unfolding ahead_in
signs_all WoundWait owner q me once = refl
signs_all WaitDie owner q me once = walk owner me q [] q once refl

-- ---- one waiter further

module _ (owner : Owner) (me : ℕ) (q rest rs : List Entry) (w : Entry) (ahead after : Option ℕ) (place : ℕ)
    (is : rest ≡ w ∷ rs) (goes : after ≡ ahead_with ahead w)
    (told : (n : ℕ) → owed_past owner me None (place + n) q ≡ owed_past owner me ahead n rest) where
  pub ahead_next : (n : ℕ) → owed_past owner me None (place + 1 + n) q ≡ owed_past owner me after n rs
  ahead_next n = ap (λ (k : ℕ). owed_past owner me None k q) (let z : place + 1 + n ≡ place + suc n = omega arith in z)
      ∙ told (suc n) ∙ ap (owed_past owner me ahead (suc n)) is ∙ ap (λ (o : Option ℕ). owed_past owner me o n rs) (sym goes)

  here_is : owed_past owner me None (place + 0) q
      ≡ cons_option (owed_behind owner me ahead w) (owed_past owner me None (place + 1 + 0) q)
  here_is = told 0 ∙ ap (owed_past owner me ahead 0) is
      ∙ ap (λ (l : List (ℕ × ℕ)). cons_option (owed_behind owner me ahead w) l)
      (ap (λ (o : Option ℕ). owed_past owner me o 0 rs) (sym goes) ∙ sym (ahead_next 0))

  pub none_here : (owed : List (ℕ × ℕ)) (k j : ℕ) → k ≡ place → j ≡ place + 1 → owed_behind owner me ahead w ≡ None
      → owed ++ owed_past owner me None j q ≡ owed ++ owed_past owner me None k q
  none_here owed k j at next none = ap (λ (l : List (ℕ × ℕ)). owed ++ l)
      (ap (λ (n : ℕ). owed_past owner me None n q) (let z : j ≡ place + 1 + 0 = omega arith in z)
      ∙ sym (ap (λ (n : ℕ). owed_past owner me None n q) (let z : k ≡ place + 0 = omega arith in z)
      ∙ here_is ∙ ap (λ (o : Option (ℕ × ℕ)). cons_option o (owed_past owner me None (place + 1 + 0) q)) none))

  pub pair_here : (owed : List (ℕ × ℕ)) (p : ℕ × ℕ) (k j : ℕ) → k ≡ place → j ≡ place + 1 → owed_behind owner me ahead w ≡ Some p
      → (owed ++ p ∷ []) ++ owed_past owner me None j q ≡ owed ++ owed_past owner me None k q
  pair_here owed p k j at next some = append_assoc owed (p ∷ []) (owed_past owner me None j q) ∙ ap (λ (l : List (ℕ × ℕ)). owed ++ l)
      (ap (λ (n : ℕ). p ∷ owed_past owner me None n q) (let z : j ≡ place + 1 + 0 = omega arith in z)
      ∙ sym (ap (λ (n : ℕ). owed_past owner me None n q) (let z : k ≡ place + 0 = omega arith in z)
      ∙ here_is ∙ ap (λ (o : Option (ℕ × ℕ)). cons_option o (owed_past owner me None (place + 1 + 0) q)) some))
