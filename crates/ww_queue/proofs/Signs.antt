-- Which waiter is owed a sign, and why.
use Rattle.std.proofs.Common.{ℕ, ◌≡◌, ◌≢◌, ◌⊎◌, ◌<◌, ◌≤◌, ◌==◌, ◌↔◌, inl, inr, ⊎_elim, false, min, nat_le, List, [], ◌∷◌, Option, Some, None, refl, sym, ap, ◌∙◌, subst, arith}
use Rattle.std.specs.Option.{option_map}
use Rattle.std.proofs.lemmas.Option.{cond_some, some_pair_parts}
use Rattle.std.proofs.lemmas.Grind.{common_steps}
use Rattle.ww_word.specs.declared.owner.Owner.{Owner}
use Rattle.ww_word.specs.Owner.{is_handed}
use Rattle.ww_queue.specs.declared.kind.Kind.{Kind}
use Rattle.ww_queue.specs.declared.kind.Kind.TheVariants.{WoundWait, WaitDie}
use Rattle.ww_queue.specs.declared.entry.Entry.{Entry}
use Rattle.ww_queue.specs.Entry.{is_older, IsOlder, is_holding, IsHolding}
use Rattle.ww_queue.specs.Queue.{Has}
use Rattle.ww_queue.specs.Rules.{must_die, taker_of, least_of, holding_stamp, least_holding, owed_wound, owed_death, owed_signs}
use Rattle.ww_queue.specs.Laws.{IsLeastHolding, IsWounded}
use Rattle.ww_queue.proofs.Outcomes.{by_test, true_picks, false_picks, other_number, number_other, older_true, true_older, holding_true, true_holding}
use Rattle.ww_queue.proofs.Members.{filter_map_from, filter_map_has}
use Rattle.ww_queue.proofs.Deaths.{must_die_why}

pair_why : (o : Option ℕ) (s seat k : ℕ) → option_map {U = ℕ × ℕ} (λ n. (s, n)) o ≡ Some (seat, k) → (s ≡ seat) × (o ≡ Some k)
pair_why None s seat k is = absurd cc
pair_why (Some n) s seat k is = let parts = some_pair_parts s seat n k is in (parts.0, ap Some parts.1)

-- in Wait-Die whoever is signed has to die, and isn't the seat inside
pub signed_why : (owner : Owner) (q : List Entry) (me seat k : ℕ) → Has (owed_signs WaitDie owner q me) (seat, k)
    → (seat ≢ me) × (must_die WaitDie owner q seat 0 ≡ Some k)
signed_why owner q me seat k h =
    let from = filter_map_from (λ (e : Entry). owed_death owner q me e.seat) q (seat, k) h in
    by_test (from.0.seat == me) None (option_map {U = ℕ × ℕ} (λ n. (from.0.seat, n))
    (must_die WaitDie owner q from.0.seat 0))
    (λ o. o ≡ Some (seat, k) → (seat ≢ me) × (must_die WaitDie owner q seat 0 ≡ Some k))
    (λ _ is. absurd cc)
    (λ isnt is. let pair = pair_why (must_die WaitDie owner q from.0.seat 0) from.0.seat seat k is in (
      subst (λ s. s ≢ me) pair.0 (other_number from.0.seat me isnt),
      subst (λ s. must_die WaitDie owner q s 0 ≡ Some k) pair.0 pair.1,
    )) from.2

-- in Wait-Die whoever has to die and isn't the seat inside is signed
pub signed_when : (owner : Owner) (q : List Entry) (me seat k : ℕ) → seat ≢ me
    → must_die WaitDie owner q seat 0 ≡ Some k → Has (owed_signs WaitDie owner q me) (seat, k)
signed_when owner q me seat k other dies =
    let own = must_die_why WaitDie owner q seat 0 k dies in
    let pair : owed_death owner q me seat ≡ Some (seat, k) =
    false_picks {A = Option (ℕ × ℕ)} (seat == me) None
    (option_map {U = ℕ × ℕ} (λ n. (seat, n)) (must_die WaitDie owner q seat 0)) (number_other seat me other)
    ∙ ap (option_map {U = ℕ × ℕ} (λ n. (seat, n))) dies in
    filter_map_has (λ (e : Entry). owed_death owner q me e.seat) q own.0 (seat, k) own.1 (ap (owed_death owner q me) own.2 ∙ pair)

pub signs_are_deaths : (owner : Owner) (q : List Entry) (me seat k : ℕ)
    → Has (owed_signs WaitDie owner q me) (seat, k) ↔ ((seat ≢ me) × (must_die WaitDie owner q seat 0 ≡ Some k))
signs_are_deaths owner q me seat k = (signed_why owner q me seat k, λ why. signed_when owner q me seat k why.0 why.1)

holding_why : (e : Entry) (k : ℕ) → holding_stamp e ≡ Some k → IsHolding e × (e.stamp ≡ k)
holding_why e k is = let both = cond_some (is_holding e) e.stamp k is in (holding_true e both.0, both.1)

holding_when : (e : Entry) → IsHolding e → holding_stamp e ≡ Some e.stamp
holding_when e holding = true_picks {A = Option ℕ} (is_holding e) (Some e.stamp) None (true_holding e holding)

-- the smaller of two stamps is one of them, and not above the other
least_from : (a b : Option ℕ) (k : ℕ) → least_of a b ≡ Some k → ((a ≡ Some k) × ((m : ℕ) → b ≡ Some m → k ≤ m))
    ⊎ ((b ≡ Some k) × ((m : ℕ) → a ≡ Some m → k ≤ m))
least_from None b k is = inr (is, λ m none. absurd cc)
least_from (Some i) None k is = inl (is, λ m none. absurd cc)
least_from (Some i) (Some j) k is = let same : min i j ≡ k = cc in
    by_test (nat_le i j) (inl (i, j)) (inr (i, j))
    (λ (_ : (ℕ × ℕ) ⊎ (ℕ × ℕ)). ((Some i ≡ Some k) × ((m : ℕ) → Some j ≡ Some m → k ≤ m))
    ⊎ ((Some j ≡ Some k) × ((m : ℕ) → Some i ≡ Some m → k ≤ m)))
    (λ le. let first : i ≤ j = grind (arith, common_steps) in inl (ap Some (omega arith), λ m is'. let e : j ≡ m = cc in omega arith))
    (λ gt. let second : j ≤ i = grind (arith, common_steps) in inr (ap Some (omega arith), λ m is'. let e : i ≡ m = cc in omega arith))

least_left : (m : ℕ) (b : Option ℕ) → (k : ℕ) × (least_of (Some m) b ≡ Some k) × (k ≤ m)
least_left m None = (m, refl, omega arith)
least_left m (Some j) = (min m j, refl, omega arith)

least_right : (a : Option ℕ) (m : ℕ) → (k : ℕ) × (least_of a (Some m) ≡ Some k) × (k ≤ m)
least_right None m = (m, refl, omega arith)
least_right (Some i) m = (min i m, refl, omega arith)

-- a waiter that holds locks is not older than the oldest one
pub least_when : (q : List Entry) (e : Entry) → Has q e → IsHolding e → (k : ℕ) × (least_holding q ≡ Some k) × (k ≤ e.stamp)
least_when [] e h holding = absurd h
least_when (x ∷ xs) e h holding = ⊎_elim
    (λ same. subst (λ o. (k : ℕ) × (least_of o (least_holding xs) ≡ Some k) × (k ≤ e.stamp))
    (sym (ap holding_stamp (sym same) ∙ holding_when e holding)) (least_left e.stamp (least_holding xs)))
    (λ later. let rest = least_when xs e later holding in let all = least_right (holding_stamp x) rest.0 in
    let le = rest.2 in let le' = all.2 in
    (all.0, ap (least_of (holding_stamp x)) rest.1 ∙ all.1, omega arith)) h

-- the least stamp is that of a waiter that holds locks, and no such waiter has a smaller one
pub least_why : (q : List Entry) (k : ℕ) → least_holding q ≡ Some k → IsLeastHolding q k
least_why [] k is = absurd cc
least_why (x ∷ xs) k is = ⊎_elim
    (λ here. let own = holding_why x k here.0 in record {
      waiter = x;
      stands = inl refl;
      holds = own.0;
      stamp = own.1;
      least = λ e h holding. ⊎_elim (λ same. let j = ap (λ (z : Entry). z.stamp) same in let s = own.1 in omega arith)
          (λ later. let rest = least_when xs e later holding in let le = here.1 rest.0 rest.1 in let le' = rest.2 in omega arith) h;
    })
    (λ there. let r = least_why xs k there.0 in record {
      waiter = r.waiter;
      stands = inr r.stands;
      holds = r.holds;
      stamp = r.stamp;
      least = λ e h holding. ⊎_elim
          (λ same. there.1 e.stamp (ap holding_stamp (sym same) ∙ holding_when e holding))
          (λ later. r.least e later holding) h;
    })
    (least_from (holding_stamp x) (least_holding xs) k is)

pub least_is : (q : List Entry) (k : ℕ) → IsLeastHolding q k → least_holding q ≡ Some k
least_is q k l =
    let found = least_when q l.waiter l.stands l.holds in
    let other = least_why q found.0 found.1 in
    let le = found.2 in let le' = l.least other.waiter other.stands other.holds in let s = l.stamp in let s' = other.stamp in
    found.1 ∙ ap Some (omega arith)

taker_why : (owner : Owner) (seat : ℕ) → taker_of owner ≡ Some seat → (owner.seat ≡ Some seat) × (is_handed owner ≡ false)
taker_why owner seat = by_test (is_handed owner) None owner.seat (λ o. o ≡ Some seat → (owner.seat ≡ Some seat) × (is_handed owner ≡ false))
    (λ _ is. absurd cc) (λ taken is. (is, taken))

wound_why : (o : Option ℕ) (stamp : ℕ) (l : Option ℕ) (seat k : ℕ) → Has (owed_wound o stamp l) (seat, k)
    → (o ≡ Some seat) × (l ≡ Some k) × IsOlder k stamp
wound_why None stamp l seat k = λ h. absurd h
wound_why (Some s) stamp None seat k = λ h. absurd h
wound_why (Some s) stamp (Some m) seat k =
    by_test (is_older m stamp) ((s, m) ∷ []) []
    (λ ps. Has ps (seat, k) → (Some s ≡ Some seat) × (Some m ≡ Some k) × IsOlder k stamp)
    (λ is. ⊎_elim (λ same. let older = older_true m stamp is in let e : k ≡ m = ap (λ (p : ℕ × ℕ). p.1) same in
    (ap (λ (p : ℕ × ℕ). Some p.0) (sym same), ap Some (sym e), subst (λ n. IsOlder n stamp) (sym e) older))
    (λ a. absurd a)) (λ _ h. absurd h)

wound_when : (seat stamp k : ℕ) → IsOlder k stamp → owed_wound (Some seat) stamp (Some k) ≡ (seat, k) ∷ []
wound_when seat stamp k older = true_picks {A = List (ℕ × ℕ)} (is_older k stamp) ((seat, k) ∷ []) [] (true_older k stamp older)

-- in Wound-Wait whoever is signed owns the lock and is younger than the oldest waiter that holds locks
pub wounded_why : (owner : Owner) (q : List Entry) (me seat k : ℕ) → Has (owed_signs WoundWait owner q me) (seat, k)
    → IsWounded owner q seat k
wounded_why owner q me seat k h =
    let why = wound_why (taker_of owner) owner.stamp (least_holding q) seat k h in let taker = taker_why owner seat why.0 in
    record { owns = taker.0; taken = taker.1; oldest = least_why q k why.1; older = why.2 }

-- in Wound-Wait such an owner is signed, and nobody else
pub wounded_when : (owner : Owner) (q : List Entry) (me seat k : ℕ) → IsWounded owner q seat k
    → owed_signs WoundWait owner q me ≡ (seat, k) ∷ []
wounded_when owner q me seat k w =
    ap (λ o. owed_wound o owner.stamp (least_holding q)) (false_picks {A = Option ℕ} (is_handed owner) None owner.seat w.taken ∙ w.owns)
    ∙ ap (owed_wound (Some seat) owner.stamp) (least_is q k w.oldest) ∙ wound_when seat owner.stamp k w.older

-- an older waiter that holds locks makes the owner owed a sign
pub wounded_some : (owner : Owner) (q : List Entry) (me seat : ℕ) (e : Entry) → owner.seat ≡ Some seat
    → is_handed owner ≡ false → Has q e → IsHolding e → e.stamp < owner.stamp
    → (k : ℕ) × (owed_signs WoundWait owner q me ≡ (seat, k) ∷ [])
wounded_some owner q me seat e owns taken h holding older =
    let found = least_when q e h holding in let l = least_why q found.0 found.1 in
    let le = found.2 in let s = l.stamp in let some = l.holds.0 in
    (found.0, wounded_when owner q me seat found.0 (record { owns = owns; taken = taken; oldest = l; older = (omega arith, omega arith) }))

one_at_most : (o : Option ℕ) (stamp : ℕ) (l : Option ℕ) → ((seat k : ℕ) → ¬ Has (owed_wound o stamp l) (seat, k))
    → owed_wound o stamp l ≡ []
one_at_most None stamp l = λ _. refl
one_at_most (Some s) stamp None = λ _. refl
one_at_most (Some s) stamp (Some m) = by_test (is_older m stamp) ((s, m) ∷ []) [] (λ ps. ((seat k : ℕ) → ¬ Has ps (seat, k)) → ps ≡ [])
    (λ _ none. absurd (none s m (inl refl))) (λ _ _. refl)

pub sign_is_wound : (owner : Owner) (q : List Entry) (me : ℕ) →
    ((seat k : ℕ) → (owed_signs WoundWait owner q me ≡ (seat, k) ∷ []) ↔ IsWounded owner q seat k)
    × (((seat k : ℕ) → ¬ IsWounded owner q seat k) → owed_signs WoundWait owner q me ≡ [])
sign_is_wound owner q me = (
  λ seat k. (λ is. wounded_why owner q me seat k (subst (λ ps. Has ps (seat, k)) (sym is) (inl refl)), wounded_when owner q me seat k),
  λ none. one_at_most (taker_of owner) owner.stamp (least_holding q) (λ seat k h. none seat k (wounded_why owner q me seat k h)),
)

-- a seat is owed one stamp only
pub owed_once : (kind : Kind) (owner : Owner) (q : List Entry) (me seat k m : ℕ)
    → Has (owed_signs kind owner q me) (seat, k) → Has (owed_signs kind owner q me) (seat, m) → k ≡ m
owed_once WoundWait owner q me seat k m h h' =
    let one = least_is q k (wounded_why owner q me seat k h).oldest in
    let other = least_is q m (wounded_why owner q me seat m h').oldest in cc
owed_once WaitDie owner q me seat k m h h' =
    let one = (signed_why owner q me seat k h).1 in let other = (signed_why owner q me seat m h').1 in cc
