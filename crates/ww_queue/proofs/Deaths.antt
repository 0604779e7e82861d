-- When a waiter has to die, and why.
use Rattle.std.proofs.Common.{ℕ, ◌≡◌, ◌≢◌, ◌⊎◌, ◌<◌, ◌&&◌, ◌↔◌, inl, inr, ⊎_elim, true, not, cond, nat_lt, List, Option, Some, None, refl, sym, ap, ◌∙◌, subst, arith, true≢false}
use Rattle.std.specs.Option.{option_and_then, option_map, option_or}
use Rattle.std.proofs.lemmas.Option.{cond_some}
use Rattle.std.proofs.lemmas.Grind.{common_steps}
use Rattle.ww_word.specs.declared.owner.Owner.{Owner}
use Rattle.ww_queue.specs.declared.kind.Kind.{Kind}
use Rattle.ww_queue.specs.declared.kind.Kind.TheVariants.{WoundWait, WaitDie}
use Rattle.ww_queue.specs.declared.entry.Entry.{Entry}
use Rattle.ww_queue.specs.Entry.{is_older, IsOlder, is_holding, IsHolding}
use Rattle.ww_queue.specs.Queue.{Has, Before, StandsNot, Once, Ascends, entry_of, first_before}
use Rattle.ww_queue.specs.Rules.{is_other, older_owner, cause_of, death_of, must_die}
use Rattle.ww_queue.specs.Laws.{MeetsOlderOwner, IsCause}
use Rattle.ww_queue.proofs.Outcomes.{by_test, both_true, true_both, true_picks, number_other, older_true, true_older, holding_true, true_holding}
use Rattle.ww_queue.proofs.Leaves.{entry_why, entry_when, entry_none}
use Rattle.ww_queue.proofs.Aheads.{before_older, ahead_when, ahead_why, ahead_is_first_before}

other_why : (o : Option ℕ) (seat : ℕ) → is_other o seat ≡ true → (t : ℕ) × (o ≡ Some t) × (t ≢ seat)
other_why None seat is = absurd (true≢false (sym is))
other_why (Some t) seat is = (t, refl, λ same. grind (arith, common_steps))

other_when : (t seat : ℕ) → t ≢ seat → is_other (Some t) seat ≡ true
other_when t seat other = ap not (number_other t seat other)

-- the older owner that is met
pub older_why : (owner : Owner) (e : Entry) (k : ℕ) → older_owner owner e ≡ Some k → MeetsOlderOwner owner e × (k ≡ owner.stamp)
older_why owner e k is =
    let met = cond_some (is_other owner.seat e.seat && is_older owner.stamp e.stamp) owner.stamp k is in
    let both = both_true (is_other owner.seat e.seat) (is_older owner.stamp e.stamp) met.0 in
    let other = other_why owner.seat e.seat both.0 in
    (record { seat = other.0; owns = other.1; other = other.2; older = older_true owner.stamp e.stamp both.1 }, sym met.1)

pub older_when : (owner : Owner) (e : Entry) → MeetsOlderOwner owner e → older_owner owner e ≡ Some owner.stamp
older_when owner e met = true_picks {A = Option ℕ} (is_other owner.seat e.seat && is_older owner.stamp e.stamp) (Some owner.stamp) None
    (true_both (is_other owner.seat e.seat) (is_older owner.stamp e.stamp)
    (subst (λ o. is_other o e.seat ≡ true) (sym met.owns) (other_when met.seat e.seat met.other))
    (true_older owner.stamp e.stamp met.older))

pub older_none : (owner : Owner) (e : Entry) → ¬ MeetsOlderOwner owner e → older_owner owner e ≡ None
older_none owner e none = go (older_owner owner e) refl
  where
    go : (o : Option ℕ) → older_owner owner e ≡ o → o ≡ None
    go None is = refl
    go (Some k) is = absurd (none (older_why owner e k is).0)

pub none_older : (owner : Owner) (e : Entry) → older_owner owner e ≡ None → ¬ MeetsOlderOwner owner e
none_older owner e is met = let some = older_when owner e met in cc

or_why : (a b : Option ℕ) (k : ℕ) → option_or a b ≡ Some k → (a ≡ Some k) ⊎ ((a ≡ None) × (b ≡ Some k))
or_why None b k is = inr (refl, is)
or_why (Some m) b k is = inl is

stamp_why : (o : Option Entry) (k : ℕ) → option_map (λ (x : Entry). x.stamp) o ≡ Some k → (x : Entry) × (o ≡ Some x) × (k ≡ x.stamp)
stamp_why None k is = absurd cc
stamp_why (Some x) k is = (x, refl, cc)

and_then_why : (f : Entry → Option ℕ) (o : Option Entry) (k : ℕ) → option_and_then f o ≡ Some k → (e : Entry)
    × (o ≡ Some e) × (f e ≡ Some k)
and_then_why f None k is = absurd cc
and_then_why f (Some e) k is = (e, refl, is)

-- a stamp, or else that of the first context before the waiter
abbrev or_ahead : List Entry → Entry → Option ℕ → Option ℕ
or_ahead q e o = option_or o (option_map (λ x. x.stamp) (first_before q e.seat))

-- the cause in Wait-Die
pub cause_why : (owner : Owner) (q : List Entry) (e : Entry) (sign k : ℕ) → Has q e
    → cause_of WaitDie owner q sign e ≡ Some k → IsCause owner q e k
cause_why owner q e sign k h is = ⊎_elim
    (λ met. inl (older_why owner e k met))
    (λ rest. let x = stamp_why (first_before q e.seat) k rest.1 in
    inr (none_older owner e rest.0, (x.0, ahead_is_first_before q e.seat (e, h, refl) ∙ x.1, x.2)))
    (or_why (older_owner owner e) (option_map (λ x. x.stamp) (first_before q e.seat)) k is)

pub cause_when : (owner : Owner) (q : List Entry) (e : Entry) (sign k : ℕ) → Has q e → IsCause owner q e k
    → cause_of WaitDie owner q sign e ≡ Some k
cause_when owner q e sign k h cause = ⊎_elim
    (λ met. ap (or_ahead q e) (older_when owner e met.0) ∙ ap Some (sym met.1))
    (λ rest. let x = rest.1 in
    ap (or_ahead q e) (older_none owner e rest.0)
    ∙ ap (option_map (λ (x : Entry). x.stamp)) (sym (ahead_is_first_before q e.seat (e, h, refl)) ∙ x.1) ∙ ap Some (sym x.2))
    cause

-- only a waiter that holds locks dies, and of its cause
pub death_why : (kind : Kind) (owner : Owner) (q : List Entry) (sign : ℕ) (e : Entry) (k : ℕ)
    → death_of kind owner q sign e ≡ Some k → IsHolding e × (cause_of kind owner q sign e ≡ Some k)
death_why kind owner q sign e k = by_test (is_holding e) (cause_of kind owner q sign e) None
    (λ o. o ≡ Some k → IsHolding e × (cause_of kind owner q sign e ≡ Some k))
    (λ holds is. (holding_true e holds, is)) (λ _ is. absurd cc)

pub death_when : (kind : Kind) (owner : Owner) (q : List Entry) (sign : ℕ) (e : Entry) → IsHolding e
    → death_of kind owner q sign e ≡ cause_of kind owner q sign e
death_when kind owner q sign e holding =
    true_picks {A = Option ℕ} (is_holding e) (cause_of kind owner q sign e) None (true_holding e holding)

-- what a seat dies of is what its waiter dies of
pub must_die_of_entry : (kind : Kind) (owner : Owner) (q : List Entry) (e : Entry) (sign : ℕ) → Once q → Has q e
    → must_die kind owner q e.seat sign ≡ death_of kind owner q sign e
must_die_of_entry kind owner q e sign once h = ap (option_and_then (death_of kind owner q sign)) (entry_when q e once h)

-- a waiter that dies stands in the list
pub must_die_why : (kind : Kind) (owner : Owner) (q : List Entry) (me sign k : ℕ)
    → must_die kind owner q me sign ≡ Some k → (e : Entry) × Has q e × (e.seat ≡ me)
    × (death_of kind owner q sign e ≡ Some k)
must_die_why kind owner q me sign k is =
    let own = and_then_why (death_of kind owner q sign) (entry_of q me) k is in let here = entry_why q me own.0 own.1 in
    (own.0, here.0, here.1, own.2)

pub only_waiters_die : (kind : Kind) (owner : Owner) (q : List Entry) (me sign : ℕ) → StandsNot q me → must_die kind owner q me sign ≡ None
only_waiters_die kind owner q me sign out = ap (option_and_then (death_of kind owner q sign)) (entry_none q me out)

pub wait_die_condemns : (owner : Owner) (q : List Entry) (e : Entry) (sign k : ℕ) → Once q → Has q e
    → (must_die WaitDie owner q e.seat sign ≡ Some k) ↔ (IsHolding e × IsCause owner q e k)
wait_die_condemns owner q e sign k once h = let own = must_die_of_entry WaitDie owner q e sign once h in (
  λ is. let death = death_why WaitDie owner q sign e k (sym own ∙ is) in (death.0, cause_why owner q e sign k h death.1),
  λ why. own ∙ death_when WaitDie owner q sign e why.0 ∙ cause_when owner q e sign k h why.1,
)

sign_why : (sign k : ℕ) → cond (nat_lt 0 sign) (Some sign) None ≡ Some k → (0 < k) × (k ≡ sign)
sign_why sign k is = let both = cond_some (nat_lt 0 sign) sign k is in let some : 0 < sign = let lt = both.0 in
    grind (arith, common_steps) in let same = both.1 in (omega arith, sym both.1)

sign_when : (sign k : ℕ) → (0 < k) × (k ≡ sign) → cond (nat_lt 0 sign) (Some sign) None ≡ Some k
sign_when sign k why = let some : nat_lt 0 sign ≡ true = let lt = why.0 in let same = why.1 in grind (arith, common_steps) in
    true_picks {A = Option ℕ} (nat_lt 0 sign) (Some sign) None some ∙ ap Some (sym why.1)

pub wound_wait_condemns : (owner : Owner) (q : List Entry) (e : Entry) (sign k : ℕ) → Once q → Has q e
    → (must_die WoundWait owner q e.seat sign ≡ Some k) ↔ (IsHolding e × (0 < k) × (k ≡ sign))
wound_wait_condemns owner q e sign k once h = let own = must_die_of_entry WoundWait owner q e sign once h in (
  λ is. let death = death_why WoundWait owner q sign e k (sym own ∙ is) in let why = sign_why sign k death.1 in (death.0, why.0, why.1),
  λ why. own ∙ death_when WoundWait owner q sign e why.0 ∙ sign_when sign k (why.1, why.2),
)

-- a waiter that holds locks and has a cause dies
cause_kills : (owner : Owner) (q : List Entry) (e : Entry) (sign k : ℕ) → Once q → Has q e → IsHolding e
    → cause_of WaitDie owner q sign e ≡ Some k → (k : ℕ) × (must_die WaitDie owner q e.seat sign ≡ Some k)
cause_kills owner q e sign k once h holding is =
    (k, must_die_of_entry WaitDie owner q e sign once h ∙ death_when WaitDie owner q sign e holding ∙ is)

-- an older owner, or a context before it, makes a waiter that holds locks die
pub dies_when : (owner : Owner) (q : List Entry) (e : Entry) (sign : ℕ) → Once q → Has q e → IsHolding e
    → MeetsOlderOwner owner e ⊎ ((x : Entry) × Before q x e × (0 < x.stamp)) → (k : ℕ) × (must_die WaitDie owner q e.seat sign ≡ Some k)
dies_when owner q e sign once h holding why = go (older_owner owner e) refl
  where
    go : (o : Option ℕ) → older_owner owner e ≡ o → (k : ℕ) × (must_die WaitDie owner q e.seat sign ≡ Some k)
    go (Some k) met = cause_kills owner q e sign k once h holding (ap (or_ahead q e) met)
    go None none = ⊎_elim (λ met. absurd (none_older owner e none met))
        (λ x. let z = ahead_when q x.0 e once x.1 x.2 in
        cause_kills owner q e sign z.0.stamp once h holding (ap (or_ahead q e) none ∙ ap (option_map (λ (x : Entry). x.stamp)) z.1)) why

-- a waiter that dies holds locks, and meets an older owner or has a context before it
pub dies_why : (owner : Owner) (q : List Entry) (me sign k : ℕ) → must_die WaitDie owner q me sign ≡ Some k
    → (e : Entry) × Has q e × (e.seat ≡ me) × IsHolding e
    × ((MeetsOlderOwner owner e × (k ≡ owner.stamp)) ⊎ ((x : Entry) × Before q x e × (0 < x.stamp) × (k ≡ x.stamp)))
dies_why owner q me sign k is =
    let own = must_die_why WaitDie owner q me sign k is in
    let e = own.0 in
    let death = death_why WaitDie owner q sign e k own.3 in (
      e,
      own.1,
      own.2,
      death.0,
      ⊎_elim
          (λ met. inl (older_why owner e k met))
          (λ rest. let x = stamp_why (first_before q e.seat) k rest.1 in let z = ahead_why q e x.0 own.1 x.1 in inr (x.0, z.0, z.1, x.2))
          (or_why (older_owner owner e) (option_map (λ x. x.stamp) (first_before q e.seat)) k death.1),
    )

-- the stamp that condemns is an older one
pub death_is_of_older : (owner : Owner) (q : List Entry) (e : Entry) (sign k : ℕ) → Once q → Ascends q → Has q e
    → must_die WaitDie owner q e.seat sign ≡ Some k → IsOlder k e.stamp
death_is_of_older owner q e sign k once order h is =
    let death = death_why WaitDie owner q sign e k (sym (must_die_of_entry WaitDie owner q e sign once h) ∙ is) in
    ⊎_elim
    (λ met. let why = older_why owner e k met in subst (λ n. IsOlder n e.stamp) (sym why.1) why.0.older)
    (λ rest. let x = stamp_why (first_before q e.seat) k rest.1 in let z = ahead_why q e x.0 h x.1 in
    let older = before_older q x.0 e order z.0 z.1 death.0.0 in let some = z.1 in subst (λ n. IsOlder n e.stamp) (sym x.2) (some, older))
    (or_why (older_owner owner e) (option_map (λ x. x.stamp) (first_before q e.seat)) k death.1)

-- the stamp that condemns is that of a context
pub death_is_of_context : (kind : Kind) (owner : Owner) (q : List Entry) (me sign k : ℕ) → must_die kind owner q me sign ≡ Some k → 0 < k
death_is_of_context WoundWait owner q me sign k is =
    let own = must_die_why WoundWait owner q me sign k is in (sign_why sign k (death_why WoundWait owner q sign own.0 k own.3).1).0
death_is_of_context WaitDie owner q me sign k is = let why = dies_why owner q me sign k is in
    ⊎_elim (λ met. let older = met.0.older in let same = met.1 in omega arith) (λ x. let some = x.2 in let same = x.3 in omega arith) why.4
