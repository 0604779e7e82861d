-- Which waiter has to die at a lock and why, and to whom a seat inside its guard owes a sign and why.
use Rattle.std.proofs.Common.{◌≡◌, ◌≢◌, ◌⊎◌, inl, inr, ⊎_elim, ℕ, ◌<◌, ◌==◌, true, false, nat_lt, List, [], ◌∷◌, Some, refl, sym, ap, ◌∙◌, subst, arith, true≢false}
use Rattle.std.specs.Prelude.{find, unwrap_or}
use Rattle.std.specs.Option.{IsSome, option_map}
use Rattle.std.proofs.lemmas.Option.{cond_some}
use Rattle.ww_word.specs.declared.owner.Owner.{Owner}
use Rattle.ww_word.specs.Owner.{is_handed}
use Rattle.ww_queue.specs.declared.kind.Kind.{Kind}
use Rattle.ww_queue.specs.declared.kind.Kind.TheVariants.{WoundWait, WaitDie}
use Rattle.ww_queue.specs.declared.entry.Entry.{Entry}
use Rattle.ww_queue.specs.Queue.{Has, Before, Once}
use Rattle.ww_queue.specs.Rules.{must_die, owed_signs}
use Rattle.ww_queue.proofs.Outcomes.{by_test, same_number, other_number}
use Rattle.ww_queue.proofs.Aheads.{before_older}
use Rattle.ww_queue.proofs.Deaths.{must_die_why, death_why, wound_wait_condemns, dies_when, dies_why as wait_die_why, death_is_of_context}
use Rattle.ww_queue.proofs.Signs.{signed_why, signed_when, wounded_why, wounded_some}
use Rattle.ww_model.specs.declared.state.Holder.{Holder}
use Rattle.ww_model.specs.declared.state.Holder.TheVariants.{Nobody, Taken, Handed}
use Rattle.ww_model.specs.State.{State, owner_as, dies, owes, place_of}
use Rattle.ww_model.specs.Event.{owed_to}
use Rattle.ww_model.specs.Lawful.{IsBase}
use Rattle.ww_model.proofs.Options.{some_of, is_some_of, mapped_from, found_from}

-- ---- the owner of a lock, as its word tells it

pub seat_is : (c : State) (o : Holder) (t : ℕ) → o ≡ Taken t → (owner_as c o).seat ≡ Some t
seat_is c o t own = subst (λ x. (owner_as c x).seat ≡ Some t) (sym own) refl

pub seat_from : (c : State) (o : Holder) (t : ℕ) → (owner_as c o).seat ≡ Some t → (o ≡ Taken t) ⊎ (o ≡ Handed t)
seat_from c Nobody t h = absurd (cc)
seat_from c (Taken u) t h = inl (ap Taken (let same : u ≡ t = cc in same))
seat_from c (Handed u) t h = inr (ap Handed (let same : u ≡ t = cc in same))

pub stamp_is : (c : State) (o : Holder) (t : ℕ) → (o ≡ Taken t) ⊎ (o ≡ Handed t) → (owner_as c o).stamp ≡ c.stamp t
stamp_is c o t h = ⊎_elim (λ i. subst (λ x. (owner_as c x).stamp ≡ c.stamp t) (sym i) refl)
    (λ i. subst (λ x. (owner_as c x).stamp ≡ c.stamp t) (sym i) refl) h

pub taken_is : (c : State) (o : Holder) (t : ℕ) → o ≡ Taken t → is_handed (owner_as c o) ≡ false
taken_is c o t own = subst (λ x. is_handed (owner_as c x) ≡ false) (sym own) refl

pub taken_from : (c : State) (o : Holder) (t : ℕ) → (owner_as c o).seat ≡ Some t → is_handed (owner_as c o) ≡ false → o ≡ Taken t
taken_from c Nobody t own taken = absurd (cc)
taken_from c (Taken u) t own taken = ap Taken (let same : u ≡ t = cc in same)
taken_from c (Handed u) t own taken = absurd (true≢false taken)

-- ---- which waiter has to die

module _ (c : State) (s n k : ℕ) where
  -- why the seat has to die at the lock, of stamp k
  pub record DiesOf : Type 0 where
    pub entry : Entry
    pub stands : Has (c.queue n) entry
    pub seat : entry.seat ≡ s
    pub context : 0 < entry.stamp
    pub holds : entry.holds ≡ true
    pub wounded : c.kind ≡ WoundWait → (0 < c.sign s) × (k ≡ c.sign s)
    pub older : c.kind ≡ WaitDie →
        ((t : ℕ) × ((c.owner n ≡ Taken t) ⊎ (c.owner n ≡ Handed t)) × (c.stamp t ≡ k) × (0 < k) × (k < entry.stamp))
        ⊎ ((x : Entry) × Before (c.queue n) x entry × (0 < x.stamp) × (x.stamp ≡ k))

-- the rule of each kind gives the reason
pub dies_of : (c : State) (s n k : ℕ) (kind : Kind) → c.kind ≡ kind
    → must_die kind (owner_as c (c.owner n)) (c.queue n) s (c.sign s) ≡ Some k → DiesOf c s n k
dies_of c s n k WoundWait is h = let o = owner_as c (c.owner n) in let r = must_die_why WoundWait o (c.queue n) s (c.sign s) k h in
    let d = death_why WoundWait o (c.queue n) (c.sign s) r.0 k r.3 in let same = (cond_some (nat_lt 0 (c.sign s)) (c.sign s) k d.1).1 in
    let some = death_is_of_context WoundWait o (c.queue n) s (c.sign s) k h in record {
      entry = r.0;
      stands = r.1;
      seat = r.2;
      context = d.0.0;
      holds = d.0.1;
      wounded = λ _. (omega arith, sym same);
      older = λ dying. absurd (cc);
    }
dies_of c s n k WaitDie is h = let r = wait_die_why (owner_as c (c.owner n)) (c.queue n) s (c.sign s) k h in record {
  entry = r.0;
  stands = r.1;
  seat = r.2;
  context = r.3.0;
  holds = r.3.1;
  wounded = λ wounding. absurd (cc);
  older = λ _. ⊎_elim
      (λ i. let m = i.0 in let own = seat_from c (c.owner n) m.seat m.owns in let older = m.older in let same = i.1 in
      inl (m.seat, own, sym (stamp_is c (c.owner n) m.seat own) ∙ sym same, omega arith, omega arith))
      (λ x. inr (x.0, x.1, x.2, sym x.3)) r.4;
}

pub dies_why : (c : State) (s n k : ℕ) → dies c s n ≡ Some k → DiesOf c s n k
dies_why c s n k h = dies_of c s n k c.kind refl h

-- where the rule of the kind condemns, the seat has to die
pub dies_by : (c : State) (s n : ℕ) (kind : Kind) → c.kind ≡ kind → (k : ℕ)
    × (must_die kind (owner_as c (c.owner n)) (c.queue n) s (c.sign s) ≡ Some k) → IsSome (dies c s n)
dies_by c s n kind is d = is_some_of (dies c s n) d.0
    (subst (λ x. must_die x (owner_as c (c.owner n)) (c.queue n) s (c.sign s) ≡ Some d.0) (sym is) d.1)

pub dies_wounded : (c : State) (n : ℕ) (e : Entry) → c.kind ≡ WoundWait → Once (c.queue n) → Has (c.queue n) e
    → 0 < e.stamp → e.holds ≡ true →
    0 < c.sign e.seat → IsSome (dies c e.seat n)
dies_wounded c n e wounding one h p b signed = dies_by c e.seat n WoundWait wounding (
  c.sign e.seat,
  (wound_wait_condemns (owner_as c (c.owner n)) (c.queue n) e (c.sign e.seat) (c.sign e.seat) one
      h).1 ((p, b), signed, refl),
)

pub dies_younger : (c : State) (n : ℕ) (e : Entry) → c.kind ≡ WaitDie → Once (c.queue n) → Has (c.queue n) e
    → 0 < e.stamp → e.holds ≡ true →
    (t : ℕ) → c.owner n ≡ Taken t → t ≢ e.seat → 0 < c.stamp t → c.stamp t < e.stamp → IsSome (dies c e.seat n)
dies_younger c n e dying one h p b t own isnt q younger = let same = stamp_is c (c.owner n) t (inl own) in
    dies_by c e.seat n WaitDie dying (dies_when (owner_as c (c.owner n)) (c.queue n) e (c.sign e.seat) one h (p, b)
    (inl (record { seat = t; owns = seat_is c (c.owner n) t own; other = isnt; older = (omega arith, omega arith) })))

pub dies_behind : (c : State) (n : ℕ) (e : Entry) → c.kind ≡ WaitDie → Once (c.queue n) → Has (c.queue n) e → 0 < e.stamp → e.holds ≡ true →
    (x : Entry) → Before (c.queue n) x e → 0 < x.stamp → IsSome (dies c e.seat n)
dies_behind c n e dying one h p b x before q = dies_by c e.seat n WaitDie dying
    (dies_when (owner_as c (c.owner n)) (c.queue n) e (c.sign e.seat) one h (p, b) (inr (x, before, q)))

-- ---- whom a seat inside owes a sign

-- an older waiter that holds locks: its owner is owed one
pub owes_wound : (c : State) (s n t : ℕ) (e : Entry) → c.kind ≡ WoundWait → c.owner n ≡ Taken t → Has (c.queue n) e
    → e.holds ≡ true → 0 < e.stamp →
    e.stamp < c.stamp t → (k : ℕ) × Has (owes c s n) (t, k)
owes_wound c s n t e wounding own h b p older = let o = owner_as c (c.owner n) in let same = stamp_is c (c.owner n) t (inl own) in
    let r = wounded_some o (c.queue n) s t e (seat_is c (c.owner n) t own) (taken_is c (c.owner n) t own) h (p, b)
    (let z = older in omega arith) in (
      r.0,
      subst (λ x. Has (owed_signs x o (c.queue n) s) (t, r.0)) (sym wounding)
          (subst (λ pairs. Has pairs (t, r.0)) (sym r.1) (inl refl)),
    )

-- whom Wound-Wait signs owns the lock, and is met by an older waiter that holds locks
pub wound_from : (c : State) (s n v k : ℕ) → c.kind ≡ WoundWait → Has (owes c s n) (v, k) →
    (c.owner n ≡ Taken v) × (0 < k) × (k < c.stamp v) × ((e : Entry) × Has (c.queue n) e × (e.holds ≡ true) × (e.stamp ≡ k))
wound_from c s n v k wounding h = let o = owner_as c (c.owner n) in
    let w = wounded_why o (c.queue n) s v k (subst (λ x. Has (owed_signs x o (c.queue n) s) (v, k)) wounding h) in
    let own = taken_from c (c.owner n) v w.owns w.taken in let same = stamp_is c (c.owner n) v (inl own) in
    let younger : k < c.stamp v = (let z = w.older.1 in omega arith) in
    let l = w.oldest in (own, w.older.0, younger, (l.waiter, l.stands, l.holds.1, l.stamp))

-- whom Wait-Die signs has to die there
pub death_from : (c : State) (s n v k : ℕ) → c.kind ≡ WaitDie → Has (owes c s n) (v, k) → DiesOf c v n k
death_from c s n v k dying h = let o = owner_as c (c.owner n) in
    dies_of c v n k WaitDie dying (signed_why o (c.queue n) s v k (subst (λ x. Has (owed_signs x o (c.queue n) s) (v, k)) dying h)).1

-- a waiter that has to die is owed a sign by another seat inside
pub owes_death : (c : State) (s n v k : ℕ) → c.kind ≡ WaitDie → v ≢ s → dies c v n ≡ Some k → Has (owes c s n) (v, k)
owes_death c s n v k dying isnt d = let o = owner_as c (c.owner n) in
    subst (λ x. Has (owed_signs x o (c.queue n) s) (v, k)) (sym dying)
    (signed_when o (c.queue n) s v k isnt (subst (λ x. must_die x o (c.queue n) v (c.sign v) ≡ Some k) dying d))

pub by_kind : (kind : Kind) (P : Type 0) → (kind ≡ WoundWait → P) → (kind ≡ WaitDie → P) → P
by_kind WoundWait P wounding dying = wounding refl
by_kind WaitDie P wounding dying = dying refl

-- a sign doesn't say which waiter has to die in Wait-Die
pub dies_unsigned : (kind : Kind) → kind ≡ WaitDie → (o : Owner) (q : List Entry) (s k j : ℕ)
    → must_die kind o q s k ≡ must_die kind o q s j
dies_unsigned WoundWait dying o q s k j = absurd (cc)
dies_unsigned WaitDie dying o q s k j = refl

-- the stamp of which a waiter dies is an older one than its own
pub dies_older : (c : State) (s n k : ℕ) → IsBase c → c.kind ≡ WaitDie → DiesOf c s n k → (0 < k) × (k < c.stamp s)
dies_older c s n k l dying d = let same = (l.queues.at n).stamps d.entry d.stands ∙ ap c.stamp d.seat in ⊎_elim
    (λ i. (i.3, let z = i.4 in omega arith))
    (λ i. let y = i.3 in let p = i.2 in let z =
    before_older (c.queue n) i.0 d.entry (l.queues.at n).ascends i.1 p d.context in (omega arith, omega arith))
    (d.older dying)

-- so is that of a sign that is owed
pub owed_older : (c : State) (s n v k : ℕ) → IsBase c → Has (owes c s n) (v, k) → (0 < k) × (k < c.stamp v)
owed_older c s n v k l h = by_kind c.kind ((0 < k) × (k < c.stamp v))
    (λ wounding. let w = wound_from c s n v k wounding h in (w.1, w.2)) (λ dying. dies_older c v n k l dying (death_from c s n v k dying h))

-- ---- the sign that is given

-- the stamp of the sign
abbrev pub sign_for : State → ℕ → ℕ → ℕ
sign_for c s v = unwrap_or (owed_to v (owes c s (place_of c s))) 0

pub owed_from : (v : ℕ) (pairs : List (ℕ × ℕ)) (k : ℕ) → owed_to v pairs ≡ Some k → Has pairs (v, k)
owed_from v pairs k h = let r = mapped_from (λ (p : ℕ × ℕ). p.1) (find (λ (p : ℕ × ℕ). p.0 == v) pairs) k h in
    let f = found_from (λ (p : ℕ × ℕ). p.0 == v) pairs r.0 r.1 in
    subst (λ x. Has pairs (x, k)) (same_number r.0.0 v f.1) (subst (λ x. Has pairs (r.0.0, x)) r.2 f.0)

-- where a stamp is owed to a seat, one is found
pub owed_there : (v k : ℕ) (pairs : List (ℕ × ℕ)) → Has pairs (v, k) → IsSome (owed_to v pairs)
owed_there v k [] h = absurd h
owed_there v k (p ∷ ps) h = by_test (p.0 == v) (Some p) (find (λ (x : ℕ × ℕ). x.0 == v) ps)
    (λ o. IsSome (option_map (λ (x : ℕ × ℕ). x.1) o))
    (λ _. refl)
    (λ isnt. ⊎_elim (λ is. absurd (other_number p.0 v isnt (sym (ap (λ (x : ℕ × ℕ). x.0) is)))) (λ later. owed_there v k ps later) h)

pub sign_owed : (c : State) (s v : ℕ) → IsSome (owed_to v (owes c s (place_of c s))) → Has (owes c s (place_of c s)) (v, sign_for c s v)
sign_owed c s v h = let r = some_of (owed_to v (owes c s (place_of c s))) h in
    owed_from v (owes c s (place_of c s)) (sign_for c s v) (r.1 ∙ ap Some (sym (ap (λ o. unwrap_or o 0) r.1)))

-- a sign is never 0
pub sign_some : (c : State) (s v : ℕ) → IsBase c → IsSome (owed_to v (owes c s (place_of c s))) → 0 < sign_for c s v
sign_some c s v l h = (owed_older c s (place_of c s) v (sign_for c s v) l (sign_owed c s v h)).0
