-- What an event makes due, signs or cancels, and that its seat has to wake whom it concerns.
use Rattle.std.proofs.Common.{◌≡◌, ◌≢◌, ◌⊎◌, inl, inr, ⊎_elim, ℕ, ◌+◌, ◌==◌, Bool, true, false, List, [], ◌∷◌, Option, Some, None, refl, sym, ap, ◌∙◌, subst, true≢false}
use mathlib.Core.Logic.{dite}
use native.Mathlib.Decide.{ℕ_discrete}
use Rattle.ww_queue.specs.declared.entry.Entry.{Entry}
use Rattle.ww_queue.specs.Queue.{Has, Stands, joined, left}
use Rattle.ww_queue.proofs.Outcomes.{by_test, same_number, other_number}
use Rattle.ww_model.specs.declared.state.Holder.{Holder}
use Rattle.ww_model.specs.declared.state.Holder.TheVariants.{Nobody, Taken, Handed}
use Rattle.ww_model.specs.declared.event.Event.{Event}
use Rattle.ww_model.specs.declared.event.Event.TheVariants.{Clear, Fast, FastGive, Join, Sign, Take, Give, Die, Cancel, Heed, Leave}
use Rattle.ww_model.specs.State.{State, put, HasOther, waiter_of}
use Rattle.ww_model.specs.Event.{BasePossible, after, actor, given_to}
use Rattle.ww_model.specs.Lawful.{IsBase}
use Rattle.ww_model.specs.Snapshot.{IsFirst}
use Rattle.ww_model.proofs.Puts.{put_here, put_else, put_cases, puts_cases, put_was}
use Rattle.ww_model.proofs.Cancels.{not_free, kept_there}
use Rattle.ww_model.proofs.Dues.{sign_for}
use Rattle.ww_laws.specs.Scene.{first_of, another, woken_by, uncancelled_after, put_debt, owing}
use Rattle.ww_laws.specs.Sleepers.{IsDue}

-- ---- for whom a lock is there, by its owner and its list

abbrev pub DueAt : Holder → List Entry → ℕ → Type 0
DueAt o q s = (o ≡ Handed s) ⊎ ((o ≡ Nobody) × IsFirst q s)

taken_for_none : (u : ℕ) (q : List Entry) (s : ℕ) → DueAt (Taken u) q s → ⊥
taken_for_none u q s (inl h) = cc
taken_for_none u q s (inr h) = let z = h.0 in cc

first_is : (q : List Entry) (s : ℕ) → IsFirst q s → first_of q ≡ Some s
first_is q s f = ap first_of f.2 ∙ ap Some f.3

-- a seat that releases the lock wakes the one that it is there for then
given_first : (asked : Bool) (q : List Entry) (s : ℕ) → DueAt (given_to asked q) q s → first_of q ≡ Some s
given_first true [] s (inl h) = absurd (cc)
given_first true [] s (inr h) = first_is [] s h.1
given_first true (e ∷ es) s (inl h) = let z : e.seat ≡ s = cc in ap Some z
given_first true (e ∷ es) s (inr h) = first_is (e ∷ es) s h.1
given_first false q s (inl h) = absurd (cc)
given_first false q s (inr h) = first_is q s h.1

pub due_or_not : (o : Holder) (q : List Entry) (s : ℕ) → DueAt o q s ⊎ (DueAt o q s → ⊥)
due_or_not Nobody [] s = inr (⊎_elim (λ h. let z : ⊥ = cc in z) (λ h. let k = first_is [] s h.1 in let z : ⊥ = cc in z))
due_or_not Nobody (e ∷ es) s = dite (ℕ_discrete e.seat s)
    (λ is. inl (inr (refl, (e, es, refl, is))))
    (λ isnt. inr (⊎_elim (λ h. let z : ⊥ = cc in z)
    (λ h. let k = first_is (e ∷ es) s h.1 in isnt (let z : e.seat ≡ s = cc in z))))
due_or_not (Taken u) q s = inr (taken_for_none u q s)
due_or_not (Handed u) q s = dite (ℕ_discrete u s)
    (λ is. inl (inl (ap Handed is)))
    (λ isnt. inr (⊎_elim (λ h. isnt (let z : u ≡ s = cc in z)) (λ h. let k = h.0 in let z : ⊥ = cc in z)))

-- a lock is there for a waiter
pub due_stands : (c : State) → IsBase c → (s n : ℕ) → IsDue c s n → Stands (c.queue n) s
due_stands c l s n (inl h) = (l.owners.at n).handed_stands s h
due_stands c l s n (inr h) = let f = h.1 in (f.0, subst (λ q. Has q f.0) (sym f.2) (inl refl), f.3)

pub other_not_due : (c : State) (s n : ℕ) → HasOther c s n → IsDue c s n → ⊥
other_not_due c s n other (inl h) = not_free (c.owner n) s other (inr h)
other_not_due c s n other (inr h) = not_free (c.owner n) s other (inl h.0)

-- where another has the lock and a list changes, only a handed lock is there for anybody
kept_list : (c : State) (s t m n : ℕ) (q : List Entry) (R : Type 0) → HasOther c s m → (IsDue c t n → R) →
    DueAt (c.owner n) (put c.queue m q n) t → R
kept_list c s t m n q R other back d = put_cases c.queue m q n (λ x. DueAt (c.owner n) x t → R)
    (λ is. ⊎_elim (λ h. back (inl h))
    (λ h. absurd (not_free (c.owner m) s other (inl (ap c.owner (sym is) ∙ h.0)))))
    (λ _. back) d

-- a lock is there for a seat only since it was so before, or the seat is to be woken for it
module _ (c : State) (t n : ℕ) where
  abbrev Before : Event → Type 0
  Before e = IsDue c t n ⊎ (woken_by c e ≡ Some t)

  pub due_before : (e : Event) → BasePossible c e → IsBase c → IsDue (after c e) t n → Before e
  due_before (Fast s m) can l d = put_cases c.owner m (Taken s) n (λ o. DueAt o (c.queue n) t → Before (Fast s m))
      (λ is e. absurd (taken_for_none s (c.queue n) t e)) (λ _. inl) d
  due_before (FastGive s m) can l d =
      put_cases c.owner m Nobody n (λ o. DueAt o (c.queue n) t → Before (FastGive s m))
      (λ is. ⊎_elim (λ h. absurd (cc)) (λ h. let f = h.1.2 in let none = ap c.queue is ∙ can.empty in absurd (cc)))
      (λ _. inl) d
  due_before (Join s m) can l d = kept_list c s t m n (joined (c.queue m) (waiter_of c s)) (Before (Join s m)) can.other inl d
  due_before (Take s m) can l d = let q = left (c.queue m) s in
      puts_cases c.owner c.queue m (Taken s) q n (λ o p. DueAt o p t → Before (Take s m))
      (λ is e. absurd (taken_for_none s q t e)) (λ _. inl) d
  due_before (Give s m) can l d = let o = given_to (c.asked m) (c.queue m) in
      put_cases c.owner m o n (λ p. DueAt p (c.queue n) t → Before (Give s m))
      (λ is e. inr (given_first (c.asked m) (c.queue m) t (subst (λ q. DueAt o q t) (ap c.queue is) e))) (λ _. inl) d
  due_before (Die s m) can l d = kept_list c s t m n (left (c.queue m) s) (Before (Die s m)) can.other inl d
  due_before (Leave s m) can l d = kept_list c s t m n (left (c.queue m) s) (Before (Leave s m)) (kept_there c l s m can) inl d
  due_before _ can l d = inl d

-- ---- signs and cancels

another_is : (s v : ℕ) → v ≢ s → another s v ≡ Some v
another_is s v other = by_test (v == s) None (Some v) (λ o. o ≡ Some v) (λ same. absurd (other (same_number v s same))) (λ _. refl)

pub another_was : (s v x : ℕ) → another s v ≡ Some x → (x ≡ v) × (x ≢ s)
another_was s v x = by_test (v == s) None (Some v) (λ o. o ≡ Some x → (x ≡ v) × (x ≢ s)) (λ _ is. absurd (cc))
    (λ isnt is. let same : x ≡ v = cc in (same, λ own. other_number v s isnt (sym same ∙ own)))

-- where another seat's word may get a value, whoever gets it is to be woken, and others keep theirs
still_none : (word : ℕ → ℕ) (s v k t : ℕ) → s ≢ t → word t ≡ 0 → (put word v k t ≡ 0) ⊎ (another s v ≡ Some t)
still_none word s v k t other none = dite (ℕ_discrete t v)
    (λ is. inr (another_is s v (λ own. other (sym (is ∙ own))) ∙ ap Some (sym is)))
    (λ isnt. inl (put_else word v k t isnt ∙ none))

-- a word set to 0 is 0, and others stay
still_zero : (word : ℕ → ℕ) (s t : ℕ) → word t ≡ 0 → put word s 0 t ≡ 0
still_zero word s t none = put_cases word s 0 t (λ x. x ≡ 0) (λ _. refl) (λ _. none)

-- nobody signs another without having to wake it
pub still_unsigned : (c : State) (e : Event) (t : ℕ) → actor e ≢ t → c.sign t ≡ 0 →
    ((after c e).sign t ≡ 0) ⊎ (woken_by c e ≡ Some t)
still_unsigned c (Clear s) t other none = inl (still_zero c.sign s t none)
still_unsigned c (Sign s v) t other none = still_none c.sign s v (sign_for c s v) t other none
still_unsigned c _ t other none = inl none

-- the seat doesn't cancel by this event
abbrev pub CancelsNot : ℕ → Event → Type 0
CancelsNot t (Cancel s v) = s ≢ t
CancelsNot t _ = Unit {0}

pub others_cancel : (e : Event) (t : ℕ) → actor e ≢ t → CancelsNot t e
others_cancel (Cancel s v) t other = other
others_cancel _ t other = tt

-- whoever has found no cancel after an event had found none before, and doesn't cancel by it
pub uncancelled_before : (found : ℕ → Bool) (e : Event) (t : ℕ) → uncancelled_after found e t ≡ true →
    (found t ≡ true) × CancelsNot t e
uncancelled_before found (Cancel s v) t h = ⊎_elim (λ a. absurd (true≢false (sym a.1))) (λ a. (a.1, λ is. a.0 (sym is)))
    (put_was found s false t (λ b. b ≡ true) h)
uncancelled_before found _ t h = (h, tt)

-- nobody cancels another without having to wake it
pub still_uncancelled : (c : State) (e : Event) (t : ℕ) → CancelsNot t e → c.cancel t ≡ 0 →
    ((after c e).cancel t ≡ 0) ⊎ (woken_by c e ≡ Some t)
still_uncancelled c (Cancel s v) t other none = still_none c.cancel s v (s + 1) t other none
still_uncancelled c (Heed s n) t other none = inl (still_zero c.cancel s t none)
still_uncancelled c _ t other none = inl none

-- ---- whom each seat has yet to wake

-- a debt after a change is the one that was changed, or was there before
pub debt_was : (owes : ℕ → ℕ → Bool) (s x : ℕ) (is : Bool) (u v : ℕ) → put_debt owes s x is u v ≡ true →
    ((u ≡ s) × (v ≡ x) × (is ≡ true)) ⊎ (owes u v ≡ true)
debt_was owes s x is u v h = ⊎_elim
    (λ a. ⊎_elim (λ b. inl (a.0, b.0, b.1)) (λ b. inr (subst (λ y. owes y v ≡ true) (sym a.0) b.1))
    (put_was (owes s) x is v (λ b. b ≡ true) a.1))
    (λ a. inr a.1) (put_was owes s (put (owes s) x is) u (λ f. f v ≡ true) h)

pub debt_here : (owes : ℕ → ℕ → Bool) (s x : ℕ) (is : Bool) → put_debt owes s x is s x ≡ is
debt_here owes s x is = ap (λ (f : ℕ → Bool). f x) (put_here owes s (put (owes s) x is)) ∙ put_here (owes s) x is

-- a debt to another seat stays
pub debt_else : (owes : ℕ → ℕ → Bool) (s x : ℕ) (is : Bool) (u v : ℕ) → v ≢ x → owes u v ≡ true → put_debt owes s x is u v ≡ true
debt_else owes s x is u v other h = put_cases owes s (put (owes s) x is) u (λ f. f v ≡ true)
    (λ same. put_else (owes s) x is v other ∙ subst (λ y. owes y v ≡ true) same h) (λ _. h)

pub owing_more : (owes : ℕ → ℕ → Bool) (s : ℕ) (o : Option ℕ) (u v : ℕ) → owes u v ≡ true → owing owes s o u v ≡ true
owing_more owes s None u v h = h
owing_more owes s (Some x) u v h = put_cases owes s (put (owes s) x true) u (λ f. f v ≡ true)
    (λ is. put_cases (owes s) x true v (λ b. b ≡ true) (λ _. refl) (λ _. subst (λ y. owes y v ≡ true) is h)) (λ _. h)

pub owing_new : (owes : ℕ → ℕ → Bool) (s : ℕ) (o : Option ℕ) (v : ℕ) → o ≡ Some v → owing owes s o s v ≡ true
owing_new owes s o v is = subst (λ p. owing owes s p s v ≡ true) (sym is) (debt_here owes s v true)

pub owing_was : (owes : ℕ → ℕ → Bool) (s : ℕ) (o : Option ℕ) (u v : ℕ) → owing owes s o u v ≡ true →
    ((u ≡ s) × (o ≡ Some v)) ⊎ (owes u v ≡ true)
owing_was owes s None u v h = inr h
owing_was owes s (Some x) u v h = ⊎_elim (λ new. inl (new.0, ap Some (sym new.1))) inr (debt_was owes s x true u v h)
