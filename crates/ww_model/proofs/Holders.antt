-- Who owns a lock, before and after it changes.
use Rattle.std.proofs.Common.{◌≡◌, ◌≢◌, ◌⊎◌, inl, ⊎_elim, ℕ, Bool, true, false, List, [], ◌∷◌, refl, sym, subst, true≢false}
use Rattle.ww_queue.specs.declared.entry.Entry.{Entry}
use Rattle.ww_queue.specs.Queue.{Has, Stands}
use Rattle.ww_model.specs.declared.state.Holder.{Holder}
use Rattle.ww_model.specs.declared.state.Holder.TheVariants.{Taken, Handed}
use Rattle.ww_model.specs.Event.{given_to, still_asked}

pub not_empty : {A : Type 0} (q : List A) (x : A) → Has q x → q ≢ []
not_empty q x h e = subst (λ z. Has z x) e h

pub not_given : (b : Bool) (q : List Entry) (s : ℕ) → given_to b q ≢ Taken s
not_given true [] s h = cc
not_given true (e ∷ es) s h = cc
not_given false q s h = cc

pub other_seat : (s t : ℕ) (o : Holder) → o ≡ Taken s → t ≢ s → o ≢ Taken t
other_seat s t o is isnt h = isnt (cc)

pub first_given : (b : Bool) (q : List Entry) (s : ℕ) → given_to b q ≡ Handed s → Stands q s
first_given true [] s h = absurd (cc)
first_given true (e ∷ es) s h = (e, inl refl, let z : e.seat ≡ s = cc in z)
first_given false q s h = absurd (cc)

pub still : (q : List Entry) (b : Bool) → still_asked q b ≡ true → (b ≡ true) × (q ≢ [])
still [] b h = absurd (true≢false (sym h))
still (e ∷ es) b h = (h, λ z. not_empty (e ∷ es) e (inl refl) z)

-- another than s has the lock
pub other_has : (o : Holder) (s t : ℕ) → (u : ℕ) × (u ≢ s) × ((o ≡ Taken u) ⊎ (o ≡ Handed u)) → (o ≡ Taken t) ⊎ (o ≡ Handed t) → t ≢ s
other_has o s t other own is = other.1 (⊎_elim
    (λ a. ⊎_elim (λ b. let z : other.0 ≡ s = cc in z) (λ b. absurd (cc)) own)
    (λ a. ⊎_elim (λ b. absurd (cc)) (λ b. let z : other.0 ≡ s = cc in z) own) other.2)
