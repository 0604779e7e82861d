-- What an owner word tells, and what writes it.
use Rattle.std.proofs.Common.{◌≡◌, ◌⊎◌, inl, inr, ⊎_elim, ℕ, ◌+◌, ◌*◌, Bool, true, false, cond, List, [], ◌∷◌, Option, Some, None, refl, ap, ◌∙◌, subst}
use Rattle.ww_word.specs.declared.owner.Owner.{Owner}
use Rattle.ww_word.specs.Owner.{is_handed}
use Rattle.ww_queue.specs.declared.kind.Kind.{Kind}
use Rattle.ww_queue.specs.declared.kind.Kind.TheVariants.{WoundWait, WaitDie}
use Rattle.ww_queue.specs.declared.entry.Entry.{Entry}
use Rattle.ww_queue.specs.Queue.{Has, StandsNot}
use Rattle.ww_queue.specs.Rules.{must_die, owed_signs, owed_wound, least_holding, taker_of}
use Rattle.ww_model.specs.declared.state.Holder.{Holder}
use Rattle.ww_model.specs.declared.state.Holder.TheVariants.{Nobody, Taken, Handed}
use Rattle.ww_model.specs.State.{State, put, OwnsNone, owner_as, waiting, one_if, pickup, word_from, word_of, owes, dies}
use Rattle.ww_model.specs.Lawful.{IsBase}
use Rattle.ww_model.proofs.Puts.{put_else}

-- ---- the same word

-- the owner as its word tells it, where the stamps of those that have the lock are the same
same_owner : (c d : State) (o : Holder) → ((u : ℕ) → (o ≡ Taken u) ⊎ (o ≡ Handed u) → d.stamp u ≡ c.stamp u) → owner_as d o ≡ owner_as c o
same_owner c d Nobody same = refl
same_owner c d (Taken u) same = ap (λ (k : ℕ). let x : Owner = record { seat = Some u; stamp = k; flags = 0 } in x) (same u (inl refl))
same_owner c d (Handed u) same = ap (λ (k : ℕ). let x : Owner = record { seat = Some u; stamp = k; flags = 5 } in x) (same u (inr refl))

pub same_word : (c d : State) (o o' : Holder) (b b' : Bool) (q q' : List Entry) → owner_as d o ≡ owner_as c o
    → o ≡ o' → b ≡ b' → q ≡ q' → word_from d o b q ≡ word_from c o' b' q'
same_word c d o o' b b' q q' r x y z =
    ap (λ (w : Owner). record w { flags = waiting q + 2 * one_if b + pickup o }) r
    ∙ λ i. word_from c (x i) (y i) (z i)

-- what a context that begins or ends leaves of the word
pub restamped : (c d : State) (s k m : ℕ) → IsBase c → OwnsNone c s → StandsNot (c.queue m) s
    → d.stamp ≡ put c.stamp s k → owner_as d (c.owner m) ≡ owner_as c (c.owner m)
restamped c d s k m l none away is = same_owner c d (c.owner m) (λ u own. ap (λ f. f u) is ∙ put_else c.stamp s k u (λ same. ⊎_elim
    (λ o. none m (o ∙ ap Taken same))
    (λ o. let h = (l.owners.at m).handed_stands u o in away h.0 h.1 (h.2 ∙ same)) own))

-- ---- what the word decides

pub handed_same : (c : State) (o : Holder) (b : Bool) (q : List Entry) → is_handed (word_from c o b q) ≡ is_handed (owner_as c o)
handed_same c Nobody true [] = refl
handed_same c Nobody false [] = refl
handed_same c Nobody true (e ∷ es) = refl
handed_same c Nobody false (e ∷ es) = refl
handed_same c (Taken s) true [] = refl
handed_same c (Taken s) false [] = refl
handed_same c (Taken s) true (e ∷ es) = refl
handed_same c (Taken s) false (e ∷ es) = refl
handed_same c (Handed s) true [] = refl
handed_same c (Handed s) false [] = refl
handed_same c (Handed s) true (e ∷ es) = refl
handed_same c (Handed s) false (e ∷ es) = refl

pub word_owes : (c : State) (s n : ℕ) → owed_signs c.kind (word_of c n) (c.queue n) s ≡ owes c s n
word_owes c s n = go c.kind (c.owner n)
  where
    go : (kind : Kind) (o : Holder) → owed_signs kind (word_from c o (c.asked n) (c.queue n)) (c.queue n) s
        ≡ owed_signs kind (owner_as c o) (c.queue n) s
    go WoundWait o = ap (λ (b : Bool). owed_wound (cond b None (owner_as c o).seat) (owner_as c o).stamp
        (least_holding (c.queue n))) (handed_same c o (c.asked n) (c.queue n))
    go WaitDie o = refl

pub word_dies : (c : State) (s n : ℕ) → must_die c.kind (word_of c n) (c.queue n) s (c.sign s) ≡ dies c s n
word_dies c s n = go c.kind (c.owner n)
  where
    go : (kind : Kind) (o : Holder) → must_die kind (word_from c o (c.asked n) (c.queue n)) (c.queue n) s (c.sign s)
        ≡ must_die kind (owner_as c o) (c.queue n) s (c.sign s)
    go WoundWait o = refl
    go WaitDie o = refl

-- nobody is owed a sign where nobody waits
pub none_owed : (kind : Kind) (o : Owner) (q : List Entry) (s u k : ℕ) → q ≡ [] → Has (owed_signs kind o q s) (u, k) → ⊥
none_owed kind o q s u k is h = go kind (subst (λ x. Has (owed_signs kind o x s) (u, k)) is h)
  where
    wound : (t : Option ℕ) → Has (owed_wound t o.stamp None) (u, k) → ⊥
    wound None h = h
    wound (Some x) h = h

    go : (kind : Kind) → Has (owed_signs kind o [] s) (u, k) → ⊥
    go WoundWait h = wound (taker_of o) h
    go WaitDie h = h
