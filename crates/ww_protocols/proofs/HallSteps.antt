-- Which moves change what in a hall.
use Rattle.std.proofs.Common.{◌≡◌, ◌≢◌, ◌⊎◌, ⊎_elim, inl, inr, ℕ, true, false, Some, None, refl, sym, ap, ◌∙◌, subst, true≢false}
use Rattle.ww_protocols.specs.Hall.{Layout, Hall, Progress, apart, has_mark, found_free, found_bit, reads, Finding, nothing, no_bit, no_mark, change, change_in, Move, sits, stands_up, visits, quits, locks, unlocks, sets_bit, sets_mark, finds_free, finds_bit, finds_free_again, reads_as_owner, reads_no_more, clears_mark, finds_no_bit, finds_no_mark, clears_bit, MayMove, hall_after}
use Rattle.ww_protocols.proofs.Changes.{same_or_not, change_here, change_else, change_cases, change_in_cases}

-- by which move an owner finds this of a desk
pub data FindsBy (m d : ℕ) : Finding → Move → Type 0 where
  by_bit : FindsBy m d no_bit (finds_no_bit m d)
  by_mark : FindsBy m d no_mark (finds_no_mark m d)

module _ (l : Layout) (h : Hall) (c : ℕ) where
  -- ---- a mutex

  pub unlocked : (a : Move) → MayMove l h c a → (m o : ℕ) → h.owner m ≡ Some o → (hall_after l h c a).owner m ≢ Some o →
      (c ≡ o) × (a ≡ unlocks m)
  unlocked (locks n) may m o own gone = change_cases h.owner n (Some c) m
      (λ i w. h.owner i ≡ Some o → w ≢ Some o → (c ≡ o) × (locks n ≡ unlocks m))
      (λ is _. let z : ⊥ = cc in absurd z) (λ _ is isnt. absurd (isnt is)) own gone
  unlocked (unlocks n) may m o own gone = change_cases h.owner n None m
      (λ i w. h.owner i ≡ Some o → w ≢ Some o → (c ≡ o) × (unlocks n ≡ unlocks i))
      (λ is _. (let z : c ≡ o = cc in z, refl)) (λ _ is isnt. absurd (isnt is)) own gone
  unlocked _ may m o own gone = absurd (gone own)

  pub locked : (a : Move) → (m o : ℕ) → h.owner m ≢ Some o → (hall_after l h c a).owner m ≡ Some o → (c ≡ o) × (a ≡ locks m)
  locked (locks n) m o not own = change_cases h.owner n (Some c) m
      (λ i w. h.owner i ≢ Some o → w ≡ Some o → (c ≡ o) × (locks n ≡ locks i))
      (λ _ is. (let z : c ≡ o = cc in z, refl)) (λ _ isnt is. absurd (isnt is)) not own
  locked (unlocks n) m o not own = change_cases h.owner n None m
      (λ i w. h.owner i ≢ Some o → w ≡ Some o → (c ≡ o) × (unlocks n ≡ locks m))
      (λ _ is. let z : ⊥ = cc in absurd z) (λ _ isnt is. absurd (isnt is)) not own
  locked _ m o not own = absurd (not own)

  -- ---- a desk

  pub left_desk : (a : Move) → MayMove l h c a → (d u : ℕ) → h.sitter d ≡ Some u → (hall_after l h c a).sitter d ≢ Some u →
      (c ≡ u) × (((a ≡ stands_up) × (u ≡ d)) ⊎ (a ≡ quits d))
  left_desk sits may d u has gone = change_cases h.sitter c (Some c) d
      (λ i w. h.sitter i ≡ Some u → w ≢ Some u → (c ≡ u) × (((sits ≡ stands_up) × (u ≡ i)) ⊎ (sits ≡ quits i)))
      (λ is _. let z : ⊥ = cc in absurd z) (λ _ is isnt. absurd (isnt is)) has gone
  left_desk stands_up may d u has gone = change_cases h.sitter c None d
      (λ i w. h.sitter i ≡ Some u → w ≢ Some u → (c ≡ u) × (((stands_up ≡ stands_up) × (u ≡ i)) ⊎ (stands_up ≡ quits i)))
      (λ is _. let own : c ≡ u = cc in (own, inl (refl, sym own))) (λ _ is isnt. absurd (isnt is)) has gone
  left_desk (visits e) may d u has gone = change_cases h.sitter e (Some c) d
      (λ i w. h.sitter i ≡ Some u → w ≢ Some u → (c ≡ u) × (((visits e ≡ stands_up) × (u ≡ i)) ⊎ (visits e ≡ quits i)))
      (λ is _. let free = may.1 in let z : ⊥ = cc in absurd z) (λ _ is isnt. absurd (isnt is)) has gone
  left_desk (quits e) may d u has gone = change_cases h.sitter e None d
      (λ i w. h.sitter i ≡ Some u → w ≢ Some u → (c ≡ u) × (((quits e ≡ stands_up) × (u ≡ i)) ⊎ (quits e ≡ quits i)))
      (λ is _. let its = may.1 in let own : c ≡ u = cc in (own, inr refl)) (λ _ is isnt. absurd (isnt is)) has gone
  left_desk _ may d u has gone = absurd (gone has)

  pub took_desk : (a : Move) → (d v : ℕ) → h.sitter d ≢ Some v → (hall_after l h c a).sitter d ≡ Some v →
      (c ≡ v) × (((a ≡ sits) × (v ≡ d)) ⊎ (a ≡ visits d))
  took_desk sits d v not has = change_cases h.sitter c (Some c) d
      (λ i w. h.sitter i ≢ Some v → w ≡ Some v → (c ≡ v) × (((sits ≡ sits) × (v ≡ i)) ⊎ (sits ≡ visits i)))
      (λ _ is. let own : c ≡ v = cc in (own, inl (refl, sym own))) (λ _ isnt is. absurd (isnt is)) not has
  took_desk stands_up d v not has = change_cases h.sitter c None d
      (λ i w. h.sitter i ≢ Some v → w ≡ Some v → (c ≡ v) × (((stands_up ≡ sits) × (v ≡ i)) ⊎ (stands_up ≡ visits i)))
      (λ _ is. let z : ⊥ = cc in absurd z) (λ _ isnt is. absurd (isnt is)) not has
  took_desk (visits e) d v not has = change_cases h.sitter e (Some c) d
      (λ i w. h.sitter i ≢ Some v → w ≡ Some v → (c ≡ v) × (((visits e ≡ sits) × (v ≡ i)) ⊎ (visits e ≡ visits i)))
      (λ _ is. (let z : c ≡ v = cc in z, inr refl)) (λ _ isnt is. absurd (isnt is)) not has
  took_desk (quits e) d v not has = change_cases h.sitter e None d
      (λ i w. h.sitter i ≢ Some v → w ≡ Some v → (c ≡ v) × (((quits e ≡ sits) × (v ≡ i)) ⊎ (quits e ≡ visits i)))
      (λ _ is. let z : ⊥ = cc in absurd z) (λ _ isnt is. absurd (isnt is)) not has
  took_desk _ d v not has = absurd (not has)

  -- ---- a reader

  -- not by a move to another progress
  came_not : (n : ℕ) (p : Progress) → p ≢ reads → (d m : ℕ) → h.progress d m ≢ reads →
      change_in h.progress c n p d m ≡ reads → ⊥
  came_not n p isnt d m not has = change_in_cases h.progress c n p d m (λ i j q. h.progress i j ≢ reads → q ≡ reads → ⊥)
      (λ _ is. isnt is) (λ _ no is. no is) not has

  pub came : (a : Move) → (d m : ℕ) → h.progress d m ≢ reads → (hall_after l h c a).progress d m ≡ reads →
      (c ≡ d) × ((a ≡ finds_free_again m) ⊎ (a ≡ reads_as_owner m))
  came stands_up d m not has = change_cases h.progress c (λ _. apart) d
      (λ i q. h.progress i m ≢ reads → q m ≡ reads → (c ≡ d) × ((stands_up ≡ finds_free_again m) ⊎ (stands_up ≡ reads_as_owner m)))
      (λ _ is. let z : ⊥ = cc in absurd z) (λ _ no is. absurd (no is)) not has
  came (sets_mark n) d m not has = absurd (came_not n has_mark (λ is. let z : ⊥ = cc in z) d m not has)
  came (finds_free n) d m not has = absurd (came_not n found_free (λ is. let z : ⊥ = cc in z) d m not has)
  came (finds_bit n) d m not has = absurd (came_not n found_bit (λ is. let z : ⊥ = cc in z) d m not has)
  came (reads_no_more n) d m not has = absurd (came_not n apart (λ is. let z : ⊥ = cc in z) d m not has)
  came (finds_free_again n) d m not has = change_in_cases h.progress c n reads d m
      (λ i j q. h.progress i j ≢ reads → q ≡ reads → (c ≡ i) × ((finds_free_again n ≡ finds_free_again j) ⊎ (finds_free_again n ≡ reads_as_owner j)))
      (λ _ _. (refl, inl refl)) (λ _ no is. absurd (no is)) not has
  came (reads_as_owner n) d m not has = change_in_cases h.progress c n reads d m
      (λ i j q. h.progress i j ≢ reads → q ≡ reads → (c ≡ i) × ((reads_as_owner n ≡ finds_free_again j) ⊎ (reads_as_owner n ≡ reads_as_owner j)))
      (λ _ _. (refl, inr refl)) (λ _ no is. absurd (no is)) not has
  came _ d m not has = absurd (not has)

  -- ---- an owner that looks

  found_cases : (n e : ℕ) (f : Finding) (a : Move) → h.owner n ≡ Some c → FindsBy n e f a → (m d o : ℕ) (g : Finding) →
      ((h.owner m ≡ Some o) × (h.finding m d ≡ g) → ⊥) → h.owner m ≡ Some o → change_in h.finding n e f m d ≡ g →
      (c ≡ o) × FindsBy m d g a
  found_cases n e f a owns how m d o = λ g not own has. change_in_cases h.finding n e f m d
      (λ i j q. h.owner i ≡ Some o → ((h.owner i ≡ Some o) × (h.finding i j ≡ g) → ⊥) → q ≡ g → (c ≡ o) × FindsBy i j g a)
      (λ is _ same. (let z : c ≡ o = cc in z, subst (λ q. FindsBy n e q a) same how))
      (λ _ is no same. absurd (no (is, same))) own not has

  pub found : (a : Move) → MayMove l h c a → (m d o : ℕ) (g : Finding) → g ≢ nothing →
      ((h.owner m ≡ Some o) × (h.finding m d ≡ g) → ⊥) → (hall_after l h c a).owner m ≡ Some o →
      (hall_after l h c a).finding m d ≡ g → (c ≡ o) × FindsBy m d g a
  found (locks n) may m d o g some not own = λ has. ⊎_elim
      (λ is. absurd (some (sym has ∙ ap (λ i. change h.finding n (λ _. nothing) i d) is ∙ ap (λ f. f d) (change_here h.finding n (λ _. nothing)))))
      (λ isnt. absurd (not (
        sym (change_else h.owner n (Some c) m isnt) ∙ own,
        sym (ap (λ f. f d) (change_else h.finding n (λ _. nothing) m isnt)) ∙ has,
      ))) (same_or_not m n)
  found (unlocks n) may m d o g some not own = λ has. change_cases h.owner n None m
      (λ i w. ((h.owner i ≡ Some o) × (h.finding i d ≡ g) → ⊥) → w ≡ Some o → h.finding i d ≡ g → (c ≡ o) × FindsBy m d g (unlocks n))
      (λ _ is _. let z : ⊥ = cc in absurd z) (λ _ no is same. absurd (no (is, same))) not own has
  found (finds_no_bit n e) may m d o g some not own = λ has. found_cases n e no_bit (finds_no_bit n e) may.0 by_bit m d o g not own has
  found (finds_no_mark n e) may m d o g some not own = λ has. found_cases n e no_mark (finds_no_mark n e) may.0 by_mark m d o g not own has
  found _ may m d o g some not own = λ has. absurd (not (own, has))

  -- ---- a mark, and a bit

  pub cleared_mark : (a : Move) → (d k : ℕ) → h.marks d k ≡ true → (hall_after l h c a).marks d k ≡ false → a ≡ clears_mark d k
  cleared_mark (sets_mark n) d k set unset = change_in_cases h.marks c (l.mark n) true d k
      (λ i j b. h.marks i j ≡ true → b ≡ false → sets_mark n ≡ clears_mark d k)
      (λ _ is. absurd (true≢false is)) (λ _ is isnt. absurd (true≢false (sym is ∙ isnt))) set unset
  cleared_mark (clears_mark e q) d k set unset = change_in_cases h.marks e q false d k
      (λ i j b. h.marks i j ≡ true → b ≡ false → clears_mark e q ≡ clears_mark i j)
      (λ _ _. refl) (λ _ is isnt. absurd (true≢false (sym is ∙ isnt))) set unset
  cleared_mark _ d k set unset = absurd (true≢false (sym set ∙ unset))

  pub cleared_bit : (a : Move) → (m b : ℕ) → h.bits m b ≡ true → (hall_after l h c a).bits m b ≡ false → a ≡ clears_bit m b
  cleared_bit (sets_bit n) m b set unset = change_in_cases h.bits n (l.bit c) true m b
      (λ i j v. h.bits i j ≡ true → v ≡ false → sets_bit n ≡ clears_bit m b)
      (λ _ is. absurd (true≢false is)) (λ _ is isnt. absurd (true≢false (sym is ∙ isnt))) set unset
  cleared_bit (clears_bit n q) m b set unset = change_in_cases h.bits n q false m b
      (λ i j v. h.bits i j ≡ true → v ≡ false → clears_bit n q ≡ clears_bit i j)
      (λ _ _. refl) (λ _ is isnt. absurd (true≢false (sym is ∙ isnt))) set unset
  cleared_bit _ m b set unset = absurd (true≢false (sym set ∙ unset))
