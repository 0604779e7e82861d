-- What memory may show, by the moves of shared locks, where nothing was handed over.
use Rattle.std.proofs.Common.{◌≡◌, ◌⊎◌, ⊎_elim, inl, inr, ℕ, zero, suc, ◌<◌, refl, sym, ap, ◌∙◌, subst, arith}
use Rattle.ww_protocols.specs.Hall.{Layout, Move, sits, stands_up, visits, quits, locks, unlocks, finds_free, finds_free_again, clears_mark, finds_no_mark}
use Rattle.ww_protocols.specs.Memory.{writes, WritesAt}
use Rattle.ww_protocols.specs.SharedData.{HallAct, moves, access_in, IsDoneIn, HappensBeforeIn, in_order, of_mutex, of_desk, of_mark, through}
use Rattle.ww_protocols.specs.StaleReads.{HandsItOver, by_mutex, by_look, by_last_look, by_own_desk, by_its_desk, by_desk, by_mark, one_then_another_in, MayReadTheOldIn, OnlyTheseHandOver}
use Rattle.ww_protocols.proofs.Behind.{side}

module _ (l : Layout) (this that : Move) where
  abbrev act : ℕ → HallAct
  act = one_then_another_in this that

  done_on : (i c : ℕ) → IsDoneIn c (act i) → side i ≡ c
  done_on zero c by = by
  done_on (suc zero) c by = by
  done_on (suc (suc zero)) c by = by
  done_on (suc (suc (suc zero))) c by = by
  done_on (suc (suc (suc (suc i)))) c by = absurd by

  of_moves : (i c : ℕ) (a : Move) → act i ≡ moves c a → (i ≡ 1) ⊎ (i ≡ 2)
  of_moves zero c a is = absurd (cc)
  of_moves (suc zero) c a is = inl refl
  of_moves (suc (suc zero)) c a is = inr refl
  of_moves (suc (suc (suc zero))) c a is = absurd (cc)
  of_moves (suc (suc (suc (suc i)))) c a is = absurd (cc)

  writes_first : (x k : ℕ) → WritesAt x (access_in (act k)) → k ≡ 0
  writes_first x zero w = refl
  writes_first x (suc zero) w = let is = w.2 in absurd (cc)
  writes_first x (suc (suc zero)) w = let is = w.2 in absurd (cc)
  writes_first x (suc (suc (suc zero))) w = let is = w.2 in absurd (cc)
  writes_first x (suc (suc (suc (suc i)))) w = let is = w.2 in absurd (cc)

  -- two moves in a run are these two
  record AreThese (c e : ℕ) (a b : Move) : Type 0 where
    one : 0 ≡ c
    another : 1 ≡ e
    this_is : this ≡ a
    that_is : that ≡ b

  are_these : (i j c e : ℕ) (a b : Move) → i < j → act i ≡ moves c a → act j ≡ moves e b → AreThese c e a b
  are_these i j c e a b less x y = ⊎_elim
      (λ first. ⊎_elim (λ no. absurd (omega arith))
      (λ second. let p : moves 0 this ≡ moves c a = ap act (sym first) ∙ x in let q : moves 1 that ≡ moves e b = ap act (sym second) ∙ y in
      record { one = cc; another = cc; this_is = cc; that_is = cc }) (of_moves j e b y))
      (λ second. ⊎_elim (λ no. absurd (omega arith)) (λ no. absurd (omega arith)) (of_moves j e b y))
      (of_moves i c a x)

  module _ (unordered : ¬ HandsItOver l 0 1 this that) where
    none_so : {c e : ℕ} (a b : Move) → AreThese c e a b → HandsItOver l 0 1 a b → ⊥
    none_so a b x hands = unordered (subst (λ y. HandsItOver l 0 1 y that) (sym x.this_is) (subst (HandsItOver l 0 1 a) (sym x.that_is) hands))

    one_side : (i j : ℕ) → HappensBeforeIn l act i j → side i ≡ side j
    one_side _ _ (in_order i j c less a b) = done_on i c a ∙ sym (done_on j c b)
    one_side _ _ (of_mutex i j c m less a f) = absurd (⊎_elim
        (λ is. none_so (unlocks m) (locks m) (are_these i j c f.0 (unlocks m) (locks m) less a is) (by_mutex m))
        (λ look. ⊎_elim
        (λ is. none_so (unlocks m) (finds_free m) (are_these i j c f.0 (unlocks m) (finds_free m) less a is) (by_look m))
        (λ is. none_so (unlocks m) (finds_free_again m) (are_these i j c f.0 (unlocks m) (finds_free_again m) less a is) (by_last_look m)) look)
        f.1)
    one_side _ _ (of_desk i j d less a b) = absurd (⊎_elim
        (λ stands. ⊎_elim
        (λ is. let x = are_these i j d d stands_up sits less stands is in let p = x.one in let q = x.another in omega arith)
        (λ it. let x = are_these i j d it.0 stands_up (visits d) less stands it.1 in
        none_so stands_up (visits d) x (subst (λ k. HandsItOver l 0 1 stands_up (visits k)) x.one by_own_desk)) b)
        (λ quit. ⊎_elim
        (λ is. let x = are_these i j quit.0 d (quits d) sits less quit.1 is in
        none_so (quits d) sits x (subst (λ k. HandsItOver l 0 1 (quits k) sits) x.another by_its_desk))
        (λ it. none_so (quits d) (visits d) (are_these i j quit.0 it.0 (quits d) (visits d) less quit.1 it.1) (by_desk d)) b)
        a)
    one_side _ _ (of_mark i j c e d m less a b) = absurd (none_so (clears_mark d (l.mark m)) (finds_no_mark m d)
        (are_these i j c e (clears_mark d (l.mark m)) (finds_no_mark m d) less a b) (by_mark d m))
    one_side _ _ (through i j k a b) = one_side i j a ∙ one_side j k b

    none_before : (x k : ℕ) → WritesAt x (access_in (act k)) → HappensBeforeIn l act k 3 → ⊥
    none_before x k w b = let first = ap side (writes_first x k w) in let it = one_side k 3 b in
        let z : ◌≡◌ {A = ℕ} 0 1 = sym first ∙ it in omega arith

    old : MayReadTheOldIn l this that
    old zero c x value is = absurd (cc)
    old (suc zero) c x value is = absurd (cc)
    old (suc (suc zero)) c x value is = absurd (cc)
    old (suc (suc (suc zero))) c x value is = inr ((let first : value ≡ 0 = cc in first), none_before x)
    old (suc (suc (suc (suc i)))) c x value is = absurd (cc)

  -- where the write comes first
  writes_no_zero : (i u : ℕ) → access_in (act i) ≡ writes u 0 0 → ⊥
  writes_no_zero zero u is = let z : ◌≡◌ {A = ℕ} 7 0 = cc in omega arith
  writes_no_zero (suc zero) u is = cc
  writes_no_zero (suc (suc zero)) u is = cc
  writes_no_zero (suc (suc (suc zero))) u is = cc
  writes_no_zero (suc (suc (suc (suc i)))) u is = cc

  not_old : HappensBeforeIn l act 1 2 → ¬ MayReadTheOldIn l this that
  not_old between memory = ⊎_elim (λ w. writes_no_zero w.0 w.1 w.2)
      (λ first. first.1 0 (0, 7, refl)
      (through 0 2 3 (through 0 1 2 (in_order 0 1 0 (omega arith) refl refl) between) (in_order 2 3 1 (omega arith) refl refl)))
      (memory 3 1 0 0 refl)

in_this_order : (l : Layout) (this that : Move) → HandsItOver l 0 1 this that → HappensBeforeIn l (one_then_another_in this that) 1 2
in_this_order l _ _ (by_mutex m) = of_mutex 1 2 0 m (omega arith) refl (1, inl refl)
in_this_order l _ _ (by_look m) = of_mutex 1 2 0 m (omega arith) refl (1, inr (inl refl))
in_this_order l _ _ (by_last_look m) = of_mutex 1 2 0 m (omega arith) refl (1, inr (inr refl))
in_this_order l _ _ by_own_desk = of_desk 1 2 0 (omega arith) (inl refl) (inr (1, refl))
in_this_order l _ _ by_its_desk = of_desk 1 2 1 (omega arith) (inr (0, refl)) (inl refl)
in_this_order l _ _ (by_desk d) = of_desk 1 2 d (omega arith) (inr (0, refl)) (inr (1, refl))
in_this_order l _ _ (by_mark d m) = of_mark 1 2 0 1 d m (omega arith) refl refl

pub only_these_hand_over : OnlyTheseHandOver
only_these_hand_over l this that = (λ hands. not_old l this that (in_this_order l this that hands), old l this that)
