-- Runs with data under a shared lock: one writes, and another reads what that wrote; or, without one look, what was there before.
use Rattle.std.proofs.Common.{◌≡◌, ◌≢◌, ◌⊎◌, ⊎_elim, inl, inr, ℕ, zero, suc, ◌<◌, ◌≤◌, refl, sym, ap, ◌∙◌, subst, arith}
use Rattle.ww_protocols.specs.Hall.{Layout, Hall, first_hall, sits, locks, unlocks, sets_bit, sets_mark, finds_free, finds_bit, finds_free_again, finds_no_bit, begins_to_write, hall_after, opens}
use Rattle.ww_protocols.specs.Readers.{IsReading, IsWriting, Omission, first_look, look_at_bit, last_look, look_at_marks, look_at_owner, IsReachedWithout, HasBothAtOnce, IsNeeded}
use Rattle.ww_protocols.specs.Memory.{writes, reads, none, IsVisible, wrote}
use Rattle.ww_protocols.specs.SharedData.{HallAct, moves, accesses, access_in, IsDoneIn, LeadsOn, HappensBeforeIn, in_order, of_mutex, of_desk, of_mark, through, ReadsOfARun, ReadsUntil, SharedDataIsHandedOver, HasStaleSharedRead, SharedDataNeedsEachLook}
use Rattle.ww_protocols.proofs.HallRuns.{two, but_one, bit_is_found, each_look_is_needed}
use Rattle.ww_protocols.proofs.SharedData.{comes_first_in}

abbrev next : Hall → HallAct → Hall
next h (moves c a) = hall_after two h c a
next h (accesses _) = h

abbrev halls : (ℕ → HallAct) → ℕ → Hall
halls act zero = first_hall
halls act (suc i) = next (halls act i) (act i)

-- ---- context 1 writes, then context 0 reads, and then context 1 too, while context 0 reads on

abbrev act : ℕ → HallAct
act zero = moves 1 (locks 0)
act (suc zero) = moves 1 (finds_no_bit 0 0)
act (suc (suc zero)) = moves 1 (begins_to_write 0)
act (suc (suc (suc zero))) = accesses (writes 1 0 7)
act (suc (suc (suc (suc zero)))) = moves 1 (unlocks 0)
act (suc (suc (suc (suc (suc zero))))) = moves 0 sits
act (suc (suc (suc (suc (suc (suc zero)))))) = moves 0 (sets_bit 0)
act (suc (suc (suc (suc (suc (suc (suc zero))))))) = moves 0 (sets_mark 0)
act (suc (suc (suc (suc (suc (suc (suc (suc zero)))))))) = moves 0 (finds_free 0)
act (suc (suc (suc (suc (suc (suc (suc (suc (suc zero))))))))) = moves 0 (finds_bit 0)
act (suc (suc (suc (suc (suc (suc (suc (suc (suc (suc zero)))))))))) = moves 0 (finds_free_again 0)
act (suc (suc (suc (suc (suc (suc (suc (suc (suc (suc (suc zero))))))))))) = accesses (reads 0 0 7)
act (suc (suc (suc (suc (suc (suc (suc (suc (suc (suc (suc (suc zero)))))))))))) = moves 1 sits
act (suc (suc (suc (suc (suc (suc (suc (suc (suc (suc (suc (suc (suc zero))))))))))))) = moves 1 (sets_bit 0)
act (suc (suc (suc (suc (suc (suc (suc (suc (suc (suc (suc (suc (suc (suc zero)))))))))))))) = moves 1 (sets_mark 0)
act (suc (suc (suc (suc (suc (suc (suc (suc (suc (suc (suc (suc (suc (suc (suc zero))))))))))))))) = moves 1 (finds_free 0)
act (suc (suc (suc (suc (suc (suc (suc (suc (suc (suc (suc (suc (suc (suc (suc (suc zero)))))))))))))))) = moves 1 (finds_bit 0)
act (suc (suc (suc (suc (suc (suc (suc (suc (suc (suc (suc (suc (suc (suc (suc (suc (suc zero))))))))))))))))) = moves 1 (finds_free_again 0)
act (suc (suc (suc (suc (suc (suc (suc (suc (suc (suc (suc (suc (suc (suc (suc (suc (suc (suc zero)))))))))))))))))) = accesses (reads 1 0 7)
act (suc (suc (suc (suc (suc (suc (suc (suc (suc (suc (suc (suc (suc (suc (suc (suc (suc (suc (suc i))))))))))))))))))) = accesses none

goes_on : (i : ℕ) → LeadsOn two (halls act i) (act i) (halls act (suc i))
goes_on zero = (omega arith, refl, refl)
goes_on (suc zero) = (omega arith, (refl, refl), refl)
goes_on (suc (suc zero)) = (omega arith, record { owns = refl; found = but_one _ bit_is_found }, refl)
goes_on (suc (suc (suc zero))) = refl
goes_on (suc (suc (suc (suc zero)))) = (omega arith, refl, refl)
goes_on (suc (suc (suc (suc (suc zero))))) = (omega arith, refl, refl)
goes_on (suc (suc (suc (suc (suc (suc zero)))))) = (omega arith, tt, refl)
goes_on (suc (suc (suc (suc (suc (suc (suc zero))))))) = (omega arith, (refl, refl), refl)
goes_on (suc (suc (suc (suc (suc (suc (suc (suc zero)))))))) = (omega arith, (refl, refl), refl)
goes_on (suc (suc (suc (suc (suc (suc (suc (suc (suc zero))))))))) = (omega arith, (refl, refl), refl)
goes_on (suc (suc (suc (suc (suc (suc (suc (suc (suc (suc zero)))))))))) = (omega arith, (refl, refl), refl)
goes_on (suc (suc (suc (suc (suc (suc (suc (suc (suc (suc (suc zero))))))))))) = refl
goes_on (suc (suc (suc (suc (suc (suc (suc (suc (suc (suc (suc (suc zero)))))))))))) = (omega arith, refl, refl)
goes_on (suc (suc (suc (suc (suc (suc (suc (suc (suc (suc (suc (suc (suc zero))))))))))))) = (omega arith, tt, refl)
goes_on (suc (suc (suc (suc (suc (suc (suc (suc (suc (suc (suc (suc (suc (suc zero)))))))))))))) = (omega arith, (refl, refl), refl)
goes_on (suc (suc (suc (suc (suc (suc (suc (suc (suc (suc (suc (suc (suc (suc (suc zero))))))))))))))) = (omega arith, (refl, refl), refl)
goes_on (suc (suc (suc (suc (suc (suc (suc (suc (suc (suc (suc (suc (suc (suc (suc (suc zero)))))))))))))))) = (omega arith, (refl, refl), refl)
goes_on (suc (suc (suc (suc (suc (suc (suc (suc (suc (suc (suc (suc (suc (suc (suc (suc (suc zero))))))))))))))))) = (omega arith, (refl, refl), refl)
goes_on (suc (suc (suc (suc (suc (suc (suc (suc (suc (suc (suc (suc (suc (suc (suc (suc (suc (suc zero)))))))))))))))))) = refl
goes_on (suc (suc (suc (suc (suc (suc (suc (suc (suc (suc (suc (suc (suc (suc (suc (suc (suc (suc (suc i))))))))))))))))))) = refl

writes_fourth : (k t x value : ℕ) → access_in (act k) ≡ writes t x value → k ≡ 3
writes_fourth zero t x value is = absurd (cc)
writes_fourth (suc zero) t x value is = absurd (cc)
writes_fourth (suc (suc zero)) t x value is = absurd (cc)
writes_fourth (suc (suc (suc zero))) t x value is = refl
writes_fourth (suc (suc (suc (suc zero)))) t x value is = absurd (cc)
writes_fourth (suc (suc (suc (suc (suc zero))))) t x value is = absurd (cc)
writes_fourth (suc (suc (suc (suc (suc (suc zero)))))) t x value is = absurd (cc)
writes_fourth (suc (suc (suc (suc (suc (suc (suc zero))))))) t x value is = absurd (cc)
writes_fourth (suc (suc (suc (suc (suc (suc (suc (suc zero)))))))) t x value is = absurd (cc)
writes_fourth (suc (suc (suc (suc (suc (suc (suc (suc (suc zero))))))))) t x value is = absurd (cc)
writes_fourth (suc (suc (suc (suc (suc (suc (suc (suc (suc (suc zero)))))))))) t x value is = absurd (cc)
writes_fourth (suc (suc (suc (suc (suc (suc (suc (suc (suc (suc (suc zero))))))))))) t x value is = absurd (cc)
writes_fourth (suc (suc (suc (suc (suc (suc (suc (suc (suc (suc (suc (suc zero)))))))))))) t x value is = absurd (cc)
writes_fourth (suc (suc (suc (suc (suc (suc (suc (suc (suc (suc (suc (suc (suc zero))))))))))))) t x value is = absurd (cc)
writes_fourth (suc (suc (suc (suc (suc (suc (suc (suc (suc (suc (suc (suc (suc (suc zero)))))))))))))) t x value is = absurd (cc)
writes_fourth (suc (suc (suc (suc (suc (suc (suc (suc (suc (suc (suc (suc (suc (suc (suc zero))))))))))))))) t x value is = absurd (cc)
writes_fourth (suc (suc (suc (suc (suc (suc (suc (suc (suc (suc (suc (suc (suc (suc (suc (suc zero)))))))))))))))) t x value is = absurd (cc)
writes_fourth (suc (suc (suc (suc (suc (suc (suc (suc (suc (suc (suc (suc (suc (suc (suc (suc (suc zero))))))))))))))))) t x value is = absurd (cc)
writes_fourth (suc (suc (suc (suc (suc (suc (suc (suc (suc (suc (suc (suc (suc (suc (suc (suc (suc (suc zero)))))))))))))))))) t x value is = absurd (cc)
writes_fourth (suc (suc (suc (suc (suc (suc (suc (suc (suc (suc (suc (suc (suc (suc (suc (suc (suc (suc (suc i))))))))))))))))))) t x value is = absurd (cc)

-- each read is of what context 1 wrote, by one that reads then
record IsReadSo (k t x value : ℕ) : Type 0 where
  later : 3 < k
  place : 0 ≡ x
  same : 7 ≡ value
  reading : IsReading (halls act k) t 0

reads_so : (k t x value : ℕ) → access_in (act k) ≡ reads t x value → IsReadSo k t x value
reads_so zero t x value is = absurd (cc)
reads_so (suc zero) t x value is = absurd (cc)
reads_so (suc (suc zero)) t x value is = absurd (cc)
reads_so (suc (suc (suc zero))) t x value is = absurd (cc)
reads_so (suc (suc (suc (suc zero)))) t x value is = absurd (cc)
reads_so (suc (suc (suc (suc (suc zero))))) t x value is = absurd (cc)
reads_so (suc (suc (suc (suc (suc (suc zero)))))) t x value is = absurd (cc)
reads_so (suc (suc (suc (suc (suc (suc (suc zero))))))) t x value is = absurd (cc)
reads_so (suc (suc (suc (suc (suc (suc (suc (suc zero)))))))) t x value is = absurd (cc)
reads_so (suc (suc (suc (suc (suc (suc (suc (suc (suc zero))))))))) t x value is = absurd (cc)
reads_so (suc (suc (suc (suc (suc (suc (suc (suc (suc (suc zero)))))))))) t x value is = absurd (cc)
reads_so (suc (suc (suc (suc (suc (suc (suc (suc (suc (suc (suc zero))))))))))) t x value is = let own : 0 ≡ t = cc in record {
  later = omega arith;
  place = let e : 0 ≡ x = cc in e;
  same = let e : 7 ≡ value = cc in e;
  reading = subst (λ y. IsReading (halls act 11) y 0) own refl;
}
reads_so (suc (suc (suc (suc (suc (suc (suc (suc (suc (suc (suc (suc zero)))))))))))) t x value is = absurd (cc)
reads_so (suc (suc (suc (suc (suc (suc (suc (suc (suc (suc (suc (suc (suc zero))))))))))))) t x value is = absurd (cc)
reads_so (suc (suc (suc (suc (suc (suc (suc (suc (suc (suc (suc (suc (suc (suc zero)))))))))))))) t x value is = absurd (cc)
reads_so (suc (suc (suc (suc (suc (suc (suc (suc (suc (suc (suc (suc (suc (suc (suc zero))))))))))))))) t x value is = absurd (cc)
reads_so (suc (suc (suc (suc (suc (suc (suc (suc (suc (suc (suc (suc (suc (suc (suc (suc zero)))))))))))))))) t x value is = absurd (cc)
reads_so (suc (suc (suc (suc (suc (suc (suc (suc (suc (suc (suc (suc (suc (suc (suc (suc (suc zero))))))))))))))))) t x value is = absurd (cc)
reads_so (suc (suc (suc (suc (suc (suc (suc (suc (suc (suc (suc (suc (suc (suc (suc (suc (suc (suc zero)))))))))))))))))) t x value is = let own : 1 ≡ t = cc in record {
  later = omega arith;
  place = let e : 0 ≡ x = cc in e;
  same = let e : 7 ≡ value = cc in e;
  reading = subst (λ y. IsReading (halls act 18) y 0) own refl;
}
reads_so (suc (suc (suc (suc (suc (suc (suc (suc (suc (suc (suc (suc (suc (suc (suc (suc (suc (suc (suc i))))))))))))))))))) t x value is = absurd (cc)

writes_there : (i c x value : ℕ) → access_in (act i) ≡ writes c x value → IsWriting (halls act i) c 0
writes_there i c x value is = let at = writes_fourth i c x value is in
    let there : writes 1 0 7 ≡ writes c x value = ap (λ k. access_in (act k)) (sym at) ∙ is in let own : 1 ≡ c = cc in
    subst (λ k. IsWriting (halls act k) c 0) (sym at) (subst (λ y. IsWriting (halls act 3) y 0) own refl)

is_visible : (x j : ℕ) → 3 < j → IsVisible (HappensBeforeIn two act) (λ i. access_in (act i)) x 3 j
is_visible x j later = record {
  no_later = λ b. let less = comes_first_in two act j 3 b in omega arith;
  unhidden = λ k w b c. let is = writes_fourth k w.0 x w.1 w.2 in let less = comes_first_in two act 3 k b in omega arith;
}

memory : ReadsOfARun two act (λ _. 0)
memory j c x value is = let r = reads_so j c x value is in
    inl (3, 1, ap (λ y. writes 1 y 7) r.place ∙ ap (writes 1 x) r.same, is_visible x j r.later)

-- context 0 reads on until context 1 reads
reads_still : (k : ℕ) → 11 ≤ k → k < 18 → IsReading (halls act k) 0 0
reads_still (suc (suc (suc (suc (suc (suc (suc (suc (suc (suc (suc zero))))))))))) low high = refl
reads_still (suc (suc (suc (suc (suc (suc (suc (suc (suc (suc (suc (suc zero)))))))))))) low high = refl
reads_still (suc (suc (suc (suc (suc (suc (suc (suc (suc (suc (suc (suc (suc zero))))))))))))) low high = refl
reads_still (suc (suc (suc (suc (suc (suc (suc (suc (suc (suc (suc (suc (suc (suc zero)))))))))))))) low high = refl
reads_still (suc (suc (suc (suc (suc (suc (suc (suc (suc (suc (suc (suc (suc (suc (suc zero))))))))))))))) low high = refl
reads_still (suc (suc (suc (suc (suc (suc (suc (suc (suc (suc (suc (suc (suc (suc (suc (suc zero)))))))))))))))) low high = refl
reads_still (suc (suc (suc (suc (suc (suc (suc (suc (suc (suc (suc (suc (suc (suc (suc (suc (suc zero))))))))))))))))) low high = refl
reads_still _ low high = absurd (omega arith)

reads_on : ReadsUntil (λ _. 0) (halls act) act 0 0 11 18
reads_on k low high = (reads_still k low high, λ value is. let at = writes_fourth k 0 0 value is in omega arith)

pub shared_data_is_handed_over : SharedDataIsHandedOver
shared_data_is_handed_over = record {
  layout = two;
  mutex_of = λ _. 0;
  hall = halls act;
  act = act;
  first = λ _. 0;
  begins = opens;
  keeps = record {
    goes_on = goes_on;
    writing = writes_there;
    reading = λ i c x value is. inl (let r = reads_so i c x value is in r.reading);
  };
  memory = memory;
  handed_over = (3, 11, 1, 0, 0, 7, refl, refl, refl, (λ is. omega arith), λ is. omega arith);
  read_beside = (11, 18, 0, 1, 0, 7, omega arith, reads_on, refl, refl, refl, λ is. omega arith);
}

-- ---- two at once in one hall: the one writes there, and directly after that the other reads

module _ (w r : ℕ) where
  abbrev hasty : ℕ → HallAct
  hasty zero = accesses (writes w 0 7)
  hasty (suc zero) = accesses (reads r 0 0)
  hasty (suc (suc i)) = accesses none

  writes_at_first : (k t x value : ℕ) → access_in (hasty k) ≡ writes t x value → (k ≡ 0) × (w ≡ t)
  writes_at_first zero t x value is = (refl, let own : w ≡ t = cc in own)
  writes_at_first (suc zero) t x value is = absurd (cc)
  writes_at_first (suc (suc i)) t x value is = absurd (cc)

  reads_then : (k t x value : ℕ) → access_in (hasty k) ≡ reads t x value → r ≡ t
  reads_then zero t x value is = absurd (cc)
  reads_then (suc zero) t x value is = let own : r ≡ t = cc in own
  reads_then (suc (suc i)) t x value is = absurd (cc)

  no_moves : (l : Layout) (h : Hall) (i : ℕ) → LeadsOn l h (hasty i) h
  no_moves l h zero = refl
  no_moves l h (suc zero) = refl
  no_moves l h (suc (suc i)) = refl

  module _ (l : Layout) (differ : w ≢ r) where
    apart : (i j : ℕ) → HappensBeforeIn l hasty i j → i ≡ 0 → j ≡ 1 → ⊥
    apart _ _ (in_order i j c less a b) low high = let one : w ≡ c = subst (λ k. IsDoneIn c (hasty k)) low a in
        let other : r ≡ c = subst (λ k. IsDoneIn c (hasty k)) high b in differ (one ∙ sym other)
    apart _ _ (of_mutex i j c m less a b) low high = let z = ap hasty (sym low) ∙ a in cc
    apart _ _ (of_desk i j d less a b) low high = ⊎_elim (λ is. let z = ap hasty (sym low) ∙ is in cc)
        (λ is. let z = ap hasty (sym low) ∙ is.1 in cc) a
    apart _ _ (of_mark i j c e d m less a b) low high = let z = ap hasty (sym low) ∙ a in cc
    apart _ _ (through i k j a b) low high = let x = comes_first_in l hasty i k a in let y = comes_first_in l hasty k j b in omega arith

    hasty_memory : ReadsOfARun l hasty (λ _. 0)
    hasty_memory zero c x value is = absurd (cc)
    hasty_memory (suc zero) c x value is =
        inr ((let old : value ≡ 0 = cc in old), λ k a b. apart k 1 b (writes_at_first k a.0 x a.1 a.2).0 refl)
    hasty_memory (suc (suc i)) c x value is = absurd (cc)

  is_stale : ◌≢◌ {A = ℕ} 0 (wrote (λ _. 0) (λ i. access_in (hasty i)) 1 0)
  is_stale is = omega arith

stale_where : (look : Omission) (l : Layout) (h : Hall) → IsReachedWithout look l h → (w r m : ℕ) → w ≢ r → IsWriting h w m →
    IsReading h r m ⊎ IsWriting h r m → HasStaleSharedRead look
stale_where look l h reached w r m = λ differ writing at_once. record {
  layout = l;
  mutex_of = λ _. m;
  hall = λ _. h;
  act = hasty w r;
  first = λ _. 0;
  begins = reached;
  keeps = record {
    goes_on = no_moves w r l h;
    writing = λ i c x value is. subst (λ y. IsWriting h y m) (writes_at_first w r i c x value is).1 writing;
    reading = λ i c x value is. subst (λ y. IsReading h y m ⊎ IsWriting h y m) (reads_then w r i c x value is) at_once;
  };
  memory = hasty_memory w r l differ;
  read = (1, r, 0, 0, refl, is_stale w r);
}

where_both : (look : Omission) (n : IsNeeded look) → HasBothAtOnce n.hall → HasStaleSharedRead look
where_both look n both = stale_where look n.layout n.hall n.reached both.writer both.reader both.mutex both.differ both.writing
    (inl both.reading)

pub shared_data_needs_each_look : SharedDataNeedsEachLook
shared_data_needs_each_look look_at_owner = let n = each_look_is_needed look_at_owner in let two_write = n.wrong in
    stale_where look_at_owner n.layout n.hall n.reached two_write.one two_write.other two_write.mutex two_write.differ
    two_write.one_writes (inr two_write.other_writes)
shared_data_needs_each_look first_look = let n = each_look_is_needed first_look in where_both first_look n n.wrong
shared_data_needs_each_look look_at_bit = let n = each_look_is_needed look_at_bit in where_both look_at_bit n n.wrong
shared_data_needs_each_look last_look = let n = each_look_is_needed last_look in where_both last_look n n.wrong
shared_data_needs_each_look look_at_marks = let n = each_look_is_needed look_at_marks in where_both look_at_marks n n.wrong
