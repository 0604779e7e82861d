-- Runs that lead to readers and a writer, and, without one look, to both at once, or to two writers.
use Rattle.std.proofs.Common.{◌≡◌, ◌≢◌, ◌<◌, ℕ, zero, suc, false, None, refl, arith}
use Rattle.ww_protocols.specs.Hall.{Layout, Hall, reads, nothing, no_bit, no_mark, Move, sits, stands_up, visits, quits, locks, unlocks, sets_bit, sets_mark, finds_free, finds_bit, finds_free_again, reads_as_owner, clears_mark, finds_no_bit, finds_no_mark, clears_bit, begins_to_write, MayMove, hall_after, IsReachedHall, opens, goes_on}
use Rattle.ww_protocols.specs.Readers.{ReadersAndWritersCome, Omission, first_look, look_at_bit, last_look, look_at_marks, look_at_owner, MovesUnlooking, HasBothAtOnce, GoesWrong, IsReachedWithout, opens_without, looks, omits, IsNeeded, EachLookIsNeeded}

zero_isnt_one : ◌≢◌ {A = ℕ} 0 1
zero_isnt_one is = omega arith

one_isnt_zero : ◌≢◌ {A = ℕ} 1 0
one_isnt_zero is = omega arith

pub bit_is_found : no_bit ≢ nothing
bit_is_found is = let z : ⊥ = cc in z

mark_is_found : no_mark ≢ nothing
mark_is_found is = let z : ⊥ = cc in z

-- ---- a reader and a reader, and then a writer

-- two contexts, each with a bit of its own
abbrev pub two : Layout
two = record { contexts = 2; bit = λ c. c; mark = λ _. 0 }

-- what holds at desk 0 holds at each but desk 1
pub but_one : (P : ℕ → Type 0) → P 0 → (d : ℕ) → d < 2 → d ≢ 1 → P d
but_one P p zero few other = p
but_one P p (suc zero) few other = absurd (other refl)
but_one P p (suc (suc d)) few other = let z : ⊥ = omega arith in absurd z

module _ {h : Hall} where
  does_0 : IsReachedHall two h → (a : Move) → MayMove two h 0 a → IsReachedHall two (hall_after two h 0 a)
  does_0 reached a may = goes_on h 0 a reached (omega arith) may

  does_1 : IsReachedHall two h → (a : Move) → MayMove two h 1 a → IsReachedHall two (hall_after two h 1 a)
  does_1 reached a may = goes_on h 1 a reached (omega arith) may

-- Context 0 reads mutex 0 as one that has waited for it, and context 1 by its three looks. Then context 0 ends, and
-- context 1 upgrades: it clears the mark that is left.
pub readers_and_writers_come : ReadersAndWritersCome
readers_and_writers_come = let s = does_0 opens sits refl in let s = does_0 s (locks 0) refl in
    let s = does_0 s (sets_bit 0) tt in let s = does_0 s (sets_mark 0) (refl, refl) in
    let s = does_0 s (reads_as_owner 0) (record { owns = refl; bit = refl; mark = λ is. let z : ⊥ = cc in z }) in
    let s = does_0 s (unlocks 0) refl in
    let s = does_1 s sits refl in let s = does_1 s (sets_bit 0) tt in let s = does_1 s (sets_mark 0) (refl, refl) in
    let s = does_1 s (finds_free 0) (refl, refl) in let s = does_1 s (finds_bit 0) (refl, refl) in
    let both_read = does_1 s (finds_free_again 0) (refl, refl) in
    let s = does_0 both_read stands_up refl in let s = does_1 s (locks 0) refl in
    let s = does_1 s (visits 0) (zero_isnt_one, refl) in
    let s = does_1 s (clears_mark 0 0) (record { has = refl; unused = λ is. absurd (zero_isnt_one is) }) in
    let s = does_1 s (quits 0) (zero_isnt_one, refl) in
    let s = does_1 s (finds_no_mark 0 0) (refl, refl) in
    let s = does_1 s (clears_bit 0 0) (record {
      owns = refl;
      found = but_one _ (λ _. refl);
      unused = λ is. absurd (one_isnt_zero is);
    }) in
    let writes = does_1 s (begins_to_write 0) (record { owns = refl; found = but_one _ mark_is_found }) in record {
      readers_meet = record {
        layout = two;
        hall = _;
        reached = both_read;
        holds = record { one = 0; other = 1; mutex = 0; differ = zero_isnt_one; one_reads = refl; other_reads = refl };
      };
      readers_upgrade = record {
        layout = two;
        hall = _;
        reached = writes;
        holds = record { context = 1; mutex = 0; reads_it = refl; writes_it = refl };
      };
    }

-- ---- without one look

-- three contexts, which have one bit
abbrev three : Layout
three = record { contexts = 3; bit = λ _. 0; mark = λ _. 0 }

-- what holds at desks 0 and 2 holds at each but desk 1
but_that_of_1 : (P : ℕ → Type 0) → P 0 → P 2 → (d : ℕ) → d < 3 → d ≢ 1 → P d
but_that_of_1 P p q zero few other = p
but_that_of_1 P p q (suc zero) few other = absurd (other refl)
but_that_of_1 P p q (suc (suc zero)) few other = q
but_that_of_1 P p q (suc (suc (suc d))) few other = let z : ⊥ = omega arith in absurd z

module _ {look : Omission} {h : Hall} where
  -- one more move, of a context that looks
  by_0 : IsReachedWithout look three h → (a : Move) → MayMove three h 0 a → IsReachedWithout look three (hall_after three h 0 a)
  by_0 reached a may = looks h 0 a reached (omega arith) may

  by_1 : IsReachedWithout look three h → (a : Move) → MayMove three h 1 a → IsReachedWithout look three (hall_after three h 1 a)
  by_1 reached a may = looks h 1 a reached (omega arith) may

  by_2 : IsReachedWithout look three h → (a : Move) → MayMove three h 2 a → IsReachedWithout look three (hall_after three h 2 a)
  by_2 reached a may = looks h 2 a reached (omega arith) may

  -- and of context 0 or 1, which doesn't
  unlooking_0 : IsReachedWithout look three h → (a : Move) → MovesUnlooking look three h 0 a →
      IsReachedWithout look three (hall_after three h 0 a)
  unlooking_0 reached a may = omits h 0 a reached (omega arith) may

  unlooking_1 : IsReachedWithout look three h → (a : Move) → MovesUnlooking look three h 1 a →
      IsReachedWithout look three (hall_after three h 1 a)
  unlooking_1 reached a may = omits h 1 a reached (omega arith) may

-- context 0 reads, and context 1, which finds no bit, writes
both_at_once : {look : Omission} (h : Hall) → ((h' : Hall) → HasBothAtOnce h' → GoesWrong look h') → IsReachedWithout look three h →
    h.owner 0 ≡ None → h.bits 0 0 ≡ false → h.progress 0 0 ≡ reads → IsNeeded look
both_at_once h so s free unset reading = let s = by_1 s (locks 0) free in
    let s = by_1 s (finds_no_bit 0 0) (refl, unset) in let s = by_1 s (finds_no_bit 0 2) (refl, unset) in
    let s = by_1 s (begins_to_write 0) (record { owns = refl; found = but_that_of_1 _ bit_is_found bit_is_found }) in record {
      layout = three;
      hall = _;
      reached = s;
      wrong = so _ (record { writer = 1; reader = 0; mutex = 0; differ = one_isnt_zero; writing = refl; reading = reading });
    }

-- The writer looked at the marks before the reader had its own, and clears the bit that the reader has found.
no_first_look : IsNeeded first_look
no_first_look = let s = by_0 opens_without sits refl in let s = by_0 s (sets_bit 0) tt in
    let s = by_1 s (locks 0) refl in let s = by_1 s (finds_no_mark 0 0) (refl, refl) in let s = by_1 s (finds_no_mark 0 2) (refl, refl) in
    let s = by_0 s (sets_mark 0) (refl, refl) in let s = unlooking_0 s (finds_free 0) refl in let s = by_0 s (finds_bit 0) (refl, refl) in
    let s = by_1 s (clears_bit 0 0) (record {
      owns = refl;
      found = but_that_of_1 _ (λ _. refl) (λ _. refl);
      unused = λ _. refl;
    }) in
    let s = by_1 s (unlocks 0) refl in let s = by_0 s (finds_free_again 0) (refl, refl) in
    both_at_once _ (λ _ both. both) s refl refl refl

-- The reader has no bit.
no_look_at_bit : IsNeeded look_at_bit
no_look_at_bit = let s = by_0 opens_without sits refl in let s = by_0 s (sets_mark 0) (refl, refl) in
    let s = by_0 s (finds_free 0) (refl, refl) in let s = unlooking_0 s (finds_bit 0) refl in
    let s = by_0 s (finds_free_again 0) (refl, refl) in
    both_at_once _ (λ _ both. both) s refl refl refl

-- The writer found no bit, and the one that the reader finds is set by another context since.
no_last_look : IsNeeded last_look
no_last_look = let s = by_0 opens_without sits refl in let s = by_0 s (sets_mark 0) (refl, refl) in
    let s = by_0 s (finds_free 0) (refl, refl) in let s = by_1 s (locks 0) refl in
    let s = by_1 s (finds_no_bit 0 0) (refl, refl) in let s = by_1 s (finds_no_bit 0 2) (refl, refl) in
    let s = by_1 s (begins_to_write 0) (record { owns = refl; found = but_that_of_1 _ bit_is_found bit_is_found }) in
    let s = by_2 s (sets_bit 0) tt in let s = by_0 s (finds_bit 0) (refl, refl) in
    let s = unlooking_0 s (finds_free_again 0) refl in record {
      layout = three;
      hall = _;
      reached = s;
      wrong = record { writer = 1; reader = 0; mutex = 0; differ = one_isnt_zero; writing = refl; reading = refl };
    }

-- The writer clears the bit that the reader has set and found since.
no_look_at_marks : IsNeeded look_at_marks
no_look_at_marks = let s = by_0 opens_without sits refl in let s = by_0 s (sets_mark 0) (refl, refl) in
    let s = by_0 s (finds_free 0) (refl, refl) in let s = by_1 s (locks 0) refl in
    let s = by_1 s (finds_no_bit 0 0) (refl, refl) in let s = by_1 s (finds_no_bit 0 2) (refl, refl) in
    let s = by_0 s (sets_bit 0) tt in let s = by_0 s (finds_bit 0) (refl, refl) in
    let s = unlooking_1 s (clears_bit 0 0) (refl, but_that_of_1 _ (λ _. bit_is_found) (λ _. bit_is_found)) in
    let s = by_1 s (unlocks 0) refl in let s = by_0 s (finds_free_again 0) (refl, refl) in
    both_at_once _ (λ _ both. both) s refl refl refl

-- what holds at desks 1 and 2 holds at each but desk 0
but_that_of_0 : (P : ℕ → Type 0) → P 1 → P 2 → (d : ℕ) → d < 3 → d ≢ 0 → P d
but_that_of_0 P p q zero few other = absurd (other refl)
but_that_of_0 P p q (suc zero) few other = p
but_that_of_0 P p q (suc (suc zero)) few other = q
but_that_of_0 P p q (suc (suc (suc d))) few other = let z : ⊥ = omega arith in absurd z

-- The one writes, and the other takes the mutex from it.
no_look_at_owner : IsNeeded look_at_owner
no_look_at_owner = let s = by_1 opens_without (locks 0) refl in
    let s = by_1 s (finds_no_bit 0 0) (refl, refl) in let s = by_1 s (finds_no_bit 0 2) (refl, refl) in
    let s = by_1 s (begins_to_write 0) (record { owns = refl; found = but_that_of_1 _ bit_is_found bit_is_found }) in
    let s = unlooking_0 s (locks 0) (λ is. let z : ⊥ = cc in z) in
    let s = by_0 s (finds_no_bit 0 1) (refl, refl) in let s = by_0 s (finds_no_bit 0 2) (refl, refl) in
    let s = by_0 s (begins_to_write 0) (record { owns = refl; found = but_that_of_0 _ bit_is_found bit_is_found }) in record {
      layout = three;
      hall = _;
      reached = s;
      wrong = record { one = 1; other = 0; mutex = 0; differ = one_isnt_zero; one_writes = refl; other_writes = refl };
    }

pub each_look_is_needed : EachLookIsNeeded
each_look_is_needed first_look = no_first_look
each_look_is_needed look_at_bit = no_look_at_bit
each_look_is_needed last_look = no_last_look
each_look_is_needed look_at_marks = no_look_at_marks
each_look_is_needed look_at_owner = no_look_at_owner
