-- What a test that came out true or false says.
use Rattle.std.proofs.Common.{ℕ, ◌≡◌, ◌<◌, ◌≤◌, true, false, arith}
use Rattle.std.proofs.lemmas.Grind.{common_steps}
pub use Rattle.std.proofs.lemmas.Bool.{cond_both as by_test, cond-true as true_picks, cond-false as false_picks, and_parts as both_true, and_from as true_both, eqb-true as same_number, eqb-false as other_number, ne_eqb as number_other}
use Rattle.ww_queue.specs.declared.entry.Entry.{Entry}
use Rattle.ww_queue.specs.Entry.{is_older, IsOlder, has_context, is_holding, IsHolding}

pub older_true : (k m : ℕ) → is_older k m ≡ true → IsOlder k m
older_true k m is = (grind (arith, common_steps), grind (arith, common_steps))

pub older_false : (k m : ℕ) → is_older k m ≡ false → IsOlder k m → ⊥
older_false k m isnt older = grind (arith, common_steps)

pub true_older : (k m : ℕ) → IsOlder k m → is_older k m ≡ true
true_older k m older = grind (arith, common_steps)

-- a context that isn't younger comes first or is the same
pub not_younger : (k m : ℕ) → is_older k m ≡ false → 0 < k → m ≤ k
not_younger k m isnt some = grind (arith, common_steps)

pub context_true : (e : Entry) → has_context e ≡ true → 0 < e.stamp
context_true e is = grind (arith, common_steps)

pub context_false : (e : Entry) → has_context e ≡ false → e.stamp ≡ 0
context_false e isnt = grind (arith, common_steps)

pub true_context : (e : Entry) → 0 < e.stamp → has_context e ≡ true
true_context e some = grind (arith, common_steps)

pub holding_true : (e : Entry) → is_holding e ≡ true → IsHolding e
holding_true e is = (grind (arith, common_steps), grind (arith, common_steps))

pub true_holding : (e : Entry) → IsHolding e → is_holding e ≡ true
true_holding e holding = grind (arith, common_steps)
