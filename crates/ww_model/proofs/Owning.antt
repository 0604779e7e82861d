-- Whether a seat owns some lock, computed.
use Rattle.std.proofs.Common.{◌≡◌, ◌≢◌, ℕ, ◌≤◌, true, false, sym, ◌∙◌, arith, true≢false}
use mathlib.Core.Logic.{dite}
use native.Mathlib.Decide.{dec_le}
use Rattle.ww_model.specs.declared.state.Holder.{Holder}
use Rattle.ww_model.specs.declared.state.Holder.TheVariants.{Nobody, Taken}
use Rattle.ww_model.specs.State.{any_below, is_taken_by}
use Rattle.ww_model.proofs.Outcomes.{taken_true, true_taken}
use Rattle.ww_model.proofs.Slots.{below_found, found_below}

pub owns_found : (locks : ℕ) (owner : ℕ → Holder) (s : ℕ) → any_below locks (λ n. is_taken_by s (owner n)) ≡ true
    → (n : ℕ) × (owner n ≡ Taken s)
owns_found locks owner s h = let found = below_found locks (λ n. is_taken_by s (owner n)) h in
    (found.0, taken_true s (owner found.0) found.2)

pub owns_none : (locks : ℕ) (owner : ℕ → Holder) (s : ℕ) → ((n : ℕ) → locks ≤ n → owner n ≡ Nobody)
    → any_below locks (λ n. is_taken_by s (owner n)) ≡ false → (n : ℕ) → owner n ≢ Taken s
owns_none locks owner s range h n is = dite (dec_le locks n)
    (λ below. absurd (let o = range n below in cc))
    (λ above. true≢false (sym (found_below locks (λ n. is_taken_by s (owner n)) n (omega arith) (true_taken s (owner n) is)) ∙ h))
