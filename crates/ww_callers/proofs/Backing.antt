-- A desk that is told to back off, and whose call answers so.
use Rattle.std.proofs.Common.{◌≡◌, ℕ, ◌+◌, Some, refl, sym, subst}
use Rattle.ww_view.specs.declared.view.View.{View}
use Rattle.ww_seat.specs.declared.look.Arrival.{Arrival}
use Rattle.ww_seat.specs.declared.waits.Waits.{Waits}
use Rattle.ww_steps.specs.declared.turn.Turn.TheVariants.{Rests, Wants}
use Rattle.ww_steps.specs.declared.turn.Answer.TheVariants.{Deadlk}
use Rattle.ww_steps.specs.Situations.{Situation}
use Rattle.ww_steps.specs.Answers.{HasToBackOff, IsNextAnswer, WakesCondemned}
use Rattle.ww_steps.proofs.Account.{balances_same, step_books}
use Rattle.ww_callers.specs.Deeds.{HasDone, go_on}

abbrev pub once_told : Situation → ℕ → View → Situation
once_told s n v = record s { turn = Rests; told = Some n; deaths = s.deaths + 1; view = v }

pub backs_off : (s : Situation) (n k : ℕ) (arrival : Arrival) (waits : Waits) (v : View) → s.turn ≡ Wants n arrival waits →
    (WakesCondemned s (once_told s n v) × HasToBackOff s n k (once_told s n v)) →
    (v.debts ≡ s.view.debts) × (v.naps ≡ s.view.naps) → HasDone go_on s (Deadlk k) (once_told s n v)
backs_off s n k arrival waits v turn answer same = let s' = once_told s n v in (
  subst (λ t. IsNextAnswer t s (Deadlk k) s') (sym turn) answer,
  step_books s s' (balances_same s s' refl refl same.0 refl),
  same.1,
)
