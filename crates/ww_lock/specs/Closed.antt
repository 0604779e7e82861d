-- What closing a world gives.
use Rattle.std.specs.Prelude.{ℕ, zero, suc, ◌≡◌, ◌≤◌, ◌<◌, ◌+◌, ◌==◌, ◌∷◌, [], Bool, List, length, if◌then◌else◌}
use Rattle.std.specs.List.{AllByRecursion, list_any}
use Rattle.ww_plain.specs.History.{Recorded, history_of, part_of, IsLegal, last_graph}
use Rattle.ww_model.specs.Interrupts.{one_of}
use Rattle.ww_invariant.specs.Rule.{own_of, times}
use Rattle.ww_table.specs.declared.seat.Stepper.{Stepper}
use Rattle.ww_table.specs.Closed.{HasCome}
use Rattle.ww_lock.specs.declared.close.History.{History}
use Rattle.ww_lock.specs.declared.close.CloseFault.{CloseFault}
use Rattle.ww_lock.specs.declared.close.CloseFault.TheVariants.{Missing, NoMemory}
use Rattle.ww_lock.specs.Holding.{Holding, Setting, AreBelow, by_of}

-- one of the passes is that of the caller
abbrev pub has_pass : List Holding → ℕ → Bool
has_pass passes caller = list_any (λ s. s.caller == caller) passes

-- how many of the first callers have no pass
abbrev pub missing_of : ℕ → List Holding → ℕ
missing_of zero passes = 0
missing_of (suc k) passes = if has_pass passes k then missing_of k passes else missing_of k passes + 1

-- the part of each caller is the log of its pass
abbrev pub AreParts : List Holding → List Recorded → Type 0
AreParts passes history = AllByRecursion (λ s. part_of s.caller history ≡ s.own) passes

-- how often the first of two passes cancelled the wait of the second, which was told so as often; once more where that
-- cancel is pending
abbrev pub IsBalanced : Holding → Holding → ℕ → Type 0
IsBalanced s t pending = times t.caller s.cancelled ≡ times s.caller (by_of t.interrupted) + one_of s.caller t.caller pending

-- A pass was interrupted by another at most as often as that one set its cancel; the difference is the cancel that is
-- pending, one at most for each pass. No pass was interrupted by a caller that has none.
pub record AreBalanced (w : Setting) (passes : List Holding) : Type 0 where
  pub pending : ℕ → ℕ
  pub each : AllByRecursion (λ s. AllByRecursion (λ t. IsBalanced s t (pending t.caller)) passes) passes
  pub callers : AllByRecursion (λ t. AllByRecursion (λ c. c < w.passes) (by_of t.interrupted)) passes

-- The history is legal from the graph that the world was opened with, and leads to the graph that is told. There is one
-- pass for each caller, each record is one of theirs, and the part of each is exactly the log of its pass. Cancels
-- and interruptions are balanced.
pub record IsClosed (w : Setting) (passes : List Holding) (h : History) : Type 0 where
  pub legal : IsLegal w.first (history_of h.records.items)
  pub fold : h.graph ≡ last_graph w.first (history_of h.records.items)
  pub count : length passes ≡ w.passes
  pub all_there : missing_of w.passes passes ≡ 0
  pub callers : AllByRecursion (λ r. r.caller < w.passes) (history_of h.records.items)
  pub parts : AreParts passes (history_of h.records.items)
  pub balanced : AreBalanced w passes

-- missing passes are told first
abbrev pub IsCloseFault : Setting → List Holding → CloseFault → Type 0
IsCloseFault w passes (Missing k) = (1 ≤ k) × (k ≡ missing_of w.passes passes)
IsCloseFault w passes NoMemory = missing_of w.passes passes ≡ 0

abbrev pub close_number : CloseFault → ℕ
close_number (Missing k) = 5
close_number NoMemory = 6

-- the seat of a pass that holds nothing, with its number, its commits, and what is counted of its cancels
pub record WasSeatOf (s : Holding) (q : Stepper) : Type 0 where
  pub come : HasCome s.home.table q
  pub number : q.who ≡ s.caller
  pub own : own_of q.records.items ≡ s.own
  pub cancelled : q.seat.me.0.part.counts.cancelled ≡ s.cancelled
  pub heeded : q.seat.me.0.part.counts.heeded ≡ by_of s.interrupted

-- the seats of these passes, in the same order
abbrev pub AreSeatsOf : List Holding → List Stepper → Type 0
AreSeatsOf [] [] = Unit {0}
AreSeatsOf [] (q ∷ qs) = ⊥
AreSeatsOf (s ∷ ss) [] = ⊥
AreSeatsOf (s ∷ ss) (q ∷ qs) = WasSeatOf s q × AreSeatsOf ss qs

-- all places of their logs are below this one
abbrev pub AreAllBelow : ℕ → List Holding → Type 0
AreAllBelow place passes = AllByRecursion (λ s. AreBelow place s.own) passes
