-- What a way of taking locks gives, told of a transaction: a state that holds the nodes of a list holds all that is named
-- by it.
use Rattle.std.proofs.Common.{◌≡◌, ℕ, true, false, List, [], ◌∷◌, Some, Result, Ok, Err, map, refl, sym, ◌∙◌}
use Rattle.std.specs.List.{AllByRecursion}
use Rattle.ww_plain.specs.Transaction.{Transaction, listed}
use Rattle.ww_plain.specs.Footprint.{footprint_of}
use Rattle.ww_plain.specs.Numbers.{is_among, distinct_of, AreDifferent}
use Rattle.ww_plain.proofs.Members.{different_cons, different_none}
use Rattle.ww_plain.proofs.Frames.{is_among-distinct_of}
use Rattle.ww_plain.proofs.Doubles.{no_double_is_none}
use Rattle.ww_lock.specs.Waits.{Waits}
use Rattle.ww_lock.specs.Holding.{Holding}
use Rattle.ww_users.specs.declared.fault.UserFault.{UserFault}
use Rattle.ww_users.specs.declared.fault.UserFault.TheVariants.{PassSpent, Already, Interrupted}
use Rattle.ww_users.specs.Ways.{HoldsList, IsWayAnswer}
use Rattle.ww_users.proofs.Alongs.{all_among}
use Rattle.ww_txn.specs.Transact.{HoldsFootprint}

-- ---- what it gives

-- it holds something else, too
pub way_weaker : {P Q : Holding → Type 0} (waits : Waits) (s : Holding) (ns : List ℕ) (r : Result Holding (Holding × UserFault))
    → ((a : Holding) → P a → Q a) → IsWayAnswer waits s ns P r → IsWayAnswer waits s ns Q r
way_weaker waits s ns (Ok a) weaker told = (told.0, weaker a told.1)
way_weaker waits s ns (Err e) weaker told = told

-- no duplicate is told of nodes that differ
pub way_differs : (P : Holding → Type 0) (waits : Waits) (s : Holding) (ns : List ℕ) (r : Result Holding (Holding × UserFault))
    → AreDifferent ns → IsWayAnswer waits s ns P r → IsWayAnswer waits s [] P r
way_differs P waits s ns (Ok a) different told = told
way_differs P waits s ns (Err (p, PassSpent)) different told = told
way_differs P waits s ns (Err (p, Interrupted by)) different told = told
way_differs P waits s ns (Err (p, Already n)) different told = absurd (no_double_is_none ns (Some n) told.0.0 refl different)

pub different_one : (n : ℕ) → AreDifferent (n ∷ [])
different_one n = different_cons n [] refl different_none

pub different_two : (n m : ℕ) → is_among n (m ∷ []) ≡ false → AreDifferent (n ∷ m ∷ [])
different_two n m new = different_cons n (m ∷ []) new (different_one m)

-- ---- what it holds

pub all_mapped : {A : Type 0} (P : ℕ → Type 0) (f : A → ℕ) (xs : List A) → AllByRecursion (λ x. P (f x)) xs → AllByRecursion P (map f xs)
all_mapped P f [] all = tt
all_mapped P f (x ∷ xs) all = (all.0, all_mapped P f xs all.1)

-- whoever holds just the nodes that a transaction lists is ready for it, where those are all that it depends on and may change
pub ready : (txn : Transaction) (a : Holding) → footprint_of a.seen txn ≡ distinct_of (listed txn) → HoldsList (listed txn) a → HoldsFootprint txn a
ready txn a names h = (
  h.1,
  rw names (all_among (λ n. is_among n a.held ≡ true) (distinct_of (listed txn))
      (λ n e. h.0 n ∙ sym (is_among-distinct_of n (listed txn)) ∙ e)),
)
