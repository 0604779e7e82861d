-- What the caller's calls do to its pass.
use Rattle.std.specs.Prelude.{ℕ, ◌≡◌, ◌∷◌, ◌++◌, [], length, IsTrue}
use Rattle.ww_plain.specs.Numbers.{is_among}
use Rattle.ww_plain.specs.Transaction.{Transaction}
use Rattle.ww_plain.specs.Meaning.{answer_of}
use Rattle.ww_lock.specs.declared.prepared.Receipt.{Receipt}
use Rattle.ww_lock.specs.Holding.{Holding}
use Rattle.ww_users.specs.Rounds.{KeepsContext}

-- it is the same context, and holds what it held, and this node
pub record IsLockedMore (s : Holding) (n : ℕ) (a : Holding) : Type 0 where
  pub same : KeepsContext s a
  pub holds : IsTrue (is_among n a.held)
  pub keeps : (m : ℕ) → IsTrue (is_among m s.held) → IsTrue (is_among m a.held)

-- it holds both nodes
pub record HasBoth (n m : ℕ) (a : Holding) : Type 0 where
  pub one : IsTrue (is_among n a.held)
  pub other : IsTrue (is_among m a.held)

-- exactly one record more: that of this transaction, with the place, the number and the answer that the receipt tells
pub record HasRecord (s a : Holding) (txn : Transaction) (told : Receipt) : Type 0 where
  pub own : a.own ≡ s.own ++
      (told.place, record { caller = s.caller; seq = told.seq; transaction = txn; answer = answer_of told.reply }) ∷ []
  pub seq : told.seq ≡ length s.own
