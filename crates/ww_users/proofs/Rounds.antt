-- What holds of each round of a body, and of what its rounds come to.
use Rattle.std.proofs.Common.{◌≡◌, ℕ, ◌∷◌, [], List, refl, ap, subst, ◌∙◌, inr}
use Rattle.ww_lock.specs.Holding.{Holding, Setting, IsAtHome}
use Rattle.ww_lock.specs.Moves.{IsTaken, IsInterrupted, emptied, interrupted_by}
use Rattle.ww_users.specs.Ways.{with_locks_of}
use Rattle.ww_users.specs.Rounds.{KeepsContext, StartsRound, IsOneMore, IsHaltedBy, IsPutOff}
use Rattle.ww_users.proofs.Contexts.{same_taken}

keeps_home : {s a : Holding} {w : Setting} → KeepsContext s a → IsAtHome s w → IsAtHome a w
keeps_home h home = record {
  home = ap (λ (c : Holding). c.home) h.rest ∙ home.home;
  size = h.size ∙ home.size;
  number = rw (ap (λ (c : Holding). c.caller) h.rest) home.number;
}

keeps_later : {s a b : Holding} → KeepsContext s a → KeepsContext a b → KeepsContext s b
keeps_later {s} {a} {b} h more = record { rest = more.rest ∙ ap (with_locks_of b) h.rest; size = more.size ∙ h.size }

keeps_taken : (b c : Holding) (n : ℕ) → IsTaken (emptied b) n c → KeepsContext b c
keeps_taken b c n taken = let same = same_taken taken in record { rest = same.rest; size = same.size }

-- a round after a back-off starts with the contended lock alone
pub starts_again : {s a b c : Holding} {n : ℕ} {w : Setting} → StartsRound s w a → KeepsContext a b
    → IsTaken (emptied b) n c → c.held ≡ n ∷ [] → StartsRound s w c
starts_again starts round taken alone = let same = keeps_later round (keeps_taken _ _ _ taken) in
    record { home = keeps_home same starts.home; same = keeps_later starts.same same; held = inr (_, alone) }

-- ---- a body of `lock_until_interruptible`

halted_home : {s a : Holding} {w : Setting} {by : ℕ} → IsHaltedBy s by a → IsAtHome s w → IsAtHome a w
halted_home h home = keeps_home h.same (record { home = home.home; size = home.size; number = home.number })

halted_later : {s a b : Holding} {by : ℕ} → KeepsContext s a → IsHaltedBy a by b → IsHaltedBy s by b
halted_later {s} {a} {b} {by} h more = record {
  same = record {
    rest = more.same.rest ∙ ap (λ (c : Holding). with_locks_of b (record c { interrupted = b.interrupted })) h.rest;
    size = more.same.size ∙ h.size;
  };
  told = subst (λ (l : List (ℕ × ℕ)). IsOneMore by l b.interrupted) (ap (λ (c : Holding). c.interrupted) h.rest) more.told;
}

-- the body was called off, in a context that starts a round; all is released, and it is a pass
pub round_halted : {s a b : Holding} {w : Setting} {by : ℕ} (p : Holding) → StartsRound s w a → IsHaltedBy a by b
    → p ≡ record b { held = []; stamp = 0 } → IsPutOff s w by p
round_halted p starts h is =
    let halted = halted_later starts.same h in
    let home = halted_home h starts.home in
    rw is (record {
      home = record { home = home.home; size = home.size; number = home.number };
      halted = record {
        same = record { rest = ap (λ (c : Holding). record c { held = []; stamp = 0 }) halted.same.rest; size = halted.same.size };
        told = halted.told;
      };
      nothing = refl;
    })

-- ... or the back-off after it
pub back_halted : {b : Holding} {n by : ℕ} {s a c : Holding} {w : Setting} (p : Holding) → StartsRound s w a → KeepsContext a b
    → IsInterrupted (emptied b) n by c → p ≡ record c { stamp = 0 } → IsPutOff s w by p
back_halted {b} {n} {by} p starts round h is =
    let halted : IsHaltedBy b by (interrupted_by b n by) = record { same = record { rest = refl; size = refl }; told = (refl, refl) } in
    round_halted p starts (halted_later round halted) (is ∙ ap (λ (d : Holding). record d { stamp = 0 }) h.told)
