-- What a body that takes locks does in its rounds, of which each but the last one ends with EDEADLK.
use Rattle.std.specs.Prelude.{ℕ, ◌≡◌, ◌∷◌, ◌⊎◌, [], List, length, Result, Ok, IfOk, IfErr}
use Rattle.ww_lock.specs.Holding.{Holding, Refused, Setting, IsAtHome}
use Rattle.ww_lock.specs.declared.interruptible.Halt.{Halt}
use Rattle.ww_lock.specs.declared.interruptible.Halt.TheVariants as halt
use Rattle.ww_users.specs.Ways.{with_locks_of}

-- the same context of the same pass, with the same stamp, budget and log, which may hold other locks
pub record KeepsContext (s a : Holding) : Type 0 where
  pub rest : a ≡ with_locks_of a s
  pub size : length a.seen ≡ length s.seen

-- a context that a round starts with: the given one; or, after a back-off, the same one with the contended lock alone
pub record StartsRound (s : Holding) (w : Setting) (a : Holding) : Type 0 where
  pub home : IsAtHome a w
  pub same : KeepsContext s a
  pub held : (a ≡ s) ⊎ ((n : ℕ) × (a.held ≡ n ∷ []))

-- a round keeps the context, whichever way it ends
pub record IsRound (s : Holding) (r : Result Holding Refused) : Type 0 where
  pub ok : IfOk r (KeepsContext s)
  pub err : IfErr r (λ b. KeepsContext s b.holding)

-- one interruption more, by this caller
abbrev pub IsOneMore : ℕ → List (ℕ × ℕ) → List (ℕ × ℕ) → Type 0
IsOneMore by before [] = ⊥
IsOneMore by before (last ∷ rest) = (last.1 ≡ by) × (rest ≡ before)

-- its wait was cancelled by this caller; it is the same context otherwise, which may hold other locks
pub record IsHaltedBy (s : Holding) (by : ℕ) (a : Holding) : Type 0 where
  pub same : KeepsContext (record s { interrupted = a.interrupted }) a
  pub told : IsOneMore by s.interrupted a.interrupted

-- why a round ended without all of its locks
abbrev pub IsRoundHalt : Holding → Halt → Type 0
IsRoundHalt s (halt.Deadlk b) = KeepsContext s b.holding
IsRoundHalt s (halt.Interrupted a by) = IsHaltedBy s by a

-- a round that may be cancelled keeps the context, whichever way it ends
pub record IsHaltingRound (s : Holding) (r : Result Holding Halt) : Type 0 where
  pub ok : IfOk r (KeepsContext s)
  pub err : IfErr r (IsRoundHalt s)

-- A body, by what it wants and what it gives, that may run in rounds of this kind, the first one from a context of this
-- world.
pub record MayRunRounds {E : Type 0} (Round : Holding → Result Holding E → Type 0) (s : Holding) (w : Setting)
    (pre : Holding → Type 0) (post : Holding → Result Holding E → Type 0) : Type 0 where
  pub home : IsAtHome s w
  pub callable : (a : Holding) → StartsRound s w a → pre a
  pub rounds : (a : Holding) (r : Result Holding E) → StartsRound s w a → post a r → Round a r

-- it is still the same context, of this world, as the body returned it from a round
pub record HasRunRounds {E : Type 0} (s : Holding) (w : Setting) (post : Holding → Result Holding E → Type 0) (a : Holding)
    : Type 0 where
  pub home : IsAtHome a w
  pub same : KeepsContext s a
  pub taken : (b : Holding) × StartsRound s w b × post b (Ok a)

-- the pass of a context whose wait was called off by this caller, still of this world: it has no context, and no lock
pub record IsPutOff (s : Holding) (w : Setting) (by : ℕ) (p : Holding) : Type 0 where
  pub home : IsAtHome p w
  pub halted : IsHaltedBy (record s { stamp = 0 }) by p
  pub nothing : p.held ≡ []
