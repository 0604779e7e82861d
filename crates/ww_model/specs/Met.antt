-- Whom a context met.
use Rattle.std.specs.Prelude.{ℕ, ◌≡◌, ◌<◌, ◌⊎◌, true}
use Rattle.ww_queue.specs.declared.kind.Kind.TheVariants.{WoundWait, WaitDie}
use Rattle.ww_queue.specs.declared.entry.Entry.{Entry}
use Rattle.ww_queue.specs.Queue.{Has, Before}
use Rattle.ww_model.specs.declared.state.Holder.TheVariants.{Taken, Handed}
use Rattle.ww_model.specs.State.{State, OwnsSome}
use Rattle.ww_model.specs.Event.{after}
use Rattle.ww_model.specs.Run.{Reached, at_start, further}

module _ (c : State) (s k : ℕ) where
  -- a waiter that holds locks, and whose older context has stamp k, stands in the list of a lock that s owns
  pub record MeetsNow : Type 0 where
    pub lock : ℕ
    pub owns : c.owner lock ≡ Taken s
    pub entry : Entry
    pub stands : Has (c.queue lock) entry
    pub holds : entry.holds ≡ true
    pub stamp : entry.stamp ≡ k
    pub context : 0 < k
    pub older : k < c.stamp s

  -- at lock n, k is the older stamp of the owner, or of a context that stands before s
  pub record MeetsAt (n : ℕ) : Type 0 where
    pub context : 0 < k
    pub older : k < c.stamp s
    pub who : ((t : ℕ) × ((c.owner n ≡ Taken t) ⊎ (c.owner n ≡ Handed t)) × (c.stamp t ≡ k))
        ⊎ ((e : Entry) × (f : Entry) × Before (c.queue n) e f × (f.seat ≡ s) × (e.stamp ≡ k))

-- s met k at some point of the run since it last owned no lock
abbrev pub HasMet : (c : State) → Reached c → ℕ → ℕ → Type 0
HasMet _ (at_start kind locks seats) s k = ⊥
HasMet _ (further c e run can) s k = OwnsSome (after c e) s × (MeetsNow (after c e) s k ⊎ HasMet c run s k)

-- a context that gets EDEADLK owned a lock, and met the older context whose stamp it is told
pub record DeadlkIsMet (c : State) (run : Reached c) (s n k : ℕ) : Type 0 where
  pub owns : OwnsSome c s
  pub wounded : c.kind ≡ WoundWait → HasMet c run s k
  pub met : c.kind ≡ WaitDie → MeetsAt c s k n
