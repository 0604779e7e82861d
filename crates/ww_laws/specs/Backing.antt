-- Backing off ends.
use Rattle.std.specs.Prelude.{ℕ, ◌≡◌, ◌≢◌, ◌<◌, ◌≤◌}
use Rattle.ww_queue.specs.declared.kind.Kind.TheVariants.{WaitDie}
use Rattle.ww_model.specs.declared.event.Event.TheVariants.{Die}
use Rattle.ww_laws.specs.Scene.{Scene, Step, performs}
use Rattle.ww_laws.specs.Sleepers.{IsEndlessRun}
use Rattle.ww_laws.specs.Premises.{InTheEnd, WaitersGoOn, HoldersRelease, IsOver, FirstsAsk, BacksOff, TakesContendedFirst, ContextsEndOrDie}

module _ (scene : ℕ → Scene) (step : ℕ → Step) (s i : ℕ) where
  -- each context that is older than that of the seat at i is over in the end
  abbrev pub OlderAreOver : Type 0
  OlderAreOver = (t : ℕ) → 0 < (scene i).core.stamp t → (scene i).core.stamp t < (scene i).core.stamp s →
      InTheEnd i (IsOver scene step t)

  -- from j on that context dies once at most, and in Wait-Die not at all
  pub record DiesNoMore (j : ℕ) : Type 0 where
    pub once : (k l m n : ℕ) → j ≤ k → k < l → step k ≡ performs (Die s m) → step l ≡ performs (Die s n) →
        (scene l).core.stamp s ≢ (scene i).core.stamp s
    pub never : (scene i).core.kind ≡ WaitDie → (k n : ℕ) → j ≤ k → step k ≡ performs (Die s n) →
        (scene k).core.stamp s ≢ (scene i).core.stamp s

-- In both kinds a context backs off finitely often, if each older one is over in the end, and a seat that died releases all
-- that it has before it wants a lock again. Only finitely many are older: each context that begins is younger than all.
abbrev pub BackingOffEnds : Type 0
BackingOffEnds = (scene : ℕ → Scene) (step : ℕ → Step) → IsEndlessRun scene step → BacksOff scene step → (i s : ℕ) →
    0 < (scene i).core.stamp s → OlderAreOver scene step s i → InTheEnd i (DiesNoMore scene step s i)

-- In Wait-Die each context is over in the end, by what `ContextsAreServed` asks: so there each older one is.
abbrev pub ContextsAreOver : Type 0
ContextsAreOver = (scene : ℕ → Scene) (step : ℕ → Step) → IsEndlessRun scene step → WaitersGoOn scene step →
    HoldersRelease scene step → ContextsEndOrDie scene step → FirstsAsk scene step → BacksOff scene step →
    TakesContendedFirst scene step → (i s : ℕ) → (scene i).core.kind ≡ WaitDie → 0 < (scene i).core.stamp s →
    InTheEnd i (IsOver scene step s)
