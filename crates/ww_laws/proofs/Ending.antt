-- In Wound-Wait the oldest context of those that don't rest comes to its end.
use Rattle.std.proofs.Common.{◌≡◌, ◌≢◌, ◌⊎◌, inl, inr, ⊎_elim, ℕ, suc, ◌<◌, ◌≤◌, ◌+◌, refl, sym, ap, ◌∙◌, arith}
use mathlib.Core.Logic.{dite}
use native.Mathlib.Decide.{ℕ_discrete}
use Rattle.ww_queue.specs.declared.kind.Kind.TheVariants.{WoundWait}
use Rattle.ww_queue.specs.Queue.{StandsNot}
use Rattle.ww_model.specs.declared.event.Event.{Event}
use Rattle.ww_model.specs.declared.event.Event.TheVariants.{Begin, Sign, Die, End}
use Rattle.ww_model.specs.State.{State, dies}
use Rattle.ww_model.specs.Event.{Possible, after}
use Rattle.ww_model.proofs.Puts.{put_else}
use Rattle.ww_model.proofs.Options.{some_of}
use Rattle.ww_model.proofs.Dues.{by_kind, dies_why}
use Rattle.ww_laws.specs.Scene.{Scene, Step, performs, May, next}
use Rattle.ww_laws.specs.Sleepers.{IsEndlessRun}
use Rattle.ww_laws.specs.Premises.{IsOldestActive}
use Rattle.ww_laws.specs.GoingOn.{OldestNeverGivesWay, OldestEnds}
use Rattle.ww_laws.proofs.Steps.{by_event}
use Rattle.ww_laws.proofs.Runs.{lawful_at, kind_at, made_next, may_be, search_to, along}
use Rattle.ww_laws.proofs.Rests.{IsOldestUp, lives, never_signed, unsigned_next, is_up}
use Rattle.ww_laws.proofs.Served.{gone, same_context, drawn_on}
use Rattle.ww_laws.proofs.OldestServed.{oldest_then, oldest_is_served}

pub ends_or_not : (s : ℕ) (x : Step) → (x ≡ performs (End s)) ⊎ (x ≢ performs (End s))
ends_or_not s (performs (End t)) = dite (ℕ_discrete t s) (λ is. inl (ap (λ u. performs (End u)) is))
    (λ isnt. inr (λ z. isnt (let y : t ≡ s = cc in y)))
ends_or_not s _ = inr (λ z. cc)

-- a context goes on until its end
goes_after : (c : State) (v : Event) (s : ℕ) → Possible c v → 0 < c.stamp s → v ≢ End s → (after c v).stamp s ≡ c.stamp s
goes_after c (Begin t) s can some on = put_else c.stamp t (c.drawn + 1) s
    (λ is. let none = can.base.no_context in let same = ap c.stamp is in omega arith)
goes_after c (End t) s can some on = put_else c.stamp t 0 s (λ is. on (ap End (sym is)))
goes_after c _ s can some on = refl

goes_next : (w : Scene) (x : Step) (s : ℕ) → May w x → 0 < w.core.stamp s → x ≢ performs (End s) →
    (next w x).core.stamp s ≡ w.core.stamp s
goes_next w x s may some on = by_event (λ d. d.stamp s ≡ w.core.stamp s) w x may refl
    (λ v how can. goes_after w.core v s can some
    (λ is. ⊎_elim (λ z. on (z ∙ ap performs is)) (λ a. let z = a.4 in cc) how))

pub same_on : (scene : ℕ → Scene) (step : ℕ → Step) → IsEndlessRun scene step → (s i j : ℕ) → i ≤ j →
    0 < (scene i).core.stamp s → ((k : ℕ) → i ≤ k → k < j → step k ≢ performs (End s)) →
    (scene j).core.stamp s ≡ (scene i).core.stamp s
same_on scene step run s i j later some on = along scene step run (λ w. w.core.stamp s ≡ (scene i).core.stamp s) i j
    later refl (λ x from below same. goes_next (scene x) (step x) s (run.may x) (omega arith) (on x from below) ∙ same)

-- in Wound-Wait a seat without a sign doesn't die
pub dies_not : (c : State) (s m : ℕ) → c.kind ≡ WoundWait → c.sign s ≡ 0 → Possible c (Die s m) → ⊥
dies_not c s m kind none can = let cause = some_of (dies c s m) can.signs in let d = dies_why c s m cause.0 cause.1 in
    let signed = (d.wounded kind).0 in omega arith

-- ---- the oldest that doesn't rest

module _ (scene : ℕ → Scene) (step : ℕ → Step) (run : IsEndlessRun scene step) (s i : ℕ)
    (old : IsOldestActive scene step s i) where
  -- it is up as long as its context goes on
  pub up_then : (j : ℕ) → i ≤ j → (scene j).core.stamp s ≡ (scene i).core.stamp s → IsOldestUp (scene j).core s
  up_then j later mine = is_up scene step s j (oldest_then scene step run s i j later old mine)

  -- and nobody signs it
  unsigned_then : (j : ℕ) → i ≤ j → (scene j).core.stamp s ≡ (scene i).core.stamp s → (scene i).core.sign s ≡ 0 →
      (scene j).core.sign s ≡ 0
  unsigned_then j later mine none = let some = old.context in
      let bound = (lawful_at scene step run i).base.stamps.below s in
      along scene step run (λ w. w.core.sign s ≡ 0) i j later none
      (λ x from below. let now = same_context scene step run x j s ((scene i).core.stamp s) (omega arith)
      (drawn_on scene step run i x ((scene i).core.stamp s) from (omega arith)) (omega arith) (omega arith) in
      unsigned_next (scene x) (step x) s (run.may x) (lawful_at scene step run x).base (up_then x from (now ∙ mine)))

  signed_by_none : (j t : ℕ) → i ≤ j → (scene j).core.stamp s ≡ (scene i).core.stamp s →
      step j ≢ performs (Sign t s)
  signed_by_none j t later mine is = never_signed (scene j).core (lawful_at scene step run j).base s
      (up_then j later mine) t (may_be scene step run j (performs (Sign t s)) is).possible

  pub dies_nowhere : (j n : ℕ) → i ≤ j → (scene j).core.stamp s ≡ (scene i).core.stamp s →
      ((scene i).core.kind ≡ WoundWait → (scene i).core.sign s ≡ 0) → step j ≢ performs (Die s n)
  dies_nowhere j n later mine none is = let c = (scene j).core in let kind = kind_at scene step run i j later in
      let can = (may_be scene step run j (performs (Die s n)) is).possible in by_kind c.kind ⊥
      (λ wounding. dies_not c s n wounding (unsigned_then j later mine (none (sym kind ∙ wounding))) can)
      (λ dying. let cause = some_of (dies c s n) can.signs in
      lives c (lawful_at scene step run j).base s (up_then j later mine) dying n cause.0
      (dies_why c s n cause.0 cause.1))

pub oldest_never_gives_way : OldestNeverGivesWay
oldest_never_gives_way scene step run i j s later old none mine = (
  λ t. signed_by_none scene step run s i old j t later mine,
  λ n. dies_nowhere scene step run s i old j n later mine none,
)

pub oldest_ends : OldestEnds
oldest_ends scene step run go release asks i s kind old unsigned ends owning = let e = ends i old.context in
    let j = e.0 in let later = e.1 in ⊎_elim
    (λ found. (found.at, found.from, inl (inl found.holds)))
    (λ on. let mine = same_on scene step run s i j later old.context on in
    let now = unsigned_then scene step run s i old j later mine unsigned in
    let kind' = kind_at scene step run i j later ∙ kind in ⊎_elim
    (λ over. (j, later, inl over))
    (⊎_elim
    (λ waits. let m = waits.0 in let h = waits.1 j (omega arith) in
    let served = oldest_is_served scene step run go release asks j s m kind'
    (oldest_then scene step run s i j later old mine) now (owning j m later h) h in
    let x = served.0 in let after = served.1 in ⊎_elim
    (λ take. let still = waits.1 (suc x) (omega arith) in
    absurd (made_next scene step run (λ w. StandsNot (w.core.queue m) s) x
    (gone (scene x) (step x) s m (lawful_at scene step run x).base (inl take)) still.0 still.1 still.2))
    (λ leave. (x, omega arith, inr (m, leave))) served.2)
    (λ up. ⊎_elim
    (λ die. absurd (dies_not (scene j).core s up.0 kind' now
    (may_be scene step run j (performs (Die s up.0)) die).possible))
    (λ leave. (j, later, inr (up.0, leave))) up.1))
    e.2)
    (search_to (λ k. step k ≡ performs (End s)) (λ k. ends_or_not s (step k)) i j later)
