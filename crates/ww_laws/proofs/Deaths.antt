-- A context backs off finitely often, if the older ones are over in the end.
use Rattle.std.proofs.Common.{◌≡◌, ◌≢◌, ◌⊎◌, inl, inr, ⊎_elim, ℕ, zero, suc, ◌+◌, ◌<◌, ◌≤◌, sym, ap, ◌∙◌, subst, arith}
use mathlib.Core.Logic.{dite}
use native.Mathlib.Decide.{ℕ_discrete}
use Rattle.ww_queue.specs.declared.kind.Kind.TheVariants.{WoundWait, WaitDie}
use Rattle.ww_model.specs.declared.state.Holder.TheVariants.{Taken}
use Rattle.ww_model.specs.declared.event.Event.TheVariants.{Fast, Take, Die, End}
use Rattle.ww_model.specs.State.{IsCalm, OwnsNone, dies}
use Rattle.ww_model.proofs.Puts.{put_here}
use Rattle.ww_model.proofs.Options.{some_of}
use Rattle.ww_model.proofs.Dues.{by_kind, dies_why}
use Rattle.ww_laws.specs.Scene.{Scene, Step, performs}
use Rattle.ww_laws.specs.Sleepers.{IsEndlessRun}
use Rattle.ww_laws.proofs.Endless.{holds_at}
use Rattle.ww_laws.specs.Premises.{InTheEnd, RestsOn, IsOldestActive, IsOver, BacksOff}
use Rattle.ww_laws.specs.Backing.{OlderAreOver, DiesNoMore, BackingOffEnds}
use Rattle.ww_laws.proofs.Runs.{orderly_at, lawful_at, kind_at, known_next, may_be}
use Rattle.ww_laws.proofs.Livelock.{after_death, joined_between}
use Rattle.ww_laws.proofs.Rests.{unsigned_next, rests_on}
use Rattle.ww_laws.proofs.Served.{same_context, drawn_on}
use Rattle.ww_laws.proofs.Ending.{dies_not, up_then, dies_nowhere}
use Rattle.ww_laws.proofs.Contexts.{gained_next, find}

-- the seat comes to own a lock by this step
abbrev Gains : ℕ → ℕ → Step → Type 0
Gains s n x = (x ≡ performs (Fast s n)) ⊎ (x ≡ performs (Take s n))

gains_or_not : (s : ℕ) (x : Step) → ((n : ℕ) × Gains s n x) ⊎ ((n : ℕ) → ¬ Gains s n x)
gains_or_not s (performs (Fast t m)) = dite (ℕ_discrete t s) (λ is. inl (m, inl (ap (λ u. performs (Fast u m)) is)))
    (λ isnt. inr (λ n. ⊎_elim (λ z. isnt (let y : t ≡ s = cc in y)) (λ z. cc)))
gains_or_not s (performs (Take t m)) = dite (ℕ_discrete t s) (λ is. inl (m, inr (ap (λ u. performs (Take u m)) is)))
    (λ isnt. inr (λ n. ⊎_elim (λ z. cc) (λ z. isnt (let y : t ≡ s = cc in y))))
gains_or_not s _ = inr (λ n. ⊎_elim (λ z. cc) (λ z. cc))

module _ (scene : ℕ → Scene) (step : ℕ → Step) (run : IsEndlessRun scene step) where
  abbrev stamp_at : ℕ → ℕ → ℕ
  stamp_at k t = (scene k).core.stamp t

  -- ---- the older contexts come to rest, or end

  -- each context with a stamp below this one rests; the one with this stamp does
  abbrev Quiet : ℕ → ℕ → Type 0
  Quiet b k = (t : ℕ) → 0 < stamp_at k t → stamp_at k t < b → RestsOn scene step t k

  abbrev IsQuiet : ℕ → ℕ → Type 0
  IsQuiet b k = (t : ℕ) → 0 < b → stamp_at k t ≡ b → RestsOn scene step t k

  quiet_later : (b k j : ℕ) → k ≤ j → b ≤ (scene k).core.drawn → Quiet b k → Quiet b j
  quiet_later b k j later drawn quiet t some less = let same = same_context scene step run k j t b later drawn some (omega arith) in
      rests_on scene step t k j later same (quiet t (omega arith) (omega arith))

  is_quiet_later : (b k j : ℕ) → k ≤ j → b ≤ (scene k).core.drawn → IsQuiet b k → IsQuiet b j
  is_quiet_later b k j later drawn quiet t some is = let same = same_context scene step run k j t b later drawn (omega arith) (omega arith) in
      rests_on scene step t k j later same (quiet t some (same ∙ is))

  one_over : (i b u : ℕ) → 0 < b → b ≤ (scene i).core.drawn → stamp_at i u ≡ b → InTheEnd i (IsOver scene step u) →
      InTheEnd i (IsQuiet b)
  one_over i b u some drawn its (j, later, over) = ⊎_elim
      (λ ends. (
        suc j,
        omega arith,
        λ t _ is. let same = who (suc j) t (omega arith) is in
            let none = known_next scene step run (λ w. w.core.stamp u ≡ 0) j (performs (End u)) ends (put_here (scene j).core.stamp u 0) in
            let here = ap (scene (suc j)).core.stamp same in absurd (omega arith),
      ))
      (λ rests. (j, later, λ t _ is. subst (λ x. RestsOn scene step x j) (sym (who j t later is)) rests))
      over
    where
      who : (k t : ℕ) → i ≤ k → stamp_at k t ≡ b → t ≡ u
      who k t from is = let same = same_context scene step run i k t b from drawn (omega arith) (omega arith) in
          (lawful_at scene step run i).base.stamps.differ t u (omega arith) (same ∙ is ∙ sym its)

  quiet_to : (i s b : ℕ) → OlderAreOver scene step s i → b ≤ stamp_at i s → InTheEnd i (Quiet b)
  quiet_to i s zero older few = (i, omega arith, λ t some less. absurd (omega arith))
  quiet_to i s (suc b) older few = let q = quiet_to i s b older (omega arith) in let k = q.0 in let from = q.1 in
      let bound = (lawful_at scene step run i).base.stamps.below s in
      let drawn : b ≤ (scene k).core.drawn = drawn_on scene step run i k b from (omega arith) in dite (ℕ_discrete b 0)
      (λ none. (k, from, λ t some less. absurd (omega arith)))
      (λ some. ⊎_elim
      (λ u. let o = one_over i b u.0 (omega arith) (omega arith) u.1 (older u.0 (let is = u.1 in omega arith) (let is = u.1 in omega arith)) in
      let j = o.0 in let later = o.1 in (
        k + j,
        omega arith,
        λ t there less. dite (ℕ_discrete (stamp_at (k + j) t) b)
            (λ is. is_quiet_later b j (k + j) (omega arith) (drawn_on scene step run i j b later (omega arith)) o.2 t (omega arith) is)
            (λ isnt. quiet_later b k (k + j) (omega arith) drawn q.2 t there (omega arith)),
      ))
      (λ none. (
        k,
        from,
        λ t there less. dite (ℕ_discrete (stamp_at k t) b)
            (λ is. let same = same_context scene step run i k t b from (omega arith) there (omega arith) in absurd (none t (same ∙ is)))
            (λ isnt. q.2 t there (omega arith)),
      ))
      (find (scene i).core b (orderly_at scene step run i).reached (omega arith)))

  -- ---- from then on

  module _ (s i at : ℕ) (some : 0 < stamp_at i s) (from : i ≤ at) (quiet : Quiet (stamp_at i s) at) where
    drawn_at : (k : ℕ) → at ≤ k → stamp_at i s ≤ (scene k).core.drawn
    drawn_at k later = let bound = (lawful_at scene step run i).base.stamps.below s in
        drawn_on scene step run i k (stamp_at i s) (omega arith) (omega arith)

    -- the context that it has later it has before
    same_at : (k l : ℕ) → at ≤ k → k ≤ l → stamp_at l s ≡ stamp_at i s → stamp_at k s ≡ stamp_at i s
    same_at k l low high mine = same_context scene step run k l s (stamp_at i s) high (drawn_at k low) (omega arith) (omega arith) ∙ mine

    oldest : stamp_at at s ≡ stamp_at i s → IsOldestActive scene step s at
    oldest mine = record { context = omega arith; older = λ t there less. quiet t there (omega arith) }

    never_dies : (scene i).core.kind ≡ WaitDie → (k n : ℕ) → at ≤ k → step k ≡ performs (Die s n) → stamp_at k s ≢ stamp_at i s
    never_dies dying k n later is mine = let here = same_at at k (omega arith) later mine in
        let kind = kind_at scene step run i at from in
        dies_nowhere scene step run s at (oldest here) k n later (mine ∙ sym here) (λ wounding. absurd (cc)) is

    -- it owns nothing, or has no sign: so it is from when it owned nothing
    bare_or_unsigned : (k l : ℕ) → at ≤ k → k ≤ l → stamp_at l s ≡ stamp_at i s → OwnsNone (scene k).core s →
        OwnsNone (scene l).core s ⊎ ((scene l).core.sign s ≡ 0)
    bare_or_unsigned k l low high mine none = holds_at (λ x. OwnsNone (scene x).core s ⊎ ((scene x).core.sign s ≡ 0)) k l high (inl none)
        (λ x after below. let here = same_at at l (omega arith) (omega arith) mine in
        let now = same_at x l (omega arith) (omega arith) mine in
        let up = up_then scene step run s at (oldest here) x (omega arith) (now ∙ sym here) in
        let unsigned : (scene x).core.sign s ≡ 0 → (scene (suc x)).core.sign s ≡ 0 = λ is.
        subst (λ (w : Scene). w.core.sign s ≡ 0) (sym (run.goes_on x))
        (unsigned_next (scene x) (step x) s (run.may x) (lawful_at scene step run x).base up is) in ⊎_elim
        (λ bare. ⊎_elim
        (λ gains. inr (unsigned (⊎_elim (λ is. is) (λ own. absurd (bare own.0 own.1)) (calm x gains.0 gains.1))))
        (λ not. inl (λ n has. not n (gained_next (scene x) (step x) s n (bare n)
        (subst (λ (w : Scene). w.core.owner n ≡ Taken s) (run.goes_on x) has))))
        (gains_or_not s (step x)))
        (λ is. inr (unsigned is)))
      where
        calm : (x n : ℕ) → Gains s n (step x) → IsCalm (scene x).core s
        calm x n (inl is) = (may_be scene step run x (performs (Fast s n)) is).possible.signs
        calm x n (inr is) = (may_be scene step run x (performs (Take s n)) is).possible.signs

    wounded_once : BacksOff scene step → (scene i).core.kind ≡ WoundWait → (k l m n : ℕ) → at ≤ k → k < l →
        step k ≡ performs (Die s m) → step l ≡ performs (Die s n) → stamp_at l s ≢ stamp_at i s
    wounded_once backs wounding k l m n low less = λ died again mine. let c = (scene l).core in
        let can = may_be scene step run l (performs (Die s n)) again in let h = can.possible.base.waits in
        let join = joined_between scene step run (suc k) l s (omega arith) (after_death scene step run k s m died)
        (λ none. none n h.0 h.1 h.2) in let p = join.0 in let after = join.1 in let before = join.2 in
        let bare = backs k p s m join.3.0 (omega arith) died (inr (inl join.3.1)) in let since = bare.1 in let upto = bare.2 in
        let cause = some_of (dies c s n) can.possible.signs in let d = dies_why c s n cause.0 cause.1 in
        let own = ((lawful_at scene step run l).base.queues.at n).holds d.entry d.stands d.holds in ⊎_elim
        (λ none. none own.0 (own.1 ∙ ap Taken d.seat))
        (λ unsigned. dies_not c s n (kind_at scene step run i l (omega arith) ∙ wounding) unsigned can.possible)
        (bare_or_unsigned bare.0 l (omega arith) (omega arith) mine bare.3)

    no_more : BacksOff scene step → DiesNoMore scene step s i at
    no_more backs = record {
      once = λ k l m n low less died again. by_kind (scene i).core.kind (stamp_at l s ≢ stamp_at i s)
          (λ wounding. wounded_once backs wounding k l m n low less died again)
          (λ dying. never_dies dying l n (omega arith) again);
      never = never_dies;
    }

pub backing_off_ends : BackingOffEnds
backing_off_ends scene step run backs i s some older = let q = quiet_to scene step run i s ((scene i).core.stamp s) older (omega arith) in
    (q.0, q.1, no_more scene step run s i q.0 some q.1 q.2 backs)
