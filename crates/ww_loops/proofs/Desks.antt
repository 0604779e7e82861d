-- What a drive leaves of a desk, and what a desk's view tells of the locks.
use Rattle.std.proofs.Common.{◌≡◌, ◌≢◌, ◌⊎◌, inl, inr, ⊎_elim, ℕ, zero, suc, ◌+◌, ◌-◌, ◌<◌, ◌≤◌, Bool, true, false, true≢false, Some, refl, sym, ap, ◌∙◌, subst, arith}
use Rattle.std.proofs.lemmas.Bool.{cases_Bool, cases_lt}
use Rattle.ww_model.specs.declared.event.Event.{Event}
use Rattle.ww_model.specs.declared.event.Event.TheVariants.{Fast, Take}
use Rattle.ww_model.specs.declared.state.Holder.TheVariants.{Taken}
use Rattle.ww_model.specs.Event.{actor}
use Rattle.ww_model.specs.State.{State, put}
use Rattle.ww_model.proofs.Puts.{put_here, put_else, put_cases}
use Rattle.ww_view.specs.declared.view.View.{View}
use Rattle.ww_view.specs.View.{owns}
use Rattle.ww_invariant.specs.declared.cells.Start.{Start}
use Rattle.ww_laws.specs.Scene.{Scene, performs}
use Rattle.ww_laws.proofs.Contexts.{gained_next}
use Rattle.ww_refines.specs.Moment.{core, view}
use Rattle.ww_refines.specs.Endless.{step_of}
use Rattle.ww_refines.proofs.Following.{knows_there, who_there}
use Rattle.ww_refines.proofs.Unlocking.{performed}
use Rattle.ww_steps.specs.declared.turn.Answer.{Answer}
use Rattle.ww_steps.specs.Situations.{Situation, is_inside}
use Rattle.ww_steps.specs.Answers.{IsWakeAnswer}
use Rattle.ww_callers.specs.Stages.{Stage}
use Rattle.ww_callers.specs.Deeds.{Call, Deed, calls, steps, reads, answers, names, wakes, parks, rises, halts, Does, IsDriven}
use Rattle.ww_callers.specs.Drives.{thread_move, IsEndlessDrive}
use Rattle.ww_callers.specs.Handing.{DeskAcquires}
use Rattle.ww_callers.proofs.Runs.{in_order, driven, accounted_on}
use Rattle.ww_loops.proofs.Ending.{along, event_at}

-- ---- one deed

-- whoever is asked whom to wake holds what it held
named_same : (s s' : Situation) (u : ℕ) → IsWakeAnswer s (Some u) s' → s'.held ≡ s.held
named_same s s' u h = ⊎_elim (λ inside. ap (λ (x : Situation). x.held) (h.0 inside).1)
    (λ out. ap (λ (x : Situation). x.held) (h.1 out).1) (cases_Bool (is_inside s.turn))

module _ {key : Start} (g g' : Stage key) where
  -- amid a call the desk stays as it was, until that answers
  pub desk_stays : (d : ℕ) (x : Deed) → Does g g' x → g.calling d ≡ true →
      ((call : Call) (a : Answer) → x ≢ answers d call a) → g'.desk d ≡ g.desk d
  desk_stays d (calls e) h on isnt = ap (λ (z : Stage key). z.desk d) h.now
  desk_stays d (steps e x) h on isnt = ap (λ (z : Stage key). z.desk d) h.now
  desk_stays d (reads e) h on isnt = ap (λ (z : Stage key). z.desk d) h.now
  desk_stays d (answers e call a) h on isnt = ap (λ (z : Stage key). z.desk d) h.now
      ∙ put_else g.desk e (g'.desk e) d (λ is. isnt call a (ap (λ k. answers k call a) (sym is)))
  desk_stays d (names e u) h on isnt = ap (λ (z : Stage key). z.desk d) h.now
      ∙ put_else g.desk e (g'.desk e) d (λ is. true≢false (sym on ∙ ap g.calling is ∙ h.at_hand.idle))
  desk_stays d (wakes e u) h on isnt = ap (λ (z : Stage key). z.desk d) h.now
  desk_stays d (parks e) h on isnt = ap (λ (z : Stage key). z.desk d) h.now
  desk_stays d (rises e) h on isnt = ap (λ (z : Stage key). z.desk d) h.now
  desk_stays d halts h on isnt = ap (λ (z : Stage key). z.desk d) h

  -- what it holds stays until its call answers
  pub held_stays : (d : ℕ) (x : Deed) → Does g g' x → ((call : Call) (a : Answer) → x ≢ answers d call a) →
      (g'.desk d).held ≡ (g.desk d).held
  held_stays d (calls e) h isnt = ap (λ (z : Stage key). (z.desk d).held) h.now
  held_stays d (steps e x) h isnt = ap (λ (z : Stage key). (z.desk d).held) h.now
  held_stays d (reads e) h isnt = ap (λ (z : Stage key). (z.desk d).held) h.now
  held_stays d (answers e call a) h isnt = ap (λ (z : Stage key). (z.desk d).held) h.now
      ∙ ap (λ (s : Situation). s.held) (put_else g.desk e (g'.desk e) d (λ is. isnt call a (ap (λ k. answers k call a) (sym is))))
  held_stays d (names e u) h isnt = ap (λ (z : Stage key). (z.desk d).held) h.now
      ∙ put_cases g.desk e (g'.desk e) d (λ (s : Situation). s.held ≡ (g.desk d).held)
      (λ is. named_same (g.desk e) (g'.desk e) u h.answer ∙ ap (λ k. (g.desk k).held) (sym is)) (λ _. refl)
  held_stays d (wakes e u) h isnt = ap (λ (z : Stage key). (z.desk d).held) h.now
  held_stays d (parks e) h isnt = ap (λ (z : Stage key). (z.desk d).held) h.now
  held_stays d (rises e) h isnt = ap (λ (z : Stage key). (z.desk d).held) h.now
  held_stays d halts h isnt = ap (λ (z : Stage key). (z.desk d).held) h

  -- once it answered no call of it is on its way
  pub idle_then : (d : ℕ) (call : Call) (a : Answer) → Does g g' (answers d call a) → g'.calling d ≡ false
  idle_then d call a h = ap (λ (z : Stage key). z.calling d) h.now ∙ put_here g.calling d false

-- ---- what a desk's view tells

module _ {key : Start} (g : Stage key) (from : IsDriven g) (d : ℕ) (low : d < key.seats) where
  -- between two calls its view is that of its seat
  pub is_current : g.calling d ≡ false → (g.desk d).view ≡ view g.moment d
  is_current idle = (in_order g from d low).current.view idle

  pub taken_by : (n : ℕ) → owns (view g.moment d) n ≡ true → (core g.moment).owner n ≡ Taken d
  taken_by n has = (knows_there g.moment d low).owned.has n has ∙ ap Taken (who_there g.moment d low)

  pub owned_by : (n : ℕ) → (core g.moment).owner n ≡ Taken d → owns (view g.moment d) n ≡ true
  owned_by n has = (knows_there g.moment d low).owned.lacks n (has ∙ ap Taken (sym (who_there g.moment d low)))

-- ---- along a drive

pub lt_unless : (i j : ℕ) → i ≤ j → i ≢ j → i < j
lt_unless i j low other = ⊎_elim (λ less. less) (λ most. absurd (other (omega arith))) (cases_lt i j)

-- the last time before j at which it doesn't hold yet
pub record Arrival (P : ℕ → Type 0) (i j : ℕ) : Type 0 where
  pub at : ℕ
  pub from : i ≤ at
  pub before : at < j
  pub not_yet : P at → ⊥
  pub since : (k : ℕ) → at < k → k ≤ j → P k

arrives_within : (P : ℕ → Type 0) → ((k : ℕ) → P k ⊎ (P k → ⊥)) → (i gap : ℕ) → (P i → ⊥) → P (i + gap) →
    Arrival P i (i + gap)
arrives_within P dec i zero lacks h = absurd (lacks (subst P (omega arith) h))
arrives_within P dec i (suc gap) lacks h = ⊎_elim
    (λ still. let a = arrives_within P dec i gap lacks still in let from = a.from in let before = a.before in record {
      at = a.at;
      from = from;
      before = omega arith;
      not_yet = a.not_yet;
      since = λ k low high. ⊎_elim (λ less. a.since k low (omega arith))
          (λ top. let is : i + suc gap ≡ k = omega arith in subst P is h) (cases_lt k (i + suc gap));
    })
    (λ isnt. record {
      at = i + gap;
      from = omega arith;
      before = omega arith;
      not_yet = isnt;
      since = λ k low high. let is : i + suc gap ≡ k = omega arith in subst P is h;
    })
    (dec (i + gap))

pub arrives : (P : ℕ → Type 0) → ((k : ℕ) → P k ⊎ (P k → ⊥)) → (i j : ℕ) → i ≤ j → (P i → ⊥) → P j → Arrival P i j
arrives P dec i j later lacks h = let gap : i + (j - i) ≡ j = omega arith in
    subst (λ x. Arrival P i x) gap (arrives_within P dec i (j - i) lacks (subst P (sym gap) h))

module _ {key : Start} (stage : ℕ → Stage key) (deed : ℕ → Deed) (endless : IsEndlessDrive stage deed) where
  -- who comes to have a lock takes it by a step of its own
  pub takes_by : (k d n : ℕ) → (core (stage k).moment).owner n ≢ Taken d → (core (stage (suc k)).moment).owner n ≡ Taken d →
      DeskAcquires d n (deed k)
  takes_by k d n not has = let a = along stage deed (accounted_on stage deed endless) in
      let by : (e : Event) → step_of key (thread_move (deed k)) ≡ performs e → deed k ≡ steps (actor e) (Some (performs e)) =
      λ e is. event_at stage deed (accounted_on stage deed endless) k e (performed key (thread_move (deed k)) e is) in
      ⊎_elim (λ is. inl (by (Fast d n) is)) (λ is. inr (by (Take d n) is))
      (gained_next (a.scene k) (step_of key (thread_move (deed k))) d n
      (λ z. not (sym (ap (λ (c : State). c.owner n) (a.shown k).core) ∙ z))
      (subst (λ (w : Scene). w.core.owner n ≡ Taken d) (a.run.goes_on k)
      (ap (λ (c : State). c.owner n) (a.shown (suc k)).core ∙ has)))
