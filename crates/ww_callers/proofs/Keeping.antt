-- Each deed is a move of threads, and leaves each desk in order.
use Rattle.std.proofs.Common.{◌≡◌, ⊎_elim, inl, inr, ℕ, ◌+◌, ◌-◌, ◌<◌, Bool, true, false, true≢false, Option, Some, None, refl, sym, ap, ◌∙◌, subst, arith, ◌≢◌}
use mathlib.Core.Logic.{dite}
use native.Mathlib.Decide.{ℕ_discrete}
use Rattle.std.proofs.lemmas.Bool.{cases_Bool}
use Rattle.ww_model.specs.State.{put}
use Rattle.ww_model.proofs.Puts.{put_here, put_else}
use Rattle.ww_view.specs.declared.view.View.{View}
use Rattle.ww_invariant.specs.declared.cells.Start.{Start}
use Rattle.ww_laws.specs.Scene.{Step}
use Rattle.ww_laws.specs.Scene as scene
use Rattle.ww_refines.specs.Moment.{Moment, Acts}
use Rattle.ww_refines.specs.Moves.{OthersStay, StepsThere, Reads, Follows}
use Rattle.ww_refines.proofs.Standstill.{idles}
use Rattle.ww_steps.specs.declared.turn.Answer.{Answer}
use Rattle.ww_steps.specs.Situations.{Situation, is_inside}
use Rattle.ww_steps.specs.Answers.{IsMarkTaken, IsWakeAnswer, owed_so_far}
use Rattle.ww_callers.specs.Stages.{Stage}
use Rattle.ww_callers.specs.Deeds.{Call, SaidOfDesks, Deed, calls, steps, reads, answers, names, wakes, parks, rises, halts, is_sleeps, Calls, Names, Wakes, Parks, Rises, Steps, ReadsOnly, Answers, Accounts, DoesBy}
use Rattle.ww_callers.specs.Drives.{thread_move}
use Rattle.ww_callers.proofs.Kept.{OfDesk, of_desk, IsKept, Keeps, owed_there, other_part, call_untold, called, answered, names_one, wakes_one, sleeps_on, rises_up}
use Rattle.ww_invariant.specs.declared.cells.Part.{Part}
use Rattle.ww_invariant.specs.Rule.{wakes_owed}

abbrev pub IsInOrder : {key : Start} → Stage key → Type 0
IsInOrder {key = key} g = (d : ℕ) → d < key.seats → Keeps g d

-- ---- a step at the table

module _ {key : Start} (g g' : Stage key) (i : IsInOrder g) where
  -- amid a call the desk doesn't sleep, and isn't told to
  amid : (d : ℕ) → d < key.seats → g.calling d ≡ true → (g.moment.asleep d ≡ false) × (g.moment.risen d ≡ (g.desk d).view.naps)
  amid d low calling = let k = i d low in let free = call_untold d (of_desk g d) k calling in (free.1, k.rises.up free.0)

  -- ... so it acts, until it left a guard as a waiter
  pub acts : {says : SaidOfDesks} (d : ℕ) (x : Option Step) → Steps says g g' d x → Acts g.moment d
  acts d x h = let free = amid d h.seat h.calling in record { seat = h.seat; awake = free.0; risen = free.1 ∙ sym h.stays_up }

  steps_there : {says : SaidOfDesks} (d : ℕ) (x : Option Step) → Steps says g g' d x → StepsThere g.moment g'.moment d
  steps_there d x h = (h.there (acts d x h)).there

  pub reads_there : {says : SaidOfDesks} (d : ℕ) → ReadsOnly says g g' d → Reads g.moment g'.moment d
  reads_there d h = let free = amid d h.seat h.calling in h.there (record {
    seat = h.seat;
    is_asleep = free.0;
    due = ap (λ (k : ℕ). k + 1) free.1 ∙ sym h.left;
  })

  -- all desks are kept, if this one is, and the others are as they were
  each_keeps : (z : Stage key) → g' ≡ z → (d : ℕ) (y : OfDesk) → of_desk z d ≡ y → IsKept d y →
      ((t : ℕ) → t < key.seats → t ≢ d → of_desk z t ≡ of_desk g t) → IsInOrder g'
  each_keeps z is d y same kept others t low = subst (λ (x : Stage key). Keeps x t) (sym is) (dite (ℕ_discrete t d)
      (λ at. subst (λ (k : ℕ). Keeps z k) (sym at) (subst (IsKept d) (sym same) kept))
      (λ isnt. subst (IsKept t) (sym (others t low isnt)) (i t low)))

  -- either way all desks are as they were
  stays_keep : (d : ℕ) → d < key.seats → g.calling d ≡ true → OthersStay g.moment g'.moment d →
      g' ≡ record g { moment = g'.moment } → IsInOrder g'
  stays_keep d low calling s now = let p = g'.moment.part d in
      each_keeps (record g { moment = g'.moment }) now d (record (of_desk g d) { part = p }) (still d)
      (other_part d (of_desk g d) (i d low) calling p)
      (λ t low isnt. let a = s.others t low isnt in still t ∙ ap (λ (q : Part). record (of_desk g t) { part = q }) a)
    where
      still : (t : ℕ) → of_desk (record g { moment = g'.moment }) t ≡ record (of_desk g t) { part = g'.moment.part t }
      still t = let a = ap (λ (f : ℕ → Bool). f t) s.asleep in let b = ap (λ (f : ℕ → ℕ → ℕ). f t) s.rung in
          let c = ap (λ (f : ℕ → ℕ). f t) s.risen in cc

  -- ---- a call begins, and answers

  calls_keep : (d : ℕ) → Calls g g' d → IsInOrder g'
  calls_keep d h = each_keeps _ h.now d (record (of_desk g d) { calling = true })
      (let a = put_here g.calling d true in cc) (called d (of_desk g d) (i d h.at_hand.seat) h.rose)
      (λ t low isnt. let a = put_else g.calling d true t isnt in cc)

  answers_keep : (d : ℕ) (call : Call) (a : Answer) → Answers Accounts g g' d call a → IsInOrder g'
  answers_keep d call a h = let s' = g'.desk d in let b = h.done in
      each_keeps _ h.now d (record (of_desk g d) { desk = s'; calling = false; told = is_sleeps a })
      (let x = put_here g.desk d s' in let y = put_here g.calling d false in
      let z = put_here g.to_sleep d (is_sleeps a) in cc)
      (answered d (of_desk g d) (i d h.seat) s' a b.0 b.1 h.outside h.sees h.cancelled h.calling)
      (λ t low isnt. let x = put_else g.desk d s' t isnt in let y = put_else g.calling d false t isnt in
      let z = put_else g.to_sleep d (is_sleeps a) t isnt in cc)

  -- ---- whom to wake

  -- a desk names nobody inside a guard
  named_outside : (s s' : Situation) (u : ℕ) → IsWakeAnswer s (Some u) s' → (is_inside s.turn ≡ false)
      × IsMarkTaken s.wakes (Some u) s'.wakes × (s' ≡ record s { wakes = s'.wakes })
  named_outside s s' u h = elim (cases_Bool (is_inside s.turn)) [
    | inl inside ↦ let none : Some u ≡ None = (h.0 inside).0 in absurd cc
    | inr out ↦ (out, (h.1 out).0, (h.1 out).1)
  ]

  names_keep : (d u : ℕ) → Names g g' d u → IsInOrder g'
  names_keep d u h = let s' = g'.desk d in let w = named_outside (g.desk d) s' u h.answer in
      let n' = put (g.named d) u true in
      each_keeps _ h.now d (record (of_desk g d) { desk = let s = g.desk d in record s { wakes = s'.wakes }; named = n' })
      (let x = put_here g.desk d s' ∙ w.2 in let y = put_here g.named d n' in cc)
      (names_one d (of_desk g d) (i d h.at_hand.seat) s'.wakes u h.at_hand.awake w.1)
      (λ t low isnt. let x = put_else g.desk d s' t isnt in let y = put_else g.named d n' t isnt in cc)

  -- what it owes, by the table
  pub owes_there : (d u : ℕ) → d < key.seats → g.calling d ≡ false → owed_so_far (g.desk d) u ≡ wakes_owed (g.moment.part d) u
  owes_there d u low idle = let k = i d low in
      owed_there (g.desk d) (g.moment.part d) u (k.current.view idle) (k.current.cancelled idle)

  wakes_keep : (d u : ℕ) → Wakes g g' d u → IsInOrder g'
  wakes_keep d u h = let m = g.moment in let k = i d h.at_hand.seat in
      let j = m.rung d u + (wakes_owed (m.part d) u - m.rung d u) in
      let r' = put (m.rung d) u j in let n' = put (g.named d) u false in
      let paid : j ≡ owed_so_far (g.desk d) u = (let a = owes_there d u h.at_hand.seat h.at_hand.idle in let b = k.owes.even u in
      omega arith) in
      each_keeps _ h.now d (record (of_desk g d) { named = n'; rung = r' })
      (let x = put_here m.rung d r' in let y = put_here g.named d n' in cc)
      (wakes_one d (of_desk g d) k u j h.at_hand.awake paid)
      (λ t low isnt. let x = put_else m.rung d r' t isnt in let y = put_else g.named d n' t isnt in cc)

  wakes_follow : (d u : ℕ) → Wakes g g' d u → Follows g.moment g'.moment (Some (scene.wakes d u))
  wakes_follow d u h = let m = g.moment in let k = i d h.at_hand.seat in let a = owes_there d u h.at_hand.seat h.at_hand.idle in
      let even = k.owes.even u in
      subst (λ (z : Moment key). Follows m z (Some (scene.wakes d u))) (ap (λ (z : Stage key). z.moment) (sym h.now)) (record {
        stays = record { core = refl; parts = λ t low. refl; heeds = refl };
        awake = h.at_hand.awake;
        outside = ap (λ (v : View). v.inside) (sym (k.current.view h.at_hand.idle)) ∙ k.outside h.outside;
        waker = h.at_hand.seat;
        count = wakes_owed (m.part d) u - m.rung d u;
        most = omega arith;
        rung = refl;
        token = refl;
        risen = refl;
        asleep = refl;
      })

  -- ---- sleep

  parks_keep : (d : ℕ) → Parks g g' d → IsInOrder g'
  parks_keep d h = let m = g.moment in each_keeps _ h.now d (record (of_desk g d) { asleep = true })
      (let x = put_here m.asleep d true in cc)
      (sleeps_on d (of_desk g d) (i d h.at_hand.seat) h.told h.none_marked h.none_named)
      (λ t low isnt. let x = put_else m.asleep d true t isnt in cc)

  parks_follow : (d : ℕ) → Parks g g' d → Follows g.moment g'.moment (Some (scene.falls_asleep d))
  parks_follow d h = let m = g.moment in let k = i d h.at_hand.seat in
      subst (λ (z : Moment key). Follows m z (Some (scene.falls_asleep d))) (ap (λ (z : Stage key). z.moment) (sym h.now)) (record {
        stays = record { core = refl; parts = λ t low. refl; heeds = refl };
        ready = record {
          seat = h.at_hand.seat;
          is_asleep = h.at_hand.awake;
          due = k.rises.due h.told ∙ ap (λ (v : View). v.naps) (k.current.view h.at_hand.idle);
        };
        paid = λ u has. let a = owes_there d u h.at_hand.seat h.at_hand.idle in let few = has.owed in
            ⊎_elim (h.none_marked u) (λ named. true≢false (sym named ∙ h.none_named u))
            (k.owes.marked u (omega arith) has.other);
        asleep = refl;
        rung = refl;
        risen = refl;
        token = refl;
      })

  rises_keep : (d : ℕ) → Rises g g' d → IsInOrder g'
  rises_keep d h = let m = g.moment in let k = m.risen d + 1 in
      each_keeps _ h.now d (record (of_desk g d) { told = false; asleep = false; risen = k })
      (let x = put_here g.to_sleep d false in let y = put_here m.asleep d false in let z = put_here m.risen d k in cc)
      (rises_up d (of_desk g d) (i d h.seat) h.told)
      (λ t low isnt. let x = put_else g.to_sleep d false t isnt in let y = put_else m.asleep d false t isnt in
      let z = put_else m.risen d k t isnt in cc)

  rises_follow : (d : ℕ) → Rises g g' d → Follows g.moment g'.moment (Some (scene.rises d))
  rises_follow d h = let m = g.moment in let k = i d h.seat in
      subst (λ (z : Moment key). Follows m z (Some (scene.rises d))) (ap (λ (z : Stage key). z.moment) (sym h.now)) (record {
        stays = record { core = refl; parts = λ t low. refl; heeds = refl };
        rests = (
          m.asleep d,
          record {
            seat = h.seat;
            is_asleep = refl;
            due = k.rises.due h.told ∙ ap (λ (v : View). v.naps) (k.current.view (k.rises.rests h.told));
          },
        );
        risen = refl;
        asleep = refl;
        token = refl;
        rung = refl;
      })

  -- ---- all of them

  stays_there : (z : Stage key) → g' ≡ z → z.moment ≡ g.moment → Follows g.moment g'.moment None
  stays_there z is same = subst (λ (m : Moment key). Follows g.moment m None) (sym (ap (λ (z : Stage key). z.moment) is ∙ same))
      (idles g.moment)

  pub follows : (x : Deed) → DoesBy Accounts g g' x → Follows g.moment g'.moment (thread_move x)
  follows (calls d) h = stays_there _ h.now refl
  follows (steps d x) h = (h.there (acts d x h)).follows
  follows (reads d) h = inr (d, inr (reads_there d h))
  follows (answers d call a) h = stays_there _ h.now refl
  follows (names d u) h = stays_there _ h.now refl
  follows (wakes d u) h = wakes_follow d u h
  follows (parks d) h = parks_follow d h
  follows (rises d) h = rises_follow d h
  follows halts h = stays_there g h refl

  pub keep : (x : Deed) → DoesBy Accounts g g' x → IsInOrder g'
  keep (calls d) h = calls_keep d h
  keep (steps d x) h = stays_keep d h.seat h.calling (steps_there d x h).stay h.now
  keep (reads d) h = stays_keep d h.seat h.calling (reads_there d h).stay h.now
  keep (answers d call a) h = answers_keep d call a h
  keep (names d u) h = names_keep d u h
  keep (wakes d u) h = wakes_keep d u h
  keep (parks d) h = parks_keep d h
  keep (rises d) h = rises_keep d h
  keep halts h = subst (λ (z : Stage key). IsInOrder z) (sym h) i
