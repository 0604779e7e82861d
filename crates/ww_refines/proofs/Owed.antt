-- What an event makes of a seat's view, as far as waking and sleeping go.
use Rattle.std.proofs.Common.{◌≡◌, ◌≢◌, ⊎_elim, inl, inr, ℕ, suc, ◌+◌, ◌-◌, ◌<◌, ◌≤◌, ◌==◌, Bool, true, false, true≢false, List, [], ◌∷◌, Option, Some, None, refl, sym, ap, ◌∙◌, subst, arith}
use Rattle.std.specs.Option.{option_map}
use Rattle.std.specs.Prelude.{slice_get, if◌then◌else◌}
use mathlib.Core.Logic.{dite}
use native.Mathlib.Decide.{ℕ_discrete}
use Rattle.ww_queue.specs.declared.entry.Entry.{Entry}
use Rattle.ww_queue.specs.Queue.{Has, Stands}
use Rattle.ww_queue.proofs.Outcomes.{by_test, same_number}
use Rattle.ww_model.specs.declared.event.Event.{Event}
use Rattle.ww_model.specs.declared.event.Event.TheVariants.{Sign, Give, Guard, Unguard, Commit, Cancel}
use Rattle.ww_model.specs.State.{State, InsideNone, place_of}
use Rattle.ww_model.specs.Event.{Possible, actor}
use Rattle.ww_model.specs.Lawful.{IsLawful}
use Rattle.ww_model.proofs.Outcomes.{number_same}
use Rattle.ww_model.proofs.Puts.{put_else}
use Rattle.ww_view.specs.declared.view.View.{View}
use Rattle.ww_view.specs.View.{Knows}
use Rattle.ww_view.specs.Made.{view_after, with_condemned, with_heir, is_one_of}
use Rattle.ww_invariant.specs.Rule.{times}
use Rattle.ww_laws.specs.Scene.{first_of, woken_by, uncancelled_after}
use Rattle.ww_laws.proofs.Woken.{another_was}
use Rattle.ww_laws.proofs.Calls.{views_tell_whom_to_wake}
use Rattle.ww_refines.specs.Moves.{cancelled_after}

-- ---- how often a seat stands among others

times_more : (u v : ℕ) (us : List ℕ) → times u us ≤ times u (v ∷ us)
times_more u v us = omega arith

times_here : (u v : ℕ) (us : List ℕ) → u ≡ v → times u us < times u (v ∷ us)
times_here u v us is = rw (number_same v u (sym is)) (omega arith)

one_of_has : (u : ℕ) (us : List ℕ) → is_one_of u us ≡ true → Has us u
one_of_has u [] is = absurd (true≢false (sym is))
one_of_has u (v ∷ vs) is = by_test (v == u) true (is_one_of u vs) (λ b. b ≡ true → Has (v ∷ vs) u)
    (λ same _. inl (sym (same_number v u same))) (λ _ here. inr (one_of_has u vs here)) is

condemned_more : (who : ℕ) (before : List ℕ) (v : ℕ) (debts : List ℕ) (u : ℕ) →
    times u debts ≤ times u (with_condemned who before v debts)
condemned_more who before v debts u = let same : times u debts ≤ times u debts = omega arith in
    let P = λ (ds : List ℕ). times u debts ≤ times u ds in
    by_test (v == who) debts (if is_one_of v before then debts else v ∷ debts) P (λ _. same)
    (λ _. by_test (is_one_of v before) debts (v ∷ debts) P (λ _. same) (λ _. times_more u v debts))

heir_more : (o : Option ℕ) (debts : List ℕ) (u : ℕ) → times u debts ≤ times u (with_heir o debts)
heir_more None debts u = omega arith
heir_more (Some v) debts u = times_more u v debts

-- ---- wakes owed only grow

pub owed_grows : (c : State) (e : Event) (v : View) (us : List ℕ) (u : ℕ) →
    times u us + times u v.debts ≤ times u (cancelled_after e us) + times u (view_after c e v).debts
owed_grows c (Sign s x) v us u = let z = condemned_more v.who v.condemned x v.debts u in omega arith
owed_grows c (Give s n) v us u =
    let z = heir_more (option_map (λ (e : Entry). e.seat) (slice_get v.list 0)) v.debts u in omega arith
owed_grows c (Cancel s x) v us u = let z = times_more u x us in omega arith
owed_grows c _ v us u = omega arith

-- whoever is condemned by a sign has to be woken then, where those whom the seat condemned before still have to be
signed_owed : (who : ℕ) (before : List ℕ) (v : ℕ) (debts : List ℕ) (j k : ℕ) → v ≢ who → k ≤ j + times v debts →
    (Has before v → k < j + times v debts) → k < j + times v (with_condemned who before v debts)
signed_owed who before v debts j k other low had = let P = λ (ds : List ℕ). k < j + times v ds in
    by_test (v == who) debts (if is_one_of v before then debts else v ∷ debts) P (λ same. absurd (other
    (same_number v who same)))
    (λ _. by_test (is_one_of v before) debts (v ∷ debts) P (λ is. had (one_of_has v before is))
    (λ _. let z = times_here v v debts refl in omega arith))

-- ---- inside a guard, and outside

module _ (c : State) (v : View) (k : Knows c v) where
  pub goes_inside : (n : ℕ) → c.guard n ≡ suc v.who → v.inside ≢ 0
  goes_inside n guard out = let z = k.guard.inside n guard in omega arith

  pub stays_outside : InsideNone c v.who → v.inside ≡ 0
  stays_outside none = dite (ℕ_discrete v.inside 0) (λ is. is)
      (λ isnt. absurd (none (v.inside - 1) ((k.guard.guards (v.inside - 1) (omega arith)).1)))

-- ---- whom an event makes the seat wake

module _ (c : State) (v : View) (k : Knows c v) (us : List ℕ) (x given : ℕ) (low : given ≤ times x us + times x v.debts) where
  pub newly_owed : (e : Event) → Possible c e → actor e ≡ v.who →
      (v.inside ≢ 0 → Has v.condemned x → x ≢ v.who → given < times x us + times x v.debts) → woken_by c e ≡ Some x →
      given < times x (cancelled_after e us) + times x (view_after c e v).debts
  newly_owed (Sign s y) can own had is = let a = another_was s y x is in
      let other : x ≢ v.who = λ same. a.1 (same ∙ sym own) in
      let inside = goes_inside c v k (place_of c s) (can.base.guard ∙ ap suc own) in
      subst (λ (z : ℕ). given < times x us + times x (with_condemned v.who v.condemned z v.debts)) a.0
      (signed_owed v.who v.condemned x v.debts (times x us) given other low (λ there. had inside there other))
  newly_owed (Give s n) can own had is =
      let inside = k.guard.inside n (can.base.inside.guard ∙ ap suc own) in
      let heir = sym ((views_tell_whom_to_wake c v k).gives n inside) ∙ is in
      subst (λ (o : Option ℕ). given < times x us + times x (with_heir o v.debts)) (sym heir)
      (let z = times_here x x v.debts refl in omega arith)
  newly_owed (Cancel s y) can own had is = let a = another_was s y x is in let z = times_here x y us a.0 in omega arith
  newly_owed _ can own had is = absurd (cc)

  -- inside a guard it has to wake those whom it condemned there
  pub condemned_owed : (e : Event) → x ≢ v.who → (v.inside ≢ 0 → Has v.condemned x → given < times x us + times x v.debts) →
      (view_after c e v).inside ≢ 0 → Has (view_after c e v).condemned x →
      given < times x (cancelled_after e us) + times x (view_after c e v).debts
  condemned_owed (Guard s n) other had inside there = absurd there
  condemned_owed (Unguard s n) other had inside there = absurd (inside refl)
  condemned_owed (Sign s y) other had inside there = ⊎_elim
      (λ is. subst (λ (z : ℕ). given < times x us + times x (with_condemned v.who v.condemned z v.debts)) is
      (signed_owed v.who v.condemned x v.debts (times x us) given other low (had inside)))
      (λ old. let a = had inside old in let b = owed_grows c (Sign s y) v us x in omega arith) there
  condemned_owed e other had inside there = let a = had inside there in let b = owed_grows c e v us x in omega arith

-- whom an event makes a seat wake is another: whoever has a lock doesn't wait for it
first_stands : (q : List Entry) (x : ℕ) → first_of q ≡ Some x → Stands q x
first_stands [] x is = absurd cc
first_stands (e ∷ es) x is = (e, inl refl, cc)

pub woken_other : (c : State) (e : Event) (x : ℕ) → IsLawful c → Possible c e → woken_by c e ≡ Some x → x ≢ actor e
woken_other c (Sign s y) x l can is = (another_was s y x is).1
woken_other c (Give s n) x l can is = let stands = first_stands (c.queue n) x is in
    λ same. (l.base.owners.at n).taken_stands_not s can.base.owns stands.0 stands.1 (stands.2 ∙ same)
woken_other c (Cancel s y) x l can is = (another_was s y x is).1
woken_other c _ x l can is = absurd (cc)

-- ---- looks at the own sign and cancel

module _ (c : State) (v : View) (k : Knows c v) where
  -- inside a guard no event leaves a look at the sign the last step
  pub not_fresh : (e : Event) → Possible c e → actor e ≡ v.who → (view_after c e v).inside ≢ 0 → (view_after c e v).fresh ≡ true → ⊥
  not_fresh (Commit s) can own inside fresh = inside (stays_outside c v k (λ n g. can.base.away.inside n (g ∙ ap suc (sym own))))
  not_fresh (Cancel s x) can own inside fresh = inside (stays_outside c v k (λ n g. can.base.away.inside n (g ∙ ap suc (sym own))))
  not_fresh _ can own inside fresh = true≢false (sym fresh)

  -- only a look at the own cancel makes the view say that it found none, and who cancels is inside no guard
  pub still_uncancelled : (found : ℕ → Bool) (e : Event) → Possible c e → actor e ≡ v.who →
      (v.inside ≢ 0 → v.uncancelled ≡ true → found (actor e) ≡ true) →
      (view_after c e v).inside ≢ 0 → (view_after c e v).uncancelled ≡ true → uncancelled_after found e (actor e) ≡ true
  still_uncancelled found (Guard s n) can own had inside none = absurd (true≢false (sym none))
  still_uncancelled found (Cancel s x) can own had inside none =
      absurd (inside (stays_outside c v k (λ n g. can.base.away.inside n (g ∙ ap suc (sym own)))))
  still_uncancelled found (Unguard s n) can own had inside none = absurd (inside refl)
  still_uncancelled found _ can own had inside none = had inside none

-- another's event leaves whether a seat has found no cancel
pub others_uncancelled : (found : ℕ → Bool) (e : Event) (s : ℕ) → s ≢ actor e → uncancelled_after found e s ≡ found s
others_uncancelled found (Cancel s u) t other = put_else found s false t other
others_uncancelled found _ t other = refl
