-- Runs that go on by one event.
use Rattle.std.proofs.Common.{ℕ, ◌≡◌, ◌<◌, ◌≤◌, ◌+◌, true, List, [], ◌∷◌, ◌++◌, length, take, get_or, Result, Ok, Err, IsOk, OnOk, rules, refl, sym, ap, ◌∙◌, subst, true≢false}
use Rattle.std.specs.Result.{is_ok, is_err}
use Rattle.std.proofs.lemmas.List.{take_more, take_all}
use Rattle.std.proofs.lemmas.Option.{slice_get-get_or}
use Rattle.ww_model.specs.declared.event.Answer.{Answer}
use Rattle.ww_model.specs.declared.event.NotPossible.{NotPossible}
use Rattle.ww_model.specs.Replay.{IsFirstImpossible}
use Rattle.ww_model.specs.declared.event.Event.{Event}
use Rattle.ww_model.specs.State.{State}
use Rattle.ww_model.specs.Event.{Possible, after}
use Rattle.ww_model.specs.Run.{state_after, IsRun, Reached, further}

pub state_more : (c : State) (es : List Event) (e : Event) → state_after c (es ++ e ∷ []) ≡ after (state_after c es) e
state_more c [] e = refl
state_more c (x ∷ xs) e = state_more (after c x) xs e

pub run_more : (c : State) (es : List Event) (e : Event) → IsRun c es → Possible (state_after c es) e → IsRun c (es ++ e ∷ [])
run_more c [] e run can = (can, tt)
run_more c (x ∷ xs) e run can = (run.0, run_more (after c x) xs e run.1 can)

-- ---- what a result says of a step

pub ok_of : (r : Result Answer NotPossible) → is_ok r ≡ true → IsOk r
ok_of (Ok a) is = search rules
ok_of (Err e) is = absurd (true≢false (sym is))

pub on_ok : (r : Result Answer NotPossible) (P : Type 0) → is_ok r ≡ true → OnOk r P → P
on_ok (Ok a) P is p = p
on_ok (Err e) P is p = absurd (true≢false (sym is))

pub err_of : (r : Result Answer NotPossible) → is_err r ≡ true → IsOk r → ⊥
err_of (Ok a) is ok = absurd (true≢false (sym is))
err_of (Err e) is ok = search rules

-- the run and its state after one event more
pub record Goes (from : State) (es : List Event) (c : State) : Type 0 where
  pub run : IsRun from es
  pub state : c ≡ state_after from es

pub went_on : (from : State) (es : List Event) (i : ℕ) (d : Event) (c c' : State) → i < length es → Goes from (take i es) c →
    Possible c (get_or es i d) → c' ≡ after c (get_or es i d) → Goes from (take (i + 1) es) c'
went_on from es i d c c' within goes can is = let e = get_or es i d in
    subst (λ (xs : List Event). Goes from xs c') (sym (take_more es i d within)) (record {
      run = run_more from (take i es) e goes.run (subst (λ (x : State). Possible x e) goes.state can);
      state = is ∙ ap (λ (x : State). after x e) goes.state ∙ sym (state_more from (take i es) e);
    })

pub stopped : (from : State) (es : List Event) (i : ℕ) (d : Event) (c : State) → i < length es → Goes from (take i es) c →
    ¬ Possible c (get_or es i d) → IsFirstImpossible from es i
stopped from es i d c within goes cannot = record {
  before = goes.run;
  event = get_or es i d;
  there = slice_get-get_or es i d within;
  impossible = λ can. cannot (subst (λ (x : State). Possible x (get_or es i d)) (sym goes.state) can);
}

pub went_all : (from : State) (es : List Event) (i : ℕ) (c : State) → length es ≤ i → Goes from (take i es) c → Goes from es c
went_all from es i c past goes = subst (λ (xs : List Event). Goes from xs c) (take_all i es past) goes

-- ---- where a run comes to

pub run_reached : (c : State) (es : List Event) → Reached c → IsRun c es → Reached (state_after c es)
run_reached c [] there run = there
run_reached c (e ∷ es) there run = run_reached (after c e) es (further c e there run.0) run.1

pub goes_reached : (from : State) (es : List Event) (c : State) → Reached from → Goes from es c → Reached c
goes_reached from es c there goes = subst Reached (sym goes.state) (run_reached from es there goes.run)
