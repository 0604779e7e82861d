-- What each stage keeps of each desk.
use Rattle.std.proofs.Common.{◌≡◌, ◌≢◌, ◌⊎◌, ⊎_elim, inl, inr, ℕ, ◌+◌, ◌<◌, ◌≤◌, Bool, true, false, true≢false, List, refl, sym, ap, ◌∙◌, arith, Some}
use Rattle.std.proofs.lemmas.Bool.{cases_Bool, cases_lt}
use mathlib.Core.Logic.{dite}
use native.Mathlib.Decide.{ℕ_discrete}
use Rattle.ww_model.specs.State.{put}
use Rattle.ww_model.proofs.Puts.{put_here, put_else, put_cases, put_was}
use Rattle.ww_view.specs.declared.view.View.{View}
use Rattle.ww_invariant.specs.declared.cells.Part.{Part}
use Rattle.ww_invariant.specs.declared.cells.Start.{Start}
use Rattle.ww_invariant.specs.Rule.{wakes_owed, times}
use Rattle.ww_seat.specs.Marks.{IsMarked}
use Rattle.ww_steps.specs.declared.turn.Answer.{Answer}
use Rattle.ww_steps.specs.Situations.{Situation}
use Rattle.ww_steps.specs.Answers.{Balances, IsMarkTaken, owed_so_far, CountsNaps}
use Rattle.ww_callers.specs.Stages.{Stage, StandsOutside}
use Rattle.ww_callers.specs.Deeds.{is_sleeps}
use Rattle.ww_callers.proofs.Answered.{naps_alike, naps_more}

-- What a stage says of one desk: what it knows, whether a call of it is on its way, whether it is told to sleep, and
-- sleeps; whom it named; and by the table how many tokens it gave each seat, how often it rose, and its seat's part.
pub record OfDesk : Type 0 where
  pub desk : Situation
  pub calling : Bool
  pub told : Bool
  pub asleep : Bool
  pub named : ℕ → Bool
  pub rung : ℕ → ℕ
  pub risen : ℕ
  pub part : Part

abbrev pub of_desk : {key : Start} → Stage key → ℕ → OfDesk
of_desk g d = record {
  desk = g.desk d;
  calling = g.calling d;
  told = g.to_sleep d;
  asleep = g.moment.asleep d;
  named = g.named d;
  rung = g.moment.rung d;
  risen = g.moment.risen d;
  part = g.moment.part d;
}

-- Between two calls the desk is as its last call left it.
pub record IsCurrent (s : Situation) (calling : Bool) (p : Part) : Type 0 where
  pub view : calling ≡ false → s.view ≡ p.core
  pub cancelled : calling ≡ false → s.cancelled ≡ p.counts.cancelled

-- It has risen as often as it left a guard as a waiter, unless it is told to sleep.
pub record HasRisen (s : Situation) (calling told : Bool) (risen : ℕ) : Type 0 where
  pub up : told ≡ false → risen ≡ s.view.naps
  pub due : told ≡ true → risen + 1 ≡ s.view.naps
  pub rests : told ≡ true → calling ≡ false

-- It sleeps only if it is told to, and then has nobody to wake.
pub record MaySleep (s : Situation) (told asleep : Bool) (named : ℕ → Bool) : Type 0 where
  pub told_so : asleep ≡ true → told ≡ true
  pub unmarked : asleep ≡ true → (u : ℕ) → ¬ IsMarked s.wakes u
  pub unnamed : asleep ≡ true → (u : ℕ) → named u ≡ false

-- Whomever it has yet to wake is marked or named.
pub record OwesMarked (d : ℕ) (s : Situation) (named : ℕ → Bool) (rung : ℕ → ℕ) : Type 0 where
  pub even : (u : ℕ) → rung u ≤ owed_so_far s u
  pub marked : (u : ℕ) → rung u < owed_so_far s u → u ≢ d → IsMarked s.wakes u ⊎ (named u ≡ true)

-- all of this of one desk, by what the stage says of it
pub record IsKept (d : ℕ) (x : OfDesk) : Type 0 where
  pub number : x.desk.caller ≡ d
  pub outside : StandsOutside x.desk
  pub current : IsCurrent x.desk x.calling x.part
  pub rises : HasRisen x.desk x.calling x.told x.risen
  pub sleeps : MaySleep x.desk x.told x.asleep x.named
  pub owes : OwesMarked d x.desk x.named x.rung

abbrev pub Keeps : {key : Start} → Stage key → ℕ → Type 0
Keeps g d = IsKept d (of_desk g d)

-- ---- wakes are counted alike

-- what a desk owes, by what the table tells of it
pub owed_there : (s : Situation) (p : Part) (u : ℕ) → s.view ≡ p.core → s.cancelled ≡ p.counts.cancelled →
    owed_so_far s u ≡ wakes_owed p u
owed_there s p u view cancelled = let a = ap (times u) cancelled in let b = ap (λ (v : View). times u v.debts) view in omega arith

-- ---- a step at the table amid a call

-- amid a call nothing is asked of what it knows
amid_call : (s : Situation) (calling : Bool) (p : Part) → calling ≡ true → IsCurrent s calling p
amid_call s calling p on = record {
  view = λ off. absurd (true≢false (sym on ∙ off));
  cancelled = λ off. absurd (true≢false (sym on ∙ off));
}

-- whoever is awake doesn't sleep
pub is_awake : (s : Situation) (told asleep : Bool) (named : ℕ → Bool) → asleep ≡ false → MaySleep s told asleep named
is_awake s told asleep named awake = record {
  told_so = λ sleeps. absurd (true≢false (sym sleeps ∙ awake));
  unmarked = λ sleeps. absurd (true≢false (sym sleeps ∙ awake));
  unnamed = λ sleeps. absurd (true≢false (sym sleeps ∙ awake));
}

module _ (d : ℕ) (x : OfDesk) (h : IsKept d x) where
  -- amid a call it neither sleeps nor is told to
  pub call_untold : x.calling ≡ true → (x.told ≡ false) × (x.asleep ≡ false)
  call_untold on = (
    ⊎_elim (λ told. absurd (true≢false (sym on ∙ h.rises.rests told))) (λ isnt. isnt) (cases_Bool x.told),
    ⊎_elim (λ sleeps. absurd (true≢false (sym on ∙ h.rises.rests (h.sleeps.told_so sleeps)))) (λ isnt. isnt) (cases_Bool x.asleep),
  )

  pub other_part : x.calling ≡ true → (p : Part) → IsKept d (record x { part = p })
  other_part on p = record {
    number = h.number;
    outside = h.outside;
    current = amid_call x.desk x.calling p on;
    rises = h.rises;
    sleeps = h.sleeps;
    owes = h.owes;
  }

  -- ---- the deeds

  -- a call begins
  pub called : x.told ≡ false → IsKept d (record x { calling = true })
  called rose = record {
    number = h.number;
    outside = h.outside;
    current = amid_call x.desk true x.part refl;
    rises = record { up = h.rises.up; due = h.rises.due; rests = λ told. absurd (true≢false (sym told ∙ rose)) };
    sleeps = h.sleeps;
    owes = h.owes;
  }

  -- it answers
  pub answered : (s : Situation) (ans : Answer) → Balances x.desk s → CountsNaps x.desk ans s → StandsOutside s →
      s.view ≡ x.part.core → s.cancelled ≡ x.part.counts.cancelled → x.calling ≡ true →
      IsKept d (record x { desk = s; calling = false; told = is_sleeps ans })
  answered s ans b naps outside sees cancelled on = let before = call_untold on in record {
    number = b.caller ∙ h.number;
    outside = outside;
    current = record { view = λ _. sees; cancelled = λ _. cancelled };
    rises = record {
      up = λ other. h.rises.up before.0 ∙ sym (naps ∙ naps_alike ans x.desk.view.naps other);
      due = λ is. ap (λ (j : ℕ). j + 1) (h.rises.up before.0) ∙ sym (naps ∙ naps_more ans x.desk.view.naps is);
      rests = λ _. refl;
    };
    sleeps = is_awake s (is_sleeps ans) x.asleep x.named before.1;
    owes = record {
      even = λ u. let z = h.owes.even u in let y = b.owed u in omega arith;
      marked = λ u few other. elim (cases_lt (x.rung u) (owed_so_far x.desk u)) [
        | inl less ↦ ⊎_elim (λ was. inl ((b.marks u).1 (inl was))) inr (h.owes.marked u less other)
        | inr more ↦ inl ((b.marks u).1 (inr (let z = h.owes.even u in omega arith, λ own. other (own ∙ h.number))))
      ];
    };
  }

  -- it names a seat
  pub names_one : (w : List ℕ) (v : ℕ) → x.asleep ≡ false → IsMarkTaken x.desk.wakes (Some v) w →
      IsKept d (record x { desk = let s = x.desk in record s { wakes = w }; named = put x.named v true })
  names_one w v awake taken = let s = x.desk in record {
    number = h.number;
    outside = h.outside;
    current = record { view = h.current.view; cancelled = h.current.cancelled };
    rises = record { up = h.rises.up; due = h.rises.due; rests = h.rises.rests };
    sleeps = is_awake (record s { wakes = w }) x.told x.asleep (put x.named v true) awake;
    owes = record {
      even = h.owes.even;
      marked = λ u few other. dite (ℕ_discrete u v) (λ is. inr (ap (put x.named v true) is ∙ put_here x.named v true))
          (λ isnt. ⊎_elim (λ was. inl (taken.2 u isnt ∙ was)) (λ named. inr (put_else x.named v true u isnt ∙ named))
          (h.owes.marked u few other));
    };
  }

  -- whoever was named gets a token
  pub wakes_one : (v j : ℕ) → x.asleep ≡ false → j ≡ owed_so_far x.desk v →
      IsKept d (record x { named = put x.named v false; rung = put x.rung v j })
  wakes_one v j awake paid = record {
    number = h.number;
    outside = h.outside;
    current = h.current;
    rises = h.rises;
    sleeps = is_awake x.desk x.told x.asleep (put x.named v false) awake;
    owes = record {
      even = λ u. put_cases x.rung v j u (λ (k : ℕ). k ≤ owed_so_far x.desk u)
          (λ is. let e = ap (owed_so_far x.desk) is in omega arith) (λ _. h.owes.even u);
      marked = λ u few other. ⊎_elim
          (λ here. let e = ap (owed_so_far x.desk) here.0 in let f = here.1 in absurd (omega arith))
          (λ else. ⊎_elim inl (λ named. inr (put_else x.named v false u else.0 ∙ named)) (h.owes.marked u else.1 other))
          (put_was x.rung v j u (λ (k : ℕ). k < owed_so_far x.desk u) few);
    };
  }

  -- it falls asleep
  pub sleeps_on : x.told ≡ true → ((u : ℕ) → ¬ IsMarked x.desk.wakes u) → ((u : ℕ) → x.named u ≡ false) →
      IsKept d (record x { asleep = true })
  sleeps_on told none_marked none_named = record {
    number = h.number;
    outside = h.outside;
    current = h.current;
    rises = h.rises;
    sleeps = record { told_so = λ _. told; unmarked = λ _. none_marked; unnamed = λ _. none_named };
    owes = h.owes;
  }

  -- it rises
  pub rises_up : x.told ≡ true → IsKept d (record x { told = false; asleep = false; risen = x.risen + 1 })
  rises_up told = record {
    number = h.number;
    outside = h.outside;
    current = h.current;
    rises = record {
      up = λ _. h.rises.due told;
      due = λ on. absurd (true≢false (sym on));
      rests = λ on. absurd (true≢false (sym on));
    };
    sleeps = is_awake x.desk false false x.named refl;
    owes = h.owes;
  }
