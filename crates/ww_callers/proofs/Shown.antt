-- A drive, deed by deed, with what is known at each stage.
use Rattle.std.proofs.Common.{◌≡◌, ⊎_elim, ℕ, ◌<◌, Bool, true, false, true≢false, [], Option, Some, refl, sym, ap, ◌∙◌, subst}
use Rattle.atomic_table.specs.Seated.{TableId}
use Rattle.ww_model.specs.State.{put}
use Rattle.ww_model.proofs.Puts.{put_here}
use Rattle.ww_invariant.specs.declared.cells.Part.{Part}
use Rattle.ww_invariant.specs.declared.cells.Sight.{Sight}
use Rattle.ww_invariant.specs.declared.cells.Start.{Start}
use Rattle.ww_invariant.specs.Layout.{words_for, slots_for}
use Rattle.ww_invariant.specs.Rule.{St, first_part, places_for}
use Rattle.ww_laws.specs.Scene.{Step}
use Rattle.ww_refines.specs.Moment as runs
use Rattle.ww_refines.specs.Moment.{Moment}
use Rattle.ww_refines.proofs.Pictures.{Picture, At, Next, Beside, nobody, first_picture, IsSeated, part_is}
use Rattle.ww_seat.specs.Marks.{is_marked, IsMarked}
use Rattle.ww_steps.specs.declared.turn.Answer.{Answer}
use Rattle.ww_steps.specs.Situations.{Situation, is_inside}
use Rattle.ww_steps.specs.Answers.{IsWakeAnswer}
use Rattle.ww_steps.specs.Opened.{fresh}
use Rattle.ww_callers.specs.Stages.{Stage, StandsOutside}
use Rattle.ww_callers.specs.Deeds.{Call, HasDone, Does, IsDriven, is_sleeps, woken, slept}
use Rattle.ww_callers.specs.Deeds as drive
use Rattle.ww_callers.specs.Drives.{IsDueBy}

-- what a stage has beside its moment
pub record Desks : Type 0 where
  pub desk : ℕ → Situation
  pub calling : ℕ → Bool
  pub to_sleep : ℕ → Bool
  pub named : ℕ → ℕ → Bool

abbrev pub staged : {key : Start} → Moment key → Desks → Stage key
staged m q = record { moment = m; desk = q.desk; calling = q.calling; to_sleep = q.to_sleep; named = q.named }

-- that moment, with these desks, is a stage of a drive
pub record Shown {key : Start} {p : Picture} (a : At key p) (q : Desks) : Type 0 where
  pub driven : IsDriven (staged a.moment q)

-- ---- what a deed makes of the desks

abbrev pub called : Desks → ℕ → Desks
called q d = record q { calling = put q.calling d true }

abbrev pub answered : Desks → ℕ → Answer → Situation → Desks
answered q d a s = record q {
  desk = put q.desk d s;
  calling = put q.calling d false;
  to_sleep = put q.to_sleep d (is_sleeps a);
}

abbrev pub naming : Desks → ℕ → ℕ → Situation → Desks
naming q d u s = record q { desk = put q.desk d s; named = put q.named d (put (q.named d) u true) }

-- once desk d has given seat u a token
abbrev pub rid_of : Desks → ℕ → ℕ → Desks
rid_of q d u = record q { named = put q.named d (put (q.named d) u false) }

-- ---- the first desks

-- a table that may have this layout
abbrev home : Start → TableId
home key = record {
  words = words_for key.locks key.places;
  slots = slots_for key.locks;
  views_name = 0;
  atom = 0;
  block = 0;
  offset = 0;
  slot_names = [];
}

-- nothing was called yet, and each desk may begin one context
abbrev pub first_desks : Start → Desks
first_desks key = record {
  desk = fresh (home key) key.locks key.seats key.kind 1;
  calling = nobody;
  to_sleep = nobody;
  named = λ _. nobody;
}

pub first_shown : (key : Start) (table : St) (a : At key (first_picture key table)) → key.places ≡ places_for key.seats →
    ((t : ℕ) → t < key.seats → a.moment.part t ≡ first_part key.kind key.locks key.places t) → Shown a (first_desks key)
first_shown key table a places parts = record {
  driven = drive.begins (staged a.moment (first_desks key)) (record {
    first = record {
      core = a.is_core;
      parts = parts;
      rung = a.rung;
      risen = a.risen;
      token = a.token;
      asleep = a.asleep;
      heeds = a.heeding;
    };
    places = places;
    desks = λ d low. record { caller = refl; cancelled = refl; view = refl };
    calling = λ d. refl;
    to_sleep = λ d. refl;
    named = λ d. refl;
  });
}

-- what a desk answers: the clauses of its call hold, and it knows what the table tells
pub record IsAnswer (was : Situation) (v : Sight) (call : Call) (a : Answer) (s : Situation) : Type 0 where
  pub done : HasDone call was a s
  pub outside : StandsOutside s
  pub sees : s.view ≡ v.part.core
  pub cancelled : s.cancelled ≡ v.part.counts.cancelled

module _ {key : Start} {p : Picture} (a : At key p) (q : Desks) where
  awake_there : (d : ℕ) → p.asleep d ≡ false → a.moment.asleep d ≡ false
  awake_there d awake = ap (λ (f : ℕ → Bool). f d) a.asleep ∙ awake

  pub calls_does : (d : ℕ) → d < key.seats → q.calling d ≡ false → p.asleep d ≡ false → q.to_sleep d ≡ false →
      Does (staged a.moment q) (staged a.moment (called q d)) (drive.calls d)
  calls_does d low idle awake rose = record {
    at_hand = record { seat = low; idle = idle; awake = awake_there d awake };
    rose = rose;
    now = refl;
  }

  pub steps_does : {d : ℕ} {x : Option Step} {p' : Picture} (n : Next a d x p') → q.calling d ≡ true →
      (q.desk d).view.naps ≡ 0 → Does (staged a.moment q) (staged n.at.moment q) (drive.steps d x)
  steps_does {d = d} n calling fresh = record {
    seat = n.there.acts.seat;
    calling = calling;
    stays_up = sym n.there.acts.risen ∙ ap (λ (f : ℕ → ℕ). f d) a.risen ∙ sym fresh;
    there = λ _. record { there = n.there; by = n.by; follows = n.follows };
    notes = n.notes;
    now = refl;
  }

  pub answers_does : (id d : ℕ) (v : Sight) → IsSeated key p.table id d v → q.calling d ≡ true → (call : Call) (ans : Answer)
      (s : Situation) → IsAnswer (q.desk d) v call ans s →
      Does (staged a.moment q) (staged a.moment (answered q d ans s)) (drive.answers d call ans)
  answers_does id d v i calling call ans s h = let part = part_is a id d v i in let here = put_here q.desk d s in record {
    seat = i.low;
    calling = calling;
    done = subst (λ z. HasDone call (q.desk d) ans z) (sym here) h.done;
    outside = subst StandsOutside (sym here) h.outside;
    sees = ap (λ (z : Situation). z.view) here ∙ h.sees ∙ ap (λ (z : Part). z.core) part;
    cancelled = ap (λ (z : Situation). z.cancelled) here ∙ h.cancelled ∙ ap (λ (z : Part). z.counts.cancelled) part;
    now = ap (λ (z : Situation). staged a.moment (answered q d ans z)) (sym here);
  }

module _ {key : Start} {p : Picture} {a : At key p} {q : Desks} (g : Shown a q) where
  pub calls_then : (d : ℕ) → d < key.seats → q.calling d ≡ false → p.asleep d ≡ false → q.to_sleep d ≡ false →
      Shown a (called q d)
  calls_then d low idle awake rose = record {
    driven = drive.goes_on (staged a.moment q) (staged a.moment (called q d)) (drive.calls d) g.driven
        (calls_does a q d low idle awake rose);
  }

  pub steps_then : {d : ℕ} {x : Option Step} {p' : Picture} (n : Next a d x p') → q.calling d ≡ true →
      (q.desk d).view.naps ≡ 0 → Shown n.at q
  steps_then {d = d} {x = x} n calling fresh = record {
    driven = drive.goes_on (staged a.moment q) (staged n.at.moment q) (drive.steps d x) g.driven (steps_does a q n calling fresh);
  }

  pub answers_then : (id d : ℕ) (v : Sight) → IsSeated key p.table id d v → q.calling d ≡ true → (call : Call) (ans : Answer)
      (s : Situation) → IsAnswer (q.desk d) v call ans s → Shown a (answered q d ans s)
  answers_then id d v i calling call ans s h = record {
    driven = drive.goes_on (staged a.moment q) (staged a.moment (answered q d ans s)) (drive.answers d call ans) g.driven
        (answers_does a q id d v i calling call ans s h);
  }

  -- ---- beside the table

  pub names_then : (d u : ℕ) → d < key.seats → q.calling d ≡ false → p.asleep d ≡ false → (s : Situation) →
      IsWakeAnswer (q.desk d) (Some u) s → Shown a (naming q d u s)
  names_then d u low idle awake s h = let here = put_here q.desk d s in record {
    driven = drive.goes_on (staged a.moment q) (staged a.moment (naming q d u s)) (drive.names d u) g.driven (record {
      at_hand = record { seat = low; idle = idle; awake = awake_there a q d awake };
      answer = subst (λ z. IsWakeAnswer (q.desk d) (Some u) z) (sym here) h;
      now = ap (λ (z : Situation). staged a.moment (naming q d u z)) (sym here);
    });
  }

  pub wakes_then : {x : Option Step} {p' : Picture} (d u : ℕ) (b : Beside a x (woken a.moment d u) p') → d < key.seats → q.calling d ≡ false →
      p.asleep d ≡ false → is_inside (q.desk d).turn ≡ false → Shown b.at (rid_of q d u)
  wakes_then d u b low idle awake outside = record {
    driven = drive.goes_on (staged a.moment q) (staged b.at.moment (rid_of q d u)) (drive.wakes d u) g.driven (record {
      at_hand = record { seat = low; idle = idle; awake = awake_there a q d awake };
      outside = outside;
      now = ap (λ (m : Moment key). staged m (rid_of q d u)) b.is;
    });
  }

  pub parks_then : {x : Option Step} {p' : Picture} (d : ℕ) (b : Beside a x (slept a.moment d) p') → d < key.seats → q.calling d ≡ false →
      p.asleep d ≡ false → q.to_sleep d ≡ true → ((u : ℕ) → ¬ IsMarked (q.desk d).wakes u) → ((u : ℕ) → q.named d u ≡ false) →
      Shown b.at q
  parks_then d b low idle awake told unmarked unnamed = record {
    driven = drive.goes_on (staged a.moment q) (staged b.at.moment q) (drive.parks d) g.driven (record {
      at_hand = record { seat = low; idle = idle; awake = awake_there a q d awake };
      told = told;
      none_marked = unmarked;
      none_named = unnamed;
      now = ap (λ (m : Moment key). staged m q) b.is;
    });
  }

-- ---- whose waking has yet to be seen to

-- no desk has a mark, and none has named anybody
pub record OwesNobody (key : Start) (q : Desks) : Type 0 where
  pub unmarked : (t s : ℕ) → t < key.seats → is_marked (q.desk t).wakes s ≡ false
  pub unnamed : (t s : ℕ) → t < key.seats → q.named t s ≡ false

pub nothing_due : {key : Start} (q : Desks) → OwesNobody key q → (m : Moment key) →
    ((t s : ℕ) → ¬ runs.HasToWake m t s) → (t s : ℕ) → t < key.seats → ¬ IsDueBy (staged m q) t s
nothing_due q owes m unowed t s low = ⊎_elim (λ marked. true≢false (sym marked ∙ owes.unmarked t s low))
    (⊎_elim (λ named. true≢false (sym named ∙ owes.unnamed t s low)) (λ calling. unowed t s calling.1))
