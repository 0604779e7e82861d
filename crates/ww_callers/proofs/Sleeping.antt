-- A desk whose seat leaves a guard in order to sleep, and the marks of whom it has to wake.
use Rattle.std.proofs.Common.{◌≡◌, ◌≢◌, ⊎_elim, inl, inr, ℕ, zero, suc, ◌+◌, ◌<◌, ◌/◌, ◌%◌, ◌^◌, ◌==◌, false, true≢false, List, [], ◌∷◌, Some, set, get_or, refl, sym, ap, ◌∙◌, subst, arith}
use Rattle.std.proofs.Math.Nat.{zero-div}
use Rattle.std.specs.List.{slice_index_or}
use mathlib.Core.Logic.{dite}
use native.Mathlib.Decide.{ℕ_discrete}
use Rattle.ww_queue.specs.Queue.{Has}
use Rattle.ww_view.specs.declared.view.View.{View}
use Rattle.ww_seat.specs.Marks.{is_marked, IsMarked}
use Rattle.ww_seat.specs.Work.{HasBooked, debts_with}
use Rattle.ww_seat.specs.declared.look.Arrival.TheVariants.{Came, Woken}
use Rattle.ww_seat.specs.declared.waits.Waits.TheVariants.{ToTheEnd}
use Rattle.ww_seat.proofs.Marking.{with_bit, without_bit, marked_here, marked_others, cleared_here, cleared_others}
use Rattle.ww_steps.specs.declared.turn.Turn.TheVariants.{Wants}
use Rattle.ww_steps.specs.declared.turn.Answer.TheVariants.{Sleeps}
use Rattle.ww_steps.specs.Situations.{Situation}
use Rattle.ww_steps.specs.Answers.{IsMarkTaken, IsWaitAnswer, IsNextAnswer, WakesCondemned}
use Rattle.ww_steps.proofs.Account.{wait_balances, step_books}
use Rattle.ww_callers.specs.Deeds.{HasDone, go_on}

-- ---- no mark, then that of seat 1, and then none again

abbrev pub unmarked : List ℕ
unmarked = 0 ∷ []

abbrev pub marked : List ℕ
marked = set unmarked (1 / 64) (with_bit (get_or unmarked (1 / 64) 0) (1 % 64))

abbrev pub cleared : List ℕ
cleared = set marked (1 / 64) (without_bit (get_or marked (1 / 64) 0) (1 % 64))

zeros : (i : ℕ) → slice_index_or unmarked i 0 ≡ 0
zeros zero = refl
zeros (suc i) = refl

pub has_no_mark : (u : ℕ) → is_marked unmarked u ≡ false
has_no_mark u = ap (λ (w : ℕ). w / 2 ^ (u % 64) % 2 == 1) (zeros (u / 64)) ∙ ap (λ (x : ℕ). x % 2 == 1) (zero-div (2 ^ (u % 64)))

pub has_mark : IsMarked marked 1
has_mark = marked_here unmarked 1 (omega arith)

others_have_none : (u : ℕ) → u ≢ 1 → is_marked marked u ≡ false
others_have_none u isnt = marked_others unmarked 1 (omega arith) u isnt ∙ has_no_mark u

pub has_no_mark_then : (u : ℕ) → is_marked cleared u ≡ false
has_no_mark_then u = dite (ℕ_discrete u 1)
    (λ is. ap (is_marked cleared) is ∙ cleared_here marked 1 (omega arith))
    (λ isnt. cleared_others marked 1 (omega arith) u isnt ∙ others_have_none u isnt)

pub is_taken : IsMarkTaken marked (Some 1) cleared
is_taken = (has_mark, cleared_here marked 1 (omega arith), cleared_others marked 1 (omega arith))

-- ---- whom it condemned has a mark: nobody, or seat 1

pub wakes_none : (s s' : Situation) → s'.wakes ≡ s.wakes → s'.view.condemned ≡ [] → WakesCondemned s s'
wakes_none s s' same none u = (
  λ has. inl (subst (λ (l : List ℕ). IsMarked l u) same has),
  ⊎_elim (λ was. subst (λ (l : List ℕ). IsMarked l u) (sym same) was)
      (λ has. absurd (subst (λ (l : List ℕ). Has l u) none has.0)),
)

pub wakes_one : (s s' : Situation) → s.wakes ≡ unmarked → s'.wakes ≡ marked → s'.view.condemned ≡ 1 ∷ [] → s'.view.who ≡ 0 →
    WakesCondemned s s'
wakes_one s s' was now one own u = (
  λ has. dite (ℕ_discrete u 1)
      (λ is. inr (subst (λ (l : List ℕ). Has l u) (sym one) (inl is), λ self. let e = self ∙ own in omega arith))
      (λ isnt. absurd (true≢false (sym (subst (λ (l : List ℕ). IsMarked l u) now has) ∙ others_have_none u isnt))),
  ⊎_elim (λ has. absurd (true≢false (sym (subst (λ (l : List ℕ). IsMarked l u) was has) ∙ has_no_mark u)))
      (λ has. ⊎_elim (λ is. subst (λ (l : List ℕ). IsMarked l u) (sym now) (subst (IsMarked marked) (sym is) has_mark))
      (λ none. absurd none) (subst (λ (l : List ℕ). Has l u) one has.0)),
)

-- ---- it answers to sleep

abbrev pub once_asleep : Situation → ℕ → List ℕ → View → Situation
once_asleep s n wakes v = record s { turn = Wants n Woken ToTheEnd; wakes = wakes; view = v }

-- the views are those of the desk's seat, and it has condemned nobody before
pub record IsItsOwn (s s' : Situation) : Type 0 where
  pub own : s.view.who ≡ s.caller
  pub still_own : s'.view.who ≡ s'.caller
  pub none : s.view.condemned ≡ []
  pub booked : (before : List ℕ) → HasBooked before s.view → HasBooked before s'.view

pub falls_asleep : (s : Situation) (n : ℕ) (wakes : List ℕ) (v : View) → s.turn ≡ Wants n Came ToTheEnd → s.view.attempts < v.attempts
    → v.naps ≡ s.view.naps + 1 → WakesCondemned s (once_asleep s n wakes v) → IsItsOwn s (once_asleep s n wakes v)
    → HasDone go_on s Sleeps (once_asleep s n wakes v)
falls_asleep s n wakes v turn more naps woken own = let s' = once_asleep s n wakes v in
    let answer : IsWaitAnswer s n ToTheEnd Sleeps s' = (woken, more, λ is. absurd (cc), refl) in (
      subst (λ t. IsNextAnswer t s Sleeps s') (sym turn) answer,
      step_books s s' (wait_balances s s' n ToTheEnd Sleeps answer (record {
        own = own.own;
        still_own = own.still_own;
        before = s.view.debts;
        booked = sym (ap (λ (l : List ℕ). debts_with s.view.who l s.view.debts) own.none);
        still = record {
          still = λ u has. absurd (subst (λ (l : List ℕ). Has l u) own.none has.0);
          booked = own.booked;
        };
        woken = λ u has. absurd (subst (λ (l : List ℕ). Has l u) own.none has.0);
      })),
      naps,
    )
