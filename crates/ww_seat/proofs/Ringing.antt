-- Whose bells ring.
use Rattle.std.proofs.Common.{◌≡◌, ℕ, Bool, true, false, List, length, Option, Some, None, inl, inr, refl, sym, ap, ◌∙◌, arith}
use Rattle.std.proofs.lemmas.Bool.{cases_lt}
use Rattle.std.proofs.lemmas.Option.{slice_get_past}
use Rattle.std.specs.Option.{option_map}
use Rattle.ww_view.specs.declared.view.View.{View}
use Rattle.ww_seat.specs.declared.bell.Bell.{Bell}
use Rattle.ww_seat.specs.Bells.{rung, rung_at, one_more, ArePlacedAlike, AreRung, HaveRung, OnlyRing, SleepsNot}
use Rattle.ww_seat.specs.declared.patience.Patience.{Patience}
use Rattle.ww_seat.specs.Marks.{is_marked, IsMarked}
use Rattle.ww_seat.specs.Work.{AreWoken}

-- a bell without a mark gave no token
pub only_ring : (these : ℕ → Type 0) (marks : List ℕ) {bells bells' : List Bell} → ((u : ℕ) → IsMarked marks u → these u)
    → AreRung marks bells bells' → ArePlacedAlike bells bells' → OnlyRing these bells bells'
only_ring these marks {bells} {bells'} only rang alike u others = elim (cases_lt u (length bells)) [
  | inl lt ↦ rang u lt ∙ unmarked (is_marked marks u) (rung_at bells u) (λ mark. others (only u mark))
  | inr le ↦ ap (option_map rung) (slice_get_past bells' u (omega (arith, le, alike.count)) ∙ sym (slice_get_past bells u le))
]
  where
    unmarked : (b : Bool) (o : Option ℕ) → (b ≡ true → ⊥) → option_map (one_more b) o ≡ o
    unmarked true o off = absurd (off refl)
    unmarked false None off = refl
    unmarked false (Some k) off = refl

-- who waits with it doesn't sleep, and doesn't sleep again
pub slept_not : {p q r : Patience} → SleepsNot p q → SleepsNot q r → SleepsNot p r
slept_not a b = record { parker = b.parker ∙ a.parker; heard = b.heard ∙ a.heard }

-- each seat that has to be woken has a mark, and the bell of each that has one gave a token
pub woken_ring : (v : View) (marks : List ℕ) (bells bells' : List Bell) → AreWoken v marks → AreRung marks bells bells'
    → HaveRung v bells bells'
woken_ring v marks bells bells' woken rang = λ u condemned other low. rang u low
    ∙ ap (λ (b : Bool). option_map (one_more b) (rung_at bells u)) (woken u (condemned, other))
