-- One node more is held, or one less.
use Rattle.std.proofs.Common.{◌≡◌, ℕ, ◌<◌, ◌≤◌, true, false, eqb, inl, inr, List, [], ◌∷◌, ◌++◌, length, sym, subst, arith}
use Rattle.std.specs.List.{AllByRecursion}
use Rattle.ww_plain.specs.declared.node.Node.{Node}
use Rattle.ww_plain.specs.Numbers.{is_among}
use Rattle.ww_plain.proofs.Members.{different_push, different_none, or_cases, same_from_eqb}
use Rattle.ww_view.specs.Made.{without}
use Rattle.ww_seat.proofs.Without.{all_without, different_without}
use Rattle.ww_lock.specs.Holding.{AreHeld}

pub all_push : {A : Type 0} (P : A → Type 0) (xs : List A) (x : A) → AllByRecursion P xs → P x → AllByRecursion P (xs ++ x ∷ [])
all_push P [] x all here = (here, tt)
all_push P (y ∷ ys) x all here = (all.0, all_push P ys x all.1 here)

pub held_more : (held : List ℕ) (seen next : List Node) (n : ℕ) → AreHeld held seen → n < length seen
    → is_among n held ≡ false → length next ≡ length seen → AreHeld (held ++ n ∷ []) next
held_more held seen next n h lt absent sizes = record {
  there = subst (λ (size : ℕ). AllByRecursion (λ m. m < size) (held ++ n ∷ [])) (sym sizes)
      (all_push (λ m. m < length seen) held n h.there lt);
  once = different_push held n h.once absent;
  few = omega (arith, sizes, h.few);
}

pub held_less : (held : List ℕ) (seen next : List Node) (n : ℕ) → AreHeld held seen → length next ≡ length seen
    → AreHeld (without n held) next
held_less held seen next n h sizes = record {
  there = subst (λ (size : ℕ). AllByRecursion (λ m. m < size) (without n held)) (sym sizes)
      (all_without (λ m. m < length seen) n held h.there);
  once = different_without n held h.once;
  few = omega (arith, sizes, h.few);
}

pub held_none : (seen : List Node) → length seen ≤ 64 → AreHeld [] seen
held_none seen few = record { there = tt; once = different_none; few = few }

-- what holds of each of a list holds of each that is among it
pub all_among : (P : ℕ → Type 0) (ns : List ℕ) (n : ℕ) → AllByRecursion P ns → is_among n ns ≡ true → P n
all_among P [] n all e = absurd cc
all_among P (m ∷ ms) n all e = elim (or_cases (eqb m n) (is_among n ms) e)
    [ inl same ↦ subst P (same_from_eqb m n same) all.0 | inr later ↦ all_among P ms n all.1 later ]
