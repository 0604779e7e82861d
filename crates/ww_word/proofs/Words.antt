-- Owner words: one for each valid owner, and what the flags do to it.
use Rattle.std.proofs.Common.{ℕ, ◌≡◌, ◌==◌, not, bit_and, ⊎_elim, Some, None, refl, sym, ap, subst, arith}
use Rattle.std.proofs.lemmas.Grind.{common_steps}
use Rattle.ww_word.specs.Owner.{IsValid, AreFlags, packed}
use Rattle.ww_word.specs.Laws.{PackingFits, PackingIsInjective, UnpackingIsInverse, ReadingIsUnique, WaitersAddOne, HandingTellsPickup, ZeroIsIdle}

TellsPickup : ℕ → Type 0
TellsPickup flags = not (bit_and flags 4 == 0) ≡ (flags == 5)

by_flags : (flags : ℕ) → AreFlags flags → TellsPickup flags
unfolding TellsPickup
by_flags flags = ⊎_elim (λ is. subst TellsPickup (sym is) refl) (⊎_elim (λ is. subst TellsPickup (sym is) refl)
    (⊎_elim (λ is. subst TellsPickup (sym is) refl) (λ is. subst TellsPickup (sym is) refl)))

pub packing_fits : PackingFits
packing_fits owner valid = grind (arith, common_steps)

pub packing_is_injective : PackingIsInjective
packing_is_injective owner other valid valid' same = grind (arith, common_steps)

pub unpacking_is_inverse : UnpackingIsInverse
unpacking_is_inverse = (
  λ owner valid other. (
    λ same. let e : owner ≡ other = cc in
        subst (λ x. IsValid x × (packed x ≡ packed owner)) e (valid, refl),
    λ is. ap Some
        (packing_is_injective owner other valid is.0 (sym is.1)),
  ),
  λ word owner reads. ((reads owner).0 refl).1,
)

pub reading_is_unique : ReadingIsUnique
reading_is_unique word None None left right = refl
reading_is_unique word None (Some owner) left right = (left owner).1 ((right owner).0 refl)
reading_is_unique word (Some owner) other left right = sym ((right owner).1 ((left owner).0 refl))

pub waiters_add_one : WaitersAddOne
waiters_add_one owner valid = grind (arith, common_steps)

pub zero_is_idle : ZeroIsIdle
zero_is_idle owner = grind (arith, common_steps)

pub handing_tells_pickup : HandingTellsPickup
unfolding TellsPickup
handing_tells_pickup owner valid = by_flags owner.flags valid.flags
