-- Which locks are owned, beside a list of those that are held, once that changes for one of them.
use Rattle.std.proofs.Common.{◌≡◌, ◌≢◌, ℕ, ◌<◌, ◌||◌, eqb, Bool, true, false, List, [], ◌∷◌, ◌++◌, length, set, get_or, refl, sym, ap, subst, ◌∙◌, arith, get_or-set_same, get_or-set_other}
use Rattle.std.proofs.lemmas.Bool.Decides.{nat_tests}
use mathlib.Core.Logic.{dite}
use native.Mathlib.Decide.{ℕ_discrete}
use Rattle.ww_plain.specs.Numbers.{is_among}
use Rattle.ww_plain.proofs.Members.{eqb_same, or_right, is_among-append}

or_nothing : (b : Bool) → (b || false) ≡ b
or_nothing true = refl
or_nothing false = refl

pub apart : (n m : ℕ) → m ≢ n → eqb n m ≡ false
apart n m differ = grind (arith, nat_tests, differ)

-- a number is the one that was added, or not
among_added : (held : List ℕ) (n m : ℕ) → is_among m (held ++ n ∷ []) ≡ (is_among m held || eqb n m)
among_added held n m = is_among-append m held (n ∷ []) ∙ ap (λ (b : Bool). is_among m held || b) (or_nothing (eqb n m))

-- the last one is held, and any other where it is before
pub last_among : (front : List ℕ) (n : ℕ) → is_among n (front ++ n ∷ []) ≡ true
last_among front n = among_added front n n ∙ ap (λ (b : Bool). is_among n front || b) (eqb_same n) ∙ or_right (is_among n front) true refl

pub others_among : (front : List ℕ) (n m : ℕ) → m ≢ n → is_among m (front ++ n ∷ []) ≡ is_among m front
others_among front n m differ = among_added front n m ∙ ap (λ (b : Bool). is_among m front || b) (apart n m differ)
    ∙ or_nothing (is_among m front)

-- it owns what is held, as before but for one lock
pub owns_held : (owned : List Bool) {new : List Bool} (was held : List ℕ) (n : ℕ) {b : Bool} → n < length owned → new ≡ set owned n b
    → ((m : ℕ) → get_or owned m false ≡ is_among m was) → is_among n held ≡ b → ((m : ℕ) → m ≢ n → is_among m held ≡ is_among m was) → (m : ℕ)
    → get_or new m false ≡ is_among m held
owns_held owned was held n {b} lt is owns here others m = ap (λ (os : List Bool). get_or os m false) is ∙ dite (ℕ_discrete m n)
    (λ same. subst (λ (k : ℕ). get_or (set owned n b) k false ≡ is_among k held) (sym same) (get_or-set_same owned n b false lt ∙ sym here))
    (λ differ. get_or-set_other owned n m b false differ ∙ owns m ∙ sym (others m differ))

-- ... and that one is the last now
pub owns_more : (owned new : List Bool) (held : List ℕ) (n : ℕ) → n < length owned → new ≡ set owned n true
    → ((m : ℕ) → get_or owned m false ≡ is_among m held) → (m : ℕ)
    → get_or new m false ≡ is_among m (held ++ n ∷ [])
owns_more owned new held n lt is owns = owns_held owned held (held ++ n ∷ []) n lt is owns (last_among held n) (others_among held n)
