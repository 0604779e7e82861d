-- What a handle knows of a desk, as the desk's calls require it.
use Rattle.std.proofs.Common.{◌≡◌, ◌==◌, ℕ, Bool, true, false, not, true≢false, List, [], ◌∷◌, length, Option, Some, None, is_none, refl, sym, ap, inl, inr, arith, subst, if◌then◌else◌}
use Rattle.std.proofs.lemmas.Bool.{and_parts as both_true, eqb-true as same_number}
use Rattle.ww_steps.specs.Situations.{Situation, is_empty, IsPlain}
use Rattle.ww_c.specs.Modes.{knows, is_plain, is_ready, is_unsigned}

untold : (told : Option ℕ) → is_none told ≡ true → told ≡ None
untold None e = refl
untold (Some n) e = absurd (true≢false (sym e))

isnt : (b : Bool) → not b ≡ true → b ≡ false
isnt false e = refl
isnt true e = absurd (true≢false (sym e))

unsigned : (held : List ℕ) (sign : Option ℕ) → is_unsigned held sign ≡ true → held ≡ [] → sign ≡ Some 0
unsigned [] None e is = absurd (true≢false (sym e))
unsigned [] (Some k) e is = ap (λ (n : ℕ). Some n) (same_number k 0 e)
unsigned (n ∷ ns) sign e is = absurd (let z = ap length is in omega (arith, z))

wants_bare : (done none zero lone : Bool) → done ≡ false → none ≡ true
    → (if done then false else (if none then true else (if zero then false else lone))) ≡ true
wants_bare true none zero lone undone bare = absurd (true≢false undone)
wants_bare false true zero lone undone bare = refl
wants_bare false false zero lone undone bare = absurd (true≢false (sym bare))

wants_more : (done none zero lone : Bool) → done ≡ false → zero ≡ false → lone ≡ true
    → (if done then false else (if none then true else (if zero then false else lone))) ≡ true
wants_more true none zero lone undone context free = absurd (true≢false undone)
wants_more false true zero lone undone context free = refl
wants_more false false true lone undone context free = absurd (true≢false context)
wants_more false false false lone undone context free = free

pub plain_plain : (s : Situation) → is_plain s ≡ true → IsPlain s
plain_plain s e =
    let rest = (both_true _ _ e).1 in let b = both_true _ _ rest in let c = both_true _ _ b.1 in
    let d = both_true _ _ c.1 in let f = both_true _ _ d.1 in record {
      rests = b.0;
      wants = wants_more s.is_done (is_empty s.held) (s.stamp == 0) (is_none s.told) (isnt s.is_done d.0) (isnt (s.stamp == 0) c.0) f.0;
      untold = untold s.told f.0;
      unsigned = λ none. inr (unsigned s.held s.view.sign f.1 none);
    }

pub ready_plain : (s : Situation) → is_ready s ≡ true → IsPlain s
ready_plain s e =
    let rest = (both_true _ _ e).1 in let b = both_true _ _ rest in let c = both_true _ _ b.1 in
    let d = both_true _ _ c.1 in let f = both_true _ _ d.1 in record {
      rests = b.0;
      wants = wants_bare s.is_done (is_empty s.held) (s.stamp == 0) (is_none s.told) (isnt s.is_done f.0) d.0;
      untold = untold s.told f.1;
      unsigned = λ none. inl (same_number s.stamp 0 c.0);
    }

-- what is known of a desk is so while it is lent
pub lent : (test : Situation → Bool) (o : Option Situation) (x : Situation) → Some x ≡ o → knows test o ≡ true → test x ≡ true
lent test o x is fact = subst (λ (o : Option Situation). knows test o ≡ true) (sym is) fact
