-- Where of any write and any other access to its place one happens before the other, each read is of the last write.
use Rattle.std.proofs.Common.{◌≡◌, ◌⊎◌, ⊎_elim, inl, inr, ℕ, zero, suc, ◌<◌, refl, sym, ap, ◌∙◌, subst, arith}
use Rattle.std.proofs.lemmas.Bool.{cases_lt}
use Rattle.ww_protocols.specs.Hall.{change}
use Rattle.ww_protocols.specs.Memory.{Access, writes, reads, none, WritesAt, AccessesAt, IsVisible, ReadsWhatIsVisible, left_by, wrote}
use Rattle.ww_protocols.proofs.Changes.{same_or_not, change_here, change_else}

-- ---- the last write before some time

-- at i this is written at x, and nothing after that, before j
record IsLast (access : ℕ → Access) (x j value i : ℕ) : Type 0 where
  before : i < j
  write : (t : ℕ) × (access i ≡ writes t x value)
  since : (k : ℕ) → i < k → k < j → ¬ WritesAt x (access k)

-- there is one, or nothing was written at x
abbrev HasLast : (ℕ → ℕ) → (ℕ → Access) → ℕ → ℕ → ℕ → Type 0
HasLast first access x j value =
    ((i : ℕ) × IsLast access x j value i) ⊎ ((value ≡ first x) × ((k : ℕ) → k < j → ¬ WritesAt x (access k)))

-- what doesn't write there changes nothing of it
passes : (first : ℕ → ℕ) (access : ℕ → Access) (x j value : ℕ) → ¬ WritesAt x (access j) → HasLast first access x j value →
    HasLast first access x (suc j) value
passes first access x j value not (inl (i, l)) = let before = l.before in inl (
  i,
  record {
    before = omega arith;
    write = l.write;
    since = λ k low high. ⊎_elim (λ less. l.since k low less)
        (λ top. let is : j ≡ k = omega arith in subst (λ y. ¬ WritesAt x (access y)) is not) (cases_lt k j);
  },
)
passes first access x j value not (inr (same, never)) = inr (
  same,
  λ k high. ⊎_elim (λ less. never k less)
      (λ top. let is : j ≡ k = omega arith in subst (λ y. ¬ WritesAt x (access y)) is not) (cases_lt k j),
)

after_one : (first : ℕ → ℕ) (access : ℕ → Access) (x j : ℕ) (a : Access) → access j ≡ a →
    HasLast first access x j (wrote first access j x) → HasLast first access x (suc j) (left_by a (wrote first access j) x)
after_one first access x j (writes t y value) is last = let was = wrote first access j in ⊎_elim
    (λ same. let now : change was y value x ≡ value = ap (change was y value) same ∙ change_here was y value in inl (
      j,
      record {
        before = omega arith;
        write = (t, is ∙ ap (λ z. writes t z value) (sym same) ∙ ap (writes t x) (sym now));
        since = λ k low high. absurd (omega arith);
      },
    ))
    (λ other. subst (HasLast first access x (suc j)) (sym (change_else was y value x other)) (passes first access x j (was x)
    (λ w. other (let z = sym is ∙ w.2 in let same : y ≡ x = cc in sym same)) last))
    (same_or_not x y)
after_one first access x j (reads t y value) is last = passes first access x j (wrote first access j x) (λ w. let z = sym is ∙ w.2 in cc) last
after_one first access x j none is last = passes first access x j (wrote first access j x) (λ w. let z = sym is ∙ w.2 in cc) last

last_there : (first : ℕ → ℕ) (access : ℕ → Access) (x j : ℕ) → HasLast first access x j (wrote first access j x)
last_there first access x zero = inr (refl, λ k low. absurd (omega arith))
last_there first access x (suc j) = after_one first access x j (access j) refl (last_there first access x j)

-- ---- each read is of the last write

module _ (before : ℕ → ℕ → Type 0) (access : ℕ → Access)
    (after_write : (i j t u x v : ℕ) → i < j → access i ≡ writes t x v → AccessesAt u x (access j) → before i j)
    (before_write : (i j t u x v : ℕ) → i < j → AccessesAt t x (access i) → access j ≡ writes u x v → before i j) where
  -- the read at j
  module _ (first : ℕ → ℕ) (j u x value : ℕ) (is : access j ≡ reads u x value) where
    of_visible : (i t : ℕ) → access i ≡ writes t x value → i < j → IsVisible before access x i j →
        HasLast first access x j (wrote first access j x) → value ≡ wrote first access j x
    of_visible i t wrote_it less vis (inl (k, l)) = let last_before = l.before in ⊎_elim
        (λ newer. absurd (vis.unhidden k (l.write.0, wrote first access j x, l.write.1)
        (after_write i k t l.write.0 x value newer wrote_it (wrote first access j x, inl l.write.1))
        (after_write k j l.write.0 u x (wrote first access j x) l.before l.write.1 (value, inr is))))
        (λ older. ⊎_elim
        (λ same. let z = sym wrote_it ∙ ap access same ∙ l.write.1 in cc)
        (λ other. absurd (l.since i (omega arith) less (t, value, wrote_it)))
        (same_or_not i k))
        (cases_lt i k)
    of_visible i t wrote_it less vis (inr (same, never)) = absurd (never i less (t, value, wrote_it))

    of_first : value ≡ first x → ((k : ℕ) → WritesAt x (access k) → ¬ before k j) →
        HasLast first access x j (wrote first access j x) → value ≡ wrote first access j x
    of_first old not (inl (k, l)) = absurd (not k (l.write.0, wrote first access j x, l.write.1)
        (after_write k j l.write.0 u x (wrote first access j x) l.before l.write.1 (value, inr is)))
    of_first old not (inr (same, never)) = old ∙ sym same

    pub gets_the_last : ReadsWhatIsVisible before access first → value ≡ wrote first access j x
    gets_the_last memory = let last = last_there first access x j in ⊎_elim
        (λ w. let i = w.0 in let t = w.1 in ⊎_elim
        (λ less. of_visible i t w.2 less w.3 last)
        (λ late. ⊎_elim
        (λ same. let z = sym w.2 ∙ ap access same ∙ is in absurd (cc))
        (λ other. absurd (w.3.no_later (before_write j i u t x value (omega arith) (value, inr is) w.2)))
        (same_or_not i j))
        (cases_lt i j))
        (λ old. of_first old.0 old.1 last)
        (memory j u x value is)
