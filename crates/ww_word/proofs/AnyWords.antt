-- Owner words of tables of any number of seats: one for each valid owner.
use Rattle.std.proofs.Common.{ℕ, ◌≡◌, ◌≢◌, ◌+◌, ◌-◌, ◌*◌, ◌^◌, ◌<◌, ◌≤◌, ◌↔◌, Option, Some, None, inl, ⊎_elim, refl, sym, ap, ◌∙◌, subst, arith}
use Rattle.std.proofs.lemmas.Grind.{common_steps}
use mathlib.Core.Logic.{dite}
use native.Mathlib.Decide.{dec_le}
use Rattle.ww_word.specs.declared.owner.Owner.{Owner}
use Rattle.ww_word.specs.Owner as narrow
use Rattle.ww_word.specs.Owner.{AreFlags}
use Rattle.ww_word.specs.AnySeats.{Fits, IsSeating, IsValid, seat_word, packed_as, packed, most_for, unflagged}

-- ---- the word of a seat

pub few_word : (flags seat stamp : ℕ) → seat < 16 → seat_word flags seat stamp ≡ flags + 8 * (seat + 1) + 256 * stamp
few_word flags seat stamp few = grind (arith, common_steps)

pub many_word : (flags seat stamp : ℕ) → 16 ≤ seat → seat_word flags seat stamp ≡ 7 - flags + 8 * seat + 32768 * stamp
many_word flags seat stamp many = grind (arith, common_steps)

pub most_few : (seats : ℕ) → seats ≤ 16 → most_for seats ≡ 2 ^ 56 - 1
most_few seats few = grind (arith, common_steps)

pub most_many : (seats : ℕ) → 16 < seats → most_for seats ≡ 2 ^ 49 - 1
most_many seats many = grind (arith, common_steps)

-- what the flags of a word are
by_flags : (P : ℕ → Type 0) (flags : ℕ) → AreFlags flags → P 0 → P 1 → P 3 → P 5 → P flags
by_flags P flags are p0 p1 p3 p5 = ⊎_elim (λ is. subst P (sym is) p0) (⊎_elim (λ is. subst P (sym is) p1)
    (⊎_elim (λ is. subst P (sym is) p3) (λ is. subst P (sym is) p5))) are

pub flags_few : (flags : ℕ) → AreFlags flags → flags ≤ 5
flags_few flags are = by_flags (λ f. f ≤ 5) flags are (omega arith) (omega arith) (omega arith) (omega arith)

-- ---- words of different forms differ

few_many : (f g s a t b : ℕ) → AreFlags f → AreFlags g → f + 8 * (s + 1) + 256 * a ≢ 7 - g + 8 * t + 32768 * b
few_many f g s a t b ff gg = by_flags (λ f. f + 8 * (s + 1) + 256 * a ≢ 7 - g + 8 * t + 32768 * b) f ff
    (by_flags (λ g. 0 + 8 * (s + 1) + 256 * a ≢ 7 - g + 8 * t + 32768 * b) g gg (λ z. omega arith) (λ z. omega arith) (λ z. omega arith) (λ z. omega arith))
    (by_flags (λ g. 1 + 8 * (s + 1) + 256 * a ≢ 7 - g + 8 * t + 32768 * b) g gg (λ z. omega arith) (λ z. omega arith) (λ z. omega arith) (λ z. omega arith))
    (by_flags (λ g. 3 + 8 * (s + 1) + 256 * a ≢ 7 - g + 8 * t + 32768 * b) g gg (λ z. omega arith) (λ z. omega arith) (λ z. omega arith) (λ z. omega arith))
    (by_flags (λ g. 5 + 8 * (s + 1) + 256 * a ≢ 7 - g + 8 * t + 32768 * b) g gg (λ z. omega arith) (λ z. omega arith) (λ z. omega arith) (λ z. omega arith))

none_many : (f g a t b : ℕ) → f ≤ 1 → AreFlags g → f + 256 * a ≢ 7 - g + 8 * t + 32768 * b
none_many f g a t b few gg = by_flags (λ g. f + 256 * a ≢ 7 - g + 8 * t + 32768 * b) g gg
    (λ z. omega arith) (λ z. omega arith) (λ z. omega arith) (λ z. omega arith)

same_owner : (o p : Owner) → o.seat ≡ p.seat → o.stamp ≡ p.stamp → o.flags ≡ p.flags → o ≡ p
same_owner o p a b c = λ i. record { seat = a i; stamp = b i; flags = c i }

-- two seats with the same word are one
record AreSame (f s a g t b : ℕ) : Type 0 where
  flags : f ≡ g
  seat : s ≡ t
  stamp : a ≡ b

seats_same : (f s a g t b : ℕ) → AreFlags f → AreFlags g → Fits s a → Fits t b → seat_word f s a ≡ seat_word g t b → AreSame f s a g t b
seats_same f s a g t b ff gg fits fits' same = let f5 = flags_few f ff in let g5 = flags_few g gg in
    let s4 : s < 4096 = ⊎_elim (λ z. let x = z.0 in omega arith) (λ z. z.0) fits in
    let t4 : t < 4096 = ⊎_elim (λ z. let x = z.0 in omega arith) (λ z. z.0) fits' in
    dite (dec_le 16 s)
    (λ many. dite (dec_le 16 t)
    (λ many'. let e = sym (many_word f s a many) ∙ same ∙ many_word g t b many' in record {
      flags = omega arith;
      seat = omega arith;
      stamp = omega arith;
    })
    (λ few'. absurd (few_many g f t b s a gg ff (sym (few_word g t b (omega arith)) ∙ sym same ∙ many_word f s a many))))
    (λ few. dite (dec_le 16 t)
    (λ many'. absurd (few_many f g s a t b ff gg (sym (few_word f s a (omega arith)) ∙ same ∙ many_word g t b many')))
    (λ few'. let e = sym (few_word f s a (omega arith)) ∙ same ∙ few_word g t b (omega arith) in record {
      flags = omega arith;
      seat = omega arith;
      stamp = omega arith;
    }))

-- no seat has the word of a free lock
none_seat : (f g s b : ℕ) → f ≤ 1 → AreFlags g → Fits s b → f + 256 * 0 ≢ seat_word g s b
none_seat f g s b few gg fits same = let g5 = flags_few g gg in dite (dec_le 16 s)
    (λ many. none_many f g 0 s b few gg (same ∙ many_word g s b many))
    (λ less. let e = same ∙ few_word g s b (omega arith) in omega arith)

pub packing_is_injective : (o p : Owner) → IsValid o → IsValid p → packed o ≡ packed p → o ≡ p
packing_is_injective o p v w same = go o.seat p.seat refl refl
  where
    go : (s t : Option ℕ) → o.seat ≡ s → p.seat ≡ t → o ≡ p
    go None None is is' = let x = subst (IsSeating o) is v.seating in let y = subst (IsSeating p) is' w.seating in
        let e : o.flags + 256 * o.stamp ≡ p.flags + 256 * p.stamp = sym (ap (packed_as o) is) ∙ same ∙ ap (packed_as p) is' in
        same_owner o p (is ∙ sym is') (x.0 ∙ sym y.0) (let a = x.0 in let b = y.0 in omega arith)
    go None (Some t) is is' = let x = subst (IsSeating o) is v.seating in let y = subst (IsSeating p) is' w.seating in
        let e : o.flags + 256 * o.stamp ≡ seat_word p.flags t p.stamp = sym (ap (packed_as o) is) ∙ same ∙ ap (packed_as p) is' in
        absurd (none_seat o.flags p.flags t p.stamp x.1 w.flags y (ap (λ (a : ℕ). o.flags + 256 * a) (sym x.0) ∙ e))
    go (Some s) None is is' = let x = subst (IsSeating o) is v.seating in let y = subst (IsSeating p) is' w.seating in
        let e : seat_word o.flags s o.stamp ≡ p.flags + 256 * p.stamp = sym (ap (packed_as o) is) ∙ same ∙ ap (packed_as p) is' in
        absurd (none_seat p.flags o.flags s o.stamp y.1 v.flags x (ap (λ (a : ℕ). p.flags + 256 * a) (sym y.0) ∙ sym e))
    go (Some s) (Some t) is is' = let x = subst (IsSeating o) is v.seating in let y = subst (IsSeating p) is' w.seating in
        let e : seat_word o.flags s o.stamp ≡ seat_word p.flags t p.stamp = sym (ap (packed_as o) is) ∙ same ∙ ap (packed_as p) is' in
        let z = seats_same o.flags s o.stamp p.flags t p.stamp v.flags w.flags x y e in
        same_owner o p (is ∙ ap Some z.seat ∙ sym is') z.stamp z.flags

-- a valid owner has room in 64 bits
pub any_packing_fits : (o : Owner) → IsValid o → packed o < 2 ^ 64
any_packing_fits o v = go o.seat refl
  where
    go : (s : Option ℕ) → o.seat ≡ s → packed o < 2 ^ 64
    go None is = let x = subst (IsSeating o) is v.seating in let a = x.0 in let b = x.1 in
        let e : packed o ≡ o.flags + 256 * o.stamp = ap (packed_as o) is in omega arith
    go (Some s) is = let x = subst (IsSeating o) is v.seating in let f5 = flags_few o.flags v.flags in
        let e : packed o ≡ seat_word o.flags s o.stamp = ap (packed_as o) is in dite (dec_le 16 s)
        (λ many. let w = many_word o.flags s o.stamp many in ⊎_elim (λ z. let a = z.0 in absurd (omega arith))
        (λ z. let a = z.0 in let b = z.1 in omega arith) x)
        (λ less. let w = few_word o.flags s o.stamp (omega arith) in ⊎_elim (λ z. let a = z.0 in let b = z.1 in omega arith)
        (λ z. let a = z.0 in let b = z.1 in omega arith) x)

-- ---- words but for their flags

-- the words of seats below 16, and of free locks
pub unflagged_few : (flags n : ℕ) → AreFlags flags → unflagged (flags + 8 * n) ≡ 2 * n
unflagged_few flags n are = by_flags (λ f. unflagged (f + 8 * n) ≡ 2 * n) flags are
    (grind (arith, common_steps)) (grind (arith, common_steps)) (grind (arith, common_steps)) (grind (arith, common_steps))

-- the words of the others
pub unflagged_many : (flags n : ℕ) → AreFlags flags → unflagged (7 - flags + 8 * n) ≡ 2 * n + 1
unflagged_many flags n are = by_flags (λ f. unflagged (7 - f + 8 * n) ≡ 2 * n + 1) flags are
    (grind (arith, common_steps)) (grind (arith, common_steps)) (grind (arith, common_steps)) (grind (arith, common_steps))

few_seat : (flags seat stamp : ℕ) → AreFlags flags → seat < 16 → unflagged (seat_word flags seat stamp) ≡ 2 * (seat + 1 + 32 * stamp)
few_seat flags seat stamp are few =
    let e : flags + 8 * (seat + 1) + 256 * stamp ≡ flags + 8 * (seat + 1 + 32 * stamp) = omega arith in
    ap unflagged (few_word flags seat stamp few ∙ e) ∙ unflagged_few flags (seat + 1 + 32 * stamp) are

many_seat : (flags seat stamp : ℕ) → AreFlags flags → 16 ≤ seat → unflagged (seat_word flags seat stamp) ≡ 2 * (seat + 4096 * stamp) + 1
many_seat flags seat stamp are many =
    let e : 7 - flags + 8 * seat + 32768 * stamp ≡ 7 - flags + 8 * (seat + 4096 * stamp) = omega arith in
    ap unflagged (many_word flags seat stamp many ∙ e) ∙ unflagged_many flags (seat + 4096 * stamp) are

-- the flags of a seat's word make no difference
pub flags_apart : (flags seat stamp : ℕ) → AreFlags flags → unflagged (seat_word flags seat stamp) ≡ unflagged (seat_word 0 seat stamp)
flags_apart flags seat stamp are = dite (dec_le 16 seat)
    (λ many. many_seat flags seat stamp are many ∙ sym (many_seat 0 seat stamp (inl refl) many))
    (λ less. few_seat flags seat stamp are (omega arith) ∙ sym (few_seat 0 seat stamp (inl refl) (omega arith)))

-- two seats with one word but for the flags are one
record AreOne (s a t b : ℕ) : Type 0 where
  seat : s ≡ t
  stamp : a ≡ b

seats_one : (f s a g t b : ℕ) → AreFlags f → AreFlags g → Fits s a → Fits t b
    → unflagged (seat_word f s a) ≡ unflagged (seat_word g t b) → AreOne s a t b
seats_one f s a g t b ff gg fits fits' same =
    let s4 : s < 4096 = ⊎_elim (λ z. let x = z.0 in omega arith) (λ z. z.0) fits in
    let t4 : t < 4096 = ⊎_elim (λ z. let x = z.0 in omega arith) (λ z. z.0) fits' in
    dite (dec_le 16 s)
    (λ many. let x = many_seat f s a ff many in dite (dec_le 16 t)
    (λ many'. let y = many_seat g t b gg many' in record { seat = omega arith; stamp = omega arith })
    (λ few'. let y = few_seat g t b gg (omega arith) in absurd (omega arith)))
    (λ few. let x = few_seat f s a ff (omega arith) in dite (dec_le 16 t)
    (λ many'. let y = many_seat g t b gg many' in absurd (omega arith))
    (λ few'. let y = few_seat g t b gg (omega arith) in record { seat = omega arith; stamp = omega arith }))

-- a valid owner whose word is a seat's own but for the flags is that seat, with that stamp
pub unflagged_tells : (o : Owner) (seat stamp : ℕ) → IsValid o → Fits seat stamp
    → unflagged (packed o) ≡ unflagged (seat_word 0 seat stamp) → (o.seat ≡ Some seat) × (o.stamp ≡ stamp)
unflagged_tells o seat stamp v fits same = go o.seat refl
  where
    go : (s : Option ℕ) → o.seat ≡ s → (o.seat ≡ Some seat) × (o.stamp ≡ stamp)
    go None is = let x = subst (IsSeating o) is v.seating in let a = x.0 in
        let e : o.flags + 256 * o.stamp ≡ o.flags + 8 * 0 = omega arith in
        let w : unflagged (packed o) ≡ 0 = ap (λ s. unflagged (packed_as o s)) is ∙ ap unflagged e ∙ unflagged_few o.flags 0 v.flags in
        absurd (dite (dec_le 16 seat)
        (λ many. let y = many_seat 0 seat stamp (inl refl) many in omega arith)
        (λ less. let y = few_seat 0 seat stamp (inl refl) (omega arith) in omega arith))
    go (Some s) is = let x = subst (IsSeating o) is v.seating in
        let z = seats_one o.flags s o.stamp 0 seat stamp v.flags (inl refl) x fits (sym (ap (λ s. unflagged (packed_as o s)) is) ∙ same) in
        (is ∙ ap Some z.seat, z.stamp)

-- ... and only such an owner has it, whatever the flags of that word are
pub words_tell_holders : (o : Owner) (flags seat stamp : ℕ) → IsValid o → AreFlags flags → Fits seat stamp
    → (unflagged (packed o) ≡ unflagged (seat_word flags seat stamp)) ↔ ((o.seat ≡ Some seat) × (o.stamp ≡ stamp))
words_tell_holders o flags seat stamp v are fits = (tells, told)
  where
    apart : unflagged (seat_word flags seat stamp) ≡ unflagged (seat_word 0 seat stamp)
    apart = flags_apart flags seat stamp are

    tells : unflagged (packed o) ≡ unflagged (seat_word flags seat stamp) → (o.seat ≡ Some seat) × (o.stamp ≡ stamp)
    tells same = unflagged_tells o seat stamp v fits (same ∙ apart)

    told : (o.seat ≡ Some seat) × (o.stamp ≡ stamp) → unflagged (packed o) ≡ unflagged (seat_word flags seat stamp)
    told is = ap (λ s. unflagged (packed_as o s)) is.0
        ∙ flags_apart o.flags seat o.stamp v.flags
        ∙ ap (λ k. unflagged (seat_word 0 seat k)) is.1
        ∙ sym apart

-- ---- the words of owners that name one of 16 seats

-- an owner that is valid there is valid here, and has the same word
pub narrow_is_valid : (o : Owner) → narrow.IsValid o → IsValid o
narrow_is_valid o v = record { seating = go o.seat v.seating; flags = v.flags }
  where
    go : (s : Option ℕ) → narrow.IsSeating o s → IsSeating o s
    go None x = x
    go (Some s) x = inl (x, v.stamp)

pub narrow_is_packed : (o : Owner) → narrow.IsValid o → packed o ≡ narrow.packed o
narrow_is_packed o v = go o.seat v.seating
  where
    go : (s : Option ℕ) → narrow.IsSeating o s → packed_as o s ≡ o.flags + 8 * narrow.seat_number s + 256 * o.stamp
    go None x = omega arith
    go (Some s) x = few_word o.flags s o.stamp x

pub few_seats_keep_their_words : (o : Owner) → narrow.IsValid o → IsValid o × (packed o ≡ narrow.packed o)
few_seats_keep_their_words o v = (narrow_is_valid o v, narrow_is_packed o v)
