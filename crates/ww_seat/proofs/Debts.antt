-- How often a seat has to be woken, and that its bell rang as often.
use Rattle.std.proofs.Common.{◌≡◌, ℕ, ◌+◌, ◌<◌, Bool, true, false, true≢false, cond, eqb, List, [], ◌∷◌, length, Some, inl, inr, ⊎_elim, refl, sym, ap, ◌∙◌, arith}
use Rattle.std.specs.Option.{option_map}
use Rattle.ww_queue.specs.Queue.{Has}
use Rattle.ww_plain.proofs.Members.{true_or_false, same_from_eqb, eqb_same}
use Rattle.ww_view.specs.declared.view.View.{View}
use Rattle.ww_view.specs.Made.{is_one_of, with_condemned}
use Rattle.ww_invariant.specs.Rule.{Sat, times}
use Rattle.ww_model.specs.State.{one_if}
use Rattle.ww_seat.specs.declared.bell.Bell.{Bell}
use Rattle.ww_seat.specs.Marks.{is_marked}
use Rattle.ww_seat.specs.Bells.{rung_at, one_more, ArePaid, AreRung}
use Rattle.ww_seat.specs.Work.{HasToWake, AreWoken, AreOnlyWoken, HasBooked, debts_with}
use Rattle.ww_seat.proofs.Without.{another}

-- ---- how often a seat stands in the debts

-- by whether it has to be woken for these that were condemned
abbrev pub wakes : ℕ → ℕ → List ℕ → Bool
wakes who x condemned = cond (eqb x who) false (is_one_of x condemned)

-- one more that was condemned, seat u: it is the own one, or x, or was condemned before
one_step : (own self this was before : Bool) {t : ℕ} (k : ℕ) → (this ≡ true → own ≡ self) → (this ≡ true → was ≡ before)
    → t ≡ one_more (cond self false before) k → cond own t (cond was t (one_more this t)) ≡ one_more (cond self false (cond this true before)) k
one_step true self false was before k a b e = e
one_step false self false true before k a b e = e
one_step false self false false before k a b e = e
one_step true true true was before k a b e = e
one_step true false true was before k a b e = absurd (true≢false (a refl))
one_step false true true was before k a b e = absurd (true≢false (sym (a refl)))
one_step false false true true true k a b e = e
one_step false false true true false k a b e = absurd (true≢false (b refl))
one_step false false true false true k a b e = absurd (true≢false (sym (b refl)))
one_step false false true false false k a b e = ap (one_more true) e

-- the seat v, and those that stand behind it
pub times_more : (u v : ℕ) (vs : List ℕ) → times u (v ∷ vs) ≡ one_more (eqb v u) (times u vs)
times_more u v vs = by_bool (eqb v u)
  where
    by_bool : (b : Bool) → one_if b + times u vs ≡ one_more b (times u vs)
    by_bool true = omega arith
    by_bool false = omega arith

times_cond : (b : Bool) (x : ℕ) (us vs : List ℕ) → times x (cond b us vs) ≡ cond b (times x us) (times x vs)
times_cond true x us vs = refl
times_cond false x us vs = refl

times_with : (who x u : ℕ) (condemned debts : List ℕ) → times x (with_condemned who condemned u debts)
    ≡ cond (eqb u who) (times x debts) (cond (is_one_of u condemned) (times x debts) (one_more (eqb u x) (times x debts)))
times_with who x u condemned debts = times_cond (eqb u who) x debts (cond (is_one_of u condemned) debts (u ∷ debts))
    ∙ ap (cond (eqb u who) (times x debts)) (times_cond (is_one_of u condemned) x debts (u ∷ debts)
    ∙ ap (cond (is_one_of u condemned) (times x debts)) (times_more x u debts))

pub times_booked : (who x : ℕ) (condemned debts : List ℕ)
    → times x (debts_with who condemned debts) ≡ one_more (wakes who x condemned) (times x debts)
times_booked who x [] debts = none (eqb x who)
  where
    none : (b : Bool) → times x debts ≡ one_more (cond b false false) (times x debts)
    none true = refl
    none false = refl
times_booked who x (u ∷ us) debts = times_with who x u us (debts_with who us debts)
    ∙ one_step (eqb u who) (eqb x who) (eqb u x) (is_one_of u us) (is_one_of x us)
    (times x debts) (λ this. ap (λ (v : ℕ). eqb v who) (same_from_eqb u x this))
    (λ this. ap (λ (v : ℕ). is_one_of v us) (same_from_eqb u x this)) (times_booked who x us debts)

-- ---- whether a seat has to be woken

one_has : (x : ℕ) (us : List ℕ) → is_one_of x us ≡ true → Has us x
one_has x [] is = true≢false (sym is)
one_has x (u ∷ us) is = elim (true_or_false (eqb u x)) [
  | inl this ↦ inl (sym (same_from_eqb u x this))
  | inr other ↦ inr (one_has x us (sym (ap (λ (b : Bool). cond b true (is_one_of x us)) other) ∙ is))
]

has_one : (x : ℕ) (us : List ℕ) → Has us x → is_one_of x us ≡ true
has_one x [] has = absurd has
has_one x (u ∷ us) has = elim (true_or_false (eqb u x)) [
  | inl this ↦ ap (λ (b : Bool). cond b true (is_one_of x us)) this
  | inr other ↦ ap (λ (b : Bool). cond b true (is_one_of x us)) other
      ∙ ⊎_elim (λ e. absurd (another u x other e)) (λ later. has_one x us later) has
]

same_bool : (a b : Bool) → (a ≡ true → b ≡ true) → (b ≡ true → a ≡ true) → a ≡ b
same_bool true true to from = refl
same_bool true false to from = sym (to refl)
same_bool false true to from = from refl
same_bool false false to from = refl

pub has_wakes : (v : View) (x : ℕ) → HasToWake v x → wakes v.who x v.condemned ≡ true
has_wakes v x has = elim (true_or_false (eqb x v.who)) [
  | inl own ↦ absurd (has.1 (same_from_eqb x v.who own))
  | inr other ↦ ap (λ (b : Bool). cond b false (is_one_of x v.condemned)) other ∙ has_one x v.condemned has.0
]

pub wakes_has : (v : View) (x : ℕ) → wakes v.who x v.condemned ≡ true → HasToWake v x
wakes_has v x is = elim (true_or_false (eqb x v.who)) [
  | inl own ↦ absurd (true≢false (sym is ∙ ap (λ (b : Bool). cond b false (is_one_of x v.condemned)) own))
  | inr other ↦ (
    one_has x v.condemned (sym (ap (λ (b : Bool). cond b false (is_one_of x v.condemned)) other) ∙ is),
    λ e. true≢false (sym (ap (λ (w : ℕ). eqb w v.who) e ∙ eqb_same v.who) ∙ other),
  )
]

mark_is : (v : View) (marks : List ℕ) (x : ℕ) → AreWoken v marks → AreOnlyWoken v marks
    → is_marked marks x ≡ wakes v.who x v.condemned
mark_is v marks x woken only = same_bool (is_marked marks x) (wakes v.who x v.condemned)
    (λ mark. has_wakes v x (only x mark)) (λ is. woken x (wakes_has v x is))

-- ---- tokens

pub more_owed : (b : Bool) (c t : ℕ) → one_more b (c + t) ≡ c + one_more b t
more_owed true c t = omega arith
more_owed false c t = refl

pub more_cancelled : (b : Bool) (c t : ℕ) → one_more b (c + t) ≡ one_more b c + t
more_cancelled true c t = omega arith
more_cancelled false c t = refl

-- it woke whom it condemned in a look
pub paid_look : (m m' : Sat) (marks : List ℕ) (bells bells' : List Bell)
    → m'.0.part.counts.cancelled ≡ m.0.part.counts.cancelled → HasBooked m.0.part.core.debts m'.0.part.core
    → AreWoken m'.0.part.core marks → AreOnlyWoken m'.0.part.core marks → AreRung marks bells bells'
    → length bells' ≡ length bells → ArePaid m bells → ArePaid m' bells'
paid_look m m' marks bells bells' cancels booked woken only rang count paid u low =
    let v : View = m'.0.part.core in
    let lt : u < length bells = omega (arith, low, count) in
    let b : Bool = wakes v.who u v.condemned in
    rang u lt ∙ ap (λ (x : Bool). option_map (one_more x) (rung_at bells u)) (mark_is v marks u woken only)
    ∙ ap (option_map (one_more b)) (paid u lt)
    ∙ ap Some (more_owed b (times u m.0.part.counts.cancelled) (times u m.0.part.core.debts)
    ∙ ap (λ (t : ℕ). times u m.0.part.counts.cancelled + t) (sym (times_booked v.who u v.condemned m.0.part.core.debts)
    ∙ sym (ap (times u) booked))
    ∙ ap (λ (l : List ℕ). times u l + times u v.debts) (sym cancels))

-- nothing is owed that wasn't owed before
pub paid_still : (m m' : Sat) (bells : List Bell) → m'.0.part.counts.cancelled ≡ m.0.part.counts.cancelled
    → m'.0.part.core.debts ≡ m.0.part.core.debts → ArePaid m bells → ArePaid m' bells
paid_still m m' bells cancels debts paid u low = paid u low
    ∙ ap (λ (l : List ℕ). Some (times u l + times u m.0.part.core.debts)) (sym cancels)
    ∙ ap (λ (l : List ℕ). Some (times u m'.0.part.counts.cancelled + times u l)) (sym debts)
