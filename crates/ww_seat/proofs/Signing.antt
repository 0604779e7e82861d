-- Whom a seat inside a guard condemns, and whether it has to die.
use Rattle.std.proofs.Common.{◌≡◌, ◌≢◌, ◌⊎◌, inl, inr, ⊎_elim, ℕ, zero, suc, ◌+◌, ◌<◌, ◌≤◌, Bool, true, false, true≢false, List, [], ◌∷◌, ◌++◌, length, take, get_or, refl, sym, ap, ◌∙◌, subst, arith, Option, Some, None, IfSome, IfNone}
use Rattle.std.specs.Option.{option_and_then}
use Rattle.std.proofs.lemmas.List.{append-nil}
use Rattle.atomic_table.specs.Seated.{TableId}
use Rattle.ww_word.specs.declared.owner.Owner.{Owner}
use Rattle.ww_queue.specs.declared.entry.Entry.{Entry}
use Rattle.ww_queue.specs.declared.kind.Kind.{Kind}
use Rattle.ww_queue.specs.declared.kind.Kind.TheVariants.{WoundWait, WaitDie}
use Rattle.ww_queue.specs.Entry.{IsHolding}
use Rattle.ww_queue.specs.Queue.{Has, Once, entry_of}
use Rattle.ww_queue.specs.Rules.{must_die, death_of, owed_signs}
use Rattle.ww_queue.specs.AnySeats.{signs_past}
use Rattle.ww_queue.proofs.Deaths.{death_why, must_die_why, wound_wait_condemns}
use Rattle.ww_queue.proofs.Leaves.{entry_why}
use Rattle.ww_queue.proofs.Signs.{signed_why, wounded_why}
use Rattle.ww_model.proofs.Slots.{below_found, found_below}
use Rattle.ww_view.specs.declared.view.View.{View}
use Rattle.ww_view.specs.View.{owns, IsQuiet}
use Rattle.ww_view.specs.May.{MaySign, MayDie}
use Rattle.ww_view.specs.Made.{entry_of_view, has_read, with_condemned}
use Rattle.ww_invariant.specs.declared.cells.Sight.{Sight}
use Rattle.ww_invariant.specs.Rule.{Sat}
use Rattle.ww_invariant.specs.Steps.{knowing}
use Rattle.ww_invariant.specs.Signs.{condemning, noting, having_read, finding_none}
use Rattle.ww_invariant.specs.Waiting.{HasListOnTop}
use Rattle.ww_table.specs.declared.board.Board.{Board}
use Rattle.ww_table.specs.declared.seat.Stepper.{Stepper}
use Rattle.ww_table.specs.Seat.{IsSeated, IsSeatOf, view_of}
use Rattle.ww_table.specs.Inside.{HasReadDeath, HasReadDebts}
use Rattle.ww_seat.specs.Orderly.{IsOrderly}
use Rattle.ww_seat.specs.Work.{signing, debts_with, HasBooked, AreOwed, AreMarked, HasToWake, IsTold, IsWorking, SeesOther, HasNoted, MayStay, SeesSeats}
use Rattle.ww_seat.proofs.Outside.{orderly_knowing, owned_low}
use Rattle.ww_seat.proofs.Working.{touched_read}

-- ---- the signs that it owes

pub take_has : {A : Type 0} (xs : List A) (i : ℕ) (d y : A) → i < length xs → Has (take (suc i) xs) y
    → Has (take i xs) y ⊎ (y ≡ get_or xs i d)
take_has [] i d y low h = absurd (omega arith)
take_has (x ∷ xs) zero d y low h = ⊎_elim (λ e. inr e) (λ none. absurd none) h
take_has (x ∷ xs) (suc i) d y low h = ⊎_elim (λ e. inl (inl e))
    (λ later. ⊎_elim (λ z. inl (inr z)) (λ z. inr z) (take_has xs i d y (omega arith) later)) h

pub has_at : {A : Type 0} (xs : List A) (i : ℕ) (d : A) → i < length xs → Has xs (get_or xs i d)
has_at [] i d low = absurd (omega arith)
has_at (x ∷ xs) zero d low = inl refl
has_at (x ∷ xs) (suc i) d low = inr (has_at xs i d (omega arith))

-- whoever is owed a sign is one of the seats
victim_there : {v : View} {o : Owner} (kind : Kind) (u k : ℕ) → SeesSeats o v → Has (owed_signs kind o v.list v.who) (u, k) → u < v.seats
victim_there {v} {o} WoundWait u k sees has = sees.there u (wounded_why o v.list v.who u k has).owns
victim_there {v} {o} WaitDie u k sees has = let w = must_die_why WaitDie o v.list u 0 k (signed_why o v.list v.who u k has).1 in
    let small = (sees.seats w.0 w.1).0 in let same = w.2 in omega arith

pub may_sign : {size n : ℕ} {done : List (ℕ × ℕ)} (owed : List (ℕ × ℕ)) {m m1 : Sat} {u k : ℕ} → m.0.part.core.inside ≡ suc n
    → HasNoted size done m m1 → AreOwed m.0.part.core owed → Has owed (u, k) → MaySign m1.0.part.core n u k
may_sign {n} owed {u} {k} inside h are has = subst (λ (z : Sight). MaySign z.part.core n u k) (sym h.view)
    (record { inside = inside; owes = (are u k has).1 })

pub victim_low : {size : ℕ} {done : List (ℕ × ℕ)} (owed : List (ℕ × ℕ)) {m m1 : Sat} (u k : ℕ) → HasNoted size done m m1
    → AreOwed m.0.part.core owed → Has owed (u, k) → u < m1.0.part.core.seats
victim_low owed u k h are has = subst (λ (z : Sight). u < z.part.core.seats) (sym h.view) (are u k has).0

pub noted_none : {size : ℕ} (m : Sat) {m1 : Sat} → IsOrderly size m1 → m1.0 ≡ m.0 → HasNoted size [] m m1
noted_none m orderly same = record {
  orderly = orderly;
  signed = m.0.part.core.signed;
  condemned = m.0.part.core.condemned;
  debts = m.0.part.core.debts;
  fresh = m.0.part.core.fresh;
  view = same;
  all = λ u k none. absurd none;
  more = λ u has. has;
  kept = λ u has. has;
  booked = λ before is. is;
}

-- another seat was found or made signed, as the step told
abbrev noted_by : Bool → Sight → ℕ → Sight
noted_by true v u = condemning v u
noted_by false v u = noting v u

pub noted_more : {size : ℕ} {xs : List (ℕ × ℕ)} (ys : List (ℕ × ℕ)) {m m1 m2 : Sat} (won : Bool) (u : ℕ) → HasNoted size xs m m1
    → m2 ≡ (noted_by won m1.0 u, m1.1) → ((v k : ℕ) → Has ys (v, k) → Has xs (v, k) ⊎ (v ≡ u)) → HasNoted size ys m m2
noted_more ys {m} true u h is more = record {
  orderly = orderly_knowing h.orderly is refl refl;
  signed = u ∷ h.signed;
  condemned = u ∷ h.condemned;
  debts = with_condemned m.0.part.core.who h.condemned u h.debts;
  fresh = false;
  view = ap (λ (z : Sat). z.0) is ∙ ap (λ (z : Sight). condemning z u) h.view;
  all = λ v k has. ⊎_elim (λ old. inr (h.all v k old)) (λ e. inl e) (more v k has);
  more = λ v has. inr (h.more v has);
  kept = λ v has. inr (h.kept v has);
  booked = λ before is. ap (with_condemned m.0.part.core.who h.condemned u) (h.booked before is);
}
noted_more ys false u h is more = record {
  orderly = orderly_knowing h.orderly is refl refl;
  signed = u ∷ h.signed;
  condemned = h.condemned;
  debts = h.debts;
  fresh = false;
  view = ap (λ (z : Sat). z.0) is ∙ ap (λ (z : Sight). noting z u) h.view;
  all = λ v k has. ⊎_elim (λ old. inr (h.all v k old)) (λ e. inl e) (more v k has);
  more = h.more;
  kept = λ v has. inr (h.kept v has);
  booked = h.booked;
}

pub noted_is : (won : Bool) (m1 m2 : Sat) (u : ℕ) → (won ≡ true → m2 ≡ (condemning m1.0 u, m1.1))
    → (won ≡ false → m2 ≡ (noting m1.0 u, m1.1)) → m2 ≡ (noted_by won m1.0 u, m1.1)
noted_is true m1 m2 u on off = on refl
noted_is false m1 m2 u on off = off refl

-- those condemned before are marked still, and another where the step condemned it
pub marked_noted : (m1 : Sat) {m2 : Sat} (was mid now : List ℕ) (won : Bool) {who : ℕ} (u : ℕ) → who ≡ m1.0.part.core.who
    → m2 ≡ (noted_by won m1.0 u, m1.1) → AreMarked was (HasToWake m1.0.part.core) mid → AreMarked mid (λ t. (won ≡ true) × (u ≢ who) × (t ≡ u)) now
    → AreMarked was (HasToWake m2.0.part.core) now
marked_noted m1 was mid now won {who} u own is marked added =
    subst (λ (z : Sat). AreMarked was (HasToWake z.0.part.core) now) (sym is) (go won added)
  where
    go : (b : Bool) → AreMarked mid (λ t. (b ≡ true) × (u ≢ who) × (t ≡ u)) now → AreMarked was (HasToWake (noted_by b m1.0 u).part.core) now
    go true adds t = (
      λ marks. ⊎_elim (λ old. ⊎_elim inl (λ has. inr (inr has.0, has.1)) ((marked t).0 old))
          (λ new. inr (inl new.2, λ e. new.1 (sym new.2 ∙ e ∙ sym own))) ((adds t).0 marks),
      λ marks. (adds t).1 (⊎_elim (λ before. inl ((marked t).1 (inl before))) (λ has. ⊎_elim (λ e. inr (refl, (λ z. has.1 (e ∙ z ∙ own)), e))
          (λ old. inl ((marked t).1 (inr (old, has.1)))) has.0) marks),
    )
    go false adds t = (
      λ marks. ⊎_elim (λ old. (marked t).0 old) (λ new. absurd (true≢false (sym new.0))) ((adds t).0 marks),
      λ marks. (adds t).1 (inl ((marked t).1 marks)),
    )

-- ---- whether it has to die

death_is : (kind : Kind) (o : Owner) (q : List Entry) (me s : ℕ) {e : Entry} → entry_of q me ≡ Some e
    → must_die kind o q me s ≡ death_of kind o q s e
death_is kind o q me s is = ap (option_and_then (death_of kind o q s)) is

pub dying_holds : (v : View) (o : Owner) (s : ℕ) {k : ℕ} → entry_of v.list v.who ≡ Some (entry_of_view v)
    → must_die v.kind o v.list v.who s ≡ Some k → IsHolding (entry_of_view v)
dying_holds v o s {k} entry is = (death_why v.kind o v.list s (entry_of_view v) k (sym (death_is v.kind o v.list v.who s entry) ∙ is)).0

pub owns_one : (v : View) → IsHolding (entry_of_view v) → (j : ℕ) × (owns v j ≡ true)
owns_one v h = let f = below_found (length v.owned) (owns v) h.1 in (f.0, f.2)

pub owner_holds : (v : View) → 0 < v.stamp → (j : ℕ) → owns v j ≡ true → IsHolding (entry_of_view v)
owner_holds v pos j own = (pos, found_below (length v.owned) (owns v) j (owned_low v.owned j own) own)

pub wounded_dies : (kind : Kind) (o : Owner) (v : View) (k : ℕ) → kind ≡ WoundWait → Once v.list
    → entry_of v.list v.who ≡ Some (entry_of_view v) → IsHolding (entry_of_view v) → 0 < k
    → must_die kind o v.list v.who k ≡ Some k
wounded_dies WoundWait o v k is once entry holding pos =
    (wound_wait_condemns o v.list (entry_of_view v) k k once (entry_why v.list v.who (entry_of_view v) entry).0).1
    (holding, pos, refl)
wounded_dies WaitDie o v k is once entry holding pos = absurd cc

pub if_some : (o : Option ℕ) (P : ℕ → Type 0) → ((k : ℕ) → o ≡ Some k → P k) → IfSome o P
if_some None P each = tt
if_some (Some k) P each = each k refl

pub if_none : {A : Type 0} (o : Option A) (P : Type 0) → (o ≡ None → P) → IfNone o P
if_none None P it = it refl
if_none (Some k) P it = tt

some_none : {A : Type 0} {o : Option A} {x : A} → o ≡ Some x → o ≡ None → ⊥
some_none a b = cc

-- what the seat reads of its death is what its view tells
pub death_told : {b : Board} {s s' : Stepper} {n sign : ℕ} {o : Owner} {met r : Option ℕ} → IsSeatOf b s → HasReadDeath b s n o sign met s'
    → met ≡ r → must_die (view_of s).kind o (view_of s).list (view_of s).who sign ≡ r
death_told {s} {sign} {o} seat read is = (λ i. must_die (sym seat.kind i) o (view_of s).list (seat.who i) sign) ∙ sym read.death ∙ is

-- in Wait-Die it has to die, or doesn't, by the list alone
pub told_read : {size n : ℕ} {m m1 : Sat} → IsOrderly size m → HasListOnTop m n m1 → IsTold size m m1
told_read {m} o top = let t = touched_read o top in
    record {
      orderly = t.orderly;
      sign = m.0.part.core.sign;
      fresh = m.0.part.core.fresh;
      wants = λ w. w;
      view = ap (λ (z : Sat). z.0) top.now;
    }

pub dies_waiting : {n : ℕ} {l : Bool} {m m1 : Sat} {o : Owner} {k : ℕ} → IsWorking n true l m.0.part.core → SeesOther o m.0.part.core
    → HasListOnTop m n m1 → m.0.part.core.kind ≡ WaitDie → must_die m.0.part.core.kind o m.0.part.core.list m.0.part.core.who 0 ≡ Some k
    → m.0.part.core.heeded ≡ 0 → MayDie m1.0.part.core n o k
dies_waiting {n} {o} {k} w sees top is dies unheeded = subst (λ (z : Sat). MayDie z.0.part.core n o k) (sym top.now)
    (record { inside = w.inside; waits = w.place.0; other = sees.other; why = (0, inl is, dies); unheeded = unheeded })

pub stays_waiting : {n : ℕ} {m m1 : Sat} {o : Owner} → HasListOnTop m n m1 → m.0.part.core.kind ≡ WaitDie
    → must_die m.0.part.core.kind o m.0.part.core.list m.0.part.core.who 0 ≡ None → MayStay o m1.0.part.core
stays_waiting {o} top is lives = subst (λ (z : Sat). MayStay o z.0.part.core) (sym top.now)
    (record { looked = λ wound. absurd (let e : WaitDie ≡ WoundWait = sym is ∙ wound in cc); lives = λ _. lives })

-- in Wound-Wait a sign would make it die, or wouldn't
pub stays_unsigned : {n : ℕ} {l : Bool} {m m1 : Sat} {o : Owner} → IsWorking n true l m.0.part.core → HasListOnTop m n m1
    → m.0.part.core.kind ≡ WoundWait → must_die m.0.part.core.kind o m.0.part.core.list m.0.part.core.who 1 ≡ None → MayStay o m1.0.part.core
stays_unsigned {m} {o} w top is lives = subst (λ (z : Sat). MayStay o z.0.part.core) (sym top.now) (record {
  looked = λ _ pos has. absurd (some_none (wounded_dies m.0.part.core.kind o m.0.part.core 1 is w.once w.place.1
      (owner_holds m.0.part.core pos has.0 has.1) (omega arith)) lives);
  lives = λ d. absurd (let e : WoundWait ≡ WaitDie = sym is ∙ d in cc);
})

-- it holds locks in Wound-Wait, so others may sign it
pub not_quiet : (v : View) → v.kind ≡ WoundWait → (j : ℕ) × (owns v j ≡ true) → ¬ IsQuiet v
not_quiet v kind has quiet = ⊎_elim (λ bare. true≢false (sym has.1 ∙ bare has.0))
    (λ d. absurd (let e : WoundWait ≡ WaitDie = sym kind ∙ d.0 in cc)) quiet

-- it found no sign
pub told_none : {size n : ℕ} {m m1 m2 : Sat} → IsOrderly size m → HasListOnTop m n m1 → IsHolding (entry_of_view m.0.part.core)
    → m2 ≡ (finding_none m1.0, m1.1) → IsTold size m m2
told_none {m} o top holding is = record {
  orderly = orderly_knowing (touched_read o top).orderly is refl refl;
  sign = None;
  fresh = true;
  wants = λ _. inr (inr (inl (owns_one m.0.part.core holding)));
  view = ap (λ (z : Sat). z.0) is ∙ ap (λ (z : Sat). finding_none z.0) top.now;
}

pub stays_none : {n : ℕ} {m m1 m2 : Sat} {o : Owner} → HasListOnTop m n m1 → m.0.part.core.kind ≡ WoundWait → m2 ≡ (finding_none m1.0, m1.1)
    → MayStay o m2.0.part.core
stays_none {o} top kind is = subst (λ (z : Sight). MayStay o z.part.core)
    (sym (ap (λ (z : Sat). z.0) is ∙ ap (λ (z : Sat). finding_none z.0) top.now)) (record {
      looked = λ _ _ _. refl;
      lives = λ d. absurd (let e : WoundWait ≡ WaitDie = sym kind ∙ d in cc);
    })

-- it found a sign
pub told_signed : {size n : ℕ} (k : ℕ) {m m1 m2 : Sat} → IsOrderly size m → HasListOnTop m n m1 → IsHolding (entry_of_view m.0.part.core)
    → m2 ≡ (having_read m1.0 k, m1.1) → IsTold size m m2
told_signed k {m} o top holding is = record {
  orderly = orderly_knowing (touched_read o top).orderly is refl refl;
  sign = Some k;
  fresh = (has_read m.0.part.core k).fresh;
  wants = λ _. inr (inr (inl (owns_one m.0.part.core holding)));
  view = ap (λ (z : Sat). z.0) is ∙ ap (λ (z : Sat). having_read z.0 k) top.now;
}

pub dies_signed : {n k : ℕ} {l : Bool} {m m1 m2 : Sat} {o : Owner} → IsWorking n true l m.0.part.core → SeesOther o m.0.part.core
    → HasListOnTop m n m1 → m.0.part.core.kind ≡ WoundWait → IsHolding (entry_of_view m.0.part.core) → k ≢ 0 → m2 ≡ (having_read m1.0 k, m1.1)
    → m.0.part.core.heeded ≡ 0 → MayDie m2.0.part.core n o k
dies_signed {n} {k} {m} {o} w sees top kind holding isnt is unheeded = subst (λ (z : Sight). MayDie z.part.core n o k)
    (sym (ap (λ (z : Sat). z.0) is ∙ ap (λ (z : Sat). having_read z.0 k) top.now)) (record {
      inside = w.inside;
      waits = w.place.0;
      other = sees.other;
      why = (k, inr refl, wounded_dies m.0.part.core.kind o m.0.part.core k kind w.once w.place.1 holding (omega arith));
      unheeded = unheeded;
    })

pub still_loud : {n : ℕ} {m m1 : Sat} → HasListOnTop m n m1 → m.0.part.core.kind ≡ WoundWait → (j : ℕ) × (owns m.0.part.core j ≡ true)
    → ¬ IsQuiet m1.0.part.core
still_loud {m} top kind has = subst (λ (z : Sat). ¬ IsQuiet z.0.part.core) (sym top.now) (not_quiet m.0.part.core kind has)

-- ---- the signs, one after another

take_more : {A : Type 0} (xs : List A) (i : ℕ) (d y : A) → i < length xs → Has (take (i + 1) xs) y → Has (take i xs) y ⊎ (y ≡ get_or xs i d)
take_more xs i d y low h = let e : i + 1 ≡ suc i = omega arith in take_has xs i d y low (subst (λ (j : ℕ). Has (take j xs) y) e h)

pub noted_step : {size : ℕ} (i : ℕ) (items : List (ℕ × ℕ)) {m m1 m2 : Sat} (won : Bool) → i < length items → HasNoted size (take i items) m m1
    → m2 ≡ (noted_by won m1.0 (get_or items i (0, 0)).0, m1.1) → HasNoted size (take (i + 1) items) m m2
noted_step i items won low h is = noted_more (take (i + 1) items) won (get_or items i (0, 0)).0 h is
    (λ v k has. ⊎_elim (λ old. inl old) (λ e. inr (ap (λ (p : ℕ × ℕ). p.0) e)) (take_more items i (0, 0) (v, k) low has))

has_taken : {A : Type 0} (xs : List A) (i : ℕ) (y : A) → length xs ≤ i → Has xs y → Has (take i xs) y
has_taken [] i y all h = absurd h
has_taken (x ∷ xs) zero y all h = absurd (omega arith)
has_taken (x ∷ xs) (suc i) y all h = ⊎_elim (λ e. inl e) (λ z. inr (has_taken xs i y (omega arith) z)) h

pub noted_all : {size : ℕ} (i : ℕ) (items : List (ℕ × ℕ)) {m m1 : Sat} → length items ≤ i → HasNoted size (take i items) m m1
    → HasNoted size items m m1
noted_all i items all h = record {
  orderly = h.orderly;
  signed = h.signed;
  condemned = h.condemned;
  debts = h.debts;
  fresh = h.fresh;
  view = h.view;
  all = λ u k has. h.all u k (has_taken items i (u, k) all has);
  more = h.more;
  kept = h.kept;
  booked = h.booked;
}

pub owed_at : (items : List (ℕ × ℕ)) (i : ℕ) → i < length items → Has items ((get_or items i (0, 0)).0, (get_or items i (0, 0)).1)
owed_at items i low = has_at items i (0, 0) low

-- ---- some after others

has_both : {A : Type 0} (xs ys : List A) (y : A) → Has (xs ++ ys) y → Has xs y ⊎ Has ys y
has_both [] ys y h = inr h
has_both (x ∷ xs) ys y h = ⊎_elim (λ e. inl (inl e)) (λ more. ⊎_elim (λ z. inl (inr z)) inr (has_both xs ys y more)) h

pub noted_then : {size : ℕ} {done owed : List (ℕ × ℕ)} {m m1 m2 m3 : Sat} → HasNoted size done m m1 → m2.0 ≡ m1.0 → HasNoted size owed m2 m3
    → HasNoted size (done ++ owed) m m3
noted_then {done} {owed} {m} {m2} h same g = let is : m2.0 ≡ knowing m.0 (signing m.0.part.core h.signed h.condemned h.debts h.fresh) = same ∙ h.view in record {
  orderly = g.orderly;
  signed = g.signed;
  condemned = g.condemned;
  debts = g.debts;
  fresh = g.fresh;
  view = g.view ∙ ap (λ (z : Sight). knowing z (signing z.part.core g.signed g.condemned g.debts g.fresh)) is;
  all = λ u k has. ⊎_elim (λ old. g.kept u (subst (λ (z : Sight). Has z.part.core.signed u) (sym is) (h.all u k old)))
      (λ new. g.all u k new) (has_both done owed (u, k) has);
  more = λ u has. g.more u (subst (λ (z : Sight). Has z.part.core.condemned u) (sym is) (h.more u has));
  kept = λ u has. g.kept u (subst (λ (z : Sight). Has z.part.core.signed u) (sym is) (h.kept u has));
  booked = λ before was. g.booked before (subst (λ (z : Sight). HasBooked before z.part.core) (sym is) (h.booked before was))
      ∙ ap (λ (z : Sight). debts_with z.part.core.who g.condemned before) is;
}

-- the seat owes what it owed, once it noted some
pub still_owed : {size : ℕ} {done : List (ℕ × ℕ)} {m m1 : Sat} (m2 : Sat) (owed : List (ℕ × ℕ)) → HasNoted size done m m1 → m2.0 ≡ m1.0
    → AreOwed m.0.part.core owed → AreOwed m2.0.part.core owed
still_owed m2 owed h same are = subst (λ (z : Sight). AreOwed z.part.core owed) (sym (same ∙ h.view)) are

has_front : {A : Type 0} (xs ys : List A) (y : A) → Has xs y → Has (xs ++ ys) y
has_front [] ys y h = absurd h
has_front (x ∷ xs) ys y h = ⊎_elim inl (λ more. inr (has_front xs ys y more)) h

has_back : {A : Type 0} (xs ys : List A) (y : A) → Has ys y → Has (xs ++ ys) y
has_back [] ys y h = h
has_back (x ∷ xs) ys y h = inr (has_back xs ys y h)

-- the next of the signs that are owed are owed
pub part_owed : {v : View} {o : Owner} (done owed rest : List (ℕ × ℕ)) → SeesSeats o v → done ++ (owed ++ rest) ≡ owed_signs v.kind o v.list v.who
    → AreOwed v owed
part_owed {v} {o} done owed rest sees whole = λ u k has.
    let all : Has (owed_signs v.kind o v.list v.who) (u, k) = subst (λ (l : List (ℕ × ℕ)). Has l (u, k)) whole
    (has_back done (owed ++ rest) (u, k) (has_front owed rest (u, k) has)) in
    (victim_there v.kind u k sees all, (o, sees.seen, all))

-- the signs that are left
abbrev pub left_of : View → Owner → Option ℕ → List (ℕ × ℕ)
left_of v o None = []
left_of v o (Some n) = signs_past v.kind o v.list v.who n

-- one walk's signs, and those that are left
walked_is : {b : Board} {s s' : Stepper} {n from : ℕ} {o : Owner} {owed : List (ℕ × ℕ)} {more : Option ℕ} (v : View)
    → HasReadDebts b s n o from owed more s' → signs_past s.kind o (view_of s).list s.who ≡ signs_past v.kind o v.list v.who
    → owed ++ left_of v o more ≡ left_of v o (Some from)
walked_is {s} {from} {o} {owed} {more} v read told = go more read.all read.some
  where
    go : (x : Option ℕ) → IfNone x (owed ≡ signs_past s.kind o (view_of s).list s.who from)
        → IfSome x (λ next. owed ++ signs_past s.kind o (view_of s).list s.who next ≡ signs_past s.kind o (view_of s).list s.who from)
        → owed ++ left_of v o x ≡ left_of v o (Some from)
    go None all some = append-nil owed ∙ all ∙ ap (λ (f : ℕ → List (ℕ × ℕ)). f from) told
    go (Some next) all some = ap (λ (f : ℕ → List (ℕ × ℕ)). owed ++ f next) (sym told) ∙ some ∙ ap (λ (f : ℕ → List (ℕ × ℕ)). f from) told

-- what the seat reads of its signs is what its view told as it began
signs_told : {size : ℕ} {t : TableId} {done : List (ℕ × ℕ)} {m : Sat} {s : Stepper} (o : Owner) → HasNoted size done m s.seat.me → IsSeated t s
    → signs_past s.kind o (view_of s).list s.who ≡ signs_past m.0.part.core.kind o m.0.part.core.list m.0.part.core.who
signs_told o h seat = let v = ap (λ (z : Sight). z.part.core) h.view in
    λ i. signs_past ((seat.kind ∙ ap (λ (z : View). z.kind) v) i) o (ap (λ (z : View). z.list) v i) ((sym seat.who ∙ ap (λ (z : View). z.who) v) i)

-- the signs that were set, those of one walk more, and those that are left
pub walked_whole : {size : ℕ} {b : Board} {n from : ℕ} {done owed all : List (ℕ × ℕ)} {m : Sat} {s s' : Stepper} {o : Owner} {next more : Option ℕ}
    → HasNoted size done m s.seat.me → IsSeatOf b s → HasReadDebts b s n o from owed more s' → next ≡ Some from
    → done ++ left_of m.0.part.core o next ≡ all → done ++ (owed ++ left_of m.0.part.core o more) ≡ all
walked_whole {done} {m} {o} h seat read is whole =
    ap (λ (l : List (ℕ × ℕ)). done ++ l) (walked_is m.0.part.core read (signs_told o h seat) ∙ ap (left_of m.0.part.core o) (sym is)) ∙ whole
