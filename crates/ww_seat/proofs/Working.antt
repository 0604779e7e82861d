-- What the steps of a seat inside a guard keep of its work there.
use Rattle.std.proofs.Common.{◌≡◌, ◌⊎◌, inl, inr, ⊎_elim, ℕ, zero, suc, ◌+◌, ◌==◌, Bool, true, false, true≢false, not, eqb, ne_eqb, List, refl, sym, ap, ◌∙◌, subst, arith, Option, Some}
use Rattle.ww_word.specs.declared.owner.Owner.{Owner}
use Rattle.ww_queue.specs.declared.kind.Kind.{Kind}
use Rattle.ww_queue.specs.declared.kind.Kind.TheVariants.{WoundWait, WaitDie}
use Rattle.ww_queue.specs.Queue.{Once, StandsNot, entry_of}
use Rattle.ww_view.specs.declared.view.View.{View}
use Rattle.ww_view.specs.May.{WantsSigns, HasPaid, MayLeave}
use Rattle.ww_view.specs.Made.{once_outside, exited, entry_of_view}
use Rattle.ww_invariant.specs.declared.cells.Cell.TheVariants.{Line}
use Rattle.ww_invariant.specs.declared.cells.Sight.{Sight}
use Rattle.ww_invariant.specs.Rule.{Sat}
use Rattle.ww_invariant.specs.Out.{AreOthers}
use Rattle.ww_invariant.specs.Steps.{knowing}
use Rattle.ww_invariant.specs.Guards.{AreSeats, exiting, looking, lost}
use Rattle.ww_invariant.specs.Waiting.{HasListOnTop, asking}
use Rattle.ww_table.specs.Inside.{HasOnlyTried}
use Rattle.ww_seat.specs.Orderly.{IsOrderly}
use Rattle.ww_seat.specs.Looks.{MayWant}
use Rattle.ww_seat.specs.Work.{AreWoken, StillHasToWake, AreMarked, HasToWake, HasBooked, deeds_of, HasCondemnedNone, touched, told, GoesOnAsBefore, IsTouched, IsTold, IsPlaced, IsWorking, IsAtWork, IsCleared, MayGo, HasNoted}
use Rattle.ww_seat.proofs.Holds.{holds_same, holds_by, holds_then}
use Rattle.ww_seat.proofs.Naps.{awake_by}
use Rattle.ww_seat.proofs.Outside.{orderly_knowing, orderly_brought}
use Rattle.ww_seat.proofs.Guards.{listed_by, exiting_orderly}

-- ---- whom it has to wake

-- it condemned nobody, by what its view is then
pub none_condemned : {m m' : Sat} {w : Sight} → m'.0 ≡ w → deeds_of w.part.core ≡ deeds_of m.0.part.core → w.part.core.naps ≡ m.0.part.core.naps
    → w.part.core.deaf ≡ m.0.part.core.deaf → HasCondemnedNone m m'
none_condemned view deeds naps deaf = record {
  deeds = ap (λ (z : Sight). deeds_of z.part.core) view ∙ deeds;
  awake = awake_by view (record { naps = naps; deaf = deaf });
}

pub none_touched : {size : ℕ} {m m' : Sat} → IsTouched size m m' → HasCondemnedNone m m'
none_touched t = none_condemned t.view refl refl refl

pub none_told : {size : ℕ} {m m' : Sat} → IsTold size m m' → HasCondemnedNone m m'
none_told t = none_condemned t.view refl refl refl

-- it has nobody to wake that isn't marked yet
pub marked_none : (v : View) (wakes : List ℕ) → AreWoken v wakes → AreMarked wakes (HasToWake v) wakes
marked_none v wakes woken u = (inl, ⊎_elim (λ was. was) (woken u))

-- marked by one after another
pub marked_then : (v v' : View) (was mid now : List ℕ) → ((u : ℕ) → HasToWake v u → HasToWake v' u) → AreMarked was (HasToWake v) mid
    → AreMarked mid (HasToWake v') now → AreMarked was (HasToWake v') now
marked_then v v' was mid now still first then u = (
  λ mark. ⊎_elim (λ before. ⊎_elim inl (λ has. inr (still u has)) ((first u).0 before)) inr ((then u).0 mark),
  λ one. ⊎_elim (λ before. (then u).1 (inl ((first u).1 (inl before)))) (λ has. (then u).1 (inr has)) one,
)

pub still_noted : {size : ℕ} {owed : List (ℕ × ℕ)} {m m' : Sat} → HasNoted size owed m m' → StillHasToWake m.0.part.core m'.0.part.core
still_noted h = record {
  still = λ u has. subst (λ (z : Sight). HasToWake z.part.core u) (sym h.view) (h.more u has.0, has.1);
  booked = λ before is. subst (λ (z : Sight). HasBooked before z.part.core) (sym h.view) (h.booked before is);
}

-- ---- its work goes on

-- what its work doesn't depend on
pub record Aside : Type 0 where
  pub seen : Option Owner
  pub signed : List ℕ
  pub condemned : List ℕ
  pub debts : List ℕ
  pub sign : Option ℕ
  pub fresh : Bool
  pub uncancelled : Bool
  pub attempts : ℕ

abbrev pub with_aside : View → Aside → View
with_aside v a = record v {
  seen = a.seen;
  signed = a.signed;
  condemned = a.condemned;
  debts = a.debts;
  sign = a.sign;
  fresh = a.fresh;
  uncancelled = a.uncancelled;
  attempts = a.attempts;
}

place_aside : (stands : Bool) (n : ℕ) (v : View) (a : Aside) → IsPlaced stands n v → IsPlaced stands n (with_aside v a)
place_aside true n v a p = p
place_aside false n v a p = p

working_by : {n : ℕ} {stands again : Bool} {v w : View} {a : Aside} → IsWorking n stands again v → w ≡ with_aside v a
    → WantsSigns (with_aside v a) → IsWorking n stands again w
working_by {n} {stands} {again} {v} {a} x view wants = subst (IsWorking n stands again) (sym view) (record {
  want = record { lacks = x.want.lacks; base = x.want.base; signs = wants };
  inside = x.inside;
  seats = x.seats;
  once = x.once;
  place = place_aside stands n v a x.place;
  later = x.later;
  behind = x.behind;
})

pub work_same : {size n : ℕ} {stands again : Bool} {m : Sat} → IsOrderly size m → IsWorking n stands again m.0.part.core
    → IsAtWork size n m stands again m
work_same {m} o w = record { orderly = o; working = w; holds = holds_same m }

pub work_then : {size n : ℕ} {before : Sat} {s1 s2 again : Bool} {m m' : Sat} → IsAtWork size n before s1 again m → IsAtWork size n m s2 again m'
    → IsAtWork size n before s2 again m'
work_then {before} {m} {m'} x y =
    record { orderly = y.orderly; working = y.working; holds = holds_then before m m' x.holds y.holds }

-- by what its view is then
pub work_by : {size n : ℕ} {before : Sat} {stands again : Bool} {m m' : Sat} {a : Aside} → IsAtWork size n before stands again m
    → IsOrderly size m' → m'.0 ≡ knowing m.0 (with_aside m.0.part.core a) → WantsSigns (with_aside m.0.part.core a)
    → IsAtWork size n before stands again m'
work_by {before} {m} {m'} x orderly view wants = record {
  orderly = orderly;
  working = working_by x.working (ap (λ (z : Sight). z.part.core) view) wants;
  holds = holds_then before m m' x.holds (holds_by m m' view refl);
}

pub work_touched : {size n : ℕ} {before : Sat} {stands again : Bool} {m m' : Sat} → IsAtWork size n before stands again m → IsTouched size m m'
    → IsAtWork size n before stands again m'
work_touched x t = work_by x t.orderly t.view x.working.want.signs

pub work_told : {size n : ℕ} {before : Sat} {stands again : Bool} {m m' : Sat} → IsAtWork size n before stands again m → IsTold size m m'
    → IsAtWork size n before stands again m'
work_told x t = work_by x t.orderly t.view (t.wants x.working.want.signs)

-- it found or made some signed
pub work_noted : {size n : ℕ} {before : Sat} {stands again : Bool} {owed : List (ℕ × ℕ)} {m m' : Sat} → IsAtWork size n before stands again m
    → HasNoted size owed m m' → IsAtWork size n before stands again m'
work_noted x h = work_by x h.orderly h.view x.working.want.signs

-- it may have looked at its cancel
pub work_goes_on : {size n : ℕ} {before : Sat} {again : Bool} {m m' : Sat} → IsAtWork size n before true again m → GoesOnAsBefore size m m'
    → IsAtWork size n before true again m'
work_goes_on x g = work_by x g.orderly g.view x.working.want.signs

-- it looked at the owner word: that counts
pub work_looked : {size n : ℕ} {stands again : Bool} {m m' : Sat} {o : Owner} → IsOrderly size m → IsWorking n stands again m.0.part.core
    → m' ≡ (looking m.0 o, m.1) → IsAtWork size n m stands again m'
work_looked was w is = work_by (work_same was w) (orderly_knowing was is refl refl) (ap (λ (z : Sat). z.0) is) w.want.signs

-- ---- single steps

-- by what its view is then
touched_by : {size : ℕ} {m m' : Sat} {seen : Option Owner} {signed : List ℕ} {fresh : Bool} → IsOrderly size m'
    → m'.0 ≡ knowing m.0 (touched m.0.part.core seen signed m.0.part.core.condemned fresh) → IsTouched size m m'
touched_by {seen} {signed} {fresh} orderly view = record { orderly = orderly; seen = seen; signed = signed; fresh = fresh; view = view }

-- nothing at all
pub touched_same : {size : ℕ} {m : Sat} → IsOrderly size m → IsTouched size m m
touched_same o = touched_by o refl

-- a step that was lost
pub touched_lost : {size : ℕ} {m m' : Sat} → IsOrderly size m → m' ≡ (lost m.0, m.1) → IsTouched size m m'
touched_lost was is = touched_by (orderly_knowing was is refl refl) (ap (λ (z : Sat). z.0) is)

-- ... with the list brought to the front before
pub touched_lost_on_top : {size n : ℕ} {m m' : Sat} → IsOrderly size m → m.0.part.core.inside ≡ suc n → HasOnlyTried m n m' → IsTouched size m m'
touched_lost_on_top was inside got = touched_by (listed_by was inside got refl) (ap (λ (z : Sat). z.0) got.2)

-- the list was read
pub touched_read : {size n : ℕ} {m m' : Sat} → IsOrderly size m → HasListOnTop m n m' → IsTouched size m m'
touched_read was top = touched_by (orderly_brought was top.apart top.now) (ap (λ (z : Sat). z.0) top.now)

-- another has been asked for the lock
pub touched_asking : {size : ℕ} {m m' : Sat} (o : Owner) → IsOrderly size m → m' ≡ (asking m.0 o, m.1) → IsTouched size m m'
touched_asking o was is = touched_by (orderly_knowing was is refl refl) (ap (λ (z : Sat). z.0) is)

pub touched_then : {size : ℕ} {a b c : Sat} → IsTouched size a b → IsTouched size b c → IsTouched size a c
touched_then x y = record {
  orderly = y.orderly;
  seen = y.seen;
  signed = y.signed;
  fresh = y.fresh;
  view = y.view ∙ ap (λ (z : Sight). knowing z (touched z.part.core y.seen y.signed z.part.core.condemned y.fresh)) x.view;
}

-- ---- out of the guard

pub cleared_same : (m : Sat) → (m.0.part.core.kind ≡ WaitDie → m.0.part.core.stamp ≡ 0) → IsCleared m m
cleared_same m none = record {
  sign = m.0.part.core.sign;
  fresh = m.0.part.core.fresh;
  now = refl;
  same = λ _. (refl, refl);
  unsigned = λ d. inl (none d);
}

paid_told : {v : View} (s : Option ℕ) (c : Bool) → HasPaid v → HasPaid (told v s c)
paid_told s c p = record { word = p.word; seen = p.seen; signed = p.signed; other = p.other; lives = p.lives }

pub may_leave : {n : ℕ} {m m1 : Sat} → IsCleared m m1 → MayGo n m.0.part.core → m.0.part.core.heeded ≡ 0 → MayLeave m1.0.part.core n
may_leave {n} c g unheeded = subst (λ (z : Sat). MayLeave z.0.part.core n) (sym c.now) (record {
  exit = record {
    inside = g.inside;
    why = ⊎_elim (λ z. inl z) (λ p. inr (paid_told c.sign c.fresh p)) g.why;
    unsigned = λ d. ⊎_elim (λ z. inl z) (λ z. inr (inl z)) (c.unsigned d);
    unheeded = unheeded;
  };
  acted = g.acted;
  again = g.again;
  looked = λ w at pos has. (c.same w).1 ∙ g.looked w at pos has;
})

outside_same : (kind : Kind) (s t : Option ℕ) → (kind ≡ WoundWait → s ≡ t) → once_outside kind s ≡ once_outside kind t
outside_same WoundWait s t same = same refl
outside_same WaitDie s t same = refl

pub left_view : {m m1 : Sat} (m2 : Sat) → IsCleared m m1 → m2.0 ≡ exiting m1.0 → m2.0 ≡ exiting m.0
left_view {m} m2 c is = is ∙ ap (λ (z : Sat). exiting z.0) c.now ∙ ap (λ (x : Option ℕ). knowing m.0 (record (exited m.0.part.core) { sign = x }))
    (outside_same m.0.part.core.kind c.sign m.0.part.core.sign (λ w. (c.same w).0))

pub cleared_orderly : {size : ℕ} {m m1 : Sat} → IsOrderly size m → IsCleared m m1 → IsOrderly size m1
cleared_orderly o c = orderly_knowing o c.now refl refl

pub cleared_inside : {n : ℕ} {m m1 : Sat} → IsCleared m m1 → m.0.part.core.inside ≡ suc n → m1.0.part.core.inside ≡ suc n
cleared_inside c inside = ap (λ (z : Sat). z.0.part.core.inside) c.now ∙ inside

pub left_orderly : {size n : ℕ} {m m1 m2 : Sat} → IsOrderly size m → IsCleared m m1 → m.0.part.core.inside ≡ suc n → m2.0 ≡ exiting m1.0
    → AreOthers m1.1 (64 + n) (Line m1.0.part.core.list) m2.1 → IsOrderly size m2
left_orderly o c inside view home = exiting_orderly (cleared_orderly o c) (cleared_inside c inside) view home

-- ---- just inside

-- just inside the guard: it did nothing there yet
pub record IsInside (size n : ℕ) (m : Sat) : Type 0 where
  pub orderly : IsOrderly size m
  pub want : MayWant n m.0.part.core
  pub inside : m.0.part.core.inside ≡ suc n
  pub place : (m.0.part.core.waits ≡ 0) ⊎ (m.0.part.core.waits ≡ suc n)
  pub seats : AreSeats m.0.part.core.seats m.0.part.core.list
  pub once : Once m.0.part.core.list
  pub absent : m.0.part.core.waits ≡ 0 → StandsNot m.0.part.core.list m.0.part.core.who
  pub entry : m.0.part.core.waits ≡ suc n → entry_of m.0.part.core.list m.0.part.core.who ≡ Some (entry_of_view m.0.part.core)
  pub later : m.0.part.core.later ≡ not (m.0.part.core.waits == 0)
  pub acted : m.0.part.core.acted ≡ not (m.0.part.core.waits == 0)

place_inside : {again : Bool} (n w : ℕ) → again ≡ not (eqb w 0) → (w ≡ 0) ⊎ (w ≡ suc n) → (again ≡ true → w ≡ suc n) × (again ≡ false → w ≡ 0)
place_inside n zero is at = (λ t. absurd (true≢false (sym t ∙ is)), λ _. refl)
place_inside n (suc w) is at = (
  λ _. ⊎_elim (λ z. absurd (omega arith)) (λ z. z) at,
  λ f. absurd (true≢false (sym (ap not (ne_eqb (suc w) 0 (λ e. absurd (omega arith)))) ∙ sym is ∙ f)),
)

placed : (again : Bool) (n : ℕ) (v : View) → (again ≡ true → IsPlaced true n v) → (again ≡ false → IsPlaced false n v) → IsPlaced again n v
placed true n v = λ yes no. yes refl
placed false n v = λ yes no. no refl

pub work_inside : {size n : ℕ} {again : Bool} {m : Sat} → IsInside size n m → again ≡ m.0.part.core.later → IsAtWork size n m again again m
work_inside {n} {again} {m} i is = let p = place_inside n m.0.part.core.waits (is ∙ i.later) i.place in
    work_same i.orderly (record {
      want = i.want;
      inside = i.inside;
      seats = i.seats;
      once = i.once;
      place = placed again n m.0.part.core (λ t. let w = p.0 t in (w, i.entry w, i.acted ∙ sym i.later ∙ sym is ∙ t))
          (λ f. let w = p.1 f in (w, i.absent w));
      later = sym is;
      behind = λ t. t;
    })
