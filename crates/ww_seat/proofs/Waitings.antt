-- A seat waits for a lock.
use Rattle.std.proofs.Common.{◌≡◌, ℕ, zero, suc, ◌==◌, not, refl, sym, ap, subst, ⊎_elim, inl, inr, Option, Some}
use Rattle.ww_queue.specs.declared.kind.Kind.{Kind}
use Rattle.ww_queue.specs.declared.kind.Kind.TheVariants.{WoundWait, WaitDie}
use Rattle.ww_view.specs.May.{MayEnter}
use Rattle.ww_view.specs.Made.{once_inside}
use Rattle.ww_invariant.specs.declared.cells.Sight.{Sight}
use Rattle.ww_invariant.specs.Rule.{Sat}
use Rattle.ww_seat.specs.Orderly.{IsOrderly}
use Rattle.ww_seat.specs.Looks.{IsOutside}
use Rattle.ww_seat.proofs.Guards.{HasEntered}
use Rattle.ww_seat.proofs.Working.{IsInside}

-- ---- into the guard

pub wanter_enters : {size n : ℕ} {m : Sat} → IsOutside size n m → MayEnter m.0.part.core n
wanter_enters o = record {
  outside = o.outside;
  why = ⊎_elim (λ e. inr (inr (e, o.want.lacks, o.want.base, o.want.signs))) (λ e. inr (inl e)) o.place;
}

still_unsigned : (kind : Kind) (waits : ℕ) {sign : Option ℕ} → sign ≡ Some 0 → once_inside kind waits sign ≡ Some 0
still_unsigned WaitDie zero e = refl
still_unsigned WaitDie (suc n) e = e
still_unsigned WoundWait waits e = e

pub entered_inside : {size n : ℕ} {m m' : Sat} → IsOutside size n m → HasEntered m n m' → IsOrderly size m' → IsInside size n m'
entered_inside {size} {n} {m} {m'} out e o = subst (λ (w : Sight). IsOrderly size (w, m'.1) → IsInside size n (w, m'.1))
    (sym e.view) (λ o'. record {
      orderly = o';
      want = record {
        lacks = out.want.lacks;
        base = out.want.base;
        signs = ⊎_elim (λ s. inl s) (λ s. inr (⊎_elim (λ t. inl (still_unsigned m.0.part.core.kind m.0.part.core.waits t)) (λ t. inr t)
            s)) out.want.signs;
      };
      inside = refl;
      place = out.place;
      seats = e.seats;
      once = e.stands.once;
      absent = e.stands.absent;
      entry = e.stands.entry;
      later = refl;
      acted = refl;
    }) o

pub entered_later : {n : ℕ} {m m' : Sat} → HasEntered m n m' → m'.0.part.core.later ≡ not (m.0.part.core.waits == 0)
entered_later e = ap (λ (w : Sight). w.part.core.later) e.view
