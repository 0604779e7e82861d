-- A seat that heeds its cancel, and leaves the wait list for it.
use Rattle.std.proofs.Common.{◌≡◌, ℕ, Bool, true, sym, ap, subst}
use Rattle.ww_word.specs.declared.owner.Owner.{Owner}
use Rattle.ww_view.specs.Made.{interrupted}
use Rattle.ww_invariant.specs.declared.cells.Sight.{Sight}
use Rattle.ww_invariant.specs.Rule.{Sat}
use Rattle.ww_invariant.specs.Cancels.{heeding, stopping}
use Rattle.ww_table.specs.Inside.{HasListThen}
use Rattle.ww_seat.specs.Orderly.{IsOrderly}
use Rattle.ww_seat.specs.Work.{IsWorking, SeesOther, MayGo, GoesOnAsBefore}
use Rattle.ww_seat.proofs.Outside.{outs_of}
use Rattle.ww_seat.proofs.Guards.{listed_by}
use Rattle.ww_seat.proofs.Stood.{gone_goes}

-- ---- no cancel was pending

pub goes_on_sees : {size : ℕ} {m m' : Sat} {o : Owner} → GoesOnAsBefore size m m' → SeesOther o m.0.part.core → SeesOther o m'.0.part.core
goes_on_sees {o} g sees = subst (λ (z : Sight). SeesOther o z.part.core) (sym g.view)
    (record { seen = sees.seen; valid = sees.valid; there = sees.there; other = sees.other })

-- ---- one was

-- what is out once it left the list
pub record HasLeft (size mark : ℕ) (m : Sat) (o : Owner) (m2 : Sat) : Type 0 where
  pub orderly : IsOrderly size m2
  pub view : m2.0 ≡ stopping (heeding m.0 mark) o

pub has_left : {size n mark : ℕ} {l : Bool} {m m1 m2 : Sat} {o : Owner} → IsOrderly size m → IsWorking n true l m.0.part.core
    → m1 ≡ (heeding m.0 mark, m.1) → HasListThen m1 n (stopping m1.0 o) (interrupted m1.0.part.core o).list m2 → HasLeft size mark m o m2
has_left {size} {n} {mark} {m} {m2} {o} ord w is = subst
    (λ (z : Sat). HasListThen z n (stopping z.0 o) (interrupted z.0.part.core o).list m2 → HasLeft size mark m o m2) (sym is)
    (λ got. record {
      orderly = listed_by ord w.inside got (ap (λ (k : ℕ). record (outs_of m.0) { heeded = k }) (sym ord.unheeded));
      view = ap (λ (z : Sat). z.0) got.2;
    })

pub stopped_goes : {size n mark : ℕ} {l : Bool} {m m2 : Sat} {o : Owner} → IsWorking n true l m.0.part.core → HasLeft size mark m o m2
    → MayGo n m2.0.part.core
stopped_goes {n} {o} w left = subst (λ (z : Sight). MayGo n z.part.core) (sym left.view) (gone_goes o w)
