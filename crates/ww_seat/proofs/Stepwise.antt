-- A step that found another inside, or that went inside.
use Rattle.std.proofs.Common.{◌≡◌, ℕ, ◌+◌, ◌==◌, not, ◌∷◌, List, Bool, true, false, length, refl, sym, ap, subst, ◌∙◌}
use Rattle.ww_queue.specs.declared.entry.Entry.{Entry}
use Rattle.ww_view.specs.View.{owns, IsAway}
use Rattle.ww_invariant.specs.declared.cells.Cell.TheVariants.{Line}
use Rattle.ww_invariant.specs.Rule.{Sat}
use Rattle.ww_invariant.specs.Guards.{AreSeats, StandsAs, shutting_out, entering}
use Rattle.ww_seat.specs.Orderly.{IsOrderly}
use Rattle.ww_seat.specs.Calls.{HoldsAsBefore}
use Rattle.ww_seat.specs.Guards.{IsGiving}
use Rattle.ww_seat.specs.Looks.{IsOutside}
use Rattle.ww_seat.specs.Work.{IsAtWork}
use Rattle.ww_table.specs.declared.board.Board.{Board}
use Rattle.ww_table.specs.declared.seat.Stepper.{Stepper}
use Rattle.ww_table.specs.Inside.{HasTriedToEnter}
use Rattle.ww_table.specs.Seat.{IsSeatOf, size_of, view_of}
use Rattle.ww_seat.specs.Standings.{Standing, standing_of, view_in, IsAt, IsKept, IsGivingThere, MayGoIn, HasGoneIn, WasShutOut, IsGoneIn, IsGoneInToGive}
use Rattle.ww_seat.proofs.Kept.{same_seat, orderly_at}
use Rattle.ww_seat.proofs.Gives.{entered_giving, still_entered}
use Rattle.ww_seat.proofs.Guards.{HasEntered, entering_orderly}
use Rattle.ww_seat.proofs.Outside.{orderly_knowing}
use Rattle.ww_seat.proofs.Waitings.{entered_inside, entered_later}
use Rattle.ww_seat.proofs.Working.{work_inside}

pub orderly_shut : {size : ℕ} {m m' : Sat} → IsOrderly size m → m' ≡ (shutting_out m.0, m.1) → IsOrderly size m'
orderly_shut o is = orderly_knowing o is refl refl

pub has_entered : (m : Sat) {m' : Sat} {n : ℕ} {q : List Entry} → AreSeats m.0.part.core.seats q → StandsAs m.0.part.core n q
    → m' ≡ (entering m.0 n q, (64 + n, Line q) ∷ m.1) → HasEntered m n m'
has_entered m {q} seats stands is = record { list = q; seats = seats; stands = stands; view = ap (λ (x : Sat). x.0) is }

pub now_at_work : {size n : ℕ} {m m' : Sat} {q : List Entry} → IsOutside size n m → AreSeats m.0.part.core.seats q → StandsAs m.0.part.core n q
    → m' ≡ (entering m.0 n q, (64 + n, Line q) ∷ m.1) → IsAtWork size n m (not (m.0.part.core.waits == 0)) (not (m.0.part.core.waits == 0)) m'
now_at_work {m} out seats stands is =
    let e = has_entered m seats stands is in
    let w = work_inside (entered_inside out e (entering_orderly out.orderly out.outside is)) (sym (entered_later e)) in
    record { orderly = w.orderly; working = w.working; holds = still_entered e }

-- ---- of a seat as its caller has it

-- outside the guard of a lock that it wants
pub outside_of : {b : Board} {n : ℕ} {q : Stepper} {s : Standing} → standing_of q ≡ s → IsKept q → MayGoIn b n s
    → IsOutside (length q.seat.me.0.held) n q.seat.me
outside_of {b} {n} {q} is k may = subst (λ (x : Standing). MayGoIn b n x → IsOutside (length q.seat.me.0.held) n q.seat.me) is
    (λ may. record { orderly = k.orderly; want = may.want; outside = may.outside; place = may.place }) may

entered_by : {size n : ℕ} {q q' : Stepper} {b : Board} {list : List Entry} → IsSeatOf b q → HasTriedToEnter b q n true q' → IsOrderly size q.seat.me
    → IsOrderly size q'.seat.me → HoldsAsBefore q.seat.me q'.seat.me → q'.seat.me ≡ (entering q.seat.me.0 n list, (64 + n, Line list) ∷ q.seat.me.1)
    → HasGoneIn (standing_of q) (standing_of q')
entered_by seated t o o' holds is = record {
  same = same_seat seated t.seat t.records o o';
  holds = holds;
  debts = ap (λ (m : Sat). m.0.part.core.debts) is;
  awake = record { naps = ap (λ (m : Sat). m.0.part.core.naps) is; deaf = ap (λ (m : Sat). m.0.part.core.deaf) is };
}

shut_by : {size n : ℕ} {q q' : Stepper} {b : Board} → IsSeatOf b q → HasTriedToEnter b q n false q' → IsOrderly size q.seat.me
    → IsOrderly size q'.seat.me × WasShutOut (standing_of q) (standing_of q')
shut_by {q} seated t o = let is = t.lost refl in let o' = orderly_shut o is in (
  o',
  (same_seat seated t.seat t.records o o').now ∙ ap (λ (m : Sat). let s : Standing = record (standing_of q) { me = m } in s) is,
)

pub gone_in : {size n : ℕ} (r : Bool) {q q' : Stepper} {b : Board} → IsSeatOf b q → HasTriedToEnter b q n r q' → IsOutside size n q.seat.me
    → IsOrderly size q'.seat.me × IsGoneIn (standing_of q) n r (standing_of q')
gone_in true seated t out = let e = t.entered refl in
    let w = now_at_work out e.1 e.2 e.3 in (
      w.orderly,
      (
        record {
          gone = entered_by seated t out.orderly w.orderly w.holds e.3;
          condemned = ap (λ (m : Sat). m.0.part.core.condemned) e.3;
          working = w.working;
        },
        ap (λ (m : Sat). m.0.part.core.attempts) e.3,
      ),
    )
gone_in false seated t out = shut_by seated t out.orderly

pub gone_in_to_give : {size n : ℕ} (r : Bool) {q q' : Stepper} {b : Board} → IsSeatOf b q → HasTriedToEnter b q n r q' → IsOrderly size q.seat.me
    → IsAway (view_of q) → owns (view_of q) n ≡ true → IsOrderly size q'.seat.me × IsGoneInToGive (standing_of q) n r (standing_of q')
gone_in_to_give true {q} seated t o away own = let e = t.entered refl in
    let was = has_entered q.seat.me e.1 e.2 e.3 in
    let g = entered_giving was (entering_orderly o away.0 e.3) away.1 own in (
      g.orderly,
      (
        entered_by seated t o g.orderly (still_entered was) e.3,
        record { inside = g.inside; waits = g.waits; owner = g.owner; seats = g.seats; unsigned = g.unsigned },
        ap (λ (m : Sat). m.0.part.core.attempts) e.3,
      ),
    )
gone_in_to_give false seated t o away own = shut_by seated t o

-- another was inside, so it is where it was
pub shut_stays : {b : Board} {n : ℕ} {first s s' : Standing} → IsAt b s → MayGoIn b n s → HasGoneIn first s
    → (view_in s).waits ≡ (view_in first).waits → WasShutOut s s'
    → IsAt b s' × MayGoIn b n s' × HasGoneIn first s' × ((view_in s').waits ≡ (view_in first).waits)
shut_stays {b} {n} {first} {s} at may gone waits is = subst
    (λ (x : Standing). IsAt b x × MayGoIn b n x × HasGoneIn first x × ((view_in x).waits ≡ (view_in first).waits)) (sym is) (
      record { home = at.home; size = at.size },
      record { there = may.there; want = record { lacks = may.want.lacks; base = may.want.base; signs = may.want.signs }; outside = may.outside; place = may.place },
      record {
        same = record { now = ap (λ (x : Standing). let y : Standing = record x { me = (shutting_out s.me.0, s.me.1) } in y) gone.same.now; size = gone.same.size };
        holds = gone.holds;
        debts = gone.debts;
        awake = record { naps = gone.awake.naps; deaf = gone.awake.deaf };
      },
      waits,
    )

-- inside, as the owner that releases the lock
pub giving_of : {b : Board} {n : ℕ} {q : Stepper} {s : Standing} → standing_of q ≡ s → IsKept q → IsAt b s → IsGivingThere n (view_in s)
    → IsGiving (size_of b) n q.seat.me
giving_of {n} is k at giving = let g = subst (λ (x : Standing). IsGivingThere n (view_in x)) (sym is) giving in record {
  orderly = orderly_at is k at;
  inside = g.inside;
  waits = g.waits;
  owner = g.owner;
  seats = g.seats;
  unsigned = g.unsigned;
}
