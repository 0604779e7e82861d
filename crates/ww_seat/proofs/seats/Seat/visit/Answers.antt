use Rattle.std.proofs.Common.{ℕ, List, sym, ap, ◌∙◌}
use Rattle.ww_seat.specs.Accounts.{Account}
use Rattle.ww_seat.specs.Work.{HasBooked, debts_with}
use Rattle.ww_seat.specs.Standings.{Standing, view_in, IsIn}
use Rattle.ww_seat.proofs.Debts.{paid_look}
use Rattle.ww_seat.proofs.Holds.{came_then, came_cancels}
use Rattle.ww_seat.proofs.Kept.{same_then}
use Rattle.ww_seat.proofs.Naps.{nap_then}
use Rattle.ww_seat.proofs.Ringing.{only_ring, woken_ring}
use Rattle.ww_seat.proofs.seats.Seat.visit.Goals as goal

-- whom it condemned is added to what it had to wake before
booked : (s u s' : Standing) (n : ℕ) → IsIn s n u → ((before : List ℕ) → HasBooked before (view_in u) → HasBooked before (view_in s'))
    → HasBooked (view_in s).debts (view_in s')
booked s u s' n i books = books (view_in s).debts
    (i.gone.debts ∙ sym (ap (λ (l : List ℕ). debts_with (view_in u).who l (view_in s).debts) i.condemned))

pub returns : goal.returns
returns g c = let s = c.args.self.now in let u = c.spin_into_wanted.new.self in let s' = c.look_at-look.new.self in
    let i = c.spin_into_wanted.ensures in let e = c.look_at-look.ensures in let d = c.deliver.ensures in record {
      same = same_then s u s' i.gone.same e.same;
      came = came_then c.args.lock s.me u.me s'.me c.look_at-look.result i.gone.holds e.came;
      may = e.may;
      uncancelled = e.uncancelled;
      nap = nap_then (view_in s') c.look_at-look.result i.gone.awake e.nap;
      booked = booked s u s' c.args.lock i e.booked;
      rung = woken_ring (view_in s') _ _ _ e.woken d.rung;
      others = only_ring _ _ e.only d.rung d.placed;
      placed = d.placed;
      paid = λ paid. paid_look s.me s'.me c.look_at-look.new.wake c.args.bells.now c.deliver.new.bells
          (came_cancels c.args.lock u.me s'.me c.look_at-look.result e.came ∙ ap (λ (a : Account). a.counts.cancelled) i.gone.holds)
          (booked s u s' c.args.lock i e.booked) e.woken e.only d.rung d.placed.count paid;
    }
