-- What a seat at work inside a guard comes to, step by step.
use Rattle.std.proofs.Common.{◌≡◌, ◌<◌, inr, ℕ, ◌+◌, ◌-◌, Bool, List, refl, sym, ap, ◌∙◌, subst, true, vec_capacity, vec_len}
use Rattle.ww_word.specs.declared.owner.Owner.{Owner}
use Rattle.ww_queue.specs.Queue.{Has}
use Rattle.ww_view.specs.declared.view.View.{View}
use Rattle.ww_invariant.specs.declared.cells.Sight.{Sight}
use Rattle.ww_invariant.specs.Rule.{Sat}
use Rattle.ww_invariant.specs.Guards.{looking}
use Rattle.ww_table.specs.declared.board.Board.{Board}
use Rattle.ww_table.specs.declared.seat.Stepper.{Stepper}
use Rattle.ww_table.specs.Seat.{IsSeatOf, locks_of, size_of, view_of}
use Rattle.ww_seat.specs.declared.look.Arrival.{Arrival}
use Rattle.ww_seat.specs.declared.look.Attempt.{Attempt}
use Rattle.ww_seat.specs.declared.look.Attempt.TheVariants.{Lost, Ended}
use Rattle.ww_seat.specs.declared.look.Look.{Look}
use Rattle.ww_seat.specs.declared.waits.Waits.{Waits}
use Rattle.ww_seat.specs.Looks.{IsLook, IsNap, MayLookSo, MayWaitSo}
use Rattle.ww_seat.specs.Orderly.{IsOrderly}
use Rattle.ww_seat.specs.Standings.{standing_of, HasAttempted, IsAt, IsAtWorkThere, IsAttempt, IsKept}
use Rattle.ww_seat.specs.Work.{has_joined, looks_again, AreWoken, AreMarksOf, CameInside, debts_with, Deeds, deeds_of, GoesOnAsBefore, HasComeTo, HasCondemnedNone, HasMarked, HasNoted, HasStood, IsAtWork, IsAtWorkHere, IsSameSeat, IsTold, IsTouched, IsWorking}
use Rattle.ww_seat.proofs.Holds.{came_then as holding_then}
use Rattle.ww_seat.proofs.Kept.{orderly_at}
use Rattle.ww_seat.proofs.Naps.{awake_same, awake_then, awake_looked, awake_noted, nap_then}
use Rattle.ww_seat.proofs.Stood.{work_stood}
use Rattle.ww_seat.proofs.Working.{marked_none, marked_then, none_told, none_touched, work_goes_on, work_looked, work_noted, work_same, work_then, work_told, work_touched}

-- ---- marks

pub marks_then : {u v w : View} {a b c : List ℕ} → HasMarked a u v b → HasMarked b v w c → HasMarked a u w c
marks_then {v} {w} {a} {b} {c} x y = record {
  marked = marked_then v w a b c y.still.still x.marked y.marked;
  long = y.long ∙ x.long;
  still = record { still = λ t has. y.still.still t (x.still.still t has); booked = λ before is. y.still.booked before (x.still.booked before is) };
}

-- it condemned nobody, so whoever had to be woken still has to be, and it marks nobody
pub marks_idle : {v w : View} (wake : List ℕ) → deeds_of w ≡ deeds_of v → AreWoken v wake → HasMarked wake v w wake
marks_idle {w} wake same woken = let who = ap (λ (d : Deeds). d.who) same in record {
  marked = marked_none w wake (λ u has. woken u (subst (λ (d : Deeds). Has d.condemned u) same has.0, λ e. has.1 (e ∙ sym who)));
  long = refl;
  still = record {
    still = λ u has. (subst (λ (d : Deeds). Has d.condemned u) (sym same) has.0, λ e. has.1 (e ∙ who));
    booked = λ before is. ap (λ (d : Deeds). d.debts) same ∙ is ∙ sym (ap (λ (d : Deeds). debts_with d.who d.condemned before) same);
  };
}

pub marks_idle_then : {u v w : View} {wake wake1 : List ℕ} → HasMarked wake u v wake1 → deeds_of w ≡ deeds_of v → HasMarked wake u w wake1
marks_idle_then {wake1} x same = marks_then x (marks_idle wake1 same (λ t has. (x.marked t).1 (inr has)))

-- ---- the steps of an attempt

-- none was made
pub come_same : (board : Board) {n : ℕ} {stands again : Bool} (waits : Waits) {m : Sat} (wake : List ℕ) → IsOrderly (size_of board) m
    → IsWorking n stands again m.0.part.core → AreWoken m.0.part.core wake
    → HasComeTo board n stands again waits m wake m.0.part.core.attempts Lost m wake
come_same board waits {m} wake orderly working woken = record {
  came = (work_same orderly working, awake_same m.0.part.core);
  attempts = refl;
  marked = marks_idle wake refl woken;
}

pub come_here : {board : Board} {n : ℕ} {stands again : Bool} {s : Stepper} {wake : List ℕ} → IsAtWorkHere board n stands again s
    → AreMarksOf (view_of s) wake → (waits : Waits)
    → HasComeTo board n stands again waits s.seat.me wake (view_of s).attempts Lost s.seat.me wake
come_here {board} {wake} at marks waits = come_same board waits wake at.orderly at.working marks.woken

-- it goes on, and condemned nobody more
pub come_next : {board : Board} {n : ℕ} {s1 s2 again : Bool} {waits : Waits} {m m1 m2 : Sat} {wake wake1 : List ℕ} {looks : ℕ}
    → HasComeTo board n s1 again waits m wake looks Lost m1 wake1 → IsAtWork (size_of board) n m s2 again m2
    → HasCondemnedNone m1 m2 → HasComeTo board n s2 again waits m wake looks Lost m2 wake1
come_next x work none = record {
  came = (work, awake_then x.came.1 none.awake);
  attempts = ap (λ (d : Deeds). d.attempts) none.deeds ∙ x.attempts;
  marked = marks_idle_then x.marked none.deeds;
}

pub come_touched : {board : Board} {n : ℕ} {stands again : Bool} {waits : Waits} {m m1 m2 : Sat} {wake wake1 : List ℕ} {looks : ℕ}
    → HasComeTo board n stands again waits m wake looks Lost m1 wake1 → IsTouched (size_of board) m1 m2
    → HasComeTo board n stands again waits m wake looks Lost m2 wake1
come_touched x t = come_next x (work_touched x.came.0 t) (none_touched t)

pub come_told : {board : Board} {n : ℕ} {stands again : Bool} {waits : Waits} {m m1 m2 : Sat} {wake wake1 : List ℕ} {looks : ℕ}
    → HasComeTo board n stands again waits m wake looks Lost m1 wake1 → IsTold (size_of board) m1 m2
    → HasComeTo board n stands again waits m wake looks Lost m2 wake1
come_told x t = come_next x (work_told x.came.0 t) (none_told t)

-- ... and signed some
pub come_noted : {board : Board} {n : ℕ} {stands again : Bool} {waits : Waits} {m m1 m2 : Sat} {wake wake1 wake2 : List ℕ} {looks : ℕ}
    → HasComeTo board n stands again waits m wake looks Lost m1 wake1 → {owed : List (ℕ × ℕ)} → HasNoted (size_of board) owed m1 m2
    → HasMarked wake1 m1.0.part.core m2.0.part.core wake2 → HasComeTo board n stands again waits m wake looks Lost m2 wake2
come_noted x h marked = record {
  came = (work_noted x.came.0 h, awake_then x.came.1 (awake_noted h));
  attempts = ap (λ (z : Sight). z.part.core.attempts) h.view ∙ x.attempts;
  marked = marks_then x.marked marked;
}

-- ... and stands in the wait list
pub come_stood : {board : Board} {n : ℕ} {stands again : Bool} {waits : Waits} {m m1 m2 : Sat} {wake wake1 : List ℕ} {looks : ℕ} {o p : Owner}
    → HasComeTo board n stands again waits m wake looks Lost m1 wake1 → HasStood (size_of board) n stands o m1 p m2
    → HasComeTo board n true again waits m wake looks Lost m2 wake1
come_stood x h = come_next x (work_stood x.came.0 h) h.idle

-- ... and may have looked at its cancel
pub come_goes_on : {board : Board} {n : ℕ} {again : Bool} {waits : Waits} {m m1 m2 : Sat} {wake wake1 : List ℕ} {looks : ℕ}
    → HasComeTo board n true again waits m wake looks Lost m1 wake1 → GoesOnAsBefore (size_of board) m1 m2 → HasCondemnedNone m1 m2
    → HasComeTo board n true again waits m wake looks Lost m2 wake1
come_goes_on x g none = come_next x (work_goes_on x.came.0 g) none

-- its look is at its end
pub come_out : {board : Board} {n : ℕ} {stands again : Bool} {waits : Waits} {m m1 m2 : Sat} {wake wake1 : List ℕ} {looks : ℕ} {l : Look}
    → HasComeTo board n stands again waits m wake looks Lost m1 wake1 → IsLook (size_of board) n m1 l m2
    → MayLookSo board.table.shared.key.places waits l → MayWaitSo waits m2.0.part.core l
    → IsNap m1.0.part.core l m2.0.part.core → deeds_of m2.0.part.core ≡ deeds_of m1.0.part.core
    → HasComeTo board n stands again waits m wake looks (Ended l) m2 wake1
come_out {n} {m} {m1} {m2} {l = l} x look so may nap same = record {
  came = ((look.0, holding_then n m m1 m2 l x.came.0.holds look.1), so, may, nap_then m2.0.part.core l x.came.1 nap);
  attempts = ap (λ (d : Deeds). d.attempts) same ∙ x.attempts;
  marked = marks_idle_then x.marked same;
}

-- where its functions find it then
pub come_here_still : {board : Board} {n : ℕ} {stands again : Bool} {waits : Waits} {m : Sat} {s : Stepper} {wake wake1 : List ℕ} {looks : ℕ}
    → HasComeTo board n stands again waits m wake looks Lost s.seat.me wake1 → IsSeatOf board s → n < locks_of board
    → IsAtWorkHere board n stands again s
come_here_still x seat lock = record { seat = seat; lock = lock; orderly = x.came.0.orderly; working = x.came.0.working }

-- one part of it after another
pub come_then : {board : Board} {n : ℕ} {s1 s2 again : Bool} {waits : Waits} {m m1 m2 : Sat} {wake wake1 wake2 : List ℕ} {looks : ℕ}
    {a : Attempt} → HasComeTo board n s1 again waits m wake looks Lost m1 wake1
    → HasComeTo board n s2 again waits m1 wake1 m1.0.part.core.attempts a m2 wake2
    → HasComeTo board n s2 again waits m wake looks a m2 wake2
come_then {a = Lost} x y = record {
  came = (work_then x.came.0 y.came.0, awake_then x.came.1 y.came.1);
  attempts = y.attempts ∙ x.attempts;
  marked = marks_then x.marked y.marked;
}
come_then {n} {m} {m1} {m2} {a = Ended l} x y = let e = y.came in record {
  came = ((e.0.0, holding_then n m m1 m2 l x.came.0.holds e.0.1), e.1, e.2, nap_then m2.0.part.core l x.came.1 e.3);
  attempts = y.attempts ∙ x.attempts;
  marked = marks_then x.marked y.marked;
}

-- ---- an attempt, as its caller sees it

-- it looked at the owner word, and did nothing else yet
pub come_looked : {board : Board} {n : ℕ} {arrival : Arrival} {holds : Bool} {wake : List ℕ} {q : Stepper} {m : Sat} {o : Owner}
    → IsKept q × IsAt board (standing_of q) → IsAtWorkThere board n arrival holds wake (standing_of q) → (waits : Waits)
    → m ≡ (looking q.seat.me.0 o, q.seat.me.1)
    → HasComeTo board n (has_joined arrival) (looks_again arrival) waits q.seat.me wake (q.seat.me.0.part.core.attempts + 1) Lost m wake
come_looked {wake} {q} at there waits is = record {
  came = (work_looked (orderly_at refl at.0 at.1) there.working is, awake_looked q.seat.me is);
  attempts = ap (λ (z : Sat). z.0.part.core.attempts) is;
  marked = subst (λ (z : Sat). HasMarked wake q.seat.me.0.part.core z.0.part.core wake) (sym is) (record {
    marked = marked_none q.seat.me.0.part.core wake there.woken;
    long = refl;
    still = record { still = λ u has. has; booked = λ before booked. booked };
  });
}

came_orderly : (board : Board) (n : ℕ) (stands again : Bool) (waits : Waits) (m m' : Sat) (a : Attempt)
    → CameInside board n stands again waits m a m' → IsOrderly (size_of board) m'
came_orderly board n stands again waits m m' Lost x = x.0.orderly
came_orderly board n stands again waits m m' (Ended l) x = x.0.0

is_attempt : (board : Board) (n : ℕ) (arrival : Arrival) (waits : Waits) (q q' : Stepper) (a : Attempt)
    → CameInside board n (has_joined arrival) (looks_again arrival) waits q.seat.me a q'.seat.me
    → IsAttempt board.table.shared.key.places (standing_of q) n waits arrival a (standing_of q')
is_attempt board n arrival waits q q' Lost x = (x.0.working, x.0.holds, x.1)
is_attempt board n arrival waits q q' (Ended l) x = (x.0.1, x.1, x.2, x.3)

-- the answer of an attempt
pub attempted : {board : Board} {n : ℕ} {stands again : Bool} {waits : Waits} {wake wake' : List ℕ} {a : Attempt} {q : Stepper} (q' : Stepper)
    {arrival arrival' : Arrival} → IsKept q × IsAt board (standing_of q) → IsSameSeat board q q' → has_joined arrival' ≡ stands
    → looks_again arrival ≡ again → looks_again arrival' ≡ again
    → HasComeTo board n stands again waits q.seat.me wake (q.seat.me.0.part.core.attempts + 1) a q'.seat.me wake'
    → IsOrderly (size_of board) q'.seat.me
    × HasAttempted board.table.shared.key.places (standing_of q) n waits arrival wake a (standing_of q') arrival' wake'
attempted {board} {n} {stands} {again} {waits} {a} {q} q' {arrival'} at same joined was now x =
    let orderly = came_orderly board n stands again waits q.seat.me q'.seat.me a x.came in (
      orderly,
      record {
        same = record {
          now = λ i. record {
            home = (same.seat.home ∙ sym at.1.home) i;
            room = ap (λ r. vec_capacity r - vec_len r) same.records i;
            me = q'.seat.me;
          };
          size = orderly.held ∙ sym at.1.size;
        };
        came = is_attempt board n arrival' waits q q' a
            (subst (λ (b : Bool × Bool). CameInside board n b.0 b.1 waits q.seat.me a q'.seat.me) (λ i. (sym joined i, sym now i)) x.came);
        again = now ∙ sym was;
        attempted = x.attempts;
        marked = x.marked.marked;
        long = x.marked.long;
        still = x.marked.still;
      },
    )
