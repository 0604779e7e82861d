-- How many seats a seat knows of.
use Rattle.std.proofs.Common.{◌≡◌, ℕ, ◌*◌, ◌<◌, ◌≤◌, List, length, [], ◌∷◌, Option, Some, None, inl, sym, ap, subst, refl, arith, slice_get}
use Rattle.std.specs.Prelude.{unwrap_or, IfSome}
use Rattle.ww_queue.specs.declared.entry.Entry.{Entry}
use Rattle.ww_invariant.specs.Layout.{lock_at}
use Rattle.ww_invariant.specs.Guards.{AreSeats}
use Rattle.ww_table.specs.declared.board.Board.{Board}
use Rattle.ww_table.specs.declared.seat.Stepper.{Stepper}
use Rattle.ww_table.specs.Seat.{IsSeatOf, view_of}
use Rattle.ww_seat.specs.Work.{AreWoken, AreMarksOf}

pub seats_there : (b : Board) (s : Stepper) → IsSeatOf b s → (view_of s).seats ≡ b.table.shared.key.places
seats_there b s is = let all = is.seats in let x = is.sized.0 in let y = b.sized.0 in let u = is.sized.1 in let w = b.sized.1 in
    let same : s.room ≡ b.table.shared.key.locks = omega arith in let lie = ap (λ (locks : ℕ). lock_at locks locks) same in omega arith

-- there is room for a mark of each
pub marks_there : (b : Board) {s : Stepper} {wake : List ℕ} → IsSeatOf b s → AreWoken (view_of s) wake → b.table.shared.key.places ≤ 64 * length wake
    → AreMarksOf (view_of s) wake
marks_there b {s} seat woken marks = let seats = seats_there b s seat in record { woken = woken; room = omega arith }

first_seat : (n : ℕ) (q : List Entry) {e : Entry} → AreSeats n q → Some e ≡ slice_get q 0 → e.seat < n
first_seat n [] seats is = absurd cc
first_seat n (x ∷ xs) seats is = subst (λ (y : Entry). y.seat < n) (sym (ap (λ (o : Option Entry). unwrap_or o x) is)) (seats x (inl refl)).0

-- the first waiter is a seat of the board
pub first_there : (b : Board) (s : Stepper) (q : List Entry) (first : Option Entry) → IsSeatOf b s → AreSeats (view_of s).seats q
    → first ≡ slice_get q 0 → IfSome first (λ e. e.seat < b.table.shared.key.places)
first_there b s q None at seats is = tt
first_there b s q (Some e) at seats is = subst (λ (n : ℕ). e.seat < n) (seats_there b s at) (first_seat _ q seats is)
