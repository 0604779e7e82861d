-- Bells: which parker each of them rings, and whom a call wakes.
use Rattle.std.specs.Prelude.{ℕ, ◌≡◌, ◌≢◌, ◌<◌, ◌+◌, Bool, true, false, List, length, map, Option, Some, slice_get}
use Rattle.std.specs.Arc.{arc_value}
use Rattle.std.specs.Option.{option_map}
use Rattle.atomic_table.specs.Seated.{TableId}
use Rattle.ww_queue.specs.Queue.{Has}
use Rattle.ww_view.specs.declared.view.View.{View}
use Rattle.ww_invariant.specs.Rule.{Sat, wakes_owed}
use Rattle.ww_table.specs.declared.board.Board.{Board}
use Rattle.ww_seat.specs.Marks.{is_marked}
use Rattle.ww_seat.specs.declared.bell.Bell.{Bell}
use Rattle.ww_seat.specs.declared.bell.Parker.{Parker}
use Rattle.ww_seat.specs.declared.bell.Wire.{Wire}
use Rattle.ww_seat.specs.declared.patience.Patience.{Patience}

-- ---- places: a parker is told from others by the table that has its token

abbrev pub table_of : Parker → TableId
table_of p = p.pass.table_id

-- the parker that a pass sleeps on
abbrev pub sleeps_at : Patience → TableId
sleeps_at p = table_of p.parker

-- how many tokens were taken at a parker
abbrev pub taken_at : Parker → ℕ
taken_at p = p.pass.me.0

-- how many tokens a pass took
abbrev pub heard : Patience → ℕ
heard p = taken_at p.parker

-- it sleeps on the same parker as before, and didn't sleep meanwhile
pub record SleepsNot (p p' : Patience) : Type 0 where
  pub parker : sleeps_at p' ≡ sleeps_at p
  pub heard : heard p' ≡ heard p

-- the parker to which a wire leads
abbrev pub leads_to : Wire → TableId
leads_to w = (arc_value w.unparker.state).shared.table_id

-- the parker that a bell rings
abbrev pub rings_at : Bell → TableId
rings_at b = b.pass.table_id

-- there is a bell for each seat of the board
abbrev pub AreBellsOf : Board → List Bell → Type 0
AreBellsOf board bells = length bells ≡ board.table.shared.key.seats

-- they ring the same parkers as before
pub record ArePlacedAlike (bells bells' : List Bell) : Type 0 where
  pub count : length bells' ≡ length bells
  pub places : map rings_at bells' ≡ map rings_at bells

-- ---- tokens

-- how many tokens a bell has given
abbrev pub rung : Bell → ℕ
rung b = b.pass.me.0

-- ... the one of this number
abbrev pub rung_at : List Bell → ℕ → Option ℕ
rung_at bells u = option_map rung (slice_get bells u)

-- one more, if so
abbrev pub one_more : Bool → ℕ → ℕ
one_more true k = k + 1
one_more false k = k

-- each bell gave as many tokens as its seat was owed wakes
abbrev pub ArePaid : Sat → List Bell → Type 0
ArePaid m bells = (u : ℕ) → u < length bells → rung_at bells u ≡ Some (wakes_owed m.0.part u)

-- each bell that has a mark gave one token more, and the others gave none
abbrev pub AreRung : List ℕ → List Bell → List Bell → Type 0
AreRung marks bells bells' = (u : ℕ) → u < length bells →
    rung_at bells' u ≡ option_map (one_more (is_marked marks u)) (rung_at bells u)

-- the bell of a seat gave one token more
abbrev pub IsRung : ℕ → List Bell → List Bell → Type 0
IsRung u bells bells' = u < length bells → rung_at bells' u ≡ option_map (one_more true) (rung_at bells u)

-- only these seats' bells gave tokens, if any did
abbrev pub OnlyRing : (ℕ → Type 0) → List Bell → List Bell → Type 0
OnlyRing these bells bells' = (u : ℕ) → (¬ these u) → rung_at bells' u ≡ rung_at bells u

-- one token more from the bell of each seat that this one condemned since it went inside the guard, itself excepted
abbrev pub HaveRung : View → List Bell → List Bell → Type 0
HaveRung v bells bells' = (u : ℕ) → Has v.condemned u → u ≢ v.who → IsRung u bells bells'

-- ... of the seat that was the first waiter as this one released the lock
abbrev pub HasRungHeir : View → List Bell → List Bell → Type 0
HasRungHeir v bells bells' = (u : ℕ) → v.heir ≡ Some u → IsRung u bells bells'
