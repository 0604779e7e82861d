-- Seats that come together again to be closed.
use Rattle.std.proofs.Common.{◌≡◌, ap, inl, inr, List, [], ◌∷◌, ◌++◌, length, refl, sym, subst, ◌∙◌, arith, length-append}
use Rattle.std.specs.List.{AllByRecursion}
use Rattle.atomic_table.specs.Seated.{TableId}
use Rattle.ww_view.specs.View.{IsAway, IsBare}
use Rattle.std.proofs.lemmas.Bool.{cases_lt}
use Rattle.ww_queue.specs.Queue.{Has}
use Rattle.ww_table.specs.declared.board.Board.{Board}
use Rattle.ww_table.specs.declared.seat.Stepper.{Stepper}
use Rattle.ww_table.specs.Seat.{IsSeated}
use Rattle.ww_table.specs.Closed.{HasCome, HaveAllCome}
use Rattle.ww_seat.specs.Standings.{Standing, standing_of, view_in, IsKept}
use Rattle.ww_seat.proofs.Outside.{nothing_out}
use Rattle.ww_tests_below.specs.Gathered.{HaveCome}
use Rattle.ww_tests_below.specs.Trying.{IsBetween}
use Rattle.ww_tests_below.proofs.Holding.{bare_with}

-- a seat between two contexts comes back with nothing
pub rests_come : (board : Board) (s : Standing) (q : Stepper) → IsBetween board s → standing_of q ≡ s → IsKept q
    → HasCome board.table.shared.table_id q
rests_come board s q rests is kept =
    let home = ap (λ (t : Standing). t.home) is ∙ rests.at.home in
    let away = subst (λ (t : Standing). IsAway (view_in t)) (sym is) rests.away in
    let bare = subst (λ (t : Standing). IsBare (view_in t)) (sym is) (bare_with s rests.owned) in record {
      seated = subst (λ (t : TableId). IsSeated t q) home kept.seated;
      bare = bare;
      nothing = nothing_out _ _ kept.orderly away.0 bare;
    }

each_more : {A : Type 0} (P : A → Type 0) (xs : List A) (x : A) → AllByRecursion P xs → P x → AllByRecursion P (xs ++ x ∷ [])
each_more P [] x all one = (one, tt)
each_more P (y ∷ ys) x all one = (all.0, each_more P ys x all.1 one)

has_more : {A : Type 0} (xs : List A) (x y : A) → Has xs y → Has (xs ++ x ∷ []) y
has_more [] x y h = absurd h
has_more (z ∷ zs) x y (inl e) = inl e
has_more (z ∷ zs) x y (inr h) = inr (has_more zs x y h)

has_last : {A : Type 0} (xs : List A) (x : A) → Has (xs ++ x ∷ []) x
has_last [] x = inl refl
has_last (z ∷ zs) x = inr (has_last zs x)

-- one more, with the next number
pub one_more : (board : Board) (seats : List Stepper) (s : Stepper) → HaveCome board seats
    → HasCome board.table.shared.table_id s → s.who ≡ length seats → HaveCome board (seats ++ s ∷ [])
one_more board seats s were come next = record {
  each = each_more (HasCome board.table.shared.table_id) seats s were.each come;
  all = λ k lt. elim (cases_lt k (length seats)) [
    | inl low ↦ (let t = were.all k low in (t.0, has_more seats s t.0 t.1, t.2))
    | inr high ↦ (s, has_last seats s, omega (arith, lt, high, next, length-append seats (s ∷ [])))
  ];
}

-- they are all
pub all_come : (board : Board) (seats : List Stepper) → HaveCome board seats
    → length seats ≡ board.table.shared.key.seats
    → HaveAllCome board.table.shared.table_id board.table.shared.key seats
all_come board seats were count = record { each = were.each; all = λ k lt. were.all k (omega (arith, lt, count)) }
