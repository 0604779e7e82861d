-- Desks that have done nothing yet.
use Rattle.std.proofs.Common.{◌≡◌, ℕ, zero, suc, ◌+◌, ◌/◌, ◌<◌, ◌≤◌, ◌^◌, Bool, true, false, replicate, List, [], ◌∷◌, length, map, set, refl, sym, ap, subst, ◌∙◌, arith, ⊎_elim, get_or, Option, Some, None, is_none, length-set}
use Rattle.std.proofs.lemmas.List.{length-map, length-replicate}
use Rattle.std.specs.Arc.{arc_value}
use mathlib.Core.Option.{some}
use lib.ListN.{get_elem?}
use Rattle.ww_queue.specs.declared.kind.Kind.{Kind}
use Rattle.ww_plain.specs.Numbers.{is_among, AreDifferent}
use Rattle.ww_plain.proofs.Members.{different_none}
use Rattle.ww_view.specs.View.{owns, first_view}
use Rattle.ww_invariant.specs.Rule.{Sat, first_graph, no_counts, places_for}
use Rattle.ww_invariant.proofs.Seats.{bare_first}
use Rattle.ww_invariant.proofs.Totals.{is_size, places_few}
use Rattle.ww_table.specs.declared.board.Board.{Board}
use Rattle.ww_table.specs.declared.make.Ticket.{Ticket}
use Rattle.ww_table.specs.declared.seat.Stepper.{Stepper}
use Rattle.ww_table.specs.Made.{IsLaid}
use Rattle.ww_table.specs.Seat.{IsNew}
use Rattle.ww_view.specs.View.{IsAway}
use Rattle.ww_seat.specs.Standings.{Standing, standing_of}
use Rattle.ww_steps.specs.declared.turn.Turn.TheVariants.{Rests}
use Rattle.ww_steps.specs.declared.station.Station.{Station}
use Rattle.ww_steps.specs.Situations.{Situation}
use Rattle.ww_steps.specs.Stations.{situation_of, Keeps}
use Rattle.ww_steps.specs.Opened.{fresh, premises_of, HasMadeDesk, IsBareTable, IsOffice, Premises}

-- the desk of a seat that was made just now
pub record IsFirst (b : Board) (k : ℕ) (q : Stepper) (h : Station) : Type 0 where
  pub board : arc_value h.board ≡ b
  pub new : IsNew b.table.shared.table_id b.table.shared.key k q
  pub seat : h.seat ≡ standing_of q
  pub table : IsBareTable b h.locks h.seats
  pub left : h.left < 2 ^ 52
  pub count : h.count ≡ 0
  pub is_done : h.is_done ≡ false
  pub told : h.told ≡ None
  pub turn : h.turn ≡ Rests
  pub wakes : h.wake.items ≡ replicate ((places_for h.seats + 63) / 64) 0

pub first_keeps : (b : Board) (k : ℕ) (q : Stepper) (h : Station) → IsFirst b k q h → Keeps h
first_keeps b k q h f = let me = ap (λ (s : Standing). s.me) f.seat ∙ f.new.me in record {
  at = record {
    home = rw (f.board, f.seat) f.new.seated.home;
    size = rw f.board (ap (λ (m : Sat). length m.0.held) me ∙ length-replicate (length (first_graph b.table.shared.key)) None);
  };
  stands = rw f.turn (subst (λ (m : Sat). IsAway m.0.part.core) (sym me) (refl, refl));
  world = record {
    bare = rw f.board (ap length f.table.bare);
    locks_are = rw f.board (sym f.table.locks_are);
    packed = rw f.board (omega (arith, f.table.locks_are, f.table.packed));
    most = rw f.board (omega (arith, f.table.locks_are, f.table.few_locks));
    seats_are = rw (f.board, f.table.places_are) ((is_size h.seats f.table.few_seats).1);
    few = λ low. rw (f.board, f.table.places_are) (places_few h.seats low);
    many = rw (f.board, f.table.places_are) (⊎_elim (λ one. omega (arith, one)) (λ more. omega (arith, more.1)) (is_size h.seats f.table.few_seats).0);
    words_are = rw (f.board, f.table.places_are, f.wakes) (length-replicate {A = ℕ} ((places_for h.seats + 63) / 64) 0);
  };
  owns = record {
    counted = f.count ∙ sym (ap (λ (m : Sat). length m.0.part.core.locks) me);
    differ = subst AreDifferent (sym (ap (λ (m : Sat). m.0.part.core.locks) me)) different_none;
    same = λ n. ap (λ (m : Sat). owns m.0.part.core n) me
        ∙ bare_first b.table.shared.key.kind b.table.shared.key.locks b.table.shared.key.places k n
        ∙ sym (ap (λ (m : Sat). is_among n m.0.part.core.locks) me);
    room = rw f.board (ap (λ (m : Sat). length m.0.part.core.owned) me ∙ length-replicate b.table.shared.key.locks false);
  };
  draws = omega (arith, f.left, ap (λ (m : Sat). m.0.part.counts.draws) me);
}

pub first_seen : (b : Board) (k : ℕ) (q : Stepper) (h : Station) → IsFirst b k q h
    → situation_of h ≡ fresh b.table.shared.table_id h.locks h.seats b.table.shared.key.kind h.left k
first_seen b k q h f = let me = ap (λ (s : Standing). s.me) f.seat ∙ f.new.me in
    let home : h.seat.home ≡ b.table.shared.table_id = ap (λ (s : Standing). s.home) f.seat ∙ f.new.seated.home in
    let core : h.seat.me.0.part.core ≡ first_view b.table.shared.key.kind h.locks (places_for h.seats) k =
    ap (λ (m : Sat). m.0.part.core) me
    ∙ (λ i. first_view b.table.shared.key.kind (f.table.locks_are i) (f.table.places_are i) k) in
    let counts : h.seat.me.0.part.counts ≡ no_counts = ap (λ (m : Sat). m.0.part.counts) me in
    rw (home, core, counts, f.is_done, f.told, f.turn, f.wakes) refl

-- a ticket that is left of tickets of which none is used
pub all_left : (tickets : List Ticket) (k : ℕ) (t : Ticket) → get_or (map Some tickets) k None ≡ Some t → get_elem? tickets k ≡ some t
all_left [] k t e = absurd (cc)
all_left (x ∷ xs) zero t e = cc
all_left (x ∷ xs) (suc k) t e = all_left xs k t e

-- what is left where one is taken was there before
pub still_left : (tickets : List (Option Ticket)) (n k : ℕ) (t : Ticket) → get_or (set tickets n None) k None ≡ Some t → get_or tickets k None ≡ Some t
still_left [] n k t e = e
still_left (x ∷ xs) zero zero t e = absurd (cc)
still_left (x ∷ xs) zero (suc k) t e = e
still_left (x ∷ xs) (suc n) zero t e = e
still_left (x ∷ xs) (suc n) (suc k) t e = still_left xs n k t e

pub made_set : (tickets : List (Option Ticket)) (n : ℕ) → map is_none (set tickets n None) ≡ set (map is_none tickets) n true
made_set [] n = refl
made_set (x ∷ xs) zero = refl
made_set (x ∷ xs) (suc n) = ap (λ (l : List Bool). is_none x ∷ l) (made_set xs n)

pub made_at : (tickets : List (Option Ticket)) (k : ℕ) (b : Bool) → k < length tickets
    → get_or (map is_none tickets) k b ≡ is_none (get_or tickets k None)
made_at [] k b low = absurd (omega (arith, low))
made_at (x ∷ xs) zero b low = refl
made_at (x ∷ xs) (suc k) b low = made_at xs k b (omega (arith, low))

pub none_used : (tickets : List Ticket) (n : ℕ) → length tickets ≡ n → map is_none (map Some tickets) ≡ replicate n false
none_used [] zero e = refl
none_used [] (suc n) e = absurd (omega (arith, e))
none_used (x ∷ xs) zero e = absurd (omega (arith, e))
none_used (x ∷ xs) (suc n) e = ap (λ (l : List Bool). false ∷ l) (none_used xs n (omega (arith, e)))

-- the office of a table that was laid just now
pub office_laid : {tickets : List Ticket} {seats : ℕ} {b : Board} {kind : Kind} {locks : ℕ} (left : ℕ) → IsLaid kind [] locks seats b tickets
    → 64 < locks → locks ≤ 16777216 → seats < 4096 → left < 2 ^ 52 → IsOffice b kind locks left (map Some tickets)
office_laid {tickets} {seats} left laid packed few_locks few_seats few_left =
    let many : seats ≡ length (map Some tickets) = sym (length-map tickets Some ∙ laid.tickets_are.many) in record {
      table = record {
        bare = laid.graph_is;
        locks_are = laid.locks_are;
        packed = packed;
        few_locks = few_locks;
        places_are = laid.places_are ∙ ap places_for many;
        few_seats = omega (arith, many, few_seats);
      };
      kind_is = sym laid.kind_is;
      few_contexts = few_left;
      tickets_are = λ k t e. laid.tickets_are.each k t (all_left tickets k t e);
    }

-- the office with a ticket taken
pub office_taken : (b : Board) (kind : Kind) (locks left : ℕ) (tickets : List (Option Ticket)) (n : ℕ)
    → IsOffice b kind locks left tickets → IsOffice b kind locks left (set tickets n None)
office_taken b kind locks left tickets n h = record {
  table = subst (IsBareTable b locks) (sym (length-set tickets n None)) h.table;
  kind_is = h.kind_is;
  few_contexts = h.few_contexts;
  tickets_are = λ k t e. h.tickets_are k t (still_left tickets n k t e);
}

-- the desk of a ticket that was taken is made
pub desk_made : {b : Board} {tickets : List (Option Ticket)} {locks left : ℕ} {kind : Kind} {t : Ticket} {d : Situation} (n : ℕ)
    → IsOffice b kind locks left tickets → n < length tickets → get_or tickets n None ≡ Some t
    → d ≡ fresh b.table.shared.table_id locks (length tickets) kind left t.who
    → HasMadeDesk (premises_of b locks left tickets) n d (premises_of b locks left (set tickets n None))
desk_made {b} {tickets} {locks} {left} n h low here is =
    let many : length (map is_none tickets) ≡ length tickets = length-map tickets is_none in record {
      there = omega (arith, many, low);
      unmade = made_at tickets n true low ∙ ap is_none here;
      desk = is ∙ (λ i. fresh b.table.shared.table_id locks (sym many i) (h.kind_is i) left ((h.tickets_are n _ here).1 i));
      after = ap (λ (made : List Bool). let p : Premises = record (premises_of b locks left tickets) { made = made } in p) (made_set tickets n);
    }
