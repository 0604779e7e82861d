-- A run of two threads at a table, play by play: the one takes the lock, the other sleeps for it, and
-- then the lock is released.
use Rattle.std.proofs.Common.{◌≡◌, ◌≢◌, inl, inr, ℕ, zero, suc, ◌<◌, true, false, true≢false, List, [], ◌∷◌, Some, None, refl, sym, ap, ◌∙◌, subst, arith}
use mathlib.Core.Option.{some}
use native.Mathlib.Decide.{ℕ_discrete}
use lib.ListN.{get_elem?}
use Rattle.std.specs.Prelude.{slice_index, slice_set, replicate, ◌++◌}
use Rattle.std.specs.List.{slice_index_or}
use Rattle.atomic_table.specs.Table.{stepped, keeps, opening}
use Rattle.ww_word.specs.declared.owner.Owner.{Owner}
use Rattle.ww_word.specs.Owner.{with_waiters}
use Rattle.ww_word.specs.AnySeats.{IsValid, packed}
use Rattle.ww_queue.specs.declared.kind.Kind.{Kind}
use Rattle.ww_queue.specs.declared.kind.Kind.TheVariants.{WoundWait, WaitDie}
use Rattle.ww_queue.specs.declared.entry.Entry.{Entry}
use Rattle.ww_queue.specs.Queue.{Has}
use Rattle.ww_queue.specs.Rules.{owed_signs}
use Rattle.ww_model.specs.declared.event.Event.TheVariants.{Begin, Fast, Guard, Give, Unguard}
use Rattle.ww_model.specs.State.{start, put}
use Rattle.ww_view.specs.Word.{given_word}
use Rattle.ww_view.specs.May.{HasPaid}
use Rattle.ww_view.specs.Made.{once_inside, fast_taken, found_uncancelled, given}
use Rattle.ww_invariant.specs.declared.cells.Cell.{Cell}
use Rattle.ww_invariant.specs.declared.cells.Cell.TheVariants.{Line}
use Rattle.ww_invariant.specs.declared.cells.Part.{Part}
use Rattle.ww_invariant.specs.declared.cells.Sight.{Sight}
use Rattle.ww_invariant.specs.declared.cells.Start.{Start}
use Rattle.ww_invariant.specs.Layout.{lock_at, owner_at, cancel_at, words_for, list_at, slots_for}
use Rattle.ww_invariant.specs.Rule.{St, Ruled, AreNodes, first_sight, wakes_owed}
use Rattle.ww_invariant.specs.Steps.{drawing, knowing, first_seat, without_first}
use Rattle.ww_invariant.specs.Guards.{entering, exiting}
use Rattle.ww_invariant.specs.Waiting.{joining}
use Rattle.ww_invariant.proofs.Seats.{opens, opens_start}
use Rattle.ww_laws.specs.Scene.{performs, leaves_to_sleep, finds_no_cancel}
use Rattle.ww_refines.specs.Moment.{HasToWake}
use Rattle.ww_refines.specs.Tables.{moment_of}
use Rattle.ww_refines.specs.Runs as runs
use Rattle.ww_refines.specs.Plays as play
use Rattle.ww_refines.proofs.Seating.{new_tables_begin}
use Rattle.ww_refines.proofs.Pictures.{Picture, At, Next, first_picture, played, parking, IsSeated, seated, part_is, acting, word_there, plays_then, parks_then, list_out, begins_as, begins_then, locks_as, locks_then, enters_as, enters_then, gone_in, ComesToWait, waits_as, comes_to_wait, exits_as, exits_then, sleeps_then}

-- ---- as many bare locks as the smallest world has, and two seats

abbrev pub least : ℕ
least = 65

abbrev pub small : Kind → Start
small kind = record {
  kind = kind;
  locks = least;
  seats = 2;
  places = 16;
  nodes = record { value = []; marker = record {} };
  bare = true;
}

abbrev cells : List Cell
cells = replicate (slots_for least) (Line [])

abbrev table_0 : Kind → St
table_0 kind = opening (replicate (words_for least 16) 0) cells (first_sight (small kind))

alike : (k i : ℕ) → i < k → get_elem? (replicate k (Line [])) i ≡ some (Line [])
alike zero i low = absurd (omega arith)
alike (suc k) zero low = refl
alike (suc k) (suc i) low = alike k i (omega arith)

line_there : (n : ℕ) → n < least → get_elem? cells (list_at n) ≡ some (Line [])
line_there n low = alike (slots_for least) (list_at n) (omega arith)

ruled_0 : (kind : Kind) → (r : Ruled (small kind) (table_0 kind)) × (r.core ≡ start kind least 16)
ruled_0 kind = let none : AreNodes [] = record { few = omega arith; closed = tt } in (
  opens (small kind) (omega arith) (omega arith) (inl refl) (omega arith) (omega arith) none cells refl
      (λ n low. absurd (omega arith)) line_there,
  (opens_start (small kind) (omega arith) (omega arith) (inl refl) (omega arith) (omega arith) none cells refl
      (λ n low. absurd (omega arith)) line_there).0,
)

pub at_0 : (kind : Kind) → At (small kind) (first_picture (small kind) (table_0 kind))
at_0 kind = let r = ruled_0 kind in let b = new_tables_begin (small kind) (table_0 kind) r.0 refl r.1 in record {
  base = b.moment;
  moment = moment_of b.moment;
  is_moment = refl;
  run = runs.begins (moment_of b.moment) b.first;
  is_table = b.table;
  is_core = b.first.core;
  rung = b.first.rung;
  risen = b.first.risen;
  token = b.first.token;
  asleep = b.first.asleep;
  heeding = b.first.heeds;
}

-- ---- whom the two have yet to wake

-- the one knows this, and the other that
pub record AreSeated (kind : Kind) (p : Picture) (v w : Sight) : Type 0 where
  pub first : IsSeated (small kind) p.table 1 0 v
  pub second : IsSeated (small kind) p.table 0 1 w

module _ {kind : Kind} {p : Picture} (a : At (small kind) p) {v w : Sight} (sit : AreSeated kind p v w) where
  pub first_is : v.part ≡ a.moment.part 0
  first_is = part_is a 1 0 v sit.first

  pub second_is : w.part ≡ a.moment.part 1
  second_is = part_is a 0 1 w sit.second

  pub nothing_owed : p.rung 0 1 ≡ wakes_owed v.part 1 → p.rung 1 0 ≡ wakes_owed w.part 0 → (s u : ℕ) → ¬ HasToWake a.moment s u
  nothing_owed paid_1 paid_0 zero zero h = h.other refl
  nothing_owed paid_1 paid_0 zero (suc zero) h = let few = h.owed in let given = ap (λ (f : ℕ → ℕ → ℕ). f 0 1) a.rung in
      let owed = ap (λ (q : Part). wakes_owed q 1) first_is in omega arith
  nothing_owed paid_1 paid_0 (suc zero) zero h = let few = h.owed in let given = ap (λ (f : ℕ → ℕ → ℕ). f 1 0) a.rung in
      let owed = ap (λ (q : Part). wakes_owed q 0) second_is in omega arith
  nothing_owed paid_1 paid_0 (suc zero) (suc zero) h = h.other refl
  nothing_owed paid_1 paid_0 (suc (suc s)) u h = let low = h.waker in omega arith
  nothing_owed paid_1 paid_0 s (suc (suc u)) h = let low = h.sleeper in omega arith

-- ---- what the two know after each play

-- the second as a waiter, and the wait list with it
abbrev pub second : Entry
second = record { seat = 1; stamp = 2; holds = false }

abbrev pub line : List Entry
line = second ∷ []

-- the first draws, takes the lock, goes inside the guard again, releases the lock, and comes out
abbrev pub holder_0 : Kind → Sight
holder_0 kind = first_seat 0 (first_sight (small kind)).idle

abbrev pub holder_1 : Kind → Sight
holder_1 kind = drawing (holder_0 kind) 1

abbrev pub holder_2 : Kind → Sight
holder_2 kind = knowing (holder_1 kind) (fast_taken (holder_1 kind).part.core 0)

abbrev holder_3 : Kind → Sight
holder_3 kind = entering (holder_2 kind) 0 line

abbrev holder_4 : Kind → Sight
holder_4 kind = knowing (holder_3 kind) (given (holder_3 kind).part.core 0 false)

abbrev pub holder_5 : Kind → Sight
holder_5 kind = exiting (holder_4 kind)

-- the second draws, comes to wait, finds no cancel, and comes out of the guard
abbrev pub waiter_0 : Kind → Sight
waiter_0 kind = without_first (first_sight (small kind))

abbrev pub waiter_1 : Kind → Sight
waiter_1 kind = drawing (waiter_0 kind) 2

-- the lock is the first one's
abbrev pub owner : Owner
owner = record { seat = Some 0; stamp = 1; flags = 0 }

abbrev waiter_2 : Kind → Sight
waiter_2 kind = joining (gone_in 0 [] (waiter_1 kind)) 0 owner

abbrev waiter_3 : Kind → Sight
waiter_3 kind = knowing (waiter_2 kind) (found_uncancelled (waiter_2 kind).part.core)

abbrev pub waiter_4 : Kind → Sight
waiter_4 kind = exiting (waiter_3 kind)

-- ---- the plays, until the first has the lock

none_owned : (k n : ℕ) → slice_index_or (replicate k false) n false ≡ false
none_owned zero n = refl
none_owned (suc k) zero = refl
none_owned (suc k) (suc n) = none_owned k n

pub bare : (n : ℕ) → slice_index_or (replicate least false) n false ≡ false
bare n = none_owned least n

abbrev pub table_1 : Kind → St
table_1 kind = record {
  words = (table_0 kind).words;
  homes = (table_0 kind).homes;
  views = waiter_0 kind ∷ holder_0 kind ∷ [];
}

abbrev pub p_1 : Kind → Picture
p_1 kind = first_picture (small kind) (table_1 kind)

pub cuts_off : (kind : Kind) → Next (at_0 kind) 1 None (p_1 kind)
cuts_off kind = let a = at_0 kind in let v = first_sight (small kind) in
    plays_then a 0 1 (v, []) (acting refl refl refl (omega arith) refl refl) None (table_1 kind) (record {
      found = _;
      is = λ i. record {
        words = (a.is_table i).words;
        homes = (a.is_table i).homes;
        views = slice_set (a.is_table i).views 0 (without_first v) ++ holder_0 kind ∷ [];
      };
      plays = play.cuts_off (holder_0 kind).part [] refl;
    })

abbrev pub p_2 : Kind → Picture
p_2 kind = begins_as (p_1 kind) 1 (holder_0 kind)

pub first_begins : (kind : Kind) → Next (cuts_off kind).at 0 (Some (performs (Begin 0))) (p_2 kind)
unfolding lock_at
first_begins kind = begins_then (cuts_off kind).at 1 0 (holder_0 kind) (acting refl refl refl (omega arith) refl refl)
    (record { away = (refl, refl); no_context = refl; bare = bare; fewer = omega arith }) (omega arith)

abbrev pub p_3 : Kind → Picture
p_3 kind = begins_as (p_2 kind) 0 (waiter_0 kind)

pub second_begins : (kind : Kind) → Next (first_begins kind).at 1 (Some (performs (Begin 1))) (p_3 kind)
unfolding lock_at
second_begins kind = begins_then (first_begins kind).at 0 1 (waiter_0 kind) (acting refl refl refl (omega arith) refl refl)
    (record { away = (refl, refl); no_context = refl; bare = bare; fewer = omega arith }) (omega arith)

abbrev pub p_4 : Kind → Picture
p_4 kind = locks_as (small kind) (p_3 kind) 1 0 (holder_1 kind)

pub first_locks : (kind : Kind) → Next (second_begins kind).at 0 (Some (performs (Fast 0 0))) (p_4 kind)
unfolding put ℕ_discrete lock_at
first_locks kind = locks_then (second_begins kind).at 1 0 (holder_1 kind) (acting refl refl refl (omega arith) refl refl) 0
    (omega arith) (omega arith) (record { away = (refl, refl); base = inl (omega arith); signs = inr (inl refl) }) refl

-- ---- the second goes inside the guard, and comes to wait

pub unsigned_inside : (kind : Kind) → once_inside kind 0 (Some 0) ≡ Some 0
unsigned_inside WoundWait = refl
unsigned_inside WaitDie = refl

pub is_valid : IsValid owner
is_valid = record { seating = inl (omega arith, omega arith); flags = inl refl }

pub is_valid_waited : IsValid (with_waiters owner)
is_valid_waited = record { seating = inl (omega arith, omega arith); flags = inr (inl refl) }

pub first_not_second : ◌≢◌ {A = ℕ} 0 1
first_not_second is = omega arith

pub second_not_first : ◌≢◌ {A = ℕ} 1 0
second_not_first is = omega arith

abbrev p_5 : Kind → Picture
p_5 kind = waits_as (small kind) (p_4 kind) 0 0 owner (waiter_1 kind)

second_waits : (kind : Kind) → ComesToWait (first_locks kind).at 0 1 0 owner (waiter_1 kind)
unfolding put ℕ_discrete lock_at
second_waits kind = comes_to_wait (first_locks kind).at 0 1 (waiter_1 kind) (acting refl refl refl (omega arith) refl refl) 0 owner
    (omega arith) (record { outside = refl; why = inr (inr (refl, refl, inl (omega arith), inr (inl refl))) }) refl
    (record {
      inside = refl;
      not_waiting = refl;
      base = inl (omega arith);
      signs = inr (inl (unsigned_inside kind));
      other = (0, refl, first_not_second);
    }) is_valid refl

abbrev table_6 : Kind → St
table_6 kind = stepped (p_5 kind).table (cancel_at least 1) 0 0 (list_out 0 (waiter_2 kind)) (waiter_3 kind) keeps

abbrev p_6 : Kind → Picture
p_6 kind = played (p_5 kind) (table_6 kind) (Some (finds_no_cancel 1))

second_looks : (kind : Kind) → Next (second_waits kind).joins.at 1 (Some (finds_no_cancel 1)) (p_6 kind)
unfolding put ℕ_discrete lock_at
second_looks kind = let a = (second_waits kind).joins.at in let out = list_out 0 (waiter_2 kind) in
    plays_then a 0 1 (waiter_2 kind, out) (acting refl refl refl (omega arith) refl refl) (Some (finds_no_cancel 1))
    (table_6 kind) (record {
      found = _;
      is = λ i. let x = slice_index (a.is_table i).words (cancel_at least 1) in
          stepped (a.is_table i) (cancel_at least 1) x 0 out (waiter_3 kind) keeps;
      plays = play.finds_uncancelled (word_there a (cancel_at least 1) 0 refl);
    })

signs_none : (kind : Kind) → owed_signs kind (with_waiters owner) line 1 ≡ []
signs_none WoundWait = refl
signs_none WaitDie = refl

has_paid : (kind : Kind) → HasPaid (waiter_3 kind).part.core
has_paid kind = record {
  word = with_waiters owner;
  seen = refl;
  signed = λ u k has. absurd (subst (λ (l : List (ℕ × ℕ)). Has l (u, k)) (signs_none kind) has);
  other = inr (0, refl, first_not_second);
  lives = λ _. refl;
}

abbrev p_7 : Kind → Picture
p_7 kind = exits_as (small kind) (p_6 kind) 0 0 (waiter_3 kind) (leaves_to_sleep 1 0 true)

second_exits : (kind : Kind) → Next (second_looks kind).at 1 (Some (leaves_to_sleep 1 0 true)) (p_7 kind)
unfolding put ℕ_discrete lock_at
second_exits kind = sleeps_then (second_looks kind).at 0 1 (waiter_3 kind) (acting refl refl refl (omega arith) refl refl) 0 true
    (record {
      exit = record { inside = refl; why = inr (has_paid kind); unsigned = λ _. inr (inr bare); unheeded = refl };
      acted = refl;
      again = λ later. absurd (true≢false (sym later));
      looked = λ _ _ _ own. absurd (true≢false (sym own.1 ∙ bare own.0));
    })
    refl (λ _. refl)

-- the second falls asleep
abbrev pub p_rest : Kind → Picture
p_rest kind = parking (p_7 kind) 1

pub second_sleeps : (kind : Kind) → At (small kind) (p_rest kind)
unfolding put ℕ_discrete lock_at
second_sleeps kind = let a = (second_exits kind).at in let sits : AreSeated kind (p_7 kind) (holder_2 kind) (waiter_4 kind) =
    record { first = seated refl refl refl (omega arith); second = seated refl refl refl (omega arith) } in
    (parks_then a 0 1 (waiter_4 kind) sits.second refl refl (nothing_owed a sits refl refl 1)).at

-- ---- the first goes inside the guard, releases the lock, and comes out

abbrev p_8 : Kind → Picture
p_8 kind = enters_as (small kind) (p_rest kind) 1 0 (holder_2 kind)

first_enters : (kind : Kind) → Next (second_sleeps kind) 0 (Some (performs (Guard 0 0))) (p_8 kind)
unfolding put ℕ_discrete lock_at
first_enters kind = enters_then (second_sleeps kind) 1 0 (holder_2 kind) (acting refl refl refl (omega arith) refl refl) 0
    (omega arith) (record { outside = refl; why = inl (refl, refl) }) refl

abbrev table_9 : Kind → St
table_9 kind = stepped (p_8 kind).table (owner_at least 0) (packed (given_word false line)) 1 (list_out 0 (holder_3 kind))
    (holder_4 kind) keeps

abbrev p_9 : Kind → Picture
p_9 kind = played (p_8 kind) (table_9 kind) (Some (performs (Give 0 0)))

first_gives : (kind : Kind) → Next (first_enters kind).at 0 (Some (performs (Give 0 0))) (p_9 kind)
unfolding put ℕ_discrete lock_at
first_gives kind = let a = (first_enters kind).at in let out = list_out 0 (holder_3 kind) in
    plays_then a 1 0 (holder_3 kind, out) (acting refl refl refl (omega arith) refl refl) (Some (performs (Give 0 0)))
    (table_9 kind) (record {
      found = _;
      is = λ i. stepped (a.is_table i) (owner_at least 0) (packed (given_word false line)) 1 out (holder_4 kind) keeps;
      plays = play.gives_bare_inside 0 (with_waiters owner) (omega arith) (record { inside = refl; owns = refl })
          is_valid_waited (word_there a (owner_at least 0) (packed (with_waiters owner)) refl);
    })

abbrev pub p_10 : Kind → Picture
p_10 kind = exits_as (small kind) (p_9 kind) 1 0 (holder_4 kind) (performs (Unguard 0 0))

pub first_exits : (kind : Kind) → At (small kind) (p_10 kind)
unfolding put ℕ_discrete lock_at
first_exits kind = (exits_then (first_gives kind).at 1 0 (holder_4 kind) (acting refl refl refl (omega arith) refl refl) 0
    (record { inside = refl; why = inl (refl, refl); unsigned = λ _. inr (inr bare); unheeded = refl }) refl).at
