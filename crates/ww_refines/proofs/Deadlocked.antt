-- Two threads at a table with two locks, play by play, until they are deadlocked.
use Rattle.std.proofs.Common.{⊎_elim, inl, inr, ℕ, ◌≡◌, true, false, true≢false, List, [], ◌∷◌, Some, None, refl, sym, ap, arith}
use native.Mathlib.Decide.{ℕ_discrete}
use Rattle.std.specs.Prelude.{slice_index}
use Rattle.atomic_table.specs.Table.{stepped, keeps}
use Rattle.ww_word.specs.declared.owner.Owner.{Owner}
use Rattle.ww_word.specs.Owner.{with_waiters}
use Rattle.ww_word.specs.AnySeats.{IsValid}
use Rattle.ww_queue.specs.declared.kind.Kind.{Kind}
use Rattle.ww_queue.specs.declared.kind.Kind.TheVariants.{WoundWait, WaitDie}
use Rattle.ww_queue.specs.declared.entry.Entry.{Entry}
use Rattle.ww_model.specs.declared.event.Event.TheVariants.{Fast, Sign}
use Rattle.ww_model.specs.State.{put}
use Rattle.ww_view.specs.Made.{fast_taken, found_none, has_read}
use Rattle.ww_invariant.specs.declared.cells.Sight.{Sight}
use Rattle.ww_invariant.specs.Layout.{lock_at, sign_at}
use Rattle.ww_invariant.specs.Steps.{knowing}
use Rattle.ww_invariant.specs.Guards.{exiting}
use Rattle.ww_invariant.specs.Waiting.{joining}
use Rattle.ww_invariant.specs.Signs.{condemning}
use Rattle.ww_laws.specs.Scene.{performs, leaves_to_sleep, finds_no_sign, wakes, falls_asleep}
use Rattle.ww_refines.specs.Plays as play
use Rattle.ww_refines.proofs.Pictures.{Picture, Next, Beside, rung_by, asleep_by, played, waking, parking, seated, acting, word_there, plays_then, wakes_then, parks_then, list_out, locks_as, locks_then, gone_in, ComesToWait, waits_as, comes_to_wait, exits_as, sleeps_then}
use Rattle.ww_refines.proofs.Small.{least, small, AreSeated, nothing_owed, owner, is_valid, first_not_second, second_not_first, holder_2, waiter_1, p_4, first_locks}

-- ---- what the two know after each play, alike in both kinds

-- the owner of lock 1; lock 0 has `owner`
abbrev pub younger : Owner
younger = record { seat = Some 1; stamp = 2; flags = 0 }

-- the younger takes lock 1
abbrev pub b_2 : Kind → Sight
b_2 kind = knowing (waiter_1 kind) (fast_taken (waiter_1 kind).part.core 1)

-- each once it stands in the list of the other's lock
abbrev a_3 : Kind → Sight
a_3 kind = joining (gone_in 1 [] (holder_2 kind)) 1 younger

abbrev pub b_3 : Kind → Sight
b_3 kind = joining (gone_in 0 [] (b_2 kind)) 0 owner

-- ---- until each has a lock, and stands in the list of the other's

abbrev pub p_5 : Kind → Picture
p_5 kind = locks_as (small kind) (p_4 kind) 0 1 (waiter_1 kind)

pub younger_locks : (kind : Kind) → Next (first_locks kind).at 1 (Some (performs (Fast 1 1))) (p_5 kind)
unfolding put ℕ_discrete lock_at
younger_locks kind = locks_then (first_locks kind).at 0 1 (waiter_1 kind) (acting refl refl refl (omega arith) refl refl) 1
    (omega arith) (omega arith) (record { away = (refl, refl); base = inl (omega arith); signs = inr (inl refl) }) refl

is_valid_younger : IsValid younger
is_valid_younger = record { seating = inl (omega arith, omega arith); flags = inl refl }

abbrev p_6 : Kind → Picture
p_6 kind = waits_as (small kind) (p_5 kind) 1 1 younger (holder_2 kind)

pub older_waits : (kind : Kind) → ComesToWait (younger_locks kind).at 1 0 1 younger (holder_2 kind)
unfolding put ℕ_discrete lock_at
older_waits kind = comes_to_wait (younger_locks kind).at 1 0 (holder_2 kind) (acting refl refl refl (omega arith) refl refl) 1
    younger (omega arith) (record { outside = refl; why = inr (inr (refl, refl, inl (omega arith), inr (inr (inl (0, refl))))) })
    refl (record {
      inside = refl;
      not_waiting = refl;
      base = inl (omega arith);
      signs = inr (inr (inl (0, refl)));
      other = (1, refl, second_not_first);
    }) is_valid_younger refl

abbrev pub p_7 : Kind → Picture
p_7 kind = waits_as (small kind) (p_6 kind) 0 0 owner (b_2 kind)

pub younger_waits : (kind : Kind) → ComesToWait (older_waits kind).joins.at 0 1 0 owner (b_2 kind)
unfolding put ℕ_discrete lock_at
younger_waits kind = comes_to_wait (older_waits kind).joins.at 0 1 (b_2 kind) (acting refl refl refl (omega arith) refl refl) 0
    owner (omega arith) (record { outside = refl; why = inr (inr (refl, refl, inl (omega arith), inr (inr (inl (1, refl))))) })
    refl (record {
      inside = refl;
      not_waiting = refl;
      base = inl (omega arith);
      signs = inr (inr (inl (1, refl)));
      other = (0, refl, first_not_second);
    }) is_valid refl

-- the list of lock 0 then
abbrev pub younger_in_list : List Entry
younger_in_list = record { seat = 1; stamp = 2; holds = true } ∷ []

-- ---- in Wait-Die the older finds that it has no sign, comes out, and falls asleep

abbrev aged : Sight
aged = knowing (a_3 WaitDie) (has_read (a_3 WaitDie).part.core 0)

abbrev pub aged_out : Sight
aged_out = exiting aged

abbrev dying_8 : Picture
dying_8 = let p = p_7 WaitDie in
    played p (stepped p.table (sign_at least 0) 0 1 (list_out 1 (a_3 WaitDie)) aged keeps) (Some (finds_no_sign 0))

pub finds_unsigned : Next (younger_waits WaitDie).joins.at 0 (Some (finds_no_sign 0)) dying_8
unfolding put ℕ_discrete lock_at
finds_unsigned = let a = (younger_waits WaitDie).joins.at in let out = list_out 1 (a_3 WaitDie) in
    plays_then a 1 0 (a_3 WaitDie, out) (acting refl refl refl (omega arith) refl refl) (Some (finds_no_sign 0)) _ (record {
      found = _;
      is = λ i. let x = slice_index (a.is_table i).words (sign_at least 0) in
          stepped (a.is_table i) (sign_at least 0) x 1 out aged keeps;
      plays = play.finds_unsigned_for_long (word_there a (sign_at least 0) 0 refl)
          (inr (refl, λ is. let z : 2 ≡ 0 = is in omega arith));
    })

abbrev dying_9 : Picture
dying_9 = exits_as (small WaitDie) dying_8 1 1 aged (leaves_to_sleep 0 1 false)

pub aged_exits : Next finds_unsigned.at 0 (Some (leaves_to_sleep 0 1 false)) dying_9
unfolding put ℕ_discrete lock_at
aged_exits = sleeps_then finds_unsigned.at 1 0 aged (acting refl refl refl (omega arith) refl refl) 1 false
    (record {
      exit = record {
        inside = refl;
        why = inr (record {
          word = with_waiters younger;
          seen = refl;
          signed = λ u k has. absurd has;
          other = inr (1, refl, second_not_first);
          lives = λ _. refl;
        });
        unsigned = λ _. inr (inl refl);
        unheeded = refl;
      };
      acted = refl;
      again = λ later. absurd (true≢false (sym later));
      looked = λ is. absurd (cc);
    })
    refl (λ heeds. absurd (true≢false (sym heeds)))

abbrev pub dying_10 : Picture
dying_10 = parking dying_9 0

pub aged_sleeps : Beside aged_exits.at (Some (falls_asleep 0)) (asleep_by aged_exits.at.moment 0) dying_10
unfolding put ℕ_discrete lock_at
aged_sleeps = let sits : AreSeated WaitDie dying_9 aged_out (b_3 WaitDie) =
    record { first = seated refl refl refl (omega arith); second = seated refl refl refl (omega arith) } in
    parks_then aged_exits.at 1 0 aged_out sits.first refl refl (nothing_owed aged_exits.at sits refl refl 0)

-- ---- in Wound-Wait it signs the younger, finds that it has no sign, and comes out; it wakes the younger, and falls asleep

abbrev wounding : Sight
wounding = condemning (a_3 WoundWait) 1

abbrev wounded : Sight
wounded = knowing wounding (found_none wounding.part.core)

abbrev pub wounded_out : Sight
wounded_out = exiting wounded

abbrev wound_8 : Picture
wound_8 = let p = p_7 WoundWait in
    played p (stepped p.table (sign_at least 1) 1 1 (list_out 1 (a_3 WoundWait)) wounding keeps) (Some (performs (Sign 0 1)))

pub signs : Next (younger_waits WoundWait).joins.at 0 (Some (performs (Sign 0 1))) wound_8
unfolding put ℕ_discrete lock_at
signs = let a = (younger_waits WoundWait).joins.at in let out = list_out 1 (a_3 WoundWait) in
    plays_then a 1 0 (a_3 WoundWait, out) (acting refl refl refl (omega arith) refl refl) (Some (performs (Sign 0 1))) _ (record {
      found = _;
      is = λ i. stepped (a.is_table i) (sign_at least 1) 1 1 out wounding keeps;
      plays = play.signs 1 1 1 (record { inside = refl; owes = (with_waiters younger, refl, inl refl) }) (omega arith)
          (word_there a (sign_at least 1) 0 refl);
    })

abbrev wound_9 : Picture
wound_9 = let p = wound_8 in
    played p (stepped p.table (sign_at least 0) 0 1 (list_out 1 wounding) wounded keeps) (Some (finds_no_sign 0))

pub finds_none : Next signs.at 0 (Some (finds_no_sign 0)) wound_9
unfolding put ℕ_discrete lock_at
finds_none = let a = signs.at in let out = list_out 1 wounding in
    plays_then a 1 0 (wounding, out) (acting refl refl refl (omega arith) refl refl) (Some (finds_no_sign 0)) _ (record {
      found = _;
      is = λ i. let x = slice_index (a.is_table i).words (sign_at least 0) in
          stepped (a.is_table i) (sign_at least 0) x 1 out wounded keeps;
      plays = play.finds_unsigned (word_there a (sign_at least 0) 0 refl);
    })

abbrev wound_10 : Picture
wound_10 = exits_as (small WoundWait) wound_9 1 1 wounded (leaves_to_sleep 0 1 false)

pub wounded_exits : Next finds_none.at 0 (Some (leaves_to_sleep 0 1 false)) wound_10
unfolding put ℕ_discrete lock_at
wounded_exits = sleeps_then finds_none.at 1 0 wounded (acting refl refl refl (omega arith) refl refl) 1 false
    (record {
      exit = record {
        inside = refl;
        why = inr (record {
          word = with_waiters younger;
          seen = refl;
          signed = λ u k has. ⊎_elim (λ is. inl (ap (λ (p : ℕ × ℕ). p.0) is)) (λ none. inr none) has;
          other = inr (1, refl, second_not_first);
          lives = λ is. absurd (cc);
        });
        unsigned = λ is. absurd (cc);
        unheeded = refl;
      };
      acted = refl;
      again = λ later. absurd (true≢false (sym later));
      looked = λ _ _ _ _. refl;
    })
    refl (λ heeds. absurd (true≢false (sym heeds)))

abbrev pub wound_11 : Picture
wound_11 = waking wound_10 0 1 wounded_out.part

pub wounded_wakes : Beside wounded_exits.at (Some (wakes 0 1)) (rung_by wounded_exits.at.moment 0 1) wound_11
unfolding put ℕ_discrete lock_at
wounded_wakes = wakes_then wounded_exits.at 1 0 1 wounded_out (seated refl refl refl (omega arith)) refl refl (omega arith)

abbrev pub wound_12 : Picture
wound_12 = parking wound_11 0

pub wounded_sleeps : Beside wounded_wakes.at (Some (falls_asleep 0)) (asleep_by wounded_wakes.at.moment 0) wound_12
unfolding put ℕ_discrete lock_at
wounded_sleeps = let sits : AreSeated WoundWait wound_11 wounded_out (b_3 WoundWait) =
    record { first = seated refl refl refl (omega arith); second = seated refl refl refl (omega arith) } in
    parks_then wounded_wakes.at 1 0 wounded_out sits.first refl refl (nothing_owed wounded_wakes.at sits refl refl 0)

-- ... and the younger reads its sign
abbrev pub b_4 : Sight
b_4 = knowing (b_3 WoundWait) (has_read (b_3 WoundWait).part.core 1)

abbrev pub wound_13 : Picture
wound_13 = let p = wound_12 in played p (stepped p.table (sign_at least 1) 1 0 (list_out 0 (b_3 WoundWait)) b_4 keeps) None

pub finds_sign : Next wounded_sleeps.at 1 None wound_13
unfolding put ℕ_discrete lock_at
finds_sign = let a = wounded_sleeps.at in let out = list_out 0 (b_3 WoundWait) in
    plays_then a 0 1 (b_3 WoundWait, out) (acting refl refl refl (omega arith) refl refl) None _ (record {
      found = _;
      is = λ i. let k = slice_index (a.is_table i).words (sign_at least 1) in
          stepped (a.is_table i) (sign_at least 1) k 0 out (knowing (b_3 WoundWait) (has_read (b_3 WoundWait).part.core k)) keeps;
      plays = play.finds _ _ (play.is_signed (λ none. let z = word_there a (sign_at least 1) 1 refl in omega arith));
    })
