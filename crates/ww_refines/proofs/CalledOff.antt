-- A wait that ends, as all do where threads are scheduled and holders go on: the second called its own wait off before, and
-- the first releases the lock then.
use Rattle.std.proofs.Common.{◌≡◌, ◌≢◌, inl, inr, ℕ, zero, suc, ◌<◌, Bool, false, true≢false, [], Option, Some, None, refl, sym, ap, ◌∙◌, subst, arith}
use native.Mathlib.Decide.{ℕ_discrete}
use Rattle.std.specs.Prelude.{slice_index, slice_index_or}
use Rattle.atomic_table.specs.Table.{stepped, keeps}
use Rattle.ww_word.specs.Owner.{with_waiters}
use Rattle.ww_word.specs.AnySeats.{packed}
use Rattle.ww_queue.specs.declared.kind.Kind.{Kind}
use Rattle.ww_model.specs.declared.event.Event.TheVariants.{FastGive, Unguard, Cancel, Heed, Leave}
use Rattle.ww_model.specs.State.{put}
use Rattle.ww_view.specs.Word.{rest_word}
use Rattle.ww_view.specs.View.{owns}
use Rattle.ww_view.specs.Made.{fast_given}
use Rattle.ww_invariant.specs.declared.cells.Part.{Part}
use Rattle.ww_invariant.specs.declared.cells.Sight.{Sight}
use Rattle.ww_invariant.specs.Layout.{lock_at, owner_at, cancel_at}
use Rattle.ww_invariant.specs.Steps.{knowing}
use Rattle.ww_invariant.specs.Guards.{exiting}
use Rattle.ww_invariant.specs.Waiting.{joining}
use Rattle.ww_invariant.specs.Cancels.{cancelling, heeding, stopping}
use Rattle.ww_laws.specs.Scene.{Step, performs}
use Rattle.ww_invariant.specs.Rule.{wakes_owed}
use Rattle.ww_refines.specs.Moment.{Moment, view, HasToWake}
use Rattle.ww_refines.specs.Moves.{Follows}
use Rattle.ww_refines.specs.Plays as play
use Rattle.ww_refines.specs.Deadlocks.{IsScheduledThere, HoldersGoOnThere, WaitsAreInEndlessRuns}
use Rattle.ww_refines.proofs.Standstill.{idles}
use Rattle.ww_refines.proofs.Pictures.{Picture, At, Next, played, seated, acting, word_there, plays_then, list_out, gone_in, ComesToWait, waits_as, comes_to_wait, gives_as, gives_then, exits_as, exits_then}
use Rattle.ww_refines.proofs.Small.{least, small, AreSeated, first_is, second_is, nothing_owed, owner, waiter_1, holder_2, p_4, first_locks, bare, unsigned_inside, is_valid, is_valid_waited, first_not_second}

-- ---- what the second knows after each play: it cancels itself, comes to wait, heeds, leaves the list, and comes out

abbrev pub off_1 : Kind → Sight
off_1 kind = cancelling (waiter_1 kind) 1

abbrev off_2 : Kind → Sight
off_2 kind = joining (gone_in 0 [] (off_1 kind)) 0 owner

abbrev off_3 : Kind → Sight
off_3 kind = heeding (off_2 kind) 2

abbrev off_4 : Kind → Sight
off_4 kind = stopping (off_3 kind) (with_waiters owner)

abbrev pub off_5 : Kind → Sight
off_5 kind = exiting (off_4 kind)

-- the first has released the lock
abbrev pub free : Kind → Sight
free kind = knowing (holder_2 kind) (fast_given (holder_2 kind).part.core 0)

-- ---- until it has heeded its cancel

abbrev pub p_5 : Kind → Picture
p_5 kind = let p = p_4 kind in
    played p (stepped p.table (cancel_at least 1) 2 0 [] (off_1 kind) keeps) (Some (performs (Cancel 1 1)))

pub cancels : (kind : Kind) → Next (first_locks kind).at 1 (Some (performs (Cancel 1 1))) (p_5 kind)
unfolding put ℕ_discrete lock_at
cancels kind = let a = (first_locks kind).at in
    plays_then a 0 1 (waiter_1 kind, []) (acting refl refl refl (omega arith) refl refl) (Some (performs (Cancel 1 1))) _ (record {
      found = _;
      is = λ i. stepped (a.is_table i) (cancel_at least 1) 2 0 [] (off_1 kind) keeps;
      plays = play.cancels 1 (refl, refl) (omega arith) (word_there a (cancel_at least 1) 0 refl);
    })

abbrev pub p_6 : Kind → Picture
p_6 kind = waits_as (small kind) (p_5 kind) 0 0 owner (off_1 kind)

pub waits : (kind : Kind) → ComesToWait (cancels kind).at 0 1 0 owner (off_1 kind)
unfolding put ℕ_discrete lock_at
waits kind = comes_to_wait (cancels kind).at 0 1 (off_1 kind) (acting refl refl refl (omega arith) refl refl) 0 owner (omega arith)
    (record { outside = refl; why = inr (inr (refl, refl, inl (omega arith), inr (inl refl))) }) refl
    (record {
      inside = refl;
      not_waiting = refl;
      base = inl (omega arith);
      signs = inr (inl (unsigned_inside kind));
      other = (0, refl, first_not_second);
    }) is_valid refl

abbrev pub p_7 : Kind → Picture
p_7 kind = let p = p_6 kind in
    played p (stepped p.table (cancel_at least 1) 0 0 (list_out 0 (off_2 kind)) (off_3 kind) keeps) (Some (performs (Heed 1 0)))

pub heeds : (kind : Kind) → Next (waits kind).joins.at 1 (Some (performs (Heed 1 0))) (p_7 kind)
unfolding put ℕ_discrete lock_at
heeds kind = let a = (waits kind).joins.at in let out = list_out 0 (off_2 kind) in
    plays_then a 0 1 (off_2 kind, out) (acting refl refl refl (omega arith) refl refl) (Some (performs (Heed 1 0))) _ (record {
      found = _;
      is = λ i. let x = slice_index (a.is_table i).words (cancel_at least 1) in
          stepped (a.is_table i) (cancel_at least 1) 0 0 out (heeding (off_2 kind) x) keeps;
      plays = play.heeds 0
          (record { inside = refl; waits = refl; other = (with_waiters owner, refl, (0, refl, first_not_second)); unheeded = refl })
          (λ none. let set = word_there a (cancel_at least 1) 2 refl in omega arith);
    })

-- ---- from then on

abbrev pub p_8 : Kind → Picture
p_8 kind = let p = p_7 kind in
    played p (stepped p.table (owner_at least 0) (packed (rest_word [] (with_waiters owner))) 0 (list_out 0 (off_3 kind)) (off_4 kind) keeps)
    (Some (performs (Leave 1 0)))

pub leaves_list : (kind : Kind) → Next (heeds kind).at 1 (Some (performs (Leave 1 0))) (p_8 kind)
unfolding put ℕ_discrete lock_at
leaves_list kind = let a = (heeds kind).at in let out = list_out 0 (off_3 kind) in
    plays_then a 0 1 (off_3 kind, out) (acting refl refl refl (omega arith) refl refl) (Some (performs (Leave 1 0))) _ (record {
      found = _;
      is = λ i. stepped (a.is_table i) (owner_at least 0) (packed (rest_word [] (with_waiters owner))) 0 out (off_4 kind) keeps;
      plays = play.leaves 0 (with_waiters owner) (record { inside = refl; waits = refl; heeded = λ none. omega arith })
          is_valid_waited (word_there a (owner_at least 0) (packed (with_waiters owner)) refl);
    })

abbrev pub p_9 : Kind → Picture
p_9 kind = exits_as (small kind) (p_8 kind) 0 0 (off_4 kind) (performs (Unguard 1 0))

pub comes_out : (kind : Kind) → Next (leaves_list kind).at 1 (Some (performs (Unguard 1 0))) (p_9 kind)
unfolding put ℕ_discrete lock_at
comes_out kind = exits_then (leaves_list kind).at 0 1 (off_4 kind) (acting refl refl refl (omega arith) refl refl) 0
    (record { inside = refl; why = inl (refl, refl); unsigned = λ _. inr (inr bare); unheeded = refl }) refl

abbrev pub p_10 : Kind → Picture
p_10 kind = gives_as (small kind) (p_9 kind) 1 0 (holder_2 kind)

pub releases : (kind : Kind) → Next (comes_out kind).at 0 (Some (performs (FastGive 0 0))) (p_10 kind)
unfolding put ℕ_discrete lock_at
releases kind = gives_then (comes_out kind).at 1 0 (holder_2 kind) (acting refl refl refl (omega arith) refl refl) 0 (omega arith)
    (omega arith) (refl, refl) refl refl

-- ---- at each of these moments

-- nobody has a token, sleeps or is owed a wake, and the second waits at this lock, or nowhere
pub record IsCalm {kind : Kind} (m : Moment (small kind)) (waits : ℕ) : Type 0 where
  pub token : (s : ℕ) → m.token s ≡ false
  pub unowed : (s u : ℕ) → ¬ HasToWake m s u
  pub risen : (s : ℕ) → m.risen s ≡ 0
  pub naps : (s : ℕ) → s < 2 → (view m s).naps ≡ 0
  pub first : (view m 0).waits ≡ 0
  pub second : (view m 1).waits ≡ waits

module _ {kind : Kind} {p : Picture} (a : At (small kind) p) {v w : Sight} (sit : AreSeated kind p v w)
    (no_token : (s : ℕ) → p.token s ≡ false) (paid_1 : p.rung 0 1 ≡ wakes_owed v.part 1) (paid_0 : p.rung 1 0 ≡ wakes_owed w.part 0)
    (v_naps : v.part.core.naps ≡ 0) (w_naps : w.part.core.naps ≡ 0) (v_waits : v.part.core.waits ≡ 0) where
  no_naps : (s : ℕ) → s < 2 → (view a.moment s).naps ≡ 0
  no_naps zero low = ap (λ (q : Part). q.core.naps) (sym (first_is a sit)) ∙ v_naps
  no_naps (suc zero) low = ap (λ (q : Part). q.core.naps) (sym (second_is a sit)) ∙ w_naps
  no_naps (suc (suc s)) low = absurd (omega arith)

  is_calm : (waits : ℕ) → w.part.core.waits ≡ waits → IsCalm a.moment waits
  is_calm waits stands = record {
    token = λ s. ap (λ (f : ℕ → Bool). f s) a.token ∙ no_token s;
    unowed = nothing_owed a sit paid_1 paid_0;
    risen = λ s. ap (λ (f : ℕ → ℕ). f s) a.risen;
    naps = no_naps;
    first = ap (λ (q : Part). q.core.waits) (sym (first_is a sit)) ∙ v_waits;
    second = ap (λ (q : Part). q.core.waits) (sym (second_is a sit)) ∙ stands;
  }

module _ (kind : Kind) where
  abbrev pub moment : ℕ → Moment (small kind)
  moment zero = (heeds kind).at.moment
  moment (suc zero) = (leaves_list kind).at.moment
  moment (suc (suc zero)) = (comes_out kind).at.moment
  moment (suc (suc (suc i))) = (releases kind).at.moment

  abbrev pub move : ℕ → Option Step
  move zero = Some (performs (Leave 1 0))
  move (suc zero) = Some (performs (Unguard 1 0))
  move (suc (suc zero)) = Some (performs (FastGive 0 0))
  move (suc (suc (suc i))) = None

  sit_before : AreSeated kind (p_7 kind) (holder_2 kind) (off_3 kind)
  unfolding put ℕ_discrete lock_at
  sit_before = record { first = seated refl refl refl (omega arith); second = seated refl refl refl (omega arith) }

  sit_then : AreSeated kind (p_10 kind) (free kind) (off_5 kind)
  unfolding put ℕ_discrete lock_at
  sit_then = record { first = seated refl refl refl (omega arith); second = seated refl refl refl (omega arith) }

  abbrev waits_at : ℕ → ℕ
  waits_at zero = 1
  waits_at (suc i) = 0

  follows : (i : ℕ) → Follows (moment i) (moment (suc i)) (move i)
  follows zero = (leaves_list kind).follows
  follows (suc zero) = (comes_out kind).follows
  follows (suc (suc zero)) = (releases kind).follows
  follows (suc (suc (suc i))) = idles (releases kind).at.moment

  pub calm : (i : ℕ) → IsCalm (moment i) (waits_at i)
  unfolding put ℕ_discrete lock_at
  calm zero = is_calm (heeds kind).at sit_before (λ s. refl) refl refl refl refl refl 1 refl
  calm (suc zero) = is_calm (leaves_list kind).at {v = holder_2 kind} {w = off_4 kind} (record {
    first = seated refl refl refl (omega arith);
    second = seated refl refl refl (omega arith);
  }) (λ s. refl) refl refl refl refl refl 0 refl
  calm (suc (suc zero)) = is_calm (comes_out kind).at {v = holder_2 kind} {w = off_5 kind} (record {
    first = seated refl refl refl (omega arith);
    second = seated refl refl refl (omega arith);
  }) (λ s. refl) refl refl refl refl refl 0 refl
  calm (suc (suc (suc i))) = is_calm (releases kind).at sit_then (λ s. refl) refl refl refl refl refl 0 refl

  -- only the second waits, at the first moment alone, inside the guard of the lock
  waits_once : (i s n : ℕ) → s < 2 → (view (moment i) s).waits ≡ suc n → (i ≡ 0) × (s ≡ 1) × (n ≡ 0)
  waits_once i zero n low waits = let none = (calm i).first in absurd (omega arith)
  waits_once zero (suc zero) n low waits = let one = (calm 0).second in (refl, refl, omega arith)
  waits_once (suc i) (suc zero) n low waits = let none = (calm (suc i)).second in absurd (omega arith)
  waits_once i (suc (suc s)) n low waits = absurd (omega arith)

  pub scheduled : (s : ℕ) → s < 2 → IsScheduledThere moment move s
  scheduled s low = record {
    made = λ i t has. absurd ((calm i).unowed t s has);
    heard = λ i token sleeps. absurd (true≢false (sym token ∙ (calm i).token s));
    settled = λ i rests. let due = rests.due in let none = (calm i).naps s low in let rose = (calm i).risen s in absurd (omega arith);
    looks = λ i n waits acts. let h = waits_once i s n low waits in (
      i,
      omega arith,
      subst (λ x. (view (moment x) s).inside ≡ suc n) (sym h.0)
          (subst (λ x. (view (moment 0) x).inside ≡ suc n) (sym h.1)
          (let a = h.2 in let b = ap (λ (q : Part). q.core.inside) (sym (second_is (heeds kind).at sit_before)) in omega arith)),
    );
    leaves = λ i n waits inside. let h = waits_once i s n low waits in (
      1,
      (let a = h.0 in omega arith),
      inr (subst (λ x. (view (moment 1) x).waits ≢ suc n) (sym h.1) (λ still. let none = (calm 1).second in omega arith)),
    );
  }

  bare_then : (s n : ℕ) → s < 2 → owns (view (releases kind).at.moment s) n ≡ false
  bare_then zero n low = ap (λ (q : Part). slice_index_or q.core.owned n false) (sym (first_is (releases kind).at sit_then)) ∙ bare n
  bare_then (suc zero) n low = ap (λ (q : Part). slice_index_or q.core.owned n false) (sym (second_is (releases kind).at sit_then)) ∙ bare n
  bare_then (suc (suc s)) n low = absurd (omega arith)

  pub go_on : HoldersGoOnThere moment
  go_on zero s n low owner waits = (3, omega arith, inl (bare_then s n low))
  go_on (suc zero) s n low owner waits = (3, omega arith, inl (bare_then s n low))
  go_on (suc (suc zero)) s n low owner waits = (3, omega arith, inl (bare_then s n low))
  go_on (suc (suc (suc i))) s n low owner waits = (suc (suc (suc i)), omega arith, inl (bare_then s n low))

pub waits_are_in_endless_runs : WaitsAreInEndlessRuns
waits_are_in_endless_runs kind = record {
  key = small kind;
  moment = moment kind;
  move = move kind;
  seat = 1;
  lock = 0;
  of_kind = refl;
  low = omega arith;
  endless = record { begins = (heeds kind).at.run; goes_on = follows kind };
  scheduled = scheduled kind;
  go_on = go_on kind;
  waits = (calm kind 0).second;
}
