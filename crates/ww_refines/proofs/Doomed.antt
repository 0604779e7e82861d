-- A deadlock of two threads, one of which dies, while the other sleeps: an endless run in which both are scheduled.
use Rattle.std.proofs.Common.{◌≡◌, ⊎_elim, inl, inr, ℕ, zero, suc, Bool, true, false, true≢false, [], ◌∷◌, Option, Some, None, refl, sym, ap, ◌∙◌, subst, arith}
use native.Mathlib.Decide.{ℕ_discrete}
use Rattle.std.specs.Prelude.{slice_index}
use Rattle.atomic_table.proofs.Lists.{set_here, set_else}
use Rattle.ww_word.specs.Owner.{with_waiters}
use Rattle.ww_word.specs.AnySeats.{packed}
use Rattle.ww_queue.specs.declared.kind.Kind.{Kind}
use Rattle.ww_queue.specs.declared.kind.Kind.TheVariants.{WoundWait, WaitDie}
use Rattle.ww_model.specs.declared.event.Event.TheVariants.{Die, Unguard}
use Rattle.ww_model.specs.State.{State, put}
use Rattle.ww_view.specs.May.{MayDie, MayExit}
use Rattle.ww_invariant.specs.declared.cells.Part.{Part}
use Rattle.ww_invariant.specs.declared.cells.Sight.{Sight}
use Rattle.ww_invariant.specs.Layout.{lock_at, owner_at}
use Rattle.ww_invariant.specs.Rule.{St, wakes_owed}
use Rattle.ww_invariant.specs.Guards.{exiting}
use Rattle.ww_invariant.specs.Waiting.{dying}
use Rattle.ww_invariant.proofs.Fits.{place_low}
use Rattle.ww_laws.specs.Scene.{Step, performs}
use Rattle.ww_laws.specs.Premises.{InTheEnd}
use Rattle.ww_laws.specs.GoingOn.{AreDeadlocked}
use Rattle.ww_laws.proofs.Deadlocks.{are_deadlocked}
use Rattle.ww_refines.specs.Moment.{Moment, core, view, HasToWake}
use Rattle.ww_refines.specs.Moves.{Follows}
use Rattle.ww_refines.specs.Deadlocks.{IsScheduledThere, HasDeadlockThere, DeadlocksAreInEndlessRuns}
use Rattle.ww_refines.proofs.Standstill.{idles}
use Rattle.ww_refines.proofs.Pictures.{Picture, At, Next, played, seated, dies_as, dies_then, exits_as, exits_then}
use Rattle.ww_refines.proofs.Small.{least, small, AreSeated, first_is, second_is, nothing_owed, owner, is_valid_waited, first_not_second, second_not_first}
use Rattle.ww_refines.proofs.Deadlocked.{aged_out, wounded_out, b_3, b_4, dying_10, wound_13, aged_sleeps, finds_sign}

-- ---- what holds as long as nothing more happens

-- The older sleeps undisturbed, and the younger waits for lock 0, or doesn't.
pub record IsPending {kind : Kind} (m : Moment (small kind)) (waits : ℕ) : Type 0 where
  pub sleeps : m.asleep 0 ≡ true
  pub awake : m.asleep 1 ≡ false
  pub no_token : m.token 0 ≡ false
  pub unowed : (s u : ℕ) → ¬ HasToWake m s u
  pub outside : (view m 0).inside ≡ 0
  pub naps : (view m 1).naps ≡ 0
  pub stands : (view m 1).waits ≡ waits

module _ {kind : Kind} {p : Picture} (a : At (small kind) p) {v w : Sight} (sit : AreSeated kind p v w)
    (sleeper : p.asleep 0 ≡ true) (awake : p.asleep 1 ≡ false) (no_token : p.token 0 ≡ false)
    (paid_1 : p.rung 0 1 ≡ wakes_owed v.part 1) (paid_0 : p.rung 1 0 ≡ wakes_owed w.part 0)
    (outside : v.part.core.inside ≡ 0) (naps : w.part.core.naps ≡ 0) where
  is_pending : (waits : ℕ) → w.part.core.waits ≡ waits → IsPending a.moment waits
  is_pending waits stands = record {
    sleeps = ap (λ (f : ℕ → Bool). f 0) a.asleep ∙ sleeper;
    awake = ap (λ (f : ℕ → Bool). f 1) a.asleep ∙ awake;
    no_token = ap (λ (f : ℕ → Bool). f 0) a.token ∙ no_token;
    unowed = nothing_owed a sit paid_1 paid_0;
    outside = ap (λ (q : Part). q.core.inside) (sym (first_is a sit)) ∙ outside;
    naps = ap (λ (q : Part). q.core.naps) (sym (second_is a sit)) ∙ naps;
    stands = ap (λ (q : Part). q.core.waits) (sym (second_is a sit)) ∙ stands;
  }

-- ---- the run: the younger dies, and comes out of the guard, and then nothing happens

-- the seat once it has died, and once it is out of the guard
abbrev pub died : Sight → Sight
died b = dying b (with_waiters owner)

abbrev pub died_out : Sight → Sight
died_out b = exiting (died b)

-- The two are deadlocked. The older sleeps with what this tells, and owes nobody a wake; the younger, with what that tells, is
-- inside the guard of the first lock, where it has to die.
pub record IsAboutToDie (kind : Kind) (p : Picture) (a b : Sight) : Type 0 where
  pub sit : AreSeated kind p a b
  pub awake : p.asleep 1 ≡ false
  pub rested : b.part.core.naps ≡ 0
  pub word : slice_index p.table.words (owner_at least 0) ≡ packed (with_waiters owner)
  pub dies : MayDie b.part.core 0 (with_waiters owner) 1
  pub exits : MayExit (died b).part.core 0
  pub sleeps : (p.asleep 0 ≡ true) × (p.token 0 ≡ false) × (a.part.core.inside ≡ 0)
  pub paid : (p.rung 0 1 ≡ wakes_owed a.part 1) × (p.rung 1 0 ≡ wakes_owed b.part 0)
  pub dead : AreDeadlocked p.core (0 ∷ 1 ∷ [])

module _ {kind : Kind} {p : Picture} (g : At (small kind) p) (a b : Sight) (h : IsAboutToDie kind p a b) where
  abbrev table_1 : St
  table_1 = (dies_as (small kind) p 0 0 (with_waiters owner) b).table

  abbrev pub p_1 : Picture
  p_1 = played p table_1 (Some (performs (Die 1 0)))

  pub dies : Next g 1 (Some (performs (Die 1 0))) p_1
  dies = subst (λ (w : ℕ). Next g 1 (Some (performs (Die w 0))) (played p table_1 (Some (performs (Die w 0))))) h.sit.second.who
      (dies_then g 0 1 b (record { seated = h.sit.second; awake = h.awake; rested = h.rested }) 0 1 (with_waiters owner) h.dies
      is_valid_waited h.word)

  -- the older is where it was
  sit_on : AreSeated kind p_1 a (died b)
  sit_on = let one = h.sit.first in let two = h.sit.second in let old = p.table.views in record {
    first = seated (set_else old 0 1 (died b) second_not_first ∙ one.here) one.seated one.who one.low;
    second = seated (set_here old 0 (died b) (place_low old 0 b two.here)) two.seated two.who two.low;
  }

  abbrev table_2 : St
  table_2 = (exits_as (small kind) p_1 0 0 (died b) (performs (Unguard 1 0))).table

  abbrev pub p_2 : Picture
  p_2 = played p_1 table_2 (Some (performs (Unguard 1 0)))

  pub comes_out : Next dies.at 1 (Some (performs (Unguard 1 0))) p_2
  comes_out = subst (λ (w : ℕ). Next dies.at 1 (Some (performs (Unguard w 0))) (played p_1 table_2 (Some (performs (Unguard w 0)))))
      h.sit.second.who (exits_then dies.at 0 1 (died b) (record { seated = sit_on.second; awake = h.awake; rested = h.rested }) 0
      h.exits refl)

  pub sit_out : AreSeated kind p_2 a (died_out b)
  sit_out = let one = sit_on.first in let two = sit_on.second in let old = p_1.table.views in record {
    first = seated (set_else old 0 1 (died_out b) second_not_first ∙ one.here) one.seated one.who one.low;
    second = seated (set_here old 0 (died_out b) (place_low old 0 (died b) two.here)) two.seated two.who two.low;
  }

  abbrev pub moment : ℕ → Moment (small kind)
  moment zero = g.moment
  moment (suc zero) = dies.at.moment
  moment (suc (suc i)) = comes_out.at.moment

  abbrev move : ℕ → Option Step
  move zero = Some (performs (Die 1 0))
  move (suc zero) = Some (performs (Unguard 1 0))
  move (suc (suc i)) = None

  abbrev pub waits_at : ℕ → ℕ
  waits_at zero = 1
  waits_at (suc i) = 0

  pub pending : (i : ℕ) → IsPending (moment i) (waits_at i)
  pending zero = is_pending g h.sit h.sleeps.0 h.awake h.sleeps.1 h.paid.0 h.paid.1 h.sleeps.2 h.rested 1 h.dies.waits
  pending (suc zero) = is_pending dies.at sit_on h.sleeps.0 h.awake h.sleeps.1 h.paid.0 h.paid.1 h.sleeps.2 h.rested 0 refl
  pending (suc (suc i)) = is_pending comes_out.at sit_out h.sleeps.0 h.awake h.sleeps.1 h.paid.0 h.paid.1 h.sleeps.2 h.rested 0 refl

  follows : (i : ℕ) → Follows (moment i) (moment (suc i)) (move i)
  follows zero = dies.follows
  follows (suc zero) = comes_out.follows
  follows (suc (suc i)) = idles comes_out.at.moment

  pub sleeper_is_scheduled : IsScheduledThere moment move 0
  sleeper_is_scheduled = record {
    made = λ i t h. absurd ((pending i).unowed t 0 h);
    heard = λ i token sleeps. absurd (true≢false (sym token ∙ (pending i).no_token));
    settled = λ i rests. absurd (true≢false (sym (pending i).sleeps ∙ rests.is_asleep));
    looks = λ i n waits acts. absurd (true≢false (sym (pending i).sleeps ∙ acts.awake));
    leaves = λ i n waits inside. let out = (pending i).outside in absurd (omega arith);
  }

  comes_inside : (i n : ℕ) → (view (moment i) 1).waits ≡ suc n → InTheEnd i (λ j. (view (moment j) 1).inside ≡ suc n)
  comes_inside zero n waits = let stands = (pending 0).stands in
      let at = ap (λ (q : Part). q.core.inside) (sym (second_is g h.sit)) ∙ h.dies.inside in
      (0, omega arith, omega arith)
  comes_inside (suc i) n waits = let none = (pending (suc i)).stands in absurd (omega arith)

  pub dying_is_scheduled : IsScheduledThere moment move 1
  dying_is_scheduled = record {
    made = λ i t h. absurd ((pending i).unowed t 1 h);
    heard = λ i token sleeps. absurd (true≢false (sym sleeps ∙ (pending i).awake));
    settled = λ i rests. let none = (pending i).naps in let due = rests.due in absurd (omega arith);
    looks = λ i n waits acts. comes_inside i n waits;
    leaves = λ i n waits inside. let none = (pending (suc i)).stands in (suc i, omega arith, inr (λ is. omega arith));
  }

  pub are_dead : AreDeadlocked (core g.moment) (0 ∷ 1 ∷ [])
  are_dead = subst (λ (c : State). AreDeadlocked c (0 ∷ 1 ∷ [])) (sym g.is_core) h.dead

  has_deadlock : HasDeadlockThere kind
  has_deadlock = record {
    key = small kind;
    moment = moment;
    move = move;
    seats = 0 ∷ 1 ∷ [];
    of_kind = refl;
    endless = record { begins = g.run; goes_on = follows };
    scheduled = λ s. ⊎_elim (λ is. subst (IsScheduledThere moment move) (sym is) sleeper_is_scheduled)
        (⊎_elim (λ is. subst (IsScheduledThere moment move) (sym is) dying_is_scheduled) (λ none. absurd none));
    deadlocked = are_dead;
  }

-- ---- in each kind

pub is_dying : IsAboutToDie WaitDie dying_10 aged_out (b_3 WaitDie)
unfolding put ℕ_discrete lock_at
is_dying = record {
  sit = record { first = seated refl refl refl (omega arith); second = seated refl refl refl (omega arith) };
  awake = refl;
  rested = refl;
  word = refl;
  dies = record {
    inside = refl;
    waits = refl;
    other = (0, refl, first_not_second);
    why = (0, inl refl, refl);
    unheeded = refl;
  };
  exits = record { inside = refl; why = inl (refl, refl); unsigned = λ is. inr (inl refl); unheeded = refl };
  sleeps = (refl, refl, refl);
  paid = (refl, refl);
  dead = are_deadlocked _ refl refl (_, inl refl, refl) (_, inl refl, refl);
}

pub is_wounded : IsAboutToDie WoundWait wound_13 wounded_out b_4
unfolding put ℕ_discrete lock_at
is_wounded = record {
  sit = record { first = seated refl refl refl (omega arith); second = seated refl refl refl (omega arith) };
  awake = refl;
  rested = refl;
  word = refl;
  dies = record {
    inside = refl;
    waits = refl;
    other = (0, refl, first_not_second);
    why = (1, inr refl, refl);
    unheeded = refl;
  };
  exits = record { inside = refl; why = inl (refl, refl); unsigned = λ is. absurd (cc); unheeded = refl };
  sleeps = (refl, refl, refl);
  paid = (refl, refl);
  dead = are_deadlocked _ refl refl (_, inl refl, refl) (_, inl refl, refl);
}

pub deadlocks_are_in_endless_runs : DeadlocksAreInEndlessRuns
deadlocks_are_in_endless_runs WaitDie = has_deadlock aged_sleeps.at aged_out (b_3 WaitDie) is_dying
deadlocks_are_in_endless_runs WoundWait = has_deadlock finds_sign.at wounded_out b_4 is_wounded
