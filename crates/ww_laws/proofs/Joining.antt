-- The oldest context comes to join the wait list of a lock that it wants, and to own the lock.
use Rattle.std.proofs.Common.{ℕ, suc, ◌≡◌, ◌≢◌, ◌<◌, ◌≤◌, ◌⊎◌, inl, inr, ⊎_elim, Bool, true, false, Option, Some, None, refl, sym, ap, ◌∙◌, subst, arith}
use Rattle.std.specs.Option.{IsSome}
use mathlib.Core.Logic.{dite}
use native.Mathlib.Decide.{ℕ_discrete, dec_le}
use Rattle.ww_queue.specs.declared.kind.Kind.TheVariants.{WaitDie}
use Rattle.ww_queue.specs.declared.entry.Entry.{Entry}
use Rattle.ww_queue.specs.Queue.{Has, Stands, StandsNot, joined, left}
use Rattle.ww_queue.proofs.Joins.{joined_new}
use Rattle.ww_queue.proofs.Leaves.{left_has, left_gone}
use Rattle.ww_queue.proofs.Deaths.{only_waiters_die}
use Rattle.ww_model.specs.declared.state.Holder.TheVariants.{Nobody, Taken, Handed}
use Rattle.ww_model.specs.declared.event.Event.TheVariants.{Clear, Guard, Join, Take, Die, Unguard, Leave}
use Rattle.ww_model.specs.State.{State, HasOther, Inside, InsideNone, InNoQueue, IsCalm, owns_some, waiter_of, owner_as, dies}
use Rattle.ww_model.specs.Event.{Possible, after}
use Rattle.ww_model.specs.Run.{Reached, further}
use Rattle.ww_model.specs.Emptied.{LeadsBy}
use Rattle.ww_model.specs.Oldest.{ComesToOwn}
use Rattle.ww_model.specs.Theorem.{OldestCanJoinAndTake}
use Rattle.ww_model.proofs.Puts.{put_here, put_cases}
use Rattle.ww_model.proofs.Cancels.{away_unheeded, inside_unheeded}
use Rattle.ww_model.proofs.Holders.{other_has}
use Rattle.ww_model.proofs.Owning.{owns_found, owns_none}
use Rattle.ww_model.proofs.Kept.{reached_is_lawful}
use Rattle.ww_model.proofs.Leaving.{owned_below}
use Rattle.ww_model.proofs.Beyond.{guards_are, stamps_beyond}
use Rattle.ww_laws.proofs.Moves.{stay, first, and_then, Sparing, ButSigns}
use Rattle.ww_laws.proofs.InsideMoves.{stands_or_not, waiter_may_own, waiter_is_calm, free_or_other, leave}
use Rattle.ww_laws.proofs.OutsideMoves.{search, guard_is}
use Rattle.ww_laws.proofs.Taking.{Only, sparing, oldest_can_take}

module _ (s n : ℕ) where
  -- the oldest context waits nowhere, and wants a lock of another
  abbrev Wants : State → Type 0
  Wants c = (0 < c.stamp s) × ((t : ℕ) → 0 < c.stamp t → c.stamp s ≤ c.stamp t) × InNoQueue c s × HasOther c s n

  -- ... from outside each guard
  abbrev WantsOutside : State → Type 0
  WantsOutside c = Wants c × InsideNone c s

  -- ... while nobody is inside that of the lock
  abbrev FindsFree : State → Type 0
  FindsFree c = WantsOutside c × (c.guard n ≡ 0)

  -- a seat that is not kept inside leaves the guard
  goes_out : (c : State) → Reached c → (u m : ℕ) → Inside c u m → c.heeded u ≡ 0
      → (Stands (c.queue m) u → HasOther c u m) → (c.kind ≡ WaitDie → dies c u m ≡ None) →
      (P : State → Type 0) → ((d : State) → Reached d → ButSigns c d → Possible d (Unguard u m)
      → P (after d (Unguard u m))) → LeadsBy (Sparing (Only s)) c P
  goes_out c reached u m inside unheeded contended lives P there = let E = Sparing (Only s) in
      and_then E c (λ d. ButSigns c d × Possible d (Unguard u m)) P reached
      (leave (Only s) c u m inside reached unheeded contended lives)
      (λ d reached' way. first E d (Unguard u m) P (tt, λ v _. tt) way.1 (stay E (after d (Unguard u m)) P (there d reached' way.0 way.1)))

  -- ---- the oldest leaves the guard that it is inside of

  comes_out : (c : State) → Reached c → Wants c → LeadsBy (Sparing (Only s)) c WantsOutside
  comes_out c reached w = ⊎_elim
      (λ none. stay (Sparing (Only s)) c WantsOutside (w, λ m is. let inside = guards_are c reached s m is in none m inside.lock is))
      (λ one. let m = one.0 in goes_out c reached s m (guards_are c reached s m one.2)
      (away_unheeded c (reached_is_lawful c reached).base s w.2)
      (λ waits. absurd (w.2 m waits.0 waits.1 waits.2))
      (λ _. only_waiters_die c.kind (owner_as c (c.owner m)) (c.queue m) s (c.sign s) (w.2 m)) WantsOutside
      (λ d reached' same can. (
        subst Wants (sym same.1) w,
        λ k. put_cases d.guard m 0 k (λ g. g ≢ suc s) (λ _ z. omega arith)
            (λ isnt z. isnt ((reached_is_lawful d reached').base.guards.one_guard s k m z can.base.inside.guard)),
      )))
      (search (λ m. c.guard m ≢ suc s) (λ m. c.guard m ≡ suc s) (λ m. dite (ℕ_discrete (c.guard m) (suc s)) inr inl) c.locks)

  -- ---- another leaves that of the lock

  other_out : (c : State) → Reached c → WantsOutside c → (u : ℕ) → Inside c u n → c.heeded u ≡ 0
      → (Stands (c.queue n) u → HasOther c u n) → (c.kind ≡ WaitDie → dies c u n ≡ None) →
      LeadsBy (Sparing (Only s)) c FindsFree
  other_out c reached w u inside unheeded contended lives = goes_out c reached u n inside unheeded contended lives FindsFree
      (λ d _ same can. let out = subst (λ x. InsideNone x s) (sym same.1) w.1 in (
        (
          subst Wants (sym same.1) w.0,
          λ k. put_cases d.guard n 0 k (λ g. g ≢ suc s) (λ _ z. omega arith)
              (λ _. out k),
        ),
        put_here d.guard n 0,
      ))

  -- ... when it has left the list
  left_out : (c : State) → Reached c → WantsOutside c → (u : ℕ) → Inside c u n → StandsNot (c.queue n) u
      → LeadsBy (Sparing (Only s)) c FindsFree
  left_out c reached w u inside gone = other_out c reached w u inside
      (inside_unheeded c (reached_is_lawful c reached).base u n inside.guard gone)
      (λ waits. absurd (gone waits.0 waits.1 waits.2))
      (λ _. only_waiters_die c.kind (owner_as c (c.owner n)) (c.queue n) u (c.sign u) gone)

  no_queue : (c : State) (u : ℕ) → InNoQueue c s → InNoQueue (after c (Take u n)) s
  no_queue c u none m = put_cases c.queue n (left (c.queue n) u) m (λ q. StandsNot q s)
      (λ _ e h. none n e (left_has (c.queue n) u e h)) (λ _. none m)

  gone_from : (c : State) → Reached c → (u : ℕ) → StandsNot ((after c (Take u n)).queue n) u
  gone_from c reached u = subst (λ q. StandsNot q u) (sym (put_here c.queue n (left (c.queue n) u)))
      (left_gone (c.queue n) u ((reached_is_lawful c reached).base.queues.at n).once)

  module _ (c : State) (reached : Reached c) (w : WantsOutside c) (u : ℕ) (inside : Inside c u n) (other : u ≢ s)
      (waits : Stands (c.queue n) u) where
    it_takes : (c.owner n ≡ Nobody) ⊎ (c.owner n ≡ Handed u) → LeadsBy (Sparing (Only s)) c FindsFree
    it_takes free = first (Sparing (Only s)) c (Take u n) FindsFree (waits, λ v _. tt) can
        (left_out (after c (Take u n)) (further c (Take u n) reached can)
        ((w.0.0, w.0.1, no_queue c u w.0.2, (u, other, inl (put_here c.owner n (Taken u)))), w.1) u
        (record { guard = inside.guard; lock = inside.lock; seat = inside.seat }) (gone_from c reached u))
      where
        can : Possible c (Take u n)
        can = record {
          base = record { inside = inside; may_own = waiter_may_own c reached u n waits; free = free };
          signs = waiter_is_calm c reached u n waits;
        }

    it_dies_or_waits : c.heeded u ≡ 0 → HasOther c u n → (cause : Option ℕ) → dies c u n ≡ cause → LeadsBy (Sparing (Only s)) c FindsFree
    it_dies_or_waits unheeded has None is = other_out c reached w u inside unheeded (λ _. has) (λ _. is)
    it_dies_or_waits unheeded has (Some k) is = first (Sparing (Only s)) c (Die u n) FindsFree (tt, λ v mine same. other (same ∙ mine)) can
        (left_out (after c (Die u n)) (further c (Die u n) reached can) ((w.0.0, w.0.1, no_queue c u w.0.2, w.0.3), w.1) u
        (record { guard = inside.guard; lock = inside.lock; seat = inside.seat }) (gone_from c reached u))
      where
        can : Possible c (Die u n)
        can = record {
          base = record { inside = inside; waits = waits; other = has; unheeded = unheeded };
          signs = subst IsSome (sym is) refl;
        }

    it_is_interrupted : c.heeded u ≢ 0 → LeadsBy (Sparing (Only s)) c FindsFree
    it_is_interrupted heeded = first (Sparing (Only s)) c (Leave u n) FindsFree (tt, λ v mine same. other (same ∙ mine)) can
        (left_out (after c (Leave u n)) (further c (Leave u n) reached can) ((w.0.0, w.0.1, no_queue c u w.0.2, w.0.3), w.1) u
        (record { guard = inside.guard; lock = inside.lock; seat = inside.seat }) (gone_from c reached u))
      where
        can : Possible c (Leave u n)
        can = record { base = record { inside = inside; waits = waits; heeded = heeded }; signs = tt }

    it_goes : LeadsBy (Sparing (Only s)) c FindsFree
    it_goes = dite (ℕ_discrete (c.heeded u) 0)
        (λ none. ⊎_elim it_takes (λ has. it_dies_or_waits none has (dies c u n) refl) (free_or_other c reached u n waits))
        it_is_interrupted

  guard_frees : (c : State) → Reached c → WantsOutside c → LeadsBy (Sparing (Only s)) c FindsFree
  guard_frees c reached w = ⊎_elim
      (λ free. stay (Sparing (Only s)) c FindsFree (w, free))
      (λ one. let u = one.0 in let inside = guards_are c reached u n one.1 in let other : u ≢ s = λ is. w.1 n (one.1 ∙ ap suc is) in ⊎_elim
      (it_goes c reached w u inside other)
      (λ none. left_out c reached w u inside none) (stands_or_not (c.queue n) u))
      (guard_is (c.guard n))

  -- ---- the oldest clears a sign that keeps it from wanting a lock, goes in, and can join

  seat_of : (c : State) → Reached c → 0 < c.stamp s → s < c.seats
  seat_of c reached some = dite (dec_le c.seats s)
      (λ beyond. let none = stamps_beyond c reached s beyond in absurd (omega arith)) (λ within. omega arith)

  abbrev FindsCalm : State → Type 0
  FindsCalm c = FindsFree c × IsCalm c s

  calms : (c : State) → Reached c → FindsFree c → LeadsBy (Sparing (Only s)) c FindsCalm
  calms c reached w = go (owns_some c s) refl
    where
      go : (owns : Bool) → owns_some c s ≡ owns → LeadsBy (Sparing (Only s)) c FindsCalm
      go true is = stay (Sparing (Only s)) c FindsCalm (w, inr (owns_found c.locks c.owner s is))
      go false is = first (Sparing (Only s)) c (Clear s) FindsCalm (tt, λ v _. tt) (record {
        base = w.0.0.0;
        signs = inl (
          record { seat = seat_of c reached w.0.0.0; inside = w.0.1; queue = w.0.0.2 },
          owns_none c.locks c.owner s (reached_is_lawful c reached).base.owners.beyond is,
        );
      }) (stay (Sparing (Only s)) (after c (Clear s)) FindsCalm (w, inl (put_here c.sign s 0)))

  -- from here it can join and comes to own the lock
  abbrev CanJoinIt : State → Type 0
  CanJoinIt d = Possible d (Join s n) × ComesToOwn (after d (Join s n)) s n

  goes_in : (c : State) → Reached c → FindsCalm c → LeadsBy (Sparing (Only s)) c CanJoinIt
  goes_in c reached found = first (Sparing (Only s)) c (Guard s n) CanJoinIt (tt, λ v _. tt) go (stay (Sparing (Only s)) inside CanJoinIt (
    join,
    oldest_can_take (after inside (Join s n)) (further inside (Join s n) (further c (Guard s n) reached go) join) s
        n (record { context = w.0; oldest = w.1 })
        (x, subst (λ q. Has q x) (sym (put_here c.queue n (joined (c.queue n) x))) (joined_new (c.queue n) x), refl)
        (away_unheeded c (reached_is_lawful c reached).base s w.2),
  ))
    where
      w : Wants c
      w = found.0.0.0

      inside : State
      inside = after c (Guard s n)

      x : Entry
      x = waiter_of inside s

      lock : n < c.locks
      lock = owned_below c (reached_is_lawful c reached).base s n w.3

      go : Possible c (Guard s n)
      go = record {
        base = record {
          seat = seat_of c reached w.0;
          lock = lock;
          inside_none = found.0.0.1;
          free = found.0.1;
          why = inr (inr (w.2, (λ own. other_has (c.owner n) s s w.3 (inl own) refl), inl w.0));
        };
        signs = inr (inr found.1);
      }

      join : Possible inside (Join s n)
      join = record {
        base = record {
          inside = record { guard = put_here c.guard n (suc s); lock = lock; seat = seat_of c reached w.0 };
          not_waiting = w.2 n;
          may_own = inl w.0;
          other = w.3;
        };
        signs = found.1;
      }

pub oldest_can_join_and_take : OldestCanJoinAndTake
oldest_can_join_and_take c reached s n oldest none other = let E = Sparing (Only s) in sparing s c (CanJoinIt s n)
    (and_then E c (WantsOutside s n) (CanJoinIt s n) reached (comes_out s n c reached (oldest.context, oldest.oldest, none, other))
    (λ d there w. and_then E d (FindsFree s n) (CanJoinIt s n) there (guard_frees s n d there w)
    (λ d there w. and_then E d (FindsCalm s n) (CanJoinIt s n) there (calms s n d there w) (goes_in s n))))
