-- What every reached class keeps, and what follows.
use Rattle.std.proofs.Common.{◌≡◌, ◌≢◌, ◌<◌, inl, inr, ⊎_elim, ◌⊎◌, ℕ, suc, Bool, true, false, List, [], ◌∷◌, length, Option, Some, None, refl, sym, ap, ◌∙◌, subst, true≢false}
use mathlib.Core.Logic.{dite}
use native.Mathlib.Decide.{ℕ_discrete}
use Rattle.ww_protocols.specs.Seat.{Debt, nothing, to_call, to_offer, ClassSeat, IsFree, set, SeatStep, claims, uses_own, MaySeat, next_seat}
use Rattle.ww_protocols.specs.Class.{InQueue, out, waits, due, Class, LooksAt, at_nothing, at_its_seat, at_all, opened, QueueStep, acts, suspends, takes, serves_threads, serves_tasks, calls, passes_on, joins, sees_used, has_looked, has_found, drops, leaves, leaves_called, opens, closes, suspended, resumed, settled, also_to_call, looker, looks_so, unseen_so, Sleeps, LooksEnough, MayServeTasks, MayComeToWait, MayBeMade, after_step, ReachedByRules}
use Rattle.ww_protocols.specs.Seats.{SeatsHaveOneUser, comes_to, NobodyUsesItYet, SeatsSayWhoseTheyAre, SuspendedSeatsAreKept, IsAtRest, IsAwaited, NoSeatIsLost, EachIs, AllDiffer, IsFreeForTasks, IsUnderWay, FreeSeatsAreAtMostTheCalls}
use Rattle.ww_protocols.proofs.Sets.{set_here, set_else, set_cases, set_each, set_was}
use Rattle.ww_protocols.proofs.Held.{not_both, nobody_has}
use Rattle.ww_protocols.proofs.Sound.{IsSound, ruled, free_is_sound, unused, unused_yet, seat_on, suspended_on, resumed_on, settled_on}
use Rattle.ww_protocols.proofs.Tickets.{led_on, same, ticket_kept, next_is}
use Rattle.ww_protocols.proofs.Queue.{Owes, Called, LooksFor, Serves, ComesToOne, ComesToTasks, in_use, serves_on, none_looks, one_looks, called_else, not_for, for_another, slept, offered_to, awaited, restood, recalled, served_threads, served_tasks, opened_now, closed_now}

record IsOrderly (c : Class) : Type 0 where
  sound : (s : ℕ) → IsSound (c.seat s)
  in_queue : (t s : ℕ) → c.call t ≡ Some s → c.stands t ≡ waits
  serves : (s : ℕ) → s < c.seats → Serves c.stands c.call s c.looks (c.unseen s) (c.is_open s) (IsFree (c.seat s)) (c.seat s).debt

module _ (c : Class) (o : IsOrderly c) where
  abbrev At : ℕ → ClassSeat → Type 0
  At r seat = r < c.seats → Serves c.stands c.call r c.looks (c.unseen r) (c.is_open r) (IsFree seat) seat.debt

  -- a step of those that use seats
  acts_on : (s : ℕ) (step : SeatStep) → MaySeat None (c.seat s) step → IsOrderly (after_step c (acts s step))
  acts_on s step may = let new = next_seat (c.seat s) step in record {
    sound = set_each c.seat s new (λ _. IsSound) (seat_on (c.seat s) (o.sound s) step may) (λ r _. o.sound r);
    in_queue = o.in_queue;
    serves = set_each c.seat s new At (λ is. serves_on (c.seat s) step may (o.serves s is)) (λ r _. o.serves r);
  }

  -- a step that leaves who waits what it was
  passes_by : (s : ℕ) (new : ClassSeat) → IsSound new → At s new → (drawn : ℕ → Bool) → IsOrderly (record c { seat = set c.seat s new; drawn = drawn })
  passes_by s new sound still drawn = record {
    sound = set_each c.seat s new (λ _. IsSound) sound (λ r _. o.sound r);
    in_queue = o.in_queue;
    serves = set_each c.seat s new At still (λ r _. o.serves r);
  }

  suspends_on : (t s ticket : ℕ) → MayBeMade None c (suspends t s ticket) → IsOrderly (after_step c (suspends t s ticket))
  suspends_on t s ticket may = passes_by s (suspended (c.seat s) t ticket) (suspended_on (c.seat s) (o.sound s) t ticket (ruled may.0)) (o.serves s)
      (set c.drawn ticket true)

  takes_on : (t s ticket : ℕ) → MayBeMade None c (takes t s ticket) → IsOrderly (after_step c (takes t s ticket))
  takes_on t s ticket may = passes_by s (resumed (c.seat s) t) (resumed_on (c.seat s) (o.sound s) t ticket (ruled may)) (o.serves s) c.drawn

  -- a step that settles what one had to do of a seat
  settles_on : (t s : ℕ) (it : Debt) → At s (settled (c.seat s) t it) → IsOrderly (record c { seat = set c.seat s (settled (c.seat s) t it) })
  settles_on t s it still = let new = settled (c.seat s) t it in record {
    sound = set_each c.seat s new (λ _. IsSound) (settled_on (c.seat s) (o.sound s) t it) (λ r _. o.sound r);
    in_queue = o.in_queue;
    serves = set_each c.seat s new At still (λ r _. o.serves r);
  }

  serves_threads_on : (t s : ℕ) → MayBeMade None c (serves_threads t s) → IsOrderly (after_step c (serves_threads t s))
  serves_threads_on t s may = settles_on t s to_call (λ is. served_threads (o.serves s is) t
      (λ free. ⊎_elim (λ used. absurd (used free)) (λ nobody. nobody) (ruled may.1)))

  serves_tasks_on : (t s : ℕ) → MayServeTasks None c t s → IsOrderly (after_step c (serves_tasks t s))
  serves_tasks_on t s may = settles_on t s nothing (λ is. served_tasks (o.serves s is) t may.nobody_looks may.has_to
      (λ free open_. ⊎_elim (⊎_elim (λ used. absurd (used free)) (λ closed. absurd (true≢false (sym open_ ∙ closed)))) (λ why. why) (ruled may.no_need)))

  -- where nobody looks: what comes to a seat for which one sleeps, in whatever way that ends
  comes : {how : ℕ → InQueue} {call' : ℕ → Option ℕ} {looks' : Option ℕ} {unseen' : Bool} (r : ℕ) → r < c.seats → c.looks ≡ None →
      (u : ℕ) → IsFree (c.seat r) → c.is_open r ≡ true → Sleeps c u → (Called c.call r → Called call' r) →
      ComesToTasks how call' r looks' unseen' (c.seat r).debt
  comes r is none u free open_ sleeps still = ⊎_elim (λ one. inl (still one)) (λ owes. inr (inr owes)) (awaited (o.serves r is) none u free open_ sleeps)

  calls_on : (u s : ℕ) → MayBeMade None c (calls u s) → IsOrderly (after_step c (calls u s))
  calls_on u s may = let sleeps = ruled may.1 in record {
    sound = o.sound;
    in_queue = λ v r is. ⊎_elim (λ here. ap c.stands here.0 ∙ sleeps.0) (λ there. o.in_queue v r there.1)
        (set_was c.call u (Some s) v (λ x. x ≡ Some r) is);
    serves = λ r is. recalled (o.serves r is) may.0 (set c.call u (Some s)) c.looks (c.unseen r)
        (λ v free open_ asleep. comes r is may.0 u free open_ sleeps (called_else c.call u (Some s) r (not_for c.call u r sleeps.1)));
  }

  passes_on_on : (t u s : ℕ) → MayBeMade None c (passes_on t u s) → IsOrderly (after_step c (passes_on t u s))
  passes_on_on t u s may = let sleeps = ruled may.2 in record {
    sound = o.sound;
    in_queue = λ v r is. ⊎_elim (λ here. ap c.stands here.0 ∙ sleeps.0)
        (λ there. ⊎_elim (λ here. let p = here.1 in let z : ⊥ = cc in absurd z) (λ other. o.in_queue v r other.1)
        (set_was c.call t None v (λ x. x ≡ Some r) there.1))
        (set_was (set c.call t None) u (Some s) v (λ x. x ≡ Some r) is);
    serves = λ r is. recalled (o.serves r is) may.0 (set (set c.call t None) u (Some s)) c.looks (c.unseen r)
        (λ v free open_ asleep. dite (ℕ_discrete r s)
        (λ same. inl (u, set_here (set c.call t None) u (Some s) ∙ ap Some (sym same)))
        (λ other. comes r is may.0 u free open_ sleeps
        (λ one. called_else (set c.call t None) u (Some s) r (still r other sleeps.1) (called_else c.call t None r (for_another c.call t s r may.1 other) one))));
  }
    where
      -- who slept isn't the one that was called
      still : (r : ℕ) → r ≢ s → c.call u ≡ None → set c.call t None u ≢ Some r
      still r other none = set_cases c.call t None u (λ x. x ≢ Some r) (λ _ is. let z : ⊥ = cc in z) (λ _ is. let z : ⊥ = cc in z)

  joins_on : (t : ℕ) (how : InQueue) (looks_now : Bool) → MayComeToWait None c t how looks_now → IsOrderly (after_step c (joins t how looks_now))
  joins_on t how looks_now may = record {
    sound = o.sound;
    in_queue = λ v r is. let were = o.in_queue v r is in set_else c.stands t how v (λ same. wasnt (ap c.stands (sym same) ∙ were)) ∙ were;
    serves = λ r is. restood (o.serves r is) t how c.call (looker looks_now t) true
        (λ u _ looking. absurd (none_looks c.looks may.nobody_looks u looking))
        (λ is_due free. as_thread r is is_due free looks_now refl) (λ u free open_ asleep. as_task r is u free open_ asleep looks_now refl);
  }
    where
      wasnt : c.stands t ≢ waits
      wasnt is = let was = may.is_out in let z : ⊥ = cc in z

      owed : (r : ℕ) → r < c.seats → IsFree (c.seat r) → ((u : ℕ) × (c.stands u ≡ due)) → Owes (c.seat r).debt to_offer
      owed r is free one = offered_to (o.serves r is) may.nobody_looks one.0 free one.1

      as_thread : (r : ℕ) → r < c.seats → how ≡ due → IsFree (c.seat r) → (b : Bool) → looks_now ≡ b →
          ComesToOne (looker looks_now t) true (c.seat r).debt t
      as_thread r is is_due free true now = inl (ap (λ b. looker b t) now, refl)
      as_thread r is is_due free false not_now = ⊎_elim (λ now. absurd (true≢false (sym now ∙ not_now)))
          (⊎_elim (λ one. inr (owed r is free one)) (λ task. let p = task.0 in let z : ⊥ = cc in absurd z)) (ruled may.looks_first)

      still : (r : ℕ) → r < c.seats → (u : ℕ) → IsFree (c.seat r) → c.is_open r ≡ true → Sleeps c u →
          ComesToTasks (set c.stands t how) c.call r (looker looks_now t) true (c.seat r).debt
      still r is u free open_ sleeps = comes r is may.nobody_looks u free open_ sleeps (λ one. one)

      as_task : (r : ℕ) → r < c.seats → (u : ℕ) → IsFree (c.seat r) → c.is_open r ≡ true →
          ((set c.stands t how u ≡ waits) × (c.call u ≡ None)) → (b : Bool) → looks_now ≡ b →
          ComesToTasks (set c.stands t how) c.call r (looker looks_now t) true (c.seat r).debt
      as_task r is u free open_ asleep true now = ⊎_elim
          (λ here. inr (inl (t, ap (λ b. looker b t) now, (set_here c.stands t how ∙ here.1, ap c.call (sym here.0) ∙ asleep.1), refl)))
          (λ there. still r is u free open_ (there.1, asleep.1)) (set_was c.stands t how u (λ x. x ≡ waits) asleep.0)
      as_task r is u free open_ asleep false not_now = ⊎_elim
          (λ here. ⊎_elim (λ now. absurd (true≢false (sym now ∙ not_now)))
          (⊎_elim (λ one. inr (inr (inr (owed r is free one)))) (λ task. still r is task.1.0 free open_ task.1.1)) (ruled may.looks_first))
          (λ there. still r is u free open_ (there.1, asleep.1)) (set_was c.stands t how u (λ x. x ≡ waits) asleep.0)

  sees_used_on : (t s : ℕ) → MayBeMade None c (sees_used t s) → IsOrderly (after_step c (sees_used t s))
  sees_used_on t s may = record {
    sound = o.sound;
    in_queue = o.in_queue;
    serves = λ r is. set_cases c.unseen s false r (λ b. Serves c.stands c.call r c.looks b (c.is_open r) (IsFree (c.seat r)) (c.seat r).debt)
        (λ same. in_use (subst (λ k. IsFree (c.seat k) → ⊥) (sym same) may.1)) (λ _. o.serves r is);
  }

  -- who has seen all has nothing unseen that it may claim
  none_unseen : (t : ℕ) → ((s : ℕ) → s < c.seats → (c.unseen s ≡ false) ⊎ ((c.stands t ≡ waits) × (c.is_open s ≡ false))) →
      (r : ℕ) → r < c.seats → c.is_open r ≡ true → c.unseen r ≡ true → ⊥
  none_unseen t all r is open_ unseen_ = ⊎_elim (λ was_seen. true≢false (sym unseen_ ∙ was_seen)) (λ closed. true≢false (sym open_ ∙ closed.1)) (all r is)

  has_looked_on : (t : ℕ) → MayBeMade None c (has_looked t) → IsOrderly (after_step c (has_looked t))
  has_looked_on t may = record {
    sound = o.sound;
    in_queue = o.in_queue;
    serves = λ r is. let h = o.serves r is in record {
      if_due = λ u free due_. ⊎_elim (λ coming. absurd (as_thread r is u coming.0 due_ coming.1)) inr (h.if_due u free due_);
      if_waits = λ u free open_ asleep. ⊎_elim inl (⊎_elim (λ looking. absurd (none_unseen t may.1 r is open_ looking.3)) (λ owes. inr (inr owes)))
          (h.if_waits u free open_ asleep);
    };
  }
    where
      as_thread : (r : ℕ) → r < c.seats → (u : ℕ) → c.looks ≡ Some u → c.stands u ≡ due → c.unseen r ≡ true → ⊥
      as_thread r is u looking due_ unseen_ = ⊎_elim (λ was_seen. true≢false (sym unseen_ ∙ was_seen))
          (λ closed. let same = ap c.stands (one_looks c.looks t u may.0 looking) in let task = closed.0 in let z : ⊥ = cc in z) (may.1 r is)

  -- one that isn't called leaves the queue
  others_in_queue : (t : ℕ) → ((s : ℕ) → c.call t ≢ Some s) → (v s : ℕ) → c.call v ≡ Some s → set c.stands t out v ≡ waits
  others_in_queue t isnt v s is = set_else c.stands t out v (λ same. isnt s (ap c.call (sym same) ∙ is)) ∙ o.in_queue v s is

  -- a task that sleeps, or a thread
  isnt_called : (t : ℕ) → (Sleeps c t ⊎ (c.stands t ≡ due)) → (s : ℕ) → c.call t ≢ Some s
  isnt_called t who s is = ⊎_elim (λ sleeps. not_for c.call t s sleeps.1 is) (λ due_. let were = o.in_queue t s is in let z : ⊥ = cc in z) who

  has_found_on : (t : ℕ) → MayBeMade None c (has_found t) → IsOrderly (after_step c (has_found t))
  has_found_on t may = record {
    sound = o.sound;
    in_queue = others_in_queue t (isnt_called t (⊎_elim inr (λ task. inl task.0) may.1));
    serves = λ r is. restood (o.serves r is) t out c.call None (c.unseen r) (λ u other looking. absurd (other (one_is u looking)))
        (λ is. let z : ⊥ = cc in absurd z) (λ u free open_ asleep. ⊎_elim (λ here. let p = here.1 in let z : ⊥ = cc in absurd z)
        (λ there. tasks r is u there.0 free open_ (there.1, asleep.1))
        (set_was c.stands t out u (λ x. x ≡ waits) asleep.0));
  }
    where
      one_is : (u : ℕ) → c.looks ≡ Some u → u ≡ t
      one_is u looking = one_looks c.looks t u may.0 looking

      isnt : (r : ℕ) → r < c.seats → (u : ℕ) → u ≢ t → Sleeps c u → c.is_open r ≡ true → LooksFor c.stands c.call c.looks (c.unseen r) → ⊥
      isnt r is u other sleeps open_ looking = ⊎_elim
          (λ due_. let same = ap c.stands (one_is looking.0 looking.1) in let task = looking.2.0 in let z : ⊥ = cc in z)
          (λ it. ⊎_elim (λ all. none_unseen t all r is open_ looking.3) (λ only. other (only u sleeps)) it.1) may.1

      tasks : (r : ℕ) → r < c.seats → (u : ℕ) → u ≢ t → IsFree (c.seat r) → c.is_open r ≡ true →
          Sleeps c u → ComesToTasks (set c.stands t out) c.call r None (c.unseen r) (c.seat r).debt
      tasks r is u other free open_ sleeps = ⊎_elim inl
          (⊎_elim (λ looking. absurd (isnt r is u other sleeps open_ looking)) (λ owes. inr (inr owes)))
          ((o.serves r is).if_waits u free open_ sleeps)

  drops_on : (t s : ℕ) (look : LooksAt) → MayBeMade None c (drops t s look) → IsOrderly (after_step c (drops t s look))
  drops_on t s look may = record {
    sound = o.sound;
    in_queue = λ v r is. ⊎_elim (λ here. let p = here.1 in let z : ⊥ = cc in absurd z) (λ there. o.in_queue v r there.1)
        (set_was c.call t None v (λ x. x ≡ Some r) is);
    serves = λ r is. recalled (o.serves r is) may.0 (set c.call t None) (looks_so look t) (unseen_so look s r)
        (λ u free open_ _. tasks r is free open_ look (ruled may.2));
  }
    where
      asleep : (c.stands t ≡ waits) × (set c.call t None t ≡ None)
      asleep = (o.in_queue t s may.1, set_here c.call t None)

      tasks : (r : ℕ) → r < c.seats → IsFree (c.seat r) → c.is_open r ≡ true → (look : LooksAt) → LooksEnough c look →
          ComesToTasks c.stands (set c.call t None) r (looks_so look t) (unseen_so look s r) (c.seat r).debt
      tasks r is free open_ at_nothing one = inr (inr (inr (offered_to (o.serves r is) may.0 one.0 free one.1)))
      tasks r is free open_ at_its_seat one = dite (ℕ_discrete r s)
          (λ same. inr (inl (t, refl, asleep, ap (set (λ _. false) s true) same ∙ set_here (λ _. false) s true)))
          (λ other. comes r is may.0 one.0 free open_ one.1 (called_else c.call t None r (for_another c.call t s r may.1 other)))
      tasks r is free open_ at_all _ = inr (inl (t, refl, asleep, refl))

  leaves_on : (t : ℕ) → MayBeMade None c (leaves t) → IsOrderly (after_step c (leaves t))
  leaves_on t may = record {
    sound = o.sound;
    in_queue = others_in_queue t (isnt_called t may.1);
    serves = λ r is. restood (o.serves r is) t out c.call c.looks (c.unseen r) (λ u _ looking. absurd (none_looks c.looks may.0 u looking))
        (λ is. let z : ⊥ = cc in absurd z) (λ u free open_ asleep. ⊎_elim (λ here. let p = here.1 in let z : ⊥ = cc in absurd z)
        (λ there. comes r is may.0 u free open_ (there.1, asleep.1) (λ one. one)) (set_was c.stands t out u (λ x. x ≡ waits) asleep.0));
  }

  leaves_called_on : (t s : ℕ) → MayBeMade None c (leaves_called t s) → IsOrderly (after_step c (leaves_called t s))
  leaves_called_on t s may = record {
    sound = o.sound;
    in_queue = λ v r is. ⊎_elim (λ here. let p = here.1 in let z : ⊥ = cc in absurd z)
        (λ there. set_else c.stands t out v there.0 ∙ o.in_queue v r there.1) (set_was c.call t None v (λ x. x ≡ Some r) is);
    serves = λ r is. restood (o.serves r is) t out (set c.call t None) c.looks (c.unseen r)
        (λ u _ looking. absurd (none_looks c.looks may.0 u looking)) (λ is. let z : ⊥ = cc in absurd z)
        (λ u free open_ asleep. ⊎_elim (λ here. let p = here.1 in let z : ⊥ = cc in absurd z)
        (λ there. tasks r is u free open_ (there.1, slept c.call t None u there.0 asleep.1)) (set_was c.stands t out u (λ x. x ≡ waits) asleep.0));
  }
    where
      tasks : (r : ℕ) → r < c.seats → (u : ℕ) → IsFree (c.seat r) → c.is_open r ≡ true → Sleeps c u →
          ComesToTasks (set c.stands t out) (set c.call t None) r c.looks (c.unseen r) (c.seat r).debt
      tasks r is u free open_ sleeps = ⊎_elim (λ nobody. absurd (nobody u sleeps)) (λ another. dite (ℕ_discrete r s)
          (λ same. inl (another.0, set_else c.call t None another.0 another.1 ∙ another.2 ∙ ap Some (sym same)))
          (λ other. comes r is may.0 u free open_ sleeps (called_else c.call t None r (for_another c.call t s r may.1 other)))) (ruled may.2)

  opens_on : (t s : ℕ) → IsOrderly (after_step c (opens t s))
  opens_on t s = let it = also_to_call ((c.seat s).debt t) in let new = settled (c.seat s) t it in record {
    sound = set_each c.seat s new (λ _. IsSound) (settled_on (c.seat s) (o.sound s) t it) (λ r _. o.sound r);
    in_queue = o.in_queue;
    serves = set_each c.seat s new (λ r seat. r < c.seats → Serves c.stands c.call r c.looks (c.unseen r) (set c.is_open s true r) (IsFree seat) seat.debt)
        (λ is. subst (λ b. Serves c.stands c.call s c.looks (c.unseen s) b (IsFree (c.seat s)) new.debt) (sym (set_here c.is_open s true)) (opened_now (o.serves s is) t))
        (λ r other is. subst (λ b. Serves c.stands c.call r c.looks (c.unseen r) b (IsFree (c.seat r)) (c.seat r).debt)
        (sym (set_else c.is_open s true r other)) (o.serves r is));
  }

  closes_on : (s : ℕ) → IsOrderly (after_step c (closes s))
  closes_on s = record {
    sound = o.sound;
    in_queue = o.in_queue;
    serves = λ r is. set_cases c.is_open s false r
        (λ b. Serves c.stands c.call r c.looks (c.unseen r) b (IsFree (c.seat r)) (c.seat r).debt)
        (λ _. closed_now (o.serves r is)) (λ _. o.serves r is);
  }

  steps_on : (step : QueueStep) → MayBeMade None c step → IsOrderly (after_step c step)
  steps_on (acts s step) may = acts_on s step may
  steps_on (suspends t s ticket) may = suspends_on t s ticket may
  steps_on (takes t s ticket) may = takes_on t s ticket may
  steps_on (serves_threads t s) may = serves_threads_on t s may
  steps_on (serves_tasks t s) may = serves_tasks_on t s may
  steps_on (calls u s) may = calls_on u s may
  steps_on (passes_on t u s) may = passes_on_on t u s may
  steps_on (joins t how looks_now) may = joins_on t how looks_now may
  steps_on (sees_used t s) may = sees_used_on t s may
  steps_on (has_looked t) may = has_looked_on t may
  steps_on (has_found t) may = has_found_on t may
  steps_on (drops t s look) may = drops_on t s look may
  steps_on (leaves t) may = leaves_on t may
  steps_on (leaves_called t s) may = leaves_called_on t s may
  steps_on (opens t s) may = opens_on t s
  steps_on (closes s) may = closes_on s

  -- whoever comes to a seat finds it unused
  comes_on : (step : QueueStep) → MayBeMade None c step → (s : ℕ) → comes_to step ≡ Some s → (t : ℕ) → (c.seat s).user t ≡ false
  comes_on step may s is = go step may is
    where
      at : (r : ℕ) → Some r ≡ Some s → ((t : ℕ) → (c.seat r).user t ≡ false) → (t : ℕ) → (c.seat s).user t ≡ false
      at r is nobody = subst (λ k. (t : ℕ) → (c.seat k).user t ≡ false) (same r s is) nobody

      none : {A : Type 0} → None ≡ Some s → A
      none p = let z : ⊥ = cc in absurd z

      go : (step : QueueStep) → MayBeMade None c step → comes_to step ≡ Some s → (t : ℕ) → (c.seat s).user t ≡ false
      go (acts r (claims t)) may is = at r is (nobody_has (o.sound r).users (unused (c.seat r) (o.sound r) may.0))
      go (acts r (uses_own t)) may is = at r is (nobody_has (o.sound r).users (unused (c.seat r) (o.sound r) ((o.sound r).found t may).2))
      go (takes t r ticket) may is = at r is (nobody_has (o.sound r).users (unused_yet (c.seat r) (o.sound r) ticket (ruled may)))
      go _ may is = none is

opened_is_orderly : (seats : ℕ) (are_own are_open : ℕ → Bool) → IsOrderly (opened seats are_own are_open)
opened_is_orderly seats are_own are_open = record {
  sound = λ s. free_is_sound (are_own s);
  in_queue = λ t s is. let z : ⊥ = cc in absurd z;
  serves = λ s _. record { if_due = λ t _ is. let z : ⊥ = cc in absurd z; if_waits = λ t _ _ asleep. let is = asleep.0 in let z : ⊥ = cc in absurd z };
}

reached_is_orderly : (c : Class) → ReachedByRules c → IsOrderly c
reached_is_orderly c r = led_on IsOrderly steps_on (opened r.0 r.1 r.2) c r.3 (opened_is_orderly r.0 r.1 r.2)

-- ---- the theorems

pub seats_have_one_user : SeatsHaveOneUser
seats_have_one_user c r s = ((reached_is_orderly c r).sound s).users.one

pub nobody_uses_it_yet : NobodyUsesItYet
nobody_uses_it_yet c step s r may is = comes_on c (reached_is_orderly c r) step may s is

pub seats_say_whose_they_are : SeatsSayWhoseTheyAre
seats_say_whose_they_are c r s = let x = (reached_is_orderly c r).sound s in (x.users, x.owners)

until_taken : (c : Class) (s ticket : ℕ) → (c.seat s).ticket ≡ Some ticket → ((t : ℕ) → (c.seat s).user t ≡ false) →
    (step : QueueStep) → MayBeMade None c step → (((after_step c step).seat s).ticket ≡ Some ticket) ⊎ ((t : ℕ) × (step ≡ takes t s ticket))
until_taken c s ticket is nobody = go
  where
    settles : (r t : ℕ) (it : Debt) → (set c.seat r (settled (c.seat r) t it) s).ticket ≡ Some ticket
    settles r t it = ticket_kept c.seat r (settled (c.seat r) t it) refl s ∙ is

    another : (r : ℕ) (seat : ClassSeat) → s ≢ r → (set c.seat r seat s).ticket ≡ Some ticket
    another r seat other = ap (λ (it : ClassSeat). it.ticket) (set_else c.seat r seat s other) ∙ is

    go : (step : QueueStep) → MayBeMade None c step → (((after_step c step).seat s).ticket ≡ Some ticket) ⊎ ((t : ℕ) × (step ≡ takes t s ticket))
    go (acts r step) may = inl (ticket_kept c.seat r (next_seat (c.seat r) step) (next_is (c.seat r) step) s ∙ is)
    go (suspends t r n) may = dite (ℕ_discrete s r) (λ here. not_both (ap (λ k. (c.seat k).user t) here ∙ ruled may.0) (nobody t))
        (λ there. inl (another r (suspended (c.seat r) t n) there))
    go (takes t r n) may = dite (ℕ_discrete s r)
        (λ here. inr (t, ap (λ k. takes t k n) (sym here) ∙ ap (takes t s) (same n ticket (sym (ruled may) ∙ ap (λ k. (c.seat k).ticket) (sym here) ∙ is))))
        (λ there. inl (another r (resumed (c.seat r) t) there))
    go (serves_threads t r) may = inl (settles r t to_call)
    go (serves_tasks t r) may = inl (settles r t nothing)
    go (opens t r) may = inl (settles r t (also_to_call ((c.seat r).debt t)))
    go _ may = inl is

pub suspended_seats_are_kept : SuspendedSeatsAreKept
suspended_seats_are_kept c r s ticket is = let x = (reached_is_orderly c r).sound s in
    let nobody = nobody_has x.users (unused_yet (c.seat s) x ticket is) in
    record { busy = x.stays ticket is; nobody = nobody; until_taken = until_taken c s ticket is nobody }

owes_nothing : (c : Class) → IsAtRest c → (s : ℕ) → s < c.seats → (it : Debt) → it ≢ nothing → Owes (c.seat s).debt it → ⊥
owes_nothing c rest s is it isnt owes = isnt (sym owes.1 ∙ rest.all_settled s is owes.0)

pub no_seat_is_lost : NoSeatIsLost
no_seat_is_lost c r rest s is free = let o = reached_is_orderly c r in let h = o.serves s is in record {
  no_due = λ t due_. none (h.if_due t free due_);
  is_called = λ t sleeps open_. in_queue o (task (h.if_waits t free open_ sleeps));
}
  where
    nobody : (t : ℕ) → c.looks ≡ Some t → ⊥
    nobody t looking = none_looks c.looks rest.nobody_looks t looking

    owes : (it : Debt) → it ≢ nothing → Owes (c.seat s).debt it → ⊥
    owes it isnt has = owes_nothing c rest s is it isnt has

    none : {t : ℕ} → ComesToOne c.looks (c.unseen s) (c.seat s).debt t → ⊥
    none {t} (inl coming) = nobody t coming.0
    none (inr has) = owes to_offer (λ is. let z : ⊥ = cc in z) has

    task : ComesToTasks c.stands c.call s c.looks (c.unseen s) (c.seat s).debt → Called c.call s
    task (inl one) = one
    task (inr (inl looking)) = absurd (nobody looking.0 looking.1)
    task (inr (inr (inl has))) = absurd (owes to_call (λ is. let z : ⊥ = cc in z) has)
    task (inr (inr (inr has))) = absurd (owes to_offer (λ is. let z : ⊥ = cc in z) has)

    in_queue : IsOrderly c → Called c.call s → IsAwaited c s
    in_queue o one = (one.0, o.in_queue one.0 s one.1, one.1)

-- tasks that were called for these seats, one for each
abbrev CalledFor : Class → List ℕ → List ℕ → Type 0
CalledFor c [] [] = Unit {0}
CalledFor c (s ∷ seats) (u ∷ tasks) = (c.call u ≡ Some s) × CalledFor c seats tasks
CalledFor c [] (u ∷ tasks) = ⊥
CalledFor c (s ∷ seats) [] = ⊥

pub free_seats_are_at_most_the_calls : FreeSeatsAreAtMostTheCalls
free_seats_are_at_most_the_calls c r rest sleeper seats different all = let it = go seats all in
    (it.0, they_differ seats it.0 different it.1, are_called seats it.0 it.1, as_many seats it.0 it.1)
  where
    go : (seats : List ℕ) → EachIs (IsFreeForTasks c) seats → (tasks : List ℕ) × CalledFor c seats tasks
    go [] _ = ([], tt)
    go (s ∷ seats) each = let one = (no_seat_is_lost c r rest s each.0.0 each.0.1).is_called sleeper.0 sleeper.1 each.0.2 in
        let more = go seats each.1 in (one.0 ∷ more.0, (one.2, more.1))

    -- a task was called for one seat
    other : (u s : ℕ) (seats tasks : List ℕ) → c.call u ≡ Some s → EachIs (λ k. k ≢ s) seats → CalledFor c seats tasks → EachIs (λ k. k ≢ u) tasks
    other u s [] [] is _ _ = tt
    other u s [] (v ∷ tasks) is _ for = absurd for
    other u s (r ∷ seats) [] is _ for = absurd for
    other u s (r ∷ seats) (v ∷ tasks) is else_ for = (λ same_. else_.0 (same r s (sym for.0 ∙ ap c.call same_ ∙ is)), other u s seats tasks is else_.1 for.1)

    they_differ : (seats tasks : List ℕ) → AllDiffer seats → CalledFor c seats tasks → AllDiffer tasks
    they_differ [] [] _ _ = tt
    they_differ [] (u ∷ tasks) _ for = absurd for
    they_differ (s ∷ seats) [] _ for = absurd for
    they_differ (s ∷ seats) (u ∷ tasks) differ for = (other u s seats tasks for.0 differ.0 for.1, they_differ seats tasks differ.1 for.1)

    are_called : (seats tasks : List ℕ) → CalledFor c seats tasks → EachIs (IsUnderWay c) tasks
    are_called [] [] _ = tt
    are_called [] (u ∷ tasks) for = absurd for
    are_called (s ∷ seats) [] for = absurd for
    are_called (s ∷ seats) (u ∷ tasks) for = (((reached_is_orderly c r).in_queue u s for.0, (s, for.0)), are_called seats tasks for.1)

    as_many : (seats tasks : List ℕ) → CalledFor c seats tasks → length tasks ≡ length seats
    as_many [] [] _ = refl
    as_many [] (u ∷ tasks) for = absurd for
    as_many (s ∷ seats) [] for = absurd for
    as_many (s ∷ seats) (u ∷ tasks) for = ap suc (as_many seats tasks for.1)
