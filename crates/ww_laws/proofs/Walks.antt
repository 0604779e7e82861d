-- From sleeper to sleeper, to somebody who is up.
use Rattle.std.proofs.Common.{◌≡◌, ◌≢◌, ◌⊎◌, inl, inr, ⊎_elim, ℕ, zero, suc, ◌+◌, ◌<◌, ◌≤◌, List, [], ◌∷◌, ◌++◌, length, refl, sym, ap, ◌∙◌, subst, arith, true≢false}
use Rattle.std.proofs.lemmas.List.{length-append}
use Rattle.ww_queue.specs.declared.entry.Entry.{Entry}
use Rattle.ww_queue.specs.Queue.{Has, Stands}
use Rattle.ww_model.specs.declared.state.Holder.{Holder}
use Rattle.ww_model.specs.declared.state.Holder.TheVariants.{Nobody, Taken, Handed}
use Rattle.ww_model.specs.State.{State}
use Rattle.ww_model.specs.Lawful.{IsLawful}
use Rattle.ww_model.specs.Waits.{WaitsFor, Leads, IsCycle, IsOneOf, Differ}
use Rattle.ww_model.proofs.Kept.{reached_is_lawful}
use Rattle.ww_model.proofs.Rings.{cycles_are_condemned}
use Rattle.ww_model.proofs.Leaving.{waiters_are_seats}
use Rattle.ww_model.proofs.Chains.{Walked, walked_more, walk_has_room, differ_more, one_of_more}
use Rattle.ww_laws.specs.Scene.{Phase, acting, going_to_sleep, asleep, Scene}
use Rattle.ww_laws.specs.Sleepers.{IsDue, Awaits, IsUp, HasToWait, WaitsLeadTo, is_such, awaits, SleepersAwaitSomebodyUp, IsStill, IsAwakeHolder, SleepersAwaitAHolder}
use Rattle.ww_laws.proofs.Woken.{due_stands}
use Rattle.ww_laws.proofs.Keeping.{IsOrderly, alerted, orderly_sleep, reached_is_orderly}

-- ---- a walk that comes back is a cycle

-- what is left of a chain from one of its seats on
record Rest (c : State) (bs : List ℕ) (z x : ℕ) : Type 0 where
  after : List ℕ
  from : Leads c x after z
  within : (y : ℕ) → IsOneOf y after → IsOneOf y bs

rest_of : (c : State) (a : ℕ) (bs : List ℕ) (z x : ℕ) → Leads c a bs z → IsOneOf x bs → Rest c bs z x
rest_of c a [] z x l one = absurd one
rest_of c a (b ∷ bs) z x l (inl is) = record { after = bs; from = subst (λ (y : ℕ). Leads c y bs z) (sym is) l.1; within = λ y. inr }
rest_of c a (b ∷ bs) z x l (inr later) = let rest = rest_of c b bs z x l.1 later in
    record { after = rest.after; from = rest.from; within = λ y one. inr (rest.within y one) }

record Cycle (c : State) (r : List ℕ) : Type 0 where
  seats : List ℕ
  cycle : IsCycle c seats
  within : (y : ℕ) → IsOneOf y seats → IsOneOf y r

comes_back : (c : State) (a : ℕ) (r : List ℕ) (h : ℕ) → Walked c a r h → IsOneOf h r → Cycle c r
comes_back c a [] h walked one = absurd one
comes_back c a (x ∷ xs) h walked (inl is) = record {
  seats = h ∷ xs;
  cycle = subst (λ (y : ℕ). Leads c y xs h) (sym walked.0 ∙ sym is) walked.1;
  within = λ y. ⊎_elim (λ same. inl (same ∙ is)) inr;
}
comes_back c a (x ∷ xs) h walked (inr later) = let rest = rest_of c a xs h h walked.1 later in record {
  seats = h ∷ rest.after;
  cycle = rest.from;
  within = λ y one. inr (⊎_elim (λ same. subst (λ z. IsOneOf z xs) (sym same) later) (rest.within y) one);
}

-- ---- whom a sleeper awaits

-- another has the lock, or it is there for another
record Awaited (c : State) (s n : ℕ) : Type 0 where
  seat : ℕ
  other : s ≢ seat
  owner : (c.owner n ≡ Taken seat) ⊎ IsDue c seat n

awaited_at : (c : State) (s n : ℕ) (o : Holder) (q : List Entry) → IsLawful c → c.owner n ≡ o → c.queue n ≡ q →
    Stands q s → ¬ IsDue c s n → Awaited c s n
awaited_at c s n (Taken t) q l own list h not = record {
  seat = t;
  other = λ is. (l.base.owners.at n).taken_stands_not t own h.0 (subst (λ x. Has x h.0) (sym list) h.1) (h.2 ∙ is);
  owner = inl own;
}
awaited_at c s n (Handed t) q l own list h not = record {
  seat = t;
  other = λ is. not (inl (own ∙ ap Handed (sym is)));
  owner = inr (inl own);
}
awaited_at c s n Nobody [] l own list h not = absurd h.1
awaited_at c s n Nobody (e ∷ es) l own list h not = record {
  seat = e.seat;
  other = λ is. not (inr (own, (e, es, list, sym is)));
  owner = inr (inr (own, (e, es, list, refl)));
}

awaited : (w : Scene) → IsOrderly w → (s : ℕ) (x : HasToWait w s) → Awaited w.core s x.lock
awaited w o s x = let c = w.core in
    awaited_at c s x.lock (c.owner x.lock) (c.queue x.lock) (reached_is_lawful c o.reached) refl refl x.stands (x.not_due x.lock)

-- for whom a lock is there is up
due_is_up : (w : Scene) → IsOrderly w → (s n : ℕ) → IsDue w.core s n → IsUp w s
due_is_up w o s n due = ⊎_elim (λ acts. inl (λ sleeps. let z : ⊥ = cc in z)) (λ told. inr (alerted w o s told)) (o.due s n due)

pub sleeps_or_not : (p : Phase) → (p ≡ asleep) ⊎ (p ≢ asleep)
sleeps_or_not acting = inr (λ is. let z : ⊥ = cc in z)
sleeps_or_not going_to_sleep = inr (λ is. let z : ⊥ = cc in z)
sleeps_or_not asleep = inl refl

up_or_waits : (w : Scene) → IsOrderly w → (s : ℕ) → IsUp w s ⊎ HasToWait w s
up_or_waits w o s = ⊎_elim (λ sleeps. ⊎_elim (λ alert. inl (inr alert)) inr (orderly_sleep w o s sleeps))
    (λ isnt. inl (inl isnt)) (sleeps_or_not (w.phase s))

-- ---- the walk

module _ (w : Scene) (o : IsOrderly w) where
  abbrev AllWait : List ℕ → Type 0
  AllWait r = (x : ℕ) → IsOneOf x r → HasToWait w x

  -- a walk by waiters comes by none twice: a cycle has a condemned member, and that doesn't have to wait
  is_new : (a : ℕ) (r : List ℕ) (h : ℕ) → Walked w.core a r h → AllWait r → ¬ IsOneOf h r
  is_new a r h walked all one = let back = comes_back w.core a r h walked one in
      let found = cycles_are_condemned w.core (reached_is_lawful w.core o.reached) back.seats back.cycle in
      (all found.0 (back.within found.0 found.1)).not_condemned found.2

  all_more : (r : List ℕ) (h : ℕ) → AllWait r → HasToWait w h → AllWait (r ++ h ∷ [])
  all_more r h all here x one = ⊎_elim (all x) (λ is. subst (HasToWait w) (sym is) here) (one_of_more r h x one)

  waits_for : (s t : ℕ) (x : HasToWait w s) → w.core.owner x.lock ≡ Taken t → s ≢ t → WaitsFor w.core s t
  waits_for s t x own other = (x.lock, record { stands = x.stands; outside = x.outside x.lock; owner = inl own; other = other })

  seat_of : (s : ℕ) → HasToWait w s → s < w.core.seats
  seat_of s x = let h = x.stands in subst (λ (y : ℕ). y < w.core.seats) h.2 (waiters_are_seats w.core o.reached x.lock h.0 h.1)

  -- from the last waiter of a walk on, which comes by as many seats as there are at most
  walk : (fuel a : ℕ) (r : List ℕ) (h : ℕ) → Walked w.core a r h → Differ r → AllWait r → HasToWait w h →
      w.core.seats ≤ length r + fuel → WaitsLeadTo w.core (IsUp w) h
  walk zero a r h walked differ all here enough =
      let room = walk_has_room w.core o.reached a r h walked differ (is_new a r h walked all) (seat_of h here) in absurd (omega arith)
  walk (suc k) a r h walked differ all here enough = let t = awaited w o h here in
      awaits h t.seat here.lock (record { stands = here.stands; owner = t.owner; other = t.other }) (⊎_elim
      (λ own. ⊎_elim (is_such t.seat)
      (λ there. let more = length-append r (h ∷ []) in walk k a (r ++ h ∷ []) t.seat
      (walked_more w.core a r h t.seat walked (waits_for h t.seat here own t.other))
      (differ_more r h differ (is_new a r h walked all)) (all_more r h all here) there (omega arith))
      (up_or_waits w o t.seat))
      (λ due. is_such t.seat (due_is_up w o t.seat here.lock due)) t.owner)

  from_sleeper : (s : ℕ) → WaitsLeadTo w.core (IsUp w) s
  from_sleeper s = ⊎_elim (is_such s) (λ waits. walk w.core.seats s [] s refl tt (λ x one. absurd one) waits (omega arith))
      (up_or_waits w o s)

pub sleepers_await_somebody_up : SleepersAwaitSomebodyUp
sleepers_await_somebody_up w r s sleeps = from_sleeper w (reached_is_orderly w r) s

-- ---- where nothing is under way

module _ (w : Scene) (o : IsOrderly w) (still : IsStill w) where
  awake : (s : ℕ) → IsUp w s → w.phase s ≢ asleep
  awake s (inl isnt) = isnt
  awake s (inr (inl token)) = absurd (true≢false (sym token ∙ still.no_token s))
  awake s (inr (inr owed)) = absurd (true≢false (sym owed.1 ∙ still.paid owed.0 s))

  -- a seat that is awaited and up holds a lock, awake
  holder : (x s n : ℕ) → Awaits w.core x s n → IsUp w s → IsAwakeHolder w s
  holder x s n await up = let out = awake s up in record {
    owns = ⊎_elim (λ own. (n, own))
        (λ due. absurd (out (still.waiters_sleep n s (due_stands w.core (reached_is_lawful w.core o.reached).base s n due)))) await.owner;
    awake = out;
    no_waiter = λ m e h is. out (still.waiters_sleep m s (e, h, is));
  }

  ends_at_holder : (x s n : ℕ) → Awaits w.core x s n → WaitsLeadTo w.core (IsUp w) s → WaitsLeadTo w.core (IsAwakeHolder w) s
  ends_at_holder x s n await (is_such _ up) = is_such s (holder x s n await up)
  ends_at_holder x s n await (awaits _ t m on rest) = awaits s t m on (ends_at_holder s t m on rest)

  leads_to_holder : (s : ℕ) → w.phase s ≡ asleep → WaitsLeadTo w.core (IsUp w) s → WaitsLeadTo w.core (IsAwakeHolder w) s
  leads_to_holder s sleeps (is_such _ up) = absurd (awake s up sleeps)
  leads_to_holder s sleeps (awaits _ t m on rest) = awaits s t m on (ends_at_holder s t m on rest)

pub sleepers_await_a_holder : SleepersAwaitAHolder
sleepers_await_a_holder w r still s sleeps = let o = reached_is_orderly w r in leads_to_holder w o still s sleeps (from_sleeper w o s)
