-- A test of a reached state that an event passes only where it is possible.
use Rattle.std.proofs.Common.{ℕ, suc, ◌≡◌, ◌≢◌, ◌<◌, ◌⊎◌, ◌==◌, ◌&&◌, ◌||◌, inl, inr, ⊎_elim, nat_lt, Bool, true, false, not, List, [], ◌∷◌, Option, Some, None, refl, sym, ap, ◌∙◌, subst, arith, true≢false}
use Rattle.std.specs.Option.{is_some}
use Rattle.std.proofs.lemmas.Grind.{common_steps}
use mathlib.Core.Logic.{dite}
use native.Mathlib.Decide.{dec_le}
use Rattle.ww_queue.specs.declared.kind.Kind.{Kind}
use Rattle.ww_queue.specs.declared.kind.Kind.TheVariants.{WoundWait, WaitDie}
use Rattle.ww_queue.specs.declared.entry.Entry.{Entry}
use Rattle.ww_queue.specs.Queue.{Has, StandsNot}
use Rattle.ww_queue.proofs.Outcomes.{both_true, same_number, other_number}
use Rattle.ww_model.specs.declared.state.Holder.{Holder}
use Rattle.ww_model.specs.declared.state.Holder.TheVariants.{Nobody, Taken, Handed}
use Rattle.ww_model.specs.declared.event.Event.{Event}
use Rattle.ww_model.specs.declared.event.Event.TheVariants.{Begin, Clear, Fast, FastGive, Guard, Join, Sign, Take, Ask, Give, Die, Unguard, Commit, End, Cancel, Heed, Leave}
use Rattle.ww_model.specs.State.{State, any_below, is_taken_by, OwnsNone, Inside, InsideNone, InNoQueue, Away, IsCalm, owns_some, dies, owes, place_of}
use Rattle.ww_model.specs.Event.{Possible, SignsPossible, IsSafe, owed_to, after}
use Rattle.ww_model.specs.Run.{IsRun, Reached, further}
use Rattle.ww_model.specs.Snapshot.{IsFirst}
use Rattle.ww_model.proofs.Outcomes.{number_same, or_true, taken_true, true_taken}
use Rattle.ww_model.proofs.Owning.{owns_found, owns_none}
use Rattle.ww_model.proofs.Slots.{found_below}
use Rattle.ww_model.proofs.Waiters.{has_waiter, waiter_stands, stands_waiter}
use Rattle.ww_model.proofs.Kept.{reached_is_lawful}
use Rattle.ww_model.proofs.Beyond.{queues_beyond, guards_are}

-- ---- parts of the test

abbrev is_in : State → ℕ → ℕ → Bool
is_in c s n = (c.guard n == suc s) && (nat_lt n c.locks && nat_lt s c.seats)

abbrev inside_none : State → ℕ → Bool
inside_none c s = not (any_below c.locks (λ n. c.guard n == suc s))

abbrev in_no_queue : State → ℕ → Bool
in_no_queue c s = not (any_below c.locks (λ n. has_waiter s (c.queue n)))

abbrev is_away : State → ℕ → Bool
is_away c s = nat_lt s c.seats && (inside_none c s && in_no_queue c s)

-- the seat has a context, and no sign or a lock
abbrev wants : State → ℕ → Bool
wants c s = nat_lt 0 (c.stamp s) && ((c.sign s == 0) || owns_some c s)

abbrev is_free : Holder → Bool
is_free Nobody = true
is_free (Taken t) = false
is_free (Handed t) = false

abbrev is_free_for : ℕ → Holder → Bool
is_free_for s Nobody = true
is_free_for s (Taken t) = false
is_free_for s (Handed t) = t == s

abbrev is_other : ℕ → Holder → Bool
is_other s Nobody = false
is_other s (Taken t) = not (t == s)
is_other s (Handed t) = not (t == s)

abbrev is_other_taken : ℕ → Holder → Bool
is_other_taken s Nobody = false
is_other_taken s (Taken t) = not (t == s)
is_other_taken s (Handed t) = false

abbrev is_empty : List Entry → Bool
is_empty [] = true
is_empty (e ∷ es) = false

abbrev is_first : ℕ → List Entry → Bool
is_first s [] = false
is_first s (e ∷ es) = e.seat == s

abbrev all_signed : State → List (ℕ × ℕ) → Bool
all_signed c [] = true
all_signed c (p ∷ ps) = nat_lt 0 (c.sign p.0) && all_signed c ps

abbrev is_safe : Kind → State → ℕ → ℕ → Bool
is_safe WoundWait c s n = true
is_safe WaitDie c s n = not (is_some (dies c s n)) && (c.sign s == 0)

abbrev lives : Kind → State → ℕ → ℕ → Bool
lives WoundWait c s n = false
lives WaitDie c s n = is_in c s n && not (is_some (dies c s n))

-- ---- the test

abbrev pub passes : State → Event → Bool
passes c (Begin s) = is_away c s && ((c.stamp s == 0) && (not (owns_some c s) && nat_lt c.drawn 72057594037927935))
passes c (Clear s) = nat_lt 0 (c.stamp s) && ((is_away c s && not (owns_some c s)) || lives c.kind c s (place_of c s))
passes c (Fast s n) = is_away c s && (wants c s && (nat_lt n c.locks && (is_free (c.owner n) && (is_empty (c.queue n) && not (c.asked n)))))
passes c (FastGive s n) = is_away c s && (nat_lt n c.locks && (is_taken_by s (c.owner n) && (is_empty (c.queue n) && not (c.asked n))))
passes c (Guard s n) = nat_lt s c.seats && (nat_lt n c.locks && (inside_none c s && ((c.guard n == 0) &&
    (has_waiter s (c.queue n) || (in_no_queue c s && (is_taken_by s (c.owner n) || wants c s))))))
passes c (Join s n) = is_in c s n && (not (has_waiter s (c.queue n)) && (wants c s && is_other s (c.owner n)))
passes c (Sign s v) = is_in c s (place_of c s) && ((c.sign v == 0) && is_some (owed_to v (owes c s (place_of c s))))
passes c (Take s n) = is_in c s n && (wants c s && is_free_for s (c.owner n))
passes c (Ask s n) = is_in c s n && (is_first s (c.queue n) && (is_other_taken s (c.owner n) && not (c.asked n)))
passes c (Give s n) = is_in c s n && is_taken_by s (c.owner n)
passes c (Die s n) = is_in c s n && (has_waiter s (c.queue n) && (is_other s (c.owner n) && ((c.heeded s == 0) && is_some (dies c s n))))
passes c (Unguard s n) = is_in c s n && ((not (has_waiter s (c.queue n)) || is_other s (c.owner n))
    && ((c.heeded s == 0) && (all_signed c (owes c s n) && is_safe c.kind c s n)))
passes c (Commit s) = is_away c s && (owns_some c s && nat_lt c.commits 18446744073709551615)
passes c (End s) = is_away c s && (nat_lt 0 (c.stamp s) && (not (owns_some c s) && (c.sign s == 0)))
passes c (Cancel s v) = is_away c s && (nat_lt v c.seats && (c.cancel v == 0))
passes c (Heed s n) = is_in c s n && (has_waiter s (c.queue n) && (is_other s (c.owner n) && (nat_lt 0 (c.cancel s) && (c.heeded s == 0))))
passes c (Leave s n) = is_in c s n && (has_waiter s (c.queue n) && nat_lt 0 (c.heeded s))

abbrev pub all_pass : State → List Event → Bool
all_pass c [] = true
all_pass c (e ∷ es) = passes c e && all_pass (after c e) es

-- ---- what each part says

less : (m n : ℕ) → nat_lt m n ≡ true → m < n
less m n is = grind (arith, common_steps)

not_true : (b : Bool) → not b ≡ true → b ≡ false
not_true true is = absurd (true≢false (sym is))
not_true false is = refl

free_from : (o : Holder) → is_free o ≡ true → o ≡ Nobody
free_from Nobody is = refl
free_from (Taken t) is = absurd (true≢false (sym is))
free_from (Handed t) is = absurd (true≢false (sym is))

free_for_from : (s : ℕ) (o : Holder) → is_free_for s o ≡ true → (o ≡ Nobody) ⊎ (o ≡ Handed s)
free_for_from s Nobody is = inl refl
free_for_from s (Taken t) is = absurd (true≢false (sym is))
free_for_from s (Handed t) is = inr (ap Handed (same_number t s is))

other_from : (s : ℕ) (o : Holder) → is_other s o ≡ true → (t : ℕ) × (t ≢ s) × ((o ≡ Taken t) ⊎ (o ≡ Handed t))
other_from s Nobody is = absurd (true≢false (sym is))
other_from s (Taken t) is = (t, other_number t s (not_true (t == s) is), inl refl)
other_from s (Handed t) is = (t, other_number t s (not_true (t == s) is), inr refl)

other_taken_from : (s : ℕ) (o : Holder) → is_other_taken s o ≡ true → (t : ℕ) × (t ≢ s) × (o ≡ Taken t)
other_taken_from s Nobody is = absurd (true≢false (sym is))
other_taken_from s (Taken t) is = (t, other_number t s (not_true (t == s) is), refl)
other_taken_from s (Handed t) is = absurd (true≢false (sym is))

empty_from : (q : List Entry) → is_empty q ≡ true → q ≡ []
empty_from [] is = refl
empty_from (e ∷ es) is = absurd (true≢false (sym is))

first_from : (s : ℕ) (q : List Entry) → is_first s q ≡ true → IsFirst q s
first_from s [] is = absurd (true≢false (sym is))
first_from s (e ∷ es) is = (e, es, refl, same_number e.seat s is)

stands_not : (s : ℕ) (q : List Entry) → has_waiter s q ≡ false → StandsNot q s
stands_not s q isnt e h is = true≢false (sym (stands_waiter s q (e, h, is)) ∙ isnt)

none_from : (o : Option ℕ) → not (is_some o) ≡ true → o ≡ None
none_from None is = refl
none_from (Some k) is = absurd (true≢false (sym is))

signed_from : (c : State) (pairs : List (ℕ × ℕ)) → all_signed c pairs ≡ true → (v k : ℕ) → Has pairs (v, k) → c.sign v ≢ 0
signed_from c [] is v k h = absurd h
signed_from c (p ∷ ps) is v k h = let both = both_true (nat_lt 0 (c.sign p.0)) (all_signed c ps) is in ⊎_elim
    (λ same none. let some = less 0 (c.sign p.0) both.0 in let seat = ap (λ (x : ℕ × ℕ). c.sign x.0) same in omega arith)
    (λ later. signed_from c ps both.1 v k later) h

module _ (c : State) (s : ℕ) where
  is_inside : (n : ℕ) → is_in c s n ≡ true → Inside c s n
  is_inside n is = let a = both_true (c.guard n == suc s) (nat_lt n c.locks && nat_lt s c.seats) is in
      let b = both_true (nat_lt n c.locks) (nat_lt s c.seats) a.1 in
      record { guard = same_number (c.guard n) (suc s) a.0; lock = less n c.locks b.0; seat = less s c.seats b.1 }

  wanted : wants c s ≡ true → (0 < c.stamp s) × IsCalm c s
  wanted is = let a = both_true (nat_lt 0 (c.stamp s)) ((c.sign s == 0) || owns_some c s) is in (
    less 0 (c.stamp s) a.0,
    ⊎_elim
        (λ none. inl (same_number (c.sign s) 0 none)) (λ owns. inr (owns_found c.locks c.owner s owns))
        (or_true (c.sign s == 0) (owns_some c s) a.1),
  )

  module _ (reached : Reached c) where
    none_inside : inside_none c s ≡ true → InsideNone c s
    none_inside is n in_n = true≢false (sym
        (found_below c.locks (λ m. c.guard m == suc s) n (guards_are c reached s n in_n).lock
        (number_same (c.guard n) (suc s) in_n))
        ∙ not_true (any_below c.locks (λ m. c.guard m == suc s)) is)

    none_waits : in_no_queue c s ≡ true → InNoQueue c s
    none_waits is n e h mine = let lock : n < c.locks =
        dite (dec_le c.locks n) (λ beyond. absurd (subst (λ q. Has q e) (queues_beyond c reached n beyond) h))
        (λ within. omega arith) in
        true≢false (sym (found_below c.locks (λ m. has_waiter s (c.queue m)) n lock (stands_waiter s (c.queue n) (e, h, mine)))
        ∙ not_true (any_below c.locks (λ m. has_waiter s (c.queue m))) is)

    away : is_away c s ≡ true → Away c s
    away is = let a = both_true (nat_lt s c.seats) (inside_none c s && in_no_queue c s) is in
        let b = both_true (inside_none c s) (in_no_queue c s) a.1 in
        record { seat = less s c.seats a.0; inside = none_inside b.0; queue = none_waits b.1 }

    owns_nothing : not (owns_some c s) ≡ true → OwnsNone c s
    owns_nothing is = owns_none c.locks c.owner s (reached_is_lawful c reached).base.owners.beyond (not_true (owns_some c s) is)

-- ---- whoever passes may

may_clear : (kind : Kind) (c : State) (s n : ℕ) → c.kind ≡ kind → lives kind c s n ≡ true → SignsPossible c (Clear s)
may_clear WoundWait c s n is lives_there = absurd (true≢false (sym lives_there))
may_clear WaitDie c s n is lives_there = let a = both_true (is_in c s n) (not (is_some (dies c s n))) lives_there in
    inr (n, record { kind = is; inside = is_inside c s n a.0; lives = none_from (dies c s n) a.1 })

may_leave : (kind : Kind) (c : State) (s n : ℕ) → c.kind ≡ kind → is_safe kind c s n ≡ true → c.kind ≡ WaitDie → IsSafe c s n
may_leave WoundWait c s n is safe dying = absurd (let clash = sym is ∙ dying in cc)
may_leave WaitDie c s n is safe dying = let a = both_true (not (is_some (dies c s n))) (c.sign s == 0) safe in
    record { lives = none_from (dies c s n) a.0; unsigned = same_number (c.sign s) 0 a.1 }

may_go : (c : State) → Reached c → (s n : ℕ) → inside_none c s ≡ true → s < c.seats → n < c.locks → c.guard n ≡ 0
    → in_no_queue c s ≡ true → (taken : Bool) → is_taken_by s (c.owner n) ≡ taken →
    (taken || wants c s) ≡ true → Possible c (Guard s n)
may_go c reached s n none seat lock free away' true own is = let owns = taken_true s (c.owner n) own in record {
  base = record {
    seat = seat;
    lock = lock;
    inside_none = none_inside c s reached none;
    free = free;
    why = inl (owns, none_waits c s reached away');
  };
  signs = inl owns;
}
may_go c reached s n none seat lock free away' false own is = let w = wanted c s is in record {
  base = record {
    seat = seat;
    lock = lock;
    inside_none = none_inside c s reached none;
    free = free;
    why = inr (inr (none_waits c s reached away', (λ o. true≢false (sym (true_taken s (c.owner n) o) ∙ own)), inl w.0));
  };
  signs = inr (inr w.1);
}

pub may : (c : State) → Reached c → (e : Event) → passes c e ≡ true → Possible c e
may c reached (Begin s) is =
    let p = both_true (is_away c s) ((c.stamp s == 0) && (not (owns_some c s) && nat_lt c.drawn 72057594037927935)) is in
    let q = both_true (c.stamp s == 0) (not (owns_some c s) && nat_lt c.drawn 72057594037927935) p.1 in
    let r = both_true (not (owns_some c s)) (nat_lt c.drawn 72057594037927935) q.1 in record {
      base = record {
        away = away c s reached p.0;
        no_context = same_number (c.stamp s) 0 q.0;
        owns_none = owns_nothing c s reached r.0;
        stamps_left = let left = less c.drawn 72057594037927935 r.1 in omega arith;
      };
      signs = tt;
    }
may c reached (Clear s) is = let n = place_of c s in
    let p = both_true (nat_lt 0 (c.stamp s)) ((is_away c s && not (owns_some c s)) || lives c.kind c s n) is in record {
      base = less 0 (c.stamp s) p.0;
      signs = ⊎_elim
          (λ out. let q = both_true (is_away c s) (not (owns_some c s)) out in inl (away c s reached q.0, owns_nothing c s reached q.1))
          (may_clear c.kind c s n refl)
          (or_true (is_away c s && not (owns_some c s)) (lives c.kind c s n) p.1);
    }
may c reached (Fast s n) is =
    let p = both_true (is_away c s) (wants c s
    && (nat_lt n c.locks && (is_free (c.owner n) && (is_empty (c.queue n) && not (c.asked n))))) is in
    let q = both_true (wants c s) (nat_lt n c.locks && (is_free (c.owner n) && (is_empty (c.queue n) && not (c.asked n)))) p.1 in
    let r = both_true (nat_lt n c.locks) (is_free (c.owner n) && (is_empty (c.queue n) && not (c.asked n))) q.1 in
    let t = both_true (is_free (c.owner n)) (is_empty (c.queue n) && not (c.asked n)) r.1 in
    let u = both_true (is_empty (c.queue n)) (not (c.asked n)) t.1 in let w = wanted c s q.0 in record {
      base = record {
        away = away c s reached p.0;
        may_own = inl w.0;
        idle = record {
          lock = less n c.locks r.0;
          free = free_from (c.owner n) t.0;
          empty = empty_from (c.queue n) u.0;
          not_asked = not_true (c.asked n) u.1;
        };
      };
      signs = w.1;
    }
may c reached (FastGive s n) is =
    let p = both_true (is_away c s) (nat_lt n c.locks && (is_taken_by s (c.owner n) && (is_empty (c.queue n) && not (c.asked n)))) is in
    let r = both_true (nat_lt n c.locks) (is_taken_by s (c.owner n) && (is_empty (c.queue n) && not (c.asked n))) p.1 in
    let t = both_true (is_taken_by s (c.owner n)) (is_empty (c.queue n) && not (c.asked n)) r.1 in
    let u = both_true (is_empty (c.queue n)) (not (c.asked n)) t.1 in record {
      base = record {
        away = away c s reached p.0;
        lock = less n c.locks r.0;
        owns = taken_true s (c.owner n) t.0;
        empty = empty_from (c.queue n) u.0;
        not_asked = not_true (c.asked n) u.1;
      };
      signs = tt;
    }
may c reached (Guard s n) is = let wait = has_waiter s (c.queue n) in
    let new = in_no_queue c s && (is_taken_by s (c.owner n) || wants c s) in
    let p = both_true (nat_lt s c.seats) (nat_lt n c.locks && (inside_none c s && ((c.guard n == 0) && (wait || new)))) is in
    let q = both_true (nat_lt n c.locks) (inside_none c s && ((c.guard n == 0) && (wait || new))) p.1 in
    let r = both_true (inside_none c s) ((c.guard n == 0) && (wait || new)) q.1 in
    let t = both_true (c.guard n == 0) (wait || new) r.1 in
    let seat = less s c.seats p.0 in let lock = less n c.locks q.0 in let free = same_number (c.guard n) 0 t.0 in ⊎_elim
    (λ here. let stands = waiter_stands s (c.queue n) here in record {
      base = record { seat = seat; lock = lock; inside_none = none_inside c s reached r.0; free = free; why = inr (inl stands) };
      signs = inr (inl stands);
    })
    (λ there. let u = both_true (in_no_queue c s) (is_taken_by s (c.owner n) || wants c s) there in
    may_go c reached s n r.0 seat lock free u.0 (is_taken_by s (c.owner n)) refl u.1)
    (or_true wait new t.1)
may c reached (Join s n) is =
    let p = both_true (is_in c s n) (not (has_waiter s (c.queue n)) && (wants c s && is_other s (c.owner n))) is in
    let q = both_true (not (has_waiter s (c.queue n))) (wants c s && is_other s (c.owner n)) p.1 in
    let r = both_true (wants c s) (is_other s (c.owner n)) q.1 in let w = wanted c s r.0 in record {
      base = record {
        inside = is_inside c s n p.0;
        not_waiting = stands_not s (c.queue n) (not_true (has_waiter s (c.queue n)) q.0);
        may_own = inl w.0;
        other = other_from s (c.owner n) r.1;
      };
      signs = w.1;
    }
may c reached (Sign s v) is = let owed = owed_to v (owes c s (place_of c s)) in
    let p = both_true (is_in c s (place_of c s)) ((c.sign v == 0) && is_some owed) is in
    let q = both_true (c.sign v == 0) (is_some owed) p.1 in record {
      base = is_inside c s (place_of c s) p.0;
      signs = record { unsigned = same_number (c.sign v) 0 q.0; owed = q.1 };
    }
may c reached (Take s n) is =
    let p = both_true (is_in c s n) (wants c s && is_free_for s (c.owner n)) is in
    let q = both_true (wants c s) (is_free_for s (c.owner n)) p.1 in let w = wanted c s q.0 in record {
      base = record { inside = is_inside c s n p.0; may_own = inl w.0; free = free_for_from s (c.owner n) q.1 };
      signs = w.1;
    }
may c reached (Ask s n) is =
    let p = both_true (is_in c s n) (is_first s (c.queue n) && (is_other_taken s (c.owner n) && not (c.asked n))) is in
    let q = both_true (is_first s (c.queue n)) (is_other_taken s (c.owner n) && not (c.asked n)) p.1 in
    let r = both_true (is_other_taken s (c.owner n)) (not (c.asked n)) q.1 in record {
      base = record {
        inside = is_inside c s n p.0;
        first = first_from s (c.queue n) q.0;
        other = other_taken_from s (c.owner n) r.0;
        not_asked = not_true (c.asked n) r.1;
      };
      signs = tt;
    }
may c reached (Give s n) is = let p = both_true (is_in c s n) (is_taken_by s (c.owner n)) is in record {
  base = record {
    inside = is_inside c s n p.0;
    owns = taken_true s (c.owner n) p.1;
    waiter = λ asked. (((reached_is_lawful c reached).base.owners.at n).asked_taken asked).1;
  };
  signs = tt;
}
may c reached (Die s n) is =
    let p = both_true (is_in c s n) (has_waiter s (c.queue n)
    && (is_other s (c.owner n) && ((c.heeded s == 0) && is_some (dies c s n)))) is in
    let q = both_true (has_waiter s (c.queue n)) (is_other s (c.owner n) && ((c.heeded s == 0) && is_some (dies c s n))) p.1 in
    let r = both_true (is_other s (c.owner n)) ((c.heeded s == 0) && is_some (dies c s n)) q.1 in
    let t = both_true (c.heeded s == 0) (is_some (dies c s n)) r.1 in record {
      base = record {
        inside = is_inside c s n p.0;
        waits = waiter_stands s (c.queue n) q.0;
        other = other_from s (c.owner n) r.0;
        unheeded = same_number (c.heeded s) 0 t.0;
      };
      signs = t.1;
    }
may c reached (Unguard s n) is = let wait = not (has_waiter s (c.queue n)) in
    let p = both_true (is_in c s n) ((wait || is_other s (c.owner n))
    && ((c.heeded s == 0) && (all_signed c (owes c s n) && is_safe c.kind c s n))) is in
    let q = both_true (wait || is_other s (c.owner n)) ((c.heeded s == 0) && (all_signed c (owes c s n) && is_safe c.kind c s n)) p.1 in
    let t = both_true (c.heeded s == 0) (all_signed c (owes c s n) && is_safe c.kind c s n) q.1 in
    let r = both_true (all_signed c (owes c s n)) (is_safe c.kind c s n) t.1 in record {
      base = record {
        inside = is_inside c s n p.0;
        contended = λ waits. ⊎_elim
            (λ none. absurd (stands_not s (c.queue n) (not_true (has_waiter s (c.queue n)) none) waits.0 waits.1 waits.2))
            (other_from s (c.owner n)) (or_true wait (is_other s (c.owner n)) q.0);
        unheeded = same_number (c.heeded s) 0 t.0;
      };
      signs = record { signed = signed_from c (owes c s n) r.0; safe = may_leave c.kind c s n refl r.1 };
    }
may c reached (Commit s) is =
    let p = both_true (is_away c s) (owns_some c s && nat_lt c.commits 18446744073709551615) is in
    let q = both_true (owns_some c s) (nat_lt c.commits 18446744073709551615) p.1 in record {
      base = record {
        away = away c s reached p.0;
        owns_some = owns_found c.locks c.owner s q.0;
        places_left = let left = less c.commits 18446744073709551615 q.1 in omega arith;
      };
      signs = tt;
    }
may c reached (End s) is =
    let p = both_true (is_away c s) (nat_lt 0 (c.stamp s) && (not (owns_some c s) && (c.sign s == 0))) is in
    let q = both_true (nat_lt 0 (c.stamp s)) (not (owns_some c s) && (c.sign s == 0)) p.1 in
    let r = both_true (not (owns_some c s)) (c.sign s == 0) q.1 in record {
      base = record { away = away c s reached p.0; context = less 0 (c.stamp s) q.0; owns_none = owns_nothing c s reached r.0 };
      signs = same_number (c.sign s) 0 r.1;
    }
may c reached (Cancel s v) is =
    let p = both_true (is_away c s) (nat_lt v c.seats && (c.cancel v == 0)) is in
    let q = both_true (nat_lt v c.seats) (c.cancel v == 0) p.1 in record {
      base = record { away = away c s reached p.0; seat = less v c.seats q.0; none = same_number (c.cancel v) 0 q.1 };
      signs = tt;
    }
may c reached (Heed s n) is =
    let p = both_true (is_in c s n) (has_waiter s (c.queue n)
    && (is_other s (c.owner n) && (nat_lt 0 (c.cancel s) && (c.heeded s == 0)))) is in
    let q = both_true (has_waiter s (c.queue n)) (is_other s (c.owner n) && (nat_lt 0 (c.cancel s) && (c.heeded s == 0))) p.1 in
    let r = both_true (is_other s (c.owner n)) (nat_lt 0 (c.cancel s) && (c.heeded s == 0)) q.1 in
    let t = both_true (nat_lt 0 (c.cancel s)) (c.heeded s == 0) r.1 in record {
      base = record {
        inside = is_inside c s n p.0;
        waits = waiter_stands s (c.queue n) q.0;
        other = other_from s (c.owner n) r.0;
        cancelled = λ none. let some = less 0 (c.cancel s) t.0 in omega arith;
        unheeded = same_number (c.heeded s) 0 t.1;
      };
      signs = tt;
    }
may c reached (Leave s n) is =
    let p = both_true (is_in c s n) (has_waiter s (c.queue n) && nat_lt 0 (c.heeded s)) is in
    let q = both_true (has_waiter s (c.queue n)) (nat_lt 0 (c.heeded s)) p.1 in record {
      base = record {
        inside = is_inside c s n p.0;
        waits = waiter_stands s (c.queue n) q.0;
        heeded = λ none. let some = less 0 (c.heeded s) q.1 in omega arith;
      };
      signs = tt;
    }

-- events that pass in turn are a run
pub a_run : (c : State) → Reached c → (es : List Event) → all_pass c es ≡ true → IsRun c es
a_run c reached [] is = tt
a_run c reached (e ∷ es) is = let p = both_true (passes c e) (all_pass (after c e) es) is in let can = may c reached e p.0 in
    (can, a_run (after c e) (further c e reached can) es p.1)
