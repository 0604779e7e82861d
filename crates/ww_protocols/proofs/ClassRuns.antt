-- Runs of few steps, of one seat and of threads and tasks 0, 1 and 2.
use Rattle.std.proofs.Common.{◌≡◌, ◌≢◌, ◌<◌, inl, inr, ℕ, true, false, Option, Some, None, List, [], ◌∷◌, refl, sym, ap, ◌∙◌, subst, arith, true≢false}
use native.Mathlib.Decide.{ℕ_discrete}
use Rattle.ww_protocols.specs.Seat.{nothing, to_call, to_offer, set, claims, gives, goes_over, finds_own_free, uses_own, takes_own, leaves_own, Rule, claims_no_own, uses_its_own, takes_nobodys, uses_before_it_leaves, suspends_what_it_uses, draws_a_new_one, finds_the_ticket, looks_as_it_joins, asks_who_waits, calls_who_waits, calls_the_next, looks_when_called}
use Rattle.ww_protocols.specs.Class.{out, waits, due, at_nothing, at_its_seat, Class, opened, QueueStep, acts, suspends, takes, joins, sees_used, has_looked, has_found, serves_threads, serves_tasks, calls, passes_on, drops, leaves_called, MayBeMade, after_step, ReachedWithout, begins, goes_on}
use Rattle.ww_protocols.specs.Seats.{HasWonTwice}
use Rattle.ww_protocols.specs.Witness.{HasLent, HasResumed, HasOneThatWaits, HasPassedOn, SuchAreReached, HasTwoUsers, HasFreeSuspended, HasForgotten, HasUncalled, EachRuleMatters, HasNotYet, RestMatters}
use Rattle.ww_protocols.proofs.Sets.{set_here, set_else, set_cases}
use Rattle.ww_protocols.proofs.Sound.{ruled}

abbrev after : Class → List QueueStep → Class
after c [] = c
after c (step ∷ steps) = after (after_step c step) steps

abbrev AllMay : Option Rule → Class → List QueueStep → Type 0
AllMay left_out c [] = Unit {0}
AllMay left_out c (step ∷ steps) = MayBeMade left_out c step × AllMay left_out (after_step c step) steps

reached_on : (left_out : Option Rule) (c : Class) (steps : List QueueStep) → ReachedWithout left_out c → AllMay left_out c steps →
    ReachedWithout left_out (after c steps)
reached_on left_out c [] r may = r
reached_on left_out c (step ∷ steps) r may = reached_on left_out (after_step c step) steps (r.0, r.1, r.2, goes_on c step r.3 may.0) may.1

-- one seat: a thread's own; one that threads use; and one for which tasks are called
abbrev of_own : Class
of_own = opened 1 (λ _. true) (λ _. false)

abbrev of_threads : Class
of_threads = opened 1 (λ _. false) (λ _. false)

abbrev of_tasks : Class
of_tasks = opened 1 (λ _. false) (λ _. true)

-- ---- by the rules

-- the second goes on with what the first began by its own seat, which is the third's own once the first has ended
abbrev lent_steps : List QueueStep
lent_steps = acts 0 (takes_own 0) ∷ acts 0 (finds_own_free 0) ∷ acts 0 (uses_own 0) ∷ acts 0 (goes_over 0 1) ∷ acts 0 (leaves_own 0)
    ∷ acts 0 (takes_own 2) ∷ []

lent : HasLent
unfolding set ℕ_discrete
lent = record {
  class_ = after of_own lent_steps;
  s = 0;
  reached = reached_on None of_own lent_steps (1, (λ _. true), (λ _. false), begins)
      (inr refl, ((refl, refl, inr refl), (refl, (refl, ((refl, inr refl), (inr refl, tt))))));
  user = (1, refl);
  owner = (2, refl);
  others = λ is. omega arith;
}

-- the first suspends its context, the second resumes it, and the third has a copy of the value
nobody_else : (t : ℕ) → set (set (λ _. false) 0 true) 0 false t ≡ false
nobody_else t = set_cases (set (λ _. false) 0 true) 0 false t (λ b. b ≡ false) (λ _. refl) (λ other. set_else (λ _. false) 0 true t other)

none_there : {ticket : ℕ} → None ≡ Some ticket → ⊥
none_there is = let z : ⊥ = cc in z

resumed_by_another : HasResumed
unfolding set ℕ_discrete
resumed_by_another = record {
  class_ = after of_threads (acts 0 (claims 0) ∷ []);
  reached = reached_on None of_threads (acts 0 (claims 0) ∷ []) (1, (λ _. false), (λ _. false), begins) ((refl, inr refl), tt);
  began = refl;
  suspended = (inr refl, inr refl);
  nobody = nobody_else;
  resumed = inr refl;
  goes_on = refl;
  copy = inr refl;
  copy_fails = λ may. none_there (ruled may);
}

seen : (s : ℕ) → s < 1 → set (λ _. true) 0 false s ≡ false
seen s is = set_cases (λ _. true) 0 false s (λ b. b ≡ false) (λ _. refl) (λ other. absurd (other (omega arith)))

-- what the giver of a seat had to do of it is done
all_done : (t : ℕ) → set (set (set (λ _. nothing) 0 to_offer) 0 to_call) 0 nothing t ≡ nothing
all_done t = set_cases (set (set (λ _. nothing) 0 to_offer) 0 to_call) 0 nothing t (λ it. it ≡ nothing) (λ _. refl)
    (λ other. set_else (set (λ _. nothing) 0 to_offer) 0 to_call t other ∙ set_else (λ _. nothing) 0 to_offer t other)

at_0 : (P : ℕ → Type 0) → P 0 → (s : ℕ) → s < 1 → P s
at_0 P here s is = let same : 0 ≡ s = omega arith in subst P same here

-- the second and the third wait for the seat of the first, and the second is called for it
abbrev waits_steps : List QueueStep
waits_steps = acts 0 (claims 0) ∷ joins 1 waits true ∷ sees_used 1 0 ∷ has_looked 1 ∷ joins 2 waits false ∷ acts 0 (gives 0)
    ∷ serves_threads 0 0 ∷ calls 1 0 ∷ serves_tasks 0 0 ∷ []

no_due : (t : ℕ) → set (set (λ _. out) 1 waits) 2 waits t ≢ due
no_due t = set_cases (set (λ _. out) 1 waits) 2 waits t (λ it. it ≢ due) (λ _ is. let z : ⊥ = cc in z)
    (λ _. set_cases (λ _. out) 1 waits t (λ it. it ≢ due) (λ _ is. let z : ⊥ = cc in z) (λ _ is. let z : ⊥ = cc in z))

in_use_by : {P : Type 0} → (true ≡ false) × P → ⊥
in_use_by free = true≢false free.0

waited : (left_out : Option Rule) → ReachedWithout left_out (after of_tasks waits_steps)
unfolding set ℕ_discrete
waited left_out = reached_on left_out of_tasks waits_steps (1, (λ _. false), (λ _. true), begins) (
  (refl, inr refl),
  (
    record { nobody_looks = refl; is_out = refl; stays = inl refl; looks_first = inr (inl refl) },
    (
      (refl, in_use_by),
      (
        (refl, λ s is. inl (seen s is)),
        (
          record { nobody_looks = refl; is_out = refl; stays = inl refl; looks_first = inr (inr (inr (refl, (1, (refl, refl))))) },
          (
            (refl, refl),
            (
              (refl, inr (inr no_due)),
              (
                (refl, inr (refl, refl)),
                (
                  record { has_to = refl; nobody_looks = refl; no_need = inr (inr (inr (inl (1, refl)))) },
                  tt,
                ),
              ),
            ),
          ),
        ),
      ),
    ),
  ),
)

one_that_waits : HasOneThatWaits
unfolding set ℕ_discrete
one_that_waits = (
  record {
    class_ = after of_tasks waits_steps;
    s = 0;
    reached = waited None;
    rest = record { nobody_looks = refl; all_settled = at_0 (λ s. (t : ℕ) → ((after of_tasks waits_steps).seat s).debt t ≡ nothing) all_done };
    is_seat = omega arith;
    free = (refl, refl);
  },
  refl,
  (2, (refl, refl)),
)

-- the second doesn't come, and the third is called in its place
abbrev passed_steps : List QueueStep
passed_steps = passes_on 1 2 0 ∷ drops 2 0 at_its_seat ∷ acts 0 (claims 2) ∷ sees_used 2 0 ∷ has_found 2 ∷ []

seen_its : (s : ℕ) → set (set (λ _. false) 0 true) 0 false s ≡ false
seen_its s = set_cases (set (λ _. false) 0 true) 0 false s (λ b. b ≡ false) (λ _. refl) (λ other. set_else (λ _. false) 0 true s other)

passed : HasPassedOn
unfolding set ℕ_discrete
passed = record {
  class_ = after (after of_tasks waits_steps) passed_steps;
  reached = reached_on None (after of_tasks waits_steps) passed_steps (waited None) (
    (refl, refl, inr (refl, refl)),
    (
      (refl, refl, inr (1, (refl, refl))),
      (
        (refl, inr refl),
        (
          (refl, in_use_by),
          (
            (refl, inr ((refl, refl), inl (λ s is. inl (seen_its s)))),
            tt,
          ),
        ),
      ),
    ),
  );
  rest = record {
    nobody_looks = refl;
    all_settled = at_0 (λ s. (t : ℕ) → ((after (after of_tasks waits_steps) passed_steps).seat s).debt t ≡ nothing) all_done;
  };
  late = (1, refl);
  user = (2, refl);
  only = refl;
}

pub such_are_reached : SuchAreReached
such_are_reached = (lent, resumed_by_another, one_that_waits, passed)

-- ---- without a rule

-- the first and the second come to use one seat
two_users : (rule : Rule) (steps : List QueueStep) → AllMay (Some rule) of_own steps → ((after of_own steps).seat 0).user 0 ≡ true →
    ((after of_own steps).seat 0).user 1 ≡ true → HasTwoUsers (Some rule)
two_users rule steps may one two = record {
  class_ = after of_own steps;
  s = 0;
  reached = reached_on (Some rule) of_own steps (1, (λ _. true), (λ _. false), begins) may;
  one = (0, one);
  two = (1, two);
  others = λ is. omega arith;
}

-- the first has its own seat, and finds it free; then the second claims it, and the first uses it
abbrev claimed_steps : List QueueStep
claimed_steps = acts 0 (takes_own 0) ∷ acts 0 (finds_own_free 0) ∷ acts 0 (claims 1) ∷ acts 0 (uses_own 0) ∷ []

claimed : HasTwoUsers (Some claims_no_own)
unfolding set ℕ_discrete
claimed = two_users claims_no_own claimed_steps (inr refl, ((refl, refl, inr refl), ((refl, inl refl), (refl, tt)))) refl refl

-- the second finds it free too
abbrev not_its_own_steps : List QueueStep
not_its_own_steps = acts 0 (takes_own 0) ∷ acts 0 (finds_own_free 0) ∷ acts 0 (finds_own_free 1) ∷ acts 0 (uses_own 0) ∷ acts 0 (uses_own 1) ∷ []

not_its_own : HasTwoUsers (Some uses_its_own)
unfolding set ℕ_discrete
not_its_own = two_users uses_its_own not_its_own_steps
    (inr refl, ((refl, refl, inr refl), ((refl, refl, inl refl), (refl, (refl, tt))))) refl refl

-- it is both threads' own
abbrev taken_steps : List QueueStep
taken_steps = acts 0 (takes_own 0) ∷ acts 0 (takes_own 1) ∷ acts 0 (finds_own_free 0) ∷ acts 0 (finds_own_free 1) ∷ acts 0 (uses_own 0)
    ∷ acts 0 (uses_own 1) ∷ []

taken : HasTwoUsers (Some takes_nobodys)
unfolding set ℕ_discrete
taken = two_users takes_nobodys taken_steps
    (inr refl, (inl refl, ((refl, refl, inr refl), ((refl, refl, inr refl), (refl, (refl, tt)))))) refl refl

-- the first leaves it, and uses it nevertheless
abbrev left_steps : List QueueStep
left_steps = acts 0 (takes_own 0) ∷ acts 0 (finds_own_free 0) ∷ acts 0 (leaves_own 0) ∷ acts 0 (takes_own 1) ∷ acts 0 (finds_own_free 1)
    ∷ acts 0 (uses_own 0) ∷ acts 0 (uses_own 1) ∷ []

left : HasTwoUsers (Some uses_before_it_leaves)
unfolding set ℕ_discrete
left = two_users uses_before_it_leaves left_steps
    (inr refl, ((refl, refl, inr refl), ((refl, inl refl), (inr refl, ((refl, refl, inr refl), (refl, (refl, tt))))))) refl refl

-- the first uses its own seat, and the second suspends that and resumes it
abbrev others_steps : List QueueStep
others_steps = acts 0 (takes_own 0) ∷ acts 0 (finds_own_free 0) ∷ acts 0 (uses_own 0) ∷ suspends 1 0 7 ∷ takes 1 0 7 ∷ []

anothers : HasTwoUsers (Some suspends_what_it_uses)
unfolding set ℕ_discrete
anothers = two_users suspends_what_it_uses others_steps
    (inr refl, ((refl, refl, inr refl), (refl, ((inl refl, inr refl), (inr refl, tt))))) refl refl

nobodys : HasFreeSuspended (Some suspends_what_it_uses)
unfolding set ℕ_discrete
nobodys = record {
  class_ = after of_threads (suspends 0 0 7 ∷ []);
  s = 0;
  ticket = 7;
  reached = reached_on (Some suspends_what_it_uses) of_threads (suspends 0 0 7 ∷ []) (1, (λ _. false), (λ _. false), begins)
      ((inl refl, inr refl), tt);
  suspended = refl;
  free = (refl, refl);
}

-- the first has suspended its context
abbrev away_steps : List QueueStep
away_steps = acts 0 (claims 0) ∷ suspends 0 0 7 ∷ []

away : (left_out : Option Rule) → ReachedWithout left_out (after of_threads away_steps)
unfolding set ℕ_discrete
away left_out = reached_on left_out of_threads away_steps (1, (λ _. false), (λ _. false), begins) ((refl, inr refl), ((inr refl, inr refl), tt))

abbrev resumed_once : Class
resumed_once = after_step (after of_threads away_steps) (takes 1 0 7)

-- the second resumes it, and suspends it by the same ticket; then the third finds that, by a copy of the first value
same_ticket : HasWonTwice (Some draws_a_new_one)
unfolding set ℕ_discrete
same_ticket = record {
  class_ = after of_threads away_steps;
  later = after_step resumed_once (suspends 1 0 7);
  t = 1;
  u = 2;
  s = 0;
  r = 0;
  ticket = 7;
  reached = away (Some draws_a_new_one);
  first = inr refl;
  between = goes_on resumed_once (suspends 1 0 7) begins (inr refl, inl refl);
  second = inr refl;
}

-- the third takes the ticket that the second has taken
not_there : HasWonTwice (Some finds_the_ticket)
unfolding set ℕ_discrete
not_there = record {
  class_ = after of_threads away_steps;
  later = resumed_once;
  t = 1;
  u = 2;
  s = 0;
  r = 0;
  ticket = 7;
  reached = away (Some finds_the_ticket);
  first = inr refl;
  between = begins;
  second = inl refl;
}

-- so both use the seat
abbrev both_steps : List QueueStep
both_steps = acts 0 (takes_own 0) ∷ acts 0 (finds_own_free 0) ∷ acts 0 (uses_own 0) ∷ suspends 0 0 7 ∷ takes 0 0 7 ∷ takes 1 0 7 ∷ []

both : HasTwoUsers (Some finds_the_ticket)
unfolding set ℕ_discrete
both = two_users finds_the_ticket both_steps
    (inr refl, ((refl, refl, inr refl), (refl, ((inr refl, inr refl), (inr refl, (inl refl, tt)))))) refl refl

-- one comes to wait, and doesn't look at the seat
unlooked : HasForgotten (Some looks_as_it_joins)
unfolding set ℕ_discrete
unlooked = (
  record {
    class_ = after of_threads (joins 0 due false ∷ []);
    s = 0;
    reached = reached_on (Some looks_as_it_joins) of_threads (joins 0 due false ∷ []) (1, (λ _. false), (λ _. false), begins)
        (record { nobody_looks = refl; is_out = refl; stays = inr refl; looks_first = inl refl }, tt);
    rest = record { nobody_looks = refl; all_settled = λ s _ t. refl };
    is_seat = omega arith;
    free = (refl, refl);
  },
  (0, refl),
)

-- the first gives its seat, and doesn't look who waits
abbrev unasked_steps : List QueueStep
unasked_steps = acts 0 (claims 0) ∷ joins 1 due true ∷ sees_used 1 0 ∷ has_looked 1 ∷ acts 0 (gives 0) ∷ serves_threads 0 0
    ∷ serves_tasks 0 0 ∷ []

unasked : HasForgotten (Some asks_who_waits)
unfolding set ℕ_discrete
unasked = (
  record {
    class_ = after of_threads unasked_steps;
    s = 0;
    reached = reached_on (Some asks_who_waits) of_threads unasked_steps (1, (λ _. false), (λ _. false), begins) (
      (refl, inr refl),
      (
        record { nobody_looks = refl; is_out = refl; stays = inr refl; looks_first = inr (inl refl) },
        (
          (refl, in_use_by),
          (
            (refl, λ s is. inl (seen s is)),
            (
              (refl, refl),
              (
                (refl, inl refl),
                (
                  record { has_to = refl; nobody_looks = refl; no_need = inl refl },
                  tt,
                ),
              ),
            ),
          ),
        ),
      ),
    );
    rest = record { nobody_looks = refl; all_settled = at_0 (λ s. (t : ℕ) → ((after of_threads unasked_steps).seat s).debt t ≡ nothing) all_done };
    is_seat = omega arith;
    free = (refl, refl);
  },
  (1, refl),
)

-- the second was called, and isn't any more: nobody is
nobody_is : (t : ℕ) → set {A = Option ℕ} (set (λ _. None) 1 (Some 0)) 1 None t ≢ Some 0
nobody_is t = set_cases {A = Option ℕ} (set (λ _. None) 1 (Some 0)) 1 None t (λ it. it ≢ Some 0) (λ _ is. let z : ⊥ = cc in z)
    (λ other is. let none = sym (set_else (λ _. None) 1 (Some 0) t other) ∙ is in let z : ⊥ = cc in z)

one_more : (rule : Rule) (step : QueueStep) → MayBeMade (Some rule) (after of_tasks waits_steps) step →
    ReachedWithout (Some rule) (after_step (after of_tasks waits_steps) step)
one_more rule step may = reached_on (Some rule) (after of_tasks waits_steps) (step ∷ []) (waited (Some rule)) (may, tt)

-- the second leaves, and the third isn't called
abbrev passed_over : Class
passed_over = after_step (after of_tasks waits_steps) (leaves_called 1 0)

uncalled : HasUncalled (Some calls_the_next)
unfolding set ℕ_discrete
uncalled = (
  record {
    class_ = passed_over;
    s = 0;
    reached = one_more calls_the_next (leaves_called 1 0) (refl, refl, inl refl);
    rest = record { nobody_looks = refl; all_settled = at_0 (λ s. (t : ℕ) → (passed_over.seat s).debt t ≡ nothing) all_done };
    is_seat = omega arith;
    free = (refl, refl);
  },
  refl,
  (2, (refl, refl)),
  λ one. nobody_is one.0 one.2,
)

-- the second waits again, and hasn't looked
abbrev unseeing : Class
unseeing = after_step (after of_tasks waits_steps) (drops 1 0 at_nothing)

unseen_seat : HasUncalled (Some looks_when_called)
unfolding set ℕ_discrete
unseen_seat = (
  record {
    class_ = unseeing;
    s = 0;
    reached = one_more looks_when_called (drops 1 0 at_nothing) (refl, refl, inl refl);
    rest = record { nobody_looks = refl; all_settled = at_0 (λ s. (t : ℕ) → (unseeing.seat s).debt t ≡ nothing) all_done };
    is_seat = omega arith;
    free = (refl, refl);
  },
  refl,
  (2, (refl, refl)),
  λ one. nobody_is one.0 one.2,
)

-- the second waits for the seat of the first, which is given
abbrev given_steps : List QueueStep
given_steps = acts 0 (claims 0) ∷ joins 1 waits true ∷ sees_used 1 0 ∷ has_looked 1 ∷ acts 0 (gives 0) ∷ []

given : (left_out : Option Rule) → ReachedWithout left_out (after of_tasks given_steps)
unfolding set ℕ_discrete
given left_out = reached_on left_out of_tasks given_steps (1, (λ _. false), (λ _. true), begins) (
  (refl, inr refl),
  (
    record { nobody_looks = refl; is_out = refl; stays = inl refl; looks_first = inr (inl refl) },
    ((refl, in_use_by), ((refl, λ s is. inl (seen s is)), ((refl, refl), tt))),
  ),
)

-- and the third is called for it, which doesn't wait
abbrev strange_steps : List QueueStep
strange_steps = serves_threads 0 0 ∷ calls 2 0 ∷ serves_tasks 0 0 ∷ []

no_due_one : (t : ℕ) → set (λ _. out) 1 waits t ≢ due
no_due_one t = set_cases (λ _. out) 1 waits t (λ it. it ≢ due) (λ _ is. let z : ⊥ = cc in z) (λ _ is. let z : ⊥ = cc in z)

strange : HasUncalled (Some calls_who_waits)
unfolding set ℕ_discrete
strange = (
  record {
    class_ = after (after of_tasks given_steps) strange_steps;
    s = 0;
    reached = reached_on (Some calls_who_waits) (after of_tasks given_steps) strange_steps (given (Some calls_who_waits)) (
      (refl, inr (inr no_due_one)),
      (
        (refl, inl refl),
        (
          record { has_to = refl; nobody_looks = refl; no_need = inr (inr (inr (inl (2, refl)))) },
          tt,
        ),
      ),
    );
    rest = record { nobody_looks = refl; all_settled = at_0 (λ s. (t : ℕ) → ((after (after of_tasks given_steps) strange_steps).seat s).debt t ≡ nothing) all_done };
    is_seat = omega arith;
    free = (refl, refl);
  },
  refl,
  (1, (refl, refl)),
  λ one. nobody_waits one.0 one.1 one.2,
)
  where
    nobody_waits : (u : ℕ) → set (λ _. out) 1 waits u ≡ waits → set {A = Option ℕ} (λ _. None) 2 (Some 0) u ≡ Some 0 → ⊥
    nobody_waits u in_queue is = set_cases {A = Option ℕ} (λ _. None) 2 (Some 0) u (λ it. it ≡ Some 0 → ⊥)
        (λ same _. let p = sym (set_else (λ _. out) 1 waits 2 (λ q. omega arith)) ∙ ap (set (λ _. out) 1 waits) (sym same) ∙ in_queue in let z : ⊥ = cc in z)
        (λ _ p. let z : ⊥ = cc in z) is

-- ---- during a call

amid_a_look : HasNotYet
amid_a_look = record {
  class_ = after of_tasks (joins 0 waits true ∷ []);
  reached = reached_on None of_tasks (joins 0 waits true ∷ []) (1, (λ _. false), (λ _. true), begins)
      (record { nobody_looks = refl; is_out = refl; stays = inl refl; looks_first = inr (inl refl) }, tt);
  is_seat = omega arith;
  free = (refl, refl);
  open_ = refl;
  sleeps = (0, (set_here (λ _. out) 0 waits, refl));
  uncalled = λ one. let p = one.2 in let z : ⊥ = cc in z;
}

amid_a_give : HasNotYet
unfolding set ℕ_discrete
amid_a_give = record {
  class_ = after of_tasks given_steps;
  reached = given None;
  is_seat = omega arith;
  free = (refl, refl);
  open_ = refl;
  sleeps = (1, (refl, refl));
  uncalled = λ one. let p = one.2 in let z : ⊥ = cc in z;
}

pub rest_matters : RestMatters
unfolding amid_a_look amid_a_give
rest_matters = ((amid_a_look, λ s _ t. refl), (amid_a_give, refl))

pub each_rule_matters : EachRuleMatters
each_rule_matters claims_no_own = claimed
each_rule_matters uses_its_own = not_its_own
each_rule_matters takes_nobodys = taken
each_rule_matters uses_before_it_leaves = left
each_rule_matters suspends_what_it_uses = (anothers, nobodys)
each_rule_matters draws_a_new_one = same_ticket
each_rule_matters finds_the_ticket = (both, not_there)
each_rule_matters looks_as_it_joins = unlooked
each_rule_matters asks_who_waits = unasked
each_rule_matters calls_who_waits = strange
each_rule_matters calls_the_next = uncalled
each_rule_matters looks_when_called = unseen_seat
