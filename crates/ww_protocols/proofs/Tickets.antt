-- What becomes of tickets.
use Rattle.std.proofs.Common.{◌≡◌, ◌≢◌, ℕ, Bool, true, false, Some, None, refl, sym, ap, ◌∙◌}
use Rattle.ww_protocols.specs.Seat.{nothing, to_call, ClassSeat, set, SeatStep, claims, gives, goes_over, finds_own_free, uses_own, returns_own, takes_own, leaves_own, next_seat}
use Rattle.ww_protocols.specs.Class.{Class, opened, QueueStep, acts, suspends, takes, serves_threads, serves_tasks, opens, suspended, resumed, settled, also_to_call, MayBeMade, after_step, IsReachedFrom, begins, goes_on, ReachedByRules}
use Rattle.ww_protocols.specs.Seats.{CopiesWinOnce}
use Rattle.ww_protocols.proofs.Sets.{set_here, set_cases, set_each}
use Rattle.ww_protocols.proofs.Held.{not_both}
use Rattle.ww_protocols.proofs.Sound.{ruled}

-- what each step keeps
pub led_on : (P : Class → Type 0) → ((c : Class) → P c → (step : QueueStep) → MayBeMade None c step → P (after_step c step)) →
    (from to : Class) → IsReachedFrom None from to → P from → P to
led_on P steps_on from _ begins h = h
led_on P steps_on from _ (goes_on c step l may) h = steps_on c (led_on P steps_on from c l h) step may

-- each ticket was drawn, and is one seat's
record HaveTickets (seat : ℕ → ClassSeat) (drawn : ℕ → Bool) : Type 0 where
  were_drawn : (s ticket : ℕ) → (seat s).ticket ≡ Some ticket → drawn ticket ≡ true
  one_seats : (s r ticket : ℕ) → (seat s).ticket ≡ Some ticket → (seat r).ticket ≡ Some ticket → s ≡ r

-- it was, and is no seat's any more
abbrev IsGone : ℕ → Class → Type 0
IsGone ticket c = (c.drawn ticket ≡ true) × ((s : ℕ) → (c.seat s).ticket ≢ Some ticket)

pub same : (a b : ℕ) → Some a ≡ Some b → a ≡ b
same a b p = cc

-- ---- steps that leave them what they were

module _ (f : ℕ → ClassSeat) (s : ℕ) (seat : ClassSeat) (still : seat.ticket ≡ (f s).ticket) where
  pub ticket_kept : (r : ℕ) → (set f s seat r).ticket ≡ (f r).ticket
  ticket_kept = set_each f s seat (λ r it. it.ticket ≡ (f r).ticket) still (λ _ _. refl)

  have_on : (drawn : ℕ → Bool) → HaveTickets f drawn → HaveTickets (set f s seat) drawn
  have_on drawn h = record {
    were_drawn = λ r ticket is. h.were_drawn r ticket (sym (ticket_kept r) ∙ is);
    one_seats = λ r q ticket is too. h.one_seats r q ticket (sym (ticket_kept r) ∙ is) (sym (ticket_kept q) ∙ too);
  }

  gone_at : (ticket : ℕ) → ((r : ℕ) → (f r).ticket ≢ Some ticket) → (r : ℕ) → (set f s seat r).ticket ≢ Some ticket
  gone_at ticket none r is = none r (sym (ticket_kept r) ∙ is)

pub next_is : (seat : ClassSeat) (step : SeatStep) → (next_seat seat step).ticket ≡ seat.ticket
next_is seat (claims t) = refl
next_is seat (gives t) = refl
next_is seat (goes_over t u) = refl
next_is seat (finds_own_free t) = refl
next_is seat (uses_own t) = refl
next_is seat (returns_own t) = refl
next_is seat (takes_own t) = refl
next_is seat (leaves_own t) = refl

-- ---- each step

module _ (c : Class) where
  suspends_on : HaveTickets c.seat c.drawn → (t s ticket : ℕ) → c.drawn ticket ≡ false →
      HaveTickets (set c.seat s (suspended (c.seat s) t ticket)) (set c.drawn ticket true)
  suspends_on h t s ticket is_new = record {
    were_drawn = set_each c.seat s new (λ _ it. (n : ℕ) → it.ticket ≡ Some n → set c.drawn ticket true n ≡ true)
        (λ n is. ap (set c.drawn ticket true) (sym (same ticket n is)) ∙ set_here c.drawn ticket true)
        (λ r _ n is. set_cases c.drawn ticket true n (λ b. b ≡ true) (λ _. refl) (λ _. h.were_drawn r n is));
    one_seats = set_each c.seat s new (λ r it. (q n : ℕ) → it.ticket ≡ Some n → (set c.seat s new q).ticket ≡ Some n → r ≡ q)
        (λ q n is. set_each c.seat s new (λ q it. it.ticket ≡ Some n → s ≡ q) (λ _. refl)
        (λ q _ too. absurd (others q (too ∙ ap Some (sym (same ticket n is))))) q)
        (λ r other q n is. set_each c.seat s new (λ q it. it.ticket ≡ Some n → r ≡ q)
        (λ too. absurd (others r (is ∙ ap Some (sym (same ticket n too))))) (λ q _ too. h.one_seats r q n is too) q);
  }
    where
      new : ClassSeat
      new = suspended (c.seat s) t ticket

      others : (r : ℕ) → (c.seat r).ticket ≢ Some ticket
      others r is = not_both (h.were_drawn r ticket is) is_new

  takes_on : HaveTickets c.seat c.drawn → (t s : ℕ) → HaveTickets (set c.seat s (resumed (c.seat s) t)) c.drawn
  takes_on h t s = record {
    were_drawn = set_each c.seat s new (λ _ it. (n : ℕ) → it.ticket ≡ Some n → c.drawn n ≡ true)
        (λ n is. let z : ⊥ = cc in absurd z) (λ r _ n is. h.were_drawn r n is);
    one_seats = set_each c.seat s new (λ r it. (q n : ℕ) → it.ticket ≡ Some n → (set c.seat s new q).ticket ≡ Some n → r ≡ q)
        (λ q n is. let z : ⊥ = cc in absurd z)
        (λ r _ q n is. set_each c.seat s new (λ q it. it.ticket ≡ Some n → r ≡ q) (λ none. let z : ⊥ = cc in absurd z)
        (λ q _ too. h.one_seats r q n is too) q);
  }
    where
      new : ClassSeat
      new = resumed (c.seat s) t

  -- the ticket that is taken
  gone_now : HaveTickets c.seat c.drawn → (t s ticket : ℕ) → (c.seat s).ticket ≡ Some ticket → IsGone ticket (after_step c (takes t s ticket))
  gone_now h t s ticket is = (
    h.were_drawn s ticket is,
    set_each c.seat s (resumed (c.seat s) t) (λ _ it. it.ticket ≢ Some ticket) (λ none. let z : ⊥ = cc in z)
        (λ r other too. other (h.one_seats r s ticket too is)),
  )

  have_from : HaveTickets c.seat c.drawn → (step : QueueStep) → MayBeMade None c step → HaveTickets (after_step c step).seat (after_step c step).drawn
  have_from h (acts s step) may = have_on c.seat s (next_seat (c.seat s) step) (next_is (c.seat s) step) c.drawn h
  have_from h (suspends t s ticket) may = suspends_on h t s ticket (ruled may.1)
  have_from h (takes t s ticket) may = takes_on h t s
  have_from h (serves_threads t s) may = have_on c.seat s (settled (c.seat s) t to_call) refl c.drawn h
  have_from h (serves_tasks t s) may = have_on c.seat s (settled (c.seat s) t nothing) refl c.drawn h
  have_from h (opens t s) may = have_on c.seat s (settled (c.seat s) t (also_to_call ((c.seat s).debt t))) refl c.drawn h
  have_from h _ may = h

  gone_on : (ticket : ℕ) → IsGone ticket c → (step : QueueStep) → MayBeMade None c step → IsGone ticket (after_step c step)
  gone_on ticket h (acts s step) may = (h.0, gone_at c.seat s (next_seat (c.seat s) step) (next_is (c.seat s) step) ticket h.1)
  gone_on ticket h (suspends t s another) may = (
    set_cases c.drawn another true ticket (λ b. b ≡ true) (λ _. refl) (λ _. h.0),
    set_each c.seat s (suspended (c.seat s) t another) (λ _ it. it.ticket ≢ Some ticket)
        (λ is. not_both h.0 (ap c.drawn (sym (same another ticket is)) ∙ ruled may.1)) (λ r _. h.1 r),
  )
  gone_on ticket h (takes t s another) may = (
    h.0,
    set_each c.seat s (resumed (c.seat s) t) (λ _ it. it.ticket ≢ Some ticket) (λ none. let z : ⊥ = cc in z) (λ r _. h.1 r),
  )
  gone_on ticket h (serves_threads t s) may = (h.0, gone_at c.seat s (settled (c.seat s) t to_call) refl ticket h.1)
  gone_on ticket h (serves_tasks t s) may = (h.0, gone_at c.seat s (settled (c.seat s) t nothing) refl ticket h.1)
  gone_on ticket h (opens t s) may = (h.0, gone_at c.seat s (settled (c.seat s) t (also_to_call ((c.seat s).debt t))) refl ticket h.1)
  gone_on ticket h _ may = h

reached_have : (c : Class) → ReachedByRules c → HaveTickets c.seat c.drawn
reached_have c r = led_on (λ c. HaveTickets c.seat c.drawn) have_from (opened r.0 r.1 r.2) c r.3
    (record { were_drawn = λ s ticket is. let z : ⊥ = cc in absurd z; one_seats = λ s q ticket is too. let z : ⊥ = cc in absurd z })

pub copies_win_once : CopiesWinOnce
copies_win_once x = (led_on (IsGone x.ticket) (λ c. gone_on c x.ticket) (after_step x.class_ (takes x.t x.s x.ticket)) x.later x.between
    (gone_now x.class_ (reached_have x.class_ x.reached) x.t x.s x.ticket (ruled x.first))).1 x.r (ruled x.second)
