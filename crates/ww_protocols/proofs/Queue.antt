-- What the queues keep: who waits comes to see each seat that is free, or another does, or has to offer it.
use Rattle.std.proofs.Common.{◌≡◌, ◌≢◌, ◌⊎◌, inl, inr, ⊎_elim, ℕ, Bool, true, false, Option, Some, None, refl, sym, ap, ◌∙◌, subst, true≢false}
use mathlib.Core.Logic.{dite}
use native.Mathlib.Decide.{ℕ_discrete}
use Rattle.ww_protocols.specs.Seat.{Debt, nothing, to_call, to_offer, ClassSeat, IsFree, set, SeatStep, claims, gives, goes_over, finds_own_free, uses_own, returns_own, takes_own, leaves_own, MaySeat, next_seat}
use Rattle.ww_protocols.specs.Class.{InQueue, waits, due, also_to_call}
use Rattle.ww_protocols.proofs.Sets.{set_here, set_else, set_was}
use Rattle.ww_protocols.proofs.Held.{not_both}

-- somebody has this to do of the seat
abbrev pub Owes : (ℕ → Debt) → Debt → Type 0
Owes debts it = (t : ℕ) × (debts t ≡ it)

-- it waits as a task, and isn't called
abbrev pub Asleep : (ℕ → InQueue) → (ℕ → Option ℕ) → ℕ → Type 0
Asleep stands call t = (stands t ≡ waits) × (call t ≡ None)

-- somebody was called for the seat
abbrev pub Called : (ℕ → Option ℕ) → ℕ → Type 0
Called call s = (t : ℕ) × (call t ≡ Some s)

-- a task that waits looks, and has yet to see this seat
abbrev pub LooksFor : (ℕ → InQueue) → (ℕ → Option ℕ) → Option ℕ → Bool → Type 0
LooksFor stands call looks unseen = (t : ℕ) × (looks ≡ Some t) × Asleep stands call t × (unseen ≡ true)

-- somebody that was through with the seat is to offer it
abbrev pub IsOwed : (ℕ → Debt) → Type 0
IsOwed debts = Owes debts to_call ⊎ Owes debts to_offer

abbrev pub ComesToOne : Option ℕ → Bool → (ℕ → Debt) → ℕ → Type 0
ComesToOne looks unseen debts t = ((looks ≡ Some t) × (unseen ≡ true)) ⊎ Owes debts to_offer

abbrev pub ComesToTasks : (ℕ → InQueue) → (ℕ → Option ℕ) → ℕ → Option ℕ → Bool → (ℕ → Debt) → Type 0
ComesToTasks stands call s looks unseen debts = Called call s ⊎ (LooksFor stands call looks unseen ⊎ IsOwed debts)

-- Of one seat, which is free or not, and open to tasks or not.
pub record Serves (stands : ℕ → InQueue) (call : ℕ → Option ℕ) (s : ℕ) (looks : Option ℕ) (unseen is_open : Bool) (Free : Type 0)
    (debts : ℕ → Debt) : Type 0 where
  pub if_due : (t : ℕ) → Free → stands t ≡ due → ComesToOne looks unseen debts t
  pub if_waits : (t : ℕ) → Free → is_open ≡ true → Asleep stands call t → ComesToTasks stands call s looks unseen debts

-- ---- of one seat, by its own steps

module _ {stands : ℕ → InQueue} {call : ℕ → Option ℕ} {s : ℕ} {looks : Option ℕ} {unseen is_open : Bool} {Free : Type 0} {debts : ℕ → Debt} where
  pub in_use : (Free → ⊥) → Serves stands call s looks unseen is_open Free debts
  in_use isnt = record { if_due = λ t is _. absurd (isnt is); if_waits = λ t is _ _. absurd (isnt is) }

  offered : Owes debts to_offer → Serves stands call s looks unseen is_open Free debts
  offered owes = record { if_due = λ t _ _. inr owes; if_waits = λ t _ _ _. inr (inr (inr owes)) }

module _ {stands : ℕ → InQueue} {call : ℕ → Option ℕ} {s : ℕ} {looks : Option ℕ} {unseen is_open : Bool} (seat : ClassSeat) where
  pub serves_on : (step : SeatStep) → MaySeat None seat step → Serves stands call s looks unseen is_open (IsFree seat) seat.debt →
      let after = next_seat seat step in Serves stands call s looks unseen is_open (IsFree after) after.debt
  serves_on (claims t) may h = in_use (λ free. not_both refl free.0)
  serves_on (gives t) may h = offered (t, set_here seat.debt t to_offer)
  serves_on (goes_over t u) may h = h
  serves_on (finds_own_free t) may h = h
  serves_on (uses_own t) may h = in_use (λ free. not_both refl free.0)
  serves_on (returns_own t) may h = in_use (λ free. not_both may.1 free.1)
  serves_on (takes_own t) may h = h
  serves_on (leaves_own t) may h = h

-- ---- of one seat, by what others do

pub none_looks : (looks : Option ℕ) → looks ≡ None → (t : ℕ) → looks ≡ Some t → ⊥
none_looks looks none t is = let z : ⊥ = cc in z

pub one_looks : (looks : Option ℕ) (t u : ℕ) → looks ≡ Some t → looks ≡ Some u → u ≡ t
one_looks looks t u is too = same u t (sym too ∙ is)
  where
    same : (a b : ℕ) → Some a ≡ Some b → a ≡ b
    same a b p = cc

-- a call for this seat stays where the call of somebody else changes
pub called_else : (call : ℕ → Option ℕ) (t : ℕ) (x : Option ℕ) (s : ℕ) → call t ≢ Some s → Called call s → Called (set call t x) s
called_else call t x s isnt one = (one.0, set_else call t x one.0 (λ is. isnt (ap call (sym is) ∙ one.1)) ∙ one.1)

-- who isn't called, or for another seat, isn't called for this one
pub not_for : (call : ℕ → Option ℕ) (t s : ℕ) → call t ≡ None → call t ≢ Some s
not_for call t s none is = let z : ⊥ = cc in z

pub for_another : (call : ℕ → Option ℕ) (t s r : ℕ) → call t ≡ Some s → r ≢ s → call t ≢ Some r
for_another call t s r is other too = other (same r s (sym too ∙ is))
  where
    same : (a b : ℕ) → Some a ≡ Some b → a ≡ b
    same a b p = cc

-- who sleeps now, and isn't this one, slept before
pub slept : (call : ℕ → Option ℕ) (t : ℕ) (x : Option ℕ) (u : ℕ) → u ≢ t → set call t x u ≡ None → call u ≡ None
slept call t x u other is = sym (set_else call t x u other) ∙ is

owes_else : (debts : ℕ → Debt) (t : ℕ) (it now : Debt) → Owes debts it → (debts t ≡ it → ⊥) → Owes (set debts t now) it
owes_else debts t it now owes isnt = dite (ℕ_discrete owes.0 t)
    (λ is. absurd (isnt (ap debts (sym is) ∙ owes.1))) (λ other. (owes.0, set_else debts t now owes.0 other ∙ owes.1))

module _ {stands : ℕ → InQueue} {call : ℕ → Option ℕ} {s : ℕ} {looks : Option ℕ} {unseen is_open : Bool} {Free : Type 0} {debts : ℕ → Debt}
    (h : Serves stands call s looks unseen is_open Free debts) where
  -- where nobody looks, a thread that waits has the seat offered; and where a task sleeps, one was called for it, or it is offered
  pub offered_to : looks ≡ None → (t : ℕ) → Free → stands t ≡ due → Owes debts to_offer
  offered_to none t Free is = ⊎_elim (λ coming. absurd (none_looks looks none t coming.0)) (λ owes. owes) (h.if_due t Free is)

  pub awaited : looks ≡ None → (t : ℕ) → Free → is_open ≡ true → Asleep stands call t → Called call s ⊎ IsOwed debts
  awaited none t free open_ is = ⊎_elim inl (⊎_elim (λ looking. absurd (none_looks looks none looking.0 looking.1)) inr) (h.if_waits t free open_ is)

  -- one comes to stand otherwise
  pub restood : (t : ℕ) (how : InQueue) (call' : ℕ → Option ℕ) (looks' : Option ℕ) (unseen' : Bool) →
      ((u : ℕ) → u ≢ t → looks ≡ Some u → Free → stands u ≡ due → ComesToOne looks' unseen' debts u) →
      (how ≡ due → Free → ComesToOne looks' unseen' debts t) →
      ((u : ℕ) → Free → is_open ≡ true → Asleep (set stands t how) call' u → ComesToTasks (set stands t how) call' s looks' unseen' debts) →
      Serves (set stands t how) call' s looks' unseen' is_open Free debts
  restood t how call' looks' unseen' others new tasks = record {
    if_due = λ u free is. ⊎_elim
        (λ here. subst (ComesToOne looks' unseen' debts) (sym here.0) (new here.1 free))
        (λ there. ⊎_elim (λ coming. others u there.0 coming.0 free there.1) inr (h.if_due u free there.1))
        (set_was stands t how u (λ x. x ≡ due) is);
    if_waits = tasks;
  }

  -- where nobody looks, others are called
  pub recalled : looks ≡ None → (call' : ℕ → Option ℕ) (looks' : Option ℕ) (unseen' : Bool) →
      ((u : ℕ) → Free → is_open ≡ true → Asleep stands call' u → ComesToTasks stands call' s looks' unseen' debts) →
      Serves stands call' s looks' unseen' is_open Free debts
  recalled none call' looks' unseen' tasks = record { if_due = λ u free is. inr (offered_to none u free is); if_waits = tasks }

  -- no thread waits, or the seat is in use; now a task has to be called for it
  pub served_threads : (t : ℕ) → (Free → (u : ℕ) → stands u ≢ due) →
      Serves stands call s looks unseen is_open Free (set debts t to_call)
  served_threads t nobody = record {
    if_due = λ u free is. absurd (nobody free u is);
    if_waits = λ u _ _ _. inr (inr (inl (t, set_here debts t to_call)));
  }

  -- and it has none to call
  pub served_tasks : (t : ℕ) → looks ≡ None → debts t ≡ to_call →
      (Free → is_open ≡ true → (((u : ℕ) → Asleep stands call u → ⊥) ⊎ (Called call s ⊎ ((u : ℕ) × (stands u ≡ due))))) →
      Serves stands call s looks unseen is_open Free (set debts t nothing)
  served_tasks t none has why = record {
    if_due = λ u free is. inr (others (offered_to none u free is));
    if_waits = λ u free open_ is. ⊎_elim (λ nobody. absurd (nobody u is))
        (⊎_elim inl (λ one. inr (inr (inr (others (offered_to none one.0 free one.1)))))) (why free open_);
  }
    where
      others : Owes debts to_offer → Owes (set debts t nothing) to_offer
      others owes = owes_else debts t to_offer nothing owes (λ is. let z : ⊥ = cc in z)

  -- tasks may claim it from now on, and one is to be called for it
  pub opened_now : (t : ℕ) → Serves stands call s looks unseen true Free (set debts t (also_to_call (debts t)))
  opened_now t = record {
    if_due = λ u free is. ⊎_elim inl (λ owes. inr (dite (ℕ_discrete owes.0 t)
        (λ same. (t, set_here debts t (also_to_call (debts t)) ∙ ap also_to_call (ap debts (sym same) ∙ owes.1)))
        (λ other. (owes.0, set_else debts t (also_to_call (debts t)) owes.0 other ∙ owes.1)))) (h.if_due u free is);
    if_waits = λ u _ _ _. inr (inr (has_it (debts t) refl));
  }
    where
      has_it : (it : Debt) → debts t ≡ it → IsOwed (set debts t (also_to_call (debts t)))
      has_it nothing is = inl (t, set_here debts t (also_to_call (debts t)) ∙ ap also_to_call is)
      has_it to_call is = inl (t, set_here debts t (also_to_call (debts t)) ∙ ap also_to_call is)
      has_it to_offer is = inr (t, set_here debts t (also_to_call (debts t)) ∙ ap also_to_call is)

  pub closed_now : Serves stands call s looks unseen false Free debts
  closed_now = record { if_due = h.if_due; if_waits = λ u _ open_ _. absurd (true≢false (sym open_)) }
