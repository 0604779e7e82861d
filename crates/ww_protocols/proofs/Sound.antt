-- What every seat keeps, by its own steps.
use Rattle.std.proofs.Common.{◌≡◌, inl, inr, ⊎_elim, ℕ, Bool, true, false, Option, Some, None, refl, sym, ap, ◌∙◌, subst}
use Rattle.ww_protocols.specs.Seat.{Debt, to_offer, ClassSeat, free_seat, set, Rule, Unless, SeatStep, claims, gives, goes_over, finds_own_free, uses_own, returns_own, takes_own, leaves_own, MaySeat, next_seat}
use Rattle.ww_protocols.specs.Class.{suspended, resumed, settled}
use Rattle.ww_protocols.specs.Seats.{runs, SaysWho}
use Rattle.ww_protocols.proofs.Sets.{set_was}
use Rattle.ww_protocols.proofs.Held.{not_both, comes, goes, moves}

pub record IsSound (seat : ClassSeat) : Type 0 where
  pub users : SaysWho (runs seat.ticket seat.busy) seat.user
  pub stays : (ticket : ℕ) → seat.ticket ≡ Some ticket → seat.busy ≡ true
  pub owners : SaysWho seat.is_taken seat.owner
  pub found : (t : ℕ) → seat.found_free t ≡ true → (seat.owner t ≡ true) × (seat.is_own ≡ true) × (seat.busy ≡ false)

pub free_is_sound : (is : Bool) → IsSound (free_seat is)
free_is_sound is = record { users = nobody; stays = λ _ is. let z : ⊥ = cc in absurd z; owners = nobody; found = λ _ was. not_both was refl }
  where
    nobody : SaysWho false (λ _. false)
    nobody = record { somebody = λ was. not_both was refl; is_set = λ _ was. was; one = λ _ _ was _. not_both was refl }

-- where no rule is left out
pub ruled : {rule : Rule} {P : Type 0} → Unless None rule P → P
ruled (inl without) = let z : ⊥ = cc in absurd z
ruled (inr h) = h

-- ---- a seat that isn't BUSY doesn't run; one that runs has no ticket, nor has one that isn't BUSY

idle : (ticket : Option ℕ) → runs ticket false ≡ false
idle None = refl
idle (Some ticket) = refl

running : (ticket : Option ℕ) (busy : Bool) → runs ticket busy ≡ true → (ticket ≡ None) × (busy ≡ true)
running None busy is = (refl, is)
running (Some ticket) busy is = not_both is refl

no_ticket : (it : Option ℕ) (busy : Bool) → ((ticket : ℕ) → it ≡ Some ticket → busy ≡ true) → busy ≡ false → it ≡ None
no_ticket None busy stays free = refl
no_ticket (Some ticket) busy stays free = not_both (stays ticket refl) free

module _ (seat : ClassSeat) (x : IsSound seat) where
  used : (t : ℕ) → seat.user t ≡ true → (seat.ticket ≡ None) × (seat.busy ≡ true)
  used t was = running seat.ticket seat.busy (x.users.is_set t was)

  -- nobody uses a seat that isn't BUSY, nor one whose context is suspended
  pub unused : seat.busy ≡ false → runs seat.ticket seat.busy ≡ false
  unused free = ap (runs seat.ticket) free ∙ idle seat.ticket

  pub unused_yet : (ticket : ℕ) → seat.ticket ≡ Some ticket → runs seat.ticket seat.busy ≡ false
  unused_yet ticket is = ap (λ it. runs it seat.busy) is

  -- one comes to use it that finds it so
  come : (t : ℕ) → seat.busy ≡ false → SaysWho (runs seat.ticket true) (set seat.user t true)
  come t free = subst (λ it. SaysWho (runs it true) (set seat.user t true)) (sym (no_ticket seat.ticket seat.busy x.stays free))
      (comes x.users (unused free) t)

  -- its user is through
  through : (t : ℕ) (debt : ℕ → Debt) → seat.user t ≡ true → IsSound (record seat { busy = false; user = set seat.user t false; debt = debt })
  through t debt was = record {
    users = subst (λ b. SaysWho b (set seat.user t false)) (sym (idle seat.ticket)) (goes x.users t was);
    stays = λ ticket is. let none = (used t was).0 in let z : ⊥ = cc in absurd z;
    owners = x.owners;
    found = λ u is. let own = x.found u is in (own.0, own.1, refl);
  }

  pub seat_on : (step : SeatStep) → MaySeat None seat step → IsSound (next_seat seat step)
  seat_on (claims t) may = record {
    users = come t may.0;
    stays = λ _ _. refl;
    owners = x.owners;
    found = λ u is. not_both (x.found u is).1 (ruled may.1);
  }
  seat_on (gives t) may = through t (set seat.debt t to_offer) may.0
  seat_on (goes_over t u) may = record { users = moves x.users t u may; stays = x.stays; owners = x.owners; found = x.found }
  seat_on (finds_own_free t) may = record {
    users = x.users;
    stays = x.stays;
    owners = x.owners;
    found = λ u is. ⊎_elim (λ here. (ap seat.owner here.0 ∙ ruled may.2, may.1, may.0)) (λ there. x.found u there.1)
        (set_was seat.found_free t true u (λ b. b ≡ true) is);
  }
  seat_on (uses_own t) may = let own = x.found t may in record {
    users = come t own.2;
    stays = λ _ _. refl;
    owners = x.owners;
    found = λ u is. ⊎_elim (λ here. not_both here.1 refl) (λ there. absurd (there.0 (x.owners.one u t (x.found u there.1).0 own.0)))
        (set_was seat.found_free t false u (λ b. b ≡ true) is);
  }
  seat_on (returns_own t) may = through t seat.debt may.0
  seat_on (takes_own t) may = record {
    users = x.users;
    stays = x.stays;
    owners = comes x.owners (ruled may) t;
    found = λ u is. not_both (x.owners.is_set u (x.found u is).0) (ruled may);
  }
  seat_on (leaves_own t) may = record {
    users = x.users;
    stays = x.stays;
    owners = goes x.owners t may.0;
    found = λ u is. not_both is (ap seat.found_free (x.owners.one u t (x.found u is).0 may.0) ∙ ruled may.1);
  }

  pub suspended_on : (t ticket : ℕ) → seat.user t ≡ true → IsSound (suspended seat t ticket)
  suspended_on t ticket was = record { users = goes x.users t was; stays = λ _ _. (used t was).1; owners = x.owners; found = x.found }

  pub resumed_on : (t ticket : ℕ) → seat.ticket ≡ Some ticket → IsSound (resumed seat t)
  resumed_on t ticket is = record {
    users = subst (λ b. SaysWho b (set seat.user t true)) (sym (x.stays ticket is)) (comes x.users (unused_yet ticket is) t);
    stays = λ _ none. let z : ⊥ = cc in absurd z;
    owners = x.owners;
    found = x.found;
  }

  pub settled_on : (t : ℕ) (it : Debt) → IsSound (settled seat t it)
  settled_on t it = record { users = x.users; stays = x.stays; owners = x.owners; found = x.found }
