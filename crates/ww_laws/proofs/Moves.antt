-- Runs of allowed events.
use Rattle.std.proofs.Common.{◌≡◌, ◌⊎◌, inl, inr, ⊎_elim, ℕ, List, [], ◌∷◌}
use Rattle.ww_model.specs.declared.event.Event.{Event}
use Rattle.ww_model.specs.State.{State}
use Rattle.ww_model.specs.Event.{Possible, after}
use Rattle.ww_model.specs.Run.{state_after, IsRun, Reached, further}
use Rattle.ww_model.specs.Emptied.{AllAllowed, LeadsBy, WindsUp}
use Rattle.ww_model.specs.Oldest.{Spares}

module _ (Allowed : State → Event → Type 0) where
  -- no event leads to the state itself
  pub stay : (c : State) (P : State → Type 0) → P c → LeadsBy Allowed c P
  stay c P there = record { events = []; allowed = tt; run = tt; there = there }

  -- one event more at the front
  pub first : (c : State) (e : Event) (P : State → Type 0) → Allowed c e → Possible c e
      → LeadsBy Allowed (after c e) P → LeadsBy Allowed c P
  first c e P may can rest = record { events = e ∷ rest.events; allowed = (may, rest.allowed); run = (can, rest.run); there = rest.there }

  -- one run behind another
  followed : (c : State) (P Q : State → Type 0) (events : List Event) → Reached c → AllAllowed Allowed c events → IsRun c events →
      P (state_after c events) → ((d : State) → Reached d → P d → LeadsBy Allowed d Q) → LeadsBy Allowed c Q
  followed c P Q [] reached allowed run there more = more c reached there
  followed c P Q (e ∷ es) reached allowed run there more =
      first c e Q allowed.0 run.0 (followed (after c e) P Q es (further c e reached run.0) allowed.1 run.1 there more)

  pub and_then : (c : State) (P Q : State → Type 0) → Reached c → LeadsBy Allowed c P
      → ((d : State) → Reached d → P d → LeadsBy Allowed d Q) → LeadsBy Allowed c Q
  and_then c P Q reached way more = followed c P Q way.events reached way.allowed way.run way.there more

  module _ (I P Q : State → Type 0) (keeps : (c : State) (e : Event) → Reached c → Possible c e → Allowed c e → I c
      → I (after c e) ⊎ Q (after c e)) where
    goes_until : (c : State) (events : List Event) → Reached c → I c → AllAllowed Allowed c events → IsRun c events
        → P (state_after c events) →
        LeadsBy Allowed c (λ d. (P d × I d) ⊎ Q d)
    goes_until c [] reached here allowed run there = stay c (λ d. (P d × I d) ⊎ Q d) (inl (there, here))
    goes_until c (e ∷ es) reached here allowed run there = first c e (λ d. (P d × I d) ⊎ Q d) allowed.0 run.0 (⊎_elim
        (λ still. goes_until (after c e) es (further c e reached run.0) still allowed.1 run.1 there)
        (λ ends. stay (after c e) (λ d. (P d × I d) ⊎ Q d) (inr ends)) (keeps c e reached run.0 allowed.0 here))

    -- what each event keeps, or else ends in Q, goes along
    pub until : (c : State) → Reached c → I c → LeadsBy Allowed c P → LeadsBy Allowed c (λ d. (P d × I d) ⊎ Q d)
    until c reached here way = goes_until c way.events reached here way.allowed way.run way.there

-- what is allowed here is allowed there
module _ (A B : State → Event → Type 0) (more : (c : State) (e : Event) → A c e → B c e) where
  all_more : (c : State) (events : List Event) → AllAllowed A c events → AllAllowed B c events
  all_more c [] allowed = tt
  all_more c (e ∷ es) allowed = (more c e allowed.0, all_more (after c e) es allowed.1)

  pub widened : (c : State) (P : State → Type 0) → LeadsBy A c P → LeadsBy B c P
  widened c P way = record { events = way.events; allowed = all_more c way.events way.allowed; run = way.run; there = way.there }

-- the event winds up, and each spared seat neither dies nor releases anything
abbrev pub Sparing : (ℕ → Type 0) → State → Event → Type 0
Sparing spared c e = WindsUp c e × ((s : ℕ) → spared s → Spares s e)

-- the state but for its signs
abbrev pub ButSigns : State → State → Type 0
ButSigns c d = (signs : ℕ → ℕ) × (d ≡ record c { sign = signs })
