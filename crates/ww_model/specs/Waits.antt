-- Who waits for whom, cycles of waits, and which seats are condemned.
use Rattle.std.specs.Prelude.{ℕ, suc, ◌≡◌, ◌≢◌, ◌<◌, ◌≤◌, ◌⊎◌, List, [], ◌∷◌, Option, IsSome, MatchOption}
use Rattle.ww_queue.specs.Queue.{Stands}
use Rattle.ww_model.specs.declared.state.Holder.TheVariants.{Taken, Handed}
use Rattle.ww_model.specs.State.{State, OwnsSome, dies}

module _ (c : State) where
  -- seat a waits at lock n for its owner b, another seat: it stands in the list outside the guard
  pub record WaitsAt (a b n : ℕ) : Type 0 where
    pub stands : Stands (c.queue n) a
    pub outside : c.guard n ≢ suc a
    pub owner : (c.owner n ≡ Taken b) ⊎ (c.owner n ≡ Handed b)
    pub other : a ≢ b

  abbrev pub WaitsFor : ℕ → ℕ → Type 0
  WaitsFor a b = (n : ℕ) × WaitsAt a b n

  -- each of the seats a, bs waits for the next, and the last for z
  abbrev pub Leads : ℕ → List ℕ → ℕ → Type 0
  Leads a [] z = WaitsFor a z
  Leads a (b ∷ bs) z = WaitsFor a b × Leads b bs z

  -- the seats are in a cycle of waits
  abbrev pub IsCycle : List ℕ → Type 0
  IsCycle [] = ⊥
  IsCycle (a ∷ bs) = Leads a bs a

  -- each of the seats has a context
  abbrev pub AreContexts : List ℕ → Type 0
  AreContexts [] = Unit {0}
  AreContexts (a ∷ bs) = (0 < c.stamp a) × AreContexts bs

-- a is none of the seats
abbrev pub IsNoneOf : ℕ → List ℕ → Type 0
IsNoneOf a [] = Unit {0}
IsNoneOf a (b ∷ bs) = (a ≢ b) × IsNoneOf a bs

-- the seats differ
abbrev pub Differ : List ℕ → Type 0
Differ [] = Unit {0}
Differ (a ∷ bs) = IsNoneOf a bs × Differ bs

-- a is one of the seats
abbrev pub IsOneOf : ℕ → List ℕ → Type 0
IsOneOf a [] = ⊥
IsOneOf a (b ∷ bs) = (a ≡ b) ⊎ IsOneOf a bs

module _ (c : State) where
  -- different contexts, each waiting for the next and the last for the first
  pub record IsRing (ring : List ℕ) : Type 0 where
    pub cycle : IsCycle c ring
    pub contexts : AreContexts c ring
    pub different : Differ ring

  -- the seat is signed, owns a lock, and must die at the lock where it waits for another
  pub record IsCondemned (a : ℕ) : Type 0 where
    pub signed : 0 < c.sign a
    pub owns : OwnsSome c a
    pub lock : ℕ
    pub awaited : ℕ
    pub waits : WaitsAt c a awaited lock
    pub dies_there : IsSome (dies c a lock)

  -- the ring begins with the least seat that is in any ring
  pub record IsLeastRing (ring : List ℕ) : Type 0 where
    pub first : ℕ
    pub rest : List ℕ
    pub parts : ring ≡ first ∷ rest
    pub ring_is : IsRing ring
    pub least : (other : List ℕ) (a : ℕ) → IsRing other → IsOneOf a other → first ≤ a

  -- the seat is the condemned one of the list with the least number
  pub record IsLeastCondemned (seats : List ℕ) (a : ℕ) : Type 0 where
    pub member : IsOneOf a seats
    pub condemned : IsCondemned a
    pub least : (b : ℕ) → IsOneOf b seats → IsCondemned b → a ≤ b

-- the chosen one of those that are such is found, or nothing where none is
abbrev pub FindsChosen : {A B : Type 0} → (A → Type 0) → (B → Type 0) → Option B → Type 0
FindsChosen {A} IsSuch IsChosen found = MatchOption found ((a : A) → ¬ IsSuch a) IsChosen

-- one of those that are such is found, or nothing where none is
abbrev pub Finds : {A : Type 0} → (A → Type 0) → Option A → Type 0
Finds IsSuch found = FindsChosen IsSuch IsSuch found

-- the condemned one of these seats with the least number is found, or nothing where none is condemned
abbrev pub CondemnedOf : State → List ℕ → Option ℕ → Type 0
CondemnedOf c seats found = FindsChosen (λ a. IsOneOf a seats × IsCondemned c a) (IsLeastCondemned c seats) found
