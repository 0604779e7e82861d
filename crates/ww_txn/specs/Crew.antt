-- What a crew's work needs, and what comes of it.
use Rattle.std.specs.Prelude.{ℕ, suc, ◌≡◌, ◌∷◌, [], Bool, List, ◌<◌, length, map, slice_index_or, IsTrue}
use Rattle.std.specs.List.{AllByRecursion}
use denote.Ref.{Bor}
use denote.Param.Members.{Shared}
use Rattle.ww_queue.specs.declared.kind.Kind.{Kind}
use Rattle.ww_plain.specs.declared.node.Node.{Node}
use Rattle.ww_plain.specs.History.{Recorded, history_of, IsLegal, last_graph}
use Rattle.ww_lock.specs.declared.close.History.{History}
use Rattle.ww_lock.specs.Holding.{Holding, Setting, IsAtHome}
use Rattle.ww_lock.specs.Opened.{fresh}
use Rattle.ww_lock.specs.Closed.{IsClosed}

-- how a world is opened: its kind, its graph, how many passes it gives, and what each of them may start
pub record Opening : Type 0 where
  pub kind : Kind
  pub first : List Node
  pub passes : ℕ
  pub budget : ℕ

abbrev pub opening : Kind → List Node → ℕ → ℕ → Opening
opening kind first passes budget = record { kind = kind; first = first; passes = passes; budget = budget }

-- the world was opened so, and this is one of its passes, which has done nothing yet
pub record IsBeginning (o : Opening) (w : Setting) (s : Holding) : Type 0 where
  pub kind_is : w.kind ≡ o.kind
  pub graph_is : w.first ≡ o.first
  pub count : w.passes ≡ o.passes
  pub home : IsAtHome s w
  pub nothing : s ≡ fresh w.home o.first o.budget s.caller s.room

-- the history is legal from the graph, and leads to the graph that it tells
pub record LeadsFrom (first : List Node) (h : History) : Type 0 where
  pub legal : IsLegal first (history_of h.records.items)
  pub ends : h.graph ≡ last_graph first (history_of h.records.items)

-- each record meets the test
abbrev pub AllMeet : (Recorded → Bool) → List Recorded → Type 0
AllMeet test history = AllByRecursion (λ r. IsTrue (test r)) history

-- ... each of a log
abbrev pub OwnMeet : (Recorded → Bool) → List (ℕ × Recorded) → Type 0
OwnMeet test own = AllByRecursion (λ p. IsTrue (test p.1)) own

module _ {F X : Type 0} (g : Shared F (Bor Setting × (Holding × Unit {0})) (Holding × X)) (f : F) where
  -- the work can be called with each pass of a world that was opened so
  abbrev pub CanWork : Opening → Type 0
  CanWork o = (w : Bor Setting) (s : Holding) → IsBeginning o w.now s → g.pre f (w, (s, tt))

  -- ... and such a call returns its own pass, at home
  abbrev pub ComesBack : Opening → Type 0
  ComesBack o = (w : Bor Setting) (s : Holding) (r : Holding × X) → IsBeginning o w.now s → g.post f (w, (s, tt)) r
      → IsAtHome r.0 w.now × (r.0.caller ≡ s.caller)

  -- ... and leaves in its log only records that meet the test
  abbrev pub LeavesOwn : Opening → (Recorded → Bool) → Type 0
  LeavesOwn o test = (w : Bor Setting) (s : Holding) (r : Holding × X) → IsBeginning o w.now s → g.post f (w, (s, tt)) r
      → OwnMeet test r.0.own

  -- a call of the work with this world and its pass of this number returned the pass so, with this value
  pub record IsWorked (o : Opening) (w : Setting) (caller : ℕ) (back : Holding) (value : X) : Type 0 where
    pub shown : Bor Setting
    pub shows : shown.now ≡ w
    pub begun : Holding
    pub number : begun.caller ≡ caller
    pub beginning : IsBeginning o w begun
    pub gave : g.post f (shown, (begun, tt)) (back, value)

  -- ... of each pass from this number on
  abbrev pub AreWorked : Opening → Setting → ℕ → List Holding → List X → Type 0
  AreWorked o w caller [] [] = Unit {0}
  AreWorked o w caller (back ∷ backs) (value ∷ values) = IsWorked o w caller back value × AreWorked o w (suc caller) backs values
  AreWorked o w caller _ _ = ⊥

  -- There was a world that was opened so. Each of its passes went to a call of the work, which returned it, with its
  -- value. With all of these passes the world was closed.
  pub record HasWorked (o : Opening) (h : History) (values : List X) : Type 0 where
    pub world : Setting
    pub backs : List Holding
    pub count : length backs ≡ o.passes
    pub worked : AreWorked o world 0 backs values
    pub closed : IsClosed world backs h

  -- the work can be called with each of these passes
  abbrev pub CanWorkEach : Bor Setting → List Holding → Type 0
  CanWorkEach w begun = (i : ℕ) (s : Holding) → i < length begun → g.pre f (w, (slice_index_or begun i s, tt))

  -- a call of the work with each of these passes returned a pass, and a value
  pub record AreGiven (w : Bor Setting) (begun : List Holding) (worked : List (Holding × X)) : Type 0 where
    pub count : length worked ≡ length begun
    pub each : (i : ℕ) (s : Holding) (r : Holding × X) → i < length begun
        → g.post f (w, (slice_index_or begun i s, tt)) (slice_index_or worked i r)

-- the passes, and the values beside them
pub record IsParted {X : Type 0} (worked : List (Holding × X)) (passes : List Holding) (values : List X) : Type 0 where
  pub passes_are : passes ≡ map (λ (r : Holding × X). r.0) worked
  pub values_are : values ≡ map (λ (r : Holding × X). r.1) worked
