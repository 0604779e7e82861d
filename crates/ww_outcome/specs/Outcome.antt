-- What came of scripts.
use Rattle.std.specs.Prelude.{ℕ, ◌≡◌, ◌+◌, ◌<◌, List, [], ◌∷◌, length, map, Option, Some, None, if◌then◌else◌}
use Rattle.std.specs.List.{AllByRecursion}
use Rattle.std.specs.Global.{Vec}
use Rattle.ww_plain.specs.declared.node.Node.{Node}
use Rattle.ww_plain.specs.Transaction.{Transaction, listed, FirstDouble}
use Rattle.ww_plain.specs.Meaning.{Answer}
use Rattle.ww_plain.specs.History.{Recorded, IsLegal, last_graph, part_of}
use Rattle.ww_outcome.specs.declared.outcome.ScriptAnswer.{ScriptAnswer}
use Rattle.ww_script_parts.specs.Acts.{Action, does, interruptible, cancels}
use Rattle.ww_script_parts.specs.Scripts.{Plan}
use Rattle.ww_outcome.specs.Said.{Said, answered, already, interrupted, cancelling, said_of}
use Rattle.ww_outcome.specs.Cancels.{AreBalanced}

-- what the answers of each script say
abbrev pub said_lists : Vec (Vec ScriptAnswer) → List (List Said)
said_lists replies = map (λ answers. map said_of answers.items) replies.items

-- the places as a list
abbrev pub place_list : Option (Vec (ℕ × ℕ)) → Option (List (ℕ × ℕ))
place_list None = None
place_list (Some places) = Some places.items

-- an `Outcome`, with lists where that has vectors
pub record Told : Type 0 where
  pub replies : List (List Said)
  pub places : Option (List (ℕ × ℕ))
  pub ports : ℕ
  pub graph : List Node

-- what these fields of an `Outcome` tell
abbrev pub told_of : Vec (Vec ScriptAnswer) → Option (Vec (ℕ × ℕ)) → ℕ → List Node → Told
told_of replies places ports graph =
    record { replies = said_lists replies; places = place_list places; ports = ports; graph = graph }

-- the record is of this transaction and this answer, and has this number
pub record IsRecordOf (r : Recorded) (number : ℕ) (txn : Transaction) (said : Answer) : Type 0 where
  pub seq : r.seq ≡ number
  pub transaction : r.transaction ≡ txn
  pub answer : r.answer ≡ said

-- The act may be told this without a record: of a transaction that lists a node twice the first such node; of one that
-- may be cancelled, who did so; of a cancel, whether it was set.
abbrev pub IsUnrecorded : Said → Action → Type 0
IsUnrecorded (already n) (does txn) = FirstDouble (listed txn) (Some n)
IsUnrecorded (already n) (interruptible txn) = FirstDouble (listed txn) (Some n)
IsUnrecorded (interrupted script) (interruptible txn) = Unit {0}
IsUnrecorded (cancelling is_set) (cancels script) = Unit {0}
IsUnrecorded _ _ = ⊥

-- the act is a transaction that lists no node twice, and the record is of it and this answer, and has this number
abbrev pub IsActRecorded : Action → ℕ → Answer → Recorded → Type 0
IsActRecorded (does txn) number said r = FirstDouble (listed txn) None × IsRecordOf r number txn said
IsActRecorded (interruptible txn) number said r = FirstDouble (listed txn) None × IsRecordOf r number txn said
IsActRecorded (cancels script) number said r = ⊥

-- A script's acts, what each was told, and the part of the script in the history: the acts with an answer of the plain
-- graph are, in order, the part, whose next number is given, and the others have no record.
abbrev pub IsAnswered : ℕ → List Action → List Said → List (ℕ × Recorded) → Type 0
IsAnswered seq [] [] [] = Unit {0}
IsAnswered seq (deed ∷ deeds) (answered a ∷ saids) (r ∷ part) =
    IsActRecorded deed seq a r.1 × IsAnswered (seq + 1) deeds saids part
IsAnswered seq (deed ∷ deeds) (said ∷ saids) part = IsUnrecorded said deed × IsAnswered seq deeds saids part
IsAnswered seq _ _ _ = ⊥

-- each script is answered, of which the first is this caller
abbrev pub AreAnswered : ℕ → List (List Action) → List (List Said) → List Recorded → Type 0
AreAnswered caller [] [] history = Unit {0}
AreAnswered caller (script ∷ scripts) (saids ∷ rest) history =
    IsAnswered 0 script saids (part_of caller history) × AreAnswered (caller + 1) scripts rest history
AreAnswered caller _ _ history = ⊥

-- whose each place is, and which of that caller's
abbrev pub places_of : List Recorded → List (ℕ × ℕ)
places_of history = map (λ r. (r.caller, r.seq)) history

-- the history is one by which the plan comes to what is told
pub record LeadsTo (plan : Plan) (history : List Recorded) (told : Told) : Type 0 where
  pub legal : IsLegal plan.graph history
  pub callers : AllByRecursion (λ r. r.caller < length plan.scripts) history
  pub answered : AreAnswered 0 plan.scripts told.replies history
  pub places : told.places ≡ (if plan.history then Some (places_of history) else None)
  pub ports : told.ports ≡ plan.ports
  pub graph : last_graph plan.graph history ≡ told.graph

-- what is told is an outcome of the plan: one legal history explains all of it, and its cancels are balanced
pub record IsOutcome (plan : Plan) (told : Told) : Type 0 where
  pub history : List Recorded
  pub explained : LeadsTo plan history told
  pub pending : ℕ → ℕ
  pub balanced : AreBalanced plan.scripts told.replies pending
