-- Scripts of version 1 mean the same in version 2.
use Rattle.std.proofs.Common.{◌≡◌, ℕ, zero, suc, ◌+◌, ◌-◌, ◌<◌, true, inl, inr, List, [], ◌∷◌, ◌++◌, length, take, drop, replicate, Option, None, refl, sym, ap, subst, ◌∙◌, arith, take_all, drop_of_length-le, length-drop, take-append-drop}
use Rattle.std.specs.Prelude.{◌==◌, codes, decimal}
use Rattle.std.specs.List.{AllByRecursion, flat_map}
use Rattle.std.proofs.lemmas.Bool.Decides.{nat_tests}
use Rattle.std.proofs.lemmas.List.{append_assoc}
use Rattle.std.proofs.lemmas.List.Concat.{flat_map-append}
use Rattle.ww_plain.specs.declared.node.Node.{Node}
use Rattle.ww_plain.specs.declared.node.TheConstants.{PORTS}
use Rattle.ww_plain.specs.Graph.{IsEmptyFrom, AreEmptyFrom}
use Rattle.ww_plain.specs.Transaction.{NamesBelow}
use Rattle.ww_plain.specs.History.{Recorded, part_from, part_of, last_graph}
use Rattle.ww_plain.specs.Meaning.{Answer, graph_after}
use Rattle.ww_plain.proofs.Members.{true_or_false}
use Rattle.ww_plain.proofs.Unused.{unused_after}
use Rattle.ww_json.specs.Pieces.{spaced_or_dash, numbered}
use Rattle.ww_script_parts.specs.declared.ranges.Ranges.{Ranges}
use Rattle.ww_script_parts.specs.declared.version.Version.TheVariants.{One, Two}
use Rattle.ww_script_parts.specs.Versions.{ports_of}
use Rattle.ww_script_parts.specs.Acts.{Action, does, interruptible, cancels, IsActWithin}
use Rattle.ww_script_parts.specs.Scripts.{Plan, IsPlan, IsScript, ranges_of}
use Rattle.ww_script_parts.proofs.More.{all_kept, scripts_more}
use Rattle.ww_script_parts.proofs.Said.{none_repeated}
use Rattle.ww_outcome.specs.Said.{Said, answered, already, interrupted, cancelling}
use Rattle.ww_outcome.specs.Outcome.{Told, IsActRecorded, IsAnswered, AreAnswered, IsOutcome}
use Rattle.ww_outcome.specs.Text.{script_lines, place_lines, node_line, outcome_lines}
use Rattle.ww_outcome.specs.CutOff.{in_version_2, told_in_version_2, longer_line, VersionsAgree}

-- ---- the plan

-- of a node that has all its ports none is left behind them
nothing_behind : (used : ℕ) (node : Node) → IsEmptyFrom used node → IsEmptyFrom PORTS node
nothing_behind used node is =
    let none : drop PORTS node.ports ≡ [] = drop_of_length-le node.ports {i = PORTS} (omega (arith, is.0)) in
    (is.0, subst (AllByRecursion (λ port. port ≡ None)) (sym none) tt)

plan_more : (plan : Plan) → IsPlan plan → plan.ports ≡ ports_of One → IsPlan (in_version_2 plan)
plan_more plan is one =
    let each = rw one at is.each in
    record {
      version = inr refl;
      graph = is.graph;
      unused = all_kept (IsEmptyFrom plan.ports) (IsEmptyFrom PORTS) plan.graph (nothing_behind plan.ports) is.unused;
      some = is.some;
      few = is.few;
      each = scripts_more (ports_of One) (ports_of Two) (omega arith) (length plan.graph) (length plan.scripts) plan.scripts each;
    }

-- ---- the history

module _ (used : ℕ) where
  -- the record's transaction names none of the ports from `used` on
  abbrev IsLow : Recorded → Type 0
  IsLow r = NamesBelow used r.transaction

  -- the same of a deed's transaction, where it has one
  abbrev IsLowDeed : Action → Type 0
  IsLowDeed (does txn) = NamesBelow used txn
  IsLowDeed (interruptible txn) = NamesBelow used txn
  IsLowDeed (cancels script) = Unit {0}

  abbrev ArePartLow : List (ℕ × Recorded) → Type 0
  ArePartLow part = AllByRecursion (λ x. IsLow x.1) part

  record_low : (deed : Action) (number : ℕ) (a : Answer) (r : Recorded) → IsLowDeed deed → IsActRecorded deed number a r → IsLow r
  record_low (does txn) number a r low is = subst (NamesBelow used) (sym is.1.transaction) low
  record_low (interruptible txn) number a r low is = subst (NamesBelow used) (sym is.1.transaction) low
  record_low (cancels script) number a r low is = absurd is

  part_low : (seq : ℕ) (deeds : List Action) (saids : List Said) (part : List (ℕ × Recorded))
      → AllByRecursion IsLowDeed deeds → IsAnswered seq deeds saids part → ArePartLow part
  part_low seq [] [] [] low is = tt
  part_low seq [] [] (r ∷ part) low is = absurd is
  part_low seq [] (said ∷ saids) part low is = absurd is
  part_low seq (deed ∷ deeds) [] part low is = absurd is
  part_low seq (deed ∷ deeds) (answered a ∷ saids) (r ∷ part) low is =
      (record_low deed seq a r.1 low.0 is.0, part_low (seq + 1) deeds saids part low.1 is.1)
  part_low seq (deed ∷ deeds) (answered a ∷ saids) [] low is = tt
  part_low seq (deed ∷ deeds) (already n ∷ saids) part low is = part_low seq deeds saids part low.1 is.1
  part_low seq (deed ∷ deeds) (interrupted n ∷ saids) part low is = part_low seq deeds saids part low.1 is.1
  part_low seq (deed ∷ deeds) (cancelling is_set ∷ saids) part low is = part_low seq deeds saids part low.1 is.1

  -- the parts of all callers from one on, which have these scripts
  parts_low : (caller : ℕ) (scripts : List (List Action)) (replies : List (List Said)) (history : List Recorded)
      → AllByRecursion (λ script. AllByRecursion IsLowDeed script) scripts → AreAnswered caller scripts replies history
      → (k : ℕ) → k < length scripts → ArePartLow (part_of (caller + k) history)
  parts_low caller [] replies history low are k lt = absurd (omega arith)
  parts_low caller (script ∷ scripts) [] history low are k lt = absurd are
  parts_low caller (script ∷ scripts) (saids ∷ replies) history low are zero lt =
      let e : caller ≡ caller + 0 = omega arith in
      subst (λ c. ArePartLow (part_of c history)) e (part_low 0 script saids (part_of caller history) low.0 are.0)
  parts_low caller (script ∷ scripts) (saids ∷ replies) history low are (suc k) lt =
      let e : (caller + 1) + k ≡ caller + suc k = omega arith in
      subst (λ c. ArePartLow (part_of c history)) e (parts_low (caller + 1) scripts replies history low.1 are.1 k (omega (arith, lt)))

  own_low : (place : ℕ) (r : Recorded) (rs : List Recorded) → ArePartLow (part_from place r.caller (r ∷ rs)) → IsLow r
  own_low place r rs low = let same : (r.caller == r.caller) ≡ true = grind (arith, nat_tests) in (rw same at low).0

  later_low : (place caller : ℕ) (r : Recorded) (rs : List Recorded) → ArePartLow (part_from place caller (r ∷ rs))
      → ArePartLow (part_from (place + 1) caller rs)
  later_low place caller r rs low = elim (true_or_false (r.caller == caller)) [
    | inl own ↦ (rw own at low).1
    | inr other ↦ rw other at low
  ]

  -- what holds of each caller's part holds of the whole
  whole_low : (n place : ℕ) (history : List Recorded) → AllByRecursion (λ r. r.caller < n) history
      → ((c : ℕ) → c < n → ArePartLow (part_from place c history)) → AllByRecursion IsLow history
  whole_low n place [] callers parts = tt
  whole_low n place (r ∷ rs) callers parts = (
    own_low place r rs (parts r.caller callers.0),
    whole_low n (place + 1) rs callers.1 (λ c lt. later_low place c r rs (parts c lt)),
  )

  deed_low : (ranges : Ranges) (deed : Action) → ranges.ports ≡ used → IsActWithin ranges deed → IsLowDeed deed
  deed_low ranges (does txn) same suits = subst (λ k. NamesBelow k txn) same suits.1
  deed_low ranges (interruptible txn) same suits = subst (λ k. NamesBelow k txn) same suits.0.1
  deed_low ranges (cancels script) same suits = tt

  history_low : (plan : Plan) (told : Told) → IsPlan plan → plan.ports ≡ used → (o : IsOutcome plan told) → AllByRecursion IsLow o.history
  history_low plan told is same o =
      let n = length plan.scripts in
      let ranges = ranges_of (length plan.graph) plan.ports n in
      let low = all_kept (IsScript ranges) (λ script. AllByRecursion IsLowDeed script) plan.scripts
      (λ script s. all_kept (IsActWithin ranges) IsLowDeed script (λ deed. deed_low ranges deed same) s.suit)
      is.each in
      whole_low n 0 o.history o.explained.callers (λ c lt.
      let e : 0 + c ≡ c = omega arith in
      subst (λ k. ArePartLow (part_of k o.history)) e (parts_low 0 plan.scripts told.replies o.history low o.explained.answered c lt))

  graph_low : (graph : List Node) (history : List Recorded) → AllByRecursion IsLow history → AreEmptyFrom used graph
      → AreEmptyFrom used (last_graph graph history)
  graph_low graph [] low unused = unused
  graph_low graph (r ∷ rs) low unused = graph_low (graph_after graph r.transaction) rs low.1
      (unused_after graph r.transaction used low.0 unused)

-- ---- the text

-- behind the same bytes, the ports one after the other
ports_behind : (front : List ℕ) (ps qs rs : List (Option ℕ)) → ps ≡ qs ++ rs
    → front ++ flat_map spaced_or_dash ps ≡ front ++ flat_map spaced_or_dash qs ++ flat_map spaced_or_dash rs
ports_behind front ps qs rs e =
    ap (λ ports. front ++ flat_map spaced_or_dash ports) e
    ∙ ap (λ bytes. front ++ bytes) (flat_map-append spaced_or_dash qs rs)
    ∙ sym (append_assoc front (flat_map spaced_or_dash qs) (flat_map spaced_or_dash rs))

module _ (index : ℕ) (node : Node) where
  -- all ports are the first ones and those that version 1 lacks
  all_ports : IsEmptyFrom (ports_of One) node
      → take PORTS node.ports ≡ take (ports_of One) node.ports ++ replicate (ports_of Two - ports_of One) None
  all_ports is =
      let first = take (ports_of One) node.ports in
      let rest : length (drop (ports_of One) node.ports) ≡ ports_of Two - ports_of One =
      omega (arith, length-drop (ports_of One) node.ports, is.0) in
      take_all PORTS node.ports (omega (arith, is.0)) ∙ sym (take-append-drop (ports_of One) node.ports)
      ∙ ap (λ ps. first ++ ps) (none_repeated (drop (ports_of One) node.ports) is.1 ∙ ap (λ k. replicate k None) rest)

  longer : IsEmptyFrom (ports_of One) node → node_line (ports_of Two) index node ≡ longer_line index node
  unfolding node_line
  longer is =
      let front = codes "node " ++ decimal index ++ codes " " ++ decimal node.value in
      ap (λ bytes. bytes ++ codes "\n") (ports_behind front _ _ _ (all_ports is))

numbered_same : {X : Type 0} (P : X → Type 0) (f g : ℕ → X → List ℕ) (index : ℕ) (xs : List X)
    → ((i : ℕ) (x : X) → P x → f i x ≡ g i x) → AllByRecursion P xs → numbered f index xs ≡ numbered g index xs
numbered_same P f g index [] same all = refl
numbered_same P f g index (x ∷ xs) same all = rw (same index x all.0, numbered_same P f g (index + 1) xs same all.1) refl

-- ---- the law

module _ (plan : Plan) (told : Told) (is : IsPlan plan) (one : plan.ports ≡ ports_of One) where
  unused_in_the_end : IsOutcome plan told → AreEmptyFrom (ports_of One) told.graph
  unused_in_the_end o =
      let unused = rw one at is.unused in
      subst (AreEmptyFrom (ports_of One)) o.explained.graph
      (graph_low (ports_of One) plan.graph o.history (history_low (ports_of One) plan told is one o) unused)

  longer_text : IsOutcome plan told → outcome_lines (told_in_version_2 told)
      ≡ numbered script_lines 0 told.replies ++ place_lines told.places ++ numbered longer_line 0 told.graph
  unfolding outcome_lines
  longer_text o =
      ap (λ lines. numbered script_lines 0 told.replies ++ place_lines told.places ++ lines)
      (numbered_same (IsEmptyFrom (ports_of One)) (node_line (ports_of Two)) longer_line 0 told.graph longer (unused_in_the_end o))

  later : IsOutcome plan told → IsOutcome (in_version_2 plan) (told_in_version_2 told)
  later o =
      let e = o.explained in
      record {
        history = o.history;
        explained = record {
          legal = e.legal;
          callers = e.callers;
          answered = e.answered;
          places = e.places;
          ports = refl;
          graph = e.graph;
        };
        pending = o.pending;
        balanced = o.balanced;
      }

  earlier : told.ports ≡ ports_of One → IsOutcome (in_version_2 plan) (told_in_version_2 told) → IsOutcome plan told
  earlier same o =
      let e = o.explained in
      record {
        history = o.history;
        explained = record {
          legal = e.legal;
          callers = e.callers;
          answered = e.answered;
          places = e.places;
          ports = same ∙ sym one;
          graph = e.graph;
        };
        pending = o.pending;
        balanced = o.balanced;
      }

pub versions_agree : VersionsAgree
versions_agree plan is one = (
  plan_more plan is one,
  λ told same. record {
    outcome = (later plan told is one, earlier plan told is one same);
    text = longer_text plan told is one;
  },
)
