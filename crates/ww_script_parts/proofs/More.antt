-- What names few ports names no more.
use Rattle.std.proofs.Common.{ℕ, ◌≤◌, inl, inr, List, [], ◌∷◌, arith}
use Rattle.std.specs.List.{AllByRecursion}
use Rattle.ww_plain.specs.declared.node.TheConstants.{PORTS}
use Rattle.ww_plain.specs.Transaction.{Transaction, link, sum, reverse, NamesBelow}
use Rattle.ww_script_parts.specs.Versions.{ArePorts}
use Rattle.ww_script_parts.specs.Acts.{Action, does, interruptible, cancels, IsActWithin}
use Rattle.ww_script_parts.specs.Scripts.{IsScript, ranges_of}

pub all_kept : {X : Type 0} (P Q : X → Type 0) (xs : List X) → ((x : X) → P x → Q x) → AllByRecursion P xs → AllByRecursion Q xs
all_kept P Q [] keeps all = tt
all_kept P Q (x ∷ xs) keeps all = (keeps x all.0, all_kept P Q xs keeps all.1)

-- no version has more ports than there are
pub ports_few : (ports : ℕ) → ArePorts ports → ports ≤ PORTS
ports_few ports are = elim are [
  | inl one ↦ omega (arith, one)
  | inr two ↦ omega (arith, two)
]

module _ (few many : ℕ) (le : few ≤ many) where
  names_more : (txn : Transaction) → NamesBelow few txn → NamesBelow many txn
  names_more (link node port target) names = omega (arith, names, le)
  names_more (sum start port length) names = omega (arith, names, le)
  names_more (reverse start port length) names = omega (arith, names, le)
  names_more _ names = tt

  suits_more : (nodes scripts : ℕ) (deed : Action) → IsActWithin (ranges_of nodes few scripts) deed → IsActWithin (ranges_of nodes many scripts) deed
  suits_more nodes scripts (does txn) suits = (suits.0, names_more txn suits.1)
  suits_more nodes scripts (interruptible txn) suits = ((suits.0.0, names_more txn suits.0.1), suits.1)
  suits_more nodes scripts (cancels script) suits = suits

  script_more : (nodes scripts : ℕ) (script : List Action) → IsScript (ranges_of nodes few scripts) script
      → IsScript (ranges_of nodes many scripts) script
  script_more nodes scripts script is = record {
    few = is.few;
    suit = all_kept (IsActWithin (ranges_of nodes few scripts)) (IsActWithin (ranges_of nodes many scripts)) script (suits_more nodes scripts) is.suit;
  }

  pub scripts_more : (nodes count : ℕ) (scripts : List (List Action)) → AllByRecursion (IsScript (ranges_of nodes few count)) scripts
      → AllByRecursion (IsScript (ranges_of nodes many count)) scripts
  scripts_more nodes count scripts all =
      all_kept (IsScript (ranges_of nodes few count)) (IsScript (ranges_of nodes many count)) scripts (script_more nodes count) all
