-- What a transaction asks for, and what it is answered.
use Rattle.std.specs.Prelude.{ℕ, ◌≡◌, ◌≤◌, ◌<◌, ◌∷◌, ◌++◌, List, [], length, map, Option, Some, None, IfSome, IsTrue}
use Rattle.std.specs.List.{AllByRecursion}
use Rattle.ww_plain.specs.declared.node.TheConstants.{PORTS}
use Rattle.ww_plain.specs.declared.graph.TheConstants.{MAX_NODES}
use Rattle.ww_plain.specs.declared.transaction.By.{By}
use Rattle.ww_plain.specs.declared.transaction.Txn.{Txn}
use Rattle.ww_plain.specs.declared.transaction.Txn.TheVariants.{Get, Add, Move, Link, Sum, Reverse, Peek}
use Rattle.ww_plain.specs.Numbers.{is_among, AreDifferent}

-- a `Txn`, with a list where that has a vector
pub data Transaction : Type 0 where
  get : By → List ℕ → Transaction
  add : By → List (ℕ × ℕ) → Transaction
  move : ℕ → ℕ → ℕ → Transaction
  link : ℕ → ℕ → Option ℕ → Transaction
  sum : ℕ → ℕ → ℕ → Transaction
  reverse : ℕ → ℕ → ℕ → Transaction
  peek : ℕ → Transaction

abbrev pub transaction_of : Txn → Transaction
transaction_of (Get by nodes) = get by nodes.items
transaction_of (Add by amounts) = add by amounts.items
transaction_of (Move from to amount) = move from to amount
transaction_of (Link node port target) = link node port target
transaction_of (Sum start port length) = sum start port length
transaction_of (Reverse start port length) = reverse start port length
transaction_of (Peek node) = peek node

-- there are 1 to 64 of them
pub record HasLength {A : Type 0} (xs : List A) : Type 0 where
  pub some : 1 ≤ length xs
  pub few : length xs ≤ MAX_NODES

-- a walk from a node that is there, along one of a node's ports, of 1 to 64 nodes
pub record IsCourse (size start along length : ℕ) : Type 0 where
  pub starts : start < size
  pub port : along < PORTS
  pub some : 1 ≤ length
  pub few : length ≤ MAX_NODES

-- the transaction's numbers are those of a graph of this size
abbrev pub Fits : ℕ → Transaction → Type 0
Fits size (get by nodes) = HasLength nodes × AllByRecursion (λ node. node < size) nodes
Fits size (add by amounts) = HasLength amounts × AllByRecursion (λ pair. pair.0 < size) amounts
Fits size (move from to amount) = (from < size) × (to < size)
Fits size (link node port target) = (node < size) × (port < PORTS) × IfSome target (λ t. t < size)
Fits size (sum start port length) = IsCourse size start port length
Fits size (reverse start port length) = IsCourse size start port length
Fits size (peek node) = node < size

-- the port that the transaction names, if it names one, is below this number
abbrev pub NamesBelow : ℕ → Transaction → Type 0
NamesBelow used (link node port target) = port < used
NamesBelow used (sum start port length) = port < used
NamesBelow used (reverse start port length) = port < used
NamesBelow used _ = Unit {0}

-- the nodes that the transaction lists, in its order
abbrev pub listed : Transaction → List ℕ
listed (get by nodes) = nodes
listed (add by amounts) = map (λ pair. pair.0) amounts
listed (move from to amount) = from ∷ to ∷ []
listed (link node port target) = []
listed (sum start port length) = []
listed (reverse start port length) = []
listed (peek node) = []

-- no node is listed twice
abbrev pub HasNoDouble : Transaction → Type 0
HasNoDouble txn = AreDifferent (listed txn)

-- n is the first of the list that stands at an earlier position too
pub record IsFirstDouble (ns : List ℕ) (n : ℕ) : Type 0 where
  pub front : List ℕ
  pub rest : List ℕ
  pub parts : ns ≡ front ++ n ∷ rest
  pub different : AreDifferent front
  pub earlier : IsTrue (is_among n front)

-- the first duplicate, or None where there is none
abbrev pub FirstDouble : List ℕ → Option ℕ → Type 0
FirstDouble ns None = AreDifferent ns
FirstDouble ns (Some n) = IsFirstDouble ns n
