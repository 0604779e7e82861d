-- The derived `==` is the equality of what the contracts see, both ways.
use Rattle.std.proofs.Common.{◌≡◌, ℕ, ◌&&◌, ◌==◌, Bool, List, [], Option, ap, refl, rules}
use Rattle.std.specs.Bool.{Decides}
use Rattle.std.specs.Option.{option_eq}
use Rattle.std.specs.Cmp.Lexicographic.{pointwise}
use Rattle.std.proofs.lemmas.Bool.Decides.{Decides-eqb, Decides-and, Decides-like, Decides-at}
use Rattle.std.proofs.lemmas.Slice.Eq.{slice_eq-Decides}
use Rattle.ww_plain.specs.declared.node.Node.{Node}
use Rattle.ww_plain.specs.declared.transaction.By.TheVariants.{List as AlongList, Order}
use Rattle.ww_plain.specs.declared.transaction.Txn.{Txn}
use Rattle.ww_plain.specs.declared.transaction.Txn.TheVariants.{Add}
use Rattle.ww_plain.specs.declared.reply.Reply.{Reply}
use Rattle.ww_plain.specs.declared.history.Record.{Record}
use Rattle.ww_plain.specs.contracts.node.NodePartialEq.TheImpl as of_node
use Rattle.ww_plain.specs.contracts.transaction.TxnPartialEq.TheImpl as of_txn
use Rattle.ww_plain.specs.contracts.reply.ReplyPartialEq.TheImpl as of_reply
use Rattle.ww_plain.specs.contracts.history.RecordPartialEq.TheImpl as of_record
use Rattle.ww_plain.specs.Transaction.{Transaction, add, transaction_of}
use Rattle.ww_plain.specs.Meaning.{answer_of}
use Rattle.ww_plain.specs.History.{Recorded, recorded_of}

port_alike : (p q : Option ℕ) → Decides (option_eq ◌==◌ p q) (p ≡ q)
port_alike p q = search rules

node_alike : (n m : Node) → Decides (of_node.ghosts.eq n m) (n ≡ m)
node_alike n m =
    let both = Decides-and _ _ (Decides-eqb n.value m.value) (slice_eq-Decides port_alike n.ports m.ports _ refl) in
    Decides-like _ (λ same. (λ i. record { value = same.0 i; ports = same.1 i }))
    (λ e. (ap (λ (k : Node). k.value) e, ap (λ (k : Node). k.ports) e)) both

pub node_same : (n m : Node) (r : Bool) → r ≡ of_node.ghosts.eq n m → Decides r (n ≡ m)
node_same n m r is = Decides-at _ _ is (node_alike n m)

pub nodes_same : (ns ms : List Node) (r : Bool) → r ≡ pointwise of_node.ghosts.eq ns ms → Decides r (ns ≡ ms)
nodes_same ns ms r is = slice_eq-Decides node_alike ns ms r is

-- of a node and the amount that it gets
pair_alike : (p q : ℕ × ℕ) → Decides (p.0 == q.0 && p.1 == q.1) (p ≡ q)
pair_alike p q = Decides-like _ (λ same. (λ i. (same.0 i, same.1 i)))
    (λ e. (ap (λ (r : ℕ × ℕ). r.0) e, ap (λ (r : ℕ × ℕ). r.1) e))
    (Decides-and _ _ (Decides-eqb p.0 q.0) (Decides-eqb p.1 q.1))

abbrev amounts_in : Transaction → List (ℕ × ℕ)
amounts_in (add by amounts) = amounts
amounts_in txn = []

txn_alike : (a b : Txn) → Decides (of_txn.ghosts.eq a b) (transaction_of a ≡ transaction_of b)
txn_alike (Add AlongList ps) (Add AlongList qs) =
    Decides-like _ (λ same. ap (add AlongList) same) (λ e. ap amounts_in e)
    (slice_eq-Decides pair_alike ps.items qs.items _ refl)
txn_alike (Add Order ps) (Add Order qs) =
    Decides-like _ (λ same. ap (add Order) same) (λ e. ap amounts_in e)
    (slice_eq-Decides pair_alike ps.items qs.items _ refl)
txn_alike a b = search rules

pub txn_same : (a b : Txn) (r : Bool) → r ≡ of_txn.ghosts.eq a b → Decides r (transaction_of a ≡ transaction_of b)
txn_same a b r is = Decides-at _ _ is (txn_alike a b)

reply_alike : (a b : Reply) → Decides (of_reply.ghosts.eq a b) (answer_of a ≡ answer_of b)
reply_alike a b = search rules

pub record_same : (a b : Record) (r : Bool) → r ≡ of_record.ghosts.eq a b → Decides r (recorded_of a ≡ recorded_of b)
record_same a b r is =
    let said = Decides-and _ _ (txn_alike a.txn b.txn) (reply_alike a.reply b.reply) in
    let whole = Decides-and _ _ (Decides-eqb a.caller b.caller) (Decides-and _ _ (Decides-eqb a.seq b.seq) said) in
    Decides-at _ _ is (Decides-like _
    (λ same. (λ i. record { caller = same.0 i; seq = same.1.0 i; transaction = same.1.1.0 i; answer = same.1.1.1 i }))
    (λ e. (
      ap (λ (r : Recorded). r.caller) e,
      (
        ap (λ (r : Recorded). r.seq) e,
        (
          ap (λ (r : Recorded). r.transaction) e,
          ap (λ (r : Recorded). r.answer)
              e,
        ),
      ),
    ))
    whole)
