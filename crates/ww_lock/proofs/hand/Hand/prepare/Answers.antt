use Rattle.std.proofs.Common.{ℕ, ◌≡◌, ◌≤◌, IfOk, List, [], ◌∷◌, refl, sym, subst}
use Rattle.ww_plain.specs.declared.node.Node.{Node}
use Rattle.ww_plain.specs.Transaction.{Transaction, transaction_of}
use Rattle.ww_plain.specs.Footprint.{footprint_of}
use Rattle.ww_plain.specs.Meaning.{Answer, answer_of, answer_to, graph_after}
use Rattle.ww_lock.specs.Holding.{Holding, Holds, SameAt}
use Rattle.ww_lock.specs.Carried.{Carried, holding_of}
use Rattle.ww_lock.specs.Making.{IsMadeOf}
use Rattle.ww_lock.proofs.hand.Hand.prepare.Goals.{in-Ok, in-Err}
use Rattle.ww_lock.proofs.hand.Hand.prepare.Goals as goal

same_at_all : (graph : List Node) (ns : List ℕ) → SameAt graph graph ns
same_at_all graph [] = record {}
same_at_all graph (n ∷ ns) = (refl, same_at_all graph ns)

-- what was changed from the nodes as they were seen, by who holds them and has room
made_at : (s : Holding) (room : ℕ) (txn : Transaction) → Holds s (footprint_of s.seen txn) → 1 ≤ room
    → IsMadeOf (record s { room = room }) (record { transaction = txn; answer = answer_to s.seen txn; before = s.seen; after = graph_after s.seen txn }) txn
made_at s room txn holds some = record {
  made = record { sizes = refl; holds = holds; contents = same_at_all s.seen (footprint_of s.seen txn); room = some };
  transaction = refl;
  answer = refl;
  leads = refl;
}

made_of : (s s' : Holding) (room : ℕ) (txn : Transaction) (a : Answer) (b : List Node) → Holds s (footprint_of s.seen txn) → s' ≡ record s { room = room }
    → 1 ≤ room → b ≡ s.seen → a ≡ answer_to s.seen txn
    → IsMadeOf s' (record { transaction = txn; answer = a; before = b; after = graph_after b txn }) txn
made_of s s' room txn a b holds same some before answer =
    subst (λ (q : Holding). IsMadeOf q (record { transaction = txn; answer = a; before = b; after = graph_after b txn }) txn) (sym same)
    (subst (λ (g : List Node). IsMadeOf (record s { room = room }) (record { transaction = txn; answer = a; before = g; after = graph_after g txn }) txn) (sym before)
    (subst (λ (x : Answer). IsMadeOf (record s { room = room }) (record { transaction = txn; answer = x; before = s.seen; after = graph_after s.seen txn }) txn) (sym answer)
    (made_at s room txn holds some)))

-- src/prepared.rt:79:5
pub returns-clause-ok : goal.returns-clause-ok
returns-clause-ok c = let txn = transaction_of c.args.txn in let s = holding_of c.args.self.now in let s' = holding_of c.change.new.self in
    elim c.match-change.branch [
      | in-Ok w ↦ let v = w.of.result.value in
          let before = subst (λ (h : Holding). v ≡ h.seen) c.change.ensures.same.same (subst (λ (k : Carried). v ≡ k.seen) c.self.view_is w.of.ensures) in
          subst (λ r. IfOk r (λ p. IsMadeOf s' p txn)) (sym w.result-is)
          (made_of s s' s'.room txn (answer_of w.in-Ok.copy) v c.requires.may.covers c.change.ensures.same.same w.in-Ok.ensures.changes.1 before w.in-Ok.ensures.replies.1)
      | in-Err w ↦ subst (λ r. IfOk r (λ p. IsMadeOf s' p txn)) (sym w.result-is) (record {})
    ]
