-- Who leaves a guard after a look again has asked.
use Rattle.std.proofs.Common.{◌≡◌, ◌≢◌, ◌⊎◌, inl, inr, ⊎_elim, ℕ, Bool, true, false, List, [], ◌∷◌, refl, sym, ap, ◌∙◌, arith, true≢false}
use Rattle.ww_word.specs.declared.owner.Owner.{Owner}
use Rattle.ww_word.specs.Owner.{is_handed}
use Rattle.ww_queue.specs.declared.entry.Entry.{Entry}
use Rattle.ww_model.specs.declared.state.Holder.{Holder}
use Rattle.ww_model.specs.declared.state.Holder.TheVariants.{Nobody, Taken, Handed}
use Rattle.ww_model.specs.State.{State, word_from}
use Rattle.ww_laws.specs.Asking.{WhoLeavesHasAsked}

abbrev Asked : Holder → Bool → Type 0
Asked o asked = (asked ≡ true) ⊎ ((t : ℕ) × (o ≡ Handed t))

-- of the flags WAITERS and HANDOFF stand
by_flags : (c : State) (o : Holder) (asked : Bool) (e : Entry) (es : List Entry) →
    (word_from c o asked (e ∷ es)).flags ≡ 3 → Asked o asked
by_flags c o true e es is = inl refl
by_flags c Nobody false e es is = absurd (omega arith)
by_flags c (Taken t) false e es is = absurd (omega arith)
by_flags c (Handed t) false e es is = inr (t, refl)

by_pickup : (c : State) (o : Holder) (asked : Bool) (e : Entry) (es : List Entry) →
    is_handed (word_from c o asked (e ∷ es)) ≡ true → Asked o asked
by_pickup c o true e es is = inl refl
by_pickup c Nobody false e es is = absurd (true≢false (sym is))
by_pickup c (Taken t) false e es is = absurd (true≢false (sym is))
by_pickup c (Handed t) false e es is = inr (t, refl)

pub who_leaves_has_asked : WhoLeavesHasAsked
who_leaves_has_asked c v n k may waits later first = let inside = may.exit.inside in
    let list = k.queues.list n inside in
    let a = may.again later waits in let o = a.0 in let e = first.0 in let es = first.1 in
    let some : v.list ≢ [] = (λ none. let z = sym none ∙ list ∙ first.2 in let y : ⊥ = cc in y) in
    let word : o ≡ word_from c (c.owner n) (c.asked n) (e ∷ es) =
    k.seen n o inside a.1 (inl some) ∙ ap (word_from c (c.owner n) (c.asked n)) first.2 in ⊎_elim
    (λ flags. by_flags c (c.owner n) (c.asked n) e es (ap (λ (x : Owner). x.flags) (sym word) ∙ flags))
    (⊎_elim
    (λ handed. by_pickup c (c.owner n) (c.asked n) e es (ap is_handed (sym word) ∙ handed))
    (λ not. absurd (not (e, es, list ∙ first.2, first.3)))) a.2
