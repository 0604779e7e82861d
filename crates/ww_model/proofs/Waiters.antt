-- Which seats wait in a list.
use Rattle.std.proofs.Common.{ℕ, ◌≡◌, ◌==◌, ◌↔◌, ⊎_elim, inl, inr, IsTrue, Bool, true, List, [], ◌∷◌, refl, sym, ap, ◌∙◌, true≢false}
use Rattle.std.specs.List.{list_any}
use Rattle.ww_queue.specs.declared.entry.Entry.{Entry}
use Rattle.ww_queue.specs.Queue.{Stands}
use Rattle.ww_queue.proofs.Outcomes.{same_number}
use Rattle.ww_model.proofs.Outcomes.{number_same, or_true, true_or}

abbrev pub has_waiter : ℕ → List Entry → Bool
has_waiter s q = list_any (λ e. e.seat == s) q

pub waiter_stands : (s : ℕ) (q : List Entry) → has_waiter s q ≡ true → Stands q s
waiter_stands s [] is = absurd (true≢false (sym is))
waiter_stands s (e ∷ es) is = ⊎_elim
    (λ here. (e, inl refl, same_number e.seat s here))
    (λ later. let found = waiter_stands s es later in (found.0, inr found.1, found.2))
    (or_true (e.seat == s) (has_waiter s es) is)

pub stands_waiter : (s : ℕ) (q : List Entry) → Stands q s → has_waiter s q ≡ true
stands_waiter s [] there = absurd there.1
stands_waiter s (e ∷ es) there = true_or (e.seat == s) (has_waiter s es) (⊎_elim
    (λ same. inl (number_same e.seat s (ap (λ (x : Entry). x.seat) (sym same) ∙ there.2)))
    (λ later. inr (stands_waiter s es (there.0, later, there.2)))
    there.1)

pub waiter_tells : (s : ℕ) (q : List Entry) → IsTrue (has_waiter s q) ↔ Stands q s
waiter_tells s q = (waiter_stands s q, stands_waiter s q)
