-- How long a list of different seats is.
use Rattle.std.proofs.Common.{ℕ, zero, suc, ◌≡◌, ◌<◌, ◌≤◌, ◌==◌, false, List, [], ◌∷◌, length, refl, ap, inl, ⊎_elim, arith}
use Rattle.ww_queue.specs.declared.entry.Entry.{Entry}
use Rattle.ww_queue.specs.Entry.{is_older}
use Rattle.ww_queue.specs.Queue.{Has, StandsNot, Once, joined, left}
use Rattle.ww_queue.proofs.Outcomes.{by_test}
use Rattle.ww_queue.proofs.Joins.{joined_has, joined_once}
use Rattle.ww_queue.proofs.Leaves.{left_has, left_once, left_gone}

pub length-joined : (q : List Entry) (x : Entry) → length (joined q x) ≡ suc (length q)
length-joined [] x = refl
length-joined (e ∷ es) x = by_test (is_older x.stamp e.stamp) (x ∷ e ∷ es) (e ∷ joined es x) (λ q. length q ≡ suc (suc (length es)))
    (λ _. refl) (λ _. ap suc (length-joined es x))

-- at most one leaves
pub length-left : (q : List Entry) (seat : ℕ) → length q ≤ suc (length (left q seat))
length-left [] seat = omega arith
length-left (e ∷ es) seat = by_test (e.seat == seat) es (e ∷ left es seat) (λ q. suc (length es) ≤ suc (length q))
    (λ _. omega arith) (λ _. let rest = length-left es seat in omega arith)

-- there are no more waiters than seats
pub waiters_fit : (n : ℕ) (q : List Entry) → Once q → ((e : Entry) → Has q e → e.seat < n) → length q ≤ n
waiters_fit zero [] once seats = omega arith
waiters_fit zero (e ∷ es) once seats = let none = seats e (inl refl) in absurd (omega arith)
waiters_fit (suc n) q once seats =
    let rest = waiters_fit n (left q n) (left_once q n once)
    (λ e h. let below = seats e (left_has q n e h) in let other = left_gone q n once e h in omega arith) in
    let one = length-left q n in omega arith

-- where a seat doesn't wait yet, there is room for it
pub room_for : (n : ℕ) (q : List Entry) (seat : ℕ) → Once q → ((e : Entry) → Has q e → e.seat < n)
    → StandsNot q seat → seat < n → length q < n
room_for n q seat once seats out below =
    let x : Entry = record { seat = seat; stamp = 0; holds = false } in
    let all = waiters_fit n (joined q x) (joined_once q x out once)
    (λ e h. ⊎_elim (λ same. let s = ap (λ (z : Entry). z.seat) same in omega arith) (seats e) (joined_has q x e h)) in
    let longer = length-joined q x in omega arith
