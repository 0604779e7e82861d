use Rattle.std.proofs.Common.{◌≡◌, ◌≢◌, ◌<◌, ◌==◌, ◌&&◌, ◌||◌, ⊎_elim, not, Bool, true, List, [], ◌∷◌, sym, subst, arith}
use Rattle.std.specs.List.{list_all}
use Rattle.std.proofs.lemmas.Grind.{common_steps}
use Rattle.ww_queue.specs.declared.entry.Entry.{Entry}
use Rattle.ww_queue.specs.Queue.{Has}
use Rattle.ww_queue.proofs.Outcomes.{both_true}
use Rattle.ww_tests_below.proofs.queues.put.Goals as goal

all_have : (p : Entry → Bool) (q : List Entry) (e : Entry) → list_all p q ≡ true → Has q e → p e ≡ true
all_have p [] e all h = absurd h
all_have p (x ∷ xs) e all h = let both = both_true (p x) (list_all p xs) all in
    ⊎_elim (λ same. subst (λ z. p z ≡ true) (sym same) both.0) (λ later. all_have p xs e both.1 later) h

other_seat : (e x : Entry) → (not (e.seat == x.seat) && (x.stamp == 0 || not (e.stamp == x.stamp))) ≡ true → e.seat ≢ x.seat
other_seat e x is same = grind (arith, common_steps)

other_stamp : (e x : Entry) → (not (e.seat == x.seat) && (x.stamp == 0 || not (e.stamp == x.stamp))) ≡ true
    → 0 < x.stamp → e.stamp ≢ x.stamp
other_stamp e x is some same = grind (arith, common_steps)

pub join-requires-clause-seat : goal.join-requires-clause-seat
join-requires-clause-seat c = λ e h.
    let x = c.args.entry in
    let all : list_all (λ e. not (e.seat == x.seat) && (x.stamp == 0 || not (e.stamp == x.stamp))) c.args.queue.now ≡ true = cc in
    other_seat e x (all_have (λ e. not (e.seat == x.seat) && (x.stamp == 0 || not (e.stamp == x.stamp))) c.args.queue.now e all h)

pub join-requires-clause-stamp : goal.join-requires-clause-stamp
join-requires-clause-stamp c = λ e h.
    let x = c.args.entry in
    let all : list_all (λ e. not (e.seat == x.seat) && (x.stamp == 0 || not (e.stamp == x.stamp))) c.args.queue.now ≡ true = cc in
    other_stamp e x (all_have (λ e. not (e.seat == x.seat) && (x.stamp == 0 || not (e.stamp == x.stamp))) c.args.queue.now e all h)
