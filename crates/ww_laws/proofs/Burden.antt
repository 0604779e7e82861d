-- The burden of a state, and what makes it smaller.
use Rattle.std.proofs.Common.{ℕ, suc, zero, ◌≡◌, ◌≢◌, ◌<◌, ◌≤◌, ◌+◌, ◌*◌, ◌==◌, ⊎_elim, Bool, true, false, List, [], ◌∷◌, length, refl, sym, ap, ◌∙◌, subst, arith}
use mathlib.Core.Logic.{dite}
use native.Mathlib.Decide.{ℕ_discrete}
use Rattle.ww_queue.specs.declared.entry.Entry.{Entry}
use Rattle.ww_queue.specs.Queue.{Stands, left}
use Rattle.ww_queue.proofs.Outcomes.{by_test, other_number}
use Rattle.ww_model.specs.declared.state.Holder.{Holder}
use Rattle.ww_model.specs.declared.state.Holder.TheVariants.{Nobody, Taken, Handed}
use Rattle.ww_model.specs.declared.event.Event.{Event}
use Rattle.ww_model.specs.declared.event.Event.TheVariants.{Guard, Take, Give, Die, Unguard, End, Leave}
use Rattle.ww_model.specs.State.{State}
use Rattle.ww_model.specs.Event.{CanGuard, CanTake, CanGive, CanDie, CanUnguard, CanEnd, CanLeave, Possible, after, given_to}
use Rattle.ww_model.specs.Run.{Reached}
use Rattle.ww_model.specs.Emptied.{LeadsBy}
use Rattle.ww_model.proofs.Puts.{put_here, put_else}
use Rattle.ww_laws.proofs.Moves.{stay, first, and_then, Sparing, ButSigns}

-- ---- sums

abbrev total : ℕ → (ℕ → ℕ) → ℕ
total zero f = 0
total (suc k) f = f k + total k f

total_below : (k : ℕ) (f g : ℕ → ℕ) → ((n : ℕ) → n < k → f n ≤ g n) → total k f ≤ total k g
total_below zero f g each = omega arith
total_below (suc k) f g each = let last = each k (omega arith) in
    let rest = total_below k f g (λ n below. each n (omega arith)) in omega arith

-- what changes at one place alone changes the sum by no more
total_at : (k i a b : ℕ) (f g : ℕ → ℕ) → i < k → f i + a ≤ g i + b → ((n : ℕ) → n ≢ i → f n ≤ g n) → total k f + a ≤ total k g + b
total_at zero i a b f g below here other = absurd (omega arith)
total_at (suc k) i a b f g below here other = dite (ℕ_discrete k i)
    (λ is. let last = subst (λ (j : ℕ). f j + a ≤ g j + b) (sym is) here in
    let rest = total_below k f g (λ n small. other n (λ same. let z : ⊥ = omega arith in z)) in omega arith)
    (λ isnt. let last = other k isnt in let rest = total_at k i a b f g (omega arith) here other in omega arith)

-- ---- the burden

-- A waiter weighs 6, a taken owner of a lock 4, one that it was handed to 2; a seat inside a guard weighs 1, and so
-- does each context. So a take, a death, an interruption and a give make the burden smaller by 2 at least, and to go
-- inside before adds 1.

abbrev weight : Holder → ℕ
weight Nobody = 0
weight (Handed s) = 2
weight (Taken s) = 4

-- 1, but for 0
abbrev one_if : ℕ → ℕ
one_if zero = 0
one_if (suc k) = 1

-- of a lock
abbrev of_lock : State → ℕ → ℕ
of_lock c n = 6 * length (c.queue n) + weight (c.owner n) + one_if (c.guard n)

-- of a seat
abbrev of_seat : State → ℕ → ℕ
of_seat c s = one_if (c.stamp s)

abbrev pub burden : State → ℕ
burden c = total c.locks (of_lock c) + total c.seats (of_seat c)

-- the burden is less than that of this state
abbrev pub Lower : State → State → Type 0
Lower c d = burden d < burden c

-- ---- what events do to it

one_of : (k : ℕ) → 0 < k → one_if k ≡ 1
one_of zero some = absurd (omega arith)
one_of (suc k) some = refl

-- a seat that leaves the list makes it shorter by one
pub left_shorter : (q : List Entry) (s : ℕ) → Stands q s → length (left q s) + 1 ≡ length q
left_shorter [] s here = absurd here.1
left_shorter (e ∷ es) s here = by_test (e.seat == s) es (e ∷ left es s) (λ q. length q + 1 ≡ length (e ∷ es))
    (λ _. omega arith)
    (λ isnt. let rest = left_shorter es s (
      here.0,
      ⊎_elim (λ same. absurd (other_number e.seat s isnt
          (ap (λ (y : Entry). y.seat) (sym same) ∙ here.2))) (λ later. later) here.1,
      here.2,
    ) in omega arith)

given_weighs : (b : Bool) (q : List Entry) → weight (given_to b q) ≤ 2
given_weighs true [] = omega arith
given_weighs true (e ∷ es) = omega arith
given_weighs false q = omega arith

take_lowers : (c : State) (s n : ℕ) → Stands (c.queue n) s → CanTake c s n → burden (after c (Take s n)) + 2 ≤ burden c
take_lowers c s n waits can = let locks = total_at c.locks n 2 0 (of_lock (after c (Take s n))) (of_lock c) can.inside.lock
    (let q = ap length (put_here c.queue n (left (c.queue n) s)) in let o = ap weight (put_here c.owner n (Taken s)) in
    let shorter = left_shorter (c.queue n) s waits in omega arith)
    (λ m other. let q = ap length (put_else c.queue n (left (c.queue n) s) m other) in
    let o = ap weight (put_else c.owner n (Taken s) m other) in omega arith)
    in omega arith

die_lowers : (c : State) (s n : ℕ) → CanDie c s n → burden (after c (Die s n)) + 2 ≤ burden c
die_lowers c s n can = let locks = total_at c.locks n 2 0 (of_lock (after c (Die s n))) (of_lock c) can.inside.lock
    (let q = ap length (put_here c.queue n (left (c.queue n) s)) in let shorter = left_shorter (c.queue n) s can.waits in omega arith)
    (λ m other. let q = ap length (put_else c.queue n (left (c.queue n) s) m other) in omega arith)
    in omega arith

leave_lowers : (c : State) (s n : ℕ) → CanLeave c s n → burden (after c (Leave s n)) + 2 ≤ burden c
leave_lowers c s n can = let locks = total_at c.locks n 2 0 (of_lock (after c (Leave s n))) (of_lock c) can.inside.lock
    (let q = ap length (put_here c.queue n (left (c.queue n) s)) in let shorter = left_shorter (c.queue n) s can.waits in omega arith)
    (λ m other. let q = ap length (put_else c.queue n (left (c.queue n) s) m other) in omega arith)
    in omega arith

give_lowers : (c : State) (s n : ℕ) → CanGive c s n → burden (after c (Give s n)) + 2 ≤ burden c
give_lowers c s n can = let given = given_to (c.asked n) (c.queue n) in
    let locks = total_at c.locks n 2 0 (of_lock (after c (Give s n))) (of_lock c) can.inside.lock
    (let o = ap weight (put_here c.owner n given) in let own = ap weight can.owns in
    let light = given_weighs (c.asked n) (c.queue n) in omega arith)
    (λ m other. let o = ap weight (put_else c.owner n given m other) in omega arith)
    in omega arith

unguard_lowers : (c : State) (s n : ℕ) → CanUnguard c s n → burden (after c (Unguard s n)) + 1 ≤ burden c
unguard_lowers c s n can = let locks = total_at c.locks n 1 0 (of_lock (after c (Unguard s n))) (of_lock c) can.inside.lock
    (let g = ap one_if (put_here c.guard n 0) in let inside = ap one_if can.inside.guard in omega arith)
    (λ m other. let g = ap one_if (put_else c.guard n 0 m other) in omega arith)
    in omega arith

end_lowers : (c : State) (s : ℕ) → CanEnd c s → burden (after c (End s)) + 1 ≤ burden c
end_lowers c s can = let seats = total_at c.seats s 1 0 (of_seat (after c (End s))) (of_seat c) can.away.seat
    (let k = ap one_if (put_here c.stamp s 0) in let some = one_of (c.stamp s) can.context in omega arith)
    (λ t other. let k = ap one_if (put_else c.stamp s 0 t other) in omega arith)
    in omega arith

guard_adds : (c : State) (s n : ℕ) → CanGuard c s n → burden (after c (Guard s n)) ≤ burden c + 1
guard_adds c s n can = let locks = total_at c.locks n 0 1 (of_lock (after c (Guard s n))) (of_lock c) can.lock
    (let g = ap one_if (put_here c.guard n (suc s)) in omega arith)
    (λ m other. let g = ap one_if (put_else c.guard n (suc s) m other) in omega arith)
    in omega arith

but_signs : (c d : State) → ButSigns c d → burden d ≡ burden c
but_signs c d same = ap burden same.1

-- ---- what somebody can do next

-- who isn't spared is another than each that is
other_than : (spared : ℕ → Type 0) (s : ℕ) → ¬ spared s → (u : ℕ) → spared u → s ≢ u
other_than spared s free u is same = free (subst spared (sym same) is)

module _ (spared : ℕ → Type 0) where
  -- a run that winds up, and spares whom it must, leads to a smaller burden
  abbrev pub GetsLighter : State → Type 0
  GetsLighter c = LeadsBy (Sparing spared) c (Lower c)

  -- one event leads from d to a smaller burden than that of c
  to_lower : (c d : State) (e : Event) → Sparing spared d e → Possible d e → Lower c (after d e) → LeadsBy (Sparing spared) d (Lower c)
  to_lower c d e may can lower = first (Sparing spared) d e (Lower c) may can (stay (Sparing spared) (after d e) (Lower c) lower)

  -- a seat that waits and is inside can take the lock
  pub takes : (c : State) (s n : ℕ) → Stands (c.queue n) s → Possible c (Take s n) → GetsLighter c
  takes c s n waits can = to_lower c c (Take s n) (waits, λ u _. tt) can (let down = take_lowers c s n waits can.base in omega arith)

  -- a seat inside can die
  pub dies : (c : State) (s n : ℕ) → ¬ spared s → Possible c (Die s n) → GetsLighter c
  dies c s n free can = to_lower c c (Die s n) (tt, other_than spared s free) can (let down = die_lowers c s n can.base in omega arith)

  -- a seat that has heeded a cancel can leave the list
  pub interrupted : (c : State) (s n : ℕ) → ¬ spared s → Possible c (Leave s n) → GetsLighter c
  interrupted c s n free can = to_lower c c (Leave s n) (tt, other_than spared s free) can
      (let down = leave_lowers c s n can.base in omega arith)

  -- a seat inside can leave the guard, after some signs
  pub leaves : (c : State) → Reached c → (s n : ℕ)
      → LeadsBy (Sparing spared) c (λ d. ButSigns c d × Possible d (Unguard s n)) → GetsLighter c
  leaves c reached s n way = and_then (Sparing spared) c (λ d. ButSigns c d × Possible d (Unguard s n)) (Lower c) reached way
      (λ d _ there. to_lower c d (Unguard s n) (tt, λ u _. tt) there.1
      (let same = but_signs c d there.0 in let down = unguard_lowers d s n there.1.base in omega arith))

  -- who can go inside can do there what makes the burden smaller by 2
  goes_inside : (c : State) (s n : ℕ) (e : Event) → Possible c (Guard s n) → Sparing spared (after c (Guard s n)) e
      → Possible (after c (Guard s n)) e →
      burden (after (after c (Guard s n)) e) + 2 ≤ burden (after c (Guard s n)) → GetsLighter c
  goes_inside c s n e go may can down = let up = guard_adds c s n go.base in
      first (Sparing spared) c (Guard s n) (Lower c) (tt, λ u _. tt) go
      (to_lower c (after c (Guard s n)) e may can (omega arith))

  -- a seat that waits can go inside and take the lock
  pub goes_and_takes : (c : State) (s n : ℕ) → Stands (c.queue n) s → Possible c (Guard s n)
      → Possible (after c (Guard s n)) (Take s n) → GetsLighter c
  goes_and_takes c s n waits go can = goes_inside c s n (Take s n) go (waits, λ u _. tt) can
      (take_lowers (after c (Guard s n)) s n waits can.base)

  -- an owner can go inside and give the lock
  pub goes_and_gives : (c : State) (s n : ℕ) → ¬ spared s → Possible c (Guard s n)
      → Possible (after c (Guard s n)) (Give s n) → GetsLighter c
  goes_and_gives c s n free go can = goes_inside c s n (Give s n) go (tt, other_than spared s free) can
      (give_lowers (after c (Guard s n)) s n can.base)

  -- a seat that waits can go inside and die
  pub goes_and_dies : (c : State) (s n : ℕ) → ¬ spared s → Possible c (Guard s n) → Possible (after c (Guard s n)) (Die s n) → GetsLighter c
  goes_and_dies c s n free go can = goes_inside c s n (Die s n) go (tt, other_than spared s free) can
      (die_lowers (after c (Guard s n)) s n can.base)

  -- a context can end, once its sign is cleared
  pub ends : (c : State) → Reached c → (s : ℕ) → ¬ spared s
      → LeadsBy (Sparing spared) c (λ d. ButSigns c d × Possible d (End s)) → GetsLighter c
  ends c reached s free way = and_then (Sparing spared) c (λ d. ButSigns c d × Possible d (End s)) (Lower c) reached way
      (λ d _ there. to_lower c d (End s) (tt, other_than spared s free) there.1
      (let same = but_signs c d there.0 in let down = end_lowers d s there.1.base in omega arith))
