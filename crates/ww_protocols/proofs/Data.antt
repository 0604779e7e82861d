-- Data under a lock: no two accesses race, and each read is of the last write.
use Rattle.std.proofs.Common.{◌≡◌, ⊎_elim, inl, inr, ℕ, suc, ◌<◌, Some, refl, sym, ap, ◌∙◌, subst, arith}
use Rattle.ww_protocols.specs.Memory.{Access, IsMadeBy, AccessesAt}
use Rattle.ww_protocols.specs.Data.{LockAct, takes, releases, accesses, access_of, IsDoneBy, HappensBefore, in_order, handed, through, AccessesDoNotRace, ReadsGetTheLastWrite}
use Rattle.ww_protocols.proofs.Changes.{same_or_not}
use Rattle.ww_protocols.proofs.Times.{last_time, arrives, has_or_not}
use Rattle.ww_protocols.proofs.Memory.{gets_the_last}

pub by_its_thread : (t x : ℕ) (a : Access) → AccessesAt t x a → IsMadeBy t a
by_its_thread t x a (value, inl is) = subst (IsMadeBy t) (sym is) refl
by_its_thread t x a (value, inr is) = subst (IsMadeBy t) (sym is) refl

-- an access is no other act
is_access : (t x : ℕ) (a : LockAct) → AccessesAt t x (access_of a) → (a ≡ accesses (access_of a)) × IsDoneBy t a
is_access t x (accesses a) h = (refl, by_its_thread t x a h)
is_access t x (takes u n) (value, is) = absurd (⊎_elim (λ w. cc) (λ r. cc) is)
is_access t x (releases u n) (value, is) = absurd (⊎_elim (λ w. cc) (λ r. cc) is)

pub accesses_do_not_race : AccessesDoNotRace
accesses_do_not_race lock_of owner act g i j t u x = λ less a b. let n = lock_of x in
    let here = is_access t x (act i) a in let there = is_access u x (act j) b in
    let mine : owner i n ≡ Some t = g.has i t x a in let its : owner j n ≡ Some u = g.has j u x b in ⊎_elim
    (λ same. in_order i j u less (subst (λ y. IsDoneBy y (act i)) same here.1) there.1)
    (λ other. let out = last_time (λ k. owner k n ≡ Some t) (λ k. has_or_not (owner k n) t) i j (omega arith) mine
    (λ still. other (let z : t ≡ u = cc in z)) in
    let r = out.at in let low = out.from in let high = out.before in
    let gives : act r ≡ releases t n = ⊎_elim (λ still. absurd (out.since (suc r) (omega arith) (omega arith) still)) (λ is. is)
    (g.goes r t n out.holds) in
    let come = arrives (λ k. owner k n ≡ Some u) (λ k. has_or_not (owner k n) u) r j (omega arith)
    (λ its_then. let had = out.holds in other (let z : t ≡ u = cc in z)) its in
    let w = come.at in let from = come.from in let below = come.before in
    let taken : act w ≡ takes u n = ⊎_elim (λ had. absurd (come.not_yet had)) (λ is. is)
    (g.comes w u n (come.since (suc w) (omega arith) (omega arith))) in
    let later : i < r = ⊎_elim (λ is. let z = sym here.0 ∙ ap act is ∙ gives in absurd (cc)) (λ isnt. omega arith) (same_or_not i r) in
    let order : r < w = ⊎_elim (λ is. let z = sym gives ∙ ap act is ∙ taken in absurd (cc)) (λ isnt. omega arith) (same_or_not r w) in
    through i w j
    (through i r w (in_order i r t later here.1 (subst (IsDoneBy t) (sym gives) refl)) (handed r w t u n order gives taken))
    (in_order w j u below (subst (IsDoneBy u) (sym taken) refl) there.1))
    (same_or_not t u)

-- what happens before stands before
pub comes_first : (act : ℕ → LockAct) (i j : ℕ) → HappensBefore act i j → i < j
comes_first act _ _ (in_order i j t less a b) = less
comes_first act _ _ (handed i j t u n less a b) = less
comes_first act _ _ (through i j k a b) = let x = comes_first act i j a in let y = comes_first act j k b in omega arith

pub reads_get_the_last_write : ReadsGetTheLastWrite
reads_get_the_last_write lock_of owner act g first memory j = λ u x value is. gets_the_last (HappensBefore act) (λ i. access_of (act i))
    (λ i k t s y v less w a. accesses_do_not_race lock_of owner act g i k t s y less (v, inl w) a)
    (λ i k t s y v less a w. accesses_do_not_race lock_of owner act g i k t s y less a (v, inl w))
    first j u x value is memory
