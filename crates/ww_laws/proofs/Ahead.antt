-- Who stands ahead of a waiter in its list.
use Rattle.std.proofs.Common.{◌≡◌, ◌≢◌, inl, inr, ⊎_elim, ℕ, suc, ◌<◌, ◌≤◌, ◌==◌, Bool, true, false, cond, List, [], ◌∷◌, refl, sym, ap, ◌∙◌, subst, arith, true≢false}
use Rattle.std.proofs.lemmas.Bool.{cases_Bool}
use Rattle.ww_queue.specs.declared.entry.Entry.{Entry}
use Rattle.ww_queue.specs.Entry.{is_older}
use Rattle.ww_queue.specs.Queue.{Has, Before, Once, Ascends, joined, left}
use Rattle.ww_queue.proofs.Joins.{joined_old}
use Rattle.ww_queue.proofs.Leaves.{left_others}
use Rattle.ww_queue.proofs.Outcomes.{by_test, same_number, other_number, older_true, true_older}

-- how many stand ahead of the seat
abbrev pub ahead : List Entry → ℕ → ℕ
ahead [] s = 0
ahead (x ∷ xs) s = cond (x.seat == s) 0 (suc (ahead xs s))

-- the entry is the first
abbrev pub Leads : List Entry → Entry → Type 0
Leads q f = (es : List Entry) × (q ≡ f ∷ es)

one_more : (b : Bool) (k m : ℕ) → k ≤ m → cond b 0 (suc k) ≤ cond b 0 (suc m)
one_more true k m less = omega arith
one_more false k m less = omega arith

-- who stands behind another stands there
behind : (q : List Entry) (a b : Entry) → Before q a b → Has q b
behind [] a b h = absurd h
behind (y ∷ ys) a b h = ⊎_elim (λ here. inr here.1) (λ later. inr (behind ys a b later)) h

-- ---- a waiter leaves the list

pub ahead_left : (q : List Entry) (t s : ℕ) → t ≢ s → ahead (left q t) s ≤ ahead q s
ahead_left [] t s other = omega arith
ahead_left (x ∷ xs) t s other = by_test (x.seat == t) xs (x ∷ left xs t) (λ q. ahead q s ≤ ahead (x ∷ xs) s)
    (λ is. by_test (x.seat == s) 0 (suc (ahead xs s)) (λ k. ahead xs s ≤ k)
    (λ same. absurd (other (sym (same_number x.seat t is) ∙ same_number x.seat s same))) (λ _. omega arith))
    (λ _. one_more (x.seat == s) (ahead (left xs t) s) (ahead xs s) (ahead_left xs t s other))

-- one who stood ahead is ahead no more
pub ahead_less : (q : List Entry) (f e : Entry) → Once q → Before q f e → ahead (left q f.seat) e.seat < ahead q e.seat
ahead_less [] f e once before = absurd before
ahead_less (x ∷ xs) f e once before = by_test (x.seat == e.seat) 0 (suc (ahead xs e.seat))
    (λ k. ahead (left (x ∷ xs) f.seat) e.seat < k)
    (λ same. absurd (⊎_elim (λ here. once.0 e here.1 (sym (same_number x.seat e.seat same)))
    (λ later. once.0 e (behind xs f e later) (sym (same_number x.seat e.seat same))) before))
    (λ isnt. by_test (x.seat == f.seat) xs (x ∷ left xs f.seat) (λ q. ahead q e.seat < suc (ahead xs e.seat))
    (λ _. omega arith)
    (λ other. ⊎_elim (λ here. absurd (other_number x.seat f.seat other (ap (λ (y : Entry). y.seat) (sym here.0))))
    (λ later. by_test (x.seat == e.seat) 0 (suc (ahead (left xs f.seat) e.seat)) (λ k. k < suc (ahead xs e.seat))
    (λ same. absurd (other_number x.seat e.seat isnt (same_number x.seat e.seat same)))
    (λ _. let rest = ahead_less xs f e once.1 later in omega arith)) before))

pub before_left : (q : List Entry) (t : ℕ) (f e : Entry) → f.seat ≢ t → e.seat ≢ t → Before q f e →
    Before (left q t) f e
before_left [] t f e a b before = absurd before
before_left (x ∷ xs) t f e a b before = by_test (x.seat == t) xs (x ∷ left xs t) (λ q. Before q f e)
    (λ is. ⊎_elim (λ here. absurd (a (ap (λ (y : Entry). y.seat) here.0 ∙ same_number x.seat t is)))
    (λ later. later) before)
    (λ _. ⊎_elim (λ here. inl (here.0, left_others xs t e b here.1))
    (λ later. inr (before_left xs t f e a b later)) before)

pub leads_left : (q : List Entry) (t : ℕ) (f : Entry) → f.seat ≢ t → Leads q f → Leads (left q t) f
leads_left q t f other first = subst (λ x. Leads (left x t) f) (sym first.1)
    (by_test (f.seat == t) first.0 (f ∷ left first.0 t) (λ x. Leads x f)
    (λ is. absurd (other (same_number f.seat t is))) (λ _. (left first.0 t, refl)))

-- ---- a waiter joins the list, and is no older context

pub ahead_joined : (q : List Entry) (w e : Entry) → Ascends q → 0 < e.stamp → Has q e →
    is_older w.stamp e.stamp ≡ false →
    ahead (joined q w) e.seat ≤ ahead q e.seat
ahead_joined [] w e order some h not = absurd h
ahead_joined (x ∷ xs) w e order some h not = by_test (is_older w.stamp x.stamp) (w ∷ x ∷ xs) (x ∷ joined xs w)
    (λ q. ahead q e.seat ≤ ahead (x ∷ xs) e.seat)
    (λ older. let o = older_true w.stamp x.stamp older in let a = o.0 in let b = o.1 in
    absurd (true≢false (sym (true_older w.stamp e.stamp
    (⊎_elim (λ same. let z = ap (λ (y : Entry). y.stamp) same in (a, omega arith))
    (λ later. let z = order.0 e later (omega arith) some in (a, omega arith)) h)) ∙ not)))
    (λ _. ⊎_elim
    (λ same. by_test (x.seat == e.seat) 0 (suc (ahead (joined xs w) e.seat)) (λ k. k ≤ ahead (x ∷ xs) e.seat)
    (λ _. omega arith) (λ isnt. absurd (other_number x.seat e.seat isnt (ap (λ (y : Entry). y.seat) (sym same)))))
    (λ later. one_more (x.seat == e.seat) (ahead (joined xs w) e.seat) (ahead xs e.seat)
    (ahead_joined xs w e order.1 some later not)) h)

pub before_joined : (q : List Entry) (w f e : Entry) → Before q f e → Before (joined q w) f e
before_joined [] w f e before = absurd before
before_joined (x ∷ xs) w f e before = by_test (is_older w.stamp x.stamp) (w ∷ x ∷ xs) (x ∷ joined xs w)
    (λ q. Before q f e)
    (λ _. inr before)
    (λ _. ⊎_elim (λ here. inl (here.0, joined_old xs w e here.1)) (λ later. inr (before_joined xs w f e later)) before)

pub leads_joined : (q : List Entry) (w f : Entry) → is_older w.stamp f.stamp ≡ false → Leads q f → Leads (joined q w) f
leads_joined q w f not first = subst (λ x. Leads (joined x w) f) (sym first.1)
    (by_test (is_older w.stamp f.stamp) (w ∷ f ∷ first.0) (f ∷ joined first.0 w) (λ x. Leads x f)
    (λ older. absurd (true≢false (sym older ∙ not))) (λ _. (joined first.0 w, refl)))

-- a seat without a context is older than none, and no context is older than it
pub none_older : (k : ℕ) (f : Entry) → f.stamp ≡ 0 → is_older k f.stamp ≡ false
none_older k f none = ⊎_elim (λ older. let o = older_true k f.stamp older in let a = o.1 in absurd (omega arith))
    (λ not. not)
    (cases_Bool (is_older k f.stamp))
