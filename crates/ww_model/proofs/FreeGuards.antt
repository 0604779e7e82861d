-- Wait-Die: whoever must die at a lock has a sign, where a seat inside its guard has nothing to do with that lock, or
-- nobody is.
use Rattle.std.proofs.Common.{◌≡◌, ◌≢◌, inl, inr, ⊎_elim, ℕ, suc, ◌<◌, List, [], ◌∷◌, ap, ◌∙◌, subst, arith}
use Rattle.std.proofs.lemmas.Bool.{true_from_ne_false}
use Rattle.ww_queue.specs.declared.kind.Kind.TheVariants.{WaitDie}
use Rattle.ww_queue.specs.declared.entry.Entry.{Entry}
use Rattle.ww_queue.specs.Queue.{Has, Before, Ascends}
use Rattle.ww_queue.proofs.Aheads.{before_first, before_second}
use Rattle.ww_model.specs.declared.state.Holder.TheVariants.{Taken}
use Rattle.ww_model.specs.State.{State, dies}
use Rattle.ww_model.specs.Lawful.{IsLawful, FreeGuardsOweNothing}
use Rattle.ww_model.specs.Alone.{OutsidersOweNothing}
use Rattle.ww_model.specs.Laws.{OfLawful, OnlyFirstIsUnsigned}
use Rattle.ww_model.proofs.Options.{some_of}
use Rattle.ww_model.proofs.Dues.{by_kind, DiesOf, dies_why, wound_from, death_from}

-- the older of two contexts in a list stands before the other
pub older_before : (q : List Entry) (x y : Entry) → Ascends q → Has q x → Has q y → 0 < x.stamp → x.stamp < y.stamp → Before q x y
older_before [] x y order h h' some older = absurd h
older_before (e ∷ es) x y order h h' some older = ⊎_elim
    (λ is. ⊎_elim (λ same. let u = ap (λ (z : Entry). z.stamp) is in let v = ap (λ (z : Entry). z.stamp) same in
    absurd (omega arith)) (λ later. inl (is, later)) h')
    (λ later. ⊎_elim (λ same. let v = ap (λ (z : Entry). z.stamp) same in
    let w = order.0 x later (omega arith) some in absurd (omega arith))
    (λ later'. inr (older_before es x y order.1 later later' some older)) h') h

-- whoever must die is signed, where no waiter and no taken owner is inside the guard
death_signed : (c : State) (s n k : ℕ) → IsLawful c → c.kind ≡ WaitDie → ((e : Entry) → Has (c.queue n) e → c.guard n ≢ suc e.seat) →
    ((t : ℕ) → c.owner n ≡ Taken t → c.guard n ≢ suc t) → DiesOf c s n k → 0 < c.sign s
death_signed c s n k l dying out free y = let at = l.signs.deaths dying n in let q = l.base.queues.at n in
    subst (λ x. 0 < c.sign x) y.seat (⊎_elim
    (λ i. let p : 0 < c.stamp i.0 = (let a = i.2 in let b = i.3 in omega arith) in
    let younger : c.stamp i.0 < y.entry.stamp = (let a = i.2 in let b = i.4 in omega arith) in ⊎_elim
    (λ own. at.younger_signed i.0 y.entry own p (free i.0 own) y.stands (out y.entry y.stands) y.holds younger)
    (λ own. let f = (l.base.owners.at n).handed_stands i.0 own in let same = q.stamps f.0 f.1 ∙ ap c.stamp f.2 in
    at.later_holders_signed f.0 y.entry (older_before (c.queue n) f.0 y.entry q.ascends f.1 y.stands (omega arith) (omega arith))
    (omega arith) y.context (out f.0 f.1) (out y.entry y.stands) y.holds) i.1)
    (λ i. at.later_holders_signed i.0 y.entry i.1 i.2 y.context (out i.0 (before_first (c.queue n) i.0 y.entry i.1))
    (out y.entry y.stands) y.holds) (y.older dying))

pub free_guards_owe_nothing : OfLawful FreeGuardsOweNothing
free_guards_owe_nothing c l dying n s free d = let k = some_of (dies c s n) d in
    death_signed c s n k.0 l dying (λ e h z. omega arith) (λ t own z. omega arith) (dies_why c s n k.0 k.1)

-- a seat that is inside, doesn't wait there and isn't the taken owner owes no unsigned seat
pub owes_nothing : OfLawful OutsidersOweNothing
owes_nothing c l s n inside away isnt v k owed = let out : (e : Entry) → Has (c.queue n) e
    → c.guard n ≢ suc e.seat = λ e h g. away e h (omega arith) in
    let free : (t : ℕ) → c.owner n ≡ Taken t → c.guard n ≢ suc t = λ t own g. isnt (own ∙ ap Taken (omega arith)) in
    by_kind c.kind (c.sign v ≢ 0)
    (λ wounding none. let w = wound_from c s n v k wounding owed in let e = w.3 in
    let met : e.0.stamp < c.stamp v = (let a = e.3 in let b = w.2 in omega arith) in
    let signed = l.signs.wounds wounding n v e.0 w.0 (free v w.0) e.1 (out e.0 e.1) e.2
    (let a = e.3 in let b = w.1 in omega arith) met in omega arith)
    (λ dying none. let signed = death_signed c v n k l dying out free (death_from c s n v k dying owed) in omega arith)

-- of the waiters with a context only the first may hold locks without a sign
pub only_first_is_unsigned : OfLawful OnlyFirstIsUnsigned
only_first_is_unsigned c l dying n free e f h p p' own =
    let k = before_second (c.queue n) e f h in
    (l.signs.deaths dying n).later_holders_signed e f h p p' (λ z. omega arith) (λ z. omega arith)
    (true_from_ne_false f.holds (λ b. (l.base.queues.at n).holds_not f k b own.0 own.1))
