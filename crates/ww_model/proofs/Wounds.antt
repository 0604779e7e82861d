-- Each event keeps what Wound-Wait promises.
use Rattle.std.proofs.Common.{◌≡◌, ◌≢◌, ◌⊎◌, inl, inr, ⊎_elim, ℕ, suc, ◌+◌, ◌<◌, List, sym, ap, ◌∙◌, subst, arith}
use Rattle.ww_queue.specs.declared.entry.Entry.{Entry}
use Rattle.ww_queue.specs.Queue.{Has, joined, left}
use Rattle.ww_queue.proofs.Joins.{joined_has}
use Rattle.ww_model.specs.declared.state.Holder.{Holder}
use Rattle.ww_model.specs.declared.state.Holder.TheVariants.{Nobody, Taken}
use Rattle.ww_model.specs.declared.event.Event.TheVariants.{Begin, Clear, Fast, FastGive, Guard, Join, Sign, Take, Give, Die, Unguard, End, Leave}
use Rattle.ww_model.specs.State.{put, waiter_of}
use Rattle.ww_model.specs.Event.{given_to}
use Rattle.ww_model.specs.Lawful.{WoundsAt, Wounds, Keeps}
use Rattle.ww_model.proofs.Puts.{put_else, put_cases, puts_cases}
use Rattle.ww_model.proofs.Departures.{stood}
use Rattle.ww_model.proofs.Holders.{not_given}
use Rattle.ww_model.proofs.Dues.{owes_wound, sign_for, sign_some}

-- the stamp of a seat that isn't the owner changes
pub stamp_moves : (stamp sign : ℕ → ℕ) (o : Holder) (q : List Entry) (g s k : ℕ) → o ≢ Taken s
    → WoundsAt stamp sign o q g → WoundsAt (put stamp s k) sign o q g
stamp_moves stamp mark o q g s k isnt l t e own out h out' b p older =
    l t e own out h out' b p (subst (λ x. e.stamp < x) (put_else stamp s k t (λ i. isnt (own ∙ ap Taken i))) older)

pub sign_moves : (stamp sign : ℕ → ℕ) (o : Holder) (q : List Entry) (g s k : ℕ) → (o ≢ Taken s) ⊎ (0 < k)
    → WoundsAt stamp sign o q g → WoundsAt stamp (put sign s k) o q g
sign_moves stamp mark o q g s k how l t e own out h out' b p older = put_cases mark s k t (λ x. 0 < x)
    (λ i. ⊎_elim (λ isnt. absurd (isnt (own ∙ ap Taken i))) (λ some. some) how) (λ _. l t e own out h out' b p older)

pub keeps_wounds : Keeps (λ c. Wounds c.kind c.stamp c.sign c.owner c.queue c.guard)
keeps_wounds c (Begin s) can l = λ wounding m. stamp_moves c.stamp c.sign (c.owner m) (c.queue m) (c.guard m) s
    (c.drawn + 1) (can.base.owns_none m) (l.signs.wounds wounding m)
keeps_wounds c (End s) can l = λ wounding m. stamp_moves c.stamp c.sign (c.owner m) (c.queue m) (c.guard m) s 0
    (can.base.owns_none m) (l.signs.wounds wounding m)
keeps_wounds c (Clear s) can l = λ wounding m. ⊎_elim
    (λ a. sign_moves c.stamp c.sign (c.owner m) (c.queue m) (c.guard m) s 0 (inl (a.1 m))
    (l.signs.wounds wounding m)) (λ a. absurd (let d = a.1.kind in cc)) can.signs
keeps_wounds c (Sign s v) can l = λ wounding m. sign_moves c.stamp c.sign (c.owner m) (c.queue m) (c.guard m) v (sign_for c s v)
    (inr (sign_some c s v l.base can.signs.owed)) (l.signs.wounds wounding m)
keeps_wounds c (Fast s n) can l = λ wounding m. put_cases c.owner n (Taken s) m (λ o. WoundsAt c.stamp c.sign o (c.queue m) (c.guard m))
    (λ is t e _ _ h. absurd (subst (λ q. Has q e) (ap c.queue is ∙ can.base.idle.empty) h)) (λ _. l.signs.wounds wounding m)
keeps_wounds c (FastGive s n) can l = λ wounding m. put_cases c.owner n Nobody m (λ o. WoundsAt c.stamp c.sign o (c.queue m) (c.guard m))
    (λ _ t e own. absurd (cc)) (λ _. l.signs.wounds wounding m)
keeps_wounds c (Give s n) can l = λ wounding m. put_cases c.owner n (given_to (c.asked n) (c.queue n)) m
    (λ o. WoundsAt c.stamp c.sign o (c.queue m) (c.guard m))
    (λ _ t e own. absurd (not_given (c.asked n) (c.queue n) t own)) (λ _. l.signs.wounds wounding m)
keeps_wounds c (Guard s n) can l = λ wounding m. put_cases c.guard n (suc s) m (λ g. WoundsAt c.stamp c.sign (c.owner m) (c.queue m) g)
    (λ is t e own _ h _. l.signs.wounds wounding m t e own (λ i. let z = ap c.guard is in let f = can.base.free in omega arith) h
    (λ i. let z = ap c.guard is in let f = can.base.free in omega arith)) (λ _. l.signs.wounds wounding m)
keeps_wounds c (Join s n) can l = λ wounding m. put_cases c.queue n (joined (c.queue n) (waiter_of c s)) m
    (λ q. WoundsAt c.stamp c.sign (c.owner m) q (c.guard m))
    (λ is t e own out h out'. l.signs.wounds wounding m t e own out
    (⊎_elim (λ i. absurd (out' (ap c.guard is ∙ can.base.inside.guard ∙ sym (ap (λ (z : Entry). suc z.seat) i))))
    (λ i. subst (λ x. Has (c.queue x) e) (sym is) i) (joined_has (c.queue n) (waiter_of c s) e h)) out') (λ _. l.signs.wounds wounding m)
keeps_wounds c (Die s n) can l = λ wounding m t e own out h. l.signs.wounds wounding m t e own out (stood c.queue n s m e h)
keeps_wounds c (Leave s n) can l = λ wounding m t e own out h. l.signs.wounds wounding m t e own out (stood c.queue n s m e h)
keeps_wounds c (Take s n) can l = λ wounding m. puts_cases c.owner c.queue n (Taken s) (left (c.queue n) s) m
    (λ o q. WoundsAt c.stamp c.sign o q (c.guard m))
    (λ is t e own out. absurd (out (ap c.guard is ∙ can.base.inside.guard ∙ ap suc (let z : s ≡ t = cc in z))))
    (λ _. l.signs.wounds wounding m)
keeps_wounds c (Unguard s n) can l = λ wounding m. put_cases c.guard n 0 m (λ g. WoundsAt c.stamp c.sign (c.owner m) (c.queue m) g)
    (λ is t e own _ h _ b p older. let r =
    owes_wound c s n t e wounding (ap c.owner (sym is) ∙ own) (subst (λ x. Has (c.queue x) e) is h) b p older in
    let z = can.signs.signed t r.0 r.1 in omega arith) (λ _. l.signs.wounds wounding m)
keeps_wounds c _ can l = l.signs.wounds
