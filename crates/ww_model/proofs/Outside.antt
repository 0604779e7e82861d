-- Wait-Die: a seat with a sign owns a lock whose guard it isn't inside of.
use Rattle.std.proofs.Common.{◌≡◌, ◌≢◌, ⊎_elim, ℕ, suc, ◌<◌, refl, sym, ap, ◌∙◌, arith}
use Rattle.ww_model.specs.declared.state.Holder.{Holder}
use Rattle.ww_model.specs.declared.state.Holder.TheVariants.{Nobody, Taken}
use Rattle.ww_model.specs.declared.event.Event.TheVariants.{Clear, Fast, FastGive, Guard, Sign, Take, Give, Unguard}
use Rattle.ww_model.specs.State.{State, put, place_of}
use Rattle.ww_model.specs.Event.{given_to}
use Rattle.ww_model.specs.Lawful.{SignedOwnsOutside, OutsideIsKept}
use Rattle.ww_model.specs.Run.{at_start, further}
use Rattle.ww_model.specs.Laws.{OfReached}
use Rattle.ww_model.proofs.Puts.{put_else, put_cases}
use Rattle.ww_model.proofs.Dues.{death_from, sign_for, sign_owed}
use Rattle.ww_model.proofs.Kept.{reached_is_lawful}

-- an owner that isn't this seat changes
pub keeps_witness : (c : State) (n : ℕ) (o : Holder) (t : ℕ) → c.owner n ≢ Taken t → (k : ℕ) × (c.owner k ≡ Taken t) × (c.guard k ≢ suc t) →
    (k : ℕ) × (put c.owner n o k ≡ Taken t) × (c.guard k ≢ suc t)
keeps_witness c n o t isnt w = (w.0, put_else c.owner n o w.0 (λ is. isnt (ap c.owner (sym is) ∙ w.1)) ∙ w.1, w.2)

pub keeps_outside : OutsideIsKept
keeps_outside c (Clear s) can l k = λ dying t. put_cases c.sign s 0 t (λ x. 0 < x → (n : ℕ) × (c.owner n ≡ Taken t) × (c.guard n ≢ suc t))
    (λ _ p. absurd (omega arith)) (λ _. k dying t)
keeps_outside c (Fast s n) can l k = λ dying t p. keeps_witness c n (Taken s) t (λ i. let o = can.base.idle.free in cc) (k dying t p)
keeps_outside c (Take s n) can l k = λ dying t p. keeps_witness c n (Taken s) t
    (λ i. ⊎_elim (λ o. let w : ⊥ = cc in w) (λ o. let w : ⊥ = cc in w) can.base.free) (k dying t p)
keeps_outside c (FastGive s n) can l k = λ dying t p. keeps_witness c n Nobody t
    (λ i. let same : s ≡ t = (let o = can.base.owns in cc) in
    ⊎_elim (λ x. let h = x.1 in can.base.away.queue x.0 h.0 h.1 (h.2 ∙ sym same)) (λ x. can.base.away.inside x.0 (x.1 ∙ ap suc (sym same)))
    (l.signs.signs.waiting dying t p)) (k dying t p)
keeps_outside c (Give s n) can l k = λ dying t p. let w = k dying t p in (
  w.0,
  put_else c.owner n (given_to (c.asked n) (c.queue n)) w.0
      (λ is. let o = ap c.owner is in let same : s ≡ t = (let a = can.base.owns in let b = w.1 in cc) in
      w.2 (ap c.guard is ∙ can.base.inside.guard ∙ ap suc same)) ∙ w.1,
  w.2,
)
keeps_outside c (Guard s n) can l k = λ dying t p. let w = k dying t p in (
  w.0,
  w.1,
  put_cases c.guard n (suc s) w.0 (λ g. g ≢ suc t)
      (λ is i. let same : s ≡ t = omega arith in ⊎_elim
      (λ x. let h = x.1 in let mine = h.2 ∙ sym same in ⊎_elim (λ a. a.1 x.0 h.0 h.1 mine)
      (⊎_elim
      (λ a. let z = l.base.queues.one_queue x.0 n h.0 a.0 h.1 a.1 (mine ∙ sym a.2) in
      (l.base.owners.at n).taken_stands_not s (ap c.owner (sym is) ∙ w.1 ∙ ap Taken (sym same)) a.0 a.1 a.2)
      (λ a. a.0 x.0 h.0 h.1 mine)) can.base.why)
      (λ x. can.base.inside_none x.0 (x.1 ∙ ap suc (sym same))) (l.signs.signs.waiting dying t p)) (λ _. w.2),
)
keeps_outside c (Unguard s n) can l k = λ dying t p. let w = k dying t p in
    (w.0, w.1, put_cases c.guard n 0 w.0 (λ g. g ≢ suc t) (λ _ i. omega arith) (λ _. w.2))
keeps_outside c (Sign s v) can l k = let n = place_of c s in λ dying t. put_cases c.sign v (sign_for c s v) t
    (λ x. 0 < x → (m : ℕ) × (c.owner m ≡ Taken t) × (c.guard m ≢ suc t))
    (λ is _. let r = death_from c s n v (sign_for c s v) dying (sign_owed c s v can.signs.owed) in
    let w = (l.base.queues.at n).holds r.entry r.stands r.holds in (
      w.0,
      w.1 ∙ ap Taken (r.seat ∙ sym is),
      λ g.
          let at : n ≡ w.0 = l.base.guards.own_guard n w.0 r.entry r.stands (g ∙ ap suc (is ∙ sym r.seat)) in
          (l.base.owners.at n).taken_stands_not r.entry.seat (ap c.owner at ∙ w.1) r.entry r.stands refl,
    ))
    (λ _. k dying t)
keeps_outside c _ can l k = k

pub signed_owns_outside : OfReached SignedOwnsOutside
signed_owns_outside _ (at_start kind locks seats) = λ dying t p. absurd (omega arith)
signed_owns_outside _ (further c e run can) = keeps_outside c e can (reached_is_lawful c run) (signed_owns_outside c run)
