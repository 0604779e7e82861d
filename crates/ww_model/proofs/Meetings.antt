-- Whoever is wounded, or told to die, has met an older context.
use Rattle.std.proofs.Common.{◌≡◌, ◌⊎◌, inl, inr, ⊎_elim, ℕ, ◌<◌, Option, Some, unwrap_or, refl, sym, ap, ◌∙◌, subst, arith}
use mathlib.Core.Logic.{dite}
use native.Mathlib.Decide.{ℕ_discrete}
use Rattle.ww_queue.specs.declared.kind.Kind.TheVariants.{WoundWait}
use Rattle.ww_model.specs.declared.state.Holder.{Holder}
use Rattle.ww_model.specs.declared.state.Holder.TheVariants.{Nobody, Taken, Handed}
use Rattle.ww_model.specs.declared.event.Event.{Event}
use Rattle.ww_model.specs.declared.event.Event.TheVariants.{Begin, Clear, Fast, FastGive, Sign, Take, Give, Die}
use Rattle.ww_model.specs.declared.event.Answer.TheVariants.{Deadlk}
use Rattle.ww_model.specs.State.{State, put, OwnsSome, IsCalm, dies, place_of}
use Rattle.ww_model.specs.Event.{given_to, giving, Possible, after}
use Rattle.ww_model.specs.Run.{Reached, at_start, further}
use Rattle.ww_model.specs.Met.{MeetsNow, HasMet, DeadlkIsMet}
use Rattle.ww_model.specs.Laws.{SignWasMet}
use Rattle.ww_model.specs.Theorem.{DeadlkWasMet}
use Rattle.ww_model.proofs.Puts.{put_here, put_else, put_was}
use Rattle.ww_model.proofs.Options.{some_of}
use Rattle.ww_model.proofs.Holders.{not_given}
use Rattle.ww_model.proofs.Dues.{dies_why, wound_from, dies_older, sign_for, sign_owed}
use Rattle.ww_model.proofs.Kept.{reached_is_lawful}

-- the sign is met now, or was there while the seat owned a lock
abbrev pub Stays : State → State → ℕ → Type 0
Stays c d s = MeetsNow d s (d.sign s) ⊎ (OwnsSome c s × (d.sign s ≡ c.sign s))

pub owned : (c : State) (n : ℕ) (o : Holder) (s : ℕ) → (o ≡ Taken s → OwnsSome c s) → (m : ℕ) × (put c.owner n o m ≡ Taken s) → OwnsSome c s
owned c n o s new own = ⊎_elim (λ x. new x.1) (λ x. (own.0, x.1)) (put_was c.owner n o own.0 (λ h. h ≡ Taken s) own.1)

-- a seat that takes a lock with a sign owned one before
pub taker_owned : (c : State) (u s : ℕ) → IsCalm c u → 0 < c.sign s → Taken u ≡ Taken s → OwnsSome c s
taker_owned c u s calm p is = let same : u ≡ s = cc in
    ⊎_elim (λ z. let y = ap c.sign same in absurd (omega arith)) (λ z. (z.0, z.1 ∙ ap Taken same)) calm

-- a sign that an owner has is new and met, or was there
pub stays : (c : State) (e : Event) → Possible c e → c.kind ≡ WoundWait → (s : ℕ) → 0 < (after c e).sign s
    → OwnsSome (after c e) s → Stays c (after c e) s
stays c (Clear u) can wounding s p own =
    inr (
      own,
      put_else c.sign u 0 s (λ is. let z = put_here c.sign u 0 in let y = ap (put c.sign u 0) is in
          omega arith),
    )
stays c (Fast u n) can wounding s p own = inr (owned c n (Taken u) s (taker_owned c u s can.signs p) own, refl)
stays c (Take u n) can wounding s p own = inr (owned c n (Taken u) s (taker_owned c u s can.signs p) own, refl)
stays c (FastGive u n) can wounding s p own = inr (owned c n Nobody s (λ x. absurd (cc)) own, refl)
stays c (Give u n) can wounding s p own =
    inr (
      owned c n (given_to (c.asked n) (c.queue n)) s (λ x. absurd (not_given (c.asked n) (c.queue n) s x)) own,
      refl,
    )
stays c (Sign u v) can wounding s p own =
    let n = place_of c u in let k = sign_for c u v in
    let w = wound_from c u n v k wounding (sign_owed c u v can.signs.owed) in let m = w.3 in
    let here = λ (is : s ≡ v). let z : put c.sign v k s ≡ k = ap (put c.sign v k) is ∙ put_here c.sign v k in z in
    dite (ℕ_discrete s v)
    (λ is. inl (record {
      lock = n;
      owns = w.0 ∙ ap Taken (sym is);
      entry = m.0;
      stands = m.1;
      holds = m.2;
      stamp = m.3 ∙ sym (here is);
      context = p;
      older = let a = here is in let d = ap c.stamp is in let g = w.2 in omega arith;
    }))
    (λ isnt. inr (own, put_else c.sign v k s isnt))
stays c _ can wounding s p own = inr (own, refl)

pub same_kind : (c : State) (e : Event) → (after c e).kind ≡ c.kind
same_kind c (Begin _) = refl
same_kind c _ = refl

pub sign_was_met : SignWasMet
sign_was_met _ (at_start kind locks seats) wounding s p own = absurd (omega arith)
sign_was_met _ (further c e run can) wounding s p own = let was : c.kind ≡ WoundWait = sym (same_kind c e) ∙ wounding in (
  own,
  ⊎_elim inl (λ x. inr (subst (HasMet c run s) (sym x.1)
      (sign_was_met c run was s (let y = x.1 in omega arith) x.0))) (stays c e can was s p own),
)

pub death_was_met : (c : State) (run : Reached c) (s n k : ℕ) → Possible c (Die s n) → dies c s n ≡ Some k → DeadlkIsMet c run s n k
death_was_met c run s n k can h = let l = reached_is_lawful c run in let d = dies_why c s n k h in
    let own = (l.base.queues.at n).holds d.entry d.stands d.holds in let mine : OwnsSome c s = (own.0, own.1 ∙ ap Taken d.seat) in record {
      owns = mine;
      wounded = λ wounding. let w = d.wounded wounding in subst (HasMet c run s) (sym w.1) (sign_was_met c run wounding s w.0 mine);
      met = λ dying. let o = dies_older c s n k l.base dying d in record {
        context = o.0;
        older = o.1;
        who = ⊎_elim (λ i. inl (i.0, i.1, i.2)) (λ i. inr (i.0, d.entry, i.1, d.seat, i.3)) (d.older dying);
      };
    }

-- releasing answers no EDEADLK
giving_is_none : (o : Holder) (k : ℕ) → giving o ≡ Deadlk k → ⊥
giving_is_none Nobody k is = cc
giving_is_none (Taken s) k is = cc
giving_is_none (Handed s) k is = cc

pub deadlk_was_met : DeadlkWasMet
deadlk_was_met c run (Die s n) k can is = let cause = some_of (dies c s n) can.signs in record {
  seat = s;
  lock = n;
  event = refl;
  met = death_was_met c run s n k can (cause.1
      ∙ ap Some (let same = ap (λ (o : Option ℕ). unwrap_or o 0) cause.1 in
      let told : unwrap_or (dies c s n) 0 ≡ k = cc in sym same ∙ told));
}
deadlk_was_met c run (Give s n) k can is = absurd (giving_is_none (given_to (c.asked n) (c.queue n)) k is)
deadlk_was_met c run _ k can is = absurd (cc)
