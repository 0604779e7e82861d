-- From a waiter by the owners of locks, which wait themselves, to one whose wait is about to break.
use Rattle.std.proofs.Common.{◌≡◌, ◌≢◌, ◌⊎◌, inl, inr, ⊎_elim, ℕ, zero, suc, ◌+◌, ◌<◌, ◌≤◌, true, arith}
use Rattle.std.proofs.lemmas.Bool.{cases_Bool, cases_lt}
use mathlib.Core.Logic.{dite}
use native.Mathlib.Decide.{ℕ_discrete}
use Rattle.ww_queue.specs.declared.kind.Kind.TheVariants.{WoundWait, WaitDie}
use Rattle.ww_queue.specs.declared.entry.Entry.{Entry}
use Rattle.ww_queue.specs.Queue.{Has}
use Rattle.ww_model.specs.declared.state.Holder.TheVariants.{Taken}
use Rattle.ww_model.specs.State.{State}
use Rattle.ww_model.specs.Lawful.{IsLawful}
use Rattle.ww_model.proofs.Dues.{by_kind}
use Rattle.ww_laws.proofs.Links.{Link}

-- the lock where the waiter waits has an owner that waits itself, such a seat
pub record Onward (c : State) (IsSuch : ℕ → Type 0) (n : ℕ) : Type 0 where
  pub owner : Entry
  pub place : ℕ
  pub waits : Has (c.queue place) owner
  pub owns : c.owner n ≡ Taken owner.seat
  pub such : IsSuch owner.seat

-- a link between two such seats
pub record Found (c : State) (IsSuch : ℕ → Type 0) : Type 0 where
  pub link : Link c
  pub waiter : IsSuch link.waiter.seat
  pub owner : IsSuch link.owner.seat

-- an owner that waits has a context, and its entry says that it holds locks
pub owner_holds : (c : State) → IsLawful c → (f : Entry) (n m : ℕ) → Has (c.queue m) f → c.owner n ≡ Taken f.seat →
    (f.holds ≡ true) × (0 < f.stamp)
owner_holds c l f n m h own = let q = l.base.queues.at m in let same = q.stamps f h in (
  ⊎_elim (λ is. is) (λ isnt. absurd (q.holds_not f h isnt n own)) (cases_Bool f.holds),
  dite (ℕ_discrete (c.stamp f.seat) 0) (λ z. absurd (l.base.solos.none_queued m n f h z own)) (λ z. omega arith),
)

module _ (c : State) (l : IsLawful c) (IsSuch : ℕ → Type 0) (Other : Type 0)
    (onward : (e : Entry) (n : ℕ) → Has (c.queue n) e → IsSuch e.seat → Other ⊎ Onward c IsSuch n) where
  -- a waiter and an owner of its lock have different stamps
  apart : (e f : Entry) (n m : ℕ) → Has (c.queue n) e → 0 < e.stamp → Has (c.queue m) f → c.owner n ≡ Taken f.seat →
      e.stamp ≢ f.stamp
  apart e f n m h some h' own is = let a = (l.base.queues.at n).stamps e h in
      let b = (l.base.queues.at m).stamps f h' in
      let same = l.base.stamps.differ e.seat f.seat (omega arith) (omega arith) in
      (l.base.owners.at n).taken_stands_not f.seat own e h same

  -- the owner of its lock makes a link with it
  linked : (e : Entry) (n : ℕ) → Has (c.queue n) e → IsSuch e.seat → e.holds ≡ true → 0 < e.stamp →
      (o : Onward c IsSuch n) → (c.kind ≡ WoundWait → e.stamp < o.owner.stamp) →
      (c.kind ≡ WaitDie → (0 < o.owner.stamp) × (o.owner.stamp < e.stamp)) → Found c IsSuch
  linked e n h such holds some o wounds dies = record {
    link = record {
      waiter = e;
      lock = n;
      stands = h;
      holds = holds;
      context = some;
      owner = o.owner;
      place = o.place;
      waits = o.waits;
      owns = o.owns;
      wounds = wounds;
      dies = dies;
    };
    waiter = such;
    owner = o.such;
  }

  -- Wound-Wait: from older to older, until an older one waits for a younger
  older : c.kind ≡ WoundWait → (fuel : ℕ) (e : Entry) (n : ℕ) → Has (c.queue n) e → IsSuch e.seat → e.holds ≡ true →
      0 < e.stamp → e.stamp ≤ fuel →
      Other ⊎ Found c IsSuch
  older kind zero e n h such holds some bound = absurd (omega arith)
  older kind (suc fuel) e n h such holds some bound = ⊎_elim inl
      (λ o. let f = o.owner in let m = o.place in let own = owner_holds c l f n m o.waits o.owns in ⊎_elim
      (λ less. inr (linked e n h such holds some o (λ _. less) (λ other. let z = kind in absurd (cc))))
      (λ more. let isnt = apart e f n m h some o.waits o.owns in
      older kind fuel f m o.waits o.such own.0 own.1 (omega arith))
      (cases_lt e.stamp f.stamp))
      (onward e n h such)

  -- Wait-Die: from younger to younger, until a younger one waits for an older
  younger : c.kind ≡ WaitDie → (fuel : ℕ) (e : Entry) (n : ℕ) → Has (c.queue n) e → IsSuch e.seat → e.holds ≡ true →
      0 < e.stamp →
      c.drawn < e.stamp + fuel → Other ⊎ Found c IsSuch
  younger kind zero e n h such holds some bound = let a = (l.base.queues.at n).stamps e h in
      let b = l.base.stamps.below e.seat in absurd (omega arith)
  younger kind (suc fuel) e n h such holds some bound = ⊎_elim inl
      (λ o. let f = o.owner in let m = o.place in let own = owner_holds c l f n m o.waits o.owns in ⊎_elim
      (λ less. inr (linked e n h such holds some o (λ other. let z = kind in absurd (cc)) (λ _. (own.1, less))))
      (λ more. let isnt = apart e f n m h some o.waits o.owns in
      younger kind fuel f m o.waits o.such own.0 own.1 (omega arith))
      (cases_lt f.stamp e.stamp))
      (onward e n h such)

  -- from any waiter
  pub climb : (e : Entry) (n : ℕ) → Has (c.queue n) e → IsSuch e.seat → Other ⊎ Found c IsSuch
  climb e n h such = ⊎_elim inl
      (λ o. let f = o.owner in let m = o.place in let own = owner_holds c l f n m o.waits o.owns in
      by_kind c.kind (Other ⊎ Found c IsSuch)
      (λ kind. older kind f.stamp f m o.waits o.such own.0 own.1 (omega arith))
      (λ kind. younger kind (suc c.drawn) f m o.waits o.such own.0 own.1 (omega arith)))
      (onward e n h such)
