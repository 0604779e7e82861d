-- From a waiter the owners lead to somebody who is due, to a holder that waits for none, or to a wait that is about to
-- break.
use Rattle.std.proofs.Common.{◌≡◌, ◌⊎◌, inl, inr, ⊎_elim, ℕ, zero, suc, ◌<◌, List, [], ◌∷◌, refl, sym, ap, ◌∙◌, subst, arith}
use Rattle.std.proofs.lemmas.Bool.{cases_lt}
use mathlib.Core.Logic.{dite}
use native.Mathlib.Decide.{ℕ_discrete}
use Rattle.ww_queue.specs.declared.entry.Entry.{Entry}
use Rattle.ww_queue.specs.Queue.{Has, Stands, StandsNot}
use Rattle.ww_model.specs.declared.state.Holder.{Holder}
use Rattle.ww_model.specs.declared.state.Holder.TheVariants.{Nobody, Taken, Handed}
use Rattle.ww_model.specs.State.{State, InNoQueue}
use Rattle.ww_model.specs.Lawful.{IsLawful}
use Rattle.ww_model.specs.Run.{Reached}
use Rattle.ww_model.specs.Snapshot.{IsFirst}
use Rattle.ww_model.proofs.Beyond.{queues_beyond}
use Rattle.ww_laws.proofs.Links.{Link}
use Rattle.ww_laws.proofs.Climbs.{Onward, climb}

-- ---- whether a seat stands in a list

pub stands_or_not : (q : List Entry) (s : ℕ) → Stands q s ⊎ StandsNot q s
stands_or_not [] s = inr (λ e h. absurd h)
stands_or_not (x ∷ xs) s = dite (ℕ_discrete x.seat s) (λ is. inl (x, inl refl, is))
    (λ isnt. ⊎_elim (λ h. inl (h.0, inr h.1, h.2))
    (λ none. inr (λ e. ⊎_elim (λ same is. isnt (ap (λ (y : Entry). y.seat) (sym same) ∙ is)) (none e)))
    (stands_or_not xs s))

stands_below : (c : State) (s k : ℕ) → ((n : ℕ) × Stands (c.queue n) s) ⊎ ((n : ℕ) → n < k → StandsNot (c.queue n) s)
stands_below c s zero = inr (λ n below. absurd (omega arith))
stands_below c s (suc k) = ⊎_elim inl
    (λ none. ⊎_elim (λ here. inl (k, here))
    (λ not. inr (λ n below. dite (ℕ_discrete n k) (λ is. subst (λ x. StandsNot (c.queue x) s) (sym is) not)
    (λ isnt. none n (omega arith))))
    (stands_or_not (c.queue k) s))
    (stands_below c s k)

pub waits_or_not : (c : State) → Reached c → (s : ℕ) → ((n : ℕ) × Stands (c.queue n) s) ⊎ InNoQueue c s
waits_or_not c run s = ⊎_elim inl
    (λ none. inr (λ n e h is. ⊎_elim (λ below. none n below e h is)
    (λ beyond. subst (λ q. Has q e) (queues_beyond c run n beyond) h) (cases_lt n c.locks)))
    (stands_below c s c.locks)

-- ---- where the owners lead

-- a lock was handed to a waiter
pub record IsHanded (c : State) : Type 0 where
  pub lock : ℕ
  pub waiter : Entry
  pub stands : Has (c.queue lock) waiter
  pub owns : c.owner lock ≡ Handed waiter.seat

-- a lock is free, and this is its first waiter
pub record IsFree (c : State) : Type 0 where
  pub lock : ℕ
  pub waiter : Entry
  pub stands : Has (c.queue lock) waiter
  pub first : IsFirst (c.queue lock) waiter.seat
  pub free : c.owner lock ≡ Nobody

-- somebody waits for a holder that stands in no list
pub record HasHolder (c : State) : Type 0 where
  pub lock : ℕ
  pub waiter : Entry
  pub stands : Has (c.queue lock) waiter
  pub holder : ℕ
  pub owns : c.owner lock ≡ Taken holder
  pub idle : InNoQueue c holder

pub data Leaf (c : State) : Type 0 where
  handed : IsHanded c → Leaf c
  free : IsFree c → Leaf c
  holder : HasHolder c → Leaf c
  link : Link c → Leaf c

abbrev Any : ℕ → Type 0
Any s = Unit {0}

onward_at : (c : State) → Reached c → IsLawful c → (e : Entry) (n : ℕ) (o : Holder) (q : List Entry) →
    Has (c.queue n) e →
    c.owner n ≡ o → c.queue n ≡ q →
    Leaf c ⊎ Onward c Any n
onward_at c run l e n Nobody [] h own list = absurd (subst (λ q. Has q e) list h)
onward_at c run l e n Nobody (x ∷ xs) h own list = inl (free (record {
  lock = n;
  waiter = x;
  stands = subst (λ q. Has q x) (sym list) (inl refl);
  first = (x, xs, list, refl);
  free = own;
}))
onward_at c run l e n (Handed t) q h own list = let k = (l.base.owners.at n).handed_stands t own in
    inl (handed (record {
      lock = n;
      waiter = k.0;
      stands = k.1;
      owns = own ∙ ap Handed (sym k.2);
    }))
onward_at c run l e n (Taken t) q h own list = ⊎_elim
    (λ there. let k = there.1 in inr (record {
      owner = k.0;
      place = there.0;
      waits = k.1;
      owns = own ∙ ap Taken (sym k.2);
      such = tt;
    }))
    (λ none. inl (holder (record {
      lock = n;
      waiter = e;
      stands = h;
      holder = t;
      owns = own;
      idle = none;
    })))
    (waits_or_not c run t)

pub leaf_of : (c : State) → Reached c → IsLawful c → (e : Entry) (n : ℕ) → Has (c.queue n) e → Leaf c
leaf_of c run l e n h = ⊎_elim (λ leaf. leaf) (λ found. link found.link)
    (climb c l Any (Leaf c) (λ x m there such. onward_at c run l x m (c.owner m) (c.queue m) there refl refl) e n h tt)
