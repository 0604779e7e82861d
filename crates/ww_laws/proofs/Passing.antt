-- A lock passes from one owner to another by two steps on its word.
use Rattle.std.proofs.Common.{◌≡◌, ◌⊎◌, inl, inr, ⊎_elim, ℕ, zero, suc, ◌+◌, ◌-◌, ◌<◌, ◌≤◌, Bool, true, List, refl, sym, ap, ◌∙◌, subst, arith}
use Rattle.std.proofs.lemmas.Bool.{cases_lt}
use Rattle.ww_queue.specs.declared.entry.Entry.{Entry}
use Rattle.ww_queue.specs.Queue.{Has, left}
use Rattle.ww_queue.proofs.Leaves.{left_gone}
use Rattle.ww_model.specs.declared.state.Holder.TheVariants.{Taken, Handed}
use Rattle.ww_model.specs.declared.event.Event.TheVariants.{FastGive, Give}
use Rattle.ww_model.specs.State.{State}
use Rattle.ww_model.specs.Event.{given_to, after}
use Rattle.ww_model.specs.Lawful.{IsBase}
use Rattle.ww_model.specs.Snapshot.{IsFirst}
use Rattle.ww_model.proofs.Puts.{put_here}
use Rattle.ww_model.proofs.Holders.{not_given}
use Rattle.ww_model.proofs.Leaving.{handed_or_taken}
use Rattle.ww_laws.specs.Scene.{Scene, Step, performs, May, next}
use Rattle.ww_laws.specs.Handing.{Releases, Acquires, OwnersHandOver, NobodyGoesPast}
use Rattle.ww_laws.proofs.Steps.{taken_or_not, given_by, asked_next}
use Rattle.ww_laws.proofs.Endless.{holds_at}
use Rattle.ww_laws.proofs.Contexts.{gained_next}
use Rattle.ww_laws.proofs.Runs.{changes, lawful_at}

-- the last time before j at which it doesn't hold yet
record Arrival (P : ℕ → Type 0) (i j : ℕ) : Type 0 where
  at : ℕ
  from : i ≤ at
  before : at < j
  not_yet : P at → ⊥
  since : (k : ℕ) → at < k → k ≤ j → P k

arrives_within : (P : ℕ → Type 0) → ((k : ℕ) → P k ⊎ (P k → ⊥)) → (i gap : ℕ) → (P i → ⊥) → P (i + gap) →
    Arrival P i (i + gap)
arrives_within P dec i zero lacks h = absurd (lacks (subst P (omega arith) h))
arrives_within P dec i (suc gap) lacks h = ⊎_elim
    (λ still. let a = arrives_within P dec i gap lacks still in let from = a.from in let before = a.before in record {
      at = a.at;
      from = from;
      before = omega arith;
      not_yet = a.not_yet;
      since = λ k low high. ⊎_elim (λ less. a.since k low (omega arith))
          (λ top. let is : i + suc gap ≡ k = omega arith in subst P is h) (cases_lt k (i + suc gap));
    })
    (λ isnt. record {
      at = i + gap;
      from = omega arith;
      before = omega arith;
      not_yet = isnt;
      since = λ k low high. let is : i + suc gap ≡ k = omega arith in subst P is h;
    })
    (dec (i + gap))

arrives : (P : ℕ → Type 0) → ((k : ℕ) → P k ⊎ (P k → ⊥)) → (i j : ℕ) → i ≤ j → (P i → ⊥) → P j → Arrival P i j
arrives P dec i j later lacks h = let gap : i + (j - i) ≡ j = omega arith in
    subst (λ x. Arrival P i x) gap (arrives_within P dec i (j - i) lacks (subst P (sym gap) h))

-- no step does both
not_both : (s t n : ℕ) (x : Step) → Releases s n x → Acquires t n x → ⊥
not_both s t n x (inl a) (inl b) = cc
not_both s t n x (inl a) (inr b) = cc
not_both s t n x (inr a) (inl b) = cc
not_both s t n x (inr a) (inr b) = cc

pub owners_hand_over : OwnersHandOver
owners_hand_over scene step run i j s t n later = λ own has other.
    let mine : ℕ → Type 0 = λ k. (scene k).core.owner n ≡ Taken s in
    let its : ℕ → Type 0 = λ k. (scene k).core.owner n ≡ Taken t in
    let out = changes mine (λ k. taken_or_not ((scene k).core.owner n) s) i j later own
    (λ both. other (let z : s ≡ t = cc in z)) in
    let r = out.at in let from = out.from in let below = out.before in
    let there = out.held r from (omega arith) in
    let gives = given_by (scene r) (step r) s n (run.may r) there
    (λ z. out.gone (subst (λ (w : Scene). w.core.owner n ≡ Taken s) (sym (run.goes_on r)) z)) in
    let not_yet : its (suc r) → ⊥ = λ z. not_both s t n (step r) gives (gained_next (scene r) (step r) t n
    (λ y. other (let same : s ≡ t = cc in same))
    (subst (λ (w : Scene). w.core.owner n ≡ Taken t) (run.goes_on r) z)) in
    let a = arrives its (λ k. taken_or_not ((scene k).core.owner n) t) (suc r) j (omega arith) not_yet has in
    let low = a.from in let high = a.before in
    record {
      released = r;
      taken = a.at;
      from = from;
      order = omega arith;
      before = high;
      until = out.held;
      gives = gives;
      takes = gained_next (scene a.at) (step a.at) t n a.not_yet
          (subst (λ (w : Scene). w.core.owner n ≡ Taken t) (run.goes_on a.at) (a.since (suc a.at) (omega arith) (omega arith)));
      since = a.since;
    }

-- ---- nobody goes past the first waiter

-- who has asked has the lock then, or its owner has it still
abbrev Waits : State → ℕ → ℕ → ℕ → Type 0
Waits c s t n = ((c.owner n ≡ Taken t) × (c.asked n ≡ true)) ⊎ (c.owner n ≡ Handed s)

first_has : (q : List Entry) (s : ℕ) → IsFirst q s → (e : Entry) × Has q e × (e.seat ≡ s)
first_has q s f = (f.0, subst (λ x. Has x f.0) (sym f.2) (inl refl), f.3)

-- a lock that is released when it was asked for is handed to the first
given_first : (b : Bool) (q : List Entry) (s : ℕ) → b ≡ true → IsFirst q s → given_to b q ≡ Handed s
given_first b q s asked f = ap (λ x. given_to x q) asked ∙ ap (given_to true) f.2 ∙ ap Handed f.3

still_asked_next : (w : Scene) (x : Step) (s t n : ℕ) → May w x → w.core.owner n ≡ Taken t → w.core.asked n ≡ true →
    IsFirst ((next w x).core.queue n) s → (next w x).core.owner n ≡ Taken t → (next w x).core.asked n ≡ true
still_asked_next w x s t n may own asked later = λ stays. let h = first_has ((next w x).core.queue n) s later in
    asked_next w x n h.0 may (t, own) h.1 asked (λ u is. not_given (w.core.asked n) (w.core.queue n) t
    (sym (put_here w.core.owner n (given_to (w.core.asked n) (w.core.queue n)))
    ∙ subst (λ y. (next w y).core.owner n ≡ Taken t) is stays))

given_next : (w : Scene) (x : Step) (s t n : ℕ) → May w x → w.core.asked n ≡ true → IsFirst (w.core.queue n) s →
    (x ≡ performs (FastGive t n)) ⊎ (x ≡ performs (Give t n)) → (next w x).core.owner n ≡ Handed s
given_next w x s t n may asked first (inl is) = let can = subst (May w) is may in
    absurd (let z = sym can.possible.base.empty ∙ first.2 in cc)
given_next w x s t n may asked first (inr is) = subst (λ y. (next w y).core.owner n ≡ Handed s) (sym is)
    (put_here w.core.owner n (given_to (w.core.asked n) (w.core.queue n))
    ∙ given_first (w.core.asked n) (w.core.queue n) s asked first)

-- a lock that was handed to the first stays so while that is the first
handed_stays : (w : Scene) (x : Step) (s n : ℕ) → May w x → IsBase w.core → w.core.owner n ≡ Handed s →
    IsFirst ((next w x).core.queue n) s → (next w x).core.owner n ≡ Handed s
handed_stays w (performs e) s n may l own later = ⊎_elim
    (λ take. let h = first_has ((after w.core e).queue n) s later in
    absurd (left_gone (w.core.queue n) s ((l.queues.at n).once) h.0
    (subst (λ q. Has q h.0) (ap (λ y. (after w.core y).queue n) take
    ∙ put_here w.core.queue n (left (w.core.queue n) s)) h.1) h.2))
    (λ stays. stays)
    (handed_or_taken w.core e s n may.possible.base own)
handed_stays w _ s n may l own later = own

pub nobody_goes_past : NobodyGoesPast
nobody_goes_past scene step run i j s t n later = λ own asked first. ⊎_elim (λ a. inl a.0) (λ b. inr b)
    (holds_at (λ k. Waits (scene k).core s t n) i j later (inl (own, asked)) (λ k from below. let w = scene k in
    let x = step k in let may = run.may k in
    let then : IsFirst ((next w x).core.queue n) s =
    subst (λ (v : Scene). IsFirst (v.core.queue n) s) (run.goes_on k) (first (suc k) (omega arith) (omega arith)) in
    let back : Waits (next w x).core s t n → Waits (scene (suc k)).core s t n =
    subst (λ (v : Scene). Waits v.core s t n) (sym (run.goes_on k)) in
    ⊎_elim
    (λ a. back (⊎_elim
    (λ stays. inl (stays, still_asked_next w x s t n may a.0 a.1 then stays))
    (λ gone. inr (given_next w x s t n may a.1 (first k from (omega arith)) (given_by w x t n may a.0 gone)))
    (taken_or_not ((next w x).core.owner n) t)))
    (λ b. back (inr (handed_stays w x s n may (lawful_at scene step run k).base b then)))))
