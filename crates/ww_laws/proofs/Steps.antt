-- What one step of the scene changes.
use Rattle.std.proofs.Common.{◌≡◌, ◌≢◌, ◌⊎◌, inl, inr, ⊎_elim, ℕ, suc, ◌<◌, Bool, true, false, refl, sym, ap, ◌∙◌, subst, arith, List, [], ◌∷◌}
use mathlib.Core.Logic.{dite}
use native.Mathlib.Decide.{ℕ_discrete}
use Rattle.ww_queue.specs.declared.kind.Kind.TheVariants.{WoundWait}
use Rattle.ww_queue.specs.declared.entry.Entry.{Entry}
use Rattle.ww_queue.specs.Queue.{Has, Stands, joined, left}
use Rattle.ww_queue.proofs.Joins.{joined_old}
use Rattle.ww_queue.proofs.Leaves.{left_others}
use Rattle.ww_model.specs.declared.state.Holder.{Holder}
use Rattle.ww_model.specs.declared.state.Holder.TheVariants.{Nobody, Taken, Handed}
use Rattle.ww_model.specs.declared.event.Event.{Event}
use Rattle.ww_model.specs.declared.event.Event.TheVariants.{Clear, Fast, FastGive, Guard, Join, Sign, Take, Give, Die, Unguard, Leave, Ask}
use Rattle.ww_model.specs.State.{State, put, waiter_of}
use Rattle.ww_model.specs.Event.{BasePossible, Possible, after, actor, given_to, still_asked}
use Rattle.ww_model.specs.Lawful.{IsBase}
use Rattle.ww_model.proofs.Puts.{put_else, put_cases, put_was, puts_cases}
use Rattle.ww_model.proofs.Leaving.{taken_leaves_by_giving, handed_or_taken}
use Rattle.ww_model.proofs.Dues.{sign_for}
use Rattle.ww_model.proofs.Meetings.{same_kind}
use Rattle.ww_model.proofs.Stays.{same_seats, same_locks}
use Rattle.ww_laws.specs.Scene.{Scene, Step, performs, leaves_to_sleep, finds_no_sign, wakes, rises, May, next}
use Rattle.ww_laws.specs.GoingOn.{EndsWait}

-- ---- whether a step ends a wait

pub ends_or_not : (s n : ℕ) (x : Step) → EndsWait s n x ⊎ (EndsWait s n x → ⊥)
ends_or_not s n (performs (Take t m)) = dite (ℕ_discrete t s)
    (λ is. dite (ℕ_discrete m n) (λ at. inl (inl (cc)))
    (λ not. inr (⊎_elim (λ h. not (let z : m ≡ n = cc in z)) (⊎_elim (λ h. cc) (λ h. cc)))))
    (λ not. inr (⊎_elim (λ h. not (let z : t ≡ s = cc in z)) (⊎_elim (λ h. cc) (λ h. cc))))
ends_or_not s n (performs (Die t m)) = dite (ℕ_discrete t s)
    (λ is. dite (ℕ_discrete m n) (λ at. inl (inr (inl (cc))))
    (λ not. inr (⊎_elim (λ h. cc) (⊎_elim (λ h. not (let z : m ≡ n = cc in z)) (λ h. cc)))))
    (λ not. inr (⊎_elim (λ h. cc) (⊎_elim (λ h. not (let z : t ≡ s = cc in z)) (λ h. cc))))
ends_or_not s n (performs (Leave t m)) = dite (ℕ_discrete t s)
    (λ is. dite (ℕ_discrete m n) (λ at. inl (inr (inr (cc))))
    (λ not. inr (⊎_elim (λ h. cc) (⊎_elim (λ h. cc) (λ h. not (let z : m ≡ n = cc in z))))))
    (λ not. inr (⊎_elim (λ h. cc) (⊎_elim (λ h. cc) (λ h. not (let z : t ≡ s = cc in z)))))
ends_or_not s n _ = inr (⊎_elim (λ h. cc) (⊎_elim (λ h. cc) (λ h. cc)))

-- ---- the list of a lock stays, is joined, or is left by whose wait ends

without : (P : List Entry → Type 0) (c : State) (t m n : ℕ) → P (c.queue n) → (m ≡ n → P (left (c.queue n) t)) →
    P (put c.queue m (left (c.queue m) t) n)
without P c t m n stays leaves = put_cases c.queue m (left (c.queue m) t) n P
    (λ is. subst (λ k. P (left (c.queue k) t)) is (leaves (sym is))) (λ _. stays)

-- what holds of the list, of the list once a seat has joined it, and once a seat has left it, holds of it next
pub list_next : (P : List Entry → Type 0) (w : Scene) (x : Step) (n : ℕ) → P (w.core.queue n) →
    ((t : ℕ) → x ≡ performs (Join t n) → P (joined (w.core.queue n) (waiter_of w.core t))) →
    ((t : ℕ) → EndsWait t n x → P (left (w.core.queue n) t)) → P ((next w x).core.queue n)
list_next P w (performs (Join t m)) n stays joins leaves = let c = w.core in
    put_cases c.queue m (joined (c.queue m) (waiter_of c t)) n P
    (λ is. subst (λ k. P (joined (c.queue k) (waiter_of c t))) is (joins t (ap (λ k. performs (Join t k)) (sym is))))
    (λ _. stays)
list_next P w (performs (Take t m)) n stays joins leaves =
    without P w.core t m n stays (λ is. leaves t (inl (ap (λ k. performs (Take t k)) is)))
list_next P w (performs (Die t m)) n stays joins leaves =
    without P w.core t m n stays (λ is. leaves t (inr (inl (ap (λ k. performs (Die t k)) is))))
list_next P w (performs (Leave t m)) n stays joins leaves =
    without P w.core t m n stays (λ is. leaves t (inr (inr (ap (λ k. performs (Leave t k)) is))))
list_next P w _ n stays joins leaves = stays

-- whose wait goes on is another than whose wait ends
pub not_whose : (s t n : ℕ) (x : Step) → (EndsWait s n x → ⊥) → EndsWait t n x → s ≢ t
not_whose s t n x on ends own = on (subst (λ y. EndsWait y n x) (sym own) ends)

-- a waiter stands where it stands until its wait ends
pub entry_next : (w : Scene) (x : Step) (e : Entry) (n : ℕ) → (EndsWait e.seat n x → ⊥) → Has (w.core.queue n) e →
    Has ((next w x).core.queue n) e
entry_next w x e n on h = let q = w.core.queue n in list_next (λ l. Has l e) w x n h
    (λ t _. joined_old q (waiter_of w.core t) e h) (λ t ends. left_others q t e (not_whose e.seat t n x on ends) h)

-- the wait of a seat ends inside the guard
pub ends_inside : (w : Scene) (x : Step) (s n : ℕ) → May w x → EndsWait s n x → w.core.guard n ≡ suc s
ends_inside w x s n may (inl is) = let can = subst (May w) is may in can.possible.base.inside.guard
ends_inside w x s n may (inr (inl is)) = let can = subst (May w) is may in can.possible.base.inside.guard
ends_inside w x s n may (inr (inr is)) = let can = subst (May w) is may in can.possible.base.inside.guard

-- ---- a step is an event of the core, or leaves the core as it is

-- what holds of the core after each event that is possible, if it held before, holds after each step
pub by_event : (P : State → Type 0) (w : Scene) (x : Step) → May w x → P w.core →
    ((e : Event) → (x ≡ performs e) ⊎ ((s : ℕ) × (n : ℕ) × (heeds : Bool) × (x ≡ leaves_to_sleep s n heeds) ×
    (e ≡ Unguard s n)) →
    Possible w.core e → P (after w.core e)) → P (next w x).core
by_event P w (performs e) may before on = on e (inl refl) may.possible
by_event P w (leaves_to_sleep s n heeds) may before on = on (Unguard s n) (inr (s, n, heeds, refl, refl)) may.possible
by_event P w _ may before on = before

pub kind_next : (w : Scene) (x : Step) → May w x → (next w x).core.kind ≡ w.core.kind
kind_next w x may = by_event (λ d. d.kind ≡ w.core.kind) w x may refl (λ e _ _. same_kind w.core e)

-- ---- guards

left_by : (c : State) (e : Event) (s n : ℕ) → BasePossible c e → c.guard n ≡ suc s → (after c e).guard n ≢ suc s →
    e ≡ Unguard s n
left_by c (Guard t m) s n can inside out = absurd (out (put_else c.guard m (suc t) n
    (λ is. let z = ap c.guard is in let f = can.free in omega arith) ∙ inside))
left_by c (Unguard t m) s n can inside out = dite (ℕ_discrete n m)
    (λ is. let z = ap c.guard is in let f = can.inside.guard in let same : t ≡ s = omega arith in cc)
    (λ isnt. absurd (out (put_else c.guard m 0 n isnt ∙ inside)))
left_by c _ s n can inside out = absurd (out inside)

-- a seat leaves a guard by its own Unguard, or in order to sleep
pub leaves_by : (w : Scene) (x : Step) (s n : ℕ) → May w x → w.core.guard n ≡ suc s → (next w x).core.guard n ≢ suc s →
    (x ≡ performs (Unguard s n)) ⊎ ((heeds : Bool) × (x ≡ leaves_to_sleep s n heeds))
leaves_by w (performs e) s n may inside out = inl (ap performs (left_by w.core e s n may.possible.base inside out))
leaves_by w (leaves_to_sleep t m heeds) s n may inside out =
    let same = left_by w.core (Unguard t m) s n may.possible.base inside out in inr (heeds, cc)
leaves_by w _ s n may inside out = absurd (out inside)

entered_by : (c : State) (e : Event) (s n : ℕ) → c.guard n ≢ suc s → (after c e).guard n ≡ suc s → e ≡ Guard s n
entered_by c (Guard t m) s n out inside =
    ⊎_elim (λ a. let is = a.0 in let z = a.1 in let same : t ≡ s = omega arith in cc)
    (λ a. absurd (out a.1)) (put_was c.guard m (suc t) n (λ g. g ≡ suc s) inside)
entered_by c (Unguard t m) s n out inside = ⊎_elim (λ a. let z = a.1 in absurd (omega arith))
    (λ a. absurd (out a.1)) (put_was c.guard m 0 n (λ g. g ≡ suc s) inside)
entered_by c _ s n out inside = absurd (out inside)

-- it comes inside by its own Guard
pub enters_by : (w : Scene) (x : Step) (s n : ℕ) → w.core.guard n ≢ suc s → (next w x).core.guard n ≡ suc s →
    x ≡ performs (Guard s n)
enters_by w (performs e) s n out inside = ap performs (entered_by w.core e s n out inside)
enters_by w (leaves_to_sleep t m heeds) s n out inside = let z = entered_by w.core (Unguard t m) s n out inside in
    absurd (cc)
enters_by w _ s n out inside = absurd (out inside)

-- ---- tokens

-- only who rises loses its token
pub token_lost_by : (w : Scene) (x : Step) (s : ℕ) → w.token s ≡ true → (next w x).token s ≢ true → x ≡ rises s
token_lost_by w (wakes t v) s token gone =
    absurd (gone (put_cases w.token v true s (λ b. b ≡ true) (λ _. refl) (λ _. token)))
token_lost_by w (rises t) s token gone = dite (ℕ_discrete s t) (λ is. ap rises (sym is))
    (λ isnt. absurd (gone (put_else w.token t false s isnt ∙ token)))
token_lost_by w _ s token gone = absurd (gone token)

-- ---- looks at the sign

-- Where the seat has a sign, no step lets it find none.
pub not_found : (w : Scene) (x : Step) (s : ℕ) → May w x → 0 < w.core.sign s → w.found_no_sign s ≡ false →
    (next w x).found_no_sign s ≡ false
not_found w (performs e) s may signed none =
    put_cases w.found_no_sign (actor e) false s (λ b. b ≡ false) (λ _. refl) (λ _. none)
not_found w (finds_no_sign t) s may signed none =
    put_else w.found_no_sign t true s (λ is. let z = ap w.core.sign is in let y = may.1 in omega arith) ∙ none
not_found w (rises t) s may signed none = put_cases w.found_no_sign t false s (λ b. b ≡ false) (λ _. refl) (λ _. none)
not_found w _ s may signed none = none

-- In Wound-Wait a waiter keeps its sign.
signed_after : (c : State) (e : Event) (s n : ℕ) → Possible c e → c.kind ≡ WoundWait → Stands (c.queue n) s →
    0 < c.sign s → 0 < (after c e).sign s
signed_after c (Clear t) s n can wounding h signed = put_cases c.sign t 0 s (λ k. 0 < k)
    (λ is. absurd (⊎_elim (λ a. a.0.queue n h.0 h.1 (h.2 ∙ is)) (λ a. let d = a.1.kind in cc) can.signs)) (λ _. signed)
signed_after c (Sign t v) s n can wounding h signed = put_cases c.sign v (sign_for c t v) s (λ k. 0 < k)
    (λ is. let z = ap c.sign is in let y = can.signs.unsigned in absurd (omega arith)) (λ _. signed)
signed_after c _ s n can wounding h signed = signed

pub signed_next : (w : Scene) (x : Step) (s n : ℕ) → May w x → w.core.kind ≡ WoundWait → Stands (w.core.queue n) s →
    0 < w.core.sign s →
    0 < (next w x).core.sign s
signed_next w x s n may wounding h signed = by_event (λ d. 0 < d.sign s) w x may signed
    (λ e _ can. signed_after w.core e s n can wounding h signed)

-- ---- owners

pub taken_or_not : (o : Holder) (t : ℕ) → (o ≡ Taken t) ⊎ (o ≢ Taken t)
taken_or_not Nobody t = inr (λ z. cc)
taken_or_not (Handed u) t = inr (λ z. cc)
taken_or_not (Taken u) t = dite (ℕ_discrete u t) (λ is. inl (ap Taken is))
    (λ isnt. inr (λ z. isnt (let y : u ≡ t = cc in y)))

-- who has taken a lock and stands in a list releases nothing
no_release : (c : State) (e : Event) (t n m : ℕ) → IsBase c → BasePossible c e → c.owner n ≡ Taken t →
    Stands (c.queue m) t →
    (e ≡ FastGive t n) ⊎ (e ≡ Give t n) → ⊥
no_release c e t n m l can own h (inl is) = let give = subst (BasePossible c) is can in give.away.queue m h.0 h.1 h.2
no_release c e t n m l can own h (inr is) = let give = subst (BasePossible c) is can in
    let at : m ≡ n = l.guards.own_guard m n h.0 h.1 (give.inside.guard ∙ ap suc (sym h.2)) in
    (l.owners.at n).taken_stands_not t own h.0 (subst (λ k. Has (c.queue k) h.0) at h.1) h.2

-- so it keeps the lock
taken_after : (c : State) (e : Event) (t n m : ℕ) → IsBase c → BasePossible c e → c.owner n ≡ Taken t →
    Stands (c.queue m) t →
    (after c e).owner n ≡ Taken t
taken_after c e t n m l can own h = ⊎_elim (λ stays. stays)
    (λ gone. absurd (no_release c e t n m l can own h (taken_leaves_by_giving c e t n can own gone)))
    (taken_or_not ((after c e).owner n) t)

pub taken_next : (w : Scene) (x : Step) (t n m : ℕ) → May w x → IsBase w.core → w.core.owner n ≡ Taken t →
    Stands (w.core.queue m) t →
    (next w x).core.owner n ≡ Taken t
taken_next w x t n m may l own h = by_event (λ d. d.owner n ≡ Taken t) w x may own
    (λ e _ can. taken_after w.core e t n m l can.base own h)

-- a lock that was handed to a seat stays so until the seat takes it
pub handed_next : (w : Scene) (x : Step) (s n : ℕ) → May w x → w.core.owner n ≡ Handed s → (EndsWait s n x → ⊥) →
    (next w x).core.owner n ≡ Handed s
handed_next w x s n may own on = by_event (λ d. d.owner n ≡ Handed s) w x may own
    (λ e how can. ⊎_elim
    (λ take. absurd (⊎_elim (λ is. on (inl (is ∙ ap performs take))) (λ a. let z = a.4 in cc) how)) (λ stays. stays)
    (handed_or_taken w.core e s n can.base own))

-- somebody takes a free lock, or it stays free
pub taken_or_free : (w : Scene) (x : Step) (n : ℕ) → May w x → w.core.owner n ≡ Nobody →
    ((u : ℕ) × ((x ≡ performs (Fast u n)) ⊎ (x ≡ performs (Take u n)))) ⊎ ((next w x).core.owner n ≡ Nobody)
taken_or_free w (performs (Fast u m)) n may own = dite (ℕ_discrete n m)
    (λ is. inl (u, inl (ap (λ k. performs (Fast u k)) (sym is))))
    (λ isnt. inr (put_else w.core.owner m (Taken u) n isnt ∙ own))
taken_or_free w (performs (Take u m)) n may own = dite (ℕ_discrete n m)
    (λ is. inl (u, inr (ap (λ k. performs (Take u k)) (sym is))))
    (λ isnt. inr (put_else w.core.owner m (Taken u) n isnt ∙ own))
taken_or_free w (performs (FastGive u m)) n may own =
    inr (put_cases w.core.owner m Nobody n (λ o. o ≡ Nobody) (λ _. refl) (λ _. own))
taken_or_free w (performs (Give u m)) n may own = let c = w.core in
    inr (put_else c.owner m (given_to (c.asked m) (c.queue m)) n
    (λ is. let z = ap c.owner is in let y = may.possible.base.owns in cc) ∙ own)
taken_or_free w _ n may own = inr own

-- one that somebody waits for is taken only inside its guard
pub free_next : (w : Scene) (x : Step) (n : ℕ) (e : Entry) → May w x → w.core.owner n ≡ Nobody →
    Has (w.core.queue n) e → ((u : ℕ) × (x ≡ performs (Take u n))) ⊎ ((next w x).core.owner n ≡ Nobody)
free_next w x n e may own h = ⊎_elim
    (λ taken. ⊎_elim
    (λ fast. let can = subst (May w) fast may in absurd (subst (λ q. Has q e) can.possible.base.idle.empty h))
    (λ take. inl (taken.0, take)) taken.1)
    inr (taken_or_free w x n may own)

-- a taken lock that was asked for stays so while it isn't released, and a waiter stands in the list
still : (q : List Entry) (b : Bool) (x : Entry) → Has q x → still_asked q b ≡ b
still [] b x h = absurd h
still (y ∷ ys) b x h = refl

still_then : (c : State) (s m n : ℕ) (e : Entry) → Has (put c.queue m (left (c.queue m) s) n) e → c.asked n ≡ true →
    put c.asked m (still_asked (left (c.queue m) s) (c.asked m)) n ≡ true
still_then c s m n e = puts_cases c.queue c.asked m (left (c.queue m) s)
    (still_asked (left (c.queue m) s) (c.asked m)) n (λ q b. Has q e → c.asked n ≡ true → b ≡ true)
    (λ is there asked. still (left (c.queue m) s) (c.asked m) e there ∙ ap c.asked (sym is) ∙ asked)
    (λ _ _ asked. asked)

pub asked_next : (w : Scene) (x : Step) (n : ℕ) (e : Entry) → May w x → ((b : ℕ) × (w.core.owner n ≡ Taken b)) →
    Has ((next w x).core.queue n) e → w.core.asked n ≡ true → ((s : ℕ) → x ≢ performs (Give s n)) →
    (next w x).core.asked n ≡ true
asked_next w (performs (Take s m)) n e may own there asked keeps = put_else w.core.asked m false n
    (λ is. let o = ap w.core.owner is in let z = own.1 in
    ⊎_elim (λ none. let y : ⊥ = cc in y) (λ other. let y : ⊥ = cc in y) may.possible.base.free) ∙ asked
asked_next w (performs (Ask s m)) n e may own there asked keeps =
    put_cases w.core.asked m true n (λ y. y ≡ true) (λ _. refl) (λ _. asked)
asked_next w (performs (Give s m)) n e may own there asked keeps = put_else w.core.asked m false n
    (λ is. keeps s (ap (λ k. performs (Give s k)) (sym is))) ∙ asked
asked_next w (performs (Die s m)) n e may own there asked keeps = still_then w.core s m n e there asked
asked_next w (performs (Leave s m)) n e may own there asked keeps = still_then w.core s m n e there asked
asked_next w _ n e may own there asked keeps = asked

-- who has taken a lock has it no more only since it released it
pub given_by : (w : Scene) (x : Step) (s n : ℕ) → May w x → w.core.owner n ≡ Taken s →
    (next w x).core.owner n ≢ Taken s →
    (x ≡ performs (FastGive s n)) ⊎ (x ≡ performs (Give s n))
given_by w (performs e) s n may own gone = ⊎_elim (λ is. inl (ap performs is)) (λ is. inr (ap performs is))
    (taken_leaves_by_giving w.core e s n may.possible.base own gone)
given_by w _ s n may own gone = absurd (gone own)

pub seats_next : (w : Scene) (x : Step) → May w x → (next w x).core.seats ≡ w.core.seats
seats_next w x may = by_event (λ d. d.seats ≡ w.core.seats) w x may refl (λ e _ _. same_seats w.core e)

pub locks_next : (w : Scene) (x : Step) → May w x → (next w x).core.locks ≡ w.core.locks
locks_next w x may = by_event (λ d. d.locks ≡ w.core.locks) w x may refl (λ e _ _. same_locks w.core e)
