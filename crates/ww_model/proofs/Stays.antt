-- What a possible event of another seat leaves alone.
use Rattle.std.proofs.Common.{◌≡◌, ◌≢◌, ◌↔◌, ◌+◌, ◌<◌, ⊎_elim, ℕ, suc, true, false, [], refl, sym, ap, ◌∙◌, subst, arith}
use mathlib.Core.Logic.{dite}
use native.Mathlib.Decide.{ℕ_discrete}
use Rattle.ww_queue.specs.declared.entry.Entry.{Entry}
use Rattle.ww_queue.specs.Queue.{Has, Stands, joined, left}
use Rattle.ww_queue.specs.Rules.{owed_signs}
use Rattle.ww_queue.proofs.Joins.{joined_has, joined_old}
use Rattle.ww_queue.proofs.Leaves.{left_has, left_others}
use Rattle.ww_model.specs.declared.state.Holder.TheVariants.{Nobody, Taken, Handed}
use Rattle.ww_model.specs.declared.event.Event.{Event}
use Rattle.ww_model.specs.declared.event.Event.TheVariants.{Begin, Clear, Fast, FastGive, Guard, Join, Sign, Take, Ask, Give, Die, Unguard, End, Leave, Cancel, Heed}
use Rattle.ww_model.specs.State.{State, waiter_of, word_of, owes, place_of}
use Rattle.ww_model.specs.Event.{BasePossible, Possible, after, actor, given_to, still_asked}
use Rattle.ww_model.specs.Lawful.{IsBase, IsLawful}
use Rattle.ww_model.specs.Alone.{NobodySigns, OthersAreLeftAlone, OthersAreSignedOnce, OthersAreCancelledOnce}
use Rattle.ww_model.proofs.Puts.{put_else, put_cases, put_like}
use Rattle.ww_model.proofs.Holders.{not_given}
use Rattle.ww_model.proofs.Leaving.{handed_or_taken}
use Rattle.ww_model.proofs.Meetings.{same_kind}
use Rattle.ww_model.proofs.Dues.{by_kind, wound_from, death_from, sign_for, sign_owed, sign_some}
use Rattle.ww_model.proofs.Words.{same_word, restamped, word_owes, none_owed}

-- two seats are inside the guards of two locks
apart : (guard : ℕ → ℕ) (s t n m : ℕ) → s ≢ t → guard n ≡ suc s → guard m ≡ suc t → m ≢ n
apart guard s t n m other mine his is = other (let z = ap guard is in omega arith)

-- ---- what no event changes

pub same_seats : (c : State) (e : Event) → (after c e).seats ≡ c.seats
same_seats c (Begin s) = refl
same_seats c _ = refl

pub same_locks : (c : State) (e : Event) → (after c e).locks ≡ c.locks
same_locks c (Begin s) = refl
same_locks c _ = refl

-- ---- what an event of another seat leaves

pub stamp_stays : (c : State) (e : Event) (t : ℕ) → actor e ≢ t → (after c e).stamp t ≡ c.stamp t
stamp_stays c (Begin s) t other = put_else c.stamp s (c.drawn + 1) t (λ i. other (sym i))
stamp_stays c (End s) t other = put_else c.stamp s 0 t (λ i. other (sym i))
stamp_stays c _ t other = refl

pub owner_stays : (c : State) (e : Event) (t : ℕ) → BasePossible c e → actor e ≢ t → (m : ℕ)
    → (c.owner m ≡ Taken t) ↔ ((after c e).owner m ≡ Taken t)
owner_stays c (Fast s n) t can other =
    put_like c.owner n (Taken s) (λ o. o ≡ Taken t) (λ i. let o = can.idle.free in absurd (cc))
    (λ i. absurd (other (cc)))
owner_stays c (FastGive s n) t can other =
    put_like c.owner n Nobody (λ o. o ≡ Taken t) (λ i. let o = can.owns in absurd (other (cc))) (λ i. absurd (cc))
owner_stays c (Take s n) t can other =
    put_like c.owner n (Taken s) (λ o. o ≡ Taken t) (λ i. ⊎_elim (λ o. absurd (cc)) (λ o. absurd (cc)) can.free)
    (λ i. absurd (other (cc)))
owner_stays c (Give s n) t can other =
    put_like c.owner n (given_to (c.asked n) (c.queue n)) (λ o. o ≡ Taken t)
    (λ i. let o = can.owns in absurd (other (cc))) (λ i. absurd (not_given (c.asked n) (c.queue n) t i))
owner_stays c _ t can other = λ m. (λ h. h, λ h. h)

pub handed_stays : (c : State) (e : Event) (t : ℕ) → BasePossible c e → actor e ≢ t → (m : ℕ) → c.owner m ≡ Handed t
    → (after c e).owner m ≡ Handed t
handed_stays c e t can other m own = ⊎_elim (λ is. absurd (other (ap actor is))) (λ stays. stays) (handed_or_taken c e t m can own)

pub guard_stays : (c : State) (e : Event) (t : ℕ) → BasePossible c e → actor e ≢ t → (m : ℕ)
    → (c.guard m ≡ suc t) ↔ ((after c e).guard m ≡ suc t)
guard_stays c (Guard s n) t can other =
    put_like c.guard n (suc s) (λ g. g ≡ suc t) (λ i. let o = can.free in absurd (omega arith))
    (λ i. absurd (other (omega arith)))
guard_stays c (Unguard s n) t can other =
    put_like c.guard n 0 (λ g. g ≡ suc t) (λ i. let o = can.inside.guard in absurd (other (omega arith)))
    (λ i. absurd (omega arith))
guard_stays c _ t can other = λ m. (λ h. h, λ h. h)

-- the list without a seat has the entries of the others
left_like : (c : State) (s n t : ℕ) (x : Entry) → s ≢ t → x.seat ≡ t → (m : ℕ) → Has (c.queue m) x ↔ Has ((after c (Take s n)).queue m) x
left_like c s n t x other is = put_like c.queue n (left (c.queue n) s) (λ q. Has q x)
    (left_others (c.queue n) s x (λ i. other (sym i ∙ is))) (left_has (c.queue n) s x)

pub entry_stays : (c : State) (e : Event) (t : ℕ) → actor e ≢ t → (m : ℕ) (x : Entry) → x.seat ≡ t
    → Has (c.queue m) x ↔ Has ((after c e).queue m) x
entry_stays c (Join s n) t other m x is = let w = waiter_of c s in put_like c.queue n (joined (c.queue n) w) (λ q. Has q x)
    (joined_old (c.queue n) w x)
    (λ h. ⊎_elim (λ i. absurd (other (sym (ap (λ (y : Entry). y.seat) i) ∙ is))) (λ i. i) (joined_has (c.queue n) w x h)) m
entry_stays c (Take s n) t other m x is = left_like c s n t x other is m
entry_stays c (Die s n) t other m x is = left_like c s n t x other is m
entry_stays c (Leave s n) t other m x is = left_like c s n t x other is m
entry_stays c _ t other m x is = (λ h. h, λ h. h)

pub stands_stays : (c : State) (e : Event) (t : ℕ) → actor e ≢ t → (m : ℕ) → Stands (c.queue m) t ↔ Stands ((after c e).queue m) t
stands_stays c e t other m = (
  λ h. (h.0, (entry_stays c e t other m h.0 h.2).0 h.1, h.2),
  λ h. (h.0, (entry_stays c e t other m h.0 h.2).1 h.1, h.2),
)

-- ---- the lock that a seat is inside of

pub queue_stays : (c : State) (e : Event) (t m : ℕ) → BasePossible c e → actor e ≢ t → c.guard m ≡ suc t → (after c e).queue m ≡ c.queue m
queue_stays c (Join s n) t m can other in_m =
    put_else c.queue n (joined (c.queue n) (waiter_of c s)) m (apart c.guard s t n m other can.inside.guard in_m)
queue_stays c (Take s n) t m can other in_m = put_else c.queue n (left (c.queue n) s) m (apart c.guard s t n m other can.inside.guard in_m)
queue_stays c (Die s n) t m can other in_m = put_else c.queue n (left (c.queue n) s) m (apart c.guard s t n m other can.inside.guard in_m)
queue_stays c (Leave s n) t m can other in_m = put_else c.queue n (left (c.queue n) s) m (apart c.guard s t n m other can.inside.guard in_m)
queue_stays c _ t m can other in_m = refl

-- where somebody waits, the owner word stays
pub word_stays : (c : State) (e : Event) (t m : ℕ) → BasePossible c e → IsBase c → actor e ≢ t → c.guard m ≡ suc t
    → c.queue m ≢ [] → word_of (after c e) m ≡ word_of c m
word_stays c (Begin s) t m can l other in_m some =
    same_word c (after c (Begin s)) (c.owner m) (c.owner m) (c.asked m) (c.asked m) (c.queue m) (c.queue m)
    (restamped c (after c (Begin s)) s (c.drawn + 1) m l can.owns_none (can.away.queue m) refl) refl refl refl
word_stays c (End s) t m can l other in_m some =
    same_word c (after c (End s)) (c.owner m) (c.owner m) (c.asked m) (c.asked m) (c.queue m) (c.queue m)
    (restamped c (after c (End s)) s 0 m l can.owns_none (can.away.queue m) refl) refl refl refl
word_stays c (Fast s n) t m can l other in_m some = let d = after c (Fast s n) in
    same_word c d (d.owner m) (c.owner m) (c.asked m) (c.asked m) (c.queue m) (c.queue m)
    refl (put_else c.owner n (Taken s) m (λ is. some (ap c.queue is ∙ can.idle.empty))) refl refl
word_stays c (FastGive s n) t m can l other in_m some = let d = after c (FastGive s n) in
    same_word c d (d.owner m) (c.owner m) (c.asked m) (c.asked m) (c.queue m) (c.queue m)
    refl (put_else c.owner n Nobody m (λ is. some (ap c.queue is ∙ can.empty))) refl refl
word_stays c (Join s n) t m can l other in_m some = let d = after c (Join s n) in
    same_word c d (c.owner m) (c.owner m) (c.asked m) (c.asked m) (d.queue m) (c.queue m)
    refl refl refl (queue_stays c (Join s n) t m can other in_m)
word_stays c (Take s n) t m can l other in_m some = let d = after c (Take s n) in
    let far = apart c.guard s t n m other can.inside.guard in_m in
    same_word c d (d.owner m) (c.owner m) (d.asked m) (c.asked m) (d.queue m) (c.queue m)
    refl (put_else c.owner n (Taken s) m far) (put_else c.asked n false m far) (put_else c.queue n (left (c.queue n) s) m far)
word_stays c (Ask s n) t m can l other in_m some = let d = after c (Ask s n) in
    let far = apart c.guard s t n m other can.inside.guard in_m in
    same_word c d (c.owner m) (c.owner m) (d.asked m) (c.asked m) (c.queue m) (c.queue m) refl refl (put_else c.asked n true m far) refl
word_stays c (Give s n) t m can l other in_m some = let d = after c (Give s n) in
    let far = apart c.guard s t n m other can.inside.guard in_m in
    same_word c d (d.owner m) (c.owner m) (d.asked m) (c.asked m) (c.queue m) (c.queue m)
    refl (put_else c.owner n (given_to (c.asked n) (c.queue n)) m far) (put_else c.asked n false m far) refl
word_stays c (Die s n) t m can l other in_m some = let d = after c (Die s n) in
    let far = apart c.guard s t n m other can.inside.guard in_m in
    same_word c d (c.owner m) (c.owner m) (d.asked m) (c.asked m) (d.queue m) (c.queue m)
    refl refl (put_else c.asked n (still_asked (left (c.queue n) s) (c.asked n)) m far) (put_else c.queue n (left (c.queue n) s) m far)
word_stays c (Leave s n) t m can l other in_m some = let d = after c (Leave s n) in
    let far = apart c.guard s t n m other can.inside.guard in_m in
    same_word c d (c.owner m) (c.owner m) (d.asked m) (c.asked m) (d.queue m) (c.queue m)
    refl refl (put_else c.asked n (still_asked (left (c.queue n) s) (c.asked n)) m far) (put_else c.queue n (left (c.queue n) s) m far)
word_stays c _ t m can l other in_m some = refl

-- a seat that is owed a sign after the event was owed one before
pub owes_stays : (c : State) (e : Event) (t m u k : ℕ) → Possible c e → IsLawful c → actor e ≢ t → c.guard m ≡ suc t
    → Has (owes (after c e) t m) (u, k) → Has (owes c t m) (u, k)
owes_stays c e t m u k can l other in_m h = let d = after c e in let q = queue_stays c e t m can.base other in_m in
    let h' = subst (λ pairs. Has pairs (u, k)) (sym (word_owes d t m)) h in
    let some : c.queue m ≢ [] = λ none. none_owed d.kind (word_of d m) (d.queue m) t u k (q ∙ none) h' in
    let w = word_stays c e t m can.base l.base other in_m some in
    subst (λ pairs. Has pairs (u, k)) (word_owes c t m)
    (subst (λ kind. Has (owed_signs kind (word_of c m) (c.queue m) t) (u, k)) (same_kind c e)
    (subst (λ x. Has (owed_signs d.kind x (c.queue m) t) (u, k)) w (subst (λ x. Has (owed_signs d.kind (word_of d m) x t) (u, k)) q h')))

-- a seat that is owed a sign by another inside the guard can't clear its own
not_cleared : (c : State) (s t m k : ℕ) → Possible c (Clear s) → IsLawful c → s ≢ t → c.guard m ≡ suc t → Has (owes c t m) (s, k) → ⊥
not_cleared c s t m k can l other in_m h = by_kind c.kind ⊥
    (λ wounding. let w = wound_from c t m s k wounding h in ⊎_elim (λ a. a.1 m w.0) (λ a. let d = a.1.kind in absurd (cc)) can.signs)
    (λ dying. let w = death_from c t m s k dying h in ⊎_elim (λ a. a.0.queue m w.entry w.stands w.seat)
    (λ a. let at = l.base.guards.own_guard m a.0 w.entry w.stands (a.1.inside.guard ∙ ap suc (sym w.seat)) in
    apart c.guard s t a.0 m other a.1.inside.guard in_m at) can.signs)

pub signed_stays : (c : State) (e : Event) (t m u k : ℕ) → Possible c e → IsLawful c → actor e ≢ t
    → c.guard m ≡ suc t → Has (owes c t m) (u, k) → c.sign u ≢ 0 → (after c e).sign u ≢ 0
signed_stays c (Clear s) t m u k can l other in_m h some = put_cases c.sign s 0 u (λ x. x ≢ 0)
    (λ is. absurd (not_cleared c s t m k can l other in_m (subst (λ x. Has (owes c t m) (x, k)) is h))) (λ _. some)
signed_stays c (Sign s v) t m u k can l other in_m h some = put_cases c.sign v (sign_for c s v) u (λ x. x ≢ 0)
    (λ _. let z = sign_some c s v l.base can.signs.owed in λ is. omega arith) (λ _. some)
signed_stays c _ t m u k can l other in_m h some = some

not_signed : (c : State) (s t : ℕ) → Possible c (Sign s t) → IsLawful c → s ≢ t → NobodySigns c t → ⊥
not_signed c s t can l other safe = let n = place_of c s in let owed = sign_owed c s t can.signs.owed in by_kind c.kind ⊥
    (λ wounding. let w = wound_from c s n t (sign_for c s t) wounding owed in
    ⊎_elim (λ none. none n w.0) (λ x. let d = x.0 in absurd (cc)) safe)
    (λ dying. let w = death_from c s n t (sign_for c s t) dying owed in ⊎_elim
    (λ none. let own = (l.base.queues.at n).holds w.entry w.stands w.holds in none own.0 (own.1 ∙ ap Taken w.seat))
    (λ x. let at = l.base.guards.own_guard n x.1.0 w.entry w.stands (x.1.1 ∙ ap suc (sym w.seat)) in
    apart c.guard s t n x.1.0 other can.base.guard x.1.1 (sym at)) safe)

-- a sign that isn't 0 stays, and 0 does where nobody else can sign the seat
pub sign_stays : (c : State) (e : Event) (t k : ℕ) → Possible c e → IsLawful c → actor e ≢ t
    → (k ≡ 0 → NobodySigns c t) → c.sign t ≡ k → (after c e).sign t ≡ k
sign_stays c (Clear s) t k can l other safe is = put_else c.sign s 0 t (λ i. other (sym i)) ∙ is
sign_stays c (Sign s v) t k can l other safe is = put_cases c.sign v (sign_for c s v) t (λ x. x ≡ k)
    (λ same. absurd (not_signed c s t (subst (λ x. Possible c (Sign s x)) (sym same) can) l other
    (safe (let z = ap c.sign same in let y = can.signs.unsigned in omega arith)))) (λ _. is)
sign_stays c _ t k can l other safe is = is

-- ---- the laws

pub others_are_signed_once : OthersAreSignedOnce
others_are_signed_once c (Clear s) t can other changed = absurd (changed (put_else c.sign s 0 t (λ i. other (sym i))))
others_are_signed_once c (Sign s v) t can other changed = let is : t ≡ v =
    dite (ℕ_discrete t v) (λ is. is) (λ isnt. absurd (changed (put_else c.sign v (sign_for c s v) t isnt))) in
    (ap c.sign is ∙ can.signs.unsigned, ap (Sign s) (sym is))
others_are_signed_once c _ t can other changed = absurd (changed refl)

-- what a seat has heeded stays
pub heeded_stays : (c : State) (e : Event) (t : ℕ) → actor e ≢ t → (after c e).heeded t ≡ c.heeded t
heeded_stays c (Heed s n) t other = put_else c.heeded s (c.cancel s) t (λ i. other (sym i))
heeded_stays c (Leave s n) t other = put_else c.heeded s 0 t (λ i. other (sym i))
heeded_stays c _ t other = refl

-- a cancel that was set stays
pub cancel_stays : (c : State) (e : Event) (t : ℕ) → Possible c e → actor e ≢ t → 0 < c.cancel t → (after c e).cancel t ≡ c.cancel t
cancel_stays c (Cancel s v) t can other some =
    put_else c.cancel v (s + 1) t (λ is. let z = ap c.cancel is in let y = can.base.none in omega arith)
cancel_stays c (Heed s n) t can other some = put_else c.cancel s 0 t (λ i. other (sym i))
cancel_stays c _ t can other some = refl

pub others_are_cancelled_once : OthersAreCancelledOnce
others_are_cancelled_once c (Heed s n) t can other changed = absurd (changed (put_else c.cancel s 0 t (λ i. other (sym i))))
others_are_cancelled_once c (Cancel s v) t can other changed = let is : t ≡ v =
    dite (ℕ_discrete t v) (λ is. is) (λ isnt. absurd (changed (put_else c.cancel v (s + 1) t isnt))) in
    (ap c.cancel is ∙ can.base.none, ap (Cancel s) (sym is))
others_are_cancelled_once c _ t can other changed = absurd (changed refl)

pub others_are_left_alone : OthersAreLeftAlone
others_are_left_alone c e t l can other = record {
  stamp = stamp_stays c e t other;
  taken = owner_stays c e t can.base other;
  handed = handed_stays c e t can.base other;
  guard = guard_stays c e t can.base other;
  entry = entry_stays c e t other;
  inside = λ n in_n. record {
    queue = queue_stays c e t n can.base other in_n;
    word = word_stays c e t n can.base l.base other in_n;
    owed = λ v k. owes_stays c e t n v k can l other in_n;
    signed = λ v k. signed_stays c e t n v k can l other in_n;
  };
  signed = λ some. sign_stays c e t (c.sign t) can l other (λ none. absurd (omega arith)) refl;
  unsigned = λ safe. sign_stays c e t (c.sign t) can l other (λ _. safe) refl;
  cancelled = cancel_stays c e t can other;
  heeded = heeded_stays c e t other;
}
