-- Of a reached state: who stands in a wait list, owns a lock or is owed a sign is one of the seats, and there is room
-- for each.
use Rattle.std.proofs.Common.{ℕ, suc, zero, ◌≡◌, ◌≢◌, ◌<◌, ◌≤◌, ◌==◌, ◌⊎◌, ⊎_elim, Bool, true, length, IsSome, sym, ap, ◌∙◌, subst, arith, true≢false}
use Rattle.ww_queue.specs.Queue.{StandsNot, IsNewStamp}
use Rattle.ww_queue.proofs.Outcomes.{by_test, same_number}
use Rattle.ww_queue.proofs.Rooms.{room_for}
use Rattle.ww_model.specs.declared.state.Holder.TheVariants.{Nobody, Taken, Handed}
use Rattle.ww_model.specs.declared.event.Event.{Event}
use Rattle.ww_model.specs.declared.event.Event.TheVariants.{Begin, Clear, Fast, FastGive, Take, Give}
use Rattle.ww_model.specs.State.{State, Inside, owes, last_below, place_of}
use Rattle.ww_model.specs.Event.{Possible, BasePossible, after, given_to, owed_to}
use Rattle.ww_model.specs.Run.{Reached, at_start, further}
use Rattle.ww_model.specs.Alone.{StampsAreFew}
use Rattle.ww_model.specs.Laws.{OfLawful, PlaceIsTheGuard, OfReached}
use Rattle.ww_model.proofs.Outcomes.{number_same}
use Rattle.ww_model.proofs.Puts.{put_cases}
use Rattle.ww_model.proofs.Options.{some_of}
use Rattle.ww_model.proofs.Dues.{by_kind, wound_from, death_from, owed_from}
use Rattle.ww_model.proofs.Holders.{not_given}
use Rattle.ww_model.proofs.Queues.{is_new_stamp}
use Rattle.ww_model.proofs.Leaving.{waiters_are_seats}
use Rattle.ww_model.proofs.Kept.{reached_is_lawful}

-- ---- owners

TakersAreSeats : State → Type 0
TakersAreSeats c = (n t : ℕ) → c.owner n ≡ Taken t → t < c.seats

took : (s t : ℕ) → Taken s ≡ Taken t → s ≡ t
took s t e = cc

keeps_takers : (c : State) (e : Event) → BasePossible c e → TakersAreSeats c → TakersAreSeats (after c e)
unfolding TakersAreSeats
keeps_takers c (Fast s n) can old m t = put_cases c.owner n (Taken s) m (λ h. h ≡ Taken t → t < c.seats)
    (λ _ e. subst (λ (x : ℕ). x < c.seats) (took s t e) can.away.seat) (λ _. old m t)
keeps_takers c (FastGive s n) can old m t =
    put_cases c.owner n Nobody m (λ h. h ≡ Taken t → t < c.seats) (λ _ e. absurd (cc)) (λ _. old m t)
keeps_takers c (Take s n) can old m t = put_cases c.owner n (Taken s) m (λ h. h ≡ Taken t → t < c.seats)
    (λ _ e. subst (λ (x : ℕ). x < c.seats) (took s t e) can.inside.seat) (λ _. old m t)
keeps_takers c (Give s n) can old m t = put_cases c.owner n (given_to (c.asked n) (c.queue n)) m (λ h. h ≡ Taken t → t < c.seats)
    (λ _ e. absurd (not_given (c.asked n) (c.queue n) t e)) (λ _. old m t)
keeps_takers c _ can old m t = old m t

takers : (c : State) → Reached c → TakersAreSeats c
unfolding TakersAreSeats
takers _ (at_start kind locks seats) n t = λ e. absurd (cc)
takers _ (further c e run can) n t = keeps_takers c e can.base (takers c run) n t

pub takers_are_seats : (c : State) → Reached c → (n t : ℕ) → c.owner n ≡ Taken t → t < c.seats
unfolding TakersAreSeats
takers_are_seats c run = takers c run

-- whoever owns a lock, taken or handed, is one of the seats
pub owners_are_seats : (c : State) → Reached c → (n s : ℕ) → (c.owner n ≡ Taken s) ⊎ (c.owner n ≡ Handed s) → s < c.seats
owners_are_seats c run n s = ⊎_elim (takers_are_seats c run n s)
    (λ handed. let there = ((reached_is_lawful c run).base.owners.at n).handed_stands s handed in
    subst (λ (x : ℕ). x < c.seats) there.2 (waiters_are_seats c run n there.0 there.1))

-- ---- stamps

keeps_few : (c : State) (e : Event) → BasePossible c e → StampsAreFew c → StampsAreFew (after c e)
keeps_few c (Begin s) can few = let left = can.stamps_left in omega arith
keeps_few c _ can few = few

pub few_stamps : OfReached StampsAreFew
few_stamps _ (at_start kind locks seats) = omega arith
few_stamps _ (further c e run can) = keeps_few c e can.base (few_stamps c run)

-- ---- room for each

pub has_room : (c : State) → Reached c → c.seats ≤ 16 → (n s : ℕ) → s < c.seats → StandsNot (c.queue n) s → length (c.queue n) < 16
has_room c run sixteen n s seat new =
    let room = room_for c.seats (c.queue n) s ((reached_is_lawful c run).base.queues.at n).once
    (waiters_are_seats c run n) new seat in omega arith

pub new_stamp : (c : State) → Reached c → (n s : ℕ) → StandsNot (c.queue n) s → IsNewStamp (c.queue n) (c.stamp s)
new_stamp c run n s new = let base = (reached_is_lawful c run).base in
    is_new_stamp c.drawn c.stamp c.owner (c.queue n) s base.stamps (base.queues.at n) new

-- ---- which seat is owed a sign

pub owed_seat : (c : State) → Reached c → (n u v : ℕ) → IsSome (owed_to v (owes c u n)) → v < c.seats
owed_seat c run n u v some = let k = some_of (owed_to v (owes c u n)) some in
    let owed = owed_from v (owes c u n) k.0 k.1 in by_kind c.kind (v < c.seats)
    (λ wounding. takers_are_seats c run n v (wound_from c u n v k.0 wounding owed).0)
    (λ dying. let d = death_from c u n v k.0 dying owed in
    subst (λ (x : ℕ). x < c.seats) d.seat (waiters_are_seats c run n d.entry d.stands))

-- ---- others

pub cleared_seat : (c : State) (s : ℕ) → Possible c (Clear s) → s < c.seats
cleared_seat c s can = ⊎_elim (λ away. away.0.seat) (λ lives. lives.1.inside.seat) can.signs

last_found : (k : ℕ) (test : ℕ → Bool) (n : ℕ) → n < k → test n ≡ true → ((m : ℕ) → test m ≡ true → m ≡ n) → last_below k test ≡ n
last_found zero test n below is only = absurd (omega arith)
last_found (suc k) test n below is only = by_test (test k) k (last_below k test) (λ r. r ≡ n)
    (λ here. only k here)
    (λ other. last_found k test n (let apart : n ≢ k = λ e. true≢false (sym is ∙ ap test e ∙ other) in omega arith) is only)

-- the guard that a seat is inside of is the one in which it is found
pub lawful_place : OfLawful PlaceIsTheGuard
lawful_place c lawful s n inside = last_found c.locks (λ m. c.guard m == suc s) n inside.lock (number_same (c.guard n) (suc s) inside.guard)
    (λ m is. lawful.base.guards.one_guard s m n (same_number (c.guard m) (suc s) is) inside.guard)

pub place_is : (c : State) → Reached c → (s n : ℕ) → Inside c s n → place_of c s ≡ n
place_is c run = lawful_place c (reached_is_lawful c run)
