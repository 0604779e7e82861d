-- How an owner leaves a lock, how a condemned seat dies, and that the wait lists ascend.
use Rattle.std.proofs.Common.{◌≡◌, ◌≢◌, ◌⊎◌, inl, inr, ⊎_elim, ℕ, suc, ◌<◌, Bool, true, false, List, [], ◌∷◌, refl, sym, ap, ◌∙◌, arith}
use Rattle.std.specs.Prelude.{unwrap_or}
use mathlib.Core.Logic.{dite}
use native.Mathlib.Decide.{ℕ_discrete, dec_le}
use Rattle.ww_queue.specs.declared.entry.Entry.{Entry}
use Rattle.ww_queue.specs.Queue.{Has, Stands, joined}
use Rattle.ww_queue.proofs.Joins.{joined_has}
use Rattle.ww_model.specs.declared.state.Holder.{Holder}
use Rattle.ww_model.specs.declared.state.Holder.TheVariants.{Nobody, Taken, Handed}
use Rattle.ww_model.specs.declared.event.Event.{Event}
use Rattle.ww_model.specs.declared.event.Event.TheVariants.{Fast, FastGive, Join, Take, Give, Die, Leave}
use Rattle.ww_model.specs.declared.event.Answer.TheVariants as told
use Rattle.ww_model.specs.State.{State, put, HasOther, waiter_of}
use Rattle.ww_model.specs.Event.{given_to, giving, BasePossible, after}
use Rattle.ww_model.specs.Lawful.{IsBase}
use Rattle.ww_model.specs.Run.{at_start, further}
use Rattle.ww_model.specs.Alone.{TakenLeavesByGiving, HandedLeavesByTaking}
use Rattle.ww_model.specs.Laws.{OnlyTheFirstAsks, HandedToTheFirst, OfLawful, OfReached, QueuesAscend, WaitersAreSeats, CondemnedCanDie}
use Rattle.ww_model.specs.Snapshot.{IsFirst}
use Rattle.ww_model.proofs.Puts.{put_here, put_else, put_cases}
use Rattle.ww_model.proofs.Departures.{stood}
use Rattle.ww_model.proofs.Kept.{reached_is_lawful}

-- an owner that has taken one lock stays where another changes, or the same one by no such event
pub stays_taken : (c : State) (n m s : ℕ) (o : Holder) → (m ≡ n → ⊥) → c.owner m ≡ Taken s → put c.owner n o m ≢ Taken s → ⊥
stays_taken c n m s o other own gone = gone (put_else c.owner n o m other ∙ own)

pub taken_leaves_by_giving : TakenLeavesByGiving
taken_leaves_by_giving c (Fast u m) s n can own gone =
    absurd (stays_taken c m n s (Taken u) (λ is. let z = ap c.owner is in let y = can.idle.free in cc) own gone)
taken_leaves_by_giving c (Take u m) s n can own gone = absurd (stays_taken c m n s (Taken u)
    (λ is. let z = ap c.owner is in ⊎_elim (λ y. let w : ⊥ = cc in w) (λ y. let w : ⊥ = cc in w) can.free) own gone)
taken_leaves_by_giving c (FastGive u m) s n can own gone = dite (ℕ_discrete n m)
    (λ is. let z = ap c.owner is in let y = can.owns in let same : u ≡ s = cc in inl (cc))
    (λ isnt. absurd (stays_taken c m n s Nobody isnt own gone))
taken_leaves_by_giving c (Give u m) s n can own gone = dite (ℕ_discrete n m)
    (λ is. let z = ap c.owner is in let y = can.owns in let same : u ≡ s = cc in inr (cc))
    (λ isnt. absurd (stays_taken c m n s (given_to (c.asked m) (c.queue m)) isnt own gone))
taken_leaves_by_giving c _ s n can own gone = absurd (gone own)

-- a handed lock is taken by its seat, or stays handed
pub handed_or_taken : (c : State) (e : Event) (s n : ℕ) → BasePossible c e → c.owner n ≡ Handed s → (e ≡ Take s n)
    ⊎ ((after c e).owner n ≡ Handed s)
handed_or_taken c (Fast u m) s n can own =
    inr (put_else c.owner m (Taken u) n (λ is. let z = ap c.owner is in let y = can.idle.free in cc) ∙ own)
handed_or_taken c (FastGive u m) s n can own =
    inr (put_else c.owner m Nobody n (λ is. let z = ap c.owner is in let y = can.owns in cc) ∙ own)
handed_or_taken c (Give u m) s n can own =
    inr (put_else c.owner m (given_to (c.asked m) (c.queue m)) n
    (λ is. let z = ap c.owner is in let y = can.owns in cc) ∙ own)
handed_or_taken c (Take u m) s n can own = dite (ℕ_discrete n m)
    (λ is. let z = ap c.owner is in ⊎_elim (λ y. absurd (cc)) (λ y. let same : u ≡ s = cc in inl (cc)) can.free)
    (λ isnt. inr (put_else c.owner m (Taken u) n isnt ∙ own))
handed_or_taken c _ s n can own = inr own

pub handed_leaves_by_taking : HandedLeavesByTaking
handed_leaves_by_taking c e s n can own gone = ⊎_elim (λ is. is) (λ stays. absurd (gone stays)) (handed_or_taken c e s n can own)

-- ---- handing over

handed_first : (b : Bool) (q : List Entry) (t : ℕ) → giving (given_to b q) ≡ told.Handed t → IsFirst q t × (given_to b q ≡ Handed t)
handed_first true [] t is = absurd (cc)
handed_first true (e ∷ es) t is = let same : e.seat ≡ t = cc in ((e, es, refl, same), ap Handed same)
handed_first false q t is = absurd (cc)

pub handed_to_the_first : HandedToTheFirst
handed_to_the_first c s n t can is = let first = handed_first (c.asked n) (c.queue n) t is in
    (first.0, put_here c.owner n (given_to (c.asked n) (c.queue n)) ∙ first.1)

pub only_the_first_asks : OnlyTheFirstAsks
only_the_first_asks c s n can = can.base.first

-- ---- wait lists

pub queues_ascend : OfLawful QueuesAscend
queues_ascend c l n = (l.base.queues.at n).ascends

pub keeps_seats : (c : State) (e : Event) → BasePossible c e → WaitersAreSeats c → WaitersAreSeats (after c e)
keeps_seats c (Join s n) can l = λ m e. put_cases c.queue n (joined (c.queue n) (waiter_of c s)) m (λ q. Has q e → e.seat < c.seats)
    (λ _ h. ⊎_elim (λ i. let z = ap (λ (y : Entry). y.seat) i in let k = can.inside.seat in omega arith)
    (λ i. l n e i) (joined_has (c.queue n) (waiter_of c s) e h))
    (λ _. l m e)
keeps_seats c (Take s n) can l = λ m e h. l m e (stood c.queue n s m e h)
keeps_seats c (Die s n) can l = λ m e h. l m e (stood c.queue n s m e h)
keeps_seats c (Leave s n) can l = λ m e h. l m e (stood c.queue n s m e h)
keeps_seats c _ can l = l

pub waiters_are_seats : OfReached WaitersAreSeats
waiters_are_seats _ (at_start kind locks seats) = λ n e h. absurd h
waiters_are_seats _ (further c e run can) = keeps_seats c e can.base (waiters_are_seats c run)

-- a lock with an owner is one of the locks
pub owned_below : (c : State) → IsBase c → (a n : ℕ) → HasOther c a n → n < c.locks
owned_below c l a n other = dite (dec_le c.locks n)
    (λ beyond. let z = l.owners.beyond n beyond in absurd (⊎_elim (λ y. let w : ⊥ = cc in w) (λ y. let w : ⊥ = cc in w) other.2))
    (λ within. omega arith)

-- a waiter outside the guard has heeded no cancel
pub waiting_unheeded : (c : State) → IsBase c → (a n : ℕ) → Stands (c.queue n) a → c.guard n ≢ suc a → c.heeded a ≡ 0
waiting_unheeded c l a n h outside = dite (ℕ_discrete (c.heeded a) 0) (λ none. none)
    (λ some. let k = l.cancels.heeding a (omega arith) in
    let at : n ≡ k.0 = l.guards.own_guard n k.0 h.0 h.1 (k.1.inside ∙ ap suc (sym h.2)) in absurd (outside (ap c.guard at ∙ k.1.inside)))

pub condemned_can_die : OfReached CondemnedCanDie
condemned_can_die c run a condemned free k d = let l = reached_is_lawful c run in let n = condemned.lock in
    let h = condemned.waits.stands in
    let other : HasOther c a n = (condemned.awaited, (λ is. condemned.waits.other (sym is)), condemned.waits.owner) in
    let lock = owned_below c l.base a n other in
    let seat : a < c.seats = (let z = waiters_are_seats c run n h.0 h.1 in let y = h.2 in omega arith) in record {
      guard = record {
        base = record {
          seat = seat;
          lock = lock;
          inside_none = λ m g. let same = l.base.guards.own_guard n m h.0 h.1 (g ∙ ap suc (sym h.2)) in
              let z = ap c.guard same in omega arith;
          free = free;
          why = inr (inl h);
        };
        signs = inr (inl h);
      };
      die = record {
        base = record {
          inside = record { guard = put_here c.guard n (suc a); lock = lock; seat = seat };
          waits = h;
          other = other;
          unheeded = waiting_unheeded c l.base a n h condemned.waits.outside;
        };
        signs = condemned.dies_there;
      };
      answers = ap (λ o. told.Deadlk (unwrap_or o 0)) d;
    }
