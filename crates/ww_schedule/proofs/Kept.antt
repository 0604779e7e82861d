-- What is read as a schedule keeps to its ranges.
use Rattle.std.proofs.Common.{◌≡◌, ℕ, ◌<◌, List, [], ◌∷◌, Result, Ok, subst, arith}
use Rattle.std.specs.Prelude.{codes, bytes_eq}
use Rattle.serde_json.specs.Data.{Data}
use Rattle.ww_model.specs.declared.event.Event.{Event}
use Rattle.ww_model.specs.declared.event.Event.TheVariants.{Begin, Clear, Fast, FastGive, Guard, Join, Sign, Take, Ask, Give, Die, Unguard, Commit, End, Cancel, Heed, Leave}
use Rattle.ww_json.specs.declared.fault.InputFault.{InputFault}
use Rattle.ww_json.specs.Parts.{each, counted, ranged, array, below, member, only, text}
use Rattle.ww_json.specs.Kinds.{kind_in}
use Rattle.ww_json.proofs.Kept.{bind_ok, done, ok_is, either_kept, each_kept, below_kept, ranged_kept, counted_kept}
use Rattle.ww_schedule.specs.Events.{seat_of, both_of, alone, both, event_with, event_from, event_in}
use Rattle.ww_schedule.specs.Schedules.{Timetable, NamesWhatIsThere, AreEvents, IsTimetable, events_in, timetable_in}

-- ---- events

seat_kept : (seats : ℕ) (ds : List Data) (s : ℕ) → seat_of seats ds ≡ Ok s → s < seats
seat_kept seats [] s e = absurd cc
seat_kept seats (a ∷ []) s e = below_kept seats a s e
seat_kept seats (a ∷ b ∷ ds) s e = absurd cc

-- a seat, and a number below the limit
abbrev AreBelow : ℕ → ℕ → ℕ × ℕ → Type 0
AreBelow seats limit p = (p.0 < seats) × (p.1 < limit)

both_kept : (seats limit : ℕ) (ds : List Data) (p : ℕ × ℕ) → both_of seats limit ds ≡ Ok p → AreBelow seats limit p
both_kept seats limit [] p e = absurd cc
both_kept seats limit (a ∷ []) p e = absurd cc
both_kept seats limit (a ∷ b ∷ []) p e =
    let s = bind_ok (below seats a) _ p e in
    let n = bind_ok (below limit b) (λ n. let r : Result (ℕ × ℕ) InputFault = Ok (s.0, n) in r) p s.2 in
    let made : ℕ × ℕ = (s.0, n.0) in
    subst (AreBelow seats limit) (ok_is made p n.2) (below_kept seats a s.0 s.1, below_kept limit b n.0 n.1)
both_kept seats limit (a ∷ b ∷ c ∷ ds) p e = absurd cc

-- what every event of a seat keeps, one that is read keeps
alone_kept : (P : Event → Type 0) (event : ℕ → Event) (seats : ℕ) (ds : List Data) (x : Event)
    → ((s : ℕ) → s < seats → P (event s)) → alone event seats ds ≡ Ok x → P x
alone_kept P event seats ds x h e =
    let s = bind_ok (seat_of seats ds) (λ s. done (event s)) x e in
    subst P (ok_is (event s.0) x s.2) (h s.0 (seat_kept seats ds s.0 s.1))

-- the same of events of a seat and of a number below the limit
pair_event_kept : (P : Event → Type 0) (event : ℕ → ℕ → Event) (seats limit : ℕ) (ds : List Data) (x : Event)
    → ((s n : ℕ) → s < seats → n < limit → P (event s n)) → both event seats limit ds ≡ Ok x → P x
pair_event_kept P event seats limit ds x h e =
    let p = bind_ok (both_of seats limit ds) (λ (p : ℕ × ℕ). done (event p.0 p.1)) x e in
    let b = both_kept seats limit ds p.0 p.1 in
    subst P (ok_is (event p.0.0 p.0.1) x p.2) (h p.0.0 p.0.1 b.0 b.1)

event_with_kept : (seats locks : ℕ) (word : List ℕ) (ds : List Data) (x : Event)
    → event_with seats locks word ds ≡ Ok x → NamesWhatIsThere seats locks x
unfolding event_with
event_with_kept seats locks word ds x e =
    let P = NamesWhatIsThere seats locks in
    either_kept P (bytes_eq word (codes "begin")) _ _ x (alone_kept P Begin seats ds x (λ s a. a))
    (either_kept P (bytes_eq word (codes "clear")) _ _ x (alone_kept P Clear seats ds x (λ s a. a))
    (either_kept P (bytes_eq word (codes "fast")) _ _ x (pair_event_kept P Fast seats locks ds x (λ s n a b. (a, b)))
    (either_kept P (bytes_eq word (codes "fast-give")) _ _ x (pair_event_kept P FastGive seats locks ds x (λ s n a b. (a, b)))
    (either_kept P (bytes_eq word (codes "guard")) _ _ x (pair_event_kept P Guard seats locks ds x (λ s n a b. (a, b)))
    (either_kept P (bytes_eq word (codes "join")) _ _ x (pair_event_kept P Join seats locks ds x (λ s n a b. (a, b)))
    (either_kept P (bytes_eq word (codes "sign")) _ _ x (pair_event_kept P Sign seats seats ds x (λ s v a b. (a, b)))
    (either_kept P (bytes_eq word (codes "take")) _ _ x (pair_event_kept P Take seats locks ds x (λ s n a b. (a, b)))
    (either_kept P (bytes_eq word (codes "ask")) _ _ x (pair_event_kept P Ask seats locks ds x (λ s n a b. (a, b)))
    (either_kept P (bytes_eq word (codes "give")) _ _ x (pair_event_kept P Give seats locks ds x (λ s n a b. (a, b)))
    (either_kept P (bytes_eq word (codes "die")) _ _ x (pair_event_kept P Die seats locks ds x (λ s n a b. (a, b)))
    (either_kept P (bytes_eq word (codes "unguard")) _ _ x (pair_event_kept P Unguard seats locks ds x (λ s n a b. (a, b)))
    (either_kept P (bytes_eq word (codes "commit")) _ _ x (alone_kept P Commit seats ds x (λ s a. a))
    (either_kept P (bytes_eq word (codes "end")) _ _ x (alone_kept P End seats ds x (λ s a. a))
    (either_kept P (bytes_eq word (codes "cancel")) _ _ x (pair_event_kept P Cancel seats seats ds x (λ s v a b. (a, b)))
    (either_kept P (bytes_eq word (codes "heed")) _ _ x (pair_event_kept P Heed seats locks ds x (λ s n a b. (a, b)))
    (either_kept P (bytes_eq word (codes "leave")) _ _ x
    (pair_event_kept P Leave seats locks ds x (λ s n a b. (a, b))) (λ none. absurd cc))))))))))))))))) e

event_from_kept : (seats locks : ℕ) (ds : List Data) (x : Event) → event_from seats locks ds ≡ Ok x → NamesWhatIsThere seats locks x
event_from_kept seats locks [] x e = absurd cc
event_from_kept seats locks (d ∷ ds) x e =
    let w = bind_ok (text d) (λ word. event_with seats locks word ds) x e in
    event_with_kept seats locks w.0 ds x w.2

event_kept : (seats locks : ℕ) (d : Data) (x : Event) → event_in seats locks d ≡ Ok x → NamesWhatIsThere seats locks x
unfolding event_in
event_kept seats locks d x e =
    let a = bind_ok (array d) (event_from seats locks) x e in
    event_from_kept seats locks a.0 x a.2

-- ---- schedules

pub events_kept : (seats locks : ℕ) (d : Data) (es : List Event) → events_in seats locks d ≡ Ok es → AreEvents seats locks es
unfolding events_in
events_kept seats locks d es e =
    let a = bind_ok (counted 0 10000 d) (λ ds. each (event_in seats locks) ds) es e in
    let c = counted_kept 0 10000 d a.0 a.1 in
    let p = each_kept (NamesWhatIsThere seats locks) (event_in seats locks) a.0 es (event_kept seats locks) a.2 in
    record { few = omega (arith, c.1, p.1); there = p.0 }

pub timetable_kept : (members : ℕ) (d : Data) (t : Timetable) → timetable_in members d ≡ Ok t → IsTimetable t
unfolding timetable_in
timetable_kept members d t e =
    let k = bind_ok (member (codes "kind") d) _ t e in
    let l = bind_ok (member (codes "locks") d) _ t k.2 in
    let s = bind_ok (member (codes "seats") d) _ t l.2 in
    let v = bind_ok (member (codes "events") d) _ t s.2 in
    let o = bind_ok (only 5 members) _ t v.2 in
    let kind = bind_ok (kind_in k.0) _ t o.2 in
    let locks = bind_ok (ranged 1 64 l.0) _ t kind.2 in
    let seats = bind_ok (ranged 1 16 s.0) _ t locks.2 in
    let es = bind_ok (events_in seats.0 locks.0 v.0)
    (λ (es : List Event). let r : Result Timetable InputFault =
    Ok (record { kind = kind.0; locks = locks.0; seats = seats.0; events = es }) in r) t seats.2 in
    let made : Timetable = record { kind = kind.0; locks = locks.0; seats = seats.0; events = es.0 } in
    let some_locks = ranged_kept 1 64 l.0 locks.0 locks.1 in
    let some_seats = ranged_kept 1 16 s.0 seats.0 seats.1 in
    subst IsTimetable (ok_is made t es.2) (record {
      some_lock = some_locks.0;
      few_locks = some_locks.1;
      some_seat = some_seats.0;
      few_seats = some_seats.1;
      events = events_kept seats.0 locks.0 v.0 es.0 es.1;
    })
