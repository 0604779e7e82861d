-- What an input says of a schedule is read as it.
use Rattle.std.proofs.Common.{◌≡◌, ℕ, ◌<◌, ◌≤◌, List, [], ◌∷◌, length, map, Ok, refl, arith}
use Rattle.std.proofs.lemmas.List.{length-map}
use Rattle.ww_model.specs.declared.event.Event.{Event}
use Rattle.ww_model.specs.declared.event.Event.TheVariants.{Begin, Clear, Fast, FastGive, Guard, Join, Sign, Take, Ask, Give, Die, Unguard, Commit, End, Cancel, Heed, Leave}
use Rattle.ww_json.specs.Spelling.{list, whole}
use Rattle.ww_json.proofs.Said.{below_said, ranged_said, counted_said, each_said, kind_said}
use Rattle.ww_schedule.specs.Events.{alone, both, event_with, event_in}
use Rattle.ww_schedule.specs.Schedules.{Timetable, NamesWhatIsThere, AreEvents, IsTimetable, events_in, timetable_in}
use Rattle.ww_schedule.specs.Spelling.{event_data, timetable_data}

alone_said : (event : ℕ → Event) (seats s : ℕ) → s < seats → alone event seats (whole s ∷ []) ≡ Ok (event s)
alone_said event seats s lt = rw (below_said seats s lt) refl

both_said : (event : ℕ → ℕ → Event) (seats limit s n : ℕ) → (s < seats) × (n < limit)
    → both event seats limit (whole s ∷ whole n ∷ []) ≡ Ok (event s n)
both_said event seats limit s n lt = rw (below_said seats s lt.0, below_said limit n lt.1) refl

event_said : (seats locks : ℕ) (e : Event) → NamesWhatIsThere seats locks e → event_in seats locks (event_data e) ≡ Ok e
unfolding event_in event_with
event_said seats locks (Begin s) there = alone_said Begin seats s there
event_said seats locks (Clear s) there = alone_said Clear seats s there
event_said seats locks (Fast s n) there = both_said Fast seats locks s n there
event_said seats locks (FastGive s n) there = both_said FastGive seats locks s n there
event_said seats locks (Guard s n) there = both_said Guard seats locks s n there
event_said seats locks (Join s n) there = both_said Join seats locks s n there
event_said seats locks (Sign s v) there = both_said Sign seats seats s v there
event_said seats locks (Take s n) there = both_said Take seats locks s n there
event_said seats locks (Ask s n) there = both_said Ask seats locks s n there
event_said seats locks (Give s n) there = both_said Give seats locks s n there
event_said seats locks (Die s n) there = both_said Die seats locks s n there
event_said seats locks (Unguard s n) there = both_said Unguard seats locks s n there
event_said seats locks (Commit s) there = alone_said Commit seats s there
event_said seats locks (End s) there = alone_said End seats s there
event_said seats locks (Cancel s v) there = both_said Cancel seats seats s v there
event_said seats locks (Heed s n) there = both_said Heed seats locks s n there
event_said seats locks (Leave s n) there = both_said Leave seats locks s n there

events_said : (seats locks : ℕ) (es : List Event) → AreEvents seats locks es → events_in seats locks (list (map event_data es)) ≡ Ok es
unfolding events_in
events_said seats locks es are =
    let n = length-map es event_data in
    let most : length (map event_data es) ≤ 10000 = omega (arith, are.few) in
    rw (
      counted_said 0 10000 (map event_data es) (omega arith) most,
      each_said (NamesWhatIsThere seats locks) event_data
          (event_in seats locks) es (event_said seats locks) are.there,
    ) refl

-- the fields of an object of five keys
pub timetable_said : (t : Timetable) → IsTimetable t → timetable_in 5 (timetable_data t) ≡ Ok t
unfolding timetable_in
timetable_said t is =
    rw (
      kind_said t.kind,
      ranged_said 1 64 t.locks is.some_lock is.few_locks,
      ranged_said 1 16 t.seats is.some_seat
          is.few_seats,
      events_said t.seats t.locks t.events is.events,
    ) refl
