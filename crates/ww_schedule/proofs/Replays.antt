-- Replays of events: what is told of them, one after the other.
use Rattle.std.proofs.Common.{◌≡◌, ℕ, suc, ◌+◌, ◌<◌, ◌≤◌, List, [], ◌∷◌, ◌++◌, length, take, get_or, Option, Some, None, Result, Ok, Err, refl, sym, ap, ◌∙◌, subst, append_assoc}
use Rattle.std.proofs.lemmas.List.{take_more, take_all, append-nil}
use Rattle.std.proofs.lemmas.Option.{slice_get-get_or}
use Rattle.std.specs.Result.{OnOk}
use Rattle.ww_model.specs.declared.event.Event.{Event}
use Rattle.ww_model.specs.declared.event.Event.TheVariants.{Begin}
use Rattle.ww_model.specs.declared.event.Answer.{Answer}
use Rattle.ww_model.specs.State.{State}
use Rattle.ww_model.specs.Event.{Possible, after, answer}
use Rattle.ww_model.specs.Run.{state_after, IsRun}
use Rattle.ww_model.proofs.Runs.{run_more, state_more}
use Rattle.ww_schedule.specs.Schedules.{Timetable}
use Rattle.ww_json.specs.Pieces.{numbered}
use Rattle.ww_schedule.specs.ScheduleText.{event_line, impossible_text, ring_line, condemned_line}
use Rattle.ww_model.specs.Waits.{CondemnedOf}
use Rattle.ww_schedule.specs.Replay.{front, answers_of, run_lines, AreTold, below_count, RingOf, seats_of, IsRingTold, Replay, first_state, last_state, IsReplay, line_of_lock, line_of_seat, replay_lines, IsReplayTold}
use Rattle.ww_json.proofs.Numbered.{numbered_more, length_front}

-- ---- runs

answers_push : (c : State) (es : List Event) (e : Event) → answers_of c (es ++ e ∷ []) ≡ answers_of c es ++ answer (state_after c es) e ∷ []
answers_push c [] e = refl
answers_push c (x ∷ es) e = ap (λ rest. answer c x ∷ rest) (answers_push (after c x) es e)

answers_counted : (c : State) (es : List Event) → length (answers_of c es) ≡ length es
answers_counted c [] = refl
answers_counted c (x ∷ es) = ap suc (answers_counted (after c x) es)

same_sizes : (c : State) (e : Event) → ((after c e).locks ≡ c.locks) × ((after c e).seats ≡ c.seats)
same_sizes c (Begin s) = (refl, refl)
same_sizes c _ = (refl, refl)

-- events change neither the number of the locks nor that of the seats
pub run_sizes : (c : State) (es : List Event) → ((state_after c es).locks ≡ c.locks) × ((state_after c es).seats ≡ c.seats)
run_sizes c [] = (refl, refl)
run_sizes c (e ∷ es) = let here = same_sizes c e in let later = run_sizes (after c e) es in (later.0 ∙ here.0, later.1 ∙ here.1)

-- ---- what is told of events

-- these events were possible, and what they answered was told behind a text
pub record IsTold (c : State) (es : List Event) (end : State) (old new : List ℕ) : Type 0 where
  pub run : IsRun c es
  pub state : end ≡ state_after c es
  pub text : new ≡ old ++ numbered event_line 0 (answers_of c es)

pub told_none : (c : State) (text : List ℕ) → IsTold c [] c text text
told_none c text = record { run = tt; state = refl; text = sym (append-nil text) }

-- one event more
pub told_more : (c : State) (es : List Event) (i : ℕ) (e : Event) (a : Answer) (end next : State)
    (old out new : List ℕ) → i < length es → IsTold c (take i es) end old out
    → Possible end (get_or es i e) → a ≡ answer end (get_or es i e) → next ≡ after end (get_or es i e)
    → new ≡ out ++ event_line i a → IsTold c (take (i + 1) es) next old new
told_more c es i e a end next old out new lt told can says is pushed =
    let x = get_or es i e in
    let more = take_more es i e lt in
    let here = told.state in
    record {
      run = subst (IsRun c) (sym more) (run_more c (take i es) x told.run (subst (λ s. Possible s x) here can));
      state = is ∙ ap (λ s. after s x) here ∙ sym (state_more c (take i es) x) ∙ ap (state_after c) (sym more);
      text = numbered_more event_line (answers_of c (take i es)) (answers_of c (take (i + 1) es)) i a old out new
          (answers_counted c (take i es) ∙ length_front es i lt)
          (ap (answers_of c) more ∙ answers_push c (take i es) x
          ∙ ap (λ y. answers_of c (take i es) ++ y ∷ []) (sym (says ∙ ap (λ s. answer s x) here)))
          told.text pushed;
    }

-- what follows from a fact that holds where there is a value
pub on_ok : {T E : Type 0} {P Q : Type 0} (r : Result T E) → (P → Q) → OnOk r P → OnOk r Q
on_ok (Ok x) f p = f p
on_ok (Err e) f p = tt

-- all of the events were possible
pub told_all : (c : State) (es : List Event) (i : ℕ) (end : State) (old new : List ℕ) → length es ≤ i
    → IsTold c (take i es) end old new → AreTold c es end old new
unfolding run_lines
told_all c es i end old new all told =
    let whole = take_all i es all in
    record {
      stop = None;
      stops = subst (IsRun c) whole told.run;
      state = told.state ∙ ap (state_after c) whole;
      text = told.text ∙ ap (λ front. old ++ numbered event_line 0 (answers_of c front)) whole
          ∙ ap (λ t. old ++ t) (sym (append-nil (numbered event_line 0 (answers_of c es))));
    }

-- the event at i was not possible
pub told_to : (c : State) (es : List Event) (i : ℕ) (d : Event) (end next : State) (old out new : List ℕ)
    → i < length es → IsTold c (take i es) end old out → ¬ Possible end (get_or es i d)
    → next ≡ end → new ≡ out ++ impossible_text (Some i) → AreTold c es next old new
unfolding run_lines
told_to c es i d end next old out new lt told cannot same pushed = record {
  stop = Some i;
  stops = record {
    before = told.run;
    event = get_or es i d;
    there = slice_get-get_or es i d lt;
    impossible = λ can. cannot (subst (λ s. Possible s (get_or es i d)) (sym told.state) can);
  };
  state = same ∙ told.state;
  text = pushed ∙ ap (λ o. o ++ impossible_text (Some i)) told.text
      ∙ append_assoc old (numbered event_line 0 (answers_of c (take i es))) (impossible_text (Some i));
}

-- ---- what is told of the ring

pub ring_told : (c : State) (ring : Option (List ℕ)) (seat : Option ℕ) (old mid new : List ℕ) → RingOf c ring
    → CondemnedOf c (seats_of ring) seat
    → mid ≡ old ++ ring_line ring → new ≡ mid ++ condemned_line seat → IsRingTold c old new
ring_told c ring seat old mid new found condemned first second = record {
  ring = ring;
  condemned = seat;
  is_ring = found;
  is_condemned = condemned;
  text = second ∙ ap (λ t. t ++ condemned_line seat) first;
}

-- ---- what is told of a schedule

-- the state after a schedule's events has its locks and seats
pub record IsEnd (t : Timetable) (end : State) : Type 0 where
  pub locks : end.locks ≡ t.locks
  pub seats : end.seats ≡ t.seats

pub end_of : (t : Timetable) (end : State) (old new : List ℕ) → AreTold (first_state t) t.events end old new → IsEnd t end
end_of t end old new told =
    let events = front told.stop t.events in
    let sizes = run_sizes (first_state t) events in
    record {
      locks = ap (λ (s : State). s.locks) told.state ∙ sizes.0;
      seats = ap (λ (s : State). s.seats) told.state ∙ sizes.1;
    }

-- the same, where the first state and the events are known to be the schedule's
pub told_of : (t : Timetable) (c : State) (es : List Event) (end : State) (old new : List ℕ) → c ≡ first_state t
    → es ≡ t.events → AreTold c es end old new → AreTold (first_state t) t.events end old new
told_of t c es end old new first same told =
    subst (λ s. AreTold s t.events end old new) first (subst (λ x. AreTold c x end old new) same told)

regroup : (o r g c l s : List ℕ) → ((((o ++ r) ++ g) ++ c) ++ l) ++ s ≡ o ++ ((((r ++ g) ++ c) ++ l) ++ s)
regroup o r g c l s =
    ap (λ x. ((x ++ c) ++ l) ++ s) (append_assoc o r g) ∙ ap (λ x. (x ++ l) ++ s) (append_assoc o (r ++ g) c)
    ∙ ap (λ x. x ++ s) (append_assoc o ((r ++ g) ++ c) l) ∙ append_assoc o (((r ++ g) ++ c) ++ l) s

pub replay_told : (t : Timetable) (end : State) (old one two three new : List ℕ)
    → AreTold (first_state t) t.events end old one → IsRingTold end one two
    → three ≡ two ++ below_count t.locks (line_of_lock end) → new ≡ three ++ below_count t.seats (line_of_seat end) → IsReplayTold t old new
unfolding replay_lines
replay_told t end old one two three new told ring locks seats =
    let r : Replay = record { stop = told.stop; ring = ring.ring; condemned = ring.condemned } in
    let is : IsReplay t r = record {
      stop = told.stops;
      ring = subst (λ s. RingOf s ring.ring) told.state ring.is_ring;
      condemned = subst (λ s. CondemnedOf s (seats_of ring.ring) ring.condemned) told.state ring.is_condemned;
    } in
    let run = run_lines (first_state t) t.events told.stop in
    let lines = λ (s : State). ((((old ++ run) ++ ring_line ring.ring) ++ condemned_line ring.condemned) ++
    below_count t.locks (line_of_lock s)) ++ below_count t.seats (line_of_seat s) in
    let last = last_state t r in
    let text = seats
    ∙ ap (λ x. x ++ below_count t.seats (line_of_seat end))
    (locks ∙ ap (λ x. x ++ below_count t.locks (line_of_lock end))
    (ring.text ∙ ap (λ x. (x ++ ring_line ring.ring) ++ condemned_line ring.condemned) told.text))
    ∙ ap lines told.state
    ∙ regroup old run (ring_line ring.ring) (condemned_line ring.condemned)
    (below_count t.locks (line_of_lock last)) (below_count t.seats (line_of_seat last)) in
    (r, is, text)
