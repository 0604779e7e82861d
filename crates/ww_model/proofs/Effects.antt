-- What each event writes, and the state that this shows.
use Rattle.std.proofs.Common.{ℕ, ◌≡◌, ◌<◌, ◌+◌, ◌-◌, Bool, true, false, List, length, Some, None, unwrap_or, refl, sym, ap, ◌∙◌, subst, arith}
use Rattle.std.proofs.Math.ListN.{set, length-set}
use Rattle.ww_queue.specs.declared.entry.Entry.{Entry}
use Rattle.ww_queue.specs.Queue.{joined, left}
use Rattle.ww_model.specs.declared.state.Holder.{Holder}
use Rattle.ww_model.specs.declared.state.Holder.TheVariants.{Nobody, Taken}
use Rattle.ww_model.specs.declared.event.Event.{Event}
use Rattle.ww_model.specs.declared.event.Event.TheVariants as event
use Rattle.ww_model.specs.declared.event.Answer.{Answer}
use Rattle.ww_model.specs.declared.event.Answer.TheVariants as told
use Rattle.ww_model.specs.State.{State, put, waiter_of, owes, place_of, dies}
use Rattle.ww_model.specs.Event.{Possible, after, answer, owed_to, given_to, giving, still_asked}
use Rattle.ww_model.specs.Snapshot.{Snapshot, state_of, IsCore}
use Rattle.ww_model.specs.Step.{Steps}
use Rattle.ww_model.proofs.Cores.{lengths_of, Makes, kept, stepped, stamp_set, sign_set, owner_set, asked_set, queue_set, guard_set, cancel_set, heeded_set}

-- the lists keep what a core is, and are what the step is to show
pub record Does (old : Snapshot) (e : Event) (t : Snapshot) (a : Answer) : Type 0 where
  pub core : IsCore t
  pub steps : Steps old e t a

module _ (old s : Snapshot) (is : s ≡ old) (core : IsCore s) where
  did : (e : Event) (t : Snapshot) (a : Answer) → Possible (state_of old) e → a ≡ answer (state_of s) e → Makes s e t → Does old e t a
  did e t a can said makes = record {
    core = kept old s t e is core can makes;
    steps = stepped old s t e a is core can said makes;
  }

  here : (e : Event) → Possible (state_of old) e → Possible (state_of s) e
  here e can = subst (λ (x : Snapshot). Possible (state_of x) e) (sym is) can

  pub did_begin : (v : ℕ) → Possible (state_of old) (event.Begin v)
      → Does old (event.Begin v) (record s { drawn = s.drawn + 1; stamps = set s.stamps v (s.drawn + 1) })
      (told.Stamp (s.drawn + 1))
  did_begin v can = did (event.Begin v) (record s { drawn = s.drawn + 1; stamps = set s.stamps v (s.drawn + 1) })
      (told.Stamp (s.drawn + 1)) can refl (record {
        lengths = λ i. record (lengths_of s) { stamps = (length-set s.stamps v (s.drawn + 1)) i };
        state = ap (λ (x : State). record x { drawn = s.drawn + 1 })
            (stamp_set s v (s.drawn + 1) (here (event.Begin v) can).base.away.seat);
      })

  pub did_clear : (v : ℕ) → v < length s.signs → Possible (state_of old) (event.Clear v)
      → Does old (event.Clear v) (record s { signs = set s.signs v 0 }) told.Done
  did_clear v within can = did (event.Clear v) (record s { signs = set s.signs v 0 }) told.Done can refl (record {
    lengths = λ i. record (lengths_of s) { signs = (length-set s.signs v 0) i };
    state = sign_set s v 0 within;
  })

  pub did_fast : (v n : ℕ) → Possible (state_of old) (event.Fast v n)
      → Does old (event.Fast v n) (record s { owners = set s.owners n (Taken v) }) told.Locked
  did_fast v n can = did (event.Fast v n) (record s { owners = set s.owners n (Taken v) }) told.Locked can refl (record {
    lengths = λ i. record (lengths_of s) { owners = (length-set s.owners n (Taken v)) i };
    state = owner_set s n (Taken v) (here (event.Fast v n) can).base.idle.lock;
  })

  pub did_fast_give : (v n : ℕ) → Possible (state_of old) (event.FastGive v n)
      → Does old (event.FastGive v n) (record s { owners = set s.owners n Nobody }) told.Done
  did_fast_give v n can = did (event.FastGive v n) (record s { owners = set s.owners n Nobody }) told.Done can refl (record {
    lengths = λ i. record (lengths_of s) { owners = (length-set s.owners n Nobody) i };
    state = owner_set s n Nobody (here (event.FastGive v n) can).base.lock;
  })

  pub did_guard : (v n : ℕ) → Possible (state_of old) (event.Guard v n)
      → Does old (event.Guard v n) (record s { guards = set s.guards n (Some v) }) told.Done
  did_guard v n can = did (event.Guard v n) (record s { guards = set s.guards n (Some v) }) told.Done can refl (record {
    lengths = λ i. record (lengths_of s) { guards = (length-set s.guards n (Some v)) i };
    state = guard_set s n (Some v) (let within = (here (event.Guard v n) can).base.lock in omega (arith, core.sizes.guards));
  })

  pub did_unguard : (v n : ℕ) → Possible (state_of old) (event.Unguard v n)
      → Does old (event.Unguard v n) (record s { guards = set s.guards n None }) told.Done
  did_unguard v n can = did (event.Unguard v n) (record s { guards = set s.guards n None }) told.Done can refl (record {
    lengths = λ i. record (lengths_of s) { guards = (length-set s.guards n None) i };
    state = guard_set s n None (let within = (here (event.Unguard v n) can).base.inside.lock in omega (arith, core.sizes.guards));
  })

  pub did_join : (v n : ℕ) (q : List Entry) → q ≡ joined ((state_of s).queue n) (waiter_of (state_of s) v)
      → Possible (state_of old) (event.Join v n) →
      Does old (event.Join v n) (record s { queues = set s.queues n q }) told.Done
  did_join v n q is_joined can = did (event.Join v n) (record s { queues = set s.queues n q }) told.Done can refl (record {
    lengths = λ i. record (lengths_of s) { queues = (length-set s.queues n q) i };
    state = queue_set s n q (let within = (here (event.Join v n) can).base.inside.lock in omega (arith, core.sizes.queues))
        ∙ ap (λ (x : List Entry). record (state_of s) { queue = put (state_of s).queue n x }) is_joined;
  })

  pub did_sign : (u v k : ℕ) → k ≡ unwrap_or (owed_to v (owes (state_of s) u (place_of (state_of s) u))) 0
      → v < length s.signs → Possible (state_of old) (event.Sign u v) →
      Does old (event.Sign u v) (record s { signs = set s.signs v k }) (told.Met k)
  did_sign u v k owed within can = did (event.Sign u v) (record s { signs = set s.signs v k }) (told.Met k) can (ap told.Met owed) (record {
    lengths = λ i. record (lengths_of s) { signs = (length-set s.signs v k) i };
    state = sign_set s v k within ∙ ap (λ (x : ℕ). record (state_of s) { sign = put (state_of s).sign v x }) owed;
  })

  pub did_take : (v n : ℕ) (q : List Entry) → q ≡ left ((state_of s).queue n) v → Possible (state_of old) (event.Take v n) →
      Does old (event.Take v n) (record s {
        owners = set s.owners n (Taken v);
        asked = set s.asked n false;
        queues = set s.queues n q;
      }) told.Locked
  did_take v n q has_left can = did (event.Take v n)
      (record s { owners = set s.owners n (Taken v); asked = set s.asked n false; queues = set s.queues n q })
      told.Locked can refl (record {
        lengths = λ i. record (lengths_of s) { owners = (length-set s.owners n (Taken v)) i; asked = (length-set s.asked n false) i; queues = (length-set s.queues n q) i };
        state = let within = (here (event.Take v n) can).base.inside.lock in
            queue_set (record s { owners = set s.owners n (Taken v); asked = set s.asked n false }) n q (omega (arith, core.sizes.queues))
            ∙ ap (λ (x : State). record x { queue = put x.queue n q })
            (asked_set (record s { owners = set s.owners n (Taken v) }) n false (omega (arith, core.sizes.asked)))
            ∙ ap (λ (x : State). record x { asked = put x.asked n false; queue = put x.queue n q }) (owner_set s n (Taken v) within)
            ∙ ap (λ (x : List Entry). record (after (state_of s) (event.Take v n)) { queue = put (state_of s).queue n x }) has_left;
      })

  pub did_ask : (v n : ℕ) → Possible (state_of old) (event.Ask v n)
      → Does old (event.Ask v n) (record s { asked = set s.asked n true }) told.Done
  did_ask v n can = did (event.Ask v n) (record s { asked = set s.asked n true }) told.Done can refl (record {
    lengths = λ i. record (lengths_of s) { asked = (length-set s.asked n true) i };
    state = asked_set s n true (let within = (here (event.Ask v n) can).base.inside.lock in omega (arith, core.sizes.asked));
  })

  pub did_give : (v n : ℕ) (h : Holder) (a : Answer) → h ≡ given_to ((state_of s).asked n) ((state_of s).queue n)
      → a ≡ giving h → Possible (state_of old) (event.Give v n) →
      Does old (event.Give v n) (record s { owners = set s.owners n h; asked = set s.asked n false }) a
  did_give v n h a given said can = did (event.Give v n)
      (record s { owners = set s.owners n h; asked = set s.asked n false }) a can (said ∙ ap giving given) (record {
        lengths = λ i. record (lengths_of s) { owners = (length-set s.owners n h) i; asked = (length-set s.asked n false) i };
        state = let within = (here (event.Give v n) can).base.inside.lock in
            asked_set (record s { owners = set s.owners n h }) n false (omega (arith, core.sizes.asked))
            ∙ ap (λ (x : State). record x { asked = put x.asked n false }) (owner_set s n h within)
            ∙ ap (λ (x : Holder). record (state_of s) { owner = put (state_of s).owner n x; asked = put (state_of s).asked n false }) given;
      })

  -- the lists and the questions, once a waiter has left the list n
  departed : (v n : ℕ) (qs : List (List Entry)) (bs : List Bool) → n < length s.owners → let q = left ((state_of s).queue n) v in
      qs ≡ set s.queues n q → bs ≡ set s.asked n (still_asked q ((state_of s).asked n)) →
      state_of (record s { asked = bs; queues = qs })
      ≡ record (state_of s) {
        queue = put (state_of s).queue n q;
        asked = put (state_of s).asked n (still_asked q ((state_of s).asked n));
      }
  departed v n qs bs within lists flags = let q = left ((state_of s).queue n) v in let b = still_asked q ((state_of s).asked n) in
      (λ i. state_of (record s { asked = flags i; queues = lists i }))
      ∙ queue_set (record s { asked = set s.asked n b }) n q (omega (arith, core.sizes.queues))
      ∙ ap (λ (x : State). record x { queue = put x.queue n q }) (asked_set s n b (omega (arith, core.sizes.asked)))

  pub did_die : (v n : ℕ) (qs : List (List Entry)) (bs : List Bool) (k : ℕ) → let q = left ((state_of s).queue n) v in
      qs ≡ set s.queues n q → bs ≡ set s.asked n (still_asked q ((state_of s).asked n))
      → k ≡ unwrap_or (dies (state_of s) v n) 0 → Possible (state_of old) (event.Die v n) →
      Does old (event.Die v n) (record s { asked = bs; queues = qs }) (told.Deadlk k)
  did_die v n qs bs k lists flags cause can = let q = left ((state_of s).queue n) v in let b = still_asked q ((state_of s).asked n) in
      did (event.Die v n) (record s { asked = bs; queues = qs }) (told.Deadlk k) can (ap told.Deadlk cause) (record {
        lengths = λ i. record (lengths_of s) { asked = (ap length flags ∙ length-set s.asked n b) i; queues = (ap length lists ∙ length-set s.queues n q) i };
        state = departed v n qs bs (here (event.Die v n) can).base.inside.lock lists flags;
      })

  pub did_commit : (v : ℕ) → Possible (state_of old) (event.Commit v)
      → Does old (event.Commit v) (record s { commits = s.commits + 1 }) (told.Place s.commits)
  did_commit v can = did (event.Commit v) (record s { commits = s.commits + 1 }) (told.Place s.commits) can refl (record {
    lengths = refl;
    state = refl;
  })

  pub did_end : (v : ℕ) → Possible (state_of old) (event.End v) → Does old (event.End v) (record s { stamps = set s.stamps v 0 }) told.Done
  did_end v can = did (event.End v) (record s { stamps = set s.stamps v 0 }) told.Done can refl (record {
    lengths = λ i. record (lengths_of s) { stamps = (length-set s.stamps v 0) i };
    state = stamp_set s v 0 (here (event.End v) can).base.away.seat;
  })

  pub did_cancel : (u v : ℕ) → Possible (state_of old) (event.Cancel u v)
      → Does old (event.Cancel u v) (record s { cancels = set s.cancels v (u + 1) }) told.Done
  did_cancel u v can = did (event.Cancel u v) (record s { cancels = set s.cancels v (u + 1) }) told.Done can refl (record {
    lengths = λ i. record (lengths_of s) { cancels = (length-set s.cancels v (u + 1)) i };
    state = cancel_set s v (u + 1) (let within = (here (event.Cancel u v) can).base.seat in omega (arith, core.sizes.cancels));
  })

  pub did_heed : (v n k : ℕ) → k ≡ (state_of s).cancel v → Possible (state_of old) (event.Heed v n) →
      Does old (event.Heed v n) (record s { cancels = set s.cancels v 0; heeded = set s.heeded v k }) told.Done
  did_heed v n k found can = did (event.Heed v n)
      (record s { cancels = set s.cancels v 0; heeded = set s.heeded v k }) told.Done can refl (record {
        lengths = λ i. record (lengths_of s) { cancels = (length-set s.cancels v 0) i; heeded = (length-set s.heeded v k) i };
        state = let within = (here (event.Heed v n) can).base.inside.seat in
            heeded_set (record s { cancels = set s.cancels v 0 }) v k (omega (arith, core.sizes.heeded))
            ∙ ap (λ (x : State). record x { heeded = put x.heeded v k }) (cancel_set s v 0 (omega (arith, core.sizes.cancels)))
            ∙ ap (λ (x : ℕ). record (state_of s) { cancel = put (state_of s).cancel v 0; heeded = put (state_of s).heeded v x }) found;
      })

  pub did_leave : (v n : ℕ) (qs : List (List Entry)) (bs : List Bool) (k : ℕ) → let q = left ((state_of s).queue n) v in
      qs ≡ set s.queues n q → bs ≡ set s.asked n (still_asked q ((state_of s).asked n))
      → k ≡ (state_of s).heeded v - 1 → Possible (state_of old) (event.Leave v n) →
      Does old (event.Leave v n) (record s { asked = bs; queues = qs; heeded = set s.heeded v 0 }) (told.Interrupted k)
  did_leave v n qs bs k lists flags by can = let q = left ((state_of s).queue n) v in let b = still_asked q ((state_of s).asked n) in
      did (event.Leave v n) (record s { asked = bs; queues = qs; heeded = set s.heeded v 0 }) (told.Interrupted k)
      can (ap told.Interrupted by) (record {
        lengths = λ i. record (lengths_of s) { asked = (ap length flags ∙ length-set s.asked n b) i; queues = (ap length lists ∙ length-set s.queues n q) i; heeded = (length-set s.heeded v 0) i };
        state = let inside = (here (event.Leave v n) can).base.inside in
            heeded_set (record s { asked = bs; queues = qs }) v 0 (let within = inside.seat in omega (arith, core.sizes.heeded))
            ∙ ap (λ (x : State). record x { heeded = put x.heeded v 0 }) (departed v n qs bs inside.lock lists flags);
      })
