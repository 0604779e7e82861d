-- Each step at a guard, inside it, on a sign or on a cancel keeps the rule of the table, as the event that it is.
use Rattle.std.proofs.Common.{◌≡◌, ◌≢◌, ℕ, suc, ◌+◌, ◌-◌, ◌*◌, ◌<◌, ◌≤◌, ◌^◌, ◌==◌, min, true, false, List, ◌∷◌, length, get_or, set, sym, refl, ap, ◌∙◌, subst, arith, true≢false, Some, None, length-set, get_or-set_other, get_or-set_same}
use mathlib.Core.Logic.{dite}
use mathlib.Core.Option.{none, some}
use native.Mathlib.Decide.{ℕ_discrete}
use lib.ListN.{get_elem?}
use Rattle.atomic_table.specs.Table.{Act, keeps, takes, gives, chain, stepped, homes_after, rest}
use Rattle.atomic_table.proofs.Lists.{set_here, set_else}
use Rattle.ww_word.specs.declared.owner.Owner.{Owner}
use Rattle.ww_word.specs.Owner.{with_waiters}
use Rattle.ww_word.specs.AnySeats.{IsValid, packed, most_for}
use Rattle.ww_queue.specs.declared.entry.Entry.{Entry}
use Rattle.ww_queue.specs.Queue.{joined, left}
use Rattle.ww_model.specs.declared.state.Holder.TheVariants.{Taken}
use Rattle.ww_model.specs.declared.event.Event.{Event}
use Rattle.ww_model.specs.declared.event.Event.TheVariants.{Clear, Guard, Join, Sign, Take, Ask, Give, Die, Unguard, Cancel, Heed, Leave}
use Rattle.ww_model.specs.State.{put, waiter_of}
use Rattle.ww_model.specs.Event.{Possible, after, given_to}
use Rattle.ww_model.specs.Lawful.{IsLawful}
use Rattle.ww_model.proofs.Puts.{put_here, put_else, put_cases}
use Rattle.ww_model.proofs.Outside.{signed_owns_outside}
use Rattle.ww_plain.specs.declared.node.Node.{Node}
use Rattle.ww_plain.specs.Graph.{node_at}
use Rattle.ww_plain.specs.History.{last_graph}
use Rattle.ww_view.specs.declared.view.View.{View}
use Rattle.ww_model.specs.State.{word_of}
use Rattle.ww_model.specs.Event.{actor}
use Rattle.ww_view.specs.View.{owns, Knows, IsAway}
use Rattle.ww_view.specs.Word.{taken_word, asked_word, given_word, rest_word}
use Rattle.ww_view.specs.May.{MayEnter, MayExit, MayJoin, MayTake, MayGive, MayAsk, MayDie, MaySign, MayClear, MayHeed, MayStop}
use Rattle.ww_view.specs.Made.{entered, exited, queued, taken, given, has_asked, died, has_condemned, cleared, has_heeded, interrupted}
use Rattle.ww_view.proofs.Tells.{asked_is}
use Rattle.ww_view.proofs.Shows.{shows_guard, shows_exit, shows_join, shows_take, shows_ask, shows_give, shows_die, shows_sign, shows_clear, shows_cancel, shows_heed, shows_leave}
use Rattle.ww_view.proofs.Mine.{mine_guard, mine_unguard, mine_cancel}
use Rattle.ww_view.proofs.Inside.{mine_join, mine_take, mine_ask, mine_give, mine_die, mine_sign, mine_clear, mine_heed, mine_leave}
use Rattle.ww_view.proofs.Events.{clear_quiet}
use Rattle.ww_view.proofs.Deaths.{sign_is}
use Rattle.ww_view.proofs.Written.{word_join, word_take, word_ask, word_give, word_die, word_leave}
use Rattle.ww_invariant.specs.declared.cells.Cell.{Cell}
use Rattle.ww_invariant.specs.declared.cells.Cell.TheVariants.{Content, Line}
use Rattle.ww_invariant.specs.declared.cells.Start.{Start}
use Rattle.ww_invariant.specs.declared.cells.Counts.{Counts}
use Rattle.ww_invariant.specs.Layout.{lock_at}
use Rattle.ww_invariant.specs.Rule.{St, Sat, first_graph, Balanced, Shown, AtHome, Counted, Sits, Ruled, Makes}
use Rattle.ww_invariant.specs.Steps.{knowing}
use Rattle.ww_invariant.specs.Guards.{entering, exiting}
use Rattle.ww_invariant.specs.Waiting.{joining, taking_inside, giving_inside, asking, dying}
use Rattle.ww_invariant.specs.Signs.{condemning, clearing}
use Rattle.ww_invariant.specs.Cancels.{cancelling, heeding, stopping}
use Rattle.ww_invariant.proofs.Regions.{owner_set}
use Rattle.ww_invariant.proofs.InsideRegions.{guard_set, sign_set, cancel_set, list_inside}
use Rattle.ww_invariant.proofs.Balance.{total_alike, with_cancelled, cancelled_on, with_heeded, heeded_on}
use Rattle.ww_invariant.proofs.Fits.{place_low}
use Rattle.ww_invariant.proofs.Moves as moves

module _ (key : Start) (s : St) (r : Ruled key s) (id : ℕ) (me : Sat) (here : get_elem? s.views id ≡ some me.0)
    (seated : me.0.seated ≡ true) where
  abbrev graph : List Node
  graph = last_graph (first_graph key) r.log

  law : IsLawful r.core
  law = moves.law key s r id me here seated

  pub mine : Sits key r.core r.log r.at r.counts id me.0
  mine = moves.mine key s r id me here seated

  found : (n : ℕ) (o : Owner) → n < key.locks → IsValid o → get_or s.words (lock_at key.locks n) 0 ≡ packed o → o ≡ word_of r.core n
  found = moves.found key s r id me here seated

  pub inside_low : (n : ℕ) → me.0.part.core.inside ≡ suc n → n < key.locks
  inside_low n is = let g = (mine.part.knows.guard.guards n is).0 in let z = r.locks in omega arith

  -- the seat makes an event that leaves it the locks that it has
  makes : (e : Event) (i x : ℕ) (w : View) (a : Act Cell) → actor e ≡ me.0.part.core.who
      → w.who ≡ me.0.part.core.who → ((n : ℕ) → owns w n ≡ owns me.0.part.core n) → Possible r.core e
      → Knows (after r.core e) w
      → min r.all (most_for key.places) ≡ (after r.core e).drawn
      → Counted key r.all (after r.core e).commits (after r.core e).cancel r.log r.counts
      → Shown key.locks key.places r.all (after r.core e) (set s.words i x)
      → AtHome key.locks graph (after r.core e).owner (after r.core e).queue (after r.core e).guard
      (homes_after s.homes me.1 a)
      → Makes key s r e (stepped s i x id me.1 (knowing me.0 w) a)
  makes e i x w a acts same has can knows =
      moves.makes key s r id me here seated e i x w me.0.held a acts same can knows mine.room
      (λ n own in_graph. mine.held n (sym (has n) ∙ own) in_graph)

  -- enter: the guard word was 0
  pub enter_makes : (n : ℕ) → n < key.locks → MayEnter me.0.part.core n → get_or s.words (lock_at key.locks n + 1) 0 ≡ 0
      → Makes key s r (Guard me.0.part.core.who n)
      (stepped s (lock_at key.locks n + 1) (suc me.0.part.core.who) id me.1 (entering me.0 n (r.core.queue n))
      (takes (64 + n) (Line (r.core.queue n))))
  enter_makes n low may hit = let c = r.core in let v = me.0.part.core in let k = mine.part.knows in
      let free : c.guard n ≡ 0 = sym (r.words.guards n low) ∙ hit in
      let can = shows_guard c v law k n (signed_owns_outside c r.reached) may (let z = r.locks in omega arith)
      free in let deep = r.homes.deep in
      makes (Guard v.who n) (lock_at key.locks n + 1) (suc v.who) (entered v n (c.queue n))
      (takes (64 + n) (Line (c.queue n))) refl refl (λ m. refl) can (mine_guard c v law k n can) r.drawn r.counted
      (guard_set c (Guard v.who n) can.base law.base key.locks key.places r.all s.words r.words n (suc v.who) low (λ m. tt) refl refl refl refl refl)
      (record {
        deep = length-set s.homes (64 + n) none ∙ r.homes.deep;
        nodes = λ m l clear. set_else s.homes (64 + n) m none
            (λ z. let a = r.counted.size in let b = r.counted.graph.few in omega arith) ∙ r.homes.nodes m l clear;
        lists = λ m l. put_cases c.guard n (suc v.who) m
            (λ g. g ≡ 0 → get_elem? (set s.homes (64 + n) none) (64 + m) ≡ some (some (Line (c.queue m))))
            (λ _ z. absurd (omega arith))
            (λ isnt z. set_else s.homes (64 + n) (64 + m) none (λ y. isnt (omega arith)) ∙ r.homes.lists m l z);
      })

  -- exit: 0 is stored, and the list slot goes home as the view has it
  pub exit_makes : (n : ℕ) → MayExit me.0.part.core n → me.1 ≡ (64 + n, Line me.0.part.core.list) ∷ rest me.1
      → Makes key s r (Unguard me.0.part.core.who n) (stepped s (lock_at key.locks n + 1) 0 id me.1 (exiting me.0) gives)
  exit_makes n may top = let c = r.core in let v = me.0.part.core in let k = mine.part.knows in let low = inside_low n may.inside in
      let can = shows_exit c v law k n (signed_owns_outside c r.reached) may in let deep = r.homes.deep in
      makes (Unguard v.who n) (lock_at key.locks n + 1) 0 (exited v) gives refl refl (λ m. refl) can (mine_unguard c v law k n can) r.drawn r.counted
      (guard_set c (Unguard v.who n) can.base law.base key.locks key.places r.all s.words r.words n 0 low (λ m. tt) refl refl refl refl refl)
      (subst (λ (cs : List (ℕ × Cell)). AtHome key.locks graph c.owner c.queue (put c.guard n 0)
      (homes_after s.homes cs gives)) (sym top) (record {
        deep = length-set s.homes (64 + n) (some (Line v.list)) ∙ r.homes.deep;
        nodes = λ m l clear. set_else s.homes (64 + n) m (some (Line v.list))
            (λ z. let a = r.counted.size in let b = r.counted.graph.few in omega arith) ∙ r.homes.nodes m l clear;
        lists = λ m l. dite (ℕ_discrete m n)
            (λ is _. ap (λ (y : ℕ). get_elem? (set s.homes (64 + n) (some (Line v.list))) (64 + y)) is
            ∙ set_here s.homes (64 + n) (some (Line v.list)) (omega arith)
            ∙ ap (λ (x : List Entry). some (some (Line x))) (k.queues.list n may.inside ∙ ap c.queue (sym is)))
            (λ isnt z. set_else s.homes (64 + n) (64 + m) (some (Line v.list)) (λ y. isnt (omega arith))
            ∙ r.homes.lists m l (sym (put_else c.guard n 0 m isnt) ∙ z));
      }))

  -- join: the owner word was another's, and has WAITERS now
  pub join_makes : (n : ℕ) (o : Owner) → MayJoin me.0.part.core n o → IsValid o → get_or s.words (lock_at key.locks n) 0 ≡ packed o
      → Makes key s r (Join me.0.part.core.who n) (stepped s (lock_at key.locks n) (packed (with_waiters o)) id me.1 (joining me.0 n o) keeps)
  join_makes n o may valid hit = let c = r.core in let v = me.0.part.core in let k = mine.part.knows in
      let low = inside_low n may.inside in let is = found n o low valid hit in
      let can = shows_join c v law k n o (signed_owns_outside c r.reached) may is in
      makes (Join v.who n) (lock_at key.locks n) (packed (with_waiters o)) (queued v n o) keeps refl refl (λ m. refl) can
      (mine_join c v law k n o may.inside may.not_waiting is can) r.drawn r.counted
      (owner_set c (Join v.who n) can.base law.base key.locks key.places r.all s.words r.words n (packed (with_waiters o)) low
      (λ m far. far) refl refl refl refl refl
      (ap (λ (x : Owner). packed (with_waiters x)) is ∙ ap packed (sym (word_join c v.who n law.base))))
      (list_inside c.queue c.guard v.who n (joined (c.queue n) (waiter_of c v.who))
      can.base.inside.guard r.homes)

  -- die: the owner word has no flag if nobody is left in the list
  pub die_makes : (n : ℕ) (o : Owner) (j : ℕ) → MayDie me.0.part.core n o j → IsValid o → get_or s.words (lock_at key.locks n) 0 ≡ packed o
      → Makes key s r (Die me.0.part.core.who n)
      (stepped s (lock_at key.locks n) (packed (rest_word (left me.0.part.core.list me.0.part.core.who) o)) id me.1
      (dying me.0 o) keeps)
  die_makes n o j may valid hit = let c = r.core in let v = me.0.part.core in let k = mine.part.knows in
      let low = inside_low n may.inside in let is = found n o low valid hit in
      let can = shows_die c v law k n o j may is in let x = packed (rest_word (left v.list v.who) o) in
      makes (Die v.who n) (lock_at key.locks n) x (died v o) keeps refl refl (λ m. refl) can (mine_die c v law k n o may.inside is can) r.drawn r.counted
      (owner_set c (Die v.who n) can.base law.base key.locks key.places r.all s.words r.words n x low (λ m far. far) refl refl refl refl refl
      ((λ i. packed (rest_word (left (k.queues.list n may.inside i) v.who) (is i)))
      ∙ ap packed (sym (word_die c v.who n law.base can.base))))
      (list_inside c.queue c.guard v.who n (left (c.queue n) v.who) can.base.inside.guard r.homes)

  -- ask: HANDOFF stands beside WAITERS now
  pub ask_makes : (n : ℕ) (o : Owner) → MayAsk me.0.part.core n o → IsValid o → get_or s.words (lock_at key.locks n) 0 ≡ packed o
      → Makes key s r (Ask me.0.part.core.who n) (stepped s (lock_at key.locks n) (packed (asked_word o)) id me.1 (asking me.0 o) keeps)
  ask_makes n o may valid hit = let c = r.core in let v = me.0.part.core in let k = mine.part.knows in
      let low = inside_low n may.inside in let is = found n o low valid hit in
      let can = shows_ask c v law k n o may is in
      makes (Ask v.who n) (lock_at key.locks n) (packed (asked_word o)) (has_asked v o) keeps refl refl (λ m. refl) can
      (mine_ask c v law k n o may.inside is can) r.drawn r.counted
      (owner_set c (Ask v.who n) can.base law.base key.locks key.places r.all s.words r.words n (packed (asked_word o)) low
      (λ m far. far) refl refl refl refl refl
      (ap (λ (x : Owner). packed (asked_word x)) is ∙ ap packed (sym (word_ask c v.who n can.base))))
      (record { deep = r.homes.deep; nodes = r.homes.nodes; lists = r.homes.lists })

  -- take: the lock was free, or handed to the seat; the node slot comes out below the list slot
  pub take_makes : (n : ℕ) (o : Owner) (y : Cell) (cs : List (ℕ × Cell)) → n < length (first_graph key)
      → MayTake me.0.part.core n o → IsValid o → get_or s.words (lock_at key.locks n) 0 ≡ packed o → me.1 ≡ (64 + n, y) ∷ cs
      → Makes key s r (Take me.0.part.core.who n)
      (stepped s (lock_at key.locks n) (packed (taken_word me.0.part.core.who me.0.part.core.stamp
      (left me.0.part.core.list me.0.part.core.who))) id me.1
      (taking_inside me.0 n (node_at graph n)) (chain gives (chain (takes n (Content (node_at graph n))) (takes (64 + n) y))))
  take_makes n o y cs small may valid hit top = let c = r.core in let v = me.0.part.core in
      let k = mine.part.knows in let low = inside_low n may.inside in let is = found n o low valid hit in
      let can = shows_take c v law k n o (signed_owns_outside c r.reached) may is in let deep = r.homes.deep in
      let q = left (c.queue n) v.who in let x = node_at graph n in let room = mine.room in
      let w = packed (taken_word v.who v.stamp (left v.list v.who)) in
      let act : Act Cell = chain gives (chain (takes n (Content x)) (takes (64 + n) y)) in
      moves.makes key s r id me here seated (Take v.who n) (lock_at key.locks n) w (taken v n) (set me.0.held n (Some x))
      act refl refl can (mine_take c v law k n may.inside can)
      (length-set me.0.held n (Some x) ∙ mine.room)
      (λ m own in_graph. dite (ℕ_discrete m n)
      (λ e. ap (get_elem? (set me.0.held n (Some x))) e ∙ set_here me.0.held n (Some x) (omega arith)
      ∙ ap (λ (j : ℕ). some (Some (node_at graph j))) (sym e))
      (λ isnt. set_else me.0.held n m (Some x) isnt ∙ mine.held m (sym (get_or-set_other v.owned n m true false isnt) ∙ own) in_graph))
      r.drawn r.counted
      (owner_set c (Take v.who n) can.base law.base key.locks key.places r.all s.words r.words n w low (λ m far. far) refl refl refl refl refl
      ((λ i. packed (taken_word v.who (k.itself.stamp i) (left (k.queues.list n may.inside i) v.who)))
      ∙ ap packed (sym (word_take c v.who n))))
      (subst (λ (z : List (ℕ × Cell)). AtHome key.locks graph (put c.owner n (Taken v.who)) (put c.queue n q)
      c.guard (homes_after s.homes z act)) (sym top)
      (let h1 = set s.homes (64 + n) (some y) in let h2 = set h1 n none in
      list_inside c.queue c.guard v.who n q
      can.base.inside.guard (record {
        deep = length-set h2 (64 + n) none ∙ length-set h1 n none ∙ length-set s.homes (64 + n) (some y) ∙ r.homes.deep;
        nodes = λ m l. put_cases c.owner n (Taken v.who) m
            (λ p. ((t : ℕ) → p ≢ Taken t) → get_elem? (set h2 (64 + n) none) m
            ≡ some (some (Content (node_at graph m)))) (λ _ clear. absurd (clear v.who refl))
            (λ isnt clear. let far : m ≢ 64 + n = (λ z. let a = r.counted.size in let b = r.counted.graph.few in omega arith) in
            set_else h2 (64 + n) m none far ∙ set_else h1 n m none isnt ∙ set_else s.homes (64 + n) m (some y) far
            ∙ r.homes.nodes m l clear);
        lists = λ m l free. let isnt : 64 + m ≢ 64 + n =
            λ z. (let g = can.base.inside.guard in let g' = ap c.guard (let same : m ≡ n = omega arith in same) in
            omega arith) in
            set_else h2 (64 + n) (64 + m) none isnt
            ∙ set_else h1 n (64 + m) none (λ z. let a = r.counted.size in let b = r.counted.graph.few in
            omega arith) ∙ set_else s.homes (64 + n) (64 + m) (some y) isnt ∙ r.homes.lists m l free;
      })))

  -- give: the owner word was that of the seat, with the flags that the list and HANDOFF give
  pub give_makes : (n : ℕ) (o : Owner) (x : Node) → MayGive me.0.part.core n → get_elem? me.0.held n ≡ some (Some x)
      → IsValid o → get_or s.words (lock_at key.locks n) 0 ≡ packed o → me.1 ≡ (n, Content x) ∷ rest me.1
      → Makes key s r (Give me.0.part.core.who n)
      (stepped s (lock_at key.locks n) (packed (given_word (o.flags == 3) me.0.part.core.list)) id me.1
      (giving_inside me.0 n (o.flags == 3)) gives)
  give_makes n o x may has valid hit top = let c = r.core in let v = me.0.part.core in let k = mine.part.knows in
      let low = inside_low n may.inside in let b = o.flags == 3 in
      let asked : b ≡ c.asked n = asked_is c n o (found n o low valid hit) v.who law (k.owned.has n may.owns) in
      let can = shows_give c v law k n may in let deep = r.homes.deep in let g = given_to (c.asked n) (c.queue n) in
      let value : x ≡ node_at graph n = (let p : some (Some x) ≡ some (Some (node_at graph n)) = sym has
      ∙ mine.held n may.owns (let room = mine.room in let low' = place_low me.0.held n (Some x) has in
      omega arith) in cc) in
      moves.makes key s r id me here seated (Give v.who n) (lock_at key.locks n) (packed (given_word b v.list))
      (given v n b) (set me.0.held n None) gives refl refl can (mine_give c v law k n b may.inside asked can)
      (length-set me.0.held n None ∙ mine.room)
      (λ m own' in_graph. dite (ℕ_discrete m n)
      (λ e. absurd (true≢false (sym own' ∙ ap (λ i. get_or (set v.owned n false) i false) e
      ∙ get_or-set_same v.owned n false false (let z = k.owned.room in let y = r.locks in omega arith))))
      (λ isnt. set_else me.0.held n m None isnt ∙ mine.held m (sym (get_or-set_other v.owned n m false false isnt) ∙ own') in_graph))
      r.drawn r.counted
      (owner_set c (Give v.who n) can.base law.base key.locks key.places r.all s.words r.words n (packed (given_word b v.list)) low
      (λ m far. far) refl refl refl refl refl
      ((λ i. packed (given_word (asked i) (k.queues.list n may.inside i))) ∙ ap packed (sym (word_give c v.who n law.base))))
      (subst (λ (z : List (ℕ × Cell)). AtHome key.locks graph (put c.owner n g) c.queue c.guard
      (homes_after s.homes z gives)) (sym top) (record {
        deep = length-set s.homes n (some (Content x)) ∙ r.homes.deep;
        nodes = λ m low' clear. dite (ℕ_discrete m n)
            (λ e. ap (get_elem? (set s.homes n (some (Content x)))) e
            ∙ set_here s.homes n (some (Content x))
            (let room = mine.room in let low' = place_low me.0.held n (Some x) has in let f = r.fits in
            omega arith) ∙ ap (λ (y : Node). some (some (Content y))) (value ∙ ap (node_at graph) (sym e)))
            (λ isnt. set_else s.homes n m (some (Content x)) isnt
            ∙ r.homes.nodes m low' (λ t z. clear t (put_else c.owner n g m isnt ∙ z)));
        lists = λ m l' free. set_else s.homes n (64 + m) (some (Content x))
            (λ z. let a = r.counted.size in let b = r.counted.graph.few in let room = mine.room in
            let low' = place_low me.0.held n (Some x) has in omega arith) ∙ r.homes.lists m l' free;
      }))

  -- take of a lock that guards no node: the list stays out, and nothing comes
  pub take_bare_makes : (n : ℕ) (o : Owner) → length (first_graph key) ≤ n → MayTake me.0.part.core n o → IsValid o
      → get_or s.words (lock_at key.locks n) 0 ≡ packed o
      → Makes key s r (Take me.0.part.core.who n)
      (stepped s (lock_at key.locks n) (packed (taken_word me.0.part.core.who me.0.part.core.stamp
      (left me.0.part.core.list me.0.part.core.who))) id me.1
      (knowing me.0 (taken me.0.part.core n)) keeps)
  take_bare_makes n o big may valid hit = let c = r.core in let v = me.0.part.core in let k = mine.part.knows in
      let low = inside_low n may.inside in let is = found n o low valid hit in
      let can = shows_take c v law k n o (signed_owns_outside c r.reached) may is in
      let q = left (c.queue n) v.who in let w = packed (taken_word v.who v.stamp (left v.list v.who)) in
      moves.makes key s r id me here seated (Take v.who n) (lock_at key.locks n) w (taken v n) me.0.held keeps refl refl can
      (mine_take c v law k n may.inside can)
      mine.room
      (λ m own in_graph. mine.held m (sym (get_or-set_other v.owned n m true false (λ z. omega arith)) ∙ own) in_graph)
      r.drawn r.counted
      (owner_set c (Take v.who n) can.base law.base key.locks key.places r.all s.words r.words n w low (λ m far. far) refl refl refl refl refl
      ((λ i. packed (taken_word v.who (k.itself.stamp i) (left (k.queues.list n may.inside i) v.who)))
      ∙ ap packed (sym (word_take c v.who n))))
      (list_inside c.queue c.guard v.who n q can.base.inside.guard (record {
        deep = r.homes.deep;
        nodes = λ m low'. put_cases c.owner n (Taken v.who) m
            (λ p. ((t : ℕ) → p ≢ Taken t) → get_elem? s.homes m ≡ some (some (Content (node_at graph m))))
            (λ _ clear. absurd (clear v.who refl)) (λ _ clear. r.homes.nodes m low' clear);
        lists = r.homes.lists;
      }))

  -- give of a lock that guards no node
  pub give_bare_makes : (n : ℕ) (o : Owner) → length (first_graph key) ≤ n → MayGive me.0.part.core n → IsValid o
      → get_or s.words (lock_at key.locks n) 0 ≡ packed o
      → Makes key s r (Give me.0.part.core.who n)
      (stepped s (lock_at key.locks n) (packed (given_word (o.flags == 3) me.0.part.core.list)) id me.1
      (knowing me.0 (given me.0.part.core n (o.flags == 3))) keeps)
  give_bare_makes n o big may valid hit = let c = r.core in let v = me.0.part.core in let k = mine.part.knows in
      let low = inside_low n may.inside in let b = o.flags == 3 in
      let asked : b ≡ c.asked n = asked_is c n o (found n o low valid hit) v.who law (k.owned.has n may.owns) in
      let can = shows_give c v law k n may in let g = given_to (c.asked n) (c.queue n) in
      moves.makes key s r id me here seated (Give v.who n) (lock_at key.locks n) (packed (given_word b v.list))
      (given v n b) me.0.held keeps refl refl can (mine_give c v law k n b may.inside asked can)
      mine.room
      (λ m own' in_graph. mine.held m (sym (get_or-set_other v.owned n m false false (λ z. omega arith)) ∙ own') in_graph)
      r.drawn r.counted
      (owner_set c (Give v.who n) can.base law.base key.locks key.places r.all s.words r.words n (packed (given_word b v.list)) low
      (λ m far. far) refl refl refl refl refl
      ((λ i. packed (given_word (asked i) (k.queues.list n may.inside i))) ∙ ap packed (sym (word_give c v.who n law.base))))
      (record {
        deep = r.homes.deep;
        nodes = λ m low' clear. r.homes.nodes m low'
            (λ t z. clear t (put_else c.owner n g m (λ e. let a = r.counted.size in omega arith) ∙ z));
        lists = r.homes.lists;
      })

  -- leave: the owner word has no flag if nobody is left in the list
  pub leave_makes : (n : ℕ) (o : Owner) → MayStop me.0.part.core n → IsValid o → get_or s.words (lock_at key.locks n) 0 ≡ packed o
      → Makes key s r (Leave me.0.part.core.who n)
      (stepped s (lock_at key.locks n) (packed (rest_word (left me.0.part.core.list me.0.part.core.who) o)) id me.1
      (stopping me.0 o) keeps)
  leave_makes n o may valid hit = let c = r.core in let v = me.0.part.core in let k = mine.part.knows in
      let low = inside_low n may.inside in let is = found n o low valid hit in
      let can = shows_leave c v law k n may in let x = packed (rest_word (left v.list v.who) o) in
      makes (Leave v.who n) (lock_at key.locks n) x (interrupted v o) keeps refl refl (λ m. refl) can
      (mine_leave c v law k n o may.inside is can) r.drawn r.counted
      (owner_set c (Leave v.who n) can.base law.base key.locks key.places r.all s.words r.words n x low (λ m far. far) refl refl refl refl refl
      ((λ i. packed (rest_word (left (k.queues.list n may.inside i) v.who) (is i)))
      ∙ ap packed (sym (word_leave c v.who n law.base can.base))))
      (list_inside c.queue c.guard v.who n (left (c.queue n) v.who) can.base.inside.guard r.homes)

  -- ---- cancels

  -- what is counted of the seat becomes this, with as many draws
  recounted : (cancel : ℕ → ℕ) (more : Counts) → more.draws ≡ (r.counts me.0.part.core.who).draws
      → Balanced cancel (put r.counts me.0.part.core.who more)
      → Counted key r.all r.core.commits cancel r.log (put r.counts me.0.part.core.who more)
  recounted cancel more same balanced = let w = me.0.part.core.who in
      let same_draws = λ (t : ℕ). put_cases r.counts w more t (λ y. y.draws ≡ (r.counts t).draws)
      (λ is. same ∙ ap (λ (y : ℕ). (r.counts y).draws) (sym is)) (λ _. refl) in record {
        legal = r.counted.legal;
        graph = r.counted.graph;
        size = r.counted.size;
        front = r.counted.front;
        stamps = r.counted.stamps ∙ sym (total_alike key.places (λ t. (put r.counts w more t).draws) (λ t. (r.counts t).draws) same_draws);
        balanced = balanced;
        strangers = λ t big. put_else r.counts w more t (λ e. let own = mine.part.number in omega arith) ∙ r.counted.strangers t big;
        few = λ t. subst (λ (y : ℕ). y < 2 ^ 52) (sym (same_draws t)) (r.counted.few t);
        brief = r.counted.brief;
        callers = r.counted.callers;
      }

  -- set_cancel: the cancel word was 0
  pub cancel_makes : (u : ℕ) → IsAway me.0.part.core → u < key.places → get_or s.words (lock_at key.locks key.locks + 8 * u + 1) 0 ≡ 0
      → Makes key s r (Cancel me.0.part.core.who u) (stepped s (lock_at key.locks key.locks + 8 * u + 1) (me.0.part.core.who + 1) id me.1 (cancelling me.0 u) keeps)
  cancel_makes u away low hit = let c = r.core in let v = me.0.part.core in let k = mine.part.knows in
      let free : c.cancel u ≡ 0 = sym (r.words.cancels u low) ∙ hit in
      let can = shows_cancel c v law k u away (let z = r.places in omega arith) free in
      let more = with_cancelled c.cancel r.counts r.counted.balanced v.who u in
      moves.makes_all key s r id me here seated (Cancel v.who u) (lock_at key.locks key.locks + 8 * u + 1) (v.who + 1)
      (record (me.0.part) { counts = record (me.0.part.counts) { cancelled = u ∷ me.0.part.counts.cancelled } })
      me.0.held keeps
      r.log (put r.counts v.who more) r.all refl refl can (mine_cancel c v law k u can)
      (ap (λ (y : Counts). record y { cancelled = u ∷ y.cancelled }) mine.part.counted ∙ sym (put_here r.counts v.who more)) mine.part.own
      (record {
        counts_stay = λ t ne. put_else r.counts v.who more t ne;
        parts_stay = λ t _. refl;
        nodes_stay = λ t n _ _. refl;
      }) mine.room mine.held
      r.drawn (recounted (put c.cancel u (v.who + 1)) more refl (cancelled_on c.cancel r.counts r.counted.balanced v.who u free))
      (cancel_set c (Cancel v.who u) can.base law.base key.locks key.places r.all s.words r.words u (v.who + 1) low (λ m. tt) refl refl refl refl refl)
      (record { deep = r.homes.deep; nodes = r.homes.nodes; lists = r.homes.lists })

  -- heed: the own cancel word was this, and becomes 0
  pub heed_makes : (n mark : ℕ) → MayHeed me.0.part.core n → mark ≡ r.core.cancel me.0.part.core.who → mark ≢ 0
      → Makes key s r (Heed me.0.part.core.who n) (stepped s (lock_at key.locks key.locks + 8 * me.0.part.core.who + 1) 0 id me.1 (heeding me.0 mark) keeps)
  heed_makes n mark may is isnt = let c = r.core in let v = me.0.part.core in let k = mine.part.knows in
      let pending : c.cancel v.who ≢ 0 = λ z. isnt (is ∙ z) in
      let can = shows_heed c v law k n may pending in let more = with_heeded c.cancel r.counts r.counted.balanced v.who in
      moves.makes_all key s r id me here seated (Heed v.who n) (lock_at key.locks key.locks + 8 * v.who + 1) 0
      (record (me.0.part) {
        core = has_heeded v mark;
        counts = record (me.0.part.counts) { heeded = (mark - 1) ∷ me.0.part.counts.heeded };
      }) me.0.held keeps
      r.log (put r.counts v.who more) r.all refl refl can
      (subst (λ (x : ℕ). Knows (after c (Heed v.who n)) (has_heeded v x)) (sym is) (mine_heed c v law k n can))
      (ap (λ (y : Counts). record y { heeded = (mark - 1) ∷ y.heeded }) mine.part.counted
      ∙ ap (λ (x : ℕ). record (r.counts v.who) { heeded = (x - 1) ∷ (r.counts v.who).heeded }) is
      ∙ sym (put_here r.counts v.who more)) mine.part.own
      (record {
        counts_stay = λ t ne. put_else r.counts v.who more t ne;
        parts_stay = λ t _. refl;
        nodes_stay = λ t m _ _. refl;
      }) mine.room mine.held
      r.drawn (recounted (put c.cancel v.who 0) more refl (heeded_on c.cancel r.counts r.counted.balanced v.who pending))
      (cancel_set c (Heed v.who n) can.base law.base key.locks key.places r.all s.words r.words v.who 0
      (let z = k.itself.seat in let y = r.places in omega arith) (λ m. tt) refl refl refl refl refl)
      (record { deep = r.homes.deep; nodes = r.homes.nodes; lists = r.homes.lists })

  -- sign: the sign word was 0
  pub sign_makes : (n u j : ℕ) → MaySign me.0.part.core n u j → u < key.places → get_or s.words (lock_at key.locks key.locks + 8 * u) 0 ≡ 0
      → Makes key s r (Sign me.0.part.core.who u) (stepped s (lock_at key.locks key.locks + 8 * u) j id me.1 (condemning me.0 u) keeps)
  sign_makes n u j may low hit = let c = r.core in let v = me.0.part.core in let k = mine.part.knows in
      let can = shows_sign c v law k n u j may (sym (r.words.signs u low) ∙ hit) in
      makes (Sign v.who u) (lock_at key.locks key.locks + 8 * u) j (has_condemned v u) keeps refl refl (λ m. refl) can (mine_sign c v law k u can) r.drawn r.counted
      (sign_set c (Sign v.who u) can.base law.base key.locks key.places r.all s.words r.words u j low (λ m. tt) refl refl
      (ap (put c.sign u) (sign_is c v law k n u j may can)) refl refl)
      (record { deep = r.homes.deep; nodes = r.homes.nodes; lists = r.homes.lists })

  -- clear: 0 is stored in the own sign word
  pub clear_makes : MayClear me.0.part.core
      → Makes key s r (Clear me.0.part.core.who)
      (stepped s (lock_at key.locks key.locks + 8 * me.0.part.core.who) 0 id me.1 (clearing me.0) keeps)
  clear_makes may = let c = r.core in let v = me.0.part.core in let k = mine.part.knows in let can = shows_clear c v law k may in
      makes (Clear v.who) (lock_at key.locks key.locks + 8 * v.who) 0 (cleared v) keeps refl refl (λ m. refl) can (mine_clear c v law k can (clear_quiet v may)) r.drawn r.counted
      (sign_set c (Clear v.who) can.base law.base key.locks key.places r.all s.words r.words v.who 0
      (let z = k.itself.seat in let y = r.places in omega arith) (λ m. tt) refl refl refl refl refl)
      (record { deep = r.homes.deep; nodes = r.homes.nodes; lists = r.homes.lists })
