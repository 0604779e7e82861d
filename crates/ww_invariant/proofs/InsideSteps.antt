-- Each step at a guard, inside it, on a sign or on a cancel, as the table asks for it.
use Rattle.std.proofs.Common.{◌≡◌, ◌≢◌, ℕ, zero, suc, ◌+◌, ◌*◌, ◌<◌, ◌≤◌, ◌==◌, ◌⊎◌, true, false, true≢false, List, [], ◌∷◌, length, get_or, set, sym, refl, ap, ◌∙◌, subst, inl, inr, ⊎_elim, arith, Bool, Some}
use mathlib.Core.Logic.{dite}
use mathlib.Core.Option.{none, some}
use native.Mathlib.Decide.{ℕ_discrete}
use lib.ListN.{get_elem?}
use Rattle.atomic_table.specs.Table.{Step, step, Act, keeps, takes, gives, chain, stepped, carried_after, Valid, Allows, rest}
use Rattle.atomic_table.proofs.Lists.{set_here, set_else, exchanged}
use Rattle.ww_word.specs.declared.owner.Owner.{Owner}
use Rattle.ww_word.specs.Owner.{idle, with_waiters}
use Rattle.ww_word.specs.AnySeats.{Fits, IsValid, packed}
use Rattle.ww_word.proofs.AnyWords.{packing_is_injective}
use Rattle.ww_queue.proofs.Rooms.{room_for}
use Rattle.ww_queue.specs.declared.kind.Kind.{Kind}
use Rattle.ww_queue.specs.declared.kind.Kind.TheVariants.{WoundWait, WaitDie}
use Rattle.ww_queue.specs.declared.entry.Entry.{Entry}
use Rattle.ww_queue.specs.Queue.{StandsNot, IsNewStamp, left}
use Rattle.ww_model.specs.declared.state.Holder.TheVariants.{Nobody, Taken}
use Rattle.ww_model.specs.State.{State}
use Rattle.ww_model.specs.Run.{Reached}
use Rattle.ww_model.proofs.Kept.{reached_is_lawful}
use Rattle.ww_model.proofs.Holders.{not_empty}
use Rattle.ww_model.proofs.Leaving.{waiters_are_seats}
use Rattle.ww_model.proofs.Ranges.{new_stamp}
use Rattle.ww_plain.proofs.Members.{true_or_false}
use Rattle.ww_plain.specs.declared.node.Node.{Node}
use Rattle.ww_plain.specs.Graph.{node_at}
use Rattle.ww_plain.specs.History.{last_graph}
use Rattle.ww_view.specs.declared.view.View.{View}
use Rattle.ww_model.specs.State.{word_of}
use Rattle.ww_view.specs.Word.{taken_word, asked_word, given_word, rest_word}
use Rattle.ww_view.specs.View.{owns, Knows, IsBare, IsQuiet, IsAway}
use Rattle.ww_view.specs.May.{MayEnter, MayExit, MayJoin, MayTake, MayGive, MayAsk, MayDie, MaySign, MayClear, MayHeed, MayStop}
use Rattle.ww_view.specs.Made as made
use Rattle.ww_view.proofs.Inside.{mine_look, mine_lost_sign, mine_read, mine_read_none, mine_glanced, mine_seen_word, mine_found_pending, mine_shut_out, mine_uncancelled, mine_stepped}
use Rattle.ww_view.proofs.Tells.{no_seat}
use Rattle.ww_view.proofs.Written.{HaveRoom, wide_found_is, wide_word_is_valid}
use Rattle.ww_invariant.specs.declared.cells.Cell.{Cell}
use Rattle.ww_invariant.specs.declared.cells.Cell.TheVariants.{Content, Line}
use Rattle.ww_invariant.specs.declared.cells.Start.{Start}
use Rattle.ww_invariant.specs.Layout.{lock_at, guard_at, sign_at, cancel_at}
use Rattle.ww_invariant.specs.Rule.{St, Sat, first_graph, Ruled}
use Rattle.ww_invariant.specs.Steps.{knowing, seeing, whose_to, IsToldBy}
use Rattle.ww_invariant.specs.Guards.{lost, AreSeats, IsSeenBy, entering, exiting, looking, glancing, enters_to, exits_to, looks_to, glances_to, counts_to}
use Rattle.ww_invariant.specs.Waiting.{HasListOnTop, StandsIfWaiting, Expects, IsStillThere, tries_to, HasPlace, joining, joins, taking_inside, under_top, takes_inside, giving_inside, gives_inside, takes_bare_inside, gives_bare_inside, asking, asks, dying, dies, dies_to}
use Rattle.ww_invariant.specs.Signs.{condemning, noting, having_read, finding_none, clearing, signs_to, reads_to, clears_to}
use Rattle.ww_invariant.specs.Cancels.{cancelling, heeding, stopping, stops, leaves_to, cancels_to, heeds_to}
use Rattle.ww_invariant.proofs.Moves.{Shot, on_owner, as_step, Exchanges, Hits, cas, looks, low, node_there, have_room, room_is, at_room, same_lock, idle_valid, told}
use Rattle.ww_invariant.proofs.Told.{stands_as, stands_there, seen_by, death_is_older}
use Rattle.ww_invariant.proofs.InsideMoves.{enter_makes, exit_makes, join_makes, take_makes, give_makes, take_bare_makes, give_bare_makes, ask_makes, die_makes, sign_makes, clear_makes, leave_makes, cancel_makes, heed_makes, mine, inside_low}

are_seats : (c : State) → Reached c → HaveRoom c → (n : ℕ) → AreSeats c.seats (c.queue n)
are_seats c run room n e has = let base = (reached_is_lawful c run).base in
    let small = waiters_are_seats c run n e has in
    (small, subst (Fits e.seat) (sym ((base.queues.at n).stamps e has)) (room e.seat small))

-- ---- owner words

-- what is told of a compare-exchange but for that the word is the one seen
abbrev ends_as : (ℕ → Owner → Sat → Sat → Type 0) → Step Cell → Sat → ℕ → Sat → Type 0
ends_as wins st m found m' = (n : ℕ) (o : Owner) → Expects m.0.part.core.room st n o → (found ≡ packed o → wins n o m m')
    × (found ≢ packed o → m' ≡ (lost m.0, m.1))

module _ (key : Start) (s : St) (r : Ruled key s) (id : ℕ) (me : Sat) (here : get_elem? s.views id ≡ some me.0)
    (seated : me.0.seated ≡ true) where
  -- inside, where nobody else writes it, the word that the seat saw last is still there
  word_is_seen : (n : ℕ) (o : Owner) → IsStillThere me.0.part.core n o → get_or s.words (lock_at key.locks n) 0 ≡ packed o
  word_is_seen n o sees = let k = (mine key s r id me here seated).part.knows in
      r.words.owners n (inside_low key s r id me here seated n sees.inside) ∙ ap packed (sym (k.seen n o sees.inside sees.seen sees.alone))

  stands : (n : ℕ) → me.0.part.core.inside ≡ suc n → StandsIfWaiting me.0.part.core
  stands = stands_there r.core me.0.part.core (reached_is_lawful r.core r.reached) (mine key s r id me here seated).part.knows

has_place : (c : State) → Reached c → c.seats < 4096 → (v : View) → Knows c v → (n : ℕ) → v.inside ≡ suc n → v.waits ≡ 0 → HasPlace v
has_place c run places v k n inside out = let list = k.queues.list n inside in
    let alone : StandsNot (c.queue n) v.who = λ e has is. (let z = k.queues.waits n (e, has, is) in omega arith) in record {
      room = let z = room_for c.seats (c.queue n) v.who ((reached_is_lawful c run).base.queues.at n).once
          (waiters_are_seats c run n) alone k.itself.seat in
          subst (λ (q : List Entry). length q < 4096) (sym list) (omega arith);
      seat = subst (λ (q : List Entry). StandsNot q v.who) (sym list) alone;
      stamp = subst (λ (x : List Entry × ℕ). IsNewStamp x.0 x.1) (λ i. (sym list i, sym k.itself.stamp i)) (new_stamp c run n v.who alone);
    }

-- there are fewer than 4,096 seats
few_places : (key : Start) (s : St) (r : Ruled key s) → r.core.seats < 4096
few_places key s r = let p = r.places in ⊎_elim (λ is. omega arith) (λ is. let b = is.1 in omega arith) r.sizes

-- the node of a lock that no seat has taken comes from home, below the list
takes_valid : (key : Start) (s : St) (r : Ruled key s) (n : ℕ) (y : Cell) (cs : List (ℕ × Cell))
    → n < length (first_graph key) → n < key.locks → ((u : ℕ) → r.core.owner n ≢ Taken u)
    → Valid s.homes ((64 + n, y) ∷ cs) (chain gives (chain (takes n (Content (node_at (last_graph (first_graph key) r.log) n))) (takes (64 + n) y)))
takes_valid key s r n y cs small few clear = let deep = r.homes.deep in (
  tt,
  (
    set_else s.homes (64 + n) n (some y) (λ z. omega arith) ∙ r.homes.nodes n (let z = r.counted.size in omega arith) clear,
    set_else (set s.homes (64 + n) (some y)) n (64 + n) none (λ z. omega arith) ∙ set_here s.homes (64 + n) (some y) (omega arith),
  ),
)

is_bare? : (owned : List Bool) → Dec ((n : ℕ) → get_or owned n false ≡ false)
is_bare? [] = yes (λ n. refl)
is_bare? (true ∷ owned) = no (λ bare. true≢false (bare 0))
is_bare? (false ∷ owned) = go (is_bare? owned)
  where
    each : ((n : ℕ) → get_or owned n false ≡ false) → (n : ℕ) → get_or (false ∷ owned) n false ≡ false
    each bare zero = refl
    each bare (suc n) = bare n

    go : Dec ((n : ℕ) → get_or owned n false ≡ false) → Dec ((n : ℕ) → get_or (false ∷ owned) n false ≡ false)
    go (yes bare) = yes (each bare)
    go (no isnt) = no (λ bare. isnt (λ n. bare (suc n)))

is_quiet? : (v : View) → Dec (IsQuiet v)
is_quiet? v = go (kind_is v.kind) (is_bare? v.owned) (ℕ_discrete v.inside 0)
  where
    kind_is : (kind : Kind) → (kind ≡ WaitDie) ⊎ (kind ≢ WaitDie)
    kind_is WaitDie = inl refl
    kind_is WoundWait = inr (λ z. cc)

    go : (v.kind ≡ WaitDie) ⊎ (v.kind ≢ WaitDie) → Dec (IsBare v) → Dec (v.inside ≡ 0) → Dec (IsQuiet v)
    go kind (yes bare) d = yes (inl bare)
    go (inl dies) (no isnt) (no inside) = yes (inr (dies, inside))
    go (inl dies) (no isnt) (yes out) = no (⊎_elim (λ bare. isnt bare) (λ z. z.1 out))
    go (inr wounds) (no isnt) d = no (⊎_elim (λ bare. isnt bare) (λ z. wounds z.0))

-- ---- a seat of the table

module _ (key : Start) (slots id : ℕ) (me : Sat) (seated : me.0.seated ≡ true) where
  abbrev view : View
  view = me.0.part.core

  -- ---- guards

  pub enters : (n : ℕ) → n < key.locks → MayEnter view n
      → Exchanges key slots id me (record { word = guard_at key.locks n; old = 0; new = suc view.who }) enters_to
  enters n small may = cas key slots id me seated
      (record { view = made.shut_out view; same = refl; has = λ m. refl; knows = λ c k. mine_shut_out c view k })
      (λ s r at hit. let q : List Entry = r.core.queue n in (
        entering me.0 n q,
        takes (64 + n) (Line q),
        r.homes.lists n small (sym (r.words.guards n small) ∙ hit),
        (enter_makes key s r id me at seated n small may hit).ruled,
        (λ j there. let e : n ≡ j = same_lock key s r id me at seated n j (omega arith) in (
          (λ _. (
            q,
            subst (λ (seats : ℕ). AreSeats seats q) (sym (mine key s r id me at seated).part.knows.itself.seats)
                (are_seats r.core r.reached (have_room key s r) n),
            stands_as r.core view (reached_is_lawful r.core r.reached) (mine key s r id me at seated).part.knows n j e,
            ap (λ (i : ℕ). let w : Sat = (entering me.0 i q, (64 + i, Line q) ∷ me.1) in w) e,
          )),
          λ no. absurd (no refl),
        )),
      ))
      (λ s r at ne j there. ((λ z. absurd (ne z)), λ _. refl))

  -- the seat as it was before it brought the list on top
  pub exits : (n i : ℕ) (m : Sat) → HasListOnTop m n me → i ≡ lock_at key.locks n + 1 → MayExit m.0.part.core n
      → Allows (Ruled key) slots id me i (λ _. 0) (λ _. exits_to (step slots i 0 0 none) me 0)
  exits n i m t is may s r deep at small = (
    exiting me.0,
    gives,
    tt,
    subst (λ (j : ℕ). Ruled key (stepped s j 0 id me.1 (exiting me.0) gives)) (sym is)
        (exit_makes key s r id me at seated n (subst (λ (w : Sat). MayExit w.0.part.core n) (sym t.now) may)
        (ap (λ (w : Sat). w.1) t.now ∙ (λ j. (64 + n, Line (sym t.now j).0.part.core.list) ∷ rest (sym t.now j).1))).ruled,
    refl,
  )

  pub looks_inside : (n i : ℕ) → i ≡ lock_at key.locks n → view.inside ≡ suc n
      → Allows (Ruled key) slots id me i (λ x. x) (looks_to (step slots i 0 0 none) me)
  looks_inside n i is inside s r deep at small = let c : State = r.core in
      let v : View = view in let o : Owner = word_of c n in (
        looking me.0 o,
        keeps,
        tt,
        looks key s r id me at seated i (made.has_looked v o) refl (λ m. refl)
            (mine_look c v (mine key s r id me at seated).part.knows n o inside refl),
        (
          o,
          wide_word_is_valid c n r.reached (have_room key s r),
          ap (λ (j : ℕ). get_or s.words j 0) is ∙ r.words.owners n (inside_low key s r id me at seated n inside),
          refl,
          (λ j there. subst (λ (t : ℕ). IsSeenBy v t o) (same_lock key s r id me at seated n j (sym is ∙ there))
              (seen_by c v (reached_is_lawful c r.reached) (mine key s r id me at seated).part.knows n o r.reached inside refl)),
        ),
      )

  pub glances_outside : (n i : ℕ) → i ≡ lock_at key.locks n → n < key.locks
      → Allows (Ruled key) slots id me i (λ x. x) (glances_to (step slots i 0 0 none) me)
  glances_outside n i is low s r deep at small = let c : State = r.core in let v : View = view in (
    glancing me.0,
    keeps,
    tt,
    looks key s r id me at seated i (made.glanced v) refl (λ m. refl) (mine_glanced c v (mine key s r id me at seated).part.knows),
    (
      (
        word_of c n,
        wide_word_is_valid c n r.reached (have_room key s r),
        ap (λ (j : ℕ). get_or s.words j 0) is ∙ r.words.owners n low,
      ),
      refl,
    ),
  )

  pub whose_anywhere : (n i : ℕ) → i ≡ lock_at key.locks n → n < key.locks
      → Allows (Ruled key) slots id me i (λ x. x) (whose_to (step slots i 0 0 none) me)
  whose_anywhere n i is low s r deep at small = let c : State = r.core in let v : View = view in let x : ℕ = get_or s.words i 0 in (
    seeing me.0 n x,
    keeps,
    tt,
    looks key s r id me at seated i (made.has_seen_word v n x) refl (λ m. refl) (mine_seen_word c v (mine key s r id me at seated).part.knows n x),
    (
      (
        word_of c n,
        wide_word_is_valid c n r.reached (have_room key s r),
        ap (λ (j : ℕ). get_or s.words j 0) is ∙ r.words.owners n low,
      ),
      λ j there. let e : n ≡ j = same_lock key s r id me at seated n j (sym is ∙ there) in (
        ap (λ (k : ℕ). let z : Sat = (seeing me.0 k x, me.1) in z) e,
        λ away. subst (λ (p : ℕ × ℕ). IsToldBy v p.0 (get_or s.words p.1 0)) (λ t. (e t, sym is t)) (told key s r id me at seated n low away),
        λ none. let free : c.owner n ≡ Nobody = no_seat c n idle (wide_found_is c n idle r.reached (have_room key s r) idle_valid
            (sym none ∙ ap (λ (k : ℕ). get_or s.words k 0) is ∙ r.words.owners n low)) refl in
            elim (true_or_false (owns v j)) [
              | inl own ↦ absurd (let has = sym free ∙ ap c.owner e ∙ (mine key s r id me at seated).part.knows.owned.has j own in cc)
              | inr lacks ↦ lacks
            ],
      ),
    ),
  )

  pub counts_outside : (i : ℕ) → Allows (Ruled key) slots id me i (λ x. x) (counts_to (step slots i 0 0 none) me)
  counts_outside i s r deep at small = let c : State = r.core in let v : View = view in (
    glancing me.0,
    keeps,
    tt,
    looks key s r id me at seated i (made.glanced v) refl (λ m. refl) (mine_glanced c v (mine key s r id me at seated).part.knows),
    refl,
  )

  -- ---- inside

  -- what a compare-exchange makes of an owner word that the seat expects to be this owner's
  expecting : (n : ℕ) (o p : Owner) (wins : ℕ → Owner → Sat → Sat → Type 0) → IsValid o
      → Hits key slots id me (on_owner key n (packed o) (packed p)) (λ _ m _. wins n o m)
      → Exchanges key slots id me (on_owner key n (packed o) (packed p)) (tries_to wins)
  expecting n o p wins valid hit = let ended : Exchanges key slots id me (on_owner key n (packed o) (packed p)) (ends_as wins) =
      cas key slots id me seated
      (record { view = made.stepped view; same = refl; has = λ m. refl; knows = λ c k. mine_stepped c view k })
      (λ s r at found. let h = hit s r at found in (
        h.0,
        h.1,
        h.2,
        h.3,
        (λ j q told. let e : n ≡ j = same_lock key s r id me at seated n j told.0 in let same = packing_is_injective o q valid told.1 told.2 in (
          (λ _. subst (λ (x : ℕ × Owner). wins x.0 x.1 me (h.0, carried_after me.1 h.1)) (λ i. (e i, same i)) h.4),
          λ no. absurd (no told.2),
        )),
      ))
      (λ s r at ne j q told. ((λ z. absurd (ne (z ∙ sym told.2))), λ _. refl)) in record {
        allowed = λ s r deep at small. let done = ended.allowed s r deep at small in (
          done.0,
          done.1,
          done.2,
          done.3,
          λ j q told. (
            (done.4 j q told).0,
            (done.4 j q told).1,
            λ sees. ap (λ (i : ℕ). get_or s.words i 0) (told.0 ∙ at_room key s r id me at seated j) ∙ word_is_seen key s r id me at seated j q sees,
          ),
        );
      }

  -- what a step tells its caller, and what follows of the number that it finds from the rule before it
  and_finds : (t : Shot) (then : Step Cell → Sat → ℕ → Sat → Type 0) (Q : Step Cell → Sat → ℕ → Type 0)
      → ((s : St) (r : Ruled key s) → get_elem? s.views id ≡ some me.0 → Q (as_step slots t) me (get_or s.words t.word 0))
      → Exchanges key slots id me t then → Exchanges key slots id me t (λ st m x m'. then st m x m' × Q st m x)
  and_finds t then Q tells e = record {
    allowed = λ s r deep at small. let h = e.allowed s r deep at small in (h.0, h.1, h.2, h.3, (h.4, tells s r at));
  }

  pub joins_list : (n : ℕ) (o : Owner) → MayJoin view n o → IsValid o
      → Exchanges key slots id me (on_owner key n (packed o) (packed (with_waiters o))) (tries_to joins)
  joins_list n o may valid = expecting n o (with_waiters o) joins valid
      (λ s r at hit. (
        joining me.0 n o,
        keeps,
        tt,
        (join_makes key s r id me at seated n o may valid hit).ruled,
        (
          refl,
          has_place r.core r.reached (few_places key s r) view (mine key s r id me at seated).part.knows n may.inside may.not_waiting,
        ),
      ))

  pub takes_lock : (n : ℕ) (o : Owner) → n < length (first_graph key) → MayTake view n o → IsValid o
      → me.1 ≡ (64 + n, Line view.list) ∷ rest me.1
      → Exchanges key slots id me (on_owner key n (packed o) (packed (taken_word view.who view.stamp (left view.list view.who)))) (tries_to takes_inside)
  takes_lock n o small may valid top = expecting n o (taken_word view.who view.stamp (left view.list view.who)) takes_inside valid
      (λ s r at hit. let x : Node = node_at (last_graph (first_graph key) r.log) n in let y : Cell = Line view.list in
      let m = take_makes key s r id me at seated n o y (rest me.1) small may valid hit top in
      let act : Act Cell = chain gives (chain (takes n (Content x)) (takes (64 + n) y)) in (
        taking_inside me.0 n x,
        act,
        subst (λ (l : List (ℕ × Cell)). Valid s.homes l act) (sym top)
            (takes_valid key s r n y (rest me.1) small (inside_low key s r id me at seated n may.inside)
            (λ u own. ⊎_elim (λ z. let w = sym z ∙ own in cc) (λ z. let w = sym z ∙ own in cc) m.can.base.free)),
        m.ruled,
        (
          x,
          node_there key s r id me at seated n small,
          subst (λ (l : List (ℕ × Cell)). let before : Sat = (taking_inside me.0 n x, carried_after l act) in
              let after : Sat = (taking_inside me.0 n x, under_top (n, Content x) l) in before ≡ after) (sym top) refl,
          stands key s r id me at seated n may.inside,
        ),
      ))

  pub gives_lock : (n : ℕ) (o : Owner) (x : Node) → MayGive view n → get_elem? me.0.held n ≡ some (Some x) → IsValid o
      → me.1 ≡ (n, Content x) ∷ rest me.1
      → Exchanges key slots id me (on_owner key n (packed o) (packed (given_word (o.flags == 3) view.list))) (tries_to gives_inside)
  gives_lock n o x may has valid top = expecting n o (given_word (o.flags == 3) view.list) gives_inside valid
      (λ s r at hit. (
        giving_inside me.0 n (o.flags == 3),
        gives,
        tt,
        (give_makes key s r id me at seated n o x may has valid hit top).ruled,
        refl,
      ))

  -- ... of locks that guard no node
  pub takes_lock_bare : (n : ℕ) (o : Owner) → length (first_graph key) ≤ n → MayTake view n o → IsValid o
      → Exchanges key slots id me (on_owner key n (packed o) (packed (taken_word view.who view.stamp (left view.list view.who)))) (tries_to takes_bare_inside)
  takes_lock_bare n o big may valid = expecting n o (taken_word view.who view.stamp (left view.list view.who)) takes_bare_inside valid
      (λ s r at hit. (
        knowing me.0 (made.taken view n),
        keeps,
        tt,
        (take_bare_makes key s r id me at seated n o big may valid hit).ruled,
        (refl, stands key s r id me at seated n may.inside),
      ))

  pub gives_lock_bare : (n : ℕ) (o : Owner) → length (first_graph key) ≤ n → MayGive view n → IsValid o
      → Exchanges key slots id me (on_owner key n (packed o) (packed (given_word (o.flags == 3) view.list))) (tries_to gives_bare_inside)
  gives_lock_bare n o big may valid = expecting n o (given_word (o.flags == 3) view.list) gives_bare_inside valid
      (λ s r at hit. (
        knowing me.0 (made.given view n (o.flags == 3)),
        keeps,
        tt,
        (give_bare_makes key s r id me at seated n o big may valid hit).ruled,
        refl,
      ))

  pub asks_lock : (n : ℕ) (o : Owner) → MayAsk view n o → IsValid o
      → Exchanges key slots id me (on_owner key n (packed o) (packed (asked_word o))) (tries_to asks)
  asks_lock n o may valid = expecting n o (asked_word o) asks valid
      (λ s r at hit. (asking me.0 o, keeps, tt, (ask_makes key s r id me at seated n o may valid hit).ruled, refl))

  pub dies_waiting : (n : ℕ) (o : Owner) (k : ℕ) → MayDie view n o k → IsValid o
      → Exchanges key slots id me (on_owner key n (packed o) (packed (rest_word (left view.list view.who) o))) dies_to
  dies_waiting n o k may valid = let p : Owner = rest_word (left view.list view.who) o in
      and_finds (on_owner key n (packed o) (packed p)) (tries_to dies)
      (λ _ me _. (m : ℕ) (p : Owner) (j : ℕ) → MayDie me.0.part.core m p j → j < me.0.part.core.stamp)
      (λ s r at m p j dies. death_is_older r.core view (reached_is_lawful r.core r.reached) (mine key s r id me at seated).part.knows m p j dies)
      (expecting n o p dies valid
      (λ s r at hit. (
        dying me.0 o,
        keeps,
        tt,
        (die_makes key s r id me at seated n o k may valid hit).ruled,
        (refl, stands key s r id me at seated n may.inside),
      )))

  -- ---- cancels

  pub stops_waiting : (n : ℕ) (o : Owner) → MayStop view n → IsValid o
      → Exchanges key slots id me (on_owner key n (packed o) (packed (rest_word (left view.list view.who) o))) leaves_to
  stops_waiting n o may valid = let p : Owner = rest_word (left view.list view.who) o in
      and_finds (on_owner key n (packed o) (packed p)) (tries_to stops)
      (λ st me x. (m : ℕ) (q : Owner) → MayStop me.0.part.core m → me.0.part.core.seen ≡ Some q → st.word ≡ lock_at me.0.part.core.room m → x ≡ packed q)
      (λ s r at m q stop saw there. let k = (mine key s r id me at seated).part.knows in let h = k.queues.waited m stop.waits in
      ap (λ (j : ℕ). get_or s.words j 0) (there ∙ at_room key s r id me at seated m) ∙ word_is_seen key s r id me at seated m q
      (record {
        inside = stop.inside;
        alone = inl (λ e. not_empty (r.core.queue m) h.0 h.1 (sym (k.queues.list m stop.inside) ∙ e));
        seen = saw;
      }))
      (expecting n o p stops valid
      (λ s r at hit. (
        stopping me.0 o,
        keeps,
        tt,
        (leave_makes key s r id me at seated n o may valid hit).ruled,
        (refl, stands key s r id me at seated n may.inside),
      )))

  pub cancels : (u : ℕ) → u < view.seats → IsAway view
      → Exchanges key slots id me (record { word = cancel_at view.room u; old = 0; new = view.who + 1 }) cancels_to
  cancels u low away = cas key slots id me seated
      (record { view = made.found_pending view; same = refl; has = λ m. refl; knows = λ c k. mine_found_pending c view k })
      (λ s r at hit. let same = room_is key s r id me at seated in
      let here : cancel_at key.locks u ≡ cancel_at view.room u = (let z = ap (λ (l : ℕ). lock_at l l) same.0 in omega arith) in (
        cancelling me.0 u,
        keeps,
        tt,
        subst (λ (j : ℕ). Ruled key (stepped s j (view.who + 1) id me.1 (cancelling me.0 u) keeps)) here
            (cancel_makes key s r id me at seated u away (let z = same.1 in omega arith)
            (ap (λ (j : ℕ). get_or s.words j 0) here ∙ hit)).ruled,
        (λ j there. let e : u ≡ j = omega arith in
            ((λ _. ap (λ (t : ℕ). let w : Sat = (cancelling me.0 t, me.1) in w) e), λ no. absurd (no refl))),
      ))
      (λ s r at ne j there. ((λ z. absurd (ne z)), λ _. refl))

  pub heeds : (n i : ℕ) → i ≡ cancel_at view.room view.who → MayHeed view n
      → Allows (Ruled key) slots id me i (λ _. 0) (heeds_to (step slots i 0 0 none) me)
  heeds n i there may s r deep at small = let x : ℕ = get_or s.words i 0 in
      let v : View = view in let k = (mine key s r id me at seated).part.knows in
      let same = room_is key s r id me at seated in
      let is : i ≡ lock_at key.locks key.locks + 8 * v.who + 1 = (let z = ap (λ (l : ℕ). lock_at l l) same.0 in omega arith) in
      let tells : x ≡ r.core.cancel v.who = ap (λ (j : ℕ). get_or s.words j 0) is
      ∙ r.words.cancels v.who (let z = k.itself.seat in let y = r.places in omega arith) in
      let few : x ≤ v.seats = (let z = (reached_is_lawful r.core r.reached).base.cancels.set v.who in
      let y = k.itself.seats in omega arith) in dite (ℕ_discrete x 0)
      (λ e. (
        knowing me.0 (made.found_uncancelled v),
        keeps,
        tt,
        subst (λ (y : ℕ). Ruled key (stepped s i y id me.1 (knowing me.0 (made.found_uncancelled v)) keeps)) e
            (looks key s r id me at seated i (made.found_uncancelled v) refl (λ m. refl)
            (mine_uncancelled r.core v k)),
        λ _. ((λ _. refl), (λ no. absurd (no e)), few),
      ))
      (λ ne. (
        heeding me.0 x,
        keeps,
        tt,
        subst (λ (j : ℕ). Ruled key (stepped s j 0 id me.1 (heeding me.0 x) keeps)) (sym is)
            (heed_makes key s r id me at seated n x may tells ne).ruled,
        λ _. ((λ e. absurd (ne e)), (λ _. refl), few),
      ))

  -- ---- signs

  pub signs : (n u k : ℕ) → u < view.seats → MaySign view n u k
      → Exchanges key slots id me (record { word = sign_at view.room u; old = 0; new = k }) signs_to
  signs n u k below may = record {
    allowed = λ s r deep at small. let x : ℕ = get_or s.words (sign_at view.room u) 0 in let v : View = view in
        let same_room = room_is key s r id me at seated in
        let is : sign_at v.room u ≡ lock_at key.locks key.locks + 8 * u = (let z = ap (λ (l : ℕ). lock_at l l) same_room.0 in omega arith) in
        let low : u < key.places = (let z = same_room.1 in omega arith) in
        let tells : x ≡ r.core.sign u = ap (λ (j : ℕ). get_or s.words j 0) is ∙ r.words.signs u low in
        let same : (w : ℕ) → sign_at v.room u ≡ sign_at v.room w → u ≡ w = λ w there. omega arith in dite (ℕ_discrete x 0)
        (λ e. (
          condemning me.0 u,
          keeps,
          tt,
          exchanged x 0 k (λ y. Ruled key (stepped s (sign_at v.room u) y id me.1 (condemning me.0 u) keeps))
              (λ _. subst (λ (j : ℕ). Ruled key (stepped s j k id me.1 (condemning me.0 u) keeps)) (sym is)
              (sign_makes key s r id me at seated n u k may low
              (ap (λ (j : ℕ). get_or s.words j 0) (sym is) ∙ e)).ruled)
              (λ ne. absurd (ne e)),
          (λ w there. ((λ _. ap (λ (t : ℕ). let m : Sat = (condemning me.0 t, me.1) in m) (same w there)), λ ne. absurd (ne e))),
        ))
        (λ ne. (
          noting me.0 u,
          keeps,
          tt,
          exchanged x 0 k (λ y. Ruled key (stepped s (sign_at v.room u) y id me.1 (noting me.0 u) keeps)) (λ e. absurd (ne e))
              (λ _. looks key s r id me at seated (sign_at v.room u) (made.noted v u) refl (λ m. refl)
              (mine_lost_sign r.core v (mine key s r id me at seated).part.knows u (λ z. ne (tells ∙ z)))),
          (λ w there. ((λ e. absurd (ne e)), λ _. ap (λ (t : ℕ). let m : Sat = (noting me.0 t, me.1) in m) (same w there))),
        ));
  }

  pub reads : (i : ℕ) → i ≡ sign_at view.room view.who → Allows (Ruled key) slots id me i (λ x. x) (reads_to (step slots i 0 0 none) me)
  reads i there s r deep at small = let x : ℕ = get_or s.words i 0 in
      let v : View = view in let k = (mine key s r id me at seated).part.knows in
      let is : i ≡ lock_at key.locks key.locks + 8 * v.who = (let z = ap (λ (l : ℕ). lock_at l l) (room_is key s r id me at seated).0 in omega arith) in
      let tells : x ≡ r.core.sign v.who = ap (λ (j : ℕ). get_or s.words j 0) is
      ∙ r.words.signs v.who (let z = k.itself.seat in let y = r.places in omega arith) in dite (ℕ_discrete x 0)
      (λ e. dite (is_quiet? v)
      (λ quiet. (
        having_read me.0 0,
        keeps,
        tt,
        looks key s r id me at seated i (made.has_read v 0) refl (λ n. refl) (mine_read r.core v k 0 (sym tells ∙ e) (λ _. quiet)),
        λ _. ((λ ne. absurd (ne e)), (λ _ _. refl), λ _ loud. absurd (loud quiet)),
      ))
      (λ loud. (
        finding_none me.0,
        keeps,
        tt,
        looks key s r id me at seated i (made.found_none v) refl (λ n. refl) (mine_read_none r.core v k),
        λ _. ((λ ne. absurd (ne e)), (λ _ quiet. absurd (loud quiet)), λ _ _. refl),
      )))
      (λ ne. (
        having_read me.0 x,
        keeps,
        tt,
        looks key s r id me at seated i (made.has_read v x) refl (λ n. refl) (mine_read r.core v k x (sym tells) (λ z. absurd (ne z))),
        λ _. ((λ _. refl), (λ e _. absurd (ne e)), λ e _. absurd (ne e)),
      ))

  pub clears : (i : ℕ) → i ≡ sign_at view.room view.who → MayClear view
      → Allows (Ruled key) slots id me i (λ _. 0) (λ _. clears_to (step slots i 0 0 none) me 0)
  clears i there may s r deep at small =
      let is : i ≡ lock_at key.locks key.locks + 8 * view.who = (let z = ap (λ (l : ℕ). lock_at l l) (room_is key s r id me at seated).0 in omega arith) in (
        clearing me.0,
        keeps,
        tt,
        subst (λ (j : ℕ). Ruled key (stepped s j 0 id me.1 (clearing me.0) keeps)) (sym is) (clear_makes key s r id me at seated may).ruled,
        λ _. refl,
      )

-- whatever the own sign says, the seat keeps its kind, its number, its context, its slots and what it waits for
pub read_is : (slots i : ℕ) (me me' : Sat) (x : ℕ) → i ≡ lock_at me.0.part.core.room me.0.part.core.room + 8 * me.0.part.core.who
    → reads_to (step slots i 0 0 none) me x me' → (w : View) × (◌≡◌ {A = Kind × (ℕ × ℕ)} (w.kind, (w.room, w.seats)) (me.0.part.core.kind, (me.0.part.core.room, me.0.part.core.seats)))
    × (w.who ≡ me.0.part.core.who) × (w.stamp ≡ me.0.part.core.stamp) × (w.waits ≡ me.0.part.core.waits)
    × (me' ≡ (knowing me.0 w, me.1))
read_is slots i me me' x is told = let v : View = me.0.part.core in let read = told is in dite (ℕ_discrete x 0)
    (λ e. dite (is_quiet? v) (λ quiet. (made.has_read v 0, refl, refl, refl, refl, read.1 e quiet))
    (λ loud. (made.found_none v, refl, refl, refl, refl, read.2 e loud)))
    (λ ne. (made.has_read v x, refl, refl, refl, refl, read.0 ne))
