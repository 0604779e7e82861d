-- Whatever a step of the table tells its caller, it was a play.
use Rattle.std.proofs.Common.{◌≡◌, ◌≢◌, ℕ, zero, suc, ◌+◌, ◌*◌, ◌%◌, ◌^◌, ◌<◌, ◌≤◌, ◌==◌, nat_lt, if◌then◌else◌, Bool, true, false, true≢false, List, ◌∷◌, length, set, Option, Some, None, refl, sym, ap, ◌∙◌, subst, inl, inr, ⊎_elim, eq-eqb, ne_eqb, lt_of_not-le, arith}
use Rattle.std.proofs.lemmas.Grind.{common_steps}
use mathlib.Core.Logic.{dite}
use mathlib.Core.Option.{some, none}
use mathlib.Core.Option as maybe
use native.Mathlib.Decide.{ℕ_discrete, dec_le}
use lib.ListN.{get_elem?}
use prog.Atomic.{either}
use Rattle.atomic_table.specs.Table.{Act, keeps, takes, gives, chain, Valid, carried_after, step, stepped, rest}
use Rattle.atomic_table.specs.Table as table
use Rattle.atomic_table.proofs.Lists.{set_here, set_else}
use Rattle.ww_word.specs.declared.owner.Owner.{Owner}
use Rattle.ww_word.specs.Owner.{with_waiters}
use Rattle.ww_word.specs.AnySeats.{IsValid, packed, most_for, unflagged}
use Rattle.ww_queue.specs.declared.kind.Kind.{Kind}
use Rattle.ww_queue.specs.declared.kind.Kind.TheVariants.{WoundWait, WaitDie}
use Rattle.ww_queue.specs.declared.entry.Entry.{Entry}
use Rattle.ww_queue.specs.Queue.{left}
use Rattle.ww_model.specs.declared.state.Holder.TheVariants.{Taken}
use Rattle.ww_model.specs.declared.event.Event.TheVariants.{Begin, Fast, FastGive, Guard, Sign, Take, Commit, End, Cancel, Heed}
use Rattle.ww_model.specs.State.{any_below}
use Rattle.ww_model.specs.Lawful.{IsLawful}
use Rattle.ww_model.proofs.Kept.{reached_is_lawful}
use Rattle.ww_model.proofs.Outcomes.{number_same}
use Rattle.ww_model.proofs.Slots.{below_found, found_below}
use Rattle.ww_plain.specs.declared.node.Node.{Node}
use Rattle.ww_plain.specs.declared.history.Record.{Record}
use Rattle.ww_plain.specs.History.{recorded_of}
use Rattle.ww_plain.proofs.Members.{true_or_false}
use Rattle.ww_view.specs.declared.view.View.{View}
use Rattle.ww_view.specs.View.{owns, IsAway, IsBare, IsQuiet}
use Rattle.ww_view.specs.Word.{taken_word, asked_word, given_word, rest_word}
use Rattle.ww_view.specs.May.{MayFast, MayEnter, MayTake, MayHeed, MaySign, MayLeave}
use Rattle.ww_view.specs.Made as made
use Rattle.ww_invariant.specs.declared.cells.Cell.{Cell}
use Rattle.ww_invariant.specs.declared.cells.Cell.TheVariants.{Content, Line}
use Rattle.ww_invariant.specs.declared.cells.Sight.{Sight}
use Rattle.ww_invariant.specs.declared.cells.Start.{Start}
use Rattle.ww_invariant.specs.Layout.{lock_at, owner_at, guard_at, sign_at, cancel_at, stamp_at, front_at, list_at}
use Rattle.ww_invariant.specs.Rule.{St, Sat, first_graph, Sits}
use Rattle.ww_invariant.specs.Steps.{knowing, taker, taking, giving, drawing, drawing_none, placing, MayDraw, MayEnd, MayPlace, draws_to, takes_to, gives_to, takes_bare_to, gives_bare_to, ends_to, places_to}
use Rattle.ww_invariant.specs.Guards.{entering, exiting, enters_to, exits_to, looks_to}
use Rattle.ww_invariant.specs.Waiting.{tries_to, under_top, joining, joins, taking_inside, takes_inside, takes_bare_inside, giving_inside, gives_inside, gives_bare_inside, asking, asks, dying, dies, dies_to}
use Rattle.ww_invariant.specs.Signs.{condemning, clearing, signs_to, reads_to}
use Rattle.ww_invariant.specs.Cancels.{cancelling, heeding, stopping, stops, cancels_to, heeds_to, leaves_to}
use Rattle.ww_invariant.proofs.Fits.{place_low}
use Rattle.ww_invariant.proofs.Moves as moves
use Rattle.ww_invariant.proofs.InsideMoves as inside
use Rattle.ww_laws.specs.Scene.{Step, performs, finds_no_sign, finds_no_cancel}
use Rattle.ww_refines.specs.Tables.{TableMoment}
use Rattle.ww_refines.specs.Plays as play
use Rattle.ww_refines.specs.Plays.{Plays, IsFound, word, node_there}
use Rattle.ww_refines.specs.Told.{AreOut, StandsThere, IsPlay, Exchanges, Loads, Stores, Swaps, Adds, where_0, where_left, way_out, OutsideSteps, GuardSteps, WordSteps, StepsArePlays}
use Rattle.ww_refines.proofs.Outs.{same_homes, first_came, second_came}

module _ {key : Start} (m : TableMoment key) (id : ℕ) (me : Sat) (h : StandsThere m id me) where
  abbrev v : View
  v = me.0.part.core

  abbrev homes : List (maybe.Option Cell)
  homes = m.table.homes

  mine : Sits key m.ruled.core m.ruled.log m.ruled.at m.ruled.counts id me.0
  mine = m.ruled.seats id me.0 h.here h.seated

  law : IsLawful m.ruled.core
  law = reached_is_lawful m.ruled.core m.ruled.reached

  same_room : (v.room ≡ key.locks) × (v.seats ≡ key.places)
  same_room = moves.room_is key m.table m.ruled id me h.here h.seated

  at_room : (n : ℕ) → lock_at key.locks n ≡ lock_at v.room n
  at_room n = ap (λ (l : ℕ). lock_at l n) (sym same_room.0)

  guard_there : (n : ℕ) → lock_at key.locks n + 1 ≡ lock_at v.room n + 1
  guard_there n = ap (λ (i : ℕ). i + 1) (at_room n)

  sign_there : (s : ℕ) → lock_at key.locks key.locks + 8 * s ≡ lock_at v.room v.room + 8 * s
  sign_there s = ap (λ (l : ℕ). lock_at l l + 8 * s) (sym same_room.0)

  cancel_there : (s : ℕ) → lock_at key.locks key.locks + 8 * s + 1 ≡ lock_at v.room v.room + 8 * s + 1
  cancel_there s = ap (λ (i : ℕ). i + 1) (sign_there s)

  -- ---- what is told, and what was played

  -- the seat is left the same, so the table is
  played : {p : Option Step} {w : Sight} (i x : ℕ) (a : Act Cell) (w' : Sight) (b : Act Cell)
      → Valid homes me.1 a × Valid homes me.1 b → ◌≡◌ {A = Sat} (w, carried_after me.1 a) (w', carried_after me.1 b)
      → Plays m id me p (stepped m.table i x id me.1 w' b) → Plays m id me p (stepped m.table i x id me.1 w a)
  played {p = p} i x a w' b valid told plays =
      let same = same_homes homes me.1 a b h.out valid.0 valid.1 (ap (λ (z : Sat). z.1) told) in
      subst (λ (z : Sight × List (maybe.Option Cell)). let s : St = record {
        words = set m.table.words i x;
        homes = z.1;
        views = set m.table.views id z.0;
      } in Plays m id me p s) (λ j. ((sym told j).0, sym same j)) plays

  -- it found something only
  found : {w : Sight} (i : ℕ) (a : Act Cell) (u : View) → IsFound m id me i u → Valid homes me.1 a
      → ◌≡◌ {A = Sat} (w, carried_after me.1 a) (knowing me.0 u, me.1)
      → Plays m id me None (stepped m.table i (word m id me i) id me.1 w a)
  found i a u is valid told = played i (word m id me i) a (knowing me.0 u) keeps (valid, tt) told (play.finds i u is)

  by_word : (x old : ℕ) (F : Bool → Type 0) → (x ≡ old → F true) → (x ≢ old → F false) → F (x == old)
  by_word x old F hit miss = dite (ℕ_discrete x old) (λ e. subst F (sym (eq-eqb x old e)) (hit e))
      (λ ne. subst F (sym (ne_eqb x old ne)) (miss ne))

  exchange : (i old new : ℕ) (s : Step) (tells : table.Step Cell → Sat → ℕ → Sat → Type 0)
      → ((slots : ℕ) → word m id me i ≡ old → IsPlay m id me (Some s) i new (tells (step slots i old new none) me (word m id me i)))
      → ((slots : ℕ) → word m id me i ≢ old
      → IsPlay m id me None i (word m id me i) (tells (step slots i old new none) me (word m id me i)))
      → Exchanges m id me i old new s tells
  exchange i old new s tells hit miss slots = let x : ℕ = word m id me i in
      by_word x old (λ (b : Bool). IsPlay m id me (if b then Some s else None) i (either b new x)
      (tells (step slots i old new none) me x)) (hit slots) (miss slots)

  -- ---- outside

  draw_plays : MayDraw me.0.part → Adds m id me stamp_at 1 (where_left m id me) draws_to
  draw_plays may slots w a valid told = let x : ℕ = word m id me stamp_at in let t = told refl in
      let up : x + 1 ≡ (x + 1) % 2 ^ 64 = (let few = t.0 in omega arith) in
      let limit : most_for v.seats ≡ most_for key.places = ap most_for same_room.1 in
      dite (dec_le (most_for key.places) x)
      (λ spent. let is : nat_lt x (most_for key.places) ≡ false = grind (arith, common_steps) in
      subst (λ (z : Bool × ℕ). Plays m id me (if z.0 then Some (performs (Begin v.who)) else None) (stepped m.table stamp_at z.1 id me.1 w a))
      (λ j. (sym is j, up j))
      (played stamp_at (x + 1) a (drawing_none me.0) keeps (valid, tt) (t.2 (omega arith)) (play.draws_none may spent)))
      (λ left. let low = lt_of_not-le left in let is : nat_lt x (most_for key.places) ≡ true = grind (arith, common_steps) in
      subst (λ (z : Bool × ℕ). Plays m id me (if z.0 then Some (performs (Begin v.who)) else None) (stepped m.table stamp_at z.1 id me.1 w a))
      (λ j. (sym is j, up j))
      (played stamp_at (x + 1) a (drawing me.0 (x + 1)) keeps (valid, tt) (t.1 (omega arith)) (play.draws may low)))

  -- the node of a lock that nobody has taken is at home
  node_home : (n : ℕ) → n < length (first_graph key) → ((t : ℕ) → m.ruled.core.owner n ≢ Taken t)
      → get_elem? homes n ≡ some (some (Content (node_there m id me n)))
  node_home n small clear = m.ruled.homes.nodes n (let z = m.ruled.counted.size in omega arith) clear

  take_free_plays : (n : ℕ) → n < length (first_graph key) → MayFast v
      → Exchanges m id me (owner_at key.locks n) 0 (packed (taker v)) (performs (Fast v.who n)) takes_to
  take_free_plays n small may = exchange (owner_at key.locks n) 0 (packed (taker v)) (performs (Fast v.who n)) takes_to
      (λ slots free w a valid told. let t = (told n (at_room n)).0 free in let x : Node = node_there m id me n in
      let made = moves.fast_makes key m.table m.ruled id me h.here h.seated n small may free in
      let home = node_home n small (λ u own. let z = sym made.can.base.idle.free ∙ own in absurd cc) in
      let cells : Content t.0 ≡ Content x = first_came homes me.1 a h.out valid me.1 n (Content t.0) (Content x)
      (ap (λ (z : Sat). z.1) t.2) home in
      let same : t.0 ≡ x = cc in
      played (owner_at key.locks n) (packed (taker v)) a (taking me.0 n x) (takes n (Content x)) (valid, home)
      (t.2 ∙ ap (λ (y : Node). let z : Sat = (taking me.0 n y, (n, Content y) ∷ me.1) in z) same)
      (play.takes_free n small may free))
      (λ slots isnt w a valid told. found (owner_at key.locks n) a (made.fast_missed v) (play.misses _) valid ((told n (at_room n)).1 isnt))

  give_free_plays : (n : ℕ) (x : Node) → n < length (first_graph key) → IsAway v → owns v n ≡ true
      → get_elem? me.0.held n ≡ some (Some x) → me.1 ≡ (n, Content x) ∷ rest me.1
      → Exchanges m id me (owner_at key.locks n) (packed (taker v)) 0 (performs (FastGive v.who n)) gives_to
  give_free_plays n x small away own has top =
      exchange (owner_at key.locks n) (packed (taker v)) 0 (performs (FastGive v.who n)) gives_to
      (λ slots is w a valid told. played (owner_at key.locks n) 0 a (giving me.0 n) gives (valid, tt) ((told n (at_room n)).0 is)
      (play.gives_free n x small away own has top is))
      (λ slots isnt w a valid told. found (owner_at key.locks n) a (made.fast_kept v) (play.keeps_it _) valid ((told n (at_room n)).1 isnt))

  take_bare_plays : (n : ℕ) → length (first_graph key) ≤ n → n < key.locks → MayFast v
      → Exchanges m id me (owner_at key.locks n) 0 (packed (taker v)) (performs (Fast v.who n)) takes_bare_to
  take_bare_plays n big low may = exchange (owner_at key.locks n) 0 (packed (taker v)) (performs (Fast v.who n)) takes_bare_to
      (λ slots free w a valid told. played (owner_at key.locks n) (packed (taker v)) a (knowing me.0 (made.fast_taken v n)) keeps (valid, tt) ((told n (at_room n)).1 free)
      (play.takes_bare n big low may free))
      (λ slots isnt w a valid told. let t = told n (at_room n) in elim (true_or_false (owns v n)) [
        | inl own ↦ found (owner_at key.locks n) a v (play.tells_nothing _) valid (t.2 isnt own)
        | inr lacks ↦ found (owner_at key.locks n) a (made.fast_missed v) (play.misses _) valid (t.3 isnt lacks)
      ])

  give_bare_plays : (n : ℕ) → length (first_graph key) ≤ n → n < key.locks → IsAway v
      → Exchanges m id me (owner_at key.locks n) (packed (taker v)) 0 (performs (FastGive v.who n)) gives_bare_to
  give_bare_plays n big low away = exchange (owner_at key.locks n) (packed (taker v)) 0 (performs (FastGive v.who n)) gives_bare_to
      (λ slots is w a valid told. let t = told n (at_room n) in
      let own : owns v n ≡ true = t.0 ∙ number_same _ _ (ap unflagged is) in
      played (owner_at key.locks n) 0 a (knowing me.0 (made.fast_given v n)) keeps (valid, tt) (t.1 is) (play.gives_bare n big low away own is))
      (λ slots isnt w a valid told. let t = told n (at_room n) in elim (true_or_false (owns v n)) [
        | inl own ↦ found (owner_at key.locks n) a (made.fast_kept v) (play.keeps_it _) valid (t.2 isnt own)
        | inr lacks ↦ found (owner_at key.locks n) a v (play.tells_nothing _) valid (t.3 isnt lacks)
      ])

  end_plays : MayEnd v → Loads m id me (sign_at key.locks v.who) (where_0 m id me (Some (performs (End v.who))) None) ends_to
  end_plays may slots w a valid told = let i : ℕ = sign_at key.locks v.who in let x : ℕ = word m id me i in
      let t = told (sign_there v.who) in
      by_word x 0 (λ (b : Bool). Plays m id me (if b then Some (performs (End v.who)) else None) (stepped m.table i x id me.1 w a))
      (λ free. played i x a (knowing me.0 (made.ended v)) keeps (valid, tt) (t.0 free) (play.ends may free))
      (λ other. found i a (made.has_read v x) (play.is_signed other) valid (t.1 other))

  place_plays : (done : Record) → MayPlace me.0 (recorded_of done)
      → Adds m id me front_at 1 (λ _. Some (performs (Commit v.who))) (places_to (Some done))
  place_plays done may slots w a valid told = let x : ℕ = word m id me front_at in let t = told done refl in
      let up : x + 1 ≡ (x + 1) % 2 ^ 64 = (let few = t.2 in omega arith) in
      subst (λ (z : ℕ). Plays m id me (Some (performs (Commit v.who))) (stepped m.table front_at z id me.1 w a)) up
      (played front_at (x + 1) a (placing me.0 x done) keeps (valid, tt) t.0 (play.places done may))

  set_cancel_plays : (u : ℕ) → u < key.seats → IsAway v
      → Exchanges m id me (cancel_at key.locks u) 0 (v.who + 1) (performs (Cancel v.who u)) cancels_to
  set_cancel_plays u low away = exchange (cancel_at key.locks u) 0 (v.who + 1) (performs (Cancel v.who u)) cancels_to
      (λ slots free w a valid told. played (cancel_at key.locks u) (v.who + 1) a (cancelling me.0 u) keeps (valid, tt) ((told u (cancel_there u)).0 free)
      (play.cancels u away low free))
      (λ slots isnt w a valid told. found (cancel_at key.locks u) a (made.found_pending v) (play.pending_already _) valid ((told u (cancel_there u)).1 isnt))

  pub outside_steps : OutsideSteps m id me
  outside_steps = record {
    draw = draw_plays;
    take_free = take_free_plays;
    give_free = give_free_plays;
    take_bare = take_bare_plays;
    give_bare = give_bare_plays;
    has = λ n low away slots w a valid told. found (owner_at key.locks n) a v (play.tells_nothing _) valid told.0;
    whose = λ n low slots w a valid told. found (owner_at key.locks n) a
        (made.has_seen_word v n (word m id me (owner_at key.locks n))) (play.sees n low) valid (told.1 n (at_room n)).0;
    end = end_plays;
    place = place_plays;
    glance = λ n low may slots w a valid told. found (owner_at key.locks n) a (made.glanced v) (play.glances _) valid told.1;
    begun = λ may slots w a valid told. found stamp_at a (made.glanced v) (play.glances _) valid told;
    set_cancel = set_cancel_plays;
  }

  -- ---- at a guard

  enter_plays : (n : ℕ) → n < key.locks → MayEnter v n
      → Exchanges m id me (guard_at key.locks n) 0 (suc v.who) (performs (Guard v.who n)) enters_to
  enter_plays n low may = exchange (guard_at key.locks n) 0 (suc v.who) (performs (Guard v.who n)) enters_to
      (λ slots free w a valid told. let t = (told n (guard_there n)).0 free in let q : List Entry = m.ruled.core.queue n in
      let home = m.ruled.homes.lists n low (sym (m.ruled.words.guards n low) ∙ free) in
      let lines : Line t.0 ≡ Line q = first_came homes me.1 a h.out valid me.1 (list_at n) (Line t.0) (Line q)
      (ap (λ (z : Sat). z.1) t.3) home in
      let same : t.0 ≡ q = cc in
      played (guard_at key.locks n) (suc v.who) a (entering me.0 n q) (takes (list_at n) (Line q)) (valid, home)
      (t.3 ∙ ap (λ (l : List Entry). let z : Sat = (entering me.0 n l, (list_at n, Line l) ∷ me.1) in z) same)
      (play.enters n low may free))
      (λ slots isnt w a valid told. found (guard_at key.locks n) a (made.shut_out v) (play.is_shut_out _) valid ((told n (guard_there n)).1 isnt))

  -- who waits is inside no guard but that of the lock that it waits for
  own_guard : (k n : ℕ) → v.waits ≡ suc k → v.inside ≡ suc n → v.waits ≡ suc n
  own_guard k n waits in_guard = let stands = mine.part.knows.queues.waited k waits in
      waits ∙ ap suc (law.base.guards.own_guard k n stands.0 stands.1
      ((mine.part.knows.guard.guards n in_guard).1 ∙ ap suc (sym stands.2)))

  exit_plays : (n : ℕ) (heeds : Bool) → MayLeave v n → (heeds ≡ true → v.uncancelled ≡ true)
      → me.1 ≡ (list_at n, Line v.list) ∷ rest me.1
      → Stores m id me (guard_at key.locks n) 0 (Some (way_out m id me v.waits n heeds)) exits_to
  exit_plays n heeds may calm top slots w a valid told = go v.waits refl
    where
      go : (k : ℕ) → v.waits ≡ k
          → Plays m id me (Some (way_out m id me k n heeds)) (stepped m.table (guard_at key.locks n) 0 id me.1 w a)
      go zero out = played (guard_at key.locks n) 0 a (exiting me.0) gives (valid, tt) told (play.exits n may.exit out top)
      go (suc k) waits = played (guard_at key.locks n) 0 a (exiting me.0) gives (valid, tt) told
          (play.exits_to_sleep n heeds may (own_guard k n waits may.exit.inside) calm top)

  look_plays : (n : ℕ) → v.inside ≡ suc n → Loads m id me (owner_at key.locks n) (λ _. None) looks_to
  look_plays n in_guard slots w a valid told =
      found (owner_at key.locks n) a (made.has_looked v told.0) (play.looks n told.0 in_guard told.1 told.2) valid told.3

  sign_plays : (n u k : ℕ) → u < key.places → MaySign v n u k
      → Exchanges m id me (sign_at key.locks u) 0 k (performs (Sign v.who u)) signs_to
  sign_plays n u k low may = exchange (sign_at key.locks u) 0 k (performs (Sign v.who u)) signs_to
      (λ slots free w a valid told. played (sign_at key.locks u) k a (condemning me.0 u) keeps (valid, tt) ((told u (sign_there u)).0 free)
      (play.signs n u k may low free))
      (λ slots isnt w a valid told. found (sign_at key.locks u) a (made.noted v u) (play.signed_already u low isnt) valid ((told u (sign_there u)).1 isnt))

  -- whether it owns a lock
  is_bare? : Dec (IsBare v)
  is_bare? = elim (true_or_false (any_below (length v.owned) (owns v))) [
    | inl any ↦ let it = below_found (length v.owned) (owns v) any in no (λ bare. true≢false (sym it.2 ∙ bare it.0))
    | inr nobody ↦ yes (λ n. elim (true_or_false (owns v n)) [
      | inl own ↦ absurd (true≢false (sym (found_below (length v.owned) (owns v) n (low n own) own) ∙ nobody))
      | inr lacks ↦ lacks
    ])
  ]
    where
      low : (n : ℕ) → owns v n ≡ true → n < length v.owned
      low n own = dite (dec_le m.ruled.core.locks n)
          (λ far. absurd (let z = sym (law.base.owners.beyond n far) ∙ mine.part.knows.owned.has n own in cc))
          (λ near. let same = mine.part.knows.owned.room in omega arith)

  is_quiet? : Dec (IsQuiet v)
  is_quiet? = go v.kind refl
    where
      go : (kind : Kind) → v.kind ≡ kind → Dec (IsQuiet v)
      go WaitDie is = dite is_bare? (λ bare. yes (inl bare))
          (λ isnt. dite (ℕ_discrete v.inside 0) (λ out. no (λ quiet. ⊎_elim (λ bare. isnt bare) (λ z. z.1 out) quiet))
          (λ in_guard. yes (inr (is, in_guard))))
      go WoundWait is = dite is_bare? (λ bare. yes (inl bare))
          (λ isnt. no (λ quiet. ⊎_elim (λ bare. isnt bare) (λ z. let w = sym is ∙ z.0 in cc) quiet))

  own_sign_plays : Loads m id me (sign_at key.locks v.who) (where_0 m id me (Some (finds_no_sign v.who)) None) reads_to
  own_sign_plays slots w a valid told = let i : ℕ = sign_at key.locks v.who in let x : ℕ = word m id me i in
      let t = told (sign_there v.who) in
      by_word x 0 (λ (b : Bool). Plays m id me (if b then Some (finds_no_sign v.who) else None) (stepped m.table i x id me.1 w a))
      (λ free. dite is_quiet?
      (λ quiet. played i x a (knowing me.0 (made.has_read v 0)) keeps (valid, tt) (t.1 free quiet) (play.finds_unsigned_for_long free quiet))
      (λ loud. played i x a (knowing me.0 (made.found_none v)) keeps (valid, tt) (t.2 free loud) (play.finds_unsigned free)))
      (λ other. found i a (made.has_read v x) (play.is_signed other) valid (t.0 other))

  heed_plays : (n : ℕ) → MayHeed v n
      → Swaps m id me (cancel_at key.locks v.who) 0
      (where_0 m id me (Some (finds_no_cancel v.who)) (Some (performs (Heed v.who n)))) heeds_to
  heed_plays n may slots w a valid told = let i : ℕ = cancel_at key.locks v.who in let x : ℕ = word m id me i in
      let t = told (cancel_there v.who) in
      by_word x 0 (λ (b : Bool). Plays m id me (if b then Some (finds_no_cancel v.who) else Some (performs (Heed v.who n)))
      (stepped m.table i 0 id me.1 w a))
      (λ free. subst (λ (y : ℕ). Plays m id me (Some (finds_no_cancel v.who)) (stepped m.table i y id me.1 w a)) free
      (played i x a (knowing me.0 (made.found_uncancelled v)) keeps (valid, tt) (t.0 free) (play.finds_uncancelled free)))
      (λ other. played i 0 a (heeding me.0 x) keeps (valid, tt) (t.1 other) (play.heeds n may other))

  pub guard_steps : GuardSteps m id me
  guard_steps = record {
    enter = enter_plays;
    exit = exit_plays;
    look = look_plays;
    sign = sign_plays;
    own_sign = own_sign_plays;
    clear = λ may slots w a valid told. played (sign_at key.locks v.who) 0 a (clearing me.0) keeps (valid, tt) (told (sign_there v.who)) (play.clears may);
    heed = heed_plays;
  }

  -- ---- on an owner word inside

  module _ (n : ℕ) (o : Owner) (valid : IsValid o) where
    tries : (new : ℕ) (s : Step) (tells : table.Step Cell → Sat → ℕ → Sat → Type 0) (wins : ℕ → Owner → Sat → Sat → Type 0)
        → ((st : table.Step Cell) (x : ℕ) (me' : Sat) → tells st me x me' → tries_to wins st me x me')
        → ((w : Sight) (a : Act Cell) → Valid homes me.1 a → word m id me (owner_at key.locks n) ≡ packed o
        → wins n o me (w, carried_after me.1 a) → Plays m id me (Some s) (stepped m.table (owner_at key.locks n) new id me.1 w a))
        → Exchanges m id me (owner_at key.locks n) (packed o) new s tells
    tries new s tells wins so hit = exchange (owner_at key.locks n) (packed o) new s tells
        (λ slots is w a fits told. hit w a fits is ((so _ _ _ told n o (at_room n, valid, refl)).0 is))
        (λ slots isnt w a fits told. found (owner_at key.locks n) a (made.stepped v) (play.loses _) fits ((so _ _ _ told n o (at_room n, valid, refl)).1 isnt))

    take_act : Node → Cell → Act Cell
    take_act x y = chain gives (chain (takes n (Content x)) (takes (list_at n) y))

    take_plays : (y : Cell) (others : List (ℕ × Cell)) → n < length (first_graph key) → MayTake v n o
        → me.1 ≡ (list_at n, y) ∷ others
        → Exchanges m id me (owner_at key.locks n) (packed o) (packed (taken_word v.who v.stamp (left v.list v.who)))
        (performs (Take v.who n)) (tries_to takes_inside)
    unfolding take_act
    take_plays y others small may top = tries _ _ (tries_to takes_inside) takes_inside (λ st x me' t. t)
        (λ w a fits is won. let x : Node = node_there m id me n in
        let made = inside.take_makes key m.table m.ruled id me h.here h.seated n o y others small may valid is top in
        let home = node_home n small (λ u own. ⊎_elim (λ z. let e = sym z ∙ own in absurd cc) (λ z. let e = sym z ∙ own in absurd cc)
        made.can.base.free) in
        let out : get_elem? homes (list_at n) ≡ some none = (subst (λ (l : List (ℕ × Cell)). AreOut homes l) top h.out).0 in
        let slots : carried_after me.1 a ≡ (list_at n, y) ∷ (n, Content won.0) ∷ others =
        ap (λ (z : Sat). z.1) won.2 ∙ ap (under_top (n, Content won.0)) top in
        let cells : Content won.0 ≡ Content x = second_came homes me.1 a h.out fits others (list_at n, y) n (Content won.0) (Content x)
        (λ z. omega arith) slots home in
        let same : won.0 ≡ x = cc in
        played (owner_at key.locks n) (packed (taken_word v.who v.stamp (left v.list v.who))) a (taking_inside me.0 n x) (take_act x y) (
          fits,
          subst (λ (l : List (ℕ × Cell)). Valid homes l (take_act x y)) (sym top) (
            tt,
            (
              set_else homes (list_at n) n (some y) (λ z. omega arith) ∙ home,
              set_else (set homes (list_at n) (some y)) n (list_at n) none (λ z. omega arith)
                  ∙ set_here homes (list_at n) (some y) (place_low homes (list_at n) none out),
            ),
          ),
        )
        (won.2 ∙ ap (λ (z : Node). let s : Sat = (taking_inside me.0 n z, under_top (n, Content z) me.1) in s) same
        ∙ (λ j. (taking_inside me.0 n x, (ap (under_top (n, Content x)) top ∙ sym (ap (λ (l : List (ℕ × Cell)). carried_after l (take_act x y)) top)) j)))
        (play.takes_inside n o y others small may valid is top))

    pub word_steps : WordSteps m id me n o
    word_steps = record {
      join = λ may. tries _ _ (tries_to joins) joins (λ st x me' t. t)
          (λ w a fits is won. played (owner_at key.locks n) (packed (with_waiters o)) a (joining me.0 n o) keeps (fits, tt) won.0 (play.joins n o may valid is));
      ask = λ may. tries _ _ (tries_to asks) asks (λ st x me' t. t)
          (λ w a fits is won. played (owner_at key.locks n) (packed (asked_word o)) a (asking me.0 o) keeps (fits, tt) won (play.asks n o may valid is));
      take = take_plays;
      take_bare_inside = λ big may. tries _ _ (tries_to takes_bare_inside) takes_bare_inside (λ st x me' t. t)
          (λ w a fits is won. played (owner_at key.locks n) (packed (taken_word v.who v.stamp (left v.list v.who))) a (knowing me.0 (made.taken v n)) keeps (fits, tt) won.0 (play.takes_bare_inside n o big may valid is));
      give = λ x may has top. tries _ _ (tries_to gives_inside) gives_inside (λ st y me' t. t)
          (λ w a fits is won. played (owner_at key.locks n) (packed (given_word (o.flags == 3) v.list)) a (giving_inside me.0 n (o.flags == 3)) gives (fits, tt) won
          (play.gives_inside n o x may has valid is top));
      give_bare_inside = λ big may. tries _ _ (tries_to gives_bare_inside) gives_bare_inside (λ st x me' t. t)
          (λ w a fits is won. played (owner_at key.locks n) (packed (given_word (o.flags == 3) v.list)) a (knowing me.0 (made.given v n (o.flags == 3))) keeps (fits, tt) won
          (play.gives_bare_inside n o big may valid is));
      die = λ k may. tries _ _ dies_to dies (λ st x me' t. t.0)
          (λ w a fits is won. played (owner_at key.locks n) (packed (rest_word (left v.list v.who) o)) a (dying me.0 o) keeps (fits, tt) won.0 (play.dies n o k may valid is));
      leave = λ may. tries _ _ leaves_to stops (λ st x me' t. t.0)
          (λ w a fits is won. played (owner_at key.locks n) (packed (rest_word (left v.list v.who) o)) a (stopping me.0 o) keeps (fits, tt) won.0 (play.leaves n o may valid is));
    }

pub steps_are_plays : StepsArePlays
steps_are_plays key m id me h = record {
  outside = outside_steps m id me h;
  guards = guard_steps m id me h;
  words = λ n o valid. word_steps m id me h n o valid;
}
