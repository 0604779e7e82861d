-- Each step keeps the rule of the table, as the event that it is.
use Rattle.std.proofs.Common.{◌≡◌, ◌≢◌, ℕ, ◌+◌, ◌*◌, ◌<◌, ◌≤◌, ◌%◌, eqb, true, false, List, ◌∷◌, length, get_or, set, sym, refl, ap, ◌∙◌, subst, inl, inr, ⊎_elim, min, arith, true≢false, ◌-◌, ◌^◌, Option, Some, None, length-set, get_or-set_other, get_or-set_same, ◌==◌}
use mathlib.Core.Logic.{dite}
use mathlib.Core.Option.{none, some}
use native.Mathlib.Decide.{ℕ_discrete, dec_le}
use lib.ListN.{get_elem?}
use lib.Seq.{set-get_or}
use prog.Atomic.{either}
use Rattle.atomic_table.specs.Table.{Step, step, Act, keeps, takes, gives, stepped, homes_after, carried_after, Valid, Allows, rest}
use Rattle.atomic_table.proofs.Lists.{set_here, set_else, exchanged}
use Rattle.ww_word.specs.declared.owner.Owner.{Owner}
use Rattle.ww_word.specs.Owner.{idle}
use Rattle.ww_word.specs.AnySeats.{Fits, IsValid, packed, most_for, unflagged}
use Rattle.ww_word.proofs.AnyWords.{most_few, most_many}
use Rattle.ww_model.specs.declared.state.Holder.TheVariants.{Nobody, Taken}
use Rattle.ww_model.specs.declared.event.Event.{Event}
use Rattle.ww_model.specs.declared.event.Event.TheVariants.{Begin, Fast, FastGive, End}
use Rattle.ww_model.specs.State.{State, put}
use Rattle.ww_model.specs.Interrupts.{one_of}
use Rattle.ww_model.specs.Event.{Possible, after}
use Rattle.ww_model.specs.Lawful.{IsLawful}
use Rattle.ww_model.specs.Run.{further}
use Rattle.ww_model.proofs.Outcomes.{number_same}
use Rattle.ww_model.proofs.Puts.{put_here, put_else, put_cases}
use Rattle.ww_model.proofs.Kept.{reached_is_lawful}
use Rattle.ww_model.proofs.Ranges.{few_stamps}
use Rattle.ww_model.proofs.Meetings.{same_kind}
use Rattle.ww_model.proofs.Outside.{signed_owns_outside}
use Rattle.ww_plain.specs.declared.node.Node.{Node}
use Rattle.ww_plain.specs.Graph.{no_node, node_at, IsNodeOf}
use Rattle.ww_plain.proofs.GraphFacts.{all_item}
use Rattle.ww_plain.proofs.Members.{true_or_false}
use Rattle.ww_plain.specs.History.{Recorded, last_graph, part_of}
use Rattle.ww_view.specs.declared.view.View.{View}
use Rattle.ww_model.specs.State.{word_of}
use Rattle.ww_model.specs.Event.{actor}
use Rattle.ww_view.specs.View.{owns, Knows, IsAway}
use Rattle.ww_view.specs.May.{MayFast}
use Rattle.ww_view.specs.Made.{fast_taken, fast_missed, fast_given, fast_kept, begun, ended, has_read}
use Rattle.ww_model.proofs.Stays.{same_seats, same_locks}
use Rattle.ww_view.proofs.Shows.{shows_fast, shows_fast_give, shows_begin, shows_end}
use Rattle.ww_view.proofs.Mine.{mine_fast, mine_fast_give, mine_begin, mine_end}
use Rattle.ww_view.proofs.Inside.{mine_read, mine_missed, mine_kept}
use Rattle.ww_view.proofs.Written.{HaveRoom, wide_found_is, wide_word_is_valid, word_fast, word_fast_give}
use Rattle.ww_invariant.specs.declared.cells.Cell.{Cell}
use Rattle.ww_invariant.specs.declared.cells.Cell.TheVariants.{Content}
use Rattle.ww_invariant.specs.declared.cells.Counts.{Counts}
use Rattle.ww_invariant.specs.declared.cells.Part.{Part}
use Rattle.ww_invariant.specs.declared.cells.Sight.{Sight}
use Rattle.ww_invariant.specs.declared.cells.Start.{Start}
use Rattle.ww_invariant.specs.Layout.{lock_at, sign_at}
use Rattle.ww_invariant.proofs.Lies.{lock_same}
use Rattle.ww_invariant.specs.Rule.{St, Sat, first_graph, own_of, times, Shown, AtHome, Counted, PartFits, Sits, Ruled, MakesWith, Makes, Stays}
use Rattle.ww_invariant.specs.Steps.{knowing, taker, taking, giving, drawing, drawing_none, takes_to, gives_to, takes_bare_to, gives_bare_to, ends_to, draws_to, MayDraw, MayEnd, owns_to, IsToldBy}
use Rattle.ww_invariant.proofs.Totals.{total_one, total_under}
use Rattle.ww_invariant.proofs.Regions.{owner_set, drawn_set, none_set, spent_set}
use Rattle.ww_invariant.proofs.Told.{told_by}
use Rattle.ww_invariant.proofs.Fits.{seats_stay, there_kept, strange_on, Spares, part_on, sits_on, stays_as}

pub idle_valid : IsValid idle
idle_valid = record { seating = (refl, omega arith); flags = inl refl }

-- the counts of draws never end
pub all_room : (key : Start) (s : St) (r : Ruled key s) → r.all + 1 < 2 ^ 64
all_room key s r = let sum = r.counted.stamps in
    let most = total_under key.places (2 ^ 52) (λ t. (r.counts t).draws) r.counted.few in
    ⊎_elim (λ is. omega arith) (λ is. let b = is.1 in omega arith) r.sizes

-- with 16 seats the stamps never end
pub few_room : (key : Start) (s : St) (r : Ruled key s) → key.places ≡ 16 → r.all < most_for key.places
few_room key s r sixteen = let sum = r.counted.stamps in
    let most = total_under key.places (2 ^ 52) (λ t. (r.counts t).draws) r.counted.few in
    let limit = most_few key.places (omega arith) in omega arith

-- a word has room for each seat with its stamp
pub have_room : (key : Start) (s : St) (r : Ruled key s) → HaveRoom r.core
have_room key s r t small = let below = (reached_is_lawful r.core r.reached).base.stamps.below t in
    let places = r.places in let drawn = r.drawn in ⊎_elim
    (λ is. let few = few_stamps r.core r.reached in inl (omega arith, omega arith))
    (λ is. let a = is.0 in let b = is.1 in let limit = most_many key.places is.0 in inr (omega arith, omega arith)) r.sizes

module _ (key : Start) (s : St) (r : Ruled key s) (id : ℕ) (me : Sat) (here : get_elem? s.views id ≡ some me.0)
    (seated : me.0.seated ≡ true) where
  abbrev graph : List Node
  graph = last_graph (first_graph key) r.log

  pub law : IsLawful r.core
  law = reached_is_lawful r.core r.reached

  pub mine : Sits key r.core r.log r.at r.counts id me.0
  mine = r.seats id me.0 here seated

  -- what the found number tells
  pub found : (n : ℕ) (o : Owner) → n < key.locks → IsValid o → get_or s.words (lock_at key.locks n) 0 ≡ packed o → o ≡ word_of r.core n
  found n o low valid hit = wide_found_is r.core n o r.reached (have_room key s r) valid (sym hit ∙ r.words.owners n low)

  -- the seat as the owner of a lock is one that a word can tell
  pub taker_valid : IsValid (taker me.0.part.core)
  taker_valid = let k = mine.part.knows in record {
    seating = subst (Fits me.0.part.core.who) (sym k.itself.stamp) (have_room key s r me.0.part.core.who k.itself.seat);
    flags = inl refl;
  }

  -- of a seat that is away the word of a lock tells whether it owns that
  pub told : (n : ℕ) → n < key.locks → IsAway me.0.part.core → IsToldBy me.0.part.core n (get_or s.words (lock_at key.locks n) 0)
  told n low away = subst (IsToldBy me.0.part.core n) (sym (r.words.owners n low))
      (told_by r.core me.0.part.core law mine.part.knows away n
      (wide_word_is_valid r.core n r.reached (have_room key s r)) taker_valid)

  -- all locks of nodes are there
  pub low : (n : ℕ) → n < length (first_graph key) → n < key.locks
  low n small = let z = r.fits in omega arith

  -- a node of the fold is one of a graph of as many nodes as the view has room for
  pub node_there : (n : ℕ) → n < length (first_graph key) → IsNodeOf (length me.0.held) (node_at graph n)
  node_there n small = let z = r.counted.size in
      subst (λ (size : ℕ). IsNodeOf size (node_at graph n)) (r.counted.size ∙ sym mine.room)
      (all_item (IsNodeOf (length graph)) graph n no_node (omega arith) r.counted.graph.closed)

  -- the seat makes an event, and what the table has of it becomes p and the nodes held
  pub makes_all : (e : Event) (i x : ℕ) (p : Part) (held : List (Option Node)) (a : Act Cell) (log : List Recorded)
      (counts : ℕ → Counts) (all : ℕ) → actor e ≡ me.0.part.core.who → p.core.who ≡ me.0.part.core.who
      → Possible r.core e → Knows (after r.core e) p.core → p.counts ≡ counts p.core.who
      → own_of p.own ≡ part_of p.core.who log → Spares key r.core r.log log r.counts counts me.0.part.core.who
      → length held ≡ length (first_graph key)
      → ((n : ℕ) → owns p.core n ≡ true → n < length (first_graph key)
      → get_elem? held n ≡ some (Some (node_at (last_graph (first_graph key) log) n)))
      → min all (most_for key.places) ≡ (after r.core e).drawn
      → Counted key all (after r.core e).commits (after r.core e).cancel log counts
      → Shown key.locks key.places all (after r.core e) (set s.words i x)
      → AtHome key.locks (last_graph (first_graph key) log) (after r.core e).owner (after r.core e).queue
      (after r.core e).guard (homes_after s.homes me.1 a)
      → MakesWith key s r e log (stepped s i x id me.1 (record me.0 { part = p; held = held }) a)
  makes_all e i x p held a log counts all acts same can knows tallied own spares room has drawn counted words homes = record {
    can = can;
    is = refl;
    commits = refl;
    ruled = record {
      core = after r.core e;
      log = log;
      at = r.at;
      counts = counts;
      all = all;
      reached = further r.core e r.reached can;
      kind = same_kind r.core e ∙ r.kind;
      locks = same_locks r.core e ∙ r.locks;
      many = r.many;
      fits = r.fits;
      places = same_seats r.core e ∙ r.places;
      sizes = r.sizes;
      drawn = drawn;
      seats_there = r.seats_there;
      strangers = λ t big. strange_on r.core e t can.base
          (λ z. let small = mine.part.number in let far = acts in omega arith) (r.strangers t big);
      words = words;
      homes = homes;
      counted = counted;
      seats = seats_stay (Sits key (after r.core e) log r.at counts) s.views id (record me.0 { part = p; held = held })
          (λ _. record {
            part = record {
              place = ap r.at same ∙ mine.part.place;
              number = subst (λ (t : ℕ). t < key.seats) (sym same) mine.part.number;
              knows = knows;
              counted = tallied;
              own = own;
            };
            room = room;
            held = has;
            idle = λ k q there. let i = mine.idle k q there in (
              part_on key r.core e law can r.log log r.at r.counts counts me.0.part.core.who acts spares id q
                  (mine.apart k q there) i.0,
              i.1,
            );
            apart = λ k q there z. mine.apart k q there (z ∙ same);
            differ = mine.differ;
          })
          (λ j d far there on. sits_on key r.core e law can r.log log r.at r.counts counts me.0.part.core.who acts
          spares id j d mine.part.place far (r.seats j d there on));
      there = λ t small. there_kept id (record me.0 { part = p; held = held }) t here refl
          same refl (r.there t small);
    };
  }

  -- ... where nobody drew or committed
  pub makes : (e : Event) (i x : ℕ) (w : View) (held : List (Option Node)) (a : Act Cell)
      → actor e ≡ me.0.part.core.who → w.who ≡ me.0.part.core.who → Possible r.core e → Knows (after r.core e) w
      → length held ≡ length (first_graph key)
      → ((n : ℕ) → owns w n ≡ true → n < length (first_graph key)
      → get_elem? held n ≡ some (Some (node_at graph n)))
      → min r.all (most_for key.places) ≡ (after r.core e).drawn
      → Counted key r.all (after r.core e).commits (after r.core e).cancel r.log r.counts
      → Shown key.locks key.places r.all (after r.core e) (set s.words i x)
      → AtHome key.locks graph (after r.core e).owner (after r.core e).queue (after r.core e).guard
      (homes_after s.homes me.1 a)
      → Makes key s r e (stepped s i x id me.1 (record me.0 { part = record (me.0.part) { core = w }; held = held }) a)
  makes e i x w held a acts same can knows room has drawn counted words homes =
      makes_all e i x (record (me.0.part) { core = w }) held a r.log r.counts r.all acts same can knows
      (mine.part.counted ∙ ap r.counts (sym same)) (mine.part.own ∙ ap (λ (t : ℕ). part_of t r.log) (sym same))
      (record { counts_stay = λ t _. refl; parts_stay = λ t _. refl; nodes_stay = λ t n _ _. refl }) room has
      drawn counted words homes

  -- take_free: the owner word was 0
  pub fast_makes : (n : ℕ) → n < length (first_graph key) → MayFast me.0.part.core → get_or s.words (lock_at key.locks n) 0 ≡ 0
      → Makes key s r (Fast me.0.part.core.who n)
      (stepped s (lock_at key.locks n) (packed (taker me.0.part.core)) id me.1 (taking me.0 n (node_at graph n))
      (takes n (Content (node_at graph n))))
  fast_makes n small may hit = let c = r.core in let v = me.0.part.core in let k = mine.part.knows in
      let l = low n small in let is : idle ≡ word_of c n = found n idle l idle_valid hit in
      let can = shows_fast c v law k n (signed_owns_outside c r.reached) may (let z = r.locks in omega arith) is in
      let deep = r.homes.deep in let x = node_at graph n in let room = mine.room in
      makes (Fast v.who n) (lock_at key.locks n) (packed (taker v)) (fast_taken v n) (set me.0.held n (Some x))
      (takes n (Content x)) refl refl can (mine_fast c v law k n can)
      (length-set me.0.held n (Some x) ∙ mine.room)
      (λ m own in_graph. dite (ℕ_discrete m n)
      (λ e. ap (get_elem? (set me.0.held n (Some x))) e ∙ set_here me.0.held n (Some x) (omega arith)
      ∙ ap (λ (j : ℕ). some (Some (node_at graph j))) (sym e))
      (λ isnt. set_else me.0.held n m (Some x) isnt ∙ mine.held m (sym (get_or-set_other v.owned n m true false isnt) ∙ own) in_graph))
      r.drawn r.counted
      (owner_set c (Fast v.who n) can.base law.base key.locks key.places r.all s.words r.words n (packed (taker v)) l (λ m far. far) refl refl refl refl refl
      ((λ i. packed (record { seat = Some v.who; stamp = k.itself.stamp i; flags = 0 }))
      ∙ ap packed (sym (word_fast c v.who n can.base.idle.empty can.base.idle.not_asked))))
      (record {
        deep = length-set s.homes n none ∙ r.homes.deep;
        nodes = λ m low'. put_cases c.owner n (Taken v.who) m
            (λ o. ((t : ℕ) → o ≢ Taken t) → get_elem? (set s.homes n none) m
            ≡ some (some (Content (node_at graph m)))) (λ _ clear. absurd (clear v.who refl))
            (λ isnt clear. set_else s.homes n m none isnt ∙ r.homes.nodes m low' clear);
        lists = λ m l' free. set_else s.homes n (64 + m) none
            (λ z. let a = r.counted.size in let b = r.counted.graph.few in omega arith) ∙ r.homes.lists m l' free;
      })

  -- give_free: the owner word was that of the seat without flags
  pub fast_give_makes : (n : ℕ) (x : Node) → n < length (first_graph key) → IsAway me.0.part.core
      → owns me.0.part.core n ≡ true → get_elem? me.0.held n ≡ some (Some x) → IsValid (taker me.0.part.core)
      → get_or s.words (lock_at key.locks n) 0 ≡ packed (taker me.0.part.core) → me.1 ≡ (n, Content x) ∷ rest me.1
      → Makes key s r (FastGive me.0.part.core.who n) (stepped s (lock_at key.locks n) 0 id me.1 (giving me.0 n) gives)
  fast_give_makes n x small away own has valid hit top = let c = r.core in let v = me.0.part.core in
      let k = mine.part.knows in let l = low n small in let is = found n (taker v) l valid hit in
      let can = shows_fast_give c v law k n away own (let z = r.locks in omega arith) (taker v) is refl in let deep = r.homes.deep in
      let value : x ≡ node_at graph n = (let p : some (Some x) ≡ some (Some (node_at graph n)) = sym has ∙ mine.held n own small in cc) in
      makes (FastGive v.who n) (lock_at key.locks n) 0 (fast_given v n) (set me.0.held n None) gives refl refl can (mine_fast_give c v law k n can)
      (length-set me.0.held n None ∙ mine.room)
      (λ m own' in_graph. dite (ℕ_discrete m n)
      (λ e. absurd (true≢false (sym own' ∙ ap (λ i. get_or (set v.owned n false) i false) e
      ∙ get_or-set_same v.owned n false false (let z = k.owned.room in let y = r.locks in omega arith))))
      (λ isnt. set_else me.0.held n m None isnt ∙ mine.held m (sym (get_or-set_other v.owned n m false false isnt) ∙ own') in_graph))
      r.drawn r.counted
      (owner_set c (FastGive v.who n) can.base law.base key.locks key.places r.all s.words r.words n 0 l (λ m far. far) refl refl
      refl refl refl (ap packed (sym (word_fast_give c v.who n can.base.empty can.base.not_asked))))
      (subst (λ (z : List (ℕ × Cell)). AtHome key.locks graph (put c.owner n Nobody) c.queue c.guard
      (homes_after s.homes z gives)) (sym top) (record {
        deep = length-set s.homes n (some (Content x)) ∙ r.homes.deep;
        nodes = λ m low' clear. dite (ℕ_discrete m n)
            (λ e. ap (get_elem? (set s.homes n (some (Content x)))) e
            ∙ set_here s.homes n (some (Content x)) (omega arith)
            ∙ ap (λ (y : Node). some (some (Content y))) (value ∙ ap (node_at graph) (sym e)))
            (λ isnt. set_else s.homes n m (some (Content x)) isnt
            ∙ r.homes.nodes m low' (λ t z. clear t (put_else c.owner n Nobody m isnt ∙ z)));
        lists = λ m l' free. set_else s.homes n (64 + m) (some (Content x))
            (λ z. let a = r.counted.size in let b = r.counted.graph.few in omega arith) ∙ r.homes.lists m l' free;
      }))

  -- take_bare: the owner word was 0, and the lock guards no node
  pub bare_makes : (n : ℕ) → length (first_graph key) ≤ n → n < key.locks → MayFast me.0.part.core → get_or s.words (lock_at key.locks n) 0 ≡ 0
      → Makes key s r (Fast me.0.part.core.who n)
      (stepped s (lock_at key.locks n) (packed (taker me.0.part.core)) id me.1
      (knowing me.0 (fast_taken me.0.part.core n)) keeps)
  bare_makes n big l may hit = let c = r.core in let v = me.0.part.core in let k = mine.part.knows in
      let is : idle ≡ word_of c n = found n idle l idle_valid hit in
      let can = shows_fast c v law k n (signed_owns_outside c r.reached) may (let z = r.locks in omega arith) is in
      makes (Fast v.who n) (lock_at key.locks n) (packed (taker v)) (fast_taken v n) me.0.held keeps refl refl can (mine_fast c v law k n can)
      mine.room
      (λ m own in_graph. mine.held m (sym (get_or-set_other v.owned n m true false (λ z. omega arith)) ∙ own) in_graph)
      r.drawn r.counted
      (owner_set c (Fast v.who n) can.base law.base key.locks key.places r.all s.words r.words n (packed (taker v)) l (λ m far. far) refl refl refl refl refl
      ((λ i. packed (record { seat = Some v.who; stamp = k.itself.stamp i; flags = 0 }))
      ∙ ap packed (sym (word_fast c v.who n can.base.idle.empty can.base.idle.not_asked))))
      (record {
        deep = r.homes.deep;
        nodes = λ m low'. put_cases c.owner n (Taken v.who) m
            (λ o. ((t : ℕ) → o ≢ Taken t) → get_elem? s.homes m ≡ some (some (Content (node_at graph m))))
            (λ _ clear. absurd (clear v.who refl)) (λ _ clear. r.homes.nodes m low' clear);
        lists = r.homes.lists;
      })

  -- give_bare: the owner word was that of the seat without flags, and the lock guards no node
  pub bare_give_makes : (n : ℕ) → length (first_graph key) ≤ n → n < key.locks → IsAway me.0.part.core
      → owns me.0.part.core n ≡ true → IsValid (taker me.0.part.core)
      → get_or s.words (lock_at key.locks n) 0 ≡ packed (taker me.0.part.core)
      → Makes key s r (FastGive me.0.part.core.who n) (stepped s (lock_at key.locks n) 0 id me.1 (knowing me.0 (fast_given me.0.part.core n)) keeps)
  bare_give_makes n big l away own valid hit = let c = r.core in let v = me.0.part.core in
      let k = mine.part.knows in let is = found n (taker v) l valid hit in
      let can = shows_fast_give c v law k n away own (let z = r.locks in omega arith) (taker v) is refl in
      makes (FastGive v.who n) (lock_at key.locks n) 0 (fast_given v n) me.0.held keeps refl refl can (mine_fast_give c v law k n can)
      mine.room
      (λ m own' in_graph. mine.held m (sym (get_or-set_other v.owned n m false false (λ z. omega arith)) ∙ own') in_graph)
      r.drawn r.counted
      (owner_set c (FastGive v.who n) can.base law.base key.locks key.places r.all s.words r.words n 0 l (λ m far. far) refl refl
      refl refl refl (ap packed (sym (word_fast_give c v.who n can.base.empty can.base.not_asked))))
      (record {
        deep = r.homes.deep;
        nodes = λ m low' clear. r.homes.nodes m low'
            (λ t z. clear t (put_else c.owner n Nobody m (λ e. let a = r.counted.size in omega arith) ∙ z));
        lists = r.homes.lists;
      })

  -- end: the own sign word is 0, and stays
  pub end_makes : MayEnd me.0.part.core → get_or s.words (lock_at key.locks key.locks + 8 * me.0.part.core.who) 0 ≡ 0
      → Makes key s r (End me.0.part.core.who)
      (stepped s (lock_at key.locks key.locks + 8 * me.0.part.core.who) (get_or s.words (lock_at key.locks key.locks + 8 * me.0.part.core.who) 0) id me.1
      (knowing me.0 (ended me.0.part.core)) keeps)
  end_makes may hit = let c = r.core in let v = me.0.part.core in let k = mine.part.knows in let i = lock_at key.locks key.locks + 8 * v.who in
      let can = shows_end c v law k may.away may.context may.bare
      (sym (r.words.signs v.who (let z = k.itself.seat in let y = r.places in omega arith)) ∙ hit) in
      makes (End v.who) i (get_or s.words i 0) (ended v) me.0.held keeps refl refl can
      (mine_end c v law k can may.bare) mine.room mine.held r.drawn r.counted
      (subst (Shown key.locks key.places r.all (after c (End v.who))) (sym (set-get_or s.words i 0))
      (none_set c (End v.who) can.base law.base key.locks key.places r.all s.words r.words (λ m. tt) refl refl refl refl refl))
      (record { deep = r.homes.deep; nodes = r.homes.nodes; lists = r.homes.lists })

  -- what is counted once the seat drew once more
  drawn_more : Counts
  drawn_more = record (r.counts me.0.part.core.who) { draws = (r.counts me.0.part.core.who).draws + 1 }

  counted_more : MayDraw me.0.part
      → Counted key (r.all + 1) r.core.commits r.core.cancel r.log (put r.counts me.0.part.core.who drawn_more)
  unfolding drawn_more
  counted_more may = let c = r.core in let v = me.0.part.core in let k = mine.part.knows in
      let more = drawn_more in let counts = put r.counts v.who more in record {
        legal = r.counted.legal;
        graph = r.counted.graph;
        size = r.counted.size;
        front = r.counted.front;
        stamps = ap (λ (y : ℕ). y + 1) r.counted.stamps
            ∙ sym (total_one key.places (λ t. (counts t).draws) (λ t. (r.counts t).draws) v.who
            (let z = k.itself.seat in let y = r.places in omega arith)
            (λ t ne. ap (λ (y : Counts). y.draws) (put_else r.counts v.who more t ne))
            (ap (λ (y : Counts). y.draws) (put_here r.counts v.who more)));
        balanced = λ t u. ap (times u) (put_cases r.counts v.who more t (λ y. y.cancelled ≡ (r.counts t).cancelled)
            (λ is. ap (λ (y : ℕ). (r.counts y).cancelled) (sym is)) (λ _. refl)) ∙ r.counted.balanced t u
            ∙ ap (λ (y : List ℕ). times t y + one_of t u (c.cancel u))
            (sym (put_cases r.counts v.who more u (λ y. y.heeded ≡ (r.counts u).heeded)
            (λ is. ap (λ (y : ℕ). (r.counts y).heeded) (sym is)) (λ _. refl)));
        strangers = λ t big. put_else r.counts v.who more t (λ e. let own = mine.part.number in omega arith) ∙ r.counted.strangers t big;
        few = λ t. put_cases r.counts v.who more t (λ y. y.draws < 2 ^ 52)
            (λ _. let d = ap (λ (y : Counts). y.draws) mine.part.counted in let f = may.fewer in omega arith)
            (λ _. r.counted.few t);
        brief = r.counted.brief;
        callers = r.counted.callers;
      }

  -- the stamp word tells the core's last stamp while there are stamps left
  told_drawn : r.all < most_for key.places → get_or s.words 0 0 ≡ r.core.drawn
  told_drawn room = let a = r.words.drawn in let b = r.drawn in omega arith

  -- draw: the stamp word goes one up
  pub draw_makes : MayDraw me.0.part → get_or s.words 0 0 < most_for key.places
      → Makes key s r (Begin me.0.part.core.who)
      (stepped s 0 (get_or s.words 0 0 + 1) id me.1 (drawing me.0 (get_or s.words 0 0 + 1)) keeps)
  unfolding drawn_more
  draw_makes may room = let c = r.core in let v = me.0.part.core in let k = mine.part.knows in
      let word = r.words.drawn in let x = get_or s.words 0 0 in let left : r.all < most_for key.places = omega arith in
      let same = told_drawn left in
      let few : c.drawn < 2 ^ 56 - 1 = ⊎_elim
      (λ is. let z = most_few key.places (omega arith) in omega arith)
      (λ is. let z = most_many key.places is.0 in omega arith) r.sizes in
      let can = shows_begin c v law k may.away may.no_context may.bare few in
      let more : Counts = drawn_more in let counts = put r.counts v.who more in
      makes_all (Begin v.who) 0 (x + 1) (record
      (me.0.part) {
        core = begun v (x + 1);
        counts = record (me.0.part.counts) { draws = me.0.part.counts.draws + 1 };
      }) me.0.held keeps r.log counts (r.all + 1)
      refl refl can
      (subst (λ (y : ℕ). Knows (after c (Begin v.who)) (begun v (y + 1))) (sym same) (mine_begin c v law k can may.bare))
      (ap (λ (y : Counts). record y { draws = y.draws + 1 }) mine.part.counted ∙ sym (put_here r.counts v.who more)) mine.part.own
      (record {
        counts_stay = λ t ne. put_else r.counts v.who more t ne;
        parts_stay = λ t _. refl;
        nodes_stay = λ t n _ _. refl;
      }) mine.room mine.held
      (let z = r.drawn in omega arith)
      (counted_more may)
      (subst (λ (y : ℕ). Shown key.locks key.places (y + 1) (after c (Begin v.who)) (set s.words 0 (x + 1))) word
      (drawn_set c (Begin v.who) can.base law.base key.locks key.places r.all s.words r.words (x + 1) (λ m. tt) refl refl refl refl))
      (record { deep = r.homes.deep; nodes = r.homes.nodes; lists = r.homes.lists })

  -- ... or in vain, where all stamps are spent
  pub draw_stays : MayDraw me.0.part → most_for key.places ≤ get_or s.words 0 0
      → Stays key s r (stepped s 0 (get_or s.words 0 0 + 1) id me.1 (drawing_none me.0) keeps)
  unfolding drawn_more
  draw_stays may spent = let v = me.0.part.core in let word = r.words.drawn in let x = get_or s.words 0 0 in
      let more : Counts = drawn_more in let counts = put r.counts v.who more in
      let w : Sight = drawing_none me.0 in record {
        is = refl;
        commits = refl;
        ruled = record {
          core = r.core;
          log = r.log;
          at = r.at;
          counts = counts;
          all = r.all + 1;
          reached = r.reached;
          kind = r.kind;
          locks = r.locks;
          many = r.many;
          fits = r.fits;
          places = r.places;
          sizes = r.sizes;
          drawn = (let z = r.drawn in omega arith);
          seats_there = r.seats_there;
          strangers = r.strangers;
          words = subst (λ (y : ℕ). Shown key.locks key.places (y + 1) r.core (set s.words 0 (x + 1))) word
              (spent_set r.core key.locks key.places r.all (x + 1) s.words r.words);
          homes = r.homes;
          counted = counted_more may;
          seats = seats_stay (Sits key r.core r.log r.at counts) s.views id w
              (λ _. record {
                part = record {
                  place = mine.part.place;
                  number = mine.part.number;
                  knows = mine.part.knows;
                  counted = ap (λ (y : Counts). record y { draws = y.draws + 1 }) mine.part.counted
                      ∙ sym (put_here r.counts v.who more);
                  own = mine.part.own;
                };
                room = mine.room;
                held = mine.held;
                idle = λ j q there. (recounted_part v.who more id q (mine.apart j q there) (mine.idle j q there).0, (mine.idle j q there).1);
                apart = mine.apart;
                differ = mine.differ;
              })
              (λ j d far there on. let f = r.seats j d there on in
              let apart : (p : Part) → r.at p.core.who ≡ j → p.core.who ≢ v.who =
              λ p stands is. far (sym stands ∙ ap r.at is ∙ mine.part.place) in record {
                part = recounted_part v.who more j d.part (apart d.part f.part.place) f.part;
                room = f.room;
                held = f.held;
                idle = λ i q at'. (recounted_part v.who more j q (apart q (f.idle i q at').0.place) (f.idle i q at').0, (f.idle i q at').1);
                apart = f.apart;
                differ = f.differ;
              });
          there = λ t small. there_kept id w t here refl refl refl (r.there t small);
        };
      }
    where
      recounted_part : (who : ℕ) (more : Counts) (j : ℕ) (p : Part) → p.core.who ≢ who
          → PartFits key r.core r.log r.at r.counts j p → PartFits key r.core r.log r.at (put r.counts who more) j p
      recounted_part who more j p other f = record {
        place = f.place;
        number = f.number;
        knows = f.knows;
        counted = f.counted ∙ sym (put_else r.counts who more p.core.who other);
        own = f.own;
      }

  -- ---- steps that are no event

  -- a load, or a compare-exchange that finds another number
  pub looks_on : (i : ℕ) (w : View) → w.who ≡ me.0.part.core.who → ((n : ℕ) → owns w n ≡ owns me.0.part.core n)
      → Knows r.core w → Stays key s r (stepped s i (get_or s.words i 0) id me.1 (knowing me.0 w) keeps)
  looks_on i w same has knows = stays_as key s (stepped s i (get_or s.words i 0) id me.1 (knowing me.0 w) keeps) r
      r.at (subst (Shown key.locks key.places r.all r.core) (sym (set-get_or s.words i 0)) r.words) r.homes
      (seats_stay (Sits key r.core r.log r.at r.counts) s.views id (knowing me.0 w)
      (λ _. record {
        part = record {
          place = ap r.at same ∙ mine.part.place;
          number = subst (λ (t : ℕ). t < key.seats) (sym same) mine.part.number;
          knows = knows;
          counted = mine.part.counted ∙ ap r.counts (sym same);
          own = mine.part.own ∙ ap (λ (t : ℕ). part_of t r.log) (sym same);
        };
        room = mine.room;
        held = λ n own in_graph. mine.held n (sym (has n) ∙ own) in_graph;
        idle = mine.idle;
        apart = λ k q there z. mine.apart k q there (z ∙ same);
        differ = mine.differ;
      })
      (λ j d _ there. r.seats j d there))
      (λ t small. there_kept id (knowing me.0 w) t here refl same refl (r.there t small))

  pub looks : (i : ℕ) (w : View) → w.who ≡ me.0.part.core.who → ((n : ℕ) → owns w n ≡ owns me.0.part.core n)
      → Knows r.core w → Ruled key (stepped s i (get_or s.words i 0) id me.1 (knowing me.0 w) keeps)
  looks i w same has knows = (looks_on i w same has knows).ruled

  -- ---- where the words lie

  -- those of the locks lie as the view has it, and those of the seats behind them
  pub room_is : (me.0.part.core.room ≡ key.locks) × (me.0.part.core.seats ≡ key.places)
  room_is = let k = mine.part.knows in (k.itself.room ∙ r.locks, k.itself.seats ∙ r.places)

  pub at_room : (n : ℕ) → lock_at me.0.part.core.room n ≡ lock_at key.locks n
  at_room n = ap (λ (l : ℕ). lock_at l n) room_is.0

  pub same_lock : (m n : ℕ) → lock_at key.locks m ≡ lock_at me.0.part.core.room n → m ≡ n
  same_lock m n is = lock_same key.locks m n (is ∙ at_room n)

-- ---- a step as the table asks for it

-- a compare-exchange: the word that it is made on, what it expects there, and what it writes
pub record Shot : Type 0 where
  pub word : ℕ
  pub old : ℕ
  pub new : ℕ

-- ... on the owner word of lock n
abbrev pub on_owner : Start → ℕ → ℕ → ℕ → Shot
on_owner key n old new = record { word = lock_at key.locks n; old = old; new = new }

abbrev pub as_step : ℕ → Shot → Step Cell
as_step slots t = step slots t.word t.old t.new none

-- the rule allows it to seat `id`, which is this one, at a table of so many slots; and then it is told this
abbrev pub Allowed : Start → ℕ → ℕ → Sat → Shot → (Step Cell → Sat → ℕ → Sat → Type 0) → Type 0
Allowed key slots id me t then = Allows (Ruled key) slots id me t.word (λ x. either (eqb x t.old) t.new x) (then (as_step slots t) me)

-- ... as a record, so that whoever takes it knows of which seat and numbers it is
pub record Exchanges (key : Start) (slots id : ℕ) (me : Sat) (t : Shot) (then : Step Cell → Sat → ℕ → Sat → Type 0) : Type 0 where
  pub allowed : Allowed key slots id me t then

-- ... and so to a seat that equals it, by numbers that equal those
pub same_shot : {key : Start} {slots id : ℕ} {then : Step Cell → Sat → ℕ → Sat → Type 0} {m me : Sat} {i j old was new is : ℕ}
    → me ≡ m → i ≡ j → old ≡ was → new ≡ is → Exchanges key slots id m (record { word = j; old = was; new = is }) then
    → Allowed key slots id me (record { word = i; old = old; new = new }) then
same_shot {key} {slots} {id} {then} same at before after e = (subst (λ (x : Sat × Shot). Exchanges key slots id x.0 x.1 then)
    (λ k. (sym same k, record { word = sym at k; old = sym before k; new = sym after k })) e).allowed

-- where the word is the one expected, the table that keeps the rule may go on so
abbrev pub Hits : Start → ℕ → ℕ → Sat → Shot → (Step Cell → Sat → ℕ → Sat → Type 0) → Type 0
Hits key slots id me t then = (s : St) (r : Ruled key s) → get_elem? s.views id ≡ some me.0 → get_or s.words t.word 0 ≡ t.old → (w : Sight)
    × (a : Act Cell) × Valid s.homes me.1 a × Ruled key (stepped s t.word t.new id me.1 w a)
    × then (as_step slots t) me t.old (w, carried_after me.1 a)

-- where it is another: a view of the same seat, with the same locks, that knows whatever state this one knew
pub record Vain (v : View) : Type 0 where
  pub view : View
  pub same : view.who ≡ v.who
  pub has : (n : ℕ) → owns view n ≡ owns v n
  pub knows : (c : State) → Knows c v → Knows c view

module _ (key : Start) (slots id : ℕ) (me : Sat) (seated : me.0.seated ≡ true) where
  abbrev view : View
  view = me.0.part.core

  -- a compare-exchange by its two cases; where it is lost only what the view knows changes
  pub cas : {t : Shot} {then : Step Cell → Sat → ℕ → Sat → Type 0} (vain : Vain view) → Hits key slots id me t then
      → ((s : St) (r : Ruled key s) → get_elem? s.views id ≡ some me.0 → get_or s.words t.word 0 ≢ t.old
      → then (as_step slots t) me (get_or s.words t.word 0) (knowing me.0 vain.view, me.1)) → Exchanges key slots id me t then
  cas {t} {then} vain hit miss = record {
    allowed = λ s r deep at small. let x : ℕ = get_or s.words t.word 0 in dite (ℕ_discrete x t.old)
        (λ e. let h = hit s r at e in (
          h.0,
          h.1,
          h.2,
          exchanged x t.old t.new (λ y. Ruled key (stepped s t.word y id me.1 h.0 h.1)) (λ _. h.3) (λ ne. absurd (ne e)),
          subst (λ y. then (as_step slots t) me y (h.0, carried_after me.1 h.1)) (sym e) h.4,
        ))
        (λ ne. (
          knowing me.0 vain.view,
          keeps,
          tt,
          exchanged x t.old t.new (λ y. Ruled key (stepped s t.word y id me.1 (knowing me.0 vain.view) keeps)) (λ e. absurd (ne e))
              (λ _. looks key s r id me at seated t.word vain.view vain.same vain.has (vain.knows r.core (mine key s r id me at seated).part.knows)),
          miss s r at ne,
        ));
  }

  abbrev missed : Vain view
  missed = record { view = fast_missed view; same = refl; has = λ m. refl; knows = λ c k. mine_missed c view k }

  abbrev kept : Vain view
  kept = record { view = fast_kept view; same = refl; has = λ m. refl; knows = λ c k. mine_kept c view k }

  abbrev still : Vain view
  still = record { view = view; same = refl; has = λ m. refl; knows = λ c k. k }

  pub takes_free : (n : ℕ) → n < length (first_graph key) → MayFast view
      → Exchanges key slots id me (on_owner key n 0 (packed (taker view))) takes_to
  takes_free n small may = cas missed
      (λ s r at hit. let x : Node = node_at (last_graph (first_graph key) r.log) n in
      let m = fast_makes key s r id me at seated n small may hit in (
        taking me.0 n x,
        takes n (Content x),
        r.homes.nodes n (let z = r.counted.size in omega arith) (λ t own. let z = sym m.can.base.idle.free ∙ own in absurd cc),
        m.ruled,
        (λ j there. let e : n ≡ j = same_lock key s r id me at seated n j there in (
          (λ _. (
            x,
            node_there key s r id me at seated n small,
            ap (λ (i : ℕ). let w : Sat = (taking me.0 i x, (i, Content x) ∷ me.1) in w) e,
          )),
          λ no. absurd (no refl),
        )),
      ))
      (λ s r at ne j there. ((λ z. absurd (ne z)), λ _. refl))

  pub gives_free : (n : ℕ) (x : Node) → n < length (first_graph key) → IsAway view → owns view n ≡ true
      → get_elem? me.0.held n ≡ some (Some x) → me.1 ≡ (n, Content x) ∷ rest me.1
      → Exchanges key slots id me (on_owner key n (packed (taker view)) 0) gives_to
  gives_free n x small away own has top = cas kept
      (λ s r at hit. (
        giving me.0 n,
        gives,
        tt,
        (fast_give_makes key s r id me at seated n x small away own has (taker_valid key s r id me at seated) hit top).ruled,
        (λ j there. let e : n ≡ j = same_lock key s r id me at seated n j there in
            ((λ _. ap (λ (i : ℕ). let w : Sat = (giving me.0 i, rest me.1) in w) e), λ no. absurd (no refl))),
      ))
      (λ s r at ne j there. ((λ z. absurd (ne z)), λ _. refl))

  -- of a seat that is away the owner word tells whether it owns the lock
  word_tells : (n : ℕ) → n < key.locks → IsAway view → (s : St) (r : Ruled key s) → get_elem? s.views id ≡ some me.0
      → (j : ℕ) → n ≡ j → IsToldBy view j (get_or s.words (lock_at key.locks n) 0)
  word_tells n low away s r at j e = subst (λ (m : ℕ). IsToldBy view m (get_or s.words (lock_at key.locks n) 0)) e
      (told key s r id me at seated n low away)

  -- of a lock that guards no node: its view where the word is the one expected; and where it is another, if it owns the lock and if not
  abbrev bare_to : ℕ → (ℕ → View) → View → View → ℕ → ℕ → Sat → Type 0
  bare_to old won owner other word found m' = (j : ℕ) → word ≡ lock_at view.room j → IsToldBy view j found
      × (found ≡ old → m' ≡ (knowing me.0 (won j), me.1))
      × (found ≢ old → owns view j ≡ true → m' ≡ (knowing me.0 owner, me.1))
      × (found ≢ old → owns view j ≡ false → m' ≡ (knowing me.0 other, me.1))

  tries_bare : (n old new : ℕ) (won : ℕ → View) (owner other : Vain view) → n < key.locks → IsAway view
      → ((s : St) (r : Ruled key s) → get_elem? s.views id ≡ some me.0 → get_or s.words (lock_at key.locks n) 0 ≡ old
      → Ruled key (stepped s (lock_at key.locks n) new id me.1 (knowing me.0 (won n)) keeps))
      → Exchanges key slots id me (on_owner key n old new) (λ st _. bare_to old won owner.view other.view st.word)
  tries_bare n old new won owner other low away keeps_rule = let t : Shot = on_owner key n old new in
      let then : Step Cell → Sat → ℕ → Sat → Type 0 = λ st _. bare_to old won owner.view other.view st.word in
      let hits : Hits key slots id me t then =
      λ s r at hit. (
        knowing me.0 (won n),
        keeps,
        tt,
        keeps_rule s r at hit,
        (λ j there. let e : n ≡ j = same_lock key s r id me at seated n j there in (
          subst (IsToldBy view j) hit (word_tells n low away s r at j e),
          (λ _. ap (λ (i : ℕ). let w : Sat = (knowing me.0 (won i), me.1) in w) e),
          (λ no. absurd (no refl)),
          (λ no. absurd (no refl)),
        )),
      ) in elim (true_or_false (owns view n)) [
        | inl own ↦ cas owner hits
            (λ s r at ne j there. let e : n ≡ j = same_lock key s r id me at seated n j there in (
              word_tells n low away s r at j e,
              (λ z. absurd (ne z)),
              (λ _ _. refl),
              (λ _ no. absurd (true≢false (sym own ∙ ap (owns view) e ∙ no))),
            ))
        | inr lacks ↦ cas other hits
            (λ s r at ne j there. let e : n ≡ j = same_lock key s r id me at seated n j there in (
              word_tells n low away s r at j e,
              (λ z. absurd (ne z)),
              (λ _ own. absurd (true≢false (sym own ∙ sym (ap (owns view) e) ∙ lacks))),
              (λ _ _. refl),
            ))
      ]

  pub takes_bare : (n : ℕ) → length (first_graph key) ≤ n → n < key.locks → MayFast view
      → Exchanges key slots id me (on_owner key n 0 (packed (taker view))) takes_bare_to
  takes_bare n big low may = record {
    allowed = (tries_bare n 0 (packed (taker view)) (fast_taken view) still missed low may.away
        (λ s r at hit. (bare_makes key s r id me at seated n big low may hit).ruled)).allowed;
  }

  pub gives_bare : (n : ℕ) → length (first_graph key) ≤ n → n < key.locks → IsAway view
      → Exchanges key slots id me (on_owner key n (packed (taker view)) 0) gives_bare_to
  gives_bare n big low away = record {
    allowed = (tries_bare n (packed (taker view)) 0 (fast_given view) kept still low away
        (λ s r at hit. (bare_give_makes key s r id me at seated n big low away
        (told key s r id me at seated n low away ∙ ap (λ (y : ℕ). unflagged y == unflagged (packed (taker view))) hit
        ∙ number_same (unflagged (packed (taker view))) (unflagged (packed (taker view))) refl) (taker_valid key s r id me at seated) hit).ruled)).allowed;
  }

  -- a look from outside whether the seat owns a lock
  pub owns_outside : (n i : ℕ) → i ≡ lock_at key.locks n → n < key.locks → IsAway view
      → Allows (Ruled key) slots id me i (λ x. x) (owns_to (step slots i 0 0 none) me)
  owns_outside n i is low away s r deep at small = (
    me.0,
    keeps,
    tt,
    looks key s r id me at seated i view refl (λ m. refl) (mine key s r id me at seated).part.knows,
    (
      refl,
      (λ j there. subst (λ (k : ℕ). IsToldBy view j (get_or s.words k 0)) (sym is)
          (word_tells n low away s r at j (same_lock key s r id me at seated n j (sym is ∙ there)))),
    ),
  )

  pub ends : (i : ℕ) → i ≡ sign_at view.room view.who → MayEnd view
      → Allows (Ruled key) slots id me i (λ x. x) (ends_to (step slots i 0 0 none) me)
  ends i there may s r deep at small = let c : State = r.core in let v : View = view in
      let k = (mine key s r id me at seated).part.knows in let x : ℕ = get_or s.words i 0 in
      let is : i ≡ lock_at key.locks key.locks + 8 * v.who =
      (let a = ap (λ (l : ℕ). lock_at l l) (room_is key s r id me at seated).0 in omega arith) in
      let tells : x ≡ c.sign v.who = ap (λ (j : ℕ). get_or s.words j 0) is
      ∙ r.words.signs v.who (let z = k.itself.seat in let y = r.places in omega arith) in
      let known : (j : ℕ) → v.sign ≡ Some j → x ≡ j = λ j told. tells ∙ k.sign j told in dite (ℕ_discrete x 0)
      (λ e. (
        knowing me.0 (ended v),
        keeps,
        tt,
        subst (λ (j : ℕ). Ruled key (stepped s j (get_or s.words j 0) id me.1 (knowing me.0 (ended v)) keeps))
            (sym is) (end_makes key s r id me at seated may (ap (λ (j : ℕ). get_or s.words j 0) (sym is) ∙ e)).ruled,
        λ _. ((λ _. refl), (λ no. absurd (no e)), known),
      ))
      (λ ne. (
        knowing me.0 (has_read v x),
        keeps,
        tt,
        looks key s r id me at seated i (has_read v x) refl (λ n. refl) (mine_read c v k x (sym tells) (λ z. absurd (ne z))),
        λ _. ((λ z. absurd (ne z)), (λ _. refl), known),
      ))

  pub draws_one : MayDraw me.0.part → Allows (Ruled key) slots id me 0 (λ z. (z + 1) % 2 ^ 64) (draws_to (step slots 0 1 0 none) me)
  draws_one may s r deep at small = let x : ℕ = get_or s.words 0 0 in
      let word = r.words.drawn in let most = all_room key s r in let up : (x + 1) % 2 ^ 64 ≡ x + 1 = omega arith in
      let same : view.seats ≡ key.places = (room_is key s r id me at seated).1 in
      let limit : most_for view.seats ≡ most_for key.places = ap most_for same in
      let sixteen : view.seats ≡ 16 → x < most_for view.seats =
      (λ is. let z = few_room key s r (sym same ∙ is) in omega arith) in
      dite (dec_le (most_for key.places) x)
      (λ spent. (
        drawing_none me.0,
        keeps,
        tt,
        subst (λ (y : ℕ). Ruled key (stepped s 0 y id me.1 (drawing_none me.0) keeps)) (sym up)
            (draw_stays key s r id me at seated may spent).ruled,
        λ _. ((omega arith), (λ room. absurd (omega arith)), (λ _. refl), sixteen),
      ))
      (λ left. (
        drawing me.0 (x + 1),
        keeps,
        tt,
        subst (λ (y : ℕ). Ruled key (stepped s 0 y id me.1 (drawing me.0 (x + 1)) keeps)) (sym up)
            (draw_makes key s r id me at seated may (omega arith)).ruled,
        λ _. ((omega arith), (λ _. refl), (λ spent. absurd (omega arith)), sixteen),
      ))
