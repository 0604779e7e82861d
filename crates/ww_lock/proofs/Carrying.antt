-- What a pass carries, as the calls of its seat change that.
use Rattle.std.proofs.Common.{◌≡◌, ◌≢◌, ℕ, suc, zero, ◌+◌, ◌<◌, ◌≤◌, ◌^◌, eqb, get_or, true≢false, Bool, true, false, List, [], ◌∷◌, length, map, set, refl, sym, ap, subst, ◌∙◌, arith, inl, inr, Err, Ok, Some, slice_get, length-set, get_or-set_same, get_or-set_other}
use Rattle.std.specs.List.{AllByRecursion}
use mathlib.Core.Option.{some}
use lib.ListN.{get_elem?}
use Rattle.std.specs.Global.{Vec}
use Rattle.std.specs.Vec.{with_items}
use Rattle.std.proofs.lemmas.List.{length-map, with_items_is}
use Rattle.ww_plain.specs.declared.node.Node.{Node}
use Rattle.ww_plain.specs.Numbers.{is_among}
use Rattle.ww_plain.specs.Graph.{no_node, node_at}
use Rattle.ww_plain.proofs.Members.{true_or_false, same_from_eqb, is_among-head}
use Rattle.ww_view.specs.View.{owns, IsAway, IsBare}
use Rattle.ww_view.specs.Made.{without}
use Rattle.ww_invariant.specs.Rule.{Sat}
use Rattle.ww_table.specs.declared.board.Board.{Board}
use Rattle.ww_seat.specs.Accounts.{Account, account_of, having_tried, having_taken, having_given, having_died, having_stopped}
use Rattle.ww_seat.specs.Bells.{heard, rings_at, leads_to, sleeps_at, AreBellsOf, ArePlacedAlike}
use Rattle.ww_seat.specs.Calls.{HasAdded, HasTaken, HasMissed, HasGiven, HasStayedOut, IsTurnedAway, MayStop}
use Rattle.ww_seat.specs.Standings.{Standing, view_in, size_in, IsAt, IsBack, IsBackAtOnce, IsEven, IsGive, IsGiven, IsWait, MayTry, StaysEven, MayReleaseNode}
use Rattle.ww_seat.specs.declared.bell.Bell.{Bell}
use Rattle.ww_seat.specs.declared.bell.Wire.{Wire}
use Rattle.ww_seat.specs.declared.patience.Patience.{Patience}
use Rattle.ww_seat.specs.declared.waiting.NoLock.{NoLock}
use Rattle.ww_seat.specs.declared.waiting.NoLock.TheVariants.{Deadlk, Interrupted}
use Rattle.ww_seat.specs.declared.waits.Waits.{Waits}
use Rattle.ww_seat.specs.declared.waits.Waits.TheVariants.{UntilCancelled}
use Rattle.ww_seat.proofs.Among.{others_among, owns_more}
use Rattle.ww_seat.proofs.Debts.{paid_still}
use Rattle.ww_seat.proofs.Without.{another, owns_less, shorter}
use Rattle.ww_lock.specs.declared.hand.Hand.TheInside.{Inside}
use Rattle.ww_lock.specs.Holding.{Home, Holding, Setting, IsAtHome, AreHeld, by_of}
use Rattle.ww_lock.specs.Carried.{Carried, known_of, held_of, seen_with, holding_of, MayStillCommit, MayLock}
use Rattle.ww_lock.specs.Hands.{carried_of, Suits, Carries}
use Rattle.ww_lock.specs.Moves.{tried, with_node, HasReturned, IsTried}
use Rattle.ww_lock.specs.Opened.{setting_of}
use Rattle.ww_lock.proofs.Helds.{held_more, held_less, all_among}

-- ---- at home

-- its seat is one of the world's board
pub at_board : (h : Inside) (v : Carried) (b : Board) (ws : List Wire) (w : Setting) → carried_of h ≡ v → setting_of b ws ≡ w
    → IsAtHome (holding_of v) w → Carries h → IsAt b h.seat
at_board h v b ws w is world home c = record {
  home = ap (λ (x : Carried). x.seat.home) is ∙ ap (λ (t : Home). t.table) home.home
      ∙ sym (ap (λ (x : Setting). x.home.table) world);
  size = c.size ∙ ap (λ (x : Carried). length x.seen) is ∙ home.size ∙ sym (ap (λ (x : Setting). length x.first) world);
}

-- its bells, which a call gets as a slice, are those of the board
pub bells_at : (h : Inside) (v : Carried) (b : Board) (ws : List Wire) (w : Setting) (bells : List Bell) → carried_of h ≡ v
    → setting_of b ws ≡ w → IsAtHome (holding_of v) w → b.table.shared.key.seats ≡ length ws → bells ≡ h.bells.items
    → AreBellsOf b bells
bells_at h v b ws w bells is world home seats are = ap length are ∙ sym (length-map h.bells.items rings_at)
    ∙ ap (λ (x : Carried). length x.parkers) is ∙ ap (λ (t : Home). length t.parkers) home.home
    ∙ sym (ap (λ (x : Setting). length x.home.parkers) world) ∙ length-map ws leads_to ∙ sym seats

-- ---- what it may do

pub bare_of : (h : Inside) → Carries h → held_of (carried_of h) ≡ [] → IsBare (view_in h.seat)
bare_of h c none = λ n. c.suits.owned n ∙ ap (is_among n) none

-- each lock that it owns guards a node
pub held_there : (h : Inside) (n : ℕ) → Carries h → owns (view_in h.seat) n ≡ true → n < length h.seen
held_there h n c owned = all_among (λ m. m < length h.seen) (held_of (carried_of h)) n c.suits.held.there (sym (c.suits.owned n) ∙ owned)

-- where it owns no lock, it holds nothing
pub none_held : (h : Inside) → Carries h → ((n : ℕ) → n < size_in h.seat → owns (view_in h.seat) n ≡ false)
    → held_of (carried_of h) ≡ []
none_held h c none = nobody (held_of (carried_of h)) c.suits.held.there
    (λ n low. sym (c.suits.owned n) ∙ none n (omega (arith, low, c.size)))
  where
    nobody : (ns : List ℕ) → AllByRecursion (λ n. n < length h.seen) ns → ((n : ℕ) → n < length h.seen → is_among n ns ≡ false) → ns ≡ []
    nobody [] there absent = refl
    nobody (m ∷ ms) there absent = absurd (true≢false (sym (is_among-head m ms) ∙ absent m there.0))

-- ---- its bells and its parker

-- they are the same as before
pub record IsAlike (h g : Inside) : Type 0 where
  pub bells : map rings_at g.bells.items ≡ map rings_at h.bells.items
  pub parker : sleeps_at g.patience ≡ sleeps_at h.patience
  pub even : IsEven g.seat.me g.patience g.bells.items

-- nothing is owed that wasn't owed before, and it didn't sleep
pub even_still : (m m' : Sat) (p p' : Patience) (bells : List Bell) → HasStayedOut m.0.part.core m'.0.part.core
    → m'.0.part.counts.cancelled ≡ m.0.part.counts.cancelled → heard p' ≡ heard p → IsEven m p bells → IsEven m' p' bells
even_still m m' p p' bells out cancels heard e = record {
  paid = paid_still m m' bells cancels out.debts e.paid;
  slept = heard ∙ e.slept ∙ sym out.naps;
}

-- a call gets them as a slice
pub even_slice : (m : Sat) (p : Patience) (was are : List Bell) → was ≡ are → IsEven m p are → IsEven m p was
even_slice m p was are is e = subst (IsEven m p) (sym is) e

-- ... and they are back then
pub back : (v : Vec Bell) (was now : List Bell) → was ≡ v.items → ArePlacedAlike was now → (with_items v now).items ≡ now
back v was now is alike = with_items_is v now (omega (arith, alike.count, ap length is, v.ok.0))

-- a call of its seat that had no bells
pub alike_at_once : (h : Inside) (s : Standing) → IsBackAtOnce h.seat s
    → s.me.0.part.counts.cancelled ≡ h.seat.me.0.part.counts.cancelled → Carries h → IsAlike h (record h { seat = s })
alike_at_once h s back cancels c = record {
  bells = refl;
  parker = refl;
  even = even_still h.seat.me s.me h.patience h.patience h.bells.items back.out cancels refl c.even;
}

-- ... one that had them, and the parker
pub alike_after : (h g : Inside) (was now : List Bell) → was ≡ h.bells.items → ArePlacedAlike was now
    → g.bells ≡ with_items h.bells now → sleeps_at g.patience ≡ sleeps_at h.patience → IsEven g.seat.me g.patience now → IsAlike h g
alike_after h g was now is alike bells parker even =
    let same : g.bells.items ≡ now = ap (λ (v : Vec Bell). v.items) bells ∙ back h.bells was now is alike in record {
      bells = ap (map rings_at) same ∙ alike.places ∙ ap (map rings_at) is;
      parker = parker;
      even = subst (IsEven g.seat.me g.patience) (sym same) even;
    }

-- ---- what a call of its seat makes of it

-- it is seen so, with this account of its seat
seen_as : (c c' : Carried) (a : Account) → c'.seat ≡ record (c.seat) { me = c'.seat.me } → c'.parkers ≡ c.parkers
    → c'.left ≡ c.left → account_of c'.seat.me ≡ a → holding_of c' ≡ record (seen_with c a (known_of c').deaf) { seen = c'.seen }
seen_as c c' a same parkers left now = λ i.
    seen_with (record { seat = same i; parkers = parkers i; left = left i; seen = c'.seen }) (now i) (known_of c').deaf

pub carries_as : (h g : Inside) (a : Account) → Carries h → size_in g.seat ≡ length g.seen → IsAway (view_in g.seat) → IsAlike h g
    → account_of g.seat.me ≡ a → a.who ≡ (view_in h.seat).who → Suits a g.left g.marks g.seen → Carries g
carries_as h g a c size away alike now who suits = record {
  away = away;
  size = size;
  suits = subst (λ (x : Account). Suits x g.left g.marks g.seen) (sym now) suits;
  placed = (λ i. slice_get (alike.bells i) ((ap (λ (x : Account). x.who) now ∙ who) i)) ∙ c.placed ∙ ap Some (sym alike.parker);
  even = alike.even;
}

-- a call after which it holds what it held, and has this account
pub record HoldsStill (m : Sat) (a : Account) : Type 0 where
  pub who : a.who ≡ (account_of m).who
  pub owned : a.owned ≡ (account_of m).owned
  pub locks : a.locks ≡ (account_of m).locks
  pub held : a.held ≡ (account_of m).held
  pub own : a.own ≡ (account_of m).own
  pub answered : by_of a.stopped ≡ a.counts.heeded

pub record Keeps (h g : Inside) (a : Account) : Type 0 where
  pub carries : Carries g
  pub fresh : MayStillCommit (carried_of h) → MayStillCommit (carried_of g)
  pub is : holding_of (carried_of g) ≡ seen_with (carried_of h) a (view_in g.seat).deaf

pub keeps : (h : Inside) (s : Standing) (p : Patience) (bells : Vec Bell) (a : Account) → Carries h → IsBack h.seat s
    → IsAlike h (record h { seat = s; patience = p; bells = bells }) → account_of s.me ≡ a → HoldsStill h.seat.me a
    → a.counts.draws + h.left < 2 ^ 32 → Keeps h (record h { seat = s; patience = p; bells = bells }) a
keeps h s p bells a c b alike now still draws = let g : Inside = record h { seat = s; patience = p; bells = bells } in record {
  carries = carries_as h g a c (b.same.size ∙ c.size) b.away alike now still.who (record {
    owned = λ n. (λ i. get_or (still.owned i) n false) ∙ c.suits.owned n ∙ sym (λ i. is_among n (still.locks i));
    marked = c.suits.marked ∙ sym still.owned;
    wide = ap length still.owned ∙ c.suits.wide;
    held = subst (λ (ns : List ℕ). AreHeld ns h.seen) (sym still.locks) c.suits.held;
    answered = still.answered;
    draws = draws;
    commits = omega (arith, c.suits.commits, ap length still.own);
    few = omega (arith, c.suits.few, still.who);
  });
  fresh = λ f. record {
    seen = λ n among. ap (λ (x : Account). get_elem? x.held n) now ∙ ap (λ hs. get_elem? hs n) still.held
        ∙ f.seen n (sym (λ i. is_among n ((ap (λ (x : Account). x.locks) now ∙ still.locks) i)) ∙ among);
    commits = omega (arith, f.commits, ap (λ (x : Account). length x.own) now, ap length still.own);
  };
  is = seen_as (carried_of h) (carried_of g) a b.same.now alike.bells refl now;
}

-- ... which went inside no guard, and set no cancel
pub keeps_at_once : (h : Inside) (s : Standing) (a : Account) → Carries h → IsBackAtOnce h.seat s → account_of s.me ≡ a
    → HoldsStill h.seat.me a → a.counts.cancelled ≡ h.seat.me.0.part.counts.cancelled → a.counts.draws + h.left < 2 ^ 32
    → Keeps h (record h { seat = s }) a
keeps_at_once h s a c b now still cancels draws = keeps h s h.patience h.bells a c b.back
    (alike_at_once h s b (ap (λ (x : Account). x.counts.cancelled) now ∙ cancels) c) now still draws

-- ---- locks

-- what is read at a number that was written, and at another
elem_here : {A : Type 0} (xs : List A) (n : ℕ) (x : A) → n < length xs → get_elem? (set xs n x) n ≡ some x
elem_here [] n x lt = absurd (omega (arith, lt))
elem_here (y ∷ ys) zero x lt = refl
elem_here (y ∷ ys) (suc n) x lt = elem_here ys n x (omega (arith, lt))

elem_else : {A : Type 0} (xs : List A) (n m : ℕ) (x : A) → m ≢ n → get_elem? (set xs n x) m ≡ get_elem? xs m
elem_else [] n m x isnt = refl
elem_else (y ∷ ys) zero zero x isnt = absurd (isnt refl)
elem_else (y ∷ ys) zero (suc m) x isnt = refl
elem_else (y ∷ ys) (suc n) zero x isnt = refl
elem_else (y ∷ ys) (suc n) (suc m) x isnt = elem_else ys n m x (λ e. isnt (ap suc e))

-- one node more is held, after so many tries
pub record Takes (h g : Inside) (tries n : ℕ) (x : Node) : Type 0 where
  pub carries : Carries g
  pub fresh : MayStillCommit (carried_of g)
  pub is : holding_of (carried_of g) ≡ with_node (record (holding_of (carried_of h)) {
    tries = tries;
    takes = (holding_of (carried_of h)).takes + 1;
    deaf = (view_in g.seat).deaf;
  }) n x

pub takes : (h g : Inside) (tries n : ℕ) (x : Node) → Carries h → MayStillCommit (carried_of h) → n < length h.seen
    → is_among n (held_of (carried_of h)) ≡ false → IsBack h.seat g.seat
    → HasAdded (record (account_of h.seat.me) { tries = tries }) n x g.seat.me → IsAlike h g → g.left ≡ h.left
    → g.marks ≡ set h.marks n true → g.seen ≡ set h.seen n x → Takes h g tries n x
takes h g tries n x c f lt new b t alike left marked read =
    let m = h.seat.me in
    let a : Account = having_taken (record (account_of m) { tries = tries }) n x in
    let long : length g.seen ≡ length h.seen = ap length read ∙ length-set h.seen n x in
    let wide : n < length m.0.part.core.owned = omega (arith, lt, c.suits.held.few, c.suits.wide) in
    let deep : n < length m.0.held = omega (arith, lt, c.size) in
    let here_now : get_elem? a.held n ≡ some (Some (node_at g.seen n)) =
    elem_here m.0.held n (Some x) deep ∙ ap (λ (y : Node). some (Some y))
    (sym (ap (λ (ns : List Node). node_at ns n) read ∙ get_or-set_same h.seen n x no_node lt)) in
    let still : (k : ℕ) → k ≢ n → is_among k (held_of (carried_of h)) ≡ true → get_elem? a.held k ≡ some (Some (node_at g.seen k)) =
    λ k isnt among. elem_else m.0.held n k (Some x) isnt ∙ f.seen k among
    ∙ ap (λ (y : Node). some (Some y)) (sym
    (ap (λ (ns : List Node). node_at ns k) read ∙ get_or-set_other h.seen n k x no_node isnt)) in
    record {
      carries = carries_as h g a c (b.same.size ∙ c.size ∙ sym long) b.away alike t.now refl (record {
        owned = owns_more m.0.part.core.owned a.owned (held_of (carried_of h)) n wide refl c.suits.owned;
        marked = marked ∙ ap (λ (os : List Bool). set os n true) c.suits.marked;
        wide = length-set m.0.part.core.owned n true ∙ c.suits.wide;
        held = held_more (held_of (carried_of h)) h.seen g.seen n c.suits.held lt new long;
        answered = c.suits.answered;
        draws = omega (arith, c.suits.draws, left);
        commits = omega (arith, c.suits.commits, left);
        few = c.suits.few;
      });
      fresh = record {
        seen = λ k among. ap (λ (y : Account). get_elem? y.held k) t.now ∙ elim (true_or_false (eqb n k)) [
          | inl same ↦ subst (λ (j : ℕ). get_elem? a.held j ≡ some (Some (node_at g.seen j))) (same_from_eqb n k same) here_now
          | inr other ↦ let isnt = another n k other in
              still k isnt (sym (others_among (held_of (carried_of h)) n k isnt)
              ∙ ap (λ (y : Account). is_among k y.locks) (sym t.now) ∙ among)
        ];
        commits = omega (arith, ap (λ (y : Account). length y.own) t.now, f.commits, left);
      };
      is = seen_as (carried_of h) (carried_of g) a b.same.now alike.bells left t.now
          ∙ ap (λ (ns : List Node). let s : Holding = record (seen_with (carried_of h) a (view_in g.seat).deaf) { seen = ns } in s) read;
    }

-- what has to die holds a node
holds_one : (h : Inside) → Carries h → (j : ℕ) × (owns (view_in h.seat) j ≡ true) → 1 ≤ length (held_of (carried_of h))
holds_one h c one = some_among (held_of (carried_of h)) one.0 (sym (c.suits.owned one.0) ∙ one.1)
  where
    some_among : (ns : List ℕ) (n : ℕ) → is_among n ns ≡ true → 1 ≤ length ns
    some_among [] n e = absurd (true≢false (sym e))
    some_among (m ∷ ms) n e = omega arith

-- it came without the lock, after one try in vain
pub record TurnsAway (h g : Inside) (n : ℕ) (waits : Waits) (why : NoLock) : Type 0 where
  pub carries : Carries g
  pub came : (s : Holding) → holding_of (carried_of h) ≡ tried s → HasReturned s n waits (Err why) (carried_of g)

pub turned_away : (h : Inside) (s' : Standing) (p : Patience) (bells : Vec Bell) (n : ℕ) (waits : Waits) (why : NoLock)
    → Carries h → MayStillCommit (carried_of h) → is_among n (held_of (carried_of h)) ≡ false → IsBack h.seat s'
    → IsAlike h (record h { seat = s'; patience = p; bells = bells }) → IsTurnedAway h.seat.me n why s'.me → MayStop 16 waits why
    → (waits ≡ UntilCancelled → (view_in s').deaf ≡ (view_in h.seat).deaf)
    → TurnsAway h (record h { seat = s'; patience = p; bells = bells }) n waits why
turned_away h s' p bells n waits (Deadlk k) c f new b alike d may still =
    let a : Account = having_died (account_of h.seat.me) in
    let v = keeps h s' p bells a c b alike d.now
    (record { who = refl; owned = refl; locks = refl; held = refl; own = refl; answered = c.suits.answered }) c.suits.draws in
    let some = holds_one h c d.one in record {
      carries = v.carries;
      came = λ s was. let held = ap (λ (x : Holding). length x.held) was in let stamp = ap (λ (x : Holding). x.stamp) was in (
        v.fresh f,
        λ until. still until ∙ ap (λ (x : Holding). x.deaf) was,
        (
          v.is ∙ ap (λ (x : Holding). record x { deaths = x.deaths + 1; deaf = (view_in s').deaf }) was,
          d.context,
          omega (arith, d.older, stamp),
          omega (arith, some, held),
        ),
        d.met,
        may,
      );
    }
turned_away h s' p bells n waits (Interrupted by) c f new b alike d may still =
    let a : Account = having_stopped (account_of h.seat.me) n by in
    let v = keeps h s' p bells a c b alike d.now
    (record { who = refl; owned = refl; locks = refl; held = refl; own = refl; answered = ap (λ (bs : List ℕ). by ∷ bs) c.suits.answered })
    c.suits.draws in record {
      carries = v.carries;
      came = λ s was. (
        v.fresh f,
        λ until. still until ∙ ap (λ (x : Holding). x.deaf) was,
        record {
          new = sym (ap (λ (x : Holding). is_among n x.held) was) ∙ new;
          told = v.is ∙ ap (λ (x : Holding). record x { interrupted = (n, by) ∷ x.interrupted; deaf = (view_in s').deaf }) was
              ∙ ap (λ (k : ℕ). let y : Holding = record s { tries = s.tries + 1; interrupted = (n, by) ∷ s.interrupted; deaf = k } in y)
              (still may.0 ∙ ap (λ (x : Holding). x.deaf) was);
        },
        d.unmet,
        may,
      );
    }

-- ... as its seat tells it, which had its bells as a slice
pub waits_in_vain : (h : Inside) (b : Board) (s : Standing) (p : Patience) (was now : List Bell) (n m : ℕ) (waits : Waits) (why : NoLock)
    → Carries h → MayLock n (carried_of h) → IsWait b h.seat m waits (Err why) s → StaysEven h.patience was s p now
    → was ≡ h.bells.items → m ≡ n → b.table.shared.key.places ≡ 16
    → TurnsAway h (record h { seat = s; patience = p; bells = with_items h.bells now }) n waits why
waits_in_vain h b s p was now n m waits why c may e even is same places =
    turned_away h s p (with_items h.bells now) n waits why c may.fresh may.new e.back
    (alike_after h (record h { seat = s; patience = p; bells = with_items h.bells now }) was now is even.placed refl even.parker even.even)
    (subst (λ (k : ℕ). IsTurnedAway h.seat.me k why s.me) same e.came.0) (subst (λ (k : ℕ). MayStop k waits why) places e.came.1) e.deaf

-- it has the lock, after one try in vain
pub record Gets (h g : Inside) (n : ℕ) (waits : Waits) : Type 0 where
  pub carries : Carries g
  pub came : (s : Holding) → holding_of (carried_of h) ≡ tried s → HasReturned s n waits (Ok tt) (carried_of g)

pub waits_out : (h g : Inside) (b : Board) (was now : List Bell) (n m : ℕ) (waits : Waits) (x : Node) → Carries h
    → MayLock n (carried_of h) → IsWait b h.seat m waits (Ok x) g.seat → StaysEven h.patience was g.seat g.patience now
    → was ≡ h.bells.items → g.bells ≡ with_items h.bells now → m ≡ n → g.left ≡ h.left → g.marks ≡ set h.marks n true
    → g.seen ≡ set h.seen n x → Gets h g n waits
waits_out h g b was now n m waits x c may e even is bells same left marked read =
    let t = takes h g h.seat.me.0.part.core.tries n x c may.fresh may.there may.new e.back
    (subst (λ (k : ℕ). HasTaken h.seat.me k x g.seat.me) same e.came)
    (alike_after h g was now is even.placed bells even.parker even.even) left marked read in record {
      carries = t.carries;
      came = λ s tried_once. (
        t.fresh,
        λ until. e.deaf until ∙ ap (λ (y : Holding). y.deaf) tried_once,
        record {
          new = sym (ap (λ (y : Holding). is_among n y.held) tried_once) ∙ may.new;
          contents = x;
          added = t.is ∙ ap (λ (y : Holding). with_node (record y { takes = y.takes + 1; deaf = (view_in g.seat).deaf }) n x) tried_once;
        },
        e.came.unmet,
      );
    }

-- ---- releasing

-- one node less is held
pub record Gives (h g : Inside) : Type 0 where
  pub carries : Carries g
  pub is : holding_of (carried_of g) ≡ record (holding_of (carried_of h)) { held = held_of (carried_of g) }
  pub fewer : length (held_of (carried_of g)) < length (held_of (carried_of h))

pub gives : (h g : Inside) (n : ℕ) → Carries h → is_among n (held_of (carried_of h)) ≡ true → IsBack h.seat g.seat
    → HasGiven h.seat.me n g.seat.me → (view_in g.seat).deaf ≡ (view_in h.seat).deaf → IsAlike h g → g.left ≡ h.left
    → g.marks ≡ set h.marks n false → g.seen ≡ h.seen → Gives h g
gives h g n c among b given still alike left marked seen =
    let m = h.seat.me in
    let a : Account = having_given (account_of m) n in
    let there = held_there h n c (c.suits.owned n ∙ among) in
    let wide : n < length m.0.part.core.owned = omega (arith, there, c.suits.held.few, c.suits.wide) in
    let locks : without n (held_of (carried_of h)) ≡ held_of (carried_of g) = sym (ap (λ (x : Account). x.locks) given) in record {
      carries = carries_as h g a c (b.same.size ∙ c.size ∙ sym (ap length seen)) b.away alike given refl (record {
        owned = owns_less m.0.part.core.owned a.owned (held_of (carried_of h)) n wide refl c.suits.owned;
        marked = marked ∙ ap (λ (os : List Bool). set os n false) c.suits.marked;
        wide = length-set m.0.part.core.owned n false ∙ c.suits.wide;
        held = held_less (held_of (carried_of h)) h.seen g.seen n c.suits.held (ap length seen);
        answered = c.suits.answered;
        draws = omega (arith, c.suits.draws, left);
        commits = omega (arith, c.suits.commits, left);
        few = c.suits.few;
      });
      is = seen_as (carried_of h) (carried_of g) a b.same.now alike.bells left given
          ∙ (λ i. let s : Holding = record (seen_with (carried_of h) a (still i)) { seen = seen i; held = locks i } in s);
      fewer = subst (λ (ns : List ℕ). length ns < length (held_of (carried_of h))) locks (shorter n (held_of (carried_of h)) among);
    }

-- ... at once, or after its first waiter was woken
pub gives_at_once : (h : Inside) (s : Standing) (n : ℕ) → Carries h → is_among n (held_of (carried_of h)) ≡ true
    → IsGive h.seat n true s → Gives h (record h { seat = s; marks = set h.marks n false })
gives_at_once h s n c among e =
    let alike = alike_at_once h s e.0 (ap (λ (a : Account). a.counts.cancelled) e.1.0) c in
    gives h (record h { seat = s; marks = set h.marks n false }) n c among e.0.back e.1.0 e.0.out.deaf
    (record { bells = refl; parker = refl; even = alike.even }) refl refl refl

pub gives_late : (h : Inside) (s : Standing) (n : ℕ) (was now : List Bell) → Carries h → is_among n (held_of (carried_of h)) ≡ true
    → was ≡ h.bells.items → IsGiven h.seat n was s now
    → Gives h (record h { seat = s; marks = set h.marks n false; bells = with_items h.bells now })
gives_late h s n was now c among is w =
    let even : IsEven h.seat.me h.patience was = even_slice h.seat.me h.patience was h.bells.items is c.even in
    let g : Inside = record h { seat = s; marks = set h.marks n false; bells = with_items h.bells now } in
    gives h g n c among w.back w.given w.awake.deaf
    (alike_after h g was now is w.placed refl refl (record { paid = w.paid even.paid; slept = even.slept ∙ sym w.awake.naps }))
    refl refl refl

-- ---- what it asks of its seat

-- it may release what it holds
pub may_give : (h : Inside) (b : Board) (n : ℕ) → Carries h → is_among n (held_of (carried_of h)) ≡ true → IsAt b h.seat
    → MayReleaseNode b n h.seat
may_give h b n c among at = let owner = c.suits.owned n ∙ among in
    record { there = omega (arith, held_there h n c owner, c.size, at.size); away = c.away; owner = owner }

pub may_try : (h : Inside) (v : Carried) (b : Board) (n m : ℕ) → carried_of h ≡ v → Carries h → IsAt b h.seat
    → MayLock n v → m ≡ n → MayTry b m h.seat
may_try h v b n m is c at may same = let mine = subst (MayLock n) (sym is) may in record {
  there = omega (arith, mine.there, same, c.size, at.size);
  away = c.away;
  lacks = ap (owns (view_in h.seat)) same ∙ c.suits.owned n ∙ mine.new;
  base = elim mine.want [ inl has ↦ inl has | inr none ↦ inr (bare_of h c none) ];
  nodes = λ k owned. omega (arith, held_there h k c owned, c.size);
}

-- it tried in vain, and may go on to wait
pub missed : (h : Inside) (s : Standing) (n m : ℕ) → Carries h → MayLock n (carried_of h) → IsBackAtOnce h.seat s
    → HasMissed h.seat.me m s.me → IsTried (carried_of h) n false (carried_of (record h { seat = s }))
missed h s n m c may b e =
    let a : Account = having_tried (account_of h.seat.me) in
    let k = keeps_at_once h s a c b e.tried
    (record { who = refl; owned = refl; locks = refl; held = refl; own = refl; answered = c.suits.answered }) refl c.suits.draws in
    let busy = k.is ∙ ap (seen_with (carried_of h) a) b.out.deaf in (
      record {
        may = record {
          fresh = k.fresh may.fresh;
          want = elim may.want [
            | inl has ↦ inl (subst (λ (k : ℕ). 0 < k) (sym (ap (λ (x : Account). x.stamp) e.tried)) has)
            | inr none ↦ inr (ap (λ (x : Account). x.locks) e.tried ∙ none)
          ];
          there = may.there;
          new = ap (λ (x : Account). is_among n x.locks) e.tried ∙ may.new;
        };
        before = holding_of (carried_of h);
        tried = busy;
        glances = e.glances;
        signs = e.signs;
      },
      busy,
      e.met,
    )
