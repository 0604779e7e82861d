-- Passes that have done nothing yet.
use Rattle.std.proofs.Common.{◌≡◌, ℕ, zero, suc, ◌+◌, ◌<◌, ◌≤◌, ◌^◌, false, replicate, List, [], ◌∷◌, ◌++◌, length, map, reverse, drop, None, Some, refl, sym, ap, subst, ◌∙◌, arith, length-append, get_or, below_more}
use Rattle.std.specs.Prelude.{slice_get}
use Rattle.std.specs.List.{AllByRecursion}
use Rattle.std.proofs.lemmas.List.{get_or_append_left, get_or_push, length-replicate, map-append, reverse-append}
use Rattle.atomic_table.specs.Seated.{TableId}
use Rattle.ww_plain.specs.declared.node.Node.{Node}
use Rattle.ww_view.specs.View.{owns, IsAway}
use Rattle.ww_invariant.specs.declared.cells.Start.{Start}
use Rattle.ww_table.specs.declared.seat.Stepper.{Stepper}
use Rattle.ww_invariant.specs.Rule.{Sat, first_graph, wakes_owed}
use Rattle.ww_table.specs.Seat.{IsNew}
use Rattle.ww_plain.specs.Numbers.{is_among}
use Rattle.ww_lock.specs.declared.hand.Hand.TheInside.{Inside}
use Rattle.ww_lock.specs.Holding.{Home, Holding, Setting, IsAtHome, AreAtHome, by_of}
use Rattle.ww_seat.specs.declared.bell.Bell.{Bell}
use Rattle.ww_seat.specs.Accounts.{account_of}
use Rattle.ww_seat.specs.Bells.{heard, rings_at, rung, rung_at, sleeps_at}
use Rattle.ww_seat.specs.Standings.{Standing, standing_of, view_in}
use Rattle.ww_lock.specs.Carried.{held_of, seen_with, holding_of}
use Rattle.ww_lock.specs.Hands.{carried_of, Carries}
use Rattle.ww_lock.specs.Opened.{fresh, AreFresh, AreRests}
use Rattle.ww_lock.specs.declared.world.Rest.{Rest}
use mathlib.Core.Option.{some}
use lib.ListN.{get_elem?}
use Rattle.ww_invariant.proofs.Seats.{bare_first}
use Rattle.ww_lock.proofs.Helds.{held_none}

-- a bell that has given no token
silent_at : (bells : List Bell) (u : ℕ) → u < length bells → AllByRecursion (λ b. rung b ≡ 0) bells → rung_at bells u ≡ Some 0
silent_at [] u low all = absurd (omega (arith, low))
silent_at (b ∷ bs) zero low all = ap Some all.0
silent_at (b ∷ bs) (suc u) low all = silent_at bs u (omega (arith, low)) all.1

-- what a pass carries whose seat was made just now, and that has seen the graph
pub new_carries : (t : TableId) (key : Start) (k : ℕ) (q : Stepper) (h : Inside) → IsNew t key k q → h.seat ≡ standing_of q
    → h.marks ≡ replicate 64 false → h.seen ≡ first_graph key → length (first_graph key) ≤ 64 → key.locks ≡ 64 → key.places ≡ 16
    → h.left < 2 ^ 32 → slice_get (map rings_at h.bells.items) k ≡ Some (sleeps_at h.patience)
    → AllByRecursion (λ b. rung b ≡ 0) h.bells.items → heard h.patience ≡ 0 → Carries h
new_carries t key k q h new is marks seen few locks places left placed silent awake =
    let me = ap (λ (s : Standing). s.me) is ∙ new.me in
    let none : held_of (carried_of h) ≡ [] = ap (λ (m : Sat). m.0.part.core.locks) me in
    let who : (view_in h.seat).who ≡ k = ap (λ (s : Standing). (view_in s).who) is ∙ new.seated.who ∙ new.number in
    let seats : q.seats ≡ 16 = sym new.seated.seats ∙ ap (λ (m : Sat). m.0.part.core.seats) new.me ∙ places in
    let owned : h.seat.me.0.part.core.owned ≡ replicate 64 false = ap (λ (m : Sat). m.0.part.core.owned) me
    ∙ ap (λ (n : ℕ). replicate n false) locks in
    record {
      away = subst (λ (m : Sat). IsAway m.0.part.core) (sym me) (refl, refl);
      size = ap (λ (m : Sat). length m.0.held) me ∙ length-replicate (length (first_graph key)) None ∙ sym (ap length seen);
      suits = record {
        owned = λ n. ap (λ (m : Sat). owns m.0.part.core n) me ∙ bare_first key.kind key.locks key.places k n ∙ sym (ap (is_among n) none);
        marked = marks ∙ sym owned;
        wide = ap length owned ∙ length-replicate 64 false;
        held = rw (none, seen) (held_none (first_graph key) few);
        answered = ap (λ (m : Sat). by_of m.0.part.core.stopped) me ∙ sym (ap (λ (m : Sat). m.0.part.counts.heeded) me);
        draws = omega (arith, left, ap (λ (m : Sat). m.0.part.counts.draws) me);
        commits = omega (arith, left, ap (λ (m : Sat). length m.0.part.own) me);
        few = omega (arith, who, new.number, new.seated.few, seats);
      };
      placed = ap (slice_get (map rings_at h.bells.items)) who ∙ placed;
      even = record {
        paid = λ u low. silent_at h.bells.items u low silent ∙ sym (ap (λ (m : Sat). Some (wakes_owed m.0.part u)) me);
        slept = awake ∙ sym (ap (λ (m : Sat). m.0.part.core.naps) me);
      };
    }

pub new_holding : (home : Home) (key : Start) (k : ℕ) (q : Stepper) (h : Inside) → IsNew home.table key k q → h.seat ≡ standing_of q
    → h.seen ≡ first_graph key → map rings_at h.bells.items ≡ home.parkers
    → holding_of (carried_of h) ≡ fresh home (first_graph key) h.left k h.seat.room
new_holding home key k q h new is seen bells =
    let me = ap (λ (s : Standing). s.me) is ∙ new.me in
    let table = ap (λ (s : Standing). s.home) is ∙ new.seated.home in
    λ i. seen_with (record { seat = record (h.seat) { home = table i }; parkers = bells i; left = h.left; seen = seen i })
    (account_of (me i)) (me i).0.part.core.deaf

-- it holds nothing, and has no context
pub new_idle : (t : TableId) (key : Start) (k : ℕ) (q : Stepper) (s : Standing) → IsNew t key k q → s ≡ standing_of q
    → ((view_in s).stamp ≡ 0) × ((view_in s).locks ≡ [])
new_idle t key k q s new is = let me = ap (λ (x : Standing). x.me) is ∙ new.me in
    (ap (λ (m : Sat). m.0.part.core.stamp) me, ap (λ (m : Sat). m.0.part.core.locks) me)

pub fresh_more : (all new : List Holding) (s : Holding) (first : List Node) (home : Home) (n budget : ℕ)
    → AreFresh all first home n budget → s ≡ fresh home first budget n s.room → new ≡ all ++ s ∷ []
    → AreFresh new first home (n + 1) budget
fresh_more all new s first home n budget h is grown = rw grown (record {
  count = omega (arith, h.count, length-append all (s ∷ []));
  each = λ i d lt. below_more (λ j. (e : Holding)
      → get_or (all ++ s ∷ []) j e ≡ fresh home first budget j (get_or (all ++ s ∷ []) j e).room) n
      (λ j low e. let small : j < length all = omega (arith, h.count, low) in
      rw (get_or_append_left all (s ∷ []) e j small) (h.each j e small))
      (λ e. rw (get_or_push all s e n h.count) is)
      i (omega (arith, h.count, lt, length-append all (s ∷ []))) d;
})

-- what holds at each index holds of each
pub all_from_index : {A : Type 0} (P : A → Type 0) (xs : List A)
    → ((i : ℕ) (d : A) → i < length xs → P (get_or xs i d)) → AllByRecursion P xs
all_from_index P [] each = tt
all_from_index P (x ∷ xs) each = (each 0 x (omega arith), all_from_index P xs (λ i d lt. each (suc i) d (omega (arith, lt))))

-- passes that have done nothing yet are at home where they were made
pub fresh_home : (w : Setting) (all : List Holding) (passes budget : ℕ) → AreFresh all w.first w.home passes budget
    → w.passes ≡ passes → AreAtHome all w
fresh_home w all passes budget fresh count = all_from_index (λ s. IsAtHome s w) all (λ i d lt.
    subst (λ (s : Holding). IsAtHome s w) (sym (fresh.each i d lt))
    (record { home = refl; size = refl; number = omega (arith, lt, fresh.count, count) }))

pub elem_mid : {A : Type 0} (xs ys : List A) (y : A) → get_elem? (xs ++ y ∷ ys) (length xs) ≡ some y
elem_mid [] ys y = refl
elem_mid (x ∷ xs) ys y = elem_mid xs ys y

-- one of these parts less, and what is known of that one
record TakesRest (graph : List Node) (parkers : List TableId) (front : List Rest) (r : Rest) : Type 0 where
  parkers_are : sleeps_at r.patience ∷ reverse (map (λ (x : Rest). sleeps_at x.patience) front) ≡ parkers
  rests : AreRests graph (reverse (map (λ (x : Rest). sleeps_at x.patience) front)) front
  seen : r.seen ≡ graph
  awake : heard r.patience ≡ 0

rests_less : (graph : List Node) (parkers : List TableId) (rests front : List Rest) (r : Rest)
    → AreRests graph parkers rests → rests ≡ front ++ r ∷ [] → TakesRest graph parkers front r
rests_less graph parkers rests front r h is =
    let split = last_of (λ (x : Rest). x.seen ≡ graph) front r (subst (AllByRecursion (λ (x : Rest). x.seen ≡ graph)) is h.seen) in
    let slept = last_of (λ (x : Rest). heard x.patience ≡ 0) front r
    (subst (AllByRecursion (λ (x : Rest). heard x.patience ≡ 0)) is h.awake) in
    let at : Rest → TableId = λ x. sleeps_at x.patience in
    let turned : reverse (map at (front ++ r ∷ [])) ≡ at r ∷ reverse (map at front) =
    ap reverse (map-append at front (r ∷ [])) ∙ reverse-append (map at front) (at r ∷ []) in
    record {
      parkers_are = sym turned ∙ sym (ap (λ (rs : List Rest). reverse (map at rs)) is) ∙ h.parkers_are;
      rests = record { parkers_are = refl; seen = split.0; awake = slept.0 };
      seen = split.1;
      awake = slept.1;
    }
  where
    last_of : (P : Rest → Type 0) (front : List Rest) (r : Rest) → AllByRecursion P (front ++ r ∷ []) → AllByRecursion P front × P r
    last_of P [] r all = (tt, all.0)
    last_of P (x ∷ xs) r all = let rest = last_of P xs r all.1 in ((all.0, rest.0), rest.1)

-- what is read where the rest of a list begins
front_read : (parkers rest : List TableId) (k : ℕ) (p : TableId) → p ∷ rest ≡ drop k parkers
    → (slice_get parkers k ≡ Some p) × (drop (suc k) parkers ≡ rest)
front_read [] rest zero p is = absurd (omega (arith, ap length is))
front_read [] rest (suc k) p is = absurd (omega (arith, ap length is))
front_read (q ∷ qs) rest zero p is = (ap Some (sym (ap (λ (l : List TableId). get_or l 0 p) is)), sym (ap (drop 1) is))
front_read (q ∷ qs) rest (suc k) p is = front_read qs rest k p is

-- The next of new seats has the number of those before it, sees the first graph, and sleeps on the parker of this number.
pub record IsNext (t : TableId) (key : Start) (parkers : List TableId) (seats yielded more : List Stepper)
    (s : Stepper) (front : List Rest) (r : Rest) : Type 0 where
  pub new : IsNew t key (length yielded) s
  pub whole : yielded ++ s ∷ more ≡ seats
  pub rests : AreRests (first_graph key) (drop (suc (length yielded)) parkers) front
  pub seen : r.seen ≡ first_graph key
  pub placed : slice_get parkers (length yielded) ≡ Some (sleeps_at r.patience)
  pub awake : heard r.patience ≡ 0

pub next_is : (t : TableId) (key : Start) (parkers : List TableId) (seats yielded rest more : List Stepper)
    (s : Stepper) (rests front : List Rest) (r : Rest)
    → ((k : ℕ) (x : Stepper) → get_elem? seats k ≡ some x → IsNew t key k x) → yielded ++ rest ≡ seats
    → rest ≡ s ∷ more
    → AreRests (first_graph key) (drop (length yielded) parkers) rests → rests ≡ front ++ r ∷ []
    → IsNext t key parkers seats yielded more s front r
next_is t key parkers seats yielded rest more s rests front r each whole step are popped =
    let here = ap (λ (l : List Stepper). yielded ++ l) (sym step) ∙ whole in
    let less = rests_less (first_graph key) (drop (length yielded) parkers) rests front r are popped in
    let read = front_read parkers _ (length yielded) (sleeps_at r.patience) less.parkers_are in
    record {
      new = each (length yielded) s (subst (λ (l : List Stepper). get_elem? l (length yielded) ≡ some s) here (elem_mid yielded more s));
      whole = here;
      rests = subst (λ (ps : List TableId). AreRests (first_graph key) ps front) (sym read.1) less.rests;
      seen = less.seen;
      placed = read.0;
      awake = less.awake;
    }
