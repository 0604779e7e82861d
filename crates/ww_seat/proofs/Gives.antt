-- A lock is released inside its guard.
use Rattle.std.proofs.Common.{◌≡◌, ℕ, ◌+◌, ◌<◌, ◌≤◌, Bool, true, false, List, ◌∷◌, refl, sym, ap, ◌∙◌, subst, inl, inr, arith, Some, None}
use mathlib.Core.Option.{some}
use lib.ListN.{get_elem?}
use Rattle.ww_word.specs.declared.owner.Owner.{Owner}
use Rattle.ww_queue.specs.declared.kind.Kind.TheVariants.{WaitDie}
use Rattle.ww_plain.specs.declared.node.Node.{Node}
use Rattle.ww_view.specs.View.{owns, IsAway}
use Rattle.ww_view.specs.May.{MayEnter}
use Rattle.ww_view.specs.Made.{once_inside, fast_given, given}
use Rattle.ww_invariant.specs.declared.cells.Cell.{Cell}
use Rattle.ww_invariant.specs.declared.cells.Cell.TheVariants.{Content, Line}
use Rattle.ww_invariant.specs.declared.cells.Sight.{Sight}
use Rattle.ww_invariant.specs.Rule.{Sat}
use Rattle.ww_invariant.specs.Out.{slot_of, AreOthers}
use Rattle.ww_invariant.specs.Steps.{knowing, giving, keeping}
use Rattle.ww_invariant.specs.Guards.{exiting, looking}
use Rattle.ww_invariant.specs.Waiting.{HasListOnTop, IsOut, giving_inside}
use Rattle.ww_table.specs.Seat.{HasTriedToGive}
use Rattle.ww_table.specs.declared.seat.Giving.{Giving}
use Rattle.ww_table.specs.declared.seat.Giving.TheVariants.{Gave, Kept, Lacked}
use Rattle.ww_table.specs.Inside.{HasListThen}
use Rattle.ww_seat.specs.Orderly.{IsOrderly}
use Rattle.ww_seat.specs.Accounts.{Account, having_given}
use Rattle.ww_seat.specs.Calls.{HasStayedOut, HoldsAsBefore, HasGiven, HasLetOnce}
use Rattle.ww_seat.specs.Guards.{HasLet, IsGiving}
use Rattle.ww_seat.specs.Standings.{HasLetNode}
use Rattle.ww_seat.proofs.Naps.{out_by}
use Rattle.ww_seat.proofs.Holds.{holds_by, holds_then}
use Rattle.ww_seat.proofs.Slots.{front_same, front_apart, is_out}
use Rattle.ww_seat.proofs.Outside.{orderly_brought, orderly_knowing, orderly_still, orderly_bare, set_past, owned_low, owns_here}
use Rattle.ww_seat.proofs.Guards.{HasEntered, exiting_orderly, listed_orderly, without_node}

-- ---- what the calls say of the seat, one after another

pub given_then : (a b c : Sat) (n : ℕ) → HoldsAsBefore a b → HasGiven b n c → HasGiven a n c
given_then a b c n x y = y ∙ ap (λ (z : Account). having_given z n) x

pub then_given : (a b c : Sat) (n : ℕ) → HasGiven a n b → HoldsAsBefore b c → HasGiven a n c
then_given a b c n x y = y ∙ x

pub still_entered : {m m' : Sat} {n : ℕ} → HasEntered m n m' → HoldsAsBefore m m'
still_entered {m} {m'} e = holds_by m m' e.view refl

-- it read the owner word, and then the wait list
pub read_still : (a m : Sat) {m' m'' : Sat} {n : ℕ} {o : Owner} → HoldsAsBefore a m → m' ≡ (looking m.0 o, m.1) → HasListOnTop m' n m''
    → HoldsAsBefore a m''
read_still a m {m'} {m''} before looked read =
    holds_then a m m'' before (holds_then m m' m'' (holds_by m m' (ap (λ (x : Sat). x.0) looked) refl)
    (holds_by m' m'' (ap (λ (x : Sat). x.0) read.now) refl))

-- ---- at once

-- the node of a lock that it owns is out
pub node_out : {size : ℕ} {m : Sat} (n : ℕ) → IsOrderly size m → n < size → owns m.0.part.core n ≡ true
    → (x : Node) × (slot_of m.1 n ≡ Some (Content x)) × (get_elem? m.0.held n ≡ some (Some x))
node_out n o low own = let z = o.nodes n low own in (z.0, z.2, z.1)

-- it released the lock, by what its view is then
given_by : (m m' : Sat) (n : ℕ) {size : ℕ} → m'.0 ≡ giving m.0 n → IsAway m.0.part.core → IsOrderly size m'
    → IsOrderly size m' × IsAway m'.0.part.core × HasGiven m n m'
given_by m m' n view away o = (
  o,
  subst (λ (w : Sight). IsAway w.part.core) (sym view) (away.0, away.1),
  subst (λ (w : Sight). HasGiven m n (w, m'.1)) (sym view) refl,
)

pub given_free : {size : ℕ} {m : Sat} (m' : Sat) {n : ℕ} {x : Node} → IsOrderly size m → IsAway m.0.part.core → n < size → m'.0 ≡ giving m.0 n
    → AreOthers m.1 n (Content x) m'.1 → IsOrderly size m' × IsAway m'.0.part.core × HasGiven m n m'
given_free {size} {m} m' {n} o away small view home = given_by m m' n view away
    (subst (λ (w : Sight). IsOrderly size (w, m'.1)) (sym view) (without_node o small home refl refl))

pub kept_free : {size : ℕ} {m m' : Sat} {n : ℕ} {x : Node} {others : List (ℕ × Cell)} → IsOrderly size m → AreOthers m.1 n (Content x) others
    → m' ≡ (keeping m.0, (n, Content x) ∷ others) → IsOrderly size m'
kept_free {size} {x} o out is = subst (IsOrderly size) (sym is) (orderly_still o refl refl (front_apart o.apart out (Content x)) (front_same o.apart out))

-- the owner may go inside
pub owner_enters : (m m' : Sat) (n : ℕ) → m'.0 ≡ m.0 → IsAway m.0.part.core → owns m.0.part.core n ≡ true → MayEnter m'.0.part.core n
owner_enters m m' n same away own = subst (λ (w : Sight). MayEnter w.part.core n) (sym same)
    (record { outside = away.0; why = inl (away.1, own) })

-- ---- inside

pub entered_giving : {size : ℕ} {m m' : Sat} {n : ℕ} → HasEntered m n m' → IsOrderly size m' → m.0.part.core.waits ≡ 0 → owns m.0.part.core n ≡ true
    → IsGiving size n m'
entered_giving {size} {m} {m'} {n} e o waits own = subst (λ (w : Sight). IsOrderly size (w, m'.1) → IsGiving size n (w, m'.1)) (sym e.view)
    (λ o'. record {
      orderly = o';
      inside = refl;
      waits = waits;
      owner = own;
      seats = e.seats;
      unsigned = λ (is : m.0.part.core.kind ≡ WaitDie). (λ i. once_inside (is i) (waits i) m.0.part.core.sign);
    })
    o

-- it read the owner word, and then the wait list
pub read_giving : {size n : ℕ} {m m' m'' : Sat} {o : Owner} → IsGiving size n m → m' ≡ (looking m.0 o, m.1) → HasListOnTop m' n m''
    → IsGiving size n m''
read_giving {size} {n} {m''} g looked read = subst (λ (w : Sight). IsOrderly size (w, m''.1) → IsGiving size n (w, m''.1))
    (sym (ap (λ (z : Sat). z.0) read.now ∙ ap (λ (z : Sat). z.0) looked)) (λ orderly. record {
      orderly = orderly;
      inside = g.inside;
      waits = g.waits;
      owner = g.owner;
      seats = g.seats;
      unsigned = g.unsigned;
    }) (orderly_brought (orderly_knowing g.orderly looked refl refl) read.apart read.now)

pub giving_out : {size : ℕ} {m : Sat} {n : ℕ} → IsGiving size n m → n < size
    → (x : Node) × IsOut m.1 n (Content x) × (get_elem? m.0.held n ≡ some (Some x))
giving_out {m} {n} g low = let z = node_out n g.orderly low g.owner in (z.0, is_out m.1 n g.orderly.apart z.1, z.2)

-- it released the lock, by what its view has then
lets : {size : ℕ} {m m' : Sat} {n : ℕ} (asked : Bool) → IsGiving size n m → IsOrderly size m' → m'.0 ≡ giving_inside m.0 n asked
    → HasLet size n m m'
lets {size} {m} {m'} {n} asked g o view = let low = owned_low m.0.part.core.owned n g.owner in
    subst (λ (w : Sight). IsOrderly size (w, m'.1) → HasLet size n m (w, m'.1)) (sym view) (λ now. record {
      orderly = now;
      may = record {
        exit = record {
          inside = g.inside;
          why = inl (g.waits, owns_here m.0.part.core.owned n false low);
          unsigned = λ is. inr (inl (g.unsigned is));
          unheeded = g.orderly.unheeded;
        };
        acted = refl;
        again = λ _ w. absurd (let z = g.waits in omega arith);
        looked = λ _ w _ _. absurd (let z = g.waits in omega arith);
      };
      inside = g.inside;
      waits = g.waits;
      given = refl;
      heir = refl;
      debts = refl;
      attempts = refl;
      awake = record { naps = refl; deaf = refl };
    }) o

pub let_go : {size n : ℕ} {m m' : Sat} (asked : Bool) → IsGiving size n m → n < size
    → (x : Node) × (others : List (ℕ × Cell)) × (m'.0 ≡ giving_inside m.0 n asked) × AreOthers m.1 (64 + n) (Line m.0.part.core.list) others
    × AreOthers ((64 + n, Line m.0.part.core.list) ∷ others) n (Content x) m'.1 → HasLet size n m m'
let_go {size} {n} {m} {m'} asked g small got =
    let o : IsOrderly size (m.0, (64 + n, Line m.0.part.core.list) ∷ got.1) = listed_orderly g.orderly g.inside got.3 refl in
    lets asked g (subst (λ (w : Sight). IsOrderly size (w, m'.1)) (sym got.2) (without_node o small got.4 refl refl)) got.2

-- ---- a lock that guards no node

pub given_bare : {size : ℕ} {m m' : Sat} (n : ℕ) → IsOrderly size m → IsAway m.0.part.core → size ≤ n
    → m' ≡ (knowing m.0 (fast_given m.0.part.core n), m.1) → IsOrderly size m' × IsAway m'.0.part.core × HasGiven m n m'
given_bare {size} {m} {m'} n o away big is = let wide = o.held in
    given_by m m' n (ap (λ (z : Sat). z.0) is ∙ (λ i. record (m.0) {
      part = record (m.0.part) { core = fast_given m.0.part.core n };
      held = sym (set_past m.0.held n None (omega arith)) i;
    })) away (subst (IsOrderly size) (sym is) (orderly_bare n false o big refl refl))

-- one try to release it, of which the lock's word tells whether the seat has it
pub let_once : {size : ℕ} (n : ℕ) {m : Sat} (m' : Sat) (a : Giving) → IsOrderly size m → IsAway m.0.part.core → size ≤ n → HasTriedToGive m n a m'
    → IsOrderly size m' × IsAway m'.0.part.core × HasLetOnce m n a m'
let_once n m' Gave o away big t = let z = given_bare n o away big t.1 in
    (z.0, z.1, (t.0, z.2, ap (λ (w : Sat). w.0.part.core.kept) t.1))
let_once n {m} m' Kept o away big t = (
  orderly_knowing o t.1 refl refl,
  subst (λ (w : Sat). IsAway w.0.part.core) (sym t.1) (away.0, away.1),
  (t.0, holds_by m m' (ap (λ (w : Sat). w.0) t.1) refl, ap (λ (w : Sat). w.0.part.core.kept) t.1),
)
let_once {size} n m' Lacked o away big t = (subst (IsOrderly size) (sym t.1) o, subst (λ (w : Sat). IsAway w.0.part.core) (sym t.1) away, t)

pub let_go_bare : {size n : ℕ} {m m' : Sat} (asked : Bool) → IsGiving size n m → size ≤ n
    → HasListThen m n (knowing m.0 (given m.0.part.core n asked)) m.0.part.core.list m' → HasLet size n m m'
let_go_bare {size} {n} {m} {m'} asked g big got = let wide = g.orderly.held in
    let o : IsOrderly size (m.0, (64 + n, Line m.0.part.core.list) ∷ got.0) = listed_orderly g.orderly g.inside got.1 refl in
    let view : m'.0 ≡ giving_inside m.0 n asked = ap (λ (z : Sat). z.0) got.2 ∙ (λ i. record (m.0) {
      part = record (m.0.part) { core = given m.0.part.core n asked };
      held = sym (set_past m.0.held n None (omega arith)) i;
    }) in
    lets asked g (subst (IsOrderly size) (sym got.2) (orderly_bare n false o big refl refl)) view

-- ---- outside again

pub has_let : {size : ℕ} (a : Sat) {b c : Sat} (m' : Sat) {n : ℕ} → HoldsAsBefore a b → HasLet size n b c → m'.0 ≡ exiting c.0
    → AreOthers c.1 (64 + n) (Line c.0.part.core.list) m'.1 → IsOrderly size m' × IsAway m'.0.part.core × HasGiven a n m'
has_let a {b} {c} m' {n} before l view home = (
  exiting_orderly l.orderly l.inside view home,
  subst (λ (w : Sight). IsAway w.part.core) (sym view) (refl, l.waits),
  then_given a c m' n (given_then a b c n before l.given) (holds_by c m' view refl),
)

-- one try to release a lock at once that guards a node
pub gave_or_kept : {size : ℕ} (n : ℕ) (r : Bool) {m : Sat} (m' : Sat) → IsOrderly size m → IsAway m.0.part.core → n < size
    → (r ≡ true → (x : Node) × (m'.0 ≡ giving m.0 n) × AreOthers m.1 n (Content x) m'.1)
    → (r ≡ false → (x : Node) × (others : List (ℕ × Cell)) × AreOthers m.1 n (Content x) others × (m' ≡ (keeping m.0, (n, Content x) ∷ others)))
    → IsOrderly size m' × IsAway m'.0.part.core × HasStayedOut m.0.part.core m'.0.part.core × HasLetNode m n r m'
gave_or_kept n true m' o away small gave kept = let e = gave refl in
    let z = given_free m' o away small e.1 e.2 in (
      z.0,
      z.1,
      out_by e.1 (record { attempts = refl; debts = refl; naps = refl; deaf = refl }),
      (z.2, ap (λ (w : Sight). w.part.core.kept) e.1),
    )
gave_or_kept n false {m} m' o away small gave kept = let e = kept refl in
    let view : m'.0 ≡ keeping m.0 = ap (λ (z : Sat). z.0) e.3 in (
      kept_free o e.2 e.3,
      subst (λ (w : Sight). IsAway w.part.core) (sym view) (away.0, away.1),
      out_by view (record { attempts = refl; debts = refl; naps = refl; deaf = refl }),
      (holds_by m m' view refl, ap (λ (w : Sight). w.part.core.kept) view),
    )
