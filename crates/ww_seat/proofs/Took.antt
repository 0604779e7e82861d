-- A lock taken inside its guard.
use Rattle.std.proofs.Common.{◌≡◌, ◌≢◌, inl, inr, ℕ, suc, ◌+◌, ◌<◌, ◌≤◌, Bool, true, false, List, [], ◌∷◌, length, set, slice_get, refl, sym, ap, ◌∙◌, subst, arith, Option, Some, None, IfSome, eqb}
use Rattle.std.specs.Bool.{if◌then◌else◌}
use mathlib.Core.Option.{some}
use mathlib.Core.Option as maybe
use mathlib.Core.Logic.{dite}
use native.Mathlib.Decide.{dec_le}
use lib.ListN.{get_elem?}
use Rattle.atomic_table.proofs.Lists.{set_here}
use Rattle.ww_word.specs.declared.owner.Owner.{Owner}
use Rattle.ww_queue.specs.declared.entry.Entry.{Entry}
use Rattle.ww_queue.specs.declared.kind.Kind.TheVariants.{WaitDie}
use Rattle.ww_queue.specs.Queue.{Has, Once, left}
use Rattle.ww_queue.specs.Rules.{must_die, owed_signs}
use Rattle.ww_queue.proofs.Leaves.{left_has, left_once, left_gone}
use Rattle.ww_queue.proofs.Deaths.{only_waiters_die}
use Rattle.ww_model.specs.State.{waiting}
use Rattle.ww_plain.specs.declared.node.Node.{Node}
use Rattle.ww_plain.specs.Graph.{IsNodeOf, no_node}
use Rattle.ww_view.specs.declared.view.View.{View}
use Rattle.ww_view.specs.View.{owns}
use Rattle.ww_view.specs.Word.{taken_word}
use Rattle.ww_view.specs.Made.{taken}
use Rattle.ww_invariant.specs.declared.cells.Cell.{Cell}
use Rattle.ww_invariant.specs.declared.cells.Cell.TheVariants.{Content, Line}
use Rattle.ww_invariant.specs.declared.cells.Sight.{Sight}
use Rattle.ww_invariant.specs.Rule.{Sat}
use Rattle.ww_invariant.specs.Out.{AreOthers}
use Rattle.ww_invariant.specs.Steps.{knowing}
use Rattle.ww_invariant.specs.Guards.{AreSeats, exiting}
use Rattle.ww_invariant.specs.Waiting.{HasListOnTop, taking_inside}
use Rattle.ww_table.specs.Inside.{HasListThen}
use Rattle.ww_seat.specs.Orderly.{IsOrderly}
use Rattle.ww_seat.specs.Accounts.{Account, account_of, having_taken}
use Rattle.ww_seat.specs.Calls.{HasTaken}
use Rattle.ww_seat.specs.Looks.{IsLook}
use Rattle.ww_seat.specs.Work.{signing, IsWorking, MayGo, HasNoted, HasReadNode, HasSigned, HasTakenInside, IsOwnWord}
use Rattle.ww_seat.specs.declared.look.Look.TheVariants.{Locked}
use Rattle.ww_seat.proofs.Slots.{slot_here, slot_else, others_gone, others_else, others_apart}
use Rattle.ww_seat.proofs.Outside.{orderly_brought, orderly_bare, orderly_taken, set_past}
use Rattle.ww_seat.proofs.Guards.{listed_among, listed_orderly}

-- what is out once the lock is taken
pub taking_orderly : {size n : ℕ} {m : Sat} (x : Node) {others : List (ℕ × Cell)} → IsOrderly size m → n < size → m.0.part.core.inside ≡ suc n
    → owns m.0.part.core n ≡ false → AreOthers m.1 (64 + n) (Line m.0.part.core.list) others
    → IsOrderly size (taking_inside m.0 n x, (64 + n, Line (left m.0.part.core.list m.0.part.core.who)) ∷ (n, Content x) ∷ others)
taking_orderly {n} {m} x {others} o low inside lacks out = let few = o.few in
    let q : Cell = Line (left m.0.part.core.list m.0.part.core.who) in
    let far : 64 + n ≢ n = λ e. absurd (omega arith) in
    listed_among (orderly_taken o low lacks refl) inside refl (
      slot_else n (Content x) others (64 + n) far ∙ others_gone o.apart out,
      (others_else o.apart out n (λ e. far (sym e)) ∙ o.others n (omega arith) (inr lacks), others_apart o.apart out),
    )
    (λ k isnt. slot_else (64 + n) q ((n, Content x) ∷ others) k isnt
    ∙ ap (λ (z : Option Cell). if eqb n k then Some (Content x) else z) (others_else o.apart out k isnt))
    (slot_here (64 + n) q ((n, Content x) ∷ others))

pub is_taken : {size n : ℕ} {m m1 : Sat} → IsOrderly size m → n < size → m.0.part.core.inside ≡ suc n → owns m.0.part.core n ≡ false
    → (got : (x : Node) × (others : List (ℕ × Cell)) × IsNodeOf (length m.0.held) x
    × AreOthers m.1 (64 + n) (Line m.0.part.core.list) others
    × (m1 ≡ (taking_inside m.0 n x, (64 + n, Line (taken m.0.part.core n).list) ∷ (n, Content x) ∷ others)))
    → HasTakenInside size n m got.0 m1
is_taken {size} o low inside lacks got = record {
  orderly = subst (IsOrderly size) (sym got.4) (taking_orderly got.0 o low inside lacks got.3);
  view = ap (λ (z : Sat). z.0) got.4;
  node = got.2;
}

pub taken_read : {size n : ℕ} {m m1 m2 : Sat} {x : Node} → HasTakenInside size n m x m1 → HasListOnTop m1 n m2 → HasTakenInside size n m x m2
taken_read t top = record {
  orderly = orderly_brought t.orderly top.apart top.now;
  view = ap (λ (z : Sat). z.0) top.now ∙ t.view;
  node = t.node;
}

pub left_seats : (n : ℕ) (q : List Entry) (s : ℕ) → AreSeats n q → AreSeats n (left q s)
left_seats n q s seats e h = seats e (left_has q s e h)

-- the seat of the word that tells of the seat itself
pub own_there : {o : Option ℕ} {w u : ℕ} (n : ℕ) → o ≡ Some w → w < n → o ≡ Some u → u < n
own_there n is low same = subst (λ (x : Option ℕ). IfSome x (λ k. k < n)) (sym is ∙ same) low

-- what the signs ask of a seat that took the lock
pub record OwesAfter (n : ℕ) (w : View) : Type 0 where
  pub inside : w.inside ≡ suc n
  pub seats : AreSeats w.seats w.list
  pub once : Once w.list
  pub seen : w.seen ≡ Some (taken_word w.who w.stamp w.list)

pub owes_after : {size n : ℕ} {s l : Bool} {m m2 : Sat} {x : Node} → IsWorking n s l m.0.part.core → HasTakenInside size n m x m2
    → OwesAfter n m2.0.part.core
owes_after {n} {m} w t = let v : View = m.0.part.core in subst (λ (z : Sight). OwesAfter n z.part.core) (sym t.view)
    (record { inside = w.inside; seats = left_seats v.seats v.list v.who w.seats; once = left_once v.list v.who w.once; seen = refl })

pub waiting_first : (q : List Entry) {e : Entry} → slice_get q 0 ≡ Some e → 1 ≡ waiting q
waiting_first [] is = absurd cc
waiting_first (f ∷ fs) is = refl

pub waiting_none : (q : List Entry) → slice_get q 0 ≡ None → 0 ≡ waiting q
waiting_none [] is = refl
waiting_none (f ∷ fs) is = absurd cc

pub word_is : (q : List Entry) {who stamp : ℕ} (flags : ℕ) {who2 stamp2 : ℕ} → who2 ≡ who → stamp2 ≡ stamp → flags ≡ waiting q
    → record { seat = Some who2; stamp = stamp2; flags = flags } ≡ taken_word who stamp q
word_is q {stamp} flags a b c = λ i. record { seat = Some (a i); stamp = b i; flags = c i }

pub read_who : {n : ℕ} {m m1 : Sat} {w : ℕ} → HasListOnTop m n m1 → m1.0.part.core.who ≡ w → w ≡ m.0.part.core.who
read_who top is = sym is ∙ ap (λ (z : Sat). z.0.part.core.who) top.now

pub read_stamp : {n : ℕ} {m m1 : Sat} {w : ℕ} → HasListOnTop m n m1 → m1.0.part.core.stamp ≡ w → w ≡ m.0.part.core.stamp
read_stamp top is = sym is ∙ ap (λ (z : Sat). z.0.part.core.stamp) top.now

pub word_read : {n : ℕ} {m m1 : Sat} {o : Owner} → IsOwnWord n m o m1
    → o ≡ taken_word m1.0.part.core.who m1.0.part.core.stamp m1.0.part.core.list
word_read own = own.word ∙ ap (λ (z : Sat). taken_word z.0.part.core.who z.0.part.core.stamp z.0.part.core.list) (sym own.read.now)

-- ---- on the way out

go_taken : {n : ℕ} {s l : Bool} {v : View} {signed condemned debts : List ℕ} {fresh : Bool} → IsWorking n s l v
    → ((u k : ℕ) → Has (owed_signs v.kind (taken_word v.who v.stamp (left v.list v.who)) (left v.list v.who) v.who) (u, k) → Has signed u)
    → MayGo n (signing (taken v n) signed condemned debts fresh)
go_taken {v} {signed} w all =
    let q : List Entry = left v.list v.who in let word : Owner = taken_word v.who v.stamp q in
    let lives : v.kind ≡ WaitDie → must_die v.kind word q v.who 0 ≡ None =
    λ _. only_waiters_die v.kind word q v.who 0 (left_gone v.list v.who w.once) in
    record {
      inside = w.inside;
      why = inr (record { word = word; seen = refl; signed = all; other = inl refl; lives = lives });
      acted = refl;
      again = λ _ at. absurd (omega arith);
      looked = λ _ at. absurd (omega arith);
      lives = λ d. (word, refl, lives d);
    }

pub taken_goes : {size n : ℕ} {s l : Bool} {m m2 m3 : Sat} {x : Node} {word : Owner} → IsWorking n s l m.0.part.core
    → HasTakenInside size n m x m2 → word ≡ taken_word m2.0.part.core.who m2.0.part.core.stamp m2.0.part.core.list → HasSigned size word m2 m3
    → MayGo n m3.0.part.core
taken_goes {n} {m2} w t is h = subst (λ (z : Sight). MayGo n z.part.core) (sym (h.view ∙ ap (λ (z : Sight). knowing z
    (signing z.part.core h.signed h.condemned h.debts h.fresh)) t.view)) (go_taken w
    (λ u k has. h.all u k (subst (λ (o : Owner). Has (owed_signs m2.0.part.core.kind o m2.0.part.core.list m2.0.part.core.who) (u, k)) (sym is)
    (subst (λ (z : Sight). Has (owed_signs z.part.core.kind
    (taken_word z.part.core.who z.part.core.stamp z.part.core.list) z.part.core.list z.part.core.who) (u, k)) (sym t.view) has))))

abbrev named : {A : Type 0} → A → maybe.Option (Option A) → A
named d (some (Some x)) = x
named d (some None) = d
named d maybe.none = d

out_view : {size n : ℕ} {m m2 m3 : Sat} (m4 : Sat) {x : Node} {owed : List (ℕ × ℕ)} → HasTakenInside size n m x m2 → (h : HasNoted size owed m2 m3)
    → m4.0 ≡ exiting m3.0 → m4.0 ≡ exiting (knowing (taking_inside m.0 n x) (signing (taken m.0.part.core n) h.signed h.condemned h.debts h.fresh))
out_view m4 t h out = out ∙ ap exiting (h.view ∙ ap (λ (z : Sight). knowing z (signing z.part.core h.signed h.condemned h.debts h.fresh)) t.view)

-- a lock that guards no node comes with none
pub is_taken_bare : {size n : ℕ} {m m1 : Sat} → IsOrderly size m → size ≤ n → m.0.part.core.inside ≡ suc n
    → HasListThen m n (knowing m.0 (taken m.0.part.core n)) (taken m.0.part.core n).list m1
    → HasTakenInside size n m no_node m1
is_taken_bare {size} {n} {m} o big inside got = let wide = o.held in
    let w : Sight = knowing m.0 (record (m.0.part.core) { list = left m.0.part.core.list m.0.part.core.who }) in
    let listed : IsOrderly size (w, (64 + n, Line w.part.core.list) ∷ got.0) = listed_orderly o inside got.1 refl in record {
      orderly = subst (IsOrderly size) (sym got.2) (orderly_bare n true listed big refl refl);
      view = ap (λ (z : Sat). z.0) got.2 ∙ (λ i. record (m.0) {
        part = record (m.0.part) { core = taken m.0.part.core n };
        held = sym (set_past m.0.held n (Some no_node) (omega arith)) i;
      });
      node = tt;
    }

-- the node that is given then is the one that was taken, or a blank one where the lock guards none
pub look_taken : {size n : ℕ} {m m2 m3 m4 m5 : Sat} {x r : Node} {owed : List (ℕ × ℕ)} → IsOrderly size m
    → HasTakenInside size n m x m2 → HasNoted size owed m2 m3 → m4.0 ≡ exiting m3.0 → HasReadNode size n m4 r m5
    → IsLook size n m (Locked r) m5 × (m5.0.part.core.attempts ≡ m.0.part.core.attempts)
look_taken {size} {n} {m} {m4} {m5} {x} {r} o t h out read =
    let wide = o.held in
    let base = out_view m4 t h out in
    let fits : (set m.0.held n (Some x) ≡ set m.0.held n (Some r)) × IsNodeOf (length m.0.held) r = dite (dec_le size n)
    (λ big. (set_past m.0.held n (Some x) (omega arith) ∙ sym (set_past m.0.held n (Some r) (omega arith)), read.blank big (length m.0.held)))
    (λ small. let low : n < size = omega arith in
    let had : get_elem? m4.0.held n ≡ some (Some x) = ap (λ (z : Sight). get_elem? z.held n) base ∙ set_here m.0.held n (Some x) (omega arith) in
    let same : x ≡ r = ap (named no_node) (sym had ∙ read.node low) in
    (ap (λ (y : Node). set m.0.held n (Some y)) same, subst (IsNodeOf (length m.0.held)) same t.node)) in
    let view = read.view ∙ base in
    let took : HasTaken m n r m5 = subst (λ (z : Sight). HasTaken m n r (z, m5.1)) (sym view) (record {
      now = ap (λ hs. let y : Account = record (having_taken (account_of m) n r) { held = hs } in y) fits.0;
      node = fits.1;
      unmet = refl;
    }) in (
      (read.orderly, ((ap (λ (z : Sight). z.part.core.inside) view, ap (λ (z : Sight). z.part.core.waits) view), took)),
      ap (λ (z : Sight). z.part.core.attempts) view,
    )
