-- What a seat is after a step that leaves the rest of it alone.
use Rattle.std.proofs.Common.{◌≡◌, ◌≢◌, ℕ, ◌+◌, ◌<◌, ◌≤◌, ◌^◌, ◌==◌, Bool, List, Option, Some, refl, sym, ap, ◌∙◌, subst, arith}
use Rattle.std.specs.Prelude.{IsSome}
use Rattle.std.specs.List.{AllByRecursion}
use mathlib.Core.Logic.{dite}
use native.Mathlib.Decide.{ℕ_discrete}
use Rattle.atomic_table.specs.declared.shared.Seat.{Seat}
use Rattle.atomic_table.specs.Seated.{TableId}
use Rattle.atomic_table.specs.Table.{Step}
use Rattle.ww_plain.specs.declared.history.Record.{Record}
use Rattle.ww_word.specs.declared.wide.Owner.{Owner}
use Rattle.ww_word.specs.AnySeats.{Fits, IsValid, packed, most_for}
use Rattle.ww_queue.specs.declared.kind.Kind.{Kind}
use Rattle.ww_queue.proofs.Outcomes.{same_number, other_number}
use Rattle.ww_invariant.specs.Layout.{IsSized, lock_at, sign_at, cancel_at}
use Rattle.ww_invariant.specs.declared.cells.Cell.{Cell}
use Rattle.ww_invariant.specs.declared.cells.Part.{Part}
use Rattle.ww_invariant.specs.declared.cells.Sight.{Sight}
use Rattle.ww_invariant.proofs.Lies.{lock_next, lock_low}
use Rattle.ww_invariant.proofs.Moves.{Allowed, Exchanges, on_owner, same_shot}
use Rattle.ww_invariant.specs.Rule.{Sat, IsSize}
use Rattle.ww_invariant.specs.Out.{numbers_of}
use Rattle.ww_invariant.specs.Guards.{lost}
use Rattle.ww_invariant.specs.Waiting.{HasListOnTop, IsStillThere}
use Rattle.ww_invariant.specs.Steps.{taker}
use Rattle.ww_table.specs.declared.seat.Stepper.{Stepper}
use Rattle.ww_table.specs.declared.board.Board.{Board}
use Rattle.ww_table.specs.Steps.{IsEither}
use Rattle.ww_table.specs.Seat.{IsSeated, IsSeatOf, base_of, locks_of, size_of, stamp_step, view_of}

-- what most steps leave as it was of what the seat knows
pub record Known : Type 0 where
  pub seated : Bool
  pub kind : Kind
  pub who : ℕ
  pub room : ℕ
  pub seats : ℕ
  pub stamp : ℕ
  pub own : List (ℕ × Record)
  pub idle : List Part

abbrev pub known : Sight → Known
known v = let c = v.part.core in record {
  seated = v.seated;
  kind = c.kind;
  who = c.who;
  room = c.room;
  seats = c.seats;
  stamp = c.stamp;
  own = v.part.own;
  idle = v.idle;
}

-- ... with the lock that it waits for
abbrev pub stays : Sight → Known × ℕ
stays v = (known v, v.part.core.waits)

-- the seat is as it was, but for its view, the slots that it has out, and its page
pub seated_paged : {table : TableId} {s new : Stepper} (w : Sight) → IsSeated table s
    → new.seat.table_id ≡ s.seat.table_id → new.seat.me.0 ≡ w → known w ≡ known s.seat.me.0
    → (w.part.core.waits ≡ 0 → IsSome new.page)
    → new ≡ record s { seat = new.seat; order = new.order; page = new.page }
    → new.order.items ≡ numbers_of new.seat.me.1 → IsSeated table new
seated_paged {table} w was home view knows paged same order = let now = ap known view ∙ knows in let back = sym same in record {
  home = home ∙ was.home;
  seated = ap (λ (k : Known). k.seated) now ∙ was.seated;
  kind = ap (λ (x : Stepper). x.kind) same ∙ was.kind ∙ sym (ap (λ (k : Known). k.kind) now);
  who = ap (λ (k : Known). k.who) now ∙ was.who ∙ ap (λ (x : Stepper). x.who) back;
  few = subst (λ (x : Stepper). x.who < x.seats) back was.few;
  room = ap (λ (k : Known). k.room) now ∙ was.room ∙ ap (λ (x : Stepper). x.room) back;
  seats = ap (λ (k : Known). k.seats) now ∙ was.seats ∙ ap (λ (x : Stepper). x.seats) back;
  size = subst (λ (x : Stepper). IsSize x.seats) back was.size;
  most = subst (λ (x : Stepper). x.most ≡ most_for x.seats) back was.most;
  sign = subst (λ (x : Stepper). x.sign ≡ sign_at x.room x.who) back was.sign;
  sized = subst (λ (x : Stepper). IsSized x.room x.seats table) back was.sized;
  stamp = ap (λ (k : Known). k.stamp) now ∙ was.stamp ∙ ap (λ (x : Stepper). x.stamp) back;
  fits = subst (λ (x : Stepper). Fits x.who x.stamp) back was.fits;
  base = subst (λ (x : Stepper). x.base ≡ base_of x.who) back was.base;
  step = subst (λ (x : Stepper). x.step ≡ stamp_step x.who) back was.step;
  own = subst (λ (x : Stepper). x.own ≡ packed (record { seat = Some x.who; stamp = x.stamp; flags = 0 })) back was.own;
  order = order;
  records = ap (λ (x : Stepper). x.records.items) same ∙ was.records ∙ sym (ap (λ (k : Known). k.own) now);
  alone = ap (λ (k : Known). k.idle) now ∙ was.alone;
  places = subst (λ (x : Stepper). AllByRecursion (λ (p : ℕ × Record). p.0 < 2 ^ 44) x.records.items) back was.places;
  page = λ out. paged (ap (λ (v : Sight). v.part.core.waits) (sym view) ∙ out);
}

-- ... and its page
pub seated_as : {table : TableId} {s new : Stepper} (w : Sight) → IsSeated table s
    → new.seat.table_id ≡ s.seat.table_id → new.seat.me.0 ≡ w → stays w ≡ stays s.seat.me.0
    → new ≡ record s { seat = new.seat; order = new.order } → new.order.items ≡ numbers_of new.seat.me.1 → IsSeated table new
seated_as {s = s} {new} w was home view knows same order = let page = ap (λ (x : Stepper). x.page) (sym same) in
    seated_paged w was home view (ap (λ (x : Known × ℕ). x.0) knows)
    (λ out. subst IsSome page (was.page (sym (ap (λ (x : Known × ℕ). x.1) knows) ∙ out)))
    (same ∙ ap (λ (p : Option (Unit {0})). let x : Stepper = record s { seat = new.seat; order = new.order; page = p } in x) page) order

-- ... where just the same slots are out too
pub stepped : {table : TableId} {s : Stepper} {token : Seat Cell Sight} (w : Sight) → IsSeated table s
    → token.table_id ≡ s.seat.table_id → token.me ≡ (w, s.seat.me.1) → stays w ≡ stays s.seat.me.0
    → IsSeated table (record s { seat = token })
stepped w was home now knows = seated_as w was home (ap (λ (m : Sat). m.0) now) knows refl
    (was.order ∙ ap (λ (m : Sat). numbers_of m.1) (sym now))

-- a compare-exchange says by the number that it found what came of it
pub either : {b : Board} {s : Stepper} {token : Seat Cell Sight} {found old : ℕ} {w vain : Sight} → IsSeatOf b s
    → token.table_id ≡ s.seat.table_id
    → (found ≡ old → token.me ≡ (w, s.seat.me.1)) × (found ≢ old → token.me ≡ (vain, s.seat.me.1))
    → (stays w ≡ stays s.seat.me.0) × (stays vain ≡ stays s.seat.me.0)
    → IsEither b s w vain (found == old) (record s { seat = token })
either {found = found} {old} {w} {vain} was home told same = record {
  seat = dite (ℕ_discrete found old) (λ is. stepped w was home (told.0 is) same.0) (λ isnt. stepped vain was home (told.1 isnt) same.1);
  records = refl;
  hit = λ won. told.0 (same_number found old won);
  miss = λ lost. told.1 (other_number found old lost);
}

-- what a compare-exchange on the owner word of lock n, which expects owner o, makes of the seat
abbrev pub IsTold : (ℕ → Owner → Sat → Sat → Type 0) → ℕ → Owner → Sat → ℕ → Sat → Type 0
IsTold wins n o m found m' = (found ≡ packed o → wins n o m m') × (found ≢ packed o → m' ≡ (lost m.0, m.1))
    × (IsStillThere m.0.part.core n o → found ≡ packed o)

-- the word that it keeps is that of a lock that it has taken
pub own_taker : (table : TableId) (s : Stepper) → IsSeated table s → s.own ≡ packed (taker s.seat.me.0.part.core)
own_taker table s is = is.own ∙ (λ i. packed (record { seat = Some (sym is.who i); stamp = sym is.stamp i; flags = 0 }))

-- ---- where the words lie

-- those of a lock, by the number of locks that the board keeps: it is that of the rule, and that of the view
pub by_rule : (b : Board) (n : ℕ) → lock_at b.locks n ≡ lock_at b.table.shared.key.locks n
by_rule b n = ap (λ (locks : ℕ). lock_at locks n) b.locks_is

pub by_view : (b : Board) (s : Stepper) → IsSeatOf b s → (n : ℕ) (v : Sight) → v ≡ s.seat.me.0
    → lock_at b.locks n ≡ lock_at v.part.core.room n
by_view b s is n v same = ap (λ (locks : ℕ). lock_at locks n)
    ((let slots = is.sized.1 in let all = b.sized.1 in let kept = b.locks_is in let z : b.locks ≡ s.room = omega arith in z)
    ∙ sym is.room ∙ ap (λ (w : Sight). w.part.core.room) (sym same))

-- a lock's word, and its guard beside it, are words of the table
pub has_word : (b : Board) (n i : ℕ) → n < locks_of b → i ≤ lock_at b.table.shared.key.locks n + 1
    → i < b.table.shared.table_id.words
has_word b n i low at = let z = b.sized.0 in let few = b.few in let many = b.many in let fits = b.fits in
    let next = lock_next b.table.shared.key.locks n b.table.shared.key.locks low in omega arith

pub has_lock : (b : Board) (n i : ℕ) → n < locks_of b → i ≡ lock_at b.locks n → i < b.table.shared.table_id.words
has_lock b n i low at = let same = at ∙ by_rule b n in has_word b n i low (omega arith)

-- a compare-exchange on a lock's word is the one that the rule allows, by the numbers and the seat that it is made with
pub on_lock : (b : Board) (n : ℕ) {home : TableId} {slots id : ℕ} {then : Step Cell → Sat → ℕ → Sat → Type 0} {m me : Sat} {i old new was is : ℕ}
    → home ≡ b.table.shared.table_id → n < locks_of b → me ≡ m → i ≡ lock_at b.locks n → old ≡ was → new ≡ is
    → Exchanges b.table.shared.key slots id m (on_owner b.table.shared.key n was is) then
    → (home ≡ b.table.shared.table_id) × (i < b.table.shared.table_id.words)
    × Allowed b.table.shared.key slots id me (record { word = i; old = old; new = new }) then
on_lock b n home low same at before after e = (home, has_lock b n _ low at, same_shot same (at ∙ by_rule b n) before after e)

-- those of a seat, by its own number of locks and by that of its view
pub sign_by_view : {table : TableId} {s : Stepper} (k : ℕ) → IsSeated table s → sign_at s.room k ≡ sign_at (view_of s).room k
sign_by_view k is = ap (λ (room : ℕ). sign_at room k) (sym is.room)

pub own_sign_by_view : {table : TableId} {s : Stepper} → IsSeated table s → s.sign ≡ sign_at (view_of s).room (view_of s).who
own_sign_by_view is = is.sign ∙ (λ i. sign_at (sym is.room i) (sym is.who i))

pub own_cancel_by_view : {table : TableId} {s : Stepper} → IsSeated table s
    → cancel_at s.room s.who ≡ cancel_at (view_of s).room (view_of s).who
own_cancel_by_view is = λ i. cancel_at (sym is.room i) (sym is.who i)

-- a seat's sign, and its cancel beside that, are words of the table, as the counts are
pub has_sign : (b : Board) (s : Stepper) (k i : ℕ) → IsSeatOf b s → k < s.seats → i ≤ sign_at s.room k + 1
    → i < b.table.shared.table_id.words
has_sign b s k i is low at = let wide = is.sized.0 in omega arith

pub has_count : (b : Board) (i : ℕ) → i < 16 → i < b.table.shared.table_id.words
has_count b i low = let z = b.sized.0 in let least = lock_low b.table.shared.key.locks b.table.shared.key.locks in omega arith

-- a board with nodes has few locks
pub few_locks : (b : Board) (n : ℕ) → n < size_of b → b.locks ≤ 64
few_locks b n low = let few = b.spread (omega arith) in let kept = b.locks_is in omega arith

pub many_locks : (b : Board) → 64 < locks_of b → 64 < b.locks
many_locks b many = let kept = b.locks_is in omega arith

-- what a seat inside a guard expects of the owner word, once it has brought the wait list on top
pub expected : (b : Board) {s : Stepper} {n i old : ℕ} {o : Owner} {now : Sat} → IsSeatOf b s → HasListOnTop s.seat.me n now
    → i ≡ lock_at b.locks n → IsValid o → old ≡ packed o → (i ≡ lock_at now.0.part.core.room n) × IsValid o × (old ≡ packed o)
expected b {s} {n} {now = now} is t at valid old = (at ∙ by_view b s is n now.0 (ap (λ (m : Sat). m.0) t.now), valid, old)
