-- A seat in the wait list: it joins, asks, stays or backs off.
use Rattle.std.proofs.Common.{◌≡◌, ◌≢◌, inl, inr, ⊎_elim, ℕ, suc, ◌<◌, Bool, true, false, true≢false, List, [], ◌∷◌, slice_get, refl, sym, ap, ◌∙◌, subst, arith, Option, Some, None}
use Rattle.ww_word.specs.declared.owner.Owner.{Owner}
use Rattle.ww_word.specs.Owner.{with_waiters}
use Rattle.ww_word.specs.AnySeats.{Fits, IsValid, IsSeating}
use Rattle.ww_queue.specs.declared.entry.Entry.{Entry}
use Rattle.ww_queue.specs.declared.kind.Kind.{Kind}
use Rattle.ww_queue.specs.declared.kind.Kind.TheVariants.{WoundWait, WaitDie}
use Rattle.ww_queue.specs.Queue.{entry_of, joined, left}
use Rattle.ww_queue.proofs.Joins.{joined_has, joined_new, joined_once}
use Rattle.ww_queue.proofs.Leaves.{left_gone, entry_when}
use Rattle.ww_queue.proofs.Deaths.{only_waiters_die, death_is_of_context}
use Rattle.ww_model.specs.Snapshot.{IsFirst}
use Rattle.ww_view.specs.declared.view.Met.{Met}
use Rattle.ww_view.specs.declared.view.View.{View}
use Rattle.ww_view.specs.Word.{asked_word, rest_word}
use Rattle.ww_view.specs.May.{MayAsk, MayDie, WantsSigns, NothingToAsk, IsShownBy}
use Rattle.ww_view.specs.Made.{entry_of_view, queued, died, exited, once_outside}
use Rattle.ww_view.proofs.Deaths.{die_shows, die_notes}
use Rattle.ww_invariant.specs.declared.cells.Sight.{Sight}
use Rattle.ww_invariant.specs.Rule.{Sat}
use Rattle.ww_invariant.specs.Steps.{knowing}
use Rattle.ww_invariant.specs.Guards.{AreSeats, exiting}
use Rattle.ww_invariant.specs.Waiting.{HasListOnTop, joining, asking, dying}
use Rattle.ww_table.specs.declared.board.Board.{Board}
use Rattle.ww_table.specs.declared.seat.Stepper.{Stepper}
use Rattle.ww_table.specs.Seat.{view_of}
use Rattle.ww_table.specs.Inside.{HasListThen, HasReadFirst}
use Rattle.ww_seat.specs.Orderly.{IsOrderly}
use Rattle.ww_seat.specs.Accounts.{account_of}
use Rattle.ww_seat.specs.Calls.{HasToDie}
use Rattle.ww_seat.specs.Looks.{MayWant, IsLook}
use Rattle.ww_seat.specs.Work.{signing, told, IsTold, IsPlaced, IsWorking, IsAtWork, SeesOther, HasStood, HasAsked, HasSigned, MayGo, MayStay, HasLeftGuard}
use Rattle.ww_seat.specs.declared.look.Look.TheVariants.{Deadlk, Waits}
use Rattle.ww_seat.proofs.Holds.{holds_by}
use Rattle.ww_seat.proofs.Guards.{listed_orderly, listed_by}
use Rattle.ww_seat.proofs.Working.{none_condemned, work_then}
use Rattle.ww_seat.proofs.Signing.{dying_holds, owns_one}

-- ---- it joins

joined_seats : (n : ℕ) (q : List Entry) (e : Entry) → AreSeats n q → e.seat < n → Fits e.seat e.stamp → AreSeats n (joined q e)
joined_seats n q e seats few small f h =
    ⊎_elim (λ is. (
      subst (λ (x : Entry). x.seat < n) (sym is) few,
      subst (λ (x : Entry). Fits x.seat x.stamp) (sym is) small,
    )) (λ old. seats f old) (joined_has q e f h)

working_queued : {n : ℕ} {l : Bool} {v : View} (o : Owner) → IsWorking n false l v → v.who < v.seats → Fits v.who v.stamp
    → IsWorking n true l (queued v n o)
working_queued {v} o w few small = let once = joined_once v.list (entry_of_view v) w.place.1 w.once in record {
  want = record { lacks = w.want.lacks; base = w.want.base; signs = w.want.signs };
  inside = w.inside;
  seats = joined_seats v.seats v.list (entry_of_view v) w.seats few small;
  once = once;
  place = (refl, entry_when (joined v.list (entry_of_view v)) (entry_of_view v) once (joined_new v.list (entry_of_view v)), refl);
  later = w.later;
  behind = λ _. refl;
}

pub has_stood : {size n : ℕ} {m m1 : Sat} {o p : Owner} {stands : Bool} → IsOrderly size m → stands ≡ false → m.0.part.core.inside ≡ suc n
    → m.0.part.core.who < m.0.part.core.seats → Fits m.0.part.core.who m.0.part.core.stamp → SeesOther o m.0.part.core
    → HasListThen m n (joining m.0 n o) (queued m.0.part.core n o).list m1
    → p ≡ with_waiters o → IsValid p → HasStood size n stands o m p m1
has_stood {size} {n} {m} {m1} {o} ord off inside few small sees got is valid = record {
  work = λ l w. subst (λ (z : Sat). IsAtWork size n m true l z) (sym got.2) (record {
    orderly = listed_orderly ord inside got.1 refl;
    working = working_queued o (subst (λ (b : Bool). IsWorking n b l m.0.part.core) off w) few small;
    holds = refl;
  });
  sees = subst (λ (x : Owner). SeesOther x m1.0.part.core) (sym is) (subst (λ (z : Sat). SeesOther (with_waiters o) z.0.part.core) (sym got.2)
      (record { seen = refl; valid = subst IsValid is valid; there = sees.there; other = sees.other }));
  flags = λ on. absurd (true≢false (sym on ∙ off));
  idle = none_condemned (ap (λ (z : Sat). z.0) got.2) refl refl refl;
}

pub work_stood : {size n : ℕ} {before : Sat} {stands again : Bool} {m m' : Sat} {o p : Owner} → IsAtWork size n before stands again m
    → HasStood size n stands o m p m' → IsAtWork size n before true again m'
work_stood {again} w h = work_then w (h.work again w.working)

-- ---- it asks

first_is : (q : List Entry) {e : Entry} (s : ℕ) → slice_get q 0 ≡ Some e → IsFirst q s → e.seat ≡ s
first_is [] s is first = absurd cc
first_is (x ∷ xs) {e} s is first = let a : x ≡ e = cc in let b : x ≡ first.0 = cc in ap (λ (z : Entry). z.seat) (sym a ∙ b) ∙ first.3

first_of : (q : List Entry) {e : Entry} → slice_get q 0 ≡ Some e → IsFirst q e.seat
first_of [] is = absurd cc
first_of (x ∷ xs) {e} is = let a : x ≡ e = cc in (x, xs, refl, ap (λ (z : Entry). z.seat) a)

-- whoever reads the first waiter is who it was
first_who : {b : Board} {s s' : Stepper} {n : ℕ} {first : Option Entry} → HasReadFirst b s n first s' → (view_of s).who ≡ s'.who
first_who first = sym (ap (λ (z : Sat). z.0.part.core.who) first.read.now) ∙ first.seat.who

pub nothing_by_other : {b : Board} {s s' : Stepper} {n : ℕ} {first : Option Entry} {o : Owner} {e : Entry} → SeesOther o (view_of s)
    → HasReadFirst b s n first s' → first ≡ Some e → e.seat ≢ s'.who → NothingToAsk (view_of s')
nothing_by_other {s} {o} sees first is isnt = subst (λ (z : Sat). NothingToAsk z.0.part.core) (sym first.read.now)
    (o, sees.seen, inr (inr (λ f. isnt (first_is (view_of s).list (view_of s).who (sym first.first ∙ is) f ∙ first_who first))))

pub sees_read : {n : ℕ} {m m1 : Sat} {o : Owner} → SeesOther o m.0.part.core → HasListOnTop m n m1 → SeesOther o m1.0.part.core
sees_read {o} sees top = subst (λ (z : Sat). SeesOther o z.0.part.core) (sym top.now) sees

pub may_ask : {b : Board} {s s' : Stepper} {n : ℕ} {first : Option Entry} {o : Owner} {e : Entry} → IsWorking n true true (view_of s)
    → SeesOther o (view_of s) → HasReadFirst b s n first s' → first ≡ Some e → e.seat ≡ s'.who → o.flags ≡ 1 → MayAsk (view_of s') n o
may_ask {s} {n} {o} w sees first is same one = subst (λ (z : Sat). MayAsk z.0.part.core n o) (sym first.read.now) (record {
  inside = w.inside;
  later = w.later;
  first = subst (IsFirst (view_of s).list) (same ∙ sym (first_who first)) (first_of (view_of s).list (sym first.first ∙ is));
  other = sees.other;
  flags = one;
})

asked_seating : (o : Owner) {t : ℕ} → IsSeating o o.seat → o.seat ≡ Some t → IsSeating (asked_word o) o.seat
asked_seating o {t} sits is = subst (IsSeating (asked_word o)) (sym is) (let z : IsSeating o (Some t) = subst (IsSeating o) is sits in z)

pub asked_sees : {v : View} {o : Owner} → SeesOther o v → IsValid (asked_word o)
asked_sees {o} sees = record {
  seating = asked_seating o sees.valid.seating sees.other.1;
  flags = inr (inr (inl refl));
}

pub has_asked : {n : ℕ} {m m1 m2 : Sat} {o : Owner} {again : Bool} → SeesOther o m.0.part.core → HasListOnTop m n m1 → m2 ≡ (asking m1.0 o, m1.1)
    → HasAsked (asked_word o) again m2.0.part.core
has_asked {o} {again} sees top is = subst (λ (z : Sight). HasAsked (asked_word o) again z.part.core)
    (sym (ap (λ (z : Sat). z.0) is ∙ ap (λ (z : Sat). asking z.0 o) top.now)) (record {
      sees = record { seen = refl; valid = asked_sees sees; there = sees.there; other = sees.other };
      asked = λ _. (asked_word o, refl, inl refl);
    })

-- ---- it backs off

pub dying_orderly : {size n : ℕ} {m m1 : Sat} (o : Owner) → IsOrderly size m → m.0.part.core.inside ≡ suc n
    → HasListThen m n (dying m.0 o) (died m.0.part.core o).list m1 → IsOrderly size m1 × (m1.0 ≡ dying m.0 o)
dying_orderly o ord inside got = (listed_by ord inside got refl, ap (λ (z : Sat). z.0) got.2)

-- whoever left the wait list may go, whatever it notes of that
pub gone_goes : {n : ℕ} {l : Bool} {v : View} (o : Owner) {deaths : ℕ} {met : Option Met} {heeded : ℕ} {stopped : List (ℕ × ℕ)}
    → IsWorking n true l v → MayGo n (record (died v o) { deaths = deaths; met = met; heeded = heeded; stopped = stopped })
gone_goes {v} o w = let q : List Entry = left v.list v.who in record {
  inside = w.inside;
  why = inl (refl, w.want.lacks);
  acted = w.place.2;
  again = λ _ at. absurd (omega arith);
  looked = λ _ at. absurd (omega arith);
  lives = λ _. (rest_word q o, refl, only_waiters_die v.kind (rest_word q o) q v.who 0 (left_gone v.list v.who w.once));
}

pub died_goes : {n : ℕ} {l : Bool} (m m1 : Sat) (o : Owner) → IsWorking n true l m.0.part.core → m1.0 ≡ dying m.0 o → MayGo n m1.0.part.core
died_goes {n} m m1 o w is = subst (λ (z : Sight). MayGo n z.part.core) (sym is) (gone_goes o w)

-- in Wound-Wait the own sign stays known outside
shown_outside : (kind : Kind) {sign : Option ℕ} {q : List Entry} {who : ℕ} {o : Owner} {k : ℕ} → IsShownBy kind sign q who o k
    → IsShownBy kind (once_outside kind sign) q who o k
shown_outside WoundWait s = s
shown_outside WaitDie s = record { wounded = λ w. absurd (cc); older = s.older }

pub look_died : {size n : ℕ} {l : Bool} (m : Sat) {m1 m2 : Sat} {o : Owner} {k : ℕ} → IsWorking n true l m.0.part.core → MayDie m.0.part.core n o k
    → k < m.0.part.core.stamp → m1.0 ≡ dying m.0 o → HasLeftGuard size m1 m2 → IsLook size n m (Deadlk k) m2
look_died {n} m {m2} {o} {k} w may older is out =
    let view : m2.0 ≡ exiting (dying m.0 o) = out.view ∙ ap exiting is in
    let met : HasToDie m n k m2 = record {
      now = ap (λ (z : Sight). account_of (z, m2.1)) view;
      one = owns_one m.0.part.core (dying_holds m.0.part.core o may.why.0 w.place.1 may.why.2);
      context = death_is_of_context m.0.part.core.kind o m.0.part.core.list m.0.part.core.who may.why.0 k may.why.2;
      older = older;
      met = record {
        owner = o;
        list = m.0.part.core.list;
        noted = ap (λ (z : Sight). z.part.core.met) view ∙ die_notes m.0.part.core n o k may;
        shown = subst (λ (z : Sight). IsShownBy z.part.core.kind z.part.core.sign m.0.part.core.list z.part.core.who o k) (sym view)
            (shown_outside m.0.part.core.kind (die_shows m.0.part.core n o k may));
      };
    } in (out.orderly, ((ap (λ (z : Sight). z.part.core.inside) view, ap (λ (z : Sight). z.part.core.waits) view), met))

-- ---- it stays

wants_outside : (kind : Kind) (v : View) → v.kind ≡ kind → WantsSigns v → WantsSigns (exited v)
wants_outside WoundWait v is wants = ⊎_elim (λ z. inl z)
    (λ r. ⊎_elim (λ z. inr (inl (ap (λ (x : Kind). once_outside x v.sign) is ∙ z))) (λ r2. inr (inr r2)) r) wants
wants_outside WaitDie v is wants = inr (inr (inr is))

pub stays_outside : {size n : ℕ} {l : Bool} {m m' : Sat} → IsWorking n true l m.0.part.core → HasLeftGuard size m m' → IsLook size n m Waits m'
stays_outside {n} {m} {m'} w out = let v : View = m.0.part.core in (
  out.orderly,
  (
    subst (λ (z : Sight). MayWant n z.part.core) (sym out.view)
        (record { lacks = w.want.lacks; base = w.want.base; signs = wants_outside v.kind v refl w.want.signs }),
    ap (λ (z : Sight). z.part.core.inside) out.view,
    ap (λ (z : Sight). z.part.core.waits) out.view ∙ w.place.0,
    holds_by m m' out.view refl,
  ),
)

-- who found nothing to ask for, signed all that it owes and doesn't have to die may go: m1 once it asked, m2 once it signed
pub stays_goes : {size n : ℕ} {l : Bool} {m1 m2 m3 : Sat} {o : Owner} → IsWorking n true l m1.0.part.core → HasAsked o l m1.0.part.core
    → HasSigned size o m1 m2 → (t : IsTold size m2 m3) → MayStay o m3.0.part.core → MayGo n m3.0.part.core
stays_goes {n} {m1} {m3} {o} w asked h t stay =
    let v : View = told (signing m1.0.part.core h.signed h.condemned h.debts h.fresh) t.sign t.fresh in
    let view : m3.0 ≡ knowing m1.0 v = t.view ∙ ap (λ (z : Sight). knowing z (told z.part.core t.sign t.fresh)) h.view in
    let stay2 : MayStay o v = subst (λ (z : Sight). MayStay o z.part.core) view stay in
    subst (λ (z : Sight). MayGo n z.part.core) (sym view) (record {
      inside = w.inside;
      why = inr (record { word = o; seen = asked.sees.seen; signed = h.all; other = inr asked.sees.other; lives = stay2.lives });
      acted = w.place.2;
      again = λ again _. asked.asked (sym w.later ∙ again);
      looked = λ wound _ pos has. stay2.looked wound pos has;
      lives = λ d. (o, asked.sees.seen, stay2.lives d);
    })

-- ---- a look goes on

-- whoever looks again stands in a list that isn't empty
pub flags_later : {n : ℕ} {stands again : Bool} {v : View} (o p : Owner) → IsWorking n stands again v → (v.list ≢ [] → o.flags ≢ 0)
    → (stands ≡ true → p ≡ o) → again ≡ true → p.flags ≢ 0
flags_later {n} {v} o p w flags same later =
    let on = w.behind later in let place : IsPlaced true n v = subst (λ (b : Bool). IsPlaced b n v) on w.place in
    let some : v.list ≢ [] = λ e. let none : entry_of v.list v.who ≡ None =
    ap (λ (q : List Entry). entry_of q v.who) e in let is = place.1 in absurd cc in
    subst (λ (x : Owner). x.flags ≢ 0) (sym (same on)) (flags some)

pub later_work : {n : ℕ} {again : Bool} {v : View} → again ≡ true → IsWorking n true again v → IsWorking n true true v
later_work {n} {v} is w = subst (λ (b : Bool). IsWorking n true b v) is w
