-- The wait list, once a seat brought it on top of the slots that are out, or a node; and what came of a step then.
use Rattle.std.proofs.Common.{◌≡◌, ◌≢◌, ◌+◌, ℕ, suc, true, false, arith, List, [], ◌∷◌, ◌++◌, Option, Some, ◌⊎◌, inl, inr, ⊎_elim, refl, sym, ap, subst, ◌∙◌}
use Rattle.std.specs.Prelude.{IsSome, ◌↔◌}
use Rattle.atomic_table.specs.declared.shared.Seat.{Seat}
use Rattle.atomic_table.specs.Seated.{TableId}
use Rattle.atomic_table.specs.Table.{rest}
use Rattle.ww_queue.specs.declared.entry.Entry.{Entry}
use Rattle.ww_queue.specs.Queue.{Stands, left}
use Rattle.ww_plain.specs.declared.node.Node.{Node}
use Rattle.ww_word.specs.declared.wide.Owner.{Owner}
use Rattle.ww_word.specs.AnySeats.{packed}
use Rattle.ww_invariant.specs.declared.cells.Cell.{Cell}
use Rattle.ww_invariant.specs.declared.cells.Cell.TheVariants.{Content, Line}
use Rattle.ww_invariant.specs.declared.cells.Sight.{Sight}
use Rattle.ww_invariant.specs.Guards.{lost}
use Rattle.ww_invariant.specs.Rule.{Sat}
use Rattle.ww_invariant.specs.Out.{slot_of, numbers_of, AreOthers}
use Rattle.ww_invariant.specs.Waiting.{StandsIfWaiting, HasListOnTop, IsOut, IsStillThere}
use Rattle.ww_invariant.proofs.InsideTurning.{IsBrought, on_top, slot_brought, still_out}
use Rattle.ww_invariant.proofs.Turning.{brought}
use Rattle.ww_table.specs.declared.board.Board.{Board}
use Rattle.ww_table.specs.declared.seat.Stepper.{Stepper}
use Rattle.ww_table.specs.Seat.{IsSeated, IsSeatOf, view_of}
use Rattle.ww_table.specs.Inside.{HasBroughtList, HasOnlyTried, HasTriedToGo, HasListThen}
use Rattle.ww_table.proofs.Seated.{IsTold, known, seated_paged, stepped}

-- it stays there while nothing changes
pub still_on_top : (m now m' : Sat) (n : ℕ) → HasListOnTop m n now → m' ≡ now → HasListOnTop m n m'
still_on_top m now m' n t same = record { others = t.others; apart = t.apart; now = same ∙ t.now }

-- the seat that brought it there has the number and the stamp that its view had before
pub number_before : (table : TableId) (m : Sat) (n : ℕ) (s : Stepper) → IsSeated table s → HasListOnTop m n s.seat.me
    → m.0.part.core.who ≡ s.who
number_before table m n s seated t = ap (λ (w : Sat). w.0.part.core.who) (sym t.now) ∙ seated.who

pub stamp_before : (table : TableId) (m : Sat) (n : ℕ) (s : Stepper) → IsSeated table s → HasListOnTop m n s.seat.me
    → m.0.part.core.stamp ≡ s.stamp
stamp_before table m n s seated t = ap (λ (w : Sat). w.0.part.core.stamp) (sym t.now) ∙ seated.stamp

-- a seat that leaves the list has its page: the one that it had, or the one that the list gives it
pub has_page : (table : TableId) (m : Sat) (n : ℕ) (s : Stepper) (page : Option (Unit {0})) → IsSeated table s
    → HasListOnTop m n s.seat.me → StandsIfWaiting s.seat.me.0.part.core → page ≡ s.page → IsSome page
    ⊎ Stands m.0.part.core.list s.who
has_page table m n s page seated t stands same = ⊎_elim
    (λ out. inl (subst IsSome (sym same) (seated.page out)))
    (λ there. inr (subst (λ (w : Sat). Stands w.0.part.core.list s.who) t.now (subst (Stands s.seat.me.0.part.core.list) seated.who there)))
    stands

-- a node that is out lies under the list, and may be brought on top of it
pub node_out : (m now : Sat) (n : ℕ) (x : Node) (t : HasListOnTop m n now) → IsOut m.1 n (Content x) → slot_of now.1 n ≡ Some (Content x)
node_out m now n x t out = ap (λ (w : Sat). slot_of w.1 n) t.now
    ∙ still_out m.1 (64 + n) (Line m.0.part.core.list) t.others n (Content x) (λ z. omega arith) t.apart out

pub node_brought : (m now : Sat) (n : ℕ) (x : Node) (t : HasListOnTop m n now) {new : List (ℕ × Cell)} → IsOut m.1 n (Content x)
    → (b : IsBrought now.1 n new)
    → AreOthers ((64 + n, Line m.0.part.core.list) ∷ t.others) n (Content x) b.1 × (new ≡ (n, Content x) ∷ b.1)
node_brought m now n x t out = slot_brought ((64 + n, Line m.0.part.core.list) ∷ t.others) now.1 n n (Content x)
    (ap (λ (w : Sat). w.1) t.now) refl
    (still_out m.1 (64 + n) (Line m.0.part.core.list) t.others n (Content x) (λ z. omega arith) t.apart out)

-- a node that was brought on top, of whatever was found there
pub node_up : (slots now : List (ℕ × Cell)) (n : ℕ) (x : Node) → slot_of slots n ≡ Some (Content x) → IsBrought slots n now
    → (others : List (ℕ × Cell)) × AreOthers slots n (Content x) others × (now ≡ (n, Content x) ∷ others) × (now ≡ (n, Content x) ∷ rest now)
node_up slots now n x is found = let same = brought slots n x found.0 found.2 is in
    let up = found.4 ∙ ap (λ (y : Cell). (n, y) ∷ found.1) same in
    (found.1, subst (λ (y : Cell). AreOthers slots n y found.1) same found.3, up, on_top now found.1 n n (Content x) up refl)

-- a seat that brought the list there, and only read it
pub still_read : {table : TableId} {s now : Stepper} {n k : ℕ} (token : Seat Cell Sight) → IsSeated table s → HasBroughtList s n k now
    → token.table_id ≡ now.seat.table_id → token.me ≡ now.seat.me
    → IsSeated table (record now { seat = token }) × HasListOnTop s.seat.me n token.me
still_read {now = now} token was up home same =
    (stepped now.seat.me.0 (up.seat _ was) home same refl, still_on_top _ _ _ _ up.read same)

-- ... its view still shows that nobody else writes the owner word
pub still_there : {m now : Sat} {n : ℕ} {o : Owner} → HasListOnTop m n now → IsStillThere m.0.part.core n o → IsStillThere now.0.part.core n o
still_there {n = n} {o} t is = subst (λ (w : Sat). IsStillThere w.0.part.core n o) (sym t.now) is

-- ... and its compare-exchange found another word
pub only_tried : {table : TableId} {m : Sat} {now : Stepper} {n : ℕ} (token : Seat Cell Sight) → IsSeated table now
    → HasListOnTop m n now.seat.me → token.table_id ≡ now.seat.table_id → token.me ≡ (lost now.seat.me.0, now.seat.me.1)
    → IsSeated table (record now { seat = token }) × HasOnlyTried m n token.me
only_tried {now = now} token is t home miss = (
  stepped (lost now.seat.me.0) is home miss refl,
  (t.others, t.apart, miss ∙ ap (λ (x : Sat). let m : Sat = (lost x.0, x.1) in m) t.now),
)

-- a seat took itself out of the list in slot k, and has one page more for it, or the one that it had
pub record HasLeftList (token out : Seat Cell Sight) (k who : ℕ) (had has : Option (Unit {0})) : Type 0 where
  pub home : out.table_id ≡ token.table_id
  pub view : out.me.0 ≡ token.me.0
  pub list : (q : List Entry) → token.me.1 ≡ (k, Line q) ∷ rest token.me.1 → out.me.1 ≡ (k, Line (left q who)) ∷ rest token.me.1
  pub page : (q : List Entry) → token.me.1 ≡ (k, Line q) ∷ rest token.me.1 → IsSome has ↔ (IsSome had ⊎ Stands q who)

-- the list lies in its slot, over whatever is under it
pub list_there : (m : Sat) (n : ℕ) {slots under : List (ℕ × Cell)} {k : ℕ} → slots ≡ (64 + n, Line m.0.part.core.list) ∷ under
    → k ≡ 64 + n → slots ≡ (k, Line m.0.part.core.list) ∷ rest slots
list_there m n {slots} {under} {k} top at = on_top slots under (64 + n) k (Line m.0.part.core.list) top at

-- a seat that brought the list there, and whose compare-exchange found the word that it expected
module _ {table : TableId} {m : Sat} {now : Stepper} {n : ℕ} (is : IsSeated table now) (t : HasListOnTop m n now.seat.me) where
  -- it leaves the list, and has this view then, and its page
  pub gone_over : (token : Seat Cell Sight) {under : List (ℕ × Cell)} {k : ℕ} {page : Option (Unit {0})} (new : Stepper)
      (w : Sight → Sight) → token.table_id ≡ now.seat.table_id → token.me.0 ≡ w now.seat.me.0
      → token.me.1 ≡ (64 + n, Line m.0.part.core.list) ∷ under → StandsIfWaiting (view_of now)
      → known (w now.seat.me.0) ≡ known now.seat.me.0 → k ≡ 64 + n → page ≡ now.page
      → HasLeftList token new.seat k now.who page new.page → new ≡ record now { seat = new.seat; order = new.order; page = new.page }
      → new.order.items ≡ numbers_of under ++ k ∷ []
      → IsSeated table new × (new.seat.me ≡ (w m.0, (64 + n, Line (left m.0.part.core.list m.0.part.core.who)) ∷ under))
  gone_over token {under} {k} {page} new w home view top stands knows at same g still order =
      let q = m.0.part.core.list in let up = on_top token.me.1 under (64 + n) k (Line q) top at in let who = number_before table m n now is t in
      let list = g.list q up ∙ (λ i. (at i, Line (left q (sym who i))) ∷ rest (top i)) in (
        seated_paged (w now.seat.me.0) is (g.home ∙ home) (g.view ∙ view) knows
            (λ _. (g.page q up).1 (has_page table m n now page is t stands same)) still
            (order ∙ ap (λ (i : ℕ). numbers_of under ++ i ∷ []) at ∙ ap numbers_of (sym list)),
        λ i. ((g.view ∙ view ∙ ap (λ (x : Sat). w x.0) t.now) i, list i),
      )

  -- ... where the step has left the slots as they were
  pub gone : (token out : Seat Cell Sight) {k : ℕ} {page has : Option (Unit {0})} (w : Sight → Sight) → token.table_id ≡ now.seat.table_id
      → (token.me ≡ (w now.seat.me.0, now.seat.me.1)) × StandsIfWaiting (view_of now)
      → known (w now.seat.me.0) ≡ known now.seat.me.0 → k ≡ 64 + n → page ≡ now.page
      → HasLeftList token out k now.who page has
      → IsSeated table (record now { seat = out; page = has })
      × HasListThen m n (w m.0) (left m.0.part.core.list m.0.part.core.who) out.me
  gone token out {has = has} w home hit knows at same g = let done = gone_over token (record now { seat = out; page = has }) w home
      (ap (λ (x : Sat). x.0) hit.0) (ap (λ (x : Sat). x.1) hit.0 ∙ ap (λ (x : Sat). x.1) t.now) hit.1 knows at same g refl
      (is.order ∙ ap (λ (x : Sat). numbers_of x.1) t.now ∙ ap (λ (i : ℕ). numbers_of t.others ++ i ∷ []) (sym at)) in
      (done.0, (t.others, t.apart, done.1))

-- a try to leave the list: the word was another; or the one expected, and the seat is out of the list
module _ {b : Board} {s now : Stepper} {n : ℕ} {o : Owner} (is : IsSeatOf b now) (t : HasListOnTop s.seat.me n now.seat.me)
    (records : now.records ≡ s.records) where
  pub in_vain : {w : Sight} (wins : ℕ → Owner → Sat → Sat → Type 0) (token : Seat Cell Sight) {found : ℕ} → token.table_id ≡ now.seat.table_id
      → IsTold wins n o now.seat.me found token.me → found ≢ packed o → (view_of s).inside ≡ suc n
      → HasTriedToGo b s n o w false (record now { seat = token })
  in_vain wins token home told other inside = let tried = only_tried token is t home (told.1 other) in record {
    seat = tried.0;
    records = records;
    sure = λ waits saw. absurd (other (told.2 (still_there t (record { inside = inside; alone = inl waits; seen = saw }))));
    gone = λ no. absurd cc;
    lost = λ _. tried.1;
  }

  pub went : (token out : Seat Cell Sight) {k : ℕ} {page has : Option (Unit {0})} (w : Sight → Sight) → token.table_id ≡ now.seat.table_id
      → (token.me ≡ (w now.seat.me.0, now.seat.me.1)) × StandsIfWaiting (view_of now)
      → known (w now.seat.me.0) ≡ known now.seat.me.0 → (w s.seat.me.0).part.core.list ≡ left (view_of s).list (view_of s).who
      → k ≡ 64 + n → page ≡ now.page → HasLeftList token out k now.who page has
      → HasTriedToGo b s n o (w s.seat.me.0) true (record now { seat = out; page = has })
  went token out w home hit knows leaves at same g = let done = gone is t token out w home hit knows at same g in record {
    seat = done.0;
    records = records;
    sure = λ _ _. refl;
    gone = λ _. subst (λ (q : List Entry). HasListThen s.seat.me n (w s.seat.me.0) q out.me) (sym leaves) done.1;
    lost = λ no. absurd cc;
  }
