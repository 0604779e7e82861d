-- The locks that are held, and how many they are.
use Rattle.std.proofs.Common.{◌≡◌, ◌≢◌, ℕ, zero, suc, ◌+◌, ◌<◌, ◌≤◌, ◌||◌, not, eqb, true≢false, Bool, true, false, List, [], ◌∷◌, length, refl, sym, ap, subst, ◌∙◌, arith, inl, inr, ⊎_elim, ◌⊎◌, Option, Some, None, is_none, if◌then◌else◌}
use Rattle.std.specs.Arc.{arc_value}
use Rattle.std.specs.List.{AllByRecursion}
use Rattle.ww_plain.specs.Numbers.{is_among, AreDifferent}
use Rattle.ww_plain.proofs.Members.{true_or_false, same_from_eqb, is_among-head, is_among-tail, different_head, different_tail}
use Rattle.ww_plain.proofs.FootprintFacts.{few_different}
use Rattle.ww_queue.proofs.Outcomes.{same_number, other_number, number_other, both_true}
use Rattle.ww_model.specs.State.{any_below}
use Rattle.ww_model.proofs.Slots.{below_found, found_below}
use Rattle.ww_view.specs.declared.view.View.{View}
use Rattle.ww_view.specs.View.{owns}
use Rattle.ww_view.specs.May.{WantsBase, WantsSigns}
use Rattle.ww_view.specs.Made.{without}
use Rattle.ww_table.specs.declared.board.Board.{Board}
use Rattle.ww_seat.specs.declared.look.Arrival.{Arrival}
use Rattle.ww_seat.specs.declared.waits.Waits.{Waits}
use Rattle.ww_seat.specs.Standings.{view_in, owns_any, IsAtWorkThere, MayTakeBare, MayTryBare}
use Rattle.ww_seat.proofs.Outside.{owned_low}
use Rattle.ww_seat.proofs.Without.{without_same, without_else}
use Rattle.ww_steps.specs.declared.turn.Turn.{Turn}
use Rattle.ww_steps.specs.declared.turn.Turn.TheVariants.{Rests, Wants, Looks, Gives}
use Rattle.ww_steps.specs.declared.station.Station.{Station}
use Rattle.ww_steps.specs.Situations.{is_at_rest, is_empty, can_want, wants_now, IsPlain}
use Rattle.ww_steps.specs.Stations.{situation_of, IsWhere, OwnsJust, Keeps}

pub none_of : (xs : List ℕ) → length xs ≤ 0 → xs ≡ []
none_of [] none = refl
none_of (x ∷ xs) none = absurd (omega arith)

pub some_of : (n : ℕ) → n ≢ 0 → 1 ≤ n
some_of zero isnt = absurd (isnt refl)
some_of (suc n) isnt = omega arith

holds_any : (v : View) (held : List ℕ) (b : Bool) → ((n : ℕ) → owns v n ≡ is_among n held) → (b ≡ true → held ≡ [])
    → (b ≡ false → 1 ≤ length held) → owns_any v ≡ not b
holds_any v held true same none some = elim (true_or_false (any_below (length v.owned) (owns v))) [
  | inl has ↦ let f = below_found (length v.owned) (owns v) has in absurd (true≢false (sym f.2 ∙ same f.0 ∙ ap (is_among f.0) (none refl)))
  | inr lacks ↦ lacks
]
holds_any v [] false same none some = absurd (let z = some refl in omega arith)
holds_any v (x ∷ xs) false same none some = let own : owns v x ≡ true = same x ∙ is_among-head x xs in
    found_below (length v.owned) (owns v) x (owned_low v.owned x own) own

pub holds_told : (v : View) (count locks : ℕ) → OwnsJust count locks v.locks v.owned → owns_any v ≡ not (eqb count 0)
holds_told v count locks o = holds_any v v.locks (eqb count 0) o.same
    (λ e. none_of v.locks (let z = same_number count 0 e in omega (arith, z, o.counted)))
    (λ e. let z = some_of count (other_number count 0 e) in omega (arith, z, o.counted))

-- ---- one less

all_left : (n : ℕ) (ns : List ℕ) → is_among n ns ≡ false → without n ns ≡ ns
all_left n [] e = refl
all_left n (m ∷ ms) e = elim (true_or_false (eqb m n)) [
  | inl same ↦ absurd (true≢false (sym (ap (λ (b : Bool). b || is_among n ms) same) ∙ e))
  | inr other ↦ without_else n m ms other
      ∙ ap (λ (l : List ℕ). m ∷ l) (all_left n ms (sym (ap (λ (b : Bool). b || is_among n ms) other) ∙ e))
]

pub one_less : (n : ℕ) (ns : List ℕ) → AreDifferent ns → is_among n ns ≡ true → length (without n ns) + 1 ≡ length ns
one_less n [] d e = absurd (true≢false (sym e))
one_less n (m ∷ ms) d e = elim (true_or_false (eqb m n)) [
  | inl same ↦
      let lacks : is_among n ms ≡ false = subst (λ (k : ℕ). is_among k ms ≡ false) (same_from_eqb m n same) (different_head m ms d) in
      let left = ap length (without_same n m ms same ∙ all_left n ms lacks) in omega (arith, left)
  | inr other ↦
      let there : is_among n ms ≡ true = sym (ap (λ (b : Bool). b || is_among n ms) other) ∙ e in
      let rest = one_less n ms (different_tail m ms d) there in
      let left = ap length (without_else n m ms other) in omega (arith, left, rest)
]

-- ---- no more than there are

all_low : (P : ℕ → Type 0) (ns : List ℕ) → ((n : ℕ) → is_among n ns ≡ true → P n) → AllByRecursion P ns
all_low P [] each = tt
all_low P (m ∷ ms) each = (each m (is_among-head m ms), all_low P ms (λ n e. each n (is_among-tail m n ms e)))

pub few_owned : (count locks : ℕ) (held : List ℕ) (owned : List Bool) → OwnsJust count locks held owned → count ≤ locks
few_owned count locks held owned o = let few = few_different locks held o.differ (all_low (λ m. m < locks) held
    (λ n e. let low = owned_low owned n (o.same n ∙ e) in omega (arith, low, o.room))) in omega (arith, few, o.counted)

-- ---- whether one may be wanted

pub is_none_left : (held : List ℕ) → is_empty held ≡ eqb (length held) 0
is_none_left [] = refl
is_none_left (n ∷ ns) = sym (number_other (suc (length ns)) 0 (λ z. omega (arith, z)))

record WantsWhy (done none zero : Bool) (told : Option ℕ) : Type 0 where
  pub undone : done ≡ false
  pub why : (none ≡ true) ⊎ ((zero ≡ false) × (told ≡ None))

wants_why : (done none zero : Bool) (told : Option ℕ)
    → (if done then false else (if none then true else (if zero then false else is_none told))) ≡ true
    → WantsWhy done none zero told
wants_why true none lone told e = absurd (true≢false (sym e))
wants_why false true lone told e = record { undone = refl; why = inl refl }
wants_why false false true told e = absurd (true≢false (sym e))
wants_why false false false (Some n) e = absurd (true≢false (sym e))
wants_why false false false None e = record { undone = refl; why = inr (refl, refl) }

pub rest_of : (t : Turn) → is_at_rest t ≡ true → t ≡ Rests
rest_of Rests e = refl
rest_of (Wants n arrival waits) e = absurd (true≢false (sym e))
rest_of (Looks n arrival waits) e = absurd (true≢false (sym e))
rest_of (Gives n) e = absurd (true≢false (sym e))

signs_of : (v : View) (held : List ℕ) → ((n : ℕ) → owns v n ≡ is_among n held)
    → (held ≡ [] → (v.stamp ≡ 0) ⊎ (v.sign ≡ Some 0)) → WantsSigns v
signs_of v [] same unsigned = ⊎_elim (λ none. inl none) (λ unsigned. inr (inl unsigned)) (unsigned refl)
signs_of v (x ∷ xs) same unsigned = inr (inr (inl (x, same x ∙ is_among-head x xs)))

-- it has a context, or owns nothing
wants_base : (d : Station) → Keeps d → can_want (situation_of d) ≡ true → WantsBase (view_in d.seat)
wants_base d k wants = let v = view_in d.seat in let w = wants_why d.is_done (is_empty v.locks) (eqb v.stamp 0) d.told wants in
    ⊎_elim
    (λ none. inr (λ n. k.owns.same n ∙ ap (is_among n)
    (none_of v.locks (let z = same_number _ 0 (sym (is_none_left v.locks) ∙ none) in omega (arith, z)))))
    (λ some. inl (let z = some_of v.stamp (other_number v.stamp 0 some.0) in omega (arith, z)))
    w.why

-- ---- where it may go on

-- where the seat is, by where its call stands
pub at_turn : (d : Station) (turn : Turn) → Keeps d → d.turn ≡ turn → IsWhere (arc_value d.board) d.wake.items turn d.seat
at_turn d turn k is = subst (λ (t : Turn). IsWhere (arc_value d.board) d.wake.items t d.seat) is k.stands

pub may_take : (d : Station) (b : Board) (n : ℕ) → Keeps d → IsPlain (situation_of d) → n < d.locks → b ≡ arc_value d.board
    → MayTakeBare b n d.seat
may_take d b n k plain there is = rw is (record {
  bare = omega (arith, k.world.bare);
  there = omega (arith, there, k.world.locks_are);
  packed = k.world.packed;
  may = record {
    away = at_turn d Rests k (rest_of d.turn plain.rests);
    base = wants_base d k plain.wants;
    signs = signs_of (view_in d.seat) (view_in d.seat).locks k.owns.same plain.unsigned;
  };
})

pub may_try : (d : Station) (b : Board) (n : ℕ) → Keeps d → wants_now (situation_of d) ≡ true → n < d.locks → b ≡ arc_value d.board
    → MayTryBare b n (not (eqb d.count 0)) d.seat
may_try d b n k wants there is = let may = both_true (is_at_rest d.turn) (can_want (situation_of d)) wants in rw is (record {
  bare = omega (arith, k.world.bare);
  there = omega (arith, there, k.world.locks_are);
  packed = k.world.packed;
  away = at_turn d Rests k (rest_of d.turn may.0);
  base = wants_base d k may.1;
  any = holds_told (view_in d.seat) d.count _ k.owns;
})

pub may_look : (d : Station) (b : Board) (wake : List ℕ) (n : ℕ) (arrival : Arrival) (waits : Waits)
    → Keeps (record d { turn = Looks n arrival waits }) → b ≡ arc_value d.board → wake ≡ d.wake.items
    → IsAtWorkThere b n arrival (not (eqb d.count 0)) wake d.seat
may_look d b wake n arrival waits k is same = rw (is, same) (record {
  there = k.stands.0;
  working = k.stands.1;
  any = holds_told (view_in d.seat) d.count _ k.owns;
  woken = k.stands.2;
  marks = omega (arith, k.world.words_are);
})
