-- A seat that left a guard in order to sleep makes no event before it is inside again.
use Rattle.std.proofs.Common.{◌≡◌, ◌≢◌, ℕ, suc, ◌+◌, ◌<◌, ◌≤◌, true, false, true≢false, List, [], ◌∷◌, ◌++◌, length, set, Option, Some, None, refl, sym, ap, ◌∙◌, subst, ⊎_elim, arith}
use mathlib.Core.Option.{some, some-injective}
use lib.ListN.{get_elem?}
use Rattle.atomic_table.proofs.Lists.{set_here, set_else, at_longer}
use Rattle.ww_view.specs.declared.view.View.{View}
use Rattle.ww_view.specs.Made.{naps_after}
use Rattle.ww_invariant.specs.declared.cells.Part.{Part}
use Rattle.ww_invariant.specs.declared.cells.Sight.{Sight}
use Rattle.ww_invariant.specs.declared.cells.Start.{Start}
use Rattle.ww_invariant.specs.Rule.{St, Sat}
use Rattle.ww_invariant.specs.Steps.{nobody, first_seat, without_first, with_seat}
use Rattle.ww_invariant.proofs.Fits.{place_low}
use Rattle.ww_laws.specs.Scene.{Step, leaves_to_sleep}
use Rattle.ww_refines.specs.Tables.{TableMoment}
use Rattle.ww_refines.specs.Plays as play
use Rattle.ww_refines.specs.Plays.{Plays, IsFound}
use Rattle.ww_refines.specs.Naps.{IsPlayOf, ArePlaysOf, no_more, one_more, is_to_sleep, is_event, HaveNone, SleepsLast, WaitsOutside, NapsAreLast}

-- what a play makes of whether its seat waits outside, and of its count
data Turns (v : View) : Option Step → View → Type 0 where
  -- nothing
  looks : (x : Option Step) (w : View) → is_event x ≡ false → w.inside ≡ v.inside → w.waits ≡ v.waits → w.naps ≡ v.naps →
      Turns v x w
  -- it doesn't wait outside
  acts : (x : Option Step) (w : View) → is_to_sleep x ≡ false → is_event x ≡ true → w.naps ≡ v.naps → ¬ WaitsOutside w →
      Turns v x w
  -- it does now, and its count is one more
  sleeps : (x : Option Step) (w : View) → is_to_sleep x ≡ true → WaitsOutside w → w.naps ≡ v.naps + 1 → Turns v x w

in_guard : (inside waits n : ℕ) → inside ≡ suc n → ¬ ((inside ≡ 0) × (waits ≢ 0))
in_guard inside waits n is out = let none = out.0 in absurd (omega arith)

waits_not : (inside waits : ℕ) → waits ≡ 0 → ¬ ((inside ≡ 0) × (waits ≢ 0))
waits_not inside waits none out = absurd (out.1 none)

module _ {key : Start} (m : TableMoment key) (id : ℕ) (me : Sat) (here : get_elem? m.table.views id ≡ some me.0) where
  abbrev v : View
  v = me.0.part.core

  -- the view that stands there then, and what became of it
  TurnsTo : Option Step → List Sight → Type 0
  TurnsTo x views = (w : Sight) × (get_elem? views id ≡ some w) × Turns v x w.part.core

  stands : (w : Sight) → get_elem? (set m.table.views id w) id ≡ some w
  stands w = set_here m.table.views id w (place_low m.table.views id me.0 here)

  -- it only read a word
  found : (u : View) (i : ℕ) → IsFound m id me i u → (u.inside ≡ v.inside) × (u.waits ≡ v.waits) × (u.naps ≡ v.naps)
  found _ _ (play.looks n o is valid hit) = (refl, refl, refl)
  found _ _ _ = (refl, refl, refl)

  -- an event but an exit in order to sleep
  event : (x : Option Step) (w : Sight) → is_to_sleep x ≡ false → is_event x ≡ true → w.part.core.naps ≡ v.naps
      → ¬ WaitsOutside w.part.core → TurnsTo x (set m.table.views id w)
  unfolding TurnsTo
  event x w awake is naps acting = (w, stands w, acts x w.part.core awake is naps acting)

  quiet : (x : Option Step) (w : Sight) → is_event x ≡ false → w.part.core.inside ≡ v.inside → w.part.core.waits ≡ v.waits
      → w.part.core.naps ≡ v.naps → TurnsTo x (set m.table.views id w)
  unfolding TurnsTo
  quiet x w is inside waits naps = (w, stands w, looks x w.part.core is inside waits naps)

  napping : (x : Option Step) (w : Sight) → is_to_sleep x ≡ true → WaitsOutside w.part.core → w.part.core.naps ≡ v.naps + 1
      → TurnsTo x (set m.table.views id w)
  unfolding TurnsTo
  napping x w is waits naps = (w, stands w, sleeps x w.part.core is waits naps)

  -- a seat was cut off from this one, or taken in by it
  parted : (w : Sight) (others : List Sight) → w.part ≡ me.0.part → TurnsTo None (set m.table.views id w ++ others)
  unfolding TurnsTo
  parted w others same = (
    w,
    at_longer (set m.table.views id w) others id w (stands w),
    looks None w.part.core refl (ap (λ (p : Part). p.core.inside) same) (ap (λ (p : Part). p.core.waits) same)
        (ap (λ (p : Part). p.core.naps) same),
  )

  joined : (w spent : Sight) (other : ℕ) → other ≢ id → w.part ≡ me.0.part
      → TurnsTo None (set (set m.table.views id w) other spent)
  unfolding TurnsTo
  joined w spent other apart same = (
    w,
    set_else (set m.table.views id w) other id spent (λ is. apart (sym is)) ∙ stands w,
    looks None w.part.core refl (ap (λ (p : Part). p.core.inside) same) (ap (λ (p : Part). p.core.waits) same)
        (ap (λ (p : Part). p.core.naps) same),
  )

  each_turns : (x : Option Step) (s : St) → Plays m id me x s → TurnsTo x s.views
  each_turns _ _ (play.draws may room) = event _ _ refl refl refl (waits_not _ _ may.away.1)
  each_turns _ _ (play.takes_free n small may hit) = event _ _ refl refl refl (waits_not _ _ may.away.1)
  each_turns _ _ (play.gives_free n x small away own has top hit) = event _ _ refl refl refl (waits_not _ _ away.1)
  each_turns _ _ (play.takes_bare n big low may hit) = event _ _ refl refl refl (waits_not _ _ may.away.1)
  each_turns _ _ (play.gives_bare n big low away own hit) = event _ _ refl refl refl (waits_not _ _ away.1)
  each_turns _ _ (play.ends may hit) = event _ _ refl refl refl (waits_not _ _ may.away.1)
  each_turns _ _ (play.places done may) = event _ _ refl refl refl (waits_not _ _ may.away.1)
  each_turns _ _ (play.cancels u away low hit) = event _ _ refl refl refl (waits_not _ _ away.1)
  each_turns _ _ (play.enters n low may hit) = event _ _ refl refl refl (in_guard _ _ n refl)
  each_turns _ _ (play.exits n may out top) =
      event _ _ refl refl (ap (λ (k : ℕ). naps_after k v.naps) out) (waits_not _ _ out)
  each_turns _ _ (play.exits_to_sleep n heeds may waits calm top) = napping _ _ refl
      (refl, λ none. absurd (omega (arith, waits, none))) (ap (λ (k : ℕ). naps_after k v.naps) waits)
  each_turns _ _ (play.joins n o may valid hit) = event _ _ refl refl refl (in_guard _ _ n may.inside)
  each_turns _ _ (play.takes_inside n o y others small may valid hit top) = event _ _ refl refl refl (waits_not _ _ refl)
  each_turns _ _ (play.takes_bare_inside n o big may valid hit) = event _ _ refl refl refl (waits_not _ _ refl)
  each_turns _ _ (play.gives_inside n o x may has valid hit top) = event _ _ refl refl refl (in_guard _ _ n may.inside)
  each_turns _ _ (play.gives_bare_inside n o big may valid hit) = event _ _ refl refl refl (in_guard _ _ n may.inside)
  each_turns _ _ (play.asks n o may valid hit) = event _ _ refl refl refl (in_guard _ _ n may.inside)
  each_turns _ _ (play.dies n o k may valid hit) = event _ _ refl refl refl (waits_not _ _ refl)
  each_turns _ _ (play.leaves n o may valid hit) = event _ _ refl refl refl (waits_not _ _ refl)
  each_turns _ _ (play.heeds n may isnt) = event _ _ refl refl refl (in_guard _ _ n may.inside)
  each_turns _ _ (play.signs n u k may low hit) = event _ _ refl refl refl (in_guard _ _ n may.inside)
  each_turns _ _ (play.clears may) = event _ _ refl refl refl
      (⊎_elim (λ away. waits_not _ _ away.0.1) (λ dies. in_guard _ _ dies.1.0 dies.1.1) may.why)
  each_turns _ _ (play.finds_unsigned hit) = quiet _ _ refl refl refl refl
  each_turns _ _ (play.finds_unsigned_for_long hit calm) = quiet _ _ refl refl refl refl
  each_turns _ _ (play.finds_uncancelled hit) = quiet _ _ refl refl refl refl
  each_turns _ _ (play.finds i u is) = let f = found u i is in quiet _ _ refl f.0 f.1 f.2
  each_turns _ _ (play.draws_none may spent) = quiet _ _ refl refl refl refl
  each_turns _ _ (play.cuts_off p ps idle) = parted (without_first me.0) (first_seat (length me.0.held) me.0.idle ∷ []) refl
  each_turns _ _ (play.takes_in other w apart there on bare) = joined (with_seat me.0 w) nobody other apart refl

-- ---- one after the other

no_event : (x : Option Step) → is_event x ≡ false → is_to_sleep x ≡ false
no_event None is = refl
no_event (Some (leaves_to_sleep s n heeds)) is = absurd (true≢false is)
no_event (Some _) is = refl

turns : {key : Start} (v w : View) (x : Option Step) → IsPlayOf key v x w → Turns v x w
unfolding TurnsTo
turns v w x p = let t = each_turns p.moment p.id p.me p.here x p.table p.plays in
    let same : t.0.part.core ≡ w = ap (λ (s : Sight). s.part.core) (some-injective _ _ (sym t.1 ∙ p.there)) ∙ p.after in
    let ends : View × View → Type 0 = λ z. Turns z.0 x z.1 in subst ends (λ i. (p.before i, same i)) t.2

more : {key : Start} (u w : View) (xs : List (Option Step)) → ArePlaysOf key u xs w → u.naps ≤ w.naps
more _ _ _ (no_more v) = omega arith
more _ w _ (one_more u v _ x xs p ps) = let rest = more v w xs ps in go (turns u v x p) rest
  where
    go : Turns u x v → v.naps ≤ w.naps → u.naps ≤ w.naps
    go (looks _ _ is inside waits naps) rest = omega arith
    go (acts _ _ awake is naps acting) rest = omega arith
    go (sleeps _ _ is waits naps) rest = omega arith

-- who doesn't wait outside, and does later, left a guard in between in order to sleep
slept : {key : Start} (u w : View) (xs : List (Option Step)) → ArePlaysOf key u xs w → ¬ WaitsOutside u → WaitsOutside w
    → u.naps < w.naps
slept _ _ _ (no_more v) up waits = absurd (up waits)
slept _ w _ (one_more u v _ x xs p ps) up waits = let rest = more v w xs ps in
    go (turns u v x p) rest (λ still. slept v w xs ps still waits)
  where
    go : Turns u x v → v.naps ≤ w.naps → (¬ WaitsOutside v → v.naps < w.naps) → u.naps < w.naps
    go (looks _ _ is inside waited naps) rest later =
        let less = later (λ z. up (sym inside ∙ z.0, λ none. z.1 (waited ∙ none))) in omega arith
    go (acts _ _ awake is naps acting) rest later = let less = later acting in omega arith
    go (sleeps _ _ is waited naps) rest later = omega arith

-- who waits outside at both times, and left no guard in order to sleep in between, made no event
rested : {key : Start} (u w : View) (xs : List (Option Step)) → ArePlaysOf key u xs w → WaitsOutside u → WaitsOutside w
    → w.naps ≡ u.naps → HaveNone is_event xs
rested _ _ _ (no_more v) waited waits same = tt
rested _ w _ (one_more u v _ x xs p ps) waited waits same = go (turns u v x p)
    (λ waiting naps. rested v w xs ps waiting waits naps)
  where
    go : Turns u x v → (WaitsOutside v → w.naps ≡ v.naps → HaveNone is_event xs) → HaveNone is_event (x ∷ xs)
    go (looks _ _ is inside waiting naps) later =
        (is, later (inside ∙ waited.0, λ none. waited.1 (sym waiting ∙ none)) (same ∙ sym naps))
    go (acts _ _ awake is naps acting) later = absurd (let less = slept v w xs ps acting waits in omega arith)
    go (sleeps _ _ is waiting naps) later = absurd (let rest = more v w xs ps in omega arith)

none_slept : {key : Start} (u w : View) (xs : List (Option Step)) → ArePlaysOf key u xs w → w.naps ≡ u.naps → HaveNone is_to_sleep xs
none_slept _ _ _ (no_more v) same = tt
none_slept _ w _ (one_more u v _ x xs p ps) same = go (turns u v x p) (λ naps. none_slept v w xs ps naps)
  where
    go : Turns u x v → (w.naps ≡ v.naps → HaveNone is_to_sleep xs) → HaveNone is_to_sleep (x ∷ xs)
    go (looks _ _ is inside waiting naps) later = (no_event x is, later (same ∙ sym naps))
    go (acts _ _ awake is naps acting) later = (awake, later (same ∙ sym naps))
    go (sleeps _ _ is waiting naps) later = absurd (let rest = more v w xs ps in omega arith)

slept_last : {key : Start} (u w : View) (xs : List (Option Step)) → ArePlaysOf key u xs w → w.naps ≡ u.naps + 1 → WaitsOutside w
    → SleepsLast xs
slept_last _ _ _ (no_more v) once waits = absurd (omega arith)
slept_last _ w _ (one_more u v _ x xs p ps) once waits = go (turns u v x p) (λ naps. slept_last v w xs ps naps waits)
  where
    with_first : is_to_sleep x ≡ false → SleepsLast xs → SleepsLast (x ∷ xs)
    with_first awake s = record {
      before = x ∷ s.before;
      exit = s.exit;
      after = s.after;
      all = ap (λ (l : List (Option Step)). x ∷ l) s.all;
      awake = (awake, s.awake);
      sleeps = s.sleeps;
      no_event = s.no_event;
    }

    go : Turns u x v → (w.naps ≡ v.naps + 1 → SleepsLast xs) → SleepsLast (x ∷ xs)
    go (looks _ _ is inside waiting naps) later = with_first (no_event x is) (later (once ∙ ap (λ (k : ℕ). k + 1) (sym naps)))
    go (acts _ _ awake is naps acting) later = with_first awake (later (once ∙ ap (λ (k : ℕ). k + 1) (sym naps)))
    go (sleeps _ _ is waiting naps) later = record {
      before = [];
      exit = x;
      after = xs;
      all = refl;
      awake = tt;
      sleeps = is;
      no_event = rested v w xs ps waiting waits (once ∙ sym naps);
    }

pub naps_are_last : NapsAreLast
naps_are_last = record {
  none = λ key v v' xs plays same. none_slept v v' xs plays same;
  last = λ key v v' xs plays once waits. slept_last v v' xs plays once waits;
}
