-- When a seat leaves a guard as a waiter, and when it doesn't.
use Rattle.std.proofs.Common.{◌≡◌, ℕ, suc, ◌+◌, Bool, List, refl, sym, ap, ◌∙◌, subst}
use Rattle.ww_word.specs.declared.owner.Owner.{Owner}
use Rattle.ww_view.specs.declared.view.View.{View}
use Rattle.ww_view.specs.Made.{naps_after, deaf_after}
use Rattle.ww_invariant.specs.declared.cells.Sight.{Sight}
use Rattle.ww_invariant.specs.Rule.{Sat}
use Rattle.ww_invariant.specs.Guards.{exiting, looking}
use Rattle.ww_table.specs.Seat.{HasTriedToTake, HasTriedToGive}
use Rattle.ww_table.specs.declared.seat.Taking.{Taking}
use Rattle.ww_table.specs.declared.seat.Taking.TheVariants.{Took, Had, Missed}
use Rattle.ww_table.specs.declared.seat.Giving.{Giving}
use Rattle.ww_table.specs.declared.seat.Giving.TheVariants.{Gave, Kept, Lacked}
use Rattle.ww_seat.specs.Calls.{HasStayedOut}
use Rattle.ww_seat.specs.Looks.{IsNap, StaysAwake}
use Rattle.ww_seat.specs.Work.{HasNoted}
use Rattle.ww_seat.specs.declared.look.Look.{Look}
use Rattle.ww_seat.specs.declared.look.Look.TheVariants.{Locked, Deadlk, Interrupted, Waits}

pub awake_same : (v : View) → StaysAwake v v
awake_same v = record { naps = refl; deaf = refl }

pub awake_then : {u v w : View} → StaysAwake u v → StaysAwake v w → StaysAwake u w
awake_then a b = record { naps = b.naps ∙ a.naps; deaf = b.deaf ∙ a.deaf }

-- by what its view is then
pub awake_by : {u : View} {z w : Sight} → z ≡ w → StaysAwake u w.part.core → StaysAwake u z.part.core
awake_by {u} view a = subst (λ (x : Sight). StaysAwake u x.part.core) (sym view) a

pub awake_noted : {size : ℕ} {owed : List (ℕ × ℕ)} {m m' : Sat} → HasNoted size owed m m' → StaysAwake m.0.part.core m'.0.part.core
awake_noted h = awake_by h.view (record { naps = refl; deaf = refl })

pub awake_looked : (m : Sat) {m' : Sat} {o : Owner} → m' ≡ (looking m.0 o, m.1) → StaysAwake m.0.part.core m'.0.part.core
awake_looked m is = awake_by (ap (λ (z : Sat). z.0) is) (record { naps = refl; deaf = refl })

-- it left the guard, and waits for nothing
pub awake_left : (m m' : Sat) → m.0.part.core.waits ≡ 0 → m'.0 ≡ exiting m.0 → StaysAwake m.0.part.core m'.0.part.core
awake_left m m' none view = awake_by view (record {
  naps = ap (λ (w : ℕ). naps_after w m.0.part.core.naps) none;
  deaf = ap (λ (w : ℕ). deaf_after w m.0.part.core.uncancelled m.0.part.core.deaf) none;
})

-- it left the guard as a waiter
pub nap_left : {n : ℕ} (m m' : Sat) → m.0.part.core.waits ≡ suc n → m'.0 ≡ exiting m.0 → IsNap m.0.part.core Waits m'.0.part.core
nap_left {n} m m' waits view = subst (λ (z : Sight). IsNap m.0.part.core Waits z.part.core) (sym view) (
  ap (λ (w : ℕ). naps_after w m.0.part.core.naps) waits,
  λ found. ap (λ (w : ℕ). deaf_after w m.0.part.core.uncancelled m.0.part.core.deaf) waits
      ∙ ap (λ (b : Bool). deaf_after (suc n) b m.0.part.core.deaf) found,
)

pub nap_then : {u v : View} (w : View) (look : Look) → StaysAwake u v → IsNap v look w → IsNap u look w
nap_then w (Locked x) a n = awake_then a n
nap_then w (Deadlk k) a n = awake_then a n
nap_then w (Interrupted by) a n = awake_then a n
nap_then w Waits a n = (n.0 ∙ ap (λ (k : ℕ). k + 1) a.naps, λ found. n.1 found ∙ a.deaf)

-- it went inside no guard, by what its view is then
pub out_by : {u : View} {z w : Sight} → z ≡ w → HasStayedOut u w.part.core → HasStayedOut u z.part.core
out_by {u} view out = subst (λ (x : Sight). HasStayedOut u x.part.core) (sym view) out

pub out_then : (u v w : View) → HasStayedOut u v → HasStayedOut v w → HasStayedOut u w
out_then u v w a b = record {
  attempts = b.attempts ∙ a.attempts;
  debts = b.debts ∙ a.debts;
  naps = b.naps ∙ a.naps;
  deaf = b.deaf ∙ a.deaf;
}

-- ... by one try to take a lock that guards no node, or to release one
pub out_tried : (m m' : Sat) (n : ℕ) (t : Taking) → HasTriedToTake m n t m' → HasStayedOut m.0.part.core m'.0.part.core
out_tried m m' n Took h = out_by (ap (λ (z : Sat). z.0) h.1) (record { attempts = refl; debts = refl; naps = refl; deaf = refl })
out_tried m m' n Had h = out_by (ap (λ (z : Sat). z.0) h.1) (record { attempts = refl; debts = refl; naps = refl; deaf = refl })
out_tried m m' n Missed h = out_by (ap (λ (z : Sat). z.0) h.1) (record { attempts = refl; debts = refl; naps = refl; deaf = refl })

pub out_let : (m m' : Sat) (n : ℕ) (t : Giving) → HasTriedToGive m n t m' → HasStayedOut m.0.part.core m'.0.part.core
out_let m m' n Gave h = out_by (ap (λ (z : Sat). z.0) h.1) (record { attempts = refl; debts = refl; naps = refl; deaf = refl })
out_let m m' n Kept h = out_by (ap (λ (z : Sat). z.0) h.1) (record { attempts = refl; debts = refl; naps = refl; deaf = refl })
out_let m m' n Lacked h = out_by (ap (λ (z : Sat). z.0) h.1) (record { attempts = refl; debts = refl; naps = refl; deaf = refl })
