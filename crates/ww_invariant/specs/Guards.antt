-- What each step at a guard makes of the seat.
use Rattle.std.specs.Prelude.{ℕ, suc, ◌≡◌, ◌≢◌, ◌<◌, true, false, List, [], ◌∷◌, Some}
use Rattle.atomic_table.specs.Table.{Step, rest}
use Rattle.ww_word.specs.declared.owner.Owner.{Owner}
use Rattle.ww_word.specs.Owner.{is_handed}
use Rattle.ww_word.specs.AnySeats.{Fits, IsValid, packed}
use Rattle.ww_queue.specs.declared.entry.Entry.{Entry}
use Rattle.ww_queue.specs.Queue.{Has, entry_of, Once, StandsNot}
use Rattle.ww_view.specs.declared.view.View.{View}
use Rattle.ww_view.specs.View.{owns}
use Rattle.ww_view.specs.Made.{stepped, glanced, shut_out, entered, exited, has_looked, entry_of_view}
use Rattle.ww_invariant.specs.declared.cells.Cell.{Cell}
use Rattle.ww_invariant.specs.declared.cells.Cell.TheVariants.{Line}
use Rattle.ww_invariant.specs.declared.cells.Sight.{Sight}
use Rattle.ww_invariant.specs.Layout.{owner_at, guard_at, list_at}
use Rattle.ww_invariant.specs.Rule.{Sat}
use Rattle.ww_invariant.specs.Steps.{knowing}

-- the word was another than the seat expected
abbrev pub lost : Sight → Sight
lost v = knowing v (stepped v.part.core)

-- each waiter is one of the seats, and an owner word has room for its stamp
abbrev pub AreSeats : ℕ → List Entry → Type 0
AreSeats seats q = (e : Entry) → Has q e → (e.seat < seats) × Fits e.seat e.stamp

-- each waiter stands in the list once: the seat itself not where it waits for no lock, and where it waits for this one
-- as its view has it
pub record StandsAs (v : View) (n : ℕ) (q : List Entry) : Type 0 where
  pub once : Once q
  pub absent : v.waits ≡ 0 → StandsNot q v.who
  pub entry : v.waits ≡ suc n → entry_of q v.who ≡ Some (entry_of_view v)

-- ---- enter: one try to go inside the guard, and the wait list comes with it

abbrev pub entering : Sight → ℕ → List Entry → Sight
entering v n q = knowing v (entered v.part.core n q)

-- another seat is inside
abbrev pub shutting_out : Sight → Sight
shutting_out v = knowing v (shut_out v.part.core)

abbrev pub enters_to : Step Cell → Sat → ℕ → Sat → Type 0
enters_to st m found m' = (n : ℕ) → st.word ≡ guard_at m.0.part.core.room n →
    (found ≡ 0 → (q : List Entry) × AreSeats m.0.part.core.seats q × StandsAs m.0.part.core n q
    × (m' ≡ (entering m.0 n q, (list_at n, Line q) ∷ m.1))) × (found ≢ 0 → m' ≡ (shutting_out m.0, m.1))

-- ---- exit: out of the guard, and the wait list goes home

abbrev pub exiting : Sight → Sight
exiting v = knowing v (exited v.part.core)

abbrev pub exits_to : Step Cell → Sat → ℕ → Sat → Type 0
exits_to st m stored m' = m' ≡ (exiting m.0, rest m.1)

-- ---- look: the owner word, read inside the guard

abbrev pub looking : Sight → Owner → Sight
looking v o = knowing v (has_looked v.part.core o)

-- what the word tells a seat that has this view: the owner is one of the seats; it names the seat only where the lock is the seat's, or handed to it;
-- and a flag stands where somebody waits
pub record IsSeenBy (v : View) (n : ℕ) (o : Owner) : Type 0 where
  pub there : (u : ℕ) → o.seat ≡ Some u → u < v.seats
  pub own : owns v n ≡ false → o.seat ≡ Some v.who → is_handed o ≡ true
  pub flags : v.list ≢ [] → o.flags ≢ 0

abbrev pub looks_to : Step Cell → Sat → ℕ → Sat → Type 0
looks_to st m found m' = (o : Owner) × IsValid o × (found ≡ packed o) × (m' ≡ (looking m.0 o, m.1))
    × ((n : ℕ) → st.word ≡ owner_at m.0.part.core.room n → IsSeenBy m.0.part.core n o)

-- ---- a spin read: the owner word, read from outside the guard: others may have changed it since

abbrev pub glancing : Sight → Sight
glancing v = knowing v (glanced v.part.core)

abbrev pub glances_to : Step Cell → Sat → ℕ → Sat → Type 0
glances_to st m found m' = ((o : Owner) × IsValid o × (found ≡ packed o)) × (m' ≡ (glancing m.0, m.1))

-- ... or the stamp word, which tells how many contexts have begun: any number, as far as a proof knows
abbrev pub counts_to : Step Cell → Sat → ℕ → Sat → Type 0
counts_to st m found m' = m' ≡ (glancing m.0, m.1)
