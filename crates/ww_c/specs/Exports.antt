-- What a call by a handle of C's comes to.
use Rattle.std.specs.Prelude.{ℕ, zero, suc, ◌≡◌, ◌≢◌, ◌≤◌, ◌⊎◌, ℤ, pos, negsuc, Bool, List, length, Option, Some, None, Result}
use Rattle.ww_steps.specs.declared.turn.Answer.{Answer}
use Rattle.ww_steps.specs.declared.outlook.Outlook.{Outlook}
use Rattle.ww_steps.specs.declared.outlook.NoOutlook.{NoOutlook}
use Rattle.ww_steps.specs.Situations.{Situation}
use Rattle.ww_steps.specs.Answers.{BooksWakes, CountsNaps, HasSomeHeld, IsEachAnswer, IsNextAnswer, IsCancelAnswer, IsWakeAnswer, HasNothing}
use Rattle.ww_steps.specs.declared.opening.NoDesk.{NoDesk}
use Rattle.ww_steps.specs.Opened.{HasMadeDesk, IsNoDesk, IsWorldSize, IsOpened, Premises}
use Rattle.ww_steps.specs.Outlooks.{IsOutlookAnswer, IsWoundedAnswer}
use Rattle.ww_queue.specs.declared.kind.Kind.{Kind}
use Rattle.ww_queue.specs.declared.kind.Kind.TheVariants.{WoundWait, WaitDie}
use Rattle.ww_c.specs.Codes.{code_of, no_desk_code, outlook_code, wounded_code}

-- The desk behind the handle answers by this relation, and the code is that of its answer; an empty handle is told EINVAL.
abbrev pub IsCall : (Situation → Answer → Situation → Type 0) → Option Situation → ℤ → Option Situation → Type 0
IsCall answers None code after = (code ≡ negsuc 21) × (after ≡ None)
IsCall answers (Some s) code after = (a : Answer) × (s' : Situation) × (after ≡ Some s') × answers s a s' × (code ≡ code_of a)

-- a seat to be woken, or none
abbrev pub wake_code : Option ℕ → ℤ
wake_code None = negsuc 21
wake_code (Some who) = pos who

abbrev pub IsWakeCall : Option Situation → ℤ → Option Situation → Type 0
IsWakeCall None code after = (code ≡ negsuc 21) × (after ≡ None)
IsWakeCall (Some s) code after = (who : Option ℕ) × (s' : Situation) × (after ≡ Some s') × IsWakeAnswer s who s' × (code ≡ wake_code who)

-- the next step, whatever call is on its way; and its account of wakes balances, and it left a guard as a waiter if it has to sleep
abbrev pub goes_on : Situation → Answer → Situation → Type 0
goes_on s a s' = IsNextAnswer s.turn s a s' × BooksWakes s s' × CountsNaps s a s'

-- whose a lock is
abbrev pub IsLookCall : Option Situation → ℕ → ℤ → Option Situation → Type 0
IsLookCall None n code after = (code ≡ negsuc 21) × (after ≡ None)
IsLookCall (Some s) n code after = (seen : Result Outlook NoOutlook) × (s' : Situation) × (after ≡ Some s')
    × IsOutlookAnswer s n seen s' × (code ≡ outlook_code seen)

-- whether its context is wounded
abbrev pub IsWoundedCall : Option Situation → ℤ → Option Situation → Type 0
IsWoundedCall None code after = (code ≡ negsuc 21) × (after ≡ None)
IsWoundedCall (Some s) code after = (seen : Result Bool NoOutlook) × (s' : Situation) × (after ≡ Some s')
    × IsWoundedAnswer s seen s' × (code ≡ wounded_code seen)

abbrev pub cancels : ℕ → Situation → Answer → Situation → Type 0
cancels u s a s' = IsCancelAnswer s u a s' × BooksWakes s s'

-- which locks of a list it has released, from the end on, and that nothing else has changed; an empty handle none
abbrev pub IsEachCall : Option Situation → List ℕ → ℕ → Option Situation → Type 0
IsEachCall None ns left after = (left ≡ length ns) × (after ≡ None)
IsEachCall (Some s) ns left after = (s' : Situation) × (after ≡ Some s') × IsEachAnswer s ns left s' × HasSomeHeld s s'

-- whether the desk is idle, which an empty handle counts as
abbrev pub IsIdleCall : Option Situation → ℤ → Option Situation → Type 0
IsIdleCall None code after = (code ≡ pos 0) × (after ≡ None)
IsIdleCall (Some s) code after = (after ≡ Some s) × ((HasNothing s × (code ≡ pos 0)) ⊎ ((¬ HasNothing s) × (code ≡ negsuc 15)))

-- how many locks the desk holds, which are none for an empty handle
abbrev pub IsHeldCall : Option Situation → ℕ → Option Situation → Type 0
IsHeldCall None count after = (count ≡ 0) × (after ≡ None)
IsHeldCall (Some s) count after = (after ≡ Some s) × (count ≡ length s.held)

-- an idle desk is closed, and any other is left as it is
abbrev pub IsCloseCall : Option Situation → ℤ → Option Situation → Type 0
IsCloseCall None code after = (code ≡ pos 0) × (after ≡ None)
IsCloseCall (Some s) code after = (HasNothing s × (code ≡ pos 0) × (after ≡ None)) ⊎ ((¬ HasNothing s) × (code ≡ negsuc 15) × (after ≡ Some s))

-- 1 to 2^24 locks and 1 to 4,095 seats, each of which may begin fewer than 2 ^ 52 contexts, of one of two kinds
pub record IsWorldAsked (kind locks left seats : ℕ) : Type 0 where
  pub kinds : kind ≤ 1
  pub sizes : IsWorldSize locks seats left

abbrev pub kind_of : ℕ → Kind
kind_of zero = WoundWait
kind_of (suc k) = WaitDie

-- the handle has a new world, of whose desks none was made
pub record IsOpen (kind locks left seats : ℕ) (after : Option Premises) : Type 0 where
  pub kinds : kind ≤ 1
  pub office : Premises
  pub opened : IsOpened (kind_of kind) locks seats left office
  pub filled : after ≡ Some office

-- a world; ENOMEM; or EINVAL for any other sizes, or where the handle had a world; and then it has what it had
abbrev pub IsOpenCall : ℕ → ℕ → ℕ → ℕ → Option Premises → ℤ → Option Premises → Type 0
IsOpenCall kind locks left seats before code after = ((code ≡ pos 0) × (before ≡ None) × IsOpen kind locks left seats after)
    ⊎ (((code ≡ negsuc 11) × (before ≡ None) × IsWorldAsked kind locks left seats × (after ≡ before))
    ⊎ ((code ≡ negsuc 21) × ((¬ IsWorldAsked kind locks left seats) ⊎ (before ≢ None)) × (after ≡ before)))

-- The desk of this number comes into an empty handle of a seat, if it wasn't made before; else both handles have what they had.
-- A handle without a world, and one with a desk, are told EINVAL.
abbrev pub IsSeatCall : ℕ → Option Premises → Option Situation → ℤ → Option Premises → Option Situation → Type 0
IsSeatCall k None seat code after seat' = (code ≡ negsuc 21) × (after ≡ None) × (seat' ≡ seat)
IsSeatCall k (Some h) (Some s) code after seat' = (code ≡ negsuc 21) × (after ≡ Some h) × (seat' ≡ Some s)
IsSeatCall k (Some h) None code after seat' = ((code ≡ pos 0) × ((d : Situation) × (h' : Premises)
    × HasMadeDesk h k d h' × (after ≡ Some h') × (seat' ≡ Some d)))
    ⊎ ((why : NoDesk) × IsNoDesk h k why × (code ≡ no_desk_code why) × (after ≡ Some h) × (seat' ≡ None))
