-- The numbers that C is answered, the kernel's errors with a minus sign; and what C says of a wait.
use Rattle.std.specs.Prelude.{ℕ, ◌+◌, ℤ, pos, negsuc, Bool, true, false, Result, Ok, Err}
use Rattle.ww_seat.specs.declared.waits.Waits.{Waits}
use Rattle.ww_seat.specs.declared.waits.Waits.TheVariants.{ToTheEnd, UntilCancelled}
use Rattle.ww_steps.specs.declared.opening.NoDesk.{NoDesk}
use Rattle.ww_steps.specs.declared.opening.NoDesk.TheVariants.{NoSeat, MadeBefore, NoRoom}
use Rattle.ww_steps.specs.declared.outlook.Age.{Age}
use Rattle.ww_steps.specs.declared.outlook.Age.TheVariants.{Unknown, Older, Younger}
use Rattle.ww_steps.specs.declared.outlook.Outlook.{Outlook}
use Rattle.ww_steps.specs.declared.outlook.Outlook.TheVariants.{Free, Due, Owned}
use Rattle.ww_steps.specs.declared.outlook.NoOutlook.{NoOutlook}
use Rattle.ww_steps.specs.declared.outlook.NoOutlook.TheVariants.{Inside, NoLock}
use Rattle.ww_steps.specs.declared.turn.Answer.{Answer}
use Rattle.ww_steps.specs.declared.turn.Answer.TheVariants.{Done, Again, Awaits, Sleeps, Busy, Invalid, Already, NoSpace, Deadlk, Interrupted}

-- EINTR is 4, ENOMEM 12, EBUSY 16, EINVAL 22, ENOSPC 28, EDEADLK 35, EALREADY 114
abbrev pub code_of : Answer → ℤ
code_of Done = pos 0
code_of Again = pos 1
code_of Sleeps = pos 3
code_of Awaits = pos 5
code_of Busy = negsuc 15
code_of Invalid = negsuc 21
code_of Already = negsuc 113
code_of NoSpace = negsuc 27
code_of (Deadlk k) = negsuc 34
code_of (Interrupted by) = negsuc 3

-- why no desk was made
abbrev pub no_desk_code : NoDesk → ℤ
no_desk_code NoSeat = negsuc 21
no_desk_code MadeBefore = negsuc 113
no_desk_code NoRoom = negsuc 11

-- whose a lock is: one more than the number of the owner's seat, and one bit for the age of its context
abbrev pub age_bit : Age → ℕ
age_bit Unknown = 0
age_bit Older = 8192
age_bit Younger = 16384

abbrev pub outlook_code : Result Outlook NoOutlook → ℤ
outlook_code (Ok Free) = pos 0
outlook_code (Ok Due) = pos 32768
outlook_code (Ok (Owned seat age)) = pos (seat + 1 + age_bit age)
outlook_code (Err Inside) = negsuc 15
outlook_code (Err NoLock) = negsuc 21

abbrev pub wounded_code : Result Bool NoOutlook → ℤ
wounded_code (Ok true) = pos 1
wounded_code (Ok false) = pos 0
wounded_code (Err Inside) = negsuc 15
wounded_code (Err NoLock) = negsuc 21

-- how a lock call waits that heeds cancels, or that heeds none
abbrev pub waits_of : Bool → Waits
waits_of true = UntilCancelled
waits_of false = ToTheEnd
