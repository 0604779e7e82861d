-- What a desk sees of a lock and of its own sign from outside the guards, also while a call is on its way.
use Rattle.std.specs.Prelude.{ℕ, ◌≡◌, ◌≢◌, ◌<◌, ◌≤◌, ◌==◌, ◌⊎◌, [], nat_lt, if◌then◌else◌, Bool, true, false, Some, None, Result, Ok, Err}
use Rattle.ww_word.specs.declared.owner.Owner.{Owner}
use Rattle.ww_word.specs.AnySeats.{IsValid, packed}
use Rattle.ww_view.specs.Made.{has_read, found_none}
use Rattle.ww_steps.specs.declared.outlook.Age.{Age}
use Rattle.ww_steps.specs.declared.outlook.Age.TheVariants.{Unknown, Older, Younger}
use Rattle.ww_steps.specs.declared.outlook.Outlook.{Outlook}
use Rattle.ww_steps.specs.declared.outlook.Outlook.TheVariants.{Free, Due, Owned}
use Rattle.ww_steps.specs.declared.outlook.NoOutlook.{NoOutlook}
use Rattle.ww_steps.specs.declared.outlook.NoOutlook.TheVariants.{Inside, NoLock}
use Rattle.ww_steps.specs.Situations.{Situation, is_inside}
use Rattle.ww_steps.specs.Answers.{HasLookedAt}

-- how old the context with the other stamp is; 0 is none
abbrev pub age_of : ℕ → ℕ → Age
age_of own other = if own == 0 then Unknown else (if other == 0 then Unknown else (if nat_lt other own then Older else
    (if nat_lt own other then Younger else Unknown)))

-- what a lock's word shows
abbrev pub shown_by : ℕ → Owner → Outlook
shown_by own o = elim o.seat [ None ↦ if o.flags == 0 then Free else Due | Some who ↦ Owned who (age_of own o.stamp) ]

-- it saw the word of the lock, which was that of this owner: its view says so then, and nothing else has changed
abbrev pub IsOutlookAnswer : Situation → ℕ → Result Outlook NoOutlook → Situation → Type 0
IsOutlookAnswer s n (Ok seen) s' = (is_inside s.turn ≡ false) × (n < s.size)
    × ((o : Owner) × IsValid o × (seen ≡ shown_by s.stamp o) × HasLookedAt s n (packed o) s')
IsOutlookAnswer s n (Err Inside) s' = (is_inside s.turn ≡ true) × (s' ≡ s)
IsOutlookAnswer s n (Err NoLock) s' = (is_inside s.turn ≡ false) × (s.size ≤ n) × (s' ≡ s)

-- Whether it is signed while it holds a lock, which its view says then; if it holds none it doesn't look for a sign. Nothing else
-- has changed.
abbrev pub IsWoundedAnswer : Situation → Result Bool NoOutlook → Situation → Type 0
IsWoundedAnswer s (Ok true) s' = (is_inside s.turn ≡ false) × (s.held ≢ [])
    × ((k : ℕ) × (0 < k) × (s' ≡ record s { view = has_read s.view k }))
IsWoundedAnswer s (Ok false) s' = (is_inside s.turn ≡ false)
    × (((s.held ≡ []) × (s' ≡ s)) ⊎ ((s.held ≢ []) × (s' ≡ record s { view = found_none s.view })))
IsWoundedAnswer s (Err Inside) s' = (is_inside s.turn ≡ true) × (s' ≡ s)
IsWoundedAnswer s (Err NoLock) s' = ⊥
