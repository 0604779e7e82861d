-- What each call leaves of the wakes that a desk has to make, and of how often it left a guard as a waiter.
use Rattle.std.proofs.Common.{◌≡◌, ℕ, ◌+◌, Bool, true, false, true≢false, List, [], ◌∷◌, inl, inr, ⊎_elim, refl, sym, ap, ◌∙◌, subst}
use Rattle.std.specs.Prelude.{Result, Ok, Err}
use Rattle.ww_seat.specs.declared.waits.Waits.{Waits}
use Rattle.ww_steps.specs.declared.turn.Answer.{Answer}
use Rattle.ww_steps.specs.declared.turn.Answer.TheVariants.{Done, Again, Sleeps, Busy, Invalid, Already, NoSpace}
use Rattle.ww_steps.specs.declared.outlook.Outlook.{Outlook}
use Rattle.ww_steps.specs.declared.outlook.NoOutlook.{NoOutlook}
use Rattle.ww_steps.specs.declared.outlook.NoOutlook.TheVariants.{Inside, NoLock}
use Rattle.ww_steps.specs.Situations.{Situation}
use Rattle.ww_steps.specs.Answers.{Balances, StaysOut, HasReleased, IsBeginAnswer, IsDoneAnswer, IsEndAnswer, IsLockAnswer, IsTryAnswer, IsSlowAnswer, IsUnlockAnswer, IsHasAnswer, HasLookedAt, IsFreeAnswer, IsCancelAnswer, IsHeedAnswer, naps_then, CountsNaps}
use Rattle.ww_steps.specs.Outlooks.{IsOutlookAnswer, IsWoundedAnswer}
use Rattle.ww_steps.proofs.Account.{balances_same}
use Rattle.ww_callers.specs.Deeds.{Call, begin, done, end, lock, try_lock, lock_slow, go_on, unlock, unlock_each, has, is_free, outlook, is_wounded, cancel, heed, HasDone, is_sleeps}

-- it owes nobody more, and left no guard as a waiter
record IsQuiet (s s' : Situation) : Type 0 where
  pub caller : s'.caller ≡ s.caller
  pub cancelled : s'.cancelled ≡ s.cancelled
  pub debts : s'.view.debts ≡ s.view.debts
  pub wakes : s'.wakes ≡ s.wakes
  pub naps : s'.view.naps ≡ s.view.naps

quiet : (s : Situation) → IsQuiet s s
quiet s = record { caller = refl; cancelled = refl; debts = refl; wakes = refl; naps = refl }

quiet_same : (s s' : Situation) → s' ≡ s → IsQuiet s s'
quiet_same s s' is = subst (IsQuiet s) (sym is) (quiet s)

-- by what it is then
quiet_out : (s s' t : Situation) → StaysOut s s' → s' ≡ t → t.caller ≡ s.caller → t.cancelled ≡ s.cancelled →
    t.wakes ≡ s.wakes → IsQuiet s s'
quiet_out s s' t out is caller cancelled wakes = record {
  caller = ap (λ (x : Situation). x.caller) is ∙ caller;
  cancelled = ap (λ (x : Situation). x.cancelled) is ∙ cancelled;
  debts = out.debts;
  wakes = ap (λ (x : Situation). x.wakes) is ∙ wakes;
  naps = out.naps;
}

quiet_then : (s t u : Situation) → IsQuiet s t → IsQuiet t u → IsQuiet s u
quiet_then s t u a b = record {
  caller = b.caller ∙ a.caller;
  cancelled = b.cancelled ∙ a.cancelled;
  debts = b.debts ∙ a.debts;
  wakes = b.wakes ∙ a.wakes;
  naps = b.naps ∙ a.naps;
}

-- ---- first steps

unlocked : (s s' : Situation) (n : ℕ) (a : Answer) → IsUnlockAnswer s n a s' → IsQuiet s s'
unlocked s s' n Done h = quiet_out s s' _ h.1.0 h.1.1 refl refl refl
unlocked s s' n Again h = quiet_out s s' _ h.2.0 h.2.1 refl refl refl
unlocked s s' n Busy h = quiet_same s s' h.1
unlocked s s' n Invalid h = quiet_same s s' h.2
unlocked s s' n _ h = absurd h

released : (s s' : Situation) (ns : List ℕ) → HasReleased s ns s' → IsQuiet s s'
released s s' [] h = quiet_out s s' _ h.0 h.1 refl refl refl
released s s' (n ∷ ns) h = quiet_then s h.0 s' (released s h.0 ns h.1) (unlocked h.0 s' n Done h.2)

-- whatever it answers, the account balances, and it left a guard as a waiter where it is told to sleep
abbrev Accounts : Situation → Answer → Situation → Type 0
Accounts s a s' = Balances s s' × CountsNaps s a s'

pub naps_alike : (a : Answer) (k : ℕ) → is_sleeps a ≡ false → naps_then a k ≡ k
naps_alike Sleeps k other = absurd (true≢false other)
naps_alike _ k other = refl

pub naps_more : (a : Answer) (k : ℕ) → is_sleeps a ≡ true → naps_then a k ≡ k + 1
naps_more Sleeps k is = refl
naps_more _ k is = absurd (true≢false (sym is))

accounts : (s s' : Situation) (a : Answer) → is_sleeps a ≡ false → IsQuiet s s' → Accounts s a s'
accounts s s' a other q = (
  balances_same s s' q.caller q.cancelled q.debts q.wakes,
  q.naps ∙ sym (naps_alike a s.view.naps other),
)

begun : (s s' : Situation) (a : Answer) → IsBeginAnswer s a s' → Accounts s a s'
begun s s' Done h = accounts s s' Done refl (quiet_out s s' _ h.5 h.6 refl refl refl)
begun s s' Busy h = accounts s s' Busy refl (quiet_same s s' h.1)
begun s s' Invalid h = accounts s s' Invalid refl (quiet_same s s' h.2)
begun s s' NoSpace h = accounts s s' NoSpace refl (elim h.3 [
  | inl none ↦ quiet_same s s' none.1
  | inr spent ↦ subst (IsQuiet s) (sym spent.2) (record { caller = refl; cancelled = refl; debts = refl; wakes = refl; naps = refl })
])
begun s s' _ h = absurd h

all_had : (s s' : Situation) (a : Answer) → IsDoneAnswer s a s' → Accounts s a s'
all_had s s' Done h = accounts s s' Done refl
    (subst (IsQuiet s) (sym h.3) (record { caller = refl; cancelled = refl; debts = refl; wakes = refl; naps = refl }))
all_had s s' Busy h = accounts s s' Busy refl (quiet_same s s' h.1)
all_had s s' Invalid h = accounts s s' Invalid refl (quiet_same s s' h.2)
all_had s s' _ h = absurd h

ended : (s s' : Situation) (a : Answer) → IsEndAnswer s a s' → Accounts s a s'
ended s s' Done h = accounts s s' Done refl (quiet_out s s' _ h.3 h.4 refl refl refl)
ended s s' Busy h = accounts s s' Busy refl (quiet_same s s' h.1)
ended s s' Invalid h = accounts s s' Invalid refl (quiet_same s s' h.2)
ended s s' _ h = absurd h

locked : (s s' : Situation) (n : ℕ) (waits : Waits) (a : Answer) → IsLockAnswer s n waits a s' → Accounts s a s'
locked s s' n waits Done h = accounts s s' Done refl (quiet_out s s' _ h.1.0 h.1.1 refl refl refl)
locked s s' n waits Again h = accounts s s' Again refl (quiet_out s s' _ h.1 h.2 refl refl refl)
locked s s' n waits Busy h = accounts s s' Busy refl (quiet_same s s' h.1)
locked s s' n waits Already h = accounts s s' Already refl (quiet_same s s' h.1)
locked s s' n waits Invalid h = accounts s s' Invalid refl (quiet_same s s' h.1)
locked s s' n waits _ h = absurd h

tried : (s s' : Situation) (n : ℕ) (a : Answer) → IsTryAnswer s n a s' → Accounts s a s'
tried s s' n Done h = accounts s s' Done refl (quiet_out s s' _ h.1.0 h.1.1 refl refl refl)
tried s s' n Busy h = accounts s s' Busy refl (elim h [
  | inl busy ↦ quiet_same s s' busy.1
  | inr vain ↦ quiet_out s s' _ vain.1.0 vain.1.1 refl refl refl
])
tried s s' n Already h = accounts s s' Already refl (quiet_same s s' h.1)
tried s s' n Invalid h = accounts s s' Invalid refl (quiet_same s s' h.1)
tried s s' n _ h = absurd h

locked_slowly : (s s' : Situation) (n : ℕ) (waits : Waits) (a : Answer) → IsSlowAnswer s n waits a s' → Accounts s a s'
locked_slowly s s' n waits Done h = accounts s s' Done refl (quiet_out s s' _ h.3.0 h.3.1 refl refl refl)
locked_slowly s s' n waits Again h = locked s s' n waits Again h.2
locked_slowly s s' n waits Busy h = accounts s s' Busy refl (quiet_same s s' h.1)
locked_slowly s s' n waits Invalid h = accounts s s' Invalid refl (quiet_same s s' h.2)
locked_slowly s s' n waits _ h = absurd h

let_go : (s s' : Situation) (n : ℕ) (a : Answer) → IsUnlockAnswer s n a s' → Accounts s a s'
let_go s s' n Done h = accounts s s' Done refl (unlocked s s' n Done h)
let_go s s' n Again h = accounts s s' Again refl (unlocked s s' n Again h)
let_go s s' n Busy h = accounts s s' Busy refl (unlocked s s' n Busy h)
let_go s s' n Invalid h = accounts s s' Invalid refl (unlocked s s' n Invalid h)
let_go s s' n _ h = absurd h

had : (s s' : Situation) (n : ℕ) (a : Answer) → IsHasAnswer s n a s' → Accounts s a s'
had s s' n Done h = accounts s s' Done refl (quiet_same s s' h.1)
had s s' n Busy h = accounts s s' Busy refl (quiet_same s s' h.1)
had s s' n Invalid h = accounts s s' Invalid refl (quiet_same s s' h.2)
had s s' n _ h = absurd h

-- what it knows of a lock's word counts for none of this
saw_word : (s s' : Situation) (n word : ℕ) → HasLookedAt s n word s' → IsQuiet s s'
saw_word s s' n word is = subst (IsQuiet s) (sym is) (record { caller = refl; cancelled = refl; debts = refl; wakes = refl; naps = refl })

looked : (s s' : Situation) (n : ℕ) (a : Answer) → IsFreeAnswer s n a s' → Accounts s a s'
looked s s' n Done h = accounts s s' Done refl (saw_word s s' n 0 h.3)
looked s s' n Busy h = accounts s s' Busy refl (⊎_elim (λ busy. quiet_same s s' busy.1) (λ held. saw_word s s' n held.2.0 held.2.2) h)
looked s s' n Invalid h = accounts s s' Invalid refl (quiet_same s s' h.2)
looked s s' n _ h = absurd h

looked_out : (s s' : Situation) (n : ℕ) (seen : Result Outlook NoOutlook) → IsOutlookAnswer s n seen s' → IsQuiet s s'
looked_out s s' n (Ok seen) h = saw_word s s' n _ h.2.3
looked_out s s' n (Err Inside) h = quiet_same s s' h.1
looked_out s s' n (Err NoLock) h = quiet_same s s' h.2

-- what it knows of its sign counts for none of this
saw_wound : (s s' : Situation) (seen : Result Bool NoOutlook) → IsWoundedAnswer s seen s' → IsQuiet s s'
saw_wound s s' (Ok true) h = subst (IsQuiet s) (sym h.2.2) (record { caller = refl; cancelled = refl; debts = refl; wakes = refl; naps = refl })
saw_wound s s' (Ok false) h = elim h.1 [
  | inl bare ↦ quiet_same s s' bare.1
  | inr none ↦ subst (IsQuiet s) (sym none.1) (record { caller = refl; cancelled = refl; debts = refl; wakes = refl; naps = refl })
]
saw_wound s s' (Err Inside) h = quiet_same s s' h.1
saw_wound s s' (Err NoLock) h = absurd h

heeding : (s s' : Situation) (a : Answer) → IsHeedAnswer s a s' → Accounts s a s'
heeding s s' Done h = accounts s s' Done refl
    (subst (IsQuiet s) (sym h.1) (record { caller = refl; cancelled = refl; debts = refl; wakes = refl; naps = refl }))
heeding s s' Busy h = accounts s s' Busy refl (quiet_same s s' h.2)
heeding s s' Invalid h = accounts s s' Invalid refl (quiet_same s s' h.1)
heeding s s' _ h = absurd h

-- ---- calls whose clauses say it

cancelled_naps : (s s' : Situation) (u : ℕ) (a : Answer) → IsCancelAnswer s u a s' → CountsNaps s a s'
cancelled_naps s s' u Done h = ap (λ (x : Situation). x.view.naps) h.3
cancelled_naps s s' u Already h = ap (λ (x : Situation). x.view.naps) h.2
cancelled_naps s s' u Busy h = ap (λ (x : Situation). x.view.naps) h.1
cancelled_naps s s' u Invalid h = ap (λ (x : Situation). x.view.naps) h.2
cancelled_naps s s' u _ h = absurd h

itself : (s : Situation) → Balances s s
itself s = balances_same s s refl refl refl refl

-- ---- each call

pub each_accounts : (call : Call) (s : Situation) (a : Answer) (s' : Situation) → HasDone call s a s' → Accounts s a s'
each_accounts begin s a s' h = begun s s' a h
each_accounts done s a s' h = all_had s s' a h
each_accounts end s a s' h = ended s s' a h
each_accounts (lock n waits) s a s' h = locked s s' n waits a h
each_accounts (try_lock n) s a s' h = tried s s' n a h
each_accounts (lock_slow n waits) s a s' h = locked_slowly s s' n waits a h
each_accounts go_on s a s' h = (h.1 s (itself s), h.2)
each_accounts (unlock n) s a s' h = let_go s s' n a h
each_accounts (unlock_each ns) s a s' h = subst (λ (x : Answer). Accounts s x s') (sym h.0)
    (accounts s s' Done refl (released s s' h.1.1.1 h.1.1.4))
each_accounts (has n) s a s' h = had s s' n a h
each_accounts (is_free n) s a s' h = looked s s' n a h
each_accounts (outlook n) s a s' h = subst (λ (x : Answer). Accounts s x s') (sym h.0)
    (accounts s s' Done refl (looked_out s s' n h.1.0 h.1.1))
each_accounts is_wounded s a s' h = subst (λ (x : Answer). Accounts s x s') (sym h.0)
    (accounts s s' Done refl (saw_wound s s' h.1.0 h.1.1))
each_accounts (cancel u) s a s' h = (h.1 s (itself s), cancelled_naps s s' u a h.0)
each_accounts heed s a s' h = heeding s s' a h
