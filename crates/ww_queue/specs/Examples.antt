-- Small wait lists, and what the rules say of each: closed equations, which compare the definitions with the rules.
use Rattle.std.specs.Prelude.{ℕ, ◌≡◌, Bool, true, false, List, [], ◌∷◌, Some, None}
use Rattle.std.specs.List.{fold}
use Rattle.ww_word.specs.declared.owner.Owner.{Owner}
use Rattle.ww_word.specs.Owner.{handed_to}
use Rattle.ww_queue.specs.declared.kind.Kind.TheVariants.{WoundWait, WaitDie}
use Rattle.ww_queue.specs.declared.entry.Entry.{Entry}
use Rattle.ww_queue.specs.Queue.{joined, left, entry_of, ahead_of}
use Rattle.ww_queue.specs.Rules.{must_die, owed_signs}

-- a waiter that holds locks, or has a context and none, or neither
abbrev pub waiter : ℕ → ℕ → Bool → Entry
waiter seat stamp holds = record { stamp = stamp; seat = seat; holds = holds }

-- the list after these have joined in turn
abbrev pub lined_up : List Entry → List Entry
lined_up es = fold joined [] es

-- a context of this seat and stamp that owns the lock, for which others wait
abbrev pub contended_owner : ℕ → ℕ → Owner
contended_owner seat stamp = record { seat = Some seat; stamp = stamp; flags = 1 }

abbrev pub six : List Entry
six = lined_up (waiter 0 5 true ∷ waiter 1 3 false ∷ waiter 2 0 false ∷ waiter 3 4 true ∷ waiter 4 7 true ∷ waiter 5 6 false ∷ [])

abbrev pub three_and_five : List Entry
three_and_five = lined_up (waiter 1 3 false ∷ waiter 0 5 true ∷ waiter 2 0 false ∷ [])

-- the contexts 2, 4 and 6, of which the first holds no lock
abbrev pub three_contexts : List Entry
three_contexts = lined_up (waiter 1 2 false ∷ waiter 2 4 true ∷ waiter 3 6 true ∷ [])

-- contexts stand in the order of their stamps
abbrev pub SixStand : Type 0
SixStand = six ≡ waiter 1 3 false ∷ waiter 3 4 true ∷ waiter 0 5 true ∷ waiter 2 0 false ∷ waiter 5 6 false ∷ waiter 4 7 true ∷ []

-- one leaves, and then no longer stands there
abbrev pub OneLeaves : Type 0
OneLeaves =
    (entry_of six 3 ≡ Some (waiter 3 4 true)) ×
    (left six 3 ≡ waiter 1 3 false ∷ waiter 0 5 true ∷ waiter 2 0 false ∷ waiter 5 6 false ∷ waiter 4 7 true ∷ []) ×
    (entry_of (left six 3) 3 ≡ None)

-- a waiter sees the context ahead of it
abbrev pub OneIsAhead : Type 0
OneIsAhead =
    (ahead_of three_and_five 2 ≡ Some (waiter 1 3 false)) ×
    (ahead_of three_and_five 1 ≡ None) ×
    (ahead_of three_and_five 9 ≡ None)

-- a younger owner is wounded, unless the lock was only handed to it
abbrev pub YoungerOwnerIsWounded : Type 0
YoungerOwnerIsWounded =
    (owed_signs WoundWait (contended_owner 0 5) three_contexts 1 ≡ (0, 4) ∷ []) ×
    (owed_signs WoundWait (contended_owner 0 3) three_contexts 1 ≡ []) ×
    (owed_signs WoundWait (contended_owner 0 0) three_contexts 1 ≡ []) ×
    (owed_signs WoundWait (handed_to 3 6) three_contexts 1 ≡ [])

-- a signed waiter that holds locks dies
abbrev pub SignedHolderDies : Type 0
SignedHolderDies =
    (must_die WoundWait (contended_owner 0 5) three_contexts 3 4 ≡ Some 4) ×
    (must_die WoundWait (contended_owner 0 5) three_contexts 3 0 ≡ None) ×
    (must_die WoundWait (contended_owner 0 5) three_contexts 1 4 ≡ None)

-- a younger waiter is signed, but for the one that signs
abbrev pub YoungerWaiterIsSigned : Type 0
YoungerWaiterIsSigned =
    (owed_signs WaitDie (contended_owner 0 5) three_contexts 1 ≡ (2, 2) ∷ (3, 5) ∷ []) ×
    (owed_signs WaitDie (contended_owner 0 5) three_contexts 2 ≡ (3, 5) ∷ [])

-- a younger waiter dies, of the owner or of the context ahead
abbrev pub YoungerWaiterDies : Type 0
YoungerWaiterDies =
    (must_die WaitDie (contended_owner 0 5) three_contexts 3 0 ≡ Some 5) ×
    (must_die WaitDie (contended_owner 0 7) three_contexts 3 0 ≡ Some 2) ×
    (must_die WaitDie (handed_to 2 4) three_contexts 3 0 ≡ Some 4) ×
    (must_die WaitDie (contended_owner 0 1) three_contexts 1 0 ≡ None) ×
    (must_die WaitDie (contended_owner 0 1) three_contexts 9 0 ≡ None)
