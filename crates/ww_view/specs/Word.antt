-- Owner words: what a seat learns from one, and what the events write.
use Rattle.std.specs.Prelude.{ℕ, ◌≡◌, ◌≢◌, Bool, true, List, [], ◌∷◌, Some}
use Rattle.ww_word.specs.declared.owner.Owner.{Owner}
use Rattle.ww_word.specs.Owner.{idle, with_waiters, handed_to}
use Rattle.ww_queue.specs.declared.entry.Entry.{Entry}
use Rattle.ww_queue.specs.Queue.{left}
use Rattle.ww_model.specs.declared.event.Event.{Event}
use Rattle.ww_model.specs.declared.event.Event.TheVariants.{Fast, FastGive, Join, Take, Ask, Give, Die, Leave}
use Rattle.ww_model.specs.State.{State, put, waiting, word_of}

-- another seat has the lock, by the word
abbrev pub TellsOther : Owner → ℕ → Type 0
TellsOther o s = (t : ℕ) × (o.seat ≡ Some t) × (t ≢ s)

-- of a lock that a seat with this stamp has taken, with this wait list
abbrev pub taken_word : ℕ → ℕ → List Entry → Owner
taken_word s stamp q = record { seat = Some s; stamp = stamp; flags = waiting q }

-- of a taken lock that somebody waits for, once it is asked to hand itself over: WAITERS and HANDOFF stand
abbrev pub asked_word : Owner → Owner
asked_word o = record o { flags = 3 }

-- of a lock that was released: if it was asked to, it is handed to the first waiter
abbrev pub given_word : Bool → List Entry → Owner
given_word true (e ∷ es) = handed_to e.seat e.stamp
given_word _ q = record idle { flags = waiting q }

-- the word once a waiter has gone, and these are left
abbrev pub rest_word : List Entry → Owner → Owner
rest_word [] o = record o { flags = 0 }
rest_word (e ∷ es) o = o

-- the owner words of all locks after the event
abbrev pub words_after : State → Event → ℕ → Owner
words_after c (Fast s n) = put (word_of c) n (taken_word s (c.stamp s) [])
words_after c (FastGive s n) = put (word_of c) n idle
words_after c (Join s n) = put (word_of c) n (with_waiters (word_of c n))
words_after c (Take s n) = put (word_of c) n (taken_word s (c.stamp s) (left (c.queue n) s))
words_after c (Ask s n) = put (word_of c) n (asked_word (word_of c n))
words_after c (Give s n) = put (word_of c) n (given_word (c.asked n) (c.queue n))
words_after c (Die s n) = put (word_of c) n (rest_word (left (c.queue n) s) (word_of c n))
words_after c (Leave s n) = put (word_of c) n (rest_word (left (c.queue n) s) (word_of c n))
words_after c _ = word_of c
