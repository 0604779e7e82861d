-- What holds of views and cores as a whole.
use Rattle.std.specs.Prelude.{ℕ, suc, ◌≡◌, ◌≢◌, ◌<◌, ◌≤◌, ◌+◌, ◌⊎◌, ◌∷◌, Some, None}
use Rattle.ww_word.specs.declared.owner.Owner.{Owner}
use Rattle.ww_word.specs.Owner.{IsValid, packed}
use Rattle.ww_queue.specs.declared.kind.Kind.{Kind}
use Rattle.ww_queue.specs.declared.kind.Kind.TheVariants.{WaitDie}
use Rattle.ww_queue.specs.Rules.{must_die, owed_signs}
use Rattle.ww_model.specs.declared.event.Event.{Event}
use Rattle.ww_model.specs.declared.event.Event.TheVariants.{Sign, Unguard, Die, Leave}
use Rattle.ww_model.specs.State.{State, start, owes, dies, word_of}
use Rattle.ww_model.specs.Event.{Possible, after, actor}
use Rattle.ww_model.specs.Lawful.{IsLawful, SignedOwnsOutside}
use Rattle.ww_model.specs.Run.{Reached}
use Rattle.ww_model.specs.Met.{DeadlkIsMet}
use Rattle.ww_view.specs.declared.view.View.{View}
use Rattle.ww_view.specs.Word.{words_after}
use Rattle.ww_view.specs.View.{IsBare, IsAway, IsQuiet, Knows, first_view}
use Rattle.ww_view.specs.May.{MayDie, MaySign, MayExit, MayStop, MetByView, Shows}
use Rattle.ww_view.specs.Made.{died, interrupted, fast_missed, fast_kept, glanced, has_seen_word, found_pending, shut_out, has_looked, noted, has_read, found_none, found_uncancelled, stepped, view_after}

-- ---- what a seat knows

-- it stays, whatever the others do
abbrev pub OthersKnow : Type 0
OthersKnow = (c : State) (e : Event) (v : View) → IsLawful c → Possible c e → actor e ≢ v.who → Knows c v →
    Knows (after c e) v

-- and nobody else signs the seat, where its view is quiet
abbrev pub QuietIsLeftAlone : Type 0
QuietIsLeftAlone = (c : State) (e : Event) (v : View) → IsLawful c → Possible c e → actor e ≢ v.who → Knows c v →
    IsQuiet v → (after c e).sign v.who ≡ c.sign v.who

-- its own event makes that of it
abbrev pub ActorKnows : Type 0
ActorKnows = (c : State) (e : Event) (v : View) → IsLawful c → SignedOwnsOutside c → Knows c v → actor e ≡ v.who →
    Shows c v e →
    Knows (after c e) (view_after c e v)

-- what it finds without an event
pub record FindsMore (c : State) (v : View) : Type 0 where
  pub looked : (n : ℕ) → v.inside ≡ suc n → Knows c (has_looked v (word_of c n))
  pub noted : (u : ℕ) → c.sign u ≢ 0 → Knows c (noted v u)
  pub kept : Knows c (fast_kept v)
  pub read : (c.sign v.who ≡ 0 → IsQuiet v) → Knows c (has_read v (c.sign v.who))
  pub found_none : Knows c (found_none v)
  pub found_uncancelled : Knows c (found_uncancelled v)
  pub missed : Knows c (fast_missed v)
  pub glanced : Knows c (glanced v)
  pub seen_word : (n word : ℕ) → Knows c (has_seen_word v n word)
  pub found_pending : Knows c (found_pending v)
  pub shut_out : Knows c (shut_out v)
  pub stepped : Knows c (stepped v)

-- ... it knows
abbrev pub FoundIsKnown : Type 0
FoundIsKnown = (c : State) (v : View) → Knows c v → FindsMore c v

-- at the start each seat knows what its first view says
abbrev pub KnowsAtStart : Type 0
KnowsAtStart = (kind : Kind) (locks seats s : ℕ) → s < seats →
    Knows (start kind locks seats) (first_view kind locks seats s)

-- and so does a seat without a context that is away and owns nothing, whatever it did before
abbrev pub RestsAsAtStart : Type 0
RestsAsAtStart = (c : State) (v : View) → IsLawful c → Knows c v → IsAway v → v.stamp ≡ 0 → IsBare v →
    Knows c (first_view v.kind c.locks c.seats v.who)

-- ---- what it shows

-- what the view and what was found show is possible
abbrev pub ShownIsPossible : Type 0
ShownIsPossible = (c : State) (e : Event) (v : View) → IsLawful c → SignedOwnsOutside c → Knows c v → actor e ≡ v.who →
    Shows c v e →
    Possible c e

-- a seat whose view shows that it may leave the guard may leave it
abbrev pub ExitIsPossible : Type 0
ExitIsPossible = (c : State) (v : View) (n : ℕ) → IsLawful c → SignedOwnsOutside c → Knows c v → MayExit v n →
    Possible c (Unguard v.who n)

-- which waiter must die and whom to sign is the same by the word and the list that a seat has inside as by the core
pub record DecidesAlike (c : State) (v : View) (n : ℕ) (o : Owner) : Type 0 where
  pub owes : owed_signs v.kind o v.list v.who ≡ owes c v.who n
  pub dies : (s : ℕ) → (v.kind ≡ WaitDie) ⊎ (v.sign ≡ Some s) → must_die v.kind o v.list v.who s ≡ dies c v.who n

abbrev pub ViewDecides : Type 0
ViewDecides = (c : State) (v : View) (n : ℕ) (o : Owner) → Knows c v → v.inside ≡ suc n → o ≡ word_of c n →
    DecidesAlike c v n o

-- the stamp that the view has is the one that a Sign gives
abbrev pub SignIsTold : Type 0
SignIsTold = (c : State) (v : View) (n u k : ℕ) → IsLawful c → Knows c v → MaySign v n u k → Possible c (Sign v.who u) →
    (after c (Sign v.who u)).sign u ≡ k

-- ---- deaths

-- the view of a seat that has to die shows the older context that it met
abbrev pub DeathIsShown : Type 0
DeathIsShown = (v : View) (n : ℕ) (o : Owner) (k : ℕ) → MayDie v n o k → MetByView v o k

-- ... and keeps what showed it, once it has died
abbrev pub DeathIsNoted : Type 0
DeathIsNoted = (v : View) (n : ℕ) (o : Owner) (k : ℕ) → MayDie v n o k →
    (died v o).met ≡ Some (record { lock = n; stamp = k; owner = o; list = v.list })

-- whatever else it does, it notes none
abbrev pub NoOtherIsNoted : Type 0
NoOtherIsNoted = (c : State) (e : Event) (v : View) → ((s n : ℕ) → e ≢ Die s n) →
    ((view_after c e v).met ≡ v.met) ⊎ ((view_after c e v).met ≡ None)

-- The view of a seat that was interrupted names the lock, and the seat whose cancel it had heeded, before those that it
-- named.
abbrev pub InterruptionIsNoted : Type 0
InterruptionIsNoted = (v : View) (n s : ℕ) (o : Owner) → MayStop v n → v.heeded ≡ s + 1 →
    (interrupted v o).stopped ≡ (n, s) ∷ v.stopped

-- and no other event changes what a view names
abbrev pub NoOtherIsStopped : Type 0
NoOtherIsStopped = (c : State) (e : Event) (v : View) → ((s n : ℕ) → e ≢ Leave s n) →
    (view_after c e v).stopped ≡ v.stopped

-- and the seat did meet it
abbrev pub ShownDeathWasMet : Type 0
ShownDeathWasMet = (c : State) (run : Reached c) (v : View) (n : ℕ) (o : Owner) (k : ℕ) → Knows c v → MayDie v n o k →
    o ≡ word_of c n →
    DeadlkIsMet c run v.who n k

-- ---- owner words

-- each event writes what it says to the owner words, and nothing else changes there
abbrev pub WordsAreWritten : Type 0
WordsAreWritten = (c : State) (e : Event) (n : ℕ) → IsLawful c → Possible c e →
    word_of (after c e) n ≡ words_after c e n

-- a number found there is that of one owner
abbrev pub WordsAreTold : Type 0
WordsAreTold = (c : State) (n : ℕ) (o : Owner) → Reached c → c.seats ≤ 16 → IsValid o →
    packed o ≡ packed (word_of c n) → o ≡ word_of c n

-- what they say is valid
abbrev pub WordsAreValid : Type 0
WordsAreValid = (c : State) (n : ℕ) → Reached c → c.seats ≤ 16 → IsValid (word_of c n)
