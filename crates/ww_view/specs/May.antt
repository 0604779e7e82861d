-- What the view has to show before a step, with the owner word found where one is named.
use Rattle.std.specs.Prelude.{ℕ, suc, ◌≡◌, ◌≢◌, ◌<◌, ◌-◌, ◌^◌, ◌⊎◌, true, false, List, [], Option, Some, None}
use Rattle.ww_word.specs.declared.owner.Owner.{Owner}
use Rattle.ww_word.specs.Owner.{is_handed, idle}
use Rattle.ww_queue.specs.declared.kind.Kind.{Kind}
use Rattle.ww_queue.specs.declared.kind.Kind.TheVariants.{WoundWait, WaitDie}
use Rattle.ww_queue.specs.declared.entry.Entry.{Entry}
use Rattle.ww_queue.specs.Queue.{Has, Before}
use Rattle.ww_queue.specs.Rules.{must_die, owed_signs}
use Rattle.ww_model.specs.declared.event.Event.{Event}
use Rattle.ww_model.specs.declared.event.Event.TheVariants.{Begin, Clear, Fast, FastGive, Guard, Join, Sign, Take, Ask, Give, Die, Unguard, Commit, End, Cancel, Heed, Leave}
use Rattle.ww_model.specs.State.{State, word_of}
use Rattle.ww_model.specs.Snapshot.{IsFirst}
use Rattle.ww_view.specs.declared.view.View.{View}
use Rattle.ww_view.specs.Word.{TellsOther, taken_word}
use Rattle.ww_view.specs.View.{owns, IsBare, IsAway}

-- it may want a lock, as far as its context goes
abbrev pub WantsBase : View → Type 0
WantsBase v = (0 < v.stamp) ⊎ IsBare v

-- ... and as far as its sign goes: in Wait-Die each seat that is signed owns a lock
abbrev pub WantsSigns : View → Type 0
WantsSigns v = (v.stamp ≡ 0) ⊎ ((v.sign ≡ Some 0) ⊎ (((n : ℕ) × (owns v n ≡ true)) ⊎ (v.kind ≡ WaitDie)))

-- to take lock n by one step
pub record MayFast (v : View) : Type 0 where
  pub away : IsAway v
  pub base : WantsBase v
  pub signs : WantsSigns v

-- to make a spin read: no waiter may, and others sixteen times at most between one try and the next
pub record MayGlance (v : View) : Type 0 where
  pub away : IsAway v
  pub few : v.glances < 16

-- to go inside the guard: to release the lock, to look again, or to want it
pub record MayEnter (v : View) (n : ℕ) : Type 0 where
  pub outside : v.inside ≡ 0
  pub why : ((v.waits ≡ 0) × (owns v n ≡ true))
      ⊎ ((v.waits ≡ suc n) ⊎ ((v.waits ≡ 0) × (owns v n ≡ false) × WantsBase v × WantsSigns v))

pub record MayJoin (v : View) (n : ℕ) (o : Owner) : Type 0 where
  pub inside : v.inside ≡ suc n
  pub not_waiting : v.waits ≡ 0
  pub base : WantsBase v
  pub signs : WantsSigns v
  pub other : TellsOther o v.who

-- to take the lock: it is free, or handed to the seat
pub record MayTake (v : View) (n : ℕ) (o : Owner) : Type 0 where
  pub inside : v.inside ≡ suc n
  pub base : WantsBase v
  pub signs : WantsSigns v
  pub free : (o.seat ≡ None) ⊎ ((o.seat ≡ Some v.who) × (is_handed o ≡ true))

-- to ask for the lock, as the first waiter that looks again: of the flags WAITERS alone stands
pub record MayAsk (v : View) (n : ℕ) (o : Owner) : Type 0 where
  pub inside : v.inside ≡ suc n
  pub later : v.later ≡ true
  pub first : IsFirst v.list v.who
  pub other : TellsOther o v.who
  pub flags : o.flags ≡ 1

pub record MayGive (v : View) (n : ℕ) : Type 0 where
  pub inside : v.inside ≡ suc n
  pub owns : owns v n ≡ true

-- to die of stamp k: the seat has to, by the word and the list, and in Wound-Wait by its sign
pub record MayDie (v : View) (n : ℕ) (o : Owner) (k : ℕ) : Type 0 where
  pub inside : v.inside ≡ suc n
  pub waits : v.waits ≡ suc n
  pub other : TellsOther o v.who
  pub why : (s : ℕ) × ((v.kind ≡ WaitDie) ⊎ (v.sign ≡ Some s)) × (must_die v.kind o v.list v.who s ≡ Some k)
  pub unheeded : v.heeded ≡ 0

-- To heed a cancel: another has the lock, by the word that it saw last. The step itself finds the cancel and no owner,
-- so the view has the owner, whose word nobody else changes meanwhile.
pub record MayHeed (v : View) (n : ℕ) : Type 0 where
  pub inside : v.inside ≡ suc n
  pub waits : v.waits ≡ suc n
  pub other : (o : Owner) × (v.seen ≡ Some o) × TellsOther o v.who
  pub unheeded : v.heeded ≡ 0

-- to leave the list for the cancel that it has heeded; that another has the lock follows
pub record MayStop (v : View) (n : ℕ) : Type 0 where
  pub inside : v.inside ≡ suc n
  pub waits : v.waits ≡ suc n
  pub heeded : v.heeded ≢ 0

-- to sign seat u with stamp k, which it owes there
pub record MaySign (v : View) (n u k : ℕ) : Type 0 where
  pub inside : v.inside ≡ suc n
  pub owes : (o : Owner) × (v.seen ≡ Some o) × Has (owed_signs v.kind o v.list v.who) (u, k)

-- it doesn't have to die in Wait-Die, by the word that it saw inside
abbrev pub LivesBySeen : View → Type 0
LivesBySeen v = (o : Owner) × (v.seen ≡ Some o) × (must_die v.kind o v.list v.who 0 ≡ None)

-- to take the own sign back: away and with no lock, or in Wait-Die inside a guard where it doesn't have to die
pub record MayClear (v : View) : Type 0 where
  pub context : 0 < v.stamp
  pub why : (IsAway v × IsBare v) ⊎ ((v.kind ≡ WaitDie) × ((n : ℕ) × (v.inside ≡ suc n)) × LivesBySeen v)

-- the seat found or made signed all whom it owes a sign, and doesn't have to die
pub record HasPaid (v : View) : Type 0 where
  pub word : Owner
  pub seen : v.seen ≡ Some word
  pub signed : (u k : ℕ) → Has (owed_signs v.kind word v.list v.who) (u, k) → Has v.signed u
  pub other : (v.waits ≡ 0) ⊎ TellsOther word v.who
  pub lives : v.kind ≡ WaitDie → must_die v.kind word v.list v.who 0 ≡ None

-- to leave the guard: who neither waits nor owns the lock owes nothing
pub record MayExit (v : View) (n : ℕ) : Type 0 where
  pub inside : v.inside ≡ suc n
  pub why : ((v.waits ≡ 0) × (owns v n ≡ false)) ⊎ HasPaid v
  pub unsigned : v.kind ≡ WaitDie → (v.stamp ≡ 0) ⊎ ((v.sign ≡ Some 0) ⊎ IsBare v)
  pub unheeded : v.heeded ≡ 0

-- the lock was asked for or handed over, or another is first: so a waiter that looks again may go on waiting
abbrev pub NothingToAsk : View → Type 0
NothingToAsk v = (o : Owner) × (v.seen ≡ Some o) × ((o.flags ≡ 3) ⊎ ((is_handed o ≡ true) ⊎ (¬ IsFirst v.list v.who)))

-- What the rules of the calls ask beside: the seat stood in the list, or took or gave the lock, since it went inside; a
-- waiter that looks again leaves nothing to ask for; a waiter that may be wounded has just looked for its sign.
pub record MayLeave (v : View) (n : ℕ) : Type 0 where
  pub exit : MayExit v n
  pub acted : v.acted ≡ true
  pub again : v.later ≡ true → v.waits ≡ suc n → NothingToAsk v
  pub looked : v.kind ≡ WoundWait → v.waits ≡ suc n → 0 < v.stamp → ((m : ℕ) × (owns v m ≡ true)) → v.fresh ≡ true

-- What shows that a seat met an older context, of stamp k, as it saw this owner and this list: its sign is k; or k is
-- the stamp of the owner, or of a waiter before it.
pub record IsShownBy (kind : Kind) (sign : Option ℕ) (list : List Entry) (who : ℕ) (o : Owner) (k : ℕ) : Type 0 where
  pub wounded : kind ≡ WoundWait → (sign ≡ Some k) × (0 < k)
  pub older : kind ≡ WaitDie → (TellsOther o who × (o.stamp ≡ k))
      ⊎ ((e : Entry) × (f : Entry) × Before list e f × (f.seat ≡ who) × (e.stamp ≡ k))

-- ... by what its view says of it
abbrev pub MetByView : View → Owner → ℕ → Type 0
MetByView v o k = IsShownBy v.kind v.sign v.list v.who o k

-- ---- all events

-- The view of the seat, and what it finds in the words of the core, show that its event may be made.
abbrev pub Shows : State → View → Event → Type 0
Shows c v (Begin s) = IsAway v × (v.stamp ≡ 0) × IsBare v × (c.drawn < 2 ^ 56 - 1)
Shows c v (Clear s) = MayClear v
Shows c v (Fast s n) = MayFast v × (n < c.locks) × (idle ≡ word_of c n)
Shows c v (FastGive s n) = IsAway v × (owns v n ≡ true) × (n < c.locks) × (taken_word v.who v.stamp [] ≡ word_of c n)
Shows c v (Guard s n) = MayEnter v n × (n < c.locks) × (c.guard n ≡ 0)
Shows c v (Join s n) = MayJoin v n (word_of c n)
Shows c v (Sign s u) = ((n : ℕ) × (k : ℕ) × MaySign v n u k) × (c.sign u ≡ 0)
Shows c v (Take s n) = MayTake v n (word_of c n)
Shows c v (Ask s n) = MayAsk v n (word_of c n)
Shows c v (Give s n) = MayGive v n
Shows c v (Die s n) = (k : ℕ) × MayDie v n (word_of c n) k
Shows c v (Unguard s n) = MayExit v n
Shows c v (Commit s) = IsAway v × ((n : ℕ) × (owns v n ≡ true)) × (c.commits < 2 ^ 64 - 1)
Shows c v (End s) = IsAway v × (0 < v.stamp) × IsBare v × (c.sign v.who ≡ 0)
Shows c v (Cancel s u) = IsAway v × (u < c.seats) × (c.cancel u ≡ 0)
Shows c v (Heed s n) = MayHeed v n × (c.cancel v.who ≢ 0)
Shows c v (Leave s n) = MayStop v n
