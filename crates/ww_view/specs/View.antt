-- What a view says of its seat, and what the seat knows of the core by it.
use Rattle.std.specs.Prelude.{ℕ, suc, ◌≡◌, ◌≢◌, ◌<◌, ◌⊎◌, Bool, true, false, List, [], Some, None, length, replicate}
use Rattle.std.specs.List.{slice_index_or}
use Rattle.ww_word.specs.declared.owner.Owner.{Owner}
use Rattle.ww_queue.specs.declared.kind.Kind.{Kind}
use Rattle.ww_queue.specs.declared.kind.Kind.TheVariants.{WaitDie}
use Rattle.ww_queue.specs.declared.entry.Entry.{Entry}
use Rattle.ww_queue.specs.Queue.{Has, Stands}
use Rattle.ww_model.specs.declared.state.Holder.{Holder}
use Rattle.ww_model.specs.declared.state.Holder.TheVariants.{Taken}
use Rattle.ww_model.specs.State.{State, owes, word_of}
use Rattle.ww_view.specs.declared.view.View.{View}

-- ---- the view alone

-- the seat owns the lock
abbrev pub owns : View → ℕ → Bool
owns v n = slice_index_or v.owned n false

-- it owns none
abbrev pub IsBare : View → Type 0
IsBare v = (n : ℕ) → owns v n ≡ false

-- it is inside no guard and in no wait list
abbrev pub IsAway : View → Type 0
IsAway v = (v.inside ≡ 0) × (v.waits ≡ 0)

-- nobody else can sign it
abbrev pub IsQuiet : View → Type 0
IsQuiet v = IsBare v ⊎ ((v.kind ≡ WaitDie) × (v.inside ≢ 0))

-- the view of a seat that has done nothing yet, at a table of so many locks and seats
abbrev pub first_view : Kind → ℕ → ℕ → ℕ → View
first_view kind locks seats s = record {
  kind = kind;
  who = s;
  room = locks;
  seats = seats;
  stamp = 0;
  owned = replicate locks false;
  inside = 0;
  list = [];
  waits = 0;
  seen = None;
  signed = [];
  sign = Some 0;
  later = false;
  acted = false;
  fresh = false;
  uncancelled = false;
  tries = 0;
  glances = 0;
  all_glances = 0;
  takes = 0;
  deaths = 0;
  kept = 0;
  condemned = [];
  met = None;
  heeded = 0;
  stopped = [];
  pendings = 0;
  attempts = 0;
  heir = None;
  debts = [];
  naps = 0;
  deaf = 0;
  locks = [];
  words_seen = [];
}

-- Nobody else writes the owner word of this lock while the seat is inside its guard: somebody waits there, or the lock is
-- the seat's.
abbrev pub NobodyWrites : View → ℕ → Type 0
NobodyWrites v n = (v.list ≢ []) ⊎ (owns v n ≡ true)

-- ---- what the seat knows, each part a definition over just what it reads of the core and of the view

-- of itself: the kind of the locks, how many locks and seats there are, that it is one of the seats, and its stamp
pub record KnowsItself (core_kind : Kind) (core_locks core_seats : ℕ) (core_stamp : ℕ → ℕ) (own_kind : Kind)
    (own_room own_seats who own_stamp : ℕ) : Type 0 where
  pub kind : own_kind ≡ core_kind
  pub seat : who < core_seats
  pub room : own_room ≡ core_locks
  pub seats : own_seats ≡ core_seats
  pub stamp : own_stamp ≡ core_stamp who

-- which locks it has taken
pub record KnowsOwned (core_locks : ℕ) (owner : ℕ → Holder) (who : ℕ) (owned : List Bool) : Type 0 where
  pub room : length owned ≡ core_locks
  pub has : (n : ℕ) → slice_index_or owned n false ≡ true → owner n ≡ Taken who
  pub lacks : (n : ℕ) → owner n ≡ Taken who → slice_index_or owned n false ≡ true

-- the guard that it is inside of
pub record KnowsGuard (core_locks : ℕ) (guard : ℕ → ℕ) (who own_inside : ℕ) : Type 0 where
  pub inside : (n : ℕ) → guard n ≡ suc who → own_inside ≡ suc n
  pub guards : (n : ℕ) → own_inside ≡ suc n → (n < core_locks) × (guard n ≡ suc who)

-- the wait list there, and the one in which it stands
pub record KnowsQueues (queue : ℕ → List Entry) (who own_inside : ℕ) (own_list : List Entry) (own_waits : ℕ)
    : Type 0 where
  pub list : (n : ℕ) → own_inside ≡ suc n → own_list ≡ queue n
  pub waits : (n : ℕ) → Stands (queue n) who → own_waits ≡ suc n
  pub waited : (n : ℕ) → own_waits ≡ suc n → Stands (queue n) who

-- All of it. Of owner words and signs it knows what no other seat can change: the word inside, where nobody else writes
-- it; that whom it found signed there is so, as long as it owes that sign; and its own sign. That this is 0 it knows
-- only while it is quiet.
pub record Knows (c : State) (v : View) : Type 0 where
  pub itself : KnowsItself c.kind c.locks c.seats c.stamp v.kind v.room v.seats v.who v.stamp
  pub owned : KnowsOwned c.locks c.owner v.who v.owned
  pub guard : KnowsGuard c.locks c.guard v.who v.inside
  pub queues : KnowsQueues c.queue v.who v.inside v.list v.waits
  pub seen : (n : ℕ) (o : Owner) → v.inside ≡ suc n → v.seen ≡ Some o → NobodyWrites v n → o ≡ word_of c n
  pub signed : (n u k : ℕ) → v.inside ≡ suc n → Has v.signed u → Has (owes c v.who n) (u, k) → c.sign u ≢ 0
  pub sign : (k : ℕ) → v.sign ≡ Some k → c.sign v.who ≡ k
  pub quiet : v.sign ≡ Some 0 → IsQuiet v
  pub heeded : v.heeded ≡ c.heeded v.who
