-- A core as plain lists, one item for each seat or lock, and the state that they show.
use Rattle.std.specs.Prelude.{ℕ, suc, ◌≡◌, ◌≤◌, Bool, false, List, [], ◌∷◌, length, Option, Some, None}
use Rattle.std.specs.List.{slice_index_or}
use Rattle.ww_queue.specs.declared.kind.Kind.{Kind}
use Rattle.ww_queue.specs.declared.entry.Entry.{Entry}
use Rattle.ww_queue.specs.Queue.{Stands}
use Rattle.ww_model.specs.declared.state.Holder.{Holder}
use Rattle.ww_model.specs.declared.state.Holder.TheVariants.{Nobody}
use Rattle.ww_model.specs.State.{State}
use Rattle.ww_model.specs.Event.{MayLive}
use Rattle.ww_model.specs.Run.{Reached}

-- what the fields of a core are, as a contract sees it
pub record Snapshot : Type 0 where
  pub kind : Kind
  pub drawn : ℕ
  pub commits : ℕ
  pub stamps : List ℕ
  pub signs : List ℕ
  pub owners : List Holder
  pub asked : List Bool
  pub queues : List (List Entry)
  pub guards : List (Option ℕ)
  pub cancels : List ℕ
  pub heeded : List ℕ

-- a guard as a number: 0 with nobody inside, else the seat inside plus 1
abbrev pub guard_number : Option ℕ → ℕ
guard_number None = 0
guard_number (Some s) = suc s

-- the state that the lists show: what is not there is as at the start
abbrev pub state_of : Snapshot → State
state_of c = record {
  kind = c.kind;
  locks = length c.owners;
  seats = length c.stamps;
  drawn = c.drawn;
  commits = c.commits;
  stamp = λ s. slice_index_or c.stamps s 0;
  sign = λ s. slice_index_or c.signs s 0;
  owner = λ n. slice_index_or c.owners n Nobody;
  asked = λ n. slice_index_or c.asked n false;
  queue = λ n. slice_index_or c.queues n [];
  guard = λ n. guard_number (slice_index_or c.guards n None);
  cancel = λ s. slice_index_or c.cancels s 0;
  heeded = λ s. slice_index_or c.heeded s 0;
}

-- each list has an item for each of 1 to 64 locks, or of 1 to 16 seats
pub record HasSizes (c : Snapshot) : Type 0 where
  pub some_lock : 1 ≤ length c.owners
  pub locks : length c.owners ≤ 64
  pub asked : length c.asked ≡ length c.owners
  pub queues : length c.queues ≡ length c.owners
  pub guards : length c.guards ≡ length c.owners
  pub some_seat : 1 ≤ length c.stamps
  pub seats : length c.stamps ≤ 16
  pub signs : length c.signs ≡ length c.stamps
  pub cancels : length c.cancels ≡ length c.stamps
  pub heeded : length c.heeded ≡ length c.stamps

-- what every core keeps: its state was reached from a start
pub record IsCore (c : Snapshot) : Type 0 where
  pub sizes : HasSizes c
  pub reached : Reached (state_of c)

module _ (c : State) where
  -- the seat is inside some guard
  abbrev pub InsideSome : ℕ → Type 0
  InsideSome s = (n : ℕ) × (c.guard n ≡ suc s)

  -- the seat stands in some wait list
  abbrev pub StandsSome : ℕ → Type 0
  StandsSome s = (n : ℕ) × Stands (c.queue n) s

  -- in Wait-Die the seat is inside a guard, and doesn't have to die there
  abbrev pub LivesSome : ℕ → Type 0
  LivesSome s = (n : ℕ) × MayLive c s n

-- the seat is the first waiter of the list
abbrev pub IsFirst : List Entry → ℕ → Type 0
IsFirst q s = (e : Entry) × (es : List Entry) × (q ≡ e ∷ es) × (e.seat ≡ s)
