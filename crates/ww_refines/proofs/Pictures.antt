-- A run, move by move, with what is known at each moment.
use Rattle.std.proofs.Common.{◌≡◌, ⊎_elim, ℕ, suc, ◌+◌, ◌-◌, ◌<◌, ◌≤◌, Bool, true, false, List, [], ◌∷◌, length, Option, Some, None, refl, sym, ap, ◌∙◌, subst, arith}
use mathlib.Core.Option.{some}
use lib.ListN.{get_elem?}
use Rattle.std.specs.Prelude.{slice_index}
use Rattle.atomic_table.specs.Table.{Act, stepped, keeps, takes, gives}
use Rattle.atomic_table.proofs.Lists.{set_here}
use Rattle.ww_word.specs.declared.owner.Owner.{Owner}
use Rattle.ww_word.specs.Owner.{with_waiters}
use Rattle.ww_word.specs.AnySeats.{IsValid, packed, most_for}
use Rattle.ww_queue.specs.declared.entry.Entry.{Entry}
use Rattle.ww_queue.specs.Queue.{left}
use Rattle.ww_model.specs.declared.event.Event.TheVariants.{Begin, Fast, FastGive, Guard, Join, Die, Unguard}
use Rattle.ww_model.specs.State.{State, start, put}
use Rattle.ww_model.specs.Event.{after}
use Rattle.ww_view.specs.declared.view.View.{View}
use Rattle.ww_view.specs.View.{IsAway, owns}
use Rattle.ww_view.specs.May.{MayFast, MayEnter, MayJoin, MayDie, MayExit, MayLeave}
use Rattle.ww_view.specs.Word.{rest_word}
use Rattle.ww_view.specs.Made.{fast_taken, fast_given, fast_missed, has_seen_word}
use Rattle.ww_invariant.specs.declared.cells.Cell.{Cell}
use Rattle.ww_invariant.specs.declared.cells.Cell.TheVariants.{Line}
use Rattle.ww_invariant.specs.declared.cells.Part.{Part}
use Rattle.ww_invariant.specs.declared.cells.Sight.{Sight}
use Rattle.ww_invariant.specs.declared.cells.Start.{Start}
use Rattle.ww_invariant.specs.Layout.{owner_at, guard_at, stamp_at, list_at}
use Rattle.ww_invariant.specs.Rule.{St, Sat, first_graph, wakes_owed}
use Rattle.ww_invariant.specs.Steps.{MayDraw, taker, drawing, knowing}
use Rattle.ww_invariant.specs.Guards.{entering, exiting}
use Rattle.ww_invariant.specs.Waiting.{joining, dying}
use Rattle.ww_invariant.proofs.Fits.{place_low}
use Rattle.ww_laws.specs.Scene.{Step, performs, leaves_to_sleep, finds_no_sign, finds_no_cancel, wakes, falls_asleep}
use Rattle.ww_refines.specs.Moment.{Moment, core, HasToWake, Acts}
use Rattle.ww_refines.specs.Tables.{NotesWhatStands, TableMoment, moment_of}
use Rattle.ww_refines.specs.Moves.{StepsThere, Follows}
use Rattle.ww_refines.specs.Runs.{IsOfRun}
use Rattle.ww_refines.specs.Runs as runs
use Rattle.ww_refines.specs.Plays as play
use Rattle.ww_refines.specs.Plays.{Plays, IsBy, Moved}
use Rattle.ww_refines.proofs.Playing.{told_there, plays_are_moves}

-- What is known of a moment at which nobody has risen yet: the table and the locks; how many tokens each seat gave each other
-- one; and who has a token, sleeps, and heeds cancels.
pub record Picture : Type 0 where
  pub table : St
  pub core : State
  pub rung : ℕ → ℕ → ℕ
  pub token : ℕ → Bool
  pub asleep : ℕ → Bool
  pub heeds : ℕ → Bool

-- a moment of a run that the picture is of
pub record At (key : Start) (p : Picture) : Type 0 where
  pub base : TableMoment key
  pub moment : Moment key
  pub is_moment : moment_of base ≡ moment
  pub run : IsOfRun moment
  pub is_table : base.table ≡ p.table
  pub is_core : moment.core ≡ p.core
  pub rung : moment.rung ≡ p.rung
  pub risen : moment.risen ≡ (λ _. 0)
  pub token : moment.token ≡ p.token
  pub asleep : moment.asleep ≡ p.asleep
  pub heeding : moment.heeds ≡ p.heeds

-- ... and the next one, by this step of seat d
pub record Next {key : Start} {p : Picture} (a : At key p) (d : ℕ) (x : Option Step) (p' : Picture) : Type 0 where
  pub at : At key p'
  pub there : StepsThere a.moment at.moment d
  pub by : IsBy d x
  pub notes : NotesWhatStands key a.moment.core (a.moment.part d).core (at.moment.part d).core
  pub follows : Follows a.moment at.moment x

-- ... or by this move beside the table, after which the moment is m
pub record Beside {key : Start} {p : Picture} (a : At key p) (x : Option Step) (m : Moment key) (p' : Picture) : Type 0 where
  pub at : At key p'
  pub is : at.moment ≡ m
  pub follows : Follows a.moment at.moment x

-- once seat d has given seat u a token for all that it owes that one; and once it sleeps
abbrev pub rung_by : {key : Start} → Moment key → ℕ → ℕ → Moment key
rung_by m d u = record m {
  rung = put m.rung d (put (m.rung d) u (m.rung d u + (wakes_owed (m.part d) u - m.rung d u)));
  token = put m.token u true;
}

abbrev pub asleep_by : {key : Start} → Moment key → ℕ → Moment key
asleep_by m d = record m { asleep = put m.asleep d true }

-- ---- what a move makes of the picture

abbrev pub nobody : ℕ → Bool
nobody _ = false

-- nothing was done yet, at this table
abbrev pub first_picture : Start → St → Picture
first_picture key table = record {
  table = table;
  core = start key.kind key.locks key.places;
  rung = λ _ _. 0;
  token = nobody;
  asleep = nobody;
  heeds = nobody;
}

-- what a step makes of the locks, and of who heeds cancels
abbrev core_after : Option Step → State → State
core_after (Some (performs e)) c = after c e
core_after (Some (leaves_to_sleep s n heeds)) c = after c (Unguard s n)
core_after _ c = c

abbrev heeds_after : Option Step → (ℕ → Bool) → ℕ → Bool
heeds_after (Some (leaves_to_sleep s n heeds)) was = put was s heeds
heeds_after _ was = was

abbrev pub played : Picture → St → Option Step → Picture
played p then x = record p { table = then; core = core_after x p.core; heeds = heeds_after x p.heeds }

-- once seat d, of which the table tells this, has given seat u a token
abbrev pub waking : Picture → ℕ → ℕ → Part → Picture
waking p d u part = record p {
  rung = put p.rung d (put (p.rung d) u (p.rung d u + (wakes_owed part u - p.rung d u)));
  token = put p.token u true;
}

abbrev pub parking : Picture → ℕ → Picture
parking p d = record p { asleep = put p.asleep d true }

-- ---- steps at the table

core_follows : {key : Start} (m m' : Moment key) (d : ℕ) (x : Option Step) → IsBy d x → Follows m m' x →
    core m' ≡ core_after x (core m)
core_follows m m' d (Some (performs e)) by f = f.makes.core
core_follows m m' d (Some (leaves_to_sleep s n heeds)) by f = f.makes.core
core_follows m m' d (Some (finds_no_sign s)) by f = f.looks.core
core_follows m m' d (Some (finds_no_cancel s)) by f = f.looks.core
core_follows m m' d None by f = ⊎_elim (λ still. still.stays.core)
    (λ more. ⊎_elim (λ noted. noted.looks.core) (λ reads. reads.core) more.1) f
core_follows m m' d _ by f = absurd by

heeds_follow : {key : Start} (m m' : Moment key) (d : ℕ) (x : Option Step) → IsBy d x → Follows m m' x →
    m'.heeds ≡ heeds_after x m.heeds
heeds_follow m m' d (Some (performs e)) by f = f.heeds
heeds_follow m m' d (Some (leaves_to_sleep s n heeds)) by f = f.noted
heeds_follow m m' d (Some (finds_no_sign s)) by f = f.looks.heeds
heeds_follow m m' d (Some (finds_no_cancel s)) by f = f.looks.heeds
heeds_follow m m' d None by f = ⊎_elim (λ still. still.stays.heeds)
    (λ more. ⊎_elim (λ noted. noted.looks.heeds) (λ reads. reads.heeds) more.1) f
heeds_follow m m' d _ by f = absurd by

-- seat d of the table, at this place of it
pub record IsSeated (key : Start) (table : St) (id d : ℕ) (v : Sight) : Type 0 where
  pub here : get_elem? table.views id ≡ some v
  pub seated : v.seated ≡ true
  pub who : v.part.core.who ≡ d
  pub low : d < key.seats

pub seated : {key : Start} {table : St} {id d : ℕ} {v : Sight} → get_elem? table.views id ≡ some v → v.seated ≡ true →
    v.part.core.who ≡ d → d < key.seats → IsSeated key table id d v
seated here is_seated who low = record { here = here; seated = is_seated; who = who; low = low }

-- ... which doesn't sleep, and has left no guard as a waiter
pub record IsActing (key : Start) (p : Picture) (id d : ℕ) (v : Sight) : Type 0 where
  pub seated : IsSeated key p.table id d v
  pub awake : p.asleep d ≡ false
  pub rested : v.part.core.naps ≡ 0

pub acting : {key : Start} {p : Picture} {id d : ℕ} {v : Sight} → get_elem? p.table.views id ≡ some v → v.seated ≡ true →
    v.part.core.who ≡ d → d < key.seats → p.asleep d ≡ false → v.part.core.naps ≡ 0 → IsActing key p id d v
acting here is_seated who low awake rested = record {
  seated = seated here is_seated who low;
  awake = awake;
  rested = rested;
}

-- a play in this table, by which the table is `then`
pub record IsPlay {key : Start} (m : TableMoment key) (id : ℕ) (me : Sat) (x : Option Step) (then : St) : Type 0 where
  pub found : St
  pub is : found ≡ then
  pub plays : Plays m id me x found

module _ {key : Start} {p : Picture} (a : At key p) where
  -- what a word is
  pub word_there : (i k : ℕ) → slice_index p.table.words i ≡ k → slice_index a.base.table.words i ≡ k
  word_there i k is = ap (λ (t : St). slice_index t.words i) a.is_table ∙ is

  here_there : (id : ℕ) (v : Sight) → get_elem? p.table.views id ≡ some v → get_elem? a.base.table.views id ≡ some v
  here_there id v here = ap (λ (t : St). get_elem? t.views id) a.is_table ∙ here

  pub part_is : (id d : ℕ) (v : Sight) → IsSeated key p.table id d v → v.part ≡ a.moment.part d
  part_is id d v i = told_there a.base id v (here_there id v i.here) i.seated
      (subst (λ t. t < key.seats) (sym i.who) i.low) ∙ ap a.base.part i.who ∙ ap (λ (m : Moment key). m.part d) a.is_moment

  acts_there : (id d : ℕ) (v : Sight) → IsActing key p id d v → Acts a.moment d
  acts_there id d v i = record {
    seat = i.seated.low;
    awake = ap (λ (f : ℕ → Bool). f d) a.asleep ∙ i.awake;
    risen = ap (λ (f : ℕ → ℕ). f d) a.risen ∙ sym i.rested ∙ ap (λ (q : Part). q.core.naps) (part_is id d v i.seated);
  }

  pub plays_then : (id d : ℕ) (me : Sat) → IsActing key p id d me.0 → (x : Option Step) (then : St) →
      IsPlay a.base id me x then → Next a d x (played p then x)
  plays_then id d me i x then play =
      let moved : Moved a.base d x play.found = subst (λ t. Moved a.base t x play.found) i.seated.who
      (plays_are_moves key a.base id me x play.found (here_there id me.0 i.seated.here) i.seated.seated
      (subst (λ t. Acts (moment_of a.base) t) (sym i.seated.who)
      (subst (λ (m : Moment key). Acts m d) (sym a.is_moment) (acts_there id d me.0 i))) play.plays) in
      let then = moment_of moved.moment in
      let there : StepsThere a.moment then d = subst (λ (m : Moment key). StepsThere m then d) a.is_moment moved.there in
      let follows : Follows a.moment then x = subst (λ (m : Moment key). Follows m then x) a.is_moment moved.follows in
      let stay = there.stay in record {
        at = record {
          base = moved.moment;
          moment = then;
          is_moment = refl;
          run = runs.goes_on a.moment then x a.run follows;
          is_table = moved.table ∙ play.is;
          is_core = core_follows a.moment then d x moved.by follows ∙ ap (core_after x) a.is_core;
          rung = stay.rung ∙ a.rung;
          risen = stay.risen ∙ a.risen;
          token = stay.token ∙ a.token;
          asleep = stay.asleep ∙ a.asleep;
          heeding = heeds_follow a.moment then d x moved.by follows ∙ ap (heeds_after x) a.heeding;
        };
        there = there;
        by = moved.by;
        notes = subst (λ (m : Moment key). NotesWhatStands key m.core (m.part d).core (then.part d).core) a.is_moment moved.notes;
        follows = follows;
      }

  -- ---- beside the table

  -- outside the guards it gives another seat a token for all that it owes that one
  pub wakes_then : (id d u : ℕ) (v : Sight) → IsSeated key p.table id d v → p.asleep d ≡ false → v.part.core.inside ≡ 0 →
      p.rung d u ≤ wakes_owed v.part u → Beside a (Some (wakes d u)) (rung_by a.moment d u) (waking p d u v.part)
  wakes_then id d u v i awake outside even = let m = a.moment in let part = part_is id d v i in
      let follows : Follows m (rung_by m d u) (Some (wakes d u)) = record {
        stays = record { core = refl; parts = λ t low. refl; heeds = refl };
        awake = ap (λ (f : ℕ → Bool). f d) a.asleep ∙ awake;
        outside = ap (λ (q : Part). q.core.inside) (sym part) ∙ outside;
        waker = i.low;
        count = wakes_owed (m.part d) u - m.rung d u;
        most = let owed = ap (λ (q : Part). wakes_owed q u) part in
            let given = ap (λ (f : ℕ → ℕ → ℕ). f d u) a.rung in omega arith;
        rung = refl;
        token = refl;
        risen = refl;
        asleep = refl;
      } in record {
        at = record {
          base = let b = a.base in record b {
            rung = put b.rung d (put (b.rung d) u (b.rung d u + (wakes_owed (b.part d) u - b.rung d u)));
            token = put b.token u true;
          };
          moment = rung_by m d u;
          is_moment = ap (λ (n : Moment key). rung_by n d u) a.is_moment;
          run = runs.goes_on m (rung_by m d u) (Some (wakes d u)) a.run follows;
          is_table = a.is_table;
          is_core = a.is_core;
          rung = λ j. put (a.rung j) d (put (a.rung j d) u (a.rung j d u + (wakes_owed (sym part j) u - a.rung j d u)));
          risen = a.risen;
          token = ap (λ (f : ℕ → Bool). put f u true) a.token;
          asleep = a.asleep;
          heeding = a.heeding;
        };
        is = refl;
        follows = follows;
      }

  -- it falls asleep, once it has left a guard as a waiter, and has woken whom it has to wake
  pub parks_then : (id d : ℕ) (v : Sight) → IsSeated key p.table id d v → p.asleep d ≡ false → v.part.core.naps ≡ 1 →
      ((u : ℕ) → ¬ HasToWake a.moment d u) → Beside a (Some (falls_asleep d)) (asleep_by a.moment d) (parking p d)
  parks_then id d v i awake naps paid = let m = a.moment in let part = part_is id d v i in
      let follows : Follows m (asleep_by m d) (Some (falls_asleep d)) = record {
        stays = record { core = refl; parts = λ t low. refl; heeds = refl };
        ready = record {
          seat = i.low;
          is_asleep = ap (λ (f : ℕ → Bool). f d) a.asleep ∙ awake;
          due = ap (λ (f : ℕ → ℕ). f d + 1) a.risen ∙ sym naps ∙ ap (λ (q : Part). q.core.naps) part;
        };
        paid = paid;
        asleep = refl;
        rung = refl;
        risen = refl;
        token = refl;
      } in record {
        at = record {
          base = let b = a.base in record b { asleep = put b.asleep d true };
          moment = asleep_by m d;
          is_moment = ap (λ (n : Moment key). asleep_by n d) a.is_moment;
          run = runs.goes_on m (asleep_by m d) (Some (falls_asleep d)) a.run follows;
          is_table = a.is_table;
          is_core = a.is_core;
          rung = a.rung;
          risen = a.risen;
          token = a.token;
          asleep = ap (λ (f : ℕ → Bool). put f d true) a.asleep;
          heeding = a.heeding;
        };
        is = refl;
        follows = follows;
      }

-- ---- steps that several runs make

-- the word of lock n as it is
abbrev word_of_lock : Start → Picture → ℕ → ℕ
word_of_lock key p n = slice_index p.table.words (owner_at key.locks n)

-- the wait list that a seat inside has out
abbrev pub list_out : ℕ → Sight → List (ℕ × Cell)
list_out n v = (list_at n, Line v.part.core.list) ∷ []

abbrev pub begins_as : Picture → (id : ℕ) → Sight → Picture
begins_as p id v = let k = slice_index p.table.words stamp_at + 1 in
    played p (stepped p.table stamp_at k id [] (drawing v k) keeps) (Some (performs (Begin v.part.core.who)))

abbrev pub locks_as : Start → Picture → (id n : ℕ) → Sight → Picture
locks_as key p id n v = let w = knowing v (fast_taken v.part.core n) in
    played p (stepped p.table (owner_at key.locks n) (packed (taker v.part.core)) id [] w keeps)
    (Some (performs (Fast v.part.core.who n)))

-- it releases the lock without its guard
abbrev pub gives_as : Start → Picture → (id n : ℕ) → Sight → Picture
gives_as key p id n v =
    played p (stepped p.table (owner_at key.locks n) 0 id [] (knowing v (fast_given v.part.core n)) keeps)
    (Some (performs (FastGive v.part.core.who n)))

-- it reads the word of lock n from outside, and knows this then
abbrev reads_as : Start → Picture → (id n : ℕ) → Sight → View → Picture
reads_as key p id n v after =
    played p (stepped p.table (owner_at key.locks n) (word_of_lock key p n) id [] (knowing v after) keeps) None

abbrev pub misses_as : Start → Picture → (id n : ℕ) → Sight → Picture
misses_as key p id n v = reads_as key p id n v (fast_missed v.part.core)

-- ... or names that word
abbrev pub sees_as : Start → Picture → (id n : ℕ) → Sight → Picture
sees_as key p id n v = reads_as key p id n v (has_seen_word v.part.core n (word_of_lock key p n))

abbrev pub enters_as : Start → Picture → (id n : ℕ) → Sight → Picture
enters_as key p id n v = let q = p.core.queue n in
    played p (stepped p.table (guard_at key.locks n) (suc v.part.core.who) id [] (entering v n q) (takes (list_at n) (Line q)))
    (Some (performs (Guard v.part.core.who n)))

abbrev pub joins_as : Start → Picture → (id n : ℕ) → Owner → Sight → Picture
joins_as key p id n o v =
    played p (stepped p.table (owner_at key.locks n) (packed (with_waiters o)) id (list_out n v) (joining v n o) keeps)
    (Some (performs (Join v.part.core.who n)))

abbrev pub dies_as : Start → Picture → (id n : ℕ) → Owner → Sight → Picture
dies_as key p id n o v = let word = rest_word (left v.part.core.list v.part.core.who) o in
    played p (stepped p.table (owner_at key.locks n) (packed word) id (list_out n v) (dying v o) keeps)
    (Some (performs (Die v.part.core.who n)))

-- it comes out of the guard by this step
abbrev pub exits_as : Start → Picture → (id n : ℕ) → Sight → Step → Picture
exits_as key p id n v step =
    played p (stepped p.table (guard_at key.locks n) 0 id (list_out n v) (exiting v) gives) (Some step)

module _ {key : Start} {p : Picture} (a : At key p) (id d : ℕ) (v : Sight) (acts : IsActing key p id d v) where
  pub begins_then : MayDraw v.part → slice_index p.table.words stamp_at < most_for key.places →
      Next a d (Some (performs (Begin v.part.core.who))) (begins_as p id v)
  begins_then draw low = plays_then a id d (v, []) acts (Some (performs (Begin v.part.core.who))) _ (record {
    found = _;
    is = λ j. let k = slice_index (a.is_table j).words stamp_at + 1 in
        stepped (a.is_table j) stamp_at k id [] (drawing v k) keeps;
    plays = play.draws draw (subst (λ (w : ℕ). w < most_for key.places) (sym (word_there a stamp_at _ refl)) low);
  })

  pub locks_then : (n : ℕ) → n < key.locks → length (first_graph key) ≤ n → MayFast v.part.core → word_of_lock key p n ≡ 0 →
      Next a d (Some (performs (Fast v.part.core.who n))) (locks_as key p id n v)
  locks_then n low bare fast free = plays_then a id d (v, []) acts (Some (performs (Fast v.part.core.who n))) _ (record {
    found = _;
    is = λ j. let w = knowing v (fast_taken v.part.core n) in
        stepped (a.is_table j) (owner_at key.locks n) (packed (taker v.part.core)) id [] w keeps;
    plays = play.takes_bare n bare low fast (word_there a (owner_at key.locks n) 0 free);
  })

  pub gives_then : (n : ℕ) → n < key.locks → length (first_graph key) ≤ n → IsAway v.part.core → owns v.part.core n ≡ true →
      word_of_lock key p n ≡ packed (taker v.part.core) →
      Next a d (Some (performs (FastGive v.part.core.who n))) (gives_as key p id n v)
  gives_then n low bare away own plain = plays_then a id d (v, []) acts (Some (performs (FastGive v.part.core.who n))) _ (record {
    found = _;
    is = λ j. stepped (a.is_table j) (owner_at key.locks n) 0 id [] (knowing v (fast_given v.part.core n)) keeps;
    plays = play.gives_bare n bare low away own (word_there a (owner_at key.locks n) _ plain);
  })

  reads_then : (n : ℕ) (after : View) → play.IsFound a.base id (v, []) (owner_at key.locks n) after →
      Next a d None (reads_as key p id n v after)
  reads_then n after found = let i = owner_at key.locks n in plays_then a id d (v, []) acts None _ (record {
    found = _;
    is = λ j. stepped (a.is_table j) i (slice_index (a.is_table j).words i) id [] (knowing v after) keeps;
    plays = play.finds i after found;
  })

  pub misses_then : (n : ℕ) → Next a d None (misses_as key p id n v)
  misses_then n = reads_then n (fast_missed v.part.core) (play.misses (owner_at key.locks n))

  pub sees_then : (n : ℕ) → n < key.locks → Next a d None (sees_as key p id n v)
  sees_then n low = let i = owner_at key.locks n in reads_then n (has_seen_word v.part.core n (word_of_lock key p n))
      (subst (λ (k : ℕ). play.IsFound a.base id (v, []) i (has_seen_word v.part.core n k)) (word_there a i _ refl) (play.sees n low))

  pub enters_then : (n : ℕ) → n < key.locks → MayEnter v.part.core n → slice_index p.table.words (guard_at key.locks n) ≡ 0 →
      Next a d (Some (performs (Guard v.part.core.who n))) (enters_as key p id n v)
  enters_then n low enter free = plays_then a id d (v, []) acts (Some (performs (Guard v.part.core.who n))) _ (record {
    found = _;
    is = λ j. let q = ((ap (λ (m : Moment key). m.core) a.is_moment ∙ a.is_core) j).queue n in
        stepped (a.is_table j) (guard_at key.locks n) (suc v.part.core.who) id [] (entering v n q) (takes (list_at n) (Line q));
    plays = play.enters n low enter (word_there a (guard_at key.locks n) 0 free);
  })

  pub joins_then : (n : ℕ) (o : Owner) → MayJoin v.part.core n o → IsValid o → word_of_lock key p n ≡ packed o →
      Next a d (Some (performs (Join v.part.core.who n))) (joins_as key p id n o v)
  joins_then n o join valid is = plays_then a id d (v, list_out n v) acts (Some (performs (Join v.part.core.who n))) _ (record {
    found = _;
    is = λ j. stepped (a.is_table j) (owner_at key.locks n) (packed (with_waiters o)) id (list_out n v) (joining v n o) keeps;
    plays = play.joins n o join valid (word_there a (owner_at key.locks n) (packed o) is);
  })

  pub dies_then : (n k : ℕ) (o : Owner) → MayDie v.part.core n o k → IsValid o → word_of_lock key p n ≡ packed o →
      Next a d (Some (performs (Die v.part.core.who n))) (dies_as key p id n o v)
  dies_then n k o die valid is = plays_then a id d (v, list_out n v) acts (Some (performs (Die v.part.core.who n))) _ (record {
    found = _;
    is = λ j. let word = rest_word (left v.part.core.list v.part.core.who) o in
        stepped (a.is_table j) (owner_at key.locks n) (packed word) id (list_out n v) (dying v o) keeps;
    plays = play.dies n o k die valid (word_there a (owner_at key.locks n) (packed o) is);
  })

  exits_by : (n : ℕ) (step : Step) → Plays a.base id (v, list_out n v) (Some step)
      (stepped a.base.table (guard_at key.locks n) 0 id (list_out n v) (exiting v) gives) →
      Next a d (Some step) (exits_as key p id n v step)
  exits_by n step plays = plays_then a id d (v, list_out n v) acts (Some step) _ (record {
    found = _;
    is = λ j. stepped (a.is_table j) (guard_at key.locks n) 0 id (list_out n v) (exiting v) gives;
    plays = plays;
  })

  pub exits_then : (n : ℕ) → MayExit v.part.core n → v.part.core.waits ≡ 0 →
      Next a d (Some (performs (Unguard v.part.core.who n))) (exits_as key p id n v (performs (Unguard v.part.core.who n)))
  exits_then n exit waits = exits_by n (performs (Unguard v.part.core.who n)) (play.exits n exit waits refl)

  -- ... as a waiter, whose call heeds cancels or doesn't
  pub sleeps_then : (n : ℕ) (heeds : Bool) → MayLeave v.part.core n → v.part.core.waits ≡ suc n →
      (heeds ≡ true → v.part.core.uncancelled ≡ true) → Next a d (Some (leaves_to_sleep v.part.core.who n heeds))
      (exits_as key p id n v (leaves_to_sleep v.part.core.who n heeds))
  sleeps_then n heeds leave waits none = exits_by n (leaves_to_sleep v.part.core.who n heeds)
      (play.exits_to_sleep n heeds leave waits none refl)

-- ---- a seat comes to wait: it misses the lock, goes inside its guard, and joins its list

-- what it knows after each of these, where the list was q
abbrev pub missed : Sight → Sight
missed v = knowing v (fast_missed v.part.core)

abbrev pub gone_in : ℕ → List Entry → Sight → Sight
gone_in n q v = entering (missed v) n q

abbrev gone_in_as : Start → Picture → (id n : ℕ) → Sight → Picture
gone_in_as key p id n v = enters_as key (misses_as key p id n v) id n (missed v)

abbrev pub waits_as : Start → Picture → (id n : ℕ) → Owner → Sight → Picture
waits_as key p id n o v = joins_as key (gone_in_as key p id n v) id n o (gone_in n (p.core.queue n) v)

pub record ComesToWait {key : Start} {p : Picture} (a : At key p) (id d n : ℕ) (o : Owner) (v : Sight) : Type 0 where
  pub misses : Next a d None (misses_as key p id n v)
  pub missing : IsSeated key (misses_as key p id n v).table id d (missed v)
  pub enters : Next misses.at d (Some (performs (Guard v.part.core.who n))) (gone_in_as key p id n v)
  pub joins : Next enters.at d (Some (performs (Join v.part.core.who n))) (waits_as key p id n o v)

module _ {key : Start} {p : Picture} {id d : ℕ} {v : Sight} (acts : IsActing key p id d v) where
  -- a seat acts on after a step that is no exit
  acts_on : (i x : ℕ) (w : Sight) (act : Act Cell) (step : Option Step) → w.seated ≡ v.seated →
      w.part.core.who ≡ v.part.core.who → w.part.core.naps ≡ v.part.core.naps →
      IsActing key (played p (stepped p.table i x id [] w act) step) id d w
  acts_on i x w act step same who naps = let was = acts.seated in record {
    seated = seated (set_here p.table.views id w (place_low p.table.views id v was.here)) (same ∙ was.seated) (who ∙ was.who) was.low;
    awake = acts.awake;
    rested = naps ∙ acts.rested;
  }

module _ {key : Start} {p : Picture} (a : At key p) (id d : ℕ) (v : Sight) (acts : IsActing key p id d v) where
  pub comes_to_wait : (n : ℕ) (o : Owner) → n < key.locks → MayEnter (missed v).part.core n →
      slice_index (misses_as key p id n v).table.words (guard_at key.locks n) ≡ 0 →
      MayJoin (gone_in n (p.core.queue n) v).part.core n o → IsValid o → word_of_lock key (gone_in_as key p id n v) n ≡ packed o →
      ComesToWait a id d n o v
  comes_to_wait n o low enter free join valid word = let p_1 = misses_as key p id n v in
      let i = owner_at key.locks n in let q = p.core.queue n in
      let acts_1 : IsActing key p_1 id d (missed v) = acts_on acts i (word_of_lock key p n) (missed v) keeps None refl refl refl in
      let acts_2 : IsActing key (gone_in_as key p id n v) id d (gone_in n q v) = acts_on acts_1 (guard_at key.locks n)
      (suc v.part.core.who) (gone_in n q v) (takes (list_at n) (Line q)) (Some (performs (Guard v.part.core.who n))) refl refl refl in
      let m : Next a d None p_1 = misses_then a id d v acts n in
      let e : Next m.at d (Some (performs (Guard v.part.core.who n))) (gone_in_as key p id n v) =
      enters_then m.at id d (missed v) acts_1 n low enter free in record {
        misses = m;
        missing = acts_1.seated;
        enters = e;
        joins = joins_then e.at id d (gone_in n q v) acts_2 n o join valid word;
      }
