-- What each step makes of the view.
use Rattle.std.specs.Prelude.{ℕ, zero, suc, ◌+◌, ◌==◌, not, if◌then◌else◌, Bool, true, false, List, [], ◌∷◌, ◌++◌, filter, Option, Some, None, slice_get, slice_set, length}
use Rattle.std.specs.Option.{option_map, unwrap_or}
use Rattle.ww_word.specs.declared.owner.Owner.{Owner}
use Rattle.ww_word.specs.Owner.{with_waiters}
use Rattle.ww_queue.specs.declared.kind.Kind.{Kind}
use Rattle.ww_queue.specs.declared.kind.Kind.TheVariants.{WoundWait, WaitDie}
use Rattle.ww_queue.specs.declared.entry.Entry.{Entry}
use Rattle.ww_queue.specs.Queue.{joined, left}
use Rattle.ww_queue.specs.Rules.{must_die}
use Rattle.ww_model.specs.declared.event.Event.{Event}
use Rattle.ww_model.specs.declared.event.Event.TheVariants.{Begin, Clear, Fast, FastGive, Guard, Join, Sign, Take, Ask, Give, Die, Unguard, Commit, End, Cancel, Heed, Leave}
use Rattle.ww_model.specs.State.{State, any_below, word_of}
use Rattle.ww_view.specs.declared.view.Met.{Met}
use Rattle.ww_view.specs.declared.view.View.{View}
use Rattle.ww_view.specs.Word.{taken_word, asked_word, given_word, rest_word}
use Rattle.ww_view.specs.View.{owns}

-- the numbers but this one, in their order
abbrev pub without : ℕ → List ℕ → List ℕ
without n ns = filter (λ m. not (m == n)) ns

-- ---- what is counted of waking and sleeping

-- it is one of these
abbrev pub is_one_of : ℕ → List ℕ → Bool
is_one_of u [] = false
is_one_of u (v ∷ vs) = if v == u then true else is_one_of u vs

-- Seat u was condemned by the own sign, after these inside the same guard: it has to be woken, unless it is the seat itself
-- or one of them.
abbrev pub with_condemned : ℕ → List ℕ → ℕ → List ℕ → List ℕ
with_condemned who condemned u debts = if u == who then debts else (if is_one_of u condemned then debts else u ∷ debts)

-- the first waiter has to be woken, if somebody waits
abbrev pub with_heir : Option ℕ → List ℕ → List ℕ
with_heir None debts = debts
with_heir (Some u) debts = u ∷ debts

-- the seat left a guard: as a waiter, or not
abbrev pub naps_after : ℕ → ℕ → ℕ
naps_after zero naps = naps
naps_after (suc n) naps = naps + 1

-- ... and had found no cancel there, or hadn't
abbrev pub deaf_after : ℕ → Bool → ℕ → ℕ
deaf_after zero uncancelled deaf = deaf
deaf_after (suc n) true deaf = deaf
deaf_after (suc n) false deaf = deaf + 1

-- ---- the own sign, as far as it is known

-- inside a guard: in Wait-Die who neither waited nor was inside had none
abbrev pub once_inside : Kind → ℕ → Option ℕ → Option ℕ
once_inside WaitDie zero sign = Some 0
once_inside WaitDie (suc m) sign = sign
once_inside WoundWait waits sign = sign

-- once a lock was taken inside a guard: in Wound-Wait others may sign its owner
abbrev pub once_taken : Kind → Option ℕ → Option ℕ
once_taken WoundWait sign = None
once_taken WaitDie sign = sign

-- once outside again: in Wait-Die others may sign a waiter there
abbrev pub once_outside : Kind → Option ℕ → Option ℕ
once_outside WoundWait sign = sign
once_outside WaitDie sign = None

-- ---- outside

abbrev pub begun : View → ℕ → View
begun v k = record v { stamp = k; sign = Some 0; fresh = false; met = None }

abbrev pub ended : View → View
ended v = record v { stamp = 0; sign = Some 0; fresh = false; met = None }

abbrev pub fast_taken : View → ℕ → View
fast_taken v n = record v {
  owned = slice_set v.owned n true;
  sign = None;
  fresh = false;
  tries = v.tries + 1;
  glances = 0;
  takes = v.takes + 1;
  met = None;
  locks = v.locks ++ n ∷ [];
}

-- the word wasn't 0
abbrev pub fast_missed : View → View
fast_missed v = record v { fresh = false; tries = v.tries + 1; glances = 0 }

abbrev pub fast_given : View → ℕ → View
fast_given v n = record v { owned = slice_set v.owned n false; fresh = false; met = None; locks = without n v.locks }

-- the word told more than its owner, so the lock stays its
abbrev pub fast_kept : View → View
fast_kept v = record v { fresh = false; kept = v.kept + 1 }

-- it read an owner word, from which it learns nothing that lasts
abbrev pub glanced : View → View
glanced v = record v { glances = v.glances + 1; all_glances = v.all_glances + 1 }

-- it looked whose lock n is, and found this number in its owner word; others may change that word at any time
abbrev pub has_seen_word : View → ℕ → ℕ → View
has_seen_word v n word = record v { words_seen = (n, word) ∷ v.words_seen }

-- it would set the cancel of a seat, and one was pending
abbrev pub found_pending : View → View
found_pending v = record v { pendings = v.pendings + 1 }

-- ---- into the guard and out of it

-- another seat was inside
abbrev pub shut_out : View → View
shut_out v = record v { fresh = false; attempts = v.attempts + 1 }

-- with this wait list
abbrev pub entered : View → ℕ → List Entry → View
entered v n q = record v {
  inside = suc n;
  list = q;
  seen = None;
  signed = [];
  condemned = [];
  sign = once_inside v.kind v.waits v.sign;
  later = not (v.waits == 0);
  acted = not (v.waits == 0);
  fresh = false;
  uncancelled = false;
  attempts = v.attempts + 1;
}

abbrev pub exited : View → View
exited v = record v {
  inside = 0;
  list = [];
  seen = None;
  signed = [];
  sign = once_outside v.kind v.sign;
  later = false;
  acted = false;
  fresh = false;
  naps = naps_after v.waits v.naps;
  deaf = deaf_after v.waits v.uncancelled v.deaf;
}

-- ---- inside

-- the seat as a waiter
abbrev pub entry_of_view : View → Entry
entry_of_view v = record { seat = v.who; stamp = v.stamp; holds = any_below (length v.owned) (owns v) }

-- it joined the list; o was the word before
abbrev pub queued : View → ℕ → Owner → View
queued v n o = record v {
  list = joined v.list (entry_of_view v);
  waits = suc n;
  seen = Some (with_waiters o);
  signed = [];
  acted = true;
  fresh = false;
}

abbrev pub taken : View → ℕ → View
taken v n = let q : List Entry = left v.list v.who in record v {
  owned = slice_set v.owned n true;
  list = q;
  waits = 0;
  seen = Some (taken_word v.who v.stamp q);
  signed = [];
  sign = once_taken v.kind v.sign;
  acted = true;
  fresh = false;
  takes = v.takes + 1;
  met = None;
  locks = v.locks ++ n ∷ [];
}

abbrev pub has_asked : View → Owner → View
has_asked v o = record v { seen = Some (asked_word o); fresh = false }

-- whether HANDOFF stood in the word before; the seat that is to look now is the first waiter
abbrev pub given : View → ℕ → Bool → View
given v n asked = record v {
  owned = slice_set v.owned n false;
  seen = Some (given_word asked v.list);
  signed = [];
  acted = true;
  fresh = false;
  met = None;
  heir = option_map (λ (e : Entry). e.seat) (slice_get v.list 0);
  debts = with_heir (option_map (λ (e : Entry). e.seat) (slice_get v.list 0)) v.debts;
  locks = without n v.locks;
}

-- what it meets at the lock that it is inside of, if it has to die there for a stamp
abbrev pub met_at : ℕ → Option ℕ → Owner → List Entry → Option Met
met_at zero stamp o q = None
met_at (suc n) stamp o q = option_map (λ k. record { lock = n; stamp = k; owner = o; list = q }) stamp

-- it left the list; o was the word before
abbrev pub departed : View → Owner → View
departed v o = let q : List Entry = left v.list v.who in record v {
  list = q;
  waits = 0;
  seen = Some (rest_word q o);
  signed = [];
  fresh = false;
}

-- ... since it had to die
abbrev pub died : View → Owner → View
died v o = record (departed v o) {
  deaths = v.deaths + 1;
  met = met_at v.inside (must_die v.kind o v.list v.who (unwrap_or v.sign 0)) o v.list;
}

-- it heeded a cancel, of the seat before this number
abbrev pub has_heeded : View → ℕ → View
has_heeded v mark = record v { heeded = mark; fresh = false }

-- the lock that it is inside of, and the seat whose cancel it had heeded, before those of earlier times
abbrev pub stopped_at : ℕ → ℕ → List (ℕ × ℕ) → List (ℕ × ℕ)
stopped_at (suc n) (suc s) before = (n, s) ∷ before
stopped_at _ _ before = before

-- it left the list for the cancel that it had heeded; o was the word before
abbrev pub interrupted : View → Owner → View
interrupted v o = record (departed v o) {
  heeded = 0;
  met = None;
  stopped = stopped_at v.inside v.heeded v.stopped;
}

-- it read the word
abbrev pub has_looked : View → Owner → View
has_looked v o = record v { seen = Some o; fresh = false; attempts = v.attempts + 1 }

-- that seat is signed
abbrev pub noted : View → ℕ → View
noted v u = record v { signed = u ∷ v.signed; fresh = false }

-- ... by its own sign
abbrev pub has_condemned : View → ℕ → View
has_condemned v u = record (noted v u) { condemned = u ∷ v.condemned; debts = with_condemned v.who v.condemned u v.debts }

-- ---- the own sign

-- it is k, and stays so
abbrev pub has_read : View → ℕ → View
has_read v k = record v { sign = Some k; fresh = k == 0 }

-- it was 0, and others may change that at any time
abbrev pub found_none : View → View
found_none v = record v { sign = None; fresh = true }

abbrev pub cleared : View → View
cleared v = record v { sign = Some 0; fresh = false }

-- ---- the own cancel

-- none was pending, and others may change that at any time
abbrev pub found_uncancelled : View → View
found_uncancelled v = record v { fresh = false; uncancelled = true }

-- ---- what tells nothing

-- a step that told the seat nothing that lasts
abbrev pub stepped : View → View
stepped v = record v { fresh = false }

-- ---- all events

-- what the seat's event makes of its view
abbrev pub view_after : State → Event → View → View
view_after c (Begin s) v = begun v (c.drawn + 1)
view_after c (Clear s) v = cleared v
view_after c (Fast s n) v = fast_taken v n
view_after c (FastGive s n) v = fast_given v n
view_after c (Guard s n) v = entered v n (c.queue n)
view_after c (Join s n) v = queued v n (word_of c n)
view_after c (Sign s u) v = has_condemned v u
view_after c (Take s n) v = taken v n
view_after c (Ask s n) v = has_asked v (word_of c n)
view_after c (Give s n) v = given v n (c.asked n)
view_after c (Die s n) v = died v (word_of c n)
view_after c (Unguard s n) v = exited v
view_after c (Commit s) v = v
view_after c (End s) v = ended v
view_after c (Cancel s u) v = v
view_after c (Heed s n) v = has_heeded v (c.cancel s)
view_after c (Leave s n) v = interrupted v (word_of c n)
