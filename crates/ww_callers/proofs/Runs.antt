-- The laws of drives, by those of runs.
use Rattle.std.proofs.Common.{◌≡◌, ⊎_elim, inl, inr, ℕ, zero, suc, Bool, true, false, true≢false, Option, Some, refl, sym, ap, ◌∙◌, subst, arith}
use Rattle.std.proofs.lemmas.Bool.{cases_Bool}
use Rattle.ww_model.specs.declared.event.Event.{Event}
use Rattle.ww_model.specs.declared.event.Event.TheVariants.{Die, Leave}
use Rattle.ww_model.specs.Event.{actor}
use Rattle.ww_view.specs.declared.view.View.{View}
use Rattle.ww_view.specs.View.{first_view}
use Rattle.ww_invariant.specs.declared.cells.Part.{Part}
use Rattle.ww_invariant.specs.declared.cells.Start.{Start}
use Rattle.ww_invariant.specs.Rule.{first_part, times}
use Rattle.ww_laws.specs.Scene.{Step, performs}
use Rattle.ww_refines.specs.Moment.{HasToWake}
use Rattle.ww_refines.specs.Tables.{TableMoment, moment_of}
use Rattle.ww_refines.specs.Plays.{IsBy}
use Rattle.ww_refines.specs.Runs as runs
use Rattle.ww_refines.specs.Runs.{IsOfRun}
use Rattle.ww_refines.specs.Endless.{IsEndless, WakesArriveThere}
use Rattle.ww_refines.specs.Deadlocks.{IsScheduledThere}
use Rattle.ww_refines.proofs.Seating.{known_by}
use Rattle.ww_refines.proofs.Wholes.{no_wake_is_lost_in_runs}
use Rattle.ww_refines.proofs.Standstill.{no_standstill_in_runs}
use Rattle.ww_refines.proofs.Ends.{nobody_sleeps_in_vain_in_runs}
use Rattle.ww_refines.proofs.Unlocking.{no_deadlock_lasts_in_runs, waits_end_in_runs}
use Rattle.ww_steps.specs.Opened.{fresh}
use Rattle.ww_callers.specs.Stages.{Stage, IsFirstStage}
use Rattle.ww_callers.specs.Deeds.{Deed, calls, steps, reads, answers, names, wakes, parks, rises, halts, Accounts, DoesBy, IsDrivenBy, Does, IsDriven}
use Rattle.ww_callers.specs.Deeds as drive
use Rattle.ww_callers.specs.Drives.{OpenedWorldsBegin, thread_move, DrivesAreRuns, IsDueBy, NoWakeIsLostInDrives, NoStandstillInDrives, IsEndlessDriveBy, IsEndlessDrive, DrivesKeepAccount, WakesArriveByDesks, NobodySleepsInVainInDrives, IsServed, NoDeadlockLastsInDrives, DrivesRunOn, WaitsEndInDrives}
use Rattle.ww_callers.proofs.Answered.{each_accounts}
use Rattle.ww_callers.proofs.Kept.{OfDesk, of_desk, IsKept, is_awake}
use Rattle.ww_callers.proofs.Keeping.{IsInOrder, acts, follows, keep, owes_there}

-- ---- the first stage

first_keeps : {key : Start} (g : Stage key) → IsFirstStage g → IsInOrder g
first_keeps {key = key} g f d low = let h = f.desks d low in let m = g.moment in
    let first : OfDesk = record {
      desk = g.desk d;
      calling = false;
      told = false;
      asleep = false;
      named = λ _. false;
      rung = λ _. 0;
      risen = 0;
      part = m.part d;
    } in
    let calling = f.calling d in let told = f.to_sleep d in let named = f.named d in
    let asleep = ap (λ (a : ℕ → Bool). a d) f.first.asleep in
    let rung = ap (λ (r : ℕ → ℕ → ℕ). r d) f.first.rung in let risen = ap (λ (r : ℕ → ℕ). r d) f.first.risen in
    let same : of_desk g d ≡ first = cc in subst (IsKept d) (sym same) (record {
      number = h.caller;
      outside = λ _. ap (λ (v : View). v.inside) h.view;
      current = record {
        view = λ _. h.view ∙ ap (λ (places : ℕ). first_view key.kind key.locks places d) (sym f.places)
            ∙ ap (λ (p : Part). p.core) (sym (f.first.parts d low));
        cancelled = λ _. h.cancelled ∙ ap (λ (p : Part). p.counts.cancelled) (sym (f.first.parts d low));
      };
      rises = record { up = λ _. sym (ap (λ (v : View). v.naps) h.view); due = λ on. absurd (true≢false (sym on)); rests = λ _. refl };
      sleeps = is_awake _ false false _ refl;
      owes = record {
        even = λ u. omega arith;
        marked = λ u few other. let a = ap (times u) h.cancelled in let b = ap (λ (v : View). times u v.debts) h.view in
            absurd (omega arith);
      };
    })

pub opened_worlds_begin : OpenedWorldsBegin
opened_worlds_begin key s r home left told core places = record {
  moment = first_moment;
  table = refl;
  stage = record {
    moment = moment_of first_moment;
    desk = fresh home key.locks key.seats key.kind left;
    calling = λ _. false;
    to_sleep = λ _. false;
    named = λ _ _. false;
  };
  shown = refl;
  desks = λ d. refl;
  first = record {
    first = record {
      core = core;
      parts = λ t low. refl;
      rung = refl;
      risen = refl;
      token = refl;
      asleep = refl;
      heeds = refl;
    };
    places = places;
    desks = λ d low. record { caller = refl; cancelled = refl; view = refl };
    calling = λ d. refl;
    to_sleep = λ d. refl;
    named = λ d. refl;
  };
}
  where
    first_moment : TableMoment key
    first_moment = record {
      table = s;
      ruled = r;
      part = first_part key.kind key.locks key.places;
      told = told;
      known = λ t low. known_by s r t (first_part key.kind key.locks key.places t) (told t low);
      rung = λ _ _. 0;
      risen = λ _. 0;
      token = λ _. false;
      asleep = λ _. false;
      heeds = λ _. false;
    }

-- ---- drives are runs

pub in_order_by : {key : Start} (g : Stage key) → IsDrivenBy Accounts g → IsInOrder g
in_order_by _ (drive.begins g first) = first_keeps g first
in_order_by _ (drive.goes_on g g' x driven does) = keep g g' (in_order_by g driven) x does

is_of_run : {key : Start} (g : Stage key) → IsDrivenBy Accounts g → IsOfRun g.moment
is_of_run _ (drive.begins g first) = runs.begins g.moment first.first
is_of_run _ (drive.goes_on g g' x driven does) = runs.goes_on g.moment g'.moment (thread_move x) (is_of_run g driven)
    (follows g g' (in_order_by g driven) x does)

pub drives_are_runs : DrivesAreRuns
drives_are_runs = record {
  runs = λ key g driven. is_of_run g driven;
  moves = λ key g g' x driven does. follows g g' (in_order_by g driven) x does;
}

-- ---- who has to wake whom

-- whoever has to wake a seat, by the table, has marked or named it, or is amid a call
due_by : {key : Start} (g : Stage key) → IsInOrder g → (t s : ℕ) → HasToWake g.moment t s → IsDueBy g t s
due_by g i t s has = ⊎_elim (λ calling. inr (inr (calling, has)))
    (λ idle. let few = has.owed in let a = owes_there g g i t s has.waker idle in
    ⊎_elim inl (λ named. inr (inl named)) ((i t has.waker).owes.marked s (omega arith) has.other)) (cases_Bool (g.calling t))

-- who sleeps has to wake nobody
sleepers_owe_none : {key : Start} (g : Stage key) → IsInOrder g → (t s : ℕ) → g.moment.asleep t ≡ true →
    ¬ HasToWake g.moment t s
sleepers_owe_none g i t s sleeps has = let k = i t has.waker in
    ⊎_elim (λ marked. k.sleeps.unmarked sleeps s marked)
    (λ else. ⊎_elim (λ named. true≢false (sym named ∙ k.sleeps.unnamed sleeps s))
    (λ calling. true≢false (sym calling.0 ∙ k.rises.rests (k.sleeps.told_so sleeps))) else) (due_by g i t s has)

pub no_wake_is_lost_in_drives : NoWakeIsLostInDrives
no_wake_is_lost_in_drives key g driven s low sleeps = let i = in_order_by g driven in
    ⊎_elim (λ alerted. inl (⊎_elim inl
    (λ owed. inr (owed.0, owed.1.waker, owed.2, due_by g i owed.0 s owed.1)) alerted)) inr
    (no_wake_is_lost_in_runs key g.moment (is_of_run g driven) s low sleeps)

pub no_standstill_in_drives : NoStandstillInDrives
no_standstill_in_drives key g driven seats sound = let i = in_order_by g driven in let m = g.moment in
    no_standstill_in_runs key m (is_of_run g driven) seats (λ s one. let h = sound s one in record {
      sleeps = h.0;
      no_token = ⊎_elim (λ token. absurd (h.1 (inl token))) (λ isnt. isnt) (cases_Bool (m.token s));
      unowed = λ t has. ⊎_elim (λ sleeps. sleepers_owe_none g i t s sleeps has)
          (λ awake. h.1 (inr (t, has.waker, awake, due_by g i t s has))) (cases_Bool (m.asleep t));
    })

-- ---- no deadlock lasts

-- an event of a drive is that of the desk that makes it
pub event_by : {key : Start} (g g' : Stage key) → IsDrivenBy Accounts g → (x : Deed) (e : Event) → DoesBy Accounts g g' x →
    thread_move x ≡ Some (performs e) → x ≡ steps (actor e) (Some (performs e))
event_by g g' from (steps d y) e does is = let there = does.there (acts g g' (in_order_by g from) d y does) in
    let own = subst (IsBy d) is there.by in
    ap (λ (z : Option Step). steps d z) is ∙ ap (λ (z : ℕ). steps z (Some (performs e))) (sym own)
event_by g g' from _ e does is = absurd (cc)

module _ {key : Start} (stage : ℕ → Stage key) (deed : ℕ → Deed) (endless : IsEndlessDriveBy Accounts stage deed) where
  pub driven_by : (j : ℕ) → IsDrivenBy Accounts (stage j)
  driven_by zero = endless.begins
  driven_by (suc j) = drive.goes_on (stage j) (stage (suc j)) (deed j) (driven_by j) (endless.goes_on j)

  pub is_endless_by : IsEndless (λ j. (stage j).moment) (λ j. thread_move (deed j))
  is_endless_by = record {
    begins = is_of_run (stage 0) endless.begins;
    goes_on = λ j. follows (stage j) (stage (suc j)) (in_order_by (stage j) (driven_by j)) (deed j) (endless.goes_on j);
  }

  is_scheduled : (s : ℕ) → IsServed stage deed s → IsScheduledThere (λ j. (stage j).moment) (λ j. thread_move (deed j)) s
  is_scheduled s h = record {
    made = λ i t has. let e = h.woken i t has.waker (due_by (stage i) (in_order_by (stage i) (driven_by i)) t s has) in
        (e.0, e.1, ap thread_move e.2);
    heard = λ i token sleeps. let e = h.rises i token sleeps in (e.0, e.1, ap thread_move e.2);
    settled = h.settles;
    looks = h.looks;
    leaves = h.leaves;
  }

  wakes_arrive : WakesArriveByDesks stage deed → WakesArriveThere (λ j. (stage j).moment) (λ j. thread_move (deed j))
  wakes_arrive h = record {
    made = λ i t s has. let e = h.made i t s has.waker (due_by (stage i) (in_order_by (stage i) (driven_by i)) t s has) in
        (e.0, e.1, ap thread_move e.2);
    heard = λ i s low token sleeps. let e = h.heard i s low token sleeps in (e.0, e.1, ap thread_move e.2);
  }

pub nobody_sleeps_in_vain_in_drives : NobodySleepsInVainInDrives
nobody_sleeps_in_vain_in_drives key stage deed endless arrive =
    nobody_sleeps_in_vain_in_runs key (λ j. (stage j).moment) (λ j. thread_move (deed j)) (is_endless_by stage deed endless)
    (wakes_arrive stage deed endless arrive)

pub drives_run_on : DrivesRunOn
drives_run_on = record {
  endless = λ key stage deed endless. is_endless_by stage deed endless;
  scheduled = λ key stage deed endless s served. is_scheduled stage deed endless s served;
}

pub waits_end_in_drives : WaitsEndInDrives
waits_end_in_drives key stage deed endless served go_on =
    waits_end_in_runs key (λ j. (stage j).moment) (λ j. thread_move (deed j)) (is_endless_by stage deed endless)
    (λ s low. is_scheduled stage deed endless s (served s low)) go_on

pub no_deadlock_lasts_in_drives : NoDeadlockLastsInDrives
no_deadlock_lasts_in_drives key stage deed endless i seats served dead =
    let end = no_deadlock_lasts_in_runs key (λ j. (stage j).moment) (λ j. thread_move (deed j)) (is_endless_by stage deed endless) i
    seats (λ s one. is_scheduled stage deed endless s (served s one)) dead in
    let j = end.0 in let event = event_by (stage j) (stage (suc j)) (driven_by stage deed endless j) (deed j) in
    let does = endless.goes_on j in (
      j,
      end.1,
      (
        end.2.0,
        end.2.1,
        (
          end.2.2.0,
          ⊎_elim (λ dies. inl (event (Die end.2.0 end.2.2.0) does dies))
              (λ leaves. inr (event (Leave end.2.0 end.2.2.0) does leaves)) end.2.2.1,
        ),
      ),
    )

-- ---- drives whose calls do all that their clauses say

keeps_account : {key : Start} (g g' : Stage key) (x : Deed) → Does g g' x → DoesBy Accounts g g' x
keeps_account g g' (calls d) h = h
keeps_account g g' (steps d x) h = record {
  seat = h.seat;
  calling = h.calling;
  stays_up = h.stays_up;
  there = h.there;
  notes = tt;
  now = h.now;
}
keeps_account g g' (reads d) h = record { seat = h.seat; calling = h.calling; left = h.left; there = h.there; notes = tt; now = h.now }
keeps_account g g' (answers d call a) h = record {
  seat = h.seat;
  calling = h.calling;
  done = each_accounts call (g.desk d) a (g'.desk d) h.done;
  outside = h.outside;
  sees = h.sees;
  cancelled = h.cancelled;
  now = h.now;
}
keeps_account g g' (names d u) h = h
keeps_account g g' (wakes d u) h = h
keeps_account g g' (parks d) h = h
keeps_account g g' (rises d) h = h
keeps_account g g' halts h = h

accounted : {key : Start} (g : Stage key) → IsDriven g → IsDrivenBy Accounts g
accounted _ (drive.begins g first) = drive.begins g first
accounted _ (drive.goes_on g g' x driven does) = drive.goes_on g g' x (accounted g driven) (keeps_account g g' x does)

pub in_order : {key : Start} (g : Stage key) → IsDriven g → IsInOrder g
in_order g driven = in_order_by g (accounted g driven)

module _ {key : Start} (stage : ℕ → Stage key) (deed : ℕ → Deed) (endless : IsEndlessDrive stage deed) where
  pub driven : (j : ℕ) → IsDriven (stage j)
  driven zero = endless.begins
  driven (suc j) = drive.goes_on (stage j) (stage (suc j)) (deed j) (driven j) (endless.goes_on j)

  pub accounted_on : IsEndlessDriveBy Accounts stage deed
  accounted_on = record {
    begins = accounted (stage 0) endless.begins;
    goes_on = λ j. keeps_account (stage j) (stage (suc j)) (deed j) (endless.goes_on j);
  }

pub drives_keep_account : DrivesKeepAccount
drives_keep_account = record {
  calls = λ call s s' a h. each_accounts call s a s' h;
  stages = λ key g driven. accounted g driven;
  endless = λ key stage deed endless. accounted_on stage deed endless;
}
