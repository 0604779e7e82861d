-- A seat from the start on, at rest, and at a lock where it has to give way.
use Rattle.std.proofs.Common.{◌≡◌, ◌≢◌, ⊎_elim, ℕ, true, false, true≢false, refl, sym, ap, ◌∙◌, arith}
use Rattle.ww_queue.specs.declared.kind.Kind.TheVariants.{WoundWait}
use Rattle.ww_model.specs.declared.event.Event.TheVariants.{Unguard}
use Rattle.ww_model.specs.declared.state.Holder.TheVariants.{Taken}
use Rattle.ww_model.specs.State.{State, dies}
use Rattle.ww_model.specs.Event.{actor}
use Rattle.ww_model.proofs.Puts.{put_here, put_else, put_cases}
use Rattle.ww_model.proofs.Options.{some_of}
use Rattle.ww_model.proofs.Dues.{dies_why}
use Rattle.ww_model.proofs.Kept.{reached_is_lawful}
use Rattle.ww_model.proofs.Outside.{signed_owns_outside}
use Rattle.ww_laws.specs.Condemned.{LooksCondemned}
use Rattle.ww_view.proofs.Starts.{knows_start}
use Rattle.ww_view.proofs.Events.{actor_knows}
use Rattle.ww_view.proofs.Others.{others_know}
use Rattle.ww_laws.specs.Scene.{acting, going_to_sleep, asleep, performs, leaves_to_sleep, finds_no_sign, wakes, falls_asleep, rises}
use Rattle.ww_laws.specs.InCall.{StartIsInCall, LeavingComesToRest, RestStays, RisingIsInCall, GuardForgetsTheLook, CondemnedFindNone, CondemnedMayNotLeave}
use Rattle.ww_laws.proofs.Woken.{owing_was, debt_was}
use Rattle.ww_laws.proofs.Keeping.{reached_is_orderly}

pub start_is_in_call : StartIsInCall
start_is_in_call kind locks seats s seat = record {
  knows = knows_start kind locks seats s seat;
  acts = refl;
  fresh = λ inside. absurd (inside refl);
  uncancelled = λ inside. absurd (inside refl);
  debts = λ u owed. absurd (true≢false (sym owed));
}

-- ---- at rest

going_is_not_acting : going_to_sleep ≢ acting
going_is_not_acting is = cc

asleep_is_not_acting : asleep ≢ acting
asleep_is_not_acting is = cc

pub leaving_comes_to_rest : LeavingComesToRest
leaving_comes_to_rest w v n heeds to_wake r i may = let c = w.core in let reached = (reached_is_orderly w r).reached in
    let l = reached_is_lawful c reached in let out = signed_owns_outside c reached in record {
      knows = actor_knows c v l out i.knows (Unguard v.who n) refl may.exit;
      rests = λ is. going_is_not_acting (sym (put_here w.phase v.who going_to_sleep) ∙ is);
      outside = refl;
      debts = i.debts;
    }

pub rest_stays : RestStays
rest_stays w (performs e) v to_wake r may other i =
    let c = w.core in
    let isnt : actor e ≢ v.who = λ is. i.rests (sym (ap w.phase is) ∙ may.acts) in record {
      knows = others_know c e v (reached_is_lawful c (reached_is_orderly w r).reached) may.possible isnt i.knows;
      rests = i.rests;
      outside = i.outside;
      debts = λ u owed. ⊎_elim (λ new. absurd (isnt (sym new.0))) (i.debts u) (owing_was w.owes (actor e) _ v.who u owed);
    }
rest_stays w (leaves_to_sleep s n heeds) v to_wake r may other i =
    let c = w.core in
    let isnt : s ≢ v.who = λ is. i.rests (sym (ap w.phase is) ∙ may.acts) in record {
      knows = others_know c (Unguard s n) v (reached_is_lawful c (reached_is_orderly w r).reached) may.possible isnt i.knows;
      rests = λ is. i.rests (sym (put_else w.phase s going_to_sleep v.who (λ same. isnt (sym same))) ∙ is);
      outside = i.outside;
      debts = i.debts;
    }
rest_stays w (wakes s x) v to_wake r may other i = record {
  knows = i.knows;
  rests = i.rests;
  outside = i.outside;
  debts = λ u owed. ⊎_elim (λ paid. absurd (true≢false (sym paid.2))) (i.debts u) (debt_was w.owes s x false v.who u owed);
}
rest_stays w (falls_asleep s) v to_wake r may other i = record {
  knows = i.knows;
  rests = put_cases w.phase s asleep v.who (λ p. p ≢ acting) (λ _. asleep_is_not_acting) (λ _. i.rests);
  outside = i.outside;
  debts = i.debts;
}
rest_stays w (rises s) v to_wake r may other i = record {
  knows = i.knows;
  rests = λ is. i.rests (sym (put_else w.phase s acting v.who (λ same. other (ap rises (sym same)))) ∙ is);
  outside = i.outside;
  debts = i.debts;
}
rest_stays w _ v to_wake r may other i =
    record { knows = i.knows; rests = i.rests; outside = i.outside; debts = i.debts }

pub rising_is_in_call : RisingIsInCall
rising_is_in_call w v to_wake i = record {
  knows = i.knows;
  acts = put_here w.phase v.who acting;
  fresh = λ inside. absurd (inside i.outside);
  uncancelled = λ inside. absurd (inside i.outside);
  debts = i.debts;
}

-- ---- where it has to give way

pub guard_forgets_the_look : GuardForgetsTheLook
guard_forgets_the_look w s n = put_here w.found_no_sign s false

-- it has a sign, and owns a lock in its context
condemned_is_signed : (c : State) (s n : ℕ) → c.kind ≡ WoundWait → LooksCondemned c s n → c.sign s ≢ 0
condemned_is_signed c s n kind looks none = let cause = some_of (dies c s n) looks.dies_there in
    let why = (dies_why c s n cause.0 cause.1).wounded kind in let z = why.0 in omega arith

pub condemned_find_none : CondemnedFindNone
condemned_find_none w (performs e) s n kind looks may none =
    put_cases w.found_no_sign (actor e) false s (λ b. b ≡ false) (λ _. refl) (λ _. none)
condemned_find_none w (finds_no_sign t) s n kind looks may none =
    put_cases w.found_no_sign t true s (λ b. b ≡ false)
    (λ same. absurd (condemned_is_signed w.core s n kind looks (ap w.core.sign same ∙ may.1))) (λ _. none)
condemned_find_none w (rises t) s n kind looks may none =
    put_cases w.found_no_sign t false s (λ b. b ≡ false) (λ _. refl) (λ _. none)
condemned_find_none w _ s n kind looks may none = none

pub condemned_may_not_leave : CondemnedMayNotLeave
condemned_may_not_leave w v n to_wake r i kind looks none may =
    let c = w.core in
    let k = i.knows in
    let l = reached_is_lawful c (reached_is_orderly w r).reached in
    let cause = some_of (dies c v.who n) looks.dies_there in
    let why = dies_why c v.who n cause.0 cause.1 in
    let queue = l.base.queues.at n in
    let own = queue.holds why.entry why.stands why.holds in
    let owned = k.owned.lacks own.0 (own.1 ∙ ap Taken why.seat) in
    let stamp = queue.stamps why.entry why.stands ∙ ap c.stamp why.seat in
    true≢false (sym (i.fresh (λ out. let z = may.exit.inside in omega arith)
    (may.looked (k.itself.kind ∙ kind) (k.queues.waits n looks.waits)
    (let z = why.context in let y = k.itself.stamp in omega (arith, stamp)) (own.0, owned))) ∙ none)
