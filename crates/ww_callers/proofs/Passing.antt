-- A lock passes from one desk to another, as threads have it.
use Rattle.std.proofs.Common.{◌≡◌, ⊎_elim, inl, inr, ℕ, suc, true, Some, sym, ap, ◌∙◌}
use Rattle.ww_model.specs.declared.event.Event.{Event}
use Rattle.ww_model.specs.declared.event.Event.TheVariants.{Fast, FastGive, Take, Give}
use Rattle.ww_model.specs.Event.{actor}
use Rattle.ww_view.specs.declared.view.View.{View}
use Rattle.ww_view.specs.View.{owns}
use Rattle.ww_invariant.specs.declared.cells.Start.{Start}
use Rattle.ww_laws.specs.Scene.{performs}
use Rattle.ww_refines.proofs.Passing.{owners_hand_over_in_runs}
use Rattle.ww_callers.specs.Stages.{Stage}
use Rattle.ww_callers.specs.Deeds.{steps, Accounts, IsDrivenBy}
use Rattle.ww_callers.specs.Drives.{thread_move}
use Rattle.ww_callers.specs.Handing.{DesksHoldWhatTheyOwn, HasInHand, OwnersHandOverInDrives}
use Rattle.ww_callers.proofs.Runs.{in_order_by, event_by, driven_by, is_endless_by}

pub desks_hold_what_they_own : DesksHoldWhatTheyOwn
desks_hold_what_they_own s d n = let same = d.keeps.owns.same n in let is = d.seen in cc

-- between two calls the table says of the seat what its desk's view says
pub in_hand : {key : Start} (g : Stage key) → IsDrivenBy Accounts g → (d n : ℕ) → HasInHand g d n → owns (g.moment.part d).core n ≡ true
in_hand g from d n h = let k = in_order_by g from d h.seat in
    ap (λ (v : View). owns v n) (sym (k.current.view h.idle)) ∙ h.owns

pub owners_hand_over_in_drives : OwnersHandOverInDrives
owners_hand_over_in_drives key stage deed endless i j d e n = λ later mine its other.
    let p = owners_hand_over_in_runs key (λ k. (stage k).moment) (λ k. thread_move (deed k)) (is_endless_by stage deed endless) i j d e n
    later mine.seat its.seat (in_hand (stage i) (driven_by stage deed endless i) d n mine)
    (in_hand (stage j) (driven_by stage deed endless j) e n its) other in
    let at : (k : ℕ) (x : Event) → thread_move (deed k) ≡ Some (performs x) → deed k ≡ steps (actor x) (Some (performs x)) =
    λ k x is. event_by (stage k) (stage (suc k)) (driven_by stage deed endless k) (deed k) x (endless.goes_on k) is in
    record {
      released = p.released;
      taken = p.taken;
      from = p.from;
      order = p.order;
      before = p.before;
      gives = ⊎_elim (λ is. inl (at p.released (FastGive d n) is)) (λ is. inr (at p.released (Give d n) is)) p.gives;
      takes = ⊎_elim (λ is. inl (at p.taken (Fast e n) is)) (λ is. inr (at p.taken (Take e n) is)) p.takes;
    }
