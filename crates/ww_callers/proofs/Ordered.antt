-- A call that answers `Sleeps` left its guard by the last of its events.
use Rattle.std.proofs.Common.{◌≡◌, ℕ, not, false, true≢false, List, Option, refl, sym, ap, ◌∙◌, subst}
use Rattle.std.specs.Arc.{arc_value}
use Rattle.ww_model.proofs.Outcomes.{number_same}
use Rattle.ww_table.specs.declared.board.Board.{Board}
use Rattle.ww_laws.specs.Scene.{Step}
use Rattle.ww_invariant.specs.declared.cells.Start.{Start}
use Rattle.ww_refines.specs.Naps.{ArePlaysOf, is_to_sleep, HaveNone, WaitsOutside}
use Rattle.ww_refines.proofs.Napping.{naps_are_last}
use Rattle.ww_seat.specs.Standings.{Standing, view_in}
use Rattle.ww_seat.specs.declared.look.Arrival.TheVariants.{Woken}
use Rattle.ww_seat.specs.declared.waits.Waits.{Waits}
use Rattle.ww_steps.specs.declared.turn.Answer.{Answer}
use Rattle.ww_steps.specs.declared.turn.Answer.TheVariants.{Sleeps}
use Rattle.ww_steps.specs.declared.turn.Turn.{Turn}
use Rattle.ww_steps.specs.declared.turn.Turn.TheVariants.{Rests, Wants, Looks, Gives}
use Rattle.ww_steps.specs.Situations.{Situation}
use Rattle.ww_steps.specs.Stations.{IsWhere}
use Rattle.ww_steps.specs.Answers.{IsNextAnswer}
use Rattle.ww_callers.specs.Deeds.{Call, go_on, unlock_each, outlook, is_wounded, cancel, HasDone, is_sleeps}
use Rattle.ww_callers.specs.Stages.{IsDesk}
use Rattle.ww_callers.specs.Drives.{CallsSleepLast}
use Rattle.ww_callers.proofs.Answered.{each_accounts, naps_alike}

-- where its call stands then
record IsToLook (s : Situation) : Type 0 where
  lock : ℕ
  waits : Waits
  turn : s.turn ≡ Wants lock Woken waits

next_sleeps : (turn : Turn) (s s' : Situation) → IsNextAnswer turn s Sleeps s' → IsToLook s'
next_sleeps Rests s s' h = absurd (let none = h.0 in cc)
next_sleeps (Wants n arrival waits) s s' h = record { lock = n; waits = waits; turn = ap (λ (x : Situation). x.turn) h.3 }
next_sleeps (Looks n arrival waits) s s' h = record { lock = n; waits = waits; turn = ap (λ (x : Situation). x.turn) h.3 }
next_sleeps (Gives n) s s' h = absurd h

call_sleeps : (call : Call) (s s' : Situation) → HasDone call s Sleeps s' → IsToLook s'
call_sleeps go_on s s' h = next_sleeps s.turn s s' h.0
call_sleeps (outlook n) s s' h = absurd (let none = h.0 in cc)
call_sleeps is_wounded s s' h = absurd (let none = h.0 in cc)
call_sleeps (unlock_each ns) s s' h = absurd (let none = h.0 in cc)
call_sleeps (cancel u) s s' h = absurd h.0
call_sleeps _ s s' h = absurd h

-- whoever was woken waits outside
woken_waits : (b : Board) (wakes : List ℕ) (n : ℕ) (waits : Waits) (s : Standing) → IsWhere b wakes (Wants n Woken waits) s →
    WaitsOutside (view_in s)
woken_waits b wakes n waits s at = (
  at.0.outside,
  λ none. absurd (true≢false (at.1.0 ∙ ap not (number_same (view_in s).waits 0 none))),
)

desk_waits : (s : Situation) → IsDesk s → IsToLook s → WaitsOutside s.view
desk_waits s d looks = let h = d.station in subst (λ (x : Situation). WaitsOutside x.view) (sym d.seen)
    (woken_waits (arc_value h.board) h.wake.items looks.lock looks.waits h.seat
    (subst (λ (t : Turn). IsWhere (arc_value h.board) h.wake.items t h.seat)
    (ap (λ (x : Situation). x.turn) (sym d.seen) ∙ looks.turn) d.keeps.stands))

none_slept : {key : Start} (s s' : Situation) (a : Answer) (xs : List (Option Step)) → is_sleeps a ≡ false → (call : Call) →
    HasDone call s a s' → ArePlaysOf key s.view xs s'.view → HaveNone is_to_sleep xs
none_slept s s' a xs other call h plays = naps_are_last.none _ _ _ xs plays
    ((each_accounts call s a s' h).1 ∙ naps_alike a s.view.naps other)

pub calls_sleep_last : CallsSleepLast
calls_sleep_last key call s s' Sleeps xs h desk plays = naps_are_last.last key _ _ xs plays (each_accounts call s Sleeps s' h).1
    (desk_waits s' desk (call_sleeps call s s' h))
calls_sleep_last key call s s' a xs h desk plays = none_slept s s' a xs refl call h plays
