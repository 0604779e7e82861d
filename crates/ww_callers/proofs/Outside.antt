-- A desk outside the guards.
use Rattle.std.proofs.Common.{◌≡◌, ℕ, false, true≢false, List, ap, sym, ◌∙◌}
use Rattle.std.specs.Arc.{arc_value}
use Rattle.ww_table.specs.declared.board.Board.{Board}
use Rattle.ww_seat.specs.Standings.{Standing, view_in}
use Rattle.ww_steps.specs.declared.turn.Turn.{Turn}
use Rattle.ww_steps.specs.declared.turn.Turn.TheVariants.{Rests, Wants, Looks, Gives}
use Rattle.ww_steps.specs.Situations.{Situation, is_inside}
use Rattle.ww_steps.specs.Stations.{IsWhere}
use Rattle.ww_callers.specs.Drives.{DesksStandOutside}

-- wherever its call stands
where_outside : (b : Board) (wakes : List ℕ) (turn : Turn) (s : Standing) → IsWhere b wakes turn s → is_inside turn ≡ false →
    (view_in s).inside ≡ 0
where_outside b wakes Rests s at out = at.0
where_outside b wakes (Wants n arrival waits) s at out = at.0.outside
where_outside b wakes (Looks n arrival waits) s at out = absurd (true≢false out)
where_outside b wakes (Gives n) s at out = at.away.0

pub desks_stand_outside : DesksStandOutside
desks_stand_outside s d out = let h = d.station in
    ap (λ (x : Situation). x.view.inside) d.seen
    ∙ where_outside (arc_value h.board) h.wake.items h.turn h.seat d.keeps.stands
    (ap (λ (x : Situation). is_inside x.turn) (sym d.seen) ∙ out)
