-- What a pass or a desk holds its seat owns.
use Rattle.std.proofs.Common.{ℕ, ◌≡◌, true, ap, sym, ◌∙◌}
use Rattle.ww_plain.specs.Numbers.{is_among}
use Rattle.ww_view.specs.View.{owns}
use Rattle.ww_invariant.specs.Rule.{St}
use Rattle.ww_seat.specs.Standings.{view_in}
use Rattle.ww_lock.specs.Holding.{Holding}
use Rattle.ww_steps.specs.Situations.{Situation}
use Rattle.ww_callers.specs.Exclusion.{IsPassAt, IsDeskAt}

pub pass_owns : (s : St) (id : ℕ) (h : Holding) (n : ℕ) (p : IsPassAt s id h) → is_among n h.held ≡ true →
    owns (view_in p.hand.seat) n ≡ true
pass_owns s id h n p held = p.carries.suits.owned n ∙ sym (ap (λ (k : Holding). is_among n k.held) p.seen) ∙ held

pub pass_number : (s : St) (id : ℕ) (h : Holding) (p : IsPassAt s id h) → h.caller ≡ (view_in p.hand.seat).who
pass_number s id h p = ap (λ (k : Holding). k.caller) p.seen

pub desk_owns : (s : St) (id : ℕ) (d : Situation) (n : ℕ) (p : IsDeskAt s id d) → is_among n d.held ≡ true →
    owns (view_in p.station.seat) n ≡ true
desk_owns s id d n p held = p.keeps.owns.same n ∙ sym (ap (λ (e : Situation). is_among n e.held) p.seen) ∙ held

pub desk_number : (s : St) (id : ℕ) (d : Situation) (p : IsDeskAt s id d) → d.caller ≡ (view_in p.station.seat).who
desk_number s id d p = ap (λ (e : Situation). e.caller) p.seen
