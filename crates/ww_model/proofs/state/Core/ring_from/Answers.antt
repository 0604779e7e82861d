use Rattle.std.proofs.Common.{ℕ, ◌==◌, ◌≤◌, List, lit<, sym, ap, ◌∙◌, subst, arith, true≢false}
use Rattle.std.specs.List.{list_any}
use Rattle.ww_model.specs.Run.{Reached}
use Rattle.ww_model.specs.Waits.{IsOneOf, Differ}
use Rattle.ww_model.specs.Snapshot.{Snapshot, state_of}
use Rattle.ww_model.proofs.Kept.{reached_is_lawful}
use Rattle.ww_model.proofs.Chains.{Walked, one_tells, tells_one, differ_more, walked_more, awaited_is_seat, walk_has_room, cycle_returns, returns_on, reaches_waits, no_return, ring_walked}
use Rattle.ww_model.proofs.state.Core.ring_from.Goals as goal

pub push-requires : goal.push-requires
push-requires c = let now = state_of c.args.self.now in
    let reached = subst (λ (s : Snapshot). Reached (state_of s)) c.self.view_is c.self.invariant.reached in
    let ring = c.loop-ring.ring.items in
    let told = c.is_one_of.ensures ∙ ap (λ (r : List ℕ). list_any (λ y. y == c.loop-ring.here) r) c.as_slice.ensures.value in
    let new : IsOneOf c.loop-ring.here ring
    → ⊥ = λ one. true≢false (sym (tells_one c.loop-ring.here ring one) ∙ sym told ∙ c.loop-ring-test.true) in
    let room = walk_has_room now reached c.args.first ring c.loop-ring.here c.loop-ring.invariant.walked
    c.loop-ring.invariant.differ new c.loop-ring.invariant.seat in
    let seats : now.seats ≤ 16 = subst (λ (s : Snapshot). (state_of s).seats ≤ 16) c.self.view_is c.self.invariant.sizes.seats in
    (lit< tt, omega (arith, room, seats))

pub returns-in_default : goal.returns-in_default
returns-in_default c = λ other is. let now = state_of c.args.self.now in
    let on = reaches_waits now c.loop-ring.here c.args.first
    (c.loop-ring.invariant.returns (cycle_returns now other c.args.first is.0.cycle is.1)) in
    c.in_default.ensures on.0 on.1

pub loop-ring-smaller : goal.loop-ring-smaller
loop-ring-smaller c = let now = state_of c.args.self.now in
    let reached = subst (λ (s : Snapshot). Reached (state_of s)) c.self.view_is c.self.invariant.reached in
    let ring = c.loop-ring.ring.items in
    let told = c.is_one_of.ensures ∙ ap (λ (r : List ℕ). list_any (λ y. y == c.loop-ring.here) r) c.as_slice.ensures.value in
    let new : IsOneOf c.loop-ring.here ring
    → ⊥ = λ one. true≢false (sym (tells_one c.loop-ring.here ring one) ∙ sym told ∙ c.loop-ring-test.true) in
    let room = walk_has_room now reached c.args.first ring c.loop-ring.here c.loop-ring.invariant.walked
    c.loop-ring.invariant.differ new c.loop-ring.invariant.seat in
    let seats : now.seats ≤ 16 = subst (λ (s : Snapshot). (state_of s).seats ≤ 16) c.self.view_is c.self.invariant.sizes.seats in
    omega (arith, room, seats, c.push.ensures.len)

pub loop-ring-preserved : goal.loop-ring-preserved
loop-ring-preserved c = let now = state_of c.args.self.now in
    let reached = subst (λ (s : Snapshot). Reached (state_of s)) c.self.view_is c.self.invariant.reached in
    let ring = c.loop-ring.ring.items in
    let told = c.is_one_of.ensures ∙ ap (λ (r : List ℕ). list_any (λ y. y == c.loop-ring.here) r) c.as_slice.ensures.value in
    let new : IsOneOf c.loop-ring.here ring
    → ⊥ = λ one. true≢false (sym (tells_one c.loop-ring.here ring one) ∙ sym told ∙ c.loop-ring-test.true) in
    record {
      walked = subst (λ (r : List ℕ). Walked now c.args.first r c.in-Some.next) (sym c.push.ensures.items)
          (walked_more now c.args.first ring c.loop-ring.here c.in-Some.next c.loop-ring.invariant.walked
          c.in-Some.ensures);
      differ = subst Differ (sym c.push.ensures.items) (differ_more ring c.loop-ring.here c.loop-ring.invariant.differ new);
      seat = awaited_is_seat now reached c.loop-ring.here c.in-Some.next c.in-Some.ensures;
      returns = λ cycle. returns_on now (reached_is_lawful now reached) c.args.first c.loop-ring.here c.in-Some.next
          cycle (c.loop-ring.invariant.returns cycle) c.in-Some.ensures;
    }

pub returns-then-here-first : goal.returns-then-here-first
returns-then-here-first c = let now = state_of c.args.self.now in
    let reached = subst (λ (s : Snapshot). Reached (state_of s)) c.self.view_is c.self.invariant.reached in
    let ring = c.loop-ring.ring.items in
    let told = c.is_one_of.ensures ∙ ap (λ (r : List ℕ). list_any (λ y. y == c.loop-ring.here) r) c.as_slice.ensures.value in
    ring_walked now reached c.args.first ring c.loop-ring.here c.loop-ring.invariant.walked
    c.loop-ring.invariant.differ (one_tells c.loop-ring.here ring (sym told ∙ c.loop-ring-test.false))
    c.if-here-first.true

pub returns-else-here-first : goal.returns-else-here-first
returns-else-here-first c = λ other is. let now = state_of c.args.self.now in
    let reached = subst (λ (s : Snapshot). Reached (state_of s)) c.self.view_is c.self.invariant.reached in
    let ring = c.loop-ring.ring.items in
    let told = c.is_one_of.ensures ∙ ap (λ (r : List ℕ). list_any (λ y. y == c.loop-ring.here) r) c.as_slice.ensures.value in
    no_return now reached c.args.first ring c.loop-ring.here c.loop-ring.invariant.walked
    c.loop-ring.invariant.differ (one_tells c.loop-ring.here ring (sym told ∙ c.loop-ring-test.false))
    c.if-here-first.false
    (c.loop-ring.invariant.returns (cycle_returns now other c.args.first is.0.cycle is.1))
