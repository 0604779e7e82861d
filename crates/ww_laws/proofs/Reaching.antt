-- In each kind a run that comes by a ring, and one that leads from there to an interruption: together they have all
-- seventeen events.
use Rattle.std.proofs.Common.{ℕ, suc, zero, ◌≡◌, ◌≢◌, inl, true, List, [], ◌∷◌, Option, Some, None, refl, ◌∙◌, subst, arith}
use native.Mathlib.Decide.{ℕ_discrete}
use Rattle.ww_queue.specs.declared.kind.Kind.{Kind}
use Rattle.ww_queue.specs.declared.kind.Kind.TheVariants.{WoundWait, WaitDie}
use Rattle.ww_queue.specs.Queue.{Has}
use Rattle.ww_model.specs.declared.state.Holder.TheVariants.{Taken}
use Rattle.ww_model.specs.declared.event.Event.{Event}
use Rattle.ww_model.specs.declared.event.Event.TheVariants.{Begin, Clear, Fast, FastGive, Guard, Join, Sign, Take, Ask, Give, Die, Unguard, Commit, End, Cancel, Heed, Leave}
use Rattle.ww_model.specs.State.{State, start, put}
use Rattle.ww_model.specs.Event.{Possible, after}
use Rattle.ww_model.specs.Run.{state_after, IsRun, Reached, at_start, further}
use Rattle.ww_model.specs.Waits.{WaitsFor, IsRing}
use Rattle.ww_model.specs.Theorem.{RingsAreReached, Happens, EventsHappen}
use Rattle.ww_model.proofs.Meetings.{same_kind}
use Rattle.ww_model.proofs.Runs.{run_reached}
use Rattle.ww_laws.proofs.Tests.{all_pass, a_run}

-- ---- the runs

-- Two contexts take a lock each, and then wait for each other: the younger is wounded.
abbrev to_a_ring : Kind → List Event
to_a_ring WoundWait = Begin 0 ∷ Begin 1 ∷ Fast 0 0 ∷ Fast 1 1 ∷ Guard 0 1 ∷ Join 0 1 ∷ Sign 0 1 ∷ Unguard 0 1 ∷
    Guard 1 0 ∷ Join 1 0 ∷ Unguard 1 0 ∷ []
to_a_ring WaitDie = Begin 0 ∷ Begin 1 ∷ Begin 2 ∷ Fast 1 0 ∷ Fast 2 1 ∷ Guard 1 1 ∷ Join 1 1 ∷ Unguard 1 1 ∷ Guard 2
    1 ∷ Give 2 1 ∷ Unguard 2 1 ∷
    Guard 0 1 ∷ Take 0 1 ∷ Sign 0 1 ∷ Unguard 0 1 ∷ Guard 0 0 ∷ Join 0 0 ∷ Unguard 0 0 ∷ []

-- The younger dies and releases its lock, to the older, which commits; and it ends.
abbrev out_of_it : Kind → List Event
out_of_it WoundWait = Guard 1 0 ∷ Die 1 0 ∷ Unguard 1 0 ∷ Guard 0 1 ∷ Ask 0 1 ∷ Unguard 0 1 ∷ Guard 1 1 ∷ Give 1 1 ∷ Unguard 1 1 ∷ Clear 1 ∷
    Guard 0 1 ∷ Take 0 1 ∷ Unguard 0 1 ∷ Commit 0 ∷ FastGive 0 0 ∷ End 1 ∷ []
out_of_it WaitDie = Guard 0 0 ∷ Ask 0 0 ∷ Unguard 0 0 ∷ Guard 1 1 ∷ Die 1 1 ∷ Clear 1 ∷ Unguard 1 1 ∷ Guard 1 0 ∷ Give 1 0 ∷ Unguard 1 0 ∷
    Guard 0 0 ∷ Take 0 0 ∷ Unguard 0 0 ∷ Commit 0 ∷ FastGive 0 1 ∷ End 1 ∷ []

-- A third seat cancels a waiter of the ring, which is interrupted.
abbrev cancelled_there : Kind → List Event
cancelled_there WoundWait = Cancel 2 1 ∷ Guard 1 0 ∷ Heed 1 0 ∷ Leave 1 0 ∷ []
cancelled_there WaitDie = Cancel 2 0 ∷ Guard 0 0 ∷ Heed 0 0 ∷ Leave 0 0 ∷ []

abbrev ring_in : Kind → State
ring_in kind = state_after (start kind 2 3) (to_a_ring kind)

to_it : (kind : Kind) → all_pass (start kind 2 3) (to_a_ring kind) ≡ true
unfolding put ℕ_discrete
to_it WoundWait = refl
to_it WaitDie = refl

from_it : (kind : Kind) → all_pass (ring_in kind) (out_of_it kind) ≡ true
unfolding put ℕ_discrete
from_it WoundWait = refl
from_it WaitDie = refl

cancels_it : (kind : Kind) → all_pass (ring_in kind) (cancelled_there kind) ≡ true
unfolding put ℕ_discrete
cancels_it WoundWait = refl
cancels_it WaitDie = refl

reached_ring : (kind : Kind) → Reached (ring_in kind)
reached_ring kind = let from = start kind 2 3 in let there = at_start kind 2 3 in
    run_reached from (to_a_ring kind) there (a_run from there (to_a_ring kind) (to_it kind))

-- ---- the ring

waits_for : (c : State) (a b n k : ℕ) → Has (c.queue n) (record { seat = a; stamp = k; holds = true })
    → c.guard n ≡ 0 → c.owner n ≡ Taken b → a ≢ b → WaitsFor c a b
waits_for c a b n k there free own other = (
  n,
  record {
    stands = (record { seat = a; stamp = k; holds = true }, there, refl);
    outside = λ inside. omega arith;
    owner = inl own;
    other = other;
  },
)

two_contexts : (c : State) → WaitsFor c 0 1 → WaitsFor c 1 0 → c.stamp 0 ≡ 1 → c.stamp 1 ≡ 2 → IsRing c (0 ∷ 1 ∷ [])
two_contexts c v w first second = record {
  cycle = (v, w);
  contexts = (omega arith, (omega arith, tt));
  different = ((λ same. omega arith, tt), (tt, tt));
}

ring_of : (kind : Kind) → IsRing (ring_in kind) (0 ∷ 1 ∷ [])
unfolding put ℕ_discrete
ring_of WoundWait = two_contexts (ring_in WoundWait) (waits_for (ring_in WoundWait) 0 1 1 1 (inl refl) refl refl (λ same. omega arith))
    (waits_for (ring_in WoundWait) 1 0 0 2 (inl refl) refl refl (λ same. omega arith)) refl refl
ring_of WaitDie = two_contexts (ring_in WaitDie) (waits_for (ring_in WaitDie) 0 1 0 1 (inl refl) refl refl (λ same. omega arith))
    (waits_for (ring_in WaitDie) 1 0 1 2 (inl refl) refl refl (λ same. omega arith)) refl refl

of_its_kind : (kind : Kind) (c : State) (es : List Event) → c.kind ≡ kind → (state_after c es).kind ≡ kind
of_its_kind kind c [] is = is
of_its_kind kind c (e ∷ es) is = of_its_kind kind (after c e) es (same_kind c e ∙ is)

pub rings_are_reached : RingsAreReached
rings_are_reached kind = record {
  state = ring_in kind;
  of_kind = of_its_kind kind (start kind 2 3) (to_a_ring kind) refl;
  reached = reached_ring kind;
  holds = (0 ∷ 1 ∷ [], ring_of kind);
}

-- ---- the events

-- the event of this number
abbrev event_at : List Event → ℕ → Option Event
event_at [] i = None
event_at (e ∷ es) zero = Some e
event_at (e ∷ es) (suc i) = event_at es i

happens_in : (kind : Kind) (c : State) → c.kind ≡ kind → Reached c → (es : List Event) → IsRun c es
    → (i : ℕ) (e : Event) → event_at es i ≡ Some e → Happens kind e
happens_in kind c is reached [] run i e there = absurd (cc)
happens_in kind c is reached (x ∷ xs) run zero e there = let same : x ≡ e = cc in
    record { state = c; of_kind = is; reached = reached; holds = subst (Possible c) same run.0 }
happens_in kind c is reached (x ∷ xs) run (suc i) e there =
    happens_in kind (after c x) (same_kind c x ∙ is) (further c x reached run.0) xs run.1 i e there

before_ring : (kind : Kind) (i : ℕ) (e : Event) → event_at (to_a_ring kind) i ≡ Some e → Happens kind e
before_ring kind = let from = start kind 2 3 in let there = at_start kind 2 3 in
    happens_in kind from refl there (to_a_ring kind) (a_run from there (to_a_ring kind) (to_it kind))

behind_ring : (kind : Kind) (i : ℕ) (e : Event) → event_at (out_of_it kind) i ≡ Some e → Happens kind e
behind_ring kind = happens_in kind (ring_in kind) (of_its_kind kind (start kind 2 3) (to_a_ring kind) refl)
    (reached_ring kind) (out_of_it kind)
    (a_run (ring_in kind) (reached_ring kind) (out_of_it kind) (from_it kind))

where_cancelled : (kind : Kind) (i : ℕ) (e : Event) → event_at (cancelled_there kind) i ≡ Some e → Happens kind e
where_cancelled kind = happens_in kind (ring_in kind) (of_its_kind kind (start kind 2 3) (to_a_ring kind) refl)
    (reached_ring kind) (cancelled_there kind)
    (a_run (ring_in kind) (reached_ring kind) (cancelled_there kind) (cancels_it kind))

pub events_happen : EventsHappen
events_happen WoundWait = record {
  begins = (0, before_ring WoundWait 0 (Begin 0) refl);
  clears = (1, behind_ring WoundWait 9 (Clear 1) refl);
  fast = (0, 0, before_ring WoundWait 2 (Fast 0 0) refl);
  fast_gives = (0, 0, behind_ring WoundWait 14 (FastGive 0 0) refl);
  guards = (0, 1, before_ring WoundWait 4 (Guard 0 1) refl);
  joins = (0, 1, before_ring WoundWait 5 (Join 0 1) refl);
  signs = (0, 1, before_ring WoundWait 6 (Sign 0 1) refl);
  takes = (0, 1, behind_ring WoundWait 11 (Take 0 1) refl);
  asks = (0, 1, behind_ring WoundWait 4 (Ask 0 1) refl);
  gives = (1, 1, behind_ring WoundWait 7 (Give 1 1) refl);
  dies = (1, 0, behind_ring WoundWait 1 (Die 1 0) refl);
  leaves = (0, 1, before_ring WoundWait 7 (Unguard 0 1) refl);
  commits = (0, behind_ring WoundWait 13 (Commit 0) refl);
  ends = (1, behind_ring WoundWait 15 (End 1) refl);
  cancels = (2, 1, where_cancelled WoundWait 0 (Cancel 2 1) refl);
  heeds = (1, 0, where_cancelled WoundWait 2 (Heed 1 0) refl);
  is_interrupted = (1, 0, where_cancelled WoundWait 3 (Leave 1 0) refl);
}
events_happen WaitDie = record {
  begins = (0, before_ring WaitDie 0 (Begin 0) refl);
  clears = (1, behind_ring WaitDie 5 (Clear 1) refl);
  fast = (1, 0, before_ring WaitDie 3 (Fast 1 0) refl);
  fast_gives = (0, 1, behind_ring WaitDie 14 (FastGive 0 1) refl);
  guards = (1, 1, before_ring WaitDie 5 (Guard 1 1) refl);
  joins = (1, 1, before_ring WaitDie 6 (Join 1 1) refl);
  signs = (0, 1, before_ring WaitDie 13 (Sign 0 1) refl);
  takes = (0, 1, before_ring WaitDie 12 (Take 0 1) refl);
  asks = (0, 0, behind_ring WaitDie 1 (Ask 0 0) refl);
  gives = (2, 1, before_ring WaitDie 9 (Give 2 1) refl);
  dies = (1, 1, behind_ring WaitDie 4 (Die 1 1) refl);
  leaves = (1, 1, before_ring WaitDie 7 (Unguard 1 1) refl);
  commits = (0, behind_ring WaitDie 13 (Commit 0) refl);
  ends = (1, behind_ring WaitDie 15 (End 1) refl);
  cancels = (2, 0, where_cancelled WaitDie 0 (Cancel 2 0) refl);
  heeds = (0, 0, where_cancelled WaitDie 2 (Heed 0 0) refl);
  is_interrupted = (0, 0, where_cancelled WaitDie 3 (Leave 0 0) refl);
}
