-- A context on a seat that did nothing yet.
use Rattle.std.proofs.Common.{ℕ, ◌<◌, refl, inl, inr, arith}
use Rattle.ww_queue.specs.declared.kind.Kind.{Kind}
use Rattle.ww_view.specs.May.{MayFast}
use Rattle.ww_view.specs.Made.{begun}
use Rattle.ww_invariant.specs.Rule.{first_part}
use Rattle.ww_invariant.specs.Steps.{MayDraw}
use Rattle.ww_invariant.proofs.Seats.{bare_first}

pub may_draw : (kind : Kind) (locks places k : ℕ) → MayDraw (first_part kind locks places k)
may_draw kind locks places k =
    record { away = (refl, refl); no_context = refl; bare = bare_first kind locks places k; fewer = omega arith }

pub may_fast : (kind : Kind) (locks places k stamp : ℕ) → 0 < stamp
    → MayFast (begun (first_part kind locks places k).core stamp)
may_fast kind locks places k stamp some = record { away = (refl, refl); base = inl some; signs = inr (inl refl) }
