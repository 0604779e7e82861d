use Rattle.std.proofs.Common.{◌∙◌, ℕ, List, [], ◌∷◌, ◌++◌, Some, inr, ap, subst}
use Rattle.ww_plain.specs.Walk.{IsWalkEnd, GoesOnTo}
use Rattle.ww_users.proofs.Alongs.{along_begins, along_locks, along_goes_on, along_ends}
use Rattle.ww_users.proofs.walk.lock_along.Goals as goal

pub loop-stop-init : goal.loop-stop-init
loop-stop-init g c =
    along_begins _ _ c.in_ok-acquiring.ensures.ok c.requires.course.some
    (c.push.ensures.items ∙ ap (λ vs. vs ++ c.args.start ∷ []) c.new-walk.ensures)
    c.target_of-stop.ensures.leads (rw c.requires.home.size c.target_of-stop.ensures.there)

pub returns-then-is_over-clause-ok : goal.returns-then-is_over-clause-ok
returns-then-is_over-clause-ok g c =
    let ends = subst (λ (vs : List ℕ). IsWalkEnd vs c.args.most (Some c.in-Some.next)) c.deref.ensures.0
    (c.is_over.ensures.over c.if-is_over.true) in
    let along = along_locks c.loop-stop.invariant c.in_ok-acquiring-2.ensures.ok in
    along_ends _ _ (rw c.in-Some.is at along) ends c.in_ok-acquiring-2.ensures.ok.holds

pub loop-stop-preserved : goal.loop-stop-preserved
loop-stop-preserved g c =
    let goes = subst (λ (vs : List ℕ). GoesOnTo vs c.args.most (Some c.in-Some.next) c.in-Some.next)
    c.deref.ensures.0 (c.is_over.ensures.goes_on c.if-is_over.false) in
    let along = along_locks c.loop-stop.invariant c.in_ok-acquiring-2.ensures.ok in
    along_goes_on _ _ (rw c.in-Some.is at along) goes c.in_ok-acquiring-2.ensures.ok.holds
    c.push-in-Some.ensures.items c.target_of-stop-in-Some.ensures.leads
    (rw c.requires.home.size c.target_of-stop-in-Some.ensures.there)

pub returns-clause-ok : goal.returns-clause-ok
returns-clause-ok g c = along_ends _ _ (rw c.in_default.is at c.loop-stop.invariant) (inr tt) tt
