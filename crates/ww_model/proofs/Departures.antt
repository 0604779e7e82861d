-- A seat leaves a wait list: whoever stands in a list then stood there before.
use Rattle.std.proofs.Common.{◌≡◌, ℕ, List, [], sym, ap, ◌∙◌, subst}
use Rattle.ww_queue.specs.declared.entry.Entry.{Entry}
use Rattle.ww_queue.specs.Queue.{Has, Before, left}
use Rattle.ww_queue.proofs.Leaves.{left_has, left_before}
use Rattle.ww_model.specs.State.{put}
use Rattle.ww_model.proofs.Puts.{put_cases}

module _ (queue : ℕ → List Entry) (n s m : ℕ) where
  pub stood : (e : Entry) → Has (put queue n (left (queue n) s) m) e → Has (queue m) e
  stood e = put_cases queue n (left (queue n) s) m (λ q. Has q e → Has (queue m) e)
      (λ is h. subst (λ x. Has (queue x) e) (sym is) (left_has (queue n) s e h)) (λ _ h. h)

  pub stood_before : (e f : Entry) → Before (put queue n (left (queue n) s) m) e f → Before (queue m) e f
  stood_before e f = put_cases queue n (left (queue n) s) m (λ q. Before q e f → Before (queue m) e f)
      (λ is h. subst (λ x. Before (queue x) e f) (sym is) (left_before (queue n) s e f h)) (λ _ h. h)

  pub none_stood : queue m ≡ [] → put queue n (left (queue n) s) m ≡ []
  none_stood none = put_cases queue n (left (queue n) s) m (λ q. q ≡ [])
      (λ is. ap (λ q. left q s) (ap queue (sym is) ∙ none)) (λ _. none)
