-- What a change of a guard word, a sign word or a cancel word leaves of the words, and a change of a list inside its
-- guard of the homes.
use Rattle.std.proofs.Common.{◌≡◌, ℕ, suc, ◌+◌, ◌*◌, ◌<◌, List, get_or, set, sym, ap, ◌∙◌, arith, length-set, get_or-set_other, get_or-set_same}
use mathlib.Core.Logic.{dite}
use mathlib.Core.Option.{some}
use mathlib.Core.Option as maybe
use native.Mathlib.Decide.{ℕ_discrete}
use Rattle.ww_word.specs.AnySeats.{packed}
use Rattle.ww_queue.specs.declared.entry.Entry.{Entry}
use Rattle.ww_model.specs.declared.state.Holder.{Holder}
use Rattle.ww_model.specs.declared.event.Event.{Event}
use Rattle.ww_model.specs.State.{State, put}
use Rattle.ww_model.specs.Event.{BasePossible, after}
use Rattle.ww_model.specs.Lawful.{IsBase}
use Rattle.ww_model.proofs.Puts.{put_here, put_else}
use Rattle.ww_plain.specs.declared.node.Node.{Node}
use Rattle.ww_view.proofs.Written.{Leaves, word_else}
use Rattle.ww_invariant.specs.declared.cells.Cell.{Cell}
use Rattle.ww_invariant.specs.declared.cells.Cell.TheVariants.{Line}
use Rattle.ww_invariant.specs.Layout.{lock_at}
use Rattle.ww_invariant.proofs.Lies.{lock_low, lock_next, lock_same, lock_even}
use Rattle.ww_invariant.specs.Rule.{Shown, AtHome}

module _ (c : State) (e : Event) (can : BasePossible c e) (l : IsBase c) (locks places all : ℕ) (words : List ℕ) (sh : Shown locks places all c words) where
  pub guard_set : (n x : ℕ) → n < locks → ((m : ℕ) → Leaves e m) → (after c e).cancel ≡ c.cancel
      → (after c e).guard ≡ put c.guard n x → (after c e).sign ≡ c.sign → (after c e).drawn ≡ c.drawn
      → (after c e).commits ≡ c.commits
      → Shown locks places all (after c e) (set words (lock_at locks n + 1) x)
  guard_set n x small far cancels guards signs drawn commits = let wide = sh.wide in record {
    wide = length-set words (lock_at locks n + 1) x ∙ sh.wide;
    owners = λ m low. get_or-set_other words (lock_at locks n + 1) (lock_at locks m) x 0 (lock_even locks m n)
        ∙ sh.owners m low ∙ ap packed (sym (word_else c e m can l (far m)));
    guards = λ m low. dite (ℕ_discrete m n)
        (λ is. ap (λ (k : ℕ). get_or (set words (lock_at locks n + 1) x) (lock_at locks k + 1) 0) is
        ∙ get_or-set_same words (lock_at locks n + 1) x 0 (let a = lock_next locks n locks small in omega arith) ∙ sym (put_here c.guard n x)
        ∙ ap (put c.guard n x) (sym is) ∙ ap (λ (f : ℕ → ℕ). f m) (sym guards))
        (λ isnt. get_or-set_other words (lock_at locks n + 1) (lock_at locks m + 1) x 0 (λ z. isnt (lock_same locks m n (omega arith)))
        ∙ sh.guards m low ∙ sym (put_else c.guard n x m isnt) ∙ ap (λ (f : ℕ → ℕ). f m) (sym guards));
    signs = λ s low. get_or-set_other words (lock_at locks n + 1) (lock_at locks locks + 8 * s) x 0 (λ z. let a = lock_next locks n locks small in omega arith) ∙ sh.signs s low
        ∙ ap (λ (f : ℕ → ℕ). f s) (sym signs);
    cancels = λ s low. get_or-set_other words (lock_at locks n + 1) (lock_at locks locks + 8 * s + 1) x 0 (λ z. let a = lock_next locks n locks small in omega arith)
        ∙ sh.cancels s low ∙ ap (λ (f : ℕ → ℕ). f s) (sym cancels);
    drawn = get_or-set_other words (lock_at locks n + 1) 0 x 0 (λ z. let a = lock_low locks n in omega arith) ∙ sh.drawn;
    front = get_or-set_other words (lock_at locks n + 1) 8 x 0 (λ z. let a = lock_low locks n in omega arith) ∙ sh.front ∙ sym commits;
  }

  pub sign_set : (u x : ℕ) → u < places → ((m : ℕ) → Leaves e m) → (after c e).cancel ≡ c.cancel
      → (after c e).guard ≡ c.guard → (after c e).sign ≡ put c.sign u x → (after c e).drawn ≡ c.drawn
      → (after c e).commits ≡ c.commits
      → Shown locks places all (after c e) (set words (lock_at locks locks + 8 * u) x)
  sign_set u x small far cancels guards signs drawn commits = let wide = sh.wide in record {
    wide = length-set words (lock_at locks locks + 8 * u) x ∙ sh.wide;
    owners = λ m low. get_or-set_other words (lock_at locks locks + 8 * u) (lock_at locks m) x 0 (λ z. let a = lock_next locks m locks low in omega arith) ∙ sh.owners m low
        ∙ ap packed (sym (word_else c e m can l (far m)));
    guards = λ m low. get_or-set_other words (lock_at locks locks + 8 * u) (lock_at locks m + 1) x 0 (λ z. let a = lock_next locks m locks low in omega arith) ∙ sh.guards m low
        ∙ ap (λ (f : ℕ → ℕ). f m) (sym guards);
    signs = λ s low. dite (ℕ_discrete s u)
        (λ is. ap (λ (k : ℕ). get_or (set words (lock_at locks locks + 8 * u) x) (lock_at locks locks + 8 * k) 0) is
        ∙ get_or-set_same words (lock_at locks locks + 8 * u) x 0 (omega arith) ∙ sym (put_here c.sign u x)
        ∙ ap (put c.sign u x) (sym is) ∙ ap (λ (f : ℕ → ℕ). f s) (sym signs))
        (λ isnt. get_or-set_other words (lock_at locks locks + 8 * u) (lock_at locks locks + 8 * s) x 0 (λ z. isnt (omega arith)) ∙ sh.signs s low
        ∙ sym (put_else c.sign u x s isnt) ∙ ap (λ (f : ℕ → ℕ). f s) (sym signs));
    cancels = λ s low. get_or-set_other words (lock_at locks locks + 8 * u) (lock_at locks locks + 8 * s + 1) x 0 (λ z. omega arith) ∙ sh.cancels s low
        ∙ ap (λ (f : ℕ → ℕ). f s) (sym cancels);
    drawn = get_or-set_other words (lock_at locks locks + 8 * u) 0 x 0 (λ z. let a = lock_low locks locks in omega arith) ∙ sh.drawn;
    front = get_or-set_other words (lock_at locks locks + 8 * u) 8 x 0 (λ z. let a = lock_low locks locks in omega arith) ∙ sh.front ∙ sym commits;
  }

  pub cancel_set : (u x : ℕ) → u < places → ((m : ℕ) → Leaves e m) → (after c e).cancel ≡ put c.cancel u x
      → (after c e).guard ≡ c.guard → (after c e).sign ≡ c.sign → (after c e).drawn ≡ c.drawn
      → (after c e).commits ≡ c.commits
      → Shown locks places all (after c e) (set words (lock_at locks locks + 8 * u + 1) x)
  cancel_set u x small far cancels guards signs drawn commits = let wide = sh.wide in record {
    wide = length-set words (lock_at locks locks + 8 * u + 1) x ∙ sh.wide;
    owners = λ m low. get_or-set_other words (lock_at locks locks + 8 * u + 1) (lock_at locks m) x 0 (λ z. let a = lock_next locks m locks low in omega arith) ∙ sh.owners m low
        ∙ ap packed (sym (word_else c e m can l (far m)));
    guards = λ m low. get_or-set_other words (lock_at locks locks + 8 * u + 1) (lock_at locks m + 1) x 0 (λ z. let a = lock_next locks m locks low in omega arith) ∙ sh.guards m low
        ∙ ap (λ (f : ℕ → ℕ). f m) (sym guards);
    signs = λ s low. get_or-set_other words (lock_at locks locks + 8 * u + 1) (lock_at locks locks + 8 * s) x 0 (λ z. omega arith) ∙ sh.signs s low
        ∙ ap (λ (f : ℕ → ℕ). f s) (sym signs);
    cancels = λ s low. dite (ℕ_discrete s u)
        (λ is. ap (λ (k : ℕ). get_or (set words (lock_at locks locks + 8 * u + 1) x) (lock_at locks locks + 8 * k + 1) 0) is
        ∙ get_or-set_same words (lock_at locks locks + 8 * u + 1) x 0 (omega arith) ∙ sym (put_here c.cancel u x)
        ∙ ap (put c.cancel u x) (sym is) ∙ ap (λ (f : ℕ → ℕ). f s) (sym cancels))
        (λ isnt. get_or-set_other words (lock_at locks locks + 8 * u + 1) (lock_at locks locks + 8 * s + 1) x 0 (λ z. isnt (omega arith)) ∙ sh.cancels s low
        ∙ sym (put_else c.cancel u x s isnt) ∙ ap (λ (f : ℕ → ℕ). f s) (sym cancels));
    drawn = get_or-set_other words (lock_at locks locks + 8 * u + 1) 0 x 0 (λ z. let a = lock_low locks locks in omega arith) ∙ sh.drawn;
    front = get_or-set_other words (lock_at locks locks + 8 * u + 1) 8 x 0 (λ z. let a = lock_low locks locks in omega arith) ∙ sh.front ∙ sym commits;
  }

-- the list of a guarded lock changes
pub list_inside : {locks : ℕ} {graph : List Node} {owner : ℕ → Holder} {homes : List (maybe.Option Cell)} (queue : ℕ → List Entry)
    (guard : ℕ → ℕ) (s n : ℕ) (q : List Entry) → guard n ≡ suc s
    → AtHome locks graph owner queue guard homes → AtHome locks graph owner (put queue n q) guard homes
list_inside queue guard s n q inside h = record {
  deep = h.deep;
  nodes = h.nodes;
  lists = λ m low free. h.lists m low free
      ∙ ap (λ (x : List Entry). some (some (Line x)))
      (sym (put_else queue n q m (λ is. let z = ap guard is in omega arith)));
}
