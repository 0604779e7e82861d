-- What a change of one word leaves of the words: one lemma for each region of words.
use Rattle.std.proofs.Common.{◌≡◌, ◌≢◌, ℕ, ◌+◌, ◌*◌, ◌<◌, List, get_or, set, sym, ap, ◌∙◌, arith, length-set, get_or-set_other, get_or-set_same}
use mathlib.Core.Logic.{dite}
use native.Mathlib.Decide.{ℕ_discrete}
use Rattle.ww_word.specs.AnySeats.{packed}
use Rattle.ww_model.specs.declared.event.Event.{Event}
use Rattle.ww_model.specs.State.{State}
use Rattle.ww_model.specs.Event.{BasePossible, after}
use Rattle.ww_model.specs.Lawful.{IsBase}
use Rattle.ww_model.specs.State.{word_of}
use Rattle.ww_view.proofs.Written.{Leaves, word_else}
use Rattle.ww_invariant.specs.Layout.{lock_at}
use Rattle.ww_invariant.proofs.Lies.{lock_low, lock_next, lock_same, lock_even}
use Rattle.ww_invariant.specs.Rule.{Shown}

module _ (c : State) (e : Event) (can : BasePossible c e) (l : IsBase c) (locks places all : ℕ) (words : List ℕ) (sh : Shown locks places all c words) where
  pub owner_set : (n x : ℕ) → n < locks → ((m : ℕ) → m ≢ n → Leaves e m) → (after c e).cancel ≡ c.cancel
      → (after c e).guard ≡ c.guard → (after c e).sign ≡ c.sign → (after c e).drawn ≡ c.drawn
      → (after c e).commits ≡ c.commits
      → x ≡ packed (word_of (after c e) n) → Shown locks places all (after c e) (set words (lock_at locks n) x)
  owner_set n x small far cancels guards signs drawn commits here = let wide = sh.wide in record {
    wide = length-set words (lock_at locks n) x ∙ sh.wide;
    owners = λ m low. dite (ℕ_discrete m n)
        (λ is. ap (λ (k : ℕ). get_or (set words (lock_at locks n) x) (lock_at locks k) 0) is
        ∙ get_or-set_same words (lock_at locks n) x 0 (let a = lock_next locks n locks small in omega arith) ∙ here
        ∙ ap (λ (k : ℕ). packed (word_of (after c e) k)) (sym is))
        (λ isnt. get_or-set_other words (lock_at locks n) (lock_at locks m) x 0 (λ z. isnt (lock_same locks m n z)) ∙ sh.owners m low
        ∙ ap packed (sym (word_else c e m can l (far m isnt))));
    guards = λ m low. get_or-set_other words (lock_at locks n) (lock_at locks m + 1) x 0 (λ z. lock_even locks n m (sym z))
        ∙ sh.guards m low ∙ ap (λ (f : ℕ → ℕ). f m) (sym guards);
    signs = λ s low. get_or-set_other words (lock_at locks n) (lock_at locks locks + 8 * s) x 0 (λ z. let a = lock_next locks n locks small in omega arith) ∙ sh.signs s low
        ∙ ap (λ (f : ℕ → ℕ). f s) (sym signs);
    cancels = λ s low. get_or-set_other words (lock_at locks n) (lock_at locks locks + 8 * s + 1) x 0 (λ z. let a = lock_next locks n locks small in omega arith) ∙ sh.cancels s low
        ∙ ap (λ (f : ℕ → ℕ). f s) (sym cancels);
    drawn = get_or-set_other words (lock_at locks n) 0 x 0 (λ z. let a = lock_low locks n in omega arith) ∙ sh.drawn;
    front = get_or-set_other words (lock_at locks n) 8 x 0 (λ z. let a = lock_low locks n in omega arith) ∙ sh.front ∙ sym commits;
  }

  -- the two counts
  pub drawn_set : (x : ℕ) → ((m : ℕ) → Leaves e m) → (after c e).cancel ≡ c.cancel → (after c e).guard ≡ c.guard
      → (after c e).sign ≡ c.sign → (after c e).commits ≡ c.commits
      → Shown locks places x (after c e) (set words 0 x)
  drawn_set x far cancels guards signs commits = let wide = sh.wide in record {
    wide = length-set words 0 x ∙ sh.wide;
    owners = λ m low. get_or-set_other words 0 (lock_at locks m) x 0 (λ z. let a = lock_low locks m in omega arith) ∙ sh.owners m low
        ∙ ap packed (sym (word_else c e m can l (far m)));
    guards = λ m low. get_or-set_other words 0 (lock_at locks m + 1) x 0 (λ z. let a = lock_low locks m in omega arith) ∙ sh.guards m low
        ∙ ap (λ (f : ℕ → ℕ). f m) (sym guards);
    signs = λ s low. get_or-set_other words 0 (lock_at locks locks + 8 * s) x 0 (λ z. let a = lock_low locks locks in omega arith) ∙ sh.signs s low ∙ ap (λ (f : ℕ → ℕ). f s) (sym signs);
    cancels = λ s low. get_or-set_other words 0 (lock_at locks locks + 8 * s + 1) x 0 (λ z. let a = lock_low locks locks in omega arith) ∙ sh.cancels s low
        ∙ ap (λ (f : ℕ → ℕ). f s) (sym cancels);
    drawn = get_or-set_same words 0 x 0 (let a = lock_low locks locks in omega arith);
    front = get_or-set_other words 0 8 x 0 (λ z. omega arith) ∙ sh.front ∙ sym commits;
  }

  pub front_set : (x : ℕ) → ((m : ℕ) → Leaves e m) → (after c e).cancel ≡ c.cancel → (after c e).guard ≡ c.guard
      → (after c e).sign ≡ c.sign → (after c e).drawn ≡ c.drawn → (after c e).commits ≡ x
      → Shown locks places all (after c e) (set words 8 x)
  front_set x far cancels guards signs drawn commits = let wide = sh.wide in record {
    wide = length-set words 8 x ∙ sh.wide;
    owners = λ m low. get_or-set_other words 8 (lock_at locks m) x 0 (λ z. let a = lock_low locks m in omega arith) ∙ sh.owners m low
        ∙ ap packed (sym (word_else c e m can l (far m)));
    guards = λ m low. get_or-set_other words 8 (lock_at locks m + 1) x 0 (λ z. let a = lock_low locks m in omega arith) ∙ sh.guards m low
        ∙ ap (λ (f : ℕ → ℕ). f m) (sym guards);
    signs = λ s low. get_or-set_other words 8 (lock_at locks locks + 8 * s) x 0 (λ z. let a = lock_low locks locks in omega arith) ∙ sh.signs s low ∙ ap (λ (f : ℕ → ℕ). f s) (sym signs);
    cancels = λ s low. get_or-set_other words 8 (lock_at locks locks + 8 * s + 1) x 0 (λ z. let a = lock_low locks locks in omega arith) ∙ sh.cancels s low
        ∙ ap (λ (f : ℕ → ℕ). f s) (sym cancels);
    drawn = get_or-set_other words 8 0 x 0 (λ z. omega arith) ∙ sh.drawn;
    front = get_or-set_same words 8 x 0 (let a = lock_low locks locks in omega arith) ∙ sym commits;
  }

  -- no word changes
  pub none_set : ((m : ℕ) → Leaves e m) → (after c e).cancel ≡ c.cancel → (after c e).guard ≡ c.guard
      → (after c e).sign ≡ c.sign → (after c e).drawn ≡ c.drawn → (after c e).commits ≡ c.commits
      → Shown locks places all (after c e) words
  none_set far cancels guards signs drawn commits = record {
    wide = sh.wide;
    owners = λ m low. sh.owners m low ∙ ap packed (sym (word_else c e m can l (far m)));
    guards = λ m low. sh.guards m low ∙ ap (λ (f : ℕ → ℕ). f m) (sym guards);
    signs = λ s low. sh.signs s low ∙ ap (λ (f : ℕ → ℕ). f s) (sym signs);
    cancels = λ s low. sh.cancels s low ∙ ap (λ (f : ℕ → ℕ). f s) (sym cancels);
    drawn = sh.drawn;
    front = sh.front ∙ sym commits;
  }

-- a stamp is drawn in vain
pub spent_set : (c : State) (locks places all x : ℕ) (words : List ℕ) → Shown locks places all c words
    → Shown locks places x c (set words 0 x)
spent_set c locks places all x words sh = let wide = sh.wide in record {
  wide = length-set words 0 x ∙ sh.wide;
  owners = λ m low. get_or-set_other words 0 (lock_at locks m) x 0 (λ z. let a = lock_low locks m in omega arith) ∙ sh.owners m low;
  guards = λ m low. get_or-set_other words 0 (lock_at locks m + 1) x 0 (λ z. let a = lock_low locks m in omega arith) ∙ sh.guards m low;
  signs = λ s low. get_or-set_other words 0 (lock_at locks locks + 8 * s) x 0 (λ z. let a = lock_low locks locks in omega arith) ∙ sh.signs s low;
  cancels = λ s low. get_or-set_other words 0 (lock_at locks locks + 8 * s + 1) x 0 (λ z. let a = lock_low locks locks in omega arith) ∙ sh.cancels s low;
  drawn = get_or-set_same words 0 x 0 (let a = lock_low locks locks in omega arith);
  front = get_or-set_other words 0 8 x 0 (λ z. omega arith) ∙ sh.front;
}
