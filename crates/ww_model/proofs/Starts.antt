-- The lists of a core in which nothing has happened yet.
use Rattle.std.proofs.Common.{ℕ, ◌≡◌, ◌≤◌, Bool, false, List, [], get_or, replicate, Option, None, refl, sym, ap, ◌∙◌, subst, arith, ⊎_elim}
use Rattle.std.proofs.lemmas.List.{length-replicate, get_or-replicate, get_or_past}
use Rattle.std.proofs.lemmas.Bool.{cases_lt}
use mathlib.Core.Path.{fun_ext}
use Rattle.ww_queue.specs.declared.kind.Kind.{Kind}
use Rattle.ww_queue.specs.declared.entry.Entry.{Entry}
use Rattle.ww_model.specs.declared.state.Holder.{Holder}
use Rattle.ww_model.specs.declared.state.Holder.TheVariants.{Nobody}
use Rattle.ww_model.specs.State.{start}
use Rattle.ww_model.specs.Run.{Reached, at_start}
use Rattle.ww_model.specs.Snapshot.{Snapshot, state_of, guard_number, IsCore}

-- a list of equals reads the same at any number
blank : {A : Type 0} (k : ℕ) (a : A) (n : ℕ) → get_or (replicate k a) n a ≡ a
blank k a n = ⊎_elim (get_or-replicate k n a a)
    (λ past. get_or_past (replicate k a) n a (omega (arith, length-replicate k a))) (cases_lt n k)

blanks : {A B : Type 0} (f : A → B) (k : ℕ) (a : A) → ◌≡◌ {A = ℕ → B} (λ n. f (get_or (replicate k a) n a)) (λ n. f a)
blanks f k a = fun_ext (λ n. ap f (blank k a n))

module _ (kind : Kind) (locks seats : ℕ) where
  abbrev pub blank_core : Snapshot
  blank_core = record {
    kind = kind;
    drawn = 0;
    commits = 0;
    stamps = replicate seats 0;
    signs = replicate seats 0;
    owners = replicate locks Nobody;
    asked = replicate locks false;
    queues = replicate locks [];
    guards = replicate locks None;
    cancels = replicate seats 0;
    heeded = replicate seats 0;
  }

  pub blank_state : state_of blank_core ≡ start kind locks seats
  blank_state = ap (λ (k : ℕ). record (state_of blank_core) { locks = k }) (length-replicate locks Nobody)
      ∙ ap (λ (k : ℕ). record (state_of blank_core) { locks = locks; seats = k }) (length-replicate {A = ℕ} seats 0)
      ∙ ap (λ (f : ℕ → ℕ). record (state_of blank_core) { locks = locks; seats = seats; stamp = f }) (blanks (λ x. x) seats 0)
      ∙ ap (λ (f : ℕ → ℕ). record (state_of blank_core) { locks = locks; seats = seats; stamp = λ _. 0; sign = f })
      (blanks (λ x. x) seats 0)
      ∙ ap (λ (f : ℕ → Holder). record (start kind locks seats) {
        owner = f;
        asked = (state_of blank_core).asked;
        queue = (state_of blank_core).queue;
        guard = (state_of blank_core).guard;
        cancel = (state_of blank_core).cancel;
        heeded = (state_of blank_core).heeded;
      })
      (blanks (λ x. x) locks Nobody)
      ∙ ap (λ (f : ℕ → Bool). record (start kind locks seats) {
        asked = f;
        queue = (state_of blank_core).queue;
        guard = (state_of blank_core).guard;
        cancel = (state_of blank_core).cancel;
        heeded = (state_of blank_core).heeded;
      }) (blanks (λ x. x) locks false)
      ∙ ap (λ (f : ℕ → List Entry). record (start kind locks seats) {
        queue = f;
        guard = (state_of blank_core).guard;
        cancel = (state_of blank_core).cancel;
        heeded = (state_of blank_core).heeded;
      }) (blanks (λ x. x) locks [])
      ∙ ap (λ (f : ℕ → ℕ). record (start kind locks seats) {
        guard = f;
        cancel = (state_of blank_core).cancel;
        heeded = (state_of blank_core).heeded;
      }) (blanks guard_number locks None)
      ∙ ap (λ (f : ℕ → ℕ). record (start kind locks seats) { cancel = f; heeded = (state_of blank_core).heeded }) (blanks (λ x. x) seats 0)
      ∙ ap (λ (f : ℕ → ℕ). record (start kind locks seats) { heeded = f }) (blanks (λ x. x) seats 0)

  pub blank_is_core : 1 ≤ locks → locks ≤ 64 → 1 ≤ seats → seats ≤ 16 → IsCore blank_core
  blank_is_core some_lock few_locks some_seat few_seats = record {
    sizes = record {
      some_lock = omega (arith, length-replicate locks Nobody);
      locks = omega (arith, length-replicate locks Nobody);
      asked = length-replicate locks false ∙ sym (length-replicate locks Nobody);
      queues = length-replicate {A = List Entry} locks [] ∙ sym (length-replicate locks Nobody);
      guards = length-replicate {A = Option ℕ} locks None ∙ sym (length-replicate locks Nobody);
      some_seat = omega (arith, length-replicate {A = ℕ} seats 0);
      seats = omega (arith, length-replicate {A = ℕ} seats 0);
      signs = refl;
      cancels = refl;
      heeded = refl;
    };
    reached = subst Reached (sym blank_state) (at_start kind locks seats);
  }

-- whatever lists are found to be these make such a core
pub record Made (kind : Kind) (locks seats : ℕ) (s : Snapshot) : Type 0 where
  pub core : IsCore s
  pub state : state_of s ≡ start kind locks seats

pub made : (kind : Kind) (locks seats : ℕ) (stamps signs : List ℕ) (owners : List Holder) (asked : List Bool)
    (queues : List (List Entry)) (guards : List (Option ℕ)) (cancels heeded : List ℕ) →
    stamps ≡ replicate seats 0 → signs ≡ replicate seats 0 → owners ≡ replicate locks Nobody
    → asked ≡ replicate locks false → queues ≡ replicate locks [] → guards ≡ replicate locks None
    → cancels ≡ replicate seats 0 → heeded ≡ replicate seats 0 →
    1 ≤ locks → locks ≤ 64 → 1 ≤ seats → seats ≤ 16 →
    Made kind locks seats (record {
      kind = kind;
      drawn = 0;
      commits = 0;
      stamps = stamps;
      signs = signs;
      owners = owners;
      asked = asked;
      queues = queues;
      guards = guards;
      cancels = cancels;
      heeded = heeded;
    })
made kind locks seats stamps signs owners asked queues guards cancels heeded a b d e f g h i some_lock few_locks some_seat few_seats =
    let here : Snapshot = record {
      kind = kind;
      drawn = 0;
      commits = 0;
      stamps = stamps;
      signs = signs;
      owners = owners;
      asked = asked;
      queues = queues;
      guards = guards;
      cancels = cancels;
      heeded = heeded;
    } in
    let same : blank_core kind locks seats ≡ here = cc in
    subst (Made kind locks seats) same (record {
      core =
          blank_is_core kind locks seats some_lock few_locks some_seat few_seats;
      state = blank_state kind locks seats;
    })
