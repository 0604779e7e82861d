-- Where nobody is inside a guard somebody can go on, or the core is empty.
use Rattle.std.proofs.Common.{ℕ, suc, zero, ◌≡◌, ◌≢◌, ◌<◌, ◌≤◌, ◌⊎◌, inl, inr, ⊎_elim, List, [], ◌∷◌, refl, sym, ap, ◌∙◌, subst, arith}
use Rattle.std.proofs.lemmas.Bool.{false_from_ne_true}
use mathlib.Core.Logic.{dite}
use native.Mathlib.Decide.{ℕ_discrete, dec_le}
use Rattle.ww_queue.specs.declared.kind.Kind.{Kind}
use Rattle.ww_queue.specs.declared.kind.Kind.TheVariants.{WoundWait, WaitDie}
use Rattle.ww_queue.specs.declared.entry.Entry.{Entry}
use Rattle.ww_queue.specs.Queue.{Has, Stands, StandsNot}
use Rattle.ww_model.specs.declared.state.Holder.{Holder}
use Rattle.ww_model.specs.declared.state.Holder.TheVariants.{Nobody, Taken, Handed}
use Rattle.ww_model.specs.declared.event.Event.TheVariants.{Clear, Guard, End}
use Rattle.ww_model.specs.State.{State, put, OwnsNone, Inside, InNoQueue, dies}
use Rattle.ww_model.specs.Event.{Possible, after}
use Rattle.ww_model.specs.Lawful.{IsLawful}
use Rattle.ww_model.specs.Run.{Reached}
use Rattle.ww_model.specs.Waits.{WaitsAt}
use Rattle.ww_model.specs.Emptied.{IsEmptied}
use Rattle.ww_model.specs.Oldest.{IsOldest}
use Rattle.ww_model.proofs.Puts.{put_here}
use Rattle.ww_model.proofs.Cancels.{away_unheeded}
use Rattle.ww_model.proofs.Options.{some_of}
use Rattle.ww_model.proofs.Kept.{reached_is_lawful}
use Rattle.ww_model.proofs.Rings.{YieldsTo, Onward, waiting_owner, edge}
use Rattle.ww_model.proofs.Leaving.{waiters_are_seats, condemned_can_die}
use Rattle.ww_model.proofs.Ranges.{takers_are_seats}
use Rattle.ww_model.proofs.Beyond.{queues_beyond, guards_are, stamps_beyond}
use Rattle.ww_laws.proofs.Moves.{stay, first, Sparing, ButSigns}
use Rattle.ww_laws.proofs.Burden.{GetsLighter, goes_and_takes, goes_and_gives, goes_and_dies, ends}
use Rattle.ww_laws.proofs.InsideMoves.{with_signs, stands_or_not, waiter_may_own, waiter_is_calm, inside_move}

-- each number below the bound is of the one sort, or there is one of the other
pub search : (P Q : ℕ → Type 0) → ((n : ℕ) → P n ⊎ Q n) → (k : ℕ) → ((n : ℕ) → n < k → P n) ⊎ ((n : ℕ) × (n < k) × Q n)
search P Q sort zero = inl (λ n below. absurd (omega arith))
search P Q sort (suc k) = ⊎_elim
    (λ all. ⊎_elim
    (λ here. inl (λ n below. dite (ℕ_discrete n k) (λ is. subst P (sym is) here) (λ isnt. all n (omega arith))))
    (λ here. inr (k, omega arith, here)) (sort k))
    (λ one. inr (one.0, let below = one.1 in omega arith, one.2)) (search P Q sort k)

-- the order in which the kind lets owners go: Wound-Wait the oldest first, Wait-Die the youngest
abbrev GoesFirst : Kind → ℕ → ℕ → Type 0
GoesFirst WoundWait x y = x ≤ y
GoesFirst WaitDie x y = y ≤ x

one_goes_first : (kind : Kind) (x y : ℕ) → GoesFirst kind x y ⊎ GoesFirst kind y x
one_goes_first WoundWait x y = dite (dec_le x y) inl (λ isnt. inr (omega arith))
one_goes_first WaitDie x y = dite (dec_le y x) inl (λ isnt. inr (omega arith))

goes_before : (kind : Kind) (x y z : ℕ) → GoesFirst kind x y → GoesFirst kind y z → GoesFirst kind x z
goes_before WoundWait x y z p q = omega arith
goes_before WaitDie x y z p q = omega arith

goes_itself : (kind : Kind) (x : ℕ) → GoesFirst kind x x
goes_itself WoundWait x = omega arith
goes_itself WaitDie x = omega arith

-- who goes first can't wait for the other without a condemned one
goes_not_onward : (kind : Kind) (x y : ℕ) → GoesFirst kind x y → Onward kind x y → ⊥
goes_not_onward WoundWait x y first on = omega arith
goes_not_onward WaitDie x y first on = omega arith

holder_is : (o : Holder) → (o ≡ Nobody) ⊎ (((t : ℕ) × (o ≡ Taken t)) ⊎ ((t : ℕ) × (o ≡ Handed t)))
holder_is Nobody = inl refl
holder_is (Taken t) = inr (inl (t, refl))
holder_is (Handed t) = inr (inr (t, refl))

module _ (spared : ℕ → Type 0) (c : State) (reached : Reached c)
    (spared_waits : (s : ℕ) → spared s → IsOldest c s × ((n : ℕ) × Stands (c.queue n) s) × (c.heeded s ≡ 0))
    (quiet : (n : ℕ) → c.guard n ≡ 0) where
  lawful : IsLawful c
  lawful = reached_is_lawful c reached

  inside_none : (s n : ℕ) → c.guard n ≢ suc s
  inside_none s n is = let z = quiet n in omega arith

  lock_of : (n : ℕ) (e : Entry) → Has (c.queue n) e → n < c.locks
  lock_of n e h = dite (dec_le c.locks n)
      (λ beyond. absurd (subst (λ q. Has q e) (queues_beyond c reached n beyond) h))
      (λ within. omega arith)

  -- ---- a seat that waits

  can_go : (s n : ℕ) → Stands (c.queue n) s → Possible c (Guard s n)
  can_go s n waits = record {
    base = record {
      seat = let below = waiters_are_seats c reached n waits.0 waits.1 in let is = waits.2 in omega arith;
      lock = lock_of n waits.0 waits.1;
      inside_none = inside_none s;
      free = quiet n;
      why = inr (inl waits);
    };
    signs = inr (inl waits);
  }

  gone_inside : (s n : ℕ) → Possible c (Guard s n) → Inside (after c (Guard s n)) s n
  gone_inside s n can = record { guard = put_here c.guard n (suc s); lock = can.base.lock; seat = can.base.seat }

  waiter_takes : (s n : ℕ) → Stands (c.queue n) s → (c.owner n ≡ Nobody) ⊎ (c.owner n ≡ Handed s) → GetsLighter spared c
  waiter_takes s n waits free = let can = can_go s n waits in goes_and_takes spared c s n waits can (record {
    base = record { inside = gone_inside s n can; may_own = waiter_may_own c reached s n waits; free = free };
    signs = waiter_is_calm c reached s n waits;
  })

  condemned_dies : (a b : ℕ) → YieldsTo c a b → GetsLighter spared c
  condemned_dies a b yields = let condemned = yields.0 in let cause = some_of (dies c a condemned.lock) condemned.dies_there in
      let way = condemned_can_die c reached a condemned (quiet condemned.lock) cause.0 cause.1 in
      goes_and_dies spared c a condemned.lock
      (λ is. let older = yields.1 in let younger = yields.2 in
      let least = (spared_waits a is).0.oldest b older in omega arith) way.guard way.die

  -- ---- a seat that owns a lock and doesn't wait

  owned_lock : (n t : ℕ) → c.owner n ≡ Taken t → n < c.locks
  owned_lock n t own = dite (dec_le c.locks n)
      (λ beyond. absurd (let none = lawful.base.owners.beyond n beyond in cc)) (λ within. omega arith)

  owner_gives : (n t : ℕ) → c.owner n ≡ Taken t → InNoQueue c t → GetsLighter spared c
  owner_gives n t own none = goes_and_gives spared c t n (λ is. let w = (spared_waits t is).1 in none w.0 w.1.0 w.1.1 w.1.2) can (record {
    base = record { inside = gone_inside t n can; owns = own; waiter = λ asked. ((lawful.base.owners.at n).asked_taken asked).1 };
    signs = tt;
  })
    where
      can : Possible c (Guard t n)
      can = record {
        base = record {
          seat = takers_are_seats c reached n t own;
          lock = owned_lock n t own;
          inside_none = inside_none t;
          free = quiet n;
          why = inl (own, none);
        };
        signs = inl own;
      }

  -- ---- a lock with which nobody can go on at once

  -- its owner waits elsewhere
  abbrev IsStuck : ℕ → Type 0
  IsStuck n = (t : ℕ) × (c.owner n ≡ Taken t) × ((m : ℕ) × Stands (c.queue m) t)

  abbrev IsFree : ℕ → Type 0
  IsFree n = (c.owner n ≡ Nobody) × (c.queue n ≡ [])

  abbrev Rests : ℕ → Type 0
  Rests n = IsFree n ⊎ IsStuck n

  waits_or_not : (t : ℕ) → InNoQueue c t ⊎ ((m : ℕ) × Stands (c.queue m) t)
  waits_or_not t = ⊎_elim
      (λ none. inl (λ n. dite (dec_le c.locks n)
      (λ beyond. subst (λ q. StandsNot q t) (sym (queues_beyond c reached n beyond)) (λ e h. absurd h))
      (λ within. none n (omega arith))))
      (λ one. inr (one.0, one.2))
      (search (λ n. StandsNot (c.queue n) t) (λ n. Stands (c.queue n) t) (λ n. ⊎_elim inr inl (stands_or_not (c.queue n) t)) c.locks)

  free_rests : (n : ℕ) (q : List Entry) → c.queue n ≡ q → c.owner n ≡ Nobody → Rests n ⊎ GetsLighter spared c
  free_rests n [] is none = inl (inl (none, is))
  free_rests n (e ∷ es) is none = inr (waiter_takes e.seat n (e, subst (λ q. Has q e) (sym is) (inl refl), refl) (inl none))

  rests_or_moves : (n : ℕ) → Rests n ⊎ GetsLighter spared c
  rests_or_moves n = ⊎_elim (λ none. free_rests n (c.queue n) refl none)
      (⊎_elim
      (λ taken. ⊎_elim
      (λ none. inr (owner_gives n taken.0 taken.1 none))
      (λ waits. inl (inr (taken.0, taken.1, waits))) (waits_or_not taken.0))
      (λ handed. inr (waiter_takes handed.0 n ((lawful.base.owners.at n).handed_stands handed.0 handed.1) (inr handed.1))))
      (holder_is (c.owner n))

  -- ---- of the owners, all of whom wait, one that goes first

  -- whoever has taken one of the first locks goes behind this stamp
  abbrev AllBehind : ℕ → ℕ → Type 0
  AllBehind x k = (m u : ℕ) → m < k → c.owner m ≡ Taken u → GoesFirst c.kind x (c.stamp u)

  one_behind : (x k t : ℕ) → c.owner k ≡ Taken t → GoesFirst c.kind x (c.stamp t) → AllBehind x k → AllBehind x (suc k)
  one_behind x k t own here others m u below own' = dite (ℕ_discrete m k)
      (λ is. subst (λ v. GoesFirst c.kind x (c.stamp v)) (let at = ap c.owner is in cc) here)
      (λ isnt. others m u (omega arith) own')

  record FirstOwner (k : ℕ) : Type 0 where
    pub lock : ℕ
    pub seat : ℕ
    pub owns : c.owner lock ≡ Taken seat
    pub first_of : AllBehind (c.stamp seat) k

  first_with : (k t : ℕ) → c.owner k ≡ Taken t → ((n : ℕ) → n < k → c.owner n ≡ Nobody) ⊎ FirstOwner k → FirstOwner (suc k)
  first_with k t own (inl none) = record {
    lock = k;
    seat = t;
    owns = own;
    first_of = one_behind (c.stamp t) k t own (goes_itself c.kind (c.stamp t)) (λ m u below own'. absurd (let nobody = none m below in cc));
  }
  first_with k t own (inr best) = ⊎_elim
      (λ stays. record {
        lock = best.lock;
        seat = best.seat;
        owns = best.owns;
        first_of = one_behind (c.stamp best.seat) k t own stays best.first_of;
      })
      (λ changes. record {
        lock = k;
        seat = t;
        owns = own;
        first_of = one_behind (c.stamp t) k t own (goes_itself c.kind (c.stamp t))
            (λ m u below own'. goes_before c.kind (c.stamp t) (c.stamp best.seat) (c.stamp u) changes (best.first_of m u below own'));
      })
      (one_goes_first c.kind (c.stamp best.seat) (c.stamp t))

  none_more : (k : ℕ) → c.owner k ≡ Nobody → ((n : ℕ) → n < k → c.owner n ≡ Nobody) ⊎ FirstOwner k
      → ((n : ℕ) → n < suc k → c.owner n ≡ Nobody) ⊎ FirstOwner (suc k)
  none_more k free (inl none) = inl (λ n below. dite (ℕ_discrete n k) (λ is. ap c.owner is ∙ free) (λ isnt. none n (omega arith)))
  none_more k free (inr best) = inr (record {
    lock = best.lock;
    seat = best.seat;
    owns = best.owns;
    first_of = λ m u below own. dite (ℕ_discrete m k) (λ is. absurd (let none = ap c.owner is ∙ free in cc))
        (λ isnt. best.first_of m u (omega arith) own);
  })

  first_owner : ((n : ℕ) → Rests n) → (k : ℕ) → ((n : ℕ) → n < k → c.owner n ≡ Nobody) ⊎ FirstOwner k
  first_owner rests zero = inl (λ n below. absurd (omega arith))
  first_owner rests (suc k) = ⊎_elim
      (λ free. none_more k free.0 (first_owner rests k))
      (λ stuck. inr (first_with k stuck.0 stuck.1 (first_owner rests k)))
      (rests k)

  -- ---- it, or who keeps it waiting, has to die

  -- where somebody waits and nobody can go on at once, another owns the lock and waits too
  stuck_at : ((n : ℕ) → Rests n) → (s n : ℕ) → Stands (c.queue n) s → (u : ℕ) × (u ≢ s) × (c.owner n ≡ Taken u)
      × ((j : ℕ) × Stands (c.queue j) u)
  stuck_at rests s n waits = ⊎_elim
      (λ free. absurd (subst (λ q. Has q waits.0) free.1 waits.1))
      (λ stuck. (
        stuck.0,
        (λ is. (lawful.base.owners.at n).taken_stands_not stuck.0 stuck.1 waits.0 waits.1
            (waits.2 ∙ sym is)),
        stuck.1,
        stuck.2,
      ))
      (rests n)

  waits_there : (t u m : ℕ) → Stands (c.queue m) t → u ≢ t → c.owner m ≡ Taken u → WaitsAt c t u m
  waits_there t u m waits other own = record { stands = waits; outside = inside_none t m; owner = inl own; other = λ is. other (sym is) }

  -- t has taken lock n, goes first and waits at lock m, whose owner waits
  first_dies : ((n : ℕ) → Rests n) → (n t m : ℕ) → c.owner n ≡ Taken t → AllBehind (c.stamp t) c.locks
      → Stands (c.queue m) t → GetsLighter spared c
  first_dies rests n t m own behind waits = let r = stuck_at rests t m waits in let u = r.0 in let j = r.3.0 in
      let r' = stuck_at rests u j r.3.1 in ⊎_elim
      (condemned_dies t u)
      (⊎_elim (condemned_dies u t) (λ on. absurd (goes_not_onward c.kind (c.stamp t) (c.stamp u) (behind m u (owned_lock m u r.2) r.2) on)))
      (edge c lawful c.kind refl t u m j (waiting_owner c lawful.base t u n m own (waits_there t u m waits r.1 r.2))
      (waiting_owner c lawful.base u r'.0 m j r.2 (waits_there u r'.0 j r.3.1 r'.1 r'.2)) r.2 (inside_none u m) (λ is. r.1 (sym is)))

  first_moves : ((n : ℕ) → Rests n) → FirstOwner c.locks → GetsLighter spared c
  first_moves rests best = ⊎_elim (owner_gives best.lock best.seat best.owns)
      (λ waits. first_dies rests best.lock best.seat waits.0 best.owns best.first_of waits.1) (waits_or_not best.seat)

  -- ---- nobody owns or waits

  all_free : ((n : ℕ) → Rests n) → ((n : ℕ) → n < c.locks → c.owner n ≡ Nobody) → (n : ℕ) → (c.owner n ≡ Nobody) × (c.queue n ≡ [])
  all_free rests none n = ⊎_elim (λ free. free)
      (λ stuck. absurd (let nobody = none n (owned_lock n stuck.0 stuck.1) in let own = stuck.1 in cc)) (rests n)

  context_ends : ((n : ℕ) → (c.owner n ≡ Nobody) × (c.queue n ≡ [])) → (s : ℕ) → s < c.seats → 0 < c.stamp s → GetsLighter spared c
  context_ends free s seat context = ends spared c reached s
      (λ is. let w = (spared_waits s is).1 in in_no_queue w.0 w.1.0 w.1.1 w.1.2) (dite (ℕ_discrete (c.sign s) 0)
      (λ none. stay (Sparing spared) c (λ d. ButSigns c d × Possible d (End s)) ((c.sign, refl), can_end c.sign none))
      (λ some. first (Sparing spared) c (Clear s) (λ d. ButSigns c d × Possible d (End s)) (tt, λ u _. tt)
      (record { base = context; signs = inl (record { seat = seat; inside = inside_none s; queue = in_no_queue }, owns_none) })
      (stay (Sparing spared) (after c (Clear s)) (λ d. ButSigns c d × Possible d (End s))
      ((put c.sign s 0, refl), can_end (put c.sign s 0) (put_here c.sign s 0)))))
    where
      in_no_queue : InNoQueue c s
      in_no_queue n e h = absurd (subst (λ q. Has q e) (free n).1 h)

      owns_none : OwnsNone c s
      owns_none n own = let none = (free n).0 in cc

      can_end : (signs : ℕ → ℕ) → signs s ≡ 0 → Possible (with_signs c signs) (End s)
      can_end signs none = record {
        base = record {
          away = record { seat = seat; inside = inside_none s; queue = in_no_queue };
          context = context;
          owns_none = owns_none;
        };
        signs = none;
      }

  is_emptied : ((n : ℕ) → (c.owner n ≡ Nobody) × (c.queue n ≡ [])) → ((s : ℕ) → c.stamp s ≡ 0) → IsEmptied c
  is_emptied free none = record {
    owner = λ n. (free n).0;
    queue = λ n. (free n).1;
    asked = λ n. false_from_ne_true (c.asked n) (λ asked. ((lawful.base.owners.at n).asked_taken asked).1 (free n).1);
    guard = quiet;
    stamp = none;
    sign = λ s. dite (ℕ_discrete (c.sign s) 0) (λ is. is)
        (λ some. absurd (let older = lawful.signs.older_signs s (omega arith) in let z = none s in omega arith));
    heeded = λ s. away_unheeded c lawful.base s (λ n e h. absurd (subst (λ q. Has q e) (free n).1 h));
  }

  ends_or_empty : ((n : ℕ) → (c.owner n ≡ Nobody) × (c.queue n ≡ [])) → IsEmptied c ⊎ GetsLighter spared c
  ends_or_empty free = ⊎_elim
      (λ none. inl (is_emptied free (λ s. dite (dec_le c.seats s) (stamps_beyond c reached s) (λ within. none s (omega arith)))))
      (λ one. inr (context_ends free one.0 one.1 one.2))
      (search (λ s. c.stamp s ≡ 0) (λ s. 0 < c.stamp s) (λ s. dite (ℕ_discrete (c.stamp s) 0) inl (λ some. inr (omega arith))) c.seats)

  pub outside_move : IsEmptied c ⊎ GetsLighter spared c
  outside_move = ⊎_elim
      (λ rest. let rests = λ (n : ℕ). everywhere rest n in ⊎_elim
      (λ none. ends_or_empty (all_free rests none))
      (λ best. inr (first_moves rests best)) (first_owner rests c.locks))
      (λ moves. inr moves.2)
      (search Rests (λ n. GetsLighter spared c) rests_or_moves c.locks)
    where
      everywhere : ((n : ℕ) → n < c.locks → Rests n) → (n : ℕ) → Rests n
      everywhere rest n = dite (dec_le c.locks n)
          (λ beyond. inl (lawful.base.owners.beyond n beyond, queues_beyond c reached n beyond))
          (λ within. rest n (omega arith))

-- whether somebody is inside the guard
pub guard_is : (g : ℕ) → (g ≡ 0) ⊎ ((s : ℕ) × (g ≡ suc s))
guard_is zero = inl refl
guard_is (suc s) = inr (s, refl)

-- everything is free, or some run makes the burden smaller, if the spared seat is the oldest and waits
pub empty_or_lighter : (spared : ℕ → Type 0) (c : State) → Reached c
    → ((s : ℕ) → spared s → IsOldest c s × ((n : ℕ) × Stands (c.queue n) s) × (c.heeded s ≡ 0)) →
    IsEmptied c ⊎ GetsLighter spared c
empty_or_lighter spared c reached spared_waits = ⊎_elim
    (λ quiet. outside_move spared c reached spared_waits (λ n. ⊎_elim (λ none. none)
    (λ one. let inside = guards_are c reached one.0 n one.1 in quiet n inside.lock) (guard_is (c.guard n))))
    (λ one. inr (inside_move spared c reached one.2.0 one.0 (guards_are c reached one.2.0 one.0 one.2.1)
    (λ is. let w = spared_waits one.2.0 is in (w.0, w.2))))
    (search (λ n. c.guard n ≡ 0) (λ n. (s : ℕ) × (c.guard n ≡ suc s)) (λ n. guard_is (c.guard n)) c.locks)
