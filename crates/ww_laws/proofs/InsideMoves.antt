-- A seat inside a guard can take the lock, die, or leave the guard.
use Rattle.std.proofs.Common.{ℕ, ◌≡◌, ◌≢◌, ◌<◌, ◌⊎◌, inl, inr, ⊎_elim, Bool, true, false, List, [], ◌∷◌, Option, Some, None, refl, sym, ap, ◌∙◌, subst, arith}
use Rattle.std.specs.Option.{IsSome}
use mathlib.Core.Logic.{dite}
use native.Mathlib.Decide.{ℕ_discrete}
use Rattle.ww_queue.specs.declared.kind.Kind.TheVariants.{WoundWait, WaitDie}
use Rattle.ww_queue.specs.declared.entry.Entry.{Entry}
use Rattle.ww_queue.specs.Queue.{Has, Stands, StandsNot}
use Rattle.ww_queue.specs.Rules.{owed_signs}
use Rattle.ww_queue.proofs.Deaths.{only_waiters_die}
use Rattle.ww_queue.proofs.Signs.{signed_why}
use Rattle.ww_model.specs.declared.state.Holder.{Holder}
use Rattle.ww_model.specs.declared.state.Holder.TheVariants.{Nobody, Taken, Handed}
use Rattle.ww_model.specs.declared.event.Event.TheVariants.{Clear, Sign, Unguard}
use Rattle.ww_model.specs.State.{State, put, HasOther, Inside, MayOwn, IsCalm, owner_as, dies, owes, place_of}
use Rattle.ww_model.specs.Event.{Possible, owed_to, after}
use Rattle.ww_model.specs.Lawful.{IsLawful}
use Rattle.ww_model.specs.Run.{Reached}
use Rattle.ww_model.specs.Emptied.{LeadsBy}
use Rattle.ww_model.specs.Oldest.{IsOldest}
use Rattle.ww_model.proofs.Puts.{put_here, put_cases}
use Rattle.ww_model.proofs.Dues.{by_kind, dies_why, dies_unsigned, sign_for, owed_there, sign_some}
use Rattle.ww_model.proofs.Kept.{reached_is_lawful}
use Rattle.ww_model.proofs.Outside.{signed_owns_outside}
use Rattle.ww_model.proofs.Ranges.{place_is}
use Rattle.ww_laws.proofs.Oldest.{oldest_lives}
use Rattle.ww_laws.proofs.Moves.{stay, first, and_then, Sparing, ButSigns}
use Rattle.ww_laws.proofs.Burden.{GetsLighter, takes, dies as dies_now, leaves, interrupted}

-- the state with these signs
abbrev pub with_signs : State → (ℕ → ℕ) → State
with_signs c signs = record c { sign = signs }

-- ---- a waiter, by what it owns

pub stands_or_not : (q : List Entry) (s : ℕ) → Stands q s ⊎ StandsNot q s
stands_or_not [] s = inr (λ e h. absurd h)
stands_or_not (x ∷ xs) s = dite (ℕ_discrete x.seat s)
    (λ is. inl (x, inl refl, is))
    (λ isnt. ⊎_elim (λ later. inl (later.0, inr later.1, later.2))
    (λ none. inr (λ e h. ⊎_elim (λ same other. isnt (sym (ap (λ (y : Entry). y.seat) same) ∙ other)) (λ h'. none e h') h))
    (stands_or_not xs s))

module _ (c : State) (reached : Reached c) (s n : ℕ) (waits : Stands (c.queue n) s) where
  lawful : IsLawful c
  lawful = reached_is_lawful c reached

  pub waiter_may_own : MayOwn c s
  waiter_may_own = dite (ℕ_discrete (c.stamp s) 0)
      (λ none. inr (λ m own. lawful.base.solos.none_queued n m waits.0 waits.1 (ap c.stamp waits.2 ∙ none) (own ∙ ap Taken (sym waits.2))))
      (λ some. inl (omega arith))

  -- a waiter that owns no lock has no sign
  pub waiter_is_calm : IsCalm c s
  waiter_is_calm = dite (ℕ_discrete (c.sign s) 0) inl
      (λ some. let signed : 0 < c.sign s = omega arith in by_kind c.kind (IsCalm c s)
      (λ wounding. by_holds wounding waits.0.holds refl)
      (λ dying. let own = signed_owns_outside c reached dying s signed in inr (own.0, own.1)))
    where
      by_holds : c.kind ≡ WoundWait → (holds : Bool) → waits.0.holds ≡ holds → IsCalm c s
      by_holds wounding true is = let own = (lawful.base.queues.at n).holds waits.0 waits.1 is in inr (own.0, own.1 ∙ ap Taken waits.2)
      by_holds wounding false is = inl (ap c.sign (sym waits.2)
          ∙ lawful.signs.signs.unowning wounding n waits.0 waits.1
          ((lawful.base.queues.at n).holds_not waits.0 waits.1 is))

-- ---- leaving the guard

-- a waiter finds the lock free, or another has it
pub free_or_other : (c : State) → Reached c → (s n : ℕ) → Stands (c.queue n) s
    → ((c.owner n ≡ Nobody) ⊎ (c.owner n ≡ Handed s)) ⊎ HasOther c s n
free_or_other c reached s n waits = go (c.owner n) refl
  where
    go : (owner : Holder) → c.owner n ≡ owner → ((c.owner n ≡ Nobody) ⊎ (c.owner n ≡ Handed s)) ⊎ HasOther c s n
    go Nobody is = inl (inl is)
    go (Taken t) is = inr (
      t,
      (λ same. ((reached_is_lawful c reached).base.owners.at n).taken_stands_not t is
          waits.0 waits.1 (waits.2 ∙ sym same)),
      inl is,
    )
    go (Handed t) is = dite (ℕ_discrete t s) (λ same. inl (inr (is ∙ ap Handed same))) (λ isnt. inr (t, isnt, inr is))

module _ (spared : ℕ → Type 0) (c : State) (s n : ℕ) (inside : Inside c s n) where
  -- the signs that are owed to these are given, and in Wait-Die the seat itself gets none
  record ArePaid (pairs : List (ℕ × ℕ)) (d : State) : Type 0 where
    pub signs : ℕ → ℕ
    pub state : d ≡ with_signs c signs
    pub signed : (v k : ℕ) → Has pairs (v, k) → signs v ≢ 0
    pub unsigned : c.kind ≡ WaitDie → signs s ≡ 0

  -- one sign more
  pay_one : (pairs : List (ℕ × ℕ)) (v k : ℕ) → Has (owes c s n) (v, k) → (d : State) → Reached d → ArePaid pairs d
      → LeadsBy (Sparing spared) d (ArePaid ((v, k) ∷ pairs))
  pay_one pairs v k owed d reached paid =
      subst (λ x. LeadsBy (Sparing spared) x (ArePaid ((v, k) ∷ pairs))) (sym paid.state)
      (dite (ℕ_discrete (paid.signs v) 0)
      (λ none. first (Sparing spared) e (Sign s v) (ArePaid ((v, k) ∷ pairs)) (tt, λ u _. tt) (can none)
      (stay (Sparing spared) (after e (Sign s v)) (ArePaid ((v, k) ∷ pairs)) (record {
        signs = put paid.signs v (sign_for e s v);
        state = refl;
        signed = λ u j h. put_cases paid.signs v (sign_for e s v) u (λ x. x ≢ 0) (λ _ z. let p = given none in omega arith)
            (λ isnt. ⊎_elim (λ is. absurd (isnt (ap (λ (x : ℕ × ℕ). x.0) is))) (λ h'. paid.signed u j h') h);
        unsigned = λ dying. put_cases paid.signs v (sign_for e s v) s (λ x. x ≡ 0)
            (λ is. absurd ((signed_why (owner_as c (c.owner n)) (c.queue n) s v k
            (subst (λ x. Has (owed_signs x (owner_as c (c.owner n)) (c.queue n) s) (v, k)) dying owed)).0
            (sym is)))
            (λ _. paid.unsigned dying);
      })))
      (λ some. stay (Sparing spared) e (ArePaid ((v, k) ∷ pairs)) (record {
        signs = paid.signs;
        state = refl;
        signed = λ u j h. ⊎_elim (λ is z. some (sym (ap paid.signs (ap (λ (x : ℕ × ℕ). x.0) is)) ∙ z)) (λ h'. paid.signed u j h') h;
        unsigned = paid.unsigned;
      })))
    where
      e : State
      e = with_signs c paid.signs

      reached_e : Reached e
      reached_e = subst Reached paid.state reached

      place : place_of e s ≡ n
      place = place_is e reached_e s n (record { guard = inside.guard; lock = inside.lock; seat = inside.seat })

      can_pay : IsSome (owed_to v (owes e s (place_of e s)))
      can_pay = subst (λ m. IsSome (owed_to v (owes e s m))) (sym place) (owed_there v k (owes c s n) owed)

      given : paid.signs v ≡ 0 → 0 < sign_for e s v
      given none = sign_some e s v (reached_is_lawful e reached_e).base can_pay

      can : paid.signs v ≡ 0 → Possible e (Sign s v)
      can none = record {
        base = subst (λ m. Inside e s m) (sym place) (record { guard = inside.guard; lock = inside.lock; seat = inside.seat });
        signs = record { unsigned = none; owed = can_pay };
      }

  pay : (pairs : List (ℕ × ℕ)) → ((v k : ℕ) → Has pairs (v, k) → Has (owes c s n) (v, k)) → (d : State) → Reached d
      → ArePaid [] d → LeadsBy (Sparing spared) d (ArePaid pairs)
  pay [] owed d reached paid = stay (Sparing spared) d (ArePaid []) paid
  pay (p ∷ ps) owed d reached paid = and_then (Sparing spared) d (ArePaid ps) (ArePaid (p ∷ ps)) reached
      (pay ps (λ v k h. owed v k (inr h)) d reached paid)
      (λ d' reached' paid'. pay_one ps p.0 p.1 (owed p.0 p.1 (inl refl)) d' reached' paid')

  -- whoever is not kept inside leaves, after it has cleared its sign, in Wait-Die, and paid what it owes
  pub leave : Reached c → c.heeded s ≡ 0 → (Stands (c.queue n) s → HasOther c s n)
      → (c.kind ≡ WaitDie → dies c s n ≡ None)
      → LeadsBy (Sparing spared) c (λ d. ButSigns c d × Possible d (Unguard s n))
  leave reached unheeded contended lives =
      and_then (Sparing spared) c (ArePaid []) (λ d. ButSigns c d × Possible d (Unguard s n)) reached cleared
      (λ d reached' paid. and_then (Sparing spared) d (ArePaid (owes c s n)) (λ d. ButSigns c d × Possible d (Unguard s n)) reached'
      (pay (owes c s n) (λ v k h. h) d reached' paid)
      (λ d' _ paid'. stay (Sparing spared) d' (λ d. ButSigns c d × Possible d (Unguard s n)) (
        (paid'.signs, paid'.state),
        subst (λ x. Possible x (Unguard s n)) (sym paid'.state)
            (can_leave paid'.signs paid'.signed paid'.unsigned),
      )))
    where
      lawful : IsLawful c
      lawful = reached_is_lawful c reached

      stays : (c.kind ≡ WaitDie → c.sign s ≡ 0) → LeadsBy (Sparing spared) c (ArePaid [])
      stays none = stay (Sparing spared) c (ArePaid [])
          (record { signs = c.sign; state = refl; signed = λ v k h. absurd h; unsigned = none })

      cleared : LeadsBy (Sparing spared) c (ArePaid [])
      cleared = by_kind c.kind (LeadsBy (Sparing spared) c (ArePaid []))
          (λ wounding. stays (λ dying. absurd (let clash = sym wounding ∙ dying in cc)))
          (λ dying. dite (ℕ_discrete (c.sign s) 0)
          (λ none. stays (λ _. none))
          (λ some. first (Sparing spared) c (Clear s) (ArePaid []) (tt, λ u _. tt) (record {
            base = let older = lawful.signs.older_signs s (omega arith) in omega arith;
            signs = inr (n, record { kind = dying; inside = inside; lives = lives dying });
          }) (stay (Sparing spared) (after c (Clear s)) (ArePaid []) (record {
            signs = put c.sign s 0;
            state = refl;
            signed = λ v k h. absurd h;
            unsigned = λ _. put_here c.sign s 0;
          }))))

      can_leave : (signs : ℕ → ℕ) → ((v k : ℕ) → Has (owes c s n) (v, k) → signs v ≢ 0)
          → (c.kind ≡ WaitDie → signs s ≡ 0) → Possible (with_signs c signs) (Unguard s n)
      can_leave signs signed unsigned = record {
        base = record {
          inside = record { guard = inside.guard; lock = inside.lock; seat = inside.seat };
          contended = contended;
          unheeded = unheeded;
        };
        signs = record {
          signed = signed;
          safe = λ dying. record {
            lives = dies_unsigned c.kind dying (owner_as c (c.owner n)) (c.queue n) s
                (signs s) (c.sign s) ∙ lives dying;
            unsigned = unsigned dying;
          };
        };
      }

-- ---- what is possible inside

module _ (spared : ℕ → Type 0) (c : State) (reached : Reached c) (s n : ℕ) (inside : Inside c s n)
    (unheeded : c.heeded s ≡ 0) (oldest : spared s → IsOldest c s) where
  -- a waiter that another keeps from the lock leaves, or dies in Wait-Die if it must, which the oldest need not
  meets_other : Stands (c.queue n) s → HasOther c s n → (cause : Option ℕ) → dies c s n ≡ cause → GetsLighter spared c
  meets_other waits other None is = leaves spared c reached s n (leave spared c s n inside reached unheeded (λ _. other) (λ _. is))
  meets_other waits other (Some k) is = by_kind c.kind (GetsLighter spared c)
      (λ wounding. leaves spared c reached s n
      (leave spared c s n inside reached unheeded (λ _. other)
      (λ dying. absurd (let clash = sym wounding ∙ dying in cc))))
      (λ dying. dies_now spared c s n (λ is_spared. oldest_lives c (reached_is_lawful c reached).base s
      (oldest is_spared) dying n k (dies_why c s n k is)) (record {
        base = record { inside = inside; waits = waits; other = other; unheeded = unheeded };
        signs = subst IsSome (sym is) refl;
      }))

  -- a waiter that finds the lock free takes it
  finds_free : Stands (c.queue n) s → (c.owner n ≡ Nobody) ⊎ (c.owner n ≡ Handed s) → GetsLighter spared c
  finds_free waits free = takes spared c s n waits (record {
    base = record { inside = inside; may_own = waiter_may_own c reached s n waits; free = free };
    signs = waiter_is_calm c reached s n waits;
  })

  goes_on : GetsLighter spared c
  goes_on = ⊎_elim
      (λ waits. ⊎_elim (finds_free waits) (λ other. meets_other waits other (dies c s n) refl) (free_or_other c reached s n waits))
      (λ none. leaves spared c reached s n (leave spared c s n inside reached unheeded (λ waits. absurd (none waits.0 waits.1 waits.2))
      (λ _. only_waiters_die c.kind (owner_as c (c.owner n)) (c.queue n) s (c.sign s) none)))
      (stands_or_not (c.queue n) s)

-- ... also one that has heeded a cancel, which is interrupted
pub inside_move : (spared : ℕ → Type 0) (c : State) → Reached c → (s n : ℕ) → Inside c s n
    → (spared s → IsOldest c s × (c.heeded s ≡ 0)) → GetsLighter spared c
inside_move spared c reached s n inside oldest = dite (ℕ_discrete (c.heeded s) 0)
    (λ none. goes_on spared c reached s n inside none (λ is. (oldest is).0))
    (λ some. let k = (reached_is_lawful c reached).base.cancels.heeding s (omega arith) in
    let at : k.0 ≡ n = (reached_is_lawful c reached).base.guards.one_guard s k.0 n k.1.inside inside.guard in
    interrupted spared c s n (λ is. some (oldest is).1) (record {
      base = record { inside = inside; waits = subst (λ m. Stands (c.queue m) s) at k.1.waits; heeded = some };
      signs = tt;
    }))
