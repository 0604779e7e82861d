-- What a seat outside of guards knows after its own event, and what it knows once inside or outside again.
use Rattle.std.proofs.Common.{rules, ◌≡◌, ◌≢◌, ◌⊎◌, inl, inr, ⊎_elim, ℕ, zero, suc, ◌+◌, ◌<◌, Bool, true, false, List, Option, Some, length, get_or, refl, sym, ap, ◌∙◌, subst, arith, true≢false}
use Rattle.std.proofs.Math.ListN.{set, length-set}
use Rattle.std.proofs.lemmas.List.{get_or-set_same, get_or-set_other}
use mathlib.Core.Logic.{dite}
use native.Mathlib.Decide.{ℕ_discrete}
use Rattle.ww_queue.specs.declared.kind.Kind.{Kind}
use Rattle.ww_queue.specs.declared.kind.Kind.TheVariants.{WoundWait, WaitDie}
use Rattle.ww_model.specs.declared.state.Holder.{Holder}
use Rattle.ww_model.specs.declared.state.Holder.TheVariants.{Nobody, Taken}
use Rattle.ww_model.specs.declared.event.Event.TheVariants.{Begin, Fast, FastGive, Guard, Unguard, Commit, End, Cancel}
use Rattle.ww_model.specs.State.{State, put, Away}
use Rattle.ww_model.specs.Event.{Possible, after}
use Rattle.ww_model.specs.Lawful.{IsLawful}
use Rattle.ww_model.proofs.Dues.{by_kind}
use Rattle.ww_model.proofs.Puts.{put_here, put_cases}
use Rattle.ww_view.specs.declared.view.View.{View}
use Rattle.ww_view.specs.View.{KnowsItself, KnowsOwned, KnowsGuard, Knows, IsBare}
use Rattle.ww_view.specs.Made.{once_inside, once_outside, once_taken, begun, ended, fast_taken, fast_given, entered, exited}
use Rattle.ww_view.proofs.Shows.{solo_unsigned}

-- ---- the locks that it owns

owned_here : (xs : List Bool) (n m : ℕ) (b : Bool) → n < length xs → m ≡ n → get_or (set xs n b) m false ≡ b
owned_here xs n m b within is = ap (λ i. get_or (set xs n b) i false) is ∙ get_or-set_same xs n b false within

owned_else : (xs : List Bool) (n m : ℕ) (b : Bool) → m ≢ n → get_or (set xs n b) m false ≡ get_or xs m false
owned_else xs n m b isnt = get_or-set_other xs n m b false isnt

-- ---- the sign, where it is still known

inside_from : (kind : Kind) (w : ℕ) (sign : Option ℕ) (j : ℕ) → once_inside kind w sign ≡ Some j →
    (sign ≡ Some j) ⊎ ((kind ≡ WaitDie) × (w ≡ 0) × (0 ≡ j))
inside_from WoundWait w sign j is = inl is
inside_from WaitDie (suc w) sign j is = inl is
inside_from WaitDie zero sign j is = inr (refl, refl, let z : 0 ≡ j = cc in z)

outside_from : (kind : Kind) (sign : Option ℕ) (j : ℕ) → once_outside kind sign ≡ Some j →
    (kind ≡ WoundWait) × (sign ≡ Some j)
outside_from WoundWait sign j is = (refl, is)
outside_from WaitDie sign j is = absurd (cc)

pub taken_from : (kind : Kind) (sign : Option ℕ) (j : ℕ) → once_taken kind sign ≡ Some j →
    (kind ≡ WaitDie) × (sign ≡ Some j)
taken_from WoundWait sign j is = absurd (cc)
taken_from WaitDie sign j is = (refl, is)

module _ (c : State) (v : View) (l : IsLawful c) (k : Knows c v) where
  within : (n : ℕ) → n < c.locks → n < length v.owned
  within n lock = let z = k.owned.room in omega arith

  -- the seat takes lock n
  pub gets : (n : ℕ) → n < c.locks → KnowsOwned c.locks (put c.owner n (Taken v.who)) v.who (set v.owned n true)
  gets n lock = record {
    room = length-set v.owned n true ∙ k.owned.room;
    has = λ m. put_cases c.owner n (Taken v.who) m (λ o. get_or (set v.owned n true) m false ≡ true → o ≡ Taken v.who)
        (λ _ _. refl) (λ isnt is. k.owned.has m (sym (owned_else v.owned n m true isnt) ∙ is));
    lacks = λ m. put_cases c.owner n (Taken v.who) m (λ o. o ≡ Taken v.who → get_or (set v.owned n true) m false ≡ true)
        (λ is _. owned_here v.owned n m true (within n lock) is)
        (λ isnt own. owned_else v.owned n m true isnt ∙ k.owned.lacks m own);
  }

  -- it releases lock n, to this owner
  pub gives : (n : ℕ) (o : Holder) → n < c.locks → o ≢ Taken v.who →
      KnowsOwned c.locks (put c.owner n o) v.who (set v.owned n false)
  gives n o lock isnt_mine = record {
    room = length-set v.owned n false ∙ k.owned.room;
    has = λ m. put_cases c.owner n o m (λ x. get_or (set v.owned n false) m false ≡ true → x ≡ Taken v.who)
        (λ is h. absurd (true≢false (sym h ∙ owned_here v.owned n m false (within n lock) is)))
        (λ isnt is. k.owned.has m (sym (owned_else v.owned n m false isnt) ∙ is));
    lacks = λ m. put_cases c.owner n o m (λ x. x ≡ Taken v.who → get_or (set v.owned n false) m false ≡ true)
        (λ _ i. absurd (isnt_mine i)) (λ isnt own. owned_else v.owned n m false isnt ∙ k.owned.lacks m own);
  }

  pub bare_still : (n : ℕ) → n < c.locks → IsBare v → (m : ℕ) → get_or (set v.owned n false) m false ≡ false
  bare_still n lock bare m = dite (ℕ_discrete m n) (owned_here v.owned n m false (within n lock))
      (λ isnt. owned_else v.owned n m false isnt ∙ bare m)

  -- ---- outside

  not_inside : Away c v.who → (n : ℕ) → v.inside ≡ suc n → ⊥
  not_inside away n is = away.inside n (k.guard.guards n is).1

  restamped : (j : ℕ) → KnowsItself c.kind c.locks c.seats (put c.stamp v.who j) v.kind v.room v.seats v.who j
  restamped j = assumption (sym (put_here c.stamp v.who j))

  pub mine_begin : Possible c (Begin v.who) → IsBare v → Knows (after c (Begin v.who)) (begun v (c.drawn + 1))
  mine_begin can bare = let unsigned = solo_unsigned c v l k (k.itself.stamp ∙ can.base.no_context) in
      search (rules, restamped (c.drawn + 1), not_inside can.base.away, unsigned, bare)

  pub mine_end : Possible c (End v.who) → IsBare v → Knows (after c (End v.who)) (ended v)
  mine_end can bare = search (rules, restamped 0, not_inside can.base.away, can.signs, bare)

  pub mine_commit : Possible c (Commit v.who) → Knows (after c (Commit v.who)) v
  mine_commit can = assumption

  pub mine_cancel : (u : ℕ) → Possible c (Cancel v.who u) → Knows (after c (Cancel v.who u)) v
  mine_cancel u can = assumption

  pub mine_fast : (n : ℕ) → Possible c (Fast v.who n) → Knows (after c (Fast v.who n)) (fast_taken v n)
  mine_fast n can = search (rules, gets n can.base.idle.lock, not_inside can.base.away)

  pub mine_fast_give : (n : ℕ) → Possible c (FastGive v.who n) → Knows (after c (FastGive v.who n)) (fast_given v n)
  mine_fast_give n can = let back = gives n Nobody can.base.lock (λ i. cc) in
      search (rules, back, not_inside can.base.away, bare_still n can.base.lock)

  -- ---- the guard

  quiet_bare : v.kind ≡ WoundWait → v.sign ≡ Some 0 → IsBare v
  quiet_bare wounding none = ⊎_elim (λ bare. bare) (λ x. absurd (let y = x.0 in cc)) (k.quiet none)

  -- a seat neither in a list nor inside a guard has no sign in Wait-Die
  away_unsigned : (n : ℕ) → Possible c (Guard v.who n) → v.kind ≡ WaitDie → v.waits ≡ 0 → c.sign v.who ≡ 0
  away_unsigned n can dying none = dite (ℕ_discrete (c.sign v.who) 0) (λ i. i) (λ some. absurd (⊎_elim
      (λ x. let y = k.queues.waits x.0 x.1 in omega arith) (λ x. can.base.inside_none x.0 x.1)
      (l.signs.signs.waiting (sym k.itself.kind ∙ dying) v.who (omega arith))))

  entering_sign : (n : ℕ) → Possible c (Guard v.who n) → (j : ℕ) → once_inside v.kind v.waits v.sign ≡ Some j →
      c.sign v.who ≡ j
  entering_sign n can j is =
      ⊎_elim (k.sign j) (λ x. away_unsigned n can x.0 x.1 ∙ x.2) (inside_from v.kind v.waits v.sign j is)

  entering_quiet : (n : ℕ) → once_inside v.kind v.waits v.sign ≡ Some 0 → IsBare v ⊎ ((v.kind ≡ WaitDie) × (suc n ≢ 0))
  entering_quiet n is = by_kind v.kind (IsBare v ⊎ ((v.kind ≡ WaitDie) × (suc n ≢ 0)))
      (λ wounding. inl (quiet_bare wounding
      (⊎_elim (λ s. s) (λ x. absurd (let y = x.0 in cc)) (inside_from v.kind v.waits v.sign 0 is))))
      (λ dying. inr (dying, λ i. omega arith))

  pub mine_guard : (n : ℕ) → Possible c (Guard v.who n) → Knows (after c (Guard v.who n)) (entered v n (c.queue n))
  mine_guard n can = let g = put c.guard n (suc v.who) in
      let there : KnowsGuard c.locks g v.who (suc n) = record {
        inside = λ m. put_cases c.guard n (suc v.who) m (λ x. x ≡ suc v.who → suc n ≡ suc m)
            (λ is _. ap suc (sym is)) (λ _ i. absurd (can.base.inside_none m i));
        guards = λ m is. let same : n ≡ m = omega arith in subst (λ x. (x < c.locks) × (g x ≡ suc v.who)) same
            (can.base.lock, put_here c.guard n (suc v.who));
      } in search (rules, there, entering_sign n can, entering_quiet n)

  pub mine_unguard : (n : ℕ) → Possible c (Unguard v.who n) → Knows (after c (Unguard v.who n)) (exited v)
  mine_unguard n can =
      let out : KnowsGuard c.locks (put c.guard n 0) v.who 0 = record {
        inside = λ m. put_cases c.guard n 0 m (λ x. x ≡ suc v.who → 0 ≡ suc m) (λ _ i. absurd (omega arith))
            (λ isnt i. absurd (isnt (l.base.guards.one_guard v.who m n i can.base.inside.guard)));
        guards = λ m is. absurd (omega arith);
      } in search (rules, arith, out, outside_from v.kind v.sign, quiet_bare)
