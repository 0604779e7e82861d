-- What a seat's view shows, and what it found, make its event possible.
use Rattle.std.proofs.Common.{rules, ◌≡◌, ◌≢◌, ◌⊎◌, inl, inr, ⊎_elim, ℕ, suc, ◌-◌, ◌^◌, ◌<◌, true, [], Some, None, refl, sym, ap, ◌∙◌, subst, arith, true≢false}
use Rattle.std.specs.Option.{IsSome}
use mathlib.Core.Logic.{dite}
use native.Mathlib.Decide.{ℕ_discrete}
use Rattle.ww_word.specs.declared.owner.Owner.{Owner}
use Rattle.ww_word.specs.Owner.{idle}
use Rattle.ww_queue.specs.declared.kind.Kind.TheVariants.{WaitDie}
use Rattle.ww_queue.specs.Queue.{Has, StandsNot}
use Rattle.ww_queue.specs.Rules.{must_die, owed_signs}
use Rattle.ww_queue.proofs.Deaths.{only_waiters_die}
use Rattle.ww_queue.proofs.Leaves.{stands_or_not}
use Rattle.ww_model.specs.declared.event.Event.TheVariants.{Begin, Clear, Fast, FastGive, Guard, Join, Sign, Take, Ask, Give, Die, Unguard, Commit, End, Cancel, Heed, Leave}
use Rattle.ww_model.specs.State.{State, OwnsNone, InNoQueue, Away, Inside, MayOwn, IsCalm, owes, dies, owner_as, word_of}
use Rattle.ww_model.specs.Event.{Possible, owed_to}
use Rattle.ww_model.specs.Lawful.{IsLawful, SignedOwnsOutside}
use Rattle.ww_model.proofs.Holders.{not_empty}
use Rattle.ww_model.proofs.Options.{is_some_of}
use Rattle.ww_model.proofs.Words.{word_owes, word_dies, none_owed}
use Rattle.ww_model.proofs.Dues.{owed_there, dies_unsigned}
use Rattle.ww_model.proofs.FreeGuards.{owes_nothing}
use Rattle.ww_model.proofs.Ranges.{lawful_place}
use Rattle.ww_view.specs.declared.view.View.{View}
use Rattle.ww_view.specs.View.{owns, Knows, IsBare, IsAway}
use Rattle.ww_view.specs.May.{WantsBase, WantsSigns, MayFast, MayEnter, MayJoin, MayTake, MayAsk, MayGive, MayDie, MaySign, MayClear, MayExit, MayHeed, MayStop}
use Rattle.ww_view.proofs.Tells.{no_seat, handed_seat, other_seat, no_flags, waiters_alone}

module _ (c : State) (v : View) (l : IsLawful c) (k : Knows c v) where
  pub in_no_queue : v.waits ≡ 0 → InNoQueue c v.who
  in_no_queue none n e h i = let z = k.queues.waits n (e, h, i) in omega arith

  pub is_away : IsAway v → Away c v.who
  is_away away = search (rules, arith, in_no_queue away.1)

  pub bare_none : IsBare v → OwnsNone c v.who
  bare_none bare n own = true≢false (sym (k.owned.lacks n own) ∙ bare n)

  wants_base : WantsBase v → MayOwn c v.who
  wants_base how = ⊎_elim (λ p. inl (subst (λ x. 0 < x) k.itself.stamp p)) (λ b. inr (bare_none b)) how

  pub solo_unsigned : v.stamp ≡ 0 → c.sign v.who ≡ 0
  solo_unsigned none = dite (ℕ_discrete (c.sign v.who) 0) (λ i. i)
      (λ some. absurd (let y = l.signs.older_signs v.who (omega arith) in let z = k.itself.stamp in omega arith))

  wants_signs : SignedOwnsOutside c → WantsSigns v → IsCalm c v.who
  wants_signs outside how = ⊎_elim (λ none. inl (solo_unsigned none))
      (⊎_elim (λ none. inl (k.sign 0 none))
      (⊎_elim (λ own. inr (own.0, k.owned.has own.0 own.1))
      (λ dying. dite (ℕ_discrete (c.sign v.who) 0) inl
      (λ some. let own = outside (sym k.itself.kind ∙ dying) v.who (omega arith) in inr (own.0, own.1))))) how

  -- the word inside is the one that it saw last, where somebody waits
  seen_waited : (n : ℕ) (o : Owner) → v.inside ≡ suc n → v.seen ≡ Some o → c.queue n ≢ [] → o ≡ word_of c n
  seen_waited n o is saw some = k.seen n o is saw (inl (λ none. some (sym (k.queues.list n is) ∙ none)))

  pub is_inside : (n : ℕ) → v.inside ≡ suc n → Inside c v.who n
  is_inside n is = search (rules, k.guard.guards n is)

  -- ---- outside

  pub shows_begin : IsAway v → v.stamp ≡ 0 → IsBare v → c.drawn < 2 ^ 56 - 1 → Possible c (Begin v.who)
  shows_begin away none bare room = search (rules, is_away away, bare_none bare)

  -- the own sign was loaded as 0
  pub shows_end : IsAway v → 0 < v.stamp → IsBare v → c.sign v.who ≡ 0 → Possible c (End v.who)
  shows_end away some bare found = search (rules, is_away away, bare_none bare)

  pub shows_commit : (n : ℕ) → IsAway v → owns v n ≡ true → c.commits < 2 ^ 64 - 1 → Possible c (Commit v.who)
  shows_commit n away own room = search (rules, is_away away, k.owned.has n own)

  -- the owner word was 0
  pub shows_fast : (n : ℕ) → SignedOwnsOutside c → MayFast v → n < c.locks → idle ≡ word_of c n →
      Possible c (Fast v.who n)
  shows_fast n outside may lock found = let f = no_flags c n idle found refl in
      search (rules, is_away, wants_base, wants_signs outside, no_seat c n idle found, f)

  -- the owner word was that of the seat without flags
  pub shows_fast_give : (n : ℕ) → IsAway v → owns v n ≡ true → n < c.locks → (o : Owner) → o ≡ word_of c n →
      o.flags ≡ 0 → Possible c (FastGive v.who n)
  shows_fast_give n away own lock o found none =
      search (rules, is_away away, k.owned.has n own, no_flags c n o found none)

  -- ---- the guard

  -- the guard word was 0
  pub shows_guard : (n : ℕ) → SignedOwnsOutside c → MayEnter v n → n < c.locks → c.guard n ≡ 0 →
      Possible c (Guard v.who n)
  shows_guard n outside may lock free = record {
    base = record {
      seat = k.itself.seat;
      lock = lock;
      inside_none = λ m i. (let z = k.guard.inside m i in let y = may.outside in omega arith);
      free = free;
      why = ⊎_elim (λ x. inl (k.owned.has n x.1, in_no_queue x.0)) (⊎_elim (λ x. inr (inl (k.queues.waited n x)))
          (λ x. inr (inr (in_no_queue x.0, (λ own. true≢false (sym (k.owned.lacks n own) ∙ x.1)), wants_base x.2))))
          may.why;
    };
    signs = ⊎_elim (λ x. inl (k.owned.has n x.1))
        (⊎_elim (λ x. inr (inl (k.queues.waited n x))) (λ x. inr (inr (wants_signs outside x.3)))) may.why;
  }

  pub shows_join : (n : ℕ) (o : Owner) → SignedOwnsOutside c → MayJoin v n o → o ≡ word_of c n →
      Possible c (Join v.who n)
  shows_join n o outside may found =
      search (rules, is_inside n, in_no_queue, wants_base, wants_signs outside, other_seat c n o found v.who may.other)

  pub shows_take : (n : ℕ) (o : Owner) → SignedOwnsOutside c → MayTake v n o → o ≡ word_of c n →
      Possible c (Take v.who n)
  shows_take n o outside may found =
      search (rules, is_inside n, wants_base, wants_signs outside, no_seat c n o found, handed_seat c n o found v.who)

  pub shows_ask : (n : ℕ) (o : Owner) → MayAsk v n o → o ≡ word_of c n → Possible c (Ask v.who n)
  shows_ask n o may found = let w = waiters_alone c n o found may.other.0 may.other.1 may.flags in
      search (rules, is_inside n, k.queues.list n, w)

  pub shows_give : (n : ℕ) → MayGive v n → Possible c (Give v.who n)
  shows_give n may = search (rules, is_inside n, k.owned.has, (l.base.owners.at n).asked_taken)

  -- the rules on what the view has are those on the core
  pub dies_by_view : (n : ℕ) (o : Owner) (s : ℕ) → v.inside ≡ suc n → o ≡ word_of c n →
      (v.kind ≡ WaitDie) ⊎ (v.sign ≡ Some s) →
      must_die v.kind o v.list v.who s ≡ dies c v.who n
  dies_by_view n o s is found how = ⊎_elim (λ dying. dies_unsigned v.kind dying o v.list v.who s (c.sign v.who))
      (λ read. ap (must_die v.kind o v.list v.who) (sym (k.sign s read))) how
      ∙ (λ i. must_die (k.itself.kind i) (found i) (k.queues.list n is i) v.who (c.sign v.who)) ∙ word_dies c v.who n

  pub owes_by_view : (n : ℕ) (o : Owner) → v.inside ≡ suc n → o ≡ word_of c n →
      owed_signs v.kind o v.list v.who ≡ owes c v.who n
  owes_by_view n o is found =
      (λ i. owed_signs (k.itself.kind i) (found i) (k.queues.list n is i) v.who) ∙ word_owes c v.who n

  pub tells_die : (n : ℕ) (o : Owner) (j : ℕ) → MayDie v n o j → o ≡ word_of c n → dies c v.who n ≡ Some j
  tells_die n o j may found = sym (dies_by_view n o may.why.0 may.inside found may.why.1) ∙ may.why.2

  pub shows_die : (n : ℕ) (o : Owner) (j : ℕ) → MayDie v n o j → o ≡ word_of c n → Possible c (Die v.who n)
  shows_die n o j may found = let dead = is_some_of (dies c v.who n) j (tells_die n o j may found) in
      let unheeded = sym k.heeded ∙ may.unheeded in
      search (rules, is_inside n, k.queues.waited, other_seat c n o found v.who may.other, dead, unheeded)

  pub shows_cancel : (u : ℕ) → IsAway v → u < c.seats → c.cancel u ≡ 0 → Possible c (Cancel v.who u)
  shows_cancel u away seat none = search (rules, is_away away)

  pub shows_heed : (n : ℕ) → MayHeed v n → c.cancel v.who ≢ 0 → Possible c (Heed v.who n)
  shows_heed n may some = let here = k.queues.waited n may.waits in
      let found = seen_waited n may.other.0 may.inside may.other.1 (not_empty (c.queue n) here.0 here.1) in
      let other = other_seat c n may.other.0 found v.who may.other.2 in
      let unheeded = sym k.heeded ∙ may.unheeded in
      search (rules, is_inside n may.inside, here, other, unheeded)

  pub shows_leave : (n : ℕ) → MayStop v n → Possible c (Leave v.who n)
  shows_leave n may = let marked : c.heeded v.who ≢ 0 = λ none. may.heeded (k.heeded ∙ none) in
      search (rules, is_inside n may.inside, k.queues.waited n may.waits, marked)

  -- where a sign is owed by the view, it is owed
  pub tells_sign : (n u j : ℕ) → MaySign v n u j → Has (owes c v.who n) (u, j)
  tells_sign n u j may = let o = may.owes.0 in
      let some : c.queue n ≢ [] = λ none.
      none_owed v.kind o v.list v.who u j (k.queues.list n may.inside ∙ none) may.owes.2 in
      subst (λ pairs. Has pairs (u, j)) (owes_by_view n o may.inside (seen_waited n o may.inside may.owes.1 some)) may.owes.2

  pub shows_sign : (n u j : ℕ) → MaySign v n u j → c.sign u ≡ 0 → Possible c (Sign v.who u)
  shows_sign n u j may found = let at = sym (lawful_place c l v.who n (is_inside n may.inside)) in
      let owed = owed_there u j (owes c v.who n) (tells_sign n u j may) in
      let there = subst (λ m. IsSome (owed_to u (owes c v.who m))) at owed in
      search (rules, subst (Inside c v.who) at (is_inside n may.inside), there)

  -- who doesn't wait here doesn't have to die here
  none_dies : (n : ℕ) → StandsNot (c.queue n) v.who → dies c v.who n ≡ None
  none_dies n = only_waiters_die c.kind (owner_as c (c.owner n)) (c.queue n) v.who (c.sign v.who)

  -- a seat that doesn't have to die by the view doesn't
  lives_by_view : (n : ℕ) (o : Owner) → v.inside ≡ suc n → v.seen ≡ Some o → v.kind ≡ WaitDie →
      must_die v.kind o v.list v.who 0 ≡ None →
      dies c v.who n ≡ None
  lives_by_view n o is saw dying lives = ⊎_elim
      (λ here. let found = seen_waited n o is saw (not_empty (c.queue n) here.0 here.1) in
      sym (dies_by_view n o 0 is found (inl dying)) ∙ lives)
      (none_dies n) (stands_or_not (c.queue n) v.who)

  pub shows_clear : MayClear v → Possible c (Clear v.who)
  shows_clear may = record {
    base = subst (λ x. 0 < x) k.itself.stamp may.context;
    signs = ⊎_elim (λ x. inl (is_away x.0, bare_none x.1))
        (λ x. let lives = lives_by_view x.1.0 x.2.0 x.1.1 x.2.1 x.0 x.2.2 in
        inr (x.1.0, assumption (sym k.itself.kind ∙ x.0, is_inside x.1.0 x.1.1, lives))) may.why;
  }

  -- whom the seat owes a sign by the core, it owes it by the word that it saw
  owed_by_seen : (n : ℕ) (o : Owner) (u j : ℕ) → v.inside ≡ suc n → v.seen ≡ Some o → Has (owes c v.who n) (u, j) →
      Has (owed_signs v.kind o v.list v.who) (u, j)
  owed_by_seen n o u j is saw h =
      let some : c.queue n ≢ [] = λ none. none_owed c.kind (word_of c n) (c.queue n) v.who u j none
      (subst (λ pairs. Has pairs (u, j)) (sym (word_owes c v.who n)) h) in
      subst (λ pairs. Has pairs (u, j)) (sym (owes_by_view n o is (seen_waited n o is saw some))) h

  pub shows_exit : (n : ℕ) → SignedOwnsOutside c → MayExit v n → Possible c (Unguard v.who n)
  shows_exit n outside may = record {
    base = record {
      inside = is_inside n may.inside;
      contended = λ here. ⊎_elim (λ x. absurd (in_no_queue x.0 n here.0 here.1 here.2))
          (λ p. ⊎_elim (λ none. absurd (in_no_queue none n here.0 here.1 here.2))
          (λ o. let found = seen_waited n p.word may.inside p.seen (not_empty (c.queue n) here.0 here.1) in
          other_seat c n p.word found v.who o) p.other) may.why;
      unheeded = sym k.heeded ∙ may.unheeded;
    };
    signs = record {
      signed = λ u j h. ⊎_elim
          (λ x. owes_nothing c l v.who n (k.guard.guards n may.inside).1 (in_no_queue x.0 n)
          (λ own. true≢false (sym (k.owned.lacks n own) ∙ x.1)) u j h)
          (λ p. k.signed n u j may.inside (p.signed u j (owed_by_seen n p.word u j may.inside p.seen h)) h) may.why;
      safe = λ dying. let mine = k.itself.kind ∙ dying in record {
        lives = ⊎_elim (λ x. none_dies n (in_no_queue x.0 n))
            (λ p. lives_by_view n p.word may.inside p.seen mine (p.lives mine)) may.why;
        unsigned = ⊎_elim solo_unsigned (⊎_elim (k.sign 0)
            (λ bare. dite (ℕ_discrete (c.sign v.who) 0) (λ i. i)
            (λ some. let own = outside dying v.who (omega arith) in absurd (bare_none bare own.0 own.1))))
            (may.unsigned mine);
      };
    };
  }
