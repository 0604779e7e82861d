-- A table tells one core, and one history.
use Rattle.std.proofs.Common.{◌≡◌, ⊎_elim, ℕ, zero, suc, ◌+◌, ◌*◌, ◌<◌, ◌≤◌, Bool, true, false, true≢false, min, List, [], ◌∷◌, length, refl, sym, ap, ◌∙◌, subst, arith}
use mathlib.Core.Logic.{dite}
use mathlib.Core.Option.{some, some-injective}
use native.Mathlib.Decide.{dec_le}
use lib.ListN.{get_elem?}
use Rattle.ww_word.specs.declared.owner.Owner.{Owner}
use Rattle.ww_word.specs.Owner.{is_handed}
use Rattle.ww_word.specs.AnySeats.{most_for}
use Rattle.ww_word.proofs.AnyWords.{packing_is_injective}
use Rattle.ww_queue.specs.declared.entry.Entry.{Entry}
use Rattle.ww_queue.specs.Queue.{Has}
use Rattle.ww_model.specs.declared.state.Holder.{Holder}
use Rattle.ww_model.specs.declared.state.Holder.TheVariants.{Nobody, Taken, Handed}
use Rattle.ww_model.specs.State.{State, owner_as, waiting, one_if, pickup, word_from, word_of}
use Rattle.ww_model.specs.Lawful.{IsLawful}
use Rattle.ww_model.proofs.Kept.{reached_is_lawful}
use Rattle.ww_model.proofs.Words.{handed_same}
use Rattle.ww_model.proofs.Beyond.{queues_beyond, guards_are, cancels_beyond}
use Rattle.ww_model.proofs.Cancels.{away_unheeded}
use Rattle.ww_plain.specs.History.{Recorded, part_of}
use Rattle.ww_view.proofs.Written.{wide_word_is_valid}
use Rattle.ww_invariant.proofs.Moves.{have_room}
use Rattle.ww_invariant.specs.declared.cells.Cell.TheVariants.{Line}
use Rattle.ww_invariant.specs.declared.cells.Part.{Part}
use Rattle.ww_invariant.specs.declared.cells.Start.{Start}
use Rattle.ww_invariant.specs.Rule.{St, PartFits, Ruled}
use Rattle.ww_table.proofs.Closing.{part_has, has_part}

-- ---- an owner word tells owner and HANDOFF

same_holder : (c d : State) (o p : Holder) → (owner_as c o).seat ≡ (owner_as d p).seat
    → is_handed (owner_as c o) ≡ is_handed (owner_as d p) → o ≡ p
same_holder c d Nobody Nobody seat handed = refl
same_holder c d Nobody (Taken t) seat handed = absurd cc
same_holder c d Nobody (Handed t) seat handed = absurd cc
same_holder c d (Taken s) Nobody seat handed = absurd cc
same_holder c d (Taken s) (Taken t) seat handed = ap Taken (let same : s ≡ t = cc in same)
same_holder c d (Taken s) (Handed t) seat handed = absurd (true≢false (sym handed))
same_holder c d (Handed s) Nobody seat handed = absurd cc
same_holder c d (Handed s) (Taken t) seat handed = absurd (true≢false handed)
same_holder c d (Handed s) (Handed t) seat handed = ap Handed (let same : s ≡ t = cc in same)

holder_told : (c d : State) (o p : Holder) (a b : Bool) (q w : List Entry) → word_from c o a q ≡ word_from d p b w → o ≡ p
holder_told c d o p a b q w same = same_holder c d o p (ap (λ (x : Owner). x.seat) same)
    (sym (handed_same c o a q) ∙ ap is_handed same ∙ handed_same d p b w)

one_if_is : (a b : Bool) → one_if a ≡ one_if b → a ≡ b
one_if_is true true same = refl
one_if_is true false same = absurd (omega arith)
one_if_is false true same = absurd (omega arith)
one_if_is false false same = refl

asked_told : (c d : State) (o p : Holder) (a b : Bool) (q w : List Entry) → word_from c o a q ≡ word_from d p b w → o ≡ p → q ≡ w → a ≡ b
asked_told c d o p a b q w same owner list =
    let flags : waiting q + 2 * one_if a + pickup o ≡ waiting w + 2 * one_if b + pickup p =
    ap (λ (x : Owner). x.flags) same in
    let few = ap waiting list in let pick = ap pickup owner in one_if_is a b (omega arith)

-- ---- where no lock is

module _ (c : State) (l : IsLawful c) where
  free_not_asked : (n : ℕ) → c.owner n ≡ Nobody → c.asked n ≡ false
  free_not_asked n free = go (c.asked n) refl
    where
      go : (b : Bool) → c.asked n ≡ b → b ≡ false
      go true asked = absurd (let t = ((l.base.owners.at n).asked_taken asked).0.1 in cc)
      go false asked = refl

  unsigned : (t : ℕ) → c.stamp t ≡ 0 → c.sign t ≡ 0
  unsigned t none = go (c.sign t) refl
    where
      go : (k : ℕ) → c.sign t ≡ k → k ≡ 0
      go zero is = refl
      go (suc k) is = absurd (let older = l.signs.older_signs t (omega arith) in omega arith)

-- ---- the core

module _ (key : Start) (s : St) (r : Ruled key s) where
  abbrev c : State
  c = r.core

  law : IsLawful c
  law = reached_is_lawful c r.reached

  guard_free : (n : ℕ) → key.locks ≤ n → c.guard n ≡ 0
  guard_free n beyond = go (c.guard n) refl
    where
      go : (g : ℕ) → c.guard n ≡ g → g ≡ 0
      go zero is = refl
      go (suc t) is = absurd (let inside = guards_are c r.reached t n is in let lock = inside.lock in let locks = r.locks in omega arith)

  queue_empty : (n : ℕ) → key.locks ≤ n → c.queue n ≡ []
  queue_empty n beyond = queues_beyond c r.reached n (let locks = r.locks in omega arith)

  nobody_owns : (n : ℕ) → key.locks ≤ n → c.owner n ≡ Nobody
  nobody_owns n beyond = law.base.owners.beyond n (let locks = r.locks in omega arith)

-- what one view says of a number, by both
record IsTold (key : Start) (s : St) (r r' : Ruled key s) (t : ℕ) : Type 0 where
  part : Part
  who : part.core.who ≡ t
  here : (j : ℕ) × PartFits key r.core r.log r.at r.counts j part
  there : (j : ℕ) × PartFits key r'.core r'.log r'.at r'.counts j part

module _ (key : Start) (s : St) (r r' : Ruled key s) where
  told : (t : ℕ) → t < key.seats → IsTold key s r r' t
  told t small = let x = r.there t small in let f = r.seats (r.at t) x.view x.stands x.seated in
      let g = r'.seats (r.at t) x.view x.stands x.seated in ⊎_elim
      (λ own. record { part = x.view.part; who = own; here = (r.at t, f.part); there = (r.at t, g.part) })
      (λ idle. record {
        part = idle.1;
        who = idle.3;
        here = (r.at t, (f.idle idle.0 idle.1 idle.2).0);
        there = (r.at t, (g.idle idle.0 idle.1 idle.2).0);
      })
      x.speaks

  same_guard : (n : ℕ) → r.core.guard n ≡ r'.core.guard n
  same_guard n = dite (dec_le key.locks n)
      (λ beyond. guard_free key s r n beyond ∙ sym (guard_free key s r' n beyond))
      (λ below. sym (r.words.guards n (omega arith)) ∙ r'.words.guards n (omega arith))

  same_word : (n : ℕ) → n < key.locks → word_of r.core n ≡ word_of r'.core n
  same_word n low = packing_is_injective (word_of r.core n) (word_of r'.core n)
      (wide_word_is_valid r.core n r.reached (have_room key s r))
      (wide_word_is_valid r'.core n r'.reached (have_room key s r'))
      (sym (r.words.owners n low) ∙ r'.words.owners n low)

  same_owner : (n : ℕ) → r.core.owner n ≡ r'.core.owner n
  same_owner n = dite (dec_le key.locks n)
      (λ beyond. nobody_owns key s r n beyond ∙ sym (nobody_owns key s r' n beyond))
      (λ below. holder_told r.core r'.core (r.core.owner n) (r'.core.owner n) (r.core.asked n) (r'.core.asked n)
      (r.core.queue n) (r'.core.queue n) (same_word n (omega arith)))

  -- a list at home is that of both, and one that is out is named by the view of the seat inside
  list_home : (n : ℕ) → n < key.locks → r.core.guard n ≡ 0 → r.core.queue n ≡ r'.core.queue n
  list_home n low free = let at = sym (r.homes.lists n low free) ∙ r'.homes.lists n low (sym (same_guard n) ∙ free) in
      let lines : Line (r.core.queue n) ≡ Line (r'.core.queue n) = some-injective _ _ (some-injective _ _ at) in
      let same : r.core.queue n ≡ r'.core.queue n = cc in same

  list_out : (n t : ℕ) → r.core.guard n ≡ suc t → r.core.queue n ≡ r'.core.queue n
  list_out n t inside = dite (dec_le key.seats t)
      (λ beyond. absurd ((r.strangers t beyond).outside n inside))
      (λ below. let x = told t (omega arith) in let k = x.here.1.knows in let k' = x.there.1.knows in
      let by : r.core.guard n ≡ suc x.part.core.who = inside ∙ ap suc (sym x.who) in
      let is : x.part.core.inside ≡ suc n = k.guard.inside n by in sym (k.queues.list n is) ∙ k'.queues.list n is)

  same_queue : (n : ℕ) → r.core.queue n ≡ r'.core.queue n
  same_queue n = dite (dec_le key.locks n)
      (λ beyond. queue_empty key s r n beyond ∙ sym (queue_empty key s r' n beyond))
      (λ below. go (r.core.guard n) refl (omega arith))
    where
      go : (g : ℕ) → r.core.guard n ≡ g → n < key.locks → r.core.queue n ≡ r'.core.queue n
      go zero free low = list_home n low free
      go (suc t) inside low = list_out n t inside

  same_asked : (n : ℕ) → r.core.asked n ≡ r'.core.asked n
  same_asked n = dite (dec_le key.locks n)
      (λ beyond. free_not_asked r.core (law key s r) n (nobody_owns key s r n beyond)
      ∙ sym (free_not_asked r'.core (law key s r') n (nobody_owns key s r' n beyond)))
      (λ below. asked_told r.core r'.core (r.core.owner n) (r'.core.owner n) (r.core.asked n) (r'.core.asked n)
      (r.core.queue n) (r'.core.queue n) (same_word n (omega arith)) (same_owner n) (same_queue n))

  same_stamp : (t : ℕ) → r.core.stamp t ≡ r'.core.stamp t
  same_stamp t = dite (dec_le key.seats t)
      (λ beyond. (r.strangers t beyond).stamp ∙ sym ((r'.strangers t beyond).stamp))
      (λ below. let x = told t (omega arith) in ap r.core.stamp (sym x.who) ∙ sym x.here.1.knows.itself.stamp
      ∙ x.there.1.knows.itself.stamp ∙ ap r'.core.stamp x.who)

  same_sign : (t : ℕ) → r.core.sign t ≡ r'.core.sign t
  same_sign t = dite (dec_le key.places t)
      (λ beyond. let few = r.seats_there in unsigned r.core (law key s r) t (r.strangers t (omega arith)).stamp
      ∙ sym (unsigned r'.core (law key s r') t (r'.strangers t (omega arith)).stamp))
      (λ below. sym (r.words.signs t (omega arith)) ∙ r'.words.signs t (omega arith))

  same_cancel : (t : ℕ) → r.core.cancel t ≡ r'.core.cancel t
  same_cancel t = dite (dec_le key.places t)
      (λ beyond. cancels_beyond r.core r.reached t (let places = r.places in omega arith)
      ∙ sym (cancels_beyond r'.core r'.reached t (let places = r'.places in omega arith)))
      (λ below. sym (r.words.cancels t (omega arith)) ∙ r'.words.cancels t (omega arith))

  same_heeded : (t : ℕ) → r.core.heeded t ≡ r'.core.heeded t
  same_heeded t = dite (dec_le key.seats t)
      (λ beyond. away_unheeded r.core (law key s r).base t (r.strangers t beyond).waits
      ∙ sym (away_unheeded r'.core (law key s r').base t (r'.strangers t beyond).waits))
      (λ below. let x = told t (omega arith) in ap r.core.heeded (sym x.who) ∙ sym x.here.1.knows.heeded
      ∙ x.there.1.knows.heeded ∙ ap r'.core.heeded x.who)

  pub core_is_one : r.core ≡ r'.core
  core_is_one = λ i. record {
    kind = (r.kind ∙ sym r'.kind) i;
    locks = (r.locks ∙ sym r'.locks) i;
    seats = (r.places ∙ sym r'.places) i;
    drawn = (sym r.drawn ∙ ap (λ (a : ℕ). min a (most_for key.places)) (sym r.words.drawn ∙ r'.words.drawn) ∙ r'.drawn) i;
    commits = (sym r.words.front ∙ r'.words.front) i;
    stamp = λ t. same_stamp t i;
    sign = λ t. same_sign t i;
    owner = λ n. same_owner n i;
    asked = λ n. same_asked n i;
    queue = λ n. same_queue n i;
    guard = λ n. same_guard n i;
    cancel = λ t. same_cancel t i;
    heeded = λ t. same_heeded t i;
  }

  -- ---- the history

  same_part : (t : ℕ) → t < key.seats → part_of t r.log ≡ part_of t r'.log
  same_part t small = let x = told t small in ap (λ (k : ℕ). part_of k r.log) (sym x.who) ∙ sym x.here.1.own
      ∙ x.there.1.own ∙ ap (λ (k : ℕ). part_of k r'.log) x.who

  -- each record stands at its place in both
  log_has : (i : ℕ) (x : Recorded) → get_elem? r.log i ≡ some x → get_elem? r'.log i ≡ some x
  log_has i x here = let p = has_part 0 x.caller r'.log (0 + i) x
      (subst (λ l. Has l (0 + i, x)) (same_part x.caller (r.counted.callers i x here))
      (part_has 0 x.caller i r.log x here refl)) in
      ap (get_elem? r'.log) (let z : i ≡ p.0 = (let y = p.1 in omega arith) in z) ∙ p.2

same_lists : {A : Type 0} (xs ys : List A) → length xs ≡ length ys
    → ((i : ℕ) (x : A) → get_elem? xs i ≡ some x → get_elem? ys i ≡ some x) → xs ≡ ys
same_lists [] [] long has = refl
same_lists [] (y ∷ ys) long has = absurd (omega arith)
same_lists (x ∷ xs) [] long has = absurd (omega arith)
same_lists (x ∷ xs) (y ∷ ys) long has =
    λ i. sym (some-injective y x (has 0 x refl)) i ∷ same_lists xs ys (omega arith) (λ k z e. has (suc k) z e) i

pub log_is_one : (key : Start) (s : St) (r r' : Ruled key s) → r.log ≡ r'.log
log_is_one key s r r' = same_lists r.log r'.log
    (sym r.counted.front ∙ sym r.words.front ∙ r'.words.front ∙ r'.counted.front) (log_has key s r r')
