-- What an owner word tells of the lock.
use Rattle.std.proofs.Common.{◌≡◌, ◌≢◌, ◌⊎◌, ⊎_elim, ℕ, ◌+◌, ◌*◌, ◌≤◌, ◌==◌, Bool, true, false, List, [], ◌∷◌, Some, None, refl, sym, ap, ◌∙◌, arith, true≢false}
use Rattle.ww_word.specs.declared.owner.Owner.{Owner}
use Rattle.ww_word.specs.Owner.{is_handed}
use Rattle.ww_queue.specs.declared.entry.Entry.{Entry}
use Rattle.ww_queue.proofs.Outcomes.{number_other}
use Rattle.ww_model.specs.declared.state.Holder.{Holder}
use Rattle.ww_model.specs.declared.state.Holder.TheVariants.{Nobody, Taken, Handed}
use Rattle.ww_model.specs.State.{State, HasOther, owner_as, waiting, one_if, pickup, word_of}
use Rattle.ww_model.specs.Lawful.{IsLawful}
use Rattle.ww_model.proofs.Outcomes.{number_same}
use Rattle.ww_model.proofs.Dues.{seat_from}
use Rattle.ww_model.proofs.Words.{handed_same}
use Rattle.ww_view.specs.Word.{TellsOther}

none_waits : (q : List Entry) → waiting q ≡ 0 → q ≡ []
none_waits [] h = refl
none_waits (e ∷ es) h = absurd (omega arith)

pub some_wait : (q : List Entry) → q ≢ [] → waiting q ≡ 1
some_wait [] h = absurd (h refl)
some_wait (e ∷ es) h = refl

waits_once : (q : List Entry) → waiting q ≤ 1
waits_once [] = omega arith
waits_once (e ∷ es) = omega arith

not_asked : (b : Bool) → one_if b ≡ 0 → b ≡ false
not_asked true h = absurd (omega arith)
not_asked false h = refl

nobody_from : (c : State) (o : Holder) → (owner_as c o).seat ≡ None → o ≡ Nobody
nobody_from c Nobody h = refl
nobody_from c (Taken u) h = absurd (cc)
nobody_from c (Handed u) h = absurd (cc)

handed_from : (c : State) (o : Holder) (t : ℕ) → (owner_as c o).seat ≡ Some t → is_handed (owner_as c o) ≡ true →
    o ≡ Handed t
handed_from c Nobody t own h = absurd (cc)
handed_from c (Taken u) t own h = absurd (true≢false (sym h))
handed_from c (Handed u) t own h = ap Handed (let same : u ≡ t = cc in same)

module _ (c : State) (n : ℕ) (o : Owner) (is : o ≡ word_of c n) where
  pub no_seat : o.seat ≡ None → c.owner n ≡ Nobody
  no_seat h = nobody_from c (c.owner n) (sym (ap (λ (x : Owner). x.seat) is) ∙ h)

  some_seat : (t : ℕ) → o.seat ≡ Some t → (c.owner n ≡ Taken t) ⊎ (c.owner n ≡ Handed t)
  some_seat t h = seat_from c (c.owner n) t (sym (ap (λ (x : Owner). x.seat) is) ∙ h)

  pub handed_seat : (t : ℕ) → o.seat ≡ Some t → is_handed o ≡ true → c.owner n ≡ Handed t
  handed_seat t h b = handed_from c (c.owner n) t (sym (ap (λ (x : Owner). x.seat) is) ∙ h)
      (sym (handed_same c (c.owner n) (c.asked n) (c.queue n)) ∙ sym (ap is_handed is) ∙ b)

  pub other_seat : (s : ℕ) → TellsOther o s → HasOther c s n
  other_seat s h = (h.0, h.2, some_seat h.0 h.1)

  flags_are : o.flags ≡ waiting (c.queue n) + 2 * one_if (c.asked n) + pickup (c.owner n)
  flags_are = ap (λ (x : Owner). x.flags) is

  pub no_flags : o.flags ≡ 0 → (c.queue n ≡ []) × (c.asked n ≡ false)
  no_flags h = let f = flags_are in (none_waits (c.queue n) (omega arith), not_asked (c.asked n) (omega arith))

  -- WAITERS alone
  pub waiters_alone : (t : ℕ) → o.seat ≡ Some t → o.flags ≡ 1 → (c.owner n ≡ Taken t) × (c.asked n ≡ false)
  waiters_alone t h one = let f = flags_are in (
    ⊎_elim (λ i. i) (λ i. let p = ap pickup i in absurd (omega arith)) (some_seat t h),
    not_asked (c.asked n) (omega arith),
  )

  -- of a taken lock HANDOFF tells whether it is asked
  pub asked_is : (s : ℕ) → IsLawful c → c.owner n ≡ Taken s → (o.flags == 3) ≡ c.asked n
  asked_is s l own = go (c.asked n) refl
    where
      go : (b : Bool) → c.asked n ≡ b → (o.flags == 3) ≡ b
      go true asked = let w = some_wait (c.queue n) ((l.base.owners.at n).asked_taken asked).1 in
          let p = ap pickup own in let a = ap one_if asked in let f = flags_are in number_same o.flags 3 (omega arith)
      go false calm = let p = ap pickup own in let a = ap one_if calm in let f = flags_are in
          let w = waits_once (c.queue n) in number_other o.flags 3 (λ z. omega arith)
