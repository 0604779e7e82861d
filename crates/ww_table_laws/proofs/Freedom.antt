-- An owner word tells whose the lock is; one of 0 is that of a free lock for which nobody waits.
use Rattle.std.proofs.Common.{ℕ, ◌≡◌, Bool, true, false, List, [], refl, sym, ap, ◌∙◌}
use Rattle.ww_word.specs.Owner.{idle}
use Rattle.ww_word.specs.AnySeats.{packed}
use Rattle.ww_queue.specs.declared.entry.Entry.{Entry}
use Rattle.ww_model.specs.declared.state.Holder.{Holder}
use Rattle.ww_model.specs.declared.state.Holder.TheVariants.{Nobody}
use Rattle.ww_model.specs.State.{State, word_from, word_of}
use Rattle.ww_model.proofs.Kept.{reached_is_lawful}
use Rattle.ww_view.proofs.Tells.{no_seat, no_flags}
use Rattle.ww_view.proofs.Written.{wide_found_is}
use Rattle.ww_invariant.proofs.Moves.{have_room, idle_valid}
use Rattle.ww_table_laws.specs.Laws.{FreeWordsTell, WordsTellWhose}

-- what its word says then
free_word : (c : State) (owner : Holder) (asked : Bool) (q : List Entry) → owner ≡ Nobody → asked ≡ false → q ≡ [] →
    packed (word_from c owner asked q) ≡ 0
free_word c owner asked q nobody not_asked none =
    ap (λ (x : Holder × Bool × List Entry). packed (word_from c x.0 x.1 x.2)) (λ i. (nobody i, not_asked i, none i))

-- nobody is asked to hand over a lock that nobody has
not_asked_for : (c : State) (n : ℕ) (asked : Bool) → (asked ≡ true → c.queue n ≡ [] → ⊥) → c.queue n ≡ [] → asked ≡ false
not_asked_for c n true some none = absurd (some refl none)
not_asked_for c n false some none = refl

pub free_words_tell : FreeWordsTell
free_words_tell key s r n low = let c = r.core in let at = (reached_is_lawful c r.reached).base.owners.at n in (
  λ zero_word. let is : idle ≡ word_of c n = wide_found_is c n idle r.reached (have_room key s r) idle_valid (sym zero_word ∙ r.words.owners n low) in
      (no_seat c n idle is refl, (no_flags c n idle is refl).0),
  λ free. r.words.owners n low
      ∙ free_word c (c.owner n) (c.asked n) (c.queue n) free.0
      (not_asked_for c n (c.asked n) (λ asked none. (at.asked_taken asked).1 none) free.1) free.1,
)

pub words_tell_whose : WordsTellWhose
words_tell_whose key s r n o low valid found = wide_found_is r.core n o r.reached (have_room key s r) valid (sym found ∙ r.words.owners n low)
