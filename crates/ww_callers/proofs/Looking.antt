-- What a desk saw of a lock was so, at a stage between its call and the answer.
use Rattle.std.proofs.Common.{◌≡◌, ⊎_elim, ℕ, suc, ◌+◌, ◌<◌, Bool, true, false, true≢false, List, [], ◌∷◌, length, refl, sym, ap, ◌∙◌, subst, arith}
use Rattle.std.proofs.lemmas.Bool.{cases_Bool}
use mathlib.Core.Logic.{dite}
use native.Mathlib.Decide.{ℕ_discrete}
use Rattle.ww_word.specs.declared.owner.Owner.{Owner}
use Rattle.ww_word.specs.Owner.{idle}
use Rattle.ww_word.specs.AnySeats.{IsValid, packed}
use Rattle.ww_model.proofs.Puts.{put_here, put_else}
use Rattle.ww_word.proofs.AnyWords.{packing_is_injective}
use Rattle.ww_queue.specs.declared.entry.Entry.{Entry}
use Rattle.ww_model.specs.declared.state.Holder.{Holder}
use Rattle.ww_model.specs.declared.state.Holder.TheVariants.{Nobody}
use Rattle.ww_model.specs.Run.{Reached}
use Rattle.ww_model.specs.State.{State, put, word_from, word_of}
use Rattle.ww_model.proofs.Kept.{reached_is_lawful}
use Rattle.ww_view.proofs.Tells.{no_seat, no_flags}
use Rattle.ww_invariant.proofs.Moves.{idle_valid}
use Rattle.ww_view.specs.declared.view.View.{View}
use Rattle.ww_invariant.specs.declared.cells.Part.{Part}
use Rattle.ww_invariant.specs.declared.cells.Start.{Start}
use Rattle.ww_laws.proofs.Endless.{holds_at}
use Rattle.ww_refines.specs.Moment.{core, view}
use Rattle.ww_refines.specs.Moves.{OthersStay}
use Rattle.ww_refines.specs.Tables.{NotesWhatStands, nothing, word}
use Rattle.ww_steps.specs.declared.turn.Answer.{Answer}
use Rattle.ww_steps.specs.declared.turn.Answer.TheVariants.{Done, Busy}
use Rattle.ww_steps.specs.Situations.{Situation}
use Rattle.ww_steps.specs.Answers.{HasLookedAt}
use Rattle.ww_steps.specs.Outlooks.{shown_by}
use Rattle.ww_callers.specs.Stages.{Stage}
use Rattle.ww_callers.specs.Deeds.{Call, is_free, outlook, Deed, calls, steps, reads, answers, names, wakes, parks, rises, halts, Calls, Does}
use Rattle.ww_callers.specs.Drives.{IsEndlessDrive, IsFreeThere, AnswersLater, LooksAreTrue}
use Rattle.ww_callers.proofs.Keeping.{IsInOrder, acts, reads_there}
use Rattle.ww_callers.proofs.Runs.{in_order, driven}

-- ---- one deed

module _ {key : Start} (g g' : Stage key) (order : IsInOrder g) (d : ℕ) where
  -- A call of the desk begins, of which the view is its seat's; or one was on its way, and its seat noted what stood there.
  data Amid : Type 0 where
    begins : (g'.desk d).view ≡ view g'.moment d → Amid
    goes_on : g.calling d ≡ true → g'.desk d ≡ g.desk d →
        NotesWhatStands key g.moment.core (view g.moment d) (view g'.moment d) → Amid

  called : Calls g g' d → (g'.desk d).view ≡ view g'.moment d
  called h = subst (λ (z : Stage key). (z.desk d).view ≡ view z.moment d) (sym h.now)
      ((order d h.at_hand.seat).current.view h.at_hand.idle)

  -- the deed is another desk's, or beside the table
  unmoved : (z : Stage key) → g' ≡ z → z.calling d ≡ g.calling d → z.desk d ≡ g.desk d → z.moment.part d ≡ g.moment.part d →
      g'.calling d ≡ true → Amid
  unmoved z is calling desk part on = goes_on (sym calling ∙ sym (ap (λ (y : Stage key). y.calling d) is) ∙ on)
      (ap (λ (y : Stage key). y.desk d) is ∙ desk)
      (nothing (ap (λ (y : Stage key). (y.moment.part d).core.words_seen) is ∙ ap (λ (p : Part). p.core.words_seen) part))

  -- a step of desk e at the table
  stepped : d < key.seats → (e : ℕ) → g' ≡ record g { moment = g'.moment } → OthersStay g.moment g'.moment e →
      NotesWhatStands key g.moment.core (view g.moment e) (view g'.moment e) → g'.calling d ≡ true → Amid
  stepped low e now stay notes on = dite (ℕ_discrete d e)
      (λ is. goes_on (sym (ap (λ (y : Stage key). y.calling d) now) ∙ on) (ap (λ (y : Stage key). y.desk d) now)
      (subst (λ t. NotesWhatStands key g.moment.core (view g.moment t) (view g'.moment t)) (sym is) notes))
      (λ isnt. unmoved (record g { moment = g'.moment }) now refl refl (stay.others d low isnt) on)

  amid : d < key.seats → (x : Deed) → Does g g' x → g'.calling d ≡ true → Amid
  amid low (calls e) h on = dite (ℕ_discrete d e)
      (λ is. begins (called (subst (Calls g g') (sym is) h)))
      (λ isnt. unmoved _ h.now (put_else g.calling e true d isnt) refl refl on)
  amid low (steps e x) h on = let there = (h.there (acts g g' order e x h)).there in stepped low e h.now there.stay h.notes on
  amid low (reads e) h on = let there = reads_there g g' order e h in stepped low e h.now there.stay h.notes on
  amid low (answers e call a) h on = dite (ℕ_discrete d e)
      (λ is. absurd (true≢false (sym on ∙ ap (λ (y : Stage key). y.calling d) h.now ∙ ap (put g.calling e false) is
      ∙ put_here g.calling e false)))
      (λ isnt. unmoved _ h.now (put_else g.calling e false d isnt) (put_else g.desk e (g'.desk e) d isnt) refl on)
  amid low (names e u) h on = dite (ℕ_discrete d e)
      (λ is. absurd (true≢false (sym on ∙ ap (λ (y : Stage key). y.calling d) h.now ∙ ap g.calling is ∙ h.at_hand.idle)))
      (λ isnt. unmoved _ h.now refl (put_else g.desk e (g'.desk e) d isnt) refl on)
  amid low (wakes e u) h on = unmoved _ h.now refl refl refl on
  amid low (parks e) h on = unmoved _ h.now refl refl refl on
  amid low (rises e) h on = unmoved _ h.now refl refl refl on
  amid low halts h on = unmoved g h refl refl refl on

-- ---- what a word tells

-- a lock is free if its word is 0
free_if : (c : State) (n : ℕ) → IsValid (word_of c n) → packed (word_of c n) ≡ 0 → IsFreeThere c n
free_if c n fits none = let is : idle ≡ word_of c n = packing_is_injective idle (word_of c n) idle_valid fits (sym none) in
    (no_seat c n idle is refl, (no_flags c n idle is refl).0)

-- ... and only then: nobody is asked to hand over a lock that nobody has
word_is_0 : (c : State) (owner : Holder) (asked : Bool) (q : List Entry) → owner ≡ Nobody → asked ≡ false → q ≡ [] →
    packed (word_from c owner asked q) ≡ 0
word_is_0 c owner asked q nobody not_asked none =
    ap (λ (x : Holder × Bool × List Entry). packed (word_from c x.0 x.1 x.2)) (λ i. (nobody i, not_asked i, none i))

zero_if : (c : State) → Reached c → (n : ℕ) → IsFreeThere c n → packed (word_of c n) ≡ 0
zero_if c reached n free = let at = (reached_is_lawful c reached).base.owners.at n in
    word_is_0 c (c.owner n) (c.asked n) (c.queue n) free.0
    (⊎_elim (λ asked. absurd ((at.asked_taken asked).1 free.1)) (λ isnt. isnt) (cases_Bool (c.asked n))) free.1

-- ---- along the drive

-- What the seat of desk d has noted by k since i, where this was noted before and that is now: nothing; what stood in a lock's word
-- at some stage in between; or more.
data Noted {key : Start} (stage : ℕ → Stage key) (i k : ℕ) (seen now : List (ℕ × ℕ)) : Type 0 where
  none : now ≡ seen → Noted stage i k seen now
  once : (h n : ℕ) → i < h → h < k → IsValid (word_of (stage h).moment.core n) →
      now ≡ (n, packed (word_of (stage h).moment.core n)) ∷ seen → Noted stage i k seen now
  more : length seen + 1 < length now → Noted stage i k seen now

longer : (seen now : List (ℕ × ℕ)) (p : ℕ × ℕ) → now ≡ p ∷ seen → length now ≡ suc (length seen)
longer seen now p is = ap length is

as_long : (seen now : List (ℕ × ℕ)) → now ≡ seen → length now ≡ length seen
as_long seen now is = ap length is

abbrev first_of : List (ℕ × ℕ) → ℕ × ℕ
first_of [] = (0, 0)
first_of (p ∷ ps) = p

module _ {key : Start} (stage : ℕ → Stage key) where
  -- one step more
  further : (i k : ℕ) (seen : List (ℕ × ℕ)) (v v' : View) → i < k → Noted stage i k seen v.words_seen →
      NotesWhatStands key (stage k).moment.core v v' → Noted stage i (suc k) seen v'.words_seen
  further i k seen v v' after (none same) (nothing is) = none (is ∙ same)
  further i k seen v v' after (none same) (word n low fits is) = once k n after (omega arith) fits
      (is ∙ ap (λ (l : List (ℕ × ℕ)). (n, packed (word_of (stage k).moment.core n)) ∷ l) same)
  further i k seen v v' after (once h n from before fits there) (nothing is) = once h n from (omega (arith, before)) fits (is ∙ there)
  further i k seen v v' after (once h n from before fits there) (word m high good is) =
      more (omega (arith, longer v.words_seen v'.words_seen _ is, longer seen v.words_seen _ there))
  further i k seen v v' after (more many) (nothing is) = more (omega (arith, as_long v.words_seen v'.words_seen is, many))
  further i k seen v v' after (more many) (word n low fits is) = more (omega (arith, longer v.words_seen v'.words_seen _ is, many))

  -- this number stood in the word of the lock at some stage in between
  abbrev StoodThere : ℕ → ℕ → ℕ → ℕ → Type 0
  StoodThere n found i j = (k : ℕ) × (i < k) × (k < j) × IsValid (word_of (stage k).moment.core n)
      × (packed (word_of (stage k).moment.core n) ≡ found)

  stood : (i j n found : ℕ) (seen now : List (ℕ × ℕ)) → Noted stage i j seen now → now ≡ (n, found) ∷ seen → StoodThere n found i j
  stood i j n found seen now (none same) is = absurd (omega (arith, as_long seen now same, longer seen now _ is))
  stood i j n found seen now (once h m from before fits there) is =
      let place : m ≡ n = ap (λ (l : List (ℕ × ℕ)). (first_of l).0) (sym there ∙ is) in
      let number = ap (λ (l : List (ℕ × ℕ)). (first_of l).1) (sym there ∙ is) in (
        h,
        from,
        before,
        subst (λ (x : ℕ). IsValid (word_of (stage h).moment.core x)) place fits,
        subst (λ (x : ℕ). packed (word_of (stage h).moment.core x) ≡ found) place number,
      )
  stood i j n found seen now (more many) is = absurd (omega (arith, longer seen now _ is, many))

module _ {key : Start} (stage : ℕ → Stage key) (deed : ℕ → Deed) (endless : IsEndlessDrive stage deed) (d i j : ℕ) (call : Call)
    (a : Answer) (looked : AnswersLater deed d i j call a) where
  abbrev Since : ℕ → Type 0
  Since k = (stage k).calling d ≡ true → Noted stage i k ((stage k).desk d).view.words_seen (view (stage k).moment d).words_seen

  called_at : Does (stage i) (stage (suc i)) (calls d)
  called_at = subst (λ (x : Deed). Does (stage i) (stage (suc i)) x) looked.called (endless.goes_on i)

  answers_at : Does (stage j) (stage (suc j)) (answers d call a)
  answers_at = subst (λ (x : Deed). Does (stage j) (stage (suc j)) x) looked.answered (endless.goes_on j)

  order : (k : ℕ) → IsInOrder (stage k)
  order k = in_order (stage k) (driven stage deed endless k)

  begun : (k : ℕ) → ((stage k).desk d).view ≡ view (stage k).moment d → Since k
  begun k is on = none (ap (λ (v : View). v.words_seen) (sym is))

  on : (k : ℕ) → i < k → Since k → Since (suc k)
  on k after before still = go (amid (stage k) (stage (suc k)) (order k) d called_at.at_hand.seat (deed k) (endless.goes_on k) still)
    where
      go : Amid (stage k) (stage (suc k)) (order k) d → Noted stage i (suc k) ((stage (suc k)).desk d).view.words_seen
          (view (stage (suc k)).moment d).words_seen
      go (begins is) = begun (suc k) is still
      go (goes_on calling same notes) = subst
          (λ (s : Situation). Noted stage i (suc k) s.view.words_seen (view (stage (suc k)).moment d).words_seen) (sym same)
          (further stage i k ((stage k).desk d).view.words_seen (view (stage k).moment d) (view (stage (suc k)).moment d) after
          (before calling) notes)

  noted : Since j
  noted = let later = looked.later in holds_at Since (suc i) j (omega arith)
      (begun (suc i) (called (stage i) (stage (suc i)) (order i) d called_at)) (λ k from below. on k (omega arith))

  -- what the call saw
  saw : (n found : ℕ) → HasLookedAt ((stage j).desk d) n found ((stage (suc j)).desk d) → StoodThere stage n found i j
  saw n found is = stood stage i j n found ((stage j).desk d).view.words_seen (view (stage j).moment d).words_seen
      (noted answers_at.calling)
      (ap (λ (v : View). v.words_seen) (sym answers_at.sees) ∙ ap (λ (s : Situation). s.view.words_seen) is)

pub looks_are_true : LooksAreTrue
looks_are_true = record {
  free = λ key stage deed endless d n i j looked. let h = (answers_at stage deed endless d i j (is_free n) Done looked).done in
      let w = saw stage deed endless d i j (is_free n) Done looked n 0 h.3 in let m = (stage w.0).moment in
      (w.0, w.1, w.2, free_if m.core n w.3 w.4);
  busy = λ key stage deed endless d n i j looked rests.
      ⊎_elim (λ amid. absurd (true≢false (sym rests ∙ amid.0)))
      (λ held. let w = saw stage deed endless d i j (is_free n) Busy looked n held.2.0 held.2.2 in let m = (stage w.0).moment in
      (w.0, w.1, w.2, λ free. held.2.1 (sym w.4 ∙ zero_if m.core m.reached n free)))
      (answers_at stage deed endless d i j (is_free n) Busy looked).done;
  whose = λ key stage deed endless d n i j a seen looked h. let o : Owner = h.2.0 in
      let w = saw stage deed endless d i j (outlook n) a looked n (packed o) h.2.3 in let m = (stage w.0).moment in
      let is : o ≡ word_of (core m) n = packing_is_injective o (word_of m.core n) h.2.1 w.3 (sym w.4) in
      (w.0, w.1, w.2, h.2.2 ∙ ap (shown_by ((stage j).desk d).stamp) is);
}
