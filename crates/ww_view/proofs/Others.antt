-- What a seat knows stays, whatever the others do.
use Rattle.std.proofs.Common.{◌≡◌, ◌≢◌, ◌⊎◌, inl, inr, ⊎_elim, ℕ, zero, suc, ◌<◌, Bool, true, false, List, [], ◌∷◌, Some, refl, sym, ap, ◌∙◌, subst, true≢false}
use Rattle.ww_word.specs.declared.owner.Owner.{Owner}
use Rattle.ww_queue.specs.declared.entry.Entry.{Entry}
use Rattle.ww_model.specs.declared.state.Holder.TheVariants.{Taken}
use Rattle.ww_model.specs.declared.event.Event.{Event}
use Rattle.ww_model.specs.State.{State, owner_as, word_of}
use Rattle.ww_model.specs.Event.{Possible, after, actor}
use Rattle.ww_model.specs.Lawful.{IsBase, IsLawful}
use Rattle.ww_model.specs.Alone.{NobodySigns}
use Rattle.ww_model.proofs.Kept.{keeps_base}
use Rattle.ww_model.proofs.Meetings.{same_kind}
use Rattle.ww_model.proofs.Stays.{same_seats, same_locks, stamp_stays, owner_stays, queue_stays, word_stays, stands_stays, sign_stays, others_are_left_alone}
use Rattle.ww_model.proofs.Words.{same_word}
use Rattle.ww_view.specs.declared.view.View.{View}
use Rattle.ww_view.specs.View.{Knows, IsQuiet}
use Rattle.ww_view.specs.Laws.{OthersKnow, QuietIsLeftAlone}

not_true : (b : Bool) → (b ≡ true → ⊥) → b ≡ false
not_true true isnt = absurd (isnt refl)
not_true false isnt = refl

empty_or_not : (q : List Entry) → (q ≡ []) ⊎ (q ≢ [])
empty_or_not [] = inl refl
empty_or_not (x ∷ xs) = inr (λ none. cc)

-- a seat inside is inside of some lock
some_lock : (i : ℕ) → i ≢ 0 → (n : ℕ) × (i ≡ suc n)
some_lock zero some = absurd (some refl)
some_lock (suc n) some = (n, refl)

-- a seat that is quiet by its view can be signed by nobody else
quiet_safe : (c : State) (v : View) → Knows c v → IsQuiet v → NobodySigns c v.who
quiet_safe c v k quiet = ⊎_elim
    (λ bare. inl (λ n own. true≢false (sym (k.owned.lacks n own) ∙ bare n)))
    (λ x. let n = some_lock v.inside x.1 in inr (sym k.itself.kind ∙ x.0, (n.0, (k.guard.guards n.0 n.1).1))) quiet

-- nobody is asked to hand a lock over where nobody waits
unasked : (c : State) (m : ℕ) → IsBase c → c.queue m ≡ [] → c.asked m ≡ false
unasked c m l none = not_true (c.asked m) (λ is. ((l.owners.at m).asked_taken is).1 none)

module _ (c : State) (e : Event) (t m : ℕ) (l : IsLawful c) (can : Possible c e) (other : actor e ≢ t)
    (inside : c.guard m ≡ suc t) where
  still : (after c e).queue m ≡ c.queue m
  still = queue_stays c e t m can.base other inside

  -- the word of a lock that a seat has taken stays while the seat is inside its guard
  own_word_stays : c.owner m ≡ Taken t → c.queue m ≡ [] → word_of (after c e) m ≡ word_of c m
  own_word_stays own none = let d = after c e in let own' = (owner_stays c e t can.base other m).0 own in
      let asked = unasked d m (keeps_base c e can.base l.base) (still ∙ none) ∙ sym (unasked c m l.base none) in
      same_word c d (d.owner m) (c.owner m) (d.asked m) (c.asked m) (d.queue m) (c.queue m)
      (subst (λ o. owner_as d o ≡ owner_as c o) (sym own')
      (ap (λ (k : ℕ). let x : Owner = record { seat = Some t; stamp = k; flags = 0 } in x) (stamp_stays c e t other)))
      (own' ∙ sym own) asked still

  -- where nobody else writes it, it stays
  unwritten_stays : (c.queue m ≢ []) ⊎ (c.owner m ≡ Taken t) → word_of (after c e) m ≡ word_of c m
  unwritten_stays why = ⊎_elim (λ none. ⊎_elim (λ some. absurd (some none)) (λ own. own_word_stays own none) why)
      (λ some. word_stays c e t m can.base l.base other inside some) (empty_or_not (c.queue m))

pub others_know : OthersKnow
others_know c e v l can other k = let t = v.who in let alone = others_are_left_alone c e t l can other in record {
  itself = record {
    kind = k.itself.kind ∙ sym (same_kind c e);
    seat = subst (λ x. t < x) (sym (same_seats c e)) k.itself.seat;
    room = k.itself.room ∙ sym (same_locks c e);
    seats = k.itself.seats ∙ sym (same_seats c e);
    stamp = k.itself.stamp ∙ sym alone.stamp;
  };
  owned = record {
    room = k.owned.room ∙ sym (same_locks c e);
    has = λ n is. (alone.taken n).0 (k.owned.has n is);
    lacks = λ n is. k.owned.lacks n ((alone.taken n).1 is);
  };
  guard = record {
    inside = λ n is. k.guard.inside n ((alone.guard n).1 is);
    guards = λ n is. let g = k.guard.guards n is in
        (subst (λ x. n < x) (sym (same_locks c e)) g.0, (alone.guard n).0 g.1);
  };
  queues = record {
    list = λ n is. k.queues.list n is ∙ sym (alone.inside n (k.guard.guards n is).1).queue;
    waits = λ n is. k.queues.waits n ((stands_stays c e t other n).1 is);
    waited = λ n is. (stands_stays c e t other n).0 (k.queues.waited n is);
  };
  seen = λ n o is saw why. let why' = ⊎_elim (λ some. inl (λ none. some (k.queues.list n is ∙ none)))
      (λ own. inr (k.owned.has n own)) why in
      k.seen n o is saw why ∙ sym (unwritten_stays c e t n l can other (k.guard.guards n is).1 why');
  signed = λ n u j is mark h. let at = alone.inside n (k.guard.guards n is).1 in let h' = at.owed u j h in
      at.signed u j h' (k.signed n u j is mark h');
  sign = λ j is. sign_stays c e t j can l other (λ none. quiet_safe c v k (k.quiet (is ∙ ap Some none))) (k.sign j is);
  quiet = k.quiet;
  heeded = k.heeded ∙ sym alone.heeded;
}

pub quiet_is_left_alone : QuietIsLeftAlone
quiet_is_left_alone c e v l can other k quiet =
    (others_are_left_alone c e v.who l can other).unsigned (quiet_safe c v k quiet)
