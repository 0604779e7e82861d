-- Of all events: what a seat shows is possible, and what it knows afterwards.
use Rattle.std.proofs.Common.{◌≡◌, inl, inr, ⊎_elim, [], refl, sym, subst, arith}
use Rattle.ww_model.specs.declared.event.Event.{Event}
use Rattle.ww_model.specs.declared.event.Event.TheVariants.{Begin, Clear, Fast, FastGive, Guard, Join, Sign, Take, Ask, Give, Die, Unguard, Commit, End, Cancel, Heed, Leave}
use Rattle.ww_model.specs.State.{State, word_of}
use Rattle.ww_model.specs.Event.{Possible, after, actor}
use Rattle.ww_model.specs.Lawful.{IsLawful, SignedOwnsOutside}
use Rattle.ww_view.specs.declared.view.View.{View}
use Rattle.ww_view.specs.Word.{taken_word}
use Rattle.ww_view.specs.View.{Knows, IsQuiet}
use Rattle.ww_view.specs.May.{MayClear, Shows}
use Rattle.ww_view.specs.Made.{view_after}
use Rattle.ww_view.proofs.Shows.{shows_begin, shows_end, shows_commit, shows_fast, shows_fast_give, shows_guard, shows_join, shows_take, shows_ask, shows_give, shows_die, shows_sign, shows_clear, shows_exit, shows_cancel, shows_heed, shows_leave}
use Rattle.ww_view.proofs.Mine.{mine_begin, mine_end, mine_commit, mine_fast, mine_fast_give, mine_guard, mine_unguard, mine_cancel}
use Rattle.ww_view.proofs.Inside.{mine_join, mine_take, mine_ask, mine_give, mine_die, mine_sign, mine_clear, mine_heed, mine_leave}

-- who may take its sign back can be signed by nobody else
pub clear_quiet : (v : View) → MayClear v → IsQuiet v
clear_quiet v may = ⊎_elim (λ x. inl x.1) (λ x. inr (x.0, λ none. let z = x.1.1 in omega arith)) may.why

-- The view stands with the number of the event's seat, which is its own.
possible : (c : State) (e : Event) (v : View) → IsLawful c → SignedOwnsOutside c →
    Knows c (record v { who = actor e }) →
    Shows c (record v { who = actor e }) e → Possible c e
possible c (Begin s) v l out k h = shows_begin c (record v { who = s }) l k h.0 h.1 h.2 h.3
possible c (Clear s) v l out k h = shows_clear c (record v { who = s }) l k h
possible c (Fast s n) v l out k h = shows_fast c (record v { who = s }) l k n out h.0 h.1 h.2
possible c (FastGive s n) v l out k h =
    shows_fast_give c (record v { who = s }) l k n h.0 h.1 h.2 (taken_word s v.stamp []) h.3 refl
possible c (Guard s n) v l out k h = shows_guard c (record v { who = s }) l k n out h.0 h.1 h.2
possible c (Join s n) v l out k h = shows_join c (record v { who = s }) l k n (word_of c n) out h refl
possible c (Sign s u) v l out k h = shows_sign c (record v { who = s }) l k h.0.0 u h.0.1 h.0.2 h.1
possible c (Take s n) v l out k h = shows_take c (record v { who = s }) l k n (word_of c n) out h refl
possible c (Ask s n) v l out k h = shows_ask c (record v { who = s }) l k n (word_of c n) h refl
possible c (Give s n) v l out k h = shows_give c (record v { who = s }) l k n h
possible c (Die s n) v l out k h = shows_die c (record v { who = s }) l k n (word_of c n) h.0 h.1 refl
possible c (Unguard s n) v l out k h = shows_exit c (record v { who = s }) l k n out h
possible c (Commit s) v l out k h = shows_commit c (record v { who = s }) l k h.1.0 h.0 h.1.1 h.2
possible c (End s) v l out k h = shows_end c (record v { who = s }) l k h.0 h.1 h.2 h.3
possible c (Cancel s u) v l out k h = shows_cancel c (record v { who = s }) l k u h.0 h.1 h.2
possible c (Heed s n) v l out k h = shows_heed c (record v { who = s }) l k n h.0 h.1
possible c (Leave s n) v l out k h = shows_leave c (record v { who = s }) l k n h

known : (c : State) (e : Event) (v : View) → IsLawful c → Possible c e → Knows c (record v { who = actor e }) →
    Shows c (record v { who = actor e }) e → Knows (after c e) (view_after c e (record v { who = actor e }))
known c (Begin s) v l can k h = mine_begin c (record v { who = s }) l k can h.2
known c (Clear s) v l can k h = mine_clear c (record v { who = s }) l k can (clear_quiet (record v { who = s }) h)
known c (Fast s n) v l can k h = mine_fast c (record v { who = s }) l k n can
known c (FastGive s n) v l can k h = mine_fast_give c (record v { who = s }) l k n can
known c (Guard s n) v l can k h = mine_guard c (record v { who = s }) l k n can
known c (Join s n) v l can k h = mine_join c (record v { who = s }) l k n (word_of c n) h.inside h.not_waiting refl can
known c (Sign s u) v l can k h = mine_sign c (record v { who = s }) l k u can
known c (Take s n) v l can k h = mine_take c (record v { who = s }) l k n h.inside can
known c (Ask s n) v l can k h = mine_ask c (record v { who = s }) l k n (word_of c n) h.inside refl can
known c (Give s n) v l can k h = mine_give c (record v { who = s }) l k n (c.asked n) h.inside refl can
known c (Die s n) v l can k h = mine_die c (record v { who = s }) l k n (word_of c n) h.1.inside refl can
known c (Unguard s n) v l can k h = mine_unguard c (record v { who = s }) l k n can
known c (Commit s) v l can k h = mine_commit c (record v { who = s }) l k can
known c (End s) v l can k h = mine_end c (record v { who = s }) l k can h.2
known c (Cancel s u) v l can k h = mine_cancel c (record v { who = s }) l k u can
known c (Heed s n) v l can k h = mine_heed c (record v { who = s }) l k n can
known c (Leave s n) v l can k h = mine_leave c (record v { who = s }) l k n (word_of c n) h.inside refl can

module _ (c : State) (v : View) (l : IsLawful c) (out : SignedOwnsOutside c) (k : Knows c v)
    (e : Event) (same : actor e ≡ v.who) (h : Shows c v e) where
  own : (record v { who = actor e }) ≡ v
  own = λ i. record v { who = same i }

  pub shown_is_possible : Possible c e
  shown_is_possible = possible c e v l out (subst (Knows c) (sym own) k) (subst (λ x. Shows c x e) (sym own) h)

  pub actor_knows : Knows (after c e) (view_after c e v)
  actor_knows = subst (λ x. Knows (after c e) (view_after c e x)) own
      (known c e v l shown_is_possible (subst (Knows c) (sym own) k) (subst (λ x. Shows c x e) (sym own) h))
