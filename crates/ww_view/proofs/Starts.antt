-- What a seat knows at the start, and where it rests.
use Rattle.std.proofs.Common.{rules, ◌≡◌, inl, ℕ, zero, suc, ◌<◌, false, replicate, get_or, refl, sym, ◌∙◌, subst, arith, true≢false}
use Rattle.std.proofs.lemmas.List.{length-replicate}
use Rattle.ww_model.specs.State.{State, start, OwnsNone, InsideNone, InNoQueue}
use Rattle.ww_model.proofs.Cancels.{away_unheeded}
use Rattle.ww_view.specs.View.{Knows, first_view}
use Rattle.ww_view.specs.Laws.{KnowsAtStart, RestsAsAtStart}
use Rattle.ww_view.proofs.Shows.{bare_none, is_away, solo_unsigned}

-- a list that has no true at all, as that of the locks that a seat owns at the start
pub none_at : (k n : ℕ) → get_or (replicate k false) n false ≡ false
none_at zero n = refl
none_at (suc k) zero = refl
none_at (suc k) (suc n) = none_at k n

-- a seat of which the core says that it rests
resting : (c : State) (s : ℕ) → s < c.seats → 0 ≡ c.stamp s → OwnsNone c s → InsideNone c s →
    InNoQueue c s → c.sign s ≡ 0 → c.heeded s ≡ 0 →
    Knows c (first_view c.kind c.locks c.seats s)
resting c s seat solo bare outside away unsigned unheeded = record {
  itself = assumption;
  owned = record {
    room = length-replicate c.locks false;
    has = λ n own. absurd (true≢false (sym own ∙ none_at c.locks n));
    lacks = λ n own. absurd (bare n own);
  };
  guard = search (rules, outside);
  queues = record { list = search rules; waits = λ n h. absurd (away n h.0 h.1 h.2); waited = search rules };
  seen = search rules;
  signed = search rules;
  sign = search (rules, unsigned);
  quiet = λ _. inl (none_at c.locks);
  heeded = sym unheeded;
}

pub knows_start : KnowsAtStart
knows_start kind locks seats s seat =
    resting (start kind locks seats) s seat refl (λ n own. cc) (λ n is. omega arith) (λ n e h i. h) refl refl

-- a seat that rests is as at the start, whatever it did before
pub rests : RestsAsAtStart
rests c v l k away solo bare = let a = is_away c v l k away in
    subst (λ kind. Knows c (first_view kind c.locks c.seats v.who)) (sym k.itself.kind)
    (resting c v.who k.itself.seat (sym solo ∙ k.itself.stamp) (bare_none c v l k bare)
    a.inside a.queue (solo_unsigned c v l k solo) (away_unheeded c l.base v.who a.queue))
