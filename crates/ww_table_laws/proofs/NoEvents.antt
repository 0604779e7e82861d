-- What is no event leaves the core and the commits as they are.
use Rattle.std.proofs.Common.{◌≡◌, ◌≢◌, ℕ, suc, ◌+◌, ◌*◌, ◌<◌, true, get_or, sym, refl, ◌∙◌, arith}
use mathlib.Core.Option.{some}
use lib.ListN.{get_elem?}
use Rattle.ww_word.specs.declared.owner.Owner.{Owner}
use Rattle.ww_word.specs.AnySeats.{IsValid, packed}
use Rattle.ww_view.specs.Made.{noted, found_uncancelled, stepped, glanced, has_seen_word, found_pending, shut_out, has_looked, has_read, found_none, fast_missed, fast_kept}
use Rattle.ww_view.proofs.Inside.{mine_look, mine_uncancelled, mine_lost_sign, mine_read, mine_read_none, mine_missed, mine_kept, mine_glanced, mine_seen_word, mine_found_pending, mine_shut_out, mine_stepped}
use Rattle.ww_invariant.specs.Layout.{lock_at}
use Rattle.ww_invariant.specs.declared.cells.Start.{Start}
use Rattle.ww_invariant.specs.Rule.{St, Sat, Sits, Ruled, Stays}
use Rattle.ww_invariant.specs.Guards.{looking, glancing}
use Rattle.ww_invariant.specs.Steps.{seeing}
use Rattle.ww_invariant.specs.Signs.{noting}
use Rattle.ww_invariant.proofs.Moves as moves
use Rattle.ww_invariant.proofs.InsideMoves.{inside_low}
use Rattle.ww_table_laws.specs.NoEvents.{once_read, IsNotedOnly, IsLostOnly}

module _ (key : Start) (s : St) (r : Ruled key s) (id : ℕ) (me : Sat) (here : get_elem? s.views id ≡ some me.0)
    (seated : me.0.seated ≡ true) where
  mine : Sits key r.core r.log r.at r.counts id me.0
  mine = moves.mine key s r id me here seated

  pub look_stays : (n : ℕ) (o : Owner) → me.0.part.core.inside ≡ suc n → IsValid o
      → get_or s.words (lock_at key.locks n) 0 ≡ packed o → Stays key s r (once_read s (lock_at key.locks n) id me (looking me.0 o))
  look_stays n o inside valid hit = moves.looks_on key s r id me here seated (lock_at key.locks n) (has_looked me.0.part.core o) refl (λ m. refl)
      (mine_look r.core me.0.part.core mine.part.knows n o inside
      (moves.found key s r id me here seated n o (inside_low key s r id me here seated n inside) valid hit))

  pub glance_stays : (n : ℕ) → Stays key s r (once_read s (lock_at key.locks n) id me (glancing me.0))
  glance_stays n = moves.looks_on key s r id me here seated (lock_at key.locks n) (glanced me.0.part.core) refl (λ m. refl)
      (mine_glanced r.core me.0.part.core mine.part.knows)

  pub owns_stays : (n : ℕ) → Stays key s r (once_read s (lock_at key.locks n) id me me.0)
  owns_stays n = moves.looks_on key s r id me here seated (lock_at key.locks n) me.0.part.core refl (λ m. refl) mine.part.knows

  pub whose_stays : (n : ℕ) → Stays key s r (once_read s (lock_at key.locks n) id me (seeing me.0 n (get_or s.words (lock_at key.locks n) 0)))
  whose_stays n = let x : ℕ = get_or s.words (lock_at key.locks n) 0 in
      moves.looks_on key s r id me here seated (lock_at key.locks n) (has_seen_word me.0.part.core n x) refl (λ m. refl)
      (mine_seen_word r.core me.0.part.core mine.part.knows n x)

  pub count_stays : Stays key s r (once_read s 0 id me (glancing me.0))
  count_stays = moves.looks_on key s r id me here seated 0 (glanced me.0.part.core) refl (λ m. refl)
      (mine_glanced r.core me.0.part.core mine.part.knows)

  pub own_sign_stays : IsNotedOnly key s r id me (lock_at key.locks key.locks + 8 * me.0.part.core.who)
  own_sign_stays = let c = r.core in let v = me.0.part.core in let k = mine.part.knows in let i = lock_at key.locks key.locks + 8 * v.who in let x = get_or s.words i 0 in
      let tells : x ≡ c.sign v.who = r.words.signs v.who (let z = k.itself.seat in let y = r.places in omega arith) in record {
        found = λ quiet. moves.looks_on key s r id me here seated i (has_read v x) refl (λ m. refl) (mine_read c v k x (sym tells) quiet);
        found_none = moves.looks_on key s r id me here seated i (found_none v) refl (λ m. refl) (mine_read_none c v k);
      }

  pub lost_stays : (i : ℕ) → IsLostOnly key s r id me i
  lost_stays i = let c = r.core in let v = me.0.part.core in let k = mine.part.knows in record {
    taking = moves.looks_on key s r id me here seated i (fast_missed v) refl (λ m. refl) (mine_missed c v k);
    giving = moves.looks_on key s r id me here seated i (fast_kept v) refl (λ m. refl) (mine_kept c v k);
    nothing = moves.looks_on key s r id me here seated i v refl (λ m. refl) k;
    cancelling = moves.looks_on key s r id me here seated i (found_pending v) refl (λ m. refl) (mine_found_pending c v k);
    entering = moves.looks_on key s r id me here seated i (shut_out v) refl (λ m. refl) (mine_shut_out c v k);
    heeding = moves.looks_on key s r id me here seated i (found_uncancelled v) refl (λ m. refl) (mine_uncancelled c v k);
    others = moves.looks_on key s r id me here seated i (stepped v) refl (λ m. refl) (mine_stepped c v k);
  }

  pub lost_sign_stays : (u : ℕ) → u < key.places → get_or s.words (lock_at key.locks key.locks + 8 * u) 0 ≢ 0 → Stays key s r (once_read s (lock_at key.locks key.locks + 8 * u) id me (noting me.0 u))
  lost_sign_stays u low isnt = moves.looks_on key s r id me here seated (lock_at key.locks key.locks + 8 * u) (noted me.0.part.core u) refl
      (λ m. refl) (mine_lost_sign r.core me.0.part.core mine.part.knows u (λ z. isnt (r.words.signs u low ∙ z)))
