-- A seat that makes a spin read of a lock is otherwise as it was.
use Rattle.std.proofs.Common.{◌≡◌, ℕ, ◌+◌, ◌≤◌, inl, length, refl, sym, ap, ◌∙◌, subst, arith}
use Rattle.ww_invariant.specs.Steps.{knowing}
use Rattle.ww_invariant.specs.Rule.{Sat}
use Rattle.ww_invariant.specs.Guards.{glancing}
use Rattle.ww_seat.specs.Looks.{HasGlanced, having_glanced}
use Rattle.ww_table.specs.declared.board.Board.{Board}
use Rattle.ww_seat.specs.Standings.{Standing, view_in, IsAt, HasStayedAway, MayGlanceOn, MayWait, MayGoIn, OwnsNodes}
use Rattle.ww_seat.specs.declared.resting.Stay.{Stay}

pub and_more : (m : Sat) {a b : Sat} (k l : ℕ) → a ≡ having_glanced m k → b ≡ having_glanced a l → b ≡ having_glanced m (k + l)
and_more m k l is then = let v = m.0.part.core in
    let now : v.glances + k + l ≡ v.glances + (k + l) = omega arith in
    let all : v.all_glances + k + l ≡ v.all_glances + (k + l) = omega arith in
    then ∙ ap (λ (w : Sat). having_glanced w l) is ∙ (λ j. (knowing m.0 (record v { glances = now j; all_glances = all j }), m.1))

pub glances_of : (m : Sat) {a : Sat} (k : ℕ) → a ≡ having_glanced m k → a.0.part.core.glances ≡ m.0.part.core.glances + k
glances_of m k is = ap (λ (w : Sat). w.0.part.core.glances) is

-- after so many spin reads, and others behind them
pub glanced_further : (m : Sat) {a b : Sat} (k : ℕ) → a ≡ having_glanced m k → HasGlanced a b → b.0.part.core.glances ≤ 16 → HasGlanced m b
glanced_further m k is g few = let now = and_more m k g.times is g.now in
    record { times = k + g.times; few = omega (arith, few, glances_of m (k + g.times) now); now = now }

-- ---- of a seat as its caller has it

pub stayed_none : (s : Standing) → HasStayedAway s s
stayed_none s = let m = s.me in let v = m.0.part.core in
    let now : v.glances ≡ v.glances + 0 = omega arith in let all : v.all_glances ≡ v.all_glances + 0 = omega arith in record {
      now = refl;
      glanced = record {
        times = 0;
        few = omega arith;
        now = λ i. (knowing m.0 (record v { glances = now i; all_glances = all i }), m.1);
      };
    }

pub stayed_further : {s u s' : Standing} → HasStayedAway s u → HasStayedAway u s' → (view_in s').glances ≤ 16 → HasStayedAway s s'
stayed_further {s} {s'} a b few = record {
  now = b.now ∙ ap (λ (x : Standing). let y : Standing = record x { me = s'.me } in y) a.now;
  glanced = glanced_further s.me a.glanced.times a.glanced.now b.glanced few;
}

pub stayed_at : {b : Board} {s s' : Standing} → IsAt b s → HasStayedAway s s' → IsAt b s'
stayed_at at a = record {
  home = ap (λ (x : Standing). x.home) a.now ∙ at.home;
  size = ap (λ (m : Sat). length m.0.held) a.glanced.now ∙ at.size;
}

-- one spin read
pub stayed_once : (s : Standing) {s' : Standing} → s' ≡ record s { me = (glancing s.me.0, s.me.1) } → HasStayedAway s s'
stayed_once s is = subst (HasStayedAway s) (sym is) (record { now = refl; glanced = record { times = 1; few = omega arith; now = refl } })

-- one more, by a seat that has some left
pub stayed_more : {first s u : Standing} {stay : Stay} → HasStayedAway first s → MayGlanceOn stay (view_in s)
    → u ≡ record s { me = (glancing s.me.0, s.me.1) } → HasStayedAway first u
stayed_more {s} stayed may is = let more = ap (λ (x : Standing). (view_in x).glances) is in
    stayed_further stayed (stayed_once s is) (omega (arith, more, may.few, may.one))

-- so it may still wait for the lock
pub still_waits : {b : Board} {n : ℕ} {s s' : Standing} → MayWait b n s → HasStayedAway s s'
    → MayGoIn b n s' × ((view_in s').waits ≡ 0) × OwnsNodes s'
still_waits {b} {n} {s'} may stayed = subst
    (λ (m : Sat). let x : Standing = record s' { me = m } in MayGoIn b n x × ((view_in x).waits ≡ 0) × OwnsNodes x) (sym stayed.glanced.now) (
      record {
        there = may.there;
        want = record { lacks = may.want.lacks; base = may.want.base; signs = may.want.signs };
        outside = may.away.0;
        place = inl may.away.1;
      },
      may.away.1,
      may.nodes,
    )
