-- What a desk keeps, as the calls of its seat change that.
use Rattle.std.proofs.Common.{◌≡◌, ℕ, ◌+◌, ◌-◌, ◌<◌, ◌≤◌, Bool, true, false, List, [], ◌∷◌, ◌++◌, length, set, refl, sym, ap, subst, ◌∙◌, arith, length-set, length-append, None, Option, not, ◌==◌, inl}
use Rattle.std.specs.Arc.{arc_value}
use Rattle.std.specs.Global.{Vec}
use Rattle.ww_plain.specs.declared.node.Node.{Node}
use Rattle.ww_plain.specs.Graph.{no_node}
use Rattle.ww_plain.specs.Numbers.{is_among}
use Rattle.ww_plain.proofs.Members.{different_push}
use Rattle.ww_view.specs.Made.{without}
use Rattle.ww_table.specs.declared.seat.Taking.TheVariants.{Took}
use Rattle.ww_table.specs.declared.seat.Giving.TheVariants.{Gave}
use Rattle.ww_table.specs.Seat.{locks_of}
use Rattle.ww_seat.specs.Accounts.{Account, account_of}
use Rattle.ww_seat.specs.Calls.{HasAdded, HasGiven, HasLetOnce, HasTriedOnce}
use Rattle.ww_seat.specs.Standings.{Standing, view_in, HasGoneIn, IsBack, IsSame}
use Rattle.ww_seat.specs.Looks.{CameTo}
use Rattle.ww_seat.specs.declared.look.Arrival.{Arrival}
use Rattle.ww_seat.specs.declared.look.Arrival.TheVariants.{Came}
use Rattle.ww_seat.specs.declared.look.Look.TheVariants.{Locked}
use Rattle.ww_seat.specs.declared.waits.Waits.{Waits}
use Rattle.ww_seat.proofs.Among.{owns_more}
use Rattle.ww_seat.proofs.Gives.{given_then}
use Rattle.ww_seat.proofs.Kept.{same_then}
use Rattle.ww_seat.proofs.Naps.{out_then}
use Rattle.ww_seat.proofs.Without.{owns_less, different_without}
use Rattle.ww_steps.specs.declared.turn.Turn.{Turn}
use Rattle.ww_steps.specs.declared.turn.Turn.TheVariants.{Rests, Wants, Looks, Gives}
use Rattle.ww_steps.specs.declared.station.Station.{Station}
use Rattle.ww_steps.specs.Situations.{Situation, is_at_rest}
use Rattle.ww_steps.specs.Answers.{HasJustLost, HasReleased, StaysOut}
use Rattle.ww_steps.specs.Stations.{situation_of, IsWhere, OwnsJust, Keeps}
use Rattle.ww_steps.proofs.Locks.{at_turn, few_owned, one_less, rest_of}

-- it counts no more than there are, wherever its call stands
pub few_counted : (h : Station) (turn : Turn) → Keeps (record h { turn = turn }) → h.count ≤ 16777216
few_counted h turn k = let few = few_owned h.count _ _ _ k.owns in omega (arith, few, k.world.most)

-- ---- what it owns

one_more : (count locks n : ℕ) (held : List ℕ) (owned : List Bool) → OwnsJust count locks held owned → n < locks
    → is_among n held ≡ false → OwnsJust (count + 1) locks (held ++ n ∷ []) (set owned n true)
one_more count locks n held owned o there lacks = record {
  counted = omega (arith, o.counted, length-append held (n ∷ []));
  differ = different_push held n o.differ lacks;
  same = owns_more owned (set owned n true) held n (omega (arith, there, o.room)) refl o.same;
  room = length-set owned n true ∙ o.room;
}

one_fewer : (count locks n : ℕ) (held : List ℕ) (owned : List Bool) → OwnsJust count locks held owned → n < locks
    → is_among n held ≡ true → OwnsJust (count - 1) locks (without n held) (set owned n false)
one_fewer count locks n held owned o there has = record {
  counted = omega (arith, o.counted, one_less n held o.differ has);
  differ = different_without n held o.differ;
  same = owns_less owned (set owned n false) held n (omega (arith, there, o.room)) refl o.same;
  room = length-set owned n false ∙ o.room;
}

-- the same desk, whose seat has this account
pub kept : (h : Station) (q : Standing) (a : Account) (count : ℕ) (told : Option ℕ) (turn : Turn) (w : Vec ℕ)
    → Keeps h → IsSame h.seat q → account_of q.me ≡ a → a.counts.draws ≡ h.seat.me.0.part.counts.draws
    → length w.items ≡ length h.wake.items → OwnsJust count (locks_of (arc_value h.board)) a.locks a.owned
    → IsWhere (arc_value h.board) w.items turn q
    → Keeps (record h { seat = q; count = count; told = told; turn = turn; wake = w })
kept h q a count told turn w k same now draws long owns at = record {
  at = record { home = ap (λ (s : Standing). s.home) same.now ∙ k.at.home; size = same.size ∙ k.at.size };
  stands = at;
  world = rw long k.world;
  owns = subst (λ (a : Account). OwnsJust count (locks_of (arc_value h.board)) a.locks a.owned) (sym now) owns;
  draws = omega (arith, k.draws, draws, ap (λ (a : Account). a.counts.draws) now);
}

-- it took a lock
took : (h : Station) (q : Standing) (tries n : ℕ) (x : Node) (w : Vec ℕ) → Keeps h → length w.items ≡ length h.wake.items
    → n < locks_of (arc_value h.board) → is_among n (view_in h.seat).locks ≡ false → IsBack h.seat q
    → HasAdded (record (account_of h.seat.me) { tries = tries }) n x q.me
    → Keeps (record h { seat = q; count = h.count + 1; told = None; turn = Rests; wake = w })
took h q tries n x w k long there lacks back t = kept h q _ (h.count + 1) None Rests w k back.same t.now refl long
    (one_more h.count _ n _ _ k.owns there lacks) back.away

-- ... inside the guard
pub took_inside : (h : Station) (q : Standing) (n : ℕ) (arrival : Arrival) (waits : Waits) (x : Node) (w : Vec ℕ)
    → Keeps (record h { turn = Looks n arrival waits }) → length w.items ≡ length h.wake.items → IsSame h.seat q → CameTo n h.seat.me (Locked x) q.me
    → Keeps (record h { seat = q; count = h.count + 1; told = None; turn = Rests; wake = w })
took_inside h q n arrival waits x w k long same came = took (record h { turn = Looks n arrival waits }) q _ n x w k long k.stands.0
    (sym (k.owns.same n) ∙ k.stands.1.want.lacks) (record { same = same; away = came.0 }) came.1

-- it released a lock
pub gave : (h : Station) (q : Standing) (n : ℕ) (w : Vec ℕ) → Keeps h → length w.items ≡ length h.wake.items
    → n < locks_of (arc_value h.board) → is_among n (view_in h.seat).locks ≡ true → IsBack h.seat q → HasGiven h.seat.me n q.me
    → Keeps (record h { seat = q; count = h.count - 1; turn = Rests; wake = w })
gave h q n w k long there has back t = kept h q _ (h.count - 1) h.told Rests w k back.same t refl long
    (one_fewer h.count _ n _ _ k.owns there has) back.away

-- ... inside its guard
pub gave_inside : (h : Station) (u q : Standing) (n : ℕ) (w : Vec ℕ) → Keeps h → h.turn ≡ Gives n → length w.items ≡ length h.wake.items
    → HasGoneIn h.seat u → IsBack u q → HasGiven u.me n q.me
    → Keeps (record h { seat = q; count = h.count - 1; turn = Rests; wake = w })
gave_inside h u q n w k turn long gone back t = let at = at_turn h (Gives n) k turn in
    gave h q n w k long at.there (sym (k.owns.same n) ∙ at.owner) (record { same = same_then h.seat u q gone.same back.same; away = back.away })
    (given_then h.seat.me u.me q.me n gone.holds t)

-- ---- one try at a lock, and to release one

pub took_at_once : (h : Station) (q : Standing) (n : ℕ) → Keeps h → is_at_rest h.turn ≡ true → n < h.locks → IsBack h.seat q
    → HasTriedOnce h.seat.me n Took q.me → Keeps (record h { seat = q; count = h.count + 1; told = None })
took_at_once h q n k rests there back t = subst (λ (r : Turn). Keeps (record h { seat = q; count = h.count + 1; told = None; turn = r }))
    (sym (rest_of h.turn rests))
    (took h q _ n no_node h.wake k refl (omega (arith, there, k.world.locks_are)) (sym (k.owns.same n) ∙ t.0) back t.1)

pub gave_at_once : (h : Station) (q : Standing) (n : ℕ) → Keeps h → is_at_rest h.turn ≡ true → n < h.locks → IsBack h.seat q
    → HasLetOnce h.seat.me n Gave q.me → Keeps (record h { seat = q; count = h.count - 1 })
gave_at_once h q n k rests there back t = subst (λ (r : Turn). Keeps (record h { seat = q; count = h.count - 1; turn = r }))
    (sym (rest_of h.turn rests))
    (gave h q n h.wake k refl (omega (arith, there, k.world.locks_are)) (sym (k.owns.same n) ∙ t.0) back t.1)

-- ... in vain
pub lost_keeps : (h : Station) (n : ℕ) (waits : Waits) → Keeps h → HasJustLost n (situation_of h)
    → Keeps (record h { turn = Wants n Came waits })
lost_keeps h n waits k lost = let away = at_turn h Rests k (rest_of h.turn lost.rests) in
    let off = sym (ap (λ (w : ℕ). not (w == 0)) away.1) in
    kept h h.seat (account_of h.seat.me) h.count h.told (Wants n Came waits) h.wake k (record { now = refl; size = refl })
    refl refl refl k.owns (
      record { there = omega (arith, lost.there, k.world.locks_are); want = lost.want; outside = away.0; place = inl away.1 },
      (off, off),
    )

-- ---- several releases

pub released_on : (s t u : Situation) (ns : List ℕ) → HasReleased s ns t → StaysOut t u → u ≡ record t { view = u.view }
    → HasReleased s ns u
released_on s t u [] r out is = (
  out_then s.view t.view u.view r.0 out,
  is ∙ ap (λ (x : Situation). let y : Situation = record x { view = u.view } in y) r.1,
)
released_on s t u (n ∷ ns) r out is = (
  r.0,
  r.1,
  (
    r.2.0,
    (
      out_then r.0.view t.view u.view r.2.1.0 out,
      is ∙ ap (λ (x : Situation). let y : Situation = record x { view = u.view } in y) r.2.1.1,
    ),
  ),
)
