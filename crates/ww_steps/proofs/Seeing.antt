-- A desk that looks for its own sign, or whose a lock is.
use Rattle.std.proofs.Common.{◌≡◌, ◌≢◌, ◌==◌, ℕ, zero, suc, Bool, false, true, true≢false, List, [], ◌∷◌, refl, sym, ap, ◌∙◌, inl, inr, None, Some, Option}
use Rattle.std.specs.Arc.{arc_value}
use Rattle.ww_plain.specs.Numbers.{is_among}
use Rattle.ww_plain.proofs.Members.{is_among-head}
use Rattle.ww_view.specs.View.{owns}
use Rattle.ww_invariant.specs.Steps.{knowing, seeing}
use Rattle.ww_table.specs.declared.board.Board.{Board}
use Rattle.ww_seat.specs.Accounts.{account_of}
use Rattle.ww_seat.specs.Standings.{Standing, view_in, HasLookedSigned, HasSeenWord, MayLookSigned}
use Rattle.ww_steps.specs.declared.turn.Turn.{Turn}
use Rattle.ww_steps.specs.declared.turn.Turn.TheVariants.{Rests, Wants, Looks, Gives}
use Rattle.ww_steps.specs.declared.station.Station.{Station}
use Rattle.ww_steps.specs.Situations.{is_at_rest, is_inside}
use Rattle.ww_steps.specs.Answers.{HasLookedAt}
use Rattle.ww_steps.specs.Stations.{situation_of, IsWhere, Keeps}
use Rattle.ww_steps.proofs.Keeping.{kept}

-- where it holds some, it owns one
some_owned : (d : Station) → Keeps d → (view_in d.seat).locks ≢ [] → (n : ℕ) × (owns (view_in d.seat) n ≡ true)
some_owned d k some = go (view_in d.seat).locks some k.owns.same
  where
    go : (held : List ℕ) → held ≢ [] → ((n : ℕ) → owns (view_in d.seat) n ≡ is_among n held) →
        (n : ℕ) × (owns (view_in d.seat) n ≡ true)
    go [] there same = absurd (there refl)
    go (x ∷ xs) there same = (x, same x ∙ is_among-head x xs)

outside : (b : Board) (wakes : List ℕ) (turn : Turn) (s : Standing) → IsWhere b wakes turn s → is_inside turn ≡ false →
    (view_in s).inside ≡ 0
outside b wakes Rests s at out = at.0
outside b wakes (Wants n arrival waits) s at out = at.0.outside
outside b wakes (Looks n arrival waits) s at out = absurd (true≢false out)
outside b wakes (Gives n) s at out = at.away.0

at_rest_outside : (turn : Turn) → is_at_rest turn ≡ true → is_inside turn ≡ false
at_rest_outside Rests rests = refl
at_rest_outside (Wants n arrival waits) rests = refl
at_rest_outside (Looks n arrival waits) rests = absurd (true≢false (sym rests))
at_rest_outside (Gives n) rests = refl

pub may_look_signed : (d : Station) → Keeps d → is_inside d.turn ≡ false → (view_in d.seat).locks ≢ [] → MayLookSigned d.seat
may_look_signed d k out some = record {
  outside = outside (arc_value d.board) d.wake.items d.turn d.seat k.stands out;
  owner = some_owned d k some;
}

-- the seat once it knows another sign of its own, or none
abbrev signed : Standing → Option ℕ → Bool → Standing
signed s sign fresh = record s { me = (knowing s.me.0 (record (view_in s) { sign = sign; fresh = fresh }), s.me.1) }

-- that changes nothing of where it is, since it owns a lock
still_there : (b : Board) (wakes : List ℕ) (turn : Turn) (s : Standing) (sign : Option ℕ) (fresh : Bool) → IsWhere b wakes turn s →
    is_inside turn ≡ false → (n : ℕ) × (owns (view_in s) n ≡ true) → IsWhere b wakes turn (signed s sign fresh)
still_there b wakes Rests s sign fresh at out some = at
still_there b wakes (Wants n arrival waits) s sign fresh at out some = (
  record {
    there = at.0.there;
    want = record { lacks = at.0.want.lacks; base = at.0.want.base; signs = inr (inr (inl some)) };
    outside = at.0.outside;
    place = at.0.place;
  },
  at.1,
)
still_there b wakes (Looks n arrival waits) s sign fresh at out some = absurd (true≢false out)
still_there b wakes (Gives n) s sign fresh at out some = record { there = at.there; away = at.away; owner = at.owner }

signed_keeps : (h : Station) (q : Standing) (sign : Option ℕ) (fresh : Bool) → Keeps h → is_inside h.turn ≡ false → (view_in h.seat).locks ≢ []
    → q ≡ signed h.seat sign fresh → Keeps (record h { seat = q })
signed_keeps h q sign fresh k out some is = rw is (kept h (signed h.seat sign fresh) (account_of h.seat.me) h.count h.told h.turn h.wake k
    (record { now = refl; size = refl }) refl refl refl k.owns
    (still_there (arc_value h.board) h.wake.items h.turn h.seat sign fresh k.stands out (some_owned h k some)))

pub looked_keeps : (h : Station) (q : Standing) (sign : ℕ) → Keeps h → is_inside h.turn ≡ false → (view_in h.seat).locks ≢ []
    → HasLookedSigned h.seat sign q → Keeps (record h { seat = q })
looked_keeps h q zero k out some looked = signed_keeps h q None true k out some (looked.1 refl)
looked_keeps h q (suc j) k out some looked = signed_keeps h q (Some (suc j)) (suc j == 0) k out some (looked.0 (λ z. cc))

-- ---- whose a lock is

-- the seat once it saw this number in the word of lock n
abbrev seeing_word : Standing → ℕ → ℕ → Standing
seeing_word s n word = record s { me = (seeing s.me.0 n word, s.me.1) }

-- that changes nothing of where it is
seen_there : (b : Board) (wakes : List ℕ) (turn : Turn) (s : Standing) (n word : ℕ) → IsWhere b wakes turn s →
    is_inside turn ≡ false → IsWhere b wakes turn (seeing_word s n word)
seen_there b wakes Rests s n word at out = at
seen_there b wakes (Wants m arrival waits) s n word at out = (
  record {
    there = at.0.there;
    want = record { lacks = at.0.want.lacks; base = at.0.want.base; signs = at.0.want.signs };
    outside = at.0.outside;
    place = at.0.place;
  },
  at.1,
)
seen_there b wakes (Looks m arrival waits) s n word at out = absurd (true≢false out)
seen_there b wakes (Gives m) s n word at out = record { there = at.there; away = at.away; owner = at.owner }

pub seen_keeps : (h : Station) (q : Standing) (n word : ℕ) → Keeps h → is_inside h.turn ≡ false → HasSeenWord h.seat n word q →
    Keeps (record h { seat = q })
seen_keeps h q n word k out is = rw is (kept h (seeing_word h.seat n word) (account_of h.seat.me) h.count h.told h.turn h.wake k
    (record { now = refl; size = refl }) refl refl refl k.owns
    (seen_there (arc_value h.board) h.wake.items h.turn h.seat n word k.stands out))

pub seen_at_rest : (h : Station) (q : Standing) (n word : ℕ) → Keeps h → is_at_rest h.turn ≡ true → HasSeenWord h.seat n word q →
    Keeps (record h { seat = q })
seen_at_rest h q n word k rests = seen_keeps h q n word k (at_rest_outside h.turn rests)

-- what a contract sees of that
pub seen_of : (h : Station) (q : Standing) (n word : ℕ) → HasSeenWord h.seat n word q →
    HasLookedAt (situation_of h) n word (situation_of (record h { seat = q }))
seen_of h q n word is = ap (λ (s : Standing). situation_of (record h { seat = s })) is
