-- Chains of seats of which each waits for the next.
use Rattle.std.proofs.Common.{ℕ, suc, ◌==◌, true, ◌≡◌, ◌≢◌, ◌<◌, ◌+◌, ◌⊎◌, ⊎_elim, inl, inr, false, List, [], ◌∷◌, ◌++◌, length, get_or, Option, Some, None, refl, sym, ap, ◌∙◌, subst, arith, true≢false}
use Rattle.std.proofs.lemmas.List.{get_or_past}
use Rattle.std.specs.List.{list_any}
use Rattle.std.proofs.lemmas.Bool.{cases_lt}
use Rattle.ww_queue.proofs.Outcomes.{same_number}
use Rattle.ww_model.proofs.Outcomes.{number_same, or_true, true_or}
use Rattle.ww_queue.specs.declared.entry.Entry.{Entry}
use Rattle.ww_queue.specs.Queue.{Has, Stands, Once}
use Rattle.ww_queue.proofs.Rooms.{room_for}
use Rattle.ww_model.specs.declared.state.Holder.{Holder}
use Rattle.ww_model.specs.declared.state.Holder.TheVariants.{Nobody, Taken, Handed}
use Rattle.ww_model.specs.State.{State}
use Rattle.ww_model.specs.Lawful.{IsLawful}
use Rattle.ww_model.specs.Run.{Reached}
use Rattle.ww_model.specs.Waits.{WaitsAt, WaitsFor, Leads, IsCycle, IsNoneOf, Differ, IsOneOf, IsRing, Finds}
use Rattle.ww_model.specs.Laws.{OfLawful, EachWaitsForOne, RingsAreApart}
use Rattle.ww_model.specs.Least.{IsRingFrom}
use Rattle.ww_model.proofs.Leaving.{waiters_are_seats}
use Rattle.ww_model.proofs.Kept.{reached_is_lawful}
use Rattle.ww_model.proofs.Rings.{cycles_are_of_contexts}
use Rattle.ww_model.proofs.Ranges.{owners_are_seats}

-- ---- lists of seats

pub one_of_more : (r : List ℕ) (h x : ℕ) → IsOneOf x (r ++ h ∷ []) → IsOneOf x r ⊎ (x ≡ h)
one_of_more [] h x one = ⊎_elim inr (λ a. absurd a) one
one_of_more (y ∷ ys) h x one = ⊎_elim (λ is. inl (inl is)) (λ later. ⊎_elim (λ old. inl (inr old)) inr (one_of_more ys h x later)) one

pub not_one_of : (a : ℕ) (r : List ℕ) → IsNoneOf a r → IsOneOf a r → ⊥
not_one_of a [] none one = one
not_one_of a (b ∷ bs) none one = ⊎_elim none.0 (not_one_of a bs none.1) one

none_more : (a h : ℕ) (r : List ℕ) → IsNoneOf a r → a ≢ h → IsNoneOf a (r ++ h ∷ [])
none_more a h [] none apart = (apart, tt)
none_more a h (b ∷ bs) none apart = (none.0, none_more a h bs none.1 apart)

pub differ_more : (r : List ℕ) (h : ℕ) → Differ r → ¬ IsOneOf h r → Differ (r ++ h ∷ [])
differ_more [] h differ new = (tt, tt)
differ_more (a ∷ bs) h differ new = (
  none_more a h bs differ.0 (λ is. new (inl (sym is))),
  differ_more bs h differ.1
      (λ later. new (inr later)),
)

-- the seats as waiters, so that as many fit as in a wait list
as_waiters : List ℕ → List Entry
as_waiters [] = []
as_waiters (a ∷ bs) = record { seat = a; stamp = 0; holds = false } ∷ as_waiters bs

waiter_from : (r : List ℕ) (e : Entry) → Has (as_waiters r) e → IsOneOf e.seat r
unfolding as_waiters
waiter_from [] e h = h
waiter_from (a ∷ bs) e h = ⊎_elim (λ is. inl (ap (λ (x : Entry). x.seat) is)) (λ later. inr (waiter_from bs e later)) h

waiters_once : (r : List ℕ) → Differ r → Once (as_waiters r)
unfolding as_waiters
waiters_once [] differ = tt
waiters_once (a ∷ bs) differ = (
  λ e h is. not_one_of a bs differ.0
      (subst (λ (x : ℕ). IsOneOf x bs) is (waiter_from bs e h)),
  waiters_once bs differ.1,
)

length-as_waiters : (r : List ℕ) → length (as_waiters r) ≡ length r
unfolding as_waiters
length-as_waiters [] = refl
length-as_waiters (a ∷ bs) = ap suc (length-as_waiters bs)

-- ---- one step

same_owner : (h : Holder) (a b : ℕ) → (h ≡ Taken a) ⊎ (h ≡ Handed a) → (h ≡ Taken b) ⊎ (h ≡ Handed b) → a ≡ b
same_owner h a b (inl i) (inl j) = cc
same_owner h a b (inl i) (inr j) = absurd (cc)
same_owner h a b (inr i) (inl j) = absurd (cc)
same_owner h a b (inr i) (inr j) = cc

-- nobody waits for two
pub waits_once : OfLawful EachWaitsForOne
waits_once c l a b d v w =
    let same = l.base.queues.one_queue v.0 w.0 v.1.stands.0 w.1.stands.0 v.1.stands.1 w.1.stands.1 (v.1.stands.2 ∙ sym w.1.stands.2) in
    same_owner (c.owner v.0) b d v.1.owner (subst (λ (n : ℕ). (c.owner n ≡ Taken d) ⊎ (c.owner n ≡ Handed d)) (sym same) w.1.owner)

pub waiter_is_seat : (c : State) → Reached c → (a b : ℕ) → WaitsFor c a b → a < c.seats
waiter_is_seat c run a b w = subst (λ (x : ℕ). x < c.seats) w.1.stands.2 (waiters_are_seats c run w.0 w.1.stands.0 w.1.stands.1)

pub awaited_is_seat : (c : State) → Reached c → (a b : ℕ) → WaitsFor c a b → b < c.seats
awaited_is_seat c run a b w = owners_are_seats c run w.0 b w.1.owner

-- ---- chains

-- some chain leads from the first seat to the second
abbrev pub Reaches : State → ℕ → ℕ → Type 0
Reaches c a z = (bs : List ℕ) × Leads c a bs z

-- the seats of the list, if there are any, lead from a to here
abbrev pub Walked : State → ℕ → List ℕ → ℕ → Type 0
Walked c a [] here = here ≡ a
Walked c a (x ∷ xs) here = (x ≡ a) × Leads c a xs here

leads_more : (c : State) (a : ℕ) (bs : List ℕ) (y z : ℕ) → Leads c a bs y → WaitsFor c y z → Leads c a (bs ++ y ∷ []) z
leads_more c a [] y z l w = (l, w)
leads_more c a (b ∷ bs) y z l w = (l.0, leads_more c b bs y z l.1 w)

leads_on : (c : State) (a : ℕ) (bs : List ℕ) (y : ℕ) (ds : List ℕ) (z : ℕ) → Leads c a bs y → Leads c y ds z → Leads c a (bs ++ y ∷ ds) z
leads_on c a [] y ds z l m = (l, m)
leads_on c a (b ∷ bs) y ds z l m = (l.0, leads_on c b bs y ds z l.1 m)

-- a chain is cut at a seat on the way
record Cut (c : State) (a : ℕ) (bs : List ℕ) (z x : ℕ) : Type 0 where
  before : List ℕ
  to : Leads c a before x
  after : List ℕ
  from : Leads c x after z
  within : (y : ℕ) → IsOneOf y after → IsOneOf y bs
  within_before : (y : ℕ) → IsOneOf y before → IsOneOf y bs
  each : (y : ℕ) → IsOneOf y bs → IsOneOf y before ⊎ ((y ≡ x) ⊎ IsOneOf y after)

cut : (c : State) (a : ℕ) (bs : List ℕ) (z x : ℕ) → Leads c a bs z → IsOneOf x bs → Cut c a bs z x
cut c a [] z x l one = absurd one
cut c a (b ∷ bs) z x l (inl is) = record {
  before = [];
  to = subst (WaitsFor c a) (sym is) l.0;
  after = bs;
  from = subst (λ (y : ℕ). Leads c y bs z) (sym is) l.1;
  within = λ y one. inr one;
  within_before = λ y one. absurd one;
  each = λ y one. inr (⊎_elim (λ same. inl (same ∙ sym is)) inr one);
}
cut c a (b ∷ bs) z x l (inr later) = let rest = cut c b bs z x l.1 later in record {
  before = b ∷ rest.before;
  to = (l.0, rest.to);
  after = rest.after;
  from = rest.from;
  within = λ y one. inr (rest.within y one);
  within_before = λ y one. ⊎_elim inl (λ later. inr (rest.within_before y later)) one;
  each = λ y one. ⊎_elim (λ same. inl (inl same)) (λ later. ⊎_elim (λ old. inl (inr old)) inr (rest.each y later)) one;
}

-- from each seat of a cycle a chain leads back to it
pub cycle_returns : (c : State) (ring : List ℕ) (x : ℕ) → IsCycle c ring → IsOneOf x ring → Reaches c x x
cycle_returns c [] x cycle one = absurd cycle
cycle_returns c (a ∷ bs) x cycle (inl is) = (bs, subst (λ (y : ℕ). Leads c y bs y) (sym is) cycle)
cycle_returns c (a ∷ bs) x cycle (inr later) = let parts = cut c a bs a x cycle later in
    (parts.after ++ a ∷ parts.before, leads_on c x parts.after a parts.before x parts.from parts.to)

pub walked_more : (c : State) (a : ℕ) (r : List ℕ) (h k : ℕ) → Walked c a r h → WaitsFor c h k → Walked c a (r ++ h ∷ []) k
walked_more c a [] h k walked w = (walked, subst (λ (x : ℕ). WaitsFor c x k) walked w)
walked_more c a (x ∷ xs) h k walked w = (walked.0, leads_more c a xs h k walked.1 w)

-- who leads back to a seat of its cycle does so from the next seat on too
pub returns_on : (c : State) → IsLawful c → (a x y : ℕ) → Reaches c a a → Reaches c x a → WaitsFor c x y → Reaches c y a
returns_on c l a x y cycle ([], m) w = subst (λ (z : ℕ). Reaches c z a) (waits_once c l x a y m w) cycle
returns_on c l a x y cycle (b ∷ bs, m) w = subst (λ (z : ℕ). Reaches c z a) (waits_once c l x b y m.0 w) (bs, m.1)

-- who leads anywhere waits
pub reaches_waits : (c : State) (x z : ℕ) → Reaches c x z → (y : ℕ) × WaitsFor c x y
reaches_waits c x z ([], l) = (z, l)
reaches_waits c x z (b ∷ bs, l) = (b, l.0)

-- each of a walk is a seat
leading_seats : (c : State) → Reached c → (a : ℕ) (bs : List ℕ) (z x : ℕ) → Leads c a bs z → (x ≡ a) ⊎ IsOneOf x bs → x < c.seats
leading_seats c run a [] z x l one = ⊎_elim
    (λ is. subst (λ (y : ℕ). y < c.seats) (sym is) (waiter_is_seat c run a z l)) (λ none. absurd none) one
leading_seats c run a (b ∷ bs) z x l one =
    ⊎_elim (λ is. subst (λ (y : ℕ). y < c.seats) (sym is) (waiter_is_seat c run a b l.0))
    (leading_seats c run b bs z x l.1) one

pub walked_seats : (c : State) → Reached c → (a : ℕ) (r : List ℕ) (h x : ℕ) → Walked c a r h → IsOneOf x r → x < c.seats
walked_seats c run a [] h x walked one = absurd one
walked_seats c run a (y ∷ ys) h x walked one = leading_seats c run a ys h x walked.1 (⊎_elim (λ is. inl (is ∙ walked.0)) inr one)

-- a walk that comes to a new seat has not been to all seats
pub walk_has_room : (c : State) → Reached c → (a : ℕ) (r : List ℕ) (h : ℕ) → Walked c a r h → Differ r
    → ¬ IsOneOf h r → h < c.seats → length r < c.seats
walk_has_room c run a r h walked differ new seat =
    subst (λ (k : ℕ). k < c.seats) (length-as_waiters r) (room_for c.seats (as_waiters r) h (waiters_once r differ)
    (λ e there. walked_seats c run a r h e.seat walked (waiter_from r e there))
    (λ e there is. new (subst (λ (x : ℕ). IsOneOf x r) is (waiter_from r e there))) seat)

-- nobody leads out of a cycle
stays : (c : State) → IsLawful c → (h : ℕ) (back : List ℕ) → Leads c h back h → (y : ℕ) (ws : List ℕ) → Leads c y ws h →
    ((x : ℕ) → IsOneOf x ws → IsOneOf x back) → (bs : List ℕ) (z : ℕ) → Leads c y bs z → (z ≡ h) ⊎ IsOneOf z back
stays c l h back cycle y [] k within [] z m = inl (waits_once c l y z h m k)
stays c l h back cycle y (w ∷ ws) k within [] z m = inr (within z (inl (waits_once c l y z w m k.0)))
stays c l h back cycle y [] k within (b ∷ bs) z m =
    stays c l h back cycle h back cycle (λ x one. one) bs z (subst (λ (x : ℕ). Leads c x bs z) (waits_once c l y b h m.0 k) m.1)
stays c l h back cycle y (w ∷ ws) k within (b ∷ bs) z m =
    stays c l h back cycle w ws k.1 (λ x one. within x (inr one)) bs z
    (subst (λ (x : ℕ). Leads c x bs z) (waits_once c l y b w m.0 k.0) m.1)

-- ---- two rings

one_of_either : (r t : List ℕ) (x : ℕ) → IsOneOf x (r ++ t) → IsOneOf x r ⊎ IsOneOf x t
one_of_either [] t x one = inr one
one_of_either (y ∷ ys) t x one = ⊎_elim (λ is. inl (inl is)) (λ later. ⊎_elim (λ old. inl (inr old)) inr (one_of_either ys t x later)) one

either_one_of : (r t : List ℕ) (x : ℕ) → IsOneOf x r ⊎ IsOneOf x t → IsOneOf x (r ++ t)
either_one_of [] t x one = ⊎_elim (λ none. absurd none) (λ later. later) one
either_one_of (y ∷ ys) t x (inl one) = ⊎_elim inl (λ later. inr (either_one_of ys t x (inl later))) one
either_one_of (y ∷ ys) t x (inr one) = inr (either_one_of ys t x (inr one))

-- a cycle, begun with another of its seats
record Turned (c : State) (ring : List ℕ) (x : ℕ) : Type 0 where
  back : List ℕ
  cycle : Leads c x back x
  within : (y : ℕ) → IsOneOf y back → IsOneOf y ring
  each : (y : ℕ) → IsOneOf y ring → (y ≡ x) ⊎ IsOneOf y back

turned : (c : State) (ring : List ℕ) (x : ℕ) → IsCycle c ring → IsOneOf x ring → Turned c ring x
turned c [] x cycle one = absurd cycle
turned c (a ∷ bs) x cycle (inl is) = record {
  back = bs;
  cycle = subst (λ (y : ℕ). Leads c y bs y) (sym is) cycle;
  within = λ y one. inr one;
  each = λ y one. ⊎_elim (λ same. inl (same ∙ sym is)) inr one;
}
turned c (a ∷ bs) x cycle (inr later) = let parts = cut c a bs a x cycle later in record {
  back = parts.after ++ a ∷ parts.before;
  cycle = leads_on c x parts.after a parts.before x parts.from parts.to;
  within = λ y one. ⊎_elim (λ after. inr (parts.within y after)) (⊎_elim inl (λ before. inr (parts.within_before y before)))
      (one_of_either parts.after (a ∷ parts.before) y one);
  each = λ y one. ⊎_elim (λ first. inr (either_one_of parts.after (a ∷ parts.before) y (inr (inl first))))
      (λ old. ⊎_elim (λ before. inr (either_one_of parts.after (a ∷ parts.before) y (inr (inr before))))
      (⊎_elim inl (λ after. inr (either_one_of parts.after (a ∷ parts.before) y (inl after)))) (parts.each y old)) one;
}

same_chain : (c : State) → IsLawful c → (a x : ℕ) (bs ds : List ℕ) → Leads c x bs a → Leads c x ds a → IsNoneOf a bs
    → IsNoneOf a ds → bs ≡ ds
same_chain c l a x [] [] v w none none' = refl
same_chain c l a x [] (d ∷ ds) v w none none' = absurd (none'.0 (waits_once c l x a d v w.0))
same_chain c l a x (b ∷ bs) [] v w none none' = absurd (none.0 (waits_once c l x a b w v.0))
same_chain c l a x (b ∷ bs) (d ∷ ds) v w none none' = let is = waits_once c l x b d v.0 w.0 in
    ap (λ y. y ∷ bs) is ∙ ap (λ ys. d ∷ ys) (same_chain c l a d bs ds (subst (λ y. Leads c y bs a) is v.1) w.1 none.1 none'.1)

pub rings_are_apart : OfLawful RingsAreApart
rings_are_apart c l = record {
  same_members = λ ring other a b is is' one one' mine.
      let t = turned c ring a is.cycle one in let u = turned c other a is'.cycle one' in
      ⊎_elim (λ same. subst (λ y. IsOneOf y other) (sym same) one')
      (λ on. let parts = cut c a t.back a b t.cycle on in
      ⊎_elim (λ same. subst (λ y. IsOneOf y other) (sym same) one') (u.within b)
      (stays c l a u.back u.cycle a u.back u.cycle (λ y back. back) parts.before b parts.to)) (t.each b mine);
  same_order = λ a bs ds is is'. same_chain c l a a bs ds is.cycle is'.cycle is.different.0 is'.different.0;
}

-- ---- what a walk comes to

-- a walk that comes back to another seat than its first doesn't lead back to the first
pub no_return : (c : State) → Reached c → (a : ℕ) (r : List ℕ) (h : ℕ) → Walked c a r h → Differ r → IsOneOf h r → h ≢ a → Reaches c h a → ⊥
no_return c run a [] h walked differ one other reaches = absurd one
no_return c run a (x ∷ xs) h walked differ (inl is) other reaches = other (is ∙ walked.0)
no_return c run a (x ∷ xs) h walked differ (inr later) other reaches = let parts = cut c a xs h h walked.1 later in
    ⊎_elim (λ is. other (sym is)) (λ one. not_one_of x xs differ.0 (subst (λ (y : ℕ). IsOneOf y xs) (sym walked.0) (parts.within a one)))
    (stays c (reached_is_lawful c run) h parts.after parts.from h parts.after parts.from (λ y one. one) reaches.0 a reaches.1)

-- a walk that comes back to its first seat is a ring
pub ring_walked : (c : State) → Reached c → (a : ℕ) (r : List ℕ) (h : ℕ) → Walked c a r h → Differ r → IsOneOf h r
    → h ≡ a → IsRingFrom c a r
ring_walked c run a [] h walked differ one is = absurd one
ring_walked c run a (x ∷ xs) h walked differ one is = let cycle : IsCycle c (x ∷ xs) =
    subst (λ (y : ℕ). Leads c y xs y) (sym walked.0) (subst (Leads c a xs) is walked.1) in record {
      rest = xs;
      parts = ap (λ (y : ℕ). y ∷ xs) walked.0;
      ring_is = record { cycle = cycle; contexts = cycles_are_of_contexts c (reached_is_lawful c run) (x ∷ xs) cycle; different = differ };
    }

-- ---- what a search of the locks finds

nobody_owns : (b : ℕ) → (Nobody ≡ Taken b) ⊎ (Nobody ≡ Handed b) → ⊥
nobody_owns b (inl is) = cc
nobody_owns b (inr is) = cc

pub one_of_old : (r : List ℕ) (h x : ℕ) → IsOneOf x r → IsOneOf x (r ++ h ∷ [])
one_of_old [] h x one = absurd one
one_of_old (y ∷ ys) h x one = ⊎_elim inl (λ later. inr (one_of_old ys h x later)) one

pub one_of_new : (r : List ℕ) (h : ℕ) → IsOneOf h (r ++ h ∷ [])
one_of_new [] h = inl refl
one_of_new (y ∷ ys) h = inr (one_of_new ys h)

pub owned_within : (owners : List Holder) (n b : ℕ) → (get_or owners n Nobody ≡ Taken b)
    ⊎ (get_or owners n Nobody ≡ Handed b) → n < length owners
owned_within owners n b owned = ⊎_elim (λ within. within) (λ past. let free = get_or_past owners n Nobody past in
    absurd (⊎_elim (λ is. nobody_owns b (inl (sym free ∙ is))) (λ is. nobody_owns b (inr (sym free ∙ is))) owned))
    (cases_lt n (length owners))

pub awaited_told : (c : State) (a n : ℕ) (o : Option ℕ) → Stands (c.queue n) a → c.guard n ≢ suc a →
    Finds (λ b. (a ≢ b) × ((c.owner n ≡ Taken b) ⊎ (c.owner n ≡ Handed b))) o → Finds (λ b. WaitsAt c a b n) o
awaited_told c a n None stands outside told = λ b w. told b (w.other, w.owner)
awaited_told c a n (Some b) stands outside told = record { stands = stands; outside = outside; owner = told.1; other = told.0 }

pub one_tells : (s : ℕ) (r : List ℕ) → list_any (λ y. y == s) r ≡ true → IsOneOf s r
one_tells s [] is = absurd (true≢false (sym is))
one_tells s (y ∷ ys) is = ⊎_elim (λ here. inl (sym (same_number y s here))) (λ later. inr (one_tells s ys later))
    (or_true (y == s) (list_any (λ x. x == s) ys) is)

pub tells_one : (s : ℕ) (r : List ℕ) → IsOneOf s r → list_any (λ y. y == s) r ≡ true
tells_one s [] one = absurd one
tells_one s (y ∷ ys) one = true_or (y == s) (list_any (λ x. x == s) ys)
    (⊎_elim (λ is. inl (number_same y s (sym is))) (λ later. inr (tells_one s ys later)) one)

pub first_of_ring : (c : State) → Reached c → (ring : List ℕ) → IsRing c ring → (a : ℕ) × (a < c.seats) × IsOneOf a ring
first_of_ring c run [] ring = absurd ring.cycle
first_of_ring c run (a ∷ bs) ring = (a, (let w = reaches_waits c a a (bs, ring.cycle) in waiter_is_seat c run a w.0 w.1), inl refl)

-- one lock more has been looked at
pub not_there : (c : State) (a n : ℕ) → ((m b : ℕ) → m < n → ¬ WaitsAt c a b m) → ((b : ℕ) → ¬ WaitsAt c a b n)
    → (m b : ℕ) → m < n + 1 → ¬ WaitsAt c a b m
not_there c a n before here m b within w =
    ⊎_elim (λ less. before m b less w) (λ past. let same : m ≡ n = omega arith in
    here b (subst (WaitsAt c a b) same w)) (cases_lt m n)
