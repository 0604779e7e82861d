-- Every seat of a cycle of waits has a context, and every ring has a condemned member.
use Rattle.std.proofs.Common.{◌≡◌, ◌≢◌, ◌⊎◌, inl, inr, ⊎_elim, ℕ, suc, ◌<◌, true, List, [], ◌∷◌, refl, sym, ap, ◌∙◌, subst, arith}
use Rattle.std.specs.Option.{IsSome}
use Rattle.std.proofs.lemmas.Bool.{true_from_ne_false}
use mathlib.Core.Logic.{dite}
use native.Mathlib.Decide.{ℕ_discrete, dec_le}
use Rattle.ww_queue.specs.declared.kind.Kind.{Kind}
use Rattle.ww_queue.specs.declared.kind.Kind.TheVariants.{WoundWait, WaitDie}
use Rattle.ww_queue.specs.declared.entry.Entry.{Entry}
use Rattle.ww_queue.specs.Queue.{Has}
use Rattle.ww_model.specs.declared.state.Holder.TheVariants.{Taken}
use Rattle.ww_model.specs.State.{State, OwnsSome, dies}
use Rattle.ww_model.specs.Lawful.{IsBase, IsLawful}
use Rattle.ww_model.specs.Waits.{WaitsAt, WaitsFor, Leads, AreContexts, IsOneOf, IsCondemned}
use Rattle.ww_model.specs.Theorem.{RingsAreCondemned, CyclesAreCondemned, CyclesAreOfContexts}
use Rattle.ww_model.proofs.Dues.{dies_wounded, dies_younger}
use Rattle.ww_model.proofs.Kept.{reached_is_lawful}

module _ (c : State) where
  -- the seat waits at the lock with a context, and owns a lock itself
  pub record Member (a n : ℕ) : Type 0 where
    pub entry : Entry
    pub stands : Has (c.queue n) entry
    pub seat : entry.seat ≡ a
    pub holds : entry.holds ≡ true
    pub context : 0 < entry.stamp
    pub stamp : entry.stamp ≡ c.stamp a
    pub owns : OwnsSome c a
    pub awaited : ℕ
    pub waits : WaitsAt c a awaited n

-- nobody hands a lock to a seat that waits for another one
pub is_taken : (c : State) → IsBase c → (x a b : ℕ) (w : WaitsFor c x a) → WaitsFor c a b → c.owner w.0 ≡ Taken a
is_taken c l x a b w v = ⊎_elim (λ o. o)
    (λ o. let r = (l.owners.at w.0).handed_stands a o in let h = v.1.stands in
    let same : v.0 ≡ w.0 = l.queues.one_queue v.0 w.0 h.0 r.0 h.1 r.1 (h.2 ∙ sym r.2) in
    let p = ap c.owner same ∙ o in
    absurd (v.1.other (⊎_elim (λ q. absurd (cc)) (λ q. let z : a ≡ b = cc in z) v.1.owner))) w.1.owner

-- an owner that waits elsewhere is a context, and its entry says that it holds locks
pub waiting_owner : (c : State) → IsBase c → (a b n m : ℕ) → c.owner n ≡ Taken a → WaitsAt c a b m → Member c a m
waiting_owner c l a b n m own w =
    let h = w.stands in let e = h.0 in
    let own' : c.owner n ≡ Taken e.seat = own ∙ ap Taken (sym h.2) in
    record {
      entry = e;
      stands = h.1;
      seat = h.2;
      holds = true_from_ne_false e.holds (λ f. (l.queues.at m).holds_not e h.1 f n own');
      context = let s = (l.queues.at m).stamps e h.1 in
          dite (ℕ_discrete (c.stamp e.seat) 0) (λ z. absurd (l.solos.none_queued m n e h.1 z own')) (λ z. omega arith);
      stamp = (l.queues.at m).stamps e h.1 ∙ ap c.stamp h.2;
      owns = (n, own);
      awaited = b;
      waits = w;
    }

pub member : (c : State) → IsBase c → (x a b : ℕ) → WaitsFor c x a → (v : WaitsFor c a b) → Member c a v.0
member c l x a b w v = waiting_owner c l a b w.0 v.0 (is_taken c l x a b w v) v.1

-- nobody who waits is inside the guard of what it owns
pub outside : (c : State) → IsBase c → (a b d : ℕ) (w : WaitsFor c a b) → WaitsFor c b d → c.guard w.0 ≢ suc b
outside c l a b d w v g = let h = v.1.stands in
    let same : v.0 ≡ w.0 = l.guards.own_guard v.0 w.0 h.0 h.1 (g ∙ ap suc (sym h.2)) in
    v.1.outside (ap c.guard same ∙ g)

-- a member with a sign that has to die
pub condemns : (c : State) (a n : ℕ) (m : Member c a n) → 0 < c.sign a → IsSome (dies c m.entry.seat n) → IsCondemned c a
condemns c a n m p d = record {
  signed = p;
  owns = m.owns;
  lock = n;
  awaited = m.awaited;
  waits = m.waits;
  dies_there = subst (λ x. IsSome (dies c x n)) m.seat d;
}

-- the way that the stamps go where nobody is condemned
abbrev pub Onward : Kind → ℕ → ℕ → Type 0
Onward WoundWait x y = y < x
Onward WaitDie x y = x < y

pub onward : (kind : Kind) (x y z : ℕ) → Onward kind x y → Onward kind y z → Onward kind x z
onward WoundWait x y z p q = omega arith
onward WaitDie x y z p q = omega arith

pub not_onward : (kind : Kind) (x : ℕ) → Onward kind x x → ⊥
not_onward WoundWait x p = omega arith
not_onward WaitDie x p = omega arith

-- a is condemned, and has a younger context than b
abbrev pub YieldsTo : State → ℕ → ℕ → Type 0
YieldsTo c a b = IsCondemned c a × (0 < c.stamp b) × (c.stamp b < c.stamp a)

-- the stamps of two members differ
pub apart : (c : State) → IsBase c → (a b n m : ℕ) → Member c a n → Member c b m → a ≢ b → c.stamp a ≢ c.stamp b
apart c l a b n m p q other e = other (l.stamps.differ a b (subst (λ z. 0 < z) p.stamp p.context) e)

pub edge : (c : State) → IsLawful c → (kind : Kind) → c.kind ≡ kind → (a b n m : ℕ) → Member c a n → Member c b m →
    c.owner n ≡ Taken b → c.guard n ≢ suc b → a ≢ b → YieldsTo c a b ⊎ (YieldsTo c b a ⊎ Onward kind (c.stamp a) (c.stamp b))
edge c l WoundWait is a b n m p q own out other = dite (dec_le (c.stamp b) (c.stamp a))
    (λ le. let d = apart c l.base a b n m p q other in inr (inr (omega arith)))
    (λ gt. let k = p.stamp in let h = p.context in
    let signed = l.signs.wounds is n b p.entry own out p.stands (λ g. p.waits.outside (g ∙ ap suc p.seat)) p.holds
    p.context (omega arith) in
    inr (inl (
      condemns c b m q signed (dies_wounded c m q.entry is (l.base.queues.at m).once q.stands q.context q.holds
          (subst (λ x. 0 < c.sign x) (sym q.seat) signed)),
      omega arith,
      omega arith,
    )))
edge c l WaitDie is a b n m p q own out other = dite (dec_le (c.stamp a) (c.stamp b))
    (λ le. let d = apart c l.base a b n m p q other in inr (inr (omega arith)))
    (λ gt. let k = p.stamp in let j = q.stamp in let h = q.context in
    let younger : c.stamp b < p.entry.stamp = omega arith in
    let signed = (l.signs.deaths is n).younger_signed b p.entry own (omega arith) out p.stands
    (λ g. p.waits.outside (g ∙ ap suc p.seat)) p.holds younger in
    inl (
      condemns c a n p (subst (λ s. 0 < c.sign s) p.seat signed)
          (dies_younger c n p.entry is (l.base.queues.at n).once p.stands p.context p.holds b own
          (λ i. other (sym (i ∙ p.seat))) (omega arith) younger),
      omega arith,
      omega arith,
    ))

-- the first wait of a chain, and the last
pub first : (c : State) (a : ℕ) (bs : List ℕ) (z : ℕ) → Leads c a bs z → (b : ℕ) × WaitsFor c a b
first c a [] z w = (z, w)
first c a (b ∷ bs) z w = (b, w.0)

pub last : (c : State) (a : ℕ) (bs : List ℕ) (z : ℕ) → Leads c a bs z → (y : ℕ) × WaitsFor c y z
last c a [] z w = (a, w)
last c a (b ∷ bs) z w = last c b bs z w.1

pub link : (c : State) → IsLawful c → (x a b d : ℕ) → WaitsFor c x a → WaitsFor c a b → WaitsFor c b d →
    IsCondemned c a ⊎ (IsCondemned c b ⊎ Onward c.kind (c.stamp a) (c.stamp b))
link c l x a b d w v u = ⊎_elim (λ yields. inl yields.0)
    (⊎_elim (λ yields. inr (inl yields.0)) (λ on. inr (inr on)))
    (edge c l c.kind refl a b v.0 u.0 (member c l.base x a b w v) (member c l.base a b d v u)
    (is_taken c l.base a b d v u) (outside c l.base a b d v u) v.1.other)

-- somebody of the chain is condemned, or the stamps go one way from its first seat to its last
pub chain : (c : State) → IsLawful c → (x a : ℕ) (bs : List ℕ) (z d : ℕ) → WaitsFor c x a → Leads c a bs z → WaitsFor c z d →
    ((y : ℕ) × (IsOneOf y (a ∷ bs) ⊎ (y ≡ z)) × IsCondemned c y) ⊎ Onward c.kind (c.stamp a) (c.stamp z)
chain c l x a [] z d w v u = ⊎_elim (λ p. inl (a, inl (inl refl), p)) (⊎_elim (λ p. inl (z, inr refl, p)) inr) (link c l x a z d w v u)
chain c l x a (b ∷ bs) z d w v u = let f = first c b bs z v.1 in ⊎_elim
    (λ p. inl (a, inl (inl refl), p))
    (⊎_elim (λ p. inl (b, inl (inr (inl refl)), p))
    (λ on. ⊎_elim (λ r. inl (r.0, ⊎_elim (λ h. inl (inr h)) inr r.1, r.2))
    (λ on'. inr (onward c.kind (c.stamp a) (c.stamp b) (c.stamp z) on on')) (chain c l a b bs z d v.0 v.1 u)))
    (link c l x a b f.0 w v.0 f.1)

-- every cycle has a condemned member
pub cycles_are_condemned : CyclesAreCondemned
cycles_are_condemned c l [] r = absurd r
cycles_are_condemned c l (a ∷ bs) r = let f = first c a bs a r in let b = last c a bs a r in ⊎_elim
    (λ p. (p.0, ⊎_elim (λ h. h) (λ e. inl e) p.1, p.2)) (λ on. absurd (not_onward c.kind (c.stamp a) on))
    (chain c l b.0 a bs a f.0 b.1 r f.1)

pub rings_are_condemned : RingsAreCondemned
rings_are_condemned c run ring is = cycles_are_condemned c (reached_is_lawful c run) ring is.cycle

-- whoever is waited for and waits has a context
pub context_of : (c : State) → IsBase c → (x a b : ℕ) → WaitsFor c x a → WaitsFor c a b → 0 < c.stamp a
context_of c l x a b w v = let m = member c l x a b w v in subst (λ z. 0 < z) m.stamp m.context

pub contexts_of : (c : State) → IsBase c → (x a : ℕ) (bs : List ℕ) (z : ℕ) → WaitsFor c x a → Leads c a bs z → AreContexts c (a ∷ bs)
contexts_of c l x a [] z w v = (context_of c l x a z w v, tt)
contexts_of c l x a (b ∷ bs) z w v = (context_of c l x a b w v.0, contexts_of c l a b bs z v.0 v.1)

pub cycles_are_of_contexts : CyclesAreOfContexts
cycles_are_of_contexts c l [] r = absurd r
cycles_are_of_contexts c l (a ∷ bs) r = let b = last c a bs a r in contexts_of c l.base b.0 a bs a b.1 r
