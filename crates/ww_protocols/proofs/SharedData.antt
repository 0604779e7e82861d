-- Data under a shared lock: of a write and another access one happens before the other, whichever of them reads.
use Rattle.std.proofs.Common.{◌≡◌, ◌≢◌, ◌⊎◌, ⊎_elim, inl, inr, ℕ, zero, suc, ◌<◌, ◌≤◌, Bool, true, false, Some, None, refl, sym, ap, ◌∙◌, subst, arith, true≢false}
use Rattle.ww_protocols.specs.Hall.{Layout, Hall, Progress, apart, has_mark, found_free, found_bit, reads as is_reading, Finding, nothing, no_bit, no_mark, Move, stands_up, locks, unlocks, finds_free_again, reads_as_owner, clears_mark, finds_no_bit, finds_no_mark, MayMove, HasBitAndMark, MayClearMark, MayClearBit, IsReachedHall, goes_on, sits, quits, sets_mark}
use Rattle.ww_protocols.specs.Readers.{IsReading, IsWriting}
use Rattle.ww_protocols.specs.Invariant.{is_past_bit}
use Rattle.ww_protocols.specs.Memory.{Access, writes, reads, none, WritesAt, AccessesAt, left_by, wrote}
use Rattle.ww_protocols.specs.SharedData.{HallAct, moves, accesses, access_in, IsDoneIn, LeadsOn, KeepsSharedData, HappensBeforeIn, in_order, of_mutex, of_desk, of_mark, through, SharedAccessesDoNotRace, ReadersGetTheLastWrite, ReadsStayTheSame, ReleasesDesk, TakesDesk, StoresMark, DeskPassesOn, MarksAreStoredInOrder}
use Rattle.ww_protocols.proofs.Changes.{same_or_not, change_else}
use Rattle.ww_protocols.proofs.Times.{last_time, arrives, has_or_not}
use Rattle.ww_protocols.proofs.Memory.{gets_the_last}
use Rattle.ww_protocols.proofs.Data.{by_its_thread}
use Rattle.ww_protocols.proofs.HallsKept.{reached_halls_are_orderly, writers_exclude_readers}
use Rattle.ww_protocols.proofs.HallSteps.{FindsBy, by_bit, by_mark, unlocked, locked, left_desk, took_desk, came, found, cleared_mark, cleared_bit}

-- ---- of values

finding_is : (f g : Finding) → (f ≡ g) ⊎ (f ≢ g)
finding_is nothing nothing = inl refl
finding_is no_bit no_bit = inl refl
finding_is no_mark no_mark = inl refl
finding_is nothing no_bit = inr (λ is. let z : ⊥ = cc in z)
finding_is nothing no_mark = inr (λ is. let z : ⊥ = cc in z)
finding_is no_bit nothing = inr (λ is. let z : ⊥ = cc in z)
finding_is no_bit no_mark = inr (λ is. let z : ⊥ = cc in z)
finding_is no_mark nothing = inr (λ is. let z : ⊥ = cc in z)
finding_is no_mark no_bit = inr (λ is. let z : ⊥ = cc in z)

reads_or_not : (p : Progress) → (p ≡ is_reading) ⊎ (p ≢ is_reading)
reads_or_not is_reading = inl refl
reads_or_not apart = inr (λ is. let z : ⊥ = cc in z)
reads_or_not has_mark = inr (λ is. let z : ⊥ = cc in z)
reads_or_not found_free = inr (λ is. let z : ⊥ = cc in z)
reads_or_not found_bit = inr (λ is. let z : ⊥ = cc in z)

is_set : (b : Bool) → (b ≡ true) ⊎ (b ≢ true)
is_set true = inl refl
is_set false = inr (λ is. true≢false (sym is))

unset : (b : Bool) → b ≢ true → b ≡ false
unset true not = absurd (not refl)
unset false not = refl

did : (c o : ℕ) (a b : Move) → (c ≡ o) × (a ≡ b) → moves c a ≡ moves o b
did c o a b d = ap (λ q. moves q a) d.0 ∙ ap (moves o) d.1

-- ---- who did what, by what changed

module _ (l : Layout) (h h' : Hall) where
  reached_next : (x : HallAct) → LeadsOn l h x h' → IsReachedHall l h → IsReachedHall l h'
  reached_next (moves c a) on r = subst (IsReachedHall l) (sym on.2) (goes_on h c a r on.0 on.1)
  reached_next (accesses a) same r = subst (IsReachedHall l) (sym same) r

  unlocked_then : (x : HallAct) → LeadsOn l h x h' → (m o : ℕ) → h.owner m ≡ Some o → h'.owner m ≢ Some o → x ≡ moves o (unlocks m)
  unlocked_then (moves c a) on m o own gone = did c o a (unlocks m) (unlocked l h c a on.1 m o own
      (λ is. gone (ap (λ (q : Hall). q.owner m) on.2 ∙ is)))
  unlocked_then (accesses a) same m o own gone = absurd (gone (ap (λ (q : Hall). q.owner m) same ∙ own))

  locked_then : (x : HallAct) → LeadsOn l h x h' → (m o : ℕ) → h.owner m ≢ Some o → h'.owner m ≡ Some o → x ≡ moves o (locks m)
  locked_then (moves c a) on m o not own = did c o a (locks m) (locked l h c a m o not (sym (ap (λ (q : Hall). q.owner m) on.2) ∙ own))
  locked_then (accesses a) same m o not own = absurd (not (sym (ap (λ (q : Hall). q.owner m) same) ∙ own))

  left_desk_then : (x : HallAct) → LeadsOn l h x h' → (d u : ℕ) → h.sitter d ≡ Some u → h'.sitter d ≢ Some u →
      IsDoneIn u x × ReleasesDesk d x
  left_desk_then (moves c a) on d u has gone = let k = left_desk l h c a on.1 d u has
      (λ is. gone (ap (λ (q : Hall). q.sitter d) on.2 ∙ is)) in
      (k.0, ⊎_elim (λ up. inl (did c d a stands_up (k.0 ∙ up.1, up.0))) (λ is. inr (c, ap (moves c) is)) k.1)
  left_desk_then (accesses a) same d u has gone = absurd (gone (ap (λ (q : Hall). q.sitter d) same ∙ has))

  took_desk_then : (x : HallAct) → LeadsOn l h x h' → (d v : ℕ) → h.sitter d ≢ Some v → h'.sitter d ≡ Some v →
      IsDoneIn v x × TakesDesk d x
  took_desk_then (moves c a) on d v not has = let k = took_desk l h c a d v not (sym (ap (λ (q : Hall). q.sitter d) on.2) ∙ has) in
      (k.0, ⊎_elim (λ down. inl (did c d a sits (k.0 ∙ down.1, down.0))) (λ is. inr (c, ap (moves c) is)) k.1)
  took_desk_then (accesses a) same d v not has = absurd (not (sym (ap (λ (q : Hall). q.sitter d) same) ∙ has))

  -- a context that comes to read finds the mutex free, or has it
  came_then : (x : HallAct) → LeadsOn l h x h' → (d m : ℕ) → h.progress d m ≢ is_reading → h'.progress d m ≡ is_reading →
      ((x ≡ moves d (finds_free_again m)) × (h.owner m ≡ None)) ⊎ (h.owner m ≡ Some d)
  came_then (moves c a) on d m not has = let k = came l h c a d m not (sym (ap (λ (q : Hall). q.progress d m) on.2) ∙ has) in ⊎_elim
      (λ is. let may : (h.progress c m ≡ found_bit) × (h.owner m ≡ None) = subst (MayMove l h c) {y = finds_free_again m} is on.1 in
      inl (did c d a (finds_free_again m) (k.0, is), may.1))
      (λ is. let may : HasBitAndMark l h c m = subst (MayMove l h c) {y = reads_as_owner m} is on.1 in inr (may.owns ∙ ap Some k.0))
      k.1
  came_then (accesses a) same d m not has = absurd (not (sym (ap (λ (q : Hall). q.progress d m) same) ∙ has))

  -- what an owner found, and how
  abbrev Looked : HallAct → ℕ → ℕ → ℕ → Finding → Type 0
  Looked x m d o g = ((x ≡ moves o (finds_no_bit m d)) × (g ≡ no_bit) × (h.bits m (l.bit d) ≡ false))
      ⊎ ((x ≡ moves o (finds_no_mark m d)) × (h.marks d (l.mark m) ≡ false))

  looks : (c o m d : ℕ) (g : Finding) (a : Move) → FindsBy m d g a → MayMove l h c a → c ≡ o → Looked (moves c a) m d o g
  looks c o m d _ _ by_bit may is = inl (ap (λ q. moves q (finds_no_bit m d)) is, refl, may.1)
  looks c o m d _ _ by_mark may is = inr (ap (λ q. moves q (finds_no_mark m d)) is, may.1)

  found_then : (x : HallAct) → LeadsOn l h x h' → (m d o : ℕ) (g : Finding) → g ≢ nothing →
      ((h.owner m ≡ Some o) × (h.finding m d ≡ g) → ⊥) → h'.owner m ≡ Some o → h'.finding m d ≡ g → Looked x m d o g
  found_then (moves c a) on m d o g some not own = λ has. let k = found l h c a on.1 m d o g some not
      (sym (ap (λ (q : Hall). q.owner m) on.2) ∙ own) (sym (ap (λ (q : Hall). q.finding m d) on.2) ∙ has) in
      looks c o m d g a k.1 on.1 k.0
  found_then (accesses a) same m d o g some not own = λ has. absurd (not (
    sym (ap (λ (q : Hall). q.owner m) same) ∙ own,
    sym (ap (λ (q : Hall). q.finding m d) same) ∙ has,
  ))

  cleared_mark_then : (x : HallAct) → LeadsOn l h x h' → (d k : ℕ) → h.marks d k ≡ true → h'.marks d k ≡ false →
      (v : ℕ) × (x ≡ moves v (clears_mark d k)) × (h.sitter d ≡ Some v)
  cleared_mark_then (moves c a) on d k set not = let is = cleared_mark l h c a d k set
      (sym (ap (λ (q : Hall). q.marks d k) on.2) ∙ not) in
      let may : MayClearMark l h c d k = subst (MayMove l h c) {y = clears_mark d k} is on.1 in (c, ap (moves c) is, may.has)
  cleared_mark_then (accesses a) same d k set not =
      absurd (true≢false (sym set ∙ sym (ap (λ (q : Hall). q.marks d k) same) ∙ not))

  cleared_bit_then : (x : HallAct) → LeadsOn l h x h' → (m b : ℕ) → h.bits m b ≡ true → h'.bits m b ≡ false →
      (v : ℕ) × MayClearBit l h v m b
  cleared_bit_then (moves c a) on m b set not = let is = cleared_bit l h c a m b set
      (sym (ap (λ (q : Hall). q.bits m b) on.2) ∙ not) in (c, subst (MayMove l h c) is on.1)
  cleared_bit_then (accesses a) same m b set not =
      absurd (true≢false (sym set ∙ sym (ap (λ (q : Hall). q.bits m b) same) ∙ not))

-- ---- an access is no move

done_in : (c x : ℕ) (a : HallAct) → AccessesAt c x (access_in a) → IsDoneIn c a
done_in c x (accesses a) h = by_its_thread c x a h
done_in c x (moves d b) (value, is) = absurd (⊎_elim (λ w. cc) (λ r. cc) is)

is_no_move : (c x : ℕ) (a : HallAct) → AccessesAt c x (access_in a) → (d : ℕ) (b : Move) → a ≢ moves d b
is_no_move c x (accesses a) h d b is = cc
is_no_move c x (moves e y) (value, made) d b is = ⊎_elim (λ w. cc) (λ r. cc) made

moved : (c : ℕ) (b : Move) (a : HallAct) → a ≡ moves c b → IsDoneIn c a
moved c b a is = subst (IsDoneIn c) (sym is) refl

is_no_release : (c x d : ℕ) (a : HallAct) → AccessesAt c x (access_in a) → ReleasesDesk d a → ⊥
is_no_release c x d a h = ⊎_elim (is_no_move c x a h d stands_up) (λ q. is_no_move c x a h q.0 (quits d) q.1)

-- no act releases a desk and takes it
not_both : (d : ℕ) (a : HallAct) → ReleasesDesk d a → TakesDesk d a → ⊥
not_both d a (inl up) (inl down) = let z = sym up ∙ down in cc
not_both d a (inl up) (inr visit) = let z = sym up ∙ visit.1 in cc
not_both d a (inr quit) (inl down) = let z = sym quit.1 ∙ down in cc
not_both d a (inr quit) (inr visit) = let z = sym quit.1 ∙ visit.1 in cc

-- ---- a desk passes from one context to another

module _ (l : Layout) (hall : ℕ → Hall) (act : ℕ → HallAct) (on : (i : ℕ) → LeadsOn l (hall i) (act i) (hall (suc i))) where
  desk_passes_on : (d u v i j : ℕ) → i ≤ j → u ≢ v → (hall i).sitter d ≡ Some u → (hall j).sitter d ≡ Some v →
      DeskPassesOn act d u v i j
  desk_passes_on d u v i j later other mine its = let left = last_time (λ k. (hall k).sitter d ≡ Some u)
      (λ k. has_or_not ((hall k).sitter d) u) i j later mine (λ is. other (let z : u ≡ v = cc in z)) in
      let a = left.at in let from = left.from in let below = left.before in let sat = left.holds in
      let gives = left_desk_then l (hall a) (hall (suc a)) (act a) (on a) d u left.holds
      (left.since (suc a) (omega arith) (omega arith)) in
      let come = arrives (λ k. (hall k).sitter d ≡ Some v) (λ k. has_or_not ((hall k).sitter d) v) a j (omega arith)
      (λ is. other (let z : u ≡ v = cc in z)) its in
      let b = come.at in let above = come.from in
      let takes = took_desk_then l (hall b) (hall (suc b)) (act b) (on b) d v come.not_yet
      (come.since (suc b) (omega arith) (omega arith)) in record {
        released = a;
        taken = b;
        from = from;
        order = ⊎_elim (λ is. absurd (not_both d (act a) gives.1 (subst (λ k. TakesDesk d (act k)) (sym is) takes.1)))
            (λ isnt. omega arith) (same_or_not a b);
        before = come.before;
        gives = gives;
        takes = takes;
      }

  -- who stores a mark has the desk
  has_desk : (i d c : ℕ) → StoresMark d c (act i) → (hall i).sitter d ≡ Some c
  has_desk i d c (inl (own, n)) = let m = n.0 in let is = n.1 in
      let can : LeadsOn l (hall i) (moves c (sets_mark m)) (hall (suc i)) = subst (λ x. LeadsOn l (hall i) x (hall (suc i))) is (on i) in
      subst (λ e. (hall i).sitter e ≡ Some c) own can.1.0
  has_desk i d c (inr (k, is)) = let can : LeadsOn l (hall i) (moves c (clears_mark d k)) (hall (suc i)) =
      subst (λ x. LeadsOn l (hall i) x (hall (suc i))) is (on i) in can.1.has

pub marks_are_stored_in_order : MarksAreStoredInOrder
marks_are_stored_in_order l hall act on i j d u v = λ less one other. ⊎_elim inl
    (λ differ. inr (desk_passes_on l hall act on d u v i j (omega arith) differ (has_desk l hall act on i d u one)
    (has_desk l hall act on j d v other)))
    (same_or_not u v)

module _ (l : Layout) (mutex_of : ℕ → ℕ) (hall : ℕ → Hall) (act : ℕ → HallAct) (begins : IsReachedHall l (hall 0))
    (run : KeepsSharedData l mutex_of hall act) where
  reached : (i : ℕ) → IsReachedHall l (hall i)
  reached zero = begins
  reached (suc i) = reached_next l (hall i) (hall (suc i)) (act i) (run.goes_on i) (reached i)

  -- the acts at these times differ
  apart_from : (i k d : ℕ) (b : Move) → i ≤ k → act i ≢ moves d b → act k ≡ moves d b → i < k
  apart_from i k d b later not is = ⊎_elim (λ same. absurd (not (ap act same ∙ is))) (λ other. omega arith) (same_or_not i k)

  -- ---- a mutex passes from one owner to another

  record Handed (m w c i j : ℕ) : Type 0 where
    released : ℕ
    taken : ℕ
    from : i ≤ released
    order : released < taken
    before : taken < j
    gives : act released ≡ moves w (unlocks m)
    takes : act taken ≡ moves c (locks m)

  handed_over : (m w c i j : ℕ) → i ≤ j → w ≢ c → (hall i).owner m ≡ Some w → (hall j).owner m ≡ Some c → Handed m w c i j
  handed_over m w c i j later other mine its = let out = last_time (λ k. (hall k).owner m ≡ Some w)
      (λ k. has_or_not ((hall k).owner m) w) i j later mine (λ still. other (let z : w ≡ c = cc in z)) in
      let u = out.at in let from = out.from in let below = out.before in
      let gives = unlocked_then l (hall u) (hall (suc u)) (act u) (run.goes_on u) m w out.holds
      (out.since (suc u) (omega arith) (omega arith)) in
      let had = out.holds in
      let come = arrives (λ k. (hall k).owner m ≡ Some c) (λ k. has_or_not ((hall k).owner m) c) u j (omega arith)
      (λ its_then. other (let z : w ≡ c = cc in z)) its in
      let v = come.at in let low = come.from in let high = come.before in
      let takes = locked_then l (hall v) (hall (suc v)) (act v) (run.goes_on v) m c come.not_yet
      (come.since (suc v) (omega arith) (omega arith)) in record {
        released = u;
        taken = v;
        from = from;
        order = ⊎_elim (λ is. let z = sym gives ∙ ap act is ∙ takes in absurd (cc)) (λ isnt. omega arith) (same_or_not u v);
        before = high;
        gives = gives;
        takes = takes;
      }

  -- what one context does before it releases a mutex happens before what another does that has taken it since
  passes_on : (m w c s g p j : ℕ) → s ≤ g → g ≤ p → p ≤ j → w ≢ c → (hall g).owner m ≡ Some w → (hall p).owner m ≡ Some c →
      IsDoneIn w (act s) → act s ≢ moves w (unlocks m) → IsDoneIn c (act j) → HappensBeforeIn l act s j
  passes_on m w c s g p j = λ early later last other mine its here no_unlock there. let k = handed_over m w c g p later other mine its in
      let u = k.released in let v = k.taken in let from = k.from in let before = k.before in
      let first : s < u = apart_from s u w (unlocks m) (omega arith) no_unlock k.gives in
      through s v j
      (through s u v (in_order s u w first here (moved w (unlocks m) (act u) k.gives)) (of_mutex u v w m k.order k.gives (c, inl k.takes)))
      (in_order v j c (omega arith) (moved c (locks m) (act v) k.takes) there)

  -- ---- a write, and then another's write or read

  of_writers : (i j w c m x y : ℕ) → i < j → w ≢ c → AccessesAt w x (access_in (act i)) → IsWriting (hall i) w m →
      AccessesAt c y (access_in (act j)) → IsWriting (hall j) c m → HappensBeforeIn l act i j
  of_writers i j w c m x y = λ less other a one b two. let mine = (reached_halls_are_orderly l (hall i) (reached i)).alone w m one in
      let its = (reached_halls_are_orderly l (hall j) (reached j)).alone c m two in
      passes_on m w c i i j j (omega arith) (omega arith) (omega arith) other mine.owns its.owns (done_in w x (act i) a)
      (is_no_move w x (act i) a w (unlocks m)) (done_in c y (act j) b)

  of_later_reader : (i j w c m x y : ℕ) → i < j → w ≢ c → AccessesAt w x (access_in (act i)) → IsWriting (hall i) w m →
      AccessesAt c y (access_in (act j)) → IsReading (hall j) c m → HappensBeforeIn l act i j
  of_later_reader i j w c m x y = λ less other a writing b reading.
      let mine = (reached_halls_are_orderly l (hall i) (reached i)).alone w m writing in
      let come = arrives (λ k. (hall k).progress c m ≡ is_reading) (λ k. reads_or_not ((hall k).progress c m)) i j (omega arith)
      (λ is. other (writers_exclude_readers l (hall i) (reached i) w c m writing is)) reading in
      let p = come.at in let from = come.from in let before = come.before in ⊎_elim
      (λ free. let none_there = free.1 in let out = last_time (λ k. (hall k).owner m ≡ Some w)
      (λ k. has_or_not ((hall k).owner m) w) i p from mine.owns (λ is. let z : ⊥ = cc in z) in
      let u = out.at in let low = out.from in let high = out.before in
      let gives = unlocked_then l (hall u) (hall (suc u)) (act u) (run.goes_on u) m w out.holds
      (out.since (suc u) (omega arith) (omega arith)) in
      let first : i < u = apart_from i u w (unlocks m) low (is_no_move w x (act i) a w (unlocks m)) gives in
      through i p j
      (through i u p (in_order i u w first (done_in w x (act i) a) (moved w (unlocks m) (act u) gives))
      (of_mutex u p w m high gives (c, inr (inr free.0))))
      (in_order p j c before (moved c (finds_free_again m) (act p) free.0) (done_in c y (act j) b)))
      (λ has. passes_on m w c i i p j (omega arith) from (omega arith) other mine.owns has (done_in w x (act i) a)
      (is_no_move w x (act i) a w (unlocks m)) (done_in c y (act j) b))
      (came_then l (hall p) (hall (suc p)) (act p) (run.goes_on p) c m come.not_yet (come.since (suc p) (omega arith) (omega arith)))

  -- ---- a read, and then another's write

  module _ (i c m x : ℕ) (made : AccessesAt c x (access_in (act i))) (reading : IsReading (hall i) c m) where
    begun : (hall i).progress c m ≢ apart
    begun is = let z : ⊥ = cc in z

    -- who looks for the mark, and doesn't find it, reads from its clearing, or later
    mark_is_gone : (f w : ℕ) → i ≤ f → act f ≡ moves w (finds_no_mark m c) → (hall f).marks c (l.mark m) ≡ false →
        HappensBeforeIn l act i f
    mark_is_gone f w later finds gone = let s = (reached_halls_are_orderly l (hall i) (reached i)).sound c m in
        let out = last_time (λ k. (hall k).marks c (l.mark m) ≡ true) (λ k. is_set ((hall k).marks c (l.mark m))) i f later
        (s.marked begun) (λ is. true≢false (sym is ∙ gone)) in
        let g = out.at in let from = out.from in let before = out.before in
        let clear = cleared_mark_then l (hall g) (hall (suc g)) (act g) (run.goes_on g) c (l.mark m) out.holds
        (unset ((hall (suc g)).marks c (l.mark m)) (out.since (suc g) (omega arith) (omega arith))) in
        let v = clear.0 in let clears = clear.1 in let sitting = clear.2 in
        let seen = of_mark g f v w c m before clears finds in ⊎_elim
        (λ own. through i g f (in_order i g c
        (apart_from i g v (clears_mark c (l.mark m)) from (is_no_move c x (act i) made v (clears_mark c (l.mark m))) clears)
        (done_in c x (act i) made) (subst (λ y. IsDoneIn y (act g)) own (moved v (clears_mark c (l.mark m)) (act g) clears))) seen)
        (λ other. let p = desk_passes_on l hall act run.goes_on c c v i g from (λ is. other (sym is)) (s.seated begun).0 sitting in
        let a = p.released in let b = p.taken in let low = p.from in
        let first : i < a = ⊎_elim (λ is. absurd (is_no_release c x c (act i) made (subst (λ k. ReleasesDesk c (act k)) (sym is) p.gives.1)))
        (λ isnt. omega arith) (same_or_not i a) in
        through i g f
        (through i b g
        (through i a b (in_order i a c first (done_in c x (act i) made) p.gives.0) (of_desk a b c p.order p.gives.1 p.takes.1))
        (in_order b g v p.before p.takes.0 (moved v (clears_mark c (l.mark m)) (act g) clears)))
        seen)
        (same_or_not v c)

    -- an owner that has found something of the reader's desk found it since
    record HasLooked (o g : ℕ) (f : Finding) : Type 0 where
      at : ℕ
      from : i ≤ at
      before : at < g
      how : Looked l (hall at) (hall (suc at)) (act at) m c o f

    has_looked : (o g : ℕ) (f : Finding) → i ≤ g → c ≢ o → f ≢ nothing → (hall g).owner m ≡ Some o → (hall g).finding m c ≡ f →
        HasLooked o g f
    has_looked o g f later other some own has = let s = (reached_halls_are_orderly l (hall i) (reached i)).sound c m in
        let come = arrives (λ k. ((hall k).owner m ≡ Some o) × ((hall k).finding m c ≡ f))
        (λ k. ⊎_elim (λ y. ⊎_elim (λ z. inl (y, z)) (λ not. inr (λ both. not both.1)) (finding_is ((hall k).finding m c) f))
        (λ not. inr (λ both. not both.0)) (has_or_not ((hall k).owner m) o)) i g later
        (λ both. s.was_met o both.0 other (λ is. some (sym both.1 ∙ is)) reading) (own, has) in
        let k = come.at in let before = come.before in
        let then = come.since (suc k) (omega arith) (omega arith) in record {
          at = k;
          from = come.from;
          before = before;
          how = found_then l (hall k) (hall (suc k)) (act k) (run.goes_on k) m c o f some come.not_yet then.0 then.1;
        }

    of_later_writer : (j w y : ℕ) → i < j → c ≢ w → AccessesAt w y (access_in (act j)) → IsWriting (hall j) w m →
        HappensBeforeIn l act i j
    of_later_writer j w y less other b writing = let s = (reached_halls_are_orderly l (hall i) (reached i)).sound c m in
        let few = (s.seated begun).1 in let its = (reached_halls_are_orderly l (hall j) (reached j)).alone w m writing in
        let look = has_looked w j ((hall j).finding m c) (omega arith) other (its.around c few other) its.owns refl in
        let f = look.at in let from = look.from in let before = look.before in let there = done_in w y (act j) b in ⊎_elim
        (λ bit. let out = last_time (λ k. (hall k).bits m (l.bit c) ≡ true) (λ k. is_set ((hall k).bits m (l.bit c))) i f from
        (s.bit_stays (ap is_past_bit reading)) (λ is. true≢false (sym is ∙ bit.2)) in
        let g = out.at in let low = out.from in let high = out.before in
        let clear = cleared_bit_then l (hall g) (hall (suc g)) (act g) (run.goes_on g) m (l.bit c) out.holds
        (unset ((hall (suc g)).bits m (l.bit c)) (out.since (suc g) (omega arith) (omega arith))) in
        let v = clear.0 in let may = clear.1 in ⊎_elim
        (λ own. passes_on m c w i g j j low (omega arith) (omega arith) other (may.owns ∙ ap Some own) its.owns
        (done_in c x (act i) made) (is_no_move c x (act i) made c (unlocks m)) there)
        (λ another. let not_its : c ≢ v = λ is. another (sym is) in
        let earlier = has_looked v g no_mark low not_its (λ is. let z : ⊥ = cc in z) may.owns (may.found c few not_its refl) in
        let e = earlier.at in let e_from = earlier.from in let e_before = earlier.before in ⊎_elim
        (λ no. let wrong = no.1 in absurd (cc))
        (λ mark. through i e j (mark_is_gone e v e_from mark.0 mark.1) (⊎_elim
        (λ same. in_order e j w (omega arith) (subst (λ q. IsDoneIn q (act e)) same (moved v (finds_no_mark m c) (act e) mark.0)) there)
        (λ differ. passes_on m v w e g j j (omega arith) (omega arith) (omega arith) differ may.owns its.owns
        (moved v (finds_no_mark m c) (act e) mark.0) (λ is. let z = sym mark.0 ∙ is in cc) there)
        (same_or_not v w)))
        earlier.how)
        (same_or_not v c))
        (λ mark. through i f j (mark_is_gone f w from mark.0 mark.1)
        (in_order f j w before (moved w (finds_no_mark m c) (act f) mark.0) there))
        look.how

pub shared_accesses_do_not_race : SharedAccessesDoNotRace
shared_accesses_do_not_race l mutex_of hall act begins keeps = record {
  after_write = λ i j c e x value less wrote_it a. let m = mutex_of x in let w = keeps.writing i c x value wrote_it in
      let here : AccessesAt c x (access_in (act i)) = (value, inl wrote_it) in ⊎_elim
      (λ same. in_order i j e less (subst (λ q. IsDoneIn q (act i)) same (done_in c x (act i) here)) (done_in e x (act j) a))
      (λ other. ⊎_elim
      (λ writes_too. of_writers l mutex_of hall act begins keeps i j c e m x x less other here w a (keeps.writing j e x a.0 writes_too))
      (λ reads_it. ⊎_elim
      (λ reading. of_later_reader l mutex_of hall act begins keeps i j c e m x x less other here w a reading)
      (λ writing. of_writers l mutex_of hall act begins keeps i j c e m x x less other here w a writing)
      (keeps.reading j e x a.0 reads_it))
      a.1)
      (same_or_not c e);
  before_write = λ i j c e x value less a wrote_it. let m = mutex_of x in let w = keeps.writing j e x value wrote_it in
      let there : AccessesAt e x (access_in (act j)) = (value, inl wrote_it) in ⊎_elim
      (λ same. in_order i j e less (subst (λ q. IsDoneIn q (act i)) same (done_in c x (act i) a)) (done_in e x (act j) there))
      (λ other. ⊎_elim
      (λ writes_too. of_writers l mutex_of hall act begins keeps i j c e m x x less other a (keeps.writing i c x a.0 writes_too) there w)
      (λ reads_it. ⊎_elim
      (λ reading. of_later_writer l mutex_of hall act begins keeps i c m x a reading j e x less other there w)
      (λ writing. of_writers l mutex_of hall act begins keeps i j c e m x x less other a writing there w)
      (keeps.reading i c x a.0 reads_it))
      a.1)
      (same_or_not c e);
}

pub readers_get_the_last_write : ReadersGetTheLastWrite
readers_get_the_last_write l mutex_of hall act begins keeps first memory j = λ c x value is.
    let k = shared_accesses_do_not_race l mutex_of hall act begins keeps in
    gets_the_last (HappensBeforeIn l act) (λ i. access_in (act i)) k.after_write k.before_write first j c x value is memory

-- ---- while a context reads

left_keeps : (a : Access) (was : ℕ → ℕ) (x : ℕ) → ¬ WritesAt x a → left_by a was x ≡ was x
left_keeps (writes t y value) was x not = change_else was y value x (λ is. not (t, value, ap (λ z. writes t z value) (sym is)))
left_keeps (reads t y value) was x not = refl
left_keeps none was x not = refl

-- what isn't written between two times stays
stays : (first : ℕ → ℕ) (access : ℕ → Access) (x i j : ℕ) → ((k : ℕ) → i ≤ k → k < j → ¬ WritesAt x (access k)) → (k : ℕ) → i ≤ k → k ≤ j →
    wrote first access k x ≡ wrote first access i x
stays first access x i j quiet zero low high = let is : i ≡ zero = omega arith in ap (λ n. wrote first access n x) (sym is)
stays first access x i j quiet (suc k) low high = ⊎_elim
    (λ is. ap (λ n. wrote first access n x) (sym is))
    (λ isnt. left_keeps (access k) (wrote first access k) x (quiet k (omega arith) (omega arith))
    ∙ stays first access x i j quiet k (omega arith) (omega arith))
    (same_or_not i (suc k))

pub reads_stay_the_same : ReadsStayTheSame
reads_stay_the_same l mutex_of hall act begins keeps first memory i = λ j c d e x v w later quiet one two.
    let access : ℕ → Access = λ k. access_in (act k) in
    readers_get_the_last_write l mutex_of hall act begins keeps first memory i d x v one
    ∙ sym (stays first access x i j (λ k low high written. let q = quiet k low high in
    let same = writers_exclude_readers l (hall k) (reached l mutex_of hall act begins keeps k) written.0 c (mutex_of x)
    (keeps.writing k written.0 x written.1 written.2) q.0 in
    q.1 written.1 (written.2 ∙ ap (λ z. writes z x written.1) same)) j later (omega arith))
    ∙ sym (readers_get_the_last_write l mutex_of hall act begins keeps first memory j e x w two)

-- what happens before stands before
pub comes_first_in : (l : Layout) (act : ℕ → HallAct) (i j : ℕ) → HappensBeforeIn l act i j → i < j
comes_first_in l act _ _ (in_order i j c less a b) = less
comes_first_in l act _ _ (of_mutex i j c m less a b) = less
comes_first_in l act _ _ (of_desk i j d less a b) = less
comes_first_in l act _ _ (of_mark i j c e d m less a b) = less
comes_first_in l act _ _ (through i j k a b) = let x = comes_first_in l act i j a in let y = comes_first_in l act j k b in omega arith
