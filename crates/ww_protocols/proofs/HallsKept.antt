-- Each move keeps a hall orderly.
use Rattle.std.proofs.Common.{◌≡◌, ◌≢◌, ◌⊎◌, ◌<◌, ℕ, Bool, true, false, Option, Some, None, refl, sym, ap, ◌∙◌, ⊎_elim, inl, inr, true≢false}
use Rattle.ww_protocols.specs.Hall.{Layout, Hall, first_hall, Progress, apart, has_mark, found_free, found_bit, reads, Finding, nothing, no_bit, no_mark, change, change_in, Move, sits, stands_up, visits, quits, locks, unlocks, sets_bit, sets_mark, finds_free, finds_bit, finds_free_again, reads_as_owner, reads_no_more, clears_mark, finds_no_bit, finds_no_mark, clears_bit, begins_to_write, MayMove, HasBitAndMark, MayClearMark, MayClearBit, MayWrite, coming, hall_after, opens, goes_on}
use Rattle.ww_protocols.specs.Invariant.{is_past_first_look, is_past_bit, IsSound, IsAlone, IsOrderlyHall, ReachedHallsAreOrderly}
use Rattle.ww_protocols.specs.Readers.{WritersExcludeReaders, WritersExcludeWriters, ReadersAreInSight}
use Rattle.ww_protocols.proofs.Changes.{same_or_not, change_here, change_else, change_cases, change_in_cases}

-- ---- of values

nobody : {A : Type 0} {o : Option ℕ} (s : ℕ) → o ≡ None → o ≡ Some s → A
nobody s none some = let z : ⊥ = cc in absurd z

one_owner : {o : Option ℕ} (s t : ℕ) → o ≡ Some s → o ≡ Some t → s ≡ t
one_owner s t one other = cc

unset : {A : Type 0} {b : Bool} → b ≡ true → b ≡ false → A
unset is isnt = absurd (true≢false (sym is ∙ isnt))

-- a progress is none, or such as needs desk and mark
apart_or_not : (p : Progress) → (p ≡ apart) ⊎ (p ≢ apart)
apart_or_not apart = inl refl
apart_or_not has_mark = inr (λ is. let z : ⊥ = cc in z)
apart_or_not found_free = inr (λ is. let z : ⊥ = cc in z)
apart_or_not found_bit = inr (λ is. let z : ⊥ = cc in z)
apart_or_not reads = inr (λ is. let z : ⊥ = cc in z)

-- who has looked has begun
bit_is_begun : (p : Progress) → is_past_bit p ≡ true → p ≢ apart
bit_is_begun p past is = true≢false (sym past ∙ ap is_past_bit is)

past_bit_is_past : (p : Progress) → is_past_bit p ≡ true → is_past_first_look p ≡ true
past_bit_is_past apart h = h
past_bit_is_past has_mark h = h
past_bit_is_past found_free h = refl
past_bit_is_past found_bit h = refl
past_bit_is_past reads h = refl

-- what isn't begun needs nothing
apart_is_sound : (l : Layout) (h : Hall) (x y : ℕ) → IsSound l h x y apart
apart_is_sound l h x y = record {
  seated = λ begun. absurd (begun refl);
  marked = λ begun. absurd (begun refl);
  bit_stays = λ past. absurd (true≢false (sym past));
  met_no_mark = λ _ _ _ _. refl;
  was_met = λ _ _ _ _ is. let z : ⊥ = cc in z;
}

-- ---- one component changes, to what the hall needs of it

module _ (l : Layout) (h : Hall) (k : IsOrderlyHall l h) where
  with_sitters : (sitter : ℕ → Option ℕ) → ((x y : ℕ) → h.progress x y ≢ apart → sitter x ≡ Some x) →
      IsOrderlyHall l (record h { sitter = sitter })
  with_sitters sitter sits_there = record {
    sound = λ x y. let s = k.sound x y in record {
      seated = λ begun. (sits_there x y begun, (s.seated begun).1);
      marked = s.marked;
      bit_stays = s.bit_stays;
      met_no_mark = s.met_no_mark;
      was_met = s.was_met;
    };
    alone = λ x y w. let a = k.alone x y w in record { owns = a.owns; around = a.around };
  }

  with_marks : (marks : ℕ → ℕ → Bool) → ((x y : ℕ) → h.progress x y ≢ apart → marks x (l.mark y) ≡ true) →
      IsOrderlyHall l (record h { marks = marks })
  with_marks marks there = record {
    sound = λ x y. let s = k.sound x y in record {
      seated = s.seated;
      marked = there x y;
      bit_stays = s.bit_stays;
      met_no_mark = s.met_no_mark;
      was_met = s.was_met;
    };
    alone = λ x y w. let a = k.alone x y w in record { owns = a.owns; around = a.around };
  }

  with_bits : (bits : ℕ → ℕ → Bool) → ((x y : ℕ) → is_past_bit (h.progress x y) ≡ true → bits y (l.bit x) ≡ true) →
      IsOrderlyHall l (record h { bits = bits })
  with_bits bits there = record {
    sound = λ x y. let s = k.sound x y in record {
      seated = s.seated;
      marked = s.marked;
      bit_stays = there x y;
      met_no_mark = s.met_no_mark;
      was_met = s.was_met;
    };
    alone = λ x y w. let a = k.alone x y w in record { owns = a.owns; around = a.around };
  }

  with_progress : (progress : ℕ → ℕ → Progress) → ((x y : ℕ) → IsSound l h x y (progress x y)) →
      IsOrderlyHall l (record h { progress = progress })
  with_progress progress sound = record {
    sound = λ x y. let s = sound x y in record {
      seated = s.seated;
      marked = s.marked;
      bit_stays = s.bit_stays;
      met_no_mark = s.met_no_mark;
      was_met = s.was_met;
    };
    alone = λ x y w. let a = k.alone x y w in record { owns = a.owns; around = a.around };
  }

  -- an owner finds something at a desk
  with_finding : (m d : ℕ) (f : Finding) → f ≢ nothing → (f ≡ no_mark → is_past_first_look (h.progress d m) ≡ false) →
      h.progress d m ≢ reads → IsOrderlyHall l (record h { finding = change_in h.finding m d f })
  with_finding m d f some no_mark_there no_reader = record {
    sound = λ x y. let s = k.sound x y in record {
      seated = s.seated;
      marked = s.marked;
      bit_stays = s.bit_stays;
      met_no_mark = λ o owns other. change_in_cases h.finding m d f y x
          (λ i j g. g ≡ no_mark → is_past_first_look (h.progress j i) ≡ false) no_mark_there (λ _. s.met_no_mark o owns other);
      was_met = λ o owns other. change_in_cases h.finding m d f y x
          (λ i j g. g ≢ nothing → h.progress j i ≢ reads) (λ _. no_reader) (λ _. s.was_met o owns other);
    };
    alone = λ x y w. let a = k.alone x y w in record {
      owns = a.owns;
      around = λ e few other. change_in_cases h.finding m d f y e (λ _ _ g. g ≢ nothing) some (λ _. a.around e few other);
    };
  }

-- ---- the moves

module _ (l : Layout) (h : Hall) (c : ℕ) (k : IsOrderlyHall l h) (low : c < l.contexts) where
  -- a context comes so far, where that is sound
  coming_on : (m : ℕ) (p : Progress) → IsSound l h c m p → IsOrderlyHall l (coming l h c m p)
  coming_on m p here = with_progress l h k (change_in h.progress c m p)
      (λ x y. change_in_cases h.progress c m p x y (IsSound l h) here (λ _. k.sound x y))

  -- whoever has begun anything at a desk sits there
  seat_of : (d y : ℕ) → h.progress d y ≢ apart → h.sitter d ≡ Some d
  seat_of d y begun = ((k.sound d y).seated begun).0

  sits_on : IsOrderlyHall l (hall_after l h c sits)
  sits_on = with_sitters l h k (change h.sitter c (Some c))
      (λ x y begun. change_cases h.sitter c (Some c) x (λ j o. o ≡ Some j) refl (λ _. seat_of x y begun))

  stands_up_on : IsOrderlyHall l (hall_after l h c stands_up)
  stands_up_on = let all_apart = change h.progress c (λ _. apart) in
      let k' = with_progress l h k all_apart (λ x y. change_cases h.progress c (λ _. apart) x (λ j p. IsSound l h j y (p y))
      (apart_is_sound l h c y) (λ _. k.sound x y)) in
      with_sitters l (record h { progress = all_apart }) k' (change h.sitter c None)
      (λ x y. change_cases h.sitter c None x (λ j o. all_apart j y ≢ apart → o ≡ Some j)
      (λ begun. absurd (begun (ap (λ p. p y) (change_here h.progress c (λ _. apart)))))
      (λ _ begun. ((k'.sound x y).seated begun).0))

  visits_on : (d : ℕ) → h.sitter d ≡ None → IsOrderlyHall l (hall_after l h c (visits d))
  visits_on d free = with_sitters l h k (change h.sitter d (Some c))
      (λ x y. change_cases h.sitter d (Some c) x (λ j o. h.progress j y ≢ apart → o ≡ Some j)
      (λ begun. nobody d free (seat_of d y begun)) (λ _. seat_of x y))

  quits_on : (d : ℕ) → d ≢ c → h.sitter d ≡ Some c → IsOrderlyHall l (hall_after l h c (quits d))
  quits_on d other has = with_sitters l h k (change h.sitter d None)
      (λ x y. change_cases h.sitter d None x (λ j o. h.progress j y ≢ apart → o ≡ Some j)
      (λ begun. absurd (other (one_owner d c (seat_of d y begun) has))) (λ _. seat_of x y))

  -- The owner begins to know nothing; and since nobody had the mutex, nobody wrote it.
  locks_on : (m : ℕ) → h.owner m ≡ None → IsOrderlyHall l (hall_after l h c (locks m))
  locks_on m free = record {
    sound = λ x y. let s = k.sound x y in record {
      seated = s.seated;
      marked = s.marked;
      bit_stays = s.bit_stays;
      met_no_mark = λ o owns other found. ⊎_elim
          (λ is. let z : ⊥ = cc (fresh y x is, found) in absurd z)
          (λ isnt. s.met_no_mark o (sym (owner_else y isnt) ∙ owns) other (sym (finding_else y x isnt) ∙ found)) (same_or_not y m);
      was_met = λ o owns other found. ⊎_elim
          (λ is. absurd (found (fresh y x is)))
          (λ isnt. s.was_met o (sym (owner_else y isnt) ∙ owns) other (λ none. found (finding_else y x isnt ∙ none))) (same_or_not y m);
    };
    alone = λ x y w. let a = k.alone x y w in let isnt : y ≢ m = λ is. nobody x (ap h.owner is ∙ free) a.owns in record {
      owns = owner_else y isnt ∙ a.owns;
      around = λ d few other none. a.around d few other (sym (finding_else y d isnt) ∙ none);
    };
  }
    where
      fresh : (y x : ℕ) → y ≡ m → change h.finding m (λ _. nothing) y x ≡ nothing
      fresh y x is = ap (λ i. change h.finding m (λ _. nothing) i x) is ∙ ap (λ f. f x) (change_here h.finding m (λ _. nothing))

      owner_else : (y : ℕ) → y ≢ m → change h.owner m (Some c) y ≡ h.owner y
      owner_else y isnt = change_else h.owner m (Some c) y isnt

      finding_else : (y x : ℕ) → y ≢ m → change h.finding m (λ _. nothing) y x ≡ h.finding y x
      finding_else y x isnt = ap (λ f. f x) (change_else h.finding m (λ _. nothing) y isnt)

  -- whoever else writes has another mutex
  unlocks_on : (m : ℕ) → h.owner m ≡ Some c → IsOrderlyHall l (hall_after l h c (unlocks m))
  unlocks_on m has = record {
    sound = λ x y. let s = k.sound x y in record {
      seated = s.seated;
      marked = s.marked;
      bit_stays = s.bit_stays;
      met_no_mark = λ o owns. s.met_no_mark o (had y o owns);
      was_met = λ o owns. s.was_met o (had y o owns);
    };
    alone = λ x y. change_in_cases h.writes c m false x y
        (λ i j v. v ≡ true → IsAlone l (hall_after l h c (unlocks m)) i j) (λ w. absurd (true≢false (sym w)))
        (λ else w. let a = k.alone x y w in record {
          owns = change_else h.owner m None y (λ is. else (one_owner x c a.owns (ap h.owner is ∙ has), is)) ∙ a.owns;
          around = a.around;
        });
  }
    where
      had : (y o : ℕ) → change h.owner m None y ≡ Some o → h.owner y ≡ Some o
      had y o = change_cases h.owner m None y (λ j w. w ≡ Some o → h.owner j ≡ Some o)
          (λ is. let z : ⊥ = cc in absurd z) (λ _ is. is)

  sets_bit_on : (m : ℕ) → IsOrderlyHall l (hall_after l h c (sets_bit m))
  sets_bit_on m = with_bits l h k (change_in h.bits m (l.bit c) true)
      (λ x y past. change_in_cases h.bits m (l.bit c) true y (l.bit x) (λ _ _ b. b ≡ true) refl
      (λ _. (k.sound x y).bit_stays past))

  sets_mark_on : (m : ℕ) → h.sitter c ≡ Some c → IsOrderlyHall l (hall_after l h c (sets_mark m))
  sets_mark_on m has = let marks = change_in h.marks c (l.mark m) true in let q = record h { marks = marks } in
      let k' = with_marks l h k marks
      (λ x y begun. change_in_cases h.marks c (l.mark m) true x (l.mark y) (λ _ _ b. b ≡ true) refl
      (λ _. (k.sound x y).marked begun)) in
      with_progress l q k' (change_in h.progress c m has_mark)
      (λ x y. change_in_cases h.progress c m has_mark x y (IsSound l q) (record {
        seated = λ _. (has, low);
        marked = λ _. change_in_cases h.marks c (l.mark m) true c (l.mark m) (λ _ _ b. b ≡ true) refl
            (λ other. absurd (other (refl, refl)));
        bit_stays = λ past. absurd (true≢false (sym past));
        met_no_mark = λ _ _ _ _. refl;
        was_met = λ _ _ _ _ is. let z : ⊥ = cc in z;
      }) (λ _. k'.sound x y))

  finds_free_on : (m : ℕ) → h.progress c m ≡ has_mark → h.owner m ≡ None → IsSound l h c m found_free
  finds_free_on m is free = let s = k.sound c m in let begun : h.progress c m ≢ apart = λ not. let z : ⊥ = cc in z in record {
    seated = λ _. s.seated begun;
    marked = λ _. s.marked begun;
    bit_stays = λ past. absurd (true≢false (sym past));
    met_no_mark = λ o owns. nobody o free owns;
    was_met = λ o owns. nobody o free owns;
  }

  finds_bit_on : (m : ℕ) → h.progress c m ≡ found_free → h.bits m (l.bit c) ≡ true → IsSound l h c m found_bit
  finds_bit_on m is set = let s = k.sound c m in let begun : h.progress c m ≢ apart = λ not. let z : ⊥ = cc in z in record {
    seated = λ _. s.seated begun;
    marked = λ _. s.marked begun;
    bit_stays = λ _. set;
    met_no_mark = λ o owns other found. unset (ap is_past_first_look is) (s.met_no_mark o owns other found);
    was_met = λ _ _ _ _ reading. let z : ⊥ = cc in z;
  }

  finds_free_again_on : (m : ℕ) → h.progress c m ≡ found_bit → h.owner m ≡ None → IsSound l h c m reads
  finds_free_again_on m is free = let s = k.sound c m in let begun : h.progress c m ≢ apart = λ not. let z : ⊥ = cc in z in record {
    seated = λ _. s.seated begun;
    marked = λ _. s.marked begun;
    bit_stays = λ _. s.bit_stays (ap is_past_bit is);
    met_no_mark = λ o owns. nobody o free owns;
    was_met = λ o owns. nobody o free owns;
  }

  reads_as_owner_on : (m : ℕ) → HasBitAndMark l h c m → IsSound l h c m reads
  reads_as_owner_on m has = let s = k.sound c m in record {
    seated = λ _. s.seated has.mark;
    marked = λ _. s.marked has.mark;
    bit_stays = λ _. has.bit;
    met_no_mark = λ o owns other _. absurd (other (one_owner c o has.owns owns));
    was_met = λ o owns other _. absurd (other (one_owner c o has.owns owns));
  }

  -- whoever has the desk of a context that has begun is that context, and needs its mark
  clears_mark_on : (d n : ℕ) → MayClearMark l h c d n → IsOrderlyHall l (hall_after l h c (clears_mark d n))
  clears_mark_on d n may = with_marks l h k (change_in h.marks d n false)
      (λ x y begun. change_in_cases h.marks d n false x (l.mark y)
      (λ i j b. h.progress i y ≢ apart → l.mark y ≡ j → b ≡ true)
      (λ there same. let own = one_owner d c (seat_of d y there) may.has in
      absurd (there (ap (λ i. h.progress i y) own ∙ may.unused own y same)))
      (λ _ there _. (k.sound x y).marked there) begun refl)

  finds_no_bit_on : (m d : ℕ) → h.bits m (l.bit d) ≡ false → IsOrderlyHall l (hall_after l h c (finds_no_bit m d))
  finds_no_bit_on m d none = with_finding l h k m d no_bit (λ is. let z : ⊥ = cc in z) (λ is. let z : ⊥ = cc in absurd z)
      (λ is. unset ((k.sound d m).bit_stays (ap is_past_bit is)) none)

  -- who has no mark is apart
  finds_no_mark_on : (m d : ℕ) → h.marks d (l.mark m) ≡ false → IsOrderlyHall l (hall_after l h c (finds_no_mark m d))
  finds_no_mark_on m d none = let away : h.progress d m ≡ apart =
      ⊎_elim (λ is. is) (λ begun. unset ((k.sound d m).marked begun) none) (apart_or_not (h.progress d m)) in
      with_finding l h k m d no_mark (λ is. let z : ⊥ = cc in z) (λ _. ap is_past_first_look away) (λ is. let z : ⊥ = cc in z)

  -- who counts on its bit isn't there for an owner that may clear it
  counts_not : (m b : ℕ) → MayClearBit l h c m b → (x : ℕ) → is_past_bit (h.progress x m) ≡ true → l.bit x ≡ b → ⊥
  counts_not m b may x past same = let s = k.sound x m in let begun = bit_is_begun (h.progress x m) past in ⊎_elim
      (λ is. begun (ap (λ i. h.progress i m) is ∙ may.unused (ap l.bit (sym is) ∙ same)))
      (λ isnt. unset (past_bit_is_past (h.progress x m) past)
      (s.met_no_mark c may.owns isnt (may.found x (s.seated begun).1 isnt same))) (same_or_not x c)

  clears_bit_on : (m b : ℕ) → MayClearBit l h c m b → IsOrderlyHall l (hall_after l h c (clears_bit m b))
  clears_bit_on m b may = with_bits l h k (change_in h.bits m b false)
      (λ x y past. change_in_cases h.bits m b false y (l.bit x)
      (λ i j v. is_past_bit (h.progress x i) ≡ true → l.bit x ≡ j → v ≡ true)
      (λ there same. absurd (counts_not m b may x there same))
      (λ _ there _. (k.sound x y).bit_stays there) past refl)

  begins_to_write_on : (m : ℕ) → MayWrite l h c m → IsOrderlyHall l (hall_after l h c (begins_to_write m))
  begins_to_write_on m may = record {
    sound = λ x y. let s = k.sound x y in record {
      seated = s.seated;
      marked = s.marked;
      bit_stays = s.bit_stays;
      met_no_mark = s.met_no_mark;
      was_met = s.was_met;
    };
    alone = λ x y. change_in_cases h.writes c m true x y
        (λ i j v. v ≡ true → IsAlone l (hall_after l h c (begins_to_write m)) i j)
        (λ _. record { owns = may.owns; around = may.found })
        (λ _ w. let a = k.alone x y w in record { owns = a.owns; around = a.around });
  }

  -- ---- every move

  moves_on : (a : Move) → MayMove l h c a → IsOrderlyHall l (hall_after l h c a)
  moves_on sits may = sits_on
  moves_on stands_up may = stands_up_on
  moves_on (visits d) may = visits_on d may.1
  moves_on (quits d) may = quits_on d may.0 may.1
  moves_on (locks m) may = locks_on m may
  moves_on (unlocks m) may = unlocks_on m may
  moves_on (sets_bit m) may = sets_bit_on m
  moves_on (sets_mark m) may = sets_mark_on m may.0
  moves_on (finds_free m) may = coming_on m found_free (finds_free_on m may.0 may.1)
  moves_on (finds_bit m) may = coming_on m found_bit (finds_bit_on m may.0 may.1)
  moves_on (finds_free_again m) may = coming_on m reads (finds_free_again_on m may.0 may.1)
  moves_on (reads_as_owner m) may = coming_on m reads (reads_as_owner_on m may)
  moves_on (reads_no_more m) may = coming_on m apart (apart_is_sound l h c m)
  moves_on (clears_mark d n) may = clears_mark_on d n may
  moves_on (finds_no_bit m d) may = finds_no_bit_on m d may.1
  moves_on (finds_no_mark m d) may = finds_no_mark_on m d may.1
  moves_on (clears_bit m b) may = clears_bit_on m b may
  moves_on (begins_to_write m) may = begins_to_write_on m may

pub reached_halls_are_orderly : ReachedHallsAreOrderly
reached_halls_are_orderly l _ opens = record {
  sound = λ x y. apart_is_sound l first_hall x y;
  alone = λ c m w. absurd (true≢false (sym w));
}
reached_halls_are_orderly l _ (goes_on h c a reached low may) = moves_on l h c (reached_halls_are_orderly l h reached) low a may

pub writers_exclude_readers : WritersExcludeReaders
writers_exclude_readers l h reached w c m writing reading = let k = reached_halls_are_orderly l h reached in
    let s = k.sound c m in let begun : h.progress c m ≢ apart = λ is. let z : ⊥ = cc in z in
    let a = k.alone w m writing in ⊎_elim (λ is. sym is)
    (λ isnt. absurd (s.was_met w a.owns isnt (a.around c (s.seated begun).1 isnt) reading)) (same_or_not c w)

pub writers_exclude_writers : WritersExcludeWriters
writers_exclude_writers l h reached w c m one other = let k = reached_halls_are_orderly l h reached in
    one_owner w c (k.alone w m one).owns (k.alone c m other).owns

pub readers_are_in_sight : ReadersAreInSight
readers_are_in_sight l h reached c m reading = let s = (reached_halls_are_orderly l h reached).sound c m in
    let begun : h.progress c m ≢ apart = λ is. let z : ⊥ = cc in z in record {
      bit = s.bit_stays (ap is_past_bit reading);
      mark = s.marked begun;
      seat = (s.seated begun).0;
    }
