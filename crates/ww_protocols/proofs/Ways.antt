-- How a context comes to read, and to write.
use Rattle.std.proofs.Common.{◌≡◌, ◌≢◌, ◌<◌, ℕ, zero, suc, true, false, Some, None, refl, ◌∙◌, ⊎_elim, arith}
use Rattle.ww_protocols.specs.Hall.{Layout, Hall, Progress, has_mark, found_free, found_bit, reads, nothing, no_mark, change, change_in, visits, quits, sets_bit, sets_mark, finds_free, finds_bit, finds_free_again, clears_mark, finds_no_mark, begins_to_write}
use Rattle.ww_protocols.specs.Ways.{LeadsAlone, is_there, and_moves, SittersCanRead, OwnersCanWrite}
use Rattle.ww_protocols.proofs.Changes.{same_or_not, change_here, change_else, change_in_here, change_cases, change_in_cases}

pub sitters_can_read : SittersCanRead
sitters_can_read l h c m sits free apart_yet =
    let once = change_in h.progress c m has_mark in let twice = change_in once c m found_free in
    let thrice = change_in twice c m found_bit in
    let set = and_moves h (sets_bit m) is_there tt in
    let marked = and_moves _ (sets_mark m) set (sits, apart_yet) in
    let free_once = and_moves _ (finds_free m) marked (change_in_here h.progress c m has_mark, free) in
    let with_bit = and_moves _ (finds_bit m) free_once (change_in_here once c m found_free, change_in_here h.bits m (l.bit c) true) in
    let free_again = and_moves _ (finds_free_again m) with_bit (change_in_here twice c m found_bit, free) in record {
      hall = _;
      way = free_again;
      there = change_in_here thrice c m reads;
      read_on = λ d n reading. change_in_cases thrice c m reads d n (λ _ _ p. p ≡ reads) refl (λ other.
          stays twice found_bit d n other (stays once found_free d n other (stays h.progress has_mark d n other reading)));
    }
  where
    stays : (f : ℕ → ℕ → Progress) (p : Progress) (d n : ℕ) → ((d ≡ c) × (n ≡ m) → ⊥) → f d n ≡ reads → change_in f c m p d n ≡ reads
    stays f p d n other is = change_in_cases f c m p d n (λ i j q. ((i ≡ c) × (j ≡ m) → ⊥) → q ≡ reads)
        (λ not. absurd (not (refl, refl))) (λ _ _. is) other

-- the owner has looked at each desk below k
record HasCome (l : Layout) (c m : ℕ) (from : Hall) (k : ℕ) : Type 0 where
  hall : Hall
  way : LeadsAlone l c from hall
  owns : hall.owner m ≡ Some c
  free : (d : ℕ) → d ≢ c → hall.sitter d ≡ None
  found : (d : ℕ) → d < k → d ≢ c → hall.finding m d ≢ nothing
  same : (d n : ℕ) → hall.progress d n ≡ from.progress d n

module _ (l : Layout) (c m : ℕ) (from : Hall) where
  -- it clears the mark at desk k, if there is one, and finds none
  looks_there : (k : ℕ) → k ≢ c → HasCome l c m from k → HasCome l c m from (suc k)
  looks_there k other come = let h = come.hall in
      let sitting = change h.sitter k (Some c) in
      let visited = and_moves h (visits k) come.way (other, come.free k other) in
      let cleared = and_moves _ (clears_mark k (l.mark m)) visited
      (record { has = change_here h.sitter k (Some c); unused = λ is. absurd (other is) }) in
      let left = and_moves _ (quits k) cleared (other, change_here h.sitter k (Some c)) in
      let found = and_moves _ (finds_no_mark m k) left (come.owns, change_in_here h.marks k (l.mark m) false) in record {
        hall = _;
        way = found;
        owns = come.owns;
        free = λ d isnt. change_cases sitting k None d (λ _ o. o ≡ None) refl
            (λ elsewhere. change_else h.sitter k (Some c) d elsewhere ∙ come.free d isnt);
        found = λ d few isnt. change_in_cases h.finding m k no_mark m d (λ _ j f. f ≢ nothing) (λ is. let z : ⊥ = cc in z)
            (λ elsewhere. come.found d (⊎_elim (λ is. absurd (elsewhere (refl, is))) (λ ne. omega arith) (same_or_not d k)) isnt);
        same = come.same;
      }

  looks_around : (k : ℕ) → from.owner m ≡ Some c → ((d : ℕ) → d ≢ c → from.sitter d ≡ None) → HasCome l c m from k
  looks_around zero owns free = record {
    hall = from;
    way = is_there;
    owns = owns;
    free = free;
    found = λ d few. let z : ⊥ = omega arith in absurd z;
    same = λ _ _. refl;
  }
  looks_around (suc k) owns free = let come = looks_around k owns free in ⊎_elim
      (λ is. record {
        hall = come.hall;
        way = come.way;
        owns = come.owns;
        free = come.free;
        found = λ d few isnt. come.found d (⊎_elim (λ same. absurd (isnt (same ∙ is))) (λ ne. omega arith) (same_or_not d k)) isnt;
        same = come.same;
      })
      (λ other. looks_there k other come) (same_or_not k c)

pub owners_can_write : OwnersCanWrite
owners_can_write l h c m owns free = let come = looks_around l c m h l.contexts owns free in record {
  hall = _;
  way = and_moves come.hall (begins_to_write m) come.way (record { owns = come.owns; found = come.found });
  there = change_in_here come.hall.writes c m true;
  read_on = λ d n reading. come.same d n ∙ reading;
}
