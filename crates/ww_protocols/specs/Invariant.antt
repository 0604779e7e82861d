-- What holds of each reached hall.
use Rattle.std.specs.Prelude.{ℕ, ◌≡◌, ◌≢◌, ◌<◌, Bool, true, false, Some}
use Rattle.ww_protocols.specs.Hall.{Layout, Hall, Progress, apart, has_mark, found_bit, reads, nothing, no_mark, IsReachedHall}

-- it found the mutex free, since it has its mark
abbrev pub is_past_first_look : Progress → Bool
is_past_first_look apart = false
is_past_first_look has_mark = false
is_past_first_look _ = true

-- it found its bit, or reads
abbrev pub is_past_bit : Progress → Bool
is_past_bit found_bit = true
is_past_bit reads = true
is_past_bit _ = false

module _ (l : Layout) (h : Hall) where
  -- of context c, which has come so far with mutex m
  pub record IsSound (c m : ℕ) (p : Progress) : Type 0 where
    -- once it has its mark it sits at its desk
    pub seated : p ≢ apart → (h.sitter c ≡ Some c) × (c < l.contexts)
    -- and the mark stays
    pub marked : p ≢ apart → h.marks c (l.mark m) ≡ true
    -- its bit, once found, stays
    pub bit_stays : is_past_bit p ≡ true → h.bits m (l.bit c) ≡ true
    -- An owner that found no mark of it had the mutex then, and has it still: so it didn't find the mutex free since.
    pub met_no_mark : (o : ℕ) → h.owner m ≡ Some o → c ≢ o → h.finding m c ≡ no_mark → is_past_first_look p ≡ false
    -- Nor does it read once an owner has found no bit or no mark of it, until that releases the mutex.
    pub was_met : (o : ℕ) → h.owner m ≡ Some o → c ≢ o → h.finding m c ≢ nothing → p ≢ reads

  -- A context that writes has the mutex, and has found something of each desk but its own.
  pub record IsAlone (c m : ℕ) : Type 0 where
    pub owns : h.owner m ≡ Some c
    pub around : (d : ℕ) → d < l.contexts → d ≢ c → h.finding m d ≢ nothing

  pub record IsOrderlyHall : Type 0 where
    pub sound : (c m : ℕ) → IsSound c m (h.progress c m)
    pub alone : (c m : ℕ) → h.writes c m ≡ true → IsAlone c m

abbrev pub ReachedHallsAreOrderly : Type 0
ReachedHallsAreOrderly = (l : Layout) (h : Hall) → IsReachedHall l h → IsOrderlyHall l h
