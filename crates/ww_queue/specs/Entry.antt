-- One waiter.
use Rattle.std.specs.Prelude.{ℕ, ◌<◌, ◌&&◌, Bool, nat_lt, IsTrue}
use Rattle.ww_queue.specs.declared.entry.Entry.{Entry}

-- the first stamp is that of a context, and of an older one than the second's
abbrev pub is_older : ℕ → ℕ → Bool
is_older stamp other = nat_lt 0 stamp && nat_lt stamp other

-- the same as a fact
abbrev pub IsOlder : ℕ → ℕ → Type 0
IsOlder stamp other = (0 < stamp) × (stamp < other)

-- the waiter has a context
abbrev pub has_context : Entry → Bool
has_context e = nat_lt 0 e.stamp

-- the waiter has a context and holds locks
abbrev pub is_holding : Entry → Bool
is_holding e = has_context e && e.holds

-- the same as a fact
abbrev pub IsHolding : Entry → Type 0
IsHolding e = (0 < e.stamp) × IsTrue e.holds
