-- Which word is which: the counters first, behind them those of the locks, and last those of the seats, as many as there
-- are. The guard of a lock lies beside its owner word, since who enters the guard goes on to write that. The words of two
-- seats are eight apart, so that they share no cache line; those of two locks too at a table of 64 locks or fewer, and at
-- a larger one two apart: so more of them fit the caches, and whoever gives numbers decides which locks share a line.
use Rattle.std.specs.Prelude.{ℕ, Bool, true, false, nat_lt, ◌≡◌, ◌+◌, ◌*◌}
use Rattle.atomic_table.specs.Seated.{TableId}

-- where the words of lock n begin, at a table that packs them or not
abbrev pub lies_at : Bool → ℕ → ℕ
lies_at true n = 16 + 2 * n
lies_at false n = 16 + 8 * n

-- ... at a table of so many locks; behind all of them begin those of the seats
unfoldable pub lock_at : ℕ → ℕ → ℕ
lock_at locks n = lies_at (nat_lt 64 locks) n

abbrev pub owner_at : ℕ → ℕ → ℕ
owner_at locks n = lock_at locks n

abbrev pub guard_at : ℕ → ℕ → ℕ
guard_at locks n = lock_at locks n + 1

abbrev pub sign_at : ℕ → ℕ → ℕ
sign_at locks s = lock_at locks locks + 8 * s

-- beside the sign, since a waiter looks for both
abbrev pub cancel_at : ℕ → ℕ → ℕ
cancel_at locks s = lock_at locks locks + 8 * s + 1

abbrev pub stamp_at : ℕ
stamp_at = 0

abbrev pub front_at : ℕ
front_at = 8

-- of so many locks and seats
abbrev pub words_for : ℕ → ℕ → ℕ
words_for locks seats = lock_at locks locks + 8 * seats

-- slot n has the node n, of 64 at most, and this one the wait list of lock n
abbrev pub list_at : ℕ → ℕ
list_at n = 64 + n

abbrev pub slots_for : ℕ → ℕ
slots_for locks = 64 + locks

-- a table of this layout, of so many locks and seats
abbrev pub IsSized : ℕ → ℕ → TableId → Type 0
IsSized locks seats z = (z.words ≡ words_for locks seats) × (z.slots ≡ slots_for locks)
