-- What a handle may know of its desk, as tests: see IsReady, IsPlain and HasReleasedAll of ww_steps. Each says besides
-- that the desk may begin another context.
use Rattle.std.specs.Prelude.{ℕ, ◌==◌, ◌∷◌, [], ◌&&◌, not, Bool, true, false, List, Option, Some, None, is_none}
use Rattle.ww_steps.specs.Situations.{Situation, is_at_rest, is_empty}

abbrev pub is_ready : Situation → Bool
is_ready s = not (s.left == 0) && (is_at_rest s.turn && (s.stamp == 0 && (is_empty s.held && (not s.is_done && is_none s.told))))

abbrev pub is_zero : Option ℕ → Bool
is_zero None = false
is_zero (Some k) = k == 0

-- it holds a lock, or its sign is known to be 0
abbrev pub is_unsigned : List ℕ → Option ℕ → Bool
is_unsigned [] sign = is_zero sign
is_unsigned (n ∷ ns) sign = true

abbrev pub is_plain : Situation → Bool
is_plain s = not (s.left == 0) && (is_at_rest s.turn && (not (s.stamp == 0) && (not s.is_done && (is_none s.told && is_unsigned s.held s.view.sign))))

abbrev pub is_bare : Situation → Bool
is_bare s = not (s.left == 0) && (is_at_rest s.turn && (not (s.stamp == 0) && (is_empty s.held && (not s.is_done && is_none s.told))))

-- it has no context
abbrev pub is_alone : Situation → Bool
is_alone s = not (s.left == 0) && (is_at_rest s.turn && (s.stamp == 0 && (not s.is_done && is_none s.told)))

abbrev pub has_locks : ℕ → Situation → Bool
has_locks n s = s.size == n

-- there is a desk, of which this is true
abbrev pub knows : (Situation → Bool) → Option Situation → Bool
knows test None = false
knows test (Some s) = test s
