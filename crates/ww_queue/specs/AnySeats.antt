-- The signs that are owed, found in one walk along a wait list in which each seat waits once.
use Rattle.std.specs.Prelude.{ℕ, zero, suc, ◌==◌, List, [], ◌∷◌, Option, Some, None, if◌then◌else◌}
use Rattle.std.specs.Option.{option_map, option_or}
use Rattle.std.specs.List.{cons_option}
use Rattle.ww_word.specs.declared.owner.Owner.{Owner}
use Rattle.ww_queue.specs.declared.kind.Kind.{Kind}
use Rattle.ww_queue.specs.declared.kind.Kind.TheVariants.{WoundWait, WaitDie}
use Rattle.ww_queue.specs.declared.entry.Entry.{Entry}
use Rattle.ww_queue.specs.Entry.{has_context, is_holding}
use Rattle.ww_queue.specs.Rules.{older_owner, taker_of, least_holding, owed_wound}

-- the stamp of the first context of those that came so far
abbrev pub ahead_with : Option ℕ → Entry → Option ℕ
ahead_with (Some k) e = Some k
ahead_with None e = if has_context e then Some e.stamp else None

-- what a waiter is owed, with this context ahead of it
abbrev pub owed_behind : Owner → ℕ → Option ℕ → Entry → Option (ℕ × ℕ)
owed_behind owner me ahead e = if e.seat == me then None else
    if is_holding e then option_map (λ k. (e.seat, k)) (option_or (older_owner owner e) ahead) else None

-- what all are owed but the first n
abbrev pub owed_past : Owner → ℕ → Option ℕ → ℕ → List Entry → List (ℕ × ℕ)
owed_past owner me ahead n [] = []
owed_past owner me ahead zero (e ∷ es) = cons_option (owed_behind owner me ahead e) (owed_past owner me (ahead_with ahead e) zero es)
owed_past owner me ahead (suc n) (e ∷ es) = owed_past owner me (ahead_with ahead e) n es

-- the signs that are owed but those to the first n waiters; in Wound-Wait there is one at most
abbrev pub signs_past : Kind → Owner → List Entry → ℕ → ℕ → List (ℕ × ℕ)
signs_past WoundWait owner q me n = owed_wound (taker_of owner) owner.stamp (least_holding q)
signs_past WaitDie owner q me n = owed_past owner me None n q
