-- The oldest context comes to own the lock for which it waits.
use Rattle.std.proofs.Common.{ℕ, suc, zero, ◌≡◌, ◌≢◌, ◌≤◌, ◌⊎◌, inl, inr, ⊎_elim, refl, sym, ap, ◌∙◌, subst, arith}
use mathlib.Core.Logic.{dite}
use native.Mathlib.Decide.{ℕ_discrete}
use Rattle.ww_queue.specs.Queue.{Has, Stands}
use Rattle.ww_model.specs.declared.state.Holder.TheVariants.{Taken}
use Rattle.ww_model.specs.declared.event.Event.{Event}
use Rattle.ww_model.specs.declared.event.Event.TheVariants.{Join, Take, Die, End, Heed, Leave}
use Rattle.ww_model.specs.State.{State, Owns}
use Rattle.ww_model.specs.Event.{BasePossible, Possible, after}
use Rattle.ww_model.specs.Lawful.{IsBase}
use Rattle.ww_model.specs.Run.{Reached}
use Rattle.ww_model.specs.Emptied.{LeadsBy, WindsUp}
use Rattle.ww_model.specs.Oldest.{IsOldest, Spares, WindsUpSparing}
use Rattle.ww_model.specs.Theorem.{OldestCanTake}
use Rattle.ww_model.proofs.Puts.{put_here, put_else}
use Rattle.ww_model.proofs.Kept.{reached_is_lawful}
use Rattle.ww_model.proofs.Stays.{stands_stays}
use Rattle.ww_laws.proofs.Oldest.{oldest_stays}
use Rattle.ww_laws.proofs.Moves.{stay, and_then, until, widened, Sparing}
use Rattle.ww_laws.proofs.Burden.{burden, Lower, GetsLighter}
use Rattle.ww_laws.proofs.OutsideMoves.{empty_or_lighter}

-- this seat alone has to be spared
abbrev pub Only : ℕ → ℕ → Type 0
Only s u = u ≡ s

-- a spared seat doesn't end
pub not_ended : (s : ℕ) (e : Event) → Spares s e → e ≢ End s
not_ended s (End u) other is = other (cc)
not_ended s _ spared is = cc

-- whoever waits, and neither dies nor joins, waits on or takes the lock
waits_or_owns : (c : State) (e : Event) (s n : ℕ) → IsBase c → BasePossible c e → WindsUp c e → Spares s e → Stands (c.queue n) s →
    Stands ((after c e).queue n) s ⊎ Owns (after c e) s n
waits_or_owns c (Join u m) s n l can winds spares waits = absurd winds
waits_or_owns c (Die u m) s n l can winds spares waits = inl ((stands_stays c (Die u m) s spares n).0 waits)
waits_or_owns c (Leave u m) s n l can winds spares waits = inl ((stands_stays c (Leave u m) s spares n).0 waits)
waits_or_owns c (Take u m) s n l can winds spares waits = dite (ℕ_discrete u s)
    (λ is. let at : n ≡ m = l.guards.own_guard n m waits.0 waits.1 (can.inside.guard ∙ ap suc (is ∙ sym waits.2)) in
    inr (ap (after c (Take u m)).owner at ∙ put_here c.owner m (Taken u) ∙ ap Taken is))
    (λ isnt. inl ((stands_stays c (Take u m) s isnt n).0 waits))
waits_or_owns c _ s n l can winds spares waits = inl waits

-- whoever has heeded no cancel heeds none
unheeded_on : (c : State) (e : Event) (s : ℕ) → WindsUp c e → Spares s e → c.heeded s ≡ 0 → (after c e).heeded s ≡ 0
unheeded_on c (Heed u m) s winds spares none = absurd winds
unheeded_on c (Leave u m) s winds spares none = put_else c.heeded u 0 s (λ is. spares (sym is)) ∙ none
unheeded_on c _ s winds spares none = none

module _ (s n : ℕ) where
  -- the oldest waits for the lock
  record Waits (c : State) : Type 0 where
    oldest : IsOldest c s
    waits : Stands (c.queue n) s
    unheeded : c.heeded s ≡ 0

  waits_on : (c : State) (e : Event) → Reached c → Possible c e → Sparing (Only s) c e → Waits c → Waits (after c e) ⊎ Owns (after c e) s n
  waits_on c e reached can may w = let l = (reached_is_lawful c reached).base in let spares = may.1 s refl in ⊎_elim
      (λ waits. inl (record {
        oldest = oldest_stays c l s w.oldest e can.base (not_ended s e spares);
        waits = waits;
        unheeded = unheeded_on c e s may.0 spares w.unheeded;
      })) inr
      (waits_or_owns c e s n l can.base may.0 spares w.waits)

  lighter : (c : State) → Reached c → Waits c → GetsLighter (Only s) c
  lighter c reached w = ⊎_elim (λ empty. absurd (subst (λ q. Has q w.waits.0) (empty.queue n) w.waits.1)) (λ way. way)
      (empty_or_lighter (Only s) c reached
      (λ u is. subst (λ v. IsOldest c v × ((m : ℕ) × Stands (c.queue m) v) × (c.heeded v ≡ 0)) (sym is)
      (w.oldest, (n, w.waits), w.unheeded)))

  goes_down : (c : State) → Reached c → Waits c
      → ((d : State) → Reached d → Lower c d → Waits d → LeadsBy (Sparing (Only s)) d (λ d. Owns d s n)) →
      LeadsBy (Sparing (Only s)) c (λ d. Owns d s n)
  goes_down c reached w rest = let E = Sparing (Only s) in let owns : State → Type 0 = λ d. Owns d s n in
      and_then E c (λ d. (Lower c d × Waits d) ⊎ Owns d s n) owns reached
      (until E Waits (Lower c) owns waits_on c reached w (lighter c reached w))
      (λ d there. ⊎_elim (λ down. rest d there down.0 down.1) (stay E d owns))

  within : (bound : ℕ) (c : State) → Reached c → Waits c → burden c ≤ bound → LeadsBy (Sparing (Only s)) c (λ d. Owns d s n)
  within zero c reached w small = goes_down c reached w (λ d _ lower _. absurd (omega arith))
  within (suc bound) c reached w small = goes_down c reached w (λ d there lower w'. within bound d there w' (omega arith))

-- the runs that spare this seat alone
pub sparing : (s : ℕ) (c : State) (P : State → Type 0) → LeadsBy (Sparing (Only s)) c P → LeadsBy (WindsUpSparing s) c P
sparing s = widened (Sparing (Only s)) (WindsUpSparing s) (λ d e may. (may.0, may.1 s refl))

pub oldest_can_take : OldestCanTake
oldest_can_take c reached s n oldest waits unheeded =
    sparing s c (λ d. Owns d s n) (within s n (burden c) c reached
    (record { oldest = oldest; waits = waits; unheeded = unheeded }) (omega arith))
