-- A call that is for no lock wants none.
use Rattle.std.proofs.Common.{◌≡◌, ◌≢◌, ◌⊎◌, ⊎_elim, inl, inr, ℕ, zero, suc, ◌+◌, ◌==◌, not, Bool, true, false, true≢false, List, length, Option, Some, None, refl, sym, ap, ◌∙◌, subst, arith}
use Rattle.std.specs.Prelude.{Result, Ok, Err}
use Rattle.std.proofs.lemmas.Bool.Decides.{nat_tests}
use Rattle.std.specs.Arc.{arc_value}
use Rattle.ww_table.specs.declared.board.Board.{Board}
use Rattle.ww_view.specs.declared.view.View.{View}
use Rattle.ww_invariant.specs.declared.cells.Start.{Start}
use Rattle.ww_laws.specs.Scene.{Step}
use Rattle.ww_refines.specs.Naps.{ArePlaysOf}
use Rattle.ww_seat.specs.Standings.{Standing, view_in}
use Rattle.ww_seat.specs.Work.{IsPlaced, has_joined}
use Rattle.ww_steps.specs.declared.turn.Turn.{Turn}
use Rattle.ww_steps.specs.declared.turn.Turn.TheVariants as at
use Rattle.ww_steps.specs.declared.turn.Answer.{Answer}
use Rattle.ww_steps.specs.declared.turn.Answer.TheVariants.{Done, Again, Awaits, Busy, Invalid, Already, NoSpace}
use Rattle.ww_steps.specs.declared.outlook.Outlook.{Outlook}
use Rattle.ww_steps.specs.declared.outlook.NoOutlook.{NoOutlook}
use Rattle.ww_steps.specs.declared.outlook.NoOutlook.TheVariants.{Inside, NoLock}
use Rattle.ww_steps.specs.Situations.{Situation}
use Rattle.ww_steps.specs.Stations.{IsWhere}
use Rattle.ww_steps.specs.Answers.{IsBeginAnswer, IsDoneAnswer, IsEndAnswer, IsUnlockAnswer, IsNextAnswer, IsGiveAnswer, IsHasAnswer, IsFreeAnswer, IsCancelAnswer, IsHeedAnswer}
use Rattle.ww_steps.specs.Outlooks.{IsOutlookAnswer, IsWoundedAnswer}
use Rattle.ww_callers.specs.Stages.{IsDesk}
use Rattle.ww_callers.specs.Deeds.{Call, begin, done, end, go_on, unlock, unlock_each, has, is_free, outlook, is_wounded, cancel, heed, HasDone}
use Rattle.ww_loops.specs.Loops.{waits_at, lock_for}
use Rattle.ww_loops.specs.Wanting.{WantsOnly, DiesOnly, WantsNone, OtherCallsWantNone}
use Rattle.ww_loops.proofs.Wanting.{ends, IsCounted, counted, SameEnds, same_ends, NoneEnds, none_ends, only_more, desk_waits}

-- ---- where its call stands, and whether its seat is in a list

abbrev in_list : Turn → Bool
in_list at.Rests = false
in_list (at.Wants m arrival waits) = has_joined arrival
in_list (at.Looks m arrival waits) = has_joined arrival
in_list (at.Gives m) = false

not_zero : (m : ℕ) → not (suc m == 0) ≡ true
not_zero m = let e : (suc m == 0) ≡ false = grind (arith, nat_tests) in ap not e

placed_in : (b : Bool) (m : ℕ) (v : View) → IsPlaced b m v → b ≡ not (v.waits == 0)
placed_in true m v h = sym (ap (λ k. not (k == 0)) h.0 ∙ not_zero m)
placed_in false m v h = sym (ap (λ k. not (k == 0)) h.0)

where_in_list : (b : Board) (wakes : List ℕ) (turn : Turn) (s : Standing) → IsWhere b wakes turn s →
    in_list turn ≡ not ((view_in s).waits == 0)
where_in_list b wakes at.Rests s h = sym (ap (λ k. not (k == 0)) h.1)
where_in_list b wakes (at.Wants m arrival waits) s h = h.1.0
where_in_list b wakes (at.Looks m arrival waits) s h = placed_in (has_joined arrival) m (view_in s) h.1.place
where_in_list b wakes (at.Gives m) s h = sym (ap (λ k. not (k == 0)) h.away.1)

desk_in_list : (s : Situation) → IsDesk s → in_list s.turn ≡ not (s.view.waits == 0)
desk_in_list s d = let h = d.station in subst (λ (x : Situation). in_list x.turn ≡ not (x.view.waits == 0)) (sym d.seen)
    (where_in_list (arc_value h.board) h.wake.items h.turn h.seat d.keeps.stands)

-- where its turn stays so does that
same_list : (s s' : Situation) → IsDesk s → IsDesk s' → s'.turn ≡ s.turn → (m : ℕ) → s.view.waits ≡ 0 → s'.view.waits ≡ suc m → ⊥
same_list s s' d d' same m none waits = true≢false (sym (ap (λ k. not (k == 0)) waits ∙ not_zero m) ∙ sym (desk_in_list s' d')
    ∙ ap in_list same ∙ desk_in_list s d ∙ ap (λ k. not (k == 0)) none)

-- ---- what the answers say

-- it ended no wait, and waits where it did, or for no lock, or its turn stays
abbrev Idles : Situation → Situation → Type 0
Idles s s' = SameEnds s s' × ((s'.view.waits ≡ s.view.waits) ⊎ ((waits_at s'.turn ≡ None) ⊎ (s'.turn ≡ s.turn)))

same_view : (s s' t : Situation) → s' ≡ t → t.takes ≡ s.takes → t.deaths ≡ s.deaths → t.interrupted ≡ s.interrupted →
    t.view.waits ≡ s.view.waits → Idles s s'
same_view s s' t is takes deaths stopped waits =
    (same_ends s s' t is takes deaths stopped, inl (ap (λ (x : Situation). x.view.waits) is ∙ waits))

same_turn : (s s' t : Situation) → s' ≡ t → t.takes ≡ s.takes → t.deaths ≡ s.deaths → t.interrupted ≡ s.interrupted →
    t.turn ≡ s.turn → Idles s s'
same_turn s s' t is takes deaths stopped turn =
    (same_ends s s' t is takes deaths stopped, inr (inr (ap (λ (x : Situation). x.turn) is ∙ turn)))

no_turn : (s s' t : Situation) → s' ≡ t → t.takes ≡ s.takes → t.deaths ≡ s.deaths → t.interrupted ≡ s.interrupted →
    waits_at t.turn ≡ None → Idles s s'
no_turn s s' t is takes deaths stopped turn =
    (same_ends s s' t is takes deaths stopped, inr (inl (ap (λ (x : Situation). waits_at x.turn) is ∙ turn)))

all_same : (s s' : Situation) → s' ≡ s → Idles s s'
all_same s s' is = same_view s s' s is refl refl refl refl

begin_idles : (a : Answer) (s s' : Situation) → IsBeginAnswer s a s' → Idles s s'
begin_idles Done s s' h = same_turn s s' _ h.6 refl refl refl refl
begin_idles Busy s s' h = all_same s s' h.1
begin_idles Invalid s s' h = all_same s s' h.2
begin_idles NoSpace s s' h = ⊎_elim (λ none. all_same s s' none.1) (λ spent. same_view s s' _ spent.2 refl refl refl refl) h.3
begin_idles _ s s' h = absurd h

done_idles : (a : Answer) (s s' : Situation) → IsDoneAnswer s a s' → Idles s s'
done_idles Done s s' h = same_view s s' _ h.3 refl refl refl refl
done_idles Busy s s' h = all_same s s' h.1
done_idles Invalid s s' h = all_same s s' h.2
done_idles _ s s' h = absurd h

end_idles : (a : Answer) (s s' : Situation) → IsEndAnswer s a s' → Idles s s'
end_idles Done s s' h = same_turn s s' _ h.4 refl refl refl refl
end_idles Busy s s' h = all_same s s' h.1
end_idles Invalid s s' h = all_same s s' h.2
end_idles _ s s' h = absurd h

unlock_idles : (n : ℕ) (a : Answer) (s s' : Situation) → IsUnlockAnswer s n a s' → Idles s s'
unlock_idles n Done s s' h = same_turn s s' _ h.1.1 refl refl refl refl
unlock_idles n Again s s' h = no_turn s s' _ h.2.1 refl refl refl refl
unlock_idles n Busy s s' h = all_same s s' h.1
unlock_idles n Invalid s s' h = all_same s s' h.2
unlock_idles n _ s s' h = absurd h

has_idles : (n : ℕ) (a : Answer) (s s' : Situation) → IsHasAnswer s n a s' → Idles s s'
has_idles n Done s s' h = all_same s s' h.1
has_idles n Busy s s' h = all_same s s' h.1
has_idles n Invalid s s' h = all_same s s' h.2
has_idles n _ s s' h = absurd h

free_idles : (n : ℕ) (a : Answer) (s s' : Situation) → IsFreeAnswer s n a s' → Idles s s'
free_idles n Done s s' h = same_view s s' _ h.3 refl refl refl refl
free_idles n Busy s s' h = ⊎_elim (λ busy. all_same s s' busy.1) (λ held. same_view s s' _ held.2.2 refl refl refl refl) h
free_idles n Invalid s s' h = all_same s s' h.2
free_idles n _ s s' h = absurd h

outlook_idles : (n : ℕ) (seen : Result Outlook NoOutlook) (s s' : Situation) → IsOutlookAnswer s n seen s' → Idles s s'
outlook_idles n (Ok seen) s s' h = same_view s s' _ h.2.3 refl refl refl refl
outlook_idles n (Err Inside) s s' h = all_same s s' h.1
outlook_idles n (Err NoLock) s s' h = all_same s s' h.2

wounded_idles : (seen : Result Bool NoOutlook) (s s' : Situation) → IsWoundedAnswer s seen s' → Idles s s'
wounded_idles (Ok true) s s' h = same_view s s' _ h.2.2 refl refl refl refl
wounded_idles (Ok false) s s' h = ⊎_elim (λ bare. all_same s s' bare.1) (λ none. same_view s s' _ none.1 refl refl refl refl) h.1
wounded_idles (Err Inside) s s' h = all_same s s' h.1
wounded_idles (Err NoLock) s s' h = absurd h

cancel_idles : (u : ℕ) (a : Answer) (s s' : Situation) → IsCancelAnswer s u a s' → Idles s s'
cancel_idles u Done s s' h = same_view s s' _ h.3 refl refl refl refl
cancel_idles u Already s s' h = same_view s s' _ h.2 refl refl refl refl
cancel_idles u Busy s s' h = all_same s s' h.1
cancel_idles u Invalid s s' h = all_same s s' h.2
cancel_idles u _ s s' h = absurd h

heed_idles : (a : Answer) (s s' : Situation) → IsHeedAnswer s a s' → Idles s s'
heed_idles Done s s' h = same_view s s' _ h.1 refl refl refl refl
heed_idles Busy s s' h = all_same s s' h.2
heed_idles Invalid s s' h = all_same s s' h.1
heed_idles _ s s' h = absurd h

give_idles : (n : ℕ) (a : Answer) (s s' : Situation) → IsGiveAnswer s n a s' → Idles s s'
give_idles n Awaits s s' h = same_view s s' _ h.now refl refl refl refl
give_idles n Done s s' h = no_turn s s' _ h.1 refl refl refl refl
give_idles n _ s s' h = absurd h

next_idles : (turn : Turn) (a : Answer) (s s' : Situation) → waits_at turn ≡ None → IsNextAnswer turn s a s' → Idles s s'
next_idles at.Rests a s s' is h = all_same s s' h.1
next_idles (at.Wants m arrival waits) a s s' is h = absurd (cc)
next_idles (at.Looks m arrival waits) a s s' is h = absurd (cc)
next_idles (at.Gives n) a s s' is h = give_idles n a s s' h

call_idles : (call : Call) (a : Answer) (s s' : Situation) → lock_for call s.turn ≡ None → HasDone call s a s' → Idles s s'
call_idles begin a s s' is h = begin_idles a s s' h
call_idles done a s s' is h = done_idles a s s' h
call_idles end a s s' is h = end_idles a s s' h
call_idles go_on a s s' is h = next_idles s.turn a s s' is h.0
call_idles (unlock n) a s s' is h = unlock_idles n a s s' h
call_idles (unlock_each ns) a s s' is h = same_turn s s' _ h.2 refl refl refl refl
call_idles (has n) a s s' is h = has_idles n a s s' h
call_idles (is_free n) a s s' is h = free_idles n a s s' h
call_idles (outlook n) a s s' is h = outlook_idles n h.1.0 s s' h.1.1
call_idles is_wounded a s s' is h = wounded_idles h.1.0 s s' h.1.1
call_idles (cancel u) a s s' is h = cancel_idles u a s s' h.0
call_idles heed a s s' is h = heed_idles a s s' h
call_idles _ a s s' is h = absurd (cc)

-- ---- so it wants none

idle_wants_none : {key : Start} (s s' : Situation) (xs : List (Option Step)) → Idles s s' → IsDesk s → IsDesk s' →
    ArePlaysOf key s.view xs s'.view → WantsNone s.view.who xs
idle_wants_none s s' xs h d d' plays = let same = h.0 in let c = counted s d in let c' = counted s' d' in
    let takes : s'.view.takes ≡ s.view.takes = sym c'.takes ∙ same.takes ∙ c.takes in
    let deaths : s'.view.deaths ≡ s.view.deaths = sym c'.deaths ∙ same.deaths ∙ c.deaths in
    let stopped : s'.view.stopped ≡ s.view.stopped = sym c'.stopped ∙ same.stopped ∙ c.stopped in
    let r = none_ends s.view.who s.view s'.view xs plays (omega (arith, ap (λ (l : List (ℕ × ℕ)). length l) stopped)) in record {
      wants = only_more s.view.who (λ m. (s.view.waits ≡ 0) × (s'.view.waits ≡ suc m)) (λ m. ⊥) xs
          (λ m w. ⊎_elim (λ still. let x = w.0 in let y = w.1 in absurd (omega arith))
          (⊎_elim (λ none. let at = desk_waits s' d' m w.1 in let both = sym none ∙ at in cc)
          (λ turn. same_list s s' d d' turn m w.0 w.1)) h.1) r.wants;
      dies = r.dies;
    }

pub other_calls_want_none : OtherCallsWantNone
other_calls_want_none key call s s' a xs is h = λ d d' plays. idle_wants_none s s' xs (call_idles call a s s' is h) d d' plays
