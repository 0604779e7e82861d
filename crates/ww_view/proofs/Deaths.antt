-- What a death and a sign tell.
use Rattle.std.proofs.Common.{◌≡◌, ◌⊎◌, inl, inr, ⊎_elim, ℕ, suc, nat_lt, Some, refl, sym, ap, ◌∙◌, subst}
use Rattle.std.proofs.lemmas.Option.{cond_some}
use Rattle.std.specs.Option.{unwrap_or}
use Rattle.ww_queue.specs.declared.kind.Kind.{Kind}
use Rattle.ww_queue.specs.declared.kind.Kind.TheVariants.{WoundWait, WaitDie}
use Rattle.ww_queue.specs.Queue.{Has}
use Rattle.ww_queue.specs.Rules.{must_die}
use Rattle.ww_queue.proofs.Deaths.{dies_why, must_die_why, death_why, death_is_of_context}
use Rattle.ww_queue.proofs.Signs.{owed_once}
use Rattle.ww_model.specs.declared.event.Event.TheVariants.{Begin, Clear, Fast, FastGive, Guard, Join, Sign, Take, Ask, Give, Die, Unguard, Commit, End, Cancel, Heed, Leave}
use Rattle.ww_model.specs.State.{State, owner_as, owes}
use Rattle.ww_model.specs.Event.{Possible}
use Rattle.ww_model.specs.Lawful.{IsLawful}
use Rattle.ww_model.proofs.Dues.{sign_for, sign_owed}
use Rattle.ww_model.proofs.Puts.{put_here}
use Rattle.ww_model.proofs.Kept.{reached_is_lawful}
use Rattle.ww_model.proofs.Meetings.{death_was_met}
use Rattle.ww_model.proofs.Ranges.{lawful_place}
use Rattle.ww_view.specs.declared.view.View.{View}
use Rattle.ww_view.specs.View.{Knows}
use Rattle.ww_view.specs.May.{MaySign, MetByView}
use Rattle.ww_view.specs.Made.{met_at}
use Rattle.ww_view.specs.Laws.{DeathIsShown, DeathIsNoted, NoOtherIsNoted, ShownDeathWasMet, SignIsTold}
use Rattle.ww_view.proofs.Shows.{tells_die, shows_die, tells_sign, is_inside}

-- the view shows the cause
pub die_shows : DeathIsShown
die_shows v n o k may = go v.kind refl may.why.1 may.why.2
  where
    s : ℕ
    s = may.why.0

    go : (kind : Kind) → v.kind ≡ kind → (v.kind ≡ WaitDie) ⊎ (v.sign ≡ Some s) →
        must_die kind o v.list v.who s ≡ Some k → MetByView v o k
    go WoundWait is how dies = let r = must_die_why WoundWait o v.list v.who s k dies in
        let d = death_why WoundWait o v.list s r.0 k r.3 in
        let context = death_is_of_context WoundWait o v.list v.who s k dies in
        let same = (cond_some (nat_lt 0 s) s k d.1).1 in record {
          wounded = λ _.
              (⊎_elim (λ x. absurd (cc)) (λ x. x ∙ ap Some same) how, context);
          older = λ x. absurd (cc);
        }
    go WaitDie is how dies = let r = dies_why o v.list v.who s k dies in record {
      wounded = λ x. absurd (cc);
      older = λ _. ⊎_elim (λ m. inl ((m.0.seat, m.0.owns, λ x. m.0.other (x ∙ sym r.2)), sym m.1))
          (λ x. inr (x.0, r.0, x.1, r.2, sym x.3)) r.4;
    }

-- the view notes it
pub die_notes : DeathIsNoted
die_notes v n o k may = (λ i. met_at (may.inside i) (must_die v.kind o v.list v.who (unwrap_or v.sign 0)) o v.list)
    ∙ ap (λ x. met_at (suc n) x o v.list) (go v.kind may.why.1 may.why.2)
  where
    s : ℕ
    s = may.why.0

    -- in Wait-Die whatever the sign is
    go : (kind : Kind) → (kind ≡ WaitDie) ⊎ (v.sign ≡ Some s) → must_die kind o v.list v.who s ≡ Some k →
        must_die kind o v.list v.who (unwrap_or v.sign 0) ≡ Some k
    go WoundWait how dies = ⊎_elim (λ x. absurd (cc)) (λ x. ap (λ z. must_die WoundWait o v.list v.who (unwrap_or z 0)) x ∙ dies) how
    go WaitDie how dies = dies

-- and no other event makes a view note one
pub others_note_none : NoOtherIsNoted
others_note_none c (Begin s) v other = inr refl
others_note_none c (Clear s) v other = inl refl
others_note_none c (Fast s n) v other = inr refl
others_note_none c (FastGive s n) v other = inr refl
others_note_none c (Guard s n) v other = inl refl
others_note_none c (Join s n) v other = inl refl
others_note_none c (Sign s u) v other = inl refl
others_note_none c (Take s n) v other = inr refl
others_note_none c (Ask s n) v other = inl refl
others_note_none c (Give s n) v other = inr refl
others_note_none c (Die s n) v other = absurd (other s n refl)
others_note_none c (Unguard s n) v other = inl refl
others_note_none c (Commit s) v other = inl refl
others_note_none c (End s) v other = inr refl
others_note_none c (Cancel s u) v other = inl refl
others_note_none c (Heed s n) v other = inl refl
others_note_none c (Leave s n) v other = inr refl

-- at the death of a run it is a context that the seat met
pub die_met : ShownDeathWasMet
die_met c run v n o k knows may found = let l = reached_is_lawful c run in
    death_was_met c run v.who n k (shows_die c v l knows n o k may found) (tells_die c v l knows n o k may found)

-- the stamp that the view tells is the one of the sign
pub sign_is : (c : State) (v : View) (l : IsLawful c) (k : Knows c v) (n u j : ℕ) → MaySign v n u j →
    Possible c (Sign v.who u) → sign_for c v.who u ≡ j
sign_is c v l k n u j may can = let at = lawful_place c l v.who n (is_inside c v l k n may.inside) in
    owed_once c.kind (owner_as c (c.owner n)) (c.queue n) v.who u (sign_for c v.who u) j
    (subst (λ m. Has (owes c v.who m) (u, sign_for c v.who u)) at (sign_owed c v.who u can.signs.owed))
    (tells_sign c v l k n u j may)

pub sign_is_told : SignIsTold
sign_is_told c v n u j l k may can = put_here c.sign u (sign_for c v.who u) ∙ sign_is c v l k n u j may can
