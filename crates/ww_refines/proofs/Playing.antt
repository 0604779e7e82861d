-- Each play of a seat is a move of a run.
use Rattle.std.proofs.Common.{◌≡◌, ◌⊎◌, ⊎_elim, inl, inr, ℕ, suc, ◌+◌, ◌<◌, ◌≤◌, ◌==◌, Bool, true, false, true≢false, List, [], ◌∷◌, Option, Some, None, refl, sym, ap, ◌∙◌, subst, set, arith, lt_of_not-le}
use mathlib.Core.Logic.{dite}
use mathlib.Core.Option.{some, some-injective}
use native.Mathlib.Decide.{ℕ_discrete, dec_le}
use lib.ListN.{get_elem?}
use Rattle.atomic_table.proofs.Lists.{set_here, set_else}
use Rattle.std.specs.Prelude.{slice_index}
use Rattle.std.specs.List.{slice_index_or}
use Rattle.ww_word.specs.declared.owner.Owner.{Owner}
use Rattle.ww_word.specs.AnySeats.{IsValid, packed, most_for}
use Rattle.ww_queue.specs.declared.entry.Entry.{Entry}
use Rattle.ww_queue.specs.Queue.{Stands}
use Rattle.ww_queue.proofs.Outcomes.{same_number}
use Rattle.ww_model.specs.declared.event.Event.{Event}
use Rattle.ww_model.specs.declared.event.Event.TheVariants.{Begin, Clear, Fast, FastGive, Guard, Join, Sign, Take, Ask, Give, Die, Unguard, Commit, End, Cancel, Heed, Leave}
use Rattle.ww_model.specs.State.{State, put, place_of, word_of}
use Rattle.ww_model.specs.Event.{Possible, after, actor}
use Rattle.ww_model.proofs.Puts.{put_here, put_else, put_cases}
use Rattle.ww_model.proofs.Kept.{reached_is_lawful}
use Rattle.ww_model.proofs.Dues.{owed_older, sign_owed, sign_for}
use Rattle.ww_plain.specs.History.{Recorded}
use Rattle.ww_view.specs.declared.view.View.{View}
use Rattle.ww_view.specs.View.{Knows}
use Rattle.ww_view.specs.May.{MayGive, MayLeave}
use Rattle.ww_view.specs.Made.{view_after, naps_after, queued, has_asked, given, died, interrupted, has_heeded, begun, exited, found_none, has_read, found_uncancelled, noted}
use Rattle.ww_view.proofs.Tells.{asked_is}
use Rattle.ww_view.proofs.Written.{wide_word_is_valid}
use Rattle.ww_view.proofs.Inside.{mine_look, mine_uncancelled, mine_lost_sign, mine_read, mine_read_none, mine_missed, mine_kept, mine_glanced, mine_seen_word, mine_found_pending, mine_shut_out, mine_stepped}
use Rattle.ww_invariant.specs.declared.cells.Part.{Part}
use Rattle.ww_invariant.specs.declared.cells.Sight.{Sight}
use Rattle.ww_invariant.specs.declared.cells.Start.{Start}
use Rattle.ww_invariant.specs.Rule.{St, Sat, Ruled, Sits, MakesWith, Stays}
use Rattle.ww_invariant.specs.Layout.{owner_at, sign_at, cancel_at, stamp_at}
use Rattle.ww_invariant.proofs.Fits.{place_low}
use Rattle.ww_invariant.proofs.Moves as moves
use Rattle.ww_invariant.proofs.InsideMoves as inside
use Rattle.ww_invariant.proofs.Places as places
use Rattle.ww_invariant.proofs.Seats.{splits_on, joins_on}
use Rattle.ww_laws.specs.Scene.{Step, performs, leaves_to_sleep, finds_no_sign, finds_no_cancel, first_of, woken_by}
use Rattle.ww_laws.proofs.Woken.{another_was}
use Rattle.ww_refines.specs.Moment.{Moment, core, view, Acts, HasLeftToWait}
use Rattle.ww_refines.specs.Tables.{NotesWhatStands, nothing, word, IsToldOf, TableMoment, moment_of}
use Rattle.ww_refines.specs.Moves.{IsRead, IsNoted, cancelled_after, OthersStay, StepsThere, MakesEvent, Looks}
use Rattle.ww_refines.proofs.Seating.{known_by, told_cut, told_in}
use Rattle.ww_refines.specs.Plays as play
use Rattle.ww_refines.specs.Plays.{Plays, IsFound, Moved, PlaysAreMoves}
use Rattle.ww_refines.specs.Naps.{is_event, ReadsOn, ReadsAreMoves}

-- an event leaves a view that of its seat
same_who : (c : State) (e : Event) (v : View) → (view_after c e v).who ≡ v.who
same_who c (Begin s) v = refl
same_who c _ v = refl

-- ... and notes no word of a lock
same_words : (c : State) (e : Event) (v : View) → (view_after c e v).words_seen ≡ v.words_seen
same_words c (Begin s) v = refl
same_words c _ v = refl

-- what is noted in a view may change
plain : {v v' : View} → v'.inside ≡ v.inside → v'.later ≡ v.later → v'.condemned ≡ v.condemned → v'.debts ≡ v.debts →
    v'.naps ≡ v.naps → (v'.fresh ≡ true → v.fresh ≡ true) → (v'.uncancelled ≡ true → v.uncancelled ≡ true) → IsNoted v v'
plain inside later condemned debts naps fresh uncancelled = record {
  inside = inside;
  later = later;
  condemned = condemned;
  debts = debts;
  naps = naps;
  fresh = fresh;
  uncancelled = uncancelled;
}

-- ... by what its seat reads
record IsReadOf (c : State) (v v' : View) : Type 0 where
  who : v'.who ≡ v.who
  owned : v'.owned ≡ v.owned
  knows : Knows c v'
  noted : IsNoted v v'

as_read : {c : State} {v v' : View} → v'.who ≡ v.who → v'.owned ≡ v.owned → Knows c v' → IsNoted v v' → IsReadOf c v v'
as_read who owned knows noted = record { who = who; owned = owned; knows = knows; noted = noted }

-- the first waiter of a list stands there
first_stands : (q : List Entry) (u : ℕ) → first_of q ≡ Some u → Stands q u
first_stands [] u is = absurd (cc)
first_stands (e ∷ es) u is = (e, inl refl, (let z : e.seat ≡ u = cc in z))

module _ {key : Start} (m : Moment key) where
  -- a number that some event concerns is that of a seat
  pub is_seat : (u : ℕ) → (key.seats ≤ u → ⊥) → u < key.seats
  is_seat u stranger = dite (dec_le key.seats u) (λ h. absurd (stranger h)) (λ h. lt_of_not-le h)

  pub waiter_is_seat : (n u : ℕ) → Stands ((core m).queue n) u → u < key.seats
  waiter_is_seat n u h = is_seat u (λ far. (m.strangers u far).waits n h.0 h.1 h.2)

  victim_is_seat : (s u : ℕ) → Possible (core m) (Sign s u) → u < key.seats
  victim_is_seat s u can = let c = core m in is_seat u (λ far.
      let older = owed_older c s (place_of c s) u (sign_for c s u) (reached_is_lawful c m.reached).base
      (sign_owed c s u can.signs.owed) in
      let none = (m.strangers u far).stamp in let z = older.1 in omega arith)

  wakes_none : (o : Option ℕ) → o ≡ None → (u : ℕ) → o ≡ Some u → u < key.seats
  wakes_none o none u is = absurd (cc)

module _ {key : Start} (m : TableMoment key) (id : ℕ) (v : Sight) (here : get_elem? m.table.views id ≡ some v)
    (seated : v.seated ≡ true) where
  sits_there : Sits key m.ruled.core m.ruled.log m.ruled.at m.ruled.counts id v
  sits_there = m.ruled.seats id v here seated

  same_view : (place : ℕ) (w : Sight) → get_elem? m.table.views place ≡ some w → place ≡ id → w ≡ v
  same_view place w stands is = some-injective w v (sym stands ∙ ap (get_elem? m.table.views) is ∙ here)

  -- what the table tells of the seat is what its view says
  pub told_there : v.part.core.who < key.seats → v.part ≡ m.part v.part.core.who
  told_there low = let who = v.part.core.who in let h = m.told who low in
      let sits = m.ruled.seats h.place h.view h.stands h.seated in ⊎_elim
      (λ is. let place : h.place ≡ id =
      (sym sits.part.place ∙ ap m.ruled.at (ap (λ (p : Part). p.core.who) is ∙ h.who) ∙ sits_there.part.place) in
      ap (λ (w : Sight). w.part) (sym (same_view h.place h.view h.stands place)) ∙ is)
      (λ idle. let fits = (sits.idle idle.0 (m.part who) idle.1).0 in
      let place : h.place ≡ id = (sym fits.place ∙ ap m.ruled.at h.who ∙ sits_there.part.place) in
      absurd (sits.apart idle.0 (m.part who) idle.1
      (h.who ∙ ap (λ (w : Sight). w.part.core.who) (sym (same_view h.place h.view h.stands place)))))
      h.tells

module _ {key : Start} (m : TableMoment key) (id : ℕ) (me : Sat) (here : get_elem? m.table.views id ≡ some me.0)
    (seated : me.0.seated ≡ true) (low : me.0.part.core.who < key.seats) where
  abbrev who : ℕ
  who = me.0.part.core.who

  mine : Sits key m.ruled.core m.ruled.log m.ruled.at m.ruled.counts id me.0
  mine = sits_there m id me.0 here seated

  told_here : me.0.part ≡ m.part who
  told_here = told_there m id me.0 here seated low

  -- ---- the moment after a step by which the seat's view became w

  module _ (s : St) (r : Ruled key s) (w : Sight) (views : s.views ≡ set m.table.views id w)
      (w_seated : w.seated ≡ true)
      (idle : w.idle ≡ me.0.idle) (w_who : w.part.core.who ≡ who) (heeds : ℕ → Bool) where
    stands_then : get_elem? s.views id ≡ some w
    stands_then = ap (λ (vs : List Sight). get_elem? vs id) views ∙ set_here m.table.views id w
        (place_low m.table.views id me.0 here)

    told_then : (u : ℕ) → u < key.seats → IsToldOf s u (put m.part who w.part u)
    told_then u low = put_cases m.part who w.part u (IsToldOf s u)
        (λ is. record {
          place = id;
          view = w;
          stands = stands_then;
          seated = w_seated;
          tells = inl refl;
          who = w_who
              ∙ sym is;
        })
        (λ isnt. let h = m.told u low in dite (ℕ_discrete h.place id)
        (λ at. let same = same_view m id me.0 here seated h.place h.view h.stands at in ⊎_elim
        (λ is. absurd (isnt (sym h.who ∙ ap (λ (p : Part). p.core.who) (sym is)
        ∙ ap (λ (v : Sight). v.part.core.who) same)))
        (λ k. record {
          place = id;
          view = w;
          stands = stands_then;
          seated = w_seated;
          tells = inr (
            k.0,
            ap (λ (ps : List Part). get_elem? ps k.0) (idle ∙ ap (λ (v : Sight). v.idle) (sym same))
                ∙ k.1,
          );
          who = h.who;
        }) h.tells)
        (λ other. record {
          place = h.place;
          view = h.view;
          stands = ap (λ (vs : List Sight). get_elem? vs h.place) views ∙ set_else m.table.views id h.place w other
              ∙ h.stands;
          seated = h.seated;
          tells = h.tells;
          who = h.who;
        }))

    abbrev then : TableMoment key
    then = record {
      table = s;
      ruled = r;
      part = put m.part who w.part;
      told = told_then;
      known = λ u low. known_by s r u (put m.part who w.part u) (told_then u low);
      rung = m.rung;
      risen = m.risen;
      token = m.token;
      asleep = m.asleep;
      heeds = heeds;
    }

    part_then : then.part who ≡ w.part
    part_then = put_here m.part who w.part

    stay : OthersStay (moment_of m) (moment_of then) who
    stay = record {
      others = λ u low isnt. put_else m.part who w.part u isnt;
      rung = refl;
      risen = refl;
      token = refl;
      asleep = refl;
    }

    noted_then : NotesWhatStands key m.ruled.core me.0.part.core w.part.core → NotesWhatStands key m.ruled.core (view (moment_of m) who) (view (moment_of then) who)
    noted_then notes = subst (λ (p : Part). NotesWhatStands key m.ruled.core (view (moment_of m) who) p.core) (sym part_then)
        (subst (λ (p : Part). NotesWhatStands key m.ruled.core p.core w.part.core) told_here notes)

  -- no view changes but in where it stands
  module _ (s : St) (stays : Stays key m.table m.ruled s) (told : (t : ℕ) (p : Part) → IsToldOf m.table t p → IsToldOf s t p) where
    abbrev retold : TableMoment key
    retold = record {
      table = s;
      ruled = stays.ruled;
      part = m.part;
      told = λ t low. told t (m.part t) (m.told t low);
      known = λ t low. known_by s stays.ruled t (m.part t) (told t (m.part t) (m.told t low));
      rung = m.rung;
      risen = m.risen;
      token = m.token;
      asleep = m.asleep;
      heeds = m.heeds;
    }

    retold_stay : OthersStay (moment_of m) (moment_of retold) who
    retold_stay = record { others = λ u low isnt. refl; rung = refl; risen = refl; token = refl; asleep = refl }

  -- ---- what the words tell

  own_sign : slice_index m.table.words (sign_at key.locks who) ≡ m.ruled.core.sign who
  own_sign = m.ruled.words.signs who (let a = m.ruled.seats_there in let b = low in omega arith)

  own_cancel : slice_index m.table.words (cancel_at key.locks who) ≡ m.ruled.core.cancel who
  own_cancel = m.ruled.words.cancels who (let a = m.ruled.seats_there in let b = low in omega arith)

  found : (n : ℕ) (o : Owner) → me.0.part.core.inside ≡ suc n → IsValid o →
      slice_index m.table.words (owner_at key.locks n) ≡ packed o →
      o ≡ word_of m.ruled.core n
  found n o is valid hit = moves.found key m.table m.ruled id me here seated n o
      (inside.inside_low key m.table m.ruled id me here seated n is) valid hit

  asked_so : (n : ℕ) (o : Owner) → MayGive me.0.part.core n → IsValid o →
      slice_index m.table.words (owner_at key.locks n) ≡ packed o →
      (o.flags == 3) ≡ m.ruled.core.asked n
  asked_so n o may valid hit = asked_is m.ruled.core n o (found n o may.inside valid hit) who (reached_is_lawful
      m.ruled.core m.ruled.reached)
      (mine.part.knows.owned.has n may.owns)

  drawn_so : slice_index m.table.words stamp_at < most_for key.places →
      slice_index m.table.words stamp_at ≡ m.ruled.core.drawn
  drawn_so room = let a = m.ruled.words.drawn in let b = m.ruled.drawn in omega arith

  -- ---- each play

  -- a read leaves all that waking and sleeping go by
  is_read : (i : ℕ) (v : View) → IsFound m id me i v → IsReadOf m.ruled.core me.0.part.core v
  is_read _ _ (play.looks n o is valid hit) = as_read refl refl
      (mine_look m.ruled.core me.0.part.core mine.part.knows n o is (found n o is valid hit))
      (plain refl refl refl refl refl (λ f. absurd (true≢false (sym f))) (λ u. u))
  is_read _ _ (play.glances i) = as_read refl refl
      (mine_glanced m.ruled.core me.0.part.core mine.part.knows)
      (plain refl refl refl refl refl (λ f. f) (λ u. u))
  is_read _ _ (play.sees n low) = as_read refl refl
      (mine_seen_word m.ruled.core me.0.part.core mine.part.knows n _)
      (plain refl refl refl refl refl (λ f. f) (λ u. u))
  is_read _ _ (play.tells_nothing i) = as_read refl refl
      mine.part.knows
      (plain refl refl refl refl refl (λ f. f) (λ u. u))
  is_read _ _ (play.is_signed isnt) = as_read refl refl
      (mine_read m.ruled.core me.0.part.core mine.part.knows _ (sym own_sign) (λ none. absurd (isnt none)))
      (plain refl refl refl refl refl (λ f. absurd (isnt (same_number _ 0 f))) (λ u. u))
  is_read _ _ (play.signed_already x low isnt) = as_read refl refl
      (mine_lost_sign m.ruled.core me.0.part.core mine.part.knows x (λ z. isnt (m.ruled.words.signs x low ∙ z)))
      (plain refl refl refl refl refl (λ f. absurd (true≢false (sym f))) (λ u. u))
  is_read _ _ (play.pending_already i) = as_read refl refl
      (mine_found_pending m.ruled.core me.0.part.core mine.part.knows)
      (plain refl refl refl refl refl (λ f. f) (λ u. u))
  is_read _ _ (play.misses i) = as_read refl refl
      (mine_missed m.ruled.core me.0.part.core mine.part.knows)
      (plain refl refl refl refl refl (λ f. absurd (true≢false (sym f))) (λ u. u))
  is_read _ _ (play.keeps_it i) = as_read refl refl
      (mine_kept m.ruled.core me.0.part.core mine.part.knows)
      (plain refl refl refl refl refl (λ f. absurd (true≢false (sym f))) (λ u. u))
  is_read _ _ (play.is_shut_out i) = as_read refl refl
      (mine_shut_out m.ruled.core me.0.part.core mine.part.knows)
      (plain refl refl refl refl refl (λ f. absurd (true≢false (sym f))) (λ u. u))
  is_read _ _ (play.loses i) = as_read refl refl
      (mine_stepped m.ruled.core me.0.part.core mine.part.knows)
      (plain refl refl refl refl refl (λ f. absurd (true≢false (sym f))) (λ u. u))

  -- ... and notes what stands there
  notes_read : (i : ℕ) (v : View) → IsFound m id me i v → NotesWhatStands key m.ruled.core me.0.part.core v
  notes_read _ _ (play.sees n low) = word n low
      (wide_word_is_valid m.ruled.core n m.ruled.reached (moves.have_room key m.table m.ruled)) (ap (λ (k : ℕ). (n, k) ∷ me.0.part.core.words_seen) (m.ruled.words.owners n low))
  notes_read _ _ _ = nothing refl

  read_stays : (i : ℕ) (v : View) → v.who ≡ who → v.owned ≡ me.0.part.core.owned → Knows m.ruled.core v →
      Stays key m.table m.ruled (play.read m id me i v)
  read_stays i v same has knows = moves.looks_on key m.table m.ruled id me here seated i v same
      (λ n. ap (λ (bs : List Bool). slice_index_or bs n false) has) knows

  -- ---- a read from outside the guards

  module _ (rests : HasLeftToWait (moment_of m) who false) (out : me.0.part.core.inside ≡ 0) where
    out_there : (view (moment_of m) who).inside ≡ 0
    out_there = ap (λ (p : Part). p.core.inside) (sym told_here) ∙ out

    module _ (s : St) (w : Sight) where
      aside : Stays key m.table m.ruled s → s.views ≡ set m.table.views id w → w.seated ≡ true
          → w.idle ≡ me.0.idle → w.part.core.who ≡ who → w.part.counts.cancelled ≡ me.0.part.counts.cancelled
          → IsRead me.0.part.core w.part.core → NotesWhatStands key m.ruled.core me.0.part.core w.part.core → ReadsOn m who s
      aside stays views w_seated idle w_who cancelled read notes =
          let is = part_then s stays.ruled w views w_seated idle w_who m.heeds in record {
            moment = then s stays.ruled w views w_seated idle w_who m.heeds;
            table = refl;
            reads = record {
              rests = rests;
              outside = out_there;
              stay = stay s stays.ruled w views w_seated idle w_who m.heeds;
              core = stays.is;
              cancelled = ap (λ (p : Part). p.counts.cancelled) is ∙ cancelled
                  ∙ ap (λ (p : Part). p.counts.cancelled) told_here;
              heeds = refl;
              view = subst (λ (p : Part). IsRead (m.part who).core p.core) (sym is)
                  (subst (λ (p : Part). IsRead p.core w.part.core) told_here read);
            };
            notes = noted_then s stays.ruled w views w_seated idle w_who m.heeds notes;
          }

    retold_aside : (s : St) → Stays key m.table m.ruled s → ((t : ℕ) (p : Part) → IsToldOf m.table t p → IsToldOf s t p)
        → ReadsOn m who s
    retold_aside s stays told = record {
      moment = retold s stays told;
      table = refl;
      reads = record {
        rests = rests;
        outside = out_there;
        stay = retold_stay s stays told;
        core = stays.is;
        cancelled = refl;
        heeds = refl;
        view = record { inside = refl; condemned = refl; debts = refl; naps = refl };
      };
      notes = nothing refl;
    }

    as_before : {u : View} → u.inside ≡ me.0.part.core.inside → u.condemned ≡ me.0.part.core.condemned
        → u.debts ≡ me.0.part.core.debts → u.naps ≡ me.0.part.core.naps → IsRead me.0.part.core u
    as_before inside condemned debts naps = record { inside = inside; condemned = condemned; debts = debts; naps = naps }

    reads_moved : (x : Option Step) (s : St) → is_event x ≡ false → Plays m id me x s → ReadsOn m who s
    reads_moved _ _ none (play.finds_unsigned hit) = aside _ _
        (read_stays _ _ refl refl (mine_read_none m.ruled.core me.0.part.core mine.part.knows)) refl seated refl refl refl
        (as_before refl refl refl refl) (nothing refl)
    reads_moved _ _ none (play.finds_unsigned_for_long hit quiet) = aside _ _
        (read_stays _ _ refl refl (mine_read m.ruled.core me.0.part.core mine.part.knows 0 (sym own_sign ∙ hit) (λ _. quiet)))
        refl seated refl refl refl (as_before refl refl refl refl) (nothing refl)
    reads_moved _ _ none (play.finds_uncancelled hit) = aside _ _
        (read_stays _ _ refl refl (mine_uncancelled m.ruled.core me.0.part.core mine.part.knows)) refl seated refl refl refl
        (as_before refl refl refl refl) (nothing refl)
    reads_moved _ _ none (play.finds i v is) = let r = is_read i v is in let n = r.noted in
        aside _ _ (read_stays i v r.who r.owned r.knows) refl seated refl r.who refl
        (as_before n.inside n.condemned n.debts n.naps) (notes_read i v is)
    reads_moved _ _ none (play.draws_none may spent) = aside _ _
        (moves.draw_stays key m.table m.ruled id me here seated may spent) refl seated refl refl refl
        (as_before refl refl refl refl) (nothing refl)
    reads_moved _ _ none (play.cuts_off p ps idle) = let v = me.0 in let stays =
        splits_on key id v p ps seated idle m.table m.ruled here in
        retold_aside _ stays (told_cut m.table _ id v here seated p ps idle refl)
    reads_moved _ _ none (play.takes_in other w apart there on bare) =
        let stays = joins_on key id me.0 other w seated on bare m.table m.ruled here apart there in
        retold_aside _ stays (told_in m.table _ id me.0 here seated other w apart there refl)
    reads_moved _ _ none _ = absurd (true≢false none)

  module _ (acts : Acts (moment_of m) who) where
    -- ---- the step of a seat that acts

    module _ (s : St) (r : Ruled key s) (w : Sight) (views : s.views ≡ set m.table.views id w)
        (w_seated : w.seated ≡ true)
        (idle : w.idle ≡ me.0.idle) (w_who : w.part.core.who ≡ who) (heeds : ℕ → Bool) where
      abbrev now : TableMoment key
      now = then s r w views w_seated idle w_who heeds

      at_now : now.part who ≡ w.part
      at_now = part_then s r w views w_seated idle w_who heeds

      there : StepsThere (moment_of m) (moment_of now) who
      there = record {
        acts = acts;
        stay = stay s r w views w_seated idle w_who heeds;
      }

      makes_event : (e : Event) → actor e ≡ who → Possible m.ruled.core e → r.core ≡ after m.ruled.core e →
          w.part.core ≡ view_after m.ruled.core e me.0.part.core →
          w.part.counts.cancelled ≡ cancelled_after e me.0.part.counts.cancelled → MakesEvent (moment_of m) (moment_of now) e
      makes_event e own can is knows cancelled = record {
        there = subst (StepsThere (moment_of m) (moment_of now)) (sym own) there;
        can = can;
        core = is;
        view = subst (λ (x : ℕ). (now.part x).core ≡ view_after m.ruled.core e (m.part x).core) (sym own)
            (ap (λ (p : Part). p.core) at_now ∙ knows ∙ ap (λ (p : Part). view_after m.ruled.core e p.core) told_here);
        cancelled = subst (λ (x : ℕ). (now.part x).counts.cancelled ≡ cancelled_after e (m.part x).counts.cancelled)
            (sym own)
            (ap (λ (p : Part). p.counts.cancelled) at_now ∙ cancelled
            ∙ ap (λ (p : Part). cancelled_after e p.counts.cancelled) told_here);
      }

    -- ---- an event

    event_moved : (e : Event) (log : List Recorded) (s : St) (w : Sight) → MakesWith key m.table m.ruled e log s →
        s.views ≡ set m.table.views id w → w.seated ≡ true → w.idle ≡ me.0.idle → actor e ≡ who →
        w.part.core ≡ view_after m.ruled.core e me.0.part.core →
        w.part.counts.cancelled ≡ cancelled_after e me.0.part.counts.cancelled →
        (view_after m.ruled.core e me.0.part.core).naps ≡ me.0.part.core.naps →
        ((u : ℕ) → woken_by m.ruled.core e ≡ Some u → u < key.seats) → Moved m who (Some (performs e)) s
    event_moved e log s w makes views w_seated idle own knows cancelled naps woken =
        let w_who : w.part.core.who ≡ who = (ap (λ (v : View). v.who) knows ∙ same_who m.ruled.core e me.0.part.core) in
        let notes = nothing (ap (λ (v : View). v.words_seen) knows ∙ same_words m.ruled.core e me.0.part.core) in
        let made = makes_event s makes.ruled w views w_seated idle w_who m.heeds e own makes.can makes.is knows cancelled
        in record {
          moment = then s makes.ruled w views w_seated idle w_who m.heeds;
          table = refl;
          there = there s makes.ruled w views w_seated idle w_who m.heeds;
          by = own;
          notes = noted_then s makes.ruled w views w_seated idle w_who m.heeds notes;
          follows = record {
            makes = made;
            stays_up = ap (λ (v : View). v.naps) made.view
                ∙ subst (λ (x : ℕ). (view_after m.ruled.core e (m.part x).core).naps ≡ (m.part x).core.naps) (sym own)
                (subst (λ (p : Part). (view_after m.ruled.core e p.core).naps ≡ p.core.naps) told_here naps);
            woken = woken;
            heeds = refl;
          };
        }

    -- the seat left a guard in order to sleep
    exit_moved : (n : ℕ) (heeds : Bool) (s : St) (w : Sight) → MakesWith key m.table m.ruled
        (Unguard who n) m.ruled.log s →
        s.views ≡ set m.table.views id w → w.seated ≡ true → w.idle ≡ me.0.idle → w.part.core ≡ exited me.0.part.core →
        w.part.counts.cancelled ≡ me.0.part.counts.cancelled → MayLeave me.0.part.core n → me.0.part.core.waits ≡ suc n →
        (heeds ≡ true → me.0.part.core.uncancelled ≡ true) → Moved m who (Some (leaves_to_sleep who n heeds)) s
    exit_moved n heeds s w makes views w_seated idle knows cancelled may waits found =
        let w_who : w.part.core.who ≡ who = ap (λ (v : View). v.who) knows in
        let to = put m.heeds who heeds in let notes = nothing (ap (λ (v : View). v.words_seen) knows) in record {
          moment = then s makes.ruled w views w_seated idle w_who to;
          table = refl;
          there = there s makes.ruled w views w_seated idle w_who to;
          by = refl;
          notes = noted_then s makes.ruled w views w_seated idle w_who to notes;
          follows = record {
            makes = makes_event s makes.ruled w views w_seated idle w_who to
                (Unguard who n) refl makes.can makes.is knows cancelled;
            may = subst (λ (p : Part). MayLeave p.core n) told_here may;
            waits = subst (λ (p : Part). p.core.waits ≡ suc n) told_here waits;
            uncancelled = subst (λ (p : Part). heeds ≡ true → p.core.uncancelled ≡ true) told_here found;
            noted = refl;
          };
        }

    -- ---- no event

    module _ (s : St) (w : Sight) (stays : Stays key m.table m.ruled s) (views : s.views ≡ set m.table.views id w)
        (w_seated : w.seated ≡ true) (idle : w.idle ≡ me.0.idle) (w_who : w.part.core.who ≡ who)
        (cancelled : w.part.counts.cancelled ≡ me.0.part.counts.cancelled)
        (notes : NotesWhatStands key m.ruled.core me.0.part.core w.part.core) where
      abbrev after_it : TableMoment key
      after_it = then s stays.ruled w views w_seated idle w_who m.heeds

      part_is : after_it.part who ≡ w.part
      part_is = part_then s stays.ruled w views w_seated idle w_who m.heeds

      looks_there : Looks (moment_of m) (moment_of after_it) who
      looks_there = record {
        there = there s stays.ruled w views w_seated idle w_who m.heeds;
        core = stays.is;
        cancelled = ap (λ (p : Part). p.counts.cancelled) part_is ∙ cancelled
            ∙ ap (λ (p : Part). p.counts.cancelled) told_here;
        heeds = refl;
      }

      noted_after : NotesWhatStands key m.ruled.core (m.part who).core (after_it.part who).core
      noted_after = noted_then s stays.ruled w views w_seated idle w_who m.heeds notes

      noted_moved : IsNoted me.0.part.core w.part.core → Moved m who None s
      noted_moved noted = record {
        moment = after_it;
        table = refl;
        there = looks_there.there;
        by = tt;
        notes = noted_after;
        follows = inr (
          who,
          inl (record {
            looks = looks_there;
            view = subst (λ (p : Part). IsNoted (m.part who).core p.core) (sym part_is)
                (subst (λ (p : Part). IsNoted p.core w.part.core) told_here noted);
          }),
        );
      }

      -- a view that is made of the one before by f
      made_by : (f : View → View) → w.part.core ≡ f me.0.part.core → (after_it.part who).core ≡ f (m.part who).core
      made_by f is = ap (λ (p : Part). p.core) part_is ∙ is ∙ ap (λ (p : Part). f p.core) told_here

      unsigned_moved : m.ruled.core.sign who ≡ 0 →
          (w.part.core ≡ found_none me.0.part.core) ⊎ (w.part.core ≡ has_read me.0.part.core 0) →
          Moved m who (Some (finds_no_sign who)) s
      unsigned_moved none is = record {
        moment = after_it;
        table = refl;
        there = looks_there.there;
        by = refl;
        notes = noted_after;
        follows = record {
          looks = looks_there;
          none = none;
          view = ⊎_elim (λ a. inl (made_by found_none a)) (λ b. inr (made_by (λ v. has_read v 0) b)) is;
        };
      }

      uncancelled_moved : m.ruled.core.cancel who ≡ 0 → w.part.core ≡ found_uncancelled me.0.part.core →
          Moved m who (Some (finds_no_cancel who)) s
      uncancelled_moved none is = record {
        moment = after_it;
        table = refl;
        there = looks_there.there;
        by = refl;
        notes = noted_after;
        follows = record { looks = looks_there; none = none; view = made_by found_uncancelled is };
      }

    -- ... and no view changed but in where it stands
    retold_moved : (s : St) → Stays key m.table m.ruled s → ((t : ℕ) (p : Part) → IsToldOf m.table t p →
        IsToldOf s t p) → Moved m who None s
    retold_moved s stays told = let there : StepsThere (moment_of m) (moment_of (retold s stays told)) who = record {
      acts = acts;
      stay = retold_stay s stays told;
    } in record {
      moment = retold s stays told;
      table = refl;
      there = there;
      by = tt;
      notes = nothing refl;
      follows = inr (
        who,
        inl (record {
          looks = record { there = there; core = stays.is; cancelled = refl; heeds = refl };
          view = plain refl refl refl refl refl (λ f. f) (λ u. u);
        }),
      );
    }

    plays_moved : (x : Option Step) (s : St) → Plays m id me x s → Moved m who x s
    plays_moved _ _ (play.draws may room) = event_moved (Begin who) _ _ _
        (moves.draw_makes key m.table m.ruled id me here seated may room) refl seated refl refl
        (ap (λ k. begun me.0.part.core (k + 1)) (drawn_so room)) refl refl (wakes_none (moment_of m) None refl)
    plays_moved _ _ (play.takes_free n small may hit) = event_moved (Fast who n) _ _ _
        (moves.fast_makes key m.table m.ruled id me here seated n small may hit) refl seated refl refl refl refl refl
        (wakes_none (moment_of m) None refl)
    plays_moved _ _ (play.gives_free n x small away own has top hit) = event_moved (FastGive who n) _ _ _
        (moves.fast_give_makes key m.table m.ruled id me here seated n x small away own has
        (moves.taker_valid key m.table m.ruled id me here seated) hit top) refl seated refl refl refl refl refl
        (wakes_none (moment_of m) None refl)
    plays_moved _ _ (play.takes_bare n big low may hit) = event_moved (Fast who n) _ _ _
        (moves.bare_makes key m.table m.ruled id me here seated n big low may hit) refl seated refl refl refl refl refl
        (wakes_none (moment_of m) None refl)
    plays_moved _ _ (play.gives_bare n big low away own hit) = event_moved (FastGive who n) _ _ _
        (moves.bare_give_makes key m.table m.ruled id me here seated n big low away own
        (moves.taker_valid key m.table m.ruled id me here seated) hit) refl seated refl refl refl refl refl
        (wakes_none (moment_of m) None refl)
    plays_moved _ _ (play.ends may hit) = event_moved (End who) _ _ _
        (moves.end_makes key m.table m.ruled id me here seated may hit) refl seated refl refl refl refl refl
        (wakes_none (moment_of m) None refl)
    plays_moved _ _ (play.places done may) = event_moved (Commit who) _ _ _
        (places.place_makes key m.table m.ruled id me here seated done may) refl seated refl refl refl refl refl
        (wakes_none (moment_of m) None refl)
    plays_moved _ _ (play.cancels u away low hit) = event_moved (Cancel who u) _ _ _
        (inside.cancel_makes key m.table m.ruled id me here seated u away (let z = m.ruled.seats_there in
        omega arith) hit)
        refl seated refl refl refl refl refl
        (λ x is. subst (λ (y : ℕ). y < key.seats) (sym (another_was who u x is).0) low)
    plays_moved _ _ (play.enters n low may hit) = event_moved (Guard who n) _ _ _
        (inside.enter_makes key m.table m.ruled id me here seated n low may hit) refl seated refl refl refl refl refl
        (wakes_none (moment_of m) None refl)
    plays_moved _ _ (play.exits n may out top) = event_moved (Unguard who n) _ _ _
        (inside.exit_makes key m.table m.ruled id me here seated n may top) refl seated refl refl refl refl
        (ap (λ (k : ℕ). naps_after k me.0.part.core.naps) out) (wakes_none (moment_of m) None refl)
    plays_moved _ _ (play.exits_to_sleep n heeds may waits none top) = exit_moved n heeds _ _
        (inside.exit_makes key m.table m.ruled id me here seated n may.exit top) refl seated refl refl refl may waits none
    plays_moved _ _ (play.joins n o may valid hit) = event_moved (Join who n) _ _ _
        (inside.join_makes key m.table m.ruled id me here seated n o may valid hit) refl seated refl refl
        (ap (queued me.0.part.core n) (found n o may.inside valid hit)) refl refl (wakes_none (moment_of m) None refl)
    plays_moved _ _ (play.takes_inside n o y others small may valid hit top) = event_moved (Take who n) _ _ _
        (inside.take_makes key m.table m.ruled id me here seated n o y others small may valid hit top) refl seated refl
        refl refl refl refl
        (wakes_none (moment_of m) None refl)
    plays_moved _ _ (play.takes_bare_inside n o big may valid hit) = event_moved (Take who n) _ _ _
        (inside.take_bare_makes key m.table m.ruled id me here seated n o big may valid hit) refl seated refl refl refl
        refl refl
        (wakes_none (moment_of m) None refl)
    plays_moved _ _ (play.gives_inside n o x may has valid hit top) = event_moved (Give who n) _ _ _
        (inside.give_makes key m.table m.ruled id me here seated n o x may has valid hit top) refl seated refl refl
        (ap (given me.0.part.core n) (asked_so n o may valid hit)) refl refl
        (λ u is. waiter_is_seat (moment_of m) n u (first_stands (m.ruled.core.queue n) u is))
    plays_moved _ _ (play.gives_bare_inside n o big may valid hit) = event_moved (Give who n) _ _ _
        (inside.give_bare_makes key m.table m.ruled id me here seated n o big may valid hit) refl seated refl refl
        (ap (given me.0.part.core n) (asked_so n o may valid hit)) refl refl
        (λ u is. waiter_is_seat (moment_of m) n u (first_stands (m.ruled.core.queue n) u is))
    plays_moved _ _ (play.asks n o may valid hit) = event_moved (Ask who n) _ _ _
        (inside.ask_makes key m.table m.ruled id me here seated n o may valid hit) refl seated refl refl
        (ap (has_asked me.0.part.core) (found n o may.inside valid hit)) refl refl (wakes_none (moment_of m) None refl)
    plays_moved _ _ (play.dies n o k may valid hit) = event_moved (Die who n) _ _ _
        (inside.die_makes key m.table m.ruled id me here seated n o k may valid hit) refl seated refl refl
        (ap (died me.0.part.core) (found n o may.inside valid hit)) refl refl (wakes_none (moment_of m) None refl)
    plays_moved _ _ (play.leaves n o may valid hit) = event_moved (Leave who n) _ _ _
        (inside.leave_makes key m.table m.ruled id me here seated n o may valid hit) refl seated refl refl
        (ap (interrupted me.0.part.core) (found n o may.inside valid hit)) refl refl (wakes_none (moment_of m) None refl)
    plays_moved _ _ (play.heeds n may isnt) = event_moved (Heed who n) _ _ _
        (inside.heed_makes key m.table m.ruled id me here seated n _ may own_cancel isnt) refl seated refl refl
        (ap (has_heeded me.0.part.core) own_cancel) refl refl (wakes_none (moment_of m) None refl)
    plays_moved _ _ (play.signs n u k may low hit) =
        let makes = inside.sign_makes key m.table m.ruled id me here seated n u k may low hit in
        event_moved (Sign who u) _ _ _ makes refl seated refl refl refl refl refl
        (λ x is. subst (λ (y : ℕ). y < key.seats) (sym (another_was who u x is).0) (victim_is_seat (moment_of m) who u makes.can))
    plays_moved _ _ (play.clears may) = event_moved (Clear who) _ _ _
        (inside.clear_makes key m.table m.ruled id me here seated may) refl seated refl refl refl refl refl
        (wakes_none (moment_of m) None refl)
    plays_moved _ _ (play.finds_unsigned hit) = unsigned_moved _ _
        (read_stays _ _ refl refl (mine_read_none m.ruled.core me.0.part.core mine.part.knows)) refl seated refl refl refl
        (nothing refl) (sym own_sign ∙ hit) (inl refl)
    plays_moved _ _ (play.finds_unsigned_for_long hit quiet) = unsigned_moved _ _
        (read_stays _ _ refl refl (mine_read m.ruled.core me.0.part.core mine.part.knows 0 (sym own_sign ∙ hit) (λ _. quiet)))
        refl seated refl refl refl (nothing refl) (sym own_sign ∙ hit) (inr refl)
    plays_moved _ _ (play.finds_uncancelled hit) = uncancelled_moved _ _
        (read_stays _ _ refl refl (mine_uncancelled m.ruled.core me.0.part.core mine.part.knows)) refl seated refl refl refl
        (nothing refl) (sym own_cancel ∙ hit) refl
    plays_moved _ _ (play.finds i v is) = let r = is_read i v is in
        noted_moved _ _ (read_stays i v r.who r.owned r.knows) refl seated refl r.who refl (notes_read i v is) r.noted
    plays_moved _ _ (play.draws_none may spent) = noted_moved _ _
        (moves.draw_stays key m.table m.ruled id me here seated may spent) refl seated refl refl refl (nothing refl)
        (plain refl refl refl refl refl (λ f. f) (λ u. u))
    plays_moved _ _ (play.cuts_off p ps idle) = let v = me.0 in let stays =
        splits_on key id v p ps seated idle m.table m.ruled here in
        retold_moved _ stays (told_cut m.table _ id v here seated p ps idle refl)
    plays_moved _ _ (play.takes_in other w apart there on bare) =
        let stays = joins_on key id me.0 other w seated on bare m.table m.ruled here apart there in
        retold_moved _ stays (told_in m.table _ id me.0 here seated other w apart there refl)

pub plays_are_moves : PlaysAreMoves
plays_are_moves key m id me x s here seated acts = plays_moved m id me here seated acts.seat acts x s

pub reads_are_moves : ReadsAreMoves
reads_are_moves key m id me x s here seated at =
    λ none plays. reads_moved m id me here seated at.rests.seat at.rests at.outside x s none plays
