-- A lock that two seats of a table own is owned by one.
use Rattle.std.proofs.Common.{ℕ, ◌≡◌, true, ap, refl, sym, ◌∙◌}
use Rattle.ww_model.specs.declared.state.Holder.{Holder}
use Rattle.ww_model.specs.declared.state.Holder.TheVariants.{Taken}
use Rattle.ww_view.specs.View.{owns}
use Rattle.ww_invariant.specs.declared.cells.Start.{Start}
use Rattle.ww_invariant.specs.Rule.{St, Sat, Ruled}
use Rattle.ww_table_laws.specs.Laws.{StepsAt, core_of, RuledOwners}

-- who has taken a lock is one seat
one_seat : (h : Holder) (a b : ℕ) → h ≡ Taken a → h ≡ Taken b → a ≡ b
one_seat h a b p q = cc

-- the core, the places, the owner words and what views know of owners are the rule's
pub rule_tells_owners : (key : Start) (s : St) (r : Ruled key s) → (o : RuledOwners key s) × (o.core ≡ r.core)
rule_tells_owners key s r = (
  record {
    core = r.core;
    at = r.at;
    locks = r.locks;
    words = r.words.owners;
    known = λ id me it. (r.seats id me.0 it.here it.seated).part.knows.owned;
    places = λ id me it. (r.seats id me.0 it.here it.seated).part.place;
  },
  refl,
)

-- a view of a seat knows of each lock that it owns that the core's owner is that seat; and it stands where the rule has
-- the seat's number
pub one_owner : (key : Start) (s : St) → RuledOwners key s → (id other : ℕ) (me it : Sat) (n : ℕ) → StepsAt s id me → StepsAt s other it →
    owns (core_of me) n ≡ true → owns (core_of it) n ≡ true → (id ≡ other) × ((core_of me).who ≡ (core_of it).who)
one_owner key s o id other me it n here there mine its =
    let same : (core_of me).who ≡ (core_of it).who =
    one_seat (o.core.owner n) _ _ ((o.known id me here).has n mine) ((o.known other it there).has n its) in
    (sym (o.places id me here) ∙ ap o.at same ∙ o.places other it there, same)
