-- What theorems come to: each lemma takes a theorem, and gives a sentence of specs/Uses by it.
use Rattle.std.proofs.Common.{⊎_elim, sym}
use Rattle.std.proofs.lemmas.Bool.{cases_Bool}
use Rattle.ww_plain.specs.Numbers.{is_among}
use Rattle.ww_view.specs.View.{owns}
use Rattle.ww_table_laws.specs.Laws.{core_of, OwnersExclude}
use Rattle.ww_callers.specs.Exclusion.{PassesExclude, DesksExclude}
use Rattle.ww_callers.specs.Uses.{SeatsShareNone, PassesShareNone, DesksShareNone}

pub seats_share_none : OwnersExclude → SeatsShareNone
seats_share_none law key s ruled id other n me it = λ apart one two has. ⊎_elim
    (λ too. absurd (apart (sym (law key s ruled id other me it n one two has too).0))) (λ not. not) (cases_Bool (owns (core_of it) n))

pub passes_share_none : PassesExclude → PassesShareNone
passes_share_none law key s ruled id other n h k = λ apart one two has. ⊎_elim
    (λ too. absurd (apart (sym (law key s ruled id other h k n one two has too).0))) (λ not. not) (cases_Bool (is_among n k.held))

pub desks_share_none : DesksExclude → DesksShareNone
desks_share_none law key s ruled id other n d e = λ apart one two has. ⊎_elim
    (λ too. absurd (apart (sym (law key s ruled id other d e n one two has too).0))) (λ not. not) (cases_Bool (is_among n e.held))
