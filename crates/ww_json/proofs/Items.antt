-- A value's items and members, beside the lists that hold them.
use Rattle.std.proofs.Common.{◌≡◌, List, [], ◌∷◌, length, map, refl, ap, String, Global}
use Rattle.serde_json.specs.View.{view, items_view, members_view}
use Rattle.serde_json.specs.Events.{members_len}
use Rattle.serde_json.specs.declared.value.Value.{Value}
use Rattle.serde_json.proofs.Views.{members_len-members_view}
use Rattle.ww_json.specs.Parts.{list_of}

pub list_of_items_view : (vs : List Value) → list_of (items_view vs) ≡ map view vs
list_of_items_view [] = refl
list_of_items_view (v ∷ vs) = ap (λ ds. view v ∷ ds) (list_of_items_view vs)

pub members_counted : (es : List (String Global × Value)) → members_len (members_view es) ≡ length es
members_counted es = members_len-members_view es
