-- Lists of node numbers.
use Rattle.std.specs.Prelude.{ℕ, ◌==◌, Bool, List, ◌∷◌, ◌++◌, [], if◌then◌else◌}
use Rattle.std.specs.List.{list_any, fold, IsDistinct}

-- the number stands in the list
abbrev pub is_among : ℕ → List ℕ → Bool
is_among n ns = list_any (λ m. m == n) ns

-- no number stands twice in the list
abbrev pub AreDifferent : List ℕ → Type 0
AreDifferent ns = IsDistinct ◌==◌ ns

-- the number joins the list, where it isn't in it
abbrev pub with_number : List ℕ → ℕ → List ℕ
with_number ns n = if is_among n ns then ns else ns ++ n ∷ []

-- each number of the list once, in the order in which they first come
abbrev pub distinct_of : List ℕ → List ℕ
distinct_of ns = fold with_number [] ns
