-- Who stands in a list that a filter leaves.
use Rattle.std.proofs.Common.{ℕ, ◌≡◌, ◌+◌, ◌<◌, ◌≤◌, ◌⊎◌, inl, inr, ⊎_elim, List, [], ◌∷◌, ◌++◌, length, take, get_or, Option, Some, None, refl, sym, ap, ◌∙◌, arith}
use Rattle.std.specs.List.{filter_map, cons_option}
use Rattle.std.proofs.lemmas.List.{take_more}
use Rattle.std.proofs.lemmas.List.Elements.{filter_map-append}
use Rattle.ww_queue.specs.Queue.{Has}

module _ {Y : Type 0} where
  pub cons_has : (o : Option Y) (ys : List Y) (y : Y) → Has (cons_option o ys) y → (o ≡ Some y) ⊎ Has ys y
  cons_has None ys y h = inr h
  cons_has (Some z) ys y h = ⊎_elim (λ is. inl (ap Some (sym is))) inr h

  pub has_cons : (o : Option Y) (ys : List Y) (y : Y) → (o ≡ Some y) ⊎ Has ys y → Has (cons_option o ys) y
  has_cons None ys y h = ⊎_elim (λ is. absurd cc) (λ later. later) h
  has_cons (Some z) ys y h = ⊎_elim (λ is. inl cc) inr h

  pub cons_longer : (o : Option Y) (ys : List Y) (n : ℕ) → length ys ≤ n → length (cons_option o ys) ≤ n + 1
  cons_longer None ys n few = omega arith
  cons_longer (Some z) ys n few = omega arith

module _ {X Y : Type 0} where
  -- why somebody is left
  pub filter_map_from : (f : X → Option Y) (xs : List X) (y : Y) → Has (filter_map f xs) y → (x : X) × Has xs x × (f x ≡ Some y)
  filter_map_from f [] y h = absurd h
  filter_map_from f (x ∷ xs) y h = ⊎_elim (λ is. (x, inl refl, is))
      (λ later. let rest = filter_map_from f xs y later in (rest.0, inr rest.1, rest.2)) (cons_has (f x) (filter_map f xs) y h)

  -- when somebody is left
  pub filter_map_has : (f : X → Option Y) (xs : List X) (x : X) (y : Y) → Has xs x → f x ≡ Some y → Has (filter_map f xs) y
  filter_map_has f [] x y h is = absurd h
  filter_map_has f (e ∷ es) x y h is = has_cons (f e) (filter_map f es) y
      (⊎_elim (λ same. inl (ap f (sym same) ∙ is)) (λ later. inr (filter_map_has f es x y later is)) h)

  pub length-filter_map : (f : X → Option Y) (xs : List X) → length (filter_map f xs) ≤ length xs
  length-filter_map f [] = omega arith
  length-filter_map f (x ∷ xs) = let few = cons_longer (f x) (filter_map f xs) (length xs) (length-filter_map f xs) in omega arith

  pub filter_map_more : (f : X → Option Y) (xs : List X) (i : ℕ) (d : X) → i < length xs
      → filter_map f (take (i + 1) xs) ≡ filter_map f (take i xs) ++ cons_option (f (get_or xs i d)) []
  filter_map_more f xs i d within = ap (filter_map f) (take_more xs i d within) ∙ filter_map-append f (take i xs) (get_or xs i d ∷ [])
