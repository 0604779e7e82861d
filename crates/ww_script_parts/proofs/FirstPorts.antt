-- Ports that are read one after the other, over those of a node that leads nowhere.
use Rattle.std.proofs.Common.{◌≡◌, ℕ, suc, ◌+◌, ◌-◌, ◌<◌, ◌≤◌, List, [], ◌∷◌, ◌++◌, length, map, take, get_or, set, replicate, Option, None, Ok, refl, sym, ap, ◌∙◌, arith}
use Rattle.std.proofs.lemmas.List.{set_at, length_push, append_assoc}
use Rattle.serde_json.specs.Data.{Data}
use Rattle.ww_plain.specs.declared.node.TheConstants.{PORTS}
use Rattle.ww_json.specs.Parts.{each}
use Rattle.ww_json.proofs.Each.{each_more}
use Rattle.ww_script_parts.specs.Scripts.{port_in}

module _ {V : Type 0} (view : V → Data) (size : ℕ) (items : List V) where
  -- the first k items were read as the first k ports, and the others are empty
  pub record AreRead (k : ℕ) (ports : List (Option ℕ)) : Type 0 where
    pub front : List (Option ℕ)
    pub read : each (port_in size) (map view (take k items)) ≡ Ok front
    pub many : length front ≡ k
    pub padded : ports ≡ front ++ replicate (PORTS - k) None

  pub none_read : AreRead 0 (replicate PORTS None)
  unfolding each
  none_read = record { front = []; read = refl; many = refl; padded = refl }

  -- so many ports that lead nowhere
  abbrev empty_ports : ℕ → List (Option ℕ)
  empty_ports k = replicate k None

  one_fewer : (k : ℕ) → k < PORTS → empty_ports (PORTS - k) ≡ None ∷ empty_ports (PORTS - (k + 1))
  one_fewer k lt = let e : PORTS - k ≡ suc (PORTS - (k + 1)) = omega (arith, lt) in ap empty_ports e

  pub one_read : (k : ℕ) (item : V) (old new : List (Option ℕ)) (port : Option ℕ) → length items ≤ PORTS
      → k < length items → item ≡ get_or items k item
      → AreRead k old → port_in size (view item) ≡ Ok port → new ≡ set old k port → AreRead (k + 1) new
  one_read k item old new port few lt is h read e =
      let rest = empty_ports (PORTS - (k + 1)) in
      let was : old ≡ h.front ++ None ∷ rest = h.padded ∙ ap (λ qs. h.front ++ qs) (one_fewer k (omega (arith, few, lt))) in
      record {
        front = h.front ++ port ∷ [];
        read = each_more view (port_in size) items k item h.front (h.front ++ port ∷ []) port lt is h.read read refl;
        many = length_push h.front port ∙ omega (arith, h.many);
        padded = e ∙ ap (λ qs. set qs k port) was ∙ set_at h.front None rest port k h.many ∙ sym (append_assoc h.front (port ∷ []) rest);
      }
