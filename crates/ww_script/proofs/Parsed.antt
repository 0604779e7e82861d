-- Which value the bytes of a text are.
use Rattle.std.proofs.Common.{◌≡◌, List, ℕ, Bool, true, false, Some, None, Ok, Err, refl, ap, ◌∙◌}
use Rattle.std.proofs.lemmas.Str.{is_utf8-from_IsUtf8, IsUtf8-from_is_utf8}
use Rattle.std.specs.Str.{IsUtf8, is_utf8}
use Rattle.serde_json.specs.Data.{Data}
use Rattle.serde_json.specs.Read.{read}
use Rattle.ww_json.specs.declared.fault.InputFault.TheVariants.{NotJson}
use Rattle.ww_script.specs.Reading.{value_if, parsed}

pub parsed_some : (bytes : List ℕ) (d : Data) → IsUtf8 bytes → read bytes ≡ Some d → parsed bytes ≡ Ok d
unfolding parsed
parsed_some bytes d utf8 e = ap (λ u. value_if u (read bytes)) (is_utf8-from_IsUtf8 bytes utf8) ∙ ap (value_if true) e

parsed_at : (bytes : List ℕ) (u : Bool) → is_utf8 bytes ≡ u → (IsUtf8 bytes → read bytes ≡ None) → value_if u (read bytes) ≡ Err NotJson
parsed_at bytes false is h = refl
parsed_at bytes true is h = ap (value_if true) (h (IsUtf8-from_is_utf8 bytes is))

pub parsed_none : (bytes : List ℕ) → (IsUtf8 bytes → read bytes ≡ None) → parsed bytes ≡ Err NotJson
unfolding parsed
parsed_none bytes h = parsed_at bytes (is_utf8 bytes) refl h
