-- Which numbers a list has, as flags.
use Rattle.std.specs.Prelude.{ℕ, ◌≡◌, ◌<◌, Bool, List, length, false, slice_index_or}
use Rattle.ww_plain.specs.Numbers.{is_among}

-- the flag of each number below 256 says whether the number is one of the list
pub record Marks (came : List Bool) (ns : List ℕ) : Type 0 where
  pub size : length came ≡ 256
  pub flags : (n : ℕ) → n < 256 → slice_index_or came n false ≡ is_among n ns
