-- The parts of a JSON value, each with the fault that it is to be of another type or range.
use Rattle.std.specs.Prelude.{◌≡◌, ◌≢◌, ℕ, List, [], ◌∷◌, length, Bool, nat_lt, nat_le, ◌&&◌, Result, Ok, Err, ok_or, option_map, ◌==◌, if◌then◌else◌}
use Rattle.serde_json.specs.Data.{Data, Items, no_items, item}
use Rattle.serde_json.specs.Find.{get, as_array, as_bool, as_object, as_str, as_number, as_u64}
use Rattle.serde_json.specs.Events.{members_len}
use Rattle.ww_json.specs.declared.fault.InputFault.{InputFault}
use Rattle.ww_json.specs.declared.fault.InputFault.TheVariants.{BadKey, BadNumber, BadType, NoMemory}

-- one part after another, up to the first fault
infixl 10 ◌>>=◌
abbrev pub ◌>>=◌ : {A B : Type 0} → Result A InputFault → (A → Result B InputFault) → Result B InputFault
(Ok x) >>= f = f x
(Err fault) >>= f = Err fault

-- What a function returned, as `view` shows it, is just what the definition says. No definition says lack of memory, so
-- that isn't returned either.
abbrev pub Says : {X Y : Type 0} → (X → Y) → Result X InputFault → Result Y InputFault → Type 0
Says view (Ok x) said = said ≡ Ok (view x)
Says view (Err fault) said = said ≡ Err fault

-- the same of a function that has an allocator: unless memory ran out
abbrev pub Gives : {X Y : Type 0} → (X → Y) → Result X InputFault → Result Y InputFault → Type 0
Gives view (Ok x) said = said ≡ Ok (view x)
Gives view (Err fault) said = fault ≢ NoMemory → said ≡ Err fault

-- the items as a list
abbrev pub list_of : Items → List Data
list_of no_items = []
list_of (item d ds) = d ∷ list_of ds

-- the items of an array
abbrev pub array : Data → Result (List Data) InputFault
array d = ok_or (option_map list_of (as_array d)) BadType

-- how many members an object has
abbrev pub size : Data → Result ℕ InputFault
size d = ok_or (option_map members_len (as_object d)) BadType

-- the member of this name
abbrev pub member : List ℕ → Data → Result Data InputFault
member name d = ok_or (get name d) BadKey

-- an object of so many members has no other than those that were named
abbrev pub only : ℕ → ℕ → Result (Unit {0}) InputFault
only named members = if members == named then Ok tt else Err BadKey

-- true or false
abbrev pub boolean : Data → Result Bool InputFault
boolean d = ok_or (as_bool d) BadType

-- the bytes of a text
abbrev pub text : Data → Result (List ℕ) InputFault
text d = ok_or (as_str d) BadType

-- a whole number that fits 64 bits
abbrev pub number : Data → Result ℕ InputFault
number d = do
  n ← ok_or (as_number d) BadType
  ok_or (as_u64 n) BadNumber

-- a number below the limit
abbrev pub below : ℕ → Data → Result ℕ InputFault
below limit d = do
  n ← number d
  if nat_lt n limit then Ok n else Err BadNumber

-- the number is from low to high
abbrev pub is_within : ℕ → ℕ → ℕ → Bool
is_within low high n = nat_le low n && nat_le n high

-- a number from low to high
abbrev pub ranged : ℕ → ℕ → Data → Result ℕ InputFault
ranged low high d = do
  n ← number d
  if is_within low high n then Ok n else Err BadNumber

-- an array of low to high items
abbrev pub counted : ℕ → ℕ → Data → Result (List Data) InputFault
counted low high d = do
  ds ← array d
  if is_within low high (length ds) then Ok ds else Err BadNumber

-- what each is read as, from the first to the last
unfoldable pub each : {A : Type 0} → (Data → Result A InputFault) → List Data → Result (List A) InputFault
each read [] = Ok []
each read (d ∷ ds) = do
  x ← read d
  xs ← each read ds
  Ok (x ∷ xs)
