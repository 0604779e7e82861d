-- Which number a fault has, and the lines of refusals.
use Rattle.std.specs.Prelude.{ℕ, ◌-◌, List, [], ◌∷◌, codes, slice_index_or}
use Rattle.ww_json.specs.declared.fault.InputFault.{InputFault}
use Rattle.ww_json.specs.declared.fault.InputFault.TheVariants.{NotJson, BadKey, BadNumber, BadGraph, BadWord, BadVersion, NoMemory, TooLong, BadType}

-- the number of a fault's line
abbrev pub number_of : InputFault → ℕ
number_of NotJson = 10
number_of BadKey = 11
number_of BadNumber = 12
number_of BadGraph = 13
number_of BadWord = 14
number_of BadVersion = 15
number_of NoMemory = 16
number_of TooLong = 17
number_of BadType = 18

-- the refusals from number 10 on
abbrev refusals : List (List ℕ)
refusals =
    codes "refused 10 not json" ∷ codes "refused 11 bad key" ∷ codes "refused 12 number out of range" ∷
    codes "refused 13 bad graph" ∷ codes "refused 14 unknown word" ∷ codes "refused 15 unknown version" ∷
    codes "refused 16 no memory" ∷ codes "refused 17 input too long" ∷ codes "refused 18 wrong type" ∷
    codes "refused 19 no thread" ∷ []

-- the line of the refusal of this number
abbrev pub refusal_text : ℕ → List ℕ
refusal_text number = slice_index_or refusals (number - 10) []
