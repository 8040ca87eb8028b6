-- What a fault says of a line.
use Rattle.std.specs.Prelude.{ℕ, List, ◌++◌, map, take, codes, decimal, ◌≢◌}
use Rattle.text.specs.Messages.{printable}
use Rattle.text.specs.declared.fields.FieldError.{FieldError}
use Rattle.text.specs.declared.fields.FieldError.TheVariants.{Missing, Empty, TooMany}
use Rattle.text.specs.declared.hex.HexError.{HexError}
use Rattle.text.specs.declared.hex.HexError.TheVariants as hex
use Rattle.text.specs.declared.number.NumberError.{NumberError}
use Rattle.text.specs.declared.number.NumberError.TheVariants as number
use Rattle.script.specs.declared.fault.Fault.{Fault}
use Rattle.script.specs.declared.fault.Fault.TheVariants.{UnknownWord, MissingField, SpaceTooMany, TooManyFields, NotHex, KeyLength, NotANumber, Above, Below, NoMemory}

abbrev pub of_field : FieldError → Fault
of_field Missing = MissingField
of_field Empty = SpaceTooMany
of_field TooMany = TooManyFields

abbrev pub of_hex : HexError → Fault
of_hex hex.NotHex = NotHex
of_hex hex.NoMemory = NoMemory

abbrev pub of_number : NumberError → Fault
of_number number.NotDigits = NotANumber
of_number (number.Above highest) = Above highest

-- no reading of the kind P exists, unless memory failed, which says nothing
abbrev pub Refutes : Fault → Type 0 → Type 0
Refutes e P = (e ≢ NoMemory) → P → ⊥

-- what is said of a fault; of an unknown word the first bytes are shown
abbrev pub told : Fault → List ℕ
told (UnknownWord word) = codes "unknown word '" ++ (map printable (take 32 word.now) ++ codes "'")
told MissingField = codes "a field is missing"
told SpaceTooMany = codes "a space too many"
told TooManyFields = codes "too many fields"
told NotHex = codes "bytes are not lowercase hexadecimal"
told KeyLength = codes "a key is not 32 bytes"
told NotANumber = codes "a number is not decimal digits"
told (Above highest) = codes "a number above " ++ decimal highest
told (Below lowest) = codes "a number below " ++ decimal lowest
told NoMemory = codes "no memory left"
