-- Digits, and the numbers that they denote.
use Rattle.std.proofs.Common.{◌≡◌, ℕ, ◌+◌, ◌-◌, ◌*◌, ◌<◌, ◌≤◌, List, [], ◌∷◌, length, get_or, drop, arith, rules}
use Rattle.std.proofs.lemmas.Str.Parse.{IsNumeralModel, numerals_by_fold}
use Rattle.std.proofs.lemmas.Fmt.{decimal_nonempty, digits_decimal, digits_value-decimal}
use Rattle.std.proofs.lemmas.List.{at_drop_more}
use Rattle.text.specs.Decimal.{Digits, value_after, value, DecimalLaw}

own : IsNumeralModel Digits value
own = numerals_by_fold Digits (search rules) value_after (search rules)

pub decimal_law : DecimalLaw
decimal_law n small = ((decimal_nonempty n small, digits_decimal own n small), digits_value-decimal own n small)

-- digits only add to what was read
pub value_grows : (n : ℕ) (ds : List ℕ) → n ≤ value_after n ds
value_grows n [] = omega arith
value_grows n (c ∷ cs) = let more = value_grows (n * 10 + (c - 48)) cs in omega arith

pub value_step : (n : ℕ) (ds : List ℕ) (i : ℕ) → i < length ds → value_after n (drop i ds) ≡ value_after (n * 10 + (get_or ds i 0 - 48)) (drop (i + 1) ds)
value_step n ds i below = at_drop_more (value_after n) ds i 0 below
