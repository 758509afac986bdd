-- The number that a field says.
use Rattle.std.specs.Prelude.{ℕ, ◌+◌, ◌*◌, ◌-◌, ◌^◌, min, option_map, Bool, not, ◌&&◌, ◌||◌, ◌==◌, List, [], ◌∷◌, Option, Some, None, if◌then◌else◌, fold}
use Rattle.std.specs.Prelude.{length}
use Rattle.std.specs.Char.{is_ascii_digit}
use Rattle.std.specs.List.{list_all}

-- space or tab
abbrev pub is_blank : ℕ → Bool
is_blank byte = byte == 32 || byte == 9

-- the bytes after the blanks at the front
unfoldable pub after_blanks : List ℕ → List ℕ
after_blanks [] = []
after_blanks (byte ∷ bytes) = if is_blank byte then after_blanks bytes else byte ∷ bytes

-- the bytes before the blanks at the end
unfoldable pub before_blanks : List ℕ → List ℕ
before_blanks [] = []
before_blanks (byte ∷ bytes) = if list_all is_blank (byte ∷ bytes) then [] else byte ∷ before_blanks bytes

-- the bytes between the blanks at either end
abbrev pub without_blanks : List ℕ → List ℕ
without_blanks field = before_blanks (after_blanks field)

-- one or more digits
abbrev pub is_number : List ℕ → Bool
is_number bytes = not (length bytes == 0) && list_all is_ascii_digit bytes

-- the number that digits say; leading zeros change nothing
abbrev pub value_of : List ℕ → ℕ
value_of digits = fold (λ value digit. 10 * value + (digit - 48)) 0 digits

-- the number that a field says: one or more digits, with blanks at either end
abbrev pub number_in : List ℕ → Option ℕ
number_in field = if is_number (without_blanks field) then Some (value_of (without_blanks field)) else None

-- a number as 64 bits hold it: a greater one counts as the greatest
abbrev pub capped : Option ℕ → Option ℕ
capped number = option_map (λ value. min value (2 ^ 64 - 1)) number
