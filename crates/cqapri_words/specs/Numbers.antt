-- Numbers as texts.
use Rattle.std.specs.Prelude.{ℕ, ◌+◌, ◌*◌, ◌-◌, Bool, not, ◌&&◌, ◌==◌, nat_le, List, length, fold}
use Rattle.std.specs.Char.{is_ascii_digit}
use Rattle.std.specs.List.{list_all}

-- one or more digits
abbrev pub is_number : List ℕ → Bool
is_number text = not (length text == 0) && list_all is_ascii_digit text

-- the number that digits say; leading zeros change nothing
abbrev pub number_in : List ℕ → ℕ
number_in digits = fold (λ number digit. 10 * number + (digit - 48)) 0 digits

-- one or more digits of a number from `least` to `most`
abbrev pub is_number_in : ℕ → ℕ → List ℕ → Bool
is_number_in least most text = is_number text && (nat_le least (number_in text) && nat_le (number_in text) most)
