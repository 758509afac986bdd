-- Lines with two numbers, and many of them for numbers in a row.
use Rattle.std.specs.Prelude.{ℕ, zero, suc, ◌+◌, ◌-◌, List, [], ◌∷◌, ◌++◌, decimal}

-- a line: a text, a number, a text, a number, and LF
abbrev pub line : List ℕ → ℕ → List ℕ → ℕ → List ℕ
line before first between second = before ++ (decimal first ++ (between ++ (decimal second ++ 10 ∷ [])))

-- the lines for so many numbers from the first one on
abbrev pub lines : (ℕ → List ℕ) → ℕ → ℕ → List ℕ
lines lines_for first zero = []
lines lines_for first (suc count) = lines lines_for first count ++ lines_for (first + count)

-- the lines for each number from the first to the last one
abbrev pub for_each : ℕ → ℕ → (ℕ → List ℕ) → List ℕ
for_each first last lines_for = lines lines_for first (last + 1 - first)
