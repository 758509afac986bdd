-- Texts that are written piece by piece.
use Rattle.std.specs.Prelude.{◌≡◌, ℕ, List, [], ◌∷◌, ◌++◌, take, Option, codes}
use Rattle.cq_io.specs.Writing.{appended}

-- the first of the bytes were appended, maybe all
abbrev pub AppendsFirst : Option (List ℕ) → Option (List ℕ) → List ℕ → Type 0
AppendsFirst old new bytes = (count : ℕ) × (new ≡ appended old (take count bytes))

-- one line: `cqapri: `, three texts and LF
abbrev pub line_text : List ℕ → List ℕ → List ℕ → List ℕ
line_text before number after = codes "cqapri: " ++ ((before ++ (number ++ after)) ++ 10 ∷ [])
