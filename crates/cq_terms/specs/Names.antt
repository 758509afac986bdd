-- A list of distinct texts, as lists of bytes.
use Rattle.std.specs.Prelude.{ℕ, List, [], ◌∷◌, ◌++◌, Option, if◌then◌else◌, position}
use Rattle.std.specs.List.{list_any}
use Rattle.std.specs.Str.{bytes_eq}

-- the list after a text was put: it goes last where it is new
abbrev pub with_text : List (List ℕ) → List ℕ → List (List ℕ)
with_text texts text = if list_any (bytes_eq text) texts then texts else texts ++ text ∷ []

-- where a text stands
abbrev pub place_of : List (List ℕ) → List ℕ → Option ℕ
place_of texts text = position (bytes_eq text) texts
