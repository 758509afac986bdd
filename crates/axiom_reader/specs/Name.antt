-- What a name is, as bytes.
use Rattle.std.specs.Prelude.{ℕ, Bool, false, ◌&&◌, ◌||◌, ◌==◌, List, [], ◌∷◌, IsTrue, not, codes}
use Rattle.std.specs.Char.{is_ascii_alphabetic, is_ascii_alphanumeric}
use Rattle.std.specs.List.{list_any, list_all}
use Rattle.std.specs.Str.{bytes_eq}

-- a letter or `_`
abbrev pub is_first : ℕ → Bool
is_first byte = is_ascii_alphabetic byte || byte == 95

-- a letter, a digit, or one of `_`, `-`, `.`, `:`, `/`, `#`
abbrev pub is_later : ℕ → Bool
is_later byte = is_ascii_alphanumeric byte || list_any (λ mark. byte == mark) (codes "_-.:/#")

-- the words that are no names
abbrev pub is_keyword : List ℕ → Bool
is_keyword word =
    list_any (bytes_eq word) (codes "some" ∷ codes "inv" ∷ codes "not" ∷ codes "role" ∷ codes "func" ∷ [])

-- whether the bytes are a name: the first and the later ones fit, and they are no keyword
unfoldable pub is_name_text : List ℕ → Bool
is_name_text [] = false
is_name_text (byte ∷ bytes) = is_first byte && list_all is_later bytes && not (is_keyword (byte ∷ bytes))

-- the bytes are a name
abbrev pub IsName : List ℕ → Type 0
IsName bytes = IsTrue (is_name_text bytes)
