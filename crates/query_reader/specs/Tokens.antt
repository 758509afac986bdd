-- The tokens of a query text, and how each is written.
use Rattle.std.specs.Prelude.{◌≡◌, ◌≢◌, ℕ, Bool, true, false, ◌||◌, ◌==◌, List, [], ◌∷◌, ◌++◌, IsTrue, if◌then◌else◌}
use Rattle.std.specs.Char.{is_ascii_alphanumeric}
use Rattle.std.specs.List.{flat_map, list_all}
use Rattle.std.specs.Str.{IsUtf8}
use Rattle.axiom_reader.specs.Name.{IsName, is_later}

-- a token: a variable without its `?`, a constant as the text that it means, a name, or one of `<-`, `(`, `)`, `,`
pub data Token : Type 0 where
  variable : List ℕ → Token
  constant : List ℕ → Token
  name : List ℕ → Token
  arrow : Token
  opening : Token
  closing : Token
  comma : Token

-- a space, a tab, LF or CR: what may stand between tokens
abbrev pub is_blank : ℕ → Bool
is_blank byte = byte == 32 || byte == 9 || byte == 10 || byte == 13

-- a letter, a digit or `_`: what a variable has behind its `?`
abbrev pub is_letter : ℕ → Bool
is_letter byte = is_ascii_alphanumeric byte || byte == 95

-- a single quote
abbrev pub is_quote : ℕ → Bool
is_quote byte = byte == 39

-- a byte inside a constant: a single quote is written twice
abbrev pub byte_inside : ℕ → List ℕ
byte_inside byte = if is_quote byte then 39 ∷ 39 ∷ [] else byte ∷ []

-- a text as it is written inside a constant
abbrev pub doubled : List ℕ → List ℕ
doubled text = flat_map byte_inside text

-- the token's bytes
abbrev pub token_text : Token → List ℕ
token_text (variable letters) = 63 ∷ letters
token_text (constant text) = 39 ∷ (doubled text ++ 39 ∷ [])
token_text (name text) = text
token_text arrow = 60 ∷ 45 ∷ []
token_text opening = 40 ∷ []
token_text closing = 41 ∷ []
token_text comma = 44 ∷ []

-- a variable has a letter, a constant isn't empty and is written as UTF-8, and a name is no keyword
abbrev pub IsToken : Token → Type 0
IsToken (variable letters) = (letters ≢ []) × IsTrue (list_all is_letter letters)
IsToken (constant text) = (text ≢ []) × IsUtf8 (doubled text)
IsToken (name text) = IsName text
IsToken arrow = Unit {0}
IsToken opening = Unit {0}
IsToken closing = Unit {0}
IsToken comma = Unit {0}

-- whether a token that such a byte follows would go on with it
abbrev pub goes_on : Token → ℕ → Bool
goes_on (variable letters) byte = is_letter byte
goes_on (constant text) byte = is_quote byte
goes_on (name text) byte = is_later byte
goes_on arrow byte = false
goes_on opening byte = false
goes_on closing byte = false
goes_on comma byte = false

-- whether the bytes begin with one that passes the test
abbrev pub begins : (ℕ → Bool) → List ℕ → Bool
begins passes [] = false
begins passes (byte ∷ bytes) = passes byte

-- the text begins with the token, which is as long as it can be, and these bytes come after it
pub record Stands (token : Token) (text after : List ℕ) : Type 0 where
  pub valid : IsToken token
  pub whole : text ≡ token_text token ++ after
  pub ends : begins (goes_on token) after ≡ false

-- the text from its first byte on that is no blank
abbrev pub after_gap : List ℕ → List ℕ
after_gap [] = []
after_gap (byte ∷ bytes) = if is_blank byte then after_gap bytes else byte ∷ bytes

-- a variable that follows another is parted from it by a blank
abbrev pub IsParted : Token → List Token → List ℕ → Type 0
IsParted (variable letters) (variable others ∷ tokens) after = begins is_blank after ≡ true
IsParted token tokens after = Unit {0}

-- the tokens stand at the front of the text, each behind a gap that may be empty, and these bytes come after them
abbrev pub Reads : List Token → List ℕ → List ℕ → Type 0
Reads [] text rest = text ≡ rest
Reads (token ∷ tokens) text rest =
    (after : List ℕ) × Stands token (after_gap text) after × IsParted token tokens after × Reads tokens after rest
