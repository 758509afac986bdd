-- The first fault of a text that is no query.
use Rattle.std.specs.Prelude.{◌≡◌, ◌≢◌, ℕ, ◌+◌, Bool, true, false, ◌⊎◌, List, [], ◌∷◌, ◌++◌, length, IsTrue}
use Rattle.std.specs.Str.{IsUtf8, IsValidUpTo}
use Rattle.query_reader.specs.declared.place.Place.{Place}
use Rattle.query_reader.specs.declared.place.Place.TheVariants as at
use Rattle.query_reader.specs.Grammar.{NamedQuery, IsText}
use Rattle.query_reader.specs.Tokens.{Token, variable, constant, name, arrow, opening, closing, comma, Stands, after_gap, begins, is_blank, is_quote, doubled}

-- whether such a token may stand at the place
abbrev pub may_stand : Place → Token → Bool
may_stand at.Head (variable letters) = true
may_stand at.Head arrow = true
may_stand at.BehindVariable arrow = true
may_stand at.AtomName (name text) = true
may_stand at.Opening opening = true
may_stand at.FirstTerm (variable letters) = true
may_stand at.FirstTerm (constant text) = true
may_stand at.BehindFirst comma = true
may_stand at.BehindFirst closing = true
may_stand at.SecondTerm (variable letters) = true
may_stand at.SecondTerm (constant text) = true
may_stand at.Closing closing = true
may_stand at.BehindAtom comma = true
may_stand place token = false

-- the place behind a variable of the head: a blank has to come before another variable
abbrev pub head_place : Bool → Place
head_place true = at.Head
head_place false = at.BehindVariable

-- the place behind a token that may stand at this one, where these bytes come after it
abbrev pub place_behind : Place → Token → List ℕ → Place
place_behind at.Head (variable letters) after = head_place (begins is_blank after)
place_behind at.Head token after = at.AtomName
place_behind at.BehindVariable token after = at.AtomName
place_behind at.AtomName token after = at.Opening
place_behind at.Opening token after = at.FirstTerm
place_behind at.FirstTerm token after = at.BehindFirst
place_behind at.BehindFirst comma after = at.SecondTerm
place_behind at.BehindFirst token after = at.BehindAtom
place_behind at.SecondTerm token after = at.Closing
place_behind at.Closing token after = at.BehindAtom
place_behind at.BehindAtom token after = at.AtomName

-- whether the text may end at the place
abbrev pub may_end : Place → Bool
may_end at.BehindAtom = true
may_end place = false

-- what follows the inside of a constant: nothing, where it isn't closed, or a quote that no quote follows
abbrev pub IsInsideEnd : List ℕ → Type 0
IsInsideEnd tail = (tail ≡ []) ⊎ ((more : List ℕ) × (tail ≡ 39 ∷ more) × (begins is_quote more ≡ false))

-- the text begins with a quote, these bytes are inside of the constant, and these come after them
pub record HasInside (text inside tail : List ℕ) : Type 0 where
  pub meant : List ℕ
  pub written : inside ≡ doubled meant
  pub whole : text ≡ 39 ∷ (inside ++ tail)
  pub ends : IsInsideEnd tail

-- the text ends at the place, or inside a token that may stand there: behind `?` or `<`, or in a constant
pub data EndsInside (place : Place) (text : List ℕ) : Type 0 where
  between : text ≡ [] → EndsInside place text
  in_variable : IsTrue (may_stand place (variable [])) → text ≡ 63 ∷ [] → EndsInside place text
  in_arrow : IsTrue (may_stand place arrow) → text ≡ 60 ∷ [] → EndsInside place text
  in_constant : IsTrue (may_stand place (constant [])) → (inside : List ℕ) → HasInside text inside [] → IsUtf8 inside → EndsInside place text

-- the text begins with a constant, which may stand at the place and isn't UTF-8 inside from a byte on, with which this
-- many bytes are left
pub record BreaksInside (place : Place) (text : List ℕ) (left : ℕ) : Type 0 where
  pub stands : IsTrue (may_stand place (constant []))
  pub inside : List ℕ
  pub tail : List ℕ
  pub is_inside : HasInside text inside tail
  pub valid : ℕ
  pub utf8_until : IsValidUpTo inside valid
  pub left_is : left + (valid + 1) ≡ length text

-- how many bytes are left from the fault on, itself among them, where no token that may stand at the place does: none
-- where the text ends too early, those from the wrong byte on inside a constant, and else the whole text
abbrev pub IsLeft : Place → List ℕ → ℕ → Type 0
IsLeft place text left =
    (EndsInside place text × (left ≡ 0))
    ⊎ (BreaksInside place text left
    ⊎ ((¬ (EndsInside place text)) × ((other : ℕ) → ¬ (BreaksInside place text other)) × (left ≡ length text)))

-- a fault at the place: no token that may stand there does, and the text doesn't end where it may
pub record IsStuck (place : Place) (text : List ℕ) (left : ℕ) : Type 0 where
  pub none : (token : Token) (after : List ℕ) → IsTrue (may_stand place token) → ¬ (Stands token text after)
  pub more : IsTrue (may_end place) → text ≢ []
  pub left_is : IsLeft place text left

-- the tokens stand one after another, each where it may, and then comes a fault with this many bytes left
abbrev pub FaultBehind : List Token → Place → List ℕ → ℕ → Type 0
FaultBehind [] place text left = IsStuck place (after_gap text) left
FaultBehind (token ∷ tokens) place text left =
    IsTrue (may_stand place token) × ((after : List ℕ) × Stands token (after_gap text) after × FaultBehind tokens (place_behind place token after) after left)

-- the first fault from the place on
pub record FaultFrom (place : Place) (text : List ℕ) (left : ℕ) : Type 0 where
  pub read : List Token
  pub fault : FaultBehind read place text left

-- the first fault of the bytes, by its byte
pub record IsFault (bytes : List ℕ) (byte : ℕ) : Type 0 where
  pub left : ℕ
  pub fault : FaultFrom at.Head bytes left
  pub place : byte + left ≡ length bytes

-- no bytes have two first faults, and a text of a query has none
pub record FaultsAreUnique : Type 0 where
  pub one : (bytes : List ℕ) (byte other : ℕ) → IsFault bytes byte → IsFault bytes other → byte ≡ other
  pub none : (bytes : List ℕ) (query : NamedQuery) (byte : ℕ) → IsText bytes query → ¬ (IsFault bytes byte)
