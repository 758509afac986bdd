-- What the steps of the reader find at the front of a text.
use Rattle.std.specs.Prelude.{◌≡◌, ℕ, Bool, true, false, ◌&&◌, ◌||◌, List, [], ◌∷◌, ◌++◌, if◌then◌else◌, codes, Option, Some, None, IfSome, option_map}
use Rattle.std.specs.Borrow.{Bor}
use Rattle.std.specs.List.{list_all}
use Rattle.std.specs.Str.{bytes_eq}
use Rattle.query_reader.specs.declared.atom.AtomText.{AtomText}
use Rattle.query_reader.specs.declared.atom.TermText.{TermText}
use Rattle.query_reader.specs.declared.atom.TermText.TheVariants as term
use Rattle.query_reader.specs.declared.place.Place.{Place}
use Rattle.query_reader.specs.declared.place.Place.TheVariants as at
use Rattle.query_reader.specs.Faults.{may_stand}
use Rattle.query_reader.specs.Grammar.{NamedTerm, variable_term, constant_term, NamedAtom, concept_atom, role_atom, term_token}
use Rattle.query_reader.specs.Tokens.{Token, Stands, after_gap, begins, doubled, is_quote, variable, arrow, closing, comma}

-- the text is cut behind its first bytes that all pass the test
pub record IsRun (passes : ℕ → Bool) (text run after : List ℕ) : Type 0 where
  pub whole : text ≡ run ++ after
  pub all : list_all passes run ≡ true
  pub ends : begins passes after ≡ false

-- what the inside of a constant means: one quote for two
abbrev pub halved : List ℕ → List ℕ
halved [] = []
halved (byte ∷ []) = byte ∷ []
halved (byte ∷ next ∷ bytes) = if is_quote byte then byte ∷ halved bytes else byte ∷ halved (next ∷ bytes)

-- whether the text is nothing, or a mark whose token may stand at the place
abbrev pub ends_early : Place → List ℕ → Bool
ends_early place text =
    bytes_eq text [] || bytes_eq text (codes "?") && may_stand place (variable [])
    || bytes_eq text (codes "<") && may_stand place arrow

-- a term as contracts see it
abbrev pub term_view : TermText → NamedTerm
term_view (term.Variable letters) = variable_term letters.now
term_view (term.Constant written) = constant_term (halved written.now)

-- an atom of a concept where it has one term, and else of a role
abbrev pub atom_of : List ℕ → NamedTerm → Option NamedTerm → NamedAtom
atom_of text first None = concept_atom text first
atom_of text first (Some second) = role_atom text first second

-- an atom as contracts see it
abbrev pub atom_view : AtomText → NamedAtom
atom_view atom = atom_of atom.name.now (term_view atom.first) (option_map term_view atom.second)

-- a constant's text is as it is written inside of its quotes
abbrev pub IsTermWritten : TermText → Type 0
IsTermWritten (term.Variable letters) = Unit {0}
IsTermWritten (term.Constant written) = written.now ≡ doubled (halved written.now)

-- so are those of an atom
pub record IsWritten (atom : AtomText) : Type 0 where
  pub first : IsTermWritten atom.first
  pub second : IfSome atom.second IsTermWritten

-- what follows the first term of an atom
abbrev pub second_tokens : Option NamedTerm → List Token
second_tokens None = closing ∷ []
second_tokens (Some second) = comma ∷ term_token second ∷ closing ∷ []

-- a place of the head
abbrev pub IsHeadPlace : Place → Type 0
IsHeadPlace at.Head = Unit {0}
IsHeadPlace at.BehindVariable = Unit {0}
IsHeadPlace place = ⊥

-- a place of a term
abbrev pub IsTermPlace : Place → Type 0
IsTermPlace at.FirstTerm = Unit {0}
IsTermPlace at.SecondTerm = Unit {0}
IsTermPlace place = ⊥

-- what stands behind the gap in the head: a variable, which follows no other without a blank, or the arrow
abbrev pub IsHeadStep : Place → List ℕ → Option (Bor (List ℕ)) → List ℕ → Type 0
IsHeadStep place text (Some letters) after = (place ≡ at.Head) × Stands (variable letters.now) (after_gap text) after
IsHeadStep place text None after = Stands arrow (after_gap text) after

-- what stands behind an atom: a comma, or nothing but the gap
abbrev pub IsAtomEnd : List ℕ → Option (Bor (List ℕ)) → Type 0
IsAtomEnd text (Some after) = Stands comma (after_gap text) after.now
IsAtomEnd text None = after_gap text ≡ []
