-- What the reader knows of the head, of the body, and of a whole text before its last checks.
use Rattle.std.specs.Prelude.{◌≡◌, ◌≢◌, ℕ, ◌+◌, ◌<◌, ◌≤◌, ◌^◌, List, [], ◌∷◌, ◌++◌, length, map, All, Contains, Option, Some, None}
use Rattle.cq_terms.specs.Query.{IsMeant}
use Rattle.cq_terms.specs.declared.names.Vocab.{Vocab}
use Rattle.cq_terms.specs.declared.query.QAtom.{QAtom}
use Rattle.cq_terms.specs.declared.query.Term.{Term}
use Rattle.query_reader.specs.declared.draft.Draft.{Draft}
use Rattle.query_reader.specs.declared.head.Head.{Head}
use Rattle.query_reader.specs.declared.place.Place.{Place}
use Rattle.query_reader.specs.declared.place.Place.TheVariants as at
use Rattle.query_reader.specs.declared.refusal.Halt.{Halt}
use Rattle.query_reader.specs.declared.refusal.Halt.TheVariants as halt
use Rattle.query_reader.specs.declared.refusal.QueryRefusal.{QueryRefusal}
use Rattle.query_reader.specs.declared.refusal.QueryRefusal.TheVariants as refusal
use Rattle.query_reader.specs.Faults.{FaultFrom}
use Rattle.query_reader.specs.Grammar.{NamedAtom, NamedQuery, IsText, body_tokens}
use Rattle.query_reader.specs.Numbering.{Numbers, numbers_of, with_texts, with_atoms, with_query, AreHeadOf, AreAtomsOf}
use Rattle.query_reader.specs.Queries.{HasNoRepeats, IsFirstRepeat}
use Rattle.query_reader.specs.Tokens.{Token, variable, arrow, Reads, after_gap}

-- a halt is the first fault from the place on, or want of memory
abbrev pub IsHalt : Place → List ℕ → Halt → Type 0
IsHalt place text (halt.Fault fault) = FaultFrom place text fault.left
IsHalt place text halt.NoMemory = Unit {0}

-- the first place of the head whose variable stood earlier, or none
abbrev pub IsRepeatOf : List (List ℕ) → Option ℕ → Type 0
IsRepeatOf named None = HasNoRepeats named
IsRepeatOf named (Some place) = IsFirstRepeat named place

-- the first repeat where one more variable comes after so many
abbrev pub AddsRepeat : Option ℕ → List (List ℕ) → List ℕ → ℕ → Option ℕ → Type 0
AddsRepeat (Some place) variables letters count new = new ≡ Some place
AddsRepeat None variables letters count None = ¬ (Contains variables letters)
AddsRepeat None variables letters count (Some place) = (place ≡ count) × Contains variables letters

-- a head was read up to its arrow, and these bytes come after it
pub record IsHeadRead (text : List ℕ) (variables : List (List ℕ)) (head : Head) (rest : List ℕ) : Type 0 where
  pub named : List (List ℕ)
  pub reads : (tokens : List Token) (end : List ℕ) → Reads tokens rest end → Reads (map variable named ++ arrow ∷ tokens) text end
  pub faults : (left : ℕ) → FaultFrom at.AtomName rest left → FaultFrom at.Head text left
  pub variables_are : variables ≡ with_texts [] named
  pub terms : AreHeadOf variables named head.terms.items
  pub repeats : IsRepeatOf named head.repeated
  pub shorter : length variables + length rest ≤ length text
  pub counted : length head.terms.items ≤ length text

-- a body was read up to the end of the text, and its names were put
pub record IsBodyRead (text : List ℕ) (old new : Numbers) (atoms : List QAtom) : Type 0 where
  pub named : List NamedAtom
  pub some : named ≢ []
  pub rest : List ℕ
  pub reads : Reads (body_tokens named) text rest
  pub ends : after_gap rest ≡ []
  pub names : new ≡ with_atoms old named
  pub meaning : AreAtomsOf new named atoms

-- there is room for as many names as the text has bytes
pub record HasSpace (text : List ℕ) (numbers : Numbers) : Type 0 where
  pub variables : length text + length numbers.variables < 2 ^ 31
  pub concepts : length text + length numbers.concepts < 2 ^ 31
  pub roles : length text + length numbers.roles < 2 ^ 31
  pub inds : length text + length numbers.inds < 2 ^ 31

-- the text is that of a query, whose parts were numbered
pub record IsDraft (text : List ℕ) (old new : Vocab) (draft : Draft) : Type 0 where
  pub query : NamedQuery
  pub text_is : IsText text query
  pub repeats : IsRepeatOf query.head draft.repeated
  pub names : numbers_of (with_query old query).variables new ≡ with_query old query
  pub head : AreHeadOf (with_query old query).variables query.head draft.head.items
  pub body : AreAtomsOf (with_query old query) query.body draft.body.items
  pub counted : length draft.head.items ≤ length text

-- the place is that of the first head term without a meaning
pub record IsFirstUnmeant (body : List QAtom) (head : List Term) (place : ℕ) : Type 0 where
  pub before : List Term
  pub term : Term
  pub after : List Term
  pub whole : head ≡ before ++ term ∷ after
  pub place_is : place ≡ length before
  pub unmeant : ¬ (IsMeant body term)
  pub first : All (IsMeant body) before

-- why a text of the grammar is refused
abbrev pub IsRefused : Draft → QueryRefusal → Type 0
IsRefused draft refusal.TooManyAtoms = 12 < length draft.body.items
IsRefused draft (refusal.RepeatedHead place) = (length draft.body.items ≤ 12) × (draft.repeated ≡ Some place)
IsRefused draft (refusal.HeadNotInBody place) =
    (length draft.body.items ≤ 12) × (draft.repeated ≡ None) × IsFirstUnmeant draft.body.items draft.head.items place
IsRefused draft other = ⊥

-- a text of the grammar isn't refused
pub record IsAccepted (draft : Draft) : Type 0 where
  pub few : length draft.body.items ≤ 12
  pub distinct : draft.repeated ≡ None
  pub meant : All (IsMeant draft.body.items) draft.head.items

-- how many bytes are left from a fault on is within the length
abbrev pub IsWithin : Halt → ℕ → Type 0
IsWithin (halt.Fault fault) size = fault.left ≤ size
IsWithin halt.NoMemory size = Unit {0}

-- the refusal that a halt in a text of this length gives
abbrev pub IsRefusalOf : Halt → ℕ → QueryRefusal → Type 0
IsRefusalOf (halt.Fault fault) size (refusal.BadToken byte) = byte + fault.left ≡ size
IsRefusalOf halt.NoMemory size refusal.NoMemory = Unit {0}
IsRefusalOf given size other = ⊥
