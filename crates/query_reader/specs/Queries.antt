-- What a reader of a query answers.
use Rattle.std.specs.Prelude.{◌≡◌, ℕ, ◌+◌, ◌<◌, ◌≤◌, ◌==◌, ◌&&◌, ◌⊎◌, List, [], ◌∷◌, ◌++◌, length, All, Any, Contains, if◌then◌else◌}
use Rattle.cq_terms.specs.Query.{Query}
use Rattle.cq_terms.specs.declared.names.Vocab.{Vocab}
use Rattle.axiom_reader.specs.Numbering.{IsPrefix}
use Rattle.query_reader.specs.declared.refusal.QueryRefusal.{QueryRefusal}
use Rattle.query_reader.specs.declared.refusal.QueryRefusal.TheVariants as refusal
use Rattle.query_reader.specs.Faults.{IsFault}
use Rattle.query_reader.specs.Grammar.{variable_term, NamedAtom, concept_atom, role_atom, NamedQuery, IsText}
use Rattle.query_reader.specs.Numbering.{with_query, AreHeadOf, AreAtomsOf}

-- the bytes after every byte order mark (EF BB BF) at their beginning
abbrev pub after_marks : List ℕ → List ℕ
after_marks [] = []
after_marks (a ∷ []) = a ∷ []
after_marks (a ∷ b ∷ []) = a ∷ b ∷ []
after_marks (a ∷ b ∷ c ∷ bytes) =
    if a == 239 && b == 187 && c == 191 then after_marks bytes else a ∷ b ∷ c ∷ bytes

-- the variable is a term of the atom
abbrev pub HasVariable : List ℕ → NamedAtom → Type 0
HasVariable letters (concept_atom concept at) = at ≡ variable_term letters
HasVariable letters (role_atom role from to) = (from ≡ variable_term letters) ⊎ (to ≡ variable_term letters)

-- the variable is in the body
abbrev pub IsInBody : List NamedAtom → List ℕ → Type 0
IsInBody body letters = Any (HasVariable letters) body

-- no variable of the head stood earlier in it
abbrev pub HasNoRepeats : List (List ℕ) → Type 0
HasNoRepeats head =
    (before after : List (List ℕ)) (letters : List ℕ) → head ≡ before ++ letters ∷ after → ¬ (Contains before letters)

-- the place is the first of the head whose variable stood earlier
pub record IsFirstRepeat (head : List (List ℕ)) (place : ℕ) : Type 0 where
  pub before : List (List ℕ)
  pub letters : List ℕ
  pub after : List (List ℕ)
  pub whole : head ≡ before ++ letters ∷ after
  pub place_is : place ≡ length before
  pub repeated : Contains before letters
  pub first : HasNoRepeats before

-- the place is the first of the head whose variable isn't in the body
pub record IsFirstOutside (query : NamedQuery) (place : ℕ) : Type 0 where
  pub before : List (List ℕ)
  pub letters : List ℕ
  pub after : List (List ℕ)
  pub whole : query.head ≡ before ++ letters ∷ after
  pub place_is : place ≡ length before
  pub outside : ¬ (IsInBody query.body letters)
  pub first : All (IsInBody query.body) before

-- the bytes are a text of the query, which has at most 12 atoms
pub record IsShortText (bytes : List ℕ) (query : NamedQuery) : Type 0 where
  pub text : IsText bytes query
  pub few : length query.body ≤ 12

-- why the bytes are refused: the first fault, or of a text of the grammar more than 12 atoms, then the first head place
-- whose variable stood earlier, then the first whose variable isn't in the body
abbrev pub Explains : List ℕ → QueryRefusal → Type 0
Explains bytes (refusal.BadToken at) = IsFault bytes at
Explains bytes refusal.TooManyAtoms = (query : NamedQuery) × IsText bytes query × (12 < length query.body)
Explains bytes (refusal.RepeatedHead place) =
    (query : NamedQuery) × IsShortText bytes query × IsFirstRepeat query.head place
Explains bytes (refusal.HeadNotInBody place) =
    (query : NamedQuery) × IsShortText bytes query × HasNoRepeats query.head × IsFirstOutside query place
Explains bytes refusal.NoMemory = Unit {0}

-- the new texts are the old ones and those of the query, and the query is that of the bytes
pub record IsQueryOf (bytes : List ℕ) (old new : Vocab) (given : Query) : Type 0 where
  pub query : NamedQuery
  pub text : IsShortText bytes query
  pub distinct : HasNoRepeats query.head
  pub inside : All (IsInBody query.body) query.head
  pub concepts : new.concepts ≡ (with_query old query).concepts
  pub roles : new.roles ≡ (with_query old query).roles
  pub inds : new.inds ≡ (with_query old query).inds
  pub head : AreHeadOf (with_query old query).variables query.head given.head
  pub body : AreAtomsOf (with_query old query) query.body given.body

-- the old texts of each list are a prefix of the new ones
pub record KeepsNames (old new : Vocab) : Type 0 where
  pub concepts : IsPrefix old.concepts new.concepts
  pub roles : IsPrefix old.roles new.roles
  pub inds : IsPrefix old.inds new.inds

-- each list has at most so many new texts
pub record GrowsBy (most : ℕ) (old new : Vocab) : Type 0 where
  pub concepts : length new.concepts ≤ length old.concepts + most
  pub roles : length new.roles ≤ length old.roles + most
  pub inds : length new.inds ≤ length old.inds + most
