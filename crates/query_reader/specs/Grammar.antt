-- The grammar of a query: a head, an arrow and a body, over names.
use Rattle.std.specs.Prelude.{◌≡◌, ◌≢◌, ℕ, List, [], ◌∷◌, ◌++◌, map}
use Rattle.std.specs.List.{flat_map}
use Rattle.query_reader.specs.Tokens.{Token, variable, constant, name, arrow, opening, closing, comma, Reads, after_gap}

-- a term over names: a variable without its `?`, or the text of a constant
pub data NamedTerm : Type 0 where
  variable_term : List ℕ → NamedTerm
  constant_term : List ℕ → NamedTerm

-- an atom over names: a concept at a term, or a role from one term to another
pub data NamedAtom : Type 0 where
  concept_atom : List ℕ → NamedTerm → NamedAtom
  role_atom : List ℕ → NamedTerm → NamedTerm → NamedAtom

-- a query over names: the variables of its head and the atoms of its body
pub record NamedQuery : Type 0 where
  pub head : List (List ℕ)
  pub body : List NamedAtom

-- a term is one token
abbrev pub term_token : NamedTerm → Token
term_token (variable_term letters) = variable letters
term_token (constant_term text) = constant text

-- `A(t)` or `P(s,t)`
abbrev pub atom_tokens : NamedAtom → List Token
atom_tokens (concept_atom concept at) = name concept ∷ opening ∷ term_token at ∷ closing ∷ []
atom_tokens (role_atom role from to) =
    name role ∷ opening ∷ term_token from ∷ comma ∷ term_token to ∷ closing ∷ []

-- the atoms, with a comma between two
abbrev pub body_tokens : List NamedAtom → List Token
body_tokens [] = []
body_tokens (atom ∷ atoms) = atom_tokens atom ++ flat_map (λ other. comma ∷ atom_tokens other) atoms

-- the head, the arrow and the body
abbrev pub query_tokens : NamedQuery → List Token
query_tokens query = map variable query.head ++ arrow ∷ body_tokens query.body

-- the bytes are a text of the query, and nothing but a gap comes after its last token
pub record IsText (bytes : List ℕ) (query : NamedQuery) : Type 0 where
  pub rest : List ℕ
  pub reads : Reads (query_tokens query) bytes rest
  pub ends : after_gap rest ≡ []
  pub body : query.body ≢ []

-- no text is of two queries
abbrev pub EachTextHasOneReading : Type 0
EachTextHasOneReading =
    (bytes : List ℕ) (query other : NamedQuery) → IsText bytes query → IsText bytes other → query ≡ other
