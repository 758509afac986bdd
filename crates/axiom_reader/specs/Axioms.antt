-- The axioms over names, and the words that say them.
use Rattle.std.specs.Prelude.{◌≡◌, ℕ, Bool, true, false, List, [], ◌∷◌, ◌++◌, codes, if◌then◌else◌}
use Rattle.axiom_reader.specs.Name.{IsName}
use Rattle.axiom_reader.specs.Lines.{words_of}

-- a role: its name, and whether it is the inverse
pub record NamedRole : Type 0 where
  pub name : List ℕ
  pub inverse : Bool

-- a basic concept: a name, or what has some successor by a role
pub data NamedBasic : Type 0 where
  concept : List ℕ → NamedBasic
  has : NamedRole → NamedBasic

-- an axiom: its left side, whether `not` stands before the right side, and the right side
pub data NamedAxiom : Type 0 where
  concepts : NamedBasic → Bool → NamedBasic → NamedAxiom
  roles : NamedRole → Bool → NamedRole → NamedAxiom

-- a role is said by its name, after `inv` where it is the inverse
abbrev pub role_words : NamedRole → List (List ℕ)
role_words role = if role.inverse then codes "inv" ∷ role.name ∷ [] else role.name ∷ []

-- a basic concept is said by its name, or by `some` and the role
abbrev pub basic_words : NamedBasic → List (List ℕ)
basic_words (concept name) = name ∷ []
basic_words (has role) = codes "some" ∷ role_words role

-- what stands between the sides
abbrev pub sign_words : Bool → List (List ℕ)
sign_words true = codes "<" ∷ codes "not" ∷ []
sign_words false = codes "<" ∷ []

-- the words of an axiom: the four forms
abbrev pub axiom_words : NamedAxiom → List (List ℕ)
axiom_words (concepts left negated right) = basic_words left ++ (sign_words negated ++ basic_words right)
axiom_words (roles left negated right) = codes "role" ∷ (role_words left ++ (sign_words negated ++ role_words right))

-- the names of a basic concept are names
abbrev pub IsNamedBasic : NamedBasic → Type 0
IsNamedBasic (concept name) = IsName name
IsNamedBasic (has role) = IsName role.name

-- the names of an axiom are names
abbrev pub IsNamed : NamedAxiom → Type 0
IsNamed (concepts left negated right) = IsNamedBasic left × IsNamedBasic right
IsNamed (roles left negated right) = IsName left.name × IsName right.name

-- the line says the axiom
pub record Says (line : List ℕ) (named : NamedAxiom) : Type 0 where
  pub names : IsNamed named
  pub words : words_of line ≡ axiom_words named
