-- The blocks of queries as they are kept.
use Rattle.std.specs.Prelude.{◌≡◌, ◌≢◌, ◌↔◌, ℕ, List, AllPairs, Contains, Option, Some, None, slice_get}
use Rattle.cq_terms.specs.Query.{Query}
use Rattle.report_text.specs.declared.line.Origin.{Origin}
use Rattle.report_laws.specs.Standing.{Block}
use Rattle.report_parts.specs.Codes.{code_of}

-- the codes are those of the queries
abbrev pub AreCodesOf : List Query → List (List ℕ) → Type 0
AreCodesOf members codes = (q : Query) → Contains codes (code_of q) ↔ Contains members q

-- no two blocks are of one origin
abbrev pub AreApart : List Block → Type 0
AreApart blocks = AllPairs (λ (a b : Block). a.origin ≢ b.origin) blocks

-- the place is that of the block of the origin, and none where there is no such block
abbrev pub IsPlaceOf : List Block → Origin → Option ℕ → Type 0
IsPlaceOf blocks o None = (b : Block) → Contains blocks b → b.origin ≢ o
IsPlaceOf blocks o (Some place) = (b : Block) × (slice_get blocks place ≡ Some b) × (b.origin ≡ o)
