-- What a report is about: a knowledge base, the texts of its individuals, and one query or those of a session.
use Rattle.std.specs.Prelude.{ℕ, zero, suc, ◌+◌, ◌<◌, List, [], ◌∷◌, All, length}
use Rattle.cq_terms.specs.Knowledge.{Knowledge}
use Rattle.cq_terms.specs.Query.{Query}

-- a report is on one query, or on those of a session
pub data Form : Type 0 where
  OneQuery : Form
  Session : Form

-- a knowledge base, the texts of its individuals as bytes, and queries
pub record Input : Type 0 where
  pub kb : Knowledge
  pub names : List (List ℕ)
  pub form : Form
  pub queries : List Query

-- what a report on one query is about
abbrev pub report_on : Knowledge → List (List ℕ) → Query → Input
report_on kb names q = record { kb = kb; names = names; form = OneQuery; queries = q ∷ [] }

-- the query of that number, from 0
abbrev pub query_at : List Query → ℕ → Query
query_at [] n = record { head = []; body = [] }
query_at (q ∷ queries) zero = q
query_at (q ∷ queries) (suc n) = query_at queries n

-- the numbers are of facts
abbrev pub AreFacts : Knowledge → List ℕ → Type 0
AreFacts kb numbers = All (λ i. i < length kb.facts) numbers

-- the variable of a candidate, read as "this repair doesn't entail the candidate"
abbrev pub selector_of : Knowledge → ℕ → ℕ
selector_of kb candidate = length kb.facts + candidate
