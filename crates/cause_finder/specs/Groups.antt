-- What is picked from a list of supports: the supports that are causes, and the candidates.
use Rattle.std.specs.Prelude.{◌≡◌, ℕ, List, map, All, AllPairs, Contains}
use Rattle.std.specs.Ordering.{nat_cmp}
use Rattle.std.specs.declared.cmp.Ordering.TheVariants.{Less}
use Rattle.std.specs.Cmp.Lexicographic.{slice_cmp}
use Rattle.cq_terms.specs.declared.hits.Clash.{Clash}
use Rattle.cq_terms.specs.Conflicts.{IsOwn, AreInConflict}
use Rattle.cause_finder.specs.declared.candidate.Candidate.{Candidate}
use Rattle.cause_finder.specs.declared.support.Support.{Support}
use Rattle.cause_finder.specs.Supports.{support_cmp}

-- the fact doesn't clash by itself, nor with any of these
abbrev pub IsFreeAmong : List Clash → List ℕ → ℕ → Type 0
IsFreeAmong clashes facts i = (¬ IsOwn clashes i) × All (λ j. ¬ AreInConflict clashes i j) facts

-- no fact of the list clashes by itself, and no two of it clash
abbrev pub IsFree : List Clash → List ℕ → Type 0
IsFree clashes facts = All (IsFreeAmong clashes facts) facts

-- the first list is no proper part of the second
abbrev pub IsNoPart : List ℕ → List ℕ → Type 0
IsNoPart small large = All (Contains large) small → small ≡ large

-- no other list of the supports is a part of the image
abbrev pub HasNoPart : List Support → List ℕ → Type 0
HasNoPart group image = All (λ s. IsNoPart s.image image) group

-- the support has the tuple, no clash, and no smaller support of its tuple
pub record IsPicked (clashes : List Clash) (supports : List Support) (tuple : List ℕ) (s : Support) : Type 0 where
  pub there : Contains supports s
  pub same : s.tuple ≡ tuple
  pub free : IsFree clashes s.image
  pub least : (r : Support) → Contains supports r → r.tuple ≡ tuple → All (Contains s.image) r.image → r.image ≡ s.image

-- exactly those of the list with the property, in order
pub record ArePickedBy (P : Support → Type 0) (supports picked : List Support) : Type 0 where
  pub each : (s : Support) → Contains picked s → Contains supports s × P s
  pub complete : (s : Support) → Contains supports s → P s → Contains picked s
  pub ascending : AllPairs (λ s r. support_cmp s r ≡ Less) picked

-- exactly those supports, in order
pub record ArePicked (clashes : List Clash) (supports : List Support) (tuple : List ℕ) (picked : List Support) : Type 0 where
  pub each : (s : Support) → Contains picked s → IsPicked clashes supports tuple s
  pub complete : (s : Support) → IsPicked clashes supports tuple s → Contains picked s
  pub ascending : AllPairs (λ s r. support_cmp s r ≡ Less) picked

-- the candidate has these supports as its causes, with their members
abbrev pub IsPickedFrom : List Clash → List Support → Candidate → Type 0
IsPickedFrom clashes supports c = (picked : List Support) × ArePicked clashes supports c.tuple picked
    × (c.causes ≡ map (λ s. s.image) picked) × (c.members ≡ map (λ s. s.member) picked)

-- the candidates are those of the supports, in order
pub record AreGrouped (clashes : List Clash) (supports : List Support) (candidates : List Candidate) : Type 0 where
  pub each : (c : Candidate) → Contains candidates c → (s : Support) × Contains supports s × (s.tuple ≡ c.tuple)
  pub complete : (s : Support) → Contains supports s → (c : Candidate) × Contains candidates c × (c.tuple ≡ s.tuple)
  pub ascending : AllPairs (λ a b. slice_cmp nat_cmp a.tuple b.tuple ≡ Less) candidates
  pub picked : (c : Candidate) → Contains candidates c → IsPickedFrom clashes supports c
