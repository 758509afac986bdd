-- Hits grouped by their tuples.
use Rattle.std.specs.Prelude.{◌≡◌, ◌≢◌, ◌++◌, ◌<◌, ℕ, List, [], ◌∷◌, map, All, AllPairs}
use Rattle.std.specs.Ordering.{nat_cmp}
use Rattle.std.specs.Cmp.Lexicographic.{slice_cmp}
use Rattle.std.specs.declared.cmp.Ordering.TheVariants.{Less}
use Rattle.cq_terms.specs.declared.hits.Clash.{Clash}
use Rattle.cq_terms.specs.declared.hits.Hit.{Hit}
use Rattle.cq_terms.specs.Conflicts.{own_facts, couples}
use Rattle.cq_terms.specs.Lists.{IsAscending}
use Rattle.report_laws.specs.AtStanding.{Candidate}
use Rattle.report_laws.specs.HitLaws.{Group, candidates_of}

-- the images of the hits
abbrev pub images_of : List Hit → List (List ℕ)
images_of hits = map (λ (h : Hit). h.image) hits

-- the hits of the groups, in their order
abbrev pub hits_of : List Group → List Hit
hits_of [] = []
hits_of (g ∷ groups) = map (λ (image : List ℕ). record { tuple = g.tuple; image = image }) g.images ++ hits_of groups

-- the first tuple comes before the second
abbrev pub IsLess : List ℕ → List ℕ → Type 0
IsLess a b = slice_cmp nat_cmp a b ≡ Less

-- groups with images, in order, before the hits that are left
pub record AreBefore (groups : List Group) (rest : List Hit) : Type 0 where
  pub some : All (λ g. g.images ≢ []) groups
  pub ordered : AllPairs (λ g h. IsLess g.tuple h.tuple) groups
  pub before : All (λ g. All (λ h. IsLess g.tuple h.tuple) rest) groups

-- so far the candidates are those of groups whose hits and those that are left are all
pub record AreGrouped (clashes : List Clash) (hits rest : List Hit) (candidates : List Candidate) : Type 0 where
  pub groups : List Group
  pub all : hits_of groups ++ rest ≡ hits
  pub before : AreBefore groups rest
  pub candidates_are : candidates ≡ candidates_of (own_facts clashes) (couples clashes) groups

-- each image is a list of ascending numbers below the bound
abbrev pub AreOfFacts : ℕ → List Hit → Type 0
AreOfFacts facts hits = All (λ h. IsAscending h.image × All (λ i. i < facts) h.image) hits
