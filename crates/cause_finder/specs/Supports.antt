-- Supports as the search keeps them: which a list of supports has, and what one more hit adds.
use Rattle.std.specs.Prelude.{◌≡◌, ℕ, ◌<◌, ◌⊎◌, List, length, Contains}
use Rattle.std.specs.Ordering.{nat_cmp, then_cmp, on}
use Rattle.std.specs.declared.cmp.Ordering.{Ordering}
use Rattle.std.specs.Cmp.Lexicographic.{slice_cmp}
use Rattle.std.specs.List.Sorted.{IsStrictlySortedBy}
use Rattle.cq_terms.specs.declared.facts.Fact.{Fact}
use Rattle.cq_terms.specs.declared.hits.Hit.{Hit}
use Rattle.cq_terms.specs.Lists.{HasMore}
use Rattle.cq_steps.specs.declared.closure.Member.{Member}
use Rattle.query_matching.specs.Hits.{IsBefore}
use Rattle.cause_finder.specs.declared.support.Support.{Support}
use Rattle.cause_finder.specs.Causes.{MatchesAt, IsLeastMember}

-- supports go by tuple, and then by image
abbrev pub support_cmp : Support → Support → Ordering
support_cmp = then_cmp (on (λ (s : Support). s.tuple) (slice_cmp nat_cmp)) (on (λ (s : Support). s.image) (slice_cmp nat_cmp))

-- the pair of the tuple and the image
abbrev pub pair_of : Support → Hit
pair_of s = record { tuple = s.tuple; image = s.image }

-- the support of the pair, by the member
abbrev pub support_by : ℕ → Hit → Support
support_by place hit = record { tuple = hit.tuple; image = hit.image; member = place }

-- some support of the list has this tuple and this image
abbrev pub Has : List Support → Hit → Type 0
Has supports hit = (s : Support) × Contains supports s × (pair_of s ≡ hit)

-- what was there still is, and what was added is a hit of the member that wasn't there
pub record AddsOnly (P : Hit → Type 0) (place : ℕ) (old new : List Support) : Type 0 where
  pub kept : (s : Support) → Contains old s → Contains new s
  pub right : (s : Support) → Contains new s → Contains old s ⊎ ((s.member ≡ place) × P (pair_of s) × ¬ Has old (pair_of s))

-- more supports than the limit, in order
pub record AreTooMany (limit : ℕ) (supports : List Support) : Type 0 where
  pub longer : limit < length supports
  pub ordered : IsStrictlySortedBy support_cmp supports

-- each support is by its least member, and all supports by members before the place are there
pub record AreGathered (facts : List Fact) (members : List Member) (place : ℕ) (supports : List Support) : Type 0 where
  pub each : (s : Support) → Contains supports s → (s.member < place) × IsLeastMember facts members s.tuple s.image s.member
  pub complete : (i : ℕ) (hit : Hit) → i < place → MatchesAt facts members hit.tuple hit.image i → Has supports hit

-- exactly the supports, each once by its least member, in order
pub record AreSupports (facts : List Fact) (members : List Member) (supports : List Support) : Type 0 where
  pub gathered : AreGathered facts members (length members) supports
  pub ascending : IsStrictlySortedBy support_cmp supports

-- there are more pairs of a tuple and an image of some member than the limit, in order and each once
abbrev pub HasMorePairs : List Fact → List Member → ℕ → Type 0
HasMorePairs facts members limit = HasMore IsBefore (λ h. (i : ℕ) × MatchesAt facts members h.tuple h.image i) limit
