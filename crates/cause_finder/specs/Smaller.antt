-- A group of supports of one tuple as the search for a smaller support narrows it, place by place of their images.
use Rattle.std.specs.Prelude.{◌≡◌, ℕ, ◌<◌, ◌≤◌, List, ◌++◌, length, All, Contains, drop, slice_index}
use Rattle.std.specs.Ordering.{nat_cmp, on}
use Rattle.std.specs.declared.cmp.Ordering.{Ordering}
use Rattle.std.specs.Cmp.Lexicographic.{slice_cmp}
use Rattle.std.specs.List.Sorted.{IsStrictlySortedBy}
use Rattle.cq_terms.specs.Lists.{IsAscending}
use Rattle.cause_finder.specs.declared.support.Support.{Support}

-- the number of the image at the depth, and 0 where the image ends before
abbrev pub number_at : ℕ → Support → ℕ
number_at depth s = slice_index s.image depth

-- supports go by what their images have from the depth on
abbrev pub tail_cmp : ℕ → Support → Support → Ordering
tail_cmp depth = on (λ (s : Support). drop depth s.image) (slice_cmp nat_cmp)

-- ascending images that go as far as the depth at least, in the order of what they have from there on
pub record AreNarrowed (depth : ℕ) (group : List Support) : Type 0 where
  pub far : All (λ s. depth ≤ length s.image) group
  pub ascending : All (λ s. IsAscending s.image) group
  pub ordered : IsStrictlySortedBy (tail_cmp depth) group

-- some image is shorter than the size and has all its numbers from the depth on in the rest
abbrev pub HasPartFrom : ℕ → List ℕ → ℕ → List Support → Type 0
HasPartFrom depth rest size group = (s : Support) × Contains group s × All (Contains rest) (drop depth s.image)
    × (length s.image < size)

-- the supports with the number at the depth, and those with a greater one
pub record AreSplit (depth number : ℕ) (group same above : List Support) : Type 0 where
  pub below : List Support
  pub whole : group ≡ below ++ (same ++ above)
  pub less : (s : Support) → Contains below s → number_at depth s < number
  pub equal : (s : Support) → Contains same s → number_at depth s ≡ number
  pub greater : (s : Support) → Contains above s → number < number_at depth s
