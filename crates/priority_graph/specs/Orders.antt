-- How an order of all facts grows, a fact at a time, by the counts of better facts that aren't there yet.
use Rattle.std.specs.Prelude.{◌≡◌, ◌≢◌, ℕ, zero, suc, ◌+◌, ◌<◌, ◌↔◌, List, [], length, take, All, AllPairs, Contains, Bool, ◌&&◌, not, if◌then◌else◌}
use Rattle.std.specs.Prelude.{slice_index, slice_index_or}
use Rattle.cq_terms.specs.Lists.{IsAscending}
use Rattle.priority_graph.specs.Split.{has}

-- how many numbers below the bound pass the test
abbrev pub count_below : (ℕ → Bool) → ℕ → ℕ
count_below test zero = 0
count_below test (suc n) = count_below test n + (if test n then 1 else 0)

-- the lists are those of all facts, each ascending, of facts
pub record AreLists (facts : ℕ) (lists : List (List ℕ)) : Type 0 where
  pub all : length lists ≡ facts
  pub ascending : (i : ℕ) → i < facts → IsAscending (slice_index_or lists i [])
  pub known : (i : ℕ) → i < facts → All (λ j. j < facts) (slice_index_or lists i [])

-- how many facts below the bound have the fact in their lists, apart from those of a list
abbrev pub waiting_for : List (List ℕ) → List ℕ → ℕ → ℕ → ℕ
waiting_for lists placed bound fact = count_below (λ i. has (slice_index_or lists i []) fact && not (has placed i)) bound

-- each number counts the facts below the bound that have this place in their lists
pub record AreWaiting (facts : ℕ) (lists : List (List ℕ)) (placed : List ℕ) (bound : ℕ) (counts : List ℕ) : Type 0 where
  pub all : length counts ≡ facts
  pub exact : (i : ℕ) → i < facts → slice_index counts i ≡ waiting_for lists placed bound i

-- one more at each of the places
pub record AddsEach (old new places : List ℕ) : Type 0 where
  pub all : length new ≡ length old
  pub exact : (i : ℕ) → i < length old → slice_index new i ≡ slice_index old i + (if has places i then 1 else 0)

-- the ascending places of the zeros
pub record AreZeros (counts places : List ℕ) : Type 0 where
  pub ascending : IsAscending places
  pub exact : (i : ℕ) → Contains places i ↔ ((i < length counts) × (slice_index counts i ≡ 0))

-- each fact of the order stands once, behind all that have it in their lists
pub record IsOrdered (facts : ℕ) (lists : List (List ℕ)) (order : List ℕ) : Type 0 where
  pub known : All (λ i. i < facts) order
  pub once : AllPairs (λ i j. i ≢ j) order
  pub behind : (k i : ℕ) → k < length order → i < facts → Contains (slice_index_or lists i []) (slice_index order k)
      → Contains (take k order) i

-- the order has exactly the facts with which no fact outside the order has to wait: all that are left have a count
pub record IsPlaced (facts : ℕ) (lists : List (List ℕ)) (order counts : List ℕ) : Type 0 where
  pub ordered : IsOrdered facts lists order
  pub waiting : AreWaiting facts lists order facts counts
  pub placed : (i : ℕ) → i < facts → Contains order i ↔ (slice_index counts i ≡ 0)
