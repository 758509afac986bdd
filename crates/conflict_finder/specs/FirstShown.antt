-- Facts and pairs that were shown, and how far the closures were gone through.
use Rattle.std.specs.Prelude.{◌≡◌, ℕ, ◌<◌, ◌⊎◌, List, [], ◌∷◌, length, All, Contains}
use Rattle.std.specs.List.Sorted.{IsStrictlySortedBy}
use Rattle.std.specs.Map.{keys_of}
use Rattle.std.specs.declared.cmp.Ordering.{Ordering}
use Rattle.cq_terms.specs.declared.facts.Fact.{Fact}
use Rattle.cq_terms.specs.declared.hits.Clash.{Clash}
use Rattle.cq_steps.specs.declared.closure.Member.{Member}
use Rattle.conflict_finder.specs.contracts.clash_facts.ClashFactsOrd.TheImpl.{cmp-value}
use Rattle.conflict_finder.specs.declared.clash_facts.ClashFacts.{ClashFacts}
use Rattle.conflict_finder.specs.declared.clash_facts.ClashFacts.TheVariants.{One, Two}
use Rattle.conflict_finder.specs.declared.first_shown.Source.{Source}
use Rattle.conflict_finder.specs.declared.sought.Sought.{Sought}
use Rattle.conflict_finder.specs.declared.sought.Sought.TheVariants.{Singles, Pairs}
use Rattle.conflict_finder.specs.Finding.{Shows, IsShownFirst}

-- the numbers of the facts
abbrev pub numbers_of : ClashFacts → List ℕ
numbers_of (One i) = i ∷ []
numbers_of (Two i j) = i ∷ j ∷ []

-- the order of the keys, as their type derives it: one fact before two, and then by the numbers from left to right
abbrev pub facts_cmp : ClashFacts → ClashFacts → Ordering
facts_cmp k j = cmp-value.it k j

-- the entries ascend by their keys
abbrev pub AreOrdered : List (ClashFacts × Source) → Type 0
AreOrdered entries = IsStrictlySortedBy facts_cmp (keys_of entries)

-- the key has an entry
abbrev pub HasKey : List (ClashFacts × Source) → ClashFacts → Type 0
HasKey entries k = (s : Source) × Contains entries (k, s)

-- each key that has P and had no entry has the source now, and nothing else changed
pub record AddsNew (P : ClashFacts → Type 0) (source : Source) (old new : List (ClashFacts × Source)) : Type 0 where
  pub kept : (e : ClashFacts × Source) → Contains old e → Contains new e
  pub right : (e : ClashFacts × Source) → Contains new e → Contains old e ⊎ (P e.0 × ¬ HasKey old e.0 × (e.1 ≡ source))
  pub complete : (k : ClashFacts) → P k → HasKey new k

-- what is looked for: one fact, or two of the facts of these numbers
abbrev pub IsWanted : Sought → List ℕ → List ℕ → Type 0
IsWanted Singles numbers set = length set ≡ 1
IsWanted Pairs numbers set = (length set ≡ 2) × All (Contains numbers) set

-- what the join finds before it is looked at: any set of the facts of these numbers, where pairs are looked for
abbrev pub IsWithin : Sought → List ℕ → List ℕ → Type 0
IsWithin Singles numbers set = length set ≡ 1
IsWithin Pairs numbers set = All (Contains numbers) set

-- the first place in the closures comes before the second
abbrev pub IsEarlier : ℕ → ℕ → ℕ → ℕ → Type 0
IsEarlier n place m p = (m < n) ⊎ ((m ≡ n) × (p < place))

-- each entry names what shows its key first
abbrev pub AreFirst : List Fact → List (ℕ × List Member) → List (ClashFacts × Source) → Type 0
AreFirst facts closures entries = All (λ e. IsShownFirst facts closures (numbers_of e.0) e.1.rule e.1.member) entries

-- all that is wanted and is shown at a place that has D has an entry, and nothing else is new
pub record IsScanned (facts : List Fact) (closures : List (ℕ × List Member)) (sought : Sought) (numbers : List ℕ) (D : ℕ → ℕ → Type 0)
    (old new : List (ClashFacts × Source)) : Type 0 where
  pub kept : (e : ClashFacts × Source) → Contains old e → Contains new e
  pub only : (e : ClashFacts × Source) → Contains new e → Contains old e ⊎ IsWanted sought numbers (numbers_of e.0)
  pub first : AreFirst facts closures new
  pub complete : (k : ClashFacts) (m p : ℕ) → IsWanted sought numbers (numbers_of k) → D m p → Shows facts closures m p (numbers_of k) → HasKey new k

-- the set has an entry, or is looked for and shown
abbrev pub IsNotedOrShown : List Fact → List (ℕ × List Member) → Sought → List ℕ → List (ClashFacts × Source) → List ℕ → Type 0
IsNotedOrShown facts closures sought numbers old set = ((k : ClashFacts) × HasKey old k × (set ≡ numbers_of k))
    ⊎ (IsWithin sought numbers set × ((n : ℕ) × (p : ℕ) × Shows facts closures n p set))

-- the clash of an entry
abbrev pub clash_of : ClashFacts × Source → Clash
clash_of e = record { facts = numbers_of e.0; «axiom» = e.1.rule; member = e.1.member }
