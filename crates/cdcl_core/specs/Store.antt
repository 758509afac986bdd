-- What a store shows: clauses in an arena, labels beside them, and a trail that counts in how many clauses each variable stands.
use Rattle.std.specs.Prelude.{◌≡◌, ◌≢◌, ◌==◌, ◌<◌, ◌≤◌, ◌^◌, ℕ, List, [], false, All, length, count_by, sum_by}
use Rattle.cq_terms.specs.Lists.{IsAscending}
use Rattle.clause_meaning.specs.Literals.{variable_of, AreBelow, HaveDistinctVariables}
use Rattle.clause_arena.specs.State.{State as Arena, HeldClause}
use Rattle.cdcl_trail.specs.State.{State as Trail, count_of}
use Rattle.cdcl_core.specs.declared.labels.Label.{Label}
use Rattle.cdcl_core.specs.State.{numbers_in}
use Rattle.cdcl_core.specs.Labels.{labelled}

pub record StoreState : Type 0 where
  pub arena : Arena
  pub labels : List Label
  pub trail : Trail
  pub next : ℕ

-- how many literals of the clause have the variable
abbrev pub tally : ℕ → List ℕ → ℕ
tally v literals = count_by (λ l. variable_of l == v) literals

-- how many literals of the clauses have the variable, which is in how many clauses it stands
abbrev pub occurrences : ℕ → List HeldClause → ℕ
occurrences v live = sum_by (λ held. tally v held.literals) live

-- the count of each variable is the number of clauses in which it stands
abbrev pub AreCounted : Trail → List HeldClause → Type 0
AreCounted trail live = (v : ℕ) → count_of trail v ≡ occurrences v live

-- what a live clause is: it has a literal, and its variables are in range and distinct
pub record IsProper (variables : ℕ) (literals : List ℕ) : Type 0 where
  pub some : literals ≢ []
  pub in_range : AreBelow variables literals
  pub distinct : HaveDistinctVariables literals

-- each clause is proper
abbrev pub AreProper : ℕ → List HeldClause → Type 0
AreProper variables live = All (λ held. IsProper variables held.literals) live

-- the numbers ascend, and are below the next one
pub record AreNumbered (next : ℕ) (numbers : List ℕ) : Type 0 where
  pub ascending : IsAscending numbers
  pub below : All (λ n. n < next) numbers

-- what a store keeps
pub record IsKept (parts : StoreState) : Type 0 where
  pub few : parts.arena.variables ≤ 2 ^ 31
  pub same_variables : parts.trail.variables ≡ parts.arena.variables
  pub parallel : length parts.labels ≡ length parts.arena.live
  pub stay : All (λ label. label.goes ≡ false) parts.labels
  pub proper : AreProper parts.arena.variables parts.arena.live
  pub counted : AreCounted parts.trail parts.arena.live
  pub numbered : AreNumbered parts.next (numbers_in (labelled parts.labels parts.arena.live))

-- nothing of the trail differs but the counts
abbrev pub OnlyCounts : Trail → Trail → Type 0
OnlyCounts old new = new ≡ record old { counts = new.counts }
