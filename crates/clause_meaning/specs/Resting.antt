-- What it is for a clause to rest: the literals that aren't false, and what a look at one clause finds.
use Rattle.std.specs.Prelude.{◌≢◌, ℕ, List, Option, Some, None, Contains}
use Rattle.clause_meaning.specs.Literals.{opposite_of}
use Rattle.clause_meaning.specs.Refutation.{Forces, IsFalseUnder}
use Rattle.clause_meaning.specs.declared.findings.FreeLiterals.{FreeLiterals}
use Rattle.clause_meaning.specs.declared.findings.FreeLiterals.TheVariants as free
use Rattle.clause_meaning.specs.declared.findings.Finding.{Finding}
use Rattle.clause_meaning.specs.declared.findings.Finding.TheVariants as finding

-- the one literal that isn't false, where there is no other
abbrev pub IsOnlyFree : (ℕ → Type 0) → List ℕ → Option ℕ → Type 0
IsOnlyFree Known clause None = IsFalseUnder Known clause
IsOnlyFree Known clause (Some l) = Forces clause Known l × (Known (opposite_of l) → ⊥)

-- two different literals that aren't false
pub record HasTwoFree (Known : ℕ → Type 0) (clause : List ℕ) : Type 0 where
  pub first : ℕ
  pub second : ℕ
  pub has_first : Contains clause first
  pub has_second : Contains clause second
  pub differ : first ≢ second
  pub first_free : Known (opposite_of first) → ⊥
  pub second_free : Known (opposite_of second) → ⊥

-- which literals of a clause aren't false
abbrev pub AreFree : (ℕ → Type 0) → List ℕ → FreeLiterals → Type 0
AreFree Known clause free.Nothing = IsOnlyFree Known clause None
AreFree Known clause (free.One l) = IsOnlyFree Known clause (Some l)
AreFree Known clause free.Several = HasTwoFree Known clause

-- where the literals Known are true, the clause isn't false, and what it forces is among Later
pub record RestsUntil (Known Later : ℕ → Type 0) (clause : List ℕ) : Type 0 where
  pub not_false : IsFalseUnder Known clause → ⊥
  pub forced : (l : ℕ) → Forces clause Known l → Later l

-- the clause isn't false, and what it forces is true
abbrev pub Rests : (ℕ → Type 0) → List ℕ → Type 0
Rests Known clause = RestsUntil Known Known clause

-- what a look at a clause has found
abbrev pub Says : (ℕ → Type 0) → List ℕ → Finding → Type 0
Says Known clause finding.IsFalse = IsFalseUnder Known clause
Says Known clause (finding.Forces l) = Forces clause Known l × (Known l → ⊥) × (Known (opposite_of l) → ⊥)
Says Known clause finding.Rests = Rests Known clause
