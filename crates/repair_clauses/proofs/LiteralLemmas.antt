-- The literals of facts: their variables, and when they are true in an assignment.
use Rattle.std.proofs.Common.{◌≡◌, ℕ, Bool, true, false, sym, ap, ◌∙◌, subst, arith}
use Rattle.std.proofs.lemmas.Bool.{eq-eqb, ne_eqb}
use Rattle.clause_meaning.specs.Literals.{variable_of, is_present}
use Rattle.clause_meaning.specs.Assignments.{IsTrueIn}
use Rattle.repair_clauses.specs.BaseClauses.{present, absent}

pub variable_of-present : (f : ℕ) → variable_of (present f) ≡ f
unfolding variable_of
variable_of-present f = omega arith

pub variable_of-absent : (f : ℕ) → variable_of (absent f) ≡ f
unfolding variable_of
variable_of-absent f = omega arith

is_present-present : (f : ℕ) → is_present (present f) ≡ true
unfolding is_present
is_present-present f = eq-eqb _ 0 (omega arith)

is_present-absent : (f : ℕ) → is_present (absent f) ≡ false
unfolding is_present
is_present-absent f = ne_eqb _ 0 (λ e. omega arith)

-- the present literal of a true variable is true
pub present_true : (v : ℕ → Bool) (f : ℕ) → v f ≡ true → IsTrueIn v (present f)
present_true v f t = ap v (variable_of-present f) ∙ t ∙ sym (is_present-present f)

-- a true present literal is of a true variable
pub true_present : (v : ℕ → Bool) (f l : ℕ) → l ≡ present f → IsTrueIn v l → v f ≡ true
true_present v f l e t = ap v (sym (variable_of-present f)) ∙ subst (IsTrueIn v) e t ∙ is_present-present f

-- the absent literal of a false variable is true
pub absent_true : (v : ℕ → Bool) (f : ℕ) → v f ≡ false → IsTrueIn v (absent f)
absent_true v f t = ap v (variable_of-absent f) ∙ t ∙ sym (is_present-absent f)

-- a true absent literal is of a false variable
pub true_absent : (v : ℕ → Bool) (f l : ℕ) → l ≡ absent f → IsTrueIn v l → v f ≡ false
true_absent v f l e t = ap v (sym (variable_of-absent f)) ∙ subst (IsTrueIn v) e t ∙ is_present-absent f
