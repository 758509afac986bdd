-- The tests on terms and atoms tell equality.
use Rattle.std.proofs.Common.{◌≡◌, ℕ, Bool, true, false, ◌&&◌, refl, ap, arith, ◌==◌}
use Rattle.std.proofs.lemmas.Bool.Decides.{nat_tests}
use Rattle.cq_terms.specs.declared.query.Term.{Term}
use Rattle.cq_terms.specs.declared.query.Term.TheVariants.{Var, Ind, Any}
use Rattle.cq_terms.specs.declared.query.QAtom.{QAtom}
use Rattle.cq_terms.specs.declared.query.QAtom.TheVariants as atom
use Rattle.cq_meaning.specs.NormalForm.{same_term, same_atom}

-- both sides of a true conjunction are true
pub and_parts : (a b : Bool) → (a && b) ≡ true → (a ≡ true) × (b ≡ true)
and_parts true true h = (refl, refl)
and_parts true false h = cc
and_parts false true h = cc
and_parts false false h = cc

pub same_term-equal : (s t : Term) → same_term s t ≡ true → s ≡ t
same_term-equal (Var i) (Var j) h = ap Var (grind (arith, nat_tests))
same_term-equal (Var i) (Ind d) h = cc
same_term-equal (Var i) Any h = cc
same_term-equal (Ind c) (Var j) h = cc
same_term-equal (Ind c) (Ind d) h = ap Ind (grind (arith, nat_tests))
same_term-equal (Ind c) Any h = cc
same_term-equal Any (Var j) h = cc
same_term-equal Any (Ind d) h = cc
same_term-equal Any Any h = refl

same_number : (i j : ℕ) → (i == j) ≡ true → i ≡ j
same_number i j h = grind (arith, nat_tests)

pub same_atom-equal : (a b : QAtom) → same_atom a b ≡ true → a ≡ b
same_atom-equal (atom.Concept a s) (atom.Concept b t) h =
    let both = and_parts (a == b) (same_term s t) h in
    let numbers = same_number a b both.0 in
    let terms = same_term-equal s t both.1 in
    cc
same_atom-equal (atom.Concept a s) (atom.Link q t t') h = cc
same_atom-equal (atom.Link p s s') (atom.Concept b t) h = cc
same_atom-equal (atom.Link p s s') (atom.Link q t t') h =
    let both = and_parts (p == q && same_term s t) (same_term s' t') h in
    let front = and_parts (p == q) (same_term s t) both.0 in
    let numbers = same_number p q front.0 in
    let from = same_term-equal s t front.1 in
    let to = same_term-equal s' t' both.1 in
    cc

same_number-refl : (i : ℕ) → (i == i) ≡ true
same_number-refl i = grind (arith, nat_tests)

pub same_term-refl : (t : Term) → same_term t t ≡ true
same_term-refl (Var i) = same_number-refl i
same_term-refl (Ind c) = same_number-refl c
same_term-refl Any = refl

both_true : (a b : Bool) → a ≡ true → b ≡ true → (a && b) ≡ true
both_true true true g h = refl
both_true true false g h = cc
both_true false b g h = cc

pub same_atom-refl : (a : QAtom) → same_atom a a ≡ true
same_atom-refl (atom.Concept a t) = both_true _ _ (same_number-refl a) (same_term-refl t)
same_atom-refl (atom.Link p s t) = both_true _ _ (both_true _ _ (same_number-refl p) (same_term-refl s)) (same_term-refl t)
