-- A lesson whose literals stand in another order.
use Rattle.std.proofs.Common.{◌≡◌, ℕ, inl, inr, List, [], ◌∷◌, get_or, Contains, Bool, eqb, IsPermutation, refl, sym, subst, ◌∙◌}
use Rattle.std.specs.List.{IsDistinct}
use Rattle.std.proofs.lemmas.Bool.{cases_eq, ne_eqb, eq-eqb, both_ways}
use Rattle.std.proofs.lemmas.List.Sorted.{IsPermutation-sym, All-permutation, Contains-permutation}
use Rattle.std.proofs.lemmas.Map.Keys.{IsDistinct-IsPermutation, apart_from_distinct, IsDistinct-from_apart}
use Rattle.clause_meaning.specs.Literals.{opposite_of, variable_of, HaveDistinctVariables}
use Rattle.clause_meaning.specs.Refutation.{OppositesOf}
use Rattle.clause_meaning.proofs.Members.{Contains-nil, Contains-head}
use Rattle.clause_meaning.proofs.Chains.{Refutes-more}
use Rattle.cdcl_trail.specs.State.{State}
use Rattle.clause_meaning.specs.Learning.{OccursIn, IsUndecided, IsLearnable}
use Rattle.clause_learning.specs.Lessons.{IsLesson}

-- whether two literals have one variable
abbrev same_variable : ℕ → ℕ → Bool
same_variable k l = eqb (variable_of k) (variable_of l)

flips : (k l : ℕ) → same_variable k l ≡ same_variable l k
flips k l = elim (cases_eq (variable_of k) (variable_of l)) [
  | inl e ↦ eq-eqb (variable_of k) (variable_of l) e ∙ sym (eq-eqb (variable_of l) (variable_of k) (sym e))
  | inr n ↦ ne_eqb (variable_of k) (variable_of l) n ∙ sym (ne_eqb (variable_of l) (variable_of k) (λ e. n (sym e)))
]

pub HaveDistinctVariables-permutation : (xs ys : List ℕ) → IsPermutation xs ys → HaveDistinctVariables xs → HaveDistinctVariables ys
HaveDistinctVariables-permutation xs ys moved distinct i j d before within e =
    let apart : IsDistinct same_variable xs = IsDistinct-from_apart same_variable xs
    (λ k l x p q. ne_eqb (variable_of (get_or xs k x)) (variable_of (get_or xs l x)) (distinct k l x p q)) in
    let now : IsDistinct same_variable ys = IsDistinct-IsPermutation same_variable flips xs ys moved apart in
    both_ways (same_variable (get_or ys i d) (get_or ys j d)) (apart_from_distinct same_variable ys i j d now before within)
    (eq-eqb (variable_of (get_or ys i d)) (variable_of (get_or ys j d)) e)

pub IsLearnable-permuted : (S : List ℕ → Type 0) (xs ys : List ℕ) → IsPermutation xs ys → IsLearnable S xs → IsLearnable S ys
IsLearnable-permuted S xs ys order h = record {
  not_empty = λ e. h.not_empty (empty xs (λ k m. to_empty k (subst (λ (zs : List ℕ). Contains zs k) e (Contains-permutation xs ys k order m))));
  distinct = HaveDistinctVariables-permutation xs ys order h.distinct;
  follows = Refutes-more S S (OppositesOf xs) (OppositesOf ys) (λ c s. s) (λ l m. Contains-permutation xs ys (opposite_of l) order m) h.follows;
  new = λ (c, s, within). h.new (c, s, λ l m. back l (within l m));
  occur = All-permutation (OccursIn S) xs ys order h.occur;
  undecided = All-permutation (IsUndecided S) xs ys order h.undecided;
  joins_nothing = λ m never part parts free. elim (h.joins_nothing m never part parts (λ l p. free l (Contains-permutation xs ys l order p))) [
    | inl i ↦ inl (λ l p. i l (back l p))
    | inr o ↦ inr (λ l p. o l (back l p))
  ];
}
  where
    back : (l : ℕ) → Contains ys l → Contains xs l
    back l m = Contains-permutation ys xs l (IsPermutation-sym xs ys order) m

    to_empty : (k : ℕ) → Contains [] k → ⊥
    to_empty k m = Contains-nil k m

    empty : (zs : List ℕ) → ((k : ℕ) → Contains zs k → ⊥) → zs ≡ []
    empty [] none = refl
    empty (z ∷ zs) none = absurd (none z (Contains-head z zs z refl))

pub IsLesson-permuted : (S : List ℕ → Type 0) (trail : State) (xs ys : List ℕ) (asserting back : ℕ) → IsPermutation xs ys → IsLesson S trail xs asserting back
    → IsLesson S trail ys asserting back
IsLesson-permuted S trail xs ys asserting back order h = record {
  learnable = IsLearnable-permuted S xs ys order h.learnable;
  asserts = record {
    member = Contains-permutation xs ys asserting order h.asserts.member;
    newest = h.asserts.newest;
    others = λ k m n. h.asserts.others k (was k m) n;
    back_below = h.asserts.back_below;
    back_reached = elim h.asserts.back_reached [
      | inl z ↦ inl z
      | inr (k, m, n, f) ↦ inr (k, Contains-permutation xs ys k order m, n, f)
    ];
  };
}
  where
    was : (k : ℕ) → Contains ys k → Contains xs k
    was k m = Contains-permutation ys xs k (IsPermutation-sym xs ys order) m
