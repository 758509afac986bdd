-- Tests over lists that tell what unit propagation refutes, and what it leaves open; and pairs of a list by a test.
use Rattle.std.proofs.Common.{◌≡◌, ℕ, ◌⊎◌, inl, inr, List, [], ◌∷◌, AllPairs, Contains, Bool, true, false, true≢false, not, ◌&&◌, ◌||◌, ◌==◌, eqb-true}
use Rattle.std.proofs.Common.{eq-eqb, sym, subst, ◌∙◌, arith}
use Rattle.std.specs.List.{list_any, list_all, AllByRecursion}
use Rattle.std.specs.Str.{bytes_eq}
use Rattle.std.proofs.lemmas.Bool.{cases_eq, or_cases}
use Rattle.std.proofs.lemmas.List.Elements.{All-from_recursion}
use Rattle.std.proofs.lemmas.List.Kept.{AllPairs-cons}
use Rattle.cq_meaning.proofs.Extension.{and_both}
use Rattle.cq_meaning.proofs.NameConflicts.{not_true, passing, some_passes}
use Rattle.cq_meaning.proofs.Members.{Contains-head, Contains-later}
use Rattle.clause_meaning.specs.Literals.{opposite_of}
use Rattle.clause_meaning.specs.Refutation.{Forces, IsFalseUnder, IsChain, Clashes, Refutes, IsClosed, ContainsOneOf}
use Rattle.clause_meaning.proofs.Chains.{closed_not_refuted}
use Rattle.priority_graph.specs.Split.{has}
use Rattle.priority_graph.proofs.SplitLemmas.{has_true, has_there}
use Rattle.report_laws.proofs.TestLemmas.{tells_any, tells_all, tells_has, tells_same}

-- ---- lists

pub every : {X : Type 0} (p : X → Bool) (xs : List X) → list_all p xs ≡ true → (x : X) → Contains xs x → p x ≡ true
every p xs t = (tells_all p (λ x. p x ≡ true) (λ x. ((λ e. e), (λ e. e))) xs).0 t

-- the list of lists has the list
pub listed_by_test : (xs : List (List ℕ)) (c : List ℕ) → list_any (λ x. bytes_eq x c) xs ≡ true → Contains xs c
listed_by_test xs c t = let (x, m, e) = (tells_any (λ x. bytes_eq x c) (λ x. x ≡ c) (λ x. tells_same x c) xs).0 t in subst (Contains xs) e m

each : {X : Type 0} (P : X → Type 0) (xs : List X) → ((x : X) → Contains xs x → P x) → AllByRecursion P xs
each P [] f = tt
each P (x ∷ xs) f = (f x (Contains-head x xs), each P xs (λ y m. f y (Contains-later x xs y m)))

-- whether the test holds of each element and each later one
abbrev pub all_pairs : {X : Type 0} → (X → X → Bool) → List X → Bool
all_pairs r [] = true
all_pairs r (x ∷ xs) = list_all (r x) xs && all_pairs r xs

pub pairs_by_test : {X : Type 0} (r : X → X → Bool) (R : X → X → Type 0) → ((x y : X) → r x y ≡ true → R x y) → (xs : List X) → all_pairs r xs ≡ true
    → AllPairs R xs
pairs_by_test r R f [] t = λ i j d a b. absurd (omega arith)
pairs_by_test r R f (x ∷ xs) t =
    let w = and_both (list_all (r x) xs) (all_pairs r xs) t in
    AllPairs-cons R x xs (All-from_recursion (R x) xs (each (R x) xs (λ y m. f x y (every (r x) xs w.0 y m)))) (pairs_by_test r R f xs w.1)

-- ---- what is refuted

-- whether the clause forces the literal by those known
abbrev forces : List ℕ → List ℕ → ℕ → Bool
forces known c l = has c l && list_all (λ k. k == l || has known (opposite_of k)) c

-- whether the opposites of all its literals are known
abbrev is_false : List ℕ → List ℕ → Bool
is_false known c = list_all (λ k. has known (opposite_of k)) c

-- whether each literal of the chain is given or forced by earlier ones
abbrev is_chain : List (List ℕ) → List ℕ → List ℕ → Bool
is_chain clauses given [] = true
is_chain clauses given (l ∷ before) = (has given l || list_any (λ c. forces before c l) clauses) && is_chain clauses given before

-- whether the chain is one behind which some clause is false
abbrev pub chain_refutes : List (List ℕ) → List ℕ → List ℕ → Bool
chain_refutes clauses given chain = is_chain clauses given chain && list_any (is_false chain) clauses

forced : (known c : List ℕ) (l : ℕ) → forces known c l ≡ true → Forces c (Contains known) l
forced known c l t = record { member = has_there c l w.0; others = others }
  where
    w : (has c l ≡ true) × (list_all (λ k. k == l || has known (opposite_of k)) c ≡ true)
    w = and_both (has c l) (list_all (λ k. k == l || has known (opposite_of k)) c) t

    others : (k : ℕ) → Contains c k → (k ≡ l → ⊥) → Contains known (opposite_of k)
    others k m n = elim (or_cases (k == l) (has known (opposite_of k)) (every (λ k. k == l || has known (opposite_of k)) c w.1 k m)) [
      | inl e ↦ absurd (n (eqb-true k l e))
      | inr h ↦ has_there known (opposite_of k) h
    ]

chained : (clauses : List (List ℕ)) (given chain : List ℕ) → is_chain clauses given chain ≡ true → IsChain (Contains clauses) (Contains given) chain
chained clauses given [] t = tt
chained clauses given (l ∷ before) t = (
  elim (or_cases (has given l) (list_any (λ c. forces before c l) clauses) w.0)
      [ inl h ↦ inl (has_there given l h) | inr h ↦ inr (by h) ],
  chained clauses given before w.1,
)
  where
    w : ((has given l || list_any (λ c. forces before c l) clauses) ≡ true) × (is_chain clauses given before ≡ true)
    w = and_both (has given l || list_any (λ c. forces before c l) clauses) (is_chain clauses given before) t

    by : list_any (λ c. forces before c l) clauses ≡ true → (c : List ℕ) × Contains clauses c × Forces c (Contains before) l
    by h = let (c, m, e) = passing (λ c. forces before c l) clauses h in (c, m, forced before c l e)

pub refuted_by_test : (clauses : List (List ℕ)) (given chain : List ℕ) → chain_refutes clauses given chain ≡ true → Refutes (Contains clauses) (Contains given)
refuted_by_test clauses given chain t =
    let w = and_both (is_chain clauses given chain) (list_any (is_false chain) clauses) t in
    let (c, m, e) = passing (is_false chain) clauses w.1 in
    (chain, chained clauses given chain w.0, inl (c, m, λ k h. has_there chain (opposite_of k) (every (λ k. has chain (opposite_of k)) c e k h)))

-- ---- what is left open

-- whether the literal's opposite isn't known
abbrev is_left : List ℕ → ℕ → Bool
is_left known l = not (has known (opposite_of l))

-- whether the clause has a known literal, or two that are left
abbrev rests : List ℕ → List ℕ → Bool
rests known c = list_any (has known) c || list_any (λ a. list_any (λ b. not (a == b) && (is_left known a && is_left known b)) c) c

-- whether nothing is left to propagate, and nothing clashes
abbrev pub closes : List (List ℕ) → List ℕ → Bool
closes clauses known = list_all (is_left known) known && list_all (rests known) clauses

module _ (clauses : List (List ℕ)) (known : List ℕ) (t : closes clauses known ≡ true) where
  apart : (l : ℕ) → Contains known l → Contains known (opposite_of l) → ⊥
  apart l m k = true≢false (sym (has_true known (opposite_of l) k)
      ∙ not_true (has known (opposite_of l)) (every (is_left known) known (and_both (list_all (is_left known) known) (list_all (rests known) clauses) t).0 l m))

  left : (l : ℕ) → is_left known l ≡ true → Contains known (opposite_of l) → ⊥
  left l e m = true≢false (sym (has_true known (opposite_of l) m) ∙ not_true (has known (opposite_of l)) e)

  abbrev Rests : List ℕ → Type 0
  Rests c = ((k : ℕ) × Contains c k × Contains known k)
      ⊎ ((a : ℕ) × (b : ℕ) × Contains c a × Contains c b × (a ≡ b → ⊥) × (Contains known (opposite_of a) → ⊥) × (Contains known (opposite_of b) → ⊥))

  at_rest : (c : List ℕ) → Contains clauses c → Rests c
  at_rest c m = elim (or_cases (list_any (has known) c) (list_any (λ a. list_any (λ b. not (a == b) && (is_left known a && is_left known b)) c) c)
      (every (rests known) clauses (and_both (list_all (is_left known) known) (list_all (rests known) clauses) t).1 c m)) [
        | inl h ↦ (let (k, n, e) = passing (has known) c h in inl (k, n, has_there known k e))
        | inr h ↦ (let (a, n, e) = passing (λ a. list_any (λ b. not (a == b) && (is_left known a && is_left known b)) c) c h in two a n e)
      ]
    where
      two : (a : ℕ) → Contains c a → list_any (λ b. not (a == b) && (is_left known a && is_left known b)) c ≡ true → Rests c
      two a n e =
          let (b, o, f) = passing (λ b. not (a == b) && (is_left known a && is_left known b)) c e in
          let u = and_both (not (a == b)) (is_left known a && is_left known b) f in
          let v = and_both (is_left known a) (is_left known b) u.1 in
          inr (a, b, n, o, (λ s. true≢false (sym (eq-eqb a b s) ∙ not_true (a == b) u.0)), left a v.0, left b v.1)

  closed_by_test : IsClosed (Contains clauses) (Contains known)
  closed_by_test = record { forced = λ c l m f. one c l f (at_rest c m); no_clash = none }
    where
      one : (c : List ℕ) (l : ℕ) → Forces c (Contains known) l → Rests c → Contains known l
      one c l f (inl (k, n, h)) = elim (cases_eq k l) [ inl e ↦ subst (Contains known) e h | inr d ↦ absurd (apart k h (f.others k n d)) ]
      one c l f (inr (a, b, n, o, d, u, v)) = elim (cases_eq a l) [
        | inl e ↦ absurd (v (f.others b o (λ s. d (e ∙ sym s))))
        | inr e ↦ absurd (u (f.others a n e))
      ]

      false_one : (c : List ℕ) → IsFalseUnder (Contains known) c → Rests c → ⊥
      false_one c f (inl (k, n, h)) = apart k h (f k n)
      false_one c f (inr (a, b, n, o, d, u, v)) = u (f a n)

      none : Clashes (Contains clauses) (Contains known) → ⊥
      none (inl (c, m, f)) = false_one c f (at_rest c m)
      none (inr (l, m, k)) = apart l m k

pub open_by_test : (clauses : List (List ℕ)) (given known : List ℕ) → closes clauses known ≡ true → list_all (has known) given ≡ true
    → Refutes (Contains clauses) (Contains given) → ⊥
open_by_test clauses given known t s = closed_not_refuted (Contains clauses) (Contains given) (Contains known) (closed_by_test clauses known t)
    (λ l m. has_there known l (every (has known) given s l m))

-- ---- what contains no clause

pub contains_none : (clauses : List (List ℕ)) (clause : List ℕ) → list_any (λ c. list_all (has clause) c) clauses ≡ false
    → ContainsOneOf (Contains clauses) clause → ⊥
contains_none clauses clause f (c, m, w) = true≢false (sym (some_passes (λ c. list_all (has clause) c) clauses c m
    ((tells_all (has clause) (Contains clause) (tells_has clause) c).1 w)) ∙ f)
