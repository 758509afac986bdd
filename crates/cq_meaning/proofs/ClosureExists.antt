-- Each query has a closure.
use Rattle.std.proofs.Common.{◌≡◌, ℕ, zero, suc, ◌+◌, ◌≤◌, ◌⊎◌, inl, inr, List, [], ◌∷◌, length, Contains, sym, subst, arith}
use Rattle.std.specs.List.{AllByRecursion}
use Rattle.cq_terms.specs.declared.axioms.Basic.{Basic}
use Rattle.cq_terms.specs.declared.axioms.Basic.TheVariants as basic
use Rattle.cq_terms.specs.declared.axioms.Axiom.{Axiom}
use Rattle.cq_terms.specs.declared.axioms.Axiom.TheVariants.{Sub, Disjoint, SubRole, DisjointRole}
use Rattle.cq_terms.specs.declared.query.Term.{Term}
use Rattle.cq_terms.specs.declared.query.Term.TheVariants.{Var, Ind, Any}
use Rattle.cq_terms.specs.declared.query.QAtom.{QAtom}
use Rattle.cq_terms.specs.declared.query.QAtom.TheVariants as atom
use Rattle.cq_terms.specs.Query.{Query}
use Rattle.cq_meaning.specs.NormalForm.{normal}
use Rattle.cq_meaning.specs.Rewriting.{IsSuccessor, Reaches, IsClosure}
use Rattle.cq_meaning.proofs.Members.{Contains-head, Contains-later, Contains-cases, Contains-nil}
use Rattle.cq_meaning.proofs.Listed.{all_or_some, member, removed}
use Rattle.cq_meaning.proofs.Sameness.{cases_query}
use Rattle.cq_meaning.proofs.Moves.{reaches_more}
use Rattle.cq_meaning.proofs.ListedMoves.{listed_successor}
use Rattle.cq_meaning.proofs.Small.{SmallTerm, SmallAtom, SmallBasic, SmallAxiom, SmallQuery, small_normal, small_successor, queries}

-- ---- a bound above each number

-- a number above each number of the term, and so on
abbrev top_term : Term → ℕ
top_term (Var l) = suc l
top_term (Ind c) = suc c
top_term Any = 0

abbrev top_head : List Term → ℕ
top_head [] = 0
top_head (t ∷ head) = top_term t + top_head head

abbrev top_body : List QAtom → ℕ
top_body [] = 0
top_body (atom.Concept a t ∷ body) = (suc a + top_term t) + top_body body
top_body (atom.Link p s t ∷ body) = ((suc p + top_term s) + top_term t) + top_body body

abbrev top_basic : Basic → ℕ
top_basic (basic.Concept a) = suc a
top_basic (basic.Has r) = suc r.pred

abbrev top_axiom : Axiom → ℕ
top_axiom (Sub b c) = top_basic b
top_axiom (SubRole r q) = suc r.pred
top_axiom (Disjoint b c) = 0
top_axiom (DisjointRole r q) = 0

abbrev top_axioms : List Axiom → ℕ
top_axioms [] = 0
top_axioms (rule ∷ axioms) = top_axiom rule + top_axioms axioms

module _ (N : ℕ) where
  term_small : (t : Term) → top_term t ≤ N → SmallTerm N t
  term_small (Var l) k = omega arith
  term_small (Ind c) k = omega arith
  term_small Any k = tt

  head_small : (xs : List Term) → top_head xs ≤ N → AllByRecursion (SmallTerm N) xs
  head_small [] k = tt
  head_small (t ∷ xs) k = (term_small t (omega arith), head_small xs (omega arith))

  body_small : (xs : List QAtom) → top_body xs ≤ N → AllByRecursion (SmallAtom N) xs
  body_small [] k = tt
  body_small (atom.Concept a t ∷ xs) k = ((omega arith, term_small t (omega arith)), body_small xs (omega arith))
  body_small (atom.Link p s t ∷ xs) k = ((omega arith, term_small s (omega arith), term_small t (omega arith)), body_small xs (omega arith))

  basic_small : (b : Basic) → top_basic b ≤ N → SmallBasic N b
  basic_small (basic.Concept a) k = omega arith
  basic_small (basic.Has r) k = omega arith

  axiom_small : (rule : Axiom) → top_axiom rule ≤ N → SmallAxiom N rule
  axiom_small (Sub b c) k = basic_small b k
  axiom_small (SubRole r q) k = omega arith
  axiom_small (Disjoint b c) k = tt
  axiom_small (DisjointRole r q) k = tt

  axioms_small : (axioms : List Axiom) → top_axioms axioms ≤ N → (rule : Axiom) → Contains axioms rule → SmallAxiom N rule
  axioms_small [] k rule c = absurd (Contains-nil rule c)
  axioms_small (r ∷ axioms) k rule c = go (Contains-cases r axioms rule c) (λ d. axioms_small axioms (omega arith) rule d)
    where
      go : (r ≡ rule) ⊎ Contains axioms rule → (Contains axioms rule → SmallAxiom N rule) → SmallAxiom N rule
      go (inl e) again = subst (SmallAxiom N) e (axiom_small r (omega arith))
      go (inr d) again = again d

-- ---- breadth first, inside a finite list

module _ (axioms : List Axiom) (N h n : ℕ) (small : (rule : Axiom) → Contains axioms rule → SmallAxiom N rule) (start : Query) where
  -- a finished closure: it is reached, has the start, and has each successor
  abbrev Done : Type 0
  Done = (members : List Query) × ((p : Query) → Contains members p → (k : ℕ) × Reaches axioms k start p) × Contains members start
      × ((x z : Query) → Contains members x → IsSuccessor axioms x z → Contains members z)

  -- the successor is not among those seen
  abbrev New : List Query → Query → Type 0
  New seen x = (z : Query) × Contains (listed_successor axioms x).0 z × (Contains seen z → ⊥)

  closed_or_new : (seen : List Query) → ((x z : Query) → Contains seen x → IsSuccessor axioms x z → Contains seen z)
      ⊎ ((x : Query) × Contains seen x × New seen x)
  closed_or_new seen = go (all_or_some (λ (x : Query). (z : Query) → Contains (listed_successor axioms x).0 z → Contains seen z) (New seen)
      (λ x. all_or_some (Contains seen) (λ (z : Query). Contains seen z → ⊥) (λ z. member cases_query z seen) (listed_successor axioms x).0) seen)
    where
      go : ((x : Query) → Contains seen x → (z : Query) → Contains (listed_successor axioms x).0 z → Contains seen z)
          ⊎ ((x : Query) × Contains seen x × New seen x)
          → ((x z : Query) → Contains seen x → IsSuccessor axioms x z → Contains seen z) ⊎ ((x : Query) × Contains seen x × New seen x)
      go (inl all) = inl (λ x z c s. all x c z (((listed_successor axioms x).1 z).1 s))
      go (inr w) = inr w

  loop : (m : ℕ) (seen rest : List Query) → length rest ≤ m → Contains seen start → ((x : Query) → Contains seen x → (k : ℕ) × Reaches axioms k start x)
      → ((x : Query) → Contains seen x → SmallQuery N h n x) → ((u : Query) → SmallQuery N h n u → Contains seen u ⊎ Contains rest u) → Done
  loop zero seen rest l s r i c = go (closed_or_new seen)
    where
      go : ((x z : Query) → Contains seen x → IsSuccessor axioms x z → Contains seen z) ⊎ ((x : Query) × Contains seen x × New seen x) → Done
      go (inl all) = (seen, r, s, all)
      go (inr (x, d, (z, e, out))) = absurd (elim (c z (small_successor N h n axioms small x z (i x d) (((listed_successor axioms x).1 z).0 e))) [
        | inl k ↦ out k
        | inr k ↦ let w = removed rest z k in let v = w.1 in omega arith
      ])
  loop (suc m) seen rest l s r i c = go (closed_or_new seen) (λ ss rr. loop m ss rr)
    where
      go : ((x z : Query) → Contains seen x → IsSuccessor axioms x z → Contains seen z) ⊎ ((x : Query) × Contains seen x × New seen x)
          → ((ss rr : List Query) → length rr ≤ m → Contains ss start → ((x : Query) → Contains ss x → (k : ℕ) × Reaches axioms k start x)
          → ((x : Query) → Contains ss x → SmallQuery N h n x) → ((u : Query) → SmallQuery N h n u → Contains ss u ⊎ Contains rr u) → Done) → Done
      go (inl all) again = (seen, r, s, all)
      go (inr (x, d, (z, e, out))) again = found (c z sz)
        where
          step : IsSuccessor axioms x z
          step = ((listed_successor axioms x).1 z).0 e

          sz : SmallQuery N h n z
          sz = small_successor N h n axioms small x z (i x d) step

          found : Contains seen z ⊎ Contains rest z → Done
          found (inl k) = absurd (out k)
          found (inr k) =
              let w = removed rest z k in
              again (z ∷ seen) w.0 (omega (arith, w.1, l)) (Contains-later z seen start s)
              (λ y f. elim (Contains-cases z seen y f) [
                | inl q ↦ let t = r x d in (suc t.0, subst (λ (b : Query). Reaches axioms (suc t.0) start b) q (reaches_more axioms t.0 start x z t.1 step))
                | inr g ↦ r y g
              ])
              (λ y f. elim (Contains-cases z seen y f) [ inl q ↦ subst (SmallQuery N h n) q sz | inr g ↦ i y g ])
              (λ u f. elim (c u f) [
                | inl g ↦ inl (Contains-later z seen u g)
                | inr g ↦ elim (w.2 u g) [ inl q ↦ inl (subst (Contains (z ∷ seen)) (sym q) (Contains-head z seen)) | inr y ↦ inr y ]
              ])

all_reached : (axioms : List Axiom) (members : List Query) → ((x z : Query) → Contains members x → IsSuccessor axioms x z → Contains members z)
    → (k : ℕ) (x p : Query) → Contains members x → Reaches axioms k x p → Contains members p
all_reached axioms members closed zero x p c e = subst (Contains members) e c
all_reached axioms members closed (suc k) x p c (y, s, r) = all_reached axioms members closed k y p (closed x y c s) r

-- each query has a closure
pub closure_exists : (axioms : List Axiom) (q : Query) → (members : List Query) × IsClosure axioms q members
closure_exists axioms q =
    let N = (top_axioms axioms + top_head q.head) + top_body q.body in
    let small = axioms_small N axioms (omega arith) in
    let s : SmallQuery N (length q.head) (length q.body) q = (omega arith, head_small N q.head (omega arith), omega arith, body_small N q.body (omega arith)) in
    let u = queries N (length q.head) (length q.body) in
    let sn = small_normal N (length q.head) (length q.body) q s in
    let d = loop axioms N (length q.head) (length q.body) small (normal q) (length u.0) (normal q ∷ []) u.0 (omega arith) (Contains-head (normal q) [])
    (λ x c. elim (Contains-cases (normal q) [] x c) [ inl e ↦ (0, e) | inr g ↦ absurd (Contains-nil x g) ])
    (λ x c. elim (Contains-cases (normal q) [] x c) [ inl e ↦ subst (SmallQuery N (length q.head) (length q.body)) e sn | inr g ↦ absurd (Contains-nil x g) ])
    (λ x w. inr (u.1 x w)) in
    (d.0, λ p. (d.1 p, λ (k, r). all_reached axioms d.0 d.3 k (normal q) p d.2 r))
