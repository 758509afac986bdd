-- Facts, atoms and queries are the same or not.
use Rattle.std.proofs.Common.{◌≡◌, ◌⊎◌, inl, inr, List, [], ◌∷◌, refl, ap, ◌∙◌}
use Rattle.std.proofs.lemmas.Bool.{cases_eq}
use Rattle.cq_terms.specs.declared.facts.Fact.{Fact}
use Rattle.cq_terms.specs.declared.facts.Fact.TheVariants as fact
use Rattle.cq_terms.specs.declared.query.Term.{Term}
use Rattle.cq_terms.specs.declared.query.Term.TheVariants.{Var, Ind, Any}
use Rattle.cq_terms.specs.declared.query.QAtom.{QAtom}
use Rattle.cq_terms.specs.declared.query.QAtom.TheVariants as atom
use Rattle.cq_terms.specs.Query.{Query}

pub cases_fact : (f g : Fact) → (f ≡ g) ⊎ (f ≡ g → ⊥)
cases_fact (fact.Concept a c) (fact.Concept b d) = go (cases_eq a b) (cases_eq c d)
  where
    go : (a ≡ b) ⊎ (a ≡ b → ⊥) → (c ≡ d) ⊎ (c ≡ d → ⊥) → (fact.Concept a c ≡ fact.Concept b d) ⊎ (fact.Concept a c ≡ fact.Concept b d → ⊥)
    go (inl e) (inl f) = inl (cc)
    go (inr n) w = inr (λ e. let f : a ≡ b = cc in n f)
    go (inl e) (inr n) = inr (λ e. let f : c ≡ d = cc in n f)
cases_fact (fact.Link p c c') (fact.Link q d d') = go (cases_eq p q) (cases_eq c d) (cases_eq c' d')
  where
    go : (p ≡ q) ⊎ (p ≡ q → ⊥) → (c ≡ d) ⊎ (c ≡ d → ⊥) → (c' ≡ d') ⊎ (c' ≡ d' → ⊥) → (fact.Link p c c' ≡ fact.Link q d d')
        ⊎ (fact.Link p c c' ≡ fact.Link q d d' → ⊥)
    go (inl e) (inl f) (inl g) = inl (cc)
    go (inr n) w v = inr (λ e. let f : p ≡ q = cc in n f)
    go (inl e) (inr n) v = inr (λ e. let f : c ≡ d = cc in n f)
    go (inl e) (inl f) (inr n) = inr (λ e. let f : c' ≡ d' = cc in n f)
cases_fact (fact.Concept a c) (fact.Link q d d') = inr (λ e. absurd (cc))
cases_fact (fact.Link p c c') (fact.Concept b d) = inr (λ e. absurd (cc))

pub cases_list : {A : Type 0} → ((x y : A) → (x ≡ y) ⊎ (x ≡ y → ⊥)) → (xs ys : List A) → (xs ≡ ys) ⊎ (xs ≡ ys → ⊥)
cases_list same [] [] = inl refl
cases_list same [] (y ∷ ys) = inr (λ e. absurd (cc))
cases_list same (x ∷ xs) [] = inr (λ e. absurd (cc))
cases_list {A} same (x ∷ xs) (y ∷ ys) = go (same x y) (cases_list same xs ys)
  where
    go : (x ≡ y) ⊎ (x ≡ y → ⊥) → (xs ≡ ys) ⊎ (xs ≡ ys → ⊥) → ((x ∷ xs) ≡ (y ∷ ys)) ⊎ ((x ∷ xs) ≡ (y ∷ ys) → ⊥)
    go (inl e) (inl d) = inl (cc)
    go (inr n) w = inr (λ e. let d : x ≡ y = cc in n d)
    go (inl e) (inr n) = inr (λ e. let d : xs ≡ ys = cc in n d)

pub cases_term : (s t : Term) → (s ≡ t) ⊎ (s ≡ t → ⊥)
cases_term (Var i) (Var j) = elim (cases_eq i j) [ inl e ↦ inl (ap Var e) | inr n ↦ inr (λ e. let d : i ≡ j = cc in n d) ]
cases_term (Ind i) (Ind j) = elim (cases_eq i j) [ inl e ↦ inl (ap Ind e) | inr n ↦ inr (λ e. let d : i ≡ j = cc in n d) ]
cases_term Any Any = inl refl
cases_term (Var i) (Ind j) = inr (λ e. absurd (cc))
cases_term (Var i) Any = inr (λ e. absurd (cc))
cases_term (Ind i) (Var j) = inr (λ e. absurd (cc))
cases_term (Ind i) Any = inr (λ e. absurd (cc))
cases_term Any (Var j) = inr (λ e. absurd (cc))
cases_term Any (Ind j) = inr (λ e. absurd (cc))

pub cases_atom : (x y : QAtom) → (x ≡ y) ⊎ (x ≡ y → ⊥)
cases_atom (atom.Concept a s) (atom.Concept b t) = go (cases_eq a b) (cases_term s t)
  where
    go : (a ≡ b) ⊎ (a ≡ b → ⊥) → (s ≡ t) ⊎ (s ≡ t → ⊥) → (atom.Concept a s ≡ atom.Concept b t) ⊎ (atom.Concept a s ≡ atom.Concept b t → ⊥)
    go (inl e) (inl d) = inl (cc)
    go (inr n) w = inr (λ e. let d : a ≡ b = cc in n d)
    go (inl e) (inr n) = inr (λ e. let d : s ≡ t = cc in n d)
cases_atom (atom.Link p s s') (atom.Link q t t') = go (cases_eq p q) (cases_term s t) (cases_term s' t')
  where
    go : (p ≡ q) ⊎ (p ≡ q → ⊥) → (s ≡ t) ⊎ (s ≡ t → ⊥) → (s' ≡ t') ⊎ (s' ≡ t' → ⊥) → (atom.Link p s s' ≡ atom.Link q t t')
        ⊎ (atom.Link p s s' ≡ atom.Link q t t' → ⊥)
    go (inl e) (inl d) (inl c) = inl (cc)
    go (inr n) w v = inr (λ e. let d : p ≡ q = cc in n d)
    go (inl e) (inr n) v = inr (λ e. let d : s ≡ t = cc in n d)
    go (inl e) (inl d) (inr n) = inr (λ e. let d : s' ≡ t' = cc in n d)
cases_atom (atom.Concept a s) (atom.Link q t t') = inr (λ e. absurd (cc))
cases_atom (atom.Link p s s') (atom.Concept b t) = inr (λ e. absurd (cc))

pub cases_query : (p q : Query) → (p ≡ q) ⊎ (p ≡ q → ⊥)
cases_query p q = go (cases_list cases_term p.head q.head) (cases_list cases_atom p.body q.body)
  where
    go : (p.head ≡ q.head) ⊎ (p.head ≡ q.head → ⊥) → (p.body ≡ q.body) ⊎ (p.body ≡ q.body → ⊥) → (p ≡ q) ⊎ (p ≡ q → ⊥)
    go (inl e) (inl d) = inl (ap (λ (h : List Term). record { head = h; body = p.body }) e ∙ ap (λ (b : List QAtom). record { head = q.head; body = b }) d)
    go (inr n) w = inr (λ e. n (ap (λ (r : Query). r.head) e))
    go (inl e) (inr n) = inr (λ e. n (ap (λ (r : Query). r.body) e))
