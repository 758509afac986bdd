-- A match of a rewritten query leads to a match of the query, in a later stage.
use Rattle.std.proofs.Common.{◌≡◌, ℕ, zero, suc, inl, inr, List, [], ◌∷◌, map, Contains, sym, subst, ap, ◌∙◌, Some, slice_get, slice_set}
use Rattle.std.specs.List.{AllByRecursion}
use Rattle.cq_terms.specs.declared.axioms.Axiom.{Axiom}
use Rattle.cq_terms.specs.declared.facts.Fact.{Fact}
use Rattle.cq_terms.specs.declared.query.Term.{Term}
use Rattle.cq_terms.specs.declared.query.QAtom.{QAtom}
use Rattle.cq_terms.specs.Query.{Query}
use Rattle.cq_meaning.specs.Chase.{Node, Named, Atom, InStage}
use Rattle.cq_meaning.specs.Entailment.{Becomes, AtomBecomes, HeadBecomes, HasMatch, Entails}
use Rattle.cq_meaning.specs.NormalForm.{map_atom, without, normal}
use Rattle.cq_meaning.specs.Rewriting.{IsAxiomStepAt, IsReduceStepAt, Reaches}
use Rattle.cq_meaning.proofs.Moves.{StepsTo, step_of}
use Rattle.cq_meaning.proofs.Places.{some_inj, slice_get-without}
use Rattle.cq_meaning.proofs.Rewrites.{axiom_step_sound}
use Rattle.cq_meaning.proofs.UnifyBack.{before, reflects, atom_reflects, unified_back}
use Rattle.cq_meaning.proofs.NormalBack.{normal_back}

-- what holds of a list with an item set, of the list before
set_back : {A : Type 0} (P Q : A → Type 0) → ((a : A) → P a → Q a) → (xs : List A) (i : ℕ) (x y : A) → slice_get xs i ≡ Some x → (P y → Q x)
    → AllByRecursion P (slice_set xs i y) → AllByRecursion Q xs
set_back P Q k [] i x y e c h = tt
set_back {A} P Q k (a ∷ xs) zero x y e c h = (subst Q (sym (some_inj e)) (c h.0), weaker xs h.1)
  where
    weaker : (xs : List A) → AllByRecursion P xs → AllByRecursion Q xs
    weaker [] h = tt
    weaker (a ∷ xs) h = (k a h.0, weaker xs h.1)
set_back P Q k (a ∷ xs) (suc i) x y e c h = (k a h.0, set_back P Q k xs i x y e c h.1)

set_get : {A : Type 0} (P : A → Type 0) (xs : List A) (i : ℕ) (x y : A) → slice_get xs i ≡ Some x → AllByRecursion P (slice_set xs i y) → P y
set_get P [] i x y e h = absurd (cc)
set_get P (a ∷ xs) zero x y e h = h.0
set_get P (a ∷ xs) (suc i) x y e h = set_get P xs i x y e h.1

map_back : {A : Type 0} (P : A → Type 0) (f : A → A) (xs : List A) → AllByRecursion P (map f xs) → AllByRecursion (λ a. P (f a)) xs
map_back P f [] h = tt
map_back P f (a ∷ xs) h = (h.0, map_back P f xs h.1)

map_get : {A : Type 0} (f : A → A) (xs : List A) (i : ℕ) (x : A) → slice_get xs i ≡ Some x → slice_get (map f xs) i ≡ Some (f x)
map_get f [] i x e = absurd (cc)
map_get f (a ∷ xs) zero x e = ap (λ w. Some (f w)) (some_inj e)
map_get f (a ∷ xs) (suc i) x e = map_get f xs i x e

-- what holds of a list with an item set after a map, of the list before both
set_map_back : {A : Type 0} (P Q : A → Type 0) (f : A → A) → ((a : A) → P (f a) → Q a) → (xs : List A) (i : ℕ) (x y : A) → slice_get xs i ≡ Some x
    → (P y → Q x) → AllByRecursion P (slice_set (map f xs) i y) → AllByRecursion Q xs
set_map_back P Q f k [] i x y e c h = tt
set_map_back {A} P Q f k (a ∷ xs) zero x y e c h = (subst Q (sym (some_inj e)) (c h.0), weaker xs h.1)
  where
    weaker : (xs : List A) → AllByRecursion P (map f xs) → AllByRecursion Q xs
    weaker [] h = tt
    weaker (a ∷ xs) h = (k a h.0, weaker xs h.1)
set_map_back P Q f k (a ∷ xs) (suc i) x y e c h = (k a h.0, set_map_back P Q f k xs i x y e c h.1)

without_back : {A : Type 0} (Q : A → Type 0) (xs : List A) (j : ℕ) (y : A) → slice_get xs j ≡ Some y → Q y → AllByRecursion Q (without xs j)
    → AllByRecursion Q xs
without_back Q [] j y e c h = tt
without_back Q (a ∷ xs) zero y e c h = (subst Q (sym (some_inj e)) c, h)
without_back Q (a ∷ xs) (suc j) y e c h = (h.0, without_back Q xs j y e c h.1)

head_map_back : (v u : ℕ → Node) (f : Term → Term) → ((t : Term) (n : Node) → Becomes v (f t) n → Becomes u t n) → (head : List Term) (tuple : List ℕ)
    → HeadBecomes v (map f head) tuple → HeadBecomes u head tuple
head_map_back v u f k [] [] h = h
head_map_back v u f k [] (c ∷ tuple) h = absurd h
head_map_back v u f k (t ∷ head) [] h = absurd h
head_map_back v u f k (t ∷ head) (c ∷ tuple) h = (k t (Named c) h.0, head_map_back v u f k head tuple h.1)

axiom_step_back : (axioms : List Axiom) (F : Fact → Type 0) (k : ℕ) (q p : Query) (tuple : List ℕ) (rule : Axiom) (i : ℕ) → Contains axioms rule
    → IsAxiomStepAt rule q i p
    → HasMatch (InStage axioms F k) p tuple → HasMatch (InStage axioms F (suc k)) q tuple
axiom_step_back axioms F k q p tuple rule i m (a, a', ea, st, e) h =
    let g : HasMatch (InStage axioms F k) (record { head = q.head; body = slice_set q.body i a' }) tuple =
    subst (λ (r : Query). HasMatch (InStage axioms F k) r tuple) e h in
    let P : QAtom → Type 0 = λ b. (x : Atom) × InStage axioms F k x × AtomBecomes g.0 b x in
    let Q : QAtom → Type 0 = λ b. (x : Atom) × InStage axioms F (suc k) x × AtomBecomes g.0 b x in (
      g.0,
      g.1,
      set_back P Q (λ b (x, s, w). (x, inl s, w)) q.body i a a' ea
          (λ (x, s, w). let c = axiom_step_sound g.0 rule a a' x st w in (c.0, inr (x, s, (rule, m, c.1)), c.2)) g.2,
    )

reduce_step_back : (S : Atom → Type 0) (q p : Query) (tuple : List ℕ) (i j : ℕ) → IsReduceStepAt q i j p → HasMatch S p tuple → HasMatch S q tuple
reduce_step_back S q p tuple i j (a, b, f, z, ij, ea, eb, un, e) h =
    let g : HasMatch S (record { head = map f q.head; body = slice_set (map (map_atom f) (without q.body j)) i z }) tuple =
    subst (λ (r : Query). HasMatch S r tuple) e h in
    let v : ℕ → Node = g.0 in
    let w = unified_back v a b f z un in
    let u : ℕ → Node = before v f in
    let P : QAtom → Type 0 = λ c. (x : Atom) × S x × AtomBecomes v c x in
    let Q : QAtom → Type 0 = λ c. (x : Atom) × S x × AtomBecomes u c x in
    let ei : slice_get (without q.body j) i ≡ Some a = slice_get-without q.body i j ij ∙ ea in
    let both = set_get P (map (map_atom f) (without q.body j)) i (map_atom f a) z (map_get (map_atom f) (without q.body j) i a ei) g.2 in (
      u,
      head_map_back v u f (λ t n. reflects v f w.0 t n) q.head tuple g.1,
      without_back Q q.body j b eb (both.0, both.1, (w.1 both.0 both.2).1)
          (set_map_back P Q (map_atom f) (λ c (x, s, r). (x, s, atom_reflects v f w.0 c x r)) (without q.body j) i a z ei (λ (x, s, r). (x, s, (w.1 x r).0))
          g.2),
    )

step_back : (axioms : List Axiom) (F : Fact → Type 0) (k : ℕ) (q p : Query) (tuple : List ℕ) → StepsTo axioms q p → HasMatch (InStage axioms F k) p tuple
    → Entails axioms F q tuple
step_back axioms F k q p tuple (inl (i, rule, m, s)) h = (suc k, axiom_step_back axioms F k q p tuple rule i m s h)
step_back axioms F k q p tuple (inr (i, j, s)) h = (k, reduce_step_back (InStage axioms F k) q p tuple i j s h)

-- a match of a rewritten query leads to one of the query
pub reaches_back : (axioms : List Axiom) (F : Fact → Type 0) (n k : ℕ) (q q' : Query) (tuple : List ℕ) → Reaches axioms n q q'
    → HasMatch (InStage axioms F k) q' tuple → Entails axioms F q tuple
reaches_back axioms F zero k q q' tuple e h = (k, subst (λ (r : Query). HasMatch (InStage axioms F k) r tuple) (sym e) h)
reaches_back axioms F (suc n) k q q' tuple (p, move, r) h = go (step_of axioms q p move) (reaches_back axioms F n k p q' tuple r h)
  where
    go : (o : Query) × StepsTo axioms q o × (p ≡ normal o) → Entails axioms F p tuple → Entails axioms F q tuple
    go (o, s, e) (k', g) = step_back axioms F k' q o tuple s (normal_back (InStage axioms F k') o tuple
        (subst (λ (r : Query). HasMatch (InStage axioms F k') r tuple) e g))
