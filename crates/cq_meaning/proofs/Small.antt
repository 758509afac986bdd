-- What moves reach from a query stays among finitely many queries.
use Rattle.std.proofs.Common.{◌≡◌, ℕ, zero, suc, ◌<◌, ◌≤◌, ◌⊎◌, inl, inr, List, [], ◌∷◌, length, map, filter, Contains, refl, sym, subst, ap, ◌∙◌, arith}
use Rattle.std.proofs.Common.{Bool, true, false, not, cond, ◌==◌, Some, None, slice_get, slice_set}
use Rattle.std.specs.Prelude.{nat_lt}
use Rattle.std.specs.Ordering.{is_le}
use Rattle.std.specs.List.{AllByRecursion}
use Rattle.cq_terms.specs.declared.axioms.Role.{Role}
use Rattle.cq_terms.specs.declared.axioms.Basic.{Basic}
use Rattle.cq_terms.specs.declared.axioms.Basic.TheVariants as basic
use Rattle.cq_terms.specs.declared.axioms.Axiom.{Axiom}
use Rattle.cq_terms.specs.declared.axioms.Axiom.TheVariants.{Sub, Disjoint, SubRole, DisjointRole}
use Rattle.cq_terms.specs.declared.query.Term.{Term}
use Rattle.cq_terms.specs.declared.query.Term.TheVariants.{Var, Ind, Any}
use Rattle.cq_terms.specs.declared.query.QAtom.{QAtom}
use Rattle.cq_terms.specs.declared.query.QAtom.TheVariants as atom
use Rattle.cq_terms.specs.Query.{Query}
use Rattle.cq_meaning.specs.NormalForm.{map_atom, same_atom, distinct_atoms, is_unbound, unbound_to_any, with_unbound_any, simplified, atom_cmp, insert}
use Rattle.cq_meaning.specs.NormalForm.{sorted, normal, substitute, without}
use Rattle.cq_meaning.specs.Rewriting.{role_at, basic_at, IsAxiomStep, unifier, merged, IsUnified, IsSuccessor}
use Rattle.cq_meaning.proofs.Places.{some_inj}
use Rattle.cq_meaning.proofs.Settled.{length_map, filter_least}
use Rattle.cq_meaning.proofs.Moves.{StepsTo, step_of}
use Rattle.cq_meaning.proofs.Listed.{Listed, listed_one, listed_like, listed_either, listed_map, listed_both, listed_below, cover_lists}

-- ---- lists whose items have a property

have_get : {A : Type 0} (P : A → Type 0) (xs : List A) (i : ℕ) (x : A) → AllByRecursion P xs → slice_get xs i ≡ Some x → P x
have_get P [] i x h e = absurd (cc)
have_get P (y ∷ xs) zero x h e = subst P (some_inj e) h.0
have_get P (y ∷ xs) (suc i) x h e = have_get P xs i x h.1 e

have_set : {A : Type 0} (P : A → Type 0) (xs : List A) (i : ℕ) (x : A) → AllByRecursion P xs → P x → AllByRecursion P (slice_set xs i x)
have_set P [] i x h p = tt
have_set P (y ∷ xs) zero x h p = (p, h.1)
have_set P (y ∷ xs) (suc i) x h p = (h.0, have_set P xs i x h.1 p)

have_without : {A : Type 0} (P : A → Type 0) (xs : List A) (i : ℕ) → AllByRecursion P xs → AllByRecursion P (without xs i)
have_without P [] i h = tt
have_without P (y ∷ xs) zero h = h.1
have_without P (y ∷ xs) (suc i) h = (h.0, have_without P xs i h.1)

have_map : {A : Type 0} (P : A → Type 0) (f : A → A) → ((x : A) → P x → P (f x)) → (xs : List A) → AllByRecursion P xs → AllByRecursion P (map f xs)
have_map P f k [] h = tt
have_map P f k (y ∷ xs) h = (k y h.0, have_map P f k xs h.1)

have_filter : {A : Type 0} (P : A → Type 0) (p : A → Bool) (xs : List A) → AllByRecursion P xs → AllByRecursion P (filter p xs)
have_filter P p [] h = tt
have_filter {A} P p (y ∷ xs) h = go (p y) (have_filter P p xs h.1)
  where
    go : (b : Bool) → AllByRecursion P (filter p xs) → AllByRecursion P (cond b (y ∷ filter p xs) (filter p xs))
    go true w = (h.0, w)
    go false w = w

have_distinct : (P : QAtom → Type 0) (xs : List QAtom) → AllByRecursion P xs → AllByRecursion P (distinct_atoms xs)
have_distinct P [] h = tt
have_distinct P (a ∷ xs) h = (h.0, have_filter P (λ b. not (same_atom a b)) (distinct_atoms xs) (have_distinct P xs h.1))

have_insert : (P : QAtom → Type 0) (a : QAtom) (xs : List QAtom) → P a → AllByRecursion P xs → AllByRecursion P (insert a xs)
have_insert P a [] p h = (p, tt)
have_insert P a (b ∷ xs) p h = go (is_le (atom_cmp a b)) (have_insert P a xs p h.1)
  where
    go : (c : Bool) → AllByRecursion P (insert a xs) → AllByRecursion P (cond c (a ∷ b ∷ xs) (b ∷ insert a xs))
    go true w = (p, h)
    go false w = (h.0, w)

have_sorted : (P : QAtom → Type 0) (xs : List QAtom) → AllByRecursion P xs → AllByRecursion P (sorted xs)
have_sorted P [] h = tt
have_sorted P (a ∷ xs) h = have_insert P a (sorted xs) h.0 (have_sorted P xs h.1)

-- ---- lengths

len_set : {A : Type 0} (xs : List A) (i : ℕ) (x : A) → length (slice_set xs i x) ≡ length xs
len_set [] i x = refl
len_set (y ∷ xs) zero x = refl
len_set (y ∷ xs) (suc i) x = ap suc (len_set xs i x)

len_without : {A : Type 0} (xs : List A) (i : ℕ) → length (without xs i) ≤ length xs
len_without [] i = omega arith
len_without (y ∷ xs) zero = omega arith
len_without (y ∷ xs) (suc i) = let w = len_without xs i in omega arith

len_distinct : (xs : List QAtom) → length (distinct_atoms xs) ≤ length xs
len_distinct [] = omega arith
len_distinct (a ∷ xs) = let f = filter_least (λ b. not (same_atom a b)) (distinct_atoms xs) in let d = len_distinct xs in omega arith

len_insert : (a : QAtom) (xs : List QAtom) → length (insert a xs) ≡ suc (length xs)
len_insert a [] = refl
len_insert a (b ∷ xs) = go (is_le (atom_cmp a b)) (len_insert a xs)
  where
    go : (c : Bool) → length (insert a xs) ≡ suc (length xs) → length (cond c (a ∷ b ∷ xs) (b ∷ insert a xs)) ≡ suc (suc (length xs))
    go true w = refl
    go false w = ap suc w

len_sorted : (xs : List QAtom) → length (sorted xs) ≡ length xs
len_sorted [] = refl
len_sorted (a ∷ xs) = len_insert a (sorted xs) ∙ ap suc (len_sorted xs)

-- ---- small queries

module _ (N : ℕ) where
  -- each number of the term is below N, and so on
  abbrev pub SmallTerm : Term → Type 0
  SmallTerm (Var l) = l < N
  SmallTerm (Ind c) = c < N
  SmallTerm Any = Unit {0}

  abbrev pub SmallAtom : QAtom → Type 0
  SmallAtom (atom.Concept a t) = (a < N) × SmallTerm t
  SmallAtom (atom.Link p s t) = (p < N) × SmallTerm s × SmallTerm t

  abbrev pub SmallBasic : Basic → Type 0
  SmallBasic (basic.Concept a) = a < N
  SmallBasic (basic.Has r) = r.pred < N

  abbrev pub SmallAxiom : Axiom → Type 0
  SmallAxiom (Sub b c) = SmallBasic b
  SmallAxiom (SubRole r q) = r.pred < N
  SmallAxiom (Disjoint b c) = Unit {0}
  SmallAxiom (DisjointRole r q) = Unit {0}

  -- a query of at most h head terms and n atoms, all small
  abbrev pub SmallQuery : ℕ → ℕ → Query → Type 0
  SmallQuery h n q = (length q.head ≤ h) × AllByRecursion SmallTerm q.head × (length q.body ≤ n) × AllByRecursion SmallAtom q.body

  small_role : (r : Role) (s t : Term) → r.pred < N → SmallTerm s → SmallTerm t → SmallAtom (role_at r s t)
  small_role r s t l a b = go r.inverse
    where
      go : (inv : Bool) → SmallAtom (cond inv (atom.Link r.pred t s) (atom.Link r.pred s t))
      go true = (l, b, a)
      go false = (l, a, b)

  role_small : (r : Role) (s t : Term) → SmallAtom (role_at r s t) → SmallTerm s × SmallTerm t
  role_small r s t h = go r.inverse h
    where
      go : (inv : Bool) → SmallAtom (cond inv (atom.Link r.pred t s) (atom.Link r.pred s t)) → SmallTerm s × SmallTerm t
      go true h = (h.2, h.1)
      go false h = (h.1, h.2)

  small_basic : (b : Basic) (t : Term) → SmallBasic b → SmallTerm t → SmallAtom (basic_at b t)
  small_basic (basic.Concept a) t l h = (l, h)
  small_basic (basic.Has r) t l h = small_role r t Any l h tt

  small_step : (rule : Axiom) (x y : QAtom) → SmallAxiom rule → SmallAtom x → IsAxiomStep rule x y → SmallAtom y
  small_step (Sub b (basic.Concept a)) x y l h (t, e, d) = let w : SmallAtom (atom.Concept a t) = subst SmallAtom e h in
      subst SmallAtom (sym d) (small_basic b t l w.1)
  small_step (Sub b (basic.Has r)) x y l h (t, e, d) = subst SmallAtom (sym d) (small_basic b t l (role_small r t Any (subst SmallAtom e h)).0)
  small_step (SubRole r q) x y l h (s, t, e, d) = let w = role_small q s t (subst SmallAtom e h) in subst SmallAtom (sym d) (small_role r s t l w.0 w.1)
  small_step (Disjoint b c) x y l h s = absurd s
  small_step (DisjointRole r q) x y l h s = absurd s

  -- the substitution keeps small terms small
  abbrev Keeps : (Term → Term) → Type 0
  Keeps f = (u : Term) → SmallTerm u → SmallTerm (f u)

  keeps_substitute : (i : ℕ) (t : Term) → SmallTerm t → Keeps (substitute i t)
  keeps_substitute i t h (Ind c) s = s
  keeps_substitute i t h Any s = s
  keeps_substitute i t h (Var j) s = go (i == j)
    where
      go : (b : Bool) → SmallTerm (cond b t (Var j))
      go true = h
      go false = s

  keeps_is : (g f : Term → Term) → Some g ≡ Some f → Keeps g → Keeps f
  keeps_is g f e k = subst Keeps (some_inj e) k

  keeps_id : (f : Term → Term) → Some (λ (u : Term). u) ≡ Some f → Keeps f
  keeps_id f e = keeps_is (λ (u : Term). u) f e (λ u s. s)

  keeps_unifier : (s t : Term) (f : Term → Term) → unifier s t ≡ Some f → SmallTerm s → SmallTerm t → Keeps f
  keeps_unifier Any t f e a b = keeps_id f e
  keeps_unifier (Var i) Any f e a b = keeps_id f e
  keeps_unifier (Ind c) Any f e a b = keeps_id f e
  keeps_unifier (Var i) (Ind c) f e a b = keeps_is (substitute i (Ind c)) f e (keeps_substitute i (Ind c) b)
  keeps_unifier (Ind c) (Var j) f e a b = keeps_is (substitute j (Ind c)) f e (keeps_substitute j (Ind c) a)
  keeps_unifier (Var i) (Var j) f e a b = go (nat_lt i j) e
    where
      go : (c : Bool) → Some (cond c (substitute j (Var i)) (substitute i (Var j))) ≡ Some f → Keeps f
      go true e = keeps_is (substitute j (Var i)) f e (keeps_substitute j (Var i) a)
      go false e = keeps_is (substitute i (Var j)) f e (keeps_substitute i (Var j) b)
  keeps_unifier (Ind c) (Ind d) f e a b = go (c == d) e
    where
      go : (k : Bool) → cond k (Some (λ (u : Term). u)) None ≡ Some f → Keeps f
      go true e = keeps_id f e
      go false e = absurd (cc)

  small_merged : (s t : Term) → SmallTerm s → SmallTerm t → SmallTerm (merged s t)
  small_merged Any t a b = b
  small_merged (Var i) t a b = a
  small_merged (Ind c) t a b = a

  small_unified : (x y : QAtom) (f : Term → Term) (z : QAtom) → IsUnified x y f z → SmallAtom x → SmallAtom y → Keeps f × SmallAtom z
  small_unified (atom.Concept a s) (atom.Concept b t) f z (e, u, d) h k =
      let w = keeps_unifier s t f u h.1 k.1 in
      (w, subst SmallAtom (sym d) (h.0, small_merged (f s) (f t) (w s h.1) (w t k.1)))
  small_unified (atom.Link p s s') (atom.Link q t t') f z (e, g, g', u, u', fe, d) h k =
      let w = keeps_unifier s t g u h.1 k.1 in
      let w' = keeps_unifier (g s') (g t') g' u' (w s' h.2) (w t' k.2) in
      let v : Keeps f = subst Keeps (sym fe) (λ x l. w' (g x) (w x l)) in
      (v, subst SmallAtom (sym d) (h.0, small_merged (f s) (f t) (v s h.1) (v t k.1), small_merged (f s') (f t') (v s' h.2) (v t' k.2)))
  small_unified (atom.Concept a s) (atom.Link q t t') f z u h k = absurd u
  small_unified (atom.Link p s s') (atom.Concept b t) f z u h k = absurd u

  small_mapped : (f : Term → Term) → Keeps f → (a : QAtom) → SmallAtom a → SmallAtom (map_atom f a)
  small_mapped f k (atom.Concept a t) h = (h.0, k t h.1)
  small_mapped f k (atom.Link p s t) h = (h.0, k s h.1, k t h.2)

  keeps_unbound : (q : Query) → Keeps (unbound_to_any q)
  keeps_unbound q (Ind c) h = h
  keeps_unbound q Any h = h
  keeps_unbound q (Var l) h = go (is_unbound q l)
    where
      go : (b : Bool) → SmallTerm (cond b Any (Var l))
      go true = tt
      go false = h

  module _ (h n : ℕ) where
    small_simplified : (k : ℕ) (q : Query) → SmallQuery h n q → SmallQuery h n (simplified k q)
    small_simplified zero q s = s
    small_simplified (suc k) q (a, b, c, d) =
        let p : Query = record { head = q.head; body = distinct_atoms q.body } in
        let m = length_map (map_atom (unbound_to_any p)) (distinct_atoms q.body) in
        let l = len_distinct q.body in
        small_simplified k (with_unbound_any p) (
          a,
          b,
          omega (arith, m, l, c),
          have_map SmallAtom (map_atom (unbound_to_any p)) (small_mapped (unbound_to_any p) (keeps_unbound p)) (distinct_atoms q.body)
              (have_distinct SmallAtom q.body d),
        )

    pub small_normal : (q : Query) → SmallQuery h n q → SmallQuery h n (normal q)
    small_normal q s =
        let r = small_simplified (suc (length q.body)) q s in
        let l = len_sorted (simplified (suc (length q.body)) q).body in
        (r.0, r.1, omega (arith, l, r.2), have_sorted SmallAtom (simplified (suc (length q.body)) q).body r.3)

    small_step_to : (axioms : List Axiom) → ((rule : Axiom) → Contains axioms rule → SmallAxiom rule) → (q r : Query) → SmallQuery h n q → StepsTo axioms q r
        → SmallQuery h n r
    small_step_to axioms small q r s (inl (i, rule, c, (x, y, g, st, d))) =
        let sx = have_get SmallAtom q.body i x s.3 g in
        subst (SmallQuery h n) (sym d) (
          s.0,
          s.1,
          subst (λ m. m ≤ n) (sym (len_set q.body i y)) s.2,
          have_set SmallAtom q.body i y s.3 (small_step rule x y (small rule c) sx st),
        )
    small_step_to axioms small q r s (inr (i, j, (x, y, f, z, l, g, g', u, d))) =
        let w = small_unified x y f z u (have_get SmallAtom q.body i x s.3 g) (have_get SmallAtom q.body j y s.3 g') in
        let a = len_set (map (map_atom f) (without q.body j)) i z in
        let b = length_map (map_atom f) (without q.body j) in
        let k = len_without q.body j in
        let m = length_map f q.head in
        subst (SmallQuery h n) (sym d) (
          omega (arith, m, s.0),
          have_map SmallTerm f w.0 q.head s.1,
          omega (arith, a, b, k, s.2),
          have_set SmallAtom (map (map_atom f) (without q.body j)) i z
              (have_map SmallAtom (map_atom f) (small_mapped f w.0) (without q.body j) (have_without SmallAtom q.body j s.3)) w.1,
        )

    pub small_successor : (axioms : List Axiom) → ((rule : Axiom) → Contains axioms rule → SmallAxiom rule) → (q p : Query) → SmallQuery h n q
        → IsSuccessor axioms q p → SmallQuery h n p
    small_successor axioms small q p s w = let t = step_of axioms q p w in
        subst (SmallQuery h n) (sym t.2) (small_normal t.0 (small_step_to axioms small q t.0 s t.1))

    -- ---- finitely many

    terms : Listed SmallTerm
    terms = listed_like (λ (t : Term). (t ≡ Any) ⊎ (((l : ℕ) × (l < N) × (t ≡ Var l)) ⊎ ((c : ℕ) × (c < N) × (t ≡ Ind c)))) SmallTerm to from
        (listed_either (λ (t : Term). t ≡ Any) (λ (t : Term). ((l : ℕ) × (l < N) × (t ≡ Var l)) ⊎ ((c : ℕ) × (c < N) × (t ≡ Ind c)))
        (listed_one (λ (t : Term). t ≡ Any) Any refl (λ x e. e))
        (listed_either (λ (t : Term). (l : ℕ) × (l < N) × (t ≡ Var l)) (λ (t : Term). (c : ℕ) × (c < N) × (t ≡ Ind c))
        (listed_map (λ l. l < N) Var (listed_below N)) (listed_map (λ c. c < N) Ind (listed_below N))))
      where
        to : (t : Term) → (t ≡ Any) ⊎ (((l : ℕ) × (l < N) × (t ≡ Var l)) ⊎ ((c : ℕ) × (c < N) × (t ≡ Ind c))) → SmallTerm t
        to t (inl e) = subst SmallTerm (sym e) tt
        to t (inr (inl (l, k, e))) = subst SmallTerm (sym e) k
        to t (inr (inr (c, k, e))) = subst SmallTerm (sym e) k

        from : (t : Term) → SmallTerm t → (t ≡ Any) ⊎ (((l : ℕ) × (l < N) × (t ≡ Var l)) ⊎ ((c : ℕ) × (c < N) × (t ≡ Ind c)))
        from Any s = inl refl
        from (Var l) s = inr (inl (l, s, refl))
        from (Ind c) s = inr (inr (c, s, refl))

    -- a pair of small terms
    abbrev Pairs : Term × Term → Type 0
    Pairs w = (s : Term) × SmallTerm s × ((t : Term) × SmallTerm t × (w ≡ (s, t)))

    -- a small concept atom
    abbrev AsConcept : QAtom → Type 0
    AsConcept x = (a : ℕ) × (a < N) × ((t : Term) × SmallTerm t × (x ≡ atom.Concept a t))

    -- a small link
    abbrev AsLink : QAtom → Type 0
    AsLink x = (p : ℕ) × (p < N) × ((w : Term × Term) × Pairs w × (x ≡ atom.Link p w.0 w.1))

    atoms : Listed SmallAtom
    atoms = listed_like (λ (x : QAtom). AsConcept x ⊎ AsLink x) SmallAtom to from
        (listed_either AsConcept AsLink (listed_both (λ a. a < N) SmallTerm atom.Concept (listed_below N) terms)
        (listed_both (λ p. p < N) Pairs (λ (p : ℕ) (w : Term × Term). atom.Link p w.0 w.1) (listed_below N)
        (listed_both SmallTerm SmallTerm (λ (s t : Term). (s, t)) terms terms)))
      where
        to : (x : QAtom) → AsConcept x ⊎ AsLink x → SmallAtom x
        to x (inl (a, l, (t, h, e))) = subst SmallAtom (sym e) (l, h)
        to x (inr (p, l, (w, (s, h, (t, k, d)), e))) = subst SmallAtom (sym (e ∙ ap (λ (v : Term × Term). atom.Link p v.0 v.1) d)) (l, h, k)

        from : (x : QAtom) → SmallAtom x → AsConcept x ⊎ AsLink x
        from (atom.Concept a t) h = inl (a, h.0, (t, h.1, refl))
        from (atom.Link p s t) h = inr (p, h.0, ((s, t), (s, h.1, (t, h.2, refl)), refl))

    pub queries : (qs : List Query) × ((q : Query) → SmallQuery h n q → Contains qs q)
    queries = go (cover_lists SmallTerm terms h) (cover_lists SmallAtom atoms n)
      where
        go : (hs : List (List Term)) × ((xs : List Term) → length xs ≤ h → AllByRecursion SmallTerm xs → Contains hs xs)
            → (bs : List (List QAtom)) × ((xs : List QAtom) → length xs ≤ n → AllByRecursion SmallAtom xs → Contains bs xs)
            → (qs : List Query) × ((q : Query) → SmallQuery h n q → Contains qs q)
        go (hs, f) (bs, g) =
            let l = listed_both (Contains hs) (Contains bs) (λ (x : List Term) (y : List QAtom). record { head = x; body = y })
            (hs, λ x. ((λ c. c), (λ c. c))) (bs, λ x. ((λ c. c), (λ c. c))) in
            (l.0, λ q s. (l.1 q).1 (q.head, f q.head s.0 s.1, (q.body, g q.body s.2 s.3, refl)))
