-- Under axioms over concept names the conflicts can be told from the inclusions.
use Rattle.std.proofs.Common.{◌≡◌, ℕ, ◌≤◌, ◌<◌, ◌⊎◌, ◌↔◌, inl, inr, List, [], ◌∷◌, Contains, refl, sym, subst, ap, ◌∙◌, arith, Bool, true, false, not, ◌&&◌}
use Rattle.std.proofs.Common.{◌||◌, ◌==◌, eqb-true, eq-eqb, true≢false, Some, None, slice_get, length, IsTrue, max, get_or}
use Rattle.std.specs.List.{list_any}
use Rattle.std.proofs.lemmas.Bool.{cases_Bool, cases_eq, or_cases}
use Rattle.std.proofs.lemmas.Option.{slice_get_cases}
use Rattle.cq_terms.specs.declared.axioms.Basic.TheVariants.{Concept, Has}
use Rattle.cq_terms.specs.declared.axioms.Axiom.{Axiom}
use Rattle.cq_terms.specs.declared.axioms.Axiom.TheVariants.{Sub, Disjoint, SubRole, DisjointRole}
use Rattle.cq_terms.specs.declared.facts.Fact.{Fact}
use Rattle.cq_terms.specs.declared.facts.Fact.TheVariants as fact
use Rattle.cq_terms.specs.declared.query.Term.TheVariants.{Var}
use Rattle.cq_terms.specs.declared.query.QAtom.TheVariants as atom
use Rattle.cq_terms.specs.Knowledge.{Knowledge}
use Rattle.cq_meaning.specs.Chase.{Node, Named, Atom, ConceptAtom, InStage, Violates}
use Rattle.cq_meaning.specs.Conflicts.{facts_in, Only, Both, AreConsistent, FactsEntail, IsSelfInconsistent, Conflict, TellConflicts}
use Rattle.cq_meaning.specs.ConceptNames.{IsOfNames, IsOfName, Includes, TellsIncluded, splits, meets, own_test, clash_test}
use Rattle.cq_meaning.proofs.Members.{Contains-head, Contains-later, Contains-cases, Contains-nil}
use Rattle.cq_meaning.proofs.Stages.{InStage-mono, InStage-later, descends}
use Rattle.cq_meaning.proofs.Extension.{and_both, and_true, or_right}
use Rattle.cq_meaning.proofs.NameChase.{name_chase, name_chased}

pub not_true : (b : Bool) → not b ≡ true → b ≡ false
not_true true e = absurd (true≢false (sym e))
not_true false e = refl

or_left : (a b : Bool) → a ≡ true → (a || b) ≡ true
or_left true b e = refl
or_left false b e = absurd (true≢false (sym e))

pub some_passes : {A : Type 0} (p : A → Bool) (xs : List A) (x : A) → Contains xs x → p x ≡ true → list_any p xs ≡ true
some_passes p [] x c t = absurd (Contains-nil x c)
some_passes {A} p (y ∷ xs) x c t = go (Contains-cases y xs x c) (λ d. some_passes p xs x d t)
  where
    go : (y ≡ x) ⊎ Contains xs x → (Contains xs x → list_any p xs ≡ true) → (p y || list_any p xs) ≡ true
    go (inl e) again = or_left (p y) (list_any p xs) (ap p e ∙ t)
    go (inr d) again = or_right (p y) (list_any p xs) (again d)

pub passing : {A : Type 0} (p : A → Bool) (xs : List A) → list_any p xs ≡ true → (x : A) × Contains xs x × (p x ≡ true)
passing p [] t = absurd (true≢false (sym t))
passing {A} p (y ∷ xs) t = go (or_cases (p y) (list_any p xs) t) (λ h. passing p xs h)
  where
    go : (p y ≡ true) ⊎ (list_any p xs ≡ true) → (list_any p xs ≡ true → (x : A) × Contains xs x × (p x ≡ true)) → (x : A) × Contains (y ∷ xs) x × (p x ≡ true)
    go (inl h) again = (y, Contains-head y xs, h)
    go (inr h) again = let w = again h in (w.0, Contains-later y xs w.0 w.1, w.2)

module _ (kb : Knowledge) (names : (rule : Axiom) → Contains kb.axioms rule → IsOfNames rule)
    (facts : (i : ℕ) (f : Fact) → slice_get kb.facts i ≡ Some f → IsOfName f)
    (included : ℕ → ℕ → Bool) (tells : TellsIncluded kb included) where
  -- a disjointness whose sides the names of two facts are included in is violated
  violated : (S : ℕ → Type 0) (i j a b c : ℕ) → S i → S j → slice_get kb.facts i ≡ Some (fact.Concept a c) → slice_get kb.facts j ≡ Some (fact.Concept b c)
      → meets included kb.axioms a b ≡ true → ¬ AreConsistent kb S
  violated S i j a b c si sj ei ej t cons = go w.0 w.1 w.2
    where
      w : (rule : Axiom) × Contains kb.axioms rule × (splits included rule a b ≡ true)
      w = passing (λ rule. splits included rule a b) kb.axioms t

      F : Fact → Type 0
      F = facts_in kb S

      at : (a x m n : ℕ) → F (fact.Concept a c) → Includes kb.axioms n a x → n ≤ m → InStage kb.axioms F m (ConceptAtom x (Named c))
      at a x m n f h l = InStage-later kb.axioms F n m (ConceptAtom x (Named c)) l (name_chased kb.axioms names F a c n x f h)

      both : (x y : ℕ) → Contains kb.axioms (Disjoint (Concept x) (Concept y)) → (a b : ℕ) → F (fact.Concept a c) → F (fact.Concept b c) → included a x ≡ true
          → included b y ≡ true → ⊥
      both x y m a b fa fb ta tb =
          let p = (tells fa.0 a c x fa.2).0 ta in
          let q = (tells fb.0 b c y fb.2).0 tb in
          cons (max p.0 q.0) (Disjoint (Concept x) (Concept y)) m (
            Named c,
            (ConceptAtom x (Named c), at a x (max p.0 q.0) p.0 fa p.1 (omega arith), refl),
            (ConceptAtom y (Named c), at b y (max p.0 q.0) q.0 fb q.1 (omega arith), refl),
          )

      go : (rule : Axiom) → Contains kb.axioms rule → splits included rule a b ≡ true → ⊥
      go (Disjoint (Concept x) (Concept y)) m t = elim (or_cases (included a x && included b y) (included b x && included a y) t) [
        | inl h ↦ let p = and_both (included a x) (included b y) h in both x y m a b (i, si, ei) (j, sj, ej) p.0 p.1
        | inr h ↦ let p = and_both (included b x) (included a y) h in both x y m b a (j, sj, ej) (i, si, ei) p.0 p.1
      ]
      go (Disjoint (Concept x) (Has r)) m t = true≢false (sym t)
      go (Disjoint (Has r) y) m t = true≢false (sym t)
      go (Sub x y) m t = true≢false (sym t)
      go (SubRole r q) m t = true≢false (sym t)
      go (DisjointRole r q) m t = true≢false (sym t)

  -- a set in which no two names of one individual meet is consistent
  harmless : (S : ℕ → Type 0) → ((i j a b c : ℕ) → S i → S j → slice_get kb.facts i ≡ Some (fact.Concept a c) → slice_get kb.facts j ≡ Some (fact.Concept b c)
      → meets included kb.axioms a b ≡ false) → AreConsistent kb S
  harmless S none k rule m v = go rule (names rule m) m v
    where
      F : Fact → Type 0
      F = facts_in kb S

      -- an atom of the chase, with the fact that it is from
      origin : (x t : ℕ) (n : Node) (y : Atom) → InStage kb.axioms F k y → y ≡ ConceptAtom x n → (i : ℕ) × (a : ℕ) × (c : ℕ) × S i
          × (slice_get kb.facts i ≡ Some (fact.Concept a c)) × (n ≡ Named c) × (included a x ≡ true)
      origin x t n y s e = from (descends kb.axioms F k y s)
        where
          named : (f : Fact) → IsOfName f → (a : ℕ) × (c : ℕ) × (f ≡ fact.Concept a c)
          named (fact.Concept a c) u = (a, c, refl)
          named (fact.Link p c d) u = absurd u

          from : (f : Fact) × F f × InStage kb.axioms (λ g. g ≡ f) k y → (i : ℕ) × (a : ℕ) × (c : ℕ) × S i × (slice_get kb.facts i ≡ Some (fact.Concept a c))
              × (n ≡ Named c) × (included a x ≡ true)
          from (f, (i, si, ei), s') =
              let w = named f (facts i f ei) in
              let ef : slice_get kb.facts i ≡ Some (fact.Concept w.0 w.1) = ei ∙ ap Some w.2 in
              let s2 = InStage-mono kb.axioms _ (λ g. g ≡ fact.Concept w.0 w.1) (λ g d. d ∙ w.2) k y s' in
              let r = name_chase kb.axioms names w.0 w.1 k y s2 in
              let en : n ≡ Named w.1 = cc in
              let ex : r.1 ≡ x = cc in
              (i, w.0, w.1, si, ef, en, (tells i w.0 w.1 x ef).1 (r.0, subst (Includes kb.axioms r.0 w.0) ex r.2))

      clash : (x y : ℕ) → Contains kb.axioms (Disjoint (Concept x) (Concept y)) → (n : Node)
          → (i : ℕ) × (a : ℕ) × (c : ℕ) × S i × (slice_get kb.facts i ≡ Some (fact.Concept a c)) × (n ≡ Named c) × (included a x ≡ true)
          → (j : ℕ) × (b : ℕ) × (d : ℕ) × S j × (slice_get kb.facts j ≡ Some (fact.Concept b d)) × (n ≡ Named d) × (included b y ≡ true) → ⊥
      clash x y m n (i, a, c, si, ei, en, ta) (j, b, d, sj, ej, en', tb) =
          let dc : d ≡ c = cc in
          let ej' : slice_get kb.facts j ≡ Some (fact.Concept b c) = ej ∙ ap (λ z. Some (fact.Concept b z)) dc in
          true≢false (sym (some_passes (λ rule. splits included rule a b) kb.axioms (Disjoint (Concept x) (Concept y)) m
          (or_left (included a x && included b y) (included b x && included a y) (and_true (included a x) (included b y) ta tb)))
          ∙ none i j a b c si sj ei ej')

      go : (rule : Axiom) → IsOfNames rule → Contains kb.axioms rule → Violates kb.axioms F k rule → ⊥
      go (Disjoint (Concept x) (Concept y)) u m (n, (z, s, e), (z', s', e')) = clash x y m n (origin x 0 n z s e) (origin y 0 n z' s' e')
      go (Disjoint (Concept x) (Has r)) u m v = u
      go (Disjoint (Has r) y) u m v = u
      go (Sub x y) u m v = v
      go (SubRole r q) u m v = v
      go (DisjointRole r q) u m v = u

  -- whether names meet doesn't depend on their order
  meets_swap : (a b : ℕ) → meets included kb.axioms a b ≡ true → meets included kb.axioms b a ≡ true
  meets_swap a b t = let w = passing (λ rule. splits included rule a b) kb.axioms t in
      some_passes (λ rule. splits included rule b a) kb.axioms w.0 w.1 (swap w.0 w.2)
    where
      swap : (rule : Axiom) → splits included rule a b ≡ true → splits included rule b a ≡ true
      swap (Disjoint (Concept x) (Concept y)) t = elim (or_cases (included a x && included b y) (included b x && included a y) t) [
        | inl h ↦ or_right (included b x && included a y) (included a x && included b y) h
        | inr h ↦ or_left (included b x && included a y) (included a x && included b y) h
      ]
      swap (Disjoint (Concept x) (Has r)) t = t
      swap (Disjoint (Has r) y) t = t
      swap (Sub x y) t = t
      swap (SubRole r q) t = t
      swap (DisjointRole r q) t = t

  not_meets : (a b : ℕ) → ¬ (meets included kb.axioms a b ≡ true) → meets included kb.axioms a b ≡ false
  not_meets a b n = elim (cases_Bool (meets included kb.axioms a b)) [ inl t ↦ absurd (n t) | inr f ↦ f ]

  -- the fact of a number, once
  same_fact : (i a c b d : ℕ) → slice_get kb.facts i ≡ Some (fact.Concept a c) → slice_get kb.facts i ≡ Some (fact.Concept b d) → (a ≡ b) × (c ≡ d)
  same_fact i a c b d e e' = let h : Some (fact.Concept a c) ≡ Some (fact.Concept b d) = sym e ∙ e' in (cc, cc)

  alone_ok : (i a c : ℕ) → slice_get kb.facts i ≡ Some (fact.Concept a c) → meets included kb.axioms a a ≡ false → AreConsistent kb (Only i)
  alone_ok i a c ei f = harmless (Only i) (λ i' j' a' b' c' si sj e e'.
      let p = same_fact i a c a' c' ei (subst (λ l. slice_get kb.facts l ≡ Some (fact.Concept a' c')) si e) in
      let q = same_fact i a c b' c' ei (subst (λ l. slice_get kb.facts l ≡ Some (fact.Concept b' c')) sj e') in
      subst (λ z. meets included kb.axioms z b' ≡ false) p.0 (subst (λ z. meets included kb.axioms a z ≡ false) q.0 f))

  pair_ok : (i j a b c d : ℕ) → slice_get kb.facts i ≡ Some (fact.Concept a c) → slice_get kb.facts j ≡ Some (fact.Concept b d)
      → meets included kb.axioms a a ≡ false → meets included kb.axioms b b ≡ false
      → (c ≡ d → meets included kb.axioms a b ≡ false) → AreConsistent kb (Both i j)
  pair_ok i j a b c d ei ej fa fb fab = harmless (Both i j) (λ i' j' a' b' c' si sj e e'. go a' b' c' (here i' a' c' si e) (here j' b' c' sj e'))
    where
      here : (l x y : ℕ) → (l ≡ i) ⊎ (l ≡ j) → slice_get kb.facts l ≡ Some (fact.Concept x y) → ((a ≡ x) × (c ≡ y)) ⊎ ((b ≡ x) × (d ≡ y))
      here l x y (inl s) e = inl (same_fact i a c x y ei (subst (λ l. slice_get kb.facts l ≡ Some (fact.Concept x y)) s e))
      here l x y (inr s) e = inr (same_fact j b d x y ej (subst (λ l. slice_get kb.facts l ≡ Some (fact.Concept x y)) s e))

      at : (x y x' y' : ℕ) → x ≡ x' → y ≡ y' → meets included kb.axioms x y ≡ false → meets included kb.axioms x' y' ≡ false
      at x y x' y' p q f = subst (λ z. meets included kb.axioms z y' ≡ false) p (subst (λ z. meets included kb.axioms x z ≡ false) q f)

      go : (a' b' c' : ℕ) → ((a ≡ a') × (c ≡ c')) ⊎ ((b ≡ a') × (d ≡ c')) → ((a ≡ b') × (c ≡ c')) ⊎ ((b ≡ b') × (d ≡ c'))
          → meets included kb.axioms a' b' ≡ false
      go a' b' c' (inl p) (inl q) = at a a a' b' p.0 q.0 fa
      go a' b' c' (inl p) (inr q) = at a b a' b' p.0 q.0 (fab (p.1 ∙ sym q.1))
      go a' b' c' (inr p) (inl q) = at b a a' b' p.0 q.0 (not_meets b a (λ t. true≢false (sym (meets_swap b a t) ∙ fab (q.1 ∙ sym p.1))))
      go a' b' c' (inr p) (inr q) = at b b a' b' p.0 q.0 fb

  fact_at : (i : ℕ) → i < length kb.facts → (a : ℕ) × (c : ℕ) × (slice_get kb.facts i ≡ Some (fact.Concept a c))
  fact_at i l = go (slice_get_cases kb.facts i).1
    where
      named : (f : Fact) → IsOfName f → slice_get kb.facts i ≡ Some f → (a : ℕ) × (c : ℕ) × (slice_get kb.facts i ≡ Some (fact.Concept a c))
      named (fact.Concept a c) u e = (a, c, e)
      named (fact.Link p c d) u e = absurd u

      go : ((f : Fact) × (i < length kb.facts) × (slice_get kb.facts i ≡ Some f) × (get_or kb.facts i f ≡ f))
          ⊎ ((length kb.facts ≤ i) × (slice_get kb.facts i ≡ None)) → (a : ℕ) × (c : ℕ) × (slice_get kb.facts i ≡ Some (fact.Concept a c))
      go (inl (f, k, e, g)) = named f (facts i f e) e
      go (inr (k, e)) = absurd (omega arith)

  -- the tests of the names tell the conflicts
  pub names_tell : TellConflicts kb (λ i. own_test included kb.axioms (slice_get kb.facts i))
      (λ i j. clash_test included kb.axioms (slice_get kb.facts i) (slice_get kb.facts j))
  names_tell = record { own_iff = λ i il. own i (fact_at i il); clash_iff = λ i j il jl. clash i j (fact_at i il) (fact_at j jl) }
    where
      own : (i : ℕ) → (a : ℕ) × (c : ℕ) × (slice_get kb.facts i ≡ Some (fact.Concept a c)) → IsTrue (own_test included kb.axioms (slice_get kb.facts i))
          ↔ IsSelfInconsistent kb i
      own i (a, c, e) =
          let same : own_test included kb.axioms (slice_get kb.facts i) ≡ meets included kb.axioms a a = ap (own_test included kb.axioms) e in (
            (λ t. violated (Only i) i i a a c refl refl e e (sym same ∙ t)),
            (λ s. elim (cases_Bool (meets included kb.axioms a a)) [ inl t ↦ same ∙ t | inr f ↦ absurd (s (alone_ok i a c e f)) ]),
          )

      clash : (i j : ℕ) → (a : ℕ) × (c : ℕ) × (slice_get kb.facts i ≡ Some (fact.Concept a c)) → (b : ℕ) × (d : ℕ)
          × (slice_get kb.facts j ≡ Some (fact.Concept b d))
          → IsTrue (clash_test included kb.axioms (slice_get kb.facts i) (slice_get kb.facts j)) ↔ Conflict kb i j
      clash i j (a, c, e) (b, d, e') = ((λ t. to (sym same ∙ t)), (λ w. same ∙ from w))
        where
          same : clash_test included kb.axioms (slice_get kb.facts i) (slice_get kb.facts j)
              ≡ (c == d && (not (meets included kb.axioms a a) && (not (meets included kb.axioms b b) && meets included kb.axioms a b)))
          same = ap (λ o. clash_test included kb.axioms o (slice_get kb.facts j)) e ∙ ap (clash_test included kb.axioms (Some (fact.Concept a c))) e'

          to : (c == d && (not (meets included kb.axioms a a) && (not (meets included kb.axioms b b) && meets included kb.axioms a b))) ≡ true → Conflict kb i j
          to t =
              let p = and_both (c == d) (not (meets included kb.axioms a a) && (not (meets included kb.axioms b b) && meets included kb.axioms a b)) t in
              let q = and_both (not (meets included kb.axioms a a)) (not (meets included kb.axioms b b) && meets included kb.axioms a b) p.1 in
              let r = and_both (not (meets included kb.axioms b b)) (meets included kb.axioms a b) q.1 in
              let cd : c ≡ d = eqb-true c d p.0 in
              let ej : slice_get kb.facts j ≡ Some (fact.Concept b c) = e' ∙ ap (λ z. Some (fact.Concept b z)) (sym cd) in
              let fa = not_true (meets included kb.axioms a a) q.0 in
              record {
                different = λ ij. let s = same_fact j a c b d (subst (λ l. slice_get kb.facts l ≡ Some (fact.Concept a c)) ij e) e' in
                    true≢false (sym r.1 ∙ ap (λ z. meets included kb.axioms a z) (sym s.0) ∙ fa);
                left = alone_ok i a c e fa;
                right = alone_ok j b d e' (not_true (meets included kb.axioms b b) r.0);
                together = violated (Both i j) i j a b c (inl refl) (inr refl) e ej r.1;
              }

          from : Conflict kb i j → (c == d && (not (meets included kb.axioms a a) && (not (meets included kb.axioms b b) && meets included kb.axioms a b)))
              ≡ true
          from w =
              let fa = not_meets a a (λ t. violated (Only i) i i a a c refl refl e e t w.left) in
              let fb = not_meets b b (λ t. violated (Only j) j j b b d refl refl e' e' t w.right) in
              elim (cases_eq c d) [
                | inr n ↦ absurd (w.together (pair_ok i j a b c d e e' fa fb (λ cd. absurd (n cd))))
                | inl cd ↦ elim (cases_Bool (meets included kb.axioms a b)) [
                  | inr f ↦ absurd (w.together (pair_ok i j a b c d e e' fa fb (λ cd. f)))
                  | inl t ↦ and_true (c == d) (not (meets included kb.axioms a a) && (not (meets included kb.axioms b b) && meets included kb.axioms a b))
                      (eq-eqb c d cd)
                      (and_true (not (meets included kb.axioms a a)) (not (meets included kb.axioms b b) && meets included kb.axioms a b) (ap not fa)
                      (and_true (not (meets included kb.axioms b b)) (meets included kb.axioms a b) (ap not fb) t))
                ]
              ]

  -- a set of facts entails a name of an individual exactly where a fact of it does, by the inclusions
  pub name_entailed : (S : ℕ → Type 0) (q l t : ℕ) → FactsEntail kb S (record { head = Var l ∷ []; body = atom.Concept q (Var l) ∷ [] }) (t ∷ [])
      ↔ ((i : ℕ) × (a : ℕ) × S i × (slice_get kb.facts i ≡ Some (fact.Concept a t)) × IsTrue (included a q))
  name_entailed S q l t = (to, from)
    where
      named : (f : Fact) → IsOfName f → (a : ℕ) × (c : ℕ) × (f ≡ fact.Concept a c)
      named (fact.Concept a c) u = (a, c, refl)
      named (fact.Link p c d) u = absurd u

      to : FactsEntail kb S (record { head = Var l ∷ []; body = atom.Concept q (Var l) ∷ [] }) (t ∷ []) → (i : ℕ) × (a : ℕ) × S i
          × (slice_get kb.facts i ≡ Some (fact.Concept a t)) × IsTrue (included a q)
      to (k, (v, (hl, u), ((x, s, (n, hn, e)), u'))) = go (descends kb.axioms (facts_in kb S) k x s)
        where
          go : (f : Fact) × facts_in kb S f × InStage kb.axioms (λ g. g ≡ f) k x → (i : ℕ) × (a : ℕ) × S i × (slice_get kb.facts i ≡ Some (fact.Concept a t))
              × IsTrue (included a q)
          go (f, (i, si, ei), s') =
              let w = named f (facts i f ei) in
              let r = name_chase kb.axioms names w.0 w.1 k x (InStage-mono kb.axioms _ (λ g. g ≡ fact.Concept w.0 w.1) (λ g d. d ∙ w.2) k x s') in
              let eq : r.1 ≡ q = cc in
              let en : n ≡ Named w.1 = cc in
              let et : Named w.1 ≡ Named t = sym en ∙ hn ∙ sym hl in
              let ec : w.1 ≡ t = cc in
              let ef : slice_get kb.facts i ≡ Some (fact.Concept w.0 w.1) = ei ∙ ap Some w.2 in
              (i, w.0, si, ef ∙ ap (λ z. Some (fact.Concept w.0 z)) ec, (tells i w.0 w.1 q ef).1 (r.0, subst (Includes kb.axioms r.0 w.0) eq r.2))

      from : (i : ℕ) × (a : ℕ) × S i × (slice_get kb.facts i ≡ Some (fact.Concept a t)) × IsTrue (included a q)
          → FactsEntail kb S (record { head = Var l ∷ []; body = atom.Concept q (Var l) ∷ [] }) (t ∷ [])
      from (i, a, si, ei, h) =
          let p = (tells i a t q ei).0 h in (
            p.0,
            (
              (λ z. Named t),
              (refl, tt),
              (
                (
                  ConceptAtom q (Named t),
                  name_chased kb.axioms names (facts_in kb S) a t p.0 q (i, si, ei) p.1,
                  (Named t, refl, refl),
                ),
                tt,
              ),
            ),
          )
