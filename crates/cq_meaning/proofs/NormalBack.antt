-- What the normal form matches, the query matches.
use Rattle.std.proofs.Common.{◌≡◌, ◌≢◌, ℕ, zero, suc, ◌+◌, ◌≤◌, ◌<◌, ◌⊎◌, inl, inr, List, [], ◌∷◌, length, map, filter, refl, sym, subst, ap, ◌∙◌, arith}
use Rattle.std.proofs.Common.{Bool, true, false, not, cond, ◌&&◌, ◌==◌, eqb-true, eq-eqb, ne_eqb, true≢false, if◌then◌else◌}
use Rattle.std.specs.List.{AllByRecursion}
use Rattle.std.specs.Ordering.{is_le}
use Rattle.std.proofs.lemmas.Bool.{cases_Bool}
use Rattle.cq_terms.specs.declared.query.Term.{Term}
use Rattle.cq_terms.specs.declared.query.Term.TheVariants.{Var, Ind, Any}
use Rattle.cq_terms.specs.declared.query.QAtom.{QAtom}
use Rattle.cq_terms.specs.declared.query.QAtom.TheVariants as atom
use Rattle.cq_terms.specs.Query.{Query}
use Rattle.cq_meaning.specs.Chase.{Node, Named, Atom, ConceptAtom, RoleAtom}
use Rattle.cq_meaning.specs.Entailment.{Becomes, AtomBecomes, HeadBecomes, HasMatch}
use Rattle.cq_meaning.specs.NormalForm.{map_atom, same_term, same_atom, distinct_atoms, times_in_term, times_in_atom, times_in_head, times_in_body}
use Rattle.cq_meaning.specs.NormalForm.{is_unbound, unbound_to_any, with_unbound_any, simplified, atom_cmp, insert, sorted, normal}
use Rattle.cq_meaning.proofs.Extension.{and_both}

-- ---- atoms that were taken out, and the order

same_term_is : (s t : Term) → same_term s t ≡ true → s ≡ t
same_term_is (Var i) (Var j) e = ap Var (eqb-true i j e)
same_term_is (Var i) (Ind d) e = absurd (cc)
same_term_is (Var i) Any e = absurd (cc)
same_term_is (Ind c) (Ind d) e = ap Ind (eqb-true c d e)
same_term_is (Ind c) (Var j) e = absurd (cc)
same_term_is (Ind c) Any e = absurd (cc)
same_term_is Any Any e = refl
same_term_is Any (Var j) e = absurd (cc)
same_term_is Any (Ind d) e = absurd (cc)

pub same_atom_is : (a b : QAtom) → same_atom a b ≡ true → a ≡ b
same_atom_is (atom.Concept p s) (atom.Concept q t) e =
    let w = and_both (p == q) (same_term s t) e in
    let ep : p ≡ q = eqb-true p q w.0 in let es = same_term_is s t w.1 in cc
same_atom_is (atom.Link p s s') (atom.Link q t t') e =
    let w = and_both (p == q && same_term s t) (same_term s' t') e in
    let u = and_both (p == q) (same_term s t) w.0 in
    let ep : p ≡ q = eqb-true p q u.0 in let es = same_term_is s t u.1 in let es' = same_term_is s' t' w.1 in cc
same_atom_is (atom.Concept p s) (atom.Link q t t') e = absurd (cc)
same_atom_is (atom.Link p s s') (atom.Concept q t) e = absurd (cc)

filter_back : {A : Type 0} (P : A → Type 0) (p : A → Bool) (xs : List A) → AllByRecursion P (filter p xs) → ((x : A) → p x ≡ false → P x) → AllByRecursion P xs
filter_back P p [] h k = tt
filter_back {A} P p (x ∷ xs) h k = go (p x) refl h (λ h. filter_back P p xs h k)
  where
    go : (b : Bool) → p x ≡ b → AllByRecursion P (cond b (x ∷ filter p xs) (filter p xs)) → (AllByRecursion P (filter p xs) → AllByRecursion P xs) → P x
        × AllByRecursion P xs
    go true e h again = (h.0, again h.1)
    go false e h again = (k x e, again h)

pub not_false : (b : Bool) → not b ≡ false → b ≡ true
not_false true e = refl
not_false false e = absurd (true≢false e)

distinct_back : (P : QAtom → Type 0) (xs : List QAtom) → AllByRecursion P (distinct_atoms xs) → AllByRecursion P xs
distinct_back P [] h = tt
distinct_back P (a ∷ xs) h = (
  h.0,
  distinct_back P xs (filter_back P (λ b. not (same_atom a b)) (distinct_atoms xs) h.1
      (λ b e. subst P (same_atom_is a b (not_false (same_atom a b) e)) h.0)),
)

insert_back : (P : QAtom → Type 0) (a : QAtom) (xs : List QAtom) → AllByRecursion P (insert a xs) → P a × AllByRecursion P xs
insert_back P a [] h = (h.0, tt)
insert_back P a (b ∷ xs) h = go (is_le (atom_cmp a b)) h (λ h. insert_back P a xs h)
  where
    go : (c : Bool) → AllByRecursion P (cond c (a ∷ b ∷ xs) (b ∷ insert a xs)) → (AllByRecursion P (insert a xs) → P a × AllByRecursion P xs) → P a
        × (P b × AllByRecursion P xs)
    go true h again = (h.0, h.1)
    go false h again = let w = again h.1 in (w.0, (h.0, w.1))

sorted_back : (P : QAtom → Type 0) (xs : List QAtom) → AllByRecursion P (sorted xs) → AllByRecursion P xs
sorted_back P [] h = tt
sorted_back P (a ∷ xs) h = let w = insert_back P a (sorted xs) h in (w.0, sorted_back P xs w.1)

-- ---- variables that became `_`

-- the node at the variable's place of an atom
abbrev node_of : ℕ → QAtom → Atom → Node → Node
node_of l (atom.Concept p s) (ConceptAtom c n) d = if times_in_term l s == 1 then n else d
node_of l (atom.Link p s t) (RoleAtom c m n) d = if times_in_term l s == 1 then m else (if times_in_term l t == 1 then n else d)
node_of l (atom.Concept p s) (RoleAtom c m n) d = d
node_of l (atom.Link p s t) (ConceptAtom c n) d = d

var_counts : (l : ℕ) → times_in_term l (Var l) ≡ 1
var_counts l = ap (λ b. cond b 1 0) (eq-eqb l l refl)

-- the images of a body's atoms, one by one
module _ (S : Atom → Type 0) (v : ℕ → Node) (q : Query) where
  -- the atom, with `_` for its unbound variables, becomes an atom that has S
  abbrev UnboundFits : QAtom → Type 0
  UnboundFits a = (x : Atom) × S x × AtomBecomes v (map_atom (unbound_to_any q) a) x

  -- the node of an unbound variable: where it stands in the body
  pick : (body : List QAtom) → AllByRecursion UnboundFits body → ℕ → Node
  pick [] h l = v l
  pick (a ∷ body) h l = if times_in_atom l a == 0 then pick body h.1 l else node_of l a h.0.0 (v l)

  -- a valuation that gives the unbound variables of an atom its nodes
  abbrev TakesNode : (ℕ → Node) → QAtom → Atom → Type 0
  TakesNode u a x = (l : ℕ) → is_unbound q l ≡ true → 0 < times_in_atom l a → (times_in_atom l a ≡ 1) × (u l ≡ node_of l a x (v l))

  -- a valuation that leaves the other variables as they are
  abbrev Agrees : (ℕ → Node) → Type 0
  Agrees u = (l : ℕ) → is_unbound q l ≡ false → u l ≡ v l

  term_back : (u : ℕ → Node) (s : Term) (n : Node) → Agrees u → ((l : ℕ) → s ≡ Var l → is_unbound q l ≡ true → u l ≡ n) → Becomes v (unbound_to_any q s) n
      → Becomes u s n
  term_back u (Ind c) n g k h = h
  term_back u Any n g k h = tt
  term_back u (Var l) n g k h = go (is_unbound q l) refl h
    where
      go : (b : Bool) → is_unbound q l ≡ b → Becomes v (cond b Any (Var l)) n → n ≡ u l
      go true e h = sym (k l refl e)
      go false e h = h ∙ sym (g l e)

  atom_back : (u : ℕ → Node) (a : QAtom) (x : Atom) → Agrees u → TakesNode u a x → AtomBecomes v (map_atom (unbound_to_any q) a) x → AtomBecomes u a x
  atom_back u (atom.Concept p s) x g k (n, h, e) = (n, term_back u s n g single h, e)
    where
      single : (l : ℕ) → s ≡ Var l → is_unbound q l ≡ true → u l ≡ n
      single l es t =
          let o : times_in_term l s ≡ 1 = ap (times_in_term l) es ∙ var_counts l in
          let f = k l t (omega arith) in
          f.1 ∙ ap (λ (y : Atom). node_of l (atom.Concept p s) y (v l)) e ∙ ap (λ b. cond b n (v l)) (eq-eqb (times_in_term l s) 1 o)
  atom_back u (atom.Link p s t) x g k (m, n, h, h', e) = (m, n, term_back u s m g first h, term_back u t n g second h', e)
    where
      first : (l : ℕ) → s ≡ Var l → is_unbound q l ≡ true → u l ≡ m
      first l es i =
          let o : times_in_term l s ≡ 1 = ap (times_in_term l) es ∙ var_counts l in
          let f = k l i (omega arith) in
          f.1 ∙ ap (λ (y : Atom). node_of l (atom.Link p s t) y (v l)) e
          ∙ ap (λ b. cond b m (if times_in_term l t == 1 then n else v l)) (eq-eqb (times_in_term l s) 1 o)

      second : (l : ℕ) → t ≡ Var l → is_unbound q l ≡ true → u l ≡ n
      second l es i =
          let o : times_in_term l t ≡ 1 = ap (times_in_term l) es ∙ var_counts l in
          let f = k l i (omega arith) in
          let z : times_in_term l s ≢ 1 = λ w. let f0 : times_in_term l s + times_in_term l t ≡ 1 = f.0 in omega arith in
          f.1 ∙ ap (λ (y : Atom). node_of l (atom.Link p s t) y (v l)) e
          ∙ ap (λ b. cond b m (if times_in_term l t == 1 then n else v l)) (ne_eqb (times_in_term l s) 1 z)
          ∙ ap (λ b. cond b n (v l)) (eq-eqb (times_in_term l t) 1 o)

  -- what u has to give for the atoms of a part of the body
  abbrev Serves : (ℕ → Node) → (body : List QAtom) → AllByRecursion UnboundFits body → Type 0
  Serves u body h = (l : ℕ) → is_unbound q l ≡ true → (times_in_body l body ≤ 1) × (times_in_body l body ≡ 1 → u l ≡ pick body h l)

  body_back : (u : ℕ → Node) → Agrees u → (body : List QAtom) (h : AllByRecursion UnboundFits body) → Serves u body h
      → AllByRecursion (λ a. (x : Atom) × S x × AtomBecomes u a x) body
  unfolding pick
  body_back u g [] h k = tt
  body_back u g (a ∷ body) h k = ((h.0.0, h.0.1, atom_back u a h.0.0 g here h.0.2), body_back u g body h.1 rest)
    where
      here : TakesNode u a h.0.0
      here l t pos =
          let f = k l t in
          let o : times_in_atom l a ≡ 1 = omega (arith, f.0) in
          (o, f.1 (omega (arith, f.0)) ∙ ap (λ b. cond b (pick body h.1 l) (node_of l a h.0.0 (v l))) (ne_eqb (times_in_atom l a) 0 (omega arith)))

      later : (l : ℕ) → times_in_body l body ≡ 1 → (times_in_body l (a ∷ body) ≤ 1) × (times_in_body l (a ∷ body) ≡ 1 → u l ≡ pick (a ∷ body) h l)
          → u l ≡ pick body h.1 l
      later l o f =
          let z : times_in_atom l a ≡ 0 = omega (arith, f.0) in
          f.1 (omega arith) ∙ ap (λ b. cond b (pick body h.1 l) (node_of l a h.0.0 (v l))) (eq-eqb (times_in_atom l a) 0 z)

      rest : Serves u body h.1
      rest l t = let f = k l t in (omega (arith, f.0), λ o. later l o f)

map_back : (P : QAtom → Type 0) (f : QAtom → QAtom) (xs : List QAtom) → AllByRecursion P (map f xs) → AllByRecursion (λ a. P (f a)) xs
map_back P f [] h = tt
map_back P f (a ∷ xs) h = (h.0, map_back P f xs h.1)

head_back : (v u : ℕ → Node) (head : List Term) (tuple : List ℕ) → ((l : ℕ) → 0 < times_in_head l head → u l ≡ v l) → HeadBecomes v head tuple
    → HeadBecomes u head tuple
head_back v u [] [] k h = h
head_back v u [] (c ∷ tuple) k h = absurd h
head_back v u (t ∷ head) [] k h = absurd h
head_back v u (t ∷ head) (c ∷ tuple) k h = (
  one t (λ l e. k l (let o : times_in_term l t ≡ 1 = ap (times_in_term l) e ∙ var_counts l in omega arith)) h.0,
  head_back v u head tuple (λ l p. k l (omega arith)) h.1,
)
  where
    one : (s : Term) → ((l : ℕ) → s ≡ Var l → u l ≡ v l) → Becomes v s (Named c) → Becomes u s (Named c)
    one (Var l) k h = h ∙ sym (k l refl)
    one (Ind d) k h = h
    one Any k h = tt

pub unbound_back : (S : Atom → Type 0) (q : Query) (tuple : List ℕ) → HasMatch S (with_unbound_any q) tuple → HasMatch S q tuple
unbound_back S q tuple (v, head, body) = (u, head_back v u q.head tuple head_kept head, body_back S v q u agrees q.body b serves)
  where
    b : AllByRecursion (UnboundFits S v q) q.body
    b = map_back (λ a. (x : Atom) × S x × AtomBecomes v a x) (map_atom (unbound_to_any q)) q.body body

    u : ℕ → Node
    u l = if is_unbound q l then pick S v q q.body b l else v l

    agrees : (l : ℕ) → is_unbound q l ≡ false → u l ≡ v l
    agrees l e = ap (λ c. cond c (pick S v q q.body b l) (v l)) e

    parts : (l : ℕ) → is_unbound q l ≡ true → (times_in_head l q.head ≡ 0) × (times_in_body l q.body ≡ 1)
    parts l t = let w = and_both (times_in_head l q.head == 0) (times_in_body l q.body == 1) t in
        (eqb-true (times_in_head l q.head) 0 w.0, eqb-true (times_in_body l q.body) 1 w.1)

    head_kept : (l : ℕ) → 0 < times_in_head l q.head → u l ≡ v l
    head_kept l p = go (cases_Bool (is_unbound q l))
      where
        go : (is_unbound q l ≡ true) ⊎ (is_unbound q l ≡ false) → u l ≡ v l
        go (inl t) = let w = parts l t in absurd (omega arith)
        go (inr f) = agrees l f

    serves : Serves S v q u q.body b
    serves l t = let w = parts l t in (omega arith, λ o. ap (λ c. cond c (pick S v q q.body b l) (v l)) t)

simplified_back : (S : Atom → Type 0) (n : ℕ) (q : Query) (tuple : List ℕ) → HasMatch S (simplified n q) tuple → HasMatch S q tuple
simplified_back S zero q tuple h = h
simplified_back S (suc n) q tuple h =
    let p : Query = record { head = q.head; body = distinct_atoms q.body } in
    let w = unbound_back S p tuple (simplified_back S n (with_unbound_any p) tuple h) in
    (w.0, w.1, distinct_back (λ a. (x : Atom) × S x × AtomBecomes w.0 a x) q.body w.2)

-- what the normal form matches, the query matches
pub normal_back : (S : Atom → Type 0) (q : Query) (tuple : List ℕ) → HasMatch S (normal q) tuple → HasMatch S q tuple
normal_back S q tuple (v, head, body) =
    simplified_back S (suc (length q.body)) q tuple (
      v,
      head,
      sorted_back (λ a. (x : Atom) × S x × AtomBecomes v a x)
          (simplified (suc (length q.body)) q).body body,
    )
