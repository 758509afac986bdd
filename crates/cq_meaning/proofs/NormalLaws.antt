-- The normal form keeps each match, and each match of it is one of the query.
use Rattle.std.proofs.Common.{◌≡◌, ℕ, zero, suc, ◌+◌, ◌≤◌, List, [], ◌∷◌, length, filter, refl, sym, subst, arith, Bool, true, false, not, cond}
use Rattle.std.specs.List.{AllZip, AllByRecursion}
use Rattle.std.specs.Ordering.{is_le}
use Rattle.cq_terms.specs.declared.query.Term.{Term}
use Rattle.cq_terms.specs.declared.query.Term.TheVariants.{Var, Ind, Any}
use Rattle.cq_terms.specs.declared.query.QAtom.{QAtom}
use Rattle.cq_terms.specs.declared.query.QAtom.TheVariants as atom
use Rattle.cq_terms.specs.Query.{Query}
use Rattle.cq_meaning.specs.Chase.{Node, Atom}
use Rattle.cq_meaning.specs.Entailment.{Becomes, AtomBecomes, HeadBecomes, HasMatch}
use Rattle.cq_meaning.specs.NormalForm.{map_atom, same_atom, distinct_atoms, is_unbound, unbound_to_any, with_unbound_any, simplified, atom_cmp, insert}
use Rattle.cq_meaning.specs.NormalForm.{sorted, normal}
use Rattle.cq_meaning.proofs.Places.{weight, AllZip-map}

-- ---- what the query matches, the normal form matches, with no more weight

filter_fits : {A B : Type 0} (R : A → B × ℕ → Type 0) (p : A → Bool) (xs : List A) (ys : List (B × ℕ)) → AllZip R xs ys → (zs : List (B × ℕ))
    × AllZip R (filter p xs) zs × (weight zs ≤ weight ys)
filter_fits R p [] [] h = ([], tt, omega arith)
filter_fits R p [] (y ∷ ys) h = absurd h
filter_fits R p (x ∷ xs) [] h = absurd h
filter_fits {A} {B} R p (x ∷ xs) (y ∷ ys) h = go (p x) (filter_fits R p xs ys h.1)
  where
    go : (b : Bool) → (zs : List (B × ℕ)) × AllZip R (filter p xs) zs × (weight zs ≤ weight ys) → (zs : List (B × ℕ))
        × AllZip R (cond b (x ∷ filter p xs) (filter p xs)) zs × (weight zs ≤ weight (y ∷ ys))
    go true (zs, f, l) = (y ∷ zs, (h.0, f), omega arith)
    go false (zs, f, l) = (zs, f, omega arith)

distinct_fits : {B : Type 0} (R : QAtom → B × ℕ → Type 0) (xs : List QAtom) (ys : List (B × ℕ)) → AllZip R xs ys → (zs : List (B × ℕ))
    × AllZip R (distinct_atoms xs) zs × (weight zs ≤ weight ys)
distinct_fits R [] [] h = ([], tt, omega arith)
distinct_fits R [] (y ∷ ys) h = absurd h
distinct_fits R (x ∷ xs) [] h = absurd h
distinct_fits R (x ∷ xs) (y ∷ ys) h =
    let d = distinct_fits R xs ys h.1 in
    let f = filter_fits R (λ b. not (same_atom x b)) (distinct_atoms xs) d.0 d.1 in
    (y ∷ f.0, (h.0, f.1), omega (arith, f.2, d.2))

insert_fits : {B : Type 0} (R : QAtom → B × ℕ → Type 0) (a : QAtom) (e : B × ℕ) → R a e → (xs : List QAtom) (ys : List (B × ℕ)) → AllZip R xs ys
    → (zs : List (B × ℕ)) × AllZip R (insert a xs) zs × (weight zs ≤ e.1 + weight ys)
insert_fits R a e r [] [] h = (e ∷ [], (r, tt), omega arith)
insert_fits R a e r [] (y ∷ ys) h = absurd h
insert_fits R a e r (x ∷ xs) [] h = absurd h
insert_fits {B} R a e r (x ∷ xs) (y ∷ ys) h = go (is_le (atom_cmp a x)) (insert_fits R a e r xs ys h.1)
  where
    go : (b : Bool) → (zs : List (B × ℕ)) × AllZip R (insert a xs) zs × (weight zs ≤ e.1 + weight ys) → (zs : List (B × ℕ))
        × AllZip R (cond b (a ∷ x ∷ xs) (x ∷ insert a xs)) zs × (weight zs ≤ e.1 + weight (y ∷ ys))
    go true w = (e ∷ y ∷ ys, (r, h), omega arith)
    go false (zs, f, l) = (y ∷ zs, (h.0, f), omega arith)

sorted_fits : {B : Type 0} (R : QAtom → B × ℕ → Type 0) (xs : List QAtom) (ys : List (B × ℕ)) → AllZip R xs ys → (zs : List (B × ℕ)) × AllZip R (sorted xs) zs
    × (weight zs ≤ weight ys)
sorted_fits R [] [] h = ([], tt, omega arith)
sorted_fits R [] (y ∷ ys) h = absurd h
sorted_fits R (x ∷ xs) [] h = absurd h
sorted_fits R (x ∷ xs) (y ∷ ys) h =
    let d = sorted_fits R xs ys h.1 in
    let f = insert_fits R x y h.0 (sorted xs) d.0 d.1 in
    (f.0, f.1, omega (arith, f.2, d.2))

pub unbound_keeps : (v : ℕ → Node) (q : Query) (t : Term) (n : Node) → Becomes v t n → Becomes v (unbound_to_any q t) n
unbound_keeps v q (Ind c) n h = h
unbound_keeps v q Any n h = h
unbound_keeps v q (Var l) n h = go (is_unbound q l)
  where
    go : (b : Bool) → Becomes v (cond b Any (Var l)) n
    go true = tt
    go false = h

unbound_atom_keeps : (v : ℕ → Node) (q : Query) (a : QAtom) (x : Atom) → AtomBecomes v a x → AtomBecomes v (map_atom (unbound_to_any q) a) x
unbound_atom_keeps v q (atom.Concept p s) x (n, h, e) = (n, unbound_keeps v q s n h, e)
unbound_atom_keeps v q (atom.Link p s t) x (m, n, h, h', e) = (m, n, unbound_keeps v q s m h, unbound_keeps v q t n h', e)

-- a match of a body in which the i-th atom becomes an atom that has S, of a stage
module _ (S : Atom × ℕ → Type 0) (v : ℕ → Node) where
  -- the atom becomes the atom, which has S
  abbrev pub FitsIn : QAtom → Atom × ℕ → Type 0
  FitsIn a e = S e × AtomBecomes v a e.0

  pub simplified_fits : (n : ℕ) (q : Query) (ys : List (Atom × ℕ)) → AllZip FitsIn q.body ys → (zs : List (Atom × ℕ)) × AllZip FitsIn (simplified n q).body zs
      × (weight zs ≤ weight ys)
  simplified_fits zero q ys h = (ys, h, omega arith)
  simplified_fits (suc n) q ys h =
      let d = distinct_fits FitsIn q.body ys h in
      let p : Query = record { head = q.head; body = distinct_atoms q.body } in
      let r = simplified_fits n (with_unbound_any p) d.0 (AllZip-map FitsIn (map_atom (unbound_to_any p)) (λ a e (s, g). (s, unbound_atom_keeps v p a e.0 g))
      p.body d.0 d.1) in
      (r.0, r.1, omega (arith, r.2, d.2))

  pub normal_fits : (q : Query) (ys : List (Atom × ℕ)) → AllZip FitsIn q.body ys → (zs : List (Atom × ℕ)) × AllZip FitsIn (normal q).body zs
      × (weight zs ≤ weight ys)
  normal_fits q ys h =
      let s = simplified_fits (suc (length q.body)) q ys h in
      let r = sorted_fits FitsIn (simplified (suc (length q.body)) q).body s.0 s.1 in
      (r.0, r.1, omega (arith, r.2, s.2))

head_simplified : (n : ℕ) (q : Query) → (simplified n q).head ≡ q.head
head_simplified zero q = refl
head_simplified (suc n) q = head_simplified n (with_unbound_any (record { head = q.head; body = distinct_atoms q.body }))

pub head_normal : (q : Query) → (normal q).head ≡ q.head
head_normal q = head_simplified (suc (length q.body)) q

-- what the query matches, its normal form matches
pub normal_forth : (S : Atom → Type 0) (q : Query) (tuple : List ℕ) → HasMatch S q tuple → HasMatch S (normal q) tuple
normal_forth S q tuple (v, head, body) =
    let w = images q.body body in
    let r = normal_fits (λ e. S e.0) v q w.0 w.1 in
    (v, subst (λ (h : List Term). HeadBecomes v h tuple) (sym (head_normal q)) head, all (normal q).body r.0 r.1)
  where
    images : (xs : List QAtom) → AllByRecursion (λ a. (x : Atom) × S x × AtomBecomes v a x) xs → (es : List (Atom × ℕ)) × AllZip (FitsIn (λ e. S e.0) v) xs es
    images [] h = ([], tt)
    images (a ∷ xs) (h, t) = let w = images xs t in ((h.0, 0) ∷ w.0, ((h.1, h.2), w.1))

    all : (xs : List QAtom) (es : List (Atom × ℕ)) → AllZip (FitsIn (λ e. S e.0) v) xs es → AllByRecursion (λ a. (x : Atom) × S x × AtomBecomes v a x) xs
    all [] es h = tt
    all (a ∷ xs) [] h = absurd h
    all (a ∷ xs) (e ∷ es) h = ((e.0, h.0.0, h.0.1), all xs es h.1)
