-- A query has one normal form, in whatever order the steps are taken.
use Rattle.std.proofs.Common.{◌≡◌, ℕ, zero, suc, ◌+◌, ◌<◌, ◌≤◌, ◌⊎◌, ◌↔◌, inl, inr, List, [], ◌∷◌, map, Contains, Some, slice_get, refl, sym, subst, ap, ◌∙◌}
use Rattle.std.proofs.Common.{arith, Bool, true, false, cond, ◌==◌, eqb-true, eq-eqb, ne_eqb, eq-zero-or-pos}
use Rattle.std.specs.declared.cmp.Ordering.TheVariants.{Less}
use Rattle.std.proofs.lemmas.Bool.{cases_eq}
use Rattle.cq_terms.specs.declared.query.Term.{Term}
use Rattle.cq_terms.specs.declared.query.Term.TheVariants.{Var, Ind, Any}
use Rattle.cq_terms.specs.declared.query.QAtom.{QAtom}
use Rattle.cq_terms.specs.declared.query.QAtom.TheVariants as atom
use Rattle.cq_terms.specs.Query.{Query}
use Rattle.cq_meaning.specs.NormalForm.{map_atom, substitute, times_in_term, times_in_atom, times_in_head, times_in_body, is_unbound, without, Simplifies}
use Rattle.cq_meaning.specs.NormalForm.{SimplifiesIn, atom_cmp, IsNormalForm}
use Rattle.cq_meaning.proofs.Members.{Contains-head, Contains-later, Contains-cases, Contains-nil, Contains-slice_get}
use Rattle.cq_meaning.proofs.Places.{some_inj, slice_get-without}
use Rattle.cq_meaning.proofs.Extension.{and_both, and_true}
use Rattle.cq_meaning.proofs.Joined.{times_in_other}
use Rattle.cq_meaning.proofs.Apart.{AllApart, apart_not, apart_by_place}
use Rattle.cq_meaning.proofs.AtomOrder.{not_both_ways}
use Rattle.cq_meaning.proofs.Ascending.{pairs_same}

-- each term stays as it is, but for some variables that become `_`
record Forgets (g : Term → Term) : Type 0 where
  ind : (c : ℕ) → g (Ind c) ≡ Ind c
  any : g Any ≡ Any
  var : (l : ℕ) → (g (Var l) ≡ Var l) ⊎ (g (Var l) ≡ Any)

-- the second list has exactly what g makes of the first
abbrev IsImage : (Term → Term) → List QAtom → List QAtom → Type 0
IsImage g xs ys = (a : QAtom) → Contains ys a ↔ ((c : QAtom) × Contains xs c × (map_atom g c ≡ a))

-- ---- what g makes of an atom

map_same : (f g : Term → Term) → ((t : Term) → f t ≡ g t) → (a : QAtom) → map_atom f a ≡ map_atom g a
map_same f g h (atom.Concept p t) = ap (atom.Concept p) (h t)
map_same f g h (atom.Link p s t) = ap (λ (u : Term). atom.Link p u (f t)) (h s) ∙ ap (atom.Link p (g s)) (h t)

map_twice : (f g : Term → Term) (a : QAtom) → map_atom f (map_atom g a) ≡ map_atom (λ t. f (g t)) a
map_twice f g (atom.Concept p t) = refl
map_twice f g (atom.Link p s t) = refl

map_none : (a : QAtom) → map_atom (λ t. t) a ≡ a
map_none (atom.Concept p t) = refl
map_none (atom.Link p s t) = refl

module _ (g : Term → Term) (f : Forgets g) where
  -- a variable that stays, stands as often as before
  term_kept : (l : ℕ) → g (Var l) ≡ Var l → (t : Term) → times_in_term l (g t) ≡ times_in_term l t
  term_kept l e (Ind c) = ap (times_in_term l) (f.ind c)
  term_kept l e Any = ap (times_in_term l) f.any
  term_kept l e (Var i) = go (cases_eq i l) (f.var i)
    where
      go : (i ≡ l) ⊎ (i ≡ l → ⊥) → (g (Var i) ≡ Var i) ⊎ (g (Var i) ≡ Any) → times_in_term l (g (Var i)) ≡ times_in_term l (Var i)
      go w (inl d) = ap (times_in_term l) d
      go (inl k) (inr d) = let h : Var l ≡ Any = sym e ∙ (ap (λ n. g (Var n)) (sym k) ∙ d) in absurd (cc)
      go (inr ne) (inr d) = ap (times_in_term l) d ∙ sym (times_in_other l i ne)

  atom_kept : (l : ℕ) → g (Var l) ≡ Var l → (a : QAtom) → times_in_atom l (map_atom g a) ≡ times_in_atom l a
  atom_kept l e (atom.Concept p t) = term_kept l e t
  atom_kept l e (atom.Link p s t) = let d = term_kept l e s in let k = term_kept l e t in omega arith

  -- one that goes, stands nowhere
  term_gone : (l : ℕ) → g (Var l) ≡ Any → (t : Term) → times_in_term l (g t) ≡ 0
  term_gone l e (Ind c) = ap (times_in_term l) (f.ind c)
  term_gone l e Any = ap (times_in_term l) f.any
  term_gone l e (Var i) = go (cases_eq i l) (f.var i)
    where
      go : (i ≡ l) ⊎ (i ≡ l → ⊥) → (g (Var i) ≡ Var i) ⊎ (g (Var i) ≡ Any) → times_in_term l (g (Var i)) ≡ 0
      go (inl k) w = ap (times_in_term l) (ap (λ n. g (Var n)) k ∙ e)
      go (inr ne) (inl d) = ap (times_in_term l) d ∙ times_in_other l i ne
      go (inr ne) (inr d) = ap (times_in_term l) d

  atom_gone : (l : ℕ) → g (Var l) ≡ Any → (a : QAtom) → times_in_atom l (map_atom g a) ≡ 0
  atom_gone l e (atom.Concept p t) = term_gone l e t
  atom_gone l e (atom.Link p s t) = let d = term_gone l e s in let k = term_gone l e t in omega arith

  -- where each variable of the atom stays, so does the atom
  term_fixed : (t : Term) → ((l : ℕ) → 0 < times_in_term l t → g (Var l) ≡ Var l) → g t ≡ t
  term_fixed (Ind c) h = f.ind c
  term_fixed Any h = f.any
  term_fixed (Var l) h = h l (let e : times_in_term l (Var l) ≡ 1 = ap (λ b. cond b 1 0) (eq-eqb l l refl) in omega arith)

  atom_fixed : (a : QAtom) → ((l : ℕ) → 0 < times_in_atom l a → g (Var l) ≡ Var l) → map_atom g a ≡ a
  atom_fixed (atom.Concept p t) h = ap (atom.Concept p) (term_fixed t h)
  atom_fixed (atom.Link p s t) h = ap (λ (u : Term). atom.Link p u (g t)) (term_fixed s (λ l k. h l (omega arith)))
      ∙ ap (atom.Link p s) (term_fixed t (λ l k. h l (omega arith)))

-- ---- a variable that stands once

at_least : (l : ℕ) (xs : List QAtom) (c : QAtom) → Contains xs c → times_in_atom l c ≤ times_in_body l xs
at_least l [] c m = absurd (Contains-nil c m)
at_least l (x ∷ xs) c m = go (Contains-cases x xs c m) (λ d. at_least l xs c d)
  where
    go : (x ≡ c) ⊎ Contains xs c → (Contains xs c → times_in_atom l c ≤ times_in_body l xs) → times_in_atom l c ≤ times_in_atom l x + times_in_body l xs
    go (inl e) again = let d : times_in_atom l x ≡ times_in_atom l c = ap (times_in_atom l) e in omega arith
    go (inr d) again = let k = again d in omega arith

-- the atom is the only one of the list with the variable, and has it once
record IsOnly (l : ℕ) (xs : List QAtom) (a : QAtom) : Type 0 where
  there : Contains xs a
  once : times_in_atom l a ≡ 1
  alone : (c : QAtom) → Contains xs c → 0 < times_in_atom l c → a ≡ c

the_only : (l : ℕ) (xs : List QAtom) → times_in_body l xs ≡ 1 → (a : QAtom) × IsOnly l xs a
the_only l [] e = absurd (omega arith)
the_only l (x ∷ xs) e = go (eq-zero-or-pos (times_in_atom l x)) (λ d. the_only l xs d)
  where
    go : (times_in_atom l x ≡ 0) ⊎ (0 < times_in_atom l x) → (times_in_body l xs ≡ 1 → (a : QAtom) × IsOnly l xs a) → (a : QAtom) × IsOnly l (x ∷ xs) a
    go (inl z) again = let w = again (omega arith) in (w.0, record { there = Contains-later x xs w.0 w.1.there; once = w.1.once; alone = alone w.0 w.1 })
      where
        alone : (a : QAtom) → IsOnly l xs a → (c : QAtom) → Contains (x ∷ xs) c → 0 < times_in_atom l c → a ≡ c
        alone a o c m p = elim (Contains-cases x xs c m) [
          | inl d ↦ let k : times_in_atom l x ≡ times_in_atom l c = ap (times_in_atom l) d in
              absurd (omega arith)
          | inr d ↦ o.alone c d p
        ]
    go (inr p) again = (x, record { there = Contains-head x xs; once = omega arith; alone = alone })
      where
        alone : (c : QAtom) → Contains (x ∷ xs) c → 0 < times_in_atom l c → x ≡ c
        alone c m k = elim (Contains-cases x xs c m) [ inl d ↦ d | inr d ↦ let w = at_least l xs c d in absurd (omega arith) ]

none_there : (l : ℕ) (ys : List QAtom) → ((c : QAtom) → Contains ys c → 0 < times_in_atom l c → ⊥) → times_in_body l ys ≡ 0
none_there l [] h = refl
none_there l (y ∷ ys) h = go (eq-zero-or-pos (times_in_atom l y)) (none_there l ys (λ c m. h c (Contains-later y ys c m)))
  where
    go : (times_in_atom l y ≡ 0) ⊎ (0 < times_in_atom l y) → times_in_body l ys ≡ 0 → times_in_atom l y + times_in_body l ys ≡ 0
    go (inl z) e = omega arith
    go (inr p) e = absurd (h y (Contains-head y ys) p)

only_once : (l : ℕ) (ys : List QAtom) → AllApart ys → (a : QAtom) → IsOnly l ys a → times_in_body l ys ≡ 1
only_once l [] h a o = absurd (Contains-nil a o.there)
only_once l (y ∷ ys) h a o = go (Contains-cases y ys a o.there) (eq-zero-or-pos (times_in_atom l y)) (λ w. only_once l ys h.1 a w)
  where
    go : (y ≡ a) ⊎ Contains ys a → (times_in_atom l y ≡ 0) ⊎ (0 < times_in_atom l y) → (IsOnly l ys a → times_in_body l ys ≡ 1)
        → times_in_atom l y + times_in_body l ys ≡ 1
    go (inl e) w again =
        let k : times_in_atom l y ≡ 1 = ap (times_in_atom l) e ∙ o.once in
        let z = none_there l ys (λ c m p. apart_not y ys h.0 c m (e ∙ o.alone c (Contains-later y ys c m) p)) in omega arith
    go (inr d) (inr p) again = absurd (apart_not y ys h.0 a d (sym (o.alone y (Contains-head y ys) p)))
    go (inr d) (inl z) again = let k = again (record { there = d; once = o.once; alone = λ c m. o.alone c (Contains-later y ys c m) }) in omega arith

-- an unbound variable that stays, is unbound in an image with no atom twice
still_unbound : (g : Term → Term) → Forgets g → (b r : Query) → b.head ≡ r.head → IsImage g b.body r.body → AllApart r.body → (l : ℕ) → g (Var l) ≡ Var l
    → is_unbound b l ≡ true → is_unbound r l ≡ true
still_unbound g f b r e image apart l fixed t =
    let w = and_both (times_in_head l b.head == 0) (times_in_body l b.body == 1) t in
    let one = the_only l b.body (eqb-true (times_in_body l b.body) 1 w.1) in
    let head : times_in_head l r.head ≡ 0 = ap (times_in_head l) (sym e) ∙ eqb-true (times_in_head l b.head) 0 w.0 in
    and_true (times_in_head l r.head == 0) (times_in_body l r.body == 1) (eq-eqb (times_in_head l r.head) 0 head)
    (eq-eqb (times_in_body l r.body) 1 (only_once l r.body apart (map_atom g one.0) (made one.0 one.1)))
  where
    made : (a : QAtom) → IsOnly l b.body a → IsOnly l r.body (map_atom g a)
    made a o = record {
      there = (image (map_atom g a)).1 (a, o.there, refl);
      once = atom_kept g f l fixed a ∙ o.once;
      alone = λ c m p. let d = (image c).0 m in
          ap (map_atom g) (o.alone d.0 d.1 (let k = atom_kept g f l fixed d.0 in let k' : times_in_atom l (map_atom g d.0) ≡ times_in_atom l c =
          ap (times_in_atom l) d.2 in omega arith)) ∙ d.2;
    }

-- ---- one step

left_out : (xs : List QAtom) (j : ℕ) (c : QAtom) → Contains (without xs j) c → Contains xs c
left_out [] j c m = m
left_out (x ∷ xs) zero c m = Contains-later x xs c m
left_out (x ∷ xs) (suc j) c m = elim (Contains-cases x (without xs j) c m)
    [ inl e ↦ subst (Contains (x ∷ xs)) e (Contains-head x xs) | inr d ↦ Contains-later x xs c (left_out xs j c d) ]

left_in : (xs : List QAtom) (j : ℕ) (a c : QAtom) → slice_get xs j ≡ Some a → Contains xs c → (a ≡ c) ⊎ Contains (without xs j) c
left_in [] j a c e m = inr m
left_in (x ∷ xs) zero a c e m = elim (Contains-cases x xs c m) [ inl d ↦ inl (sym (some_inj e) ∙ d) | inr d ↦ inr d ]
left_in (x ∷ xs) (suc j) a c e m = go (Contains-cases x xs c m) (λ d. left_in xs j a c e d)
  where
    go : (x ≡ c) ⊎ Contains xs c → (Contains xs c → (a ≡ c) ⊎ Contains (without xs j) c) → (a ≡ c) ⊎ Contains (x ∷ without xs j) c
    go (inl d) again = inr (subst (Contains (x ∷ without xs j)) d (Contains-head x (without xs j)))
    go (inr d) again = elim (again d) [ inl k ↦ inl k | inr k ↦ inr (Contains-later x (without xs j) c k) ]

-- an atom that stands at an earlier place too is taken out
same_atoms : (xs : List QAtom) (i j : ℕ) (a : QAtom) → i < j → slice_get xs i ≡ Some a → slice_get xs j ≡ Some a → (c : QAtom) → Contains (without xs j) c
    ↔ Contains xs c
same_atoms xs i j a ij e d c = (
  left_out xs j c,
  λ m. elim (left_in xs j a c d m)
      [ inl k ↦ subst (Contains (without xs j)) k (Contains-slice_get (without xs j) i a (slice_get-without xs i j ij ∙ e)) | inr k ↦ k ],
)

Contains-map : (f : QAtom → QAtom) (xs : List QAtom) (b : QAtom) → Contains (map f xs) b ↔ ((c : QAtom) × Contains xs c × (f c ≡ b))
Contains-map f [] b = ((λ m. absurd (Contains-nil b m)), (λ (c, m, e). absurd (Contains-nil c m)))
Contains-map f (x ∷ xs) b = go (Contains-map f xs b)
  where
    go : Contains (map f xs) b ↔ ((c : QAtom) × Contains xs c × (f c ≡ b)) → Contains (f x ∷ map f xs) b ↔ ((c : QAtom) × Contains (x ∷ xs) c × (f c ≡ b))
    go w = (
      (λ m. elim (Contains-cases (f x) (map f xs) b m) [
        | inl e ↦ (x, Contains-head x xs, e)
        | inr d ↦ let u = w.0 d in
            (u.0, Contains-later x xs u.0 u.1, u.2)
      ]),
      (λ (c, m, e). elim (Contains-cases x xs c m) [
        | inl d ↦ subst (Contains (f x ∷ map f xs)) (ap f d ∙ e) (Contains-head (f x) (map f xs))
        | inr d ↦
            Contains-later (f x) (map f xs) b (w.1 (c, d, e))
      ]),
    )

image_like : (g : Term → Term) (xs xs' ys : List QAtom) → ((c : QAtom) → Contains xs c ↔ Contains xs' c) → IsImage g xs ys → IsImage g xs' ys
image_like g xs xs' ys same h a = (
  (λ m. let w = (h a).0 m in (w.0, (same w.0).0 w.1, w.2)),
  (λ (c, m, e). (h a).1 (c, (same c).1 m, e)),
)

-- the image of what f makes, and of the list before
image_before : (f g : Term → Term) (xs ys : List QAtom) → IsImage g (map (map_atom f) xs) ys → IsImage (λ t. g (f t)) xs ys
image_before f g xs ys h a = (
  (λ m. let w = (h a).0 m in let u = (Contains-map (map_atom f) xs w.0).0 w.1 in (u.0, u.1, sym (map_twice g f u.0) ∙ (ap (map_atom g) u.2 ∙ w.2))),
  (λ (c, m, e). (h a).1 (map_atom f c, (Contains-map (map_atom f) xs (map_atom f c)).1 (c, m, refl), map_twice g f c ∙ e)),
)

image_after : (f g : Term → Term) → ((t : Term) → g (f t) ≡ g t) → (xs ys : List QAtom) → IsImage g xs ys → IsImage g (map (map_atom f) xs) ys
image_after f g k xs ys h a = (
  (λ m. let w = (h a).0 m in (
    map_atom f w.0,
    (Contains-map (map_atom f) xs (map_atom f w.0)).1 (w.0, w.1, refl),
    map_twice g f w.0
        ∙ (map_same (λ t. g (f t)) g k w.0 ∙ w.2),
  )),
  (λ (c, m, e). let u = (Contains-map (map_atom f) xs c).0 m in
      (h a).1 (u.0, u.1, sym (map_same (λ t. g (f t)) g k u.0) ∙ (sym (map_twice g f u.0) ∙ (ap (map_atom g) u.2 ∙ e)))),
)

forgets_first : (l : ℕ) (g : Term → Term) → Forgets g → Forgets (λ t. g (substitute l Any t))
forgets_first l g f = record { ind = f.ind; any = f.any; var = λ i. go i (l == i) }
  where
    go : (i : ℕ) (b : Bool) → (g (cond b Any (Var i)) ≡ Var i) ⊎ (g (cond b Any (Var i)) ≡ Any)
    go i true = inr f.any
    go i false = f.var i

-- what the steps reach is an image of the query
reached_image : (n : ℕ) (q r : Query) → SimplifiesIn n q r → (q.head ≡ r.head) × (g : Term → Term) × Forgets g × IsImage g q.body r.body
reached_image zero q r e = (
  ap (λ (p : Query). p.head) e,
  (λ t. t),
  record { ind = λ c. refl; any = refl; var = λ l. inl refl },
  λ a. (
    (λ m. (a, subst (λ (p : Query). Contains p.body a) (sym e) m, map_none a)),
    (λ (c, m, d). subst (Contains r.body) (sym (map_none c) ∙ d) (subst (λ (p : Query). Contains p.body c) e m)),
  ),
)
reached_image (suc n) q r (p, step, h) = go step (reached_image n p r h)
  where
    go : Simplifies q p → (p.head ≡ r.head) × (g : Term → Term) × Forgets g × IsImage g p.body r.body → (q.head ≡ r.head) × (g : Term → Term) × Forgets g
        × IsImage g q.body r.body
    go (inl (i, j, a, ij, e, d, k)) (head, g, f, image) = (
      sym (ap (λ (p : Query). p.head) k) ∙ head,
      g,
      f,
      image_like g (without q.body j) q.body r.body (same_atoms q.body i j a ij e d) (subst (λ (p : Query). IsImage g p.body r.body) k image),
    )
    go (inr (l, t, k)) (head, g, f, image) = (
      sym (ap (λ (p : Query). p.head) k) ∙ head,
      (λ t. g (substitute l Any t)),
      forgets_first l g f,
      image_before (substitute l Any) g q.body r.body (subst (λ (p : Query). IsImage g p.body r.body) k image),
    )

-- ---- two ways to the end

-- what further steps reach still has the finished query as its image
walk : (g : Term → Term) → Forgets g → (r : Query) → ((s : Query) → ¬ Simplifies r s) → (n : ℕ) (b s : Query) → SimplifiesIn n b s → b.head ≡ r.head
    → IsImage g b.body r.body → IsImage g s.body r.body
walk g f r stop zero b s e head image = subst (λ (p : Query). IsImage g p.body r.body) e image
walk g f r stop (suc n) b s (p, step, h) head image = walk g f r stop n p s h (go step).0 (go step).1
  where
    apart : AllApart r.body
    apart = apart_by_place r.body (λ i j a ij e d. stop (record { head = r.head; body = without r.body j }) (inl (i, j, a, ij, e, d, refl)))

    gone : (l : ℕ) → is_unbound b l ≡ true → (g (Var l) ≡ Var l) ⊎ (g (Var l) ≡ Any) → g (Var l) ≡ Any
    gone l t (inl e) = absurd (stop (record { head = r.head; body = map (map_atom (substitute l Any)) r.body })
        (inr (l, still_unbound g f b r head image apart l e t, refl)))
    gone l t (inr e) = e

    ignores : (l : ℕ) → g (Var l) ≡ Any → (t : Term) → g (substitute l Any t) ≡ g t
    ignores l e (Ind c) = refl
    ignores l e Any = refl
    ignores l e (Var i) = elim (cases_eq l i) [
      | inl d ↦ ap (λ b. g (cond b Any (Var i))) (eq-eqb l i d) ∙ (f.any ∙ (sym e ∙ ap (λ k. g (Var k)) d))
      | inr ne ↦ ap (λ b. g (cond b Any (Var i))) (ne_eqb l i ne)
    ]

    go : Simplifies b p → (p.head ≡ r.head) × IsImage g p.body r.body
    go (inl (i, j, a, ij, e, d, k)) = (
      ap (λ (p : Query). p.head) k ∙ head,
      subst (λ (p : Query). IsImage g p.body r.body) (sym k) (image_like g b.body (without b.body j) r.body
          (λ c. let w = same_atoms b.body i j a ij e d c in (w.1, w.0)) image),
    )
    go (inr (l, t, k)) = (
      ap (λ (p : Query). p.head) k ∙ head,
      subst (λ (p : Query). IsImage g p.body r.body) (sym k) (image_after (substitute l Any) g (ignores l (gone l t (f.var l))) b.body r.body image),
    )

-- two lists that are images of each other have the same atoms
each_in_other : (g h : Term → Term) → Forgets g → Forgets h → (xs ys : List QAtom) → IsImage g xs ys → IsImage h ys xs → (a : QAtom) → Contains xs a
    → Contains ys a
each_in_other g h f k xs ys there back a m = subst (Contains ys) (atom_fixed g f a (λ l p. fixed l p (f.var l))) ((there (map_atom g a)).1 (a, m, refl))
  where
    fixed : (l : ℕ) → 0 < times_in_atom l a → (g (Var l) ≡ Var l) ⊎ (g (Var l) ≡ Any) → g (Var l) ≡ Var l
    fixed l p (inl e) = e
    fixed l p (inr e) =
        let d = (back a).0 m in
        let c = (there d.0).0 d.1 in
        let z : times_in_atom l d.0 ≡ 0 = sym (ap (times_in_atom l) c.2) ∙ atom_gone g f l e c.0 in
        let y : times_in_atom l (map_atom h d.0) ≡ times_in_atom l a = ap (times_in_atom l) d.2 in
        absurd (let w = atom_least l d.0 in omega arith)
      where
        atom_least : (l : ℕ) (d : QAtom) → times_in_atom l (map_atom h d) ≤ times_in_atom l d
        atom_least l d = elim (k.var l) [ inl e ↦ let w = atom_kept h k l e d in omega arith | inr e ↦ let w = atom_gone h k l e d in omega arith ]

-- a query has one normal form
pub normal_unique : (q p p' : Query) → IsNormalForm q p → IsNormalForm q p' → p ≡ p'
normal_unique q p p' (n, r, s, stop, e, o) (n', r', s', stop', e', o') =
    let i = reached_image n q r s in
    let i' = reached_image n' q r' s' in
    let there = walk i.1 i.2 r stop n' q r' s' i.0 i.3 in
    let back = walk i'.1 i'.2 r' stop' n q r s i'.0 i'.3 in
    let to = each_in_other i.1 i'.1 i.2 i'.2 r'.body r.body there back in
    let from = each_in_other i'.1 i.1 i'.2 i.2 r.body r'.body back there in
    let heads : p.head ≡ p'.head = e ∙ (sym i.0 ∙ (i'.0 ∙ sym e')) in
    let bodies : p.body ≡ p'.body = pairs_same (λ a b. atom_cmp a b ≡ Less) not_both_ways p.body p'.body o.ascending o'.ascending
    (λ a m. (o'.same a).1 (from a ((o.same a).0 m))) (λ a m. (o.same a).1 (to a ((o'.same a).0 m))) in
    ap (λ (h : List Term). record { head = h; body = p.body }) heads ∙ ap (λ (b : List QAtom). record { head = p'.head; body = b }) bodies
