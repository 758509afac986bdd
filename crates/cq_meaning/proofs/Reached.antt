-- The steps of the normal form reach what the counted rounds give.
use Rattle.std.proofs.Common.{◌≡◌, ◌≢◌, ℕ, zero, suc, ◌+◌, ◌<◌, ◌≤◌, ◌⊎◌, inl, inr, List, [], ◌∷◌, length, map, filter, refl, sym, subst, ap, ◌∙◌, arith}
use Rattle.std.proofs.Common.{Bool, true, false, not, cond, ◌==◌, ◌&&◌, eq-eqb, ne_eqb, slice_get, Some}
use Rattle.std.specs.Prelude.{nat_lt}
use Rattle.std.proofs.lemmas.Bool.{cases_Bool, cases_eq, cases_lt, lt-ltb, le-ltb}
use Rattle.cq_terms.specs.declared.query.Term.{Term}
use Rattle.cq_terms.specs.declared.query.Term.TheVariants.{Var, Ind, Any}
use Rattle.cq_terms.specs.declared.query.QAtom.{QAtom}
use Rattle.cq_terms.specs.declared.query.QAtom.TheVariants as atom
use Rattle.cq_terms.specs.Query.{Query}
use Rattle.cq_meaning.specs.NormalForm.{map_atom, same_atom, distinct_atoms, times_in_term, times_in_head, is_unbound, unbound_to_any, with_unbound_any}
use Rattle.cq_meaning.specs.NormalForm.{simplified, normal, substitute, without, SimplifiesIn, IsNormalForm}
use Rattle.cq_meaning.proofs.Joined.{count_same, times_in_other}
use Rattle.cq_meaning.proofs.NormalBack.{same_atom_is}
use Rattle.cq_meaning.proofs.Settled.{rounds_finish, rounds_settle, settled_distinct}
use Rattle.cq_meaning.proofs.Apart.{AllApart, distinct_apart, sorted_ordered}

pub chain : (m n : ℕ) (p q r : Query) → SimplifiesIn m p q → SimplifiesIn n q r → (k : ℕ) × SimplifiesIn k p r
chain zero n p q r e h = (n, subst (λ (s : Query). SimplifiesIn n s r) (sym e) h)
chain (suc m) n p q r (s, w, k) h = let c = chain m n s q r k h in (suc c.0, (s, w, c.1))

-- ---- equal atoms

-- one atom equal to a is taken out
abbrev Drops : QAtom → List QAtom → List QAtom → Type 0
Drops a xs ys = (j : ℕ) × (slice_get xs j ≡ Some a) × (ys ≡ without xs j)

-- n such atoms are taken out
abbrev DropsIn : QAtom → ℕ → List QAtom → List QAtom → Type 0
DropsIn a zero xs ys = xs ≡ ys
DropsIn a (suc n) xs ys = (zs : List QAtom) × Drops a xs zs × DropsIn a n zs ys

drops_under : (a b : QAtom) (n : ℕ) (xs ys : List QAtom) → DropsIn a n xs ys → DropsIn a n (b ∷ xs) (b ∷ ys)
drops_under a b zero xs ys e = ap (λ (l : List QAtom). b ∷ l) e
drops_under a b (suc n) xs ys (zs, (j, g, e), h) = (b ∷ zs, (suc j, g, ap (λ (l : List QAtom). b ∷ l) e), drops_under a b n zs ys h)

drops_more : (a : QAtom) (n : ℕ) (xs ys zs : List QAtom) → DropsIn a n xs ys → Drops a ys zs → DropsIn a (suc n) xs zs
drops_more a zero xs ys zs e d = (zs, subst (λ (l : List QAtom). Drops a l zs) (sym e) d, refl)
drops_more a (suc n) xs ys zs (us, w, h) d = (us, w, drops_more a n us ys zs h d)

filtered : (a : QAtom) (xs : List QAtom) → (n : ℕ) × DropsIn a n xs (filter (λ b. not (same_atom a b)) xs)
filtered a [] = (0, refl)
filtered a (b ∷ xs) = go (same_atom a b) refl (filtered a xs)
  where
    go : (c : Bool) → same_atom a b ≡ c → (n : ℕ) × DropsIn a n xs (filter (λ b. not (same_atom a b)) xs)
        → (n : ℕ) × DropsIn a n (b ∷ xs) (cond (not c) (b ∷ filter (λ b. not (same_atom a b)) xs) (filter (λ b. not (same_atom a b)) xs))
    go true e (n, h) = (
      suc n,
      drops_more a n (b ∷ xs) (b ∷ filter (λ b. not (same_atom a b)) xs) (filter (λ b. not (same_atom a b)) xs)
          (drops_under a b n xs _ h) (0, ap Some (sym (same_atom_is a b e)), refl),
    )
    go false e (n, h) = (n, drops_under a b n xs _ h)

-- the same for a list with some atom before
abbrev Removes : List QAtom → List QAtom → Type 0
Removes xs ys = (i : ℕ) × (j : ℕ) × (a : QAtom) × (i < j) × (slice_get xs i ≡ Some a) × (slice_get xs j ≡ Some a) × (ys ≡ without xs j)

-- n such steps
abbrev RemovesIn : ℕ → List QAtom → List QAtom → Type 0
RemovesIn zero xs ys = xs ≡ ys
RemovesIn (suc n) xs ys = (zs : List QAtom) × Removes xs zs × RemovesIn n zs ys

removes_under : (b : QAtom) (n : ℕ) (xs ys : List QAtom) → RemovesIn n xs ys → RemovesIn n (b ∷ xs) (b ∷ ys)
removes_under b zero xs ys e = ap (λ (l : List QAtom). b ∷ l) e
removes_under b (suc n) xs ys (zs, (i, j, a, l, g, h, e), r) =
    (b ∷ zs, (suc i, suc j, a, omega arith, g, h, ap (λ (l : List QAtom). b ∷ l) e), removes_under b n zs ys r)

removes_drops : (a : QAtom) (n : ℕ) (xs ys : List QAtom) → DropsIn a n xs ys → RemovesIn n (a ∷ xs) (a ∷ ys)
removes_drops a zero xs ys e = ap (λ (l : List QAtom). a ∷ l) e
removes_drops a (suc n) xs ys (zs, (j, g, e), h) = (a ∷ zs, (0, suc j, a, omega arith, refl, g, ap (λ (l : List QAtom). a ∷ l) e), removes_drops a n zs ys h)

removes_then : (m n : ℕ) (xs ys zs : List QAtom) → RemovesIn m xs ys → RemovesIn n ys zs → (k : ℕ) × RemovesIn k xs zs
removes_then zero n xs ys zs e h = (n, subst (λ (l : List QAtom). RemovesIn n l zs) (sym e) h)
removes_then (suc m) n xs ys zs (us, w, k) h = let c = removes_then m n us ys zs k h in (suc c.0, (us, w, c.1))

distinct_removes : (xs : List QAtom) → (n : ℕ) × RemovesIn n xs (distinct_atoms xs)
distinct_removes [] = (0, refl)
distinct_removes (a ∷ xs) =
    let w = distinct_removes xs in
    let f = filtered a (distinct_atoms xs) in
    removes_then w.0 f.0 (a ∷ xs) (a ∷ distinct_atoms xs) (distinct_atoms (a ∷ xs)) (removes_under a w.0 xs (distinct_atoms xs) w.1)
    (removes_drops a f.0 (distinct_atoms xs) _ f.1)

removes_simplify : (head : List Term) (n : ℕ) (xs ys : List QAtom) → RemovesIn n xs ys
    → SimplifiesIn n (record { head = head; body = xs }) (record { head = head; body = ys })
removes_simplify head zero xs ys e = ap (λ (b : List QAtom). record { head = head; body = b }) e
removes_simplify head (suc n) xs ys (zs, (i, j, a, l, g, h, e), r) =
    (record { head = head; body = zs }, inl (i, j, a, l, g, h, ap (λ (b : List QAtom). record { head = head; body = b }) e), removes_simplify head n zs ys r)

-- ---- unbound variables

-- the query with another body
abbrev only_body : Query → List QAtom → Query
only_body q b = record { head = q.head; body = b }

map_like : (f g : Term → Term) → ((t : Term) → f t ≡ g t) → (body : List QAtom) → map (map_atom f) body ≡ map (map_atom g) body
map_like f g h [] = refl
map_like f g h (atom.Concept p t ∷ body) =
    ap (λ (s : Term). atom.Concept p s ∷ map (map_atom f) body) (h t) ∙ ap (λ (b : List QAtom). atom.Concept p (g t) ∷ b) (map_like f g h body)
map_like f g h (atom.Link p s t ∷ body) =
    ap (λ (u : Term). atom.Link p u (f t) ∷ map (map_atom f) body) (h s)
    ∙ (ap (λ (u : Term). atom.Link p (g s) u ∷ map (map_atom f) body) (h t) ∙ ap (λ (b : List QAtom). atom.Link p (g s) (g t) ∷ b) (map_like f g h body))

map_same : (body : List QAtom) → map (map_atom (λ t. t)) body ≡ body
map_same [] = refl
map_same (atom.Concept p t ∷ body) = ap (λ (b : List QAtom). atom.Concept p t ∷ b) (map_same body)
map_same (atom.Link p s t ∷ body) = ap (λ (b : List QAtom). atom.Link p s t ∷ b) (map_same body)

map_twice : (f g : Term → Term) (body : List QAtom) → map (map_atom f) (map (map_atom g) body) ≡ map (map_atom (λ t. f (g t))) body
map_twice f g [] = refl
map_twice f g (atom.Concept p t ∷ body) = ap (λ (b : List QAtom). atom.Concept p (f (g t)) ∷ b) (map_twice f g body)
map_twice f g (atom.Link p s t ∷ body) = ap (λ (b : List QAtom). atom.Link p (f (g s)) (f (g t)) ∷ b) (map_twice f g body)

lt_other : (l m : ℕ) → l ≢ m → nat_lt l (suc m) ≡ nat_lt l m
lt_other l m ne = go (cases_lt l m)
  where
    go : (l < m) ⊎ (m ≤ l) → nat_lt l (suc m) ≡ nat_lt l m
    go (inl h) = lt-ltb l (suc m) (omega arith) ∙ sym (lt-ltb l m h)
    go (inr h) = le-ltb l (suc m) (omega arith) ∙ sym (le-ltb l m h)

-- a number above each variable
abbrev top_term : Term → ℕ
top_term (Var l) = suc l
top_term (Ind c) = 0
top_term Any = 0

abbrev top_body : List QAtom → ℕ
top_body [] = 0
top_body (atom.Concept p t ∷ body) = top_term t + top_body body
top_body (atom.Link p s t ∷ body) = (top_term s + top_term t) + top_body body

module _ (q : Query) where
  -- the unbound variables below m become `_`
  abbrev below : ℕ → Term → Term
  below m (Var l) = cond (nat_lt l m && is_unbound q l) Any (Var l)
  below m (Ind c) = Ind c
  below m Any = Any

  -- the query with `_` for its unbound variables below m
  abbrev partial : ℕ → Query
  partial m = only_body q (map (map_atom (below m)) q.body)

  none_below : (t : Term) → below 0 t ≡ t
  none_below (Var l) = ap (λ b. cond (b && is_unbound q l) Any (Var l)) (le-ltb l 0 (omega arith))
  none_below (Ind c) = refl
  none_below Any = refl

  stays_below : (m : ℕ) → is_unbound q m ≡ false → (t : Term) → below m t ≡ below (suc m) t
  stays_below m f (Ind c) = refl
  stays_below m f Any = refl
  stays_below m f (Var l) = go (cases_eq l m)
    where
      go : (l ≡ m) ⊎ (l ≡ m → ⊥) → cond (nat_lt l m && is_unbound q l) Any (Var l) ≡ cond (nat_lt l (suc m) && is_unbound q l) Any (Var l)
      go (inl e) =
          let s : is_unbound q l ≡ false = ap (is_unbound q) e ∙ f in
          ap (λ b. cond (b && is_unbound q l) Any (Var l)) (le-ltb l m (omega arith))
          ∙ sym (ap (λ b. cond (b && is_unbound q l) Any (Var l)) (lt-ltb l (suc m) (omega arith)) ∙ ap (λ b. cond b Any (Var l)) s)
      go (inr ne) = ap (λ b. cond (b && is_unbound q l) Any (Var l)) (sym (lt_other l m ne))

  one_more : (m : ℕ) → is_unbound q m ≡ true → (t : Term) → substitute m Any (below m t) ≡ below (suc m) t
  one_more m s (Ind c) = refl
  one_more m s Any = refl
  one_more m s (Var l) = go (cases_eq l m)
    where
      either : (b : Bool) → l ≢ m → substitute m Any (cond b Any (Var l)) ≡ cond b Any (Var l)
      either true ne = refl
      either false ne = ap (λ b. cond b Any (Var l)) (ne_eqb m l (λ e. ne (sym e)))

      go : (l ≡ m) ⊎ (l ≡ m → ⊥) → substitute m Any (cond (nat_lt l m && is_unbound q l) Any (Var l)) ≡ cond (nat_lt l (suc m) && is_unbound q l) Any (Var l)
      go (inl e) =
          ap (λ b. substitute m Any (cond (b && is_unbound q l) Any (Var l))) (le-ltb l m (omega arith))
          ∙ (ap (λ b. cond b Any (Var l)) (eq-eqb m l (sym e))
          ∙ sym (ap (λ b. cond (b && is_unbound q l) Any (Var l)) (lt-ltb l (suc m) (omega arith)) ∙ ap (λ b. cond b Any (Var l)) (ap (is_unbound q) e ∙ s)))
      go (inr ne) = either (nat_lt l m && is_unbound q l) ne ∙ ap (λ b. cond (b && is_unbound q l) Any (Var l)) (sym (lt_other l m ne))

  count_below : (m : ℕ) (t : Term) → times_in_term m (below m t) ≡ times_in_term m t
  count_below m (Ind c) = refl
  count_below m Any = refl
  count_below m (Var l) = go (cases_eq l m)
    where
      either : (b : Bool) → l ≢ m → times_in_term m (cond b Any (Var l)) ≡ times_in_term m (Var l)
      either true ne = sym (times_in_other m l ne)
      either false ne = refl

      go : (l ≡ m) ⊎ (l ≡ m → ⊥) → times_in_term m (cond (nat_lt l m && is_unbound q l) Any (Var l)) ≡ times_in_term m (Var l)
      go (inl e) = ap (λ b. times_in_term m (cond (b && is_unbound q l) Any (Var l))) (le-ltb l m (omega arith))
      go (inr ne) = either (nat_lt l m && is_unbound q l) ne

  still_unbound : (m : ℕ) → is_unbound (partial m) m ≡ is_unbound q m
  still_unbound m = ap (λ n. times_in_head m q.head == 0 && n == 1) (count_same m (below m) (count_below m) q.body)

  more : (m : ℕ) (n : ℕ) (p : Query) → SimplifiesIn n p (partial m) → (n : ℕ) × SimplifiesIn n p (partial (suc m))
  more m n p h = go (cases_Bool (is_unbound q m))
    where
      go : (is_unbound q m ≡ true) ⊎ (is_unbound q m ≡ false) → (n : ℕ) × SimplifiesIn n p (partial (suc m))
      go (inl s) =
          let e : map (map_atom (below (suc m))) q.body ≡ map (map_atom (substitute m Any)) (map (map_atom (below m)) q.body) =
          sym (map_twice (substitute m Any) (below m) q.body ∙ map_like (λ t. substitute m Any (below m t)) (below (suc m)) (one_more m s) q.body) in
          chain n 1 p (partial m) (partial (suc m)) h (partial (suc m), inr (m, still_unbound m ∙ s, ap (only_body q) e), refl)
      go (inr f) = (n, subst (λ (r : Query). SimplifiesIn n p r) (ap (only_body q) (map_like (below m) (below (suc m)) (stays_below m f) q.body)) h)

  unbound_below : (m : ℕ) → (n : ℕ) × SimplifiesIn n q (partial m)
  unbound_below zero = (0, ap (only_body q) (sym (map_like (below 0) (λ t. t) none_below q.body ∙ map_same q.body)))
  unbound_below (suc m) = let w = unbound_below m in more m w.0 q w.1

  all_below : (m : ℕ) (t : Term) → top_term t ≤ m → below m t ≡ unbound_to_any q t
  all_below m (Ind c) l = refl
  all_below m Any l = refl
  all_below m (Var i) l = ap (λ b. cond (b && is_unbound q i) Any (Var i)) (lt-ltb i m (omega arith))

  all_body : (m : ℕ) (body : List QAtom) → top_body body ≤ m → map (map_atom (below m)) body ≡ map (map_atom (unbound_to_any q)) body
  all_body m [] l = refl
  all_body m (atom.Concept p t ∷ body) l =
      ap (λ (s : Term). atom.Concept p s ∷ map (map_atom (below m)) body) (all_below m t (omega arith))
      ∙ ap (λ (b : List QAtom). atom.Concept p (unbound_to_any q t) ∷ b) (all_body m body (omega arith))
  all_body m (atom.Link p s t ∷ body) l =
      ap (λ (u : Term). atom.Link p u (below m t) ∷ map (map_atom (below m)) body) (all_below m s (omega arith))
      ∙ (ap (λ (u : Term). atom.Link p (unbound_to_any q s) u ∷ map (map_atom (below m)) body) (all_below m t (omega arith))
      ∙ ap (λ (b : List QAtom). atom.Link p (unbound_to_any q s) (unbound_to_any q t) ∷ b) (all_body m body (omega arith)))

  with_unbound_any_reached : (n : ℕ) × SimplifiesIn n q (with_unbound_any q)
  with_unbound_any_reached =
      let w = unbound_below (top_body q.body) in
      (w.0, subst (λ (r : Query). SimplifiesIn w.0 q r) (ap (only_body q) (all_body (top_body q.body) q.body (omega arith))) w.1)

-- ---- rounds

simplified_reached : (k : ℕ) (q : Query) → (n : ℕ) × SimplifiesIn n q (simplified k q)
simplified_reached zero q = (0, refl)
simplified_reached (suc k) q =
    let d = only_body q (distinct_atoms q.body) in
    let a = distinct_removes q.body in
    let b = with_unbound_any_reached d in
    let c = simplified_reached k (with_unbound_any d) in
    let e = chain b.0 c.0 d (with_unbound_any d) (simplified (suc k) q) b.1 c.1 in
    chain a.0 e.0 q d (simplified (suc k) q) (removes_simplify q.head a.0 q.body (distinct_atoms q.body) a.1) e.1

-- the normal form is what the two steps reach and neither changes, in order
pub normal_is : (q : Query) → IsNormalForm q (normal q)
normal_is q =
    let r : Query = simplified (suc (length q.body)) q in
    let w = simplified_reached (suc (length q.body)) q in
    let a : AllApart r.body = subst AllApart (settled_distinct r (rounds_settle q)) (distinct_apart r.body) in
    (w.0, r, w.1, rounds_finish q, refl, sorted_ordered r.body a)
