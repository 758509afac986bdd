-- Equal codes are of equal queries, and what a set of codes has.
use Rattle.std.proofs.Common.{◌≡◌, ◌≢◌, ◌↔◌, ℕ, ◌⊎◌, inl, inr, Bool, true, false, List, [], ◌∷◌, ◌++◌, map, Contains, cond, refl, ap, sym, subst, ◌∙◌}
use Rattle.std.proofs.Common.{arith, true≢false, Vec}
use Rattle.std.specs.List.{list_any}
use Rattle.std.specs.Str.{bytes_eq}
use Rattle.std.proofs.lemmas.Slice.Eq.{bytes_eq-Decides}
use Rattle.std.proofs.lemmas.List.{map-append}
use Rattle.indexmap.specs.IndexSet.{insert_key}
use Rattle.cq_terms.specs.declared.query.Term.{Term}
use Rattle.cq_terms.specs.declared.query.Term.TheVariants.{Var, Ind}
use Rattle.cq_terms.specs.declared.query.Term.TheVariants as term
use Rattle.cq_terms.specs.declared.query.QAtom.{QAtom}
use Rattle.cq_terms.specs.declared.query.QAtom.TheVariants as atom
use Rattle.cq_terms.specs.Query.{Query}
use Rattle.cq_terms.proofs.NamesLemmas.{list_any-map}
use Rattle.cq_meaning.proofs.Members.{Contains-head, Contains-cases, Contains-nil}
use Rattle.cq_meaning.proofs.Listed.{append_left, append_right, append_cases}
use Rattle.cq_meaning.proofs.NameConflicts.{some_passes, passing}
use Rattle.report_parts.specs.Codes.{term_code, atom_code, body_code, head_code, code_of}
use Rattle.report_parts.specs.Blocks.{AreCodesOf}

heads : (x y : ℕ) (xs ys : List ℕ) → x ∷ xs ≡ y ∷ ys → (x ≡ y) × (xs ≡ ys)
heads x y xs ys e = (cc, cc)

-- equal codes of terms before the rest are of equal terms and equal rests
term_code-injective : (s t : Term) (xs ys : List ℕ) → term_code s xs ≡ term_code t ys → (s ≡ t) × (xs ≡ ys)
term_code-injective (Var i) (Var j) xs ys e = (cc, cc)
term_code-injective (Var i) (Ind d) xs ys e = absurd (omega (arith, (heads 0 1 (i ∷ xs) (d ∷ ys) e).0))
term_code-injective (Var i) term.Any xs ys e = absurd (omega (arith, (heads 0 2 (i ∷ xs) (0 ∷ ys) e).0))
term_code-injective (Ind c) (Var j) xs ys e = absurd (omega (arith, (heads 1 0 (c ∷ xs) (j ∷ ys) e).0))
term_code-injective (Ind c) (Ind d) xs ys e = (cc, cc)
term_code-injective (Ind c) term.Any xs ys e = absurd (omega (arith, (heads 1 2 (c ∷ xs) (0 ∷ ys) e).0))
term_code-injective term.Any (Var j) xs ys e = absurd (omega (arith, (heads 2 0 (0 ∷ xs) (j ∷ ys) e).0))
term_code-injective term.Any (Ind d) xs ys e = absurd (omega (arith, (heads 2 1 (0 ∷ xs) (d ∷ ys) e).0))
term_code-injective term.Any term.Any xs ys e = (refl, cc)

atom_code-injective : (a b : QAtom) (xs ys : List ℕ) → atom_code a xs ≡ atom_code b ys → (a ≡ b) × (xs ≡ ys)
atom_code-injective (atom.Concept a s) (atom.Concept b t) xs ys e =
    let first = heads 0 0 (a ∷ term_code s xs) (b ∷ term_code t ys) e in
    let second = heads a b (term_code s xs) (term_code t ys) first.1 in
    let rest = term_code-injective s t xs ys second.1 in
    (cc (second.0, rest.0), rest.1)
atom_code-injective (atom.Concept a s) (atom.Link q t t2) xs ys e =
    absurd (omega (arith, (heads 0 1 (a ∷ term_code s xs) (q ∷ term_code t (term_code t2 ys)) e).0))
atom_code-injective (atom.Link p s s2) (atom.Concept b t) xs ys e =
    absurd (omega (arith, (heads 1 0 (p ∷ term_code s (term_code s2 xs)) (b ∷ term_code t ys) e).0))
atom_code-injective (atom.Link p s s2) (atom.Link q t t2) xs ys e =
    let first = heads 1 1 (p ∷ term_code s (term_code s2 xs)) (q ∷ term_code t (term_code t2 ys)) e in
    let second = heads p q (term_code s (term_code s2 xs)) (term_code t (term_code t2 ys)) first.1 in
    let from = term_code-injective s t (term_code s2 xs) (term_code t2 ys) second.1 in
    let to = term_code-injective s2 t2 xs ys from.1 in
    (cc (second.0, from.0, to.0), to.1)

no_atom : (a : QAtom) (xs : List ℕ) → atom_code a xs ≢ []
no_atom (atom.Concept a s) xs e = cc
no_atom (atom.Link p s s2) xs e = cc

body_code-injective : (xs ys : List QAtom) → body_code xs ≡ body_code ys → xs ≡ ys
body_code-injective [] [] e = refl
body_code-injective [] (b ∷ ys) e = absurd (no_atom b (body_code ys) (sym e))
body_code-injective (a ∷ xs) [] e = absurd (no_atom a (body_code xs) e)
body_code-injective (a ∷ xs) (b ∷ ys) e =
    let first = atom_code-injective a b (body_code xs) (body_code ys) e in
    let rest = body_code-injective xs ys first.1 in
    cc (first.0, rest)

no_term : (t : Term) (xs ys : List ℕ) → 3 ∷ xs ≢ term_code t ys
no_term (Var i) xs ys e = omega (arith, (heads 3 0 xs (i ∷ ys) e).0)
no_term (Ind c) xs ys e = omega (arith, (heads 3 1 xs (c ∷ ys) e).0)
no_term term.Any xs ys e = omega (arith, (heads 3 2 xs (0 ∷ ys) e).0)

head_code-injective : (h k : List Term) (xs ys : List ℕ) → head_code h xs ≡ head_code k ys → (h ≡ k) × (xs ≡ ys)
head_code-injective [] [] xs ys e = (refl, cc)
head_code-injective [] (t ∷ k) xs ys e = absurd (no_term t (0 ∷ xs) (head_code k ys) e)
head_code-injective (s ∷ h) [] xs ys e = absurd (no_term s (0 ∷ ys) (head_code h xs) (sym e))
head_code-injective (s ∷ h) (t ∷ k) xs ys e =
    let first = term_code-injective s t (head_code h xs) (head_code k ys) e in
    let rest = head_code-injective h k xs ys first.1 in
    (cc (first.0, rest.0), rest.1)

-- equal codes are of equal queries
pub code_of-injective : (q r : Query) → code_of q ≡ code_of r → q ≡ r
unfolding code_of
code_of-injective q r e =
    let head = head_code-injective q.head r.head (body_code q.body) (body_code r.body) e in
    let body = body_code-injective q.body r.body head.1 in
    ap (λ (h : List Term). let p : Query = record { head = h; body = q.body } in p) head.0
    ∙ ap (λ (b : List QAtom). let p : Query = record { head = r.head; body = b } in p) body

-- the test of equal lists passes exactly for equal lists
pub equal_lists : (xs ys : List ℕ) → (bytes_eq xs ys ≡ true) ↔ (xs ≡ ys)
equal_lists xs ys = bytes_eq-Decides xs ys

-- the test over all codes passes exactly for a code that is there
pub found_code : (codes : List (List ℕ)) (c : List ℕ) → (list_any (bytes_eq c) codes ≡ true) ↔ Contains codes c
found_code codes c = (
  (λ h. let (x, m, p) = passing (bytes_eq c) codes h in subst (Contains codes) (sym ((bytes_eq-Decides c x).0 p)) m),
  (λ m. some_passes (bytes_eq c) codes c m ((bytes_eq-Decides c c).1 refl)),
)

module _ {A : Type 0} where
  -- the test over the keys of a set is that over their lists
  pub found_key : (ks : List (Vec ℕ A)) (c : List ℕ)
      → (list_any (λ (v : Vec ℕ A). bytes_eq c v.items) ks ≡ true) ↔ Contains (map (λ (v : Vec ℕ A). v.items) ks) c
  found_key ks c =
      let same = list_any-map (λ (v : Vec ℕ A). v.items) (bytes_eq c) ks in (
        (λ h. (found_code (map (λ (v : Vec ℕ A). v.items) ks) c).0 (same ∙ h)),
        (λ m. sym same ∙ (found_code (map (λ (v : Vec ℕ A). v.items) ks) c).1 m),
      )

  -- with one more key it has one more list
  pub added_key : (ks : List (Vec ℕ A)) (k : Vec ℕ A) (c : List ℕ)
      → Contains (map (λ (v : Vec ℕ A). v.items) (insert_key (λ (a b : Vec ℕ A). bytes_eq a.items b.items) ks k)) c
      ↔ ((c ≡ k.items) ⊎ Contains (map (λ (v : Vec ℕ A). v.items) ks) c)
  added_key ks k c = by (list_any (λ (v : Vec ℕ A). bytes_eq k.items v.items) ks) refl
    where
      by : (b : Bool) → list_any (λ (v : Vec ℕ A). bytes_eq k.items v.items) ks ≡ b
          → Contains (map (λ (v : Vec ℕ A). v.items) (cond b ks (ks ++ k ∷ []))) c ↔ ((c ≡ k.items) ⊎ Contains (map (λ (v : Vec ℕ A). v.items) ks) c)
      by true t = (
        (λ m. inr m),
        (λ w. elim w [ inl e ↦ subst (Contains (map (λ (v : Vec ℕ A). v.items) ks)) (sym e) ((found_key ks k.items).0 t) | inr m ↦ m ]),
      )
      by false t =
          let same = map-append (λ (v : Vec ℕ A). v.items) ks (k ∷ []) in (
            (λ m. elim (append_cases (map (λ (v : Vec ℕ A). v.items) ks) (k.items ∷ []) c (subst (λ (xs : List (List ℕ)). Contains xs c) same m)) [
              | inl there ↦ inr there
              | inr last ↦ elim (Contains-cases k.items [] c last) [ inl e ↦ inl (sym e) | inr none ↦ absurd (Contains-nil c none) ]
            ]),
            (λ w. subst (λ (xs : List (List ℕ)). Contains xs c) (sym same) (elim w [
              | inl e ↦ append_right (map (λ (v : Vec ℕ A). v.items) ks) (k.items ∷ []) c (subst (Contains (k.items ∷ [])) (sym e) (Contains-head k.items []))
              | inr there ↦ append_left (map (λ (v : Vec ℕ A). v.items) ks) (k.items ∷ []) c there
            ])),
          )

-- no codes are those of no queries
pub no_codes : AreCodesOf [] []
no_codes q = ((λ m. absurd (Contains-nil (code_of q) m)), (λ m. absurd (Contains-nil q m)))

-- with the code of one more query they are those of one more
pub codes_more : (members : List Query) (p : Query) (old new : List (List ℕ)) → AreCodesOf members old
    → ((c : List ℕ) → Contains new c ↔ ((c ≡ code_of p) ⊎ Contains old c)) → AreCodesOf (members ++ p ∷ []) new
codes_more members p old new are more q = (
  (λ m. elim ((more (code_of q)).0 m) [
    | inl e ↦ append_right members (p ∷ []) q (subst (Contains (p ∷ [])) (sym (code_of-injective q p e)) (Contains-head p []))
    | inr there ↦ append_left members (p ∷ []) q ((are q).0 there)
  ]),
  (λ m. (more (code_of q)).1 (elim (append_cases members (p ∷ []) q m) [
    | inl there ↦ inr ((are q).1 there)
    | inr last ↦ elim (Contains-cases p [] q last) [ inl e ↦ inl (ap code_of (sym e)) | inr none ↦ absurd (Contains-nil q none) ]
  ])),
)

-- two tests that pass together are one
pub same_bool : (a b : Bool) → (a ≡ true → b ≡ true) → (b ≡ true → a ≡ true) → a ≡ b
same_bool true b f g = sym (f refl)
same_bool false true f g = absurd (true≢false (sym (g refl)))
same_bool false false f g = refl
