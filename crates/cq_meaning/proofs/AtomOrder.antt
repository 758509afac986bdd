-- The order of query atoms is strict, total and transitive.
use Rattle.std.proofs.Common.{◌≡◌, ℕ, ◌<◌, ◌≤◌, ◌⊎◌, inl, inr, refl, sym, subst, ap, ◌∙◌, arith, true, false, true≢false, eq-eqb, cond, ◌==◌}
use Rattle.std.specs.Ordering.{nat_cmp, is_le, ordering_then}
use Rattle.std.specs.declared.cmp.Ordering.{Ordering}
use Rattle.std.specs.declared.cmp.Ordering.TheVariants.{Less, Equal, Greater}
use Rattle.std.proofs.lemmas.Bool.{cases_eq, cases_lt, lt-ltb, le-ltb}
use Rattle.std.proofs.lemmas.Cmp.{nat_cmp_total}
use Rattle.std.proofs.lemmas.Map.Lookups.{exact_unsigned}
use Rattle.cq_terms.specs.declared.query.Term.{Term}
use Rattle.cq_terms.specs.declared.query.Term.TheVariants.{Var, Ind, Any}
use Rattle.cq_terms.specs.declared.query.QAtom.{QAtom}
use Rattle.cq_terms.specs.declared.query.QAtom.TheVariants as atom
use Rattle.cq_meaning.specs.NormalForm.{term_cmp, atom_cmp}

-- ---- total

nat_self : (a : ℕ) → nat_cmp a a ≡ Equal
nat_self a = ap (λ b. cond b Less (cond (a == a) Equal Greater)) (le-ltb a a (omega arith)) ∙ ap (λ b. cond b Equal Greater) (eq-eqb a a refl)

nat_less : (a b : ℕ) → a < b → nat_cmp a b ≡ Less
nat_less a b l = ap (λ c. cond c Less (cond (a == b) Equal Greater)) (lt-ltb a b l)

-- both answers are `Equal`, or one is `Less`
abbrev Total : Ordering → Ordering → Type 0
Total o o' = ((o ≡ Equal) × (o' ≡ Equal)) ⊎ ((o ≡ Less) ⊎ (o' ≡ Less))

then_total : (o o' u u' : Ordering) → Total o o' → Total u u' → Total (ordering_then o u) (ordering_then o' u')
then_total o o' u u' (inl (e, d)) t = subst (λ (x : Ordering). Total (ordering_then x u) (ordering_then o' u')) (sym e)
    (subst (λ (x : Ordering). Total u (ordering_then x u')) (sym d) t)
then_total o o' u u' (inr (inl e)) t = inr (inl (ap (λ (x : Ordering). ordering_then x u) e))
then_total o o' u u' (inr (inr e)) t = inr (inr (ap (λ (x : Ordering). ordering_then x u') e))

nat_total : (a b : ℕ) → Total (nat_cmp a b) (nat_cmp b a)
nat_total a b = go (cases_lt a b) (cases_eq a b)
  where
    go : (a < b) ⊎ (b ≤ a) → (a ≡ b) ⊎ (a ≡ b → ⊥) → Total (nat_cmp a b) (nat_cmp b a)
    go (inl l) w = inr (inl (nat_less a b l))
    go (inr l) (inl e) = inl (ap (λ n. nat_cmp n b) e ∙ nat_self b, ap (nat_cmp b) e ∙ nat_self b)
    go (inr l) (inr n) = inr (inr (nat_less b a (omega arith)))

term_total : (s t : Term) → Total (term_cmp s t) (term_cmp t s)
term_total (Var i) (Var j) = nat_total i j
term_total (Var i) (Ind c) = inr (inl refl)
term_total (Var i) Any = inr (inl refl)
term_total (Ind c) (Var j) = inr (inr refl)
term_total (Ind c) (Ind d) = nat_total c d
term_total (Ind c) Any = inr (inl refl)
term_total Any (Var j) = inr (inr refl)
term_total Any (Ind c) = inr (inr refl)
term_total Any Any = inl (refl, refl)

atom_total : (a b : QAtom) → Total (atom_cmp a b) (atom_cmp b a)
atom_total (atom.Concept a s) (atom.Concept b t) = then_total (nat_cmp a b) (nat_cmp b a) (term_cmp s t) (term_cmp t s) (nat_total a b) (term_total s t)
atom_total (atom.Concept a s) (atom.Link q t t') = inr (inl refl)
atom_total (atom.Link p s s') (atom.Concept b t) = inr (inr refl)
atom_total (atom.Link p s s') (atom.Link q t t') =
    then_total (nat_cmp p q) (nat_cmp q p) (ordering_then (term_cmp s t) (term_cmp s' t')) (ordering_then (term_cmp t s) (term_cmp t' s')) (nat_total p q)
    (then_total (term_cmp s t) (term_cmp t s) (term_cmp s' t') (term_cmp t' s') (term_total s t) (term_total s' t'))

pub le_back : (a b : QAtom) → is_le (atom_cmp a b) ≡ false → is_le (atom_cmp b a) ≡ true
le_back a b f = go (atom_total a b)
  where
    go : Total (atom_cmp a b) (atom_cmp b a) → is_le (atom_cmp b a) ≡ true
    go (inl (e, d)) = ap is_le d
    go (inr (inl e)) = absurd (true≢false (sym (ap is_le e) ∙ f))
    go (inr (inr e)) = ap is_le e

-- ---- strict

then_equal : (o u : Ordering) → ordering_then o u ≡ Equal → (o ≡ Equal) × (u ≡ Equal)
then_equal Less u e = absurd (cc)
then_equal Equal u e = (refl, e)
then_equal Greater u e = absurd (cc)

term_equal : (s t : Term) → term_cmp s t ≡ Equal → s ≡ t
term_equal (Var i) (Var j) e = ap Var (exact_unsigned i j e)
term_equal (Var i) (Ind c) e = absurd (cc)
term_equal (Var i) Any e = absurd (cc)
term_equal (Ind c) (Var j) e = absurd (cc)
term_equal (Ind c) (Ind d) e = ap Ind (exact_unsigned c d e)
term_equal (Ind c) Any e = absurd (cc)
term_equal Any (Var j) e = absurd (cc)
term_equal Any (Ind c) e = absurd (cc)
term_equal Any Any e = refl

atom_equal : (a b : QAtom) → atom_cmp a b ≡ Equal → a ≡ b
atom_equal (atom.Concept a s) (atom.Concept b t) e =
    let w = then_equal (nat_cmp a b) (term_cmp s t) e in
    ap (λ p. atom.Concept p s) (exact_unsigned a b w.0) ∙ ap (atom.Concept b) (term_equal s t w.1)
atom_equal (atom.Concept a s) (atom.Link q t t') e = absurd (cc)
atom_equal (atom.Link p s s') (atom.Concept b t) e = absurd (cc)
atom_equal (atom.Link p s s') (atom.Link q t t') e =
    let w = then_equal (nat_cmp p q) (ordering_then (term_cmp s t) (term_cmp s' t')) e in
    let u = then_equal (term_cmp s t) (term_cmp s' t') w.1 in
    ap (λ r. atom.Link r s s') (exact_unsigned p q w.0) ∙ (ap (λ (r : Term). atom.Link q r s') (term_equal s t u.0) ∙ ap (atom.Link q t) (term_equal s' t' u.1))

-- two different atoms in order are strictly in order
pub strictly : (a b : QAtom) → (a ≡ b → ⊥) → is_le (atom_cmp a b) ≡ true → atom_cmp a b ≡ Less
strictly a b ne l = go (atom_cmp a b) refl l
  where
    go : (o : Ordering) → atom_cmp a b ≡ o → is_le o ≡ true → o ≡ Less
    go Less e l = refl
    go Equal e l = absurd (ne (atom_equal a b e))
    go Greater e l = absurd (true≢false (sym l))

-- ---- transitive

-- where the first two answers are `Less` or `Equal`, they give the third
abbrev Chains : Ordering → Ordering → Ordering → Type 0
Chains o p r = is_le o ≡ true → is_le p ≡ true → r ≡ ordering_then o p

then_chains : (o p r o' p' r' : Ordering) → Chains o p r → Chains o' p' r' → Chains (ordering_then o o') (ordering_then p p') (ordering_then r r')
then_chains Less Less r o' p' r' h h' l m = ap (λ (x : Ordering). ordering_then x r') (h refl refl)
then_chains Less Equal r o' p' r' h h' l m = ap (λ (x : Ordering). ordering_then x r') (h refl refl)
then_chains Less Greater r o' p' r' h h' l m = absurd (true≢false (sym m))
then_chains Equal Less r Less p' r' h h' l m = ap (λ (x : Ordering). ordering_then x r') (h refl refl)
then_chains Equal Less r Equal p' r' h h' l m = ap (λ (x : Ordering). ordering_then x r') (h refl refl)
then_chains Equal Less r Greater p' r' h h' l m = absurd (true≢false (sym l))
then_chains Equal Equal r o' p' r' h h' l m = ap (λ (x : Ordering). ordering_then x r') (h refl refl) ∙ h' l m
then_chains Equal Greater r o' p' r' h h' l m = absurd (true≢false (sym m))
then_chains Greater p r o' p' r' h h' l m = absurd (true≢false (sym l))

nat_chains : (a b c : ℕ) → Chains (nat_cmp a b) (nat_cmp b c) (nat_cmp a c)
nat_chains a b c = go (nat_cmp a b) (nat_cmp b c) refl refl
  where
    go : (o p : Ordering) → nat_cmp a b ≡ o → nat_cmp b c ≡ p → Chains o p (nat_cmp a c)
    go Less Less e d l m = nat_cmp_total.trans a b c e d
    go Less Equal e d l m = ap (nat_cmp a) (sym (exact_unsigned b c d)) ∙ e
    go Less Greater e d l m = absurd (true≢false (sym m))
    go Equal p e d l m = ap (λ n. nat_cmp n c) (exact_unsigned a b e) ∙ d
    go Greater p e d l m = absurd (true≢false (sym l))

less_last : (o : Ordering) → Chains o Less Less
less_last Less l m = refl
less_last Equal l m = refl
less_last Greater l m = absurd (true≢false (sym l))

term_chains : (s t u : Term) → Chains (term_cmp s t) (term_cmp t u) (term_cmp s u)
term_chains (Var i) (Var j) (Var k) l m = nat_chains i j k l m
term_chains (Var i) (Var j) (Ind d) l m = less_last (nat_cmp i j) l m
term_chains (Var i) (Var j) Any l m = less_last (nat_cmp i j) l m
term_chains (Var i) (Ind c) (Var k) l m = absurd (true≢false (sym m))
term_chains (Var i) (Ind c) (Ind d) l m = refl
term_chains (Var i) (Ind c) Any l m = refl
term_chains (Var i) Any (Var k) l m = absurd (true≢false (sym m))
term_chains (Var i) Any (Ind d) l m = absurd (true≢false (sym m))
term_chains (Var i) Any Any l m = refl
term_chains (Ind c) (Var j) u l m = absurd (true≢false (sym l))
term_chains (Ind c) (Ind d) (Var k) l m = absurd (true≢false (sym m))
term_chains (Ind c) (Ind d) (Ind e) l m = nat_chains c d e l m
term_chains (Ind c) (Ind d) Any l m = less_last (nat_cmp c d) l m
term_chains (Ind c) Any (Var k) l m = absurd (true≢false (sym m))
term_chains (Ind c) Any (Ind d) l m = absurd (true≢false (sym m))
term_chains (Ind c) Any Any l m = refl
term_chains Any (Var j) u l m = absurd (true≢false (sym l))
term_chains Any (Ind d) u l m = absurd (true≢false (sym l))
term_chains Any Any u l m = refl

atom_chains : (a b c : QAtom) → Chains (atom_cmp a b) (atom_cmp b c) (atom_cmp a c)
atom_chains (atom.Concept p s) (atom.Concept q t) (atom.Concept r u) =
    then_chains (nat_cmp p q) (nat_cmp q r) (nat_cmp p r) (term_cmp s t) (term_cmp t u) (term_cmp s u) (nat_chains p q r) (term_chains s t u)
atom_chains (atom.Concept p s) (atom.Concept q t) (atom.Link r u u') = less_last (atom_cmp (atom.Concept p s) (atom.Concept q t))
atom_chains (atom.Concept p s) (atom.Link q t t') (atom.Concept r u) = λ l m. absurd (true≢false (sym m))
atom_chains (atom.Concept p s) (atom.Link q t t') (atom.Link r u u') = λ l m. refl
atom_chains (atom.Link p s s') (atom.Concept q t) c = λ l m. absurd (true≢false (sym l))
atom_chains (atom.Link p s s') (atom.Link q t t') (atom.Concept r u) = λ l m. absurd (true≢false (sym m))
atom_chains (atom.Link p s s') (atom.Link q t t') (atom.Link r u u') =
    then_chains (nat_cmp p q) (nat_cmp q r) (nat_cmp p r) _ _ _ (nat_chains p q r)
    (then_chains (term_cmp s t) (term_cmp t u) (term_cmp s u) (term_cmp s' t') (term_cmp t' u') (term_cmp s' u') (term_chains s t u) (term_chains s' t' u'))

pub less_trans : (a b c : QAtom) → atom_cmp a b ≡ Less → atom_cmp b c ≡ Less → atom_cmp a c ≡ Less
less_trans a b c e d = atom_chains a b c (ap is_le e) (ap is_le d) ∙ ap (λ o. ordering_then o (atom_cmp b c)) e

-- ---- not reflexive

term_self : (t : Term) → term_cmp t t ≡ Equal
term_self (Var i) = nat_self i
term_self (Ind c) = nat_self c
term_self Any = refl

atom_self : (a : QAtom) → atom_cmp a a ≡ Equal
atom_self (atom.Concept p t) = ap (λ o. ordering_then o (term_cmp t t)) (nat_self p) ∙ term_self t
atom_self (atom.Link p s t) =
    ap (λ o. ordering_then o (ordering_then (term_cmp s s) (term_cmp t t))) (nat_self p)
    ∙ (ap (λ o. ordering_then o (term_cmp t t)) (term_self s) ∙ term_self t)

pub not_both_ways : (a b : QAtom) → atom_cmp a b ≡ Less → atom_cmp b a ≡ Less → ⊥
not_both_ways a b e d = let w = sym (less_trans a b a e d) ∙ atom_self a in absurd (cc)
