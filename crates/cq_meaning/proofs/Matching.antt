-- Whether a query has a match in a list of facts.
use Rattle.std.proofs.Common.{◌≡◌, ℕ, ◌⊎◌, inl, inr, List, [], ◌∷◌, Contains, refl, sym, subst, ap, ◌∙◌, Bool, true, false, cond, ◌==◌, eqb-true, eq-eqb}
use Rattle.std.proofs.Common.{ne_eqb, true≢false, Option, Some, None}
use Rattle.std.specs.List.{list_any, AllZip}
use Rattle.std.proofs.lemmas.Bool.{cases_Bool, cases_eq}
use Rattle.cq_terms.specs.declared.facts.Fact.{Fact}
use Rattle.cq_terms.specs.declared.facts.Fact.TheVariants as fact
use Rattle.cq_terms.specs.declared.query.Term.{Term}
use Rattle.cq_terms.specs.declared.query.Term.TheVariants.{Var, Ind, Any}
use Rattle.cq_terms.specs.declared.query.QAtom.{QAtom}
use Rattle.cq_terms.specs.declared.query.QAtom.TheVariants as atom
use Rattle.cq_terms.specs.Query.{Query}
use Rattle.cq_meaning.specs.Chase.{Node, Named, ConceptAtom, RoleAtom, atom_of}
use Rattle.cq_meaning.specs.Entailment.{Becomes, AtomBecomes, HeadBecomes, Match}
use Rattle.cq_meaning.proofs.Places.{some_inj}
use Rattle.cq_meaning.proofs.NameConflicts.{some_passes, passing}

-- individuals for some of the variables
abbrev Env : Type 0
Env = List (ℕ × ℕ)

-- the individual of a variable, the latest first
abbrev lookup : Env → ℕ → Option ℕ
lookup [] i = None
lookup (p ∷ env) i = cond (p.0 == i) (Some p.1) (lookup env i)

-- the valuation gives each variable its individual
abbrev Extends : (ℕ → ℕ) → Env → Type 0
Extends v env = (i c : ℕ) → lookup env i ≡ Some c → v i ≡ c

-- the variable with its individual, where it has no other
abbrev known : Env → ℕ → ℕ → Option ℕ → Option Env
known env i c None = Some ((i, c) ∷ env)
known env i c (Some d) = cond (d == c) (Some env) None

-- what the term has to be, to become the individual
abbrev bind : Env → Term → ℕ → Option Env
bind env Any c = Some env
bind env (Ind d) c = cond (d == c) (Some env) None
bind env (Var i) c = known env i c (lookup env i)

-- the same after an earlier term
abbrev then_bind : Option Env → Term → ℕ → Option Env
then_bind None t c = None
then_bind (Some env) t c = bind env t c

-- the same for an atom and a fact
abbrev bind_atom : Env → QAtom → Fact → Option Env
bind_atom env (atom.Concept a s) (fact.Concept b c) = cond (a == b) (bind env s c) None
bind_atom env (atom.Link p s t) (fact.Link q c d) = cond (p == q) (then_bind (bind env s c) t d) None
bind_atom env (atom.Concept a s) (fact.Link q c d) = None
bind_atom env (atom.Link p s t) (fact.Concept b c) = None

-- some choice of a fact for each atom agrees
abbrev search : List Fact → List QAtom → Option Env → Bool
search facts body None = false
search facts [] (Some env) = true
search facts (a ∷ body) (Some env) = list_any (λ f. search facts body (bind_atom env a f)) facts

named : (ℕ → ℕ) → ℕ → Node
named v i = Named (v i)

name_inj : (c d : ℕ) → Named c ≡ Named d → c ≡ d
name_inj c d e = cc

bind_sound : (v : ℕ → ℕ) (env : Env) (s : Term) (c : ℕ) (e : Env) → bind env s c ≡ Some e → Extends v e → Extends v env × Becomes (λ i. Named (v i)) s (Named c)
bind_sound v env Any c e g x = (subst (Extends v) (sym (some_inj g)) x, tt)
bind_sound v env (Ind d) c e g x = go (cases_Bool (d == c)) g
  where
    go : ((d == c) ≡ true) ⊎ ((d == c) ≡ false) → cond (d == c) (Some env) None ≡ Some e → Extends v env × (Named c ≡ Named d)
    go (inl t) g = (subst (Extends v) (some_inj (sym g ∙ ap (λ b. cond b (Some env) None) t)) x, ap Named (sym (eqb-true d c t)))
    go (inr f) g = absurd (let w = sym g ∙ ap (λ b. cond b (Some env) None) f in cc)
bind_sound v env (Var i) c e g x = go (lookup env i) refl g
  where
    go : (o : Option ℕ) → lookup env i ≡ o → known env i c o ≡ Some e → Extends v env × (Named c ≡ Named (v i))
    go None l g =
        let h : Extends v ((i, c) ∷ env) = subst (Extends v) (sym (some_inj g)) x in
        let here : v i ≡ c = h i c (ap (λ b. cond b (Some c) (lookup env i)) (eq-eqb i i refl)) in
        ((λ j d k. older h j d k (cases_eq i j)), ap Named (sym here))
      where
        older : Extends v ((i, c) ∷ env) → (j d : ℕ) → lookup env j ≡ Some d → (i ≡ j) ⊎ (i ≡ j → ⊥) → v j ≡ d
        older h j d k (inl q) = absurd (let w = sym l ∙ (ap (lookup env) q ∙ k) in cc)
        older h j d k (inr n) = h j d (ap (λ b. cond b (Some c) (lookup env j)) (ne_eqb i j n) ∙ k)
    go (Some d) l g = with_test (cases_Bool (d == c)) g
      where
        with_test : ((d == c) ≡ true) ⊎ ((d == c) ≡ false) → cond (d == c) (Some env) None ≡ Some e → Extends v env × (Named c ≡ Named (v i))
        with_test (inl t) g =
            let h : Extends v env = subst (Extends v) (some_inj (sym g ∙ ap (λ b. cond b (Some env) None) t)) x in
            (h, ap Named (sym (eqb-true d c t) ∙ sym (h i d l)))
        with_test (inr f) g = absurd (let w = sym g ∙ ap (λ b. cond b (Some env) None) f in cc)

bind_complete : (v : ℕ → ℕ) (env : Env) (s : Term) (c : ℕ) → Extends v env → Becomes (λ i. Named (v i)) s (Named c) → (e : Env) × (bind env s c ≡ Some e)
    × Extends v e
bind_complete v env Any c x b = (env, refl, x)
bind_complete v env (Ind d) c x b = let q = name_inj c d b in (env, ap (λ t. cond t (Some env) None) (eq-eqb d c (sym q)), x)
bind_complete v env (Var i) c x b = go (lookup env i) refl
  where
    q : c ≡ v i
    q = name_inj c (v i) b

    go : (o : Option ℕ) → lookup env i ≡ o → (e : Env) × (known env i c o ≡ Some e) × Extends v e
    go None l = ((i, c) ∷ env, refl, λ j d k. at j d k (cases_eq i j))
      where
        at : (j d : ℕ) → lookup ((i, c) ∷ env) j ≡ Some d → (i ≡ j) ⊎ (i ≡ j → ⊥) → v j ≡ d
        at j d k (inl p) = let w = some_inj (sym (ap (λ t. cond t (Some c) (lookup env j)) (eq-eqb i j p)) ∙ k) in ap v (sym p) ∙ (sym q ∙ w)
        at j d k (inr n) = x j d (sym (ap (λ t. cond t (Some c) (lookup env j)) (ne_eqb i j n)) ∙ k)
    go (Some d) l = let w = x i d l in (env, ap (λ t. cond t (Some env) None) (eq-eqb d c (sym (q ∙ w))), x)

atom_sound : (v : ℕ → ℕ) (env : Env) (a : QAtom) (f : Fact) (e : Env) → bind_atom env a f ≡ Some e → Extends v e → Extends v env
    × AtomBecomes (λ i. Named (v i)) a (atom_of f)
atom_sound v env (atom.Concept a s) (fact.Concept b c) e g x = go (cases_Bool (a == b)) g
  where
    go : ((a == b) ≡ true) ⊎ ((a == b) ≡ false) → cond (a == b) (bind env s c) None ≡ Some e → Extends v env
        × AtomBecomes (λ i. Named (v i)) (atom.Concept a s) (ConceptAtom b (Named c))
    go (inl t) g =
        let w = bind_sound v env s c e (sym (ap (λ b. cond b (bind env s c) None) t) ∙ g) x in
        (w.0, (Named c, w.1, ap (λ n. ConceptAtom n (Named c)) (sym (eqb-true a b t))))
    go (inr n) g = absurd (let w = sym g ∙ ap (λ b. cond b (bind env s c) None) n in cc)
atom_sound v env (atom.Link p s t) (fact.Link q c d) e g x = go (cases_Bool (p == q)) g
  where
    last : (o : Option Env) → bind env s c ≡ o → then_bind o t d ≡ Some e → (p == q) ≡ true → Extends v env
        × AtomBecomes (λ i. Named (v i)) (atom.Link p s t) (RoleAtom q (Named c) (Named d))
    last None l g t' = absurd (cc)
    last (Some e') l g t' =
        let w = bind_sound v e' t d e g x in
        let u = bind_sound v env s c e' l w.0 in
        (u.0, (Named c, Named d, u.1, w.1, ap (λ n. RoleAtom n (Named c) (Named d)) (sym (eqb-true p q t'))))

    go : ((p == q) ≡ true) ⊎ ((p == q) ≡ false) → cond (p == q) (then_bind (bind env s c) t d) None ≡ Some e → Extends v env
        × AtomBecomes (λ i. Named (v i)) (atom.Link p s t) (RoleAtom q (Named c) (Named d))
    go (inl t') g = last (bind env s c) refl (sym (ap (λ b. cond b (then_bind (bind env s c) t d) None) t') ∙ g) t'
    go (inr n) g = absurd (let w = sym g ∙ ap (λ b. cond b (then_bind (bind env s c) t d) None) n in cc)
atom_sound v env (atom.Concept a s) (fact.Link q c d) e g x = absurd (cc)
atom_sound v env (atom.Link p s t) (fact.Concept b c) e g x = absurd (cc)

atom_complete : (v : ℕ → ℕ) (env : Env) (a : QAtom) (f : Fact) → Extends v env → AtomBecomes (λ i. Named (v i)) a (atom_of f) → (e : Env)
    × (bind_atom env a f ≡ Some e) × Extends v e
atom_complete v env (atom.Concept a s) (fact.Concept b c) x (n, h, q) =
    let d : n ≡ Named c = cc in let p : b ≡ a = cc in
    let w = bind_complete v env s c x (subst (Becomes (λ i. Named (v i)) s) d h) in
    (w.0, ap (λ t. cond t (bind env s c) None) (eq-eqb a b (sym p)) ∙ w.1, w.2)
atom_complete v env (atom.Link p s t) (fact.Link q c d) x (m, n, h, k, r) =
    let e : m ≡ Named c = cc in let e' : n ≡ Named d = cc in let o : q ≡ p = cc in
    let w = bind_complete v env s c x (subst (Becomes (λ i. Named (v i)) s) e h) in
    let u = bind_complete v w.0 t d w.2 (subst (Becomes (λ i. Named (v i)) t) e' k) in
    (u.0, ap (λ b. cond b (then_bind (bind env s c) t d) None) (eq-eqb p q (sym o)) ∙ (ap (λ (z : Option Env). then_bind z t d) w.1 ∙ u.1), u.2)
atom_complete v env (atom.Concept a s) (fact.Link q c d) x (n, h, r) = absurd (cc)
atom_complete v env (atom.Link p s t) (fact.Concept b c) x (m, n, h, k, r) = absurd (cc)

-- the fact is one of the list, and what the atom becomes
abbrev Fit : List Fact → (ℕ → ℕ) → QAtom → Fact → Type 0
Fit facts v a f = Contains facts f × AtomBecomes (λ i. Named (v i)) a (atom_of f)

value : Option ℕ → ℕ
value None = 0
value (Some c) = c

search_sound : (facts : List Fact) (body : List QAtom) (env : Env) → search facts body (Some env) ≡ true → (v : ℕ → ℕ) × Extends v env × (image : List Fact)
    × AllZip (Fit facts v) body image
unfolding value
search_sound facts [] env t = ((λ i. value (lookup env i)), (λ i c e. ap value e), [], tt)
search_sound facts (a ∷ body) env t =
    let w = passing (λ f. search facts body (bind_atom env a f)) facts t in
    go w.0 w.1 (bind_atom env a w.0) refl w.2 (λ e h. search_sound facts body e h)
  where
    go : (f : Fact) → Contains facts f → (o : Option Env) → bind_atom env a f ≡ o → search facts body o ≡ true
        → ((e : Env) → search facts body (Some e) ≡ true → (v : ℕ → ℕ) × Extends v e × (image : List Fact) × AllZip (Fit facts v) body image)
        → (v : ℕ → ℕ) × Extends v env × (image : List Fact) × AllZip (Fit facts v) (a ∷ body) image
    go f m None g h again = absurd (true≢false (sym h))
    go f m (Some e) g h again =
        let r = again e h in
        let s = atom_sound r.0 env a f e g r.1 in
        (r.0, s.0, f ∷ r.2, ((m, s.1), r.3))

search_complete : (facts : List Fact) (v : ℕ → ℕ) (body : List QAtom) (env : Env) (image : List Fact) → Extends v env → AllZip (Fit facts v) body image
    → search facts body (Some env) ≡ true
search_complete facts v [] env image x h = refl
search_complete facts v (a ∷ body) env [] x h = absurd h
search_complete facts v (a ∷ body) env (f ∷ image) x h =
    let w = atom_complete v env a f x h.0.1 in
    some_passes (λ f. search facts body (bind_atom env a f)) facts f h.0.0
    (ap (search facts body) w.1 ∙ search_complete facts v body w.0 image w.2 h.1)

-- the individuals of the head's variables, where the head becomes the tuple
abbrev bind_head : Option Env → List Term → List ℕ → Option Env
bind_head None head tuple = None
bind_head (Some env) [] [] = Some env
bind_head (Some env) (t ∷ head) (c ∷ tuple) = bind_head (bind env t c) head tuple
bind_head (Some env) [] (c ∷ tuple) = None
bind_head (Some env) (t ∷ head) [] = None

head_sound : (v : ℕ → ℕ) (env : Env) (head : List Term) (tuple : List ℕ) (e : Env) → bind_head (Some env) head tuple ≡ Some e → Extends v e → Extends v env
    × HeadBecomes (λ i. Named (v i)) head tuple
head_sound v env [] [] e g x = (subst (Extends v) (sym (some_inj g)) x, tt)
head_sound v env (t ∷ head) (c ∷ tuple) e g x = go (bind env t c) refl g (λ env' g'. head_sound v env' head tuple e g' x)
  where
    go : (o : Option Env) → bind env t c ≡ o → bind_head o head tuple ≡ Some e
        → ((env' : Env) → bind_head (Some env') head tuple ≡ Some e → Extends v env' × HeadBecomes (λ i. Named (v i)) head tuple)
        → Extends v env × HeadBecomes (λ i. Named (v i)) (t ∷ head) (c ∷ tuple)
    go None d g again = absurd (cc)
    go (Some env') d g again = let w = again env' g in let u = bind_sound v env t c env' d w.0 in (u.0, (u.1, w.1))
head_sound v env [] (c ∷ tuple) e g x = absurd (cc)
head_sound v env (t ∷ head) [] e g x = absurd (cc)

head_complete : (v : ℕ → ℕ) (env : Env) (head : List Term) (tuple : List ℕ) → Extends v env → HeadBecomes (λ i. Named (v i)) head tuple → (e : Env)
    × (bind_head (Some env) head tuple ≡ Some e) × Extends v e
head_complete v env [] [] x h = (env, refl, x)
head_complete v env (t ∷ head) (c ∷ tuple) x h =
    let w = bind_complete v env t c x h.0 in
    let u = head_complete v w.0 head tuple w.2 h.1 in
    (u.0, ap (λ (o : Option Env). bind_head o head tuple) w.1 ∙ u.1, u.2)
head_complete v env [] (c ∷ tuple) x h = absurd h
head_complete v env (t ∷ head) [] x h = absurd h

-- whether the query has a match with the tuple as its head
abbrev has_match : List Fact → Query → List ℕ → Bool
has_match facts q tuple = search facts q.body (bind_head (Some []) q.head tuple)

match_found : (facts : List Fact) (q : Query) (tuple : List ℕ) → has_match facts q tuple ≡ true → (image : List Fact) × Match q (Contains facts) tuple image
match_found facts q tuple t = go (bind_head (Some []) q.head tuple) refl t
  where
    go : (o : Option Env) → bind_head (Some []) q.head tuple ≡ o → search facts q.body o ≡ true → (image : List Fact) × Match q (Contains facts) tuple image
    go None d t = absurd (true≢false (sym t))
    go (Some e) d t =
        let r = search_sound facts q.body e t in
        (r.2, (r.0, (head_sound r.0 [] q.head tuple e d r.1).1, r.3))

found_match : (facts : List Fact) (q : Query) (tuple : List ℕ) (image : List Fact) → Match q (Contains facts) tuple image → has_match facts q tuple ≡ true
found_match facts q tuple image (v, h, b) =
    let w = head_complete v [] q.head tuple (λ i c e. absurd (cc)) h in
    ap (search facts q.body) w.1 ∙ search_complete facts v q.body w.0 image w.2 b

-- a query has a match in the facts with the tuple, or not
pub match_or_not : (facts : List Fact) (q : Query) (tuple : List ℕ) → ((image : List Fact) × Match q (Contains facts) tuple image)
    ⊎ ((image : List Fact) → ¬ Match q (Contains facts) tuple image)
match_or_not facts q tuple = go (cases_Bool (has_match facts q tuple))
  where
    go : (has_match facts q tuple ≡ true) ⊎ (has_match facts q tuple ≡ false) → ((image : List Fact) × Match q (Contains facts) tuple image)
        ⊎ ((image : List Fact) → ¬ Match q (Contains facts) tuple image)
    go (inl t) = inl (match_found facts q tuple t)
    go (inr f) = inr (λ image m. true≢false (sym (found_match facts q tuple image m) ∙ f))
