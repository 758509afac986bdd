-- The closure of a query matches exactly what is entailed.
use Rattle.std.proofs.Common.{◌≡◌, ℕ, ◌≤◌, List, [], ◌∷◌, refl, subst, ap, ◌∙◌, arith}
use Rattle.std.specs.List.{AllZip, AllByRecursion}
use Rattle.cq_terms.specs.declared.axioms.Axiom.{Axiom}
use Rattle.cq_terms.specs.declared.facts.Fact.{Fact}
use Rattle.cq_terms.specs.declared.facts.Fact.TheVariants as fact
use Rattle.cq_terms.specs.declared.query.Term.{Term}
use Rattle.cq_terms.specs.declared.query.Term.TheVariants.{Var, Ind, Any}
use Rattle.cq_terms.specs.declared.query.QAtom.{QAtom}
use Rattle.cq_terms.specs.declared.query.QAtom.TheVariants as atom
use Rattle.cq_terms.specs.Query.{Query}
use Rattle.cq_meaning.specs.Chase.{Node, Named, Null, Atom, ConceptAtom, atom_of, InStage}
use Rattle.cq_meaning.specs.Entailment.{Becomes, AtomBecomes, HeadBecomes, HasMatch, Entails, Match}
use Rattle.cq_meaning.specs.NormalForm.{normal}
use Rattle.cq_meaning.specs.Rewriting.{IsInClosure}
use Rattle.cq_meaning.proofs.Places.{weight}
use Rattle.cq_meaning.proofs.NormalBack.{normal_back}
use Rattle.cq_meaning.proofs.Complete.{Fits, Weighs, normal_keeps, normal_joined, complete}
use Rattle.cq_meaning.proofs.Sound.{reaches_back}

-- the images of a match, each with its stage
images : (axioms : List Axiom) (F : Fact → Type 0) (k : ℕ) (v : ℕ → Node) (body : List QAtom)
    → AllByRecursion (λ a. (x : Atom) × InStage axioms F k x × AtomBecomes v a x) body → (es : List (Atom × ℕ)) × AllZip (Fits axioms F v) body es
images axioms F k v [] h = ([], tt)
images axioms F k v (a ∷ body) (h, t) = let w = images axioms F k v body t in ((h.0, k) ∷ w.0, ((h.1, h.2), w.1))

weighs : (axioms : List Axiom) (F : Fact → Type 0) (q : Query) (tuple : List ℕ) (k : ℕ) → HasMatch (InStage axioms F k) q tuple → (n : ℕ)
    × Weighs axioms F q tuple n
weighs axioms F q tuple k (v, head, body) = let w = images axioms F k v q.body body in
    (weight w.0, record { v = v; head = head; images = w.0; fits = w.1; few = omega arith })

name_of : Node → ℕ
name_of (Named c) = c
name_of (Null t r) = 0

-- the same valuation by individuals
named : (v : ℕ → Node) (s : Term) (c : ℕ) → Becomes v s (Named c) → Becomes (λ i. Named (name_of (v i))) s (Named c)
unfolding name_of
named v (Var l) c e = ap (λ t. Named (name_of t)) e
named v (Ind d) c e = e
named v Any c e = tt

named_atom : (v : ℕ → Node) (a : QAtom) (f : Fact) → AtomBecomes v a (atom_of f) → AtomBecomes (λ i. Named (name_of (v i))) a (atom_of f)
named_atom v (atom.Concept p s) (fact.Concept a c) (n, h, e) = let d : n ≡ Named c = cc in
    (Named c, named v s c (subst (Becomes v s) d h), e ∙ ap (ConceptAtom p) d)
named_atom v (atom.Link p s t) (fact.Link a c c') (m, n, h, k, e) =
    let d : m ≡ Named c = cc in let d' : n ≡ Named c' = cc in
    (Named c, Named c', named v s c (subst (Becomes v s) d h), named v t c' (subst (Becomes v t) d' k), cc)
named_atom v (atom.Concept p s) (fact.Link a c c') (n, h, e) = absurd (cc)
named_atom v (atom.Link p s t) (fact.Concept a c) (m, n, h, k, e) = absurd (cc)

named_head : (v : ℕ → Node) (head : List Term) (tuple : List ℕ) → HeadBecomes v head tuple → HeadBecomes (λ i. Named (name_of (v i))) head tuple
named_head v [] [] h = h
named_head v [] (c ∷ tuple) h = absurd h
named_head v (t ∷ head) [] h = absurd h
named_head v (t ∷ head) (c ∷ tuple) h = (named v t c h.0, named_head v head tuple h.1)

-- a match of no weight is one in the facts
facts_of : (axioms : List Axiom) (F : Fact → Type 0) (v : ℕ → Node) (body : List QAtom) (es : List (Atom × ℕ)) → AllZip (Fits axioms F v) body es
    → weight es ≤ 0
    → (image : List Fact) × AllZip (λ a f. F f × AtomBecomes (λ i. Named (name_of (v i))) a (atom_of f)) body image
facts_of axioms F v [] [] h l = ([], tt)
facts_of axioms F v [] (e ∷ es) h l = absurd h
facts_of axioms F v (a ∷ body) [] h l = absurd h
facts_of axioms F v (a ∷ body) (e ∷ es) h l =
    let z : e.1 ≡ 0 = omega arith in
    let s : InStage axioms F 0 e.0 = subst (λ n. InStage axioms F n e.0) z h.0.0 in
    let w = facts_of axioms F v body es h.1 (omega arith) in
    (s.0 ∷ w.0, ((s.1, named_atom v a s.0 (subst (AtomBecomes v a) s.2 h.0.1)), w.1))

match_of : (axioms : List Axiom) (F : Fact → Type 0) (q : Query) (tuple : List ℕ) → Weighs axioms F q tuple 0 → (image : List Fact) × Match q F tuple image
match_of axioms F q tuple w = let f = facts_of axioms F w.v q.body w.images w.fits w.few in
    (f.0, ((λ i. name_of (w.v i)), named_head w.v q.head tuple w.head, f.1))

-- a match in the facts is one in stage 0
match_in_stage : (axioms : List Axiom) (F : Fact → Type 0) (q : Query) (tuple : List ℕ) (image : List Fact) → Match q F tuple image
    → HasMatch (InStage axioms F 0) q tuple
match_in_stage axioms F q tuple image (v, head, body) = ((λ i. Named (v i)), head, go q.body image body)
  where
    go : (body : List QAtom) (image : List Fact) → AllZip (λ a f. F f × AtomBecomes (λ i. Named (v i)) a (atom_of f)) body image
        → AllByRecursion (λ a. (x : Atom) × InStage axioms F 0 x × AtomBecomes (λ i. Named (v i)) a x) body
    go [] image h = tt
    go (a ∷ body) [] h = absurd h
    go (a ∷ body) (f ∷ image) h = ((atom_of f, (f, h.0.0, refl), h.0.1), go body image h.1)

-- what is entailed, some query of the closure matches
pub rewriting_complete : (axioms : List Axiom) (F : Fact → Type 0) (q : Query) (tuple : List ℕ) → Entails axioms F q tuple
    → (member : Query) × (image : List Fact) × IsInClosure axioms q member × Match member F tuple image
rewriting_complete axioms F q tuple (k, h) =
    let w = weighs axioms F q tuple k h in
    let r = complete axioms F w.0 (normal q) tuple (normal_joined q) (normal_keeps axioms F q tuple w.0 w.1) in
    let m = match_of axioms F r.1 tuple r.3 in
    (r.1, m.0, (r.0, r.2), m.1)

-- what a query of the closure matches is entailed
pub rewriting_sound : (axioms : List Axiom) (F : Fact → Type 0) (q member : Query) (tuple : List ℕ) (image : List Fact) → IsInClosure axioms q member
    → Match member F tuple image → Entails axioms F q tuple
rewriting_sound axioms F q member tuple image (n, r) m =
    let e = reaches_back axioms F n 0 (normal q) member tuple r (match_in_stage axioms F member tuple image m) in
    (e.0, normal_back (InStage axioms F e.0) q tuple e.1)
