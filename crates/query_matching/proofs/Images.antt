-- Matches over fact numbers, and the images that the definition of a hit speaks of.
use Rattle.std.proofs.Common.{◌≡◌, ℕ, List, [], ◌∷◌, slice_get, Some, Contains, ◌⊎◌, inl, inr, sym, ap, ◌∙◌, subst, arith}
use Rattle.std.specs.List.{AllZip}
use Rattle.std.proofs.lemmas.Option.{slice_get-get_or, slice_get_within, get_or_from_slice_get}
use Rattle.cq_terms.specs.declared.facts.Fact.{Fact}
use Rattle.cq_terms.specs.declared.facts.Fact.TheVariants as fact
use Rattle.cq_terms.specs.declared.query.Term.{Term}
use Rattle.cq_terms.specs.declared.query.Term.TheVariants as term
use Rattle.cq_terms.specs.declared.query.QAtom.{QAtom}
use Rattle.cq_terms.specs.declared.query.QAtom.TheVariants as atom
use Rattle.cq_terms.specs.Knowledge.{AreDistinct}
use Rattle.cq_terms.specs.Query.{Query}
use Rattle.cq_meaning.specs.Chase.{Node, Named, ConceptAtom, RoleAtom, atom_of}
use Rattle.cq_meaning.specs.Entailment.{Becomes, AtomBecomes, HasImage}
use Rattle.cq_meaning.proofs.Members.{Contains-head, Contains-later, Contains-cases, Contains-nil}
use Rattle.query_matching.specs.declared.row.Row.{Row}
use Rattle.query_matching.specs.Bindings.{TermIs, AtomIs}
use Rattle.query_matching.specs.Extensions.{NumberFits, Extends}

-- ---- lists side by side

pub AllZip-weaker : {A B : Type 0} (R S : A → B → Type 0) (xs : List A) (ys : List B) → ((x : A) (y : B) → R x y → S x y) → AllZip R xs ys → AllZip S xs ys
AllZip-weaker R S [] [] h all = tt
AllZip-weaker R S [] (y ∷ ys) h all = all
AllZip-weaker R S (x ∷ xs) [] h all = all
AllZip-weaker R S (x ∷ xs) (y ∷ ys) h all = (h x y all.0, AllZip-weaker R S xs ys h all.1)

-- ---- terms and atoms over individuals

named : (ℕ → ℕ) → ℕ → Node
named v i = Named (v i)

becomes : (v : ℕ → ℕ) (t : Term) (c : ℕ) → TermIs v t c → Becomes (λ i. Named (v i)) t (Named c)
becomes v (term.Var l) c e = ap Named e
becomes v (term.Ind d) c e = ap Named e
becomes v term.Any c e = tt

term_is : (v : ℕ → ℕ) (t : Term) (c : ℕ) → Becomes (λ i. Named (v i)) t (Named c) → TermIs v t c
term_is v (term.Var l) c e = let h : Named c ≡ Named (v l) = e in cc
term_is v (term.Ind d) c e = let h : Named c ≡ Named d = e in cc
term_is v term.Any c e = tt

atom_becomes : (v : ℕ → ℕ) (a : QAtom) (f : Fact) → AtomIs v a f → AtomBecomes (λ i. Named (v i)) a (atom_of f)
atom_becomes v (atom.Concept p t) (fact.Concept q c) h = (Named c, becomes v t c h.1, ap (λ n. ConceptAtom n (Named c)) (sym h.0))
atom_becomes v (atom.Link p s t) (fact.Link q c d) h = (
  Named c,
  Named d,
  becomes v s c h.1,
  becomes v t d h.2,
  ap (λ n. RoleAtom n (Named c) (Named d)) (sym h.0),
)
atom_becomes v (atom.Concept p t) (fact.Link q c d) h = absurd h
atom_becomes v (atom.Link p s t) (fact.Concept q c) h = absurd h

atom_is : (v : ℕ → ℕ) (a : QAtom) (f : Fact) → AtomBecomes (λ i. Named (v i)) a (atom_of f) → AtomIs v a f
atom_is v (atom.Concept p t) (fact.Concept q c) h =
    let e : ConceptAtom q (Named c) ≡ ConceptAtom p h.0 = h.2 in
    let pred : p ≡ q = cc in
    let node : h.0 ≡ Named c = cc in
    (pred, term_is v t c (subst (λ (n : Node). Becomes (λ i. Named (v i)) t n) node h.1))
atom_is v (atom.Link p s t) (fact.Link q c d) h =
    let e : RoleAtom q (Named c) (Named d) ≡ RoleAtom p h.0 h.1 = h.4 in
    let pred : p ≡ q = cc in
    let first : h.0 ≡ Named c = cc in
    let second : h.1 ≡ Named d = cc in (
      pred,
      term_is v s c (subst (λ (n : Node). Becomes (λ i. Named (v i)) s n) first h.2),
      term_is v t d (subst (λ (n : Node). Becomes (λ i. Named (v i)) t n) second h.3),
    )
atom_is v (atom.Concept p t) (fact.Link q c d) h = let e : RoleAtom q (Named c) (Named d) ≡ ConceptAtom p h.0 = h.2 in cc
atom_is v (atom.Link p s t) (fact.Concept q c) h = let e : ConceptAtom q (Named c) ≡ RoleAtom p h.0 h.1 = h.4 in cc

-- ---- facts and their numbers

-- the facts of the numbers, each at its place
AreAt : List Fact → List ℕ → List Fact → Type 0
AreAt facts numbers image = AllZip (λ n f. slice_get facts n ≡ Some f) numbers image

-- what the definition asks of an atom and its fact
AtomFits : List Fact → (ℕ → ℕ) → QAtom → Fact → Type 0
AtomFits facts v a f = Contains facts f × AtomBecomes (λ i. Named (v i)) a (atom_of f)

there_at : (facts : List Fact) (n : ℕ) (f : Fact) → slice_get facts n ≡ Some f → Contains facts f
there_at facts n f at = (n, slice_get_within facts n f at, get_or_from_slice_get facts n f f at)

place_of : (facts : List Fact) (f : Fact) → Contains facts f → (n : ℕ) × (slice_get facts n ≡ Some f)
place_of facts f (k, l, e) = (k, slice_get-get_or facts k f l ∙ ap Some e)

module _ (facts : List Fact) (v : ℕ → ℕ) where
  facts_of : (atoms : List QAtom) (numbers : List ℕ) → AllZip (NumberFits facts v) atoms numbers → (image : List Fact) × AllZip (AtomFits facts v) atoms image
      × AreAt facts numbers image
  unfolding AtomFits AreAt
  facts_of [] [] all = ([], tt, tt)
  facts_of [] (n ∷ numbers) all = absurd all
  facts_of (a ∷ atoms) [] all = absurd all
  facts_of (a ∷ atoms) (n ∷ numbers) all =
      let f = all.0.0 in
      let more = facts_of atoms numbers all.1 in
      (f ∷ more.0, ((there_at facts n f all.0.1, atom_becomes v a f all.0.2), more.1), (all.0.1, more.2))

  numbers_of : (atoms : List QAtom) (image : List Fact) → AllZip (AtomFits facts v) atoms image → (numbers : List ℕ)
      × AllZip (NumberFits facts v) atoms numbers × AreAt facts numbers image
  unfolding AtomFits AreAt
  numbers_of [] [] all = ([], tt, tt)
  numbers_of [] (f ∷ image) all = absurd all
  numbers_of (a ∷ atoms) [] all = absurd all
  numbers_of (a ∷ atoms) (f ∷ image) all =
      let n = place_of facts f all.0.0 in
      let more = numbers_of atoms image all.1 in
      (n.0 ∷ more.0, ((f, n.1, atom_is v a f all.0.1), more.1), (n.1, more.2))

-- each number has its fact in the image
at_number : (facts : List Fact) (numbers : List ℕ) (image : List Fact) → AreAt facts numbers image → (i : ℕ) → Contains numbers i → (f : Fact)
    × Contains image f × (slice_get facts i ≡ Some f)
unfolding AreAt
at_number facts [] image are i there = absurd (Contains-nil i there)
at_number facts (n ∷ numbers) [] are i there = absurd are
at_number facts (n ∷ numbers) (f ∷ image) are i there = by (Contains-cases n numbers i there) (at_number facts numbers image are.1 i)
  where
    by : (n ≡ i) ⊎ Contains numbers i → (Contains numbers i → (g : Fact) × Contains image g × (slice_get facts i ≡ Some g)) → (g : Fact)
        × Contains (f ∷ image) g × (slice_get facts i ≡ Some g)
    by (inl e) more = (f, Contains-head f image, ap (slice_get facts) (sym e) ∙ are.0)
    by (inr later) more = let h = more later in (h.0, Contains-later f image h.0 h.1, h.2)

-- each fact of the image has its number
at_fact : (facts : List Fact) (numbers : List ℕ) (image : List Fact) → AreAt facts numbers image → (f : Fact) → Contains image f → (n : ℕ)
    × Contains numbers n × (slice_get facts n ≡ Some f)
unfolding AreAt
at_fact facts [] [] are f there = absurd (Contains-nil f there)
at_fact facts [] (g ∷ image) are f there = absurd are
at_fact facts (n ∷ numbers) [] are f there = absurd are
at_fact facts (n ∷ numbers) (g ∷ image) are f there = by (Contains-cases g image f there) (at_fact facts numbers image are.1 f)
  where
    by : (g ≡ f) ⊎ Contains image f → (Contains image f → (m : ℕ) × Contains numbers m × (slice_get facts m ≡ Some f)) → (m : ℕ) × Contains (n ∷ numbers) m
        × (slice_get facts m ≡ Some f)
    by (inl e) more = (n, Contains-head n numbers, are.0 ∙ ap Some e)
    by (inr later) more = let h = more later in (h.0, Contains-later n numbers h.0 h.1, h.2)

-- ---- rows and hits

module _ (facts : List Fact) (distinct : AreDistinct facts) (q : Query) (row : Row) where
  -- what completes the empty bindings for the whole body is a hit
  pub hit_of_row : Extends facts q.head q.body [] [] row → HasImage facts q row.tuple row.image
  unfolding AtomFits AreAt
  hit_of_row (numbers, c) =
      let v = c.valuation in
      let image = facts_of facts v q.body numbers c.fits in
      record {
        ascending = c.image.ascending;
        match = (
          image.0,
          (v, AllZip-weaker (TermIs v) (λ s d. Becomes (λ i. Named (v i)) s (Named d)) q.head row.tuple (becomes v) c.tuple, image.1),
          (λ i. (
            (λ there. at_number facts numbers image.0 image.2 i ((c.image.same i).0 there)),
            (λ h.
                let n = at_fact facts numbers image.0 image.2 h.0 h.1 in
                let same : n.0 ≡ i = distinct n.0 i h.0 n.2 h.2 in
                (c.image.same i).1 (subst (Contains numbers) same n.1)),
          )),
        );
      }

  -- and each hit is one
  pub row_of_hit : HasImage facts q row.tuple row.image → Extends facts q.head q.body [] [] row
  unfolding AtomFits AreAt
  row_of_hit h =
      let image = h.match.0 in
      let v = h.match.1.0 in
      let members = h.match.2 in
      let numbers = numbers_of facts v q.body image h.match.1.2 in (
        numbers.0,
        record {
          valuation = v;
          agrees = λ k d l. absurd (omega arith);
          fits = numbers.1;
          tuple = AllZip-weaker (λ s d. Becomes (λ i. Named (v i)) s (Named d)) (TermIs v) q.head row.tuple (term_is v) h.match.1.1;
          image = record {
            ascending = h.ascending;
            same = λ i. (
              (λ there.
                  let f = (members i).0 there in
                  let n = at_fact facts numbers.0 image numbers.2 f.0 f.1 in
                  let same : n.0 ≡ i = distinct n.0 i f.0 n.2 f.2 in
                  subst (Contains numbers.0) same n.1),
              (λ there. (members i).1 (at_number facts numbers.0 image numbers.2 i there)),
            );
          };
        },
      )
