-- One step of the search: what completes the bindings after the next atom is bound to a fact.
use Rattle.std.proofs.Common.{◌≡◌, ℕ, zero, suc, List, [], ◌∷◌, ◌++◌, slice_get, Some, All, Any, ◌⊎◌, inl, inr, refl, sym, ◌∙◌, subst, arith, true, false}
use Rattle.std.proofs.lemmas.List.{append_assoc, append-nil}
use Rattle.std.proofs.lemmas.List.Elements.{All-weaker, All-head, All-tail}
use Rattle.cq_terms.specs.declared.facts.Fact.{Fact}
use Rattle.cq_terms.specs.declared.query.Term.{Term}
use Rattle.cq_terms.specs.declared.query.Term.TheVariants as term
use Rattle.cq_terms.specs.declared.query.QAtom.{QAtom}
use Rattle.cq_terms.specs.Lists.{IsSorted}
use Rattle.cq_terms.specs.Query.{StandsIn, IsMeant}
use Rattle.query_matching.specs.declared.bindings.Binding.{Binding}
use Rattle.query_matching.specs.declared.row.Row.{Row}
use Rattle.query_matching.specs.Bindings.{Agrees, IsBound, TermIs, AtomIs, HeadIs, Binds}
use Rattle.query_matching.specs.Extensions.{Extends, ExtendsBy, IsCovered}
use Rattle.query_matching.proofs.Ascending.{sorted_same}
use Rattle.query_matching.proofs.BindingLemmas.{bound_more}

module _ (facts : List Fact) (head : List Term) (a : QAtom) (more : List QAtom) (n : ℕ) (f : Fact) (old new : List Binding) (path : List ℕ)
    (at : slice_get facts n ≡ Some f) where
  -- what goes on from the fact completes what was before
  pub step_back : Binds (λ v. AtomIs v a f) (λ l. StandsIn l a) old new true → (row : Row) → Extends facts head more new (path ++ n ∷ []) row
      → ExtendsBy facts head a more n old path row
  step_back binds row (numbers, c) =
      let both = (binds.exact refl c.valuation).0 c.agrees in (
        numbers,
        record {
          valuation = c.valuation;
          agrees = both.0;
          fits = ((f, at, both.1), c.fits);
          tuple = c.tuple;
          image = subst (λ (xs : List ℕ). IsSorted xs row.image) (append_assoc path (n ∷ []) numbers) c.image;
        },
      )

  -- and what completes it by the fact goes on from there
  pub step_on : Binds (λ v. AtomIs v a f) (λ l. StandsIn l a) old new true → (row : Row) → ExtendsBy facts head a more n old path row
      → Extends facts head more new (path ++ n ∷ []) row
  step_on binds row (numbers, c) =
      let same : Some c.fits.0.0 ≡ Some f = sym c.fits.0.1 ∙ at in
      let fact_is : c.fits.0.0 ≡ f = cc same in
      let fits : AtomIs c.valuation a f = subst (AtomIs c.valuation a) fact_is c.fits.0.2 in (
        numbers,
        record {
          valuation = c.valuation;
          agrees = (binds.exact refl c.valuation).1 (c.agrees, fits);
          fits = c.fits.1;
          tuple = c.tuple;
          image = subst (λ (xs : List ℕ). IsSorted xs row.image) (sym (append_assoc path (n ∷ []) numbers)) c.image;
        },
      )

  -- a fact that doesn't fit completes nothing
  pub no_step : (fits : Binds (λ v. AtomIs v a f) (λ l. StandsIn l a) old new false) → (row : Row) → ExtendsBy facts head a more n old path row → ⊥
  no_step binds row (numbers, c) =
      let same : Some c.fits.0.0 ≡ Some f = sym c.fits.0.1 ∙ at in
      let fact_is : c.fits.0.0 ≡ f = cc same in
      binds.never refl c.valuation c.agrees (subst (AtomIs c.valuation a) fact_is c.fits.0.2)

-- some number extends what is bound exactly where some extends it by a number
pub by_first : (facts : List Fact) (head : List Term) (a : QAtom) (more : List QAtom) (bindings : List Binding) (path : List ℕ) (row : Row) (n : ℕ)
    → ExtendsBy facts head a more n bindings path row → Extends facts head (a ∷ more) bindings path row
by_first facts head a more bindings path row n (numbers, c) = (n ∷ numbers, c)

-- and the first number is that of a fact which the atom may be
pub first_of : (facts : List Fact) (head : List Term) (a : QAtom) (more : List QAtom) (bindings : List Binding) (path : List ℕ) (row : Row)
    → Extends facts head (a ∷ more) bindings path row
    → (n : ℕ) × ExtendsBy facts head a more n bindings path row × ((v : ℕ → ℕ) × (f : Fact) × Agrees bindings v × (slice_get facts n ≡ Some f) × AtomIs v a f)
first_of facts head a more bindings path row ([], c) = absurd c.fits
first_of facts head a more bindings path row (n ∷ numbers, c) = (n, (numbers, c), (c.valuation, c.fits.0.0, c.agrees, c.fits.0.1, c.fits.0.2))

-- ---- the head

any_cons : (l : ℕ) (a : QAtom) (more : List QAtom) → Any (StandsIn l) (a ∷ more) → StandsIn l a ⊎ Any (StandsIn l) more
any_cons l a more (zero, x, within, at, here) = inl (subst (StandsIn l) (sym at) here)
any_cons l a more (suc k, x, within, at, here) = inr (k, x, omega arith, at, here)

-- a covered head stays covered where an atom is bound
pub covered_on : (a : QAtom) (more : List QAtom) (old new grown : List Binding) → new ≡ old ++ grown → ((l : ℕ) → StandsIn l a → IsBound new l)
    → (head : List Term) → All (IsCovered old (a ∷ more)) head → All (IsCovered new more) head
covered_on a more old new grown longer bound head covered = All-weaker (IsCovered old (a ∷ more)) (IsCovered new more) each head covered
  where
    bound_or_later : (l : ℕ) → IsBound old l ⊎ Any (StandsIn l) (a ∷ more) → IsBound new l ⊎ Any (StandsIn l) more
    bound_or_later l (inl before) = inl (subst (λ (xs : List Binding). IsBound xs l) (sym longer) (bound_more old grown l before))
    bound_or_later l (inr there) = here_or_later (any_cons l a more there)
      where
        here_or_later : StandsIn l a ⊎ Any (StandsIn l) more → IsBound new l ⊎ Any (StandsIn l) more
        here_or_later (inl here) = inl (bound l here)
        here_or_later (inr later) = inr later

    each : (t : Term) → IsCovered old (a ∷ more) t → IsCovered new more t
    each (term.Var l) h = bound_or_later l h
    each (term.Ind c) h = tt
    each term.Any h = absurd h

-- each head of a safe query is covered by its body
pub covered_first : (body : List QAtom) (head : List Term) → All (IsMeant body) head → All (IsCovered [] body) head
covered_first body head meant = All-weaker (IsMeant body) (IsCovered [] body) each head meant
  where
    each : (t : Term) → IsMeant body t → IsCovered [] body t
    each (term.Var l) h = inr h
    each (term.Ind c) h = tt
    each term.Any h = absurd h

-- a head without `_` is one tuple under a valuation
head_same : (v : ℕ → ℕ) (bindings : List Binding) (rest : List QAtom) (head : List Term) (xs ys : List ℕ) → All (IsCovered bindings rest) head
    → HeadIs v head xs → HeadIs v head ys → xs ≡ ys
head_same v bindings rest [] [] [] covered left right = refl
head_same v bindings rest [] [] (y ∷ ys) covered left right = absurd right
head_same v bindings rest [] (x ∷ xs) ys covered left right = absurd left
head_same v bindings rest (t ∷ head) [] ys covered left right = absurd left
head_same v bindings rest (t ∷ head) (x ∷ xs) [] covered left right = absurd right
head_same v bindings rest (t ∷ head) (x ∷ xs) (y ∷ ys) covered left right =
    let more = head_same v bindings rest head xs ys (All-tail (IsCovered bindings rest) t head covered) left.1 right.1 in
    let here = term_same t x y (All-head (IsCovered bindings rest) t head covered) left.0 right.0 in
    cc
  where
    term_same : (t : Term) (x y : ℕ) → IsCovered bindings rest t → TermIs v t x → TermIs v t y → x ≡ y
    term_same (term.Var l) x y h p q = p ∙ sym q
    term_same (term.Ind c) x y h p q = p ∙ sym q
    term_same term.Any x y h p q = absurd h

-- ---- the end

module _ (facts : List Fact) (head : List Term) (bindings : List Binding) (path : List ℕ) (row : Row) (covered : All (IsCovered bindings []) head)
    (tuple : (v : ℕ → ℕ) → Agrees bindings v → HeadIs v head row.tuple) (image : IsSorted path row.image) where
  -- the row of what is bound is one
  pub row_extends : (v : ℕ → ℕ) → Agrees bindings v → Extends facts head [] bindings path row
  row_extends v agrees = (
    [],
    record {
      valuation = v;
      agrees = agrees;
      fits = tt;
      tuple = tuple v agrees;
      image = subst (λ (xs : List ℕ). IsSorted xs row.image) (sym (append-nil path)) image;
    },
  )

  -- and the only one
  pub row_is : (other : Row) → Extends facts head [] bindings path other → row ≡ other
  row_is other (n ∷ numbers, c) = absurd c.fits
  row_is other ([], c) =
      let tuples : row.tuple ≡ other.tuple = head_same c.valuation bindings [] head row.tuple other.tuple covered (tuple c.valuation c.agrees) c.tuple in
      let images : row.image ≡ other.image = sorted_same path row.image other.image image
      (subst (λ (xs : List ℕ). IsSorted xs other.image) (append-nil path) c.image) in
      λ i. record { tuple = tuples i; image = images i }
