-- The test whether a head and a body are those of a query passes exactly where they are.
use Rattle.std.proofs.Common.{◌≡◌, ℕ, ◌<◌, ◌⊎◌, inl, inr, Bool, true, false, ◌||◌, List, length, All, Some, None, refl, sym, ap, ◌∙◌, arith}
use Rattle.std.specs.Prelude.{◌==◌, if◌then◌else◌}
use Rattle.std.specs.List.{list_all}
use Rattle.std.proofs.lemmas.Bool.Decides.{nat_tests, Decides-eqb}
use Rattle.std.proofs.lemmas.List.Elements.{All-weaker}
use Rattle.std.proofs.lemmas.List.Folds.{Any-from_list_any, list_any-from_Any}
use Rattle.std.proofs.lemmas.List.Sums.{AllPass-from_list_all, list_all-from_AllPass}
use Rattle.cq_terms.specs.declared.query.Term.{Term}
use Rattle.cq_terms.specs.declared.query.Term.TheVariants as term
use Rattle.cq_terms.specs.declared.query.QAtom.{QAtom}
use Rattle.cq_terms.specs.declared.query.QAtom.TheVariants as atom
use Rattle.cq_terms.specs.Query.{Query, StandsIn, IsMeant, IsSafe}
use Rattle.cq_terms.specs.SafeQuery.{is_variable, stands_in, is_meant, is_safe, if_safe}

-- the term is the variable
is_variable-sound : (l : ℕ) (t : Term) → is_variable l t ≡ true → t ≡ term.Var l
is_variable-sound l (term.Var k) h = ap (λ n. term.Var n) ((Decides-eqb k l).0 h)
is_variable-sound l (term.Ind c) h = cc h
is_variable-sound l term.Any h = cc h

-- the variable is known as itself
is_variable-same : (l : ℕ) (t : Term) → t ≡ term.Var l → is_variable l t ≡ true
is_variable-same l t e = ap (is_variable l) e ∙ (Decides-eqb l l).1 refl

-- one of two tests passes
either : (a b : Bool) → (a || b) ≡ true → (a ≡ true) ⊎ (b ≡ true)
either true b h = inl refl
either false b h = inr h

-- a test passes beside another
or_first : (a b : Bool) → a ≡ true → (a || b) ≡ true
or_first a b h = rw h refl

or_second : (a b : Bool) → b ≡ true → (a || b) ≡ true
or_second true b h = refl
or_second false b h = h

-- the variable stands in the atom
stands_in-sound : (l : ℕ) (a : QAtom) → stands_in l a ≡ true → StandsIn l a
stands_in-sound l (atom.Concept p t) h = is_variable-sound l t h
stands_in-sound l (atom.Link p s t) h = by (either (is_variable l s) (is_variable l t) h)
  where
    by : (is_variable l s ≡ true) ⊎ (is_variable l t ≡ true) → (s ≡ term.Var l) ⊎ (t ≡ term.Var l)
    by (inl h) = inl (is_variable-sound l s h)
    by (inr h) = inr (is_variable-sound l t h)

-- a variable that stands in an atom is found there
stands_in-complete : (l : ℕ) (a : QAtom) → StandsIn l a → stands_in l a ≡ true
stands_in-complete l (atom.Concept p t) h = is_variable-same l t h
stands_in-complete l (atom.Link p s t) (inl e) = or_first (is_variable l s) (is_variable l t) (is_variable-same l s e)
stands_in-complete l (atom.Link p s t) (inr e) = or_second (is_variable l s) (is_variable l t) (is_variable-same l t e)

-- a term that passes has a meaning
is_meant-sound : (body : List QAtom) (t : Term) → is_meant body t ≡ true → IsMeant body t
is_meant-sound body (term.Var l) h = let found = Any-from_list_any (stands_in l) body h in
    (found.0, found.1, found.2, found.3, stands_in-sound l found.1 found.4)
is_meant-sound body (term.Ind c) h = tt
is_meant-sound body term.Any h = cc h

-- a term with a meaning passes
is_meant-complete : (body : List QAtom) (t : Term) → IsMeant body t → is_meant body t ≡ true
is_meant-complete body (term.Var l) h = list_any-from_Any (stands_in l) body (h.0, h.1, h.2, h.3, stands_in-complete l h.1 h.4)
is_meant-complete body (term.Ind c) h = refl
is_meant-complete body term.Any h = absurd h

-- terms that pass have meanings
all_meant-sound : (body : List QAtom) (head : List Term) → list_all (is_meant body) head ≡ true → All (IsMeant body) head
all_meant-sound body head h = All-weaker (λ t. is_meant body t ≡ true) (IsMeant body) (is_meant-sound body) head (AllPass-from_list_all (is_meant body) head h)

-- terms with meanings pass
all_meant-complete : (body : List QAtom) (head : List Term) → All (IsMeant body) head → list_all (is_meant body) head ≡ true
all_meant-complete body head h = list_all-from_AllPass (is_meant body) head
    (All-weaker (IsMeant body) (λ t. is_meant body t ≡ true) (is_meant-complete body) head h)

-- there is an atom
some_atom : (body : List QAtom) → (length body == 0) ≡ false → 0 < length body
some_atom body h = grind (arith, nat_tests)

-- the body isn't empty
not_none : (body : List QAtom) → 0 < length body → (length body == 0) ≡ false
not_none body h = grind (arith, nat_tests)

-- what passes is a query
pub is_safe-sound : (head : List Term) (body : List QAtom) → is_safe head body ≡ true → IsSafe (record { head = head; body = body })
is_safe-sound head body h = by (length body == 0) refl h
  where
    by : (b : Bool) → (length body == 0) ≡ b → (if b then false else list_all (is_meant body) head) ≡ true → IsSafe (record { head = head; body = body })
    by true e h = cc h
    by false e h = record { body = some_atom body e; head = all_meant-sound body head h }

-- what passes test by test is a query
pub safe_by_tests : (head : List Term) (body : List QAtom) (r : Bool) → (length body == 0) ≡ false → r ≡ list_all (is_meant body) head → r ≡ true
    → IsSafe (record { head = head; body = body })
safe_by_tests head body r some all h = record { body = some_atom body some; head = all_meant-sound body head (sym all ∙ h) }

-- a query passes
pub is_safe-complete : (q : Query) → IsSafe q → is_safe q.head q.body ≡ true
is_safe-complete q h = rw (not_none q.body h.body, all_meant-complete q.body q.head h.head) refl

-- a query is given back
pub if_safe-query : (q : Query) → IsSafe q → if_safe q.head q.body ≡ Some q
if_safe-query q h = rw (is_safe-complete q h) refl

-- what is given is one
pub IsSafe-if_safe : (head : List Term) (body : List QAtom) (q : Query) → if_safe head body ≡ Some q → IsSafe q × (q.head ≡ head) × (q.body ≡ body)
IsSafe-if_safe head body q e = by (is_safe head body) refl e
  where
    by : (b : Bool) → is_safe head body ≡ b → (if b then Some (record { head = head; body = body }) else None) ≡ Some q → IsSafe q × (q.head ≡ head)
        × (q.body ≡ body)
    by true h e = let same : record { head = head; body = body } ≡ q = cc e in rw (← same) (is_safe-sound head body h, refl, refl)
    by false h e = cc e
