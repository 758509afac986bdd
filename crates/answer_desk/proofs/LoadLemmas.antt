-- Clauses that are given to a solver one by one.
use Rattle.std.proofs.Common.{◌≡◌, ◌≢◌, ◌<◌, ◌+◌, ◌⊎◌, ◌↔◌, All, inl, inr, ℕ, List, [], ◌∷◌, ◌++◌, length, map, None, eqb}
use Rattle.std.proofs.Common.{get_or, refl, sym, subst, ap, ◌∙◌, arith, Contains}
use Rattle.std.specs.List.{IsDistinct}
use Rattle.std.proofs.lemmas.Bool.{cases_eq, ne_eqb, eq-eqb}
use Rattle.std.proofs.lemmas.List.{append-nil}
use Rattle.std.proofs.lemmas.List.Elements.{All-contains, Contains-append_left, Contains-push}
use Rattle.std.proofs.lemmas.List.Elements.{Contains-push_cases}
use Rattle.std.proofs.lemmas.List.Kept.{AllPairs-from_increasing}
use Rattle.std.proofs.lemmas.List.Sorted.{Contains-permutation, IsPermutation-sym, IsNonDecreasingBy-from_sort}
use Rattle.std.proofs.lemmas.Map.Keys.{IsDistinct-IsPermutation, IsDistinct-from_apart, IsStrictlyIncreasing-from_distinct}
use Rattle.clause_meaning.specs.Literals.{variable_of, AreBelow}
use Rattle.clause_meaning.proofs.Members.{Contains-map, Contains-map_cases}
use Rattle.cq_meaning.proofs.Ascending.{ascending_same, All-of}
use Rattle.cq_meaning.proofs.Members.{Contains-nil}
use Rattle.cq_terms.specs.Lists.{IsAscending}
use Rattle.repair_clauses.specs.BaseClauses.{absent}
use Rattle.repair_clauses.specs.CauseClauses.{cause_clause}
use Rattle.repair_clauses.proofs.LiteralLemmas.{variable_of-absent}
use Rattle.repair_encoder.specs.Forms.{HasForm}
use Rattle.report_rules.specs.Clauses.{IsCauseClause}
use Rattle.cdcl_core.specs.State.{State, LiveClause, AscendsAs, AddsClause, with_given}
use Rattle.answer_desk.specs.Desks.{given_in, learned_in}
use Rattle.answer_desk.specs.Loading.{IsAddable, AreAddable, Loads}
use Rattle.answer_desk.proofs.LiveLemmas.{given_in-append, learned_in-append}

-- ---- an ascending clause in ascending order

flips : (x y : ℕ) → eqb x y ≡ eqb y x
flips x y = elim (cases_eq x y) [
  | inl e ↦ eq-eqb x y e ∙ sym (eq-eqb y x (sym e))
  | inr n ↦ ne_eqb x y n ∙ sym (ne_eqb y x (λ e. n (sym e)))
]

-- an ascending clause is the list by which it is shown
pub ascending_shown : (clause shown : List ℕ) → IsAscending clause → AscendsAs clause shown → shown ≡ clause
ascending_shown clause shown up order =
    let apart : IsDistinct eqb clause = IsDistinct-from_apart eqb clause (λ i j d l m. ne_eqb (get_or clause i d) (get_or clause j d) (differ i j d l m)) in
    let distinct : IsDistinct eqb shown = IsDistinct-IsPermutation eqb flips clause shown order.permutation apart in
    let rises : IsAscending shown = AllPairs-from_increasing shown
    (IsStrictlyIncreasing-from_distinct shown (IsNonDecreasingBy-from_sort (λ (x : ℕ). x) shown order.sorted) distinct) in
    ascending_same shown clause rises up (λ i m. Contains-permutation shown clause i (IsPermutation-sym clause shown order.permutation) m)
    (λ i m. Contains-permutation clause shown i order.permutation m)
  where
    differ : (i j d : ℕ) → i < j → j < length clause → get_or clause i d ≢ get_or clause j d
    differ i j d l m e = let less = up i j d l m in absurd (omega (arith, e, less))

-- ---- one more clause

pub Loads-none : (s : State) → Loads [] s s
Loads-none s = record {
  variables = refl;
  next = refl;
  learned = refl;
  given = λ c. ((λ m. inl m), (λ w. elim w [ inl m ↦ m | inr n ↦ absurd (Contains-nil c n) ]));
}

-- the clause comes last among the given ones
Loads-given : (clauses : List (List ℕ)) (clause : List ℕ) (old mid : State) → Loads clauses old mid → Loads (clauses ++ clause ∷ []) old (with_given mid clause)
Loads-given clauses clause old mid l = record {
  variables = l.variables;
  next = l.next;
  learned = learned_in-append mid.live (entry ∷ []) ∙ (append-nil (learned_in mid.live) ∙ l.learned);
  given = λ c. (there c, back c);
}
  where
    entry : LiveClause
    entry = record { number = None; literals = clause }

    same : given_in (with_given mid clause).live ≡ given_in mid.live ++ clause ∷ []
    same = given_in-append mid.live (entry ∷ [])

    there : (c : List ℕ) → Contains (given_in (with_given mid clause).live) c → Contains (given_in old.live) c ⊎ Contains (clauses ++ clause ∷ []) c
    there c m = elim (Contains-push_cases (given_in mid.live) clause c (subst (λ (xs : List (List ℕ)). Contains xs c) same m)) [
      | inl n ↦ elim ((l.given c).0 n) [ inl o ↦ inl o | inr o ↦ inr (Contains-append_left clauses (clause ∷ []) c o) ]
      | inr e ↦ inr (subst (Contains (clauses ++ clause ∷ [])) e (Contains-push clauses clause))
    ]

    back : (c : List ℕ) → Contains (given_in old.live) c ⊎ Contains (clauses ++ clause ∷ []) c → Contains (given_in (with_given mid clause).live) c
    back c w = subst (λ (xs : List (List ℕ)). Contains xs c) (sym same) (go w)
      where
        go : Contains (given_in old.live) c ⊎ Contains (clauses ++ clause ∷ []) c → Contains (given_in mid.live ++ clause ∷ []) c
        go (inl o) = Contains-append_left (given_in mid.live) (clause ∷ []) c ((l.given c).1 (inl o))
        go (inr n) = elim (Contains-push_cases clauses clause c n) [
          | inl o ↦ Contains-append_left (given_in mid.live) (clause ∷ []) c ((l.given c).1 (inr o))
          | inr e ↦ subst (Contains (given_in mid.live ++ clause ∷ [])) e (Contains-push (given_in mid.live) clause)
        ]

pub Loads-more : (clauses : List (List ℕ)) (clause : List ℕ) (old mid new : State) → IsAscending clause → Loads clauses old mid → AddsClause mid new clause
    → Loads (clauses ++ clause ∷ []) old new
Loads-more clauses clause old mid new up l (shown, order, is) =
    subst (λ (s : State). Loads (clauses ++ clause ∷ []) old s)
    (sym (is ∙ ap (with_given mid) (ascending_shown clause shown up order))) (Loads-given clauses clause old mid l)

-- ---- what may be given

-- the clause of a cause is over its facts and the selector
pub cause_clause_some : (selector : ℕ) (cause : List ℕ) → cause_clause selector cause ≢ []
cause_clause_some selector cause e =
    Contains-nil (absent selector) (subst (λ (xs : List ℕ). Contains xs (absent selector)) e
    (Contains-map absent (cause ++ selector ∷ []) selector (Contains-push cause selector)))

pub cause_clause_below : (variables selector : ℕ) (cause : List ℕ) → selector < variables → All (λ f. f < selector) cause
    → AreBelow variables (cause_clause selector cause)
cause_clause_below variables selector cause l below = All-of (λ k. variable_of k < variables) (cause_clause selector cause) each
  where
    fact : (f : ℕ) → Contains (cause ++ selector ∷ []) f → f < variables
    fact f m = elim (Contains-push_cases cause selector f m) [
      | inl n ↦ let less = All-contains (λ g. g < selector) cause f below n in omega (arith, less)
      | inr e ↦ subst (λ (g : ℕ). g < variables) e l
    ]

    each : (k : ℕ) → Contains (cause_clause selector cause) k → variable_of k < variables
    each k m =
        let w = Contains-map_cases absent (cause ++ selector ∷ []) k m in
        subst (λ (v : ℕ). v < variables) (sym (ap variable_of (sym w.2) ∙ variable_of-absent w.0)) (fact w.0 w.1)

-- the clauses of the causes are those of the list
pub cause_clauses_listed : (selector : ℕ) (causes : List (List ℕ)) (clause : List ℕ)
    → Contains (map (cause_clause selector) causes) clause ↔ IsCauseClause selector causes clause
cause_clauses_listed selector causes clause = (
  (λ m. let w = Contains-map_cases (cause_clause selector) causes clause m in (w.0, w.1, sym w.2)),
  (λ w. subst (Contains (map (cause_clause selector) causes)) (sym w.2) (Contains-map (cause_clause selector) causes w.0 w.1)),
)

-- base clauses of facts below the number of variables may be given
pub AreAddable-from_forms : (variables : ℕ) (facts : List ℕ) (clauses : List (List ℕ)) → All (λ f. f < variables) facts → All (HasForm facts) clauses
    → AreAddable variables clauses
AreAddable-from_forms variables facts clauses below forms = All-of (IsAddable variables) clauses each
  where
    some : (c : List ℕ) → 0 < length c → c ≢ []
    some c l e = absurd (go (ap (λ (xs : List ℕ). length xs) e))
      where
        go : length c ≡ 0 → ⊥
        go z = omega (arith, z)

    each : (c : List ℕ) → Contains clauses c → IsAddable variables c
    each c m =
        let form = All-contains (HasForm facts) clauses c forms m in
        record {
          some = some c form.some;
          ascending = form.ascending;
          in_range = All-of (λ l. variable_of l < variables) c
              (λ l n. All-contains (λ f. f < variables) facts (variable_of l) below (All-contains (λ k. Contains facts (variable_of k)) c l form.inside n));
          distinct = form.distinct;
        }
