-- The live clauses as lists.
use Rattle.std.proofs.Common.{◌≡◌, ℕ, ◌+◌, ◌<◌, ◌⊎◌, ◌↔◌, inl, inr, List, [], ◌∷◌, ◌++◌, length, map, Contains, Bool, true, false, true≢false, cond, refl}
use Rattle.std.proofs.Common.{sym, subst, ap, ◌∙◌, arith}
use Rattle.std.proofs.lemmas.Bool.{cases_eq}
use Rattle.std.proofs.lemmas.List.Elements.{Contains-append_left, Contains-append_right}
use Rattle.cq_terms.specs.declared.facts.Pair.{Pair}
use Rattle.cq_terms.specs.declared.facts.Repairs.{Repairs}
use Rattle.cq_terms.specs.Knowledge.{Knowledge}
use Rattle.cq_terms.specs.Lists.{IsAscending}
use Rattle.cq_meaning.proofs.Ascending.{with_property}
use Rattle.cq_meaning.proofs.ByLists.{Conflict-within}
use Rattle.cq_meaning.proofs.Extension.{Conflict-sym}
use Rattle.cq_meaning.proofs.Listed.{Listed, listed_none, listed_one, listed_like, listed_either, listed_over, listed_below, member, append_cases}
use Rattle.cq_meaning.proofs.Members.{Contains-nil}
use Rattle.clause_meaning.specs.Literals.{opposite_of}
use Rattle.clause_meaning.specs.Refutation.{Refutes, Follows, OppositesOf, ContainsOneOf}
use Rattle.clause_meaning.proofs.Chains.{Refutes-more}
use Rattle.clause_meaning.proofs.LiteralLaws.{opposite_of-opposite_of}
use Rattle.clause_meaning.proofs.Members.{Contains-map, Contains-map_cases}
use Rattle.priority_graph.specs.Priority.{Priority}
use Rattle.priority_graph.specs.Inputs.{IsPriorityOf}
use Rattle.repair_clauses.specs.BaseClauses as over_priority
use Rattle.repair_clauses.specs.BaseClauses.{AllFacts, Blocks, IsBlockingClause, IsFactClause, conflict_clause, present, absent}
use Rattle.repair_clauses.specs.CauseClauses.{cause_clause}
use Rattle.repair_clauses.proofs.LawLemmas.{fact_clause_unique}
use Rattle.repair_clauses.proofs.ListLemmas.{ascending_map}
use Rattle.report_text.specs.declared.line.Line.{Line}
use Rattle.report_rules.specs.Inputs.{selector_of}
use Rattle.report_rules.specs.Clauses.{IsBaseClause}
use Rattle.report_rules.specs.Order.{is_open}
use Rattle.report_rules.specs.Tries.{asked}
use Rattle.report_rules.specs.Live.{Learned, learned, IsOpenCauseClause, Live}
use Rattle.report_laws.specs.LiveLists.{IsClauseOf, BaseClausesByFacts, BaseClausesAreListed, cause_clauses, open_clauses, learned_clauses, LiveAreListed}
use Rattle.report_laws.specs.LiveLists.{LiveListsTell, LawsOfLiveLists}
use Rattle.report_laws.proofs.BaseClauseLemmas.{means}
use Rattle.report_laws.proofs.PriorityLemmas.{base_of_priority}
use Rattle.report_laws.proofs.ConflictsExist.{conflict_or_not, priority_exists}

-- ---- base clauses

module _ (kb : Knowledge) (mode : Repairs) (p : Priority) (of : IsPriorityOf kb mode p) where
  -- a base clause is one of a fact
  clause_of_fact : (c : List ℕ) → IsBaseClause kb mode c → (fact : ℕ) × (fact < length kb.facts) × IsClauseOf p fact c
  clause_of_fact c base = go ((base_of_priority kb mode p of c).0 base)
    where
      go : over_priority.IsBaseClause p (AllFacts p) c → (fact : ℕ) × (fact < length kb.facts) × IsClauseOf p fact c
      go (inl (a, s, (b, r, m, e))) = (a, subst (λ n. a < n) of.facts s, inr (b, m, e))
      go (inr (f, s, w)) = (f, subst (λ n. f < n) of.facts s, inl w)

  fact_of_clause : (c : List ℕ) → (fact : ℕ) × (fact < length kb.facts) × IsClauseOf p fact c → IsBaseClause kb mode c
  fact_of_clause c (f, l, w) = (base_of_priority kb mode p of c).1 (go w)
    where
      below : f < p.facts
      below = subst (λ n. f < n) (sym of.facts) l

      go : IsClauseOf p f c → over_priority.IsBaseClause p (AllFacts p) c
      go (inl w) = inr (f, below, w)
      go (inr (b, m, e)) =
          let x = (of.conflicts.pairs_exact f b).0 m in
          inl (f, below, (b, subst (λ n. b < n) (sym of.facts) (Conflict-within kb b f (Conflict-sym kb f b x.1)), m, e))

pub base_by_facts : BaseClausesByFacts
base_by_facts kb mode p of clauses are c = ((λ m. fact_of_clause kb mode p of c ((are c).0 m)), (λ b. (are c).1 (clause_of_fact kb mode p of c b)))

-- ---- a list of them

same_pair : (a b : Pair) → (a ≡ b) ⊎ (a ≡ b → ⊥)
same_pair a b = elim (cases_eq a.upper b.upper) [
  | inl e ↦ elim (cases_eq a.lower b.lower) [ inl f ↦ inl (both a.upper b.upper a.lower b.lower e f) | inr n ↦ inr (λ g. n (ap (λ (p : Pair). p.lower) g)) ]
  | inr n ↦ inr (λ g. n (ap (λ (p : Pair). p.upper) g))
]
  where
    pair_of : ℕ → ℕ → Pair
    pair_of i j = record { upper = i; lower = j }

    both : (i k j l : ℕ) → i ≡ k → j ≡ l → pair_of i j ≡ pair_of k l
    both i k j l e f = cc

module _ (kb : Knowledge) (mode : Repairs) (p : Priority) (of : IsPriorityOf kb mode p) where
  blocks_or_not : (i j : ℕ) → Blocks p i j ⊎ (Blocks p i j → ⊥)
  blocks_or_not i j = elim (conflict_or_not kb i j) [
    | inr n ↦ inr (λ w. n (((means kb mode p of).conflict i j).0 w.0))
    | inl c ↦ elim (member same_pair (record { upper = i; lower = j }) p.pairs) [
      | inl b ↦ inr (λ w. w.1 b)
      | inr n ↦ inl (((means kb mode p of).conflict i j).1 c, n)
    ]
  ]

  speaks_or_not : (i j : ℕ) → ((j ≡ i) ⊎ Blocks p i j) ⊎ ((j ≡ i) ⊎ Blocks p i j → ⊥)
  speaks_or_not i j = elim (cases_eq j i) [
    | inl e ↦ inl (inl e)
    | inr n ↦ elim (blocks_or_not i j) [ inl b ↦ inl (inr b) | inr m ↦ inr (λ w. elim w [ inl e ↦ n e | inr b ↦ m b ]) ]
  ]

  clause_exists : (i : ℕ) → (clause : List ℕ) × IsBlockingClause p i clause
  clause_exists i = let w = with_property (λ j. (j ≡ i) ⊎ Blocks p i j) (speaks_or_not i) (length kb.facts + i + 1) in made w.0 w.1 w.2
    where
      below : (j : ℕ) → (j ≡ i) ⊎ Blocks p i j → j < length kb.facts + i + 1
      below j (inl e) = omega arith
      below j (inr b) = let l = Conflict-within kb j i (Conflict-sym kb i j (((means kb mode p of).conflict i j).0 b.0)) in omega arith

      made : (numbers : List ℕ) → IsAscending numbers → ((j : ℕ) → Contains numbers j ↔ ((j < length kb.facts + i + 1) × ((j ≡ i) ⊎ Blocks p i j)))
          → (clause : List ℕ) × IsBlockingClause p i clause
      made numbers up exact = (
        map present numbers,
        record {
          ascending = ascending_map present (λ a b l. omega arith) numbers up;
          exact = λ l. (
            (λ m. let k = Contains-map_cases present numbers l m in (k.0, ((exact k.0).0 k.1).1, sym k.2)),
            (λ (f, s, e). subst (Contains (map present numbers)) (sym e) (Contains-map present numbers f ((exact f).1 (below f s, s)))),
          );
        },
      )

  listed_fact : (i : ℕ) → Listed (IsFactClause p i)
  listed_fact i = elim (member cases_eq i p.own) [
    | inl o ↦ listed_one (IsFactClause p i) (absent i ∷ []) (inl (o, refl)) (λ x w. fact_clause_unique p i x (absent i ∷ []) w (inl (o, refl)))
    | inr n ↦ (let e = clause_exists i in listed_one (IsFactClause p i) e.0 (inr (n, e.1)) (λ x w. fact_clause_unique p i x e.0 w (inr (n, e.1))))
  ]

  -- the clauses of the conflicts of a fact with greater ones
  abbrev OfConflict : ℕ → List ℕ → Type 0
  OfConflict i c = (other : ℕ) × Contains p.couples (i, other) × (c ≡ conflict_clause i other)

  listed_conflicts : (i : ℕ) → Listed (OfConflict i)
  listed_conflicts i = listed_like (λ (c : List ℕ). (cp : ℕ × ℕ) × Contains p.couples cp × ((cp.0 ≡ i) × (c ≡ conflict_clause i cp.1))) (OfConflict i) to from
      (listed_over p.couples (λ (cp : ℕ × ℕ) (c : List ℕ). (cp.0 ≡ i) × (c ≡ conflict_clause i cp.1)) one)
    where
      to : (c : List ℕ) → (cp : ℕ × ℕ) × Contains p.couples cp × ((cp.0 ≡ i) × (c ≡ conflict_clause i cp.1)) → OfConflict i c
      to c (cp, m, (e, f)) = (cp.1, subst (λ (x : ℕ). Contains p.couples (x, cp.1)) e m, f)

      from : (c : List ℕ) → OfConflict i c → (cp : ℕ × ℕ) × Contains p.couples cp × ((cp.0 ≡ i) × (c ≡ conflict_clause i cp.1))
      from c (other, m, e) = ((i, other), m, (refl, e))

      one : (cp : ℕ × ℕ) → Listed (λ (c : List ℕ). (cp.0 ≡ i) × (c ≡ conflict_clause i cp.1))
      one cp = elim (cases_eq cp.0 i) [
        | inl e ↦ listed_one (λ (c : List ℕ). (cp.0 ≡ i) × (c ≡ conflict_clause i cp.1)) (conflict_clause i cp.1) (e, refl) (λ x w. w.1)
        | inr n ↦ listed_none (λ (c : List ℕ). (cp.0 ≡ i) × (c ≡ conflict_clause i cp.1)) (λ x w. n w.0)
      ]

  listed_all : Listed (λ (c : List ℕ). (fact : ℕ) × (fact < length kb.facts) × IsClauseOf p fact c)
  listed_all =
      let l = listed_below (length kb.facts) in
      listed_like (λ (c : List ℕ). (fact : ℕ) × Contains l.0 fact × IsClauseOf p fact c)
      (λ (c : List ℕ). (fact : ℕ) × (fact < length kb.facts) × IsClauseOf p fact c)
      (λ c (f, m, w). (f, (l.1 f).0 m, w)) (λ c (f, m, w). (f, (l.1 f).1 m, w))
      (listed_over l.0 (IsClauseOf p) (λ i. listed_either (IsFactClause p i) (OfConflict i) (listed_fact i) (listed_conflicts i)))

pub base_listed : BaseClausesAreListed
base_listed kb mode =
    let (p, of) = priority_exists kb mode in
    let l = listed_all kb mode p of in
    (l.0, base_by_facts kb mode p of l.0 l.1)

-- ---- live clauses

abbrev learned_so : ℕ → List ℕ → Learned
learned_so n c = record { number = n; clause = c }

pub live_listed : LiveAreListed
live_listed kb b base are c = (to, from)
  where
    open_to : (o : Bool) → is_open b ≡ o → Contains (cond o (cause_clauses kb (asked b)) []) c → IsOpenCauseClause kb b c
    open_to true o m = let (cause, k, e) = Contains-map_cases (cause_clause (selector_of kb (asked b).candidate)) (asked b).causes c m in (o, (cause, k, sym e))
    open_to false o m = absurd (Contains-nil c m)

    open_from : (o : Bool) → is_open b ≡ o → IsOpenCauseClause kb b c → Contains (cond o (cause_clauses kb (asked b)) []) c
    open_from true o (t, (cause, k, e)) = subst (Contains (cause_clauses kb (asked b))) (sym e)
        (Contains-map (cause_clause (selector_of kb (asked b).candidate)) (asked b).causes cause k)
    open_from false o (t, w) = absurd (true≢false (sym t ∙ o))

    to : Contains (base ++ open_clauses kb b ++ learned_clauses kb b) c → Live kb b c
    to m = elim (append_cases (base ++ open_clauses kb b) (learned_clauses kb b) c m) [
      | inl k ↦ elim (append_cases base (open_clauses kb b) c k) [ inl l ↦ inl ((are c).0 l) | inr l ↦ inr (inl (open_to (is_open b) refl l)) ]
      | inr k ↦ (let (x, l, e) = Contains-map_cases (λ (y : Learned). y.clause) (learned (length kb.facts) b) c k in
          inr (inr (x.number, subst (Contains (learned (length kb.facts) b)) (same x e) l)))
    ]
      where
        same : (x : Learned) → x.clause ≡ c → x ≡ learned_so x.number c
        same x e = ap (learned_so x.number) e

    from : Live kb b c → Contains (base ++ open_clauses kb b ++ learned_clauses kb b) c
    from (inl w) = Contains-append_left (base ++ open_clauses kb b) (learned_clauses kb b) c (Contains-append_left base (open_clauses kb b) c ((are c).1 w))
    from (inr (inl w)) = Contains-append_left (base ++ open_clauses kb b) (learned_clauses kb b) c
        (Contains-append_right base (open_clauses kb b) c (open_from (is_open b) refl w))
    from (inr (inr (n, m))) = Contains-append_right (base ++ open_clauses kb b) (learned_clauses kb b) c
        (Contains-map (λ (y : Learned). y.clause) (learned (length kb.facts) b) (record { number = n; clause = c }) m)

-- ---- refutations

-- the same clauses refute the same
pub same_refutes : (S T : List ℕ → Type 0) → ((c : List ℕ) → S c ↔ T c) → (L : ℕ → Type 0) → Refutes S L ↔ Refutes T L
same_refutes S T h L = (Refutes-more S T L L (λ c s. (h c).0 s) (λ l m. m), Refutes-more T S L L (λ c s. (h c).1 s) (λ l m. m))

-- a clause follows where the opposites of its literals are refuted
pub follows_by_opposites : (S : List ℕ → Type 0) (clause : List ℕ) → Refutes S (Contains (map opposite_of clause)) ↔ Follows S clause
follows_by_opposites S clause = (
  Refutes-more S S (Contains (map opposite_of clause)) (OppositesOf clause) (λ c s. s)
      (λ l m. let (k, h, e) = Contains-map_cases opposite_of clause l m in subst (Contains clause) (sym (opposite_of-opposite_of k) ∙ ap opposite_of e) h),
  Refutes-more S S (OppositesOf clause) (Contains (map opposite_of clause)) (λ c s. s)
      (λ l m. subst (Contains (map opposite_of clause)) (opposite_of-opposite_of l) (Contains-map opposite_of clause (opposite_of l) m)),
)

-- and they are contained in the same
pub same_contained : (S T : List ℕ → Type 0) → ((c : List ℕ) → S c ↔ T c) → (clause : List ℕ) → ContainsOneOf S clause ↔ ContainsOneOf T clause
same_contained S T h clause = ((λ (c, s, w). (c, (h c).0 s, w)), (λ (c, s, w). (c, (h c).1 s, w)))

-- whatever has exactly the live clauses tells what they refute, what follows and what contains one
pub live_tells : (kb : Knowledge) (b : List Line) (S : List ℕ → Type 0) → ((c : List ℕ) → S c ↔ Live kb b c)
    → ((assume : List ℕ) → Refutes S (Contains assume) ↔ Refutes (Live kb b) (Contains assume))
    × ((clause : List ℕ) → Refutes S (Contains (map opposite_of clause)) ↔ Follows (Live kb b) clause)
    × ((clause : List ℕ) → ContainsOneOf S clause ↔ ContainsOneOf (Live kb b) clause)
live_tells kb b S h = (
  (λ assume. same_refutes S (Live kb b) h (Contains assume)),
  (λ clause. (
    (λ r. (follows_by_opposites (Live kb b) clause).0 ((same_refutes S (Live kb b) h (Contains (map opposite_of clause))).0 r)),
    (λ f. (same_refutes S (Live kb b) h (Contains (map opposite_of clause))).1 ((follows_by_opposites (Live kb b) clause).1 f)),
  )),
  (λ clause. same_contained S (Live kb b) h clause),
)

pub lists_tell : LiveListsTell
lists_tell kb b clauses are = let w = live_tells kb b (Contains clauses) are in record { refutes = w.0; follows = w.1; contains = w.2 }

pub laws : LawsOfLiveLists
laws = record { base_by_facts = base_by_facts; base_listed = base_listed; live_listed = live_listed; tell = lists_tell }
