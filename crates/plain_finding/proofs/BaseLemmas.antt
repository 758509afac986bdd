-- The base clauses of facts, as a walk over the facts adds them.
use Rattle.std.proofs.Common.{◌≡◌, ◌<◌, ◌≤◌, ◌+◌, ◌⊎◌, inl, inr, ◌↔◌, ℕ, List, [], ◌∷◌, ◌++◌, length, map, take, get_or, Bool, cond, ap, ◌∙◌, append_assoc}
use Rattle.std.proofs.Common.{append-nil, sym, subst, arith, Contains, insert, ltb}
use Rattle.std.specs.List.{filter}
use Rattle.std.proofs.lemmas.Bool.{lt-ltb, le-ltb, ltb-true, cases_lt}
use Rattle.std.proofs.lemmas.List.{take_more, map-append}
use Rattle.std.proofs.lemmas.List.Elements.{filter-append}
use Rattle.clause_meaning.specs.Literals.{AreBelow, variable_of}
use Rattle.cq_meaning.proofs.Ascending.{All-of}
use Rattle.priority_graph.proofs.DirectLemmas.{conflict_over}
use Rattle.repair_clauses.proofs.LiteralLemmas.{variable_of-present, variable_of-absent}
use Rattle.repair_clauses.proofs.ListLemmas.{one_of, one_of_two}
use Rattle.std.proofs.lemmas.List.Elements.{All-contains, Contains-append_left, Contains-append_right, Contains-append_cases}
use Rattle.clause_meaning.proofs.Members.{Contains-map, Contains-map_cases}
use Rattle.cq_meaning.proofs.Members.{Contains-head, Contains-later, Contains-cases, Contains-nil}
use Rattle.cq_terms.specs.Conflicts.{ConflictGraph, AreInConflict, AreClashes, couples}
use Rattle.cq_terms.specs.Lists.{IsAscending}
use Rattle.cq_terms.proofs.ConflictsLemmas.{couples_below, upward}
use Rattle.priority_graph.specs.Priority.{Priority, IsOver, AreBlockers}
use Rattle.priority_graph.proofs.SplitLemmas.{Contains-filter_to, Contains-filter_from}
use Rattle.repair_clauses.specs.BaseClauses.{present, absent, conflict_clause, Blocks, IsFactClause}
use Rattle.repair_clauses.proofs.LawLemmas.{fact_clause_unique}
use Rattle.repair_clauses.proofs.ListLemmas.{ascending_map}
use Rattle.report_laws.specs.LiveLists.{IsClauseOf, AreClausesBelow}
use Rattle.plain_finding.specs.BaseParts.{AreClausesOf, SaysOneIsPresent, conflict_clauses}
use Rattle.plain_finding.proofs.InsertLemmas.{insert_to, insert_from}

-- the lesser fact of a pair in conflict stands first
pub couple_up : (g : ConflictGraph) (i j : ℕ) → AreClashes g.facts g.clashes → Contains (couples g.clashes) (i, j) → i < j
couple_up g i j h c = All-contains (λ (c : ℕ × ℕ). c.0 < c.1) (couples g.clashes) (i, j)
    (upward g.facts (couples g.clashes) (couples_below g.facts g.clashes h.each)) c

pub no_self_conflict : (g : ConflictGraph) (i : ℕ) → AreClashes g.facts g.clashes → AreInConflict g.clashes i i → ⊥
no_self_conflict g i h (inl c) = let l = couple_up g i i h c in omega arith
no_self_conflict g i h (inr c) = let l = couple_up g i i h c in omega arith

-- the literals of a fact and of others, with the fact at its place
present_insert : (fact at : ℕ) (others : List ℕ) (l : ℕ) → Contains (map present (insert others at fact)) l
    ↔ ((f : ℕ) × ((f ≡ fact) ⊎ Contains others f) × (l ≡ present f))
present_insert fact at others l = (
  (λ c. let w = Contains-map_cases present (insert others at fact) l c in (w.0, insert_to others at fact w.0 w.1, sym w.2)),
  (λ (f, m, e). subst (Contains (map present (insert others at fact))) (sym e)
      (Contains-map present (insert others at fact) f (insert_from others at fact f m))),
)

pub says_one : (fact at : ℕ) (others clause : List ℕ) → clause ≡ map present (insert others at fact) → IsAscending (insert others at fact)
    → SaysOneIsPresent fact others clause
says_one fact at others clause is up = rw is (record {
  ascending = ascending_map present (λ i j l. omega arith) (insert others at fact) up;
  exact =
      present_insert fact at others;
})

-- a fact and its blockers make the clause of the fact
pub blocking_clause : (p : Priority) (fact : ℕ) (blockers clause : List ℕ) → AreBlockers p fact blockers → ¬ Contains p.own fact
    → SaysOneIsPresent fact blockers clause
    → IsFactClause p fact clause
blocking_clause p fact blockers clause b own h = inr (
  own,
  record {
    ascending = h.ascending;
    exact =
        λ l. ((λ m. to l ((h.exact l).0 m)), (λ w. (h.exact l).1 (from l w)));
  },
)
  where
    to : (l : ℕ) → ((f : ℕ) × ((f ≡ fact) ⊎ Contains blockers f) × (l ≡ present f)) → (f : ℕ) × ((f ≡ fact) ⊎ Blocks p fact f) × (l ≡ present f)
    to l (f, inl e, is) = (f, inl e, is)
    to l (f, inr m, is) = (f, inr ((b.exact f).0 m), is)

    from : (l : ℕ) → ((f : ℕ) × ((f ≡ fact) ⊎ Blocks p fact f) × (l ≡ present f)) → (f : ℕ) × ((f ≡ fact) ⊎ Contains blockers f) × (l ≡ present f)
    from l (f, inl e, is) = (f, inl e, is)
    from l (f, inr m, is) = (f, inr ((b.exact f).1 m), is)

pub conflict_clauses_to : (f : ℕ) (rivals : List ℕ) (c : List ℕ) → Contains (conflict_clauses f rivals) c → (b : ℕ) × (f < b) × Contains rivals b
    × (c ≡ conflict_clause f b)
conflict_clauses_to f rivals c m =
    let w = Contains-map_cases (conflict_clause f) (filter (ltb f) rivals) c m in
    let k = Contains-filter_from (ltb f) rivals w.0 w.1 in
    (w.0, ltb-true f w.0 k.1, k.0, sym w.2)

conflict_clauses_from : (f : ℕ) (rivals : List ℕ) (c : List ℕ) (b : ℕ) → f < b → Contains rivals b → c ≡ conflict_clause f b
    → Contains (conflict_clauses f rivals) c
conflict_clauses_from f rivals c b l m e =
    subst (Contains (conflict_clauses f rivals)) (sym e) (Contains-map (conflict_clause f) (filter (ltb f) rivals) b
    (Contains-filter_to (ltb f) rivals b m (lt-ltb f b l)))

-- the clause of the fact alone and those of its conflicts with greater facts are its base clauses
pub clauses_of : (p : Priority) (g : ConflictGraph) (fact : ℕ) (clause rivals : List ℕ) → IsOver p g → AreClashes g.facts g.clashes
    → IsFactClause p fact clause → ((j : ℕ) → Contains rivals j ↔ AreInConflict g.clashes fact j)
    → AreClausesOf p fact (clause ∷ conflict_clauses fact rivals)
clauses_of p g fact clause rivals over kept alone against c = (to, from)
  where
    listed : (b : ℕ) → fact < b → AreInConflict g.clashes fact b → Contains p.couples (fact, b)
    listed b less (inl m) = subst (λ (cs : List (ℕ × ℕ)). Contains cs (fact, b)) (sym over.couples) m
    listed b less (inr m) = let up = couple_up g b fact kept m in absurd (omega arith)

    to : Contains (clause ∷ conflict_clauses fact rivals) c → IsClauseOf p fact c
    to m = elim (Contains-cases clause (conflict_clauses fact rivals) c m) [
      | inl e ↦ inl (subst (IsFactClause p fact) e alone)
      | inr n ↦ (let w = conflict_clauses_to fact rivals c n in inr (w.0, listed w.0 w.1 ((against w.0).0 w.2), w.3))
    ]

    from : IsClauseOf p fact c → Contains (clause ∷ conflict_clauses fact rivals) c
    from (inl w) = subst (Contains (clause ∷ conflict_clauses fact rivals)) (fact_clause_unique p fact clause c alone w)
        (Contains-head clause (conflict_clauses fact rivals))
    from (inr (b, m, e)) =
        let there : Contains (couples g.clashes) (fact, b) = subst (λ (cs : List (ℕ × ℕ)). Contains cs (fact, b)) over.couples m in
        Contains-later clause (conflict_clauses fact rivals) c
        (conflict_clauses_from fact rivals c b (couple_up g fact b kept there) ((against b).1 (inl there)) e)

-- those of one more fact
pub below_more : (p : Priority) (n : ℕ) (base more : List (List ℕ)) → AreClausesBelow p n base → AreClausesOf p n more
    → AreClausesBelow p (n + 1) (base ++ more)
below_more p n base more b m c = (to, from)
  where
    to : Contains (base ++ more) c → (fact : ℕ) × (fact < n + 1) × IsClauseOf p fact c
    to h = elim (Contains-append_cases base more c h) [
      | inl o ↦ (let w = (b c).0 o in (w.0, omega (arith, w.1), w.2))
      | inr o ↦ (n, omega arith, (m c).0 o)
    ]

    from : (fact : ℕ) × (fact < n + 1) × IsClauseOf p fact c → Contains (base ++ more) c
    from (fact, l, w) = elim (cases_lt fact n) [
      | inl k ↦ Contains-append_left base more c ((b c).1 (fact, k, w))
      | inr k ↦ (let is : fact ≡ n = omega arith in Contains-append_right base more c ((m c).1 (subst (λ (i : ℕ). IsClauseOf p i c) is w)))
    ]

pub below_none : (p : Priority) → AreClausesBelow p 0 []
below_none p c = ((λ m. absurd (Contains-nil c m)), (λ (fact, l, w). absurd (omega arith)))

-- ---- as the walk goes

-- the clauses of one more rival, where it is greater, and where it isn't
pub conflicts_more : (fact : ℕ) (rivals : List ℕ) (k : ℕ) → k < length rivals → fact < get_or rivals k 0 → (base : List (List ℕ))
    → (base ++ conflict_clauses fact (take k rivals)) ++ conflict_clause fact (get_or rivals k 0) ∷ [] ≡ base ++ conflict_clauses fact (take (k + 1) rivals)
conflicts_more fact rivals k l less base =
    append_assoc base (conflict_clauses fact (take k rivals)) (conflict_clause fact rival ∷ []) ∙ ap (λ (cs : List (List ℕ)). base ++ cs) (sym whole)
  where
    rival : ℕ
    rival = get_or rivals k 0

    alone : filter (ltb fact) (rival ∷ []) ≡ rival ∷ []
    alone = ap (λ (b : Bool). cond b (rival ∷ []) []) (lt-ltb fact rival less)

    whole : conflict_clauses fact (take (k + 1) rivals) ≡ conflict_clauses fact (take k rivals) ++ conflict_clause fact rival ∷ []
    whole = ap (conflict_clauses fact) (take_more rivals k 0 l)
        ∙ (ap (map (conflict_clause fact)) (filter-append (ltb fact) (take k rivals) (rival ∷ [])
        ∙ ap (λ (xs : List ℕ). filter (ltb fact) (take k rivals) ++ xs) alone)
        ∙ map-append (conflict_clause fact) (filter (ltb fact) (take k rivals)) (rival ∷ []))

pub conflicts_same : (fact : ℕ) (rivals : List ℕ) (k : ℕ) → k < length rivals → get_or rivals k 0 ≤ fact
    → conflict_clauses fact (take (k + 1) rivals) ≡ conflict_clauses fact (take k rivals)
conflicts_same fact rivals k l more =
    ap (conflict_clauses fact) (take_more rivals k 0 l)
    ∙ ap (map (conflict_clause fact)) (filter-append (ltb fact) (take k rivals) (rival ∷ [])
    ∙ (ap (λ (xs : List ℕ). filter (ltb fact) (take k rivals) ++ xs) none ∙ append-nil (filter (ltb fact) (take k rivals))))
  where
    rival : ℕ
    rival = get_or rivals k 0

    none : filter (ltb fact) (rival ∷ []) ≡ []
    none = ap (λ (b : Bool). cond b (rival ∷ []) []) (le-ltb fact rival more)

-- the clauses are of the variables
pub conflict_below : (variables a b : ℕ) → a < variables → b < variables → AreBelow variables (conflict_clause a b)
conflict_below variables a b l m = All-of (λ x. variable_of x < variables) (conflict_clause a b)
    (λ x n. elim (one_of_two (absent a) (absent b) x n) [
      | inl e ↦ subst (λ (v : ℕ). v < variables) (sym (ap variable_of e ∙ variable_of-absent a)) l
      | inr e ↦ subst (λ (v : ℕ). v < variables) (sym (ap variable_of e ∙ variable_of-absent b)) m
    ])

rival_below : (g : ConflictGraph) (i j : ℕ) → AreClashes g.facts g.clashes → AreInConflict g.clashes i j → j < g.facts
rival_below g i j h (inl c) = (All-contains (λ (c : ℕ × ℕ). (c.0 < c.1) × (c.1 < g.facts)) (couples g.clashes) (i, j)
    (couples_below g.facts g.clashes h.each) c).1
rival_below g i j h (inr c) =
    let w = All-contains (λ (c : ℕ × ℕ). (c.0 < c.1) × (c.1 < g.facts)) (couples g.clashes) (j, i) (couples_below g.facts g.clashes h.each) c in
    omega (arith, w.0, w.1)

pub fact_below : (p : Priority) (g : ConflictGraph) (variables fact : ℕ) (clause : List ℕ) → IsOver p g → AreClashes g.facts g.clashes → g.facts ≤ variables
    → fact < g.facts → IsFactClause p fact clause → AreBelow variables clause
fact_below p g variables fact clause over kept size known (inl (own, is)) = subst (AreBelow variables) (sym is)
    (All-of (λ x. variable_of x < variables) (absent fact ∷ [])
    (λ x n. subst (λ (v : ℕ). v < variables) (sym (ap variable_of (one_of (absent fact) x n) ∙ variable_of-absent fact)) (omega arith)))
fact_below p g variables fact clause over kept size known (inr (own, b)) = All-of (λ x. variable_of x < variables) clause
    (λ x n. let (f, w, e) = (b.exact x).0 n in
    subst (λ (v : ℕ). v < variables) (sym (ap variable_of e ∙ variable_of-present f)) (below f w))
  where
    below : (f : ℕ) → (f ≡ fact) ⊎ Blocks p fact f → f < variables
    below f (inl e) = omega arith
    below f (inr (c, n)) = let l = rival_below g fact f kept (conflict_over p g fact f over c) in omega arith
