-- The base clauses of given facts, as a walk over the facts builds them.
use Rattle.std.proofs.Common.{◌≡◌, ◌<◌, ◌≤◌, ◌+◌, ◌⊎◌, inl, inr, ◌↔◌, ℕ, List, [], ◌∷◌, ◌++◌, length, map, take, get_or, sym, subst, arith, Contains, insert}
use Rattle.std.proofs.Common.{ltb}
use Rattle.std.specs.List.{filter}
use Rattle.std.proofs.lemmas.Bool.{lt-ltb, ltb-true}
use Rattle.std.proofs.lemmas.List.{take_more, take_all}
use Rattle.std.proofs.lemmas.List.Elements.{All-contains, Contains-append_left, Contains-append_right, Contains-append_cases, Contains-push}
use Rattle.std.proofs.lemmas.List.Elements.{Contains-push_cases}
use Rattle.clause_meaning.proofs.Members.{Contains-map, Contains-map_cases}
use Rattle.cq_meaning.proofs.Members.{Contains-nil}
use Rattle.cq_terms.specs.Conflicts.{ConflictGraph, AreInConflict, AreClashes, couples}
use Rattle.cq_terms.specs.Lists.{IsAscending}
use Rattle.cq_terms.proofs.ConflictsLemmas.{couples_below, upward}
use Rattle.priority_graph.specs.Priority.{Priority, IsOver, AreBlockers}
use Rattle.priority_graph.proofs.SplitLemmas.{Contains-filter_to, Contains-filter_from}
use Rattle.repair_clauses.specs.BaseClauses.{present, conflict_clause, Blocks, IsFactClause, IsBaseClause}
use Rattle.repair_encoder.specs.Forms.{conflict_clauses, SaysOneIsPresent}
use Rattle.repair_clauses.specs.Components.{IsClosedUnder}
use Rattle.repair_clauses.proofs.LawLemmas.{fact_clause_unique}
use Rattle.repair_clauses.proofs.ListLemmas.{ascending_map}
use Rattle.repair_encoder.proofs.ListLemmas.{insert_to, insert_from}

-- the lesser fact of a pair in conflict stands first
pub couple_up : (g : ConflictGraph) (i j : ℕ) → AreClashes g.facts g.clashes → Contains (couples g.clashes) (i, j) → i < j
couple_up g i j h c = All-contains (λ (c : ℕ × ℕ). c.0 < c.1) (couples g.clashes) (i, j)
    (upward g.facts (couples g.clashes) (couples_below g.facts g.clashes h.each)) c

pub no_self_conflict : (g : ConflictGraph) (i : ℕ) → AreClashes g.facts g.clashes → AreInConflict g.clashes i i → ⊥
no_self_conflict g i h (inl c) = let l = couple_up g i i h c in omega arith
no_self_conflict g i h (inr c) = let l = couple_up g i i h c in omega arith

-- the literals of a fact and of others, with the fact at its place
present_insert : (fact at : ℕ) (others : List ℕ) (l : ℕ) → Contains (map present (insert others at fact)) l
    ↔ ((f : ℕ) × ((f ≡ fact) ⊎ Contains others f) × (l ≡ present f))
present_insert fact at others l = (
  (λ c. let w = Contains-map_cases present (insert others at fact) l c in (w.0, insert_to others at fact w.0 w.1, sym w.2)),
  (λ (f, m, e). subst (Contains (map present (insert others at fact))) (sym e)
      (Contains-map present (insert others at fact) f (insert_from others at fact f m))),
)

pub says_one : (fact at : ℕ) (others clause : List ℕ) → clause ≡ map present (insert others at fact) → IsAscending (insert others at fact)
    → SaysOneIsPresent fact others clause
says_one fact at others clause is up = rw is (record {
  ascending = ascending_map present (λ i j l. omega arith) (insert others at fact) up;
  exact =
      present_insert fact at others;
})

-- a fact and its blockers make the clause of the fact
pub blocking_clause : (p : Priority) (fact : ℕ) (blockers clause : List ℕ) → AreBlockers p fact blockers → ¬ Contains p.own fact
    → SaysOneIsPresent fact blockers clause
    → IsFactClause p fact clause
blocking_clause p fact blockers clause b own h = inr (
  own,
  record {
    ascending = h.ascending;
    exact =
        λ l. ((λ m. to l ((h.exact l).0 m)), (λ w. (h.exact l).1 (from l w)));
  },
)
  where
    to : (l : ℕ) → ((f : ℕ) × ((f ≡ fact) ⊎ Contains blockers f) × (l ≡ present f)) → (f : ℕ) × ((f ≡ fact) ⊎ Blocks p fact f) × (l ≡ present f)
    to l (f, inl e, is) = (f, inl e, is)
    to l (f, inr m, is) = (f, inr ((b.exact f).0 m), is)

    from : (l : ℕ) → ((f : ℕ) × ((f ≡ fact) ⊎ Blocks p fact f) × (l ≡ present f)) → (f : ℕ) × ((f ≡ fact) ⊎ Contains blockers f) × (l ≡ present f)
    from l (f, inl e, is) = (f, inl e, is)
    from l (f, inr m, is) = (f, inr ((b.exact f).1 m), is)

-- what the walk over the facts has built
abbrev pub IsBuilt : Priority → ConflictGraph → (ℕ → Type 0) → List ℕ → Type 0
IsBuilt p g S c = ((f : ℕ) × S f × IsFactClause p f c) ⊎ ((a : ℕ) × S a × ((b : ℕ) × (a < b) × AreInConflict g.clashes a b × (c ≡ conflict_clause a b)))

pub conflict_clauses_to : (f : ℕ) (rivals : List ℕ) (c : List ℕ) → Contains (conflict_clauses f rivals) c → (b : ℕ) × (f < b) × Contains rivals b
    × (c ≡ conflict_clause f b)
conflict_clauses_to f rivals c m =
    let w = Contains-map_cases (conflict_clause f) (filter (ltb f) rivals) c m in
    let k = Contains-filter_from (ltb f) rivals w.0 w.1 in
    (w.0, ltb-true f w.0 k.1, k.0, sym w.2)

conflict_clauses_from : (f : ℕ) (rivals : List ℕ) (c : List ℕ) (b : ℕ) → f < b → Contains rivals b → c ≡ conflict_clause f b
    → Contains (conflict_clauses f rivals) c
conflict_clauses_from f rivals c b l m e =
    subst (Contains (conflict_clauses f rivals)) (sym e) (Contains-map (conflict_clause f) (filter (ltb f) rivals) b
    (Contains-filter_to (ltb f) rivals b m (lt-ltb f b l)))

-- the clauses of one more fact, where its own is there
pub built_more : (p : Priority) (g : ConflictGraph) (facts : List ℕ) (k : ℕ) (old new : List (List ℕ)) (rivals : List ℕ) → k < length facts
    → ((c : List ℕ) → Contains old c ↔ IsBuilt p g (Contains (take k facts)) c)
    → ((c : List ℕ) → Contains new c ↔ (Contains old c ⊎ IsFactClause p (get_or facts k 0) c))
    → ((j : ℕ) → Contains rivals j ↔ AreInConflict g.clashes (get_or facts k 0) j)
    → (c : List ℕ) → Contains (new ++ conflict_clauses (get_or facts k 0) rivals) c ↔ IsBuilt p g (Contains (take (k + 1) facts)) c
built_more p g facts k old new rivals l h alone against c = (to, from)
  where
    fact : ℕ
    fact = get_or facts k 0

    next : take (k + 1) facts ≡ take k facts ++ fact ∷ []
    next = take_more facts k 0 l

    here : Contains (take (k + 1) facts) fact
    here = subst (λ (xs : List ℕ). Contains xs fact) (sym next) (Contains-push (take k facts) fact)

    earlier : (i : ℕ) → Contains (take k facts) i → Contains (take (k + 1) facts) i
    earlier i m = subst (λ (xs : List ℕ). Contains xs i) (sym next) (Contains-append_left (take k facts) (fact ∷ []) i m)

    cases : (i : ℕ) → Contains (take (k + 1) facts) i → Contains (take k facts) i ⊎ (fact ≡ i)
    cases i m = Contains-push_cases (take k facts) fact i (subst (λ (xs : List ℕ). Contains xs i) next m)

    wider : IsBuilt p g (Contains (take k facts)) c → IsBuilt p g (Contains (take (k + 1) facts)) c
    wider (inl (f, m, w)) = inl (f, earlier f m, w)
    wider (inr (a, m, w)) = inr (a, earlier a m, w)

    to : Contains (new ++ conflict_clauses fact rivals) c → IsBuilt p g (Contains (take (k + 1) facts)) c
    to m = elim (Contains-append_cases new (conflict_clauses fact rivals) c m) [
      | inl n ↦ elim ((alone c).0 n) [ inl o ↦ wider ((h c).0 o) | inr w ↦ inl (fact, here, w) ]
      | inr n ↦ let w = conflict_clauses_to fact rivals c n in inr (fact, here, (w.0, w.1, (against w.0).0 w.2, w.3))
    ]

    from_new : Contains old c ⊎ IsFactClause p fact c → Contains (new ++ conflict_clauses fact rivals) c
    from_new m = Contains-append_left new (conflict_clauses fact rivals) c ((alone c).1 m)

    from : IsBuilt p g (Contains (take (k + 1) facts)) c → Contains (new ++ conflict_clauses fact rivals) c
    from (inl (f, m, w)) = elim (cases f m) [
      | inl n ↦ from_new (inl ((h c).1 (inl (f, n, w))))
      | inr e ↦ from_new (inr (subst (λ (i : ℕ). IsFactClause p i c) (sym e) w))
    ]
    from (inr (a, m, (b, less, against_b, is))) = elim (cases a m) [
      | inl n ↦ from_new (inl ((h c).1 (inr (a, n, (b, less, against_b, is)))))
      | inr e ↦
          Contains-append_right new (conflict_clauses fact rivals) c
          (conflict_clauses_from fact rivals c b (subst (λ (i : ℕ). i < b) (sym e) less)
          ((against b).1 (subst (λ (i : ℕ). AreInConflict g.clashes i b) (sym e) against_b)) (subst (λ (i : ℕ). c ≡ conflict_clause i b) (sym e) is))
    ]

-- a pushed clause of a fact is its only one
pub pushed_clause : (p : Priority) (fact : ℕ) (old : List (List ℕ)) (clause : List ℕ) → IsFactClause p fact clause → (c : List ℕ)
    → Contains (old ++ clause ∷ []) c ↔ (Contains old c ⊎ IsFactClause p fact c)
pushed_clause p fact old clause alone c = (
  (λ m. elim (Contains-push_cases old clause c m) [ inl n ↦ inl n | inr e ↦ inr (subst (IsFactClause p fact) e alone) ]),
  elim [
    | inl n ↦ Contains-append_left old (clause ∷ []) c n
    | inr w ↦ subst (Contains (old ++ clause ∷ [])) (fact_clause_unique p fact clause c alone w) (Contains-push old clause)
  ],
)

pub built_none : (p : Priority) (g : ConflictGraph) (c : List ℕ) → Contains [] c ↔ IsBuilt p g (Contains []) c
built_none p g c = ((λ m. absurd (Contains-nil c m)), none)
  where
    none : IsBuilt p g (Contains []) c → Contains [] c
    none (inl (f, m, w)) = absurd (Contains-nil f m)
    none (inr (a, m, w)) = absurd (Contains-nil a m)

-- all that is built over facts closed under conflict are their base clauses
pub built_all : (p : Priority) (g : ConflictGraph) (facts : List ℕ) (k : ℕ) (clauses : List (List ℕ)) → length facts ≤ k → IsOver p g
    → AreClashes g.facts g.clashes
    → IsClosedUnder (AreInConflict g.clashes) (Contains facts) → ((c : List ℕ) → Contains clauses c ↔ IsBuilt p g (Contains (take k facts)) c)
    → (c : List ℕ) → Contains clauses c ↔ IsBaseClause p (Contains facts) c
built_all p g facts k clauses l over kept closed h c = ((λ m. to ((all c).0 m)), (λ b. (all c).1 (from b)))
  where
    all : (c : List ℕ) → Contains clauses c ↔ IsBuilt p g (Contains facts) c
    all = rw (take_all k facts l) at h

    listed : (a b : ℕ) → a < b → AreInConflict g.clashes a b → Contains p.couples (a, b)
    listed a b less (inl m) = subst (λ (cs : List (ℕ × ℕ)). Contains cs (a, b)) (sym over.couples) m
    listed a b less (inr m) = let up = couple_up g b a kept m in absurd (omega arith)

    to : IsBuilt p g (Contains facts) c → IsBaseClause p (Contains facts) c
    to (inl w) = inr w
    to (inr (a, m, (b, less, against, is))) = inl (a, m, (b, closed a b m against, listed a b less against, is))

    from : IsBaseClause p (Contains facts) c → IsBuilt p g (Contains facts) c
    from (inr w) = inl w
    from (inl (a, m, (b, n, pair, is))) =
        let there : Contains (couples g.clashes) (a, b) = subst (λ (cs : List (ℕ × ℕ)). Contains cs (a, b)) over.couples pair in
        inr (a, m, (b, couple_up g a b kept there, inl there, is))
