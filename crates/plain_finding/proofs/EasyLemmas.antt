-- Direct cores over the facts of a table.
use Rattle.std.proofs.Common.{◌≡◌, ◌<◌, inl, inr, ◌↔◌, ◌≤◌, ℕ, List, [], ◌∷◌, length, map, filter, take, Contains, All, Option, Some, None, Bool, true}
use Rattle.std.proofs.Common.{true≢false, ltb, refl, sym, ap, ◌∙◌, subst}
use Rattle.std.specs.Prelude.{IsTrue, IfSome}
use Rattle.std.specs.Option.{is_some}
use Rattle.std.proofs.lemmas.Bool.{lt-ltb, ltb-true}
use Rattle.std.proofs.lemmas.List.{take_all}
use Rattle.clause_meaning.specs.Literals.{variable_of}
use Rattle.cq_terms.specs.Lists.{IsSorted}
use Rattle.cq_terms.specs.declared.facts.Repairs.{Repairs}
use Rattle.cq_terms.specs.Conflicts.{ConflictGraph, AreInConflict}
use Rattle.cq_terms.specs.Knowledge.{Knowledge}
use Rattle.cq_meaning.specs.Conflicts.{Conflict, In}
use Rattle.cq_meaning.specs.ConflictGraphs.{AreConflictsOf}
use Rattle.cq_meaning.proofs.ByLists.{Conflict-within}
use Rattle.cq_meaning.proofs.Extension.{AreConsistent-mono, AreConsistent-within}
use Rattle.priority_graph.specs.Priority.{Priority, IsOver}
use Rattle.priority_graph.specs.Cores.{IsCore, ConflictsWith, IsDirect}
use Rattle.priority_graph.specs.Inputs.{IsPriorityOf}
use Rattle.priority_graph.specs.Split.{has}
use Rattle.priority_graph.proofs.DirectLemmas.{conflict_over, conflict_of}
use Rattle.priority_graph.proofs.InputLemmas.{direct_tells}
use Rattle.priority_graph.proofs.SplitLemmas.{has_true, has_there, Contains-filter_to, Contains-filter_from}
use Rattle.report_rules.specs.TryRules.{HasDirectCore}
use Rattle.report_laws.proofs.BaseClauseLemmas.{means}
use Rattle.report_text.specs.declared.line.Question.TheVariants as question
use Rattle.cq_meaning.proofs.Ascending.{All-of}
use Rattle.report_laws.specs.AtStanding.{IsEasyAt, facts_of}
use Rattle.plain_finding.specs.CoreParts.{IsApart}
use Rattle.plain_finding.specs.EasyParts.{AreInTable, HasRivalCore}
use Rattle.plain_finding.proofs.CoreLemmas.{apart_from_free}

module _ (kb : Knowledge) (mode : Repairs) (p : Priority) (of : IsPriorityOf kb mode p) where
  -- what the priority answers is a direct core
  pub direct_core : (facts dropped : List ℕ) → IsDirect p facts dropped → HasDirectCore kb mode facts
  direct_core facts dropped d = let w = (direct_tells kb mode p of facts).found dropped d in (dropped, w.0, w.1)

  -- where it finds none there is none
  pub no_direct_core : (facts : List ℕ) → ¬ IsCore p (Contains facts) (ConflictsWith p facts) → ¬ HasDirectCore kb mode facts
  no_direct_core facts n (dropped, rivals, core) = (direct_tells kb mode p of facts).none n dropped rivals core

  -- the facts of a direct core are free of conflicts
  pub direct_apart : (g : ConflictGraph) → IsOver p g → (facts : List ℕ) → HasDirectCore kb mode facts → All (IsApart g.clashes facts) facts
  direct_apart g over facts (dropped, rivals, core) = apart_from_free p g over facts (((means kb mode p of).free_list facts).1
      (AreConsistent-mono kb (Contains facts) (In (has facts)) (λ i m. has_true facts i m) core.consistent))

  -- the facts that conflict are those of the table's conflicts
  pub rival_told : (g : ConflictGraph) → IsOver p g → (i j : ℕ) → AreInConflict g.clashes i j ↔ Conflict kb i j
  rival_told g over i j = (
    (λ c. ((means kb mode p of).conflict i j).0 (conflict_of p g i j over c)),
    (λ c. conflict_over p g i j over (((means kb mode p of).conflict i j).1 c)),
  )

module _ (kb : Knowledge) (mode : Repairs) (bound : ℕ) (size : bound ≡ length kb.facts) (facts known : List ℕ) (are : AreInTable bound facts known) where
  inside : (i : ℕ) → Contains facts i → i < length kb.facts → Contains known i
  inside i m l = (are.exact i).1 (m, subst (λ n. i < n) (sym size) l)

  within : (i j : ℕ) → Conflict kb i j → i < length kb.facts
  within i j c = Conflict-within kb i j c

  -- facts past the table play no part in a direct core
  pub direct_in_table : HasDirectCore kb mode known ↔ HasDirectCore kb mode facts
  direct_in_table = (to, from)
    where
      same : (i : ℕ) → i < length kb.facts → IsTrue (has facts i) → IsTrue (has known i)
      same i l t = has_true known i (inside i (has_there facts i t) l)

      back : (i : ℕ) → IsTrue (has known i) → IsTrue (has facts i)
      back i t = has_true facts i ((are.exact i).0 (has_there known i t)).0

      to : HasDirectCore kb mode known → HasDirectCore kb mode facts
      to (dropped, rivals, core) = (
        dropped,
        (λ j. (
          (λ m. let w = (rivals j).0 m in (w.0, ((are.exact w.0).0 w.1).0, w.2)),
          (λ w. (rivals j).1 (w.0, inside w.0 w.1 (within w.0 j w.2), w.2)),
        )),
        record {
          consistent = AreConsistent-within kb (In (has facts)) (In (has known)) same core.consistent;
          drops = λ i j l k t c. core.drops i j l k (same i l t) c;
          blocked = λ j l t. elim (core.blocked j l t) [
            | inl s ↦ inl s
            | inr w ↦ inr (w.0, w.1, back w.0 w.2, w.3, w.4)
          ];
        },
      )

      from : HasDirectCore kb mode facts → HasDirectCore kb mode known
      from (dropped, rivals, core) = (
        dropped,
        (λ j. (
          (λ m. let w = (rivals j).0 m in (w.0, inside w.0 w.1 (within w.0 j w.2), w.2)),
          (λ w. (rivals j).1 (w.0, ((are.exact w.0).0 w.1).0, w.2)),
        )),
        record {
          consistent = AreConsistent-mono kb (In (has known)) (In (has facts)) back core.consistent;
          drops = λ i j l k t c. core.drops i j l k (back i t) c;
          blocked = λ j l t. elim (core.blocked j l t) [
            | inl s ↦ inl s
            | inr w ↦ inr (w.0, w.1, same w.0 w.1 w.2, w.3, w.4)
          ];
        },
      )

  -- nor in that of a rival of one of them
  pub rival_in_table : ((i : ℕ) × Contains known i × HasRivalCore kb mode i)
      ↔ ((i : ℕ) × (j : ℕ) × Contains facts i × Conflict kb i j × HasDirectCore kb mode (j ∷ []))
  rival_in_table = (
    (λ w. let r = w.2 in (w.0, r.0, ((are.exact w.0).0 w.1).0, r.1, r.2)),
    (λ w. (w.0, inside w.0 w.2 (within w.0 w.1 w.3), (w.1, w.3, w.4))),
  )

-- what is answered for the direct core tells whether there is one
pub direct_told : (kb : Knowledge) (mode : Repairs) (p : Priority) → IsPriorityOf kb mode p → (facts : List ℕ) (core : Option (List ℕ))
    → IfSome core (IsDirect p facts) → (core ≡ None → ¬ IsCore p (Contains facts) (ConflictsWith p facts))
    → (is_some core ≡ true) ↔ HasDirectCore kb mode facts
direct_told kb mode p of facts (Some dropped) found none = ((λ t. direct_core kb mode p of facts dropped found), (λ w. refl))
direct_told kb mode p of facts None found none = (
  (λ t. absurd (true≢false (sym t))),
  (λ w. absurd (no_direct_core kb mode p of facts (none refl) w)),
)

-- the facts below a bound of which literals speak, in ascending order
pub in_table_from : (bound : ℕ) (literals : List ℕ) (k : ℕ) (known sorted : List ℕ) → length literals ≤ k
    → known ≡ filter (λ i. ltb i bound) (map variable_of (take k literals)) → IsSorted known sorted → AreInTable bound (map variable_of literals) sorted
in_table_from bound literals k known sorted l e h = record { ascending = h.ascending; exact = λ i. (to i, from i) }
  where
    whole : known ≡ filter (λ i. ltb i bound) (map variable_of literals)
    whole = e ∙ ap (λ (ls : List ℕ). filter (λ i. ltb i bound) (map variable_of ls)) (take_all k literals l)

    to : (i : ℕ) → Contains sorted i → Contains (map variable_of literals) i × (i < bound)
    to i m = let w = Contains-filter_from (λ i. ltb i bound) (map variable_of literals) i (subst (λ (xs : List ℕ). Contains xs i) whole ((h.same i).0 m)) in
        (w.0, ltb-true i bound w.1)

    from : (i : ℕ) → Contains (map variable_of literals) i × (i < bound) → Contains sorted i
    from i (m, b) = (h.same i).1 (subst (λ (xs : List ℕ). Contains xs i) (sym whole)
        (Contains-filter_to (λ i. ltb i bound) (map variable_of literals) i m (lt-ltb i bound b)))

pub in_table_known : (bound : ℕ) (numbers known : List ℕ) → AreInTable bound numbers known → All (λ i. i < bound) known
in_table_known bound numbers known are = All-of (λ i. i < bound) known (λ i m. ((are.exact i).0 m).1)

-- what is found over the facts of the table is found over all
pub easy_cause : (kb : Knowledge) (mode : Repairs) (g : ConflictGraph) → AreConflictsOf kb g → (literals known : List ℕ) (easy : Bool)
    → AreInTable g.facts (facts_of literals) known → (easy ≡ true) ↔ HasDirectCore kb mode known
    → (easy ≡ true) ↔ IsEasyAt kb mode question.Brave (facts_of literals)
easy_cause kb mode g of literals known easy are t =
    let w = direct_in_table kb mode g.facts of.facts (facts_of literals) known are in
    ((λ e. w.0 (t.0 e)), (λ h. t.1 (w.1 h)))

pub easy_absence : (kb : Knowledge) (mode : Repairs) (g : ConflictGraph) → AreConflictsOf kb g → (literals known : List ℕ) (easy : Bool)
    → AreInTable g.facts (facts_of literals) known → (easy ≡ true) ↔ ((i : ℕ) × Contains known i × HasRivalCore kb mode i)
    → (easy ≡ true) ↔ IsEasyAt kb mode question.Iar (facts_of literals)
easy_absence kb mode g of literals known easy are t =
    let w = rival_in_table kb mode g.facts of.facts (facts_of literals) known are in
    ((λ e. w.0 (t.0 e)), (λ h. t.1 (w.1 h)))
