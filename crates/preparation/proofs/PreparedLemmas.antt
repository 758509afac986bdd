-- What the finders answer is what is prepared.
use Rattle.std.proofs.Common.{◌≡◌, ℕ, ◌<◌, ◌≤◌, inl, inr, List, [], ◌∷◌, length, map, Contains, refl}
use Rattle.std.specs.Prelude.{All}
use Rattle.std.proofs.lemmas.List.Elements.{All-contains, All-weaker, All-nil, All-cons, All-head, All-tail}
use Rattle.cq_terms.specs.declared.facts.Fact.{Fact}
use Rattle.cq_terms.specs.declared.facts.Repairs.{Repairs}
use Rattle.cq_terms.specs.declared.facts.Repairs.TheVariants as mode
use Rattle.cq_terms.specs.Conflicts.{ConflictGraph, own_facts, couples}
use Rattle.cq_terms.specs.Knowledge.{Knowledge, kb_of}
use Rattle.cq_terms.specs.Query.{Query, IsSafe}
use Rattle.cq_meaning.specs.Conflicts.{Conflict, AreConflicts, FactsEntail, facts_in}
use Rattle.cq_meaning.specs.Candidates.{Every, AreCandidates}
use Rattle.cq_meaning.specs.ConflictGraphs.{AreConflictsOf}
use Rattle.cq_meaning.specs.Rewriting.{IsClosure}
use Rattle.cq_meaning.specs.Repairs.{IsBetter, IsAcyclic}
use Rattle.cq_meaning.proofs.Members.{Contains-slice_get}
use Rattle.cq_steps.specs.declared.closure.Member.{Member}
use Rattle.cq_steps.specs.Closing.{queries_of}
use Rattle.perfect_ref.specs.BreadthFirst.{HasMoreThan}
use Rattle.conflict_finder.specs.declared.refusal.FindRefusal.{FindRefusal}
use Rattle.conflict_finder.specs.declared.refusal.FindRefusal.TheVariants as find
use Rattle.conflict_finder.specs.Finding.{IsFirstTooLarge, NoneTooLarge, HasMoreConflicts}
use Rattle.conflict_finder.proofs.Closings.{closure_fits}
use Rattle.priority_graph.specs.declared.refusal.PriorityRefusal.{PriorityRefusal}
use Rattle.priority_graph.specs.declared.refusal.PriorityRefusal.TheVariants as priority
use Rattle.priority_graph.specs.Refusal.{Refuses}
use Rattle.priority_graph.specs.Priority.{Ranks}
use Rattle.priority_graph.proofs.InputLemmas.{rank_as_pareto}
use Rattle.cause_finder.specs.declared.candidate.Candidate.{Candidate}
use Rattle.cause_finder.specs.declared.refusal.CauseRefusal.{CauseRefusal}
use Rattle.cause_finder.specs.declared.refusal.CauseRefusal.TheVariants as causes
use Rattle.cause_finder.specs.Causes.{AreAnswers, HasMoreSupports}
use Rattle.preparation.specs.declared.limits.Limits.{Limits}
use Rattle.preparation.specs.declared.refusal.PrepareRefusal.{PrepareRefusal}
use Rattle.preparation.specs.declared.refusal.PrepareRefusal.TheVariants as refusal
use Rattle.preparation.specs.Prepared.{IsFactBelow, IsTermBelow, AreTuplesBelow}
use Rattle.preparation.specs.Refusals.{HasMoreMembers, HasMoreClashes, IsRefused, IsRefusedPriority, of_find, of_priority, of_causes}
use Rattle.preparation.proofs.CycleWidening.{cycle_wider}
use Rattle.preparation.proofs.NamedTuples.{entailed_below}

-- no closure has more members than the limit
pub none_larger : (kb : Knowledge) (q : Query) (members : List Member) (limit : ℕ) → IsClosure kb.axioms q (queries_of members)
    → length members ≤ limit → NoneTooLarge kb.axioms limit → ¬ HasMoreMembers kb q limit
none_larger kb q members limit is few none (inl more) = closure_fits kb.axioms q members limit is few more
none_larger kb q members limit is few none (inr (n, first)) = none n first.query first.forbids first.larger

-- what refuses the conflicts, where the query's closure fits
pub found_refused : (kb : Knowledge) (q : Query) (repairs : Repairs) (limits : Limits) (e : FindRefusal) → ¬ HasMoreThan kb.axioms q limits.members
    → ((n : ℕ) → e ≡ find.Closure n → IsFirstTooLarge kb.axioms limits.members n)
    → (e ≡ find.Conflicts → NoneTooLarge kb.axioms limits.members × HasMoreConflicts (kb_of kb.axioms kb.facts) limits.conflicts)
    → IsRefused kb q repairs limits (of_find e)
found_refused kb q repairs limits (find.Closure n) fits large clashes = inr (n, large n refl)
found_refused kb q repairs limits find.Conflicts fits large clashes = (none, (clashes refl).1)
  where
    none : ¬ HasMoreMembers kb q limits.members
    none (inl more) = fits more
    none (inr (n, first)) = (clashes refl).0 n first.query first.forbids first.larger
found_refused kb q repairs limits find.NoMemory fits large clashes = tt

-- what refuses the priority
pub priority_refused : (kb : Knowledge) (g : ConflictGraph) → AreConflictsOf kb g → (e : PriorityRefusal) → Refuses (Ranks kb.pairs g) e
    → IsRefusedPriority kb mode.Pareto (of_priority e)
priority_refused kb g conflicts (priority.Cycle facts) r =
    cycle_wider (Ranks kb.pairs g) (IsBetter kb mode.Pareto) (λ i j. ((rank_as_pareto kb g conflicts).better i j).0) facts r.0
priority_refused kb g conflicts priority.NoMemory r = tt

-- and refuses it all, where the closures and the conflicts fit
pub better_refused : (kb : Knowledge) (q : Query) (repairs : Repairs) (limits : Limits) (e : PrepareRefusal) → ¬ HasMoreMembers kb q limits.members
    → ¬ HasMoreClashes kb limits.conflicts → IsRefusedPriority kb repairs e → IsRefused kb q repairs limits e
better_refused kb q repairs limits (refusal.Cycle facts) members clashes r = (members, clashes, r)
better_refused kb q repairs limits refusal.NoMemory members clashes r = tt
better_refused kb q repairs limits refusal.Members members clashes r = elim r [ ]
better_refused kb q repairs limits refusal.Conflicts members clashes r = elim r [ ]
better_refused kb q repairs limits refusal.Supports members clashes r = elim r [ ]

pub supports_refused : (kb : Knowledge) (q : Query) (repairs : Repairs) (limits : Limits) (e : CauseRefusal) → ¬ HasMoreMembers kb q limits.members
    → ¬ HasMoreClashes kb limits.conflicts → IsAcyclic kb repairs
    → (e ≡ causes.TooManySupports → HasMoreSupports (kb_of kb.axioms kb.facts) q limits.supports) → IsRefused kb q repairs limits (of_causes e)
supports_refused kb q repairs limits causes.TooManySupports members clashes acyclic more = (members, clashes, acyclic, more refl)
supports_refused kb q repairs limits causes.NoMemory members clashes acyclic more = tt

all_of_map : {X Y : Type 0} (P : Y → Type 0) (f : X → Y) (xs : List X) → All P (map f xs) → All (λ x. P (f x)) xs
all_of_map P f [] all = All-nil (λ x. P (f x))
all_of_map P f (x ∷ xs) all = All-cons (λ y. P (f y)) x xs (All-head P (f x) (map f xs) all) (all_of_map P f xs (All-tail P (f x) (map f xs) all))

-- the individuals of the candidates' tuples
pub tuples_below : (kb : Knowledge) (q : Query) (members : List Member) (candidates : List Candidate) → IsSafe q
    → AreAnswers kb.axioms kb.facts q members candidates → (bound : ℕ) → All (IsFactBelow bound) kb.facts → All (IsTermBelow bound) q.head
    → AreTuplesBelow bound candidates
tuples_below kb q members candidates safe are bound facts head =
    All-weaker (λ (c : Candidate). FactsEntail (kb_of kb.axioms kb.facts) Every q c.tuple) (λ (c : Candidate). All (λ i. i < bound) c.tuple)
    (λ c entailed. entailed_below kb.axioms (facts_in (kb_of kb.axioms kb.facts) Every) bound below q c.tuple safe head entailed) candidates
    (all_of_map (FactsEntail (kb_of kb.axioms kb.facts) Every q) (λ (c : Candidate). c.tuple) candidates are.candidates.entailed)
  where
    below : (f : Fact) → facts_in (kb_of kb.axioms kb.facts) Every f → IsFactBelow bound f
    below f (i, e, is) = All-contains (IsFactBelow bound) kb.facts f facts (Contains-slice_get kb.facts i f is)

with_pairs : (kb : Knowledge) (i j : ℕ) → Conflict (kb_of kb.axioms kb.facts) i j → Conflict kb i j
with_pairs kb i j w = record { different = w.different; left = w.left; right = w.right; together = w.together }

without_pairs : (kb : Knowledge) (i j : ℕ) → Conflict kb i j → Conflict (kb_of kb.axioms kb.facts) i j
without_pairs kb i j w = record { different = w.different; left = w.left; right = w.right; together = w.together }

-- the pairs of a knowledge base play no part in its conflicts
pub conflicts_found : (kb : Knowledge) (g : ConflictGraph) → g.facts ≡ length kb.facts
    → AreConflicts (kb_of kb.axioms kb.facts) (own_facts g.clashes) (couples g.clashes) → AreConflictsOf kb g
conflicts_found kb g facts w = record {
  facts = facts;
  exact = record {
    owns_exact = w.owns_exact;
    pairs_exact = λ i j. (
      (λ c. let h = (w.pairs_exact i j).0 c in (h.0, with_pairs kb i j h.1)),
      (λ h. (w.pairs_exact i j).1 (h.0, without_pairs kb i j h.1)),
    );
    owns_ascending = w.owns_ascending;
    pairs_ascending = w.pairs_ascending;
  };
}

-- and the other way round, for what asks for conflicts without them
pub conflicts_without_pairs : (kb : Knowledge) (g : ConflictGraph) → AreConflictsOf kb g → AreConflictsOf (kb_of kb.axioms kb.facts) g
conflicts_without_pairs kb g w = record {
  facts = w.facts;
  exact = record {
    owns_exact = w.exact.owns_exact;
    pairs_exact = λ i j. (
      (λ c. let h = (w.exact.pairs_exact i j).0 c in (h.0, without_pairs kb i j h.1)),
      (λ h. (w.exact.pairs_exact i j).1 (h.0, with_pairs kb i j h.1)),
    );
    owns_ascending = w.exact.owns_ascending;
    pairs_ascending = w.exact.pairs_ascending;
  };
}
