-- The candidates of a query may be asked of a desk.
use Rattle.std.proofs.Common.{ℕ, ◌<◌, ◌^◌, List, [], ◌∷◌, length, Contains, inl, inr, refl, sym, subst, arith}
use Rattle.std.specs.Prelude.{All}
use Rattle.std.specs.List.{AllByRecursion}
use Rattle.std.proofs.lemmas.List.Elements.{All-contains}
use Rattle.cq_terms.specs.declared.query.QAtom.{QAtom}
use Rattle.cq_terms.specs.Conflicts.{ConflictGraph}
use Rattle.cq_terms.specs.Knowledge.{Knowledge, kb_of}
use Rattle.cq_terms.specs.Query.{Query, IsSafe}
use Rattle.cq_meaning.specs.Candidates.{Every, AreCandidates, AreCauses}
use Rattle.cq_meaning.specs.Chase.{Atom, InStage}
use Rattle.cq_meaning.specs.Conflicts.{facts_in, FactsEntail}
use Rattle.cq_meaning.specs.Entailment.{AtomBecomes}
use Rattle.cq_meaning.proofs.Ascending.{All-of}
use Rattle.cq_meaning.proofs.Members.{Contains-head, Contains-later, Contains-cases, Contains-nil}
use Rattle.cq_meaning.proofs.Stages.{descends}
use Rattle.cq_steps.specs.declared.closure.Member.{Member}
use Rattle.priority_graph.specs.Priority.{Priority}
use Rattle.priority_graph.specs.Inputs.{IsPriorityOf}
use Rattle.cause_finder.specs.declared.candidate.Candidate.{Candidate}
use Rattle.cause_finder.specs.Causes.{AreAnswers}
use Rattle.report_laws.specs.Bounds.{AreBoundFacts}
use Rattle.report_laws.specs.OverPriority.{FitsMode}
use Rattle.report_laws.proofs.BaseClauseLemmas.{means}
use Rattle.report_laws.proofs.BoundLemmas.{graph_tells, bound_exists}
use Rattle.report_laws.proofs.CauseLemmas.{listed_cause, listed_within}
use Rattle.answer_desk.specs.declared.plan.Plan.{Plan}
use Rattle.answer_desk.specs.Desks.{MayOpen, total}
use Rattle.answer_evidence.specs.FreeCauses.{IsFreeCause}
use Rattle.classifier.specs.WholeInputs.{AreOfInput, AreOfQuery, AreFew, HaveTexts}
use Rattle.classifier.specs.WholeReports.{MayBeAnswered, MayAnswerAll, first_desk, tuples_of}
use Rattle.classifier.proofs.WholeCountLemmas.{AreInPlace}

-- ---- what is found without pairs holds with them

pub candidates_are : (kb : Knowledge) (q : Query) (tuples : List (List ℕ)) → AreCandidates (kb_of kb.axioms kb.facts) q tuples → AreCandidates kb q tuples
candidates_are kb q tuples w = record { entailed = w.entailed; complete = w.complete; ascending = w.ascending }

causes_are : (kb : Knowledge) (q : Query) (tuple : List ℕ) (causes : List (List ℕ)) → AreCauses (kb_of kb.axioms kb.facts) q tuple causes
    → AreCauses kb q tuple causes
causes_are kb q tuple causes w = record {
  each = λ k d l. let h = w.each k d l in (h.0, record { consistent = h.1.consistent; entails = h.1.entails; least = h.1.least });
  complete = λ c a h. w.complete c a (record { consistent = h.consistent; entails = h.entails; least = h.least });
  ascending = w.ascending;
}

tuple_listed : (candidates : List Candidate) (c : Candidate) → Contains candidates c → Contains (tuples_of candidates) c.tuple
tuple_listed [] c m = absurd (Contains-nil c m)
tuple_listed (x ∷ candidates) c m = elim (Contains-cases x candidates c m) [
  | inl e ↦ subst (λ (y : Candidate). Contains (tuples_of (x ∷ candidates)) y.tuple) e (Contains-head x.tuple (tuples_of candidates))
  | inr k ↦ Contains-later x.tuple (tuples_of candidates) c.tuple (tuple_listed candidates c k)
]

-- each candidate is in place
pub in_place : (kb : Knowledge) (q : Query) (members : List Member) (candidates : List Candidate) → AreAnswers kb.axioms kb.facts q members candidates
    → AreInPlace kb q candidates
in_place kb q members candidates w c m = (
  All-contains (FactsEntail kb Every q) (tuples_of candidates) c.tuple w.candidates.entailed (tuple_listed candidates c m),
  causes_are kb q c.tuple c.causes (All-contains (λ (x : Candidate). AreCauses (kb_of kb.axioms kb.facts) q x.tuple x.causes) candidates c w.causes m),
)

-- ---- a cause has a fact

no_facts : (kb : Knowledge) (q : Query) (tuple : List ℕ) → IsSafe q → FactsEntail kb (Contains []) q tuple → ⊥
no_facts kb q tuple safe (k, (v, head, body)) = by q.body safe.body body
  where
    by : (atoms : List QAtom) → 0 < length atoms
        → AllByRecursion (λ a. (x : Atom) × InStage kb.axioms (facts_in kb (Contains [])) k x × AtomBecomes v a x) atoms → ⊥
    by [] l b = omega (arith, l)
    by (a ∷ atoms) l b = let d = descends kb.axioms (facts_in kb (Contains [])) k b.0.0 b.0.1 in Contains-nil d.1.0 d.1.1

has_fact : (kb : Knowledge) (q : Query) (tuple cause : List ℕ) → IsSafe q → FactsEntail kb (Contains cause) q tuple → 0 < length cause
has_fact kb q tuple [] safe e = absurd (no_facts kb q tuple safe e)
has_fact kb q tuple (i ∷ cause) safe e = omega arith

free_causes : (kb : Knowledge) (plan : Plan) (p : Priority) (q : Query) (tuple : List ℕ) (causes : List (List ℕ)) → IsPriorityOf kb plan.repairs p → IsSafe q
    → AreCauses kb q tuple causes → All (IsFreeCause p) causes
free_causes kb plan p q tuple causes priority safe w = All-of (IsFreeCause p) causes (λ cause m.
    let own = listed_cause kb q tuple causes w cause m in record {
      some = has_fact kb q tuple cause safe own.1.entails;
      ascending = own.0;
      known = All-of (λ i. i < p.facts) cause (λ i k. subst (λ (n : ℕ). i < n) (sym priority.facts) (listed_within kb q tuple causes w cause m i k));
      free = ((means kb plan.repairs p priority).free_list cause).1 own.1.consistent;
    })

-- ---- what may be asked

fits_mode : (kb : Knowledge) (plan : Plan) (p : Priority) → IsPriorityOf kb plan.repairs p → FitsMode p plan.repairs
fits_mode kb plan p priority in_all i j b = ((priority.better i j).0 b).ranked in_all

pub may_open : (kb : Knowledge) (plan : Plan) (g : ConflictGraph) (closures : List (ℕ × List Member)) (p : Priority) (candidates : List Candidate)
    → AreOfInput kb plan g closures p → AreFew kb plan candidates → MayOpen g p plan g.facts (length candidates)
may_open kb plan g closures p candidates of few = record {
  facts_are = refl;
  over = of.over;
  few = let l = few.facts in let e = of.conflicts.facts in omega (arith, l, e);
  fits = fits_mode kb plan p of.priority;
  budget = few.budget;
}

pub may_answer_all : (kb : Knowledge) (plan : Plan) (g : ConflictGraph) (closures : List (ℕ × List Member)) (p : Priority) (q : Query) (members : List Member)
    (candidates : List Candidate) (texts : List (List ℕ)) → AreOfInput kb plan g closures p → AreOfQuery kb q members candidates
    → HaveTexts candidates texts → AreFew kb plan candidates → MayAnswerAll (first_desk g p plan (length candidates)) texts candidates
may_answer_all kb plan g closures p q members candidates texts of query have few = record {
  none_yet = refl;
  enough = omega arith;
  few = let l = few.facts in omega (arith, l);
  each = All-of (MayBeAnswered p texts) candidates (λ c m. record {
    few = All-contains (λ (x : Candidate). total x.causes < 2 ^ 31) candidates c few.causes m;
    causes_are = free_causes kb plan p q c.tuple c.causes of.priority query.safe (in_place kb q members candidates query.answers c m).1;
    named = All-contains (λ (x : Candidate). All (λ i. i < length texts) x.tuple) candidates c have m;
  });
}

-- each candidate has its bound
pub bounds_are : (kb : Knowledge) (plan : Plan) (g : ConflictGraph) (closures : List (ℕ × List Member)) (p : Priority) (q : Query) (members : List Member)
    (candidates : List Candidate) → AreOfInput kb plan g closures p → AreOfQuery kb q members candidates
    → (c : Candidate) → Contains candidates c → (facts : List ℕ) × AreBoundFacts g c.causes facts
bounds_are kb plan g closures p q members candidates of query c m =
    let causes = (in_place kb q members candidates query.answers c m).1 in
    let bounds = bound_exists kb c.causes (λ cause i d k. listed_within kb q c.tuple c.causes causes cause d i k) in
    (bounds.0, ((graph_tells kb g of.conflicts).bound c.causes bounds.0).1 bounds.1)
