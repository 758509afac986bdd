-- What a search leaves of the clauses of a solver.
use Rattle.std.proofs.Common.{◌≡◌, ◌<◌, ◌+◌, ◌⊎◌, ◌↔◌, All, inl, inr, ℕ, List, [], ◌∷◌, ◌++◌, length, Option}
use Rattle.std.proofs.Common.{Some, None, refl, sym, subst, ap, ◌∙◌, arith, Contains}
use Rattle.std.proofs.lemmas.List.{append-nil}
use Rattle.std.proofs.lemmas.List.Elements.{Contains-push_cases}
use Rattle.clause_meaning.specs.Assignments.{Separates, IsInside}
use Rattle.clause_meaning.specs.Learning.{is_in}
use Rattle.cdcl_core.specs.State.{State, LiveClause, LiveIn}
use Rattle.proof_logs.specs.Logs.{Learned}
use Rattle.cdcl_core.specs.Learning.{AreLearned, with_learned, with_all}
use Rattle.cdcl_core.specs.Solving.{Learns, cleared}
use Rattle.cdcl_core.specs.declared.outcome.Budget.{Budget}
use Rattle.answer_desk.specs.Desks.{given_in}
use Rattle.answer_desk.specs.Openings.{Spends, IsOpen}
use Rattle.answer_evidence.specs.declared.opening.Opening.{Opening}
use Rattle.answer_desk.proofs.LiveLemmas.{given_in-append}
use Rattle.cq_terms.specs.Conflicts.{ConflictGraph}
use Rattle.priority_graph.specs.Priority.{Priority}
use Rattle.repair_clauses.specs.BaseClauses.{AllFacts, IsBaseClause}
use Rattle.report_rules.specs.Clauses.{IsCauseClause}

-- learned clauses leave the given ones alone
pub given_in-with_all : (s : State) (entries : List Learned) → given_in (with_all s entries).live ≡ given_in s.live
given_in-with_all s [] = refl
given_in-with_all s (e ∷ es) =
    given_in-with_all (with_learned s e) es
    ∙ (given_in-append s.live (record { number = Some e.number; literals = e.clause } ∷ []) ∙ append-nil (given_in s.live))

pub variables-with_all : (s : State) (entries : List Learned) → (with_all s entries).variables ≡ s.variables
variables-with_all s [] = refl
variables-with_all s (e ∷ es) = variables-with_all (with_learned s e) es

pub next-with_all : (s : State) (entries : List Learned) → (with_all s entries).next ≡ s.next + length entries
next-with_all s [] = omega arith
next-with_all s (e ∷ es) = let rest = next-with_all (with_learned s e) es in omega (arith, rest)

live_cases : (s : State) (e : Learned) (c : List ℕ) → LiveIn (with_learned s e) c → LiveIn s c ⊎ (e.clause ≡ c)
live_cases s e c (k, x, p, is, same) =
    let new : LiveClause = record { number = Some e.number; literals = e.clause } in
    elim (Contains-push_cases s.live new x (k, p, is)) [
      | inl m ↦ inl (m.0, x, m.1, m.2, same)
      | inr d ↦ inr (ap (λ (y : LiveClause). y.literals) d ∙ same)
    ]

-- and keep to the scope
pub Separates-with_all : (s : State) (scope assume : List ℕ) (entries : List Learned) → AreLearned s scope assume entries → Separates (is_in scope) (LiveIn s)
    → Separates (is_in scope) (LiveIn (with_all s entries))
Separates-with_all s scope assume [] learned h = h
Separates-with_all s scope assume (e ∷ es) (may, rest) h = Separates-with_all (with_learned s e) scope assume es rest next
  where
    next : Separates (is_in scope) (LiveIn (with_learned s e))
    next c m = elim (live_cases s e c m) [ inl old ↦ h c old | inr same ↦ inl (subst (IsInside (is_in scope)) same may.fresh.lesson.inside) ]

-- what is used of the budget is what was learned
pub Spends-learned : (old new : State) (scope assume : List ℕ) (was now : Budget) (entries : List Learned)
    → Learns (cleared old) (cleared new) scope assume was now entries
    → Spends old new was now
Spends-learned old new scope assume was now entries l =
    let next : new.next ≡ old.next + length entries = ap (λ (s : State). s.next) l.live ∙ next-with_all (cleared old) entries in
    let used = l.used in
    record { limit = l.limit; within = l.within; more = omega (arith, used); numbers = omega (arith, used, next) }

-- an answer stays open over what a search leaves
pub IsOpen-learned : (g : ConflictGraph) (p : Priority) (old new : State) (opening : Opening) (causes : List (List ℕ)) (assume : List ℕ)
    (was now : Budget) (entries : List Learned)
    → IsOpen g p old opening causes → Learns (cleared old) (cleared new) opening.scope.items assume was now entries → IsOpen g p new opening causes
IsOpen-learned g p old new opening causes assume was now entries h l =
    let same : new.variables ≡ old.variables = ap (λ (s : State). s.variables) l.live ∙ variables-with_all (cleared old) entries in
    let live : given_in new.live ≡ given_in old.live = ap (λ (s : State). given_in s.live) l.live ∙ given_in-with_all (cleared old) entries in
    record {
      over = h.over;
      behind = h.behind;
      few = h.few;
      variables = subst (λ (n : ℕ). opening.selector < n) (sym same) h.variables;
      causes_are = h.causes_are;
      scope = h.scope;
      ascending = h.ascending;
      in_range = subst (λ (n : ℕ). All (λ v. v < n) opening.scope.items) (sym same) h.in_range;
      given = λ c. subst (λ (xs : List (List ℕ)). Contains xs c ↔ (IsBaseClause p (AllFacts p) c ⊎ IsCauseClause opening.selector causes c)) (sym live)
          (h.given c);
      separates = subst (λ (s : State). Separates (is_in opening.scope.items) (LiveIn s)) (sym l.live)
          (Separates-with_all (cleared old) opening.scope.items assume entries l.may h.separates);
      cut = h.cut;
    }
