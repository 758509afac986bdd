use Rattle.std.proofs.Common.{◌<◌, ◌++◌, inl, inr, ℕ, List, Contains}
use Rattle.std.proofs.lemmas.List.Elements.{All-append, Contains-append_cases, Contains-append_left}
use Rattle.cq_terms.specs.Conflicts.{AreInConflict}
use Rattle.repair_clauses.specs.Components.{IsClosedUnder}
use Rattle.repair_tests.proofs.clauses.clauses_of_twice.Goals as goal

twice_closed : (R : ℕ → ℕ → Type 0) (facts : List ℕ) → IsClosedUnder R (Contains facts) → IsClosedUnder R (Contains (facts ++ facts))
twice_closed R facts closed i j m r = Contains-append_left facts facts j (closed i j (elim (Contains-append_cases facts facts i m) [ inl n ↦ n | inr n ↦ n ]) r)

pub base_clauses-requires-clause-known : goal.base_clauses-requires-clause-known
base_clauses-requires-clause-known c =
    rw (c.as_slice-3.ensures.value, c.in_ok-extend_from_slice.ensures.items, c.in_ok-listed.ensures.items, c.as_slice.ensures.lent, c.as_slice-2.ensures.lent)
    (All-append (λ f. f < c.args.conflicts.now.facts) c.in_ok-facts.facts c.in_ok-facts.facts c.in_ok-facts.ensures.known c.in_ok-facts.ensures.known)

pub base_clauses-requires-clause-closed : goal.base_clauses-requires-clause-closed
base_clauses-requires-clause-closed c =
    rw (c.as_slice-3.ensures.value, c.in_ok-extend_from_slice.ensures.items, c.in_ok-listed.ensures.items, c.as_slice.ensures.lent, c.as_slice-2.ensures.lent)
    (twice_closed (AreInConflict c.args.conflicts.now.clashes) c.in_ok-facts.facts c.in_ok-facts.ensures.closed)
