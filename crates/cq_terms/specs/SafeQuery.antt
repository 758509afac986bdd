-- The test whether a head and a body are those of a query.
use Rattle.std.specs.Prelude.{ℕ, ◌==◌, ◌||◌, List, length, Bool, true, false, Option, Some, None, if◌then◌else◌}
use Rattle.std.specs.List.{list_all, list_any}
use Rattle.cq_terms.specs.declared.query.Term.{Term}
use Rattle.cq_terms.specs.declared.query.Term.TheVariants as term
use Rattle.cq_terms.specs.declared.query.QAtom.{QAtom}
use Rattle.cq_terms.specs.declared.query.QAtom.TheVariants as atom
use Rattle.cq_terms.specs.Query.{Query}

-- whether the term is the variable
abbrev pub is_variable : ℕ → Term → Bool
is_variable l (term.Var k) = k == l
is_variable l (term.Ind c) = false
is_variable l term.Any = false

-- whether the variable stands in the atom
abbrev pub stands_in : ℕ → QAtom → Bool
stands_in l (atom.Concept a t) = is_variable l t
stands_in l (atom.Link p s t) = is_variable l s || is_variable l t

-- whether the term is an individual, or a variable of the body
abbrev pub is_meant : List QAtom → Term → Bool
is_meant body (term.Var l) = list_any (stands_in l) body
is_meant body (term.Ind c) = true
is_meant body term.Any = false

-- whether the two are the head and the body of a query
abbrev pub is_safe : List Term → List QAtom → Bool
is_safe head body = if length body == 0 then false else list_all (is_meant body) head

-- the query of the two, where they are its head and its body
abbrev pub if_safe : List Term → List QAtom → Option Query
if_safe head body = if is_safe head body then Some (record { head = head; body = body }) else None
