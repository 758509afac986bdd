use Rattle.cq_terms.specs.declared.axioms.Axiom.{Axiom}
use Rattle.std.proofs.Common.{ℕ, ◌≡◌, sym, subst, ap, arith, length, None, List, [], ◌∷◌}
use Rattle.std.specs.List.{slice_get}
use Rattle.std.proofs.lemmas.Result.{err_from_is_err_and}
use Rattle.cq_terms.specs.Query.{Query}
use Rattle.cq_meaning.specs.NormalForm.{normal}
use Rattle.cq_steps.specs.declared.closure.Member.{Member}
use Rattle.perfect_ref.specs.BreadthFirst.{HasMoreThan}
use Rattle.perfect_ref.specs.Search.{AreFound}
use Rattle.perfect_ref.proofs.TurnLemmas.{BeginsWith, first_found, derived_now, closes_now, tells, none_fits}
use Rattle.perfect_ref.proofs.breadth_first.close.Goals as goal

-- a list of one member begins with the query that it has
begins : (q r : Query) (members : List Member) → members ≡ record { query = r; step = None } ∷ [] → r ≡ normal q → BeginsWith q members
begins q r members e f = (record { query = r; step = None }, ap (λ (xs : List Member). slice_get xs 0) e, f)

-- a list of one member is the beginning of the search
found : (axioms : List Axiom) (limit : ℕ) (q r : Query) (members : List Member) → members ≡ record { query = r; step = None } ∷ [] → r ≡ normal q
    → AreFound axioms limit 0 (record { query = normal q; step = None } ∷ []) → AreFound axioms limit 0 members
found axioms limit q r members e f so =
    subst (AreFound axioms limit 0) (sym e) (subst (λ (x : Query). AreFound axioms limit 0 (record { query = x; step = None } ∷ [])) (sym f) so)

pub returns-then-limit-eq0-clause-refused : goal.returns-then-limit-eq0-clause-refused
returns-then-limit-eq0-clause-refused c = λ e. subst (HasMoreThan c.args.axioms.now c.args.query.now) (sym c.if-limit-eq0.true)
    (none_fits c.args.axioms.now c.args.query.now)

pub handle_all-requires-clause-found : goal.handle_all-requires-clause-found
handle_all-requires-clause-found c =
    found c.args.axioms.now c.args.limit c.args.query.now c.in_ok-normal.field-0 c.in_ok-found.found.closure c.in_ok-found.ensures.exact
    c.in_ok-normal.ensures.exact
    (first_found c.args.axioms.now c.args.limit c.args.query.now (omega arith) c.requires.atoms_fit)

pub returns-in_err-handle_all-clause-refused : goal.returns-in_err-handle_all-clause-refused
returns-in_err-handle_all-clause-refused c = λ e.
    let (y, is, same) = err_from_is_err_and c.from_residual-in_err-handle_all.result c.from_residual-in_err-handle_all.ensures.1 in
    let q = c.args.query.now in
    let members = c.in_ok-found.found.closure in
    let first = begins q c.in_ok-normal.field-0 members c.in_ok-found.ensures.exact c.in_ok-normal.ensures.exact in
    let so = found c.args.axioms.now c.args.limit q c.in_ok-normal.field-0 members c.in_ok-found.ensures.exact c.in_ok-normal.ensures.exact
    (first_found c.args.axioms.now c.args.limit q (omega arith) c.requires.atoms_fit) in
    c.in_err-handle_all.ensures.refused q (derived_now c.args.axioms.now c.args.limit 0 q members first so) (cc (is, same, e))

pub returns-clause-closes : goal.returns-clause-closes
returns-clause-closes c =
    let q = c.args.query.now in
    let members = c.handle_all.new.found.closure in
    let first = begins q c.in_ok-normal.field-0 c.in_ok-found.found.closure c.in_ok-found.ensures.exact c.in_ok-normal.ensures.exact in
    let later : BeginsWith q members = (first.0, c.in_ok-handle_all.ensures.kept 0 first.0 first.1, first.2) in
    closes_now c.args.axioms.now c.args.limit (length members) q members later (omega arith) c.in_ok-handle_all.ensures.found

pub returns-clause-exact : goal.returns-clause-exact
returns-clause-exact c =
    let q = c.args.query.now in
    let members = c.handle_all.new.found.closure in
    let first = begins q c.in_ok-normal.field-0 c.in_ok-found.found.closure c.in_ok-found.ensures.exact c.in_ok-normal.ensures.exact in
    let later : BeginsWith q members = (first.0, c.in_ok-handle_all.ensures.kept 0 first.0 first.1, first.2) in
    let closes = closes_now c.args.axioms.now c.args.limit (length members) q members later (omega arith) c.in_ok-handle_all.ensures.found in
    c.closing_list_is_closure.ensures c.args.axioms.now q members c.in_ok-handle_all.ensures.found.derivation closes

pub returns-clause-entails : goal.returns-clause-entails
returns-clause-entails c =
    let q = c.args.query.now in
    let members = c.handle_all.new.found.closure in
    let first = begins q c.in_ok-normal.field-0 c.in_ok-found.found.closure c.in_ok-found.ensures.exact c.in_ok-normal.ensures.exact in
    let later : BeginsWith q members = (first.0, c.in_ok-handle_all.ensures.kept 0 first.0 first.1, first.2) in
    let closes = closes_now c.args.axioms.now c.args.limit (length members) q members later (omega arith) c.in_ok-handle_all.ensures.found in
    tells c.closure_is_exact.ensures c.args.axioms.now q members
    (c.closing_list_is_closure.ensures c.args.axioms.now q members c.in_ok-handle_all.ensures.found.derivation closes)
