use Rattle.std.proofs.Common.{◌≡◌, ap, sym, subst, ◌∙◌, refl}
use Rattle.std.proofs.lemmas.Bool.{false≢true}
use Rattle.report_laws.specs.Standing.{Standing}
use Rattle.report_laws.proofs.TestLemmas.{tells_not}
use Rattle.plain_finding.specs.Kept.{Kept, HasLive}
use Rattle.report_standing.proofs.LearnLemmas.{learns, may_have, learned_below}
use Rattle.report_standing.proofs.standing.Standing.is_right_clause.Goals as goal

pub returns-then-not-may_have-clause-exact : goal.returns-then-not-may_have-clause-exact
returns-then-not-may_have-clause-exact c = λ live has are. (
  (λ t. absurd (false≢true t)),
  (λ w. absurd (false≢true (c.if-not-may_have.ensures.exact.1
      (may_have c.args.kb.now c.args.learnable.now c.args.self.now c.args.number c.args.clause.now are live w)))),
)

pub returns-then-not-speaks_of-clause-exact : goal.returns-then-not-speaks_of-clause-exact
returns-then-not-speaks_of-clause-exact c = λ live has are. (
  (λ t. absurd (false≢true t)),
  (λ w. absurd (false≢true (c.if-not-speaks_of.ensures.exact.1
      (learned_below c.args.kb.now c.args.learnable.now c.args.self.now c.args.number c.args.clause.now are live c.args.clauses.now.variables
      c.requires.within w)))),
)

pub returns-clause-exact : goal.returns-clause-exact
returns-clause-exact c = λ live has are.
    let lent : c.as_slice.result.now ≡ c.args.self.now.assumed = c.as_slice.ensures.lent ∙ ap (λ (s : Standing). s.assumed) c.self.view_is in
    let same : HasLive c.follows.new.clauses live = subst (λ (k : Kept). HasLive k live) (sym c.in_ok-follows.ensures.unchanged) has in
    let told = tells_not c.refutes.result (rw lent at (c.refutes.ensures.exact live same)) in (
      (λ t. learns c.args.kb.now c.args.learnable.now c.args.self.now c.args.number c.args.clause.now are live (c.if-not-may_have.ensures.exact.0 refl)
          ((c.in_ok-follows.ensures.exact live has).0 c.if-not-branch.false)
          (λ w. false≢true ((c.if-is_superset_of_live.ensures.exact live has).1 w))
          (told.0 t)),
      (λ w. told.1 w.needed),
    )
