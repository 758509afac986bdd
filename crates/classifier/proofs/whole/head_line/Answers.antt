use Rattle.std.proofs.Common.{◌<◌, ◌^◌, List, length, refl, sym, subst, ap, ◌∙◌, rules}
use Rattle.cq_terms.specs.declared.axioms.Axiom.{Axiom}
use Rattle.cq_terms.specs.declared.facts.Fact.{Fact}
use Rattle.report_text.specs.declared.line.Line.TheVariants as line
use Rattle.classifier.proofs.whole.head_line.Goals as goal

pub returns-clause-exact : goal.returns-clause-exact
returns-clause-exact c =
    let plan = c.args.plan in
    ap (λ (xs : List Axiom). line.Head (length xs) plan.budget (length c.facts.result.now) plan.keep plan.repairs 1) c.axioms.ensures.lent
    ∙ ap (λ (xs : List Fact). line.Head (length c.args.kb.now.axioms) plan.budget (length xs) plan.keep plan.repairs 1) c.facts.ensures.lent

pub returns-clause-form : goal.returns-clause-form
returns-clause-form c = record {
  axioms_fit = subst (λ (xs : List Axiom). length xs < 2 ^ 32) (sym c.axioms.ensures.lent) c.requires.axioms;
  budget_fits = search rules;
  facts_fit = subst (λ (xs : List Fact). length xs < 2 ^ 32) (sym c.facts.ensures.lent) c.requires.facts;
  keep_fits = search rules;
  version_known = refl;
}
