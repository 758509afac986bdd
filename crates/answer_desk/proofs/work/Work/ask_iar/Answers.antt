use Rattle.std.proofs.Common.{[], refl, sym, ap, ◌∙◌, arith}
use Rattle.std.proofs.lemmas.List.{get_or_default}
use Rattle.cdcl_core.specs.declared.outcome.Budget.{Budget}
use Rattle.answer_desk.specs.Following.{AtIar, FollowsOpen, StopsAfter}
use Rattle.answer_desk.specs.Frames.{ForEachFrame}
use Rattle.answer_desk.proofs.FollowingAskLemmas.{iar_at, frame_on, only_then, same_then, spends_none, spends_then, whole_within}
use Rattle.answer_desk.proofs.FollowingAskLemmas.{iar_first, iar_next, iar_all, iar_halts}
use Rattle.answer_desk.proofs.TryLemmas.{on_err}
use Rattle.answer_desk.proofs.work.Work.ask_iar.Goals as goal

pub loop-place-init : goal.loop-place-init
loop-place-init g c = record {
  still = c.requires.open;
  same = record { selector = refl; scope = refl; first_core = refl };
  spends = spends_none c.args.self.now.solver c.whole_budget-budget.result (whole_within _ _ c.whole_budget-budget.ensures);
  only = refl;
  cores = omega arith;
  variables = refl;
  none_torn = c.requires.none_torn;
  target = refl;
  faults = refl;
  follows = λ w more f o. iar_first w c.args.causes.now c.args.self.now.solver c.args.self.now.cores c.whole_budget-budget.result.used
      c.args.opening.now.evidence (g.L.Report.lines c.args.report.now) (ap (λ (b : Budget). b.used) c.whole_budget-budget.ensures) more o;
}

pub loop-place-preserved : goal.loop-place-preserved
loop-place-preserved g c =
    let i = c.loop-place.invariant in
    record {
      still = c.in_ok-ask_facts.ensures.still_open;
      same = same_then c.args.opening.now c.loop-place.opening c.ask_facts.new.opening i.same c.ask_facts.ensures.same;
      spends = spends_then c.args.self.now.solver c.loop-place.self.solver c.ask_facts.new.self.solver c.whole_budget-budget.result c.loop-place.budget
          c.ask_facts.new.budget i.spends c.in_ok-ask_facts.ensures.spends;
      only = only_then c.args.self.now c.loop-place.self c.ask_facts.new.self i.only c.ask_facts.ensures.only;
      cores = (let last = c.in_ok-ask_facts.ensures.counted in let before = i.cores in omega arith);
      variables = c.in_ok-ask_facts.ensures.variables ∙ i.variables;
      none_torn = c.in_ok-ask_facts.ensures.none_torn;
      target = c.ask_facts.ensures.same_target ∙ i.target;
      faults = c.in_ok-ask_facts.ensures.fault ∙ i.faults;
      follows = λ w more f o. iar_next w c.args.causes.now c.loop-place.place
          (iar_at c.args.self.now.solver c.args.self.now.cores 0 c.args.opening.now.evidence (g.L.Report.lines c.args.report.now))
          (iar_at c.loop-place.self.solver c.loop-place.self.cores c.loop-place.budget.used c.loop-place.opening.evidence
          (g.L.Report.lines c.loop-place.report))
          (λ ls at. i.follows w ls f at) c.ask_facts.new.self.solver c.ask_facts.new.self.cores c.ask_facts.new.budget.used
          c.ask_facts.new.opening.evidence (g.L.Report.lines c.ask_facts.new.report)
          (λ ls at. c.in_ok-ask_facts.ensures.follows c.loop-place.place
          (record {
            below = c.loop-place-test.true;
            facts_are = sym
                (c.as_slice.ensures.lent ∙ (c.index-causes-place.is ∙ get_or_default c.args.causes.now c.loop-place.place _ [] c.loop-place-test.true));
            uncut = sym c.is_cut.ensures.exact ∙ c.if-is_cut.false;
          }) w ls
          (frame_on w c.args.self.now c.loop-place.self c.args.causes.now c.args.causes.now c.args.opening.now c.loop-place.opening
          c.args.self.now.plan.budget c.loop-place.budget.limit i.only refl i.same
          (i.spends.limit ∙ ap (λ (b : Budget). b.limit) c.whole_budget-budget.ensures) f) at) more o;
    }

pub returns-in_err-ask_facts-clause-stops : goal.returns-in_err-ask_facts-clause-stops
returns-in_err-ask_facts-clause-stops g c =
    let i = c.loop-place.invariant in
    on_err (ForEachFrame c.args.self.now.conflicts.now c.args.self.now.better.now c.args.causes.now c.args.opening.now c.args.self.now.plan.budget
    (λ w more. FollowsOpen w more c.args.self.now.solver c.args.self.now.cores (AtIar 0) c.args.opening.now.evidence
    → StopsAfter w more (g.L.Report.lines c.args.report.now) (g.L.Report.lines c.ask_facts.new.report) (g.L.Report.torn c.ask_facts.new.report)))
    c.from_residual.result
    (λ w more f o. iar_halts w c.args.causes.now c.loop-place.place
    (iar_at c.args.self.now.solver c.args.self.now.cores 0 c.args.opening.now.evidence (g.L.Report.lines c.args.report.now))
    (iar_at c.loop-place.self.solver c.loop-place.self.cores c.loop-place.budget.used c.loop-place.opening.evidence
    (g.L.Report.lines c.loop-place.report))
    (g.L.Report.lines c.ask_facts.new.report) (g.L.Report.torn c.ask_facts.new.report) (λ ls at. i.follows w ls f at)
    (λ ls at. c.in_err-ask_facts.ensures.stops c.loop-place.place
    (record {
      below = c.loop-place-test.true;
      facts_are = sym
          (c.as_slice.ensures.lent ∙ (c.index-causes-place.is ∙ get_or_default c.args.causes.now c.loop-place.place _ [] c.loop-place-test.true));
      uncut = sym c.is_cut.ensures.exact ∙ c.if-is_cut.false;
    }) w ls
    (frame_on w c.args.self.now c.loop-place.self c.args.causes.now c.args.causes.now c.args.opening.now c.loop-place.opening
    c.args.self.now.plan.budget c.loop-place.budget.limit i.only refl i.same
    (i.spends.limit ∙ ap (λ (b : Budget). b.limit) c.whole_budget-budget.ensures) f) at) more o)

pub returns-clause-follows : goal.returns-clause-follows
returns-clause-follows g c w more f o =
    let i = c.loop-place.invariant in
    iar_all w c.args.causes.now c.loop-place.place
    (iar_at c.args.self.now.solver c.args.self.now.cores 0 c.args.opening.now.evidence (g.L.Report.lines c.args.report.now)) c.loop-place.self.solver
    c.loop-place.self.cores c.loop-place.budget.used c.loop-place.opening.evidence (g.L.Report.lines c.loop-place.report)
    (λ ls at. i.follows w ls f at) c.loop-place-test.false more o
