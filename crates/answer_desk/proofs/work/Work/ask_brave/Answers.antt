use Rattle.std.proofs.Common.{true, rules, ◌≡◌, ◌+◌, [], Contains, take, true≢false, refl, sym, subst, ap, ◌∙◌}
use Rattle.std.proofs.lemmas.List.{get_or_default}
use Rattle.std.proofs.lemmas.List.Elements.{Contains-get_or}
use Rattle.cdcl_core.specs.declared.outcome.Budget.{Budget}
use Rattle.report_text.specs.declared.line.How.TheVariants as how
use Rattle.answer_evidence.specs.declared.evidence.Evidence.{Evidence}
use Rattle.answer_desk.specs.Following.{AtBrave, AtIar, FollowsOpen, GoesOn, StopsAfter}
use Rattle.answer_desk.specs.Frames.{ForEachFrame}
use Rattle.answer_desk.proofs.FollowingAskLemmas.{leads_then, halts_then, brave_at, iar_at, frame_on, same_after}
use Rattle.answer_desk.proofs.FollowingAskLemmas.{brave_first, brave_skip, brave_done, brave_next, brave_found}
use Rattle.answer_desk.proofs.FollowingAskLemmas.{spends_none, spends_then, whole_within, room_whole, room_left, only_then, same_then}
use Rattle.answer_desk.proofs.TryLemmas.{on_err}
use Rattle.answer_desk.proofs.work.Work.ask_brave.Goals as goal

pub loop-place-init : goal.loop-place-init
loop-place-init g c = record {
  still = c.requires.open;
  same = record { selector = refl; scope = refl; first_core = refl };
  spends = spends_none c.args.self.now.solver c.whole_budget-budget.result (whole_within _ _ c.whole_budget-budget.ensures);
  only = refl;
  cores = refl;
  variables = refl;
  none_torn = c.requires.none_torn;
  target = refl;
  faults = refl;
  follows = λ w more f o. brave_first w c.args.causes.now c.args.self.now.solver c.args.self.now.cores c.whole_budget-budget.result.used
      c.args.opening.now.evidence (g.L.Report.lines c.args.report.now) (ap (λ (b : Budget). b.used) c.whole_budget-budget.ensures) more o;
}

pub ask_cause-requires-clause-over : goal.ask_cause-requires-clause-over
ask_cause-requires-clause-over g c =
    subst (Contains c.args.causes.now) (sym
    (c.as_slice-facts.ensures.lent ∙ (c.index-causes-place.is ∙ get_or_default c.args.causes.now c.loop-place.place _ [] c.loop-place-test.true)))
    (Contains-get_or c.args.causes.now c.loop-place.place [] c.loop-place-test.true)

pub ask_cause-requires-clause-room : goal.ask_cause-requires-clause-room
ask_cause-requires-clause-room g c =
    room_left c.args.self.now.solver c.loop-place.self.solver c.whole_budget-budget.result c.loop-place.budget
    (room_whole c.args.self.now.solver c.whole_budget-budget.result c.args.self.now.plan.budget c.whole_budget-budget.ensures c.requires.room)
    c.loop-place.invariant.spends

pub loop-place-preserved-then-is_among : goal.loop-place-preserved-then-is_among
loop-place-preserved-then-is_among g c =
    let i = c.loop-place.invariant in
    record {
      still = i.still;
      same = i.same;
      spends = i.spends;
      only = i.only;
      cores = i.cores;
      variables = i.variables;
      none_torn = i.none_torn;
      target = i.target;
      faults = i.faults;
      follows = λ w more f o. leads_then w
          (brave_at c.args.self.now.solver c.args.self.now.cores [] 0 c.args.opening.now.evidence (g.L.Report.lines c.args.report.now))
          (brave_at c.loop-place.self.solver c.loop-place.self.cores (take c.loop-place.place c.args.causes.now) c.loop-place.budget.used
          c.loop-place.opening.evidence (g.L.Report.lines c.loop-place.report))
          (brave_at c.loop-place.self.solver c.loop-place.self.cores (take (c.loop-place.place + 1) c.args.causes.now) c.loop-place.budget.used
          c.loop-place.opening.evidence (g.L.Report.lines c.loop-place.report))
          (λ ls at. i.follows w ls f at)
          (brave_skip w c.args.causes.now c.loop-place.place c.loop-place.self.solver c.loop-place.self.cores c.loop-place.budget.used
          c.loop-place.opening.evidence
          (g.L.Report.lines c.loop-place.report) c.loop-place-test.true
          (subst (Contains (take c.loop-place.place c.args.causes.now))
          (c.as_slice-facts.ensures.lent ∙ (c.index-causes-place.is ∙ get_or_default c.args.causes.now c.loop-place.place _ [] c.loop-place-test.true))
          (c.is_among.ensures.exact.0 c.if-is_among.true))) more o;
    }

pub loop-place-preserved : goal.loop-place-preserved
loop-place-preserved g c =
    let i = c.loop-place.invariant in
    let other : c.in_ok-how.how ≡ how.Model → ⊥ = search rules in
    record {
      still = c.in_ok-how.ensures.still_open;
      same = same_then c.args.opening.now c.loop-place.opening c.ask_cause.new.opening i.same c.ask_cause.ensures.same;
      spends = spends_then c.args.self.now.solver c.loop-place.self.solver c.ask_cause.new.self.solver c.whole_budget-budget.result c.loop-place.budget
          c.ask_cause.new.budget i.spends c.in_ok-how.ensures.spends;
      only = only_then c.args.self.now c.loop-place.self c.ask_cause.new.self i.only c.ask_cause.ensures.only;
      cores = c.in_ok-how.ensures.counted ∙ (same_after c.in_ok-how.how c.loop-place.self.cores other ∙ i.cores);
      variables = c.in_ok-how.ensures.variables ∙ i.variables;
      none_torn = c.in_ok-how.ensures.none_torn;
      target = c.ask_cause.ensures.same_target ∙ i.target;
      faults = c.in_ok-how.ensures.fault ∙ i.faults;
      follows = λ w more f o. leads_then w
          (brave_at c.args.self.now.solver c.args.self.now.cores [] 0 c.args.opening.now.evidence (g.L.Report.lines c.args.report.now))
          (brave_at c.loop-place.self.solver c.loop-place.self.cores (take c.loop-place.place c.args.causes.now) c.loop-place.budget.used
          c.loop-place.opening.evidence (g.L.Report.lines c.loop-place.report))
          (brave_at c.ask_cause.new.self.solver c.ask_cause.new.self.cores (take (c.loop-place.place + 1) c.args.causes.now) c.ask_cause.new.budget.used
          c.ask_cause.new.opening.evidence (g.L.Report.lines c.ask_cause.new.report))
          (λ ls at. i.follows w ls f at)
          (brave_next w c.args.causes.now c.loop-place.place c.loop-place.self.solver c.loop-place.self.cores c.loop-place.budget.used
          c.loop-place.opening.evidence
          (g.L.Report.lines c.loop-place.report) c.ask_cause.new.self.solver c.ask_cause.new.self.cores c.ask_cause.new.budget.used
          c.ask_cause.new.opening.evidence
          (g.L.Report.lines c.ask_cause.new.report) c.in_ok-how.how c.as_slice-facts.result.now
          (c.as_slice-facts.ensures.lent ∙ (c.index-causes-place.is ∙ get_or_default c.args.causes.now c.loop-place.place _ [] c.loop-place-test.true))
          (λ ls done at fresh. c.in_ok-how.ensures.follows w ls
          (frame_on w c.args.self.now c.loop-place.self c.args.causes.now c.args.causes.now c.args.opening.now c.loop-place.opening
          c.args.self.now.plan.budget c.loop-place.budget.limit i.only refl i.same
          (i.spends.limit ∙ ap (λ (b : Budget). b.limit) c.whole_budget-budget.ensures) f) done at fresh)
          (λ m. true≢false (sym (c.is_among.ensures.exact.1 m) ∙ c.if-is_among.false)) c.loop-place-test.true other) more o;
    }

pub returns-in_err-how-clause-stops : goal.returns-in_err-how-clause-stops
returns-in_err-how-clause-stops g c =
    let i = c.loop-place.invariant in
    on_err (ForEachFrame c.args.self.now.conflicts.now c.args.self.now.better.now c.args.causes.now c.args.opening.now c.args.self.now.plan.budget
    (λ w more. FollowsOpen w more c.args.self.now.solver c.args.self.now.cores (AtBrave [] 0) c.args.opening.now.evidence
    → StopsAfter w more (g.L.Report.lines c.args.report.now) (g.L.Report.lines c.ask_cause.new.report) (g.L.Report.torn c.ask_cause.new.report)))
    c.from_residual.result
    (λ w more f o. halts_then w
    (brave_at c.args.self.now.solver c.args.self.now.cores [] 0 c.args.opening.now.evidence (g.L.Report.lines c.args.report.now))
    (brave_at c.loop-place.self.solver c.loop-place.self.cores (take c.loop-place.place c.args.causes.now) c.loop-place.budget.used
    c.loop-place.opening.evidence (g.L.Report.lines c.loop-place.report))
    (g.L.Report.lines c.ask_cause.new.report) (g.L.Report.torn c.ask_cause.new.report) (λ ls at. i.follows w ls f at)
    (λ ls at. c.in_err-how.ensures.stops w ls
    (frame_on w c.args.self.now c.loop-place.self c.args.causes.now c.args.causes.now c.args.opening.now c.loop-place.opening
    c.args.self.now.plan.budget c.loop-place.budget.limit i.only refl i.same
    (i.spends.limit ∙ ap (λ (b : Budget). b.limit) c.whole_budget-budget.ensures) f) (take c.loop-place.place c.args.causes.now) at
    (λ m. true≢false (sym (c.is_among.ensures.exact.1 m) ∙ c.if-is_among.false))) more o)

pub returns-then-eq-clause-follows : goal.returns-then-eq-clause-follows
returns-then-eq-clause-follows g c w more f o =
    let i = c.loop-place.invariant in
    let same : c.in_ok-how.how ≡ how.Model = search rules in
    leads_then w
    (brave_at c.args.self.now.solver c.args.self.now.cores [] 0 c.args.opening.now.evidence (g.L.Report.lines c.args.report.now))
    (brave_at c.loop-place.self.solver c.loop-place.self.cores (take c.loop-place.place c.args.causes.now) c.loop-place.budget.used
    c.loop-place.opening.evidence (g.L.Report.lines c.loop-place.report))
    (iar_at c.ask_cause.new.self.solver c.ask_cause.new.self.cores 0 c.ask_cause.new.opening.evidence (g.L.Report.lines c.ask_cause.new.report))
    (λ ls at. i.follows w ls f at)
    (brave_found w c.args.causes.now c.loop-place.place c.loop-place.self.solver c.loop-place.self.cores c.loop-place.budget.used c.loop-place.opening.evidence
    (g.L.Report.lines c.loop-place.report) c.ask_cause.new.self.solver c.ask_cause.new.self.cores c.ask_cause.new.budget.used c.ask_cause.new.opening.evidence
    (g.L.Report.lines c.ask_cause.new.report) c.in_ok-how.how c.as_slice-facts.result.now
    (c.as_slice-facts.ensures.lent ∙ (c.index-causes-place.is ∙ get_or_default c.args.causes.now c.loop-place.place _ [] c.loop-place-test.true))
    (λ ls done at fresh. c.in_ok-how.ensures.follows w ls
    (frame_on w c.args.self.now c.loop-place.self c.args.causes.now c.args.causes.now c.args.opening.now c.loop-place.opening
    c.args.self.now.plan.budget c.loop-place.budget.limit i.only refl i.same
    (i.spends.limit ∙ ap (λ (b : Budget). b.limit) c.whole_budget-budget.ensures) f) done at fresh)
    (λ m. true≢false (sym (c.is_among.ensures.exact.1 m) ∙ c.if-is_among.false)) same) more o

pub returns-clause-follows : goal.returns-clause-follows
returns-clause-follows g c w more f o =
    let i = c.loop-place.invariant in
    subst (λ (e : Evidence). GoesOn w more c.loop-place.self.solver c.loop-place.self.cores (AtIar 0) e (g.L.Report.lines c.args.report.now)
    (g.L.Report.lines c.loop-place.report)) (sym c.see_brave_over.ensures.exact)
    (leads_then w
    (brave_at c.args.self.now.solver c.args.self.now.cores [] 0 c.args.opening.now.evidence (g.L.Report.lines c.args.report.now))
    (brave_at c.loop-place.self.solver c.loop-place.self.cores (take c.loop-place.place c.args.causes.now) c.loop-place.budget.used
    c.loop-place.opening.evidence (g.L.Report.lines c.loop-place.report))
    (iar_at c.loop-place.self.solver c.loop-place.self.cores 0 (record c.loop-place.opening.evidence { brave_over = true })
    (g.L.Report.lines c.loop-place.report))
    (λ ls at. i.follows w ls f at)
    (brave_done w c.args.causes.now c.loop-place.place c.loop-place.self.solver c.loop-place.self.cores c.loop-place.budget.used c.loop-place.opening.evidence
    (g.L.Report.lines c.loop-place.report) c.loop-place-test.false f.causes_are) more o)
