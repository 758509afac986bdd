use Rattle.std.proofs.Common.{rules, ◌≡◌, List, ℕ, Contains, get_or, refl, sym, subst, ◌∙◌, arith}
use Rattle.std.proofs.lemmas.List.Elements.{Contains-get_or}
use Rattle.report_text.specs.declared.line.How.TheVariants as how
use Rattle.report_text.specs.declared.line.Question.TheVariants as question
use Rattle.answer_desk.specs.Asking.{IsCauseAt}
use Rattle.answer_desk.specs.Following.{AtIar, FollowsOpen, IsFrameFor, StopsAfter}
use Rattle.answer_desk.specs.Frames.{ForEachFrame}
use Rattle.answer_desk.specs.PlacesOver.{IsAskedAt}
use Rattle.answer_evidence.specs.Shown.{is_undecided, verdict_in}
use Rattle.answer_desk.proofs.FollowingAskLemmas.{iar_at, halts_then, frame_on, only_then, same_then, spends_none, spends_then, room_left}
use Rattle.answer_desk.proofs.FollowingAskLemmas.{facts_none, facts_next, facts_settled, facts_all, facts_left, fact_asked, same_after}
use Rattle.answer_desk.proofs.FollowingAskLemmas.{refuted_more, refuted_cut, refuted_all, settled_by, unsettled_by}
use Rattle.answer_desk.proofs.TryLemmas.{on_err}
use Rattle.answer_desk.proofs.work.Work.ask_facts.Goals as goal

pub loop-fact-init : goal.loop-fact-init
loop-fact-init g c = record {
  still = c.requires.open;
  same = record { selector = refl; scope = refl; first_core = refl };
  spends = spends_none c.args.self.now.solver c.args.budget.now c.requires.room.within;
  only = refl;
  cores = refl;
  variables = refl;
  none_torn = c.requires.none_torn;
  target = refl;
  faults = refl;
  follows = λ place at. facts_none c.args.causes.now place
      (λ w. IsFrameFor w c.args.self.now.conflicts.now c.args.self.now.better.now c.args.causes.now c.args.opening.now.selector
      c.args.opening.now.scope.items c.args.budget.now.limit) c.args.facts.now
      (iar_at c.args.self.now.solver c.args.self.now.cores c.args.budget.now.used c.args.opening.now.evidence (g.L.Report.lines c.args.report.now)) at;
  refuted = λ place at k l. absurd (omega arith);
}

pub how_of_fact-requires-clause-over : goal.how_of_fact-requires-clause-over
how_of_fact-requires-clause-over g c =
    (c.args.facts.now, c.requires.over, Contains-get_or c.args.facts.now c.loop-fact.fact-index 0 c.loop-fact-test.true)

pub how_of_fact-requires-clause-room : goal.how_of_fact-requires-clause-room
how_of_fact-requires-clause-room g c =
    room_left c.args.self.now.solver c.loop-fact.self.solver c.args.budget.now c.loop-fact.budget c.requires.room c.loop-fact.invariant.spends

pub loop-fact-preserved : goal.loop-fact-preserved
loop-fact-preserved g c =
    let i = c.loop-fact.invariant in
    let asked : (place : ℕ) → IsCauseAt c.args.causes.now c.args.opening.now.evidence place c.args.facts.now
    → IsAskedAt c.args.causes.now c.loop-fact.opening.evidence place (get_or c.args.facts.now c.loop-fact.fact-index 0) =
    λ place at. fact_asked c.args.causes.now place c.args.facts.now c.args.opening.now.evidence c.loop-fact.opening.evidence
    (get_or c.args.facts.now c.loop-fact.fact-index 0) at i.still.cut (i.follows place at).uncut
    (Contains-get_or c.args.facts.now c.loop-fact.fact-index 0 c.loop-fact-test.true)
    (unsettled_by (is_undecided (verdict_in c.loop-fact.opening.evidence question.Iar)) c.is_settled.result c.is_settled.ensures
    c.if-is_settled.false) in
    let same : c.in_ok-how.how ≡ how.Refuted = search rules in
    let other : c.in_ok-how.how ≡ how.Model → ⊥ = λ is. absurd (let e : how.Refuted ≡ how.Model = sym same ∙ is in cc) in
    record {
      still = c.in_ok-how.ensures.still_open;
      same = same_then c.args.opening.now c.loop-fact.opening c.how_of_fact.new.opening i.same c.how_of_fact.ensures.same;
      spends = spends_then c.args.self.now.solver c.loop-fact.self.solver c.how_of_fact.new.self.solver c.args.budget.now c.loop-fact.budget
          c.how_of_fact.new.budget i.spends c.in_ok-how.ensures.spends;
      only = only_then c.args.self.now c.loop-fact.self c.how_of_fact.new.self i.only c.how_of_fact.ensures.only;
      cores = c.in_ok-how.ensures.counted ∙ (same_after c.in_ok-how.how c.loop-fact.self.cores other ∙ i.cores);
      variables = c.in_ok-how.ensures.variables ∙ i.variables;
      none_torn = c.in_ok-how.ensures.none_torn;
      target = c.how_of_fact.ensures.same_target ∙ i.target;
      faults = c.in_ok-how.ensures.fault ∙ i.faults;
      follows = λ place at. facts_next c.args.causes.now place
          (λ w. IsFrameFor w c.args.self.now.conflicts.now c.args.self.now.better.now c.args.causes.now c.args.opening.now.selector
          c.args.opening.now.scope.items c.args.budget.now.limit)
          (iar_at c.args.self.now.solver c.args.self.now.cores c.args.budget.now.used c.args.opening.now.evidence (g.L.Report.lines c.args.report.now))
          (iar_at c.loop-fact.self.solver c.loop-fact.self.cores c.loop-fact.budget.used c.loop-fact.opening.evidence (g.L.Report.lines c.loop-fact.report))
          (iar_at c.how_of_fact.new.self.solver c.how_of_fact.new.self.cores c.how_of_fact.new.budget.used c.how_of_fact.new.opening.evidence
          (g.L.Report.lines c.how_of_fact.new.report))
          (i.follows place at) (λ w f more o. c.in_ok-how.ensures.follows w more
          (frame_on w c.args.self.now c.loop-fact.self c.args.causes.now c.args.causes.now c.args.opening.now c.loop-fact.opening
          c.args.budget.now.limit c.loop-fact.budget.limit i.only refl i.same i.spends.limit f) place (asked place at) o)
          (c.in_ok-how.ensures.seen place (asked place at)).0
          (refuted_cut c.args.causes.now place (get_or c.args.facts.now c.loop-fact.fact-index 0) c.loop-fact.opening.evidence
          c.how_of_fact.new.opening.evidence c.in_ok-how.how same (c.in_ok-how.ensures.seen place (asked place at)).1);
      refuted = λ place at. refuted_more c.args.causes.now place (get_or c.args.facts.now c.loop-fact.fact-index 0) c.args.facts.now
          c.loop-fact.fact-index c.loop-fact.opening.evidence c.how_of_fact.new.opening.evidence c.in_ok-how.how same
          (c.in_ok-how.ensures.seen place (asked place at)).1 refl (i.refuted place at);
    }

pub returns-then-is_settled-clause-follows : goal.returns-then-is_settled-clause-follows
returns-then-is_settled-clause-follows g c place at =
    let i = c.loop-fact.invariant in
    facts_settled c.args.causes.now place
    (λ w. IsFrameFor w c.args.self.now.conflicts.now c.args.self.now.better.now c.args.causes.now c.args.opening.now.selector
    c.args.opening.now.scope.items c.args.budget.now.limit)
    (iar_at c.args.self.now.solver c.args.self.now.cores c.args.budget.now.used c.args.opening.now.evidence (g.L.Report.lines c.args.report.now))
    c.loop-fact.self.solver c.loop-fact.self.cores c.loop-fact.budget.used c.loop-fact.opening.evidence (g.L.Report.lines c.loop-fact.report)
    (i.follows place at)
    (settled_by (is_undecided (verdict_in c.loop-fact.opening.evidence question.Iar)) c.is_settled.result c.is_settled.ensures c.if-is_settled.true)

pub returns-in_err-how-clause-stops : goal.returns-in_err-how-clause-stops
returns-in_err-how-clause-stops g c =
    let i = c.loop-fact.invariant in
    let asked : (place : ℕ) → IsCauseAt c.args.causes.now c.args.opening.now.evidence place c.args.facts.now
    → IsAskedAt c.args.causes.now c.loop-fact.opening.evidence place (get_or c.args.facts.now c.loop-fact.fact-index 0) =
    λ place at. fact_asked c.args.causes.now place c.args.facts.now c.args.opening.now.evidence c.loop-fact.opening.evidence
    (get_or c.args.facts.now c.loop-fact.fact-index 0) at i.still.cut (i.follows place at).uncut
    (Contains-get_or c.args.facts.now c.loop-fact.fact-index 0 c.loop-fact-test.true)
    (unsettled_by (is_undecided (verdict_in c.loop-fact.opening.evidence question.Iar)) c.is_settled.result c.is_settled.ensures
    c.if-is_settled.false) in
    on_err ((place : ℕ) → IsCauseAt c.args.causes.now c.args.opening.now.evidence place c.args.facts.now
    → ForEachFrame c.args.self.now.conflicts.now c.args.self.now.better.now c.args.causes.now c.args.opening.now c.args.budget.now.limit
    (λ w more. FollowsOpen w more c.args.self.now.solver c.args.self.now.cores (AtIar c.args.budget.now.used) c.args.opening.now.evidence
    → StopsAfter w more (g.L.Report.lines c.args.report.now) (g.L.Report.lines c.how_of_fact.new.report) (g.L.Report.torn c.how_of_fact.new.report)))
    c.from_residual.result
    (λ place at w more f o. halts_then w
    (iar_at c.args.self.now.solver c.args.self.now.cores c.args.budget.now.used c.args.opening.now.evidence (g.L.Report.lines c.args.report.now))
    (iar_at c.loop-fact.self.solver c.loop-fact.self.cores c.loop-fact.budget.used c.loop-fact.opening.evidence (g.L.Report.lines c.loop-fact.report))
    (g.L.Report.lines c.how_of_fact.new.report) (g.L.Report.torn c.how_of_fact.new.report) ((i.follows place at).leads w f)
    (λ ls there. c.in_err-how.ensures.stops w ls
    (frame_on w c.args.self.now c.loop-fact.self c.args.causes.now c.args.causes.now c.args.opening.now c.loop-fact.opening
    c.args.budget.now.limit c.loop-fact.budget.limit i.only refl i.same i.spends.limit f) place (asked place at) there) more o)

pub returns-then-ne-clause-follows : goal.returns-then-ne-clause-follows
returns-then-ne-clause-follows g c place at =
    let i = c.loop-fact.invariant in
    let asked : (place : ℕ) → IsCauseAt c.args.causes.now c.args.opening.now.evidence place c.args.facts.now
    → IsAskedAt c.args.causes.now c.loop-fact.opening.evidence place (get_or c.args.facts.now c.loop-fact.fact-index 0) =
    λ place at. fact_asked c.args.causes.now place c.args.facts.now c.args.opening.now.evidence c.loop-fact.opening.evidence
    (get_or c.args.facts.now c.loop-fact.fact-index 0) at i.still.cut (i.follows place at).uncut
    (Contains-get_or c.args.facts.now c.loop-fact.fact-index 0 c.loop-fact-test.true)
    (unsettled_by (is_undecided (verdict_in c.loop-fact.opening.evidence question.Iar)) c.is_settled.result c.is_settled.ensures
    c.if-is_settled.false) in
    let other : c.in_ok-how.how ≡ how.Refuted → ⊥ = search rules in
    facts_left c.args.causes.now place
    (λ w. IsFrameFor w c.args.self.now.conflicts.now c.args.self.now.better.now c.args.causes.now c.args.opening.now.selector
    c.args.opening.now.scope.items c.args.budget.now.limit)
    (iar_at c.args.self.now.solver c.args.self.now.cores c.args.budget.now.used c.args.opening.now.evidence (g.L.Report.lines c.args.report.now))
    c.loop-fact.self.solver c.loop-fact.self.cores c.loop-fact.budget.used c.loop-fact.opening.evidence (g.L.Report.lines c.loop-fact.report)
    (i.follows place at) c.how_of_fact.new.self.solver c.how_of_fact.new.self.cores c.how_of_fact.new.budget.used c.how_of_fact.new.opening.evidence
    (g.L.Report.lines c.how_of_fact.new.report) (λ w f more o. c.in_ok-how.ensures.follows w more
    (frame_on w c.args.self.now c.loop-fact.self c.args.causes.now c.args.causes.now c.args.opening.now c.loop-fact.opening
    c.args.budget.now.limit c.loop-fact.budget.limit i.only refl i.same i.spends.limit f) place (asked place at) o)
    (c.in_ok-how.ensures.seen place (asked place at)).0 (get_or c.args.facts.now c.loop-fact.fact-index 0) c.in_ok-how.how
    (subst (λ (xs : List ℕ). Contains xs (get_or c.args.facts.now c.loop-fact.fact-index 0)) (sym at.facts_are)
    (Contains-get_or c.args.facts.now c.loop-fact.fact-index 0 c.loop-fact-test.true)) (c.in_ok-how.ensures.seen place (asked place at)).1 other

pub returns-clause-follows : goal.returns-clause-follows
returns-clause-follows g c place at w more f o =
    let i = c.loop-fact.invariant in
    facts_all c.args.causes.now place
    (λ w. IsFrameFor w c.args.self.now.conflicts.now c.args.self.now.better.now c.args.causes.now c.args.opening.now.selector
    c.args.opening.now.scope.items c.args.budget.now.limit)
    (iar_at c.args.self.now.solver c.args.self.now.cores c.args.budget.now.used c.args.opening.now.evidence (g.L.Report.lines c.args.report.now))
    c.loop-fact.self.solver c.loop-fact.self.cores c.loop-fact.budget.used c.loop-fact.opening.evidence (g.L.Report.lines c.loop-fact.report)
    (i.follows place at) c.args.facts.now at
    (refuted_all c.args.facts.now c.loop-fact.opening.evidence c.loop-fact.fact-index c.loop-fact-test.false (i.refuted place at)) w more f f.causes_are o
