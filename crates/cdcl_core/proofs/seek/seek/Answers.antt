use Rattle.std.proofs.Common.{◌≡◌, ◌+◌, ◌++◌, ◌∷◌, [], ℕ, List, min, refl, sym, subst, ap, ◌∙◌}
use Rattle.cdcl_core.specs.declared.outcome.Budget.{Budget}
use Rattle.cdcl_core.specs.Learning.{IsRefuted, IsNew}
use Rattle.cdcl_core.specs.Seeking.{Seeks, StoreStops, FailsOn, bare}
use Rattle.cdcl_core.proofs.Runs.{Ran-start, Ran-same, Ran-push, Ended-fault, less_than_limit}
use Rattle.cdcl_core.proofs.seek.seek.Goals as goal

pub loop-clause-init : goal.loop-clause-init
loop-clause-init g c = (
  [],
  record {
    ran = Ran-start (bare c.args.store.now) (bare c.begin.new.self) c.args.scope.now c.args.assume.now c.args.budget.now (g.L.ProofLog.content c.args.log.now)
        (g.L.ProofLog.faults c.args.log.now)
        c.requires.affords c.requires.whole c.begin.ensures.shows;
    seeks = c.begin.ensures.seeks c.if-not-begin.false c.args.assume.now c.requires.askable.assumed;
    focus = c.begin.ensures.focus;
  },
  g.met.L.ProofLog.leads_same c.args.log.now,
)

pub returns-in-Refuted-clause-ends : goal.returns-in-Refuted-clause-ends
returns-in-Refuted-clause-ends g c =
    let new = c.advance.new.self in
    subst (λ (vs : List ℕ). IsRefuted (bare new) vs c.args.assume.now) (c.advance.ensures.focus ∙ c.loop-clause.invariant.1.focus)
    (subst (StoreStops c.args.assume.now new) c.in-Refuted.is c.advance.ensures.stops)

pub returns-then-budget-clause-ends : goal.returns-then-budget-clause-ends
returns-then-budget-clause-ends g c =
    let new = c.advance.new.self in
    let stops = subst (StoreStops c.args.assume.now new) c.in-Falsified.is c.advance.ensures.stops in (
      c.if-budget.true,
      λ r. stops.3 (subst (λ (vs : List ℕ). IsRefuted (bare new) vs c.args.assume.now) (sym (c.advance.ensures.focus ∙ c.loop-clause.invariant.1.focus)) r),
    )

pub returns-in-Err-clause-learned : goal.returns-in-Err-clause-learned
returns-in-Err-clause-learned g c =
    let new = c.advance.new.self in
    let was = c.loop-clause.store in
    let stops = subst (StoreStops c.args.assume.now new) c.in-Falsified.is c.advance.ensures.stops in
    let focus : new.trail.focus ≡ c.args.scope.now = c.advance.ensures.focus ∙ c.loop-clause.invariant.1.focus in
    let content = g.L.ProofLog.content in
    let faults = g.L.ProofLog.faults in
    let ran = Ran-same (bare c.args.store.now) (bare was) (bare new) c.args.scope.now c.args.assume.now c.args.budget.now c.loop-clause.budget
    (content c.args.log.now) (content c.loop-clause.log)
    (faults c.args.log.now) (faults c.loop-clause.log) c.loop-clause.invariant.0 c.loop-clause.invariant.1.ran c.advance.ensures.shows in
    Ended-fault (bare c.args.store.now) (bare new) (bare c.learn.new.self) c.args.scope.now c.args.assume.now c.args.budget.now c.loop-clause.budget
    (content c.args.log.now) (content c.loop-clause.log)
    (content c.learn.new.log) (faults c.args.log.now) (faults c.loop-clause.log) (faults c.learn.new.log) c.loop-clause.invariant.0 c.in-Err.fault ran
    (λ r. stops.3 (subst (λ (vs : List ℕ). IsRefuted (bare new) vs c.args.assume.now) (sym focus) r))
    (less_than_limit c.loop-clause.budget ran.learns.within c.if-budget.false)
    (subst (λ (vs : List ℕ). FailsOn (bare new) (bare c.learn.new.self) vs (content c.loop-clause.log) (content c.learn.new.log) (faults c.loop-clause.log)
    (faults c.learn.new.log) c.in-Err.fault) focus
    c.in-Err.ensures.failed)

pub loop-clause-preserved : goal.loop-clause-preserved
loop-clause-preserved g c =
    let new = c.advance.new.self in
    let was = c.loop-clause.store in
    let entries = c.loop-clause.invariant.0 in
    let stops = subst (StoreStops c.args.assume.now new) c.in-Falsified.is c.advance.ensures.stops in
    let focus : new.trail.focus ≡ c.args.scope.now = c.advance.ensures.focus ∙ c.loop-clause.invariant.1.focus in
    let content = g.L.ProofLog.content in
    let faults = g.L.ProofLog.faults in
    let budget = c.loop-clause.budget in
    let next : Budget = record { limit = budget.limit; used = budget.used + 1 } in
    let ran = Ran-same (bare c.args.store.now) (bare was) (bare new) c.args.scope.now c.args.assume.now c.args.budget.now budget (content c.args.log.now)
    (content c.loop-clause.log)
    (faults c.args.log.now) (faults c.loop-clause.log) entries c.loop-clause.invariant.1.ran c.advance.ensures.shows in
    let learned = c.in-Ok.ensures.learned in
    let entry = learned.0 in (
      entries ++ entry ∷ [],
      record {
        ran = Ran-push (bare c.args.store.now) (bare new) (bare c.learn.new.self) c.args.scope.now c.args.assume.now c.args.budget.now budget next
            (content c.args.log.now) (content c.loop-clause.log)
            (content c.learn.new.log) (faults c.args.log.now) (faults c.loop-clause.log) (faults c.learn.new.log) entries entry ran
            (λ r. stops.3 (subst (λ (vs : List ℕ). IsRefuted (bare new) vs c.args.assume.now) (sym focus) r))
            (subst (λ (vs : List ℕ). IsNew (bare new) vs entry) focus learned.1) learned.2 learned.3 learned.4
            (less_than_limit budget ran.learns.within c.if-budget.false) refl refl;
        seeks = subst (Seeks c.args.assume.now c.learn.new.self.trail c.learn.new.self.arena)
            (sym (c.min-assumed.ensures ∙ ap (min c.in-Falsified.level) c.level.ensures))
            (c.in-Ok.ensures.seeks c.args.assume.now c.in-Falsified.level stops.0);
        focus = c.in-Ok.ensures.focus ∙ focus;
      },
      g.met.L.ProofLog.leads_on c.args.log.now c.loop-clause.log c.learn.new.log c.loop-clause.invariant.2 c.learn.ensures.leads,
    )

pub returns-in-Err-clause-leads : goal.returns-in-Err-clause-leads
returns-in-Err-clause-leads g c = g.met.L.ProofLog.leads_on c.args.log.now c.loop-clause.log c.learn.new.log c.loop-clause.invariant.2 c.learn.ensures.leads
