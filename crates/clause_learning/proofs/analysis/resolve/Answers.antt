use Rattle.std.proofs.Common.{ℕ, Some, None, List, Bool, false, not, eqb, length, refl, subst, ap, ◌∙◌, arith}
use Rattle.std.specs.List.{filter}
use Rattle.std.proofs.lemmas.List.{length-set}
use Rattle.cdcl_trail.specs.Values.{IsReasonOf}
use Rattle.clause_meaning.specs.Marks.{HasMark}
use Rattle.clause_meaning.proofs.MarkLemmas.{HasMark-below, HasMark-gone_cases}
use Rattle.clause_learning.proofs.Marked.{IsCovered-less, Shows-out, counted_some}
use Rattle.clause_learning.proofs.Sieve.{TakesOut-filter}
use Rattle.clause_learning.proofs.Steps.{reason_live, resolved, has_reason, on_level_here}
use Rattle.clause_learning.proofs.analysis.resolve.Goals as goal

pub view-requires : goal.view-requires
view-requires c =
    let entries = c.args.trail.now.entries in
    record {
      live = reason_live c.args.trail.now c.args.arena.now c.args.place c.args.literal c.in-Some.reason c.requires.searching c.requires.distinct
          c.requires.place c.requires.at
          (subst (λ (v : ℕ). IsReasonOf entries v (Some c.in-Some.reason)) c.variable_of.ensures
          (subst (IsReasonOf entries c.variable_of.result) c.in-Some.is c.reason.ensures.exact));
    }

pub unreachable-requires : goal.unreachable-requires
unreachable-requires c =
    let entries = c.args.trail.now.entries in
    let (literals, shows, r, member, other) = c.requires.resolvent in
    has_reason c.args.trail.now c.args.arena.now literals c.args.place c.args.literal c.requires.searching c.requires.distinct c.requires.guessed
    c.requires.place
    r c.requires.at other (subst (λ (v : ℕ). IsReasonOf entries v None) c.variable_of.ensures
    (subst (IsReasonOf entries c.variable_of.result) c.in-None.is c.reason.ensures.exact))

pub take_out-requires-clause-within : goal.take_out-requires-clause-within
take_out-requires-clause-within c =
    let (literals, shows, r, member, other) = c.requires.resolvent in
    let below = HasMark-below c.args.resolvent.now.marks.items c.args.literal (shows.has c.args.literal member) in
    omega (arith, below, c.args.resolvent.now.marks.ok.0)

pub take_out-requires-clause-some : goal.take_out-requires-clause-some
take_out-requires-clause-some c =
    let (literals, shows, r, member, other) = c.requires.resolvent in
    counted_some c.args.trail.now c.args.resolvent.now literals c.args.literal shows member
    (on_level_here c.args.trail.now c.args.arena.now literals c.args.place c.args.literal c.requires.searching c.requires.distinct c.requires.place r
    c.requires.at)

pub join-requires-clause-covered : goal.join-requires-clause-covered
join-requires-clause-covered c =
    let (literals, shows, r, member, other) = c.requires.resolvent in
    let marks = c.args.resolvent.now.marks.items in
    IsCovered-less c.args.trail.now.variables c.args.resolvent.now c.take_out.new.resolvent c.requires.covered
    (ap length c.take_out.ensures.marks ∙ length-set marks c.args.literal false)
    (λ k m. (HasMark-gone_cases marks c.args.literal k (HasMark-below marks c.args.literal (shows.has c.args.literal member))
    (subst (λ (xs : List Bool). HasMark xs k) c.take_out.ensures.marks m)).1)
    c.take_out.ensures.touched (omega (arith, c.take_out.ensures.newest))

pub returns-clause-holds : goal.returns-clause-holds
returns-clause-holds c =
    let trail = c.args.trail.now in
    let arena = c.args.arena.now in
    let entries = trail.entries in
    let q = c.args.literal in
    let (literals, shows, r, member, other) = c.requires.resolvent in
    let middle = filter (λ x. not (eqb x q)) literals in
    let on = on_level_here trail arena literals c.args.place q c.requires.searching c.requires.distinct c.requires.place r c.requires.at in
    let out = Shows-out trail c.args.resolvent.now c.take_out.new.resolvent literals q shows member on c.take_out.ensures.marks c.take_out.ensures.newest in
    let (next, shows_next, joins) = c.in_ok-join-in-Some.ensures.joins middle out in (
      next,
      shows_next,
      resolved trail arena literals middle next c.view.result.now c.args.place q c.in-Some.reason
          c.requires.searching c.requires.distinct c.requires.place r c.requires.at member other
          (subst (λ (v : ℕ). IsReasonOf entries v (Some c.in-Some.reason)) c.variable_of.ensures
          (subst (IsReasonOf entries c.variable_of.result) c.in-Some.is c.reason.ensures.exact))
          c.view.ensures.only c.view.ensures.in_range (TakesOut-filter literals middle q refl) joins,
    )
