use Rattle.answer_desk.proofs.ModelLemmas.{shown_present, cause_present, cause_satisfies, fact_outside, fact_satisfies, causes_not_whole, causes_satisfy}
use Rattle.answer_desk.proofs.work.Work.core_of_model.Goals as goal

pub core_within-requires-clause-ascending : goal.core_within-requires-clause-ascending
core_within-requires-clause-ascending c =
    let a = shown_present c.args.self.now.better.now c.args.self.now.conflicts.now c.args.self.now.solver c.args.opening.now c.args.causes.now
    c.linear-order.ensures.kept c.requires.open c.args.aim.now c.requires.over c.requires.model c.in_ok-present.present.items
    c.as_slice-present.result.now c.as_slice-present.ensures.value c.in_ok-present.ensures.exact in
    a.ascending

pub core_within-requires-clause-present_known : goal.core_within-requires-clause-present_known
core_within-requires-clause-present_known c =
    let a = shown_present c.args.self.now.better.now c.args.self.now.conflicts.now c.args.self.now.solver c.args.opening.now c.args.causes.now
    c.linear-order.ensures.kept c.requires.open c.args.aim.now c.requires.over c.requires.model c.in_ok-present.present.items
    c.as_slice-present.result.now c.as_slice-present.ensures.value c.in_ok-present.ensures.exact in
    a.known

pub core_within-requires-clause-inside : goal.core_within-requires-clause-inside
core_within-requires-clause-inside c =
    cause_present c.args.self.now.better.now c.args.self.now.conflicts.now c.args.self.now.solver c.args.opening.now c.args.causes.now
    c.linear-order.ensures.kept c.requires.open c.args.aim.now c.requires.over c.requires.model c.in_ok-present.present.items
    c.as_slice-present.result.now c.as_slice-present.ensures.value c.in_ok-present.ensures.exact
    c.in-WithCause.cause c.in-WithCause.is

pub core_within-requires-clause-satisfied : goal.core_within-requires-clause-satisfied
core_within-requires-clause-satisfied c =
    cause_satisfies c.args.self.now.better.now c.args.self.now.conflicts.now c.args.self.now.solver c.args.opening.now c.args.causes.now
    c.linear-order.ensures.kept c.requires.open c.args.aim.now c.requires.over c.requires.model c.in_ok-present.present.items
    c.as_slice-present.result.now c.as_slice-present.ensures.value c.in_ok-present.ensures.exact
    c.in-WithCause.cause c.in-WithCause.is

pub core_within-requires-in-WithoutFact-clause-ascending : goal.core_within-requires-in-WithoutFact-clause-ascending
core_within-requires-in-WithoutFact-clause-ascending c =
    let a = shown_present c.args.self.now.better.now c.args.self.now.conflicts.now c.args.self.now.solver c.args.opening.now c.args.causes.now
    c.linear-order.ensures.kept c.requires.open c.args.aim.now c.requires.over c.requires.model c.in_ok-present.present.items
    c.as_slice-present.result.now c.as_slice-present.ensures.value c.in_ok-present.ensures.exact in
    a.ascending

pub core_within-requires-in-WithoutFact-clause-present_known : goal.core_within-requires-in-WithoutFact-clause-present_known
core_within-requires-in-WithoutFact-clause-present_known c =
    let a = shown_present c.args.self.now.better.now c.args.self.now.conflicts.now c.args.self.now.solver c.args.opening.now c.args.causes.now
    c.linear-order.ensures.kept c.requires.open c.args.aim.now c.requires.over c.requires.model c.in_ok-present.present.items
    c.as_slice-present.result.now c.as_slice-present.ensures.value c.in_ok-present.ensures.exact in
    a.known

pub core_within-requires-in-WithoutFact-clause-outside : goal.core_within-requires-in-WithoutFact-clause-outside
core_within-requires-in-WithoutFact-clause-outside c =
    fact_outside c.args.self.now.better.now c.args.self.now.conflicts.now c.args.self.now.solver c.args.opening.now c.args.causes.now
    c.linear-order.ensures.kept c.requires.open c.args.aim.now c.requires.over c.requires.model c.in_ok-present.present.items
    c.as_slice-present.result.now c.as_slice-present.ensures.value c.in_ok-present.ensures.exact
    c.in-WithoutFact.fact c.in-WithoutFact.is

pub core_within-requires-in-WithoutFact-clause-satisfied : goal.core_within-requires-in-WithoutFact-clause-satisfied
core_within-requires-in-WithoutFact-clause-satisfied c =
    fact_satisfies c.args.self.now.better.now c.args.self.now.conflicts.now c.args.self.now.solver c.args.opening.now c.args.causes.now
    c.linear-order.ensures.kept c.requires.open c.args.aim.now c.requires.over c.requires.model c.in_ok-present.present.items
    c.as_slice-present.result.now c.as_slice-present.ensures.value c.in_ok-present.ensures.exact
    c.in-WithoutFact.fact c.in-WithoutFact.is

pub core_without-requires-clause-ascending : goal.core_without-requires-clause-ascending
core_without-requires-clause-ascending c =
    let a = shown_present c.args.self.now.better.now c.args.self.now.conflicts.now c.args.self.now.solver c.args.opening.now c.args.causes.now
    c.linear-order.ensures.kept c.requires.open c.args.aim.now c.requires.over c.requires.model c.in_ok-present.present.items
    c.as_slice-present.result.now c.as_slice-present.ensures.value c.in_ok-present.ensures.exact in
    a.ascending

pub core_without-requires-clause-present_known : goal.core_without-requires-clause-present_known
core_without-requires-clause-present_known c =
    let a = shown_present c.args.self.now.better.now c.args.self.now.conflicts.now c.args.self.now.solver c.args.opening.now c.args.causes.now
    c.linear-order.ensures.kept c.requires.open c.args.aim.now c.requires.over c.requires.model c.in_ok-present.present.items
    c.as_slice-present.result.now c.as_slice-present.ensures.value c.in_ok-present.ensures.exact in
    a.known

pub core_without-requires-clause-none_whole : goal.core_without-requires-clause-none_whole
core_without-requires-clause-none_whole c =
    causes_not_whole c.args.self.now.better.now c.args.self.now.conflicts.now c.args.self.now.solver c.args.opening.now c.args.causes.now
    c.linear-order.ensures.kept c.requires.open c.args.aim.now c.requires.over c.requires.model c.in_ok-present.present.items
    c.as_slice-present.result.now c.as_slice-present.ensures.value c.in_ok-present.ensures.exact
    c.in-WithoutCauses.all c.in-WithoutCauses.is

pub core_without-requires-clause-satisfied : goal.core_without-requires-clause-satisfied
core_without-requires-clause-satisfied c =
    causes_satisfy c.args.self.now.better.now c.args.self.now.conflicts.now c.args.self.now.solver c.args.opening.now c.args.causes.now
    c.linear-order.ensures.kept c.requires.open c.args.aim.now c.requires.over c.requires.model c.in_ok-present.present.items
    c.as_slice-present.result.now c.as_slice-present.ensures.value c.in_ok-present.ensures.exact
    c.in-WithoutCauses.all c.in-WithoutCauses.is
