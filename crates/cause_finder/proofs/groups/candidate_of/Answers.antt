use Rattle.std.proofs.Common.{◌∙◌, ℕ, [], ◌∷◌, ◌++◌, List, sym, subst, refl}
use Rattle.std.proofs.lemmas.List.{take_all}
use Rattle.cause_finder.specs.declared.support.Support.{Support}
use Rattle.cause_finder.specs.Groups.{IsFree, HasNoPart, ArePicked, ArePickedBy}
use Rattle.cause_finder.proofs.GroupLemmas.{picked_none, picked_next, picked_not, picked_all, mapped_next}
use Rattle.cause_finder.proofs.PartLemmas.{not_so}
use Rattle.cause_finder.proofs.SmallerLemmas.{narrowed_first}
use Rattle.cause_finder.proofs.groups.candidate_of.Goals as goal

pub loop-support-init : goal.loop-support-init
loop-support-init c = (
  [],
  picked_none (λ s. IsFree c.args.conflicts.now.clashes s.image × HasNoPart c.args.group.now s.image),
  c.new-causes.ensures,
  c.new-members.ensures,
)

pub is_cause-requires-clause-narrowed : goal.is_cause-requires-clause-narrowed
is_cause-requires-clause-narrowed c = narrowed_first c.args.group.now c.args.tuple.now c.requires.same c.requires.ordered c.requires.ascending

pub loop-support-preserved-then-not-is_cause : goal.loop-support-preserved-then-not-is_cause
loop-support-preserved-then-not-is_cause c =
    let (picked, are, causes, members) = c.loop-support.invariant in (
      picked,
      picked_not (λ s. IsFree c.args.conflicts.now.clashes s.image × HasNoPart c.args.group.now s.image) c.args.group.now picked c.loop-support.support-index
          c.support-item.result c.loop-support-test.true c.support-item.is are (
          λ h. not_so _ _ c.is_cause.ensures.exact c.if-not-is_cause.true
          (subst (λ (xs : List ℕ). IsFree c.args.conflicts.now.clashes xs × HasNoPart c.args.group.now xs) (sym c.as_slice-image.ensures.lent) h)
          ),
      causes,
      members,
    )

pub loop-support-preserved : goal.loop-support-preserved
loop-support-preserved c =
    let (picked, are, causes, members) = c.loop-support.invariant in
    let x = c.support-item.result in (
      picked ++ x ∷ [],
      picked_next (λ s. IsFree c.args.conflicts.now.clashes s.image × HasNoPart c.args.group.now s.image) c.args.group.now picked c.loop-support.support-index
          x c.loop-support-test.true c.support-item.is are c.requires.ordered (
          subst (λ (xs : List ℕ). IsFree c.args.conflicts.now.clashes xs × HasNoPart c.args.group.now xs) c.as_slice-image.ensures.lent
          (c.is_cause.ensures.exact.0 c.if-not-is_cause.false)
          ),
      mapped_next (λ s. s.image) picked x c.loop-support.causes c.push.new.self c.in_ok-from_slice.field-0 causes c.in_ok-push.ensures.exact
          (c.in_ok-from_slice.ensures.exact ∙ c.as_slice-image.ensures.lent),
      mapped_next (λ s. s.member) picked x c.loop-support.members c.push-in-loop-support.new.self x.member members c.in_ok-push-2.ensures.exact refl,
    )

pub returns-clause-exact : goal.returns-clause-exact
returns-clause-exact c =
    let (picked, are, causes, members) = c.loop-support.invariant in (
      picked,
      subst (λ (t : List ℕ). ArePicked c.args.conflicts.now.clashes c.args.group.now t picked) (sym c.in_ok-tuple.ensures.exact) (
          picked_all c.args.conflicts.now.clashes c.args.group.now c.args.tuple.now picked c.requires.same (
          subst (λ (xs : List Support). ArePickedBy (λ s. IsFree c.args.conflicts.now.clashes s.image × HasNoPart c.args.group.now s.image) xs picked)
          (take_all c.loop-support.support-index c.args.group.now c.loop-support-test.false) are
          )
          ),
      causes,
      members,
    )
