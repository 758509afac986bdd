use Rattle.std.proofs.Common.{◌↔◌, ◌<◌, All, IsTrue, ap, subst, sym, arith, length, true, false}
use Rattle.query_matching.specs.Bindings.{HeadIs, Binds}
use Rattle.cq_meaning.specs.Entailment.{HasImage}
use Rattle.plain_match.specs.Endings.{HasEnding, NoVariable}
use Rattle.query_matching.proofs.BindingLemmas.{ok_then}
use Rattle.query_matching.proofs.WholeQuery.{nothing_bound}
use Rattle.plain_match.proofs.ExactlyLemmas.{image_named, image_short, no_head, ending_is_image, image_has_ending}
use Rattle.plain_match.proofs.exactly.matches_with.Goals.{then-image-body-via-then-image-body, then-image-body-via-else-image-body+then-not-are_fact_numbers}
use Rattle.plain_match.proofs.exactly.matches_with.Goals as goal

pub returns-then-image-body : goal.returns-then-image-body
returns-then-image-body c =
    let a = c.args in
    record {
      exact = (
        (λ h. cc h),
        (λ h. absurd (elim c.then-image-body.branch [
          | then-image-body-via-then-image-body w ↦
              let short = image_short a.facts.now a.query.now a.tuple.now a.image.now c.len-count.ensures.distinct h in
              omega (arith, short, w.if-image-body.true, ap length c.body.ensures.lent)
          | then-image-body-via-else-image-body+then-not-are_fact_numbers w ↦
              let is = w.are_fact_numbers.ensures.exact.1 (
                h.ascending,
                subst (λ n. All (λ i. i < n) a.image.now) (sym c.len-count.ensures.exact)
                    (image_named a.facts.now a.query.now a.tuple.now a.image.now h),
              ) in
              cc (is, w.if-not-are_fact_numbers.true)
        ])),
      );
    }

pub bind_head-requires : goal.bind_head-requires
bind_head-requires c = record { consistent = nothing_bound c.new-walk.result.bindings.items c.new-walk.ensures.bindings }

pub returns-then-not-branch : goal.returns-then-not-branch
returns-then-not-branch c =
    let a = c.args in
    let binds : Binds (λ v. HeadIs v c.head.result.now a.tuple.now) NoVariable c.new-walk.result.bindings.items c.bind_head.new.bindings.items false =
    rw c.if-not-branch.true at c.in_ok-bind_head.ensures.exact in
    record {
      exact = (
        (λ h. cc h),
        (λ h. absurd (no_head a.facts.now a.query.now a.tuple.now a.image.now c.len-count.ensures.distinct c.head.result.now
            c.body.result.now c.new-walk.result.bindings.items c.bind_head.new.bindings.items c.new-walk.result.path.items c.head.ensures.lent
            c.body.ensures.lent
            c.new-walk.ensures.bindings c.new-walk.ensures.path binds h)),
      );
    }

pub returns : goal.returns
returns c =
    let a = c.args in
    let binds : Binds (λ v. HeadIs v c.head.result.now a.tuple.now) NoVariable c.new-walk.result.bindings.items c.bind_head.new.bindings.items true =
    rw c.if-not-branch.false at c.in_ok-bind_head.ensures.exact in
    record {
      exact = ok_then c.has_ending.result (λ found. IsTrue found ↔ HasEnding a.facts.now a.image.now c.body-2.result.now c.bind_head.new.bindings.items
          c.new-walk.result.path.items) (λ found. IsTrue found ↔ HasImage a.facts.now a.query.now a.tuple.now a.image.now)
          (λ found is. (
            (λ h. ending_is_image a.facts.now a.query.now a.tuple.now a.image.now c.len-count.ensures.distinct c.head.result.now c.body-2.result.now
                c.new-walk.result.bindings.items c.bind_head.new.bindings.items c.new-walk.result.path.items c.head.ensures.lent c.body-2.ensures.lent
                c.new-walk.ensures.bindings c.new-walk.ensures.path binds (is.0 h)),
            (λ h. is.1 (image_has_ending a.facts.now a.query.now a.tuple.now a.image.now c.len-count.ensures.distinct c.head.result.now c.body-2.result.now
                c.new-walk.result.bindings.items c.bind_head.new.bindings.items c.new-walk.result.path.items c.head.ensures.lent c.body-2.ensures.lent
                c.new-walk.ensures.bindings c.new-walk.ensures.path binds h)),
          ))
          c.has_ending.ensures.exact;
    }
