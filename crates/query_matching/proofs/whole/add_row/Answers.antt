use Rattle.std.proofs.Common.{sym, subst, List, ℕ}
use Rattle.cq_terms.specs.Lists.{IsSorted}
use Rattle.query_matching.specs.declared.bindings.Binding.{Binding}
use Rattle.query_matching.specs.declared.row.Row.{Row}
use Rattle.query_matching.specs.Bindings.{Agrees}
use Rattle.query_matching.proofs.Recorded.{recorded_only, recorded_all}
use Rattle.query_matching.proofs.whole.add_row.Goals as goal

pub returns-clause-only : goal.returns-clause-only
returns-clause-only c = λ facts.
    let row : Row = record { tuple = c.in_ok-tuple.tuple; image = c.in_ok-image.image } in
    recorded_only facts c.args.head.now c.args.walk.now row c.requires.can
    (λ v agrees. c.in_ok-tuple.ensures.right v (subst (λ (xs : List Binding). Agrees xs v) (sym c.deref.ensures.value) agrees))
    (subst (λ (xs : List ℕ). IsSorted xs row.image) c.deref-2.ensures.value c.in_ok-image.ensures.exact) c.args.found.now.keys c.insert.new.self.keys
    c.in_ok-insert.ensures.keys

pub returns-clause-all : goal.returns-clause-all
returns-clause-all c = λ facts.
    let row : Row = record { tuple = c.in_ok-tuple.tuple; image = c.in_ok-image.image } in
    recorded_all facts c.args.head.now c.args.walk.now row c.requires.can
    (λ v agrees. c.in_ok-tuple.ensures.right v (subst (λ (xs : List Binding). Agrees xs v) (sym c.deref.ensures.value) agrees))
    (subst (λ (xs : List ℕ). IsSorted xs row.image) c.deref-2.ensures.value c.in_ok-image.ensures.exact) c.args.found.now.keys c.insert.new.self.keys
    c.in_ok-insert.ensures.keys
