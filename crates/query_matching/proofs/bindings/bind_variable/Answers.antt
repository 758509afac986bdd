use Rattle.std.proofs.Common.{sym, subst, List}
use Rattle.query_matching.specs.declared.bindings.Binding.{Binding}
use Rattle.query_matching.specs.Bindings.{IsBound}
use Rattle.query_matching.proofs.BindingLemmas.{binds_variable}
use Rattle.query_matching.proofs.bindings.bind_variable.Goals as goal

pub returns : goal.returns
returns c =
    rw c.in_ok-push.ensures.items (record {
      exact = binds_variable c.args.bindings.now.items c.args.variable c.args.individual c.requires.consistent
          (λ b. c.in_default.ensures.none (subst (λ (xs : List Binding). IsBound xs c.args.variable) (sym c.deref.ensures.value) b));
    })
