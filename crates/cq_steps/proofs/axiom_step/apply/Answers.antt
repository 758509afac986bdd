use Rattle.std.proofs.Common.{slice_set, refl}
use Rattle.std.proofs.lemmas.Option.{slice_get-get_or}
use Rattle.cq_steps.proofs.StepSafe.{axiom_step_is_safe}
use Rattle.cq_steps.proofs.axiom_step.apply.Goals as goal

pub normal_of-requires : goal.normal_of-requires
normal_of-requires c =
    let step = rw c.body-atoms.ensures.lent at c.in-Some.ensures in
    record {
      safe = rw (c.in_ok-head.ensures.items, c.head.ensures.lent, c.deref.ensures.value, c.in_ok-body.ensures, c.body-atoms.ensures.lent)
          (axiom_step_is_safe c.args.rule.now c.args.query.now c.args.atom _ c.in-Some.new c.requires.place step c.body-atoms.ensures.safe);
    }

pub returns : goal.returns
returns c =
    let step = rw c.body-atoms.ensures.lent at c.in-Some.ensures in
    record {
      exact = (
        record { head = c.args.query.now.head; body = slice_set c.args.query.now.body c.args.atom c.in-Some.new },
        (_, c.in-Some.new, slice_get-get_or c.args.query.now.body c.args.atom _ c.requires.place, step, refl),
        rw (c.in_ok-head.ensures.items, c.head.ensures.lent, c.deref.ensures.value, c.in_ok-body.ensures, c.body-atoms.ensures.lent) at
            c.in_ok-made.ensures.exact,
      );
    }
