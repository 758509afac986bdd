use Rattle.std.proofs.Common.{arith, ◌<◌, map, length, slice_set, refl}
use Rattle.std.proofs.lemmas.Option.{slice_get-get_or}
use Rattle.cq_meaning.specs.NormalForm.{map_atom, without}
use Rattle.cq_steps.specs.Unifying.{term_under}
use Rattle.cq_steps.proofs.ReduceSafe.{reduce_step_is_safe, Unifies-from}
use Rattle.cq_steps.proofs.Without.{without-map}
use Rattle.cq_steps.proofs.reduce_step.reduce.Goals as goal

pub normal_of-requires : goal.normal_of-requires
normal_of-requires c =
    let step = rw c.body-atoms.ensures.lent at c.in-Some.ensures in
    let f = term_under c.in-Some.unified in
    record {
      safe = rw (
        c.in_ok-head.ensures,
        c.head.ensures.lent,
        c.deref.ensures.value,
        c.with_one_for_two-body.ensures,
        c.in_ok-under.ensures,
        c.body-atoms.ensures.lent,
        without-map (map_atom f) c.args.query.now.body c.args.second,
      )
          (reduce_step_is_safe c.args.query.now c.args.first c.args.second _ f c.in-Some.unified.atom c.requires.order c.requires.place
          (Unifies-from _ _ _ _ step) c.body-atoms.ensures.safe);
    }

pub returns : goal.returns
returns c =
    let step = rw c.body-atoms.ensures.lent at c.in-Some.ensures in
    let f = term_under c.in-Some.unified in
    let first_in : c.args.first < length c.args.query.now.body = omega (arith, c.requires.order, c.requires.place) in
    record {
      exact = (
        record {
          head = map f c.args.query.now.head;
          body = slice_set (map (map_atom f) (without c.args.query.now.body c.args.second)) c.args.first
              c.in-Some.unified.atom;
        },
        (
          _,
          _,
          f,
          c.in-Some.unified.atom,
          c.requires.order,
          slice_get-get_or c.args.query.now.body c.args.first _ first_in,
          slice_get-get_or c.args.query.now.body c.args.second _ c.requires.place,
          step,
          refl,
        ),
        rw (
          c.in_ok-head.ensures,
          c.head.ensures.lent,
          c.deref.ensures.value,
          c.with_one_for_two-body.ensures,
          c.in_ok-under.ensures,
          c.body-atoms.ensures.lent,
          without-map (map_atom f) c.args.query.now.body c.args.second,
        )
            at c.in_ok-made.ensures.exact,
      );
    }
