-- An inside that is UTF-8 is either not closed or no fault of its own.
use Rattle.std.proofs.Common.{inl, inr, refl, subst, arith}
use Rattle.query_reader.specs.Faults.{HasInside, in_constant}
use Rattle.query_reader.proofs.InsideLemmas.{no_end_inside, no_break_inside}
use Rattle.query_reader.proofs.RunLemmas.{empty_is, some_are}
use Rattle.query_reader.proofs.constant.left_inside.Goals as goal

pub returns-in-Ok : goal.returns-in-Ok
returns-in-Ok c = record {
  exact = λ place may. inl (
    in_constant may _ (subst (HasInside _ _) (empty_is _ c.if-is_empty.ensures) c.split_inside.ensures.exact) c.in-Ok.ensures.cases.1,
    refl,
  );
}

pub returns-in-Ok-2 : goal.returns-in-Ok-2
returns-in-Ok-2 c = record {
  exact = λ place may. inr (inr (
    no_end_inside _ _ _ c.split_inside.ensures.exact place (some_are _ c.if-is_empty.ensures),
    no_break_inside place _ _ _ c.split_inside.ensures.exact c.in-Ok-2.ensures.cases.1,
    omega arith,
  ));
}
