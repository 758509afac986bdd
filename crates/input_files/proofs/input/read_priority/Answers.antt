use Rattle.std.proofs.Common.{Some, refl}
use Rattle.input_files.proofs.StopLemmas.{IfOk-of}
use Rattle.input_files.proofs.input.read_priority.Goals as goal

pub returns-in-Some-clause-exact : goal.returns-in-Some-clause-exact
returns-in-Some-clause-exact g c =
    rw c.in-Some.is (IfOk-of _ _ c.read_pairs.result c.read_pairs.ensures.exact (λ pairs e. (Some e.0, (e.0, e.1, refl), e.2)))
