use Rattle.std.proofs.Common.{◌++◌, ◌∷◌, []}
use Rattle.query_reader.proofs.InsideLemmas.{inside_more}
use Rattle.query_reader.proofs.constant.behind_inside.Goals as goal

pub loop-after-preserved : goal.loop-after-preserved
loop-after-preserved c =
    let byte = c.in-Some.ensures.found in
    (c.loop-after.invariant.0 ++ byte.0 ∷ [], inside_more _ _ _ c.loop-after.invariant.0 byte.0 c.loop-after.invariant.1 byte.1)
