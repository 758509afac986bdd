use Rattle.std.proofs.Common.{◌++◌, take, sym, ap, ◌∙◌, subst, arith, length-drop}
use Rattle.std.proofs.Math.Seq.{take-add}
use Rattle.std.proofs.lemmas.List.{take_rest}
use Rattle.std.specs.Io.KnownBytes.{Appends}
use Rattle.std.proofs.KnownBytes.{Appends-trans}
use Rattle.cq_io.proofs.std_sink.write_whole.Goals as goal

pub loop-count-preserved : goal.loop-count-preserved
loop-count-preserved g c =
    let bytes = c.args.bytes.now in
    let count = c.loop-count.count in
    let more = c.in-Ok.more in
    let joined = sym (take-add count more bytes ∙ ap (λ rest. take count bytes ++ take more rest) (sym (take_rest bytes count))) in (
      omega (arith, c.in-Ok.ensures.bound, length-drop count bytes),
      subst (Appends _ _) joined (Appends-trans _ _ _ _ _ c.loop-count.invariant.1 c.in-Ok.ensures.bytes),
    )
