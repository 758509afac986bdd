use Rattle.std.proofs.lemmas.Bool.{false≢true}
use Rattle.plain_finding.proofs.CoreLemmas.{apart_told}
use Rattle.plain_finding.proofs.cores.is_apart.Goals as goal

pub returns-then-not-is_own : goal.returns-then-not-is_own
returns-then-not-is_own c =
    let told = apart_told c.args.conflicts.now.clashes c.args.kept.now c.args.fact c.of.result.now c.of.ensures.exact
    (λ o. false≢true (c.if-not-is_own.ensures.exact.1 o)) in
    record { exact = ((λ t. told.0 (c.has_none.ensures.exact.0 t)), (λ w. c.has_none.ensures.exact.1 (told.1 w))) }
