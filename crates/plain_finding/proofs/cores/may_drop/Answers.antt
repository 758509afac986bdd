use Rattle.std.proofs.Common.{inl, inr}
use Rattle.std.proofs.lemmas.Bool.{false≢true}
use Rattle.plain_finding.proofs.CoreLemmas.{own_of, blocked_told}
use Rattle.plain_finding.proofs.cores.may_drop.Goals as goal

pub returns-else-is_own : goal.returns-else-is_own
returns-else-is_own c =
    let told = blocked_told c.args.better.now c.args.conflicts.now c.requires.over c.args.kept.now c.blockers.result.now c.args.fact
    c.blockers.ensures.exact in
    record {
      exact = (
        (λ t. inr (told.0 (c.has_one.ensures.exact.0 t))),
        elim [
          | inl o ↦ absurd (false≢true (c.if-is_own.ensures.exact.1 (own_of c.args.better.now c.args.conflicts.now c.requires.over c.args.fact o)))
          | inr w ↦ c.has_one.ensures.exact.1 (told.1 w)
        ],
      );
    }
