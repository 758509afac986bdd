use Rattle.std.proofs.Common.{refl}
use Rattle.std.proofs.lemmas.Bool.{false≢true}
use Rattle.plain_finding.proofs.CoreLemmas.{free_from_apart}
use Rattle.plain_finding.proofs.EasyLemmas.{direct_apart, direct_told}
use Rattle.plain_finding.proofs.direct.has_direct_core.Goals as goal

pub returns-then-not-are_free : goal.returns-then-not-are_free
returns-then-not-are_free c = record {
  exact = λ kb mode of pr. (
    (λ t. absurd (false≢true t)),
    (λ d. absurd (false≢true (c.if-not-are_free.ensures.exact.1
        (direct_apart kb mode c.args.better.now pr c.args.conflicts.now c.requires.over c.args.facts.now d)))),
  );
}

pub direct-requires-clause-free : goal.direct-requires-clause-free
direct-requires-clause-free c = free_from_apart c.args.better.now c.args.conflicts.now c.requires.over c.args.facts.now
    (c.if-not-are_free.ensures.exact.0 refl)

pub returns : goal.returns
returns c = record {
  exact = λ kb mode of pr. rw c.is_some.ensures
      (direct_told kb mode c.args.better.now pr c.args.facts.now c.in_ok-core.core c.in_ok-core.ensures.found c.in_ok-core.ensures.none);
}
