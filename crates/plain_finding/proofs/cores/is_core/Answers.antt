use Rattle.std.proofs.Common.{refl, sym, ◌∙◌}
use Rattle.std.proofs.lemmas.Bool.{false≢true}
use Rattle.plain_finding.proofs.CoreLemmas.{apart_from_free, core_from, drops_from, may_drop_from}
use Rattle.plain_finding.proofs.cores.is_core.Goals as goal

pub returns-then-not-are_free : goal.returns-then-not-are_free
returns-then-not-are_free c = record {
  exact = (
    (λ t. absurd (false≢true t)),
    (λ w. absurd (false≢true (c.if-not-are_free.ensures.exact.1
        (apart_from_free c.args.better.now c.args.conflicts.now c.requires.over c.args.kept.now w.free)))),
  );
}

pub returns-then-drop_rivals : goal.returns-then-drop_rivals
returns-then-drop_rivals c = record {
  exact = (
    (λ t. core_from c.args.better.now c.args.conflicts.now c.requires.over c.args.kept.now c.args.dropped.now (c.if-not-are_free.ensures.exact.0 refl)
        (c.if-drop_rivals.ensures.exact.0 refl) (c.may_drop_all.ensures.exact.0 t)),
    (λ w. c.may_drop_all.ensures.exact.1 (may_drop_from c.args.better.now c.args.conflicts.now c.requires.over c.args.kept.now c.args.dropped.now w)),
  );
}

pub returns-else-drop_rivals : goal.returns-else-drop_rivals
returns-else-drop_rivals c = record {
  exact = (
    (λ t. absurd (false≢true (sym c.if-drop_rivals.false ∙ t))),
    (λ w. c.drop_rivals.ensures.exact.1 (drops_from c.args.better.now c.args.conflicts.now c.requires.over c.args.kept.now c.args.dropped.now w)),
  );
}
