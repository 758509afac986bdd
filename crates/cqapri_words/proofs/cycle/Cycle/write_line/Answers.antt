use Rattle.std.proofs.Common.{◌∷◌, [], ◌++◌}
use Rattle.cqapri_words.specs.Cycles.{facts_at, facts_text}
use Rattle.cqapri_words.proofs.CycleLemmas.{cycle_head, cycle_line-fields}
use Rattle.cqapri_words.proofs.PieceLemmas.{OnErr-of, OnErr-then, OnOk-then, part_of_more, written_then}
use Rattle.cqapri_words.proofs.cycle.Cycle.write_line.Goals as goal

pub returns-in_err-write_pieces-clause-part : goal.returns-in_err-write_pieces-clause-part
returns-in_err-write_pieces-clause-part g c =
    OnErr-of c.from_residual.result
    (part_of_more _ _ cycle_head (facts_text c.args.self.now.vocab c.args.self.now.facts ++ 10 ∷ []) c.in_err-write_pieces.ensures.part)

pub returns-in_err-write_facts-clause-part : goal.returns-in_err-write_facts-clause-part
returns-in_err-write_facts-clause-part g c =
    OnErr-then c.from_residual-in_err-write_facts.result _ (g.S.Sink.written c.write_pieces.new.sink) _ cycle_head
    (facts_text c.self.inside.vocab (facts_at c.facts.result.now c.as_slice.result.now) ++ 10 ∷ []) _
    (cycle_line-fields _ c.self.inside.vocab _ _ _ _ c.self.view_is c.facts.ensures.lent c.as_slice.ensures.lent) c.in_ok-write_pieces.ensures.exact
    (OnErr-of c.from_residual-in_err-write_facts.result (part_of_more _ _ _ (10 ∷ []) c.in_err-write_facts.ensures.part))

pub returns-clause-exact : goal.returns-clause-exact
returns-clause-exact g c =
    OnOk-then c.write_pieces-2.result (g.S.Sink.written c.args.sink.now) (g.S.Sink.written c.write_facts.new.sink) _
    (cycle_head ++ facts_text c.self.inside.vocab (facts_at c.facts.result.now c.as_slice.result.now)) (10 ∷ []) _
    (cycle_line-fields _ c.self.inside.vocab _ _ _ _ c.self.view_is c.facts.ensures.lent c.as_slice.ensures.lent)
    (written_then _ _ _ cycle_head _ c.in_ok-write_pieces.ensures.exact c.in_ok-write_facts.ensures.exact) c.write_pieces-2.ensures.exact

pub returns-clause-part : goal.returns-clause-part
returns-clause-part g c =
    OnErr-then c.write_pieces-2.result (g.S.Sink.written c.args.sink.now) (g.S.Sink.written c.write_facts.new.sink) _
    (cycle_head ++ facts_text c.self.inside.vocab (facts_at c.facts.result.now c.as_slice.result.now)) (10 ∷ []) _
    (cycle_line-fields _ c.self.inside.vocab _ _ _ _ c.self.view_is c.facts.ensures.lent c.as_slice.ensures.lent)
    (written_then _ _ _ cycle_head _ c.in_ok-write_pieces.ensures.exact c.in_ok-write_facts.ensures.exact) c.write_pieces-2.ensures.part
