-- When the blocks are over and closed.
use Rattle.std.proofs.Common.{◌⊎◌, inl, inr, ℕ, List, sym, subst}
use Rattle.cq_terms.specs.declared.axioms.Axiom.{Axiom}
use Rattle.cq_terms.specs.Knowledge.{Knowledge}
use Rattle.cq_terms.specs.Query.{Query}
use Rattle.report_text.specs.declared.line.Line.{Line}
use Rattle.report_text.specs.declared.line.Line.TheVariants as line
use Rattle.report_text.specs.declared.line.Origin.{Origin}
use Rattle.report_rules.specs.declared.place.Place.{Place}
use Rattle.report_rules.specs.Inputs.{report_on, OneQuery}
use Rattle.report_rules.specs.Order.{MayCome, IsBetweenAnswers, AreBlocksOver, place_of}
use Rattle.report_rules.specs.Told.{block_of}
use Rattle.report_rules.specs.Blocks.{IsClosedBlock, IsOfBlock, LeavesClosed}
use Rattle.report_laws.specs.HitLaws.{OverAndClosed}
use Rattle.refutation_confirmer.specs.Kinds.{IsBehindBlocks, IsBegun}
use Rattle.refutation_confirmer.proofs.OrderRules.{between}

-- an answer that has not begun begins only where the blocks are over
not_begun : (axioms : List Axiom) (p : Place) → (IsBegun p → ⊥) → IsBetweenAnswers OneQuery axioms p → AreBlocksOver OneQuery axioms p
not_begun axioms p n h = (between axioms p (λ e. n (subst IsBegun (sym e) tt))).1 h

over_at : (axioms : List Axiom) (p : Place) (l : Line) → MayCome OneQuery axioms p l → IsBehindBlocks l → (IsBegun p → ⊥) → AreBlocksOver OneQuery axioms p
over_at axioms p (line.Conflict facts rule member) m k n = m
over_at axioms p (line.Forget clauses) m k n = not_begun axioms p n m
over_at axioms p (line.Ask candidate tuple causes members) (inl e) k n = absurd (n (subst IsBegun (sym e) tt))
over_at axioms p (line.Ask candidate tuple causes members) (inr m) k n = not_begun axioms p n m
over_at axioms p (line.End answers brave ar iar undecided) m k n = not_begun axioms p n m
over_at axioms p (line.Head axioms' budget facts keep repairs version) m k n = absurd k
over_at axioms p (line.Cq o query step) m k n = absurd k
over_at axioms p (line.Try question assume) m k n = absurd k
over_at axioms p (line.Learn number clause) m k n = absurd k
over_at axioms p (line.Core number kept dropped) m k n = absurd k
over_at axioms p (line.Done how core) m k n = absurd k
over_at axioms p (line.Answer brave ar iar cores names tuple) m k n = absurd k

no_block_line : (o : Origin) (l : Line) → IsBehindBlocks l → IsOfBlock o l → ⊥
no_block_line o (line.Conflict facts rule member) k h = h
no_block_line o (line.Forget clauses) k h = h
no_block_line o (line.Ask candidate tuple causes members) k h = h
no_block_line o (line.End answers brave ar iar undecided) k h = h
no_block_line o (line.Head axioms budget facts keep repairs version) k h = k
no_block_line o (line.Cq o' query step) k h = k
no_block_line o (line.Try question assume) k h = k
no_block_line o (line.Learn number clause) k h = k
no_block_line o (line.Core number kept dropped) k h = k
no_block_line o (line.Done how core) k h = k
no_block_line o (line.Answer brave ar iar cores names tuple) k h = k

-- where a line behind the blocks is in order and leaves none open, the blocks are over and the last is closed
pub over_closed : (kb : Knowledge) (names : List (List ℕ)) (q : Query) (b : List Line) (l : Line) → MayCome OneQuery kb.axioms (place_of b) l
    → LeavesClosed (report_on kb names q) b l → IsBehindBlocks l → (IsBegun (place_of b) → ⊥) → OverAndClosed (report_on kb names q) b
over_closed kb names q b l may closed k n = record {
  over = over_at kb.axioms (place_of b) l may k n;
  closed = λ o e. by o (closed o e);
}
  where
    by : (o : Origin) → IsOfBlock o l ⊎ IsClosedBlock kb.axioms (block_of o b) → IsClosedBlock kb.axioms (block_of o b)
    by o (inl h) = absurd (no_block_line o l k h)
    by o (inr c) = c
