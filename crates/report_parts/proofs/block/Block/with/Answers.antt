use Rattle.std.proofs.Common.{◌≡◌, ◌↔◌, ◌⊎◌, ℕ, List, sym, subst, Contains}
use Rattle.cq_terms.specs.Query.{Query}
use Rattle.report_parts.specs.Blocks.{AreCodesOf}
use Rattle.report_parts.proofs.CodeLemmas.{codes_more}
use Rattle.report_parts.proofs.block.Block.with.Goals as goal

pub invariant_of-result : goal.invariant_of-result
invariant_of-result c =
    subst (λ (ms : List Query). AreCodesOf ms c.add.new.self) (sym c.in_ok-push.ensures.items)
    (codes_more c.self.inside.members.items c.args.query c.self.inside.codes c.add.new.self c.self.invariant
    (λ (d : List ℕ). subst (λ (k : List ℕ). Contains c.add.new.self d ↔ ((d ≡ k) ⊎ Contains c.self.inside.codes d)) c.in_ok-code_of.ensures
    (c.in_ok-add.ensures.exact d)))
