use Rattle.std.proofs.Common.{◌≡◌, ◌↔◌, ℕ, List, Contains, sym, subst, ap}
use Rattle.rup_check.specs.State.{Numbered, LiveIn}
use Rattle.plain_finding.specs.Kept.{Kept}
use Rattle.plain_finding.proofs.KeptLemmas.{refutes_told}
use Rattle.plain_finding.proofs.clauses.Clauses.refutes.Goals as goal

pub returns-clause-exact : goal.returns-clause-exact
returns-clause-exact c =
    let same : c.self.inside.checker.live ≡ c.args.self.now.live = ap (λ (k : Kept). k.live) c.self.view_is in
    λ live has. refutes_told c.self.inside.checker.live live c.args.assume.now c.refutes.result
    (subst (λ (l : List Numbered). (x : List ℕ) → Contains live x ↔ LiveIn l x) (sym same) has) c.refutes.ensures.exact
