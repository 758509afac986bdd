use Rattle.cq_terms.specs.declared.facts.Fact.TheVariants as fact
use Rattle.cq_terms.specs.declared.query.QAtom.TheVariants as atom
use Rattle.cq_terms.specs.Query.{StandsIn}
use Rattle.query_matching.specs.Bindings.{TermIs, AtomIs, IsVar, Binds}
use Rattle.query_matching.proofs.BindingLemmas.{binds_both, ok_then}
use Rattle.query_matching.proofs.bindings.bind_atom.Goals as goal

pub returns-else-not-branch : goal.returns-else-not-branch
returns-else-not-branch c =
    let s = c.in-Link-Link in
    let old = c.args.bindings.now.items in
    let mid = c.bind_term-in-Link-Link.new.bindings.items in
    let new = c.bind_term-in-Link-Link-2.new.bindings.items in
    let left = rw c.if-not-branch.false at c.in_ok-bind_term-in-Link-Link.ensures.exact in
    rw (s.is-0, s.is-1) (record {
      exact = ok_then c.bind_term-in-Link-Link-2.result (Binds (λ v. TermIs v s.to s.second) (IsVar s.to) mid new)
          (Binds (λ v. AtomIs v (atom.Link s.pred s.from s.to) (fact.Link s.of s.first s.second)) (λ l. StandsIn l (atom.Link s.pred s.from s.to)) old new)
          (λ fits right.
          binds_both (λ v. TermIs v s.from s.first) (λ v. TermIs v s.to s.second)
          (λ v. AtomIs v (atom.Link s.pred s.from s.to) (fact.Link s.of s.first s.second)) (IsVar s.from) (IsVar s.to)
          (λ l. StandsIn l (atom.Link s.pred s.from s.to)) old mid new fits
          (λ v h. (h.1, h.2)) (λ v p q. (c.if-pred-of-2.true, p, q)) (λ l h. h) left right)
          c.bind_term-in-Link-Link-2.ensures.exact;
    })
