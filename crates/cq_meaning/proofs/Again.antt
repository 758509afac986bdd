-- The normal form of a normal form is itself.
use Rattle.std.proofs.Common.{◌≡◌, suc, List, length, subst, ap, ◌∙◌}
use Rattle.cq_terms.specs.declared.query.QAtom.{QAtom}
use Rattle.cq_terms.specs.Query.{Query}
use Rattle.cq_meaning.specs.NormalForm.{distinct_atoms, with_unbound_any, simplified, sorted, normal}
use Rattle.cq_meaning.proofs.Joined.{normal_counted}
use Rattle.cq_meaning.proofs.Settled.{round, stays, with_unbound_any_same, rounds_settle, settled_distinct}
use Rattle.cq_meaning.proofs.Apart.{AllApart, distinct_apart, apart_distinct, all_sorted, sorted_again}

pub normal_again : (q : Query) → normal (normal q) ≡ normal q
normal_again q =
    let r : Query = simplified (suc (length q.body)) q in
    let s : Query = normal q in
    let d : distinct_atoms r.body ≡ r.body = settled_distinct r (rounds_settle q) in
    let a : AllApart r.body = subst AllApart d (distinct_apart r.body) in
    let k : distinct_atoms s.body ≡ s.body = apart_distinct s.body (all_sorted r.body a) in
    let c : round s ≡ s = ap (λ (b : List QAtom). with_unbound_any (record { head = s.head; body = b })) k ∙ with_unbound_any_same s (normal_counted q) in
    let w : simplified (suc (length s.body)) s ≡ s = stays (suc (length s.body)) s c in
    ap (λ (p : Query). record { head = p.head; body = sorted p.body }) w ∙ ap (λ (b : List QAtom). record { head = s.head; body = b }) (sorted_again r.body a)
