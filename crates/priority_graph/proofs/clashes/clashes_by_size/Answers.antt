use Rattle.std.proofs.Common.{◌≡◌, ◌∙◌, ◌++◌, ◌∷◌, ◌+◌, [], ℕ, List, ap, sym, take}
use Rattle.std.specs.List.{cons_option}
use Rattle.std.proofs.lemmas.List.{take_more}
use Rattle.std.proofs.lemmas.List.Elements.{filter_map-append}
use Rattle.cq_terms.specs.declared.hits.Clash.{Clash}
use Rattle.cq_terms.specs.Conflicts.{couple, couples, own_facts, single}
use Rattle.priority_graph.proofs.clashes.clashes_by_size.Goals as goal

pub loop-clash-preserved : goal.loop-clash-preserved
loop-clash-preserved c =
    let done : List Clash = take c.loop-clash.clash-index c.args.clashes.now in
    let next : take (c.loop-clash.clash-index + 1) c.args.clashes.now ≡ done ++ c.clash-item.result ∷ [] =
    take_more c.args.clashes.now c.loop-clash.clash-index c.clash-item.result c.loop-clash-test.true
    ∙ ap (λ (d : Clash). done ++ d ∷ []) (sym c.clash-item.is) in
    record {
      own = c.in_ok-take.ensures.own
          ∙ ap (λ (xs : List ℕ). xs ++ cons_option (single c.as_slice.result.now) []) c.loop-clash.invariant.own
          ∙ ap (λ (xs : List ℕ). own_facts done ++ cons_option (single xs) []) c.as_slice.ensures.lent
          ∙ sym (ap own_facts next ∙ filter_map-append (λ (x : Clash). single x.facts) done (c.clash-item.result ∷ []));
      couples = c.in_ok-take.ensures.couples
          ∙ ap (λ (xs : List (ℕ × ℕ)). xs ++ cons_option (couple c.as_slice.result.now) []) c.loop-clash.invariant.couples
          ∙ ap (λ (xs : List ℕ). couples done ++ cons_option (couple xs) []) c.as_slice.ensures.lent
          ∙ sym (ap couples next ∙ filter_map-append (λ (x : Clash). couple x.facts) done (c.clash-item.result ∷ []));
    }
