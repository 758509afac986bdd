use Rattle.std.proofs.Common.{◌≡◌, ℕ, ◌∷◌, [], ◌++◌, List, take, get_or, Some, slice_get, string_bytes, sym, subst, ap, ◌∙◌}
use Rattle.std.specs.List.{AllZip}
use Rattle.std.proofs.lemmas.List.{take_more}
use Rattle.std.proofs.lemmas.Slice.Zip.{all_zipped_more}
use Rattle.classifier.proofs.whole.names_of.Goals as goal

pub loop-individual-preserved : goal.loop-individual-preserved
loop-individual-preserved c =
    let i = c.loop-individual.individual-index in
    let tuple = c.args.tuple.now in
    let P : ℕ → List ℕ → Type 0 = λ n text. slice_get c.args.individuals.now n ≡ Some text in
    let text = string_bytes c.in_ok-from_str.field-0 in
    subst (λ (ns : List ℕ). AllZip P ns c.push.new.self) (sym (take_more tuple i 0 c.loop-individual-test.true))
    (subst (AllZip P (take i tuple ++ get_or tuple i 0 ∷ [])) (sym c.in_ok-push.ensures.exact)
    (all_zipped_more P (take i tuple) c.loop-individual.names (get_or tuple i 0) text c.loop-individual.invariant
    (c.text.ensures.lent ∙ ap (λ (t : List ℕ). Some t) (sym c.in_ok-from_str.ensures.ok))))
