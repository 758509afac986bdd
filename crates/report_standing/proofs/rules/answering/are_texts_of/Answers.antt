use Rattle.std.proofs.Common.{◌≡◌, ◌<◌, ℕ, List, [], Some, get_or, map, length, ap, sym, ◌∙◌, arith, refl, Global}
use Rattle.std.specs.Prelude.{slice_get, string_bytes}
use Rattle.std.proofs.lemmas.Bool.{false≢true}
use Rattle.std.proofs.lemmas.List.{length-map}
use Rattle.repair_clauses.proofs.ListLemmas.{get_or-map_in}
use Rattle.report_parts.proofs.TestLemmas.{zip_all, zip_size, zip_at}
use Rattle.report_standing.proofs.rules.answering.are_texts_of.Goals as goal

pub returns-then-tuple-texts : goal.returns-then-tuple-texts
returns-then-tuple-texts c = record {
  exact = (
    (λ t. absurd (false≢true t)),
    (λ w. absurd (c.if-tuple-texts.true
        (zip_size (λ (x : ℕ) (text : List ℕ). slice_get c.args.individuals.now x ≡ Some text) c.args.tuple.now _ w
        ∙ length-map c.args.texts.now (string_bytes {Z = Global})))),
  );
}

pub returns-then-not-is_text_of : goal.returns-then-not-is_text_of
returns-then-not-is_text_of c =
    let k = c.loop-place.place in
    let inside : k < length c.args.texts.now = omega (arith, c.if-tuple-texts.false) in
    let text : get_or (map (string_bytes {Z = Global}) c.args.texts.now) k [] ≡ c.as_str.result.now =
    get_or-map_in (string_bytes {Z = Global}) c.args.texts.now k [] c.index-texts-place.result inside
    ∙ (ap (string_bytes {Z = Global}) (sym c.index-texts-place.is) ∙ sym c.as_str.ensures.value) in
    record {
      exact = (
        (λ t. absurd (false≢true t)),
        (λ w. absurd (false≢true (c.if-not-is_text_of.ensures.exact.1
            (zip_at (λ (x : ℕ) (text : List ℕ). slice_get c.args.individuals.now x ≡ Some text) c.args.tuple.now _ 0 [] w k c.loop-place-test.true
            ∙ ap Some text)))),
      );
    }

pub returns : goal.returns
returns c = record {
  exact = (
    (λ t. zip_all (λ (x : ℕ) (text : List ℕ). slice_get c.args.individuals.now x ≡ Some text) c.args.tuple.now _ 0 []
        (c.if-tuple-texts.false ∙ sym (length-map c.args.texts.now (string_bytes {Z = Global})))
        (λ k l. c.loop-place.invariant k (omega arith))),
    (λ w. refl),
  );
}
