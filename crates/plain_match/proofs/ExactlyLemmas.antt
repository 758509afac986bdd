-- What the search within an image finds is a match with the tuple and the image, where the head is bound to the tuple.
use Rattle.std.proofs.Common.{◌≡◌, ℕ, ◌<◌, ◌≤◌, List, [], length, get_or, All, true, false, sym, refl, subst, arith}
use Rattle.std.proofs.lemmas.Option.{slice_get_within}
use Rattle.std.proofs.lemmas.List.Elements.{Contains-get_or}
use Rattle.cq_terms.specs.declared.facts.Fact.{Fact}
use Rattle.cq_terms.specs.declared.query.Term.{Term}
use Rattle.cq_terms.specs.declared.query.QAtom.{QAtom}
use Rattle.cq_terms.specs.Knowledge.{AreDistinct}
use Rattle.cq_terms.specs.Query.{Query}
use Rattle.cq_meaning.specs.Entailment.{HasImage}
use Rattle.query_matching.specs.declared.bindings.Binding.{Binding}
use Rattle.query_matching.specs.Bindings.{HeadIs, Binds}
use Rattle.query_matching.specs.Extensions.{NumberFits}
use Rattle.plain_match.specs.Endings.{HasEnding, NoVariable}
use Rattle.query_matching.proofs.Ascending.{no_longer}
use Rattle.plain_match.proofs.HeadLemmas.{AllZip-length}
use Rattle.query_matching.proofs.Images.{hit_of_row, row_of_hit}
use Rattle.query_matching.proofs.WholeQuery.{nothing_agrees}

module _ (facts : List Fact) (q : Query) (tuple image : List ℕ) where
  -- the numbers of an image are those of facts
  pub image_named : HasImage facts q tuple image → All (λ n. n < length facts) image
  image_named h k d lt =
      let f = (h.match.2 (get_or image k d)).0 (Contains-get_or image k d lt) in
      slice_get_within facts (get_or image k d) f.0 f.2

  module _ (distinct : AreDistinct facts) where
    -- an image is no longer than the body
    pub image_short : HasImage facts q tuple image → length image ≤ length q.body
    image_short h =
        let row = row_of_hit facts distinct q (record { tuple = tuple; image = image }) h in
        let within = no_longer (λ i j. i < j) (λ i less. omega (arith, less)) image row.0 h.ascending (λ i there. (row.1.image.same i).0 there) in
        let same = AllZip-length (NumberFits facts row.1.valuation) q.body row.0 row.1.fits in
        omega (arith, within, same)

    module _ (head : List Term) (body : List QAtom) (old new : List Binding) (path : List ℕ) (head_is : head ≡ q.head) (body_is : body ≡ q.body)
        (none : old ≡ []) (no_path : path ≡ []) where
      -- a head that can't be the tuple has no match
      pub no_head : Binds (λ v. HeadIs v head tuple) NoVariable old new false → HasImage facts q tuple image → ⊥
      no_head binds h =
          let row = row_of_hit facts distinct q (record { tuple = tuple; image = image }) h in
          let v = row.1.valuation in
          binds.never refl v (nothing_agrees old none v) (subst (λ (xs : List Term). HeadIs v xs tuple) (sym head_is) row.1.tuple)

      pub ending_is_image : Binds (λ v. HeadIs v head tuple) NoVariable old new true → HasEnding facts image body new path → HasImage facts q tuple image
      ending_is_image binds h =
          let end : HasEnding facts image q.body new [] = subst (λ (xs : List ℕ). HasEnding facts image q.body new xs) no_path
          (subst (λ (xs : List QAtom). HasEnding facts image xs new path) body_is h) in
          let v = end.1.valuation in
          let tuple_is : HeadIs v q.head tuple = subst (λ (xs : List Term). HeadIs v xs tuple) head_is ((binds.exact refl v).0 end.1.agrees).1 in
          hit_of_row facts distinct q (record { tuple = tuple; image = image })
          (end.0, record { valuation = v; agrees = nothing_agrees [] refl v; fits = end.1.fits; tuple = tuple_is; image = end.1.image })

      pub image_has_ending : Binds (λ v. HeadIs v head tuple) NoVariable old new true → HasImage facts q tuple image → HasEnding facts image body new path
      image_has_ending binds h =
          let row = row_of_hit facts distinct q (record { tuple = tuple; image = image }) h in
          let v = row.1.valuation in
          let agrees = (binds.exact refl v).1 (nothing_agrees old none v, subst (λ (xs : List Term). HeadIs v xs tuple) (sym head_is) row.1.tuple) in
          let end : HasEnding facts image q.body new [] = (
            row.0,
            record {
              valuation = v;
              agrees = agrees;
              fits = row.1.fits;
              tuple = tt;
              image =
                  row.1.image;
            },
          ) in
          subst (λ (xs : List QAtom). HasEnding facts image xs new path) (sym body_is)
          (subst (λ (xs : List ℕ). HasEnding facts image q.body new xs) (sym no_path) end)
