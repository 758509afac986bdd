-- A report is accepted, or broken at one line by one rule.
use Rattle.std.proofs.Common.{◌≡◌, ℕ, ◌↔◌, inl, inr, List, [], ◌∷◌, ◌++◌, map, Option, Some, None, sym, subst, ap, ◌∙◌}
use Rattle.std.specs.Prelude.{reverse}
use Rattle.std.proofs.lemmas.List.{append-nil, append_assoc, map-append}
use Rattle.cq_terms.specs.Knowledge.{Knowledge}
use Rattle.cq_terms.specs.Query.{Query}
use Rattle.report_text.specs.declared.line.Line.{Line}
use Rattle.report_rules.specs.declared.rule.Rule.{Rule}
use Rattle.report_rules.specs.declared.place.Place.TheVariants.{AtEnd}
use Rattle.report_rules.specs.Inputs.{Input, report_on}
use Rattle.report_rules.specs.Order.{place_of}
use Rattle.report_rules.specs.Accepted.{Right, AreRight, Accepts}
use Rattle.report_rules.specs.Broken.{Breaks, IsBrokenAt, IsAcceptedAfter, IsAccepted}
use Rattle.report_laws.proofs.ListLemmas.{reverse-cons}

module _ (input : Input) where
  pub right_unbroken : (before : List Line) (l : Line) (r : Rule) → Right input before l → Breaks input before l r → ⊥
  right_unbroken before l r w (inl (e, n)) = n (w.order, w.query_left)
  right_unbroken before l r w (inr (o, inl (e, n))) = n w.closed
  right_unbroken before l r w (inr (o, inr (c, inl (e, n)))) = n w.complete
  right_unbroken before l r w (inr (o, inr (c, inr (k, (e, n))))) = n w.own

  breaks_one : (before : List Line) (l : Line) (r s : Rule) → Breaks input before l r → Breaks input before l s → r ≡ s
  breaks_one before l r s (inl (e, n)) (inl (e', n')) = e ∙ sym e'
  breaks_one before l r s (inl (e, n)) (inr (o, x)) = absurd (n o)
  breaks_one before l r s (inr (o, x)) (inl (e', n')) = absurd (n' o)
  breaks_one before l r s (inr (o, inl (e, n))) (inr (o', inl (e', n'))) = e ∙ sym e'
  breaks_one before l r s (inr (o, inl (e, n))) (inr (o', inr (c, x))) = absurd (n c)
  breaks_one before l r s (inr (o, inr (c, x))) (inr (o', inl (e', n'))) = absurd (n' c)
  breaks_one before l r s (inr (o, inr (c, inl (e, n)))) (inr (o', inr (c', inl (e', n')))) = e ∙ sym e'
  breaks_one before l r s (inr (o, inr (c, inl (e, n)))) (inr (o', inr (c', inr (k, x)))) = absurd (n k)
  breaks_one before l r s (inr (o, inr (c, inr (k, x)))) (inr (o', inr (c', inl (e', n')))) = absurd (n' k)
  breaks_one before l r s (inr (o, inr (c, inr (k, (e, n))))) (inr (o', inr (c', inr (k', (e', n'))))) = e ∙ sym e'

  -- what is broken isn't accepted
  pub broken_not_accepted : (pieces : List (Option Line)) (before : List Line) (n : ℕ) (r : Rule) → IsBrokenAt input before pieces n r
      → IsAcceptedAfter input before pieces → ⊥
  broken_not_accepted [] before n r (ne, x, y) e = ne e
  broken_not_accepted (None ∷ rest) before n r b e = e
  broken_not_accepted (Some l ∷ rest) before n r (inl (b, x)) (w, ws) = right_unbroken before l r w b
  broken_not_accepted (Some l ∷ rest) before n r (inr (w', b)) (w, ws) = broken_not_accepted rest (l ∷ before) n r b ws

  -- it is broken at one line, by one rule
  pub broken_once : (pieces : List (Option Line)) (before : List Line) (n m : ℕ) (r s : Rule) → IsBrokenAt input before pieces n r
      → IsBrokenAt input before pieces m s → (n ≡ m) × (r ≡ s)
  broken_once [] before n m r s (ne, x, y) (ne', x', y') = (x ∙ sym x', y ∙ sym y')
  broken_once (None ∷ rest) before n m r s (x, y) (x', y') = (x ∙ sym x', y ∙ sym y')
  broken_once (Some l ∷ rest) before n m r s (inl (b, x)) (inl (b', x')) = (x ∙ sym x', breaks_one before l r s b b')
  broken_once (Some l ∷ rest) before n m r s (inl (b, x)) (inr (w, y)) = absurd (right_unbroken before l r w b)
  broken_once (Some l ∷ rest) before n m r s (inr (w, y)) (inl (b', x')) = absurd (right_unbroken before l s w b')
  broken_once (Some l ∷ rest) before n m r s (inr (w, y)) (inr (w', y')) = broken_once rest (l ∷ before) n m r s y y'

  pub moved : (l : Line) (rest before : List Line) → reverse (l ∷ rest) ++ before ≡ reverse rest ++ (l ∷ before)
  moved l rest before = ap (λ xs. xs ++ before) (reverse-cons l rest) ∙ append_assoc (reverse rest) (l ∷ []) before

  accepted_right : (lines before : List Line) → AreRight input before → IsAcceptedAfter input before (map Some lines)
      → AreRight input (reverse lines ++ before) × (place_of (reverse lines ++ before) ≡ AtEnd)
  accepted_right [] before w e = (w, e)
  accepted_right (l ∷ rest) before w (r, rs) = subst (λ xs. AreRight input xs × (place_of xs ≡ AtEnd)) (sym (moved l rest before))
      (accepted_right rest (l ∷ before) (r, w) rs)

  right_accepted : (lines before : List Line) → AreRight input (reverse lines ++ before) × (place_of (reverse lines ++ before) ≡ AtEnd)
      → AreRight input before × IsAcceptedAfter input before (map Some lines)
  right_accepted [] before (w, e) = (w, e)
  right_accepted (l ∷ rest) before w =
      let v = right_accepted rest (l ∷ before) (subst (λ xs. AreRight input xs × (place_of xs ≡ AtEnd)) (moved l rest before) w) in
      (v.0.1, (v.0.0, v.1))

  pub back : (l : Line) (b : List Line) (rest : List (Option Line)) → map Some (reverse (l ∷ b)) ++ rest ≡ map Some (reverse b) ++ (Some l ∷ rest)
  back l b rest = ap (λ xs. map Some xs ++ rest) (reverse-cons l b)
      ∙ (ap (λ xs. xs ++ rest) (map-append Some (reverse b) (l ∷ [])) ∙ append_assoc (map Some (reverse b)) (Some l ∷ []) rest)

  -- after right lines, what is found in the rest is found in the whole
  pub broken_from : (before : List Line) → AreRight input before → (rest : List (Option Line)) (n : ℕ) (r : Rule) → IsBrokenAt input before rest n r
      → IsBrokenAt input [] (map Some (reverse before) ++ rest) n r
  broken_from [] w rest n r b = b
  broken_from (l ∷ before) (w, ws) rest n r b = subst (λ xs. IsBrokenAt input [] xs n r) (sym (back l before rest))
      (broken_from before ws (Some l ∷ rest) n r (inr (w, b)))

  -- and so is acceptance
  pub accepted_from : (before : List Line) → AreRight input before → (rest : List (Option Line)) → IsAcceptedAfter input before rest
      → IsAcceptedAfter input [] (map Some (reverse before) ++ rest)
  accepted_from [] w rest a = a
  accepted_from (l ∷ before) (w, ws) rest a = subst (IsAcceptedAfter input []) (sym (back l before rest)) (accepted_from before ws (Some l ∷ rest) (w, a))

-- the pieces of lines are accepted exactly where the lines are
pub accepted_pieces : (kb : Knowledge) (names : List (List ℕ)) (q : Query) (lines : List Line) → IsAccepted kb names q (map Some lines)
    ↔ Accepts kb names q lines
accepted_pieces kb names q lines = (
  (λ w. let v = subst (λ xs. AreRight (report_on kb names q) xs × (place_of xs ≡ AtEnd)) (append-nil (reverse lines))
      (accepted_right (report_on kb names q) lines [] tt w) in record { right = v.0; ended = v.1 }),
  (λ w. (right_accepted (report_on kb names q) lines [] (subst (λ xs. AreRight (report_on kb names q) xs × (place_of xs ≡ AtEnd))
      (sym (append-nil (reverse lines))) (w.right, w.ended))).1),
)
