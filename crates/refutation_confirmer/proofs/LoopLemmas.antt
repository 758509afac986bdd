-- How far a report has been read.
use Rattle.std.proofs.Common.{◌≡◌, ℕ, suc, ◌+◌, ◌<◌, ◌≤◌, ◌^◌, inl, List, [], ◌∷◌}
use Rattle.std.proofs.Common.{◌++◌, length, map, Option, Some, refl, sym, subst, ap, ◌∙◌, arith, append-nil}
use Rattle.std.specs.Prelude.{reverse}
use Rattle.cq_terms.specs.Knowledge.{Knowledge}
use Rattle.cq_terms.specs.Query.{Query}
use Rattle.report_text.specs.declared.line.Line.{Line}
use Rattle.report_text.specs.Pieces.{pieces_of}
use Rattle.report_text.proofs.PieceFacts.{no_pieces}
use Rattle.report_rules.specs.declared.place.Place.TheVariants.{AtEnd}
use Rattle.report_rules.specs.declared.rule.Rule.{Rule}
use Rattle.report_rules.specs.declared.rule.Rule.TheVariants as rule
use Rattle.report_rules.specs.Inputs.{report_on}
use Rattle.report_rules.specs.Order.{place_of}
use Rattle.report_rules.specs.Accepted.{Right}
use Rattle.report_rules.specs.Broken.{Breaks, IsBrokenAt, IsAcceptedAfter, HasCycle}
use Rattle.report_laws.specs.Laws.{lines_of, tuples_of}
use Rattle.report_laws.specs.Standing.{Standing, standing_of}
use Rattle.report_laws.proofs.BreakingLemmas.{broken_from, accepted_from, back}
use Rattle.report_laws.proofs.ComparisonLemmas.{broken_tells, ended_tells, told}
use Rattle.report_laws.proofs.StandingLemmas.{all_counted}
use Rattle.report_lines.specs.Cutting.{IsBroken, BeginsWith}
use Rattle.refutation_confirmer.specs.Room.{HasRoom}
use Rattle.refutation_confirmer.proofs.RoomLemmas.{has_room, within_lines}
use Rattle.refutation_confirmer.specs.State.{State, Fits, TellsNow}
use Rattle.refutation_confirmer.specs.Reading.{ReadSo, ReadingTells}
use Rattle.refutation_confirmer.specs.Saying.{IsYes, IsNo, TellsRoundly}

-- over plain numbers
few_more : (n r m l : ℕ) → n + r ≤ l + 1 → m < r → (n + 1) + m ≤ l + 1
few_more n r m l a b = omega arith

one_more : (n k : ℕ) → n ≡ suc k → n + 1 ≡ suc (suc k)
one_more n k e = omega arith

below_all : (n r k l : ℕ) → n ≡ suc k → n + r ≤ l + 1 → 0 < r → l < 2 ^ 63 → k + 1 < 2 ^ 64
below_all n r k l e f g h = omega arith

first_few : (l : ℕ) → 1 + l ≤ l + 1
first_few l = omega arith

module _ (kb : Knowledge) (names : List (List ℕ)) (q : Query) (report : List ℕ) where
  -- at the beginning
  pub read_none : (state : State) → Fits (report_on kb names q) [] state → ReadSo kb names q report report 1 state []
  read_none state f = record { same = refl; numbered = refl; fits = f; few = first_few (length report) }

  -- one right line on
  pub read_more : (rest more : List ℕ) (number : ℕ) (state last : State) (before : List Line) (l : Line) → ReadSo kb names q report rest number state before
      → BeginsWith rest l more → Fits (report_on kb names q) (l ∷ before) last → ReadSo kb names q report more (number + 1) last (l ∷ before)
  read_more rest more number state last before l h b g = record {
    same = h.same ∙ (ap (λ (os : List (Option Line)). map Some (reverse before) ++ os) b.exact ∙ sym (back (report_on kb names q) l before (pieces_of more)));
    numbered = one_more number (length before) h.numbered;
    fits = g;
    few = few_more number (length rest) (length more) (length report) h.few b.shorter;
  }

  -- what is broken at the next line
  stopped : (rest : List ℕ) (number : ℕ) (state : State) (before : List Line) (r : Rule) → ReadSo kb names q report rest number state before
      → IsBrokenAt (report_on kb names q) before (pieces_of rest) (suc (length before)) r → IsNo kb names q report number r
  stopped rest number state before r h b = (
    subst (λ (n : ℕ). IsBrokenAt (report_on kb names q) [] (pieces_of report) n r) (sym h.numbered)
        (subst (λ (os : List (Option Line)). IsBrokenAt (report_on kb names q) [] os (suc (length before)) r) (sym h.same)
        (broken_from (report_on kb names q) before h.fits.right (pieces_of rest) (suc (length before)) r b)),
    (λ c. broken_tells kb names q before (pieces_of rest) r h.fits.right h.fits.acyclic b (subst (HasCycle kb names q) h.same c)),
  )

  pub stops_at_text : (rest : List ℕ) (number : ℕ) (state : State) (before : List Line) → ReadSo kb names q report rest number state before → IsBroken rest
      → IsNo kb names q report number rule.Text
  stops_at_text rest number state before h (others, e) = stopped rest number state before rule.Text h
      (subst (λ (os : List (Option Line)). IsBrokenAt (report_on kb names q) before os (suc (length before)) rule.Text) (sym e) (refl, refl))

  pub stops_at_line : (rest more : List ℕ) (number : ℕ) (state : State) (before : List Line) (l : Line) (r : Rule)
      → ReadSo kb names q report rest number state before → BeginsWith rest l more → Breaks (report_on kb names q) before l r → IsNo kb names q report number r
  stops_at_line rest more number state before l r h b breaks = stopped rest number state before r h
      (subst (λ (os : List (Option Line)). IsBrokenAt (report_on kb names q) before os (suc (length before)) r) (sym b.exact) (inl (breaks, refl)))

  pub stops_at_end : (rest : List ℕ) (number : ℕ) (state : State) (before : List Line) → ReadSo kb names q report rest number state before → rest ≡ []
      → ¬ (state.standing.place ≡ AtEnd) → IsNo kb names q report number rule.Missing
  stops_at_end rest number state before h e n = stopped rest number state before rule.Missing h
      (subst (λ (os : List (Option Line)). IsBrokenAt (report_on kb names q) before os (suc (length before)) rule.Missing) (sym (ap pieces_of e ∙ no_pieces))
      ((λ p. n (ap (λ (s : Standing). s.place) h.fits.standing ∙ p)), refl, refl))

  -- what has been read to its end
  pub ends : (rest : List ℕ) (number : ℕ) (state : State) (before : List Line) → ReadSo kb names q report rest number state before → rest ≡ []
      → state.standing.place ≡ AtEnd → IsYes kb names q report state.standing.total
  ends rest number state before h e p = (
    subst (IsAcceptedAfter (report_on kb names q) []) (sym h.same)
        (accepted_from (report_on kb names q) before h.fits.right (pieces_of rest) (subst (IsAcceptedAfter (report_on kb names q) before) (sym none) at_end)),
    (λ c. ended_tells kb names q before (pieces_of rest) h.fits.right h.fits.acyclic at_end (subst (HasCycle kb names q) h.same c)),
    ap (λ (s : Standing). s.total) h.fits.standing ∙ (all_counted before ∙ ap (λ (ls : List Line). length (tuples_of ls)) (sym lines)),
  )
    where
      none : pieces_of rest ≡ []
      none = ap pieces_of e ∙ no_pieces

      at_end : place_of before ≡ AtEnd
      at_end = sym (ap (λ (s : Standing). s.place) h.fits.standing) ∙ p

      lines_of_some : (ls : List Line) → lines_of (map Some ls) ≡ ls
      lines_of_some [] = refl
      lines_of_some (x ∷ ls) = ap (λ (ys : List Line). x ∷ ys) (lines_of_some ls)

      lines : lines_of (pieces_of report) ≡ reverse before
      lines = ap lines_of (h.same ∙ (ap (λ (os : List (Option Line)). map Some (reverse before) ++ os) none ∙ append-nil (map Some (reverse before))))
          ∙ lines_of_some (reverse before)

  -- where the cycle is told
  pub goes_round : (rest more : List ℕ) (number : ℕ) (state : State) (before : List Line) (l : Line) (facts : List ℕ)
      → ReadSo kb names q report rest number state before → BeginsWith rest l more → Right (report_on kb names q) before l
      → TellsNow (report_on kb names q) before l facts → TellsRoundly kb names q report facts
  goes_round rest more number state before l facts h b r t = (
    subst (HasCycle kb names q) (sym (h.same
        ∙ (ap (λ (os : List (Option Line)). map Some (reverse before) ++ os) b.exact ∙ sym (back (report_on kb names q) l before (pieces_of more)))))
        (told kb names q (l ∷ before) (pieces_of more) (r, h.fits.right) t.place t.complete t.ranked t.cyclic),
    t.round,
  )

  -- there is room for one more line
  pub has_room_for : (rest : List ℕ) (number : ℕ) (state : State) (before : List Line) → ReadSo kb names q report rest number state before → 0 < length rest
      → length report < 2 ^ 63 → HasRoom state.standing
  has_room_for rest number state before h l small = subst HasRoom (sym h.fits.standing)
      (has_room (length before) (standing_of (length kb.facts) before) (within_lines (length kb.facts) before)
      (below_all number (length rest) (length before) (length report) h.numbered h.few l small))

pub reading_tells : ReadingTells
reading_tells kb names q report = record {
  none = read_none kb names q report;
  more = read_more kb names q report;
  at_text = stops_at_text kb names q report;
  at_line = stops_at_line kb names q report;
  at_end = λ number state before h n. stops_at_end kb names q report [] number state before h refl n;
  ended = λ number state before h p. ends kb names q report [] number state before h refl p;
  round = goes_round kb names q report;
  room = has_room_for kb names q report;
}

-- with another state that fits
pub refit : (kb : Knowledge) (names : List (List ℕ)) (q : Query) (report rest : List ℕ) (number : ℕ) (state next : State) (before : List Line)
    → ReadSo kb names q report rest number state before → Fits (report_on kb names q) before next → ReadSo kb names q report rest number next before
refit kb names q report rest number state next before h f = record { same = h.same; numbered = h.numbered; fits = f; few = h.few }

-- no number overflows
pub number_fits : (n r l : ℕ) → n + r ≤ l + 1 → 0 < r → l < 2 ^ 63 → n + 1 < 2 ^ 64
number_fits n r l f g h = omega arith

pub empty_list : (xs : List ℕ) → length xs ≡ 0 → xs ≡ []
empty_list [] e = refl
empty_list (x ∷ xs) e = absurd (omega arith)
