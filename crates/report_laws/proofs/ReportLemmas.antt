-- Reports as bytes: what their pieces say of their lines, and that each is judged once.
use Rattle.std.proofs.Common.{◌≡◌, ℕ, suc, ◌+◌, ◌⊎◌, inl, inr, List, [], ◌∷◌, ◌++◌, length, map, All, Option, Some, None, refl, sym, subst, ap, ◌∙◌, arith}
use Rattle.std.proofs.Common.{append-nil, append_assoc}
use Rattle.std.specs.Prelude.{◌≢◌, reverse}
use Rattle.std.proofs.lemmas.List.{length-reverse, reverse-reverse}
use Rattle.std.proofs.lemmas.List.Elements.{All-cons, All-nil, All-head}
use Rattle.cq_terms.specs.Knowledge.{Knowledge}
use Rattle.cq_terms.specs.Query.{Query}
use Rattle.report_text.specs.declared.line.Line.{Line}
use Rattle.report_text.specs.Lines.{IsWellFormed, text_of}
use Rattle.report_text.specs.LineBytes.{bytes_of}
use Rattle.report_text.specs.Pieces.{pieces_of}
use Rattle.report_text.proofs.PieceFacts.{pieces_are_lines, lines_first, bytes_first, no_pieces}
use Rattle.report_rules.specs.declared.place.Place.{Place}
use Rattle.report_rules.specs.declared.place.Place.TheVariants.{AtStart, AfterHead, InBlock, InConflicts, AfterForget, InAnswer, InTry, AfterCore}
use Rattle.report_rules.specs.declared.place.Place.TheVariants.{AfterAnswer, AtEnd}
use Rattle.report_rules.specs.declared.rule.Rule.{Rule}
use Rattle.report_rules.specs.declared.rule.Rule.TheVariants as rule
use Rattle.report_rules.specs.Inputs.{Input, report_on}
use Rattle.report_rules.specs.Order.{place_of}
use Rattle.report_rules.specs.Accepted.{Right, AreRight}
use Rattle.report_rules.specs.Broken.{rule_of, Breaks, IsBrokenAt, IsAcceptedAfter, IsAccepted}
use Rattle.report_laws.specs.Reports.{BeginsWith, IsBrokenRest, IsBrokenBehind, AcceptedReportIsOfLines, BrokenReportIsOfLines, ReportsAreJudgedOnce}
use Rattle.report_laws.specs.Reports.{JudgedByLines, AcceptedReportIsTrue}
use Rattle.report_laws.proofs.BreakingLemmas.{broken_not_accepted, broken_once, broken_from, accepted_pieces, moved}
use Rattle.report_laws.proofs.CycleLemmas.{all_lines, confirmed_is_true}
use Rattle.report_laws.specs.Laws.{lines_of}

-- ---- accepted

pub accepted_of_lines : AcceptedReportIsOfLines
accepted_of_lines kb names q bytes = (
  (λ a.
      let same = all_lines (report_on kb names q) [] (pieces_of bytes) a in
      let w = (pieces_are_lines bytes (lines_of (pieces_of bytes))).0 (sym same) in (
        lines_of (pieces_of bytes),
        record {
          well_formed = w.0;
          exact = w.1;
          accepted =
              (accepted_pieces kb names q (lines_of (pieces_of bytes))).0 (subst (IsAccepted kb names q) (sym same) a);
        },
      )),
  (λ (lines, w). subst (IsAccepted kb names q) (sym ((pieces_are_lines bytes lines).1 (w.well_formed, w.exact)))
      ((accepted_pieces kb names q lines).1 w.accepted)),
)

-- ---- broken

module _ (input : Input) where
  -- the first of these pieces is broken, after the lines before
  abbrev pub IsBrokenHere : List Line → List (Option Line) → Rule → Type 0
  IsBrokenHere before [] r = (place_of before ≢ AtEnd) × (r ≡ rule.Missing)
  IsBrokenHere before (None ∷ rest) r = r ≡ rule.Text
  IsBrokenHere before (Some l ∷ rest) r = Breaks input before l r

  -- what is broken is so behind right lines
  record BrokenBehind (before : List Line) (pieces : List (Option Line)) (n : ℕ) (r : Rule) : Type 0 where
    lines : List Line
    others : List (Option Line)
    same : pieces ≡ map Some lines ++ others
    right : AreRight input (reverse lines ++ before)
    number : n ≡ suc (length lines + length before)
    here : IsBrokenHere (reverse lines ++ before) others r

  broken_behind : (pieces : List (Option Line)) (before : List Line) (n : ℕ) (r : Rule) → AreRight input before → IsBrokenAt input before pieces n r
      → BrokenBehind before pieces n r
  broken_behind [] before n r w (ne, x, y) = record { lines = []; others = []; same = refl; right = w; number = x ∙ omega arith; here = (ne, y) }
  broken_behind (None ∷ rest) before n r w (x, y) = record { lines = []; others = None ∷ rest; same = refl; right = w; number = x ∙ omega arith; here = y }
  broken_behind (Some l ∷ rest) before n r w (inl (b, x)) = record {
    lines = [];
    others = Some l ∷ rest;
    same = refl;
    right = w;
    number =
        x ∙ omega arith;
    here = b;
  }
  broken_behind (Some l ∷ rest) before n r w (inr (right, b)) =
      let v = broken_behind rest (l ∷ before) n r (right, w) b in
      record {
        lines = l ∷ v.lines;
        others = v.others;
        same = ap (λ (os : List (Option Line)). Some l ∷ os) v.same;
        right = subst (AreRight input) (sym (moved input l v.lines before)) v.right;
        number = v.number ∙ omega arith;
        here = subst (λ (xs : List Line). IsBrokenHere xs v.others r) (sym (moved input l v.lines before)) v.here;
      }

  -- pieces whose first is broken are broken at the next line
  pub broken_at_once : (before : List Line) (others : List (Option Line)) (r : Rule) → IsBrokenHere before others r
      → IsBrokenAt input before others (suc (length before)) r
  broken_at_once before [] r (ne, e) = (ne, refl, e)
  broken_at_once before (None ∷ rest) r e = (refl, e)
  broken_at_once before (Some l ∷ rest) r b = inl (b, refl)

  -- what is left of the bytes breaks the rule where the first of its pieces does
  rest_broken : (before : List Line) (rest : List ℕ) (others : List (Option Line)) (r : Rule) → others ≡ pieces_of rest → IsBrokenHere before others r
      → IsBrokenRest input before rest r
  rest_broken before rest [] r e (ne, y) = inl (y, ((pieces_are_lines rest []).0 (sym e)).1, ne)
  rest_broken before rest (None ∷ os) r e y = inr (inl (y, (λ empty. some empty), (λ l more w b. other l more w b)))
    where
      some : rest ≡ [] → ⊥
      some empty = let both : None ∷ os ≡ [] = e ∙ ap pieces_of empty ∙ no_pieces in cc both

      other : (l : Line) (more : List ℕ) → IsWellFormed l → BeginsWith rest l more → ⊥
      other l more w b =
          let one : rest ≡ bytes_of (l ∷ []) ++ more = b ∙ sym (append_assoc (text_of l) (10 ∷ []) more) in
          let both : None ∷ os ≡ Some l ∷ pieces_of more = e ∙ ap pieces_of one
          ∙ lines_first (l ∷ []) more (All-cons IsWellFormed l [] w (All-nil IsWellFormed)) in
          cc both
  rest_broken before rest (Some l ∷ os) r e b =
      let (w, (more, same, others)) = bytes_first rest (l ∷ []) os (sym e) in
      inr (inr (l, more, All-head IsWellFormed l [] w, same ∙ append_assoc (text_of l) (10 ∷ []) more, b))

  -- and the other way
  here_broken : (before : List Line) (rest : List ℕ) (r : Rule) → IsBrokenRest input before rest r → IsBrokenHere before (pieces_of rest) r
  here_broken before rest r (inl (y, empty, ne)) = subst (λ (os : List (Option Line)). IsBrokenHere before os r) (sym (ap pieces_of empty ∙ no_pieces)) (ne, y)
  here_broken before rest r (inr (inl (y, ne, none))) = by (pieces_of rest) refl
    where
      by : (os : List (Option Line)) → os ≡ pieces_of rest → IsBrokenHere before os r
      by [] e = absurd (ne ((pieces_are_lines rest []).0 (sym e)).1)
      by (None ∷ os) e = y
      by (Some l ∷ os) e =
          let (w, (more, same, others)) = bytes_first rest (l ∷ []) os (sym e) in
          absurd (none l more (All-head IsWellFormed l [] w) (same ∙ append_assoc (text_of l) (10 ∷ []) more))
  here_broken before rest r (inr (inr (l, more, w, b, breaks))) =
      let one : rest ≡ bytes_of (l ∷ []) ++ more = b ∙ sym (append_assoc (text_of l) (10 ∷ []) more) in
      subst (λ (os : List (Option Line)). IsBrokenHere before os r)
      (sym (ap pieces_of one ∙ lines_first (l ∷ []) more (All-cons IsWellFormed l [] w (All-nil IsWellFormed)))) breaks

module _ (kb : Knowledge) (names : List (List ℕ)) (q : Query) (bytes : List ℕ) (n : ℕ) (r : Rule) where
  lines_of_broken : IsBrokenAt (report_on kb names q) [] (pieces_of bytes) n r → (lines : List Line) × (rest : List ℕ)
      × IsBrokenBehind kb names q bytes n r lines rest
  lines_of_broken b =
      let v = broken_behind (report_on kb names q) (pieces_of bytes) [] n r tt b in
      let (w, (rest, same, others)) = bytes_first bytes v.lines v.others v.same in
      (v.lines, rest, made v w rest same others)
    where
      made : (v : BrokenBehind (report_on kb names q) [] (pieces_of bytes) n r) → All IsWellFormed v.lines → (rest : List ℕ)
          → bytes ≡ bytes_of v.lines ++ rest → v.others ≡ pieces_of rest → IsBrokenBehind kb names q bytes n r v.lines rest
      made v w rest same others = record {
        well_formed = w;
        exact = same;
        right = subst (AreRight (report_on kb names q)) (append-nil (reverse v.lines)) v.right;
        number = v.number ∙ omega arith;
        broken = rest_broken (report_on kb names q) (reverse v.lines) rest v.others r others
            (subst (λ (xs : List Line). IsBrokenHere (report_on kb names q) xs v.others r) (append-nil (reverse v.lines)) v.here);
      }

  broken_by_lines : (lines : List Line) (rest : List ℕ) → IsBrokenBehind kb names q bytes n r lines rest
      → IsBrokenAt (report_on kb names q) [] (pieces_of bytes) n r
  broken_by_lines lines rest w =
      let at = broken_at_once (report_on kb names q) (reverse lines) (pieces_of rest) r (here_broken (report_on kb names q) (reverse lines) rest r w.broken) in
      let whole = broken_from (report_on kb names q) (reverse lines) w.right (pieces_of rest) (suc (length (reverse lines))) r at in
      let same : map Some (reverse (reverse lines)) ++ pieces_of rest ≡ pieces_of bytes =
      ap (λ (ls : List Line). map Some ls ++ pieces_of rest) (reverse-reverse lines) ∙ sym (ap pieces_of w.exact ∙ lines_first lines rest w.well_formed) in
      let size : suc (length (reverse lines)) ≡ n = ap suc (length-reverse lines) ∙ sym w.number in
      subst (λ (m : ℕ). IsBrokenAt (report_on kb names q) [] (pieces_of bytes) m r) size
      (subst (λ (os : List (Option Line)). IsBrokenAt (report_on kb names q) [] os (suc (length (reverse lines))) r) same whole)

pub broken_of_lines : BrokenReportIsOfLines
broken_of_lines kb names q bytes n r = (lines_of_broken kb names q bytes n r, λ (lines, rest, w). broken_by_lines kb names q bytes n r lines rest w)

-- ---- judged once

module _ (input : Input) where
  unbroken_right : (before : List Line) (l : Line) → ((r : Rule) → ¬ Breaks input before l r) → ¬ ¬ Right input before l
  unbroken_right before l n k =
      n rule.Order (inl (
        refl,
        λ o.
            n rule.Closed (inr (
              o,
              inl (
                refl,
                λ c.
                    n rule.Conflict (inr (
                      o,
                      inr (
                        c,
                        inl (
                          refl,
                          λ m.
                              n (rule_of l) (inr (
                                o,
                                inr (
                                  c,
                                  inr (
                                    m,
                                    (
                                      refl,
                                      λ w.
                                          k (record { order = o.0; query_left = o.1; closed = c; complete = m; own = w }),
                                    ),
                                  ),
                                ),
                              )),
                        ),
                      ),
                    )),
              ),
            )),
      ))

  some_judgement : (pieces : List (Option Line)) (before : List Line) → ¬ IsAcceptedAfter input before pieces
      → ((n : ℕ) (r : Rule) → ¬ IsBrokenAt input before pieces n r) → ⊥
  some_judgement [] before na nb = nb (suc (length before)) rule.Missing (na, refl, refl)
  some_judgement (None ∷ rest) before na nb = nb (suc (length before)) rule.Text (refl, refl)
  some_judgement (Some l ∷ rest) before na nb =
      unbroken_right before l (λ r b. nb (suc (length before)) r (inl (b, refl)))
      (λ w. some_judgement rest (l ∷ before) (λ a. na (w, a)) (λ n r b. nb n r (inr (w, b))))

pub judged_once : ReportsAreJudgedOnce
judged_once kb names q bytes = record {
  one = λ n r b a. broken_not_accepted (report_on kb names q) (pieces_of bytes) [] n r b a;
  first = λ n m r s b d. broken_once (report_on kb names q) (pieces_of bytes) [] n m r s b d;
  some = λ na nb. some_judgement (report_on kb names q) (pieces_of bytes) [] na nb;
}

-- the report has ended or not
ended_or_not : (p : Place) → (p ≡ AtEnd) ⊎ (p ≡ AtEnd → ⊥)
ended_or_not AtEnd = inl refl
ended_or_not AtStart = inr (λ e. cc e)
ended_or_not AfterHead = inr (λ e. cc e)
ended_or_not (InBlock o) = inr (λ e. cc e)
ended_or_not InConflicts = inr (λ e. cc e)
ended_or_not AfterForget = inr (λ e. cc e)
ended_or_not InAnswer = inr (λ e. cc e)
ended_or_not InTry = inr (λ e. cc e)
ended_or_not AfterCore = inr (λ e. cc e)
ended_or_not AfterAnswer = inr (λ e. cc e)

module _ (input : Input) (decide : (before : List Line) (l : Line) → AreRight input before → Right input before l
    ⊎ ((r : Rule) × Breaks input before l r)) where
  judge : (pieces : List (Option Line)) (before : List Line) → AreRight input before → IsAcceptedAfter input before pieces
      ⊎ ((n : ℕ) × (r : Rule) × IsBrokenAt input before pieces n r)
  judge [] before w = elim (ended_or_not (place_of before)) [ inl e ↦ inl e | inr ne ↦ inr (suc (length before), rule.Missing, (ne, refl, refl)) ]
  judge (None ∷ rest) before w = inr (suc (length before), rule.Text, (refl, refl))
  judge (Some l ∷ rest) before w = go (decide before l w) (λ right. judge rest (l ∷ before) (right, w))
    where
      go : Right input before l ⊎ ((r : Rule) × Breaks input before l r)
          → (Right input before l → IsAcceptedAfter input (l ∷ before) rest ⊎ ((n : ℕ) × (r : Rule) × IsBrokenAt input (l ∷ before) rest n r))
          → IsAcceptedAfter input before (Some l ∷ rest) ⊎ ((n : ℕ) × (r : Rule) × IsBrokenAt input before (Some l ∷ rest) n r)
      go (inr (r, b)) again = inr (suc (length before), r, inl (b, refl))
      go (inl right) again = elim (again right) [ inl a ↦ inl (right, a) | inr (n, r, b) ↦ inr (n, r, inr (right, b)) ]

pub judged_by_lines : JudgedByLines
judged_by_lines kb names q decide bytes = judge (report_on kb names q) decide (pieces_of bytes) [] tt

pub report_true : AcceptedReportIsTrue
report_true kb names q bytes a n = confirmed_is_true kb names q (pieces_of bytes) a n
