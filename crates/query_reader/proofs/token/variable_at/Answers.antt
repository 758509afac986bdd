-- The letters behind the mark are all of the variable.
use Rattle.std.proofs.Common.{◌≡◌, ℕ, List, ◌∷◌, drop, sym, ap, ◌∙◌}
use Rattle.query_reader.specs.Tokens.{Stands, variable, is_letter}
use Rattle.query_reader.specs.Parts.{IsRun}
use Rattle.query_reader.proofs.RunLemmas.{runs_once, IsUtf8-letters, empty_is}
use Rattle.query_reader.proofs.token.variable_at.Goals as goal

-- the letters of a variable at the front are those behind the mark
letters_are : (text later run rest letters after : List ℕ) → text ≡ 63 ∷ later → IsRun is_letter later run rest → Stands (variable letters) text after
    → letters ≡ run
letters_are text later run rest letters after later_is run_is stands =
    (runs_once is_letter letters after run rest stands.valid.1 stands.ends run_is.all run_is.ends
    (ap (λ bytes. drop 1 bytes) (sym stands.whole ∙ later_is) ∙ run_is.whole)).0

pub returns-then-is_empty-clause-none : goal.returns-then-is_empty-clause-none
returns-then-is_empty-clause-none c =
    λ letters after stands.
    let same = letters_are _ _ _ _ letters after c.in_ok-later.ensures.found c.split_letters.ensures.exact stands in
    stands.valid.0 (same ∙ empty_is _ c.if-is_empty.ensures)

pub returns-in-Err-clause-none : goal.returns-in-Err-clause-none
returns-in-Err-clause-none c =
    λ letters after stands. c.in-Err.ensures.cases.0 (IsUtf8-letters _ c.split_letters.ensures.exact.all)
