-- The first word begins at the first byte that isn't a blank, and ends at the next blank.
use Rattle.std.proofs.Common.{ℕ, ◌-◌, List, length, take, drop, sym}
use Rattle.std.proofs.lemmas.List.{take_rest}
use Rattle.axiom_reader.proofs.WordLemmas.{next_found, no_word}
use Rattle.axiom_reader.proofs.words.next_word.Goals as goal

pub returns-in_err-start-clause-none : goal.returns-in_err-start-clause-none
returns-in_err-start-clause-none c = rw c.from_residual.ensures (no_word _ (sym c.in_err-start.ensures.exact))

pub returns-clause-found : goal.returns-clause-found
returns-clause-found c =
    let line = c.args.line.now in
    let start = c.in_ok-start.start in
    let words : List ℕ = take (length line - start) (drop start line) in
    next_found line words start c.word_end-end.result c.in_ok-start.ensures.exact (take_rest line start) c.word_end-end.ensures.exact
