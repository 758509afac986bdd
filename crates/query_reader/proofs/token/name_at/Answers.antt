-- A name at the front is all that a name may go on with.
use Rattle.std.proofs.Common.{◌≡◌, false, true, sym, subst, ◌∙◌}
use Rattle.axiom_reader.specs.Name.{IsName, is_later}
use Rattle.axiom_reader.proofs.NameLemmas.{all_later}
use Rattle.query_reader.proofs.RunLemmas.{runs_once}
use Rattle.query_reader.proofs.token.name_at.Goals as goal

pub returns-then-not-is_name-clause-none : goal.returns-then-not-is_name-clause-none
returns-then-not-is_name-clause-none c =
    λ letters after stands.
    let run = c.split_name.ensures.exact in
    let once = runs_once is_later letters after _ _ (all_later letters stands.valid) stands.ends run.all run.ends (sym stands.whole ∙ run.whole) in
    let yes = c.is_name.ensures.exact.1 (subst IsName once.0 stands.valid) in
    let no : false ≡ true = sym c.if-not-is_name.true ∙ yes in
    cc
