use Rattle.std.proofs.lemmas.List.Folds.{list_all-map}
use Rattle.clause_meaning.specs.Literals.{variable_of}
use Rattle.priority_graph.specs.Split.{has}
use Rattle.report_standing.proofs.rules.done.keeps_facts.Goals as goal

pub returns : goal.returns
returns c = record { exact = rw (list_all-map (has c.args.core.now.kept) variable_of c.args.literals.now) c.keeps_each.ensures.exact }
