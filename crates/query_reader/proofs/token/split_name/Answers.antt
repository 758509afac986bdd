use Rattle.std.proofs.Common.{sym}
use Rattle.axiom_reader.specs.Name.{is_later}
use Rattle.query_reader.proofs.RunLemmas.{run_at, run_all}
use Rattle.query_reader.proofs.token.split_name.Goals as goal

pub returns-in-Some : goal.returns-in-Some
returns-in-Some c = record { exact = run_at is_later _ _ (sym c.in-Some.ensures.exact) }

pub returns-in-None : goal.returns-in-None
returns-in-None c = record { exact = run_all is_later _ c.in-None.ensures.exact }
