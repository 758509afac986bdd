use Rattle.std.proofs.Common.{◌≡◌, ◌++◌, map}
use Rattle.query_matching.specs.Rows.{hit_of}
use Rattle.query_matching.proofs.hits.hits_of.Given as goal

abbrev pub invariant-loop-row : goal.invariant-loop-row
invariant-loop-row l = l.hits.items ++ map hit_of l.row-iterator ≡ map hit_of l.fn.found.keys
