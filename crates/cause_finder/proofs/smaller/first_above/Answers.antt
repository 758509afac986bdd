use Rattle.std.proofs.lemmas.List.Sorted.{IsPartitionPoint-from_clause, IsPartitionedBy-leb}
use Rattle.std.proofs.Common.{rules}
use Rattle.cause_finder.specs.Smaller.{number_at}
use lib.Dec.{leb}
use Rattle.cause_finder.proofs.SmallerLemmas.{before_last_point, behind_last_point}
use Rattle.cause_finder.proofs.smaller.first_above.Goals as goal

pub returns-clause-before : goal.returns-clause-before
returns-clause-before c = before_last_point (number_at c.args.depth) c.args.group.now c.args.number c.partition_point.result
    (IsPartitionPoint-from_clause (λ s. leb (number_at c.args.depth s) c.args.number) c.args.group.now c.partition_point.result
    c.partition_point.ensures.partitioned (IsPartitionedBy-leb (number_at c.args.depth) c.args.group.now c.args.number c.requires.rising)
    (λ a r f called. search rules))

pub returns-clause-behind : goal.returns-clause-behind
returns-clause-behind c = behind_last_point (number_at c.args.depth) c.args.group.now c.args.number c.partition_point.result
    (IsPartitionPoint-from_clause (λ s. leb (number_at c.args.depth s) c.args.number) c.args.group.now c.partition_point.result
    c.partition_point.ensures.partitioned (IsPartitionedBy-leb (number_at c.args.depth) c.args.group.now c.args.number c.requires.rising)
    (λ a r f called. search rules))
