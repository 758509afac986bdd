use Rattle.std.proofs.lemmas.List.Sorted.{IsPartitionPoint-from_clause, IsPartitionedBy-ltb}
use Rattle.std.proofs.Common.{rules}
use Rattle.cause_finder.specs.Smaller.{number_at}
use lib.Dec.{ltb}
use Rattle.cause_finder.proofs.SmallerLemmas.{before_point, behind_point}
use Rattle.cause_finder.proofs.smaller.first_from.Goals as goal

pub returns-clause-before : goal.returns-clause-before
returns-clause-before c = before_point (number_at c.args.depth) c.args.group.now c.args.number c.partition_point.result
    (IsPartitionPoint-from_clause (λ s. ltb (number_at c.args.depth s) c.args.number) c.args.group.now c.partition_point.result
    c.partition_point.ensures.partitioned (IsPartitionedBy-ltb (number_at c.args.depth) c.args.group.now c.args.number c.requires.rising)
    (λ a r f called. search rules))

pub returns-clause-behind : goal.returns-clause-behind
returns-clause-behind c = behind_point (number_at c.args.depth) c.args.group.now c.args.number c.partition_point.result
    (IsPartitionPoint-from_clause (λ s. ltb (number_at c.args.depth s) c.args.number) c.args.group.now c.partition_point.result
    c.partition_point.ensures.partitioned (IsPartitionedBy-ltb (number_at c.args.depth) c.args.group.now c.args.number c.requires.rising)
    (λ a r f called. search rules))
