use Rattle.cause_finder.proofs.SupportLemmas.{hit_there, hit_only}
use Rattle.cause_finder.proofs.gathered.add.Goals as goal

pub returns-then-len-limit-clause-only : goal.returns-then-len-limit-clause-only
returns-then-len-limit-clause-only c = hit_only c.args.hit.now c.args.member c.in_ok-support.support c.in_ok-support.ensures.exact c.args.found.now.keys
    c.put.new.found.keys c.in_ok-put.ensures.exact c.ordered.ensures.exact

pub returns-clause-only : goal.returns-clause-only
returns-clause-only c = hit_only c.args.hit.now c.args.member c.in_ok-support.support c.in_ok-support.ensures.exact c.args.found.now.keys c.put.new.found.keys
    c.in_ok-put.ensures.exact c.ordered.ensures.exact

pub returns-clause-there : goal.returns-clause-there
returns-clause-there c = hit_there c.args.hit.now c.args.member c.in_ok-support.support c.in_ok-support.ensures.exact c.args.found.now.keys
    c.put.new.found.keys c.in_ok-put.ensures.exact
