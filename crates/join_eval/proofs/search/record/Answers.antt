use Rattle.join_eval.proofs.search.record.Goals as goal

pub returns-clause-all : goal.returns-clause-all
returns-clause-all c = c.in_ok-add_row.ensures.all c.args.question.now.index.now
