use Rattle.std.proofs.Common.{ap₂, sym, ◌∙◌, arith}
use Rattle.std.proofs.lemmas.Bool.Decides.{nat_tests}
use Rattle.clap.specs.Words.{app_of, with_rule}
use Rattle.cqapri_words.specs.CommandLine.{value_rule}
use Rattle.cqapri_words.proofs.CommandLemmas.{one_more}
use Rattle.cqapri_words.proofs.command_line.with_options.Goals as goal

pub loop-option-preserved : goal.loop-option-preserved
loop-option-preserved c =
    c.in_ok-command.ensures.shape c.arg_of.ensures.own
    ∙ ap₂ with_rule c.loop-option.invariant (c.arg_of.ensures.rule ∙ ap₂ value_rule c.name-name.ensures.exact c.is_required.ensures.exact)
    ∙ sym (one_more (app_of c.args.command) c.args.options.now c.loop-option.option-index _ (grind (arith, nat_tests)))
