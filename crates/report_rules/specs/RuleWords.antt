-- The names of the rules of acceptance.
use Rattle.std.specs.Prelude.{ℕ, List, codes}
use Rattle.report_rules.specs.declared.rule.Rule.{Rule}
use Rattle.report_rules.specs.declared.rule.Rule.TheVariants.{Text, Order, Closed, Head, Cq, Conflict, Ask, Try, Learn, Core, Done, Forget, Answer, End}
use Rattle.report_rules.specs.declared.rule.Rule.TheVariants.{Missing}

-- the word for a rule
abbrev pub rule_word : Rule → List ℕ
rule_word Text = codes "text"
rule_word Order = codes "order"
rule_word Closed = codes "closed"
rule_word Head = codes "head"
rule_word Cq = codes "cq"
rule_word Conflict = codes "conflict"
rule_word Ask = codes "ask"
rule_word Try = codes "try"
rule_word Learn = codes "learn"
rule_word Core = codes "core"
rule_word Done = codes "done"
rule_word Forget = codes "forget"
rule_word Answer = codes "answer"
rule_word End = codes "end"
rule_word Missing = codes "missing"
