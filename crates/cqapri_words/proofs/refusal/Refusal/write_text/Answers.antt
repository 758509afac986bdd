use Rattle.std.proofs.Common.{ap, sym, ◌∙◌, codes, []}
use Rattle.cqapri_words.specs.Pieces.{line_text}
use Rattle.cqapri_words.specs.Refusals.{text_of}
use Rattle.cqapri_words.proofs.PieceLemmas.{OnOk-appended}
use Rattle.cqapri_words.proofs.refusal.Refusal.write_text.Goals as goal

pub returns-in-Limit-clause-exact : goal.returns-in-Limit-clause-exact
returns-in-Limit-clause-exact g c =
    OnOk-appended c.write_line-in-Limit.result _ _ (ap (line_text (codes "limit: ") []) c.words.ensures.exact ∙ ap text_of (sym c.in-Limit.is))
    c.write_line-in-Limit.ensures.exact

pub returns-in-Cycle-clause-exact : goal.returns-in-Cycle-clause-exact
returns-in-Cycle-clause-exact g c = OnOk-appended c.write_line-in-Cycle.result _ _ (ap text_of (sym c.in-Cycle.is)) c.write_line-in-Cycle.ensures.exact

pub returns-in-WriteFault-clause-exact : goal.returns-in-WriteFault-clause-exact
returns-in-WriteFault-clause-exact g c =
    OnOk-appended c.write_line-in-WriteFault.result _ _ (ap text_of (sym c.in-WriteFault.is)) c.write_line-in-WriteFault.ensures.exact

pub returns-in-NoMemory-clause-exact : goal.returns-in-NoMemory-clause-exact
returns-in-NoMemory-clause-exact g c =
    OnOk-appended c.write_line-in-NoMemory.result _ _ (ap text_of (sym c.in-NoMemory.is)) c.write_line-in-NoMemory.ensures.exact
