use Rattle.std.proofs.Common.{◌∙◌, sym}
use Rattle.report_parts.proofs.CodeLemmas.{found_key}
use Rattle.report_parts.proofs.codes.CodeSet.has.Goals as goal

pub returns : goal.returns
returns c = record {
  exact = rw (← c.self.view_is) (
    (λ t. (found_key c.self.inside.codes.keys c.args.code.now).0 (sym c.contains.ensures ∙ t)),
    (λ m. c.contains.ensures ∙ (found_key c.self.inside.codes.keys c.args.code.now).1 m),
  );
}
