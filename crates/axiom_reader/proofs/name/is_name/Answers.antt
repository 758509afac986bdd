-- The test of the code is that of the definition, on the first byte and the later ones.
use Rattle.std.proofs.Common.{◌≡◌, ◌&&◌, not, sym, ap, ◌∙◌}
use Rattle.axiom_reader.specs.Name.{is_keyword, is_name_text}
use Rattle.axiom_reader.proofs.NameLemmas.{empty_is_no_name, is_name_text-cons, IsUtf8-name}
use Rattle.axiom_reader.proofs.name.is_name.Goals as goal

pub returns-in_default-clause-exact : goal.returns-in_default-clause-exact
returns-in_default-clause-exact c = (λ e. cc, λ name. absurd (empty_is_no_name _ c.in_default.ensures.cases name))

pub returns-then-has_form-clause-exact : goal.returns-then-has_form-clause-exact
returns-then-has_form-clause-exact c =
    let bytes = c.args.bytes.now in
    let split = is_name_text-cons bytes _ _ c.in-Some.ensures.cases.0 in
    let form = ap (λ b. b && not (is_keyword bytes)) (sym c.has_form.ensures.exact ∙ c.if-has_form.true) in
    let same : not c.is_keyword.result ≡ is_name_text bytes = ap not c.is_keyword.ensures.exact ∙ sym (split ∙ form) in
    (λ yes. sym same ∙ yes, λ yes. same ∙ yes)

pub returns-else-has_form-clause-exact : goal.returns-else-has_form-clause-exact
returns-else-has_form-clause-exact c =
    let bytes = c.args.bytes.now in
    let split = is_name_text-cons bytes _ _ c.in-Some.ensures.cases.0 in
    let form = ap (λ b. b && not (is_keyword bytes)) (sym c.has_form.ensures.exact ∙ c.if-has_form.false) in
    let same : c.has_form.result ≡ is_name_text bytes = c.if-has_form.false ∙ sym (split ∙ form) in
    (λ yes. sym same ∙ yes, λ yes. same ∙ yes)

pub returns-in_default-clause-utf8 : goal.returns-in_default-clause-utf8
returns-in_default-clause-utf8 c = IsUtf8-name c.args.bytes.now

pub returns-then-has_form-clause-utf8 : goal.returns-then-has_form-clause-utf8
returns-then-has_form-clause-utf8 c = IsUtf8-name c.args.bytes.now

pub returns-else-has_form-clause-utf8 : goal.returns-else-has_form-clause-utf8
returns-else-has_form-clause-utf8 c = IsUtf8-name c.args.bytes.now
