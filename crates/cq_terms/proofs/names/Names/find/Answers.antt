use Rattle.std.proofs.Common.{◌∙◌, ◌≡◌, Some, sym, refl, string_bytes, false}
use Rattle.std.specs.List.{list_any}
use Rattle.std.specs.Str.{bytes_eq}
use Rattle.cq_terms.specs.Names.{place_of}
use Rattle.cq_terms.proofs.NamesLemmas.{list_any-map, position-map, slice_get-position, not_there, there_at}
use Rattle.cq_terms.proofs.names.Names.find.Goals as goal

pub returns-in_err-id-clause-exact : goal.returns-in_err-id-clause-exact
returns-in_err-id-clause-exact c =
    rw (← c.self.view_is) (c.from_residual.ensures ∙ c.in_err-id.ensures.index
    ∙ sym (position-map string_bytes (bytes_eq c.args.text.now) c.self.inside.texts.keys))

pub returns-clause-exact : goal.returns-clause-exact
returns-clause-exact c =
    rw (← c.self.view_is) (c.in_ok-id.ensures.index ∙ sym (position-map string_bytes (bytes_eq c.args.text.now) c.self.inside.texts.keys))

pub returns-clause-found : goal.returns-clause-found
returns-clause-found c =
    let at : Some c.in_ok-id.id ≡ place_of c.args.self.now c.args.text.now =
    rw (← c.self.view_is) (c.in_ok-id.ensures.index ∙ sym (position-map string_bytes (bytes_eq c.args.text.now) c.self.inside.texts.keys)) in
    slice_get-position _ _ _ (sym at)

pub returns-in_err-id-clause-none : goal.returns-in_err-id-clause-none
returns-in_err-id-clause-none c =
    let none : list_any (bytes_eq c.args.text.now) c.args.self.now ≡ false =
    rw (← c.self.view_is) (list_any-map string_bytes (bytes_eq c.args.text.now) c.self.inside.texts.keys ∙ sym c.in_err-id.ensures.found) in
    (λ e. not_there c.args.self.now c.args.text.now none, λ e. rw c.from_residual.ensures refl)

pub returns-clause-none : goal.returns-clause-none
returns-clause-none c =
    let at : Some c.in_ok-id.id ≡ place_of c.args.self.now c.args.text.now =
    rw (← c.self.view_is) (c.in_ok-id.ensures.index ∙ sym (position-map string_bytes (bytes_eq c.args.text.now) c.self.inside.texts.keys)) in
    (λ e. cc e, λ n. absurd (n (there_at _ _ c.in_ok-id.id (slice_get-position c.args.self.now c.args.text.now c.in_ok-id.id (sym at)))))
