use Rattle.std.proofs.Common.{◌∙◌, ◌≡◌, ap, Some, sym, refl, true, map, string_bytes}
use Rattle.std.specs.Str.{bytes_eq}
use Rattle.std.specs.List.{list_any}
use Rattle.cq_terms.specs.Names.{place_of, with_text}
use Rattle.cq_terms.proofs.NamesLemmas.{list_any-map, position-map, slice_get-position, texts-insert_key, text_stored}
use Rattle.cq_terms.proofs.names.Names.put.Goals as goal

pub returns-in-Some-clause-exact : goal.returns-in-Some-clause-exact
returns-in-Some-clause-exact c =
    let there : list_any (bytes_eq c.args.text.now) (map string_bytes c.self.inside.texts.keys) ≡ true =
    list_any-map string_bytes (bytes_eq c.args.text.now) c.self.inside.texts.keys ∙ sym c.in-Some.ensures.found in
    rw (← c.self.view_is, there) refl

pub returns-in-Some-clause-place : goal.returns-in-Some-clause-place
returns-in-Some-clause-place c =
    let at : Some c.in-Some.id ≡ place_of c.args.self.now c.args.text.now =
    rw (← c.self.view_is) (c.in-Some.ensures.index ∙ sym (position-map string_bytes (bytes_eq c.args.text.now) c.self.inside.texts.keys)) in
    slice_get-position _ _ _ (sym at)

pub returns-clause-exact : goal.returns-clause-exact
returns-clause-exact c =
    rw (← c.self.view_is) (ap (map string_bytes) c.in_ok-id.ensures.keys ∙ texts-insert_key c.self.inside.texts.keys c.in_ok-owned.owned
    ∙ ap (with_text (map string_bytes c.self.inside.texts.keys)) c.in_ok-owned.ensures.ok)

pub returns-clause-place : goal.returns-clause-place
returns-clause-place c =
    let s = c.in_ok-id.ensures.stored in
    text_stored c.insert_full.new.self.keys c.in_ok-id.id s.0 c.in_ok-owned.owned s.1 s.2 ∙ ap Some c.in_ok-owned.ensures.ok
