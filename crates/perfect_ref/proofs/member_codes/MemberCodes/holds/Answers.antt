use Rattle.std.proofs.Common.{◌∙◌, sym, ℕ, Vec, Global}
use Rattle.std.specs.Str.{bytes_eq}
use Rattle.cq_terms.proofs.NamesLemmas.{list_any-map}
use Rattle.perfect_ref.proofs.member_codes.MemberCodes.holds.Goals as goal

pub returns : goal.returns
returns c =
    rw (← c.self.view_is) (c.contains.ensures ∙ sym (list_any-map (λ (v : Vec ℕ Global). v.items) (bytes_eq c.args.code.now) c.self.inside.codes.keys))
