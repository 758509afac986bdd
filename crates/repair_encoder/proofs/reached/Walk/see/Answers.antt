use Rattle.std.proofs.Common.{◌≡◌, false, get_or, refl, sym, ◌∙◌}
use Rattle.std.proofs.lemmas.List.{get_or_default}
use Rattle.repair_encoder.proofs.WalkLemmas.{seen_more}
use Rattle.repair_encoder.proofs.reached.Walk.see.Goals as goal

pub returns-clause-kept : goal.returns-clause-kept
returns-clause-kept c =
    let unmarked : get_or c.args.self.now.seen.items c.args.fact false ≡ false =
    get_or_default c.args.self.now.seen.items c.args.fact false c.index.result.now c.requires.known ∙ sym c.index.ensures ∙ c.if-index.false in
    rw c.in_ok-push.ensures.items (seen_more c.args.self.now.seen.items _ c.args.self.now.reached.items c.args.fact c.requires.kept c.requires.known unmarked
    refl)
