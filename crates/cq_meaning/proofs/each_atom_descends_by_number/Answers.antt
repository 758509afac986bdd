use Rattle.std.proofs.Common.{◌≡◌, refl, sym, subst, slice_get, Some}
use Rattle.cq_meaning.specs.Conflicts.{In, facts_in}
use Rattle.cq_meaning.proofs.Stages.{descends, InStage-mono}
use Rattle.cq_meaning.proofs.each_atom_descends_by_number.Goals as goal

pub returns : goal.returns
returns c kb S k x s =
    let d = descends kb.axioms (facts_in kb (In S)) k x s in
    (d.1.0, d.1.1, InStage-mono kb.axioms _ _ (λ g e. (d.1.0, refl, subst (λ g. slice_get kb.facts d.1.0 ≡ Some g) (sym e) d.1.2)) k x d.2)
