use Rattle.cqapri_words.proofs.CycleLemmas.{concept_pieces, link_pieces}
use Rattle.cqapri_words.proofs.PieceLemmas.{OnErr-appends, OnOk-appended}
use Rattle.cqapri_words.proofs.fact_texts.write_fact.Goals as goal

pub returns-in-Concept-clause-part : goal.returns-in-Concept-clause-part
returns-in-Concept-clause-part g c =
    OnErr-appends c.write_pieces.result _ _
    (concept_pieces c.args.vocab.now c.args.fact c.in-Concept.pred c.in-Concept.ind c.in-Concept.is c.args.before.now _ _ _ _
    c.as_bytes.ensures.value c.text-concept.ensures.lent
    c.as_bytes-in-Concept.ensures.value c.text-name.ensures.lent) c.write_pieces.ensures.part

pub returns-in-Link-clause-exact : goal.returns-in-Link-clause-exact
returns-in-Link-clause-exact g c =
    OnOk-appended c.write_pieces-in-Link.result _ _ (link_pieces c.args.vocab.now c.args.fact c.in-Link.pred c.in-Link.from c.in-Link.to c.in-Link.is
    c.args.before.now _ _ _ _ _ _ c.as_bytes-in-Link.ensures.value c.text-role.ensures.lent
    c.as_bytes-in-Link-2.ensures.value c.text-first.ensures.lent
    c.as_bytes-in-Link-3.ensures.value c.text-second.ensures.lent) c.write_pieces-in-Link.ensures.exact

pub returns-in-Link-clause-part : goal.returns-in-Link-clause-part
returns-in-Link-clause-part g c =
    OnErr-appends c.write_pieces-in-Link.result _ _ (link_pieces c.args.vocab.now c.args.fact c.in-Link.pred c.in-Link.from c.in-Link.to c.in-Link.is
    c.args.before.now _ _ _ _ _ _ c.as_bytes-in-Link.ensures.value c.text-role.ensures.lent
    c.as_bytes-in-Link-2.ensures.value c.text-first.ensures.lent
    c.as_bytes-in-Link-3.ensures.value c.text-second.ensures.lent) c.write_pieces-in-Link.ensures.part
