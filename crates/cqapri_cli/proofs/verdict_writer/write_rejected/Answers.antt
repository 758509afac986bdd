use Rattle.cqapri_cli.proofs.verdict_writer.write_rejected.Goals as goal

pub returns-clause-exact : goal.returns-clause-exact
returns-clause-exact g c = rw (← c.format-digits.ensures.text, ← c.as_bytes.ensures.value, ← c.word.ensures.exact, ← c.as_bytes-2.ensures.value)
    c.write_pieces.ensures.exact

pub returns-clause-part : goal.returns-clause-part
returns-clause-part g c = rw (← c.format-digits.ensures.text, ← c.as_bytes.ensures.value, ← c.word.ensures.exact, ← c.as_bytes-2.ensures.value)
    c.write_pieces.ensures.part
