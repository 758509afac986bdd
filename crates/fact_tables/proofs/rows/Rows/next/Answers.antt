use Rattle.fact_tables.proofs.ReaderLemmas.{reads_some, reads_none}
use Rattle.fact_tables.proofs.rows.Rows.next.Goals as goal
use Rattle.fact_tables.proofs.rows.Rows.next.Goals.{in-Ok, in-Err+in-OutOfMemory}

pub returns-clause-found : goal.returns-clause-found
returns-clause-found c = elim c.match-read_byte_record.branch [
  | in-Ok w ↦ rw (← c.self.view_is, w.result-is) (reads_some c.self.inside.reader c.read_byte_record.new.self w.in-Ok.found _ c.self.invariant
      (λ stopped. let no = c.read_byte_record.ensures.failed stopped in let is = w.in-Ok.is in cc) (rw w.in-Ok.is at c.read_byte_record.ensures.reads))
  | in-Err+in-OutOfMemory w ↦ rw w.result-is tt
]

pub returns-clause-none : goal.returns-clause-none
returns-clause-none c = elim c.match-read_byte_record.branch [
  | in-Ok w ↦ rw (← c.self.view_is, w.result-is) (reads_none c.self.inside.reader c.read_byte_record.new.self w.in-Ok.found _ c.self.invariant
      (λ stopped. let no = c.read_byte_record.ensures.failed stopped in let is = w.in-Ok.is in cc) (rw w.in-Ok.is at c.read_byte_record.ensures.reads))
  | in-Err+in-OutOfMemory w ↦ rw w.result-is tt
]
