use Rattle.priority_graph.proofs.InputLemmas.{means_the_input}
use Rattle.priority_graph.proofs.laws.priority_means_the_input.Goals as goal

pub returns : goal.returns
returns c = record { means = λ kb mode p of. means_the_input kb mode p of (c.local_form.ensures kb mode) }
