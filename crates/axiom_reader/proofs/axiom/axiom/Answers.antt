-- What is found is said, and what is said is found.
use Rattle.std.proofs.Common.{◌≡◌, List, ℕ, Option, Some, None, sym, ap, ◌∙◌}
use Rattle.std.specs.Prelude.{option_map, IfSome, IfNone}
use Rattle.axiom_reader.specs.Axioms.{NamedAxiom, Says}
use Rattle.axiom_reader.specs.Lines.{words_of}
use Rattle.axiom_reader.specs.Parts.{axiom_at, axiom_of}
use Rattle.axiom_reader.proofs.ParseLemmas.{axiom_complete, axiom_sound}
use Rattle.axiom_reader.proofs.axiom.axiom.Goals as goal

-- what is found is said
found : {A : Type 0} (line : List ℕ) (view : A → NamedAxiom) (o : Option A) → option_map view o ≡ axiom_at (words_of line)
    → IfSome o (λ named. Says line (view named))
found line view None e = tt
found line view (Some named) e = let said = axiom_sound (words_of line) (view named) (sym e) in record { names = said.0; words = said.1 }

-- where nothing is found, nothing is said
none : {A : Type 0} (line : List ℕ) (view : A → NamedAxiom) (o : Option A) → option_map view o ≡ axiom_at (words_of line)
    → IfNone o ((named : NamedAxiom) → ¬ (Says line named))
none line view None e = λ named says. let yes = e ∙ ap axiom_at says.words ∙ axiom_complete named says.names in cc
none line view (Some found) e = tt

pub returns-clause-found : goal.returns-clause-found
returns-clause-found c = found c.args.line.now axiom_of c.parsed.result c.parsed.ensures.exact

pub returns-clause-none : goal.returns-clause-none
returns-clause-none c = none c.args.line.now axiom_of c.parsed.result c.parsed.ensures.exact
