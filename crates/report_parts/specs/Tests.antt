-- A test of what may be missing.
use Rattle.std.specs.Prelude.{Bool, false, Option, Some, None}

-- whether there is one, and it passes
abbrev pub passes : {X : Type 0} → (X → Bool) → Option X → Bool
passes test None = false
passes test (Some x) = test x
