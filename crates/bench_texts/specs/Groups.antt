-- The lines of each group, for one number. This serves the proofs: the texts stand in `Texts`.
use Rattle.std.specs.Prelude.{ℕ, ◌+◌, ◌-◌, ◌%◌, List, codes}
use Rattle.bench_texts.specs.Lines.{line}
use Rattle.bench_texts.specs.Texts.{person, preference}
use Rattle.bench_texts.specs.declared.group.Group.{Group}
use Rattle.bench_texts.specs.declared.group.Group.TheVariants as group

-- the lines of the group for the number
abbrev pub line_of : Group → ℕ → List ℕ
line_of group.Opposed i = line (codes "K") i (codes " < not K") (i + 10)
line_of group.Narrower i = line (codes "K") (i + 20) (codes " < K") i
line_of group.NarrowerOpposed i = line (codes "K") (i + 20) (codes " < not K") (i + 10)
line_of group.Registered i = line (codes "K") i (codes " < K") 30
line_of group.Target i = line (codes "some inv R") i (codes " < K") (30 + i % 10)
line_of group.NarrowerRole i = line (codes "role R") i (codes " < R") (i - 15)
line_of group.Linked i = line (codes "K") (i + 20) (codes " < some R") i
line_of group.Person i = person i
line_of group.Preference i = preference i
