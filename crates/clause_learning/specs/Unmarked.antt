-- What the fields of `Marks` show: the number of variables, with nothing marked.
use Rattle.std.specs.Prelude.{◌≡◌, ◌*◌, ℕ, [], length}
use Rattle.clause_learning.specs.declared.analysis.Marks.TheInside.{Inside}
use Rattle.clause_meaning.specs.Marks.{HasMark}

-- the number of variables alone
abbrev pub shown : Inside → ℕ
shown m = m.variables

-- there is a place for the mark of each literal, and no literal has a mark or is counted
pub record IsUnmarked (m : Inside) : Type 0 where
  pub room : length m.resolvent.marks.items ≡ 2 * m.variables
  pub none : (l : ℕ) → HasMark m.resolvent.marks.items l → ⊥
  pub touched : m.resolvent.touched.items ≡ []
  pub newest : m.resolvent.newest ≡ 0
