-- When a search has found too many rows.
use Rattle.std.specs.Prelude.{ℕ, ◌<◌, List, length}
use Rattle.std.specs.List.Sorted.{IsStrictlySortedBy}
use Rattle.query_matching.specs.declared.row.Row.{Row}
use Rattle.query_matching.specs.Rows.{row_cmp}

-- there are more rows than the limit, in order
pub record AreTooMany (limit : ℕ) (rows : List Row) : Type 0 where
  pub longer : limit < length rows
  pub ordered : IsStrictlySortedBy row_cmp rows
