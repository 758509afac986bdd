-- Whether the counts may grow by one.
use Rattle.std.specs.Prelude.{◌<◌, ◌+◌, ◌^◌}
use Rattle.report_laws.specs.Standing.{Standing}

-- each count is one below the bound
pub record HasRoom (s : Standing) : Type 0 where
  pub told : s.told + 1 < 2 ^ 64
  pub ends : s.ends + 1 < 2 ^ 64
  pub learn_lines : s.learn_lines + 1 < 2 ^ 64
  pub in_brave : s.in_brave + 1 < 2 ^ 64
  pub in_iar : s.in_iar + 1 < 2 ^ 64
  pub in_ar : s.in_ar + 1 < 2 ^ 64
  pub answers : s.answers + 1 < 2 ^ 64
  pub brave : s.brave + 1 < 2 ^ 64
  pub ar : s.ar + 1 < 2 ^ 64
  pub iar : s.iar + 1 < 2 ^ 64
  pub undecided : s.undecided + 1 < 2 ^ 64
  pub total : s.total + 1 < 2 ^ 64
