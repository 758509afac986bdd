use Rattle.std.proofs.Common.{◌≡◌, ◌++◌, drop}
use Rattle.report_parts.specs.Codes.{body_code}
use Rattle.report_parts.proofs.codes.push_body.Given as goal

-- the atoms so far stand before those that are left
abbrev pub invariant-loop-atom : goal.invariant-loop-atom
invariant-loop-atom l = l.fn.words.items ++ body_code l.body ≡ l.words.items ++ body_code (drop l.atom-index l.body)
