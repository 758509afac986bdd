use Rattle.std.proofs.Common.{◌≡◌, map, take, false}
use Rattle.answer_evidence.proofs.evidence.Evidence.new.Given as goal

abbrev pub invariant-loop-cause : goal.invariant-loop-cause
invariant-loop-cause l = l.cut.items ≡ map (λ _. false) (take l._cause-index l.causes)
