use Rattle.std.proofs.Common.{◌<◌, ◌≤◌, ◌∙◌, sym, refl, inl, inr, length}
use Rattle.perfect_ref.proofs.CodeLemmas.{known-from_codes, new-from_codes}
use Rattle.perfect_ref.proofs.breadth_first.note.Goals as goal

pub returns-then-holds-clause-exact : goal.returns-then-holds-clause-exact
returns-then-holds-clause-exact c =
    let told = rw (c.deref.ensures.value, c.in_ok-code.ensures, c.requires.tied) at c.holds.ensures in
    inl (known-from_codes c.args.found.now.closure c.args.query (sym told ∙ c.if-holds.true), refl)

pub returns-then-members-limit-clause-refused : goal.returns-then-members-limit-clause-refused
returns-then-members-limit-clause-refused c = λ e.
    let told = rw (c.deref.ensures.value, c.in_ok-code.ensures, c.requires.tied) at c.holds.ensures in
    let full : c.args.limit ≤ length c.args.found.now.closure = rw c.members.ensures.lent at c.if-members-limit.true in
    (new-from_codes c.args.found.now.closure c.args.query (sym told ∙ c.if-holds.false), full)

pub push-requires-clause-new : goal.push-requires-clause-new
push-requires-clause-new c =
    let told = rw (c.deref.ensures.value, c.in_ok-code.ensures, c.requires.tied) at c.holds.ensures in
    new-from_codes c.args.found.now.closure c.args.query (sym told ∙ c.if-holds.false)

pub push-requires-clause-step : goal.push-requires-clause-step
push-requires-clause-step c = (c.args.step.0, c.args.step.1, refl, c.requires.earlier)

pub returns-clause-exact : goal.returns-clause-exact
returns-clause-exact c =
    let told = rw (c.deref.ensures.value, c.in_ok-code.ensures, c.requires.tied) at c.holds.ensures in
    let room : length c.args.found.now.closure < c.args.limit = rw c.members.ensures.lent at c.if-members-limit.false in
    inr (new-from_codes c.args.found.now.closure c.args.query (sym told ∙ c.if-holds.false), room, c.in_ok-push.ensures.exact)
