use Rattle.std.proofs.Common.{◌≡◌, ap, sym, subst, Err}
use Rattle.std.proofs.lemmas.Result.{err_from_is_err_and}
use Rattle.cause_finder.specs.declared.refusal.CauseRefusal.TheVariants.{TooManySupports}
use Rattle.cause_finder.specs.Supports.{AreSupports}
use Rattle.cause_finder.proofs.FinalLemmas.{more_supports, no_more_supports, images_known, images_ascend, are_answers}
use Rattle.cause_finder.proofs.answers.causes.Goals as goal

pub returns-in_err-supports-clause-too_many : goal.returns-in_err-supports-clause-too_many
returns-in_err-supports-clause-too_many c = λ q closes refused.
    let (y, is, same) = err_from_is_err_and c.from_residual.result c.from_residual.ensures.1 in
    let given : c.in_err-supports.field-0.0 ≡ TooManySupports = cc (is, same, refused) in
    let closure = c.closing_list_is_closure.ensures c.args.axioms.now q c.args.closure.now c.derived.ensures.exact closes in
    more_supports c.args.axioms.now c.args.index.now q c.args.closure.now closure c.args.limit (c.in_err-supports.ensures.too_many (ap Err given))

pub candidates_of-requires : goal.candidates_of-requires
candidates_of-requires c =
    let are = subst (AreSupports c.args.index.now c.args.closure.now) (sym c.deref.ensures.value) c.in_ok-supports.ensures.exact in
    record {
      ordered = are.ascending;
      known = images_known c.args.index.now c.args.closure.now c.deref.result.now are c.args.conflicts.now.facts c.requires.facts;
      ascending = images_ascend c.args.index.now c.args.closure.now c.deref.result.now are;
    }

pub returns-clause-exact : goal.returns-clause-exact
returns-clause-exact c = λ q closes conflicts.
    let are = subst (AreSupports c.args.index.now c.args.closure.now) (sym c.deref.ensures.value) c.in_ok-supports.ensures.exact in
    let closure = c.closing_list_is_closure.ensures c.args.axioms.now q c.args.closure.now c.derived.ensures.exact closes in
    are_answers c.args.axioms.now c.args.index.now q c.args.closure.now closure c.deref.result.now are c.args.conflicts.now
    c.in_ok-candidates_of.field-0.items c.distinct.ensures.exact conflicts c.in_ok-candidates_of.ensures.exact

pub returns-clause-within : goal.returns-clause-within
returns-clause-within c = λ q closes.
    let closure = c.closing_list_is_closure.ensures c.args.axioms.now q c.args.closure.now c.derived.ensures.exact closes in
    no_more_supports c.args.axioms.now c.args.index.now q c.args.closure.now closure c.in_ok-supports.supports.items c.in_ok-supports.ensures.exact
    c.args.limit c.in_ok-supports.ensures.few
