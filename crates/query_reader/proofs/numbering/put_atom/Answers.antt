-- The names of a role's atom are put one after another.
use Rattle.std.proofs.Common.{sym, subst, option_map}
use Rattle.cq_terms.specs.declared.query.QAtom.TheVariants as atom
use Rattle.query_reader.specs.Numbering.{IsAtomOf, numbers_of}
use Rattle.query_reader.specs.Parts.{atom_of, term_view}
use Rattle.query_reader.proofs.NumberLemmas.{KeepsNumbers-trans, kept_role, role_is}
use Rattle.query_reader.proofs.numbering.put_atom.Goals as goal

pub returns-in_err-to-in-Some-clause-kept : goal.returns-in_err-to-in-Some-clause-kept
returns-in_err-to-in-Some-clause-kept c =
    KeepsNumbers-trans _ _ _ (kept_role _ _ _ c.in_ok-pred-in-Some.ensures.exact)
    (KeepsNumbers-trans _ _ _ c.in_ok-from-in-Some.ensures.kept c.in_err-to-in-Some.ensures.kept)

pub returns-in_ok-to-in-Some-clause-kept : goal.returns-in_ok-to-in-Some-clause-kept
returns-in_ok-to-in-Some-clause-kept c =
    KeepsNumbers-trans _ _ _ (kept_role _ _ _ c.in_ok-pred-in-Some.ensures.exact)
    (KeepsNumbers-trans _ _ _ c.in_ok-from-in-Some.ensures.kept c.in_ok-to-in-Some.ensures.kept)

pub returns-in_ok-to-in-Some-clause-exact : goal.returns-in_ok-to-in-Some-clause-exact
returns-in_ok-to-in-Some-clause-exact c =
    let named = c.args.atom.now in
    subst
    (λ second. IsAtomOf (numbers_of c.put_term-in-Some-2.new.variables c.put_term-in-Some-2.new.vocab)
    (atom_of named.name.now (term_view named.first) (option_map term_view second))
    (atom.Link c.in_ok-pred-in-Some.pred c.in_ok-from-in-Some.from c.in_ok-to-in-Some.to))
    (sym c.in-Some.is)
    (role_is _ _ _ _ _ _ _ _ _ c.in_ok-pred-in-Some.ensures.place c.in_ok-from-in-Some.ensures.kept c.in_ok-from-in-Some.ensures.exact
    c.in_ok-to-in-Some.ensures.kept c.in_ok-to-in-Some.ensures.exact)
