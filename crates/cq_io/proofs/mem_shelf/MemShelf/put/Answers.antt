use Rattle.std.proofs.Common.{◌≡◌, Some, None, sym, ◌∙◌}
use Rattle.cq_io.specs.MemShelf.{place_of}
use Rattle.cq_io.proofs.FileLemmas.{Puts-set, Puts-push}
use Rattle.cq_io.proofs.mem_shelf.MemShelf.put.Goals as goal

pub returns-in-Some-clause-exact : goal.returns-in-Some-clause-exact
returns-in-Some-clause-exact c =
    let found : place_of c.self.inside.files.items c.args.name.now ≡ Some c.in-Some.place =
    rw (← c.as_slice.ensures.value) (sym c.place_of.ensures ∙ c.in-Some.is) in
    rw (c.in_ok-file.ensures, ← c.self.view_is) (Puts-set c.self.inside.files.items c.in-Some.place c.args.name.now c.args.bytes.now found)

pub returns-in_ok-push-in-None-clause-exact : goal.returns-in_ok-push-in-None-clause-exact
returns-in_ok-push-in-None-clause-exact c =
    let absent : place_of c.self.inside.files.items c.args.name.now ≡ None = rw (← c.as_slice.ensures.value) (sym c.place_of.ensures ∙ c.in-None.is) in
    rw (c.in_ok-push-in-None.ensures.items, c.in_ok-file.ensures, ← c.self.view_is)
    (Puts-push c.self.inside.files.items c.args.name.now c.args.bytes.now absent)
