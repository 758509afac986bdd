use Rattle.std.proofs.Common.{◌≡◌, ℕ, List, Some, None, sym, ap, ◌∙◌}
use Rattle.cq_io.specs.MemShelf.{place_of}
use Rattle.cq_io.proofs.FileLemmas.{bytes_under-place, bytes_under-absent}
use Rattle.cq_io.proofs.mem_shelf.bytes_under.Goals as goal

pub returns-in_err-place : goal.returns-in_err-place
returns-in_err-place c =
    let absent : place_of c.args.files.now c.args.name.now ≡ None = sym c.place_of.ensures ∙ c.in_err-place.was in
    rw c.from_residual.ensures (sym (bytes_under-absent c.args.files.now c.args.name.now absent))

pub returns : goal.returns
returns c =
    let found : place_of c.args.files.now c.args.name.now ≡ Some c.in_ok-place.place = sym c.place_of.ensures ∙ c.in_ok-place.was in
    let file = c.index-files-place.result in
    rw c.bytes.ensures (ap (λ (pair : List ℕ × List ℕ). Some pair.1) c.index-files-place.is
    ∙ sym (bytes_under-place c.args.files.now c.args.name.now c.in_ok-place.place file found))
