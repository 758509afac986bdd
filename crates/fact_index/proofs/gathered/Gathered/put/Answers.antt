use Rattle.std.proofs.Common.{◌≡◌, Some, slice_get, sym, ap, ◌∙◌, arith}
use Rattle.fact_index.proofs.PlaceLemmas.{same_is, whole_pushed, told_pushed}
use Rattle.fact_index.proofs.gathered.Gathered.put.Goals as goal

pub returns-clause-whole : goal.returns-clause-whole
returns-clause-whole c =
    let keys = c.in_ok-at.ensures.keys in
    let stored = c.in_ok-at.ensures.stored in
    let number : c.in_ok-at.at ≡ c.in-Ok.key = omega (arith, c.in-Ok.ensures) in
    let at : slice_get c.insert_full.new.self.keys c.in-Ok.key ≡ Some c.args.place =
    rw number at (stored.1 ∙ ap Some (sym (same_is c.args.place stored.0 stored.2))) in
    rw (keys, c.in_ok-push.ensures.items) (whole_pushed c.args.self.now.places.keys c.args.self.now.entries.items c.args.place c.args.number c.in-Ok.key
    c.requires.whole (rw keys at at))

pub returns-clause-exact : goal.returns-clause-exact
returns-clause-exact c =
    let keys = c.in_ok-at.ensures.keys in
    let stored = c.in_ok-at.ensures.stored in
    let number : c.in_ok-at.at ≡ c.in-Ok.key = omega (arith, c.in-Ok.ensures) in
    let at : slice_get c.insert_full.new.self.keys c.in-Ok.key ≡ Some c.args.place =
    rw number at (stored.1 ∙ ap Some (sym (same_is c.args.place stored.0 stored.2))) in
    rw (keys, c.in_ok-push.ensures.items) (told_pushed c.args.self.now.places.keys c.args.self.now.entries.items c.args.place c.args.number c.in-Ok.key
    c.requires.whole (rw keys at at))
