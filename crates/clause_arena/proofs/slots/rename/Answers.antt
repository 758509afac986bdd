use Rattle.std.proofs.Common.{◌≡◌, ◌<◌, ℕ, List, take, set, get_or, length, sym, subst, ap, ◌∙◌}
use Rattle.std.proofs.lemmas.List.{get_or_default}
use Rattle.std.proofs.lemmas.List.Edits.{map_over_more}
use Rattle.clause_arena.specs.declared.clause_ref.ClauseRef.{ClauseRef}
use Rattle.clause_arena.specs.State.{renumbered}
use Rattle.clause_arena.specs.Slots.{contents, full_count}
use Rattle.clause_arena.proofs.Ranking.{rest_at, rest_long}
use Rattle.clause_arena.proofs.slots.rename.Goals as goal

pub loop-i-preserved : goal.loop-i-preserved
loop-i-preserved c =
    let slots = c.args.slots.now in
    let given = c.args.refs.now in
    let refs = c.loop-i.refs in
    let i = c.loop-i.i in
    let f = λ (place : ℕ). full_count (take place (contents slots)) in
    let long : i < length refs = subst (λ (ys : List ClauseRef). i < length ys) (sym c.loop-i.invariant)
    (rest_long (renumbered f) given i c.loop-i-test.true) in
    let x = get_or refs i (record { place = 0 }) in
    let at : x ≡ get_or refs i x = get_or_default refs i (record { place = 0 }) x long in
    let was : x ≡ get_or given i x = at ∙ (ap (λ (ys : List ClauseRef). get_or ys i x) c.loop-i.invariant
    ∙ rest_at (renumbered f) given i x c.loop-i-test.true) in
    let within : x.place < length slots = subst (λ (r : ClauseRef). r.place < length slots) (sym was) (c.requires.within i x c.loop-i-test.true) in
    let place : c.place.result ≡ x.place = c.place.ensures ∙ ap (λ (r : ClauseRef). r.place) (get_or_default refs i _ (record { place = 0 }) long) in
    let ranked : (get_or slots x.place c.index-slots-place.result).rank ≡ f x.place = c.requires.ranked x.place c.index-slots-place.result within in
    let moved : c.reference_of.result.place ≡ f x.place = c.reference_of.ensures
    ∙ (ap (λ (k : ℕ). (get_or slots k c.index-slots-place.result).rank) place ∙ ranked) in
    let renamed : c.reference_of.result ≡ renumbered f x = ap (λ (k : ℕ). record { place = k }) moved in
    ap (λ (r : ClauseRef). set refs i r) renamed ∙ map_over_more (renumbered f) given refs i x c.loop-i-test.true c.loop-i.invariant at
