use Rattle.std.proofs.Common.{◌∙◌, sym}
use Rattle.conflict_finder.proofs.Entries.{has_key, has_no_key, noted_old, noted_new}
use Rattle.conflict_finder.proofs.first_shown.note.Goals as goal

pub returns-in_ok-insert : goal.returns-in_ok-insert
returns-in_ok-insert c = record {
  adds = rw c.in_ok-insert.ensures.entries (noted_new c.args.facts c.args.source c.args.shown.now.entries
      (has_no_key c.args.facts c.args.shown.now.entries (sym c.contains_key.ensures ∙ c.if-not-contains_key.true)));
}

pub returns-else-not-contains_key : goal.returns-else-not-contains_key
returns-else-not-contains_key c = record {
  adds = noted_old c.args.facts c.args.source c.args.shown.now.entries
      (has_key c.args.facts c.args.shown.now.entries (sym c.contains_key.ensures ∙ c.if-not-contains_key.false));
}
