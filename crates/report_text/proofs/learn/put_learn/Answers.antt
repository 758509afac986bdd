use Rattle.std.proofs.Common.{append_assoc, string_bytes}
use Rattle.json.specs.Print.{escape_byte}
use Rattle.report_text.proofs.learn.put_learn.Goals as goal

-- the pieces, from the last to the first
pub returns : goal.returns
unfolding escape_byte
returns c = record {
  exact = rw (
    c.in_ok-push_str-3.ensures.bytes,
    c.in_ok-put_long.ensures.exact,
    append_assoc (string_bytes c.push_str-2.new.self),
    c.in_ok-push_str-2.ensures.bytes,
    append_assoc (string_bytes c.put_ids.new.out),
    c.in_ok-put_ids.ensures.exact,
    append_assoc (string_bytes c.push_str.new.self),
    c.as_slice.ensures.lent,
    c.in_ok-push_str.ensures.bytes,
    append_assoc (string_bytes c.args.out.now),
  );
}
