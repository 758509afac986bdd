use Rattle.std.proofs.Common.{append_assoc, string_bytes}
use Rattle.json.specs.Print.{escape_byte}
use Rattle.report_text.proofs.end.put_end.Goals as goal

-- the pieces, from the last to the first
pub returns : goal.returns
unfolding escape_byte
returns c = record {
  exact = rw (
    c.in_ok-push_str-6.ensures.bytes,
    c.in_ok-put_long-5.ensures.exact,
    append_assoc (string_bytes c.push_str-5.new.self),
    c.in_ok-push_str-5.ensures.bytes,
    append_assoc (string_bytes c.put_long-4.new.out),
    c.in_ok-put_long-4.ensures.exact,
    append_assoc (string_bytes c.push_str-4.new.self),
    c.in_ok-push_str-4.ensures.bytes,
    append_assoc (string_bytes c.put_long-3.new.out),
    c.in_ok-put_long-3.ensures.exact,
    append_assoc (string_bytes c.push_str-3.new.self),
    c.in_ok-push_str-3.ensures.bytes,
    append_assoc (string_bytes c.put_long-2.new.out),
    c.in_ok-put_long-2.ensures.exact,
    append_assoc (string_bytes c.push_str-2.new.self),
    c.in_ok-push_str-2.ensures.bytes,
    append_assoc (string_bytes c.put_long.new.out),
    c.in_ok-put_long.ensures.exact,
    append_assoc (string_bytes c.push_str.new.self),
    c.in_ok-push_str.ensures.bytes,
    append_assoc (string_bytes c.args.out.now),
  );
}
