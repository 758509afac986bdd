use Rattle.std.proofs.Common.{append_assoc, string_bytes}
use Rattle.json.specs.Print.{escape_byte}
use Rattle.report_text.proofs.answer.put_answer.Goals as goal

-- the pieces, from the last to the first
pub returns : goal.returns
unfolding escape_byte
returns c = record {
  exact = rw (
    c.in_ok-push_str-10.ensures.bytes,
    c.in_ok-put_ids.ensures.exact,
    append_assoc (string_bytes c.push_str-9.new.self),
    c.as_slice-3.ensures.lent,
    c.in_ok-push_str-9.ensures.bytes,
    append_assoc (string_bytes c.put_texts.new.out),
    c.in_ok-put_texts.ensures.exact,
    append_assoc (string_bytes c.push_str-8.new.self),
    c.as_slice-2.ensures.lent,
    c.in_ok-push_str-8.ensures.bytes,
    append_assoc (string_bytes c.push_str-7.new.self),
    c.in_ok-push_str-7.ensures.bytes,
    append_assoc (string_bytes c.push_str-6.new.self),
    c.verdict_text-3.ensures.exact,
    c.in_ok-push_str-6.ensures.bytes,
    append_assoc (string_bytes c.put_longs.new.out),
    c.in_ok-put_longs.ensures.exact,
    append_assoc (string_bytes c.push_str-5.new.self),
    c.as_slice.ensures.lent,
    c.in_ok-push_str-5.ensures.bytes,
    append_assoc (string_bytes c.push_str-4.new.self),
    c.in_ok-push_str-4.ensures.bytes,
    append_assoc (string_bytes c.push_str-3.new.self),
    c.verdict_text-2.ensures.exact,
    c.in_ok-push_str-3.ensures.bytes,
    append_assoc (string_bytes c.push_str-2.new.self),
    c.in_ok-push_str-2.ensures.bytes,
    append_assoc (string_bytes c.push_str.new.self),
    c.verdict_text.ensures.exact,
    c.in_ok-push_str.ensures.bytes,
    append_assoc (string_bytes c.args.out.now),
  );
}
