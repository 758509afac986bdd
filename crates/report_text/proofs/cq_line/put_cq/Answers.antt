use Rattle.std.proofs.Common.{append_assoc, string_bytes}
use Rattle.json.specs.Print.{escape_byte}
use Rattle.report_text.proofs.cq_line.put_cq.Goals as goal

-- the pieces, from the last to the first
pub returns : goal.returns
unfolding escape_byte
returns c = record {
  exact = rw (
    c.in_ok-push_str-6.ensures.bytes,
    c.in_ok-put_parent.ensures.exact,
    append_assoc (string_bytes c.push_str-5.new.self),
    c.in_ok-push_str-5.ensures.bytes,
    append_assoc (string_bytes c.put_origin.new.out),
    c.in_ok-put_origin.ensures.exact,
    append_assoc (string_bytes c.push_str-4.new.self),
    c.in_ok-push_str-4.ensures.bytes,
    append_assoc (string_bytes c.put_move_of.new.out),
    c.in_ok-put_move_of.ensures.exact,
    append_assoc (string_bytes c.push_str-3.new.self),
    c.in_ok-push_str-3.ensures.bytes,
    append_assoc (string_bytes c.put_terms.new.out),
    c.in_ok-put_terms.ensures.exact,
    append_assoc (string_bytes c.push_str-2.new.self),
    c.head.ensures.lent,
    c.in_ok-push_str-2.ensures.bytes,
    append_assoc (string_bytes c.put_atoms.new.out),
    c.in_ok-put_atoms.ensures.exact,
    append_assoc (string_bytes c.push_str.new.self),
    c.body.ensures.lent,
    c.in_ok-push_str.ensures.bytes,
    append_assoc (string_bytes c.args.out.now),
  );
}
