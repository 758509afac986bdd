use Rattle.std.proofs.Common.{IsUtf8, [], string_bytes}
use Rattle.std.proofs.lemmas.List.Elements.{All-nil, All-cons, All-append}
use Rattle.report_fields.proofs.cursor.Cursor.texts.Goals as goal

pub loop-preserved : goal.loop-preserved
loop-preserved c =
    let text : IsUtf8 (string_bytes c.in_ok-from_str.field-0) = rw c.in_ok-from_str.ensures.ok c.in-Some.ensures.text in
    rw c.in_ok-push.ensures.exact (All-append IsUtf8 c.loop.texts _ c.loop.invariant (All-cons IsUtf8 _ [] text (All-nil IsUtf8)))

pub returns-then-takes-2 : goal.returns-then-takes-2
returns-then-takes-2 c =
    let text : IsUtf8 (string_bytes c.in_ok-from_str.field-0) = rw c.in_ok-from_str.ensures.ok c.in-Some.ensures.text in
    record { text = rw c.in_ok-push.ensures.exact (All-append IsUtf8 c.loop.texts _ c.loop.invariant (All-cons IsUtf8 _ [] text (All-nil IsUtf8))) }
