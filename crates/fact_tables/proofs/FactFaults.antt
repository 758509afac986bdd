-- A fact record has at most one fault, and only too many where it is right.
use Rattle.std.proofs.Common.{◌≡◌, ℕ, ◌+◌, refl}
use Rattle.fact_tables.specs.FactRecords.{FactFault, HasFault, IsFactRecord, bad_width, empty_field, most_records, not_utf8, too_many}
use Rattle.fact_tables.specs.Tables.{Fields}

pub wrong : (fault : FactFault) (number : ℕ) (fields : Fields) → HasFault fault number fields → IsFactRecord fields → number ≡ most_records + 1
wrong bad_width number fields h right = absurd (h right.width)
wrong not_utf8 number fields h right = absurd (h.1 right.texts)
wrong empty_field number fields h right = absurd (h.2 right.filled)
wrong too_many number fields h right = h.1

pub same : (fault other : FactFault) (number : ℕ) (fields : Fields) → HasFault fault number fields → HasFault other number fields → fault ≡ other
same bad_width bad_width number fields h k = refl
same bad_width not_utf8 number fields h k = absurd (h k.0)
same bad_width empty_field number fields h k = absurd (h k.0)
same bad_width too_many number fields h k = absurd (h k.0.width)
same not_utf8 bad_width number fields h k = absurd (k h.0)
same not_utf8 not_utf8 number fields h k = refl
same not_utf8 empty_field number fields h k = absurd (h.1 k.1)
same not_utf8 too_many number fields h k = absurd (h.1 k.0.texts)
same empty_field bad_width number fields h k = absurd (k h.0)
same empty_field not_utf8 number fields h k = absurd (k.1 h.1)
same empty_field empty_field number fields h k = refl
same empty_field too_many number fields h k = absurd (h.2 k.0.filled)
same too_many bad_width number fields h k = absurd (k h.0.width)
same too_many not_utf8 number fields h k = absurd (k.1 h.0.texts)
same too_many empty_field number fields h k = absurd (k.2 h.0.filled)
same too_many too_many number fields h k = refl
