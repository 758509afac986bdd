-- A record of a pair has at most one fault, and only too many where it is right.
use Rattle.std.proofs.Common.{◌≡◌, ℕ, ◌+◌, List, refl}
use Rattle.fact_tables.specs.PairRecords.{HasFault, IsPairRecord, PairFault, bad_number, bad_width, most_pairs, no_such_record, too_many}
use Rattle.fact_tables.specs.Tables.{Fields}

pub wrong : (records : List ℕ) (fault : PairFault) (number : ℕ) (fields : Fields) → HasFault records fault number fields → IsPairRecord records fields
    → number ≡ most_pairs + 1
wrong records bad_width number fields h right = absurd (h right.width)
wrong records bad_number number fields h right = absurd (h.1 right.numbers)
wrong records no_such_record number fields h right = absurd (h.2 right.named)
wrong records too_many number fields h right = h.1

pub same : (records : List ℕ) (fault other : PairFault) (number : ℕ) (fields : Fields) → HasFault records fault number fields
    → HasFault records other number fields → fault ≡ other
same records bad_width bad_width number fields h k = refl
same records bad_width bad_number number fields h k = absurd (h k.0)
same records bad_width no_such_record number fields h k = absurd (h k.0)
same records bad_width too_many number fields h k = absurd (h k.0.width)
same records bad_number bad_width number fields h k = absurd (k h.0)
same records bad_number bad_number number fields h k = refl
same records bad_number no_such_record number fields h k = absurd (h.1 k.1)
same records bad_number too_many number fields h k = absurd (h.1 k.0.numbers)
same records no_such_record bad_width number fields h k = absurd (k h.0)
same records no_such_record bad_number number fields h k = absurd (k.1 h.1)
same records no_such_record no_such_record number fields h k = refl
same records no_such_record too_many number fields h k = absurd (h.2 k.0.named)
same records too_many bad_width number fields h k = absurd (k h.0.width)
same records too_many bad_number number fields h k = absurd (k.1 h.0.numbers)
same records too_many no_such_record number fields h k = absurd (k.2 h.0.named)
same records too_many too_many number fields h k = refl
