-- What a shelf over real files shows.
use Rattle.std.specs.Prelude.{ℕ}
use Rattle.cq_io.specs.declared.file_shelf.FileShelf.{FileShelf}

-- how often it has failed
abbrev pub fault_count : {R : Type 0} → FileShelf R → ℕ
fault_count shelf = shelf.faults
