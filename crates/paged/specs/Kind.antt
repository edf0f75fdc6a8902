-- What a paged memory means.
use Rattle.memory.specs.Meaning.{Meaning}
use Rattle.paged.specs.declared.kind.Paged.{Paged}
use Rattle.paged.specs.Pages.{paged}

-- the pages of its table over its bytes
abbrev pub meaning_of : Paged → Meaning
meaning_of memory = paged memory.table.now memory.bytes.now
