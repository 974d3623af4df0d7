-- What is printed of a dot's record.
--     record_text r         where the dot lies, and how grey it is
use Rattle.std.specs.Prelude.{ℕ, List, ◌++◌, codes}
use Rattle.std.specs.Fmt.{decimal}
use Rattle.words.specs.declared.record.DotRecord.{DotRecord}

abbrev pub record_text : DotRecord → List ℕ
record_text r = codes "across " ++ decimal r.across ++ codes ", down " ++ decimal r.down ++ codes ", grey " ++ decimal r.grey
