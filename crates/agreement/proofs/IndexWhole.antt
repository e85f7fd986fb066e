-- An index beside a space that passes the check.
use Rattle.space.specs.Layout.{sizes_of}
use Rattle.plain.specs.Coding.{coding_of}
use Rattle.agreement.specs.Whole.{table_of, edition_of}
use Rattle.agreement.specs.Indexed.{IndexedWhole, LookupFirstWhole, BuildWhole}
use Rattle.agreement.proofs.Holding.{Holds}
use Rattle.agreement.proofs.IndexSteps.{trace-indexed, step-lookup}
use Rattle.agreement.proofs.IndexBuilt.{build-held, found-held}
use Rattle.agreement.proofs.WholeSpaces.{space-holds, whole-known}

pub indexed-whole : IndexedWhole
indexed-whole cs qs w =
    let k = whole-known cs w in
    trace-indexed (edition_of cs) k.0 (table_of cs) cs (space-holds (edition_of cs) k.0 cs k.1.0 k.1.1 w) qs

pub lookup-first-whole : LookupFirstWhole
lookup-first-whole cs index q w =
    let k = whole-known cs w in
    step-lookup (edition_of cs) k.0 (table_of cs) cs (space-holds (edition_of cs) k.0 cs k.1.0 k.1.1 w) index q

pub build-whole : BuildWhole
build-whole cs index w =
    let k = whole-known cs w in
    let held : Holds (sizes_of (edition_of cs)) (coding_of (edition_of cs)) (table_of cs) cs = space-holds (edition_of cs) k.0 cs k.1.0 k.1.1 w in
    (build-held (edition_of cs) k.0 (table_of cs) cs held index, found-held (edition_of cs) k.0 (table_of cs) cs held index)
