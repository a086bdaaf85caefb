-- The stop of a call on a tableau, of one on its rows.
use Rattle.exact_rows.specs.declared.sparse.SparseStop.{SparseStop}
use Rattle.exact_rows.specs.declared.sparse.SparseStop.TheVariants as rows
use Rattle.exact_pivot.specs.declared.stop.PivotStop.{PivotStop}
use Rattle.exact_pivot.specs.declared.stop.PivotStop.TheVariants.{Wide, OutOfMemory}

abbrev pub stop_of : SparseStop → PivotStop
stop_of (rows.Wide w) = Wide w
stop_of rows.OutOfMemory = OutOfMemory
