-- Documents without the literals on the variables of a set.
use Rattle.lk_model.specs.Formulas.Crossed.{Variables, formula_without}
use Rattle.lk_model.specs.declared.document.DoneDocument.{DoneDocument}
use Rattle.lk_model.specs.declared.document.OpenDocument.{OpenDocument}

-- the document with its clause lines crossed out, and all other lines as they are
abbrev pub document_without : DoneDocument → Variables → DoneDocument
document_without d P = record d { texts = formula_without d.texts P }

-- the unfinished document with its clause lines crossed out, and all other lines as they are
abbrev pub open_without : OpenDocument → Variables → OpenDocument
open_without d P = record d { texts = formula_without d.texts P }
