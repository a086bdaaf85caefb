use Rattle.workbench.proofs.Agreement.{written_accepted, stopped_unfinished}
use Rattle.workbench.proofs.WrittenChecks.{written_checks, stopped_checks}
use Rattle.workbench.proofs.laws.written_document_law.Goals as goal

pub returns-clause-done : goal.returns-clause-done
returns-clause-done c = written_accepted

pub returns-clause-budget : goal.returns-clause-budget
returns-clause-budget c = stopped_unfinished

pub returns-clause-accepted : goal.returns-clause-accepted
returns-clause-accepted c = written_checks

pub returns-clause-unfinished : goal.returns-clause-unfinished
returns-clause-unfinished c = stopped_checks
