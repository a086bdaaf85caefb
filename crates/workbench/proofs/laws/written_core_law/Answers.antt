use Rattle.workbench.proofs.WrittenCores.{extracted_verified, extracted_verifies, unextracted_checks}
use Rattle.workbench.proofs.laws.written_core_law.Goals as goal

pub returns-clause-texts : goal.returns-clause-texts
returns-clause-texts c = extracted_verified

pub returns-clause-accepted : goal.returns-clause-accepted
returns-clause-accepted c = extracted_verifies

pub returns-clause-unfinished : goal.returns-clause-unfinished
returns-clause-unfinished c = unextracted_checks
