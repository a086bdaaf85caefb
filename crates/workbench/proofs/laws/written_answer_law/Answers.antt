use Rattle.workbench.proofs.WrittenAnswers.{solved_verified, written_verifies, unsolved_checks}
use Rattle.workbench.proofs.laws.written_answer_law.Goals as goal

pub returns-clause-texts : goal.returns-clause-texts
returns-clause-texts c = solved_verified

pub returns-clause-accepted : goal.returns-clause-accepted
returns-clause-accepted c = written_verifies

pub returns-clause-unfinished : goal.returns-clause-unfinished
returns-clause-unfinished c = unsolved_checks
