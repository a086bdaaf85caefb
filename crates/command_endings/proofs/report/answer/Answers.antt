use Rattle.std.proofs.Common.{refl}
use Rattle.command_endings.proofs.report.answer.Goals as goal

pub returns : goal.returns
returns c = record {
  result = refl;
  answers = record {
    status_is = refl;
    writes = c.in_ok-report_of.ensures;
    silent = c.new.ensures.items;
  };
}
