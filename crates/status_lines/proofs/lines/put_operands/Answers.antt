use Rattle.std.proofs.Common.{arith}
use Rattle.std.proofs.lemmas.Grind.{common_steps}
use Rattle.status_lines.proofs.lines.put_operands.Goals as goal

pub returns : goal.returns
returns c = grind (arith, common_steps)
