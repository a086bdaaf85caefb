use Rattle.std.proofs.Common.{refl}
use Rattle.line_text.specs.Fields.{fields}
use Rattle.answer_text.proofs.AnswerReads.{core_ready, core_taken}
use Rattle.answer_text.proofs.draft.take_line.Goals as goal

pub take_core-requires : goal.take_core-requires
take_core-requires c = core_ready c.args.n c.args.m c.args.draft.now c.in-Core.core c.requires c.in-Core.is

pub returns-in-Core : goal.returns-in-Core
returns-in-Core c =
    core_taken c.args.n c.args.m c.args.draft.now _ c.in-Core.core c.take_core.new.draft (fields c.args.line.now) c.take_core.result c.in-Core.is refl c.take_core.ensures
