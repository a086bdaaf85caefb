use Rattle.command_inputs.proofs.Streams.{Cause-then, Tells-then}
use Rattle.command_inputs.proofs.input.read_by_lines.Goals as goal

pub returns-clause-told : goal.returns-clause-told
returns-clause-told g c = Tells-then _ _ _ c.in_ok-start_text.ensures.told c.read_started_lines.ensures.told

pub returns-clause-read : goal.returns-clause-read
returns-clause-read g c = rw (← c.in_ok-start_text.ensures.unread) c.read_started_lines.ensures.read

pub returns-clause-cause : goal.returns-clause-cause
returns-clause-cause g c = Cause-then _ _ _ c.in_ok-start_text.ensures.cause c.read_started_lines.ensures.cause
