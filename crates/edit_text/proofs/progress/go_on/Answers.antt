use Rattle.std.proofs.Common.{refl}
use Rattle.edit_text.proofs.Standing.{sound_longer}
use Rattle.edit_text.proofs.progress.go_on.Goals as goal

pub returns-clause-sound : goal.returns-clause-sound
returns-clause-sound c = sound_longer c.args.open_line.now _ c.args.byte c.requires.other c.requires.sound refl c.in_ok-push.ensures.items
