use Rattle.std.proofs.Common.{append_assoc}
use Rattle.cert_text.proofs.printing.unfinished.put_learned.Goals as goal

pub returns : goal.returns
returns c = rw (c.in_ok-put.ensures, append_assoc) at c.put_number.ensures
