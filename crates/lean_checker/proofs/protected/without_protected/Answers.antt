use Rattle.lean_checker.proofs.ProtectedChecks.{none_protected_is}
use Rattle.lean_checker.proofs.protected.without_protected.Goals as goal

pub returns-in-None : goal.returns-in-None
returns-in-None c = none_protected_is c.args.f.now c.args.protect.now c.in-None.is
