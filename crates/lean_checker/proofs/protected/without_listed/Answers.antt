use Rattle.std.proofs.Common.{◌∙◌, sym, length}
use Rattle.std.proofs.lemmas.Bool.{eqb-true}
use Rattle.std.proofs.lemmas.List.{nil_from_length}
use Rattle.lean_checker.proofs.ProtectedChecks.{none_listed}
use Rattle.lean_checker.proofs.protected.without_listed.Goals as goal

pub returns-then-is_empty : goal.returns-then-is_empty
returns-then-is_empty c = none_listed c.args.f.now c.args.vars.now (nil_from_length c.args.vars.now (eqb-true (length c.args.vars.now) 0 (sym c.is_empty.ensures ∙ c.if-is_empty.true)))
