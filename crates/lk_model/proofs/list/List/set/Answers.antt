use Rattle.std.proofs.Common.{ap}
use Rattle.std.specs.Prelude.{slice_set}
use Rattle.lk_model.proofs.list.List.set.Goals as goal

pub returns : goal.returns
returns g c = ap (λ xs. slice_set xs c.args.k c.args.x) c.self.view_is
