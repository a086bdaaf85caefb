use Rattle.std.proofs.Common.{◌≡◌, subst}
use Rattle.std.proofs.lemmas.Result.{err_from_is_err_and}
use Rattle.lk_model.specs.Linear.LinearRun.{RunDone, Moment, Ended, at_end}
use Rattle.linear_kernel.specs.Moves.{LeadsOut}
use Rattle.linear_kernel.proofs.Leads.{out_ok, out_stops}
use Rattle.linear_kernel.proofs.run.Run.end.Goals as goal

pub returns-in_err-dual : goal.returns-in_err-dual
returns-in_err-dual c =
    let m : Moment = record { pivots = c.self.inside.pivots; stages = c.self.inside.stages; rows = c.self.inside.rows } in
    subst (λ (x : Moment). LeadsOut x.pivots (at_end x) c.from_residual.result) c.self.view_is
    (let p = err_from_is_err_and c.from_residual.result c.from_residual.ensures.1 in rw (p.1, p.2) (out_stops m c.in_err-dual.field-0.0 c.in_err-dual.ensures))

pub returns : goal.returns
returns c =
    let m : Moment = record { pivots = c.self.inside.pivots; stages = c.self.inside.stages; rows = c.self.inside.rows } in
    subst (λ (x : Moment). at_end x ≡ Ended (RunDone c.self.inside.kept c.self.inside.stages c.in_ok-dual.dual c.in_ok-dual.units x.pivots)) c.self.view_is
    (out_ok m c.self.inside.kept (c.in_ok-dual.dual, c.in_ok-dual.units) c.self.invariant c.in_ok-dual.ensures)
