use Rattle.std.proofs.Common.{◌≡◌, true, sym, ◌∙◌, subst}
use Rattle.lk_model.specs.Linear.Phases.{may_leave}
use Rattle.exact_pivot.specs.Best.{IsBest}
use Rattle.exact_pivot.proofs.Leaving.{new_best}
use Rattle.exact_pivot.proofs.Shapes.{rights_of}
use Rattle.exact_pivot.proofs.tableau.Tableau.better.Goals as goal

pub returns-then-leaves_before : goal.returns-then-leaves_before
returns-then-leaves_before c =
    let best = subst (IsBest c.args.self.now c.args.col c.args.i) c.in-Some.is c.requires.best in
    let may : may_leave c.args.self.now c.args.col c.args.i ≡ true = cc in
    new_best c.args.self.now c.args.col c.args.i c.in-Some.b (rights_of c.args.self.now c.requires.shape) c.requires.i may best (sym c.leaves_before.ensures ∙ c.if-leaves_before.true)
