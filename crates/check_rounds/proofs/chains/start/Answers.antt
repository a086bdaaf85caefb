use Rattle.std.proofs.Common.{[], ◌++◌, List, ℤ, Option, true, sym, subst, refl}
use Rattle.lk_model.specs.Formulas.Crossed.{crossed_out}
use Rattle.check_rounds.specs.Blocking.{is_before}
use Rattle.check_rounds.specs.Chains.{IsMade, IsWork, round_of}
use Rattle.check_rounds.proofs.chains.start.Goals as goal

pub returns-in_ok-add_all-in-Some : goal.returns-in_ok-add_all-in-Some
returns-in_ok-add_all-in-Some c =
    let over = c.args.over.now in
    let n = over.formula.now.vars in
    let k = c.args.first in
    let clause = crossed_out (is_before (round_of over k) over.blocked_at.now) c.in-Some.clause.now in
    let held : IsWork c.vars.result ([] ++ crossed_out (is_before c.round_of-k.result over.blocked_at.now) c.in-Some.clause.now) c.add_all.new.self =
    c.in_ok-add_all-in-Some.ensures [] (subst (λ m. IsWork m [] c.args.work.now) (sym c.vars.ensures.value) c.requires.work) in
    let there : IsWork n clause c.add_all.new.self =
    subst (λ m. IsWork m clause c.add_all.new.self) c.vars.ensures.value (subst (λ j. IsWork c.vars.result (crossed_out (is_before j over.blocked_at.now) c.in-Some.clause.now) c.add_all.new.self) c.round_of-k.ensures held) in
    subst (λ (o : Option (List ℤ)). IsMade n o true c.add_all.new.self) (sym c.in-Some.ensures.some) (refl, there)
