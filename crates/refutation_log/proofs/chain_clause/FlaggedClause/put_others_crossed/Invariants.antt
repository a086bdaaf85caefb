use Rattle.std.proofs.Common.{◌++◌, take}
use Rattle.lk_model.specs.Formulas.Crossed.{crossed_out}
use Rattle.lk_model.specs.Held.VariableSets.{is_in}
use Rattle.lk_model.specs.Chains.Chain.{without}
use Rattle.refutation_log.specs.SameClause.{HaveSame}
use Rattle.refutation_log.proofs.chain_clause.FlaggedClause.put_others_crossed.Given as goal

abbrev pub invariant-loop-l : goal.invariant-loop-l
invariant-loop-l l = HaveSame l.self (l.fn.self ++ without (crossed_out (is_in l.blocked) (take l.l-index l.clause)) l.but)
