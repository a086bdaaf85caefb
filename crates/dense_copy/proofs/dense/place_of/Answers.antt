use Rattle.std.proofs.Common.{arith}
use Rattle.lk_model.specs.Limits.{max_vars}
use Rattle.lk_model.proofs.Rising.{rising_count}
use Rattle.lk_model.proofs.Places.{never_missing}
use Rattle.dense_copy.proofs.dense.place_of.Goals as goal

pub overflow_cast-result : goal.overflow_cast-result
overflow_cast-result c = (let count = rising_count 0 max_vars c.args.names.now c.requires.ascend (omega arith) in omega (arith, count, c.in-Ok.ensures.bound))

pub overflow_add-result : goal.overflow_add-result
overflow_add-result c = (let count = rising_count 0 max_vars c.args.names.now c.requires.ascend (omega arith) in omega (arith, count, c.in-Ok.ensures.bound))

pub returns-in-Ok-clause-few : goal.returns-in-Ok-clause-few
returns-in-Ok-clause-few c = (let count = rising_count 0 max_vars c.args.names.now c.requires.ascend (omega arith) in omega (arith, count, c.in-Ok.ensures.bound))

pub overflow_cast-result-in-Err : goal.overflow_cast-result-in-Err
overflow_cast-result-in-Err c = absurd (never_missing max_vars c.args.names.now c.args.name c.in-Err.place c.requires.ascend c.requires.there c.in-Err.ensures.position)

pub overflow_add-result-in-Err : goal.overflow_add-result-in-Err
overflow_add-result-in-Err c = absurd (never_missing max_vars c.args.names.now c.args.name c.in-Err.place c.requires.ascend c.requires.there c.in-Err.ensures.position)

pub returns-in-Err-clause-last : goal.returns-in-Err-clause-last
returns-in-Err-clause-last c = absurd (never_missing max_vars c.args.names.now c.args.name c.in-Err.place c.requires.ascend c.requires.there c.in-Err.ensures.position)

pub returns-in-Err-clause-few : goal.returns-in-Err-clause-few
returns-in-Err-clause-few c = absurd (never_missing max_vars c.args.names.now c.args.name c.in-Err.place c.requires.ascend c.requires.there c.in-Err.ensures.position)

pub returns-in-Err-clause-name : goal.returns-in-Err-clause-name
returns-in-Err-clause-name c = absurd (never_missing max_vars c.args.names.now c.args.name c.in-Err.place c.requires.ascend c.requires.there c.in-Err.ensures.position)
