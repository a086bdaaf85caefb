use Rattle.std.proofs.Common.{List, ℕ, subst, sym, arith}
use Rattle.lk_model.specs.declared.document.Round.{Round}
use Rattle.general_laws.specs.Found.{IsDone, IsUnfinished}
use Rattle.general_kernel.specs.Ends.{EndsRounds}
use Rattle.general_kernel.proofs.general.general_kernel_by_lists.Goals as goal

pub run-requires-clause-begun : goal.run-requires-clause-begun
run-requires-clause-begun c =
    let e = c.in_ok-rounds.ensures in
    record { form = e.formula; limits = e.limits; first = e.first; logs = e.logs; blocked = e.blocked; next = e.next }

pub run-requires-clause-some : goal.run-requires-clause-some
run-requires-clause-some c = let e = c.in_ok-rounds.ensures in omega (arith, e.budget, e.some)

pub run-requires-clause-most : goal.run-requires-clause-most
run-requires-clause-most c = let e = c.in_ok-rounds.ensures in omega (arith, e.budget, e.most)

pub trimmed-requires : goal.trimmed-requires
trimmed-requires c = (subst (EndsRounds c.args.f.now c.args.part.now c.in_ok-rounds.rounds.budget c.run.new.rounds) c.in-Kernel.is c.in_ok-kept.ensures).0

pub returns-in_ok-trimmed-in-Kernel : goal.returns-in_ok-trimmed-in-Kernel
returns-in_ok-trimmed-in-Kernel c =
    let ends = subst (EndsRounds c.args.f.now c.args.part.now c.in_ok-rounds.rounds.budget c.run.new.rounds) c.in-Kernel.is c.in_ok-kept.ensures in
    subst (λ (n : ℕ). IsDone c.args.f.now c.args.part.now n (record { kept = c.in-Kernel.kept; set = c.in-Kernel.set; rounds = c.in_ok-trimmed-in-Kernel.field-0 })) c.in_ok-rounds.ensures.budget
    (subst (λ (rs : List Round). IsDone c.args.f.now c.args.part.now c.in_ok-rounds.rounds.budget (record { kept = c.in-Kernel.kept; set = c.in-Kernel.set; rounds = rs })) (sym c.in_ok-trimmed-in-Kernel.ensures) ends.1)

pub returns-in_ok-with_open-in-Open : goal.returns-in_ok-with_open-in-Open
returns-in_ok-with_open-in-Open c =
    let ends = subst (EndsRounds c.args.f.now c.args.part.now c.in_ok-rounds.rounds.budget c.run.new.rounds) c.in-Open.is c.in_ok-kept.ensures in
    subst (λ (n : ℕ). IsUnfinished c.args.f.now c.args.part.now n c.in_ok-with_open-in-Open.field-0) c.in_ok-rounds.ensures.budget
    (subst (λ (rs : List Round). IsUnfinished c.args.f.now c.args.part.now c.in_ok-rounds.rounds.budget rs) (sym c.in_ok-with_open-in-Open.ensures) ends)
