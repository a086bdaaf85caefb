use Rattle.std.proofs.Common.{◌≡◌, ◌&&◌, ℕ, false, not, set, sym, subst, arith}
use Rattle.std.specs.Ordering.{int_eq}
use Rattle.refutation_log.specs.Flagged.{is_flagged}
use Rattle.refutation_log.proofs.FlaggedLaws.{flag_cleared, flag_absent}
use Rattle.refutation_log.proofs.chain_clause.unflag.Goals as goal

pub returns-then-rank-len : goal.returns-then-rank-len
returns-then-rank-len c = λ k.
    let flags = c.args.flags.now.items in
    let l = c.args.l in
    subst (λ (r : ℕ). is_flagged (set flags r false) k ≡ (is_flagged flags k && not (int_eq k l))) (sym c.rank-rank.ensures.value)
    (flag_cleared flags l k (omega (arith, c.rank-rank.ensures.value, c.len.ensures, c.if-rank-len.true)))

pub returns-else-rank-len : goal.returns-else-rank-len
returns-else-rank-len c = λ k.
    flag_absent c.args.flags.now.items c.args.l k (omega (arith, c.rank-rank.ensures.value, c.len.ensures, c.if-rank-len.false))
