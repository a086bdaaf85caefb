use Rattle.std.proofs.Common.{◌≡◌, ◌∙◌, ◌+◌, ◌-◌, ◌<◌, ◌++◌, ℕ, List, length, take, drop, ap, sym, subst, arith}
use Rattle.std.specs.Prelude.{replicate}
use Rattle.kernel_laws.proofs.Overwritten.{whole}
use Rattle.check_rounds.specs.Blocking.{AreBlocks, AreSeen, BlocksRound}
use Rattle.check_rounds.proofs.BlockTables.{blocks_none, blocks_more, seen_none, seen_next}
use Rattle.check_rounds.proofs.Reaching.{round_steps}
use Rattle.check_rounds.proofs.blocking.blocks_of.Goals as goal

pub block-requires-clause-steps : goal.block-requires-clause-steps
block-requires-clause-steps c =
    round_steps c.args.f.now.vars (length c.args.f.now.clauses) c.args.rounds.now (c.loop-k.k - 1) c.index-rounds-k.result c.requires (omega arith) c.index-rounds-k.is

pub loop-k-init : goal.loop-k-init
loop-k-init c =
    let F = c.args.f.now in
    let end = length c.args.rounds.now in
    let table : c.in_ok-table.table.items ≡ replicate F.vars end = c.in_ok-table.ensures.items_if_clones_equal (λ y e. e) ∙ ap (λ (n : ℕ). replicate n end) c.vars.ensures.value in
    let seen : c.in_ok-seen.seen.items ≡ replicate (length F.clauses) end = c.in_ok-seen.ensures.items_if_clones_equal (λ y e. e) ∙ ap (λ (n : ℕ). replicate n end) c.len.ensures.value in
    record {
      blocks = blocks_none F c.args.rounds.now c.in_ok-table.table.items table;
      seen = seen_none F end c.in_ok-seen.seen.items c.in_ok-table.table.items seen table;
    }

pub block-requires-clause-seen : goal.block-requires-clause-seen
block-requires-clause-seen c =
    let F = c.args.f.now in
    let next : c.loop-k.k ≡ c.loop-k.k - 1 + 1 = omega arith in
    subst (λ (ns : List ℕ). AreSeen F (c.loop-k.k - 1) ns c.deref_mut-in-loop-k.result.now) (sym c.deref_mut.ensures.value)
    (subst (λ (ns : List ℕ). AreSeen F (c.loop-k.k - 1) c.loop-k.seen.items ns) (sym c.deref_mut-in-loop-k.ensures.value)
    (seen_next F (c.loop-k.k - 1) c.loop-k.k c.loop-k.seen.items c.loop-k.table.items next c.loop-k.invariant.seen))

pub loop-k-preserved : goal.loop-k-preserved
loop-k-preserved c =
    let F = c.args.f.now in
    let rounds = c.args.rounds.now in
    let k = c.loop-k.k - 1 in
    let r = c.index-rounds-k.result in
    let before = c.loop-k.table.items in
    let after = c.block.new.table in
    let later = c.block.new.seen in
    let inside : k < length rounds = omega arith in
    let next : c.loop-k.k ≡ k + 1 = omega arith in
    let b : BlocksRound F k r before after = subst (λ (table : List ℕ). BlocksRound F k r table after) c.deref_mut-in-loop-k.ensures.value c.in_ok-block.ensures.blocked in
    let size : length after ≡ c.loop-k.table.len = omega (arith, b.size, c.loop-k.table.ok.0) in
    let count : length later ≡ c.loop-k.seen.len = omega (arith, c.in_ok-block.ensures.seen.size, c.loop-k.invariant.seen.size, c.loop-k.seen.ok.0) in
    let table = whole c.loop-k.table.len after before size (omega (arith, size, c.loop-k.table.ok.0)) in
    let seen = whole c.loop-k.seen.len later c.loop-k.seen.items count (omega (arith, count, c.loop-k.seen.ok.0)) in
    record {
      blocks = subst (λ (ns : List ℕ). AreBlocks F k (drop k rounds) ns) (sym table) (blocks_more F rounds k c.loop-k.k r before after next inside c.index-rounds-k.is b c.loop-k.invariant.blocks);
      seen = subst (λ (ns : List ℕ). AreSeen F k ns (take c.loop-k.table.len (after ++ drop (length after) before))) (sym seen) (subst (λ (ns : List ℕ). AreSeen F k later ns) (sym table) c.in_ok-block.ensures.seen);
    }

pub returns : goal.returns
returns c =
    let none : c.loop-k.k ≡ 0 = omega (arith, c.loop-k-test.false) in
    subst (λ (k : ℕ). AreBlocks c.args.f.now k (drop k c.args.rounds.now) c.loop-k.table.items) none c.loop-k.invariant.blocks
