use Rattle.std.proofs.Common.{◌≡◌, ◌∙◌, ◌+◌, ◌-◌, ◌<◌, length, get_or, drop, ap, sym, subst, arith, ℤ, pos, Some}
use Rattle.std.specs.Prelude.{slice_set}
use Rattle.lk_model.specs.Formulas.Literal.{literal_of}
use Rattle.lk_model.specs.declared.document.Weight.{Weight}
use Rattle.kernel_laws.proofs.WeightLines.{weight_within}
use Rattle.reductions.specs.SignTables.{weight_literal, NotesSigns}
use Rattle.reductions.proofs.SignTables.{read_above, weights_more}
use Rattle.reductions.proofs.set_line.note_weights.Goals as goal

-- what stands where there is no weight
abbrev no_weight : Weight
no_weight = record { var = 0; x = pos 0 }

pub overflow_sub-weight : goal.overflow_sub-weight
overflow_sub-weight c =
    let inside : c.loop-i.i - 1 < length c.args.weights.now = omega arith in
    (weight_within c.args.n c.args.weights.now (c.loop-i.i - 1) no_weight c.requires.rising c.requires.nonzero inside).first

pub from_var-requires-clause-first : goal.from_var-requires-clause-first
from_var-requires-clause-first c =
    let inside : c.loop-i.i - 1 < length c.args.weights.now = omega arith in
    (weight_within c.args.n c.args.weights.now (c.loop-i.i - 1) no_weight c.requires.rising c.requires.nonzero inside).first

pub from_var-requires-clause-last : goal.from_var-requires-clause-last
from_var-requires-clause-last c =
    let inside : c.loop-i.i - 1 < length c.args.weights.now = omega arith in
    let w = weight_within c.args.n c.args.weights.now (c.loop-i.i - 1) no_weight c.requires.rising c.requires.nonzero inside in
    omega (arith, w.last, c.requires.limit)

pub bounds-table-weight : goal.bounds-table-weight
bounds-table-weight c =
    let inside : c.loop-i.i - 1 < length c.args.weights.now = omega arith in
    let w = weight_within c.args.n c.args.weights.now (c.loop-i.i - 1) no_weight c.requires.rising c.requires.nonzero inside in
    omega (arith, w.first, w.last, c.loop-i.invariant.size, c.requires.size)

pub loop-i-preserved : goal.loop-i-preserved
loop-i-preserved c =
    let weights = c.args.weights.now in
    let i = c.loop-i.i - 1 in
    let inside : i < length weights = omega arith in
    let next : c.loop-i.i ≡ i + 1 = omega arith in
    let w = weight_within c.args.n weights i no_weight c.requires.rising c.requires.nonzero inside in
    let read : Weight = get_or weights i no_weight in
    let literal : c.from_var.result ≡ weight_literal read = c.from_var.ensures ∙ ap (literal_of read.var) (read_above read.x w.range) in
    subst (λ (l : ℤ). NotesSigns c.args.n (drop i weights) c.args.table.now (slice_set c.loop-i.table (read.var - 1) (Some l))) (sym literal)
    (weights_more c.args.n weights i c.loop-i.i no_weight c.args.table.now c.loop-i.table next inside w.first w.last (omega (arith, c.loop-i.invariant.size, c.requires.size)) c.loop-i.invariant)
