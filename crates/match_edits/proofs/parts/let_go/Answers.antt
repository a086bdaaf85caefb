use Rattle.std.proofs.Common.{◌-◌, List, ℕ, get_or, ap, sym, subst, ◌∙◌}
use Rattle.bipartite_match.specs.declared.augmenting.Start.TheVariants.{Variable}
use Rattle.bipartite_match.specs.declared.pairs.Pairs.{Pairs}
use Rattle.bipartite_match.specs.Behind.{matching_of}
use Rattle.match_edits.specs.EditLaws.{RestoredBy}
use Rattle.match_edits.proofs.Covered.{bare_restored}
use Rattle.match_edits.proofs.Holding.{pairs_back}
use Rattle.match_edits.proofs.parts.let_go.Goals as goal

pub restore-requires : goal.restore-requires
restore-requires g c =
    let w = c.requires.restored in let p = c.args.pairs.now in
    (w.0, w.1, subst (λ (vs : List ℕ). RestoredBy c.args.held.now w.0 (matching_of w.1 (record p { of_var = vs }) c.args.marks.now) (Variable c.args.v)) (sym c.set.ensures) w.2)

pub returns-then-len-eq0-clause-live : goal.returns-then-len-eq0-clause-live
returns-then-len-eq0-clause-live g c = λ part own r.
    let p = c.args.pairs.now in (
      own,
      bare_restored c.args.held.now part (matching_of own (record p { of_var = c.set.new.self }) c.args.marks.now) (Variable c.args.v)
          (subst (λ (vs : List ℕ). RestoredBy c.args.held.now part (matching_of own (record p { of_var = vs }) c.args.marks.now) (Variable c.args.v)) (sym c.set.ensures) r)
          (sym c.len.ensures ∙ c.if-len-eq0.true),
    )

pub returns-clause-live : goal.returns-clause-live
returns-clause-live g c = λ part own r.
    let p = c.args.pairs.now in
    c.in_default.ensures.live part own
    (subst (λ (vs : List ℕ). RestoredBy c.args.held.now part (matching_of own (record p { of_var = vs }) c.args.marks.now) (Variable c.args.v)) (sym c.set.ensures) r)

pub returns-in-Err-clause-err : goal.returns-in-Err-clause-err
returns-in-Err-clause-err g c =
    let p = c.args.pairs.now in
    pairs_back p c.restore.new.pairs c.args.v c.number_at_index-number.result c.set-in-Err.new.self c.requires.some c.requires.within
    (c.number_at_index-number.ensures ∙ ap (λ (xs : List ℕ). get_or xs (c.args.v - 1) 0) c.as_slice.ensures)
    (c.in-Err.ensures.err ∙ ap (λ (vs : List ℕ). let x : Pairs = record p { of_var = vs } in x) c.set.ensures)
    c.set-in-Err.ensures
