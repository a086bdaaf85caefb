use Rattle.std.proofs.Common.{List, ℕ, sym, subst}
use Rattle.bipartite_match.specs.declared.augmenting.Start.TheVariants.{Clause}
use Rattle.bipartite_match.specs.Behind.{matching_of}
use Rattle.match_edits.specs.EditLaws.{RestoredBy}
use Rattle.match_edits.proofs.parts.take_up.Goals as goal

pub restore-requires : goal.restore-requires
restore-requires g c =
    let w = c.requires in let p = c.args.pairs.now in
    (w.0, w.1, subst (λ (us : List ℕ). RestoredBy c.args.held.now w.0 (matching_of w.1 (record p { unmatched = us }) c.args.marks.now) (Clause c.args.number)) (sym c.in_ok-push.ensures.ok) w.2)

pub returns-clause-live : goal.returns-clause-live
returns-clause-live g c = λ part own r.
    let p = c.args.pairs.now in
    c.in_default.ensures.live part own
    (subst (λ (us : List ℕ). RestoredBy c.args.held.now part (matching_of own (record p { unmatched = us }) c.args.marks.now) (Clause c.args.number)) (sym c.in_ok-push.ensures.ok) r)
