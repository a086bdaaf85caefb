use Rattle.std.proofs.Common.{◌≡◌, ◌++◌, ◌∙◌, List, [], length, map, ap, arith, rules}
use Rattle.lk_model.specs.Documents.Documents.{steps_of}
use Rattle.lk_model.specs.declared.document.Round.{Round}
use Rattle.renaming_laws.specs.Renaming.{named, number_after, round_under}
use Rattle.general_laws.specs.JoinLaw.{moved, renumbered_round}
use Rattle.autarky_compose.proofs.JoinedRounds.{round_moved, rounds_more, count_more}
use Rattle.autarky_compose.proofs.rounds.all_rounds.Goals as goal

pub loop-r-preserved : goal.loop-r-preserved
loop-r-preserved c =
    let m = c.args.m in
    let before = c.loop-r.rounds in
    let up = length (steps_of before) in
    let r = c.in-Some.r in
    let at = c.from-positions.ensures in
    let last = c.loop-r.invariant.last in
    let e = c.in_ok-last.ensures in
    let after : c.append.new.rounds ≡ before ++ map (renumbered_round (moved m up)) r.rounds =
    e.rounds
    ∙ (λ j. before ++ map (round_under (named []) (number_after (at j) (last j) [])) r.rounds)
    ∙ (λ j. before ++ map (λ q. round_moved m up q j) r.rounds) in
    let count = ap (λ (rs : List Round). length (steps_of rs)) after ∙ count_more (moved m up) before r.rounds in
    let next = e.last in
    record {
      rounds = after ∙ rounds_more m [] c.loop-r.yielded r before c.loop-r.invariant.rounds;
      last = omega (arith, next, last, count);
      fits = search rules;
    }
