use Rattle.std.proofs.Common.{◌≡◌, ◌∙◌, ◌∷◌, [], length}
use Rattle.std.proofs.lemmas.Result.{IfOk-weaker}
use Rattle.std.specs.Prelude.{codes, flat_map}
use Rattle.command_endings.specs.Commands.Report.{WritesReport, row, row_line}
use Rattle.command_endings.proofs.report.report_of.Goals as goal

pub returns : goal.returns
returns c =
    let F = c.args.f.now in
    let pure = c.in_ok-pure.pure in
    let matching = c.in_ok-matching.matching in
    let counts = c.in_ok-counts.ensures in
    let vars : c.from.result ≡ F.vars = c.from.ensures ∙ c.vars.ensures.value in
    let clauses : c.from-2.result ≡ length F.clauses = c.from-2.ensures ∙ c.len.ensures.value in
    IfOk-weaker c.text_of.result _ (λ text. WritesReport F text.items)
    (λ text told. record {
      pure = pure;
      matching = matching;
      pure_is = c.in_ok-pure.ensures;
      matching_is = c.in_ok-matching.ensures;
      written_is = told ∙ (λ i. flat_map row_line (
          row (codes "variables") (vars i) ∷ row (codes "occurring") (c.in_ok-occurring.ensures i) ∷ row (codes "clauses") (clauses i)
          ∷ row (codes "literals") ((counts i).literals) ∷ row (codes "empty") ((counts i).empty) ∷ row (codes "units") ((counts i).units)
          ∷ row (codes "tautologies") ((counts i).tautologies) ∷ row (codes "pure") pure ∷ row (codes "matching") matching ∷ []));
    })
    c.text_of.ensures
