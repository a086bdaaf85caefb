use Rattle.std.proofs.Common.{◌≡◌, ◌∙◌, ◌∷◌, ◌++◌, [], length, sym, subst}
use Rattle.std.specs.Prelude.{codes, flat_map}
use Rattle.lean_checker.specs.Verdicts.{verdict_words}
use Rattle.lk_model.specs.Checks.Checks.{Accepts}
use Rattle.lk_model.specs.Texts.PlainText.{line}
use Rattle.lk_model.specs.declared.document.DoneDocument.{DoneDocument}
use Rattle.command_endings.specs.Commands.Report.{row, row_line}
use Rattle.command_endings.proofs.DemoEndings.{reduces_formula, writes_demo}
use Rattle.command_endings.proofs.demo.lines_of.Goals as goal

pub matching_size-requires-clause-formula : goal.matching_size-requires-clause-formula
matching_size-requires-clause-formula g c κs within = c.vars-vars.ensures.formula

pub verdict_on-requires-clause-accepted : goal.verdict_on-requires-clause-accepted
verdict_on-requires-clause-accepted g c κs within =
    subst (λ (d : DoneDocument). Accepts c.args.f.now d) (sym c.in_ok-document.ensures.document)
    (reduces_formula c.args.f.now c.args.found c.in_ok-document.ensures.formula c.in_ok-document.ensures.limits c.requires.found.kernel).accepted

pub returns : goal.returns
returns g c =
    let number = c.args.number in
    let matching = c.in_ok-matching.matching in
    let vars : c.from.result ≡ 2200 = c.from.ensures ∙ c.vars-vars.ensures.value ∙ c.requires.vars in
    let clauses : c.from-2.result ≡ 6400 = c.from-2.ensures ∙ c.len.ensures.value ∙ c.requires.clauses in
    let general : c.len-general.result ≡ length c.args.found.kept = c.len-general.ensures in
    let rows = c.in_ok-text.ensures
    ∙ (λ i. flat_map row_line (row (codes "demo") number ∷ row (codes "variables") (vars i) ∷ row (codes "clauses") (clauses i) ∷ row (codes "matching") matching ∷ row (codes "general") (general i) ∷ [])) in
    writes_demo number matching c.args.f.now c.args.found c.put_line.new.text.items c.requires.formula c.in_ok-document.ensures.formula c.in_ok-document.ensures.limits c.requires.found c.in_ok-matching.ensures
    (c.in_ok-put_line.ensures ∙ (λ i. rows i ++ line (verdict_words (c.in_ok-verdict.ensures i))))
