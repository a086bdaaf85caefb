use Rattle.std.proofs.Common.{◌≡◌, [], refl, sym, subst}
use Rattle.std.specs.Prelude.{IsTrue}
use Rattle.lk_model.specs.Documents.Text.{text_of}
use Rattle.lk_model.specs.Formulas.Formula.{Cnf}
use Rattle.lk_model.specs.declared.class.Class.TheVariants.{Pure}
use Rattle.lk_model.specs.declared.document.Document.TheVariants.{Done as Finished}
use Rattle.reductions.specs.Founds.{IsFoundFor, document_of}
use Rattle.reductions.specs.Protecting.{line_of}
use Rattle.reductions.proofs.Protecting.{problem_writes}
use Rattle.command_words.specs.OptionRows.{values_of}
use Rattle.command_words.specs.declared.command.Command.TheVariants.{ReducePure}
use Rattle.command_endings.specs.Answering.{IsAnswer}
use Rattle.status_lines.specs.Statuses.{is_result}
use Rattle.status_lines.specs.declared.status.Status.{Status}
use Rattle.status_lines.specs.declared.status.Status.TheVariants.{Done}
use Rattle.command_endings.proofs.EndingFacts.{by_three}
use Rattle.command_endings.proofs.Problems.{positions_left}
use Rattle.command_endings.proofs.reduce.answer_pure.Goals as goal

pub reduced-requires : goal.reduced-requires
reduced-requires c =
    record { positions = positions_left c.args.formula (values_of c.args.options.now).protect c.in_ok-problem.problem c.left.result.now c.in-Ok.found.kept c.in_ok-problem.ensures c.left.ensures c.in-Ok.ensures.positions }

pub returns-in-Ok : goal.returns-in-Ok
returns-in-Ok c =
    let options = values_of c.args.options.now in
    let F = c.args.formula in
    let p = c.in_ok-problem.problem in
    let found = c.in-Ok.found in
    let told = c.reduced.ensures in
    by_three (λ e. e.status ≡ Done) (λ e. e.written.items ≡ text_of (Finished (document_of p.formula (line_of p) found))) (λ e. e.said.items ≡ []) (IsAnswer ReducePure options (F, tt)) c.reduced.result told.status told.written told.said
    (λ e status written said. record {
      result = subst (λ (s : Status). IsTrue (is_result s)) (sym status) refl;
      answers = record {
        status_is = status;
        writes = problem_writes F Pure options.protect p found options.pivots (document_of p.formula (line_of p) found) e.written.items
            c.in_ok-problem.ensures told.formula told.limits
            ((subst (λ (G : Cnf). IsFoundFor Pure G found) c.left.ensures c.in-Ok.ensures).reduces options.pivots) refl written;
        silent = said;
      };
    })
