use Rattle.std.proofs.Common.{◌≡◌, ◌∙◌, ◌-◌, rules, ap}
use borrow.Author.Tests.{tests}
use Rattle.std.specs.Prelude.{find, option_map, slice_index}
use Rattle.lk_model.specs.Lists.{up_to}
use Rattle.lean_checker.specs.Common.{is_changed_line}
use Rattle.lean_checker.proofs.ClauseLines.{changed_found}
use Rattle.lean_checker.proofs.shared.kept_clause.Goals as goal

-- what is found is the position of the first line that is changed
pub returns : goal.returns
returns g c =
    let F = c.args.f.now in
    let d = c.args.d.now in
    let kept = c.as_slice-kept.result.now in
    let count = c.len.ensures.value ∙ c.requires.lines in
    let line = c.in_ok-line.ensures (is_changed_line F d.texts kept) (λ i b low high told. search (rules, tests)) in
    let told : c.map.result ≡ option_map (λ i. slice_index kept (i - 1)) c.in_ok-line.line = search rules in
    told ∙ ap (option_map (λ i. slice_index kept (i - 1))) line
    ∙ (λ j. option_map (λ i. slice_index (c.as_slice-kept.ensures j) (i - 1)) (find (is_changed_line F d.texts (c.as_slice-kept.ensures j)) (up_to (count j))))
    ∙ changed_found F d c.requires.positions c.requires.lines
