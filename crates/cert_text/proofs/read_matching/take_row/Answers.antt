use Rattle.std.proofs.Common.{◌≡◌, ◌∷◌, ◌++◌, [], ◌∙◌, map, ℕ, List, ap, sym}
use Rattle.lk_model.specs.declared.document.MatchRow.{MatchRow}
use Rattle.cert_text.specs.declared.read_matching.MatchingPart.{MatchingPart}
use Rattle.line_text.specs.Fields.{fields}
use Rattle.cert_text.specs.Entries.{row_within}
use Rattle.line_text.specs.LastVars.{last_or}
use Rattle.line_text.proofs.Takings.{taken_by, not_by}
use Rattle.cert_text.proofs.read_matching.take_row.Goals as goal

last_is : (rows slice : List MatchRow) (last : ℕ) → last ≡ last_or 0 (map (λ (r : MatchRow). r.var) slice) → slice ≡ rows → last ≡ last_or 0 (map (λ (r : MatchRow). r.var) rows)
last_is rows slice last is same = is ∙ ap (λ (rs : List MatchRow). last_or 0 (map (λ (r : MatchRow). r.var) rs)) same

pub returns-in_default : goal.returns-in_default
returns-in_default c =
    let last = last_is c.args.part.now.rows c.as_slice.result.now c.last_var-last.result c.last_var-last.ensures c.as_slice.ensures in
    not_by (λ (r : MatchRow). let next : MatchingPart = record c.args.part.now { rows = c.args.part.now.rows ++ r ∷ [] } in next) _ _ (sym c.in_default.is ∙ c.row_in.ensures ∙ ap (λ (k : ℕ). row_within k c.args.n c.args.m (fields c.args.rest.now)) last)

pub returns : goal.returns
returns c =
    let p = c.args.part.now in
    let last = last_is p.rows c.as_slice.result.now c.last_var-last.result c.last_var-last.ensures c.as_slice.ensures in
    taken_by (λ (r : MatchRow). let next : MatchingPart = record p { rows = p.rows ++ r ∷ [] } in next) _ c.in-Some.row _ (sym c.in-Some.is ∙ c.row_in.ensures ∙ ap (λ (k : ℕ). row_within k c.args.n c.args.m (fields c.args.rest.now)) last)
    (ap (λ (rs : List MatchRow). let next : MatchingPart = record p { rows = rs } in next) c.in_ok-push.ensures.ok)
