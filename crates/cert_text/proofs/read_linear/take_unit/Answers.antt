use Rattle.std.proofs.Common.{◌≡◌, ◌∷◌, ◌++◌, [], ◌∙◌, map, ℕ, List, ap, sym}
use Rattle.lk_model.specs.declared.document.Unit.{Unit}
use Rattle.cert_text.specs.declared.read_linear.LinearPart.{LinearPart}
use Rattle.line_text.specs.Fields.{fields}
use Rattle.cert_text.specs.LinearLines.{unit_within}
use Rattle.line_text.specs.LastVars.{last_or}
use Rattle.line_text.proofs.Takings.{taken_by, not_by}
use Rattle.cert_text.proofs.read_linear.take_unit.Goals as goal

last_is : (units slice : List Unit) (last : ℕ) → last ≡ last_or 0 (map (λ (u : Unit). u.var) slice) → slice ≡ units → last ≡ last_or 0 (map (λ (u : Unit). u.var) units)
last_is units slice last is same = is ∙ ap (λ (us : List Unit). last_or 0 (map (λ (u : Unit). u.var) us)) same

pub returns-in_default : goal.returns-in_default
returns-in_default c =
    let p = c.args.part.now in
    let last = last_is p.units c.as_slice.result.now c.last_var-last.result c.last_var-last.ensures c.as_slice.ensures in
    not_by (λ (u : Unit). let next : LinearPart = record p { units = p.units ++ u ∷ [] } in next) _ _ (sym c.in_default.is ∙ c.in_ok-unit.ensures ∙ ap (λ (k : ℕ). unit_within k c.args.n c.args.m (fields c.args.rest.now)) last)

pub returns : goal.returns
returns c =
    let p = c.args.part.now in
    let last = last_is p.units c.as_slice.result.now c.last_var-last.result c.last_var-last.ensures c.as_slice.ensures in
    taken_by (λ (u : Unit). let next : LinearPart = record p { units = p.units ++ u ∷ [] } in next) _ c.in-Some.unit _ (sym c.in-Some.is ∙ c.in_ok-unit.ensures ∙ ap (λ (k : ℕ). unit_within k c.args.n c.args.m (fields c.args.rest.now)) last)
    (ap (λ (us : List Unit). let next : LinearPart = record p { units = us } in next) c.in_ok-push.ensures.ok)
