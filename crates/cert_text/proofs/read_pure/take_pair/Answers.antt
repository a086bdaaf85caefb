use Rattle.std.proofs.Common.{◌≡◌, ◌∷◌, ◌++◌, [], ◌∙◌, map, ℕ, List, ap, sym}
use Rattle.lk_model.specs.declared.document.Pair.{Pair}
use Rattle.cert_text.specs.declared.read_pure.PurePart.{PurePart}
use Rattle.line_text.specs.Fields.{fields}
use Rattle.cert_text.specs.Entries.{pair_within}
use Rattle.line_text.specs.LastVars.{last_or}
use Rattle.line_text.proofs.Takings.{taken_by, not_by, behind_is}
use Rattle.cert_text.proofs.read_pure.take_pair.Goals as goal

last_is : (pairs slice : List Pair) (last : ℕ) → last ≡ last_or 0 (map (λ (q : Pair). q.var) slice) → slice ≡ pairs → last ≡ last_or 0 (map (λ (q : Pair). q.var) pairs)
last_is pairs slice last is same = is ∙ ap (λ (qs : List Pair). last_or 0 (map (λ (q : Pair). q.var) qs)) same

pub returns-in_default-pair_in : goal.returns-in_default-pair_in
returns-in_default-pair_in c =
    let p = c.args.part.now in
    let last = last_is p.pairs c.as_slice.result.now c.last_var-last.result c.last_var-last.ensures c.as_slice.ensures in
    not_by (λ (q : Pair). let next : PurePart = record p { pairs = p.pairs ++ q ∷ [] } in next) _ _
    (sym c.in_default-pair_in.is ∙ c.pair_in.ensures ∙ ap (λ (k : ℕ). pair_within k c.args.n c.args.m (fields c.in-Some.rest.now)) last
    ∙ behind_is (pair_within (last_or 0 (map (λ (q : Pair). q.var) p.pairs)) c.args.n c.args.m) _ c.behind.result c.in-Some.rest c.in-Some.is c.behind.ensures)

pub returns : goal.returns
returns c =
    let p = c.args.part.now in
    let last = last_is p.pairs c.as_slice.result.now c.last_var-last.result c.last_var-last.ensures c.as_slice.ensures in
    taken_by (λ (q : Pair). let next : PurePart = record p { pairs = p.pairs ++ q ∷ [] } in next) _ c.in-Some-pair_in.pair _
    (sym c.in-Some-pair_in.is ∙ c.pair_in.ensures ∙ ap (λ (k : ℕ). pair_within k c.args.n c.args.m (fields c.in-Some.rest.now)) last
    ∙ behind_is (pair_within (last_or 0 (map (λ (q : Pair). q.var) p.pairs)) c.args.n c.args.m) _ c.behind.result c.in-Some.rest c.in-Some.is c.behind.ensures)
    (ap (λ (qs : List Pair). let next : PurePart = record p { pairs = qs } in next) c.in_ok-push.ensures.ok)
