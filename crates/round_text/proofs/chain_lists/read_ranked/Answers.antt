use Rattle.std.proofs.Common.{◌∷◌, ◌<◌, ◌∙◌, map, List, ℤ, ap, sym, arith}
use Rattle.lk_model.specs.Formulas.Literal.{rank_of}
use Rattle.line_text.specs.Fields.{fields, rest_fields}
use Rattle.line_text.specs.LastVars.{last_or}
use Rattle.round_text.specs.RoundLines.{ranked_then}
use Rattle.line_text.proofs.LastOnes.{last_more}
use Rattle.round_text.proofs.RoundSteps.{ranked_end, ranked_step}
use Rattle.round_text.proofs.chain_lists.read_ranked.Goals as goal

pub returns-then-eq : goal.returns-then-eq
returns-then-eq c =
    let w = c.first_field.result.0.now in
    let words = c.first_field.ensures.words ∙ ap (λ p. w ∷ rest_fields p) c.in-Some.is in
    ranked_end c.args.n _ c.words.clause (fields c.words.rest.now) w c.in-Some.behind.now c.words.invariant.told words (sym c.eq.ensures ∙ c.if-eq.true)

pub words-preserved : goal.words-preserved
words-preserved c =
    let w = c.first_field.result.0.now in
    let l = c.in-Some-literal_in.literal in
    let words = c.first_field.ensures.words ∙ ap (λ p. w ∷ rest_fields p) c.in-Some.is in
    let above : c.words.last < rank_of l = omega (arith, c.if-rank-last.false, c.rank.ensures.value) in
    record {
      told = ranked_step c.args.n _ c.words.clause l c.words.last (fields c.words.rest.now) w c.in-Some.behind.now c.words.invariant.told words (sym c.eq.ensures ∙ c.if-eq.false)
          (sym c.in-Some-literal_in.is ∙ c.literal_in.ensures) c.words.invariant.last above
          ∙ ap (λ (ls : List ℤ). ranked_then c.args.n ls (fields c.in-Some.behind.now)) (sym c.in_ok-push.ensures.ok);
      last = c.rank-last.ensures.value ∙ sym (ap (λ (ls : List ℤ). last_or 1 (map rank_of ls)) c.in_ok-push.ensures.ok ∙ last_more rank_of 1 c.words.clause l);
    }
