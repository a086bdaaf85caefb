use Rattle.std.proofs.Common.{◌≡◌, ◌∙◌, Bool, List, true, length, replicate, ap}
use Rattle.std.proofs.lemmas.List.{length-replicate}
use Rattle.lk_model.specs.Held.Growing.{Growing}
use Rattle.lk_model.specs.Held.VariableSets.{is_in}
use Rattle.edit_text.proofs.Counts.{all_in}
use Rattle.edit_text.proofs.draft.draft_of.Goals as goal

pub returns-clause-tells : goal.returns-clause-tells
returns-clause-tells c =
    let n = length c.args.f.now.clauses in
    let flags : c.in_ok-vec.field-0.items ≡ replicate n true = c.in_ok-vec.ensures.items_if_clones_equal (λ y e. e) ∙ ap (λ k. replicate k true) c.len.ensures.value in
    record {
      vars = ap (λ (g : Growing). g.vars) c.in_ok-new.ensures ∙ c.vars.ensures.value;
      numbers = ap length flags ∙ length-replicate n true;
      literals = c.literals_of.ensures;
      live = λ k. ap (λ (fs : List Bool). is_in fs k) flags ∙ all_in n k;
      edits_are = c.new.ensures;
    }
