use Rattle.std.proofs.Common.{◌≡◌, ◌∙◌, List, Bool, false, length, replicate, get_or, refl, ap, arith, rules}
use Rattle.std.proofs.lemmas.List.{length-replicate}
use Rattle.lk_model.proofs.VariableLists.{none_at}
use Rattle.refutation_log.proofs.reach.Marks.new.Goals as goal

pub returns-clause-shape : goal.returns-clause-shape
returns-clause-shape c =
    let positions : c.in_ok-vec.field-0.items ≡ replicate c.args.bound false = search rules in
    let steps : c.in_ok-vec-2.field-0.items ≡ replicate c.args.count false = search rules in
    record {
      first_is = refl;
      positions = ap (λ (bs : List Bool). length bs) positions ∙ length-replicate c.args.bound false;
      steps = ap (λ (bs : List Bool). length bs) steps ∙ length-replicate c.args.count false;
    }

pub returns-clause-marks : goal.returns-clause-marks
returns-clause-marks c =
    let positions : c.in_ok-vec.field-0.items ≡ replicate c.args.bound false = search rules in
    let steps : c.in_ok-vec-2.field-0.items ≡ replicate c.args.count false = search rules in
    let long = ap (λ (bs : List Bool). length bs) positions ∙ length-replicate c.args.bound false in
    record {
      apart = omega (arith, long, c.requires);
      positions = λ k lt. ap (λ (bs : List Bool). get_or bs k false) positions ∙ none_at c.args.bound k;
      steps = λ k lt. ap (λ (bs : List Bool). get_or bs k false) steps ∙ none_at c.args.count k;
    }
