use Rattle.std.proofs.Common.{◌≡◌, ◌+◌, ◌-◌, ◌<◌, length, get_or, arith, pos}
use Rattle.std.proofs.lemmas.Int.{to_z-of_z}
use Rattle.std.proofs.lemmas.List.Elements.{All-set}
use Rattle.std.specs.Prelude.{IsTrue}
use Rattle.lk_model.specs.Limits.{is_in_range}
use mir.Syntax.{w128}
use mir.Val.{SFits}
use Rattle.exact_rows.proofs.Wides.{fits_in_range}
use Rattle.lk_model.specs.declared.document.Weight.{Weight}
use Rattle.kernel_laws.proofs.WeightLines.{weight_within}
use Rattle.check_linear.proofs.StageChecks.{stage_more}
use Rattle.check_linear.proofs.linear.Firsts.note.Goals as goal

-- what stands where there is no weight
abbrev no_weight : Weight
no_weight = record { var = 0; x = pos 0 }

pub overflow_sub-v : goal.overflow_sub-v
overflow_sub-v c =
    let inside : c.loop-i.i - 1 < length c.args.stage.now = omega arith in
    (weight_within c.args.n c.args.stage.now (c.loop-i.i - 1) no_weight c.requires.rising c.requires.nonzero inside).first

pub index_mut-requires : goal.index_mut-requires
index_mut-requires c =
    let inside : c.loop-i.i - 1 < length c.args.stage.now = omega arith in
    let w = weight_within c.args.n c.args.stage.now (c.loop-i.i - 1) no_weight c.requires.rising c.requires.nonzero inside in
    omega (arith, w.first, w.last, c.loop-i.invariant.noted.places_size, c.requires.places, c.loop-i.self.places.ok.0)

pub index_mut-requires-in-loop-i : goal.index_mut-requires-in-loop-i
index_mut-requires-in-loop-i c =
    let inside : c.loop-i.i - 1 < length c.args.stage.now = omega arith in
    let w = weight_within c.args.n c.args.stage.now (c.loop-i.i - 1) no_weight c.requires.rising c.requires.nonzero inside in
    omega (arith, w.first, w.last, c.loop-i.invariant.noted.weights_size, c.requires.weights, c.loop-i.self.weights.ok.0)

pub loop-i-preserved : goal.loop-i-preserved
loop-i-preserved c =
    let stage = c.args.stage.now in
    let i = c.loop-i.i - 1 in
    let inside : i < length stage = omega arith in
    let next : c.loop-i.i ≡ i + 1 = omega arith in
    let w = weight_within c.args.n stage i no_weight c.requires.rising c.requires.nonzero inside in
    let fits : SFits w128 (get_or stage i no_weight).x = fits_in_range (get_or stage i no_weight).x w.range in
    let noted = stage_more c.args.n c.args.k stage i c.loop-i.i no_weight c.args.self.now.places.items c.args.self.now.weights.items c.loop-i.self.places.items c.loop-i.self.weights.items next inside w
    (omega (arith, c.loop-i.invariant.noted.places_size, c.requires.places)) (omega (arith, c.loop-i.invariant.noted.weights_size, c.requires.weights)) c.loop-i.invariant.noted in
    let range = All-set (λ z. IsTrue (is_in_range z)) c.loop-i.self.weights.items ((get_or stage i no_weight).var - 1) (get_or stage i no_weight).x w.range c.loop-i.invariant.range in
    record { noted = simp to_z-of_z noted; range = simp to_z-of_z range }
