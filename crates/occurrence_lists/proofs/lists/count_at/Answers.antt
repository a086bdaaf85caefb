use Rattle.std.proofs.Common.{◌-◌, ◌∙◌, ℕ, List, length, get_or, sym, ap}
use Rattle.lk_model.specs.Held.Flat.{begin_of}
use Rattle.occurrence_lists.proofs.Ranges.{range_length}
use Rattle.occurrence_lists.proofs.Parts.{cut_at}
use Rattle.occurrence_lists.proofs.lists.count_at.Goals as goal

pub returns : goal.returns
returns c =
    let ps = c.args.positions.now in
    let ends = c.args.ends.now in
    ap (λ (n : ℕ). get_or ends c.args.k 0 - n) c.begin_at.ensures.value
    ∙ sym (ap (λ (us : List ℕ). length us) (cut_at 0 ps ends c.args.k c.requires.place) ∙ range_length ps (begin_of 0 ends c.args.k) (get_or ends c.args.k 0) c.begin_at.ensures.within)
