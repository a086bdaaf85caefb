use Rattle.lk_model.proofs.LcmLaws.{lcm_is_lcm}
use Rattle.lk_model.proofs.laws.lcm_law.Goals as goal

pub returns : goal.returns
returns c = lcm_is_lcm
