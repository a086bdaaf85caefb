-- Open rounds over all positions of a formula make a document that is sound for it.
use Rattle.std.proofs.Common.{◌≡◌, ◌<◌, ◌^◌, true, List, length, arith}
use Rattle.std.proofs.lemmas.Bool.{both_ways, false_from_ne_true}
use Rattle.lk_model.specs.Lists.{among}
use Rattle.lk_model.specs.Formulas.Formula.{Cnf, IsWithinLimits, is_formula, positions_of}
use Rattle.lk_model.specs.Checks.RoundChecks.{learned_steps}
use Rattle.lk_model.specs.Checks.Checks.{IsSound}
use Rattle.lk_model.specs.declared.document.Round.{Round}
use Rattle.lk_model.proofs.Rising.{range_rises}
use Rattle.kernel_laws.proofs.Occurrences.{in_positions}
use Rattle.general_laws.specs.JoinLaw.{IsApart}
use Rattle.general_laws.specs.OpenResults.{IsOpenResult, open_document}
use Rattle.general_laws.proofs.OpenResults.{open_result_law}
use Rattle.general_laws.proofs.PartLaws.{is_position}

-- there is no other position
no_other : (F : Cnf) → IsApart F (positions_of F)
no_other F p v out there = false_from_ne_true _ (λ m. both_ways (among (positions_of F) p) out (in_positions F p (is_position F p v m)))

pub open_sound : (F : Cnf) (rounds : List Round) → is_formula F ≡ true → IsWithinLimits F → IsOpenResult F (positions_of F) rounds → length (learned_steps rounds) < 2 ^ 63 → IsSound F (open_document F rounds)
open_sound F rounds form limits learning few =
    open_result_law.sound F (positions_of F) rounds form limits
    (range_rises 0 (length F.clauses) 1 (length F.clauses) (omega arith) (omega arith)) (no_other F) learning few
