-- The copy of the first refuted set.
use Rattle.std.proofs.Common.{◌≡◌, ℕ, true, not, List, sym, ◌∙◌, ap, subst, arith, map, length}
use Rattle.lk_model.specs.Lists.{is_empty}
use Rattle.lk_model.specs.Formulas.Formula.{Cnf, clause_at, positions_of}
use Rattle.lk_model.specs.Formulas.Lean.{are_positions}
use Rattle.lk_model.specs.declared.document.Round.{Round}
use Rattle.lk_model.proofs.Counting.{among-range}
use Rattle.lk_model.proofs.Rising.{bounded, all_rise}
use Rattle.lk_model.proofs.ListTests.{one_number, each_number}
use Rattle.part_copy.specs.Found.{are_filled, IsPartRefuted}
use Rattle.renaming_laws.specs.Renaming.{nth}
use Rattle.part_copy.specs.Copies.{Copy, IsCopy, IsCopyOf}
use Rattle.renaming_laws.proofs.Copies.{part_length}
use Rattle.part_copy.proofs.SubCopies.{rising_told}
use Rattle.part_copy.proofs.Told.{all_places}
use Rattle.mus_core.specs.ByParts.{IsRefutedSet}
use Rattle.mus_core.specs.Shrinking.{IsRefutedWithin}

-- no clause of a part is empty where none is
pub filled_at : (F : Cnf) (part : List ℕ) → are_positions F part ≡ true → are_filled F (positions_of F) ≡ true → are_filled F part ≡ true
filled_at F part rise filled = each_number (λ p. not (is_empty (clause_at F p))) part (λ p m.
    let b = bounded 0 (length F.clauses) part p rise m in
    let low = b.0 in let high = b.1 in
    one_number (λ p. not (is_empty (clause_at F p))) (positions_of F) p filled (among-range 1 (length F.clauses) p (omega (arith, low)) (omega (arith, high))))

-- so it is with what was copied
pub filled_part : (F : Cnf) (ps : List ℕ) (c : Copy) → IsCopyOf F ps c → are_positions F ps ≡ true → are_filled F (positions_of F) ≡ true → are_filled c.formula c.part ≡ true
filled_part F ps c of rise filled =
    subst (λ (H : Cnf). are_filled H c.part ≡ true) (sym of.formula) (subst (λ (qs : List ℕ). are_filled F qs ≡ true) (sym of.part) (filled_at F ps rise filled))

-- all places of the copy are refuted
pub first_refuted : (F : Cnf) (ps : List ℕ) (c : Copy) (conflicts : ℕ) (r : Round) (used : List ℕ) → IsCopyOf F ps c → IsCopy c → IsPartRefuted F ps conflicts r
    → used ≡ positions_of c.clauses → IsRefutedWithin c conflicts (record { round = r; used = used })
first_refuted F ps c conflicts r used of copy h all =
    let there : map (nth c.part) used ≡ ps = ap (map (nth c.part)) all ∙ all_places c copy ∙ of.part in
    record {
      places = subst (λ (qs : List ℕ). are_positions c.clauses qs ≡ true) (sym all) (all_rise c.clauses);
      refuted = subst (λ (H : Cnf). IsPartRefuted H (map (nth c.part) used) conflicts r) (sym of.formula) (subst (λ (qs : List ℕ). IsPartRefuted F qs conflicts r) (sym there) h);
    }

-- A PART

-- what refutes clauses at places of a copy refutes those at the positions there
pub told_set : (F : Cnf) (ps : List ℕ) (c : Copy) (conflicts : ℕ) (used there : List ℕ) (r : Round) → IsCopyOf F ps c → IsCopy c → are_positions c.clauses used ≡ true
    → there ≡ map (nth c.part) used → IsPartRefuted c.formula (map (nth c.part) used) conflicts r → IsRefutedSet F conflicts (record { round = r; used = there })
told_set F ps c conflicts used there r of copy inside is h =
    let rise = rising_told c.part (length c.formula.clauses) (length c.clauses.clauses) used copy.part (part_length c.formula c.clauses c.part c.names copy.dense) inside in
    record {
      positions = subst (λ (H : Cnf). are_positions H there ≡ true) of.formula (subst (λ (qs : List ℕ). are_positions c.formula qs ≡ true) (sym is) rise);
      refuted = subst (λ (H : Cnf). IsPartRefuted H there conflicts r) of.formula (subst (λ (qs : List ℕ). IsPartRefuted c.formula qs conflicts r) (sym is) h);
    }
