-- A core whose places all have a witness, told of the formula.
use Rattle.std.proofs.Common.{◌≡◌, ℕ, zero, suc, ◌+◌, ◌<◌, ◌++◌, take, get_or, Bool, true, false, not, ◌||◌, ◌==◌, List, [], ◌∷◌, refl, sym, ◌∙◌, ap, subst, ℤ, Option, Some, None, is_some, inl, inr, map, find, length, arith}
use Rattle.std.specs.List.{list_all}
use Rattle.std.specs.Option.{option_map_or}
use Rattle.std.proofs.lemmas.Bool.{cases_Bool, eqb-true, eq-eqb, not_from_false, and_from}
use Rattle.lk_model.specs.Lists.{among, rises_within}
use Rattle.lk_model.specs.Formulas.Literal.{variable}
use Rattle.lk_model.specs.Formulas.Formula.{Cnf, clause_at, is_formula, variable_occurs}
use Rattle.lk_model.specs.Formulas.Crossed.{Variables}
use Rattle.lk_model.specs.Formulas.Assignment.{assignment_of, satisfies}
use Rattle.lk_model.specs.Documents.CoreText.{are_for, is_without}
use Rattle.lk_model.specs.Checks.CoreChecks.{satisfies_others}
use Rattle.lk_model.specs.Held.PartialValues.{assignment_by}
use Rattle.lk_model.specs.Chains.Rounds.{is_trimmed}
use Rattle.lk_model.specs.declared.document.Without.{Without}
use Rattle.lk_model.proofs.Booleans.{and_true, or_left, or_right}
use Rattle.lk_model.proofs.Founds.{all_pass}
use Rattle.lk_model.proofs.Lists.{among_here, among_later}
use Rattle.lk_model.proofs.Rising.{bounded}
use Rattle.lk_model.proofs.Variables.{occurs, variable_bound}
use Rattle.lk_model.proofs.ListTests.{one_number}
use Rattle.kernel_laws.proofs.Clauses.{mentions_of}
use Rattle.kernel_laws.proofs.Assignments.{satisfying, satisfied_at}
use Rattle.general_kernel.proofs.SetLines.{set_rises, set_true}
use Rattle.general_laws.specs.CoreLaw.{IsCore}
use Rattle.mus_core.specs.Found.{IsCoreWithin}
use Rattle.renaming_laws.specs.Renaming.{nth}
use Rattle.renaming_laws.proofs.Copies.{part_length}
use Rattle.part_copy.specs.Copies.{Copy, IsCopy}
use Rattle.part_copy.proofs.SubCopies.{rising_told}
use Rattle.part_formula.specs.declared.deciding.Refuted.{Refuted}
use Rattle.mus_core.specs.WitnessValues.{witness_at, literals_of, literals_at, IsLine, AreLines}
use Rattle.mus_core.specs.Shrinking.{IsShrunk}
use Rattle.mus_core.proofs.ShrunkCores.{none_all}

-- LINES

-- the literals of a line ascend
pub literals_rise : (G : Cnf) (on : Variables) (ws : List (Option (List (Option Bool)))) (p : ℕ) → rises_within 0 G.vars (map variable (literals_at G.vars on ws p)) ≡ true
literals_rise G on ws p = at (witness_at ws p)
  where
    at : (o : Option (List (Option Bool))) → rises_within 0 G.vars (map variable (option_map_or (literals_of G.vars on) o [])) ≡ true
    at None = refl
    at (Some values) = set_rises on (assignment_by values) G.vars

-- what the values satisfy, their literals do
kept_true : (G : Cnf) (places : List ℕ) (values : List (Option Bool)) (q : ℕ) → is_formula G ≡ true → among places q ≡ true
    → satisfies (assignment_by values) (clause_at G q) ≡ true → satisfies (assignment_of (literals_of G.vars (variable_occurs G places) values)) (clause_at G q) ≡ true
kept_true G places values q form there holds =
    let φ = assignment_by values in
    let w = satisfying φ (clause_at G q) holds in
    let mention = mentions_of (clause_at G q) w.0 w.1 in
    let bound = variable_bound G q (variable w.0) form mention in
    satisfied_at (assignment_of (literals_of G.vars (variable_occurs G places) values)) (clause_at G q) w.0 w.1
    (set_true (variable_occurs G places) φ G.vars w.0 bound.0 bound.1 (occurs G places q (variable w.0) there mention) w.2)

-- one line more
pub lines_more : (c : Copy) (on : Variables) (ws : List (Option (List (Option Bool)))) (places : List ℕ) (lines : List Without) (i p : ℕ) (w : Without) → i < length places
    → p ≡ get_or places i 0 → IsLine c on ws p w → AreLines c on ws (take i places) lines → AreLines c on ws (take (i + 1) places) (lines ++ w ∷ [])
lines_more c on ws places lines i p w lt is here all =
    subst (λ (n : ℕ). AreLines c on ws (take n places) (lines ++ w ∷ [])) (let next : suc i ≡ i + 1 = omega arith in next) (at places lines i lt is all)
  where
    at : (places : List ℕ) (lines : List Without) (i : ℕ) → i < length places → p ≡ get_or places i 0 → AreLines c on ws (take i places) lines
        → AreLines c on ws (take (suc i) places) (lines ++ w ∷ [])
    at [] lines i lt is all = absurd (omega (arith, lt))
    at (q ∷ ps) [] zero lt is all = (subst (λ (k : ℕ). IsLine c on ws k w) is here, tt)
    at (q ∷ ps) (u ∷ lines) zero lt is all = absurd all
    at (q ∷ ps) [] (suc i) lt is all = absurd all
    at (q ∷ ps) (u ∷ lines) (suc i) lt is all = (all.0, at ps lines i (omega (arith, lt)) is all.1)

-- what holds of the line of each place holds of all lines
all_lines : (t : Without → Bool) (c : Copy) (on : Variables) (ws : List (Option (List (Option Bool)))) (places : List ℕ) (lines : List Without)
    → ((p : ℕ) (w : Without) → among places p ≡ true → IsLine c on ws p w → t w ≡ true) → AreLines c on ws places lines → list_all t lines ≡ true
all_lines t c on ws [] [] h are = refl
all_lines t c on ws [] (w ∷ lines) h are = absurd are
all_lines t c on ws (p ∷ places) [] h are = absurd are
all_lines t c on ws (p ∷ places) (w ∷ lines) h are =
    and_from (t w) (list_all t lines) (h p w (among_here p places) are.0) (all_lines t c on ws places lines (λ q u m. h q u (among_later p q places m)) are.1)

-- EACH PLACE HAS A WITNESS

same_positions : (c : Copy) (on : Variables) (ws : List (Option (List (Option Bool)))) (places : List ℕ) (lines : List Without) → AreLines c on ws places lines
    → are_for (map (nth c.part) places) lines ≡ true
same_positions c on ws [] [] are = refl
same_positions c on ws [] (w ∷ lines) are = absurd are
same_positions c on ws (p ∷ places) [] are = absurd are
same_positions c on ws (p ∷ places) (w ∷ lines) are =
    and_from (w.pos == nth c.part p) (are_for (map (nth c.part) places) lines) (eq-eqb w.pos (nth c.part p) are.0.pos) (same_positions c on ws places lines are.1)

-- the values of a witness
record HasValues (ws : List (Option (List (Option Bool)))) (p : ℕ) : Type 0 where
  values : List (Option Bool)
  are : witness_at ws p ≡ Some values

has_values : (ws : List (Option (List (Option Bool)))) (p : ℕ) → is_some (witness_at ws p) ≡ true → HasValues ws p
has_values ws p e = at (witness_at ws p) refl e
  where
    at : (o : Option (List (Option Bool))) → witness_at ws p ≡ o → is_some o ≡ true → HasValues ws p
    at None is e = absurd (let f : ⊥ = cc in f)
    at (Some v) is e = record { values = v; are = is }

not_not : (b : Bool) → not (not b) ≡ true → b ≡ true
not_not true e = refl
not_not false e = absurd (let f : ⊥ = cc in f)

-- each clause but that of the place
others_true : (c : Copy) (conflicts : ℕ) (r : Refuted) (ws : List (Option (List (Option Bool)))) (p : ℕ) (w : Without) → IsCopy c → IsShrunk c conflicts r ws
    → is_some (witness_at ws p) ≡ true → among r.used p ≡ true → IsLine c (variable_occurs c.clauses r.used) ws p w → (q : ℕ) → among r.used q ≡ true
    → (nth c.part q == w.pos || satisfies (assignment_of w.lits) (clause_at c.formula (nth c.part q))) ≡ true
others_true c conflicts r ws p w copy h given there line q inside = elim (cases_Bool (q == p)) [
  | inl own ↦ or_left (nth c.part q == w.pos) _ (eq-eqb (nth c.part q) w.pos (ap (nth c.part) (eqb-true q p own) ∙ sym line.pos))
  | inr other ↦ or_right (nth c.part q == w.pos) _ (holds other)
]
  where
    holds : (q == p) ≡ false → satisfies (assignment_of w.lits) (clause_at c.formula (nth c.part q)) ≡ true
    holds other =
        let G = c.clauses in
        let v = has_values ws p given in
        let b = bounded 0 (length G.clauses) r.used q h.refuted.places inside in
        let low = b.0 in
        let are : literals_at G.vars (variable_occurs G r.used) ws p ≡ literals_of G.vars (variable_occurs G r.used) v.values = ap (λ (o : Option (List (Option Bool))). option_map_or (literals_of G.vars (variable_occurs G r.used)) o []) v.are in
        let model = h.held.witnesses p v.values there v.are q (and_from (among r.used q) (not (q == p)) inside (not_from_false (q == p) other)) in
        line.lits.satisfy q (omega (arith, low)) b.1
        (subst (λ (ls : List ℤ). satisfies (assignment_of ls) (clause_at G q) ≡ true) (sym are) (kept_true G r.used v.values q copy.dense.formula inside model))

shown : (c : Copy) (conflicts : ℕ) (r : Refuted) (ws : List (Option (List (Option Bool)))) (without : List Without) → IsCopy c → IsShrunk c conflicts r ws
    → find (λ p. not (is_some (witness_at ws p))) r.used ≡ None → AreLines c (variable_occurs c.clauses r.used) ws r.used without
    → IsCore c.formula (map (nth c.part) r.used) r.round without
shown c conflicts r ws without copy h none are = record {
  positions = rising_told c.part (length F.clauses) (length G.clauses) r.used copy.part (part_length F G c.part c.names copy.dense) h.refuted.places;
  refuted = h.refuted.refuted.refutation;
  lines = same_positions c (variable_occurs G r.used) ws r.used without are;
  literals = all_lines (is_without F.vars) c (variable_occurs G r.used) ws r.used without (λ p w m line. line.lits.ascend) are;
  satisfied = all_lines (satisfies_others F (map (nth c.part) r.used)) c (variable_occurs G r.used) ws r.used without (λ p w m line.
      all_pass (λ q. q == w.pos || satisfies (assignment_of w.lits) (clause_at F q)) (nth c.part) r.used
      (others_true c conflicts r ws p w copy h (given p m) m line)) are;
}
  where
    F : Cnf
    F = c.formula

    G : Cnf
    G = c.clauses

    given : (p : ℕ) → among r.used p ≡ true → is_some (witness_at ws p) ≡ true
    given p m = not_not (is_some (witness_at ws p)) (one_number (λ p. not (not (is_some (witness_at ws p)))) r.used p (none_all (λ p. not (is_some (witness_at ws p))) r.used none) m)

pub ends : (c : Copy) (conflicts : ℕ) (r : Refuted) (ws : List (Option (List (Option Bool)))) (core : List ℕ) (without : List Without) → IsCopy c → IsShrunk c conflicts r ws
    → find (λ p. not (is_some (witness_at ws p))) r.used ≡ None → core ≡ map (nth c.part) r.used → AreLines c (variable_occurs c.clauses r.used) ws r.used without
    → IsCoreWithin c.formula conflicts (record { core = core; round = r.round; without = without })
ends c conflicts r ws core without copy h none core_is are = record {
  core = subst (λ (ps : List ℕ). IsCore c.formula ps r.round without) (sym core_is) (shown c conflicts r ws without copy h none are);
  needed = (and_true (is_trimmed r.round) true h.refuted.refuted.needed.trimmed).0;
  most = h.refuted.refuted.most;
}
