-- Steps in form.
use Rattle.std.proofs.Common.{◌≡◌, ℕ, ◌+◌, ◌-◌, ◌*◌, ◌<◌, ◌^◌, true, ◌&&◌, ◌==◌, nat_le, nat_lt, List, [], ◌∷◌, refl, map, arith}
use Rattle.std.specs.List.{list_all}
use Rattle.std.proofs.lemmas.Bool.{and_from, lt-ltb, leb-true, eqb-true}
use Rattle.lk_model.specs.Lists.{is_between, rises_within}
use Rattle.lk_model.specs.Laws.{are_in_order}
use Rattle.lk_model.specs.Formulas.Literal.{rank_of, is_literal}
use Rattle.lk_model.specs.Chains.Chain.{names_of}
use Rattle.lk_model.specs.Documents.Form.{counts_from, is_turn, is_step, are_steps}
use Rattle.lk_model.specs.declared.document.Step.{Step}
use Rattle.lk_model.specs.declared.document.Turn.{Turn}
use Rattle.lk_model.proofs.Booleans.{and_true}
use Rattle.lk_model.proofs.ListTests.{all_weaker}
use Rattle.general_laws.proofs.Chains.{are_real, real_step}
use Rattle.general_laws.proofs.Numbering.{AreRising, counts_rise}
use Rattle.general_laws.proofs.Reaching.{are_real_steps}

-- WHAT CHAINS NAME

lower_by : (number k : ℕ) → is_between 1 (number - 1) k ≡ true → nat_lt k number ≡ true
lower_by number k e =
    let both = and_true (nat_le 1 k) (nat_le k (number - 1)) e in
    let least = leb-true 1 k both.0 in
    let most = leb-true k (number - 1) both.1 in
    lt-ltb k number (omega (arith, least, most))

turns_lower : (n number : ℕ) (turns : List Turn) → list_all (is_turn n number) turns ≡ true → list_all (λ k. nat_lt k number) (map (λ (t : Turn). t.with) turns) ≡ true
turns_lower n number [] e = refl
turns_lower n number (t ∷ turns) e =
    let both = and_true (is_turn n number t) (list_all (is_turn n number) turns) e in
    and_from (nat_lt t.with number) _ (lower_by number t.with (and_true (is_literal n t.lit) (is_between 1 (number - 1) t.with) both.0).1) (turns_lower n number turns both.1)

-- the chain of a step names lower numbers
names_lower : (n : ℕ) (s : Step) → is_step n s ≡ true → list_all (λ k. nat_lt k s.number) (names_of s) ≡ true
names_lower n s e =
    let first = is_between 1 (s.number - 1) s.first in
    let turns = list_all (is_turn n s.number) s.turns in
    let a = and_true (nat_lt s.number (2 ^ 64) && rises_within 1 (2 * n + 1) (map rank_of s.clause) && first) turns e in
    let b = and_true (nat_lt s.number (2 ^ 64) && rises_within 1 (2 * n + 1) (map rank_of s.clause)) first a.0 in
    and_from (nat_lt s.first s.number) _ (lower_by s.number s.first b.1) (turns_lower n s.number s.turns a.1)

-- so the numbers rise, and each chain names lower ones
pub in_order : (n low next : ℕ) (steps : List Step) → low < next → counts_from next (map (λ (s : Step). s.number) steps) ≡ true → list_all (is_step n) steps ≡ true → are_in_order low steps ≡ true
in_order n low next [] lt c f = refl
in_order n low next (s ∷ steps) lt c f =
    let counts = and_true (s.number == next) (counts_from (next + 1) (map (λ (s : Step). s.number) steps)) c in
    let forms = and_true (is_step n s) (list_all (is_step n) steps) f in
    let same = eqb-true s.number next counts.0 in
    and_from (nat_lt low s.number && list_all (λ k. nat_lt k s.number) (names_of s)) (are_in_order s.number steps)
    (and_from (nat_lt low s.number) (list_all (λ k. nat_lt k s.number) (names_of s)) (lt-ltb low s.number (omega (arith, lt, same))) (names_lower n s forms.0))
    (in_order n s.number (next + 1) steps (omega (arith, same)) counts.1 forms.1)

-- WHAT TURNS ARE ON

-- what is known of steps in form
pub record AreFormed (m : ℕ) (steps : List Step) : Type 0 where
  pub rising : AreRising m steps
  pub real : are_real_steps steps ≡ true
  pub order : are_in_order m steps ≡ true

pub formed : (n m : ℕ) (steps : List Step) → are_steps n m steps ≡ true → AreFormed m steps
formed n m steps e =
    let both = and_true (counts_from (m + 1) (map (λ (s : Step). s.number) steps)) (list_all (is_step n) steps) e in
    record {
      rising = counts_rise m (m + 1) steps (omega arith) both.0;
      real = all_weaker (is_step n) (λ (s : Step). are_real s.turns) (real_step n) steps both.1;
      order = in_order n m (m + 1) steps (omega arith) both.0 both.1;
    }
