-- Refutations one after another, and the steps that they need.
use Rattle.std.proofs.Common.{◌≡◌, ℕ, suc, ◌+◌, ◌≤◌, true, ◌||◌, nat_lt, nat_le, List, [], ◌∷◌, ◌++◌, ◌∙◌, ap, subst, arith, length, inl, inr}
use Rattle.std.specs.List.{list_all}
use Rattle.std.proofs.lemmas.Grind.{flat_map-append}
use Rattle.std.proofs.lemmas.Bool.{leb-true, le-leb}
use Rattle.std.proofs.lemmas.List.{append-nil, length-append, map-append}
use Rattle.lk_model.specs.Chains.Chain.{names_of}
use Rattle.lk_model.specs.Documents.Documents.{steps_of}
use Rattle.lk_model.specs.declared.document.Step.{Step}
use Rattle.lk_model.specs.declared.document.Round.{Round}
use Rattle.lk_model.proofs.Booleans.{or_true, or_left, or_right}
use Rattle.lk_model.proofs.ListTests.{all_weaker}
use Rattle.refutation_log.specs.Derivation.{Derivation}
use Rattle.refutation_log.specs.Trimmed.{trimmed, names_positions_below}
use Rattle.general_kernel.specs.TrimmedRounds.{rounds_of, trimmed_rounds, IsRefuting, AreRefuting}

-- the round of these steps
abbrev pub round_of : List Step → Round
round_of steps = record { steps = steps }

-- and of a log
abbrev pub round_of_log : Derivation → Round
round_of_log log = record { steps = log.steps }

-- one refutation more, after those before it
pub trimmed_rounds_more : (next : ℕ) (logs : List Derivation) (log : Derivation)
    → trimmed_rounds next (logs ++ log ∷ []) ≡ trimmed_rounds next logs ++ round_of (trimmed (next + length (steps_of (trimmed_rounds next logs))) log.steps) ∷ []
trimmed_rounds_more next [] log = ap (λ (k : ℕ). round_of (trimmed k log.steps) ∷ []) (let e : next ≡ next + 0 = omega arith in e)
trimmed_rounds_more next (d ∷ logs) log =
    let here = trimmed next d.steps in
    let later = steps_of (trimmed_rounds (next + length here) logs) in
    let e : next + length here + length later ≡ next + length (here ++ later) = omega (arith, length-append here later) in
    ap (λ (rs : List Round). round_of here ∷ rs) (trimmed_rounds_more (next + length here) logs log
    ∙ ap (λ (k : ℕ). trimmed_rounds (next + length here) logs ++ round_of (trimmed k log.steps) ∷ []) e)

pub refuting_more : (low first : ℕ) (logs : List Derivation) (log : Derivation) → AreRefuting low first logs → IsRefuting low (first + length (steps_of (rounds_of logs))) log
    → AreRefuting low first (logs ++ log ∷ [])
refuting_more low first [] log are one = (subst (λ (k : ℕ). IsRefuting low k log) (let e : first + 0 ≡ first = omega arith in e) one, tt)
refuting_more low first (d ∷ logs) log are one =
    let later = steps_of (rounds_of logs) in
    let e : first + length (d.steps ++ later) ≡ first + length d.steps + length later = omega (arith, length-append d.steps later) in
    (are.0, refuting_more low (first + length d.steps) logs log are.1 (subst (λ (k : ℕ). IsRefuting low k log) e one))

-- a greater bound on the positions
pub names_above : (low next first : ℕ) (steps : List Step) → low ≤ next → names_positions_below low first steps ≡ true → names_positions_below next first steps ≡ true
names_above low next first steps le h =
    all_weaker (λ (s : Step). list_all (λ k. nat_lt k low || nat_le first k) (names_of s)) (λ (s : Step). list_all (λ k. nat_lt k next || nat_le first k) (names_of s))
    (λ s. all_weaker (λ k. nat_lt k low || nat_le first k) (λ k. nat_lt k next || nat_le first k)
    (λ k e. elim (or_true (nat_lt k low) (nat_le first k) e) [
      | inl below ↦ or_left (nat_lt k next) (nat_le first k) (let lt = leb-true (suc k) low below in le-leb (suc k) next (omega (arith, lt, le)))
      | inr above ↦ or_right (nat_lt k next) (nat_le first k) above
    ]) (names_of s)) steps h

pub steps_more : (rounds : List Round) (r : Round) → steps_of (rounds ++ r ∷ []) ≡ steps_of rounds ++ r.steps
steps_more rounds r = flat_map-append (λ (q : Round). q.steps) rounds (r ∷ []) ∙ ap (λ (us : List Step). steps_of rounds ++ us) (append-nil r.steps)

pub count_more : (rounds : List Round) (r : Round) → length (steps_of (rounds ++ r ∷ [])) ≡ length (steps_of rounds) + length r.steps
count_more rounds r = ap (λ (us : List Step). length us) (steps_more rounds r) ∙ length-append (steps_of rounds) r.steps

-- and of one log more
pub count_logs : (logs : List Derivation) (log : Derivation) → length (steps_of (rounds_of (logs ++ log ∷ []))) ≡ length (steps_of (rounds_of logs)) + length log.steps
count_logs logs log = ap (λ (rs : List Round). length (steps_of rs)) (map-append round_of_log logs (log ∷ [])) ∙ count_more (rounds_of logs) (round_of_log log)
