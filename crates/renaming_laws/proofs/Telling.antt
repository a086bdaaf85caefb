-- What is told by the words of the law is told by the numbers of the copy.
use Rattle.std.proofs.Common.{◌≡◌, ℕ, suc, ◌+◌, ◌-◌, ◌*◌, ◌^◌, true, ◌&&◌, nat_lt, nat_le, List, [], ◌∷◌, refl, sym, ◌∙◌, ℤ, pos, negsuc, map, length, arith}
use Rattle.std.specs.List.{list_all}
use Rattle.std.proofs.lemmas.Bool.{leb-true, le-leb, and_from}
use Rattle.std.proofs.lemmas.List.Folds.{list_all-append}
use Rattle.lk_model.specs.Lists.{is_between, rises_within}
use Rattle.lk_model.specs.Formulas.Literal.{variable, rank_of, is_literal}
use Rattle.lk_model.specs.Documents.Documents.{steps_of}
use Rattle.lk_model.specs.Documents.Form.{is_turn, is_step}
use Rattle.lk_model.specs.declared.document.Turn.{Turn}
use Rattle.lk_model.specs.declared.document.Step.{Step}
use Rattle.lk_model.specs.declared.document.Round.{Round}
use Rattle.lk_model.proofs.Booleans.{and_true}
use Rattle.lk_model.proofs.ListTests.{all_weaker}
use Rattle.renaming_laws.specs.Renaming.{nth, named, number_in_whole, turn_under, step_under, round_under, renamed_round}
use Rattle.renaming_laws.proofs.Mapped.{map_agrees, rises_all, rising_all}
use Rattle.renaming_laws.proofs.RenamedClauses.{literal_on}
use Rattle.renaming_laws.proofs.Told.{told, nth_told, number_told}
use Rattle.renaming_laws.proofs.Copies.{literal_told, clause_told}

-- CLAUSES AND POSITIONS

-- a literal with a rank between is one over the variables
ranked_literal : (n : ℕ) (l : ℤ) → is_between 1 (2 * n + 1) (rank_of l) ≡ true → is_literal n l ≡ true
ranked_literal n (pos v) e =
    let both = and_true (nat_le 1 (2 * v)) (nat_le (2 * v) (2 * n + 1)) e in
    let least = leb-true 1 (2 * v) both.0 in let most = leb-true (2 * v) (2 * n + 1) both.1 in
    and_from (nat_le 1 v) (nat_le v n) (le-leb 1 v (omega (arith, least))) (le-leb v n (omega (arith, most)))
ranked_literal n (negsuc k) e =
    let both = and_true (nat_le 1 (2 * suc k + 1)) (nat_le (2 * suc k + 1) (2 * n + 1)) e in
    let most = leb-true (2 * suc k + 1) (2 * n + 1) both.1 in
    and_from (nat_le 1 (suc k)) (nat_le (suc k) n) (le-leb 1 (suc k) (omega arith)) (le-leb (suc k) n (omega (arith, most)))

-- so the clause of a step is told alike
ranked_told : (names : List ℕ) (top : ℕ) (c : List ℤ) → rises_within 1 (2 * length names + 1) (map rank_of c) ≡ true → map (named names) c ≡ map (literal_on (told names top)) c
ranked_told names top c e =
    clause_told names top c (all_weaker (λ l. is_between 1 (2 * length names + 1) (rank_of l)) (is_literal (length names)) (ranked_literal (length names)) c
    (rises_all rank_of 1 (2 * length names + 1) c e))

-- so are the literals of a set line
pub set_told : (names : List ℕ) (top : ℕ) (ls : List ℤ) → rises_within 0 (length names) (map variable ls) ≡ true → map (named names) ls ≡ map (literal_on (told names top)) ls
set_told names top ls e = clause_told names top ls (rises_all variable 0 (length names) ls e)

-- and positions
pub kept_told : (part : List ℕ) (m : ℕ) (kept : List ℕ) → rises_within 0 (length part) kept ≡ true → map (nth part) kept ≡ map (told part m) kept
kept_told part m kept e =
    map_agrees (nth part) (told part m) (λ k. is_between 1 (length part) k) (λ k b.
    let both = and_true (nat_le 1 k) (nat_le k (length part)) b in nth_told part m k (leb-true 1 k both.0) (leb-true k (length part) both.1)) kept
    (rising_all 0 (length part) kept e)

-- STEPS

before_told : (part : List ℕ) (m number k : ℕ) → is_between 1 (number - 1) k ≡ true → number_in_whole part m k ≡ told part m k
before_told part m number k e = number_told part m k (leb-true 1 k (and_true (nat_le 1 k) (nat_le k (number - 1)) e).0)

turn_told : (part names : List ℕ) (top m number : ℕ) (t : Turn) → is_turn (length names) number t ≡ true → turn_under (named names) (number_in_whole part m) t ≡ turn_under (literal_on (told names top)) (told part m) t
turn_told part names top m number t e =
    let both = and_true (is_literal (length names) t.lit) (is_between 1 (number - 1) t.with) e in
    let l = literal_told names top t.lit both.0 in let w = before_told part m number t.with both.1 in
    λ j. record { lit = l j; with = w j }

step_told : (part names : List ℕ) (top m : ℕ) (s : Step) → is_step (length names) s ≡ true → step_under (named names) (number_in_whole part m) s ≡ step_under (literal_on (told names top)) (told part m) s
step_told part names top m s e =
    let n = length names in
    let a = and_true (nat_lt s.number (2 ^ 64) && rises_within 1 (2 * n + 1) (map rank_of s.clause) && is_between 1 (s.number - 1) s.first) (list_all (is_turn n s.number) s.turns) e in
    let b = and_true (nat_lt s.number (2 ^ 64) && rises_within 1 (2 * n + 1) (map rank_of s.clause)) (is_between 1 (s.number - 1) s.first) a.0 in
    let c = and_true (nat_lt s.number (2 ^ 64)) (rises_within 1 (2 * n + 1) (map rank_of s.clause)) b.0 in
    let between = and_true (nat_le 1 s.first) (nat_le s.first (s.number - 1)) b.1 in
    let least = leb-true 1 s.first between.0 in let most = leb-true s.first (s.number - 1) between.1 in
    let number = number_told part m s.number (omega (arith, least, most)) in
    let clause = ranked_told names top s.clause c.1 in
    let first = before_told part m s.number s.first b.1 in
    let turns = map_agrees (turn_under (named names) (number_in_whole part m)) (turn_under (literal_on (told names top)) (told part m)) (is_turn n s.number) (turn_told part names top m s.number) s.turns a.1 in
    λ j. record { number = number j; clause = clause j; first = first j; turns = turns j }

pub steps_told : (part names : List ℕ) (top m : ℕ) (steps : List Step) → list_all (is_step (length names)) steps ≡ true
    → map (step_under (named names) (number_in_whole part m)) steps ≡ map (step_under (literal_on (told names top)) (told part m)) steps
steps_told part names top m steps e =
    map_agrees (step_under (named names) (number_in_whole part m)) (step_under (literal_on (told names top)) (told part m)) (is_step (length names))
    (step_told part names top m) steps e

-- ROUNDS

pub rounds_told : (part names : List ℕ) (top m : ℕ) (rounds : List Round) → list_all (is_step (length names)) (steps_of rounds) ≡ true
    → map (renamed_round m part names) rounds ≡ map (round_under (literal_on (told names top)) (told part m)) rounds
rounds_told part names top m [] e = refl
rounds_told part names top m (r ∷ rounds) e =
    let both = and_true (list_all (is_step (length names)) r.steps) (list_all (is_step (length names)) (steps_of rounds))
    (sym (list_all-append (is_step (length names)) r.steps (steps_of rounds)) ∙ e) in
    let here = steps_told part names top m r.steps both.0 in
    let later = rounds_told part names top m rounds both.1 in
    λ j. (record { steps = here j }) ∷ later j
