-- Lines of two keywords and two numbers, in their one spelling.
use Rattle.std.proofs.Common.{◌≡◌, ℕ, ◌≤◌, ◌∙◌, true, false, ◌&&◌, ◌==◌, List, [], ◌∷◌, refl, ap, arith, Option, Some, None}
use Rattle.std.specs.Prelude.{option_and_then, codes}
use Rattle.std.specs.Option.{option_map_or}
use Rattle.std.proofs.lemmas.Bool.{and_from, eq-eqb, eqb-true}
use Rattle.lk_model.specs.Limits.{max_vars, max_clauses}
use Rattle.lk_model.specs.Texts.Lines.{Word}
use Rattle.lk_model.specs.Texts.PlainText.{number_words}
use Rattle.lk_model.proofs.Booleans.{and_true}
use Rattle.line_text.specs.Fields.{after, two_within}
use Rattle.line_text.proofs.NumberForms.{two_form, two_back}
use Rattle.line_text.proofs.Words.{after_form}
use Rattle.line_text.specs.SizeLines.{has_sizes, problem_line, is_problem}

-- a line of sizes is spelled so
pub sizes_form : (first second : Word) (n count : ℕ) (words : List Word) → has_sizes first second n count words ≡ true → words ≡ first ∷ second ∷ number_words (n ∷ count ∷ [])
sizes_form first second n count words e = by_found (after first second words) refl e
  where
    by_numbers : (rest : List Word) → words ≡ first ∷ second ∷ rest → (o : Option (ℕ × ℕ)) → two_within max_vars max_clauses rest ≡ o
        → option_map_or (λ (h : ℕ × ℕ). h.0 == n && h.1 == count) o false ≡ true → words ≡ first ∷ second ∷ number_words (n ∷ count ∷ [])
    by_numbers rest w None s f = absurd (let m : ⊥ = cc in m)
    by_numbers rest w (Some h) s f =
        let both = and_true (h.0 == n) (h.1 == count) f in
        let form = two_form max_vars max_clauses rest h s in
        w ∙ ap (λ (ws : List Word). first ∷ second ∷ ws) form.spelled_so
        ∙ ap (λ (k : ℕ). first ∷ second ∷ number_words (k ∷ h.1 ∷ [])) (eqb-true h.0 n both.0)
        ∙ ap (λ (k : ℕ). first ∷ second ∷ number_words (n ∷ k ∷ [])) (eqb-true h.1 count both.1)

    by_found : (o : Option (List Word)) → after first second words ≡ o
        → option_map_or (λ (h : ℕ × ℕ). h.0 == n && h.1 == count) (option_and_then (two_within max_vars max_clauses) o) false ≡ true
        → words ≡ first ∷ second ∷ number_words (n ∷ count ∷ [])
    by_found None s f = absurd (let m : ⊥ = cc in m)
    by_found (Some rest) s f = by_numbers rest (after_form first second words rest s).whole (two_within max_vars max_clauses rest) refl f

-- and what is spelled so is one
pub sizes_are : (first second : Word) (n count : ℕ) → after first second (first ∷ second ∷ number_words (n ∷ count ∷ [])) ≡ Some (number_words (n ∷ count ∷ []))
    → n ≤ 1000000 → count ≤ 4000000 → has_sizes first second n count (first ∷ second ∷ number_words (n ∷ count ∷ [])) ≡ true
sizes_are first second n count found few small =
    let told : ℕ × ℕ → _ = λ (h : ℕ × ℕ). h.0 == n && h.1 == count in
    ap (λ (o : Option (List Word)). option_map_or told (option_and_then (two_within max_vars max_clauses) o) false) found
    ∙ ap (λ (o : Option (ℕ × ℕ)). option_map_or told o false) (two_back 1000000 4000000 n count (omega arith) (omega arith) few small)
    ∙ and_from (n == n) (count == count) (eq-eqb n n refl) (eq-eqb count count refl)

-- THE PROBLEM LINE

pub problem_form : (n count : ℕ) (words : List Word) → is_problem n count words ≡ true → words ≡ problem_line n count
problem_form n count words e = sizes_form (codes "p") (codes "cnf") n count words e

pub problem_is : (n count : ℕ) → n ≤ 1000000 → count ≤ 4000000 → is_problem n count (problem_line n count) ≡ true
problem_is n count few small = sizes_are (codes "p") (codes "cnf") n count refl few small
