-- Where a text stands before the numbers, after one more byte.
use Rattle.std.proofs.Common.{◌≡◌, ℕ, ◌+◌, ◌-◌, ◌≤◌, ◌∙◌, Bool, true, false, cond, List, [], ◌∷◌, ◌++◌, length, take, Some, refl, sym, ap, subst, arith, length-append}
use Rattle.std.specs.Prelude.{count_by, sum_by}
use Rattle.std.specs.List.{slice_split}
use Rattle.std.proofs.lemmas.List.{take_all, take-append-le}
use Rattle.std.proofs.lemmas.List.Sums.{sum_by-cons, sum_by-append}
use Rattle.lk_model.specs.Limits.{max_vars, max_clauses}
use Rattle.lk_model.specs.Texts.Lines.{is_newline, is_blank, placed_after, line_number}
use Rattle.lk_model.specs.Texts.Dimacs.{stated_by}
use Rattle.lk_model.specs.declared.text_fault.Fault.{Fault}
use Rattle.dimacs_reader.specs.Contents.{words_in}
use Rattle.dimacs_reader.specs.Outcomes.{Outcome, Faulty, outcome_behind, problem_outcome, text_outcome}
use Rattle.dimacs_reader.specs.ProblemLines.{IsLineSoFar, problem_line_kind}
use Rattle.dimacs_reader.specs.Stages.{IsInLine, IsHeadPart, StandsInHead, StandsBehind, IsMet}
use Rattle.dimacs_reader.specs.declared.head.HeadLine.{HeadLine}
use Rattle.dimacs_reader.specs.declared.head.HeadLine.TheVariants as head
use Rattle.dimacs_reader.specs.declared.problem.ProblemLine.{ProblemLine}
use Rattle.dimacs_reader.specs.declared.problem.ProblemLine.TheVariants.{P}
use Rattle.dimacs_reader.proofs.HeadSteps.{head_rest, next_rest, start_blank, start_problem, comment_other, problem_other, problem_newline, problem_at_fault, problem_passes}

-- LINE NUMBERS

-- the line of the next byte
pub next_line : (fed : List ℕ) → line_number fed (length fed + 1) ≡ count_by is_newline fed + 1
next_line fed = ap (λ (bytes : List ℕ). count_by is_newline bytes + 1) (take_all (length fed + 1 - 1) fed (omega arith))

-- a byte that ends no line is in the line of the next one
pub in_line : (fed : List ℕ) (b : ℕ) → is_newline b ≡ false → IsInLine (fed ++ b ∷ [])
in_line fed b e =
    let size = length-append fed (b ∷ []) in
    let front : take (length (fed ++ b ∷ []) - 1) (fed ++ b ∷ []) ≡ fed =
    ap (λ (n : ℕ). take n (fed ++ b ∷ [])) (let p : length (fed ++ b ∷ []) - 1 ≡ length fed = omega (arith, size) in p)
    ∙ take-append-le (length fed) fed (b ∷ []) (omega arith) ∙ take_all (length fed) fed (omega arith) in
    let weight : ℕ → ℕ = λ x. cond (is_newline x) 1 0 in
    let parts = sum_by-append weight fed (b ∷ []) in
    let one = sum_by-cons weight b [] in
    let zero : weight b ≡ 0 = ap (λ (t : Bool). cond t 1 0) e in
    let none : sum_by weight [] ≡ 0 = refl in
    ap (λ (bytes : List ℕ). count_by is_newline bytes + 1) front ∙ (let p : count_by is_newline fed + 1 ≡ count_by is_newline (fed ++ b ∷ []) + 1 = omega (arith, parts, one, zero, none) in p)

-- BYTES

-- a step from one place in a line to the next
steps : (fed : List ℕ) (b : ℕ) (line next : HeadLine) (part2 : List ℕ) (h : StandsInHead fed line)
    → ((more : List ℕ) → head_rest line h.part (length fed) (b ∷ more) ≡ head_rest next part2 (length fed + 1) more)
    → IsHeadPart (fed ++ b ∷ []) next part2 → StandsInHead (fed ++ b ∷ []) next
steps fed b line next part2 h step is = record {
  part = part2;
  is_part = is;
  rest = next_rest fed b (head_rest line h.part) (head_rest next part2) h.rest step;
}

-- a fault at the next byte
pub met_at : (fed : List ℕ) (b : ℕ) (f : Fault) (rest : ℕ → List ℕ → Outcome) → f.place ≡ length fed + 1
    → ((more : List ℕ) → text_outcome (fed ++ more) ≡ rest (length fed) more) → ((more : List ℕ) → rest (length fed) (b ∷ more) ≡ Faulty f) → IsMet fed b f
met_at fed b f rest e h step = record {
  line = ap (line_number fed) e ∙ next_line fed;
  place = omega (arith, e);
  outcome = λ more. h (b ∷ more) ∙ step more;
}

pub blank_head : (line : HeadLine) → ((p : ProblemLine) → line ≡ head.Problem p → ⊥) → (fed : List ℕ) (b : ℕ) → is_blank b ≡ true → is_newline b ≡ false → StandsInHead fed line → StandsInHead (fed ++ b ∷ []) line
blank_head head.Start other fed b blank e h = steps fed b head.Start head.Start [] h (λ more. start_blank (length fed) b more e blank) tt
blank_head head.Comment other fed b blank e h = steps fed b head.Comment head.Comment h.part h (λ more. comment_other (length fed) b more h.part e) tt
blank_head (head.Problem p) other fed b blank e h = absurd (other p refl)

-- the problem line goes on
pub problem_goes_on : (p q : ProblemLine) (fed : List ℕ) (b : ℕ) → is_newline b ≡ false → ((bytes : List ℕ) → IsLineSoFar bytes p → IsLineSoFar (bytes ++ b ∷ []) q)
    → StandsInHead fed (head.Problem p) → StandsInHead (fed ++ b ∷ []) (head.Problem q)
problem_goes_on p q fed b e step h =
    let so = h.is_part in
    steps fed b (head.Problem p) (head.Problem q) (h.part ++ b ∷ []) h (λ more. problem_other (length fed) b more h.part p q e) (step h.part so.0, in_line fed b e)

pub problem_begins : (fed : List ℕ) (b : ℕ) → is_newline b ≡ false → is_blank b ≡ false → b ≡ 112 → StandsInHead fed head.Start → StandsInHead (fed ++ b ∷ []) (head.Problem P)
problem_begins fed b e no_blank c h =
    steps fed b head.Start (head.Problem P) (b ∷ []) h (λ more. start_problem (length fed) b more P e no_blank c)
    (subst (λ (x : ℕ). IsLineSoFar (x ∷ []) P) (sym c) (λ more. refl), in_line fed b e)

-- THE END OF A LINE

-- what a text comes to where the problem line ends
line_ended : (fed : List ℕ) (p : ProblemLine) (h : StandsInHead fed (head.Problem p)) (more : List ℕ)
    → text_outcome (fed ++ 10 ∷ more) ≡ problem_outcome (stated_by (words_in h.part)) (length fed) (placed_after (length fed + 1) (slice_split is_newline more)) (length fed + 1 + length more + 1)
line_ended fed p h more = h.rest (10 ∷ more) ∙ problem_newline (length fed) 10 more h.part p refl

pub problem_ends : (fed : List ℕ) (p : ProblemLine) (vars clauses : ℕ) → vars ≤ max_vars → clauses ≤ max_clauses → ((bytes : List ℕ) → IsLineSoFar bytes p → stated_by (words_in bytes) ≡ Some (vars, clauses))
    → StandsInHead fed (head.Problem p) → StandsBehind (fed ++ 10 ∷ []) vars clauses
problem_ends fed p vars clauses v c states h =
    let so = h.is_part in
    record {
      rest = next_rest fed 10 (head_rest (head.Problem p) h.part) (λ n more. outcome_behind vars clauses [] (placed_after n (slice_split is_newline more)) (n + length more + 1)) h.rest
          (λ more. problem_newline (length fed) 10 more h.part p refl
          ∙ problem_passes (stated_by (words_in h.part)) vars clauses (length fed) (placed_after (length fed + 1) (slice_split is_newline more)) (length fed + 1 + length more + 1) (states h.part so.0) v c);
    }

pub problem_at_fault_ends : (fed : List ℕ) (p : ProblemLine) (f : Fault) → ((bytes : List ℕ) → IsLineSoFar bytes p → (problem_line_kind (stated_by (words_in bytes)) ≡ Some f.kind) × (f.place ≡ length fed))
    → StandsInHead fed (head.Problem p) → IsMet fed 10 f
problem_at_fault_ends fed p f states h =
    let so = h.is_part in
    let is = states h.part so.0 in
    let place = is.1 in
    record {
      line = ap (line_number fed) place ∙ so.1;
      place = omega (arith, place);
      outcome = λ more. line_ended fed p h more ∙ problem_at_fault (stated_by (words_in h.part)) f.kind (length fed) (placed_after (length fed + 1) (slice_split is_newline more)) (length fed + 1 + length more + 1) is.0
          ∙ ap (λ (n : ℕ). Faulty (record { kind = f.kind; place = n })) (sym place);
    }
