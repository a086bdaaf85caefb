-- The lines of rounds, read one after another.
use Rattle.std.proofs.Common.{◌≡◌, ℕ, ◌+◌, ◌^◌, ◌≤◌, ◌∙◌, Bool, true, false, cond, not, ◌&&◌, ◌==◌, List, [], ◌∷◌, ◌++◌, length, map, refl, sym, ap, subst, arith, Option, Some, None, append_assoc, length-append, ◌<◌}
use Rattle.std.specs.Prelude.{option_map, option_and_then, codes}
use Rattle.std.specs.List.{list_all, flat_map}
use Rattle.std.proofs.lemmas.Bool.{lt-ltb, eqb-true}
use Rattle.std.proofs.lemmas.List.{append-nil}
use Rattle.lk_model.specs.Lists.{is_empty}
use Rattle.lk_model.specs.Texts.Lines.{Word}
use Rattle.lk_model.specs.Documents.Text.{comment, step_line, round_lines}
use Rattle.lk_model.specs.Documents.Documents.{steps_of}
use Rattle.lk_model.specs.Documents.Form.{counts_from, is_step, ends_at_empty, is_whole, are_steps}
use Rattle.lk_model.specs.declared.document.Step.{Step}
use Rattle.lk_model.specs.declared.document.Round.{Round}
use Rattle.lk_model.proofs.Booleans.{and_true}
use Rattle.round_text.specs.declared.read_rounds.RoundsPart.{RoundsPart}
use Rattle.round_text.specs.RoundLines.{round_of, step_within, number_after, closed, with_step, put_step, next_step, rounds_next}
use Rattle.round_text.proofs.RoundForms.{step_words, step_parts, step_back}

-- what the lines lead to
abbrev pub rounds_run : Bool → ℕ → ℕ → RoundsPart → List (List Word) → Option RoundsPart
rounds_run may n m p [] = Some p
rounds_run may n m p (words ∷ lines) = option_and_then (λ q. rounds_run may n m q lines) (rounds_next may n m p words)

run_cons : (may : Bool) (n m : ℕ) (p q : RoundsPart) (words : List Word) (lines : List (List Word)) → rounds_next may n m p words ≡ Some q → rounds_run may n m p (words ∷ lines) ≡ rounds_run may n m q lines
run_cons may n m p q words lines h = ap (option_and_then (λ x. rounds_run may n m x lines)) h

-- STEPS

-- steps that are in form and numbered on from so many
pub record AreNumbered (n m k : ℕ) (steps : List Step) : Type 0 where
  pub counts : counts_from (m + 1 + k) (map (λ (s : Step). s.number) steps) ≡ true
  pub forms : list_all (is_step n) steps ≡ true

record Numbered (n m k : ℕ) (s : Step) (steps : List Step) : Type 0 where
  number : s.number ≡ k + (m + 1)
  form : is_step n s ≡ true
  more : AreNumbered n m (k + 1) steps

numbered : (n m k : ℕ) (s : Step) (steps : List Step) → AreNumbered n m k (s ∷ steps) → Numbered n m k s steps
numbered n m k s steps h =
    let counts = and_true (s.number == m + 1 + k) (counts_from (m + 1 + k + 1) (map (λ (x : Step). x.number) steps)) h.counts in
    let forms = and_true (is_step n s) (list_all (is_step n) steps) h.forms in
    let next : m + 1 + k + 1 ≡ m + 1 + (k + 1) = omega arith in
    record {
      number = omega (arith, eqb-true s.number (m + 1 + k) counts.0);
      form = forms.0;
      more = record { counts = ap (λ (j : ℕ). counts_from j (map (λ (x : Step). x.number) steps)) (sym next) ∙ counts.1; forms = forms.1 };
    }

-- one step of an open round
step_run : (may : Bool) (n m : ℕ) (p : RoundsPart) (s : Step) (lines : List (List Word)) → n ≤ 1000000 → p.is_open ≡ true → s.number ≡ p.count + (m + 1) → is_step n s ≡ true
    → rounds_run may n m p (step_line s ∷ lines) ≡ rounds_run may n m (put_step p s) lines
step_run may n m p s lines small some number form =
    let low = (step_parts n s form).low in
    let after_is : number_after m p.count ≡ Some s.number =
    ap (λ (b : Bool). cond b (Some (p.count + (m + 1))) None) (lt-ltb (p.count + (m + 1)) (2 ^ 64) (omega (arith, low, number))) ∙ ap (λ (k : ℕ). Some k) (sym number) in
    run_cons may n m p (put_step p s) (step_line s) lines
    (ap (λ (b : Bool). cond b (next_step n m p (step_line s)) (cond (may && false) (Some (record p { is_open = true })) None)) some
    ∙ ap (λ (o : Option ℕ). option_map (put_step p) (option_and_then (λ number. step_within n number (step_words s)) o)) after_is
    ∙ ap (option_map (put_step p)) (step_back n s small form))

-- the rounds so far, and an open one with some steps
abbrev pub open_at : List Round → List Step → ℕ → RoundsPart
open_at rounds steps k = record { rounds = rounds; is_open = true; steps = steps; count = k }

abbrev pub shut_at : List Round → ℕ → RoundsPart
shut_at rounds k = record { rounds = rounds; is_open = false; steps = []; count = k }

-- the steps of a whole round
pub whole_run : (may : Bool) (n m : ℕ) (rounds : List Round) (before steps : List Step) (k : ℕ) (lines : List (List Word)) → n ≤ 1000000 → ends_at_empty steps ≡ true → AreNumbered n m k steps
    → rounds_run may n m (open_at rounds before k) (map step_line steps ++ lines) ≡ rounds_run may n m (shut_at (rounds ++ round_of (before ++ steps) ∷ []) (k + length steps)) lines
whole_run may n m rounds before [] k lines small ends h = absurd (let f : ⊥ = cc in f)
whole_run may n m rounds before (s ∷ steps) k lines small ends h =
    let one = numbered n m k s steps h in
    step_run may n m (open_at rounds before k) s (map step_line steps ++ lines) small refl one.number one.form
    ∙ by_empty (λ e. whole_run may n m rounds (before ++ s ∷ []) steps (k + 1) lines small e one.more) (is_empty s.clause) ends
  where
    by_empty : (ends_at_empty steps ≡ true → rounds_run may n m (open_at rounds (before ++ s ∷ []) (k + 1)) (map step_line steps ++ lines)
        ≡ rounds_run may n m (shut_at (rounds ++ round_of ((before ++ s ∷ []) ++ steps) ∷ []) (k + 1 + length steps)) lines)
        → (b : Bool) → cond b (is_empty steps) (ends_at_empty steps) ≡ true
        → rounds_run may n m (cond b (closed (with_step (open_at rounds before k) s)) (with_step (open_at rounds before k) s)) (map step_line steps ++ lines)
        ≡ rounds_run may n m (shut_at (rounds ++ round_of (before ++ s ∷ steps) ∷ []) (k + length (s ∷ steps))) lines
    by_empty later true e = at_last steps e
      where
        at_last : (ss : List Step) → is_empty ss ≡ true → rounds_run may n m (closed (with_step (open_at rounds before k) s)) (map step_line ss ++ lines)
            ≡ rounds_run may n m (shut_at (rounds ++ round_of (before ++ s ∷ ss) ∷ []) (k + length (s ∷ ss))) lines
        at_last [] f = refl
        at_last (x ∷ ss) f = absurd (let g : ⊥ = cc in g)
    by_empty later false e =
        let count : k + 1 + length steps ≡ k + length (s ∷ steps) = omega arith in
        later e ∙ ap (λ (ss : List Step). rounds_run may n m (shut_at (rounds ++ round_of ss ∷ []) (k + 1 + length steps)) lines) (append_assoc before (s ∷ []) steps)
        ∙ ap (λ (c : ℕ). rounds_run may n m (shut_at (rounds ++ round_of (before ++ s ∷ steps) ∷ []) c) lines) count

-- the steps of an open round
pub open_run : (may : Bool) (n m : ℕ) (rounds : List Round) (before steps : List Step) (k : ℕ) (lines : List (List Word)) → n ≤ 1000000 → list_all (λ (s : Step). not (is_empty s.clause)) steps ≡ true → AreNumbered n m k steps
    → rounds_run may n m (open_at rounds before k) (map step_line steps ++ lines) ≡ rounds_run may n m (open_at rounds (before ++ steps) (k + length steps)) lines
open_run may n m rounds before [] k lines small some h =
    let count : k ≡ k + 0 = omega arith in
    ap (λ (ss : List Step). rounds_run may n m (open_at rounds ss k) lines) (sym (append-nil before)) ∙ ap (λ (c : ℕ). rounds_run may n m (open_at rounds (before ++ []) c) lines) count
open_run may n m rounds before (s ∷ steps) k lines small some h =
    let one = numbered n m k s steps h in
    let both = and_true (not (is_empty s.clause)) (list_all (λ (x : Step). not (is_empty x.clause)) steps) some in
    let count : k + 1 + length steps ≡ k + length (s ∷ steps) = omega arith in
    step_run may n m (open_at rounds before k) s (map step_line steps ++ lines) small refl one.number one.form
    ∙ by_empty (is_empty s.clause) both.0
    ∙ open_run may n m rounds (before ++ s ∷ []) steps (k + 1) lines small both.1 one.more
    ∙ ap (λ (ss : List Step). rounds_run may n m (open_at rounds ss (k + 1 + length steps)) lines) (append_assoc before (s ∷ []) steps)
    ∙ ap (λ (c : ℕ). rounds_run may n m (open_at rounds (before ++ s ∷ steps) c) lines) count
  where
    by_empty : (b : Bool) → not b ≡ true → rounds_run may n m (cond b (closed (with_step (open_at rounds before k) s)) (with_step (open_at rounds before k) s)) (map step_line steps ++ lines)
        ≡ rounds_run may n m (open_at rounds (before ++ s ∷ []) (k + 1)) (map step_line steps ++ lines)
    by_empty true e = absurd (let f : ⊥ = cc in f)
    by_empty false e = refl

-- ROUNDS

-- numbered steps, apart
pub numbered_parts : (n m k : ℕ) (xs ys : List Step) → AreNumbered n m k (xs ++ ys) → AreNumbered n m k xs × AreNumbered n m (k + length xs) ys
numbered_parts n m k [] ys h =
    let same : m + 1 + k ≡ m + 1 + (k + 0) = omega arith in
    (record { counts = refl; forms = refl }, record { counts = ap (λ (j : ℕ). counts_from j (map (λ (x : Step). x.number) ys)) (sym same) ∙ h.counts; forms = h.forms })
numbered_parts n m k (x ∷ xs) ys h =
    let counts = and_true (x.number == m + 1 + k) (counts_from (m + 1 + k + 1) (map (λ (s : Step). s.number) (xs ++ ys))) h.counts in
    let forms = and_true (is_step n x) (list_all (is_step n) (xs ++ ys)) h.forms in
    let one = numbered n m k x (xs ++ ys) h in
    let rest = numbered_parts n m (k + 1) xs ys one.more in
    let next : m + 1 + (k + 1) ≡ m + 1 + k + 1 = omega arith in
    let size : k + 1 + length xs ≡ k + length (x ∷ xs) = omega arith in (
      record {
        counts = rw (counts.0) (ap (λ (j : ℕ). counts_from j (map (λ (s : Step). s.number) xs)) (sym next) ∙ rest.0.counts);
        forms = rw (forms.0) rest.0.forms;
      },
      subst (λ (c : ℕ). AreNumbered n m c ys) size rest.1,
    )

-- the line of a round
pub round_run : (n m : ℕ) (rounds : List Round) (k : ℕ) (lines : List (List Word)) → rounds_run true n m (shut_at rounds k) (comment (codes "round") [] ∷ lines) ≡ rounds_run true n m (open_at rounds [] k) lines
round_run n m rounds k lines = refl

-- whole rounds
pub rounds_all_run : (n m : ℕ) (before rounds : List Round) (k : ℕ) (lines : List (List Word)) → n ≤ 1000000 → list_all is_whole rounds ≡ true → AreNumbered n m k (steps_of rounds)
    → rounds_run true n m (shut_at before k) (flat_map round_lines rounds ++ lines) ≡ rounds_run true n m (shut_at (before ++ rounds) (k + length (steps_of rounds))) lines
rounds_all_run n m before [] k lines small whole h =
    let count : k ≡ k + 0 = omega arith in
    ap (λ (rs : List Round). rounds_run true n m (shut_at rs k) lines) (sym (append-nil before)) ∙ ap (λ (c : ℕ). rounds_run true n m (shut_at (before ++ []) c) lines) count
rounds_all_run n m before (r ∷ rounds) k lines small whole h =
    let both = and_true (is_whole r) (list_all is_whole rounds) whole in
    let parts = numbered_parts n m k r.steps (steps_of rounds) h in
    let rest = flat_map round_lines rounds ++ lines in
    let count : k + length r.steps + length (steps_of rounds) ≡ k + length (r.steps ++ steps_of rounds) = omega (arith, length-append r.steps (steps_of rounds)) in
    ap (rounds_run true n m (shut_at before k)) (append_assoc (round_lines r) (flat_map round_lines rounds) lines)
    ∙ round_run n m before k (map step_line r.steps ++ rest)
    ∙ whole_run true n m before [] r.steps k rest small both.0 parts.0
    ∙ rounds_all_run n m (before ++ round_of r.steps ∷ []) rounds (k + length r.steps) lines small both.1 parts.1
    ∙ ap (λ (rs : List Round). rounds_run true n m (shut_at rs (k + length r.steps + length (steps_of rounds))) lines) (append_assoc before (r ∷ []) rounds)
    ∙ ap (λ (c : ℕ). rounds_run true n m (shut_at (before ++ r ∷ rounds) c) lines) count

-- steps in form are numbered from the first one on
pub numbered_from_first : (n m : ℕ) (steps : List Step) → are_steps n m steps ≡ true → AreNumbered n m 0 steps
numbered_from_first n m steps h =
    let both = and_true (counts_from (m + 1) (map (λ (x : Step). x.number) steps)) (list_all (is_step n) steps) h in
    let zero_more : m + 1 + 0 ≡ m + 1 = omega arith in
    record { counts = ap (λ (j : ℕ). counts_from j (map (λ (x : Step). x.number) steps)) zero_more ∙ both.0; forms = both.1 }

-- a chain over no clauses has no first clause
pub some_clauses : (n m : ℕ) (steps others : List Step) → ends_at_empty steps ≡ true → are_steps n m (steps ++ others) ≡ true → 0 < m
some_clauses n m [] others e h = absurd (let f : ⊥ = cc in f)
some_clauses n m (s ∷ steps) others e h =
    let both = and_true (counts_from (m + 1) (map (λ (x : Step). x.number) (s ∷ (steps ++ others)))) (list_all (is_step n) (s ∷ (steps ++ others))) h in
    let number = eqb-true s.number (m + 1) (and_true (s.number == m + 1) (counts_from (m + 1 + 1) (map (λ (x : Step). x.number) (steps ++ others))) both.0).0 in
    let form = (and_true (is_step n s) (list_all (is_step n) (steps ++ others)) both.1).0 in
    let range = (step_parts n s form).first in
    omega (arith, range.least, range.most, number)
