-- Before the numbers, one byte after the other.
use Rattle.std.proofs.Common.{◌≡◌, ℕ, ◌+◌, ◌-◌, ◌≤◌, ◌∙◌, Bool, true, false, cond, ◌||◌, List, [], ◌∷◌, ◌++◌, length, Option, Some, None, refl, sym, ap, arith, append_assoc, length-append, nat_lt}
use Rattle.std.specs.List.{slice_split}
use Rattle.std.proofs.lemmas.Bool.{le-ltb}
use Rattle.std.proofs.lemmas.List.{append-nil}
use Rattle.std.proofs.lemmas.List.Splits.{slice_split-cons_yes}
use Rattle.lk_model.specs.Limits.{max_vars, max_clauses}
use Rattle.lk_model.specs.Texts.Lines.{Piece, Word, is_newline, is_blank, placed_after, words_of, texts}
use Rattle.lk_model.specs.Texts.Dimacs.{stated_by}
use Rattle.lk_model.specs.declared.text_fault.FaultKind.{FaultKind}
use Rattle.lk_model.specs.declared.text_fault.FaultKind.TheVariants.{BadHeader, Limit}
use Rattle.dimacs_reader.specs.Contents.{words_in, words_after}
use Rattle.dimacs_reader.specs.LineKinds.{LineKind, kind_at, kind_by}
use Rattle.dimacs_reader.specs.Outcomes.{Outcome, Faulty, outcome_behind, problem_outcome, first_line_outcome, outcome_from, text_outcome}
use Rattle.dimacs_reader.specs.ProblemLines.{problem_line_kind}
use Rattle.dimacs_reader.specs.Stages.{head_outcome}
use Rattle.dimacs_reader.specs.declared.head.HeadLine.{HeadLine}
use Rattle.dimacs_reader.specs.declared.head.HeadLine.TheVariants as head
use Rattle.dimacs_reader.specs.declared.problem.ProblemLine.{ProblemLine}
use Rattle.dimacs_reader.proofs.NumberLemmas.{split_part, HasPart}
use Rattle.dimacs_reader.proofs.Cuts.{piece, split_on, blank_first, begins, words_of_line, words_texts}

-- ONE BYTE MORE

-- what a text comes to after one more byte
pub next_rest : (fed : List ℕ) (b : ℕ) (before after : ℕ → List ℕ → Outcome) → ((more : List ℕ) → text_outcome (fed ++ more) ≡ before (length fed) more)
    → ((more : List ℕ) → before (length fed) (b ∷ more) ≡ after (length fed + 1) more)
    → (more : List ℕ) → text_outcome ((fed ++ b ∷ []) ++ more) ≡ after (length (fed ++ b ∷ [])) more
next_rest fed b before after r step more =
    ap text_outcome (append_assoc fed (b ∷ []) more) ∙ r (b ∷ more) ∙ step more
    ∙ ap (λ (n : ℕ). after n more) (let h = length-append fed (b ∷ []) in let e : length fed + 1 ≡ length (fed ++ b ∷ []) = omega (arith, h) in e)

-- the same at other places
pub moved : (G : ℕ → ℕ → Outcome) (m n k l : ℕ) → m ≡ n → k ≡ l → G m k ≡ G n l
moved G m n k l e f = ap (λ (x : ℕ). G x k) e ∙ ap (G n) f

-- the outcome of the bytes after so many
abbrev pub head_rest : HeadLine → List ℕ → ℕ → List ℕ → Outcome
head_rest line part before more = head_outcome line part before (slice_split is_newline more) (before + length more + 1)

-- a line with these words, which ends at a place, before lines
abbrev with_words : List Piece → ℕ → List Piece → ℕ → Outcome
with_words words last lines over = first_line_outcome (kind_by words) (outcome_from lines over) (problem_outcome (stated_by (texts words)) last lines over)

-- the same, by the kind of the line
abbrev with_kind : LineKind → List Word → ℕ → List Piece → ℕ → Outcome
with_kind kind words last lines over = first_line_outcome kind (outcome_from lines over) (problem_outcome (stated_by words) last lines over)

-- the beginning of a line that does not end yet
first_line : (n b : ℕ) (bs : List ℕ) (o : HasPart (slice_split is_newline bs)) → is_newline b ≡ false
    → head_rest head.Start [] n (b ∷ bs)
    ≡ with_words (words_after n (b ∷ o.0)) (n + length (b ∷ o.0)) (placed_after (n + length (b ∷ o.0) + 1) o.1) (n + length (b ∷ bs) + 1)
first_line n b bs o e =
    let line = b ∷ o.0 in
    ap (λ (parts : List (List ℕ)). outcome_from (placed_after n parts) (n + length (b ∷ bs) + 1)) (split_on is_newline b bs o e)
    ∙ ap (λ (ws : List Piece). with_words ws (n + length line) (placed_after (n + length line + 1) o.1) (n + length (b ∷ bs) + 1)) (words_of_line n line)

pub start_blank : (n b : ℕ) (bs : List ℕ) → is_newline b ≡ false → is_blank b ≡ true → head_rest head.Start [] n (b ∷ bs) ≡ head_rest head.Start [] (n + 1) bs
start_blank n b bs e h =
    let o = split_part is_newline bs in
    let over = n + length (b ∷ bs) + 1 in
    first_line n b bs o e
    ∙ ap (λ (ws : List Piece). with_words ws (n + length (b ∷ o.0)) (placed_after (n + length (b ∷ o.0) + 1) o.1) over) (blank_first n b o.0 h ∙ sym (words_of_line (n + 1) o.0))
    ∙ moved (λ m k. with_words (words_of (piece o.0 (n + 1 + length o.0))) m (placed_after (m + 1) o.1) k) (n + length (b ∷ o.0)) (n + 1 + length o.0) over (n + 1 + length bs + 1) (omega arith) (omega arith)
    ∙ ap (λ (parts : List (List ℕ)). outcome_from (placed_after (n + 1) parts) (n + 1 + length bs + 1)) (sym o.2)

-- the first byte of a word
start_word : (n b : ℕ) (bs : List ℕ) (o : HasPart (slice_split is_newline bs)) → is_newline b ≡ false → is_blank b ≡ false
    → head_rest head.Start [] n (b ∷ bs)
    ≡ with_kind (kind_at b (n + 1)) (words_in (b ∷ o.0)) (n + length (b ∷ o.0)) (placed_after (n + length (b ∷ o.0) + 1) o.1) (n + length (b ∷ bs) + 1)
start_word n b bs o e h =
    let line = b ∷ o.0 in
    let over = n + length (b ∷ bs) + 1 in
    let w = begins n b o.0 h in
    let lines = placed_after (n + length line + 1) o.1 in
    let kind : kind_by (words_after n line) ≡ kind_at b (n + 1) =
    ap kind_by w.words ∙ ap (kind_at b) (let p : n + length (b ∷ w.rest) + 1 - length (b ∷ w.rest) ≡ n + 1 = omega arith in p) in
    first_line n b bs o e
    ∙ ap (λ (k : LineKind). with_kind k (texts (words_after n line)) (n + length line) lines over) kind
    ∙ ap (λ (ws : List Word). with_kind (kind_at b (n + 1)) ws (n + length line) lines over) (words_texts n line)

pub start_problem : (n b : ℕ) (bs : List ℕ) (p : ProblemLine) → is_newline b ≡ false → is_blank b ≡ false → b ≡ 112
    → head_rest head.Start [] n (b ∷ bs) ≡ head_rest (head.Problem p) (b ∷ []) (n + 1) bs
start_problem n b bs p e h c =
    let o = split_part is_newline bs in
    let over = n + length (b ∷ bs) + 1 in
    start_word n b bs o e h
    ∙ ap (λ (x : ℕ). with_kind (kind_at x (n + 1)) (words_in (b ∷ o.0)) (n + length (b ∷ o.0)) (placed_after (n + length (b ∷ o.0) + 1) o.1) over) c
    ∙ moved (λ m k. problem_outcome (stated_by (words_in (b ∷ o.0))) m (placed_after (m + 1) o.1) k) (n + length (b ∷ o.0)) (n + 1 + length o.0) over (n + 1 + length bs + 1) (omega arith) (omega arith)
    ∙ ap (λ (parts : List (List ℕ)). head_outcome (head.Problem p) (b ∷ []) (n + 1) parts (n + 1 + length bs + 1)) (sym o.2)

-- COMMENTS

pub comment_other : (n b : ℕ) (bs part : List ℕ) → is_newline b ≡ false → head_rest head.Comment part n (b ∷ bs) ≡ head_rest head.Comment part (n + 1) bs
comment_other n b bs part e =
    let o = split_part is_newline bs in
    ap (λ (parts : List (List ℕ)). head_outcome head.Comment part n parts (n + length (b ∷ bs) + 1)) (split_on is_newline b bs o e)
    ∙ moved (λ m over. outcome_from (placed_after m o.1) over) (n + length (b ∷ o.0) + 1) (n + 1 + length o.0 + 1) (n + length (b ∷ bs) + 1) (n + 1 + length bs + 1) (omega arith) (omega arith)
    ∙ ap (λ (parts : List (List ℕ)). head_outcome head.Comment part (n + 1) parts (n + 1 + length bs + 1)) (sym o.2)

-- THE PROBLEM LINE

pub problem_other : (n b : ℕ) (bs part : List ℕ) (p q : ProblemLine) → is_newline b ≡ false
    → head_rest (head.Problem p) part n (b ∷ bs) ≡ head_rest (head.Problem q) (part ++ b ∷ []) (n + 1) bs
problem_other n b bs part p q e =
    let o = split_part is_newline bs in
    ap (λ (parts : List (List ℕ)). head_outcome (head.Problem p) part n parts (n + length (b ∷ bs) + 1)) (split_on is_newline b bs o e)
    ∙ ap (λ (line : List ℕ). problem_outcome (stated_by (words_in line)) (n + length (b ∷ o.0)) (placed_after (n + length (b ∷ o.0) + 1) o.1) (n + length (b ∷ bs) + 1)) (sym (append_assoc part (b ∷ []) o.0))
    ∙ moved (λ m over. problem_outcome (stated_by (words_in ((part ++ b ∷ []) ++ o.0))) m (placed_after (m + 1) o.1) over) (n + length (b ∷ o.0)) (n + 1 + length o.0) (n + length (b ∷ bs) + 1) (n + 1 + length bs + 1) (omega arith) (omega arith)
    ∙ ap (λ (parts : List (List ℕ)). head_outcome (head.Problem q) (part ++ b ∷ []) (n + 1) parts (n + 1 + length bs + 1)) (sym o.2)

pub problem_newline : (n b : ℕ) (bs part : List ℕ) (p : ProblemLine) → is_newline b ≡ true
    → head_rest (head.Problem p) part n (b ∷ bs) ≡ problem_outcome (stated_by (words_in part)) n (placed_after (n + 1) (slice_split is_newline bs)) (n + 1 + length bs + 1)
problem_newline n b bs part p e =
    ap (λ (parts : List (List ℕ)). head_outcome (head.Problem p) part n parts (n + length (b ∷ bs) + 1)) (slice_split-cons_yes is_newline b bs e)
    ∙ ap (λ (line : List ℕ). problem_outcome (stated_by (words_in line)) (n + 0) (placed_after (n + 0 + 1) (slice_split is_newline bs)) (n + length (b ∷ bs) + 1)) (append-nil part)
    ∙ moved (λ m over. problem_outcome (stated_by (words_in part)) m (placed_after (m + 1) (slice_split is_newline bs)) over) (n + 0) n (n + length (b ∷ bs) + 1) (n + 1 + length bs + 1) (omega arith) (omega arith)

pub problem_end : (n : ℕ) (part : List ℕ) (p : ProblemLine)
    → head_rest (head.Problem p) part n [] ≡ problem_outcome (stated_by (words_in part)) n [] (n + 1)
problem_end n part p =
    ap (λ (line : List ℕ). problem_outcome (stated_by (words_in line)) (n + 0) [] (n + 0 + 1)) (append-nil part)
    ∙ moved (λ m over. problem_outcome (stated_by (words_in part)) m [] over) (n + 0) n (n + 0 + 1) (n + 1) (omega arith) (omega arith)

-- a problem line that is at fault
pub problem_at_fault : (o : Option (ℕ × ℕ)) (kind : FaultKind) (last : ℕ) (lines : List Piece) (over : ℕ) → problem_line_kind o ≡ Some kind → problem_outcome o last lines over ≡ Faulty (record { kind = kind; place = last })
problem_at_fault None kind last lines over e = let same : BadHeader ≡ kind = cc in ap (λ (k : FaultKind). Faulty (record { kind = k; place = last })) same
problem_at_fault (Some (vars, clauses)) kind last lines over e = by_test (nat_lt max_vars vars || nat_lt max_clauses clauses) e
  where
    by_test : (b : Bool) → cond b (Some Limit) None ≡ Some kind → cond b (Faulty (record { kind = Limit; place = last })) (outcome_behind vars clauses [] lines over) ≡ Faulty (record { kind = kind; place = last })
    by_test true f = let same : Limit ≡ kind = cc in ap (λ (k : FaultKind). Faulty (record { kind = k; place = last })) same
    by_test false f = absurd (let g : ⊥ = cc in g)

-- a problem line within the limits
pub problem_passes : (o : Option (ℕ × ℕ)) (vars clauses last : ℕ) (lines : List Piece) (over : ℕ) → o ≡ Some (vars, clauses) → vars ≤ max_vars → clauses ≤ max_clauses
    → problem_outcome o last lines over ≡ outcome_behind vars clauses [] lines over
problem_passes o vars clauses last lines over e v c =
    let within : (nat_lt max_vars vars || nat_lt max_clauses clauses) ≡ false = rw (le-ltb max_vars vars v, le-ltb max_clauses clauses c) refl in
    ap (λ (h : Option (ℕ × ℕ)). problem_outcome h last lines over) e
    ∙ ap (λ (b : Bool). cond b (Faulty (record { kind = Limit; place = last })) (outcome_behind vars clauses [] lines over)) within
