-- What a text comes to is its first fault, or else what its lines write.
use Rattle.std.proofs.Common.{◌≡◌, ℕ, suc, ◌+◌, ◌≤◌, ◌∙◌, Bool, true, false, not, cond, ◌||◌, ◌==◌, List, [], ◌∷◌, ◌++◌, length, take, Option, Some, None, refl, sym, ap, subst, arith, inl, inr, append_assoc, get_or, nat_lt}
use Rattle.std.specs.Prelude.{filter, flat_map}
use Rattle.std.specs.List.{slice_split, prefix_len}
use Rattle.std.proofs.lemmas.Bool.{cases_Bool, lt-ltb, cases_lt}
use Rattle.std.proofs.lemmas.List.{append-nil, map-append}
use Rattle.lk_model.specs.Lists.{is_empty}
use Rattle.lk_model.specs.Limits.{max_vars, max_clauses}
use Rattle.lk_model.specs.Texts.Lines.{Piece, Word, is_newline, placed_after, lines_of, words_of, texts}
use Rattle.lk_model.specs.Texts.Dimacs.{stated_by, runs_of}
use Rattle.lk_model.specs.Texts.Fault.{numbers_of}
use Rattle.lk_model.specs.declared.text_fault.Fault.{Fault}
use Rattle.lk_model.specs.declared.text_fault.FaultKind.TheVariants.{TooFewClauses, Limit}
use Rattle.dimacs_reader.specs.Contents.{words_in, words_after, first_of, is_end, is_content, content_of}
use Rattle.dimacs_reader.specs.LineKinds.{LineKind, Skipped, EndMark, Problem, Numbers, kind_by}
use Rattle.dimacs_reader.specs.FirstFaults.{or_behind, fault_among, fault_at_end, line_fault, fault_behind, problem_line_fault, first_line_fault, fault_from, text_fault}
use Rattle.dimacs_reader.specs.Outcomes.{Outcome, Faulty, Written, end_outcome, fault_or, line_outcome, outcome_behind, problem_outcome, first_line_outcome, outcome_from, text_outcome, fault_in_outcome}
use Rattle.dimacs_reader.proofs.Cuts.{piece, words_of_line, words_texts}

-- THE FIRST FAULT

end_fault : (vars clauses : ℕ) (words : List Piece) (end : ℕ) → fault_in_outcome (end_outcome vars clauses words end) ≡ fault_at_end clauses words end
end_fault vars clauses words end = by_test (nat_lt (length (runs_of (numbers_of words))) clauses)
  where
    by_test : (b : Bool) → fault_in_outcome (cond b (Faulty (record { kind = TooFewClauses; place = end })) (Written vars clauses words)) ≡ cond b (Some (record { kind = TooFewClauses; place = end })) None
    by_test true = refl
    by_test false = refl

fault_first : (o : Option Fault) (behind : Outcome) → fault_in_outcome (fault_or o behind) ≡ or_behind o (fault_in_outcome behind)
fault_first None behind = refl
fault_first (Some f) behind = refl

behind_fault : (vars clauses : ℕ) (earlier lines : List Piece) (over : ℕ) → fault_in_outcome (outcome_behind vars clauses earlier lines over) ≡ fault_behind vars clauses earlier lines over
behind_fault vars clauses earlier [] over = end_fault vars clauses earlier over
behind_fault vars clauses earlier (line ∷ lines) over =
    by_kind (kind_by (words_of line)) (behind_fault vars clauses earlier lines over) (behind_fault vars clauses (earlier ++ words_of line) lines over)
  where
    by_kind : (kind : LineKind) → fault_in_outcome (outcome_behind vars clauses earlier lines over) ≡ fault_behind vars clauses earlier lines over
        → fault_in_outcome (outcome_behind vars clauses (earlier ++ words_of line) lines over) ≡ fault_behind vars clauses (earlier ++ words_of line) lines over
        → fault_in_outcome (line_outcome kind (end_outcome vars clauses earlier) (outcome_behind vars clauses earlier lines over) (fault_or (fault_among vars clauses earlier (words_of line)) (outcome_behind vars clauses (earlier ++ words_of line) lines over)))
        ≡ line_fault kind clauses earlier (fault_among vars clauses earlier (words_of line)) (fault_behind vars clauses earlier lines over) (fault_behind vars clauses (earlier ++ words_of line) lines over)
    by_kind (EndMark first) skipped taken = end_fault vars clauses earlier first
    by_kind Skipped skipped taken = skipped
    by_kind (Problem first) skipped taken = refl
    by_kind (Numbers first) skipped taken =
        fault_first (fault_among vars clauses earlier (words_of line)) (outcome_behind vars clauses (earlier ++ words_of line) lines over) ∙ ap (or_behind (fault_among vars clauses earlier (words_of line))) taken

problem_fault : (o : Option (ℕ × ℕ)) (last : ℕ) (lines : List Piece) (over : ℕ) → fault_in_outcome (problem_outcome o last lines over) ≡ problem_line_fault o last lines over
problem_fault None last lines over = refl
problem_fault (Some (vars, clauses)) last lines over = by_test (nat_lt max_vars vars || nat_lt max_clauses clauses)
  where
    by_test : (b : Bool) → fault_in_outcome (cond b (Faulty (record { kind = Limit; place = last })) (outcome_behind vars clauses [] lines over)) ≡ cond b (Some (record { kind = Limit; place = last })) (fault_behind vars clauses [] lines over)
    by_test true = refl
    by_test false = behind_fault vars clauses [] lines over

from_fault : (lines : List Piece) (over : ℕ) → fault_in_outcome (outcome_from lines over) ≡ fault_from lines over
from_fault [] over = refl
from_fault (line ∷ lines) over = by_kind (kind_by (words_of line)) (from_fault lines over)
  where
    by_kind : (kind : LineKind) → fault_in_outcome (outcome_from lines over) ≡ fault_from lines over
        → fault_in_outcome (first_line_outcome kind (outcome_from lines over) (problem_outcome (stated_by (texts (words_of line))) line.last lines over))
        ≡ first_line_fault kind (fault_from lines over) (problem_line_fault (stated_by (texts (words_of line))) line.last lines over)
    by_kind (EndMark first) skipped = refl
    by_kind Skipped skipped = skipped
    by_kind (Problem first) skipped = problem_fault (stated_by (texts (words_of line))) line.last lines over
    by_kind (Numbers first) skipped = refl

pub outcome_fault : (text : List ℕ) → fault_in_outcome (text_outcome text) ≡ text_fault text
outcome_fault text = from_fault (lines_of text) (length text + 1)

-- LINES THAT COUNT

-- what counts of a line and those after it
abbrev pub with_line : List ℕ → List (List ℕ) → List (List ℕ)
with_line line rest = cond (is_end line) [] (cond (is_content line) (line ∷ rest) rest)

pub content_line : (line : List ℕ) (lines : List (List ℕ)) → content_of (line ∷ lines) ≡ with_line line (content_of lines)
content_line line lines =
    let k = prefix_len (λ x. not (is_end x)) lines in
    let more : 1 + k ≡ suc k = omega arith in
    elim (cases_Bool (is_end line)) [
      | inl e ↦
          ap (λ (b : Bool). filter is_content (take (cond (not b) (1 + k) 0) (line ∷ lines))) e
          ∙ sym (ap (λ (b : Bool). cond b [] (cond (is_content line) (line ∷ content_of lines) (content_of lines))) e)
      | inr e ↦
          ap (λ (b : Bool). filter is_content (take (cond (not b) (1 + k) 0) (line ∷ lines))) e
          ∙ ap (λ (n : ℕ). filter is_content (take n (line ∷ lines))) more
          ∙ sym (ap (λ (b : Bool). cond b [] (cond (is_content line) (line ∷ content_of lines) (content_of lines))) e)
    ]

-- what counts of a line of a kind, and of those after it
abbrev by_kind : LineKind → List ℕ → List (List ℕ) → List (List ℕ)
by_kind (EndMark first) line rest = []
by_kind (Problem first) line rest = line ∷ rest
by_kind (Numbers first) line rest = line ∷ rest
by_kind Skipped line rest = rest

-- what counts of a line with these words
abbrev by_words : List Word → List ℕ → List (List ℕ) → List (List ℕ)
by_words words line rest = cond (first_of words == 37) [] (cond (not (is_empty words || first_of words == 99)) (line ∷ rest) rest)

same_kind : (words : List Piece) (line : List ℕ) (rest : List (List ℕ)) → by_words (texts words) line rest ≡ by_kind (kind_by words) line rest
same_kind [] line rest = refl
same_kind (word ∷ words) line rest = elim (cases_Bool (get_or word.bytes 0 0 == 37)) [
  | inl e ↦ rw e refl
  | inr e ↦ elim (cases_Bool (get_or word.bytes 0 0 == 99)) [
    | inl c ↦ rw (e, c) refl
    | inr c ↦ elim (cases_Bool (get_or word.bytes 0 0 == 112)) [ inl p ↦ rw (e, c, p) refl | inr p ↦ rw (e, c, p) refl ]
  ]
]

content_next : (n : ℕ) (line : List ℕ) (lines : List (List ℕ)) → content_of (line ∷ lines) ≡ by_kind (kind_by (words_of (piece line (n + length line)))) line (content_of lines)
content_next n line lines =
    content_line line lines
    ∙ ap (λ (words : List Word). by_words words line (content_of lines)) (sym (words_texts n line))
    ∙ same_kind (words_after n line) line (content_of lines)
    ∙ ap (λ (words : List Piece). by_kind (kind_by words) line (content_of lines)) (sym (words_of_line n line))

-- the words of a line, wherever it stands
line_words : (n : ℕ) (line : List ℕ) → texts (words_of (piece line (n + length line))) ≡ words_in line
line_words n line = ap texts (words_of_line n line) ∙ words_texts n line

-- WHAT IS WRITTEN

-- lines after the problem line write these words after earlier ones
record WritesBehind (vars clauses : ℕ) (earlier : List Piece) (contents : List (List ℕ)) (vars2 clauses2 : ℕ) (words : List Piece) : Type 0 where
  vars_are : vars2 ≡ vars
  clauses_are : clauses2 ≡ clauses
  words_are : texts words ≡ texts earlier ++ flat_map words_in contents

end_written : (vars clauses : ℕ) (earlier : List Piece) (end v c : ℕ) (words : List Piece) → end_outcome vars clauses earlier end ≡ Written v c words → WritesBehind vars clauses earlier [] v c words
end_written vars clauses earlier end v c words e = by_test (nat_lt (length (runs_of (numbers_of earlier))) clauses) e
  where
    by_test : (b : Bool) → cond b (Faulty (record { kind = TooFewClauses; place = end })) (Written vars clauses earlier) ≡ Written v c words → WritesBehind vars clauses earlier [] v c words
    by_test true h = absurd (let f : ⊥ = cc in f)
    by_test false h = record {
      vars_are = cc;
      clauses_are = cc;
      words_are = (let same : words ≡ earlier = cc in ap texts same ∙ sym (append-nil (texts earlier)));
    }

behind_written : (vars clauses n : ℕ) (earlier : List Piece) (parts : List (List ℕ)) (over v c : ℕ) (words : List Piece) → outcome_behind vars clauses earlier (placed_after n parts) over ≡ Written v c words
    → WritesBehind vars clauses earlier (content_of parts) v c words
behind_written vars clauses n earlier [] over v c words e = end_written vars clauses earlier over v c words e
behind_written vars clauses n earlier (part ∷ parts) over v c words e =
    let line = piece part (n + length part) in
    by_case (kind_by (words_of line)) (content_next n part parts) e
    (behind_written vars clauses (n + length part + 1) earlier parts over v c words)
    (behind_written vars clauses (n + length part + 1) (earlier ++ words_of line) parts over v c words)
  where
    taken_words : (o : Option Fault) → fault_or o (outcome_behind vars clauses (earlier ++ words_of (piece part (n + length part))) (placed_after (n + length part + 1) parts) over) ≡ Written v c words
        → (outcome_behind vars clauses (earlier ++ words_of (piece part (n + length part))) (placed_after (n + length part + 1) parts) over ≡ Written v c words → WritesBehind vars clauses (earlier ++ words_of (piece part (n + length part))) (content_of parts) v c words)
        → WritesBehind vars clauses earlier (part ∷ content_of parts) v c words
    taken_words (Some f) h later = absurd (let g : ⊥ = cc in g)
    taken_words None h later =
        let l = later h in
        record {
          vars_are = l.vars_are;
          clauses_are = l.clauses_are;
          words_are = l.words_are
              ∙ ap (λ (ws : List Word). ws ++ flat_map words_in (content_of parts)) (map-append (λ (w : Piece). w.bytes) earlier (words_of (piece part (n + length part))))
              ∙ ap (λ (ws : List Word). (texts earlier ++ ws) ++ flat_map words_in (content_of parts)) (line_words n part)
              ∙ append_assoc (texts earlier) (words_in part) (flat_map words_in (content_of parts));
        }

    by_case : (kind : LineKind) → content_of (part ∷ parts) ≡ by_kind kind part (content_of parts)
        → line_outcome kind (end_outcome vars clauses earlier) (outcome_behind vars clauses earlier (placed_after (n + length part + 1) parts) over)
        (fault_or (fault_among vars clauses earlier (words_of (piece part (n + length part)))) (outcome_behind vars clauses (earlier ++ words_of (piece part (n + length part))) (placed_after (n + length part + 1) parts) over)) ≡ Written v c words
        → (outcome_behind vars clauses earlier (placed_after (n + length part + 1) parts) over ≡ Written v c words → WritesBehind vars clauses earlier (content_of parts) v c words)
        → (outcome_behind vars clauses (earlier ++ words_of (piece part (n + length part))) (placed_after (n + length part + 1) parts) over ≡ Written v c words → WritesBehind vars clauses (earlier ++ words_of (piece part (n + length part))) (content_of parts) v c words)
        → WritesBehind vars clauses earlier (content_of (part ∷ parts)) v c words
    by_case (EndMark first) k h skipped taken = subst (λ (cs : List (List ℕ)). WritesBehind vars clauses earlier cs v c words) (sym k) (end_written vars clauses earlier first v c words h)
    by_case Skipped k h skipped taken = subst (λ (cs : List (List ℕ)). WritesBehind vars clauses earlier cs v c words) (sym k) (skipped h)
    by_case (Problem first) k h skipped taken = absurd (let f : ⊥ = cc in f)
    by_case (Numbers first) k h skipped taken = subst (λ (cs : List (List ℕ)). WritesBehind vars clauses earlier cs v c words) (sym k)
        (taken_words (fault_among vars clauses earlier (words_of (piece part (n + length part)))) h taken)

-- the lines of a text write these words after a problem line that states these numbers
pub record WritesText (contents : List (List ℕ)) (vars clauses : ℕ) (words : List Piece) : Type 0 where
  pub problem : List ℕ
  pub rest : List (List ℕ)
  pub first : contents ≡ problem ∷ rest
  pub stated : stated_by (words_in problem) ≡ Some (vars, clauses)
  pub small : vars ≤ max_vars
  pub words_are : flat_map words_in rest ≡ texts words

problem_written : (o : Option (ℕ × ℕ)) (line : List ℕ) (last n : ℕ) (parts : List (List ℕ)) (over v c : ℕ) (words : List Piece) → stated_by (words_in line) ≡ o
    → problem_outcome o last (placed_after n parts) over ≡ Written v c words → WritesText (line ∷ content_of parts) v c words
problem_written None line last n parts over v c words s e = absurd (let f : ⊥ = cc in f)
problem_written (Some (vars, clauses)) line last n parts over v c words s e = by_test (nat_lt max_vars vars || nat_lt max_clauses clauses) refl e
  where
    by_test : (b : Bool) → (nat_lt max_vars vars || nat_lt max_clauses clauses) ≡ b → cond b (Faulty (record { kind = Limit; place = last })) (outcome_behind vars clauses [] (placed_after n parts) over) ≡ Written v c words
        → WritesText (line ∷ content_of parts) v c words
    by_test true t h = absurd (let f : ⊥ = cc in f)
    by_test false t h =
        let w = behind_written vars clauses n [] parts over v c words h in
        let fits : vars ≤ max_vars = elim (cases_lt max_vars vars) [
          | inr low ↦ low
          | inl high ↦ absurd (let g : ⊥ = cc (t, ap (λ (x : Bool). x || nat_lt max_clauses clauses) (lt-ltb max_vars vars high)) in g)
        ] in
        let same = w.vars_are in
        record {
          problem = line;
          rest = content_of parts;
          first = refl;
          stated = s ∙ ap (λ (m : ℕ). Some (m, clauses)) (sym w.vars_are) ∙ ap (λ (m : ℕ). Some (v, m)) (sym w.clauses_are);
          small = omega (arith, fits, same);
          words_are = sym w.words_are;
        }

from_written : (n : ℕ) (parts : List (List ℕ)) (over v c : ℕ) (words : List Piece) → outcome_from (placed_after n parts) over ≡ Written v c words → WritesText (content_of parts) v c words
from_written n [] over v c words e = absurd (let f : ⊥ = cc in f)
from_written n (part ∷ parts) over v c words e =
    by_case (kind_by (words_of (piece part (n + length part)))) (content_next n part parts) e (from_written (n + length part + 1) parts over v c words)
  where
    by_case : (kind : LineKind) → content_of (part ∷ parts) ≡ by_kind kind part (content_of parts)
        → first_line_outcome kind (outcome_from (placed_after (n + length part + 1) parts) over)
        (problem_outcome (stated_by (texts (words_of (piece part (n + length part))))) (n + length part) (placed_after (n + length part + 1) parts) over) ≡ Written v c words
        → (outcome_from (placed_after (n + length part + 1) parts) over ≡ Written v c words → WritesText (content_of parts) v c words)
        → WritesText (content_of (part ∷ parts)) v c words
    by_case (EndMark first) k h skipped = absurd (let f : ⊥ = cc in f)
    by_case Skipped k h skipped = subst (λ (cs : List (List ℕ)). WritesText cs v c words) (sym k) (skipped h)
    by_case (Problem first) k h skipped = subst (λ (cs : List (List ℕ)). WritesText cs v c words) (sym k)
        (problem_written (stated_by (texts (words_of (piece part (n + length part))))) part (n + length part) (n + length part + 1) parts over v c words (ap stated_by (sym (line_words n part))) h)
    by_case (Numbers first) k h skipped = absurd (let f : ⊥ = cc in f)

pub text_written : (text : List ℕ) (v c : ℕ) (words : List Piece) → text_outcome text ≡ Written v c words → WritesText (content_of (slice_split is_newline text)) v c words
text_written text v c words e = from_written 0 (slice_split is_newline text) (length text + 1) v c words e
