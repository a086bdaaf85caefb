-- Documents of the worked formulas with protected variables, and their texts.
use Rattle.std.specs.Prelude.{◌≡◌, refl, ℕ, true, false, List, [], ◌∷◌, map, pos, negsuc, Some, codes}
use Rattle.std.specs.Fmt.{digits}
use Rattle.lk_model.specs.Documents.Form.{is_body, are_clause_lines, is_done_in_form, is_open_in_form, is_in_form}
use Rattle.lk_model.specs.Documents.Text.{text_of, text_lines}
use Rattle.lk_model.specs.Documents.KindWords.{kind_word, refused_words}
use Rattle.lk_model.specs.declared.document.Pair.{Pair}
use Rattle.lk_model.specs.declared.document.Unit.{Unit}
use Rattle.lk_model.specs.declared.document.Round.{Round}
use Rattle.lk_model.specs.declared.document.Body.TheVariants.{Pure, Matching, Linear, General}
use Rattle.lk_model.specs.declared.document.DoneDocument.{DoneDocument}
use Rattle.lk_model.specs.declared.document.OpenDocument.{OpenDocument}
use Rattle.lk_model.specs.declared.document.Document.{Document}
use Rattle.lk_model.specs.declared.document.Document.TheVariants.{Done, Unfinished}
use Rattle.lk_model.specs.declared.verdict.Kind.TheVariants.{ProtectedSet, BadWithout}
use Rattle.test_definitions.proofs.WorkedDocuments.{equivalence, cycle, pure_done, duals_of_one, linear_done, unfinished_open}

-- DOCUMENTS

-- of the class pure with 1 protected: all clauses are kept, with pairs for 2 and 3
abbrev pub all_pairs : List Pair
all_pairs = record { var = 2; with = 1; against = 2 } ∷ record { var = 3; with = 2; against = 3 } ∷ []

abbrev pub all_kept : DoneDocument
all_kept = record {
  vars = 3;
  clauses = 3;
  protect = Some (1 ∷ []);
  kept = 1 ∷ 2 ∷ 3 ∷ [];
  set = [];
  body = Pure [] all_pairs;
  texts = equivalence;
}

-- of the class matching with 1 protected: rows for 2 and 3
abbrev pub all_rows : DoneDocument
all_rows = record all_kept { body = Matching [] (record { var = 2; own = 2; escape = 1; rank = 1 } ∷ record { var = 3; own = 3; escape = 2; rank = 2 } ∷ []) }

-- with 2 and 3 protected: 1 takes the first clause, and no row is wanted
abbrev pub two_protected : DoneDocument
two_protected = record pure_done {
  protect = Some (2 ∷ 3 ∷ []);
  body = Matching (record { pos = 1; var = 1 } ∷ []) [];
}

-- of the class linear with 2 protected: a unit for 1 alone, which may be off in 2
abbrev pub one_unit : List Unit
one_unit = record { var = 1; d = pos 1; shares = record { pos = 1; z = pos 1 } ∷ [] } ∷ []

abbrev pub one_linear : DoneDocument
one_linear = record linear_done { protect = Some (2 ∷ []); body = Linear [] duals_of_one one_unit }

-- of the class general with 1 and 2 protected: no round
abbrev pub no_round : DoneDocument
no_round = record linear_done { protect = Some (1 ∷ 2 ∷ []); body = General [] }

-- with 1 protected, a refutation of the crossed clauses of the cycle
abbrev pub crossed_round : Round
crossed_round = record {
  steps = record { number = 5; clause = []; first = 2; turns = record { lit = pos 2; with = 1 } ∷ record { lit = negsuc 2; with = 3 } ∷ [] } ∷ [];
}

abbrev pub cycle_kept : DoneDocument
cycle_kept = record {
  vars = 3;
  clauses = 4;
  protect = Some (1 ∷ []);
  kept = 1 ∷ 2 ∷ 3 ∷ 4 ∷ [];
  set = [];
  body = General (crossed_round ∷ []);
  texts = cycle;
}

-- unfinished with 3 protected: a clause of one literal is learned from the crossed clauses
abbrev pub three_protected : OpenDocument
three_protected = record unfinished_open {
  protect = Some (3 ∷ []);
  rounds = record { steps = record { number = 9; clause = negsuc 0 ∷ []; first = 8; turns = record { lit = negsuc 1; with = 6 } ∷ [] } ∷ [] } ∷ [];
}

-- THEIR TEXTS

-- where a list names no variable of the formula the line has none
texts : List (Document × List ℕ)
texts = (Done all_kept, codes "c leank 2 pure\nc formula 3 3\nc protect 1 0\nc keep 1 2 3 0\nc set 0\nc order 0\nc pair 2 1 2\nc pair 3 2 3\np cnf 3 3\n1 2 0\n-2 3 0\n2 -3 0\n")
    ∷ (Done (record pure_done { protect = Some [] }), codes "c leank 2 pure\nc formula 3 3\nc protect 0\nc keep 2 3 0\nc set 1 0\nc order 1 0\nc pair 2 3 2\nc pair 3 2 3\np cnf 3 2\n-2 3 0\n2 -3 0\n")
    ∷ (Done all_rows, codes "c leank 2 matching\nc formula 3 3\nc protect 1 0\nc keep 1 2 3 0\nc set 0\nc row 2 2 1 1\nc row 3 3 2 2\np cnf 3 3\n1 2 0\n-2 3 0\n2 -3 0\n")
    ∷ (Done two_protected, codes "c leank 2 matching\nc formula 3 3\nc protect 2 3 0\nc keep 2 3 0\nc set 1 0\nc own 1 1\np cnf 3 2\n-2 3 0\n2 -3 0\n")
    ∷ (Done one_linear, codes "c leank 2 linear\nc formula 2 4\nc protect 2 0\nc keep 1 2 3 4 0\nc set 0\nc dual 1 1\nc dual 2 1\nc dual 3 1\nc dual 4 1\nc unit 1 1 1 1 0\np cnf 2 4\n1 2 0\n1 -2 0\n-1 2 0\n-1 -2 0\n")
    ∷ (Done no_round, codes "c leank 2 general\nc formula 2 4\nc protect 1 2 0\nc keep 1 2 3 4 0\nc set 0\np cnf 2 4\n1 2 0\n1 -2 0\n-1 2 0\n-1 -2 0\n")
    ∷ (Unfinished three_protected, codes "c leank 2 unfinished\nc formula 3 8\nc protect 3 0\nc learned 1\nc round\nc step 9 -1 0 8 -2 6 0\np cnf 3 8\n1 2 3 0\n1 2 -3 0\n1 -2 3 0\n1 -2 -3 0\n-1 2 3 0\n-1 2 -3 0\n-1 -2 3 0\n-1 -2 -3 0\n") ∷ []

spelled : map (λ (d, text). text_of d) texts ≡ map (λ (d, text). text) texts
unfolding texts text_of text_lines digits
spelled = refl

in_form : map (λ (d, text). is_in_form d) texts ≡ true ∷ true ∷ true ∷ true ∷ true ∷ true ∷ true ∷ []
unfolding texts is_body are_clause_lines is_done_in_form is_open_in_form
in_form = refl

-- protected variables that do not ascend, stand twice, or are none of the formula's
malformed : List Document
malformed = Done (record all_kept { protect = Some (2 ∷ 1 ∷ []) }) ∷ Done (record all_kept { protect = Some (1 ∷ 1 ∷ []) })
    ∷ Done (record all_kept { protect = Some (0 ∷ []) }) ∷ Done (record all_kept { protect = Some (4 ∷ []) })
    ∷ Unfinished (record three_protected { protect = Some (4 ∷ []) }) ∷ []

out_of_form : map is_in_form malformed ≡ false ∷ false ∷ false ∷ false ∷ false ∷ []
unfolding malformed is_body are_clause_lines is_done_in_form is_open_in_form
out_of_form = refl

-- KINDS

protected_word : kind_word ProtectedSet ≡ codes "protected-set"
protected_word = refl

without_word : kind_word BadWithout ≡ codes "bad-without"
without_word = refl

refused_line : refused_words (record { kind = ProtectedSet; place = 2 }) ≡ codes "refused" ∷ codes "protected-set" ∷ codes "2" ∷ []
unfolding digits
refused_line = refl
