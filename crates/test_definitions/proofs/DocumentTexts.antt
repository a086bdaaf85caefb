-- The texts of the worked documents, and documents that are not in form.
use Rattle.std.specs.Prelude.{◌≡◌, refl, ℕ, true, false, List, [], ◌∷◌, map, pos, codes}
use Rattle.std.specs.Fmt.{digits}
use Rattle.lk_model.specs.declared.document.Document.{Document}
use Rattle.lk_model.specs.declared.document.Document.TheVariants.{Done, Unfinished}
use Rattle.lk_model.specs.declared.document.Body.TheVariants.{Pure, Linear, General}
use Rattle.lk_model.specs.Documents.Form.{is_body, are_clause_lines, is_done_in_form, is_open_in_form, is_in_form}
use Rattle.lk_model.specs.Documents.Text.{text_of, text_lines}
use Rattle.test_definitions.proofs.WorkedDocuments.{pure_done, matching_done, rows_done, linear_done, two_units, general_done, resolved_on_2, refuting, unfinished_open}

-- documents, each with its text
texts : List (Document × List ℕ)
texts = (Done pure_done, codes "c leank 1 pure\nc formula 3 3\nc keep 2 3 0\nc set 1 0\nc order 1 0\nc pair 2 3 2\nc pair 3 2 3\np cnf 3 2\n-2 3 0\n2 -3 0\n")
    ∷ (Done matching_done, codes "c leank 1 matching\nc formula 3 3\nc keep 0\nc set 1 2 3 0\nc own 1 1\nc own 2 3\nc own 3 2\np cnf 3 0\n")
    ∷ (Done rows_done, codes "c leank 1 matching\nc formula 3 4\nc keep 1 2 3 4 0\nc set 0\nc row 1 1 4 1\nc row 2 2 1 2\nc row 3 3 4 1\np cnf 3 4\n1 -2 0\n2 -3 0\n3 -1 0\n1 -3 0\n")
    ∷ (Done linear_done, codes "c leank 1 linear\nc formula 2 4\nc keep 1 2 3 4 0\nc set 0\nc dual 1 1\nc dual 2 1\nc dual 3 1\nc dual 4 1\nc unit 1 2 1 1 2 1 0\nc unit 2 2 1 1 2 -1 0\np cnf 2 4\n1 2 0\n1 -2 0\n-1 2 0\n-1 -2 0\n")
    ∷ (Done general_done, codes "c leank 1 general\nc formula 2 4\nc keep 1 2 3 4 0\nc set 0\nc round\nc step 5 1 0 1 2 2 0\nc step 6 0 3 2 4 -1 5 0\np cnf 2 4\n1 2 0\n1 -2 0\n-1 2 0\n-1 -2 0\n")
    ∷ (Unfinished unfinished_open, codes "c leank 1 unfinished\nc formula 3 8\nc learned 1\nc round\nc step 9 -1 -2 0 8 -3 7 0\np cnf 3 8\n1 2 3 0\n1 2 -3 0\n1 -2 3 0\n1 -2 -3 0\n-1 2 3 0\n-1 2 -3 0\n-1 -2 3 0\n-1 -2 -3 0\n") ∷ []

spelled : map (λ (d, text). text_of d) texts ≡ map (λ (d, text). text) texts
unfolding texts text_of text_lines digits
spelled = refl

in_form : map (λ (d, text). is_in_form d) texts ≡ true ∷ true ∷ true ∷ true ∷ true ∷ true ∷ []
unfolding texts is_body are_clause_lines is_done_in_form is_open_in_form
in_form = refl

-- NOT IN FORM

-- pairs that do not ascend, a dual past the greatest number, a first step of the wrong number, a round that does not end
malformed : List Document
malformed = Done (record pure_done { body = Pure (pos 1 ∷ []) (record { var = 3; with = 2; against = 3 } ∷ record { var = 2; with = 3; against = 2 } ∷ []) })
    ∷ Done (record linear_done { body = Linear [] (record { pos = 1; y = pos 170141183460469231731687303715884105728 } ∷ record { pos = 2; y = pos 1 } ∷ record { pos = 3; y = pos 1 } ∷ record { pos = 4; y = pos 1 } ∷ []) two_units })
    ∷ Done (record general_done { body = General (record { steps = record resolved_on_2 { number = 6 } ∷ refuting ∷ [] } ∷ []) })
    ∷ Done (record general_done { body = General (record { steps = resolved_on_2 ∷ [] } ∷ []) }) ∷ []

out_of_form : map is_in_form malformed ≡ false ∷ false ∷ false ∷ false ∷ []
unfolding malformed is_body are_clause_lines is_done_in_form is_open_in_form
out_of_form = refl
