-- Texts that go on as documents, and texts that stop being one; the same for another set of texts.
use Rattle.std.specs.Prelude.{◌≡◌, ◌<◌, ℕ, zero, suc, refl, List, [], ◌∷◌, take, codes, Some}
use Rattle.std.specs.Fmt.{digits}
use Rattle.std.proofs.Common.{arith, ap, ◌∙◌}
use Rattle.lk_model.specs.Documents.Form.{is_body, are_clause_lines, is_done_in_form, is_open_in_form}
use Rattle.lk_model.specs.Documents.Text.{text_lines}
use Rattle.lk_model.specs.Documents.Reading.{GoesOn, StopsAt, GoesOnAs, StopsAs, cut_lines}
use Rattle.lk_model.specs.declared.document.Document.{Document}
use Rattle.lk_model.specs.declared.document.Document.TheVariants.{Done, Unfinished}
use Rattle.test_definitions.proofs.WorkedDocuments.{pure_done}

-- the front of a document, of each version
front : GoesOn (codes "c leank 1 pure\nc formula 3 3\nc keep 2 3") 2
unfolding is_body are_clause_lines is_done_in_form text_lines cut_lines digits
front = record { document = Done pure_done; form = refl; same = refl }

protected_front : GoesOn (codes "c leank 2 pure\nc formula 3 3\nc protect 2 0\nc keep") 3
unfolding is_body are_clause_lines is_done_in_form text_lines cut_lines digits
protected_front = record { document = Done (record pure_done { protect = Some (2 ∷ []) }); form = refl; same = refl }

-- the empty text stops at line 1, since each document has a line
has_a_line : (d : Document) → [] ≡ take 1 (text_lines d) → ⊥
unfolding text_lines
has_a_line (Done d) h = cc
has_a_line (Unfinished d) h = cc

any_front : (bytes : List ℕ) (k : ℕ) → k < 1 → GoesOn bytes k
unfolding is_body are_clause_lines is_done_in_form is_open_in_form
any_front bytes zero h = record { document = Done pure_done; form = refl; same = refl }
any_front bytes (suc k) h = absurd (omega (arith, h))

empty_text : StopsAt [] 1
unfolding cut_lines
empty_text = record { stops = λ g. has_a_line g.document g.same; first = any_front [] }

-- a text whose second line is empty leaves the one text of two lines there
abbrev two_lines : List ℕ → Type 0
two_lines text = text ≡ codes "a\nb\n"

one_line : (k : ℕ) → k < 2 → GoesOnAs two_lines (codes "a\n\n") k
unfolding cut_lines
one_line zero h = record { text = codes "a\nb\n"; admitted = refl; same = refl }
one_line (suc zero) h = record { text = codes "a\nb\n"; admitted = refl; same = refl }
one_line (suc (suc k)) h = absurd (omega (arith, h))

no_second_line : (text : List ℕ) → two_lines text → take 2 (cut_lines (codes "a\n\n")) ≡ take 2 (cut_lines text) → ⊥
unfolding cut_lines
no_second_line text is same =
    let e : take 2 (cut_lines (codes "a\n\n")) ≡ take 2 (cut_lines (codes "a\nb\n")) = same ∙ ap (λ (t : List ℕ). take 2 (cut_lines t)) is in cc

leaves_second : StopsAs two_lines (codes "a\n\n") 2
leaves_second = record { stops = λ g. no_second_line g.text g.admitted g.same; first = one_line }
