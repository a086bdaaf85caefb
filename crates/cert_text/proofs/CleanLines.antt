-- The lines of a document have clean words.
use Rattle.std.proofs.Common.{◌≡◌, ℕ, true, List, [], ◌∷◌, ◌++◌, map, refl, Option, Some, None}
use Rattle.std.specs.Prelude.{codes}
use Rattle.std.specs.List.{flat_map}
use Rattle.std.specs.Fmt.{decimal, signed_decimal}
use Rattle.lk_model.specs.Texts.Lines.{Word}
use Rattle.lk_model.specs.Texts.PlainText.{ended, literal_words, number_words, formula_lines}
use Rattle.lk_model.specs.Documents.Text.{comment, pair_line, own_line, row_line, stage_line, dual_line, unit_line, round_lines, class_lines, class_word, first_lines, protect_lines, version, document_lines}
use Rattle.lk_model.specs.Documents.Documents.{class_of}
use Rattle.lk_model.specs.declared.document.Weight.{Weight}
use Rattle.lk_model.specs.declared.document.Share.{Share}
use Rattle.lk_model.specs.declared.document.Body.{Body}
use Rattle.lk_model.specs.declared.document.Body.TheVariants.{Pure, Matching, Linear, General}
use Rattle.lk_model.specs.declared.document.Document.{Document}
use Rattle.lk_model.specs.declared.document.Document.TheVariants.{Done, Unfinished}
use Rattle.cert_text.proofs.LinearSteps.{share_words}
use Rattle.line_text.proofs.CleanWords.{is_clean, are_clean}
use Rattle.line_text.proofs.CleanNumbers.{clean_number, clean_signed, clean_cons, clean_ended, clean_numbers, clean_literals, clean_each, two_words, lines_append, lines_cons, lines_map, clean_formula}
use Rattle.round_text.proofs.CleanRounds.{clean_rounds}

clean_body : (b : Body) → are_clean (class_lines b) ≡ true
clean_body (Pure order pairs) =
    lines_cons (comment (codes "order") (literal_words order)) (map pair_line pairs) (clean_ended (map signed_decimal order) (clean_literals order)) (lines_map pair_line (λ q. clean_numbers (q.var ∷ q.with ∷ q.against ∷ [])) pairs)
clean_body (Matching own rows) =
    lines_append (map own_line own) (map row_line rows) (lines_map own_line (λ o. clean_numbers (o.pos ∷ o.var ∷ [])) own)
    (lines_map row_line (λ r. clean_numbers (r.var ∷ r.own ∷ r.escape ∷ r.rank ∷ [])) rows)
clean_body (Linear stages dual units) =
    lines_append (map stage_line stages ++ map dual_line dual) (map unit_line units)
    (lines_append (map stage_line stages) (map dual_line dual)
    (lines_map stage_line (λ s. clean_ended (flat_map (λ (w : Weight). decimal w.var ∷ signed_decimal w.x ∷ []) s.weights) (clean_each (λ (w : Weight). decimal w.var ∷ signed_decimal w.x ∷ []) (λ w. two_words (decimal w.var) (signed_decimal w.x) (clean_number w.var) (clean_signed w.x)) s.weights)) stages)
    (lines_map dual_line (λ y. two_words (decimal y.pos) (signed_decimal y.y) (clean_number y.pos) (clean_signed y.y)) dual))
    (lines_map unit_line (λ u.
    clean_cons (decimal u.var) (signed_decimal u.d ∷ ended (flat_map share_words u.shares)) (clean_number u.var) (clean_cons (signed_decimal u.d) (ended (flat_map share_words u.shares)) (clean_signed u.d)
    (clean_ended (flat_map share_words u.shares) (clean_each (λ (s : Share). decimal s.pos ∷ signed_decimal s.z ∷ []) (λ s. two_words (decimal s.pos) (signed_decimal s.z) (clean_number s.pos) (clean_signed s.z)) u.shares)))) units)
clean_body (General rounds) = clean_rounds rounds

clean_protect : (protect : Option (List ℕ)) → are_clean (protect_lines protect) ≡ true
clean_protect None = refl
clean_protect (Some vars) = lines_cons (comment (codes "protect") (ended (number_words vars))) [] (clean_ended (number_words vars) (clean_numbers vars)) refl

clean_first : (word : Word) (n m : ℕ) (protect : Option (List ℕ)) → is_clean word ≡ true → are_clean (first_lines word n m protect) ≡ true
clean_first word n m protect h =
    lines_cons (comment (codes "leank") (version protect ∷ word ∷ [])) (comment (codes "formula") (number_words (n ∷ m ∷ [])) ∷ protect_lines protect) (clean_cons (version protect) (word ∷ []) (clean_version protect) (clean_cons word [] h refl))
    (lines_cons (comment (codes "formula") (number_words (n ∷ m ∷ []))) (protect_lines protect) (clean_numbers (n ∷ m ∷ [])) (clean_protect protect))
  where
    clean_version : (p : Option (List ℕ)) → is_clean (version p) ≡ true
    clean_version None = refl
    clean_version (Some vars) = refl

clean_class : (b : Body) → is_clean (class_word (class_of b)) ≡ true
clean_class (Pure order pairs) = refl
clean_class (Matching own rows) = refl
clean_class (Linear stages dual units) = refl
clean_class (General rounds) = refl

-- the lines of a document
pub clean_document : (d : Document) → are_clean (document_lines d) ≡ true
clean_document (Done d) =
    let first = first_lines (class_word (class_of d.body)) d.vars d.clauses d.protect in
    let keep = comment (codes "keep") (ended (number_words d.kept)) in
    let set = comment (codes "set") (literal_words d.set) in
    lines_append (first ++ keep ∷ set ∷ class_lines d.body) (formula_lines d.texts)
    (lines_append first (keep ∷ set ∷ class_lines d.body) (clean_first (class_word (class_of d.body)) d.vars d.clauses d.protect (clean_class d.body))
    (lines_cons keep (set ∷ class_lines d.body) (clean_ended (number_words d.kept) (clean_numbers d.kept)) (lines_cons set (class_lines d.body) (clean_ended (map signed_decimal d.set) (clean_literals d.set)) (clean_body d.body))))
    (clean_formula d.texts)
clean_document (Unfinished d) =
    let first = first_lines (codes "unfinished") d.vars d.clauses d.protect in
    let learned = comment (codes "learned") (number_words (d.learned ∷ [])) in
    lines_append (first ++ learned ∷ flat_map round_lines d.rounds) (formula_lines d.texts)
    (lines_append first (learned ∷ flat_map round_lines d.rounds) (clean_first (codes "unfinished") d.vars d.clauses d.protect refl)
    (lines_cons learned (flat_map round_lines d.rounds) (clean_numbers (d.learned ∷ [])) (clean_rounds d.rounds)))
    (clean_formula d.texts)
