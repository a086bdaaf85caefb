-- The lines of rounds have clean words.
use Rattle.std.proofs.Common.{◌≡◌, true, List, [], ◌∷◌, ◌++◌, map, refl}
use Rattle.std.specs.List.{flat_map}
use Rattle.std.specs.Fmt.{decimal, signed_decimal}
use Rattle.lk_model.specs.Texts.PlainText.{ended, literal_words}
use Rattle.lk_model.specs.Documents.Text.{step_line, round_lines}
use Rattle.lk_model.specs.declared.document.Turn.{Turn}
use Rattle.lk_model.specs.declared.document.Step.{Step}
use Rattle.lk_model.specs.declared.document.Round.{Round}
use Rattle.line_text.proofs.CleanWords.{is_clean_line, are_clean}
use Rattle.line_text.proofs.CleanNumbers.{clean_number, clean_signed, clean_cons, clean_append, clean_ended, clean_literals, clean_each, two_words, lines_append, lines_map}

clean_step : (s : Step) → is_clean_line (step_line s) ≡ true
clean_step s =
    let spelled = flat_map (λ (t : Turn). signed_decimal t.lit ∷ decimal t.with ∷ []) s.turns in
    let turns = clean_ended spelled (clean_each (λ (t : Turn). signed_decimal t.lit ∷ decimal t.with ∷ []) (λ t. two_words (signed_decimal t.lit) (decimal t.with) (clean_signed t.lit) (clean_number t.with)) s.turns) in
    clean_cons (decimal s.number) (literal_words s.clause ++ decimal s.first ∷ ended spelled) (clean_number s.number)
    (clean_append (literal_words s.clause) (decimal s.first ∷ ended spelled) (clean_ended (map signed_decimal s.clause) (clean_literals s.clause)) (clean_cons (decimal s.first) (ended spelled) (clean_number s.first) turns))

-- those of one round
pub clean_round : (r : Round) → are_clean (round_lines r) ≡ true
clean_round r = lines_map step_line clean_step r.steps

-- and of some
pub clean_rounds : (rs : List Round) → are_clean (flat_map round_lines rs) ≡ true
clean_rounds [] = refl
clean_rounds (r ∷ rs) = lines_append (round_lines r) (flat_map round_lines rs) (clean_round r) (clean_rounds rs)
