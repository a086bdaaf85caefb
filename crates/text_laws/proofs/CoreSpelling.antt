-- The text of a core in form spells the core's clauses.
use Rattle.std.proofs.Common.{◌≡◌, true, List, ◌∷◌, ◌++◌, length, map, refl, arith, codes, None}
use Rattle.std.proofs.lemmas.Bool.{and_from}
use Rattle.lk_model.specs.Formulas.Formula.{is_formula, IsWithinLimits}
use Rattle.lk_model.specs.Texts.Lines.{Word}
use Rattle.lk_model.specs.Documents.Text.{round_lines, first_lines}
use Rattle.lk_model.specs.Documents.CoreText.{core_line, without_line, is_core_in_form}
use Rattle.lk_model.specs.declared.document.MusAnswer.{MusAnswer}
use Rattle.lk_model.proofs.Booleans.{and_true}
use Rattle.lk_model.proofs.Rising.{rising_count}
use Rattle.text_laws.specs.SpellsLaw.{CoreSpellsLaw}
use Rattle.text_laws.proofs.Lines.{is_comment_line}
use Rattle.text_laws.proofs.Plain.{spells_behind}
use Rattle.text_laws.proofs.Spelling.{clause_lines}
use Rattle.text_laws.proofs.Comments.{are_comments, comments_join, first_comments, core_comment, round_comments, without_comments}

-- the lines before the problem line
abbrev comments_of : MusAnswer → List (List Word)
comments_of core = first_lines (codes "mus") core.vars core.clauses None ++ core_line core.core ∷ round_lines core.round ++ map without_line core.without

comments_are : (core : MusAnswer) → are_comments (comments_of core) ≡ true
comments_are core =
    let first = first_lines (codes "mus") core.vars core.clauses None in
    let refuted = core_line core.core ∷ round_lines core.round in
    comments_join (first ++ refuted) (map without_line core.without)
    (comments_join first refuted (first_comments (codes "mus") core.vars core.clauses None refl)
    (and_from (is_comment_line (core_line core.core)) (are_comments (round_lines core.round)) (core_comment core.core) (round_comments core.round)))
    (without_comments core.without)

-- as many clauses as positions, within the limits
clauses_in_form : (core : MusAnswer) → is_core_in_form core ≡ true → (is_formula core.texts ≡ true) × IsWithinLimits core.texts
unfolding is_core_in_form
clauses_in_form core h =
    let texts = and_true _ _ h in
    let literals = and_true _ _ texts.0 in
    let lines = and_true _ _ literals.0 in
    let whole = and_true _ _ lines.0 in
    let steps = and_true _ _ whole.0 in
    let rise = and_true _ _ steps.0 in
    clause_lines core.vars core.clauses (length core.core) core.texts rise.0 (omega (arith, rising_count 0 core.clauses core.core rise.1 (omega arith))) texts.1

pub core_spells_law : CoreSpellsLaw
core_spells_law core form size =
    let clauses = clauses_in_form core form in
    spells_behind (comments_of core) core.texts (comments_are core) clauses.0 clauses.1 size
