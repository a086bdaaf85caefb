-- Cores as they are written, and the last round as it is taken.
use Rattle.std.proofs.Common.{◌≡◌, ◌↔◌, ℕ, ◌<◌, ◌∙◌, List, [], ◌∷◌, ◌++◌, length, map, refl, sym, ap, arith, Option, Some, None, append_assoc}
use Rattle.std.specs.Prelude.{codes, IsSome}
use Rattle.std.specs.List.{flat_map}
use Rattle.std.specs.Option.{option_to_list}
use Rattle.std.proofs.lemmas.List.{append-nil}
use Rattle.std.proofs.lemmas.List.Concat.{flat_map-append}
use Rattle.lk_model.specs.Texts.Lines.{Word}
use Rattle.lk_model.specs.Texts.PlainText.{line, formula_lines, plain_text}
use Rattle.lk_model.specs.Documents.CoreText.{core_line, without_line, core_lines}
use Rattle.lk_model.specs.Documents.Text.{round_lines, first_lines}
use Rattle.lk_model.specs.declared.document.Round.{Round}
use Rattle.lk_model.specs.declared.document.Without.{Without}
use Rattle.lk_model.specs.declared.document.MusAnswer.{MusAnswer}
use Rattle.answer_text.specs.CoreDrafts.{last_round}

-- lines after those that are written
behind : (before now lines more : List ℕ) → now ≡ before ++ lines → now ++ more ≡ before ++ (lines ++ more)
behind before now lines more is = ap (λ (s : List ℕ). s ++ more) is ∙ append_assoc before lines more

-- two lines
pub two_lines : (before first : List ℕ) (a b : List Word) → first ≡ before ++ line a → first ++ line b ≡ before ++ flat_map line (a ∷ b ∷ [])
two_lines before first a b is = behind before first (line a) (line b) is ∙ ap (λ (s : List ℕ). before ++ (line a ++ s)) (sym (append-nil (line b)))

-- the lines of a core, in five pieces
pub core_behind : (before first positions steps withouts : List ℕ) (a : MusAnswer) (core : List ℕ) (ws : List Without) → core ≡ a.core → ws ≡ a.without
    → first ≡ before ++ flat_map line (first_lines (codes "mus") a.vars a.clauses None) → positions ≡ first ++ line (core_line core) → steps ≡ positions ++ flat_map line (round_lines a.round)
    → withouts ≡ steps ++ flat_map line (map without_line ws) → withouts ++ plain_text a.texts ≡ before ++ flat_map line (core_lines a)
core_behind before first positions steps withouts a core ws same these is_first is_positions is_steps is_withouts =
    let heads : List (List Word) = first_lines (codes "mus") a.vars a.clauses None in
    let head = flat_map line heads in
    let middle = line (core_line a.core) ++ flat_map line (round_lines a.round) in
    let lits = flat_map line (map without_line a.without) in
    let front : steps ≡ before ++ (head ++ middle) =
    is_steps ∙ behind first positions (line (core_line core)) (flat_map line (round_lines a.round)) is_positions
    ∙ ap (λ (ps : List ℕ). first ++ (line (core_line ps) ++ flat_map line (round_lines a.round))) same
    ∙ behind before first head middle is_first in
    let all : withouts ≡ before ++ ((head ++ middle) ++ lits) =
    is_withouts ∙ ap (λ (xs : List Without). steps ++ flat_map line (map without_line xs)) these ∙ behind before steps (head ++ middle) lits front in
    behind before withouts ((head ++ middle) ++ lits) (plain_text a.texts) all
    ∙ ap (λ (s : List ℕ). before ++ ((s ++ lits) ++ plain_text a.texts)) (sym (flat_map-append line heads (core_line a.core ∷ round_lines a.round)))
    ∙ ap (λ (s : List ℕ). before ++ (s ++ plain_text a.texts)) (sym (flat_map-append line (heads ++ (core_line a.core ∷ round_lines a.round)) (map without_line a.without)))
    ∙ ap (λ (s : List ℕ). before ++ s) (sym (flat_map-append line (heads ++ (core_line a.core ∷ round_lines a.round) ++ map without_line a.without) (formula_lines a.texts)))

-- the last of some rounds
last_behind : (rounds : List Round) (r : Round) → last_round (rounds ++ r ∷ []) ≡ Some r
last_behind [] r = refl
last_behind (q ∷ []) r = refl
last_behind (q ∷ s ∷ rounds) r = last_behind (s ∷ rounds) r

pub last_taken : (old rest : List Round) (o : Option Round) → old ≡ rest ++ option_to_list o → (IsSome o ↔ (0 < length old)) → o ≡ last_round old
last_taken old rest (Some r) is some = sym (ap last_round is ∙ last_behind rest r)
last_taken [] rest None is some = refl
last_taken (r ∷ rs) rest None is some = absurd (let t = some.1 (omega arith) in let f : ⊥ = cc in f)
