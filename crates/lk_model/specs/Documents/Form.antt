-- Which documents are in form: those whose text is the text of a document.
use Rattle.std.specs.Prelude.{ℕ, ◌+◌, ◌*◌, ◌^◌, ◌-◌, Bool, true, false, not, if◌then◌else◌, ◌&&◌, ◌==◌, nat_lt, nat_le, List, [], ◌∷◌, map, length, ℤ, Option, Some, None}
use Rattle.std.specs.List.{list_all}
use Rattle.lk_model.specs.Lists.{is_empty, is_between, is_nonzero, rises_within}
use Rattle.lk_model.specs.Formulas.Literal.{variable, rank_of, is_literal}
use Rattle.lk_model.specs.Formulas.Formula.{Cnf, is_formula, literal_count}
use Rattle.lk_model.specs.Limits.{max_vars, max_clauses, max_literals, is_in_range}
use Rattle.lk_model.specs.Documents.Documents.{steps_of}
use Rattle.lk_model.specs.declared.document.Pair.{Pair}
use Rattle.lk_model.specs.declared.document.Own.{Own}
use Rattle.lk_model.specs.declared.document.MatchRow.{MatchRow}
use Rattle.lk_model.specs.declared.document.Weight.{Weight}
use Rattle.lk_model.specs.declared.document.Stage.{Stage}
use Rattle.lk_model.specs.declared.document.Dual.{Dual}
use Rattle.lk_model.specs.declared.document.Share.{Share}
use Rattle.lk_model.specs.declared.document.Unit.{Unit}
use Rattle.lk_model.specs.declared.document.Turn.{Turn}
use Rattle.lk_model.specs.declared.document.Step.{Step}
use Rattle.lk_model.specs.declared.document.Round.{Round}
use Rattle.lk_model.specs.declared.document.Body.{Body}
use Rattle.lk_model.specs.declared.document.Body.TheVariants.{Pure, Matching, Linear, General}
use Rattle.lk_model.specs.declared.document.DoneDocument.{DoneDocument}
use Rattle.lk_model.specs.declared.document.OpenDocument.{OpenDocument}
use Rattle.lk_model.specs.declared.document.Document.{Document}
use Rattle.lk_model.specs.declared.document.Document.TheVariants.{Done, Unfinished}

-- one after another, from this number on
abbrev pub counts_from : ℕ → List ℕ → Bool
counts_from next [] = true
counts_from next (n ∷ ns) = n == next && counts_from (next + 1) ns

abbrev pub is_weight : ℤ → Bool
is_weight x = is_nonzero x && is_in_range x

-- THE CLASSES, over n variables and m clauses

abbrev pub is_pair : ℕ → Pair → Bool
is_pair m q = is_between 1 m q.with && is_between 1 m q.against

abbrev pub are_own : ℕ → ℕ → List Own → Bool
are_own n m own = rises_within 0 m (map (λ (o : Own). o.pos) own) && list_all (λ (o : Own). is_between 1 n o.var) own

abbrev pub is_match_row : ℕ → MatchRow → Bool
is_match_row m r = is_between 1 m r.own && is_between 1 m r.escape && nat_lt r.rank (2 ^ 32)

abbrev pub are_rows : ℕ → ℕ → List MatchRow → Bool
are_rows n m rows = rises_within 0 n (map (λ (r : MatchRow). r.var) rows) && list_all (is_match_row m) rows

abbrev pub is_stage : ℕ → Stage → Bool
is_stage n s = rises_within 0 n (map (λ (w : Weight). w.var) s.weights) && list_all (λ (w : Weight). is_weight w.x) s.weights

abbrev pub are_duals : ℕ → List Dual → Bool
are_duals m dual = rises_within 0 m (map (λ (y : Dual). y.pos) dual) && list_all (λ (y : Dual). is_in_range y.y) dual

abbrev pub is_linear_unit : ℕ → Unit → Bool
is_linear_unit m u = is_in_range u.d && rises_within 0 m (map (λ (s : Share). s.pos) u.shares) && list_all (λ (s : Share). is_weight s.z) u.shares

abbrev pub is_turn : ℕ → ℕ → Turn → Bool
is_turn n number t = is_literal n t.lit && is_between 1 (number - 1) t.with

abbrev pub is_step : ℕ → Step → Bool
is_step n s = nat_lt s.number (2 ^ 64) && rises_within 1 (2 * n + 1) (map rank_of s.clause)
    && is_between 1 (s.number - 1) s.first && list_all (is_turn n s.number) s.turns

-- steps that are numbered from m + 1 on through all rounds
abbrev pub are_steps : ℕ → ℕ → List Step → Bool
are_steps n m steps = counts_from (m + 1) (map (λ (s : Step). s.number) steps) && list_all (is_step n) steps

-- no clause is empty
abbrev pub is_open : Round → Bool
is_open r = list_all (λ (s : Step). not (is_empty s.clause)) r.steps

-- the last clause is empty, and no other
abbrev pub ends_at_empty : List Step → Bool
ends_at_empty [] = false
ends_at_empty (s ∷ steps) = if is_empty s.clause then is_empty steps else ends_at_empty steps

abbrev pub is_whole : Round → Bool
is_whole r = ends_at_empty r.steps

-- whole rounds, and one open round at the end
abbrev pub end_open : List Round → Bool
end_open [] = false
end_open (r ∷ []) = is_open r
end_open (r ∷ s ∷ rounds) = is_whole r && end_open (s ∷ rounds)

unfoldable pub is_body : ℕ → ℕ → Body → Bool
is_body n m (Pure order pairs) =
    list_all (is_literal n) order && rises_within 0 n (map (λ (q : Pair). q.var) pairs) && list_all (is_pair m) pairs
is_body n m (Matching own rows) = are_own n m own && are_rows n m rows
is_body n m (Linear stages dual units) =
    list_all (is_stage n) stages && are_duals m dual && rises_within 0 n (map (λ (u : Unit). u.var) units) && list_all (is_linear_unit m) units
is_body n m (General rounds) = are_steps n m (steps_of rounds) && list_all is_whole rounds

-- THE CLAUSE LINES

-- `count` clauses over n variables, within the limit of literals
unfoldable pub are_clause_lines : ℕ → ℕ → Cnf → Bool
are_clause_lines n count F = F.vars == n && length F.clauses == count && is_formula F && nat_le (literal_count F) max_literals

-- DOCUMENTS

abbrev pub is_size : ℕ → ℕ → Bool
is_size n m = nat_le n max_vars && nat_le m max_clauses

-- variables from 1 to n, ascending, where there is such a line
abbrev pub is_protect_line : ℕ → Option (List ℕ) → Bool
is_protect_line n None = true
is_protect_line n (Some vars) = rises_within 0 n vars

unfoldable pub is_done_in_form : DoneDocument → Bool
is_done_in_form d = is_size d.vars d.clauses && is_protect_line d.vars d.protect && rises_within 0 d.clauses d.kept && rises_within 0 d.vars (map variable d.set)
    && is_body d.vars d.clauses d.body && are_clause_lines d.vars (length d.kept) d.texts

unfoldable pub is_open_in_form : OpenDocument → Bool
is_open_in_form d = is_size d.vars d.clauses && is_protect_line d.vars d.protect && nat_lt d.learned (2 ^ 63)
    && are_steps d.vars d.clauses (steps_of d.rounds) && end_open d.rounds && are_clause_lines d.vars d.clauses d.texts

abbrev pub is_in_form : Document → Bool
is_in_form (Done d) = is_done_in_form d
is_in_form (Unfinished d) = is_open_in_form d
