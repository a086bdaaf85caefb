-- The lines of the class linear: what the next one leads to.
use Rattle.std.specs.Prelude.{ℕ, ◌+◌, ℤ, if◌then◌else◌, List, [], ◌∷◌, ◌++◌, map, codes, Option, Some, None, option_map}
use Rattle.lk_model.specs.Lists.{is_empty}
use Rattle.lk_model.specs.Texts.Lines.{Word}
use Rattle.lk_model.specs.Texts.NumberWords.{plain_number}
use Rattle.lk_model.specs.Documents.Text.{stage_line, dual_line, unit_line}
use Rattle.lk_model.specs.declared.document.Weight.{Weight}
use Rattle.lk_model.specs.declared.document.Stage.{Stage}
use Rattle.lk_model.specs.declared.document.Dual.{Dual}
use Rattle.lk_model.specs.declared.document.Share.{Share}
use Rattle.lk_model.specs.declared.document.Unit.{Unit}
use Rattle.lk_text.specs.Kinds.{if_in_range}
use Rattle.cert_text.specs.declared.read_linear.LinearPart.{LinearPart}
use Rattle.line_text.specs.Fields.{after, number_within}
use Rattle.cert_text.specs.Entries.{if_weight, dual_within}
use Rattle.line_text.specs.FieldLists.{twos}
use Rattle.line_text.specs.LastVars.{last_or}

abbrev pub fresh_linear : LinearPart
fresh_linear = record { stages = []; dual = []; units = [] }

-- the lines that were read
abbrev pub linear_lines : LinearPart → List (List Word)
linear_lines p = map stage_line p.stages ++ map dual_line p.dual ++ map unit_line p.units

-- WORDS

abbrev pub weight_by : Option ℕ → Option ℤ → Option Weight
weight_by (Some v) (Some x) = Some (record { var = v; x = x })
weight_by _ _ = None

abbrev pub share_by : Option ℕ → Option ℤ → Option Share
share_by (Some p) (Some z) = Some (record { pos = p; z = z })
share_by _ _ = None

-- a weight after others
abbrev pub weight_within : ℕ → List Weight → Word → Word → Option Weight
weight_within n ws v x = weight_by (number_within (last_or 0 (map (λ (w : Weight). w.var) ws) + 1) n (plain_number v)) (if_weight (plain_number x))

abbrev pub share_within : ℕ → List Share → Word → Word → Option Share
share_within m ss p z = share_by (number_within (last_or 0 (map (λ (s : Share). s.pos) ss) + 1) m (plain_number p)) (if_weight (plain_number z))

abbrev pub unit_by : Option ℕ → Option ℤ → Option (List Share) → Option Unit
unit_by (Some v) (Some d) (Some shares) = Some (record { var = v; d = d; shares = shares })
unit_by _ _ _ = None

-- words for a variable above a last one and up to n, for a number, and for shares
abbrev pub unit_within : ℕ → ℕ → ℕ → List Word → Option Unit
unit_within last n m (v ∷ d ∷ words) = unit_by (number_within (last + 1) n (plain_number v)) (if_in_range (plain_number d)) (twos (share_within m) [] words)
unit_within last n m _ = None

-- LINES

abbrev pub stage_of : List Weight → Stage
stage_of weights = record { weights = weights }

abbrev pub next_stage : ℕ → LinearPart → List Word → Option LinearPart
next_stage n p words = if is_empty p.dual
    then if is_empty p.units then option_map (λ (ws : List Weight). record p { stages = p.stages ++ stage_of ws ∷ [] }) (twos (weight_within n) [] words) else None
    else None

abbrev pub next_dual : ℕ → LinearPart → List Word → Option LinearPart
next_dual m p words = if is_empty p.units
    then option_map (λ (y : Dual). record p { dual = p.dual ++ y ∷ [] }) (dual_within (last_or 0 (map (λ (y : Dual). y.pos) p.dual)) m words)
    else None

abbrev pub next_unit : ℕ → ℕ → LinearPart → List Word → Option LinearPart
next_unit n m p words = option_map (λ (u : Unit). record p { units = p.units ++ u ∷ [] }) (unit_within (last_or 0 (map (λ (u : Unit). u.var) p.units)) n m words)

-- the first that is there, led on
abbrev pub linear_by : ℕ → ℕ → LinearPart → Option (List Word) → Option (List Word) → Option (List Word) → Option LinearPart
linear_by n m p (Some words) dual unit = next_stage n p words
linear_by n m p None (Some words) unit = next_dual m p words
linear_by n m p None None (Some words) = next_unit n m p words
linear_by n m p None None None = None

abbrev pub linear_next : ℕ → ℕ → LinearPart → List Word → Option LinearPart
linear_next n m p words = linear_by n m p (after (codes "c") (codes "stage") words) (after (codes "c") (codes "dual") words) (after (codes "c") (codes "unit") words)
