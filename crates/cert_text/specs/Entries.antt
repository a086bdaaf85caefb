-- What the words of a line say of an entry of a document: a pair, an own clause, a row, a dual, a weight.
use Rattle.std.specs.Prelude.{ℕ, ◌+◌, ◌-◌, ◌^◌, List, [], ◌∷◌, ℤ, if◌then◌else◌, ◌&&◌}
use Rattle.std.specs.declared.option.Option.{Option}
use Rattle.std.specs.declared.option.Option.TheVariants.{Some, None}
use Rattle.lk_model.specs.Lists.{is_nonzero}
use Rattle.lk_model.specs.Limits.{is_in_range}
use Rattle.lk_model.specs.Texts.Lines.{Word}
use Rattle.lk_model.specs.Texts.NumberWords.{plain_number}
use Rattle.lk_model.specs.declared.document.Pair.{Pair}
use Rattle.lk_model.specs.declared.document.Own.{Own}
use Rattle.lk_model.specs.declared.document.MatchRow.{MatchRow}
use Rattle.lk_model.specs.declared.document.Dual.{Dual}
use Rattle.lk_text.specs.Kinds.{if_in_range}
use Rattle.line_text.specs.Fields.{number_within}

-- the number, if it is a weight
abbrev pub if_weight : Option ℤ → Option ℤ
if_weight None = None
if_weight (Some x) = if is_nonzero x && is_in_range x then Some x else None

abbrev pub pair_by : Option ℕ → Option ℕ → Option ℕ → Option Pair
pair_by (Some v) (Some a) (Some b) = Some (record { var = v; with = a; against = b })
pair_by _ _ _ = None

abbrev pub own_by : Option ℕ → Option ℕ → Option Own
own_by (Some p) (Some v) = Some (record { pos = p; var = v })
own_by _ _ = None

abbrev pub row_by : Option ℕ → Option ℕ → Option ℕ → Option ℕ → Option MatchRow
row_by (Some v) (Some m) (Some e) (Some r) = Some (record { var = v; own = m; escape = e; rank = r })
row_by _ _ _ _ = None

abbrev pub dual_by : Option ℕ → Option ℤ → Option Dual
dual_by (Some p) (Some y) = Some (record { pos = p; y = y })
dual_by _ _ = None

-- three words for a variable above a last one and up to n, and for two positions up to m
abbrev pub pair_within : ℕ → ℕ → ℕ → List Word → Option Pair
pair_within last n m (v ∷ a ∷ b ∷ []) = pair_by (number_within (last + 1) n (plain_number v)) (number_within 1 m (plain_number a)) (number_within 1 m (plain_number b))
pair_within last n m _ = None

-- two words for a position above a last one and up to m, and for a variable up to n
abbrev pub own_within : ℕ → ℕ → ℕ → List Word → Option Own
own_within last n m (p ∷ v ∷ []) = own_by (number_within (last + 1) m (plain_number p)) (number_within 1 n (plain_number v))
own_within last n m _ = None

-- four words for a variable above a last one and up to n, for two positions up to m, and for a rank
abbrev pub row_within : ℕ → ℕ → ℕ → List Word → Option MatchRow
row_within last n m (v ∷ a ∷ b ∷ r ∷ []) =
    row_by (number_within (last + 1) n (plain_number v)) (number_within 1 m (plain_number a)) (number_within 1 m (plain_number b)) (number_within 0 (2 ^ 32 - 1) (plain_number r))
row_within last n m _ = None

-- two words for a position above a last one and up to m, and for a number
abbrev pub dual_within : ℕ → ℕ → List Word → Option Dual
dual_within last m (p ∷ y ∷ []) = dual_by (number_within (last + 1) m (plain_number p)) (if_in_range (plain_number y))
dual_within last m _ = None
