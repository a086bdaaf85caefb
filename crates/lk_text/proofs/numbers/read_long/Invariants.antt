use Rattle.std.proofs.Common.{◌≡◌, ◌^◌, true, take, min}
use Rattle.std.specs.List.{list_all}
use Rattle.std.specs.Char.{is_ascii_digit}
use Rattle.lk_model.specs.Texts.NumberWords.{digits_value}
use Rattle.lk_text.proofs.numbers.read_long.Given as goal

-- the value of the digits so far, up to the bound
abbrev pub invariant-loop-digit : goal.invariant-loop-digit
invariant-loop-digit l = record {
  digits : list_all is_ascii_digit (take l.digit-index l.digits) ≡ true;
  value : l.value ≡ min (digits_value (take l.digit-index l.digits)) (2 ^ 127);
}
