-- Numbers that take no bytes.
use Rattle.std.specs.Prelude.{ℕ, ◌+◌}
use Rattle.bipartite_match.specs.declared.steps.Count.{Count, Zero, OneMore'}

-- how many times one was added
abbrev pub number : Count → ℕ
number Zero = 0
number (OneMore' shape before) = number before + 1
