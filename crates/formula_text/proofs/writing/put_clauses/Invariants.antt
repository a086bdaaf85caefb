use Rattle.std.proofs.Common.{◌≡◌, ◌++◌, drop, map}
use Rattle.std.specs.List.{flat_map}
use Rattle.lk_model.specs.Texts.PlainText.{line, literal_words}
use Rattle.formula_text.proofs.writing.put_clauses.Given as goal

-- what is written, and what is left to write
abbrev pub invariant-loop-k : goal.invariant-loop-k
invariant-loop-k l =
    l.out.items ++ flat_map line (map literal_words (drop l.k l.f.clauses)) ≡ l.fn.out.items ++ flat_map line (map literal_words l.f.clauses)
