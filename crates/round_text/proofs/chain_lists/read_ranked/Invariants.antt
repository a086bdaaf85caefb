use Rattle.std.proofs.Common.{◌≡◌, [], map, length}
use Rattle.lk_model.specs.Formulas.Literal.{rank_of}
use Rattle.line_text.specs.Fields.{fields}
use Rattle.line_text.specs.LastVars.{last_or}
use Rattle.round_text.specs.RoundLines.{ranked_then}
use Rattle.round_text.proofs.chain_lists.read_ranked.Given as goal

-- what is read of the rest goes on from what was read
abbrev pub invariant-words : goal.invariant-words
invariant-words l = record {
  told : ranked_then l.n [] (fields l.line) ≡ ranked_then l.n l.clause (fields l.rest);
  last : l.last ≡ last_or 1 (map rank_of l.clause);
}

abbrev pub decreases-words : goal.decreases-words
decreases-words l = length l.rest
