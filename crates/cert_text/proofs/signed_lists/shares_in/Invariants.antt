use Rattle.std.proofs.Common.{◌≡◌, [], map, length}
use Rattle.lk_model.specs.declared.document.Share.{Share}
use Rattle.line_text.specs.Fields.{fields}
use Rattle.line_text.specs.FieldLists.{twos}
use Rattle.line_text.specs.LastVars.{last_or}
use Rattle.cert_text.specs.LinearLines.{share_within}
use Rattle.cert_text.proofs.signed_lists.shares_in.Given as goal

-- what is read of the rest goes on from what was read
abbrev pub invariant-words : goal.invariant-words
invariant-words l = record {
  told : twos (share_within l.m) [] (fields l.line) ≡ twos (share_within l.m) l.shares (fields l.rest);
  last : l.last ≡ last_or 0 (map (λ (x : Share). x.pos) l.shares);
}

abbrev pub decreases-words : goal.decreases-words
decreases-words l = length l.rest
