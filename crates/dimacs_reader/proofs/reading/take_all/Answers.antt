use Rattle.std.proofs.Common.{◌≡◌, ℕ, ◌+◌, ◌∙◌, List, [], ◌∷◌, ◌++◌, take, drop, get_or, sym, ap, subst, append_assoc}
use Rattle.std.proofs.lemmas.List.{take_more, take_all, take-append-drop}
use Rattle.dimacs_reader.specs.Faults.{IsSettledAs, refusal_at}
use Rattle.dimacs_reader.specs.Taken.{HasTaken}
use Rattle.dimacs_reader.specs.declared.refusal.Refused.{Refused}
use Rattle.dimacs_reader.proofs.Refusals.{settled_refusal}
use Rattle.dimacs_reader.proofs.reading.take_all.Goals as goal

pub returns-in-Err-clause-cause : goal.returns-in-Err-clause-cause
returns-in-Err-clause-cause c fed h =
    let piece = c.args.piece.now in
    let i = c.loop-byte.byte-index in
    let before = fed ++ take i piece in
    let b = get_or piece i 0 in
    let whole : fed ++ piece ≡ (before ++ b ∷ []) ++ drop (i + 1) piece =
    ap (λ (bytes : List ℕ). fed ++ bytes) (sym (take-append-drop (i + 1) piece) ∙ ap (λ (bytes : List ℕ). bytes ++ drop (i + 1) piece) (take_more piece i 0 c.loop-byte-test.true))
    ∙ sym (append_assoc fed (take i piece ++ b ∷ []) (drop (i + 1) piece))
    ∙ ap (λ (bytes : List ℕ). bytes ++ drop (i + 1) piece) (sym (append_assoc fed (take i piece) (b ∷ []))) in
    subst (λ (r : Refused). IsSettledAs (fed ++ piece) r) (sym (c.by.ensures ∙ ap (λ (n : ℕ). refusal_at n c.in-Err.stop) c.in-Err.ensures.line))
    (settled_refusal (before ++ b ∷ []) c.loop-byte.reading.line c.in-Err.stop (fed ++ piece) (drop (i + 1) piece) whole (c.in-Err.ensures.fault before (c.loop-byte.invariant.taken fed h)))

pub loop-byte-preserved : goal.loop-byte-preserved
loop-byte-preserved c = record {
  sound = c.in_default.ensures.sound;
  taken = λ fed h.
      let piece = c.args.piece.now in
      let i = c.loop-byte.byte-index in
      subst (λ (bytes : List ℕ). HasTaken bytes c.take.new.reading)
      (append_assoc fed (take i piece) (get_or piece i 0 ∷ []) ∙ ap (λ (bytes : List ℕ). fed ++ bytes) (sym (take_more piece i 0 c.loop-byte-test.true)))
      (c.in_default.ensures.ok (fed ++ take i piece) (c.loop-byte.invariant.taken fed h));
}

pub returns-clause-ok : goal.returns-clause-ok
returns-clause-ok c fed h =
    subst (λ (bytes : List ℕ). HasTaken (fed ++ bytes) c.loop-byte.reading) (take_all c.loop-byte.byte-index c.args.piece.now c.loop-byte-test.false) (c.loop-byte.invariant.taken fed h)
