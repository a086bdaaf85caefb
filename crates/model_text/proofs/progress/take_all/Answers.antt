use Rattle.std.proofs.Common.{◌≡◌, ℕ, ◌+◌, ◌∙◌, List, [], ◌∷◌, ◌++◌, take, drop, get_or, sym, ap, subst, append_assoc}
use Rattle.std.proofs.lemmas.List.{take_more, take_all, take-append-drop}
use Rattle.model_text.specs.Fed.{HasTaken, IsSettledAs}
use Rattle.model_text.proofs.Standing.{settled_later}
use Rattle.model_text.proofs.progress.take_all.Goals as goal

pub returns-in-Err-clause-stop : goal.returns-in-Err-clause-stop
returns-in-Err-clause-stop c = λ n fed h.
    let piece = c.args.piece.now in
    let i = c.loop-byte.byte-index in
    let before = fed ++ take i piece in
    let b = get_or piece i 0 in
    let whole : (before ++ b ∷ []) ++ drop (i + 1) piece ≡ fed ++ piece =
    ap (λ (bytes : List ℕ). bytes ++ drop (i + 1) piece) (append_assoc fed (take i piece) (b ∷ []) ∙ ap (λ (bytes : List ℕ). fed ++ bytes) (sym (take_more piece i 0 c.loop-byte-test.true)))
    ∙ append_assoc fed (take (i + 1) piece) (drop (i + 1) piece) ∙ ap (λ (bytes : List ℕ). fed ++ bytes) (take-append-drop (i + 1) piece) in
    subst (λ (bytes : List ℕ). IsSettledAs n bytes c.in-Err.stop) whole
    (settled_later n (before ++ b ∷ []) (drop (i + 1) piece) c.in-Err.stop (c.in-Err.ensures.stop n before (c.loop-byte.invariant.taken n fed h)))

pub loop-byte-preserved : goal.loop-byte-preserved
loop-byte-preserved c = record {
  sound = c.in_default.ensures.sound;
  taken = λ n fed h.
      let piece = c.args.piece.now in
      let i = c.loop-byte.byte-index in
      subst (λ (bytes : List ℕ). HasTaken n bytes c.take.new.progress)
      (append_assoc fed (take i piece) (get_or piece i 0 ∷ []) ∙ ap (λ (bytes : List ℕ). fed ++ bytes) (sym (take_more piece i 0 c.loop-byte-test.true)))
      (c.in_default.ensures.taken n (fed ++ take i piece) (c.loop-byte.invariant.taken n fed h));
}

pub returns-clause-taken : goal.returns-clause-taken
returns-clause-taken c = λ n fed h.
    subst (λ (bytes : List ℕ). HasTaken n (fed ++ bytes) c.loop-byte.progress) (take_all c.loop-byte.byte-index c.args.piece.now c.loop-byte-test.false) (c.loop-byte.invariant.taken n fed h)
