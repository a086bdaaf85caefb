use Rattle.std.proofs.Common.{◌≡◌, ◌≢◌, ◌∙◌, ap, map, refl, length, get_or, arith, sym, inl, inr, Bor, List, ℕ}
use Rattle.std.proofs.lemmas.List.{length-map}
use Rattle.command_words.specs.Shapes.{commands, words_of}
use Rattle.command_words.specs.Requests.{common}
use Rattle.command_words.specs.declared.command.Command.TheVariants.{ReducePure}
use Rattle.command_words.proofs.CommandSearch.{one_searched, all_searched}
use Rattle.command_words.proofs.words.command_of.Goals as goal
use Rattle.command_words.proofs.words.command_of.Goals.{then-known-count, else-known-count}

pub loop-command-preserved : goal.loop-command-preserved
loop-command-preserved c =
    let words = map (λ w. w.now) c.args.words.now in
    let command = get_or commands c.loop-command.command-index ReducePure in
    let front = c.shape.ensures.words in
    let count : c.common-count.result ≡ common words (words_of command) = c.common-count.ensures ∙ ap (common words) front in
    let size : length c.shape.result.words.now ≡ length (words_of command) = sym (length-map c.shape.result.words.now (λ (w : Bor (List ℕ)). w.now)) ∙ ap length front in
    let part : common words (words_of command) ≢ length (words_of command) = λ e. c.if-count-front.false (count ∙ e ∙ sym size) in
    elim c.if-known-count.branch [
      | then-known-count w ↦
          let is = w.known-is in
          let more = w.if-known-count.true in
          one_searched words commands c.loop-command.command-index c.loop-command.known c.if-known-count.known command c.loop-command.invariant refl part (omega (arith, is, more)) (omega (arith, is, count)) (inr (omega (arith, is, count)))
      | else-known-count w ↦
          let is = w.known-is in
          let less = w.if-known-count.false in
          one_searched words commands c.loop-command.command-index c.loop-command.known c.if-known-count.known command c.loop-command.invariant refl part (omega (arith, is)) (omega (arith, is, less, count)) (inl (omega (arith, is)))
    ]

pub returns : goal.returns
returns c =
    let s = c.loop-command.invariant in
    all_searched (map (λ w. w.now) c.args.words.now) commands c.loop-command.command-index c.loop-command.known s (let end = c.loop-command-test.false in omega (arith, end))
