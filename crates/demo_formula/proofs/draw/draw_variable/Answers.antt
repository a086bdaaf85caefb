use Rattle.std.proofs.Common.{◌≡◌, ◌∙◌, ◌+◌, ℕ, ap}
use Rattle.std.specs.Prelude.{◌%◌, pos}
use Rattle.rand_pcg.specs.Lcg.{Lcg}
use Rattle.demo_formula.specs.Demo.{word, rest}
use Rattle.demo_formula.proofs.draw.draw_variable.Goals as goal

pub returns-clause-value : goal.returns-clause-value
unfolding word
returns-clause-value c =
    let first : c.next_word.result ≡ word c.args.words.now = ap (λ (p : ℕ × Lcg). p.0) c.next_word.ensures in
    c.from_var.ensures ∙ ap (λ (n : ℕ). pos (201 + n % 2000)) first

pub returns-clause-next : goal.returns-clause-next
unfolding rest
returns-clause-next c = ap (λ (p : ℕ × Lcg). p.1) c.next_word.ensures
