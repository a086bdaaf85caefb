use Rattle.std.proofs.Common.{◌≡◌, ◌∙◌, ◌+◌, ◌==◌, ℕ, ap}
use Rattle.std.specs.Prelude.{◌%◌}
use Rattle.lk_model.specs.Formulas.Literal.{literal_of}
use Rattle.rand_pcg.specs.Lcg.{Lcg}
use Rattle.demo_formula.specs.Demo.{word, rest}
use Rattle.demo_formula.proofs.draw.draw_literal.Goals as goal

pub returns-clause-value : goal.returns-clause-value
unfolding word rest
returns-clause-value c =
    let first : c.next_word.result ≡ word c.args.words.now = ap (λ (p : ℕ × Lcg). p.0) c.next_word.ensures in
    let next : c.next_word.new.self ≡ rest c.args.words.now = ap (λ (p : ℕ × Lcg). p.1) c.next_word.ensures in
    let second : c.next_word-sign.result ≡ word (rest c.args.words.now) = ap (λ (p : ℕ × Lcg). p.0) c.next_word-sign.ensures ∙ ap word next in
    c.from_var.ensures ∙ ap (λ (n : ℕ). literal_of (1 + n % 2200) (c.next_word-sign.result % 2 == 0)) first
    ∙ ap (λ (n : ℕ). literal_of (1 + word c.args.words.now % 2200) (n % 2 == 0)) second

pub returns-clause-next : goal.returns-clause-next
unfolding rest
returns-clause-next c =
    ap (λ (p : ℕ × Lcg). p.1) c.next_word-sign.ensures ∙ ap rest (ap (λ (p : ℕ × Lcg). p.1) c.next_word.ensures)
