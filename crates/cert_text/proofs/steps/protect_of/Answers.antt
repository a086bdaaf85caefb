use Rattle.std.proofs.Common.{◌≡◌, ◌∙◌, ℕ, Bool, true, false, List, refl, sym, ap, arith, Some}
use Rattle.std.specs.Prelude.{codes}
use Rattle.std.specs.Str.{bytes_eq}
use Rattle.lk_model.specs.Texts.Lines.{Word}
use Rattle.cert_text.proofs.steps.protect_of.Goals as goal

-- a word against a known one
compared : (word read one : Word) (b c : Bool) → read ≡ one → b ≡ bytes_eq word read → b ≡ c → bytes_eq word one ≡ c
compared word read one b c same is e = ap (bytes_eq word) (sym same) ∙ sym is ∙ e

pub as_slice-requires : goal.as_slice-requires
as_slice-requires c = omega arith

pub as_slice-requires-2 : goal.as_slice-requires-2
as_slice-requires-2 c = omega arith

pub returns-then-eq : goal.returns-then-eq
returns-then-eq c =
    let first = compared c.args.version.now c.as_slice.result.now (codes "1") _ true c.as_slice.ensures c.eq.ensures c.if-eq.true in
    rw first refl

pub returns-then-eq-2 : goal.returns-then-eq-2
returns-then-eq-2 c =
    let first = compared c.args.version.now c.as_slice.result.now (codes "1") _ false c.as_slice.ensures c.eq.ensures c.if-eq.false in
    let second = compared c.args.version.now c.as_slice-2.result.now (codes "2") _ true c.as_slice-2.ensures c.eq-2.ensures c.if-eq-2.true in
    rw (first, second) (ap (λ (vars : List ℕ). Some (Some vars)) c.new.ensures)

pub returns : goal.returns
returns c =
    let first = compared c.args.version.now c.as_slice.result.now (codes "1") _ false c.as_slice.ensures c.eq.ensures c.if-eq.false in
    let second = compared c.args.version.now c.as_slice-2.result.now (codes "2") _ false c.as_slice-2.ensures c.eq-2.ensures c.if-eq-2.false in
    rw (first, second) refl
