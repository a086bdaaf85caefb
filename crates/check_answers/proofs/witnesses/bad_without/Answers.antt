use Rattle.std.proofs.Common.{◌≡◌, ◌∙◌, ◌<◌, sym, ap, length, not, take, arith}
use Rattle.std.specs.Prelude.{find}
use Rattle.std.proofs.lemmas.List.{take_all}
use Rattle.lk_model.specs.Documents.CoreText.{is_without}
use Rattle.lk_model.specs.Checks.CoreChecks.{satisfies_others}
use Rattle.lk_model.proofs.Founds.{find-here, find-none_more}
use Rattle.lk_model.proofs.ListTests.{all_at}
use Rattle.check_answers.proofs.CoreWitnesses.{is_bad, bad_without_is, bad_at}
use Rattle.check_answers.proofs.witnesses.bad_without.Goals as goal

pub satisfies_others-requires-clause-literals : goal.satisfies_others-requires-clause-literals
satisfies_others-requires-clause-literals c =
    let ws = c.args.withouts.now in
    let inside : c.loop-k.k < length ws = omega (arith, c.loop-k-test.true, c.requires.count) in
    ap (is_without c.args.f.now.vars) c.index-withouts-k.is ∙ all_at (is_without c.args.f.now.vars) ws c.loop-k.k c.index-withouts-k.result c.requires.literals inside

pub returns-then-not-satisfies_others : goal.returns-then-not-satisfies_others
returns-then-not-satisfies_others c =
    let F = c.args.f.now in
    let core = c.args.core.now in
    let ws = c.args.withouts.now in
    let k = c.loop-k.k in
    let inside : k < length core = omega (arith, c.loop-k-test.true) in
    let bad = bad_at F core ws k c.index-withouts-k.result c.satisfies_others.result c.requires.positions c.requires.lines inside
    (c.satisfies_others.ensures.value ∙ ap (satisfies_others F core) c.index-withouts-k.is) in
    find-here (is_bad F core ws) core k 0 inside c.loop-k.invariant.none (bad ∙ ap not c.if-not-satisfies_others.true) ∙ sym (bad_without_is F core ws)

pub loop-k-preserved : goal.loop-k-preserved
loop-k-preserved c =
    let F = c.args.f.now in
    let core = c.args.core.now in
    let ws = c.args.withouts.now in
    let k = c.loop-k.k in
    let inside : k < length core = omega (arith, c.loop-k-test.true) in
    let bad = bad_at F core ws k c.index-withouts-k.result c.satisfies_others.result c.requires.positions c.requires.lines inside
    (c.satisfies_others.ensures.value ∙ ap (satisfies_others F core) c.index-withouts-k.is) in
    record {
      none = find-none_more (is_bad F core ws) core k 0 inside c.loop-k.invariant.none (bad ∙ ap not c.if-not-satisfies_others.false);
      set = c.satisfies_others.ensures.set;
    }

pub returns : goal.returns
returns c =
    let F = c.args.f.now in
    let core = c.args.core.now in
    let ws = c.args.withouts.now in
    let all : take c.loop-k.k core ≡ core = take_all c.loop-k.k core (omega (arith, c.loop-k-test.false)) in
    sym (bad_without_is F core ws ∙ ap (find (is_bad F core ws)) (sym all) ∙ c.loop-k.invariant.none)
