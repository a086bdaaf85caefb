use Rattle.std.proofs.Common.{◌≡◌, ◌+◌, ◌-◌, ◌<◌, ◌∙◌, List, Bool, true, false, sym, ap, subst, arith, rules, length, [], drop}
use Rattle.std.specs.Prelude.{replicate}
use Rattle.lk_model.specs.Chains.Chain.{names_of}
use Rattle.lk_model.specs.Laws.{last_number}
use Rattle.check_places.specs.Places.{is_reached}
use Rattle.check_rounds.specs.Blocking.{AreMarked, first_number}
use Rattle.kernel_laws.proofs.Overwritten.{whole}
use Rattle.check_rounds.proofs.Reaching.{reached_from, number_at, first_is, refutes_some, last_reached, names_marked, names_as, none_marked, round_marked}
use Rattle.check_rounds.proofs.blocking.block_reached.Goals as goal

pub loop-i-init : goal.loop-i-init
loop-i-init c =
    let steps = c.args.steps.now in
    let items : c.in_ok-marks.marks.items ≡ replicate (length steps) false = search rules in
    record {
      marked = last_reached c.args.f.now c.args.k c.requires.steps.first steps c.args.table.now c.in_ok-marks.marks.items
          c.requires.steps.past c.requires.steps.numbered (refutes_some steps c.requires.whole) c.requires.size items;
      seen = c.requires.seen;
    }

pub mark_names-requires-clause-number : goal.mark_names-requires-clause-number
mark_names-requires-clause-number c =
    let steps = c.args.steps.now in
    let inside : c.loop-i.i - 1 < length steps = omega arith in
    let number = number_at c.requires.steps.first steps (c.loop-i.i - 1) c.index-steps-i.result c.requires.steps.numbered inside c.index-steps-i.is in
    let first = first_is c.requires.steps.first steps c.requires.steps.numbered (omega (arith, inside)) in
    omega (arith, number, first, inside, c.first_number-first.ensures, c.deref_mut.ensures.len, c.loop-i.invariant.marked.marks_size)

pub loop-i-preserved-then-is_reached : goal.loop-i-preserved-then-is_reached
loop-i-preserved-then-is_reached c =
    let F = c.args.f.now in
    let steps = c.args.steps.now in
    let i = c.loop-i.i - 1 in
    let inside : i < length steps = omega arith in
    let next : c.loop-i.i ≡ i + 1 = omega arith in
    let inv = c.loop-i.invariant.marked in
    let marks = c.loop-i.marks.items in
    let up : is_reached marks i ≡ true = ap (λ (ms : List Bool). is_reached ms i) (sym c.deref.ensures.value) ∙ sym c.is_reached.ensures ∙ c.if-is_reached.true in
    let size : length c.mark_names.new.marks ≡ c.loop-i.marks.len = omega (arith, c.mark_names.ensures.marks_size, c.deref_mut.ensures.len, c.loop-i.marks.ok.0) in
    let count : length c.deref_mut.result.now ≡ length steps = omega (arith, c.deref_mut.ensures.len, inv.marks_size, c.loop-i.marks.ok.0) in
    let same = whole c.loop-i.marks.len c.mark_names.new.marks marks size (omega (arith, size, c.loop-i.marks.ok.0)) in
    record {
      marked = subst (λ (ms : List Bool). AreMarked F c.args.k (first_number steps) (length steps) (reached_from (last_number steps) (drop i steps)) c.args.table.now ms c.mark_names.new.table) (sym same)
          (names_marked F c.args.k c.requires.steps.first steps i c.loop-i.i c.index-steps-i.result c.args.table.now marks c.mark_names.new.marks c.loop-i.table c.mark_names.new.table
          c.requires.steps.numbered next inside c.index-steps-i.is up inv
          (λ known. names_as F c.args.k c.first_number-first.result (first_number steps) (length c.deref_mut.result.now) (length steps) (names_of c.index-steps-i.result) known c.args.table.now
          c.deref_mut.result.now marks c.mark_names.new.marks c.loop-i.table c.mark_names.new.table c.first_number-first.ensures count c.deref_mut.ensures.value (c.mark_names.ensures.marked known c.args.table.now)));
      seen = c.mark_names.ensures.seen;
    }

pub loop-i-preserved : goal.loop-i-preserved
loop-i-preserved c =
    let F = c.args.f.now in
    let steps = c.args.steps.now in
    let i = c.loop-i.i - 1 in
    let inside : i < length steps = omega arith in
    let next : c.loop-i.i ≡ i + 1 = omega arith in
    let inv = c.loop-i.invariant.marked in
    let marks = c.loop-i.marks.items in
    let down : is_reached marks i ≡ false = ap (λ (ms : List Bool). is_reached ms i) (sym c.deref.ensures.value) ∙ sym c.is_reached.ensures ∙ c.if-is_reached.false in
    record {
      marked = none_marked F c.args.k c.requires.steps.first steps i c.loop-i.i (record { number = 0; clause = []; first = 0; turns = [] }) c.args.table.now marks c.loop-i.table c.requires.steps.numbered next inside down inv;
      seen = c.loop-i.invariant.seen;
    }

pub returns-clause-blocked : goal.returns-clause-blocked
returns-clause-blocked c =
    let F = c.args.f.now in
    let steps = c.args.steps.now in
    let none : c.loop-i.i ≡ 0 = omega arith in
    round_marked F c.args.k (first_number steps) steps c.args.table.now c.loop-i.marks.items c.loop-i.table c.requires.whole c.requires.size
    (subst (λ j. AreMarked F c.args.k (first_number steps) (length steps) (reached_from (last_number steps) (drop j steps)) c.args.table.now c.loop-i.marks.items c.loop-i.table) none c.loop-i.invariant.marked)
