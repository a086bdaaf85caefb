use Rattle.std.proofs.Common.{◌≡◌, ◌+◌, ◌<◌, ◌≤◌, List, ℕ, Bool, length, get_or, ap, sym, subst, ◌∙◌, arith, IsTrue, ℤ, pos}
use Rattle.lk_model.specs.Formulas.Literal.{variable}
use Rattle.lk_model.specs.Formulas.Formula.{Cnf, is_formula, clause_at}
use Rattle.bipartite_match.specs.declared.augmenting.Start.{Start}
use Rattle.bipartite_match.specs.declared.matching.Matching.{Matching}
use Rattle.bipartite_match.specs.declared.visits.Visit.{Visit}
use Rattle.bipartite_match.specs.Visiting.{visit_at, seen_of, goal_of, Seen, met, AreMarks, CanRead}
use Rattle.bipartite_match.proofs.Numbers.{rising_length}
use Rattle.bipartite_match.proofs.Literals.{literal_at, position_in}
use Rattle.bipartite_match.proofs.Seeking.{visits_fit}
use Rattle.bipartite_match.proofs.Roots.{AreRoots, are_roots, begins}
use Rattle.bipartite_match.proofs.Sought.{AtVisit, AfterMeeting, next_meeting, visit_done, no_end}
use Rattle.bipartite_match.proofs.visits.Visits.go_on.Goals as goal

-- a variable is met, which is read of what is held
read_meeting : (F : Cnf) (of_var unmatched : List ℕ) (marks : List Bool) (part : List ℕ) (m : Matching) (from : Start) (s next : Seen) (goal place p v : ℕ) (items : List ℤ) (n : ℕ)
    → CanRead F of_var unmatched marks from part m → AtVisit F part m from s place p items n → IsTrue (is_formula F) → items ≡ clause_at F p → n < length items
    → v ≡ variable (get_or items n (pos 0)) → goal ≡ goal_of from → next ≡ met of_var goal place v s → AfterMeeting F part m from next place p items (n + 1)
read_meeting F of_var unmatched marks part m from s next goal place p v items n h a form e l q g is =
    subst (λ (x : Seen). AfterMeeting F part m from x place p items (n + 1))
    (sym (is ∙ ap (λ (xs : List ℕ). met xs goal place v s) (sym h.vars) ∙ ap (λ (t : ℕ). met m.of_var t place v s) g))
    (next_meeting F part m from s place p v items n a h.can form e l q)

pub places-init : goal.places-init
places-init c = λ part m h. begins c.args.f.now part m c.args.from (seen_of c.args.self.now c.args.seen.now)
    (subst (λ (xs : List Visit). AreRoots part m c.args.from xs) (sym h.1) (are_roots c.args.f.now part m c.args.from h.0.can h.0.ready)) (sym h.0.marks_are ∙ h.0.ready.unmarked) c.requires.end

pub clause-l-items-requires-clause-first : goal.clause-l-items-requires-clause-first
clause-l-items-requires-clause-first c =
    let w = c.requires.can in
    let l = c.places.self.queue.ok in
    let inside : c.places.place < length c.places.self.queue.items = let t = c.if-len-place.false in let e = c.len.ensures in omega (arith, t, e, l) in
    let is = ap (λ (x : Visit). x.pos) (c.visit_at-pos.ensures ∙ ap (λ (xs : List Visit). visit_at xs c.places.place) c.deref.ensures.value) in
    let at = (c.places.invariant w.0 w.1 w.2).visits.some c.places.place inside in
    let b = (position_in c.args.f.now w.0 at.0 w.2.0.can.part_rises at.1).0 in let e = at.2 in omega (arith, b, e, is)

pub clause-l-items-requires-clause-last : goal.clause-l-items-requires-clause-last
clause-l-items-requires-clause-last c =
    let w = c.requires.can in
    let l = c.places.self.queue.ok in
    let inside : c.places.place < length c.places.self.queue.items = let t = c.if-len-place.false in let e = c.len.ensures in omega (arith, t, e, l) in
    let is = ap (λ (x : Visit). x.pos) (c.visit_at-pos.ensures ∙ ap (λ (xs : List Visit). visit_at xs c.places.place) c.deref.ensures.value) in
    let at = (c.places.invariant w.0 w.1 w.2).visits.some c.places.place inside in
    let b = (position_in c.args.f.now w.0 at.0 w.2.0.can.part_rises at.1).1 in let e = at.2 in omega (arith, b, e, is)

pub literals-init : goal.literals-init
literals-init c = λ part m h.
    let l = c.places.self.queue.ok in
    record {
      seeking = c.places.invariant part m h;
      is = sym (ap (λ (x : Visit). x.pos) (c.visit_at-pos.ensures ∙ ap (λ (xs : List Visit). visit_at xs c.places.place) c.deref.ensures.value));
      inside = let t = c.if-len-place.false in let e = c.len.ensures in omega (arith, t, e, l);
      done = λ k b. absurd (omega (arith, b));
    }

pub meet-requires-clause-seen : goal.meet-requires-clause-seen
meet-requires-clause-seen c =
    let w = c.requires.can in
    (c.literals.invariant w.0 w.1 w.2).seeking.size ∙ sym w.2.0.can.matching.vars ∙ ap (λ (xs : List ℕ). length xs) w.2.0.vars

pub literals-preserved : goal.literals-preserved
literals-preserved c = λ part m h.
    (read_meeting c.args.f.now c.args.of_var.now m.unmatched c.args.seen.now part m c.args.from (seen_of c.literals.self c.literals.seen) (seen_of c.meet.new.self c.meet.new.seen)
    c.goal_of-goal.result c.places.place c.visit_at-pos.result.pos c.var.result c.clause-l-items.result.now c.literals.l-index
    h.0 (c.literals.invariant part m h) c.len-place-end.ensures.formula c.clause-l-items.ensures.value c.literals-test.true
    (c.var.ensures.value ∙ ap variable (literal_at c.clause-l-items.result.now c.literals.l-index c.l-item.result c.literals-test.true c.l-item.is)) c.goal_of-goal.ensures c.in_ok-meet.ensures.ok).goes
    c.if-self-ne0.false

pub places-preserved : goal.places-preserved
places-preserved c = λ part m h.
    let t : length c.clause-l-items.result.now ≤ c.literals.l-index = omega arith in
    visit_done c.args.f.now part m c.args.from (seen_of c.literals.self c.literals.seen) c.places.place c.visit_at-pos.result.pos
    c.clause-l-items.result.now c.literals.l-index (c.literals.invariant part m h) c.clause-l-items.ensures.value t

-- ENDS

pub returns-in_err-meet-clause-marks : goal.returns-in_err-meet-clause-marks
returns-in_err-meet-clause-marks c =
    let w = c.requires.can in
    subst (λ (x : Seen). AreMarks x.queue x.seen) (sym c.in_err-meet.ensures.err) (c.literals.invariant w.0 w.1 w.2).seeking.marks

pub returns-in_err-meet-clause-size : goal.returns-in_err-meet-clause-size
returns-in_err-meet-clause-size c =
    let w = c.requires.can in
    subst (λ (x : Seen). length x.seen ≡ c.args.f.now.vars) (sym c.in_err-meet.ensures.err) (c.literals.invariant w.0 w.1 w.2).seeking.size

pub returns-then-self-ne0-clause-searched : goal.returns-then-self-ne0-clause-searched
returns-then-self-ne0-clause-searched c = λ part m h.
    let after = read_meeting c.args.f.now c.args.of_var.now m.unmatched c.args.seen.now part m c.args.from (seen_of c.literals.self c.literals.seen) (seen_of c.meet.new.self c.meet.new.seen)
    c.goal_of-goal.result c.places.place c.visit_at-pos.result.pos c.var.result c.clause-l-items.result.now c.literals.l-index
    h.0 (c.literals.invariant part m h) c.len-place-end.ensures.formula c.clause-l-items.ensures.value c.literals-test.true
    (c.var.ensures.value ∙ ap variable (literal_at c.clause-l-items.result.now c.literals.l-index c.l-item.result c.literals-test.true c.l-item.is)) c.goal_of-goal.ensures c.in_ok-meet.ensures.ok in
    record {
      formula = c.len-place-end.ensures.formula;
      found = λ n. after.stops c.if-self-ne0.true;
      nothing = λ z. absurd (c.if-self-ne0.true z);
    }

pub returns-then-self-ne0-clause-marks : goal.returns-then-self-ne0-clause-marks
returns-then-self-ne0-clause-marks c =
    let w = c.requires.can in
    (read_meeting c.args.f.now c.args.of_var.now w.1.unmatched c.args.seen.now w.0 w.1 c.args.from (seen_of c.literals.self c.literals.seen) (seen_of c.meet.new.self c.meet.new.seen)
    c.goal_of-goal.result c.places.place c.visit_at-pos.result.pos c.var.result c.clause-l-items.result.now c.literals.l-index
    w.2.0 (c.literals.invariant w.0 w.1 w.2) c.len-place-end.ensures.formula c.clause-l-items.ensures.value c.literals-test.true
    (c.var.ensures.value ∙ ap variable (literal_at c.clause-l-items.result.now c.literals.l-index c.l-item.result c.literals-test.true c.l-item.is)) c.goal_of-goal.ensures c.in_ok-meet.ensures.ok).marks

pub returns-then-self-ne0-clause-size : goal.returns-then-self-ne0-clause-size
returns-then-self-ne0-clause-size c =
    let w = c.requires.can in
    (read_meeting c.args.f.now c.args.of_var.now w.1.unmatched c.args.seen.now w.0 w.1 c.args.from (seen_of c.literals.self c.literals.seen) (seen_of c.meet.new.self c.meet.new.seen)
    c.goal_of-goal.result c.places.place c.visit_at-pos.result.pos c.var.result c.clause-l-items.result.now c.literals.l-index
    w.2.0 (c.literals.invariant w.0 w.1 w.2) c.len-place-end.ensures.formula c.clause-l-items.ensures.value c.literals-test.true
    (c.var.ensures.value ∙ ap variable (literal_at c.clause-l-items.result.now c.literals.l-index c.l-item.result c.literals-test.true c.l-item.is)) c.goal_of-goal.ensures c.in_ok-meet.ensures.ok).size

pub returns-then-len-place-clause-searched : goal.returns-then-len-place-clause-searched
returns-then-len-place-clause-searched c = λ part m h.
    let t = c.places.invariant part m h in
    let past : length c.places.self.queue.items ≤ c.places.place = let l = c.places.self.queue.ok in let b = c.if-len-place.true in let e = c.len.ensures in omega (arith, b, e, l) in
    record {
      formula = c.len-place-end.ensures.formula;
      found = λ n. absurd (n t.going);
      nothing = λ z. no_end c.args.f.now part m c.args.from (seen_of c.places.self c.places.seen) c.places.place t past;
    }

pub returns-then-len-place-clause-marks : goal.returns-then-len-place-clause-marks
returns-then-len-place-clause-marks c = let w = c.requires.can in (c.places.invariant w.0 w.1 w.2).marks

pub returns-then-len-place-clause-size : goal.returns-then-len-place-clause-size
returns-then-len-place-clause-size c = let w = c.requires.can in (c.places.invariant w.0 w.1 w.2).size

pub returns-clause-searched : goal.returns-clause-searched
returns-clause-searched c = λ part m h.
    let f = c.args.f.now in
    let s = seen_of c.places.self c.places.seen in
    let t = c.places.invariant part m h in
    let few = visits_fit f part m c.args.from s.queue t.visits in
    let some = rising_length 0 (length f.clauses) part (omega arith) h.0.can.part_rises in
    let past : length s.queue ≤ c.places.place = let b = c.places-test.false in let e = c.len-place-end.ensures.value in omega (arith, few, some, b, e) in
    record {
      formula = c.len-place-end.ensures.formula;
      found = λ n. absurd (n t.going);
      nothing = λ z. no_end f part m c.args.from s c.places.place t past;
    }

pub returns-clause-marks : goal.returns-clause-marks
returns-clause-marks c = let w = c.requires.can in (c.places.invariant w.0 w.1 w.2).marks

pub returns-clause-size : goal.returns-clause-size
returns-clause-size c = let w = c.requires.can in (c.places.invariant w.0 w.1 w.2).size
