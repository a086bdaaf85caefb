use Rattle.std.proofs.Common.{◌≡◌, ◌<◌, ◌∙◌, ◌+◌, ℕ, ℤ, List, length, ap, sym, subst, arith}
use Rattle.occurrence_lists.specs.Parts.{Filled}
use Rattle.occurrence_lists.specs.Noting.{AreCounts, AreNoted, NotesClause}
use Rattle.occurrence_lists.proofs.Noted.{AreNoted-none, AreNoted-more, room_for, sizes_told, occurrences_told}
use Rattle.occurrence_lists.proofs.lists.OccurrenceLists.new.Goals as goal

pub new-requires : goal.new-requires
new-requires c = rw c.as_slice.ensures c.in_ok-counts.ensures.few

pub loop-i-init : goal.loop-i-init
loop-i-init c =
    let F = c.args.f.now in
    let counts = c.in_ok-counts.counts in
    let sizes = ap (λ (t : Filled). t.sizes) c.in_ok-lists.ensures ∙ c.as_slice.ensures in
    let lists = ap (λ (t : Filled). t.lists) c.in_ok-lists.ensures in
    record {
      noted = AreNoted-none F c.as_slice.result.now _ (ap (λ (ns : List ℕ). length ns) c.as_slice.ensures ∙ c.in_ok-counts.ensures.counts.size) lists;
      counts = subst (λ (ns : List ℕ). AreCounts F (length F.clauses) ns) (sym sizes) c.in_ok-counts.ensures.counts;
    }

pub note_clause-requires-clause-room : goal.note_clause-requires-clause-room
note_clause-requires-clause-room c =
    let F = c.args.f.now in
    let lt : c.loop-i.i < length F.clauses = omega (arith, c.loop-i-test.true, c.len-i-end.ensures.value) in
    rw c.clause.ensures.value (room_for F c.loop-i.i c.loop-i.lists c.loop-i.invariant.noted c.loop-i.invariant.counts lt (rw c.clause.ensures.value at c.clause.ensures.clause))

pub loop-i-preserved : goal.loop-i-preserved
loop-i-preserved c =
    let F = c.args.f.now in
    record {
      noted = AreNoted-more F c.loop-i.i _ _ c.loop-i.invariant.noted (subst (λ (ls : List ℤ). NotesClause ls (c.loop-i.i + 1) c.loop-i.lists.lists c.note_clause.new.lists.lists) c.clause.ensures.value c.note_clause.ensures.noted);
      counts = subst (λ (ns : List ℕ). AreCounts F (length F.clauses) ns) (sym c.note_clause.ensures.sizes) c.loop-i.invariant.counts;
    }

pub finish-requires : goal.finish-requires
finish-requires c =
    let F = c.args.f.now in
    let all : c.loop-i.i ≡ length F.clauses = omega (arith, c.loop-i-test.false, c.loop-i.auto.i-end, c.len-i-end.ensures.value) in
    sizes_told F c.loop-i.lists (subst (λ (i : ℕ). AreNoted F i c.loop-i.lists.lists) all c.loop-i.invariant.noted) c.loop-i.invariant.counts

pub returns : goal.returns
returns c =
    let F = c.args.f.now in
    let all : c.loop-i.i ≡ length F.clauses = omega (arith, c.loop-i-test.false, c.loop-i.auto.i-end, c.len-i-end.ensures.value) in
    rw c.finish.ensures (occurrences_told F c.loop-i.lists.lists c.len-i-end.ensures.formula (subst (λ (i : ℕ). AreNoted F i c.loop-i.lists.lists) all c.loop-i.invariant.noted))
