use Rattle.std.proofs.Common.{◌≡◌, ◌<◌, ◌-◌, List, ℕ, length, get_or, ap, sym, subst, ◌∙◌, true, IsFalse}
use Rattle.std.specs.List.{remove}
use Rattle.lk_model.specs.Lists.{among}
use Rattle.bipartite_match.specs.declared.pairs.Pairs.{Pairs}
use Rattle.edit_text.specs.LiveClauses.{LiveClauses, with_removed}
use Rattle.match_edits.specs.Held.{IsLiveBy, live_in}
use Rattle.match_edits.proofs.Holding.{leaves, drops, gone_as, now_held, is_live, not_live}
use Rattle.match_edits.proofs.Rooms.{was_live, no_clause}
use Rattle.match_edits.proofs.live.Live.remove.Goals as goal

-- A CLAUSE WITH A VARIABLE

pub let_go-requires-clause-restored : goal.let_go-requires-clause-restored
let_go-requires-clause-restored g c =
    let s = c.self.inside in let w = c.self.invariant in let live = live_in s.held s.pairs in let v = c.in-Some.v in let some = c.in-Some.ensures.some in
    let l = leaves c.edit_laws.ensures s.held live w.0 s.pairs s.marks v c.args.number c.well_formed-2.ensures.formula w.1 some.0 some.2
    (sym (ap (λ (xs : List ℕ). get_or xs (v - 1) 0) c.as_slice.ensures) ∙ some.3) in
    (remove live l.index, remove w.0 l.index, l.restored)

pub invariant_of-self-in-Some : goal.invariant_of-self-in-Some
invariant_of-self-in-Some g c =
    let s = c.self.inside in let w = c.self.invariant in let live = live_in s.held s.pairs in let v = c.in-Some.v in let some = c.in-Some.ensures.some in
    let l = leaves c.edit_laws.ensures s.held live w.0 s.pairs s.marks v c.args.number c.well_formed-2.ensures.formula w.1 some.0 some.2
    (sym (ap (λ (xs : List ℕ). get_or xs (v - 1) 0) c.as_slice.ensures) ∙ some.3) in
    now_held s.held (remove live l.index) c.let_go.new.pairs c.let_go.new.marks (c.in_ok-let_go.ensures.live (remove live l.index) (remove w.0 l.index) l.restored)

pub returns-in-Some-clause-ok : goal.returns-in-Some-clause-ok
returns-in-Some-clause-ok g c =
    let s = c.self.inside in let w = c.self.invariant in let live = live_in s.held s.pairs in let v = c.in-Some.v in let some = c.in-Some.ensures.some in
    let l = leaves c.edit_laws.ensures s.held live w.0 s.pairs s.marks v c.args.number c.well_formed-2.ensures.formula w.1 some.0 some.2
    (sym (ap (λ (xs : List ℕ). get_or xs (v - 1) 0) c.as_slice.ensures) ∙ some.3) in
    gone_as s.held live c.let_go.new.pairs c.let_go.new.marks c.args.number l.index w.1.positions l.at (c.in_ok-let_go.ensures.live (remove live l.index) (remove w.0 l.index) l.restored)
    ∙ ap (λ (x : LiveClauses). with_removed x c.args.number) c.self.view_is

pub returns-in-Some-clause-none : goal.returns-in-Some-clause-none
returns-in-Some-clause-none g c =
    let s = c.self.inside in let w = c.self.invariant in let live = live_in s.held s.pairs in let v = c.in-Some.v in let some = c.in-Some.ensures.some in
    let l = leaves c.edit_laws.ensures s.held live w.0 s.pairs s.marks v c.args.number c.well_formed-2.ensures.formula w.1 some.0 some.2
    (sym (ap (λ (xs : List ℕ). get_or xs (v - 1) 0) c.as_slice.ensures) ∙ some.3) in
    was_live (among c.args.self.now.live c.args.number) (subst (λ (x : LiveClauses). among x.live c.args.number ≡ true) c.self.view_is (is_live s.held live c.args.number l.index l.at))

-- NO CLAUSE

pub returns-in_default-index_of-clause-none : goal.returns-in_default-index_of-clause-none
returns-in_default-index_of-clause-none g c =
    let s = c.self.inside in let w = c.self.invariant in let live = live_in s.held s.pairs in
    no_clause (among c.args.self.now.live c.args.number) (subst (λ (x : LiveClauses). IsFalse (among x.live c.args.number)) c.self.view_is
    (not_live s.held live w.0 s.pairs s.marks c.args.number w.1
    (λ v e is. c.in_default.ensures.none v e (ap (λ (xs : List ℕ). get_or xs (v - 1) 0) c.as_slice.ensures ∙ is))
    (subst (λ (us : List ℕ). IsFalse (among us c.args.number)) c.as_slice-2.ensures c.in_default-index_of.ensures.none)))

-- A CLAUSE WITHOUT A VARIABLE

pub invariant_of-self-2 : goal.invariant_of-self-2
invariant_of-self-2 g c =
    let s = c.self.inside in let w = c.self.invariant in let live = live_in s.held s.pairs in let j = c.in-Some-index_of.index in let there = c.in-Some-index_of.ensures.there in
    let d = drops c.edit_laws.ensures s.held live w.0 s.pairs s.marks j c.args.number c.well_formed-2.ensures.formula w.1
    (subst (λ (us : List ℕ). j < length us) c.as_slice-2.ensures there.0) (subst (λ (us : List ℕ). get_or us j 0 ≡ c.args.number) c.as_slice-2.ensures there.1) in
    now_held s.held (remove live d.index) c.go_unmatched.new.pairs s.marks
    (subst (λ (x : Pairs). IsLiveBy s.held (remove live d.index) x s.marks) (sym c.go_unmatched.ensures) d.live)

pub returns-clause-ok : goal.returns-clause-ok
returns-clause-ok g c =
    let s = c.self.inside in let w = c.self.invariant in let live = live_in s.held s.pairs in let j = c.in-Some-index_of.index in let there = c.in-Some-index_of.ensures.there in
    let d = drops c.edit_laws.ensures s.held live w.0 s.pairs s.marks j c.args.number c.well_formed-2.ensures.formula w.1
    (subst (λ (us : List ℕ). j < length us) c.as_slice-2.ensures there.0) (subst (λ (us : List ℕ). get_or us j 0 ≡ c.args.number) c.as_slice-2.ensures there.1) in
    gone_as s.held live c.go_unmatched.new.pairs s.marks c.args.number d.index w.1.positions d.at
    (subst (λ (x : Pairs). IsLiveBy s.held (remove live d.index) x s.marks) (sym c.go_unmatched.ensures) d.live)
    ∙ ap (λ (x : LiveClauses). with_removed x c.args.number) c.self.view_is
