use Rattle.std.proofs.Common.{◌∙◌, [], ◌∷◌, length, length-append, sym, ap, subst, arith}
use Rattle.std.proofs.lemmas.List.{get_or_read}
use Rattle.lk_model.proofs.Rising.{rising_count}
use Rattle.par_parts.specs.Numbering.{Found, found_of, IsSearching, IsSpread}
use Rattle.par_parts.proofs.Numbers.{begins, goes_on_new}
use Rattle.par_parts.proofs.search.Search.pass_position.Goals as goal

pub begin-requires-clause-few : goal.begin-requires-clause-few
begin-requires-clause-few c =
    let few = c.requires.few in
    let n = rising_count 0 (length c.args.f.now.clauses) c.args.self.now.roots.items c.requires.before.searching.rising (omega arith) in
    omega (arith, few, n)

pub spread-requires-clause-few : goal.spread-requires-clause-few
spread-requires-clause-few c =
    let few = c.requires.few in
    let n = rising_count 0 (length c.args.f.now.clauses) c.args.self.now.roots.items c.requires.before.searching.rising (omega arith) in
    let e = ap (λ (s : Found). length s.roots) c.in_ok-begin.ensures ∙ length-append c.args.self.now.roots.items (c.args.p ∷ []) in
    omega (arith, few, n, e)

pub spread-requires-clause-searching : goal.spread-requires-clause-searching
spread-requires-clause-searching c =
    let s = found_of c.args.self.now in
    let long = c.requires.before.searching.long in
    let last = c.requires.last in
    let zero = sym (get_or_read s.labels c.args.p c.index.result.now (omega (arith, long, last)) c.index.ensures 0) ∙ c.if-index-eq0.true in
    subst (λ (x : Found). IsSearching c.args.f.now x x.pending) (sym c.in_ok-begin.ensures) (begins c.args.f.now s c.args.p c.requires.before c.requires.first last zero)

pub returns-in_ok-spread : goal.returns-in_ok-spread
returns-in_ok-spread c =
    let s = found_of c.args.self.now in
    let long = c.requires.before.searching.long in
    let last = c.requires.last in
    let zero = sym (get_or_read s.labels c.args.p c.index.result.now (omega (arith, long, last)) c.index.ensures 0) ∙ c.if-index-eq0.true in
    goes_on_new c.args.f.now s (found_of c.spread.new.self) c.args.p c.requires.before c.requires.first last zero
    (subst (λ (x : Found). IsSpread c.args.f.now x (found_of c.spread.new.self)) c.in_ok-begin.ensures c.in_ok-spread.ensures)
