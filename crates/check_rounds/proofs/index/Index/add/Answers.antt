use Rattle.std.proofs.Common.{◌≡◌, ◌∙◌, ◌++◌, ◌∷◌, ◌<◌, List, ℕ, [], arith, ap, sym, length, subst}
use Rattle.std.proofs.lemmas.List.{get_or_read}
use Rattle.lk_model.specs.Formulas.Literal.{is_literal, rank_of}
use Rattle.lk_model.proofs.ListTests.{passes_each}
use Rattle.lk_model.proofs.Ranks.{rank_small}
use Rattle.check_rounds.specs.Index.{list_of, IsListed}
use Rattle.check_rounds.proofs.IndexLemmas.{found_new, found_kept}
use Rattle.check_rounds.proofs.index.Index.add.Goals as goal

pub index_mut-requires : goal.index_mut-requires
index_mut-requires c =
    let lit = passes_each (is_literal c.args.n) c.args.clause.now c.in-Some.l c.requires.clause c.in-Some.ensures.0 in
    omega (arith, rank_small c.args.n c.in-Some.l lit, c.requires.size, ap length c.self.view_is)

pub returns-in_ok-push-clause-found : goal.returns-in_ok-push-clause-found
returns-in_ok-push-clause-found c =
    let lists = c.self.inside.lists in
    let lit = passes_each (is_literal c.args.n) c.args.clause.now c.in-Some.l c.requires.clause c.in-Some.ensures.0 in
    let inside : rank_of c.in-Some.l < length lists = omega (arith, rank_small c.args.n c.in-Some.l lit, c.requires.size, ap length c.self.view_is) in
    let more : c.push.new.self ≡ list_of lists c.in-Some.l ++ c.args.number ∷ [] =
    c.in_ok-push.ensures.ok ∙ ap (λ (ns : List ℕ). ns ++ c.args.number ∷ []) (get_or_read lists (rank_of c.in-Some.l) c.index_mut.result.now inside c.index_mut.ensures.value []) in
    found_new c.args.n c.args.blocks.now lists c.args.clause.now c.args.number c.in-Some.l c.push.new.self c.requires.blocks c.requires.clause c.in-Some.ensures.0 c.in-Some.ensures.1 inside more

pub returns-in_ok-push-clause-kept : goal.returns-in_ok-push-clause-kept
returns-in_ok-push-clause-kept c other number h =
    let lists = c.self.inside.lists in
    let lit = passes_each (is_literal c.args.n) c.args.clause.now c.in-Some.l c.requires.clause c.in-Some.ensures.0 in
    let inside : rank_of c.in-Some.l < length lists = omega (arith, rank_small c.args.n c.in-Some.l lit, c.requires.size, ap length c.self.view_is) in
    let more : c.push.new.self ≡ list_of lists c.in-Some.l ++ c.args.number ∷ [] =
    c.in_ok-push.ensures.ok ∙ ap (λ (ns : List ℕ). ns ++ c.args.number ∷ []) (get_or_read lists (rank_of c.in-Some.l) c.index_mut.result.now inside c.index_mut.ensures.value []) in
    found_kept c.args.blocks.now lists c.args.number c.in-Some.l c.push.new.self inside more other number
    (subst (λ (ls : List (List ℕ)). IsListed c.args.blocks.now ls other number) (sym c.self.view_is) h)
