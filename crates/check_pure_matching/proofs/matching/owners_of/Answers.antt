use Rattle.std.proofs.Common.{◌≡◌, ◌+◌, ◌-◌, ◌<◌, ℕ, List, length, drop, sym, subst, arith}
use Rattle.std.proofs.lemmas.List.{drop_all}
use Rattle.lk_model.specs.declared.document.Own.{Own}
use Rattle.kernel_laws.proofs.FirstTables.{first_none, first_more}
use Rattle.check_pure_matching.specs.Matching.{AreOwners, AreFirstOwners}
use Rattle.check_pure_matching.proofs.MatchingChecks.{own_within}
use Rattle.check_pure_matching.proofs.matching.owners_of.Goals as goal

-- what stands where there is no line
abbrev no_line : Own
no_line = record { pos = 0; var = 0 }

pub overflow_sub-line : goal.overflow_sub-line
overflow_sub-line c =
    let inside : c.loop-i.i - 1 < length c.args.own.now = omega arith in
    (own_within c.args.n c.args.m c.args.own.now (c.loop-i.i - 1) no_line c.requires inside).pos_first

pub index_mut-requires : goal.index_mut-requires
index_mut-requires c =
    let inside : c.loop-i.i - 1 < length c.args.own.now = omega arith in
    let line = own_within c.args.n c.args.m c.args.own.now (c.loop-i.i - 1) no_line c.requires inside in
    omega (arith, line.pos_first, line.pos_last, c.loop-i.invariant.of_position.size_is, c.loop-i.of_position.ok.0)

pub loop-i-preserved : goal.loop-i-preserved
loop-i-preserved c =
    let own = c.args.own.now in
    let i = c.loop-i.i - 1 in
    let inside : i < length own = omega arith in
    let next : c.loop-i.i ≡ i + 1 = omega arith in
    let line = own_within c.args.n c.args.m own i no_line c.requires inside in
    record {
      of_position = first_more c.args.m (λ (o : Own). o.pos) (λ (o : Own). o.var) 0 0 own i c.loop-i.i no_line c.loop-i.of_position.items next inside line.pos_first line.pos_last c.loop-i.invariant.of_position;
      first = first_more c.args.n (λ (o : Own). o.var) (λ (o : Own). o.pos) 0 c.args.m own i c.loop-i.i no_line c.loop-i.first.items next inside line.var_first line.var_last c.loop-i.invariant.first;
    }

pub loop-i-init : goal.loop-i-init
loop-i-init c =
    let m = c.args.m in
    let n = c.args.n in
    let own = c.args.own.now in
    let of_position = c.in_ok-of_position.of_position.items in
    let first = c.in_ok-first.first.items in
    let none = sym (drop_all (length own) own (omega arith)) in
    record {
      of_position = subst (λ (os : List Own). AreOwners m os of_position) none (first_none m (λ (o : Own). o.pos) (λ (o : Own). o.var) 0 0 of_position (c.in_ok-of_position.ensures.items_if_clones_equal (λ y e. e)));
      first = subst (λ (os : List Own). AreFirstOwners n m os first) none (first_none n (λ (o : Own). o.var) (λ (o : Own). o.pos) 0 m first (c.in_ok-first.ensures.items_if_clones_equal (λ y e. e)));
    }

pub returns : goal.returns
returns c =
    let own = c.args.own.now in
    let none : c.loop-i.i ≡ 0 = omega (arith, c.loop-i-test.false) in
    record {
      of_position = subst (λ (k : ℕ). AreOwners c.args.m (drop k own) c.loop-i.of_position.items) none c.loop-i.invariant.of_position;
      first = subst (λ (k : ℕ). AreFirstOwners c.args.n c.args.m (drop k own) c.loop-i.first.items) none c.loop-i.invariant.first;
    }
