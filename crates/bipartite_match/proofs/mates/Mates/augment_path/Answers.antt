use Rattle.std.proofs.Common.{length, get_or, sym, arith, subst}
use Rattle.std.proofs.lemmas.List.{length-map}
use Rattle.bipartite_match.specs.Pairing.{Pairing, pairing_of}
use Rattle.bipartite_match.specs.Augmented.{indices_of}
use Rattle.bipartite_match.proofs.Leads.{step_more}
use Rattle.bipartite_match.specs.declared.paths.Step.{Step}
use Rattle.bipartite_match.proofs.AugmentedWalks.{PathState, path_starts, path_goes, path_done, path_ready}
use Rattle.bipartite_match.proofs.mates.Mates.augment_path.Goals as goal

pub take-v-requires-clause-variable : goal.take-v-requires-clause-variable
take-v-requires-clause-variable c =
    let e = step_more c.pop.new.self.items c.back.path.items c.in-Some.step c.in-Some.ensures.items in
    (path_ready c.requires.0 c.requires.1 (pairing_of c.args.self.now) (length (indices_of c.args.path.now.items)) (pairing_of c.back.self) (indices_of c.pop.new.self.items) c.in-Some.step.index c.back.v
    (subst (λ ps. PathState c.requires.0 c.requires.1 (pairing_of c.args.self.now) (length (indices_of c.args.path.now.items)) (pairing_of c.back.self) ps c.back.v) e (c.back.invariant c.requires.0 c.requires.1 c.requires.2))).variable

pub take-v-requires-clause-old : goal.take-v-requires-clause-old
take-v-requires-clause-old c =
    let e = step_more c.pop.new.self.items c.back.path.items c.in-Some.step c.in-Some.ensures.items in
    (path_ready c.requires.0 c.requires.1 (pairing_of c.args.self.now) (length (indices_of c.args.path.now.items)) (pairing_of c.back.self) (indices_of c.pop.new.self.items) c.in-Some.step.index c.back.v
    (subst (λ ps. PathState c.requires.0 c.requires.1 (pairing_of c.args.self.now) (length (indices_of c.args.path.now.items)) (pairing_of c.back.self) ps c.back.v) e (c.back.invariant c.requires.0 c.requires.1 c.requires.2))).old

pub back-preserved : goal.back-preserved
back-preserved c = λ F part h.
    let m = pairing_of c.args.self.now in
    let first = length (indices_of c.args.path.now.items) in
    let now = pairing_of c.back.self in
    let ps = indices_of c.pop.new.self.items in
    let i = c.in-Some.step.index in
    let e = step_more c.pop.new.self.items c.back.path.items c.in-Some.step c.in-Some.ensures.items in
    let state = subst (λ ps. PathState F part m first now ps c.back.v) e (c.back.invariant F part h) in
    subst (λ x. PathState F part m first (pairing_of c.take-v.new.self) ps x) (sym c.take-v.ensures.value)
    (subst (λ (x : Pairing). PathState F part m first x ps (get_or now.of_clause i 0)) (sym c.take-v.ensures.pairs) (path_goes F part m first now ps i c.back.v state))

pub back-init : goal.back-init
back-init c = λ F part h. path_starts F part (pairing_of c.args.self.now) (indices_of c.args.path.now.items) c.args.end h

pub returns-clause-pairs : goal.returns-clause-pairs
returns-clause-pairs c = λ F part h.
    let state = c.back.invariant F part h in (
      state.path.pairing,
      path_done F part (pairing_of c.args.self.now) (length (indices_of c.args.path.now.items)) (pairing_of c.back.self) (indices_of c.back.path.items) c.back.v state
          (let e = c.in_default.ensures.cases.0 in let n = length-map c.back.path.items (λ (s : Step). s.index) in omega (arith, e, n, c.back.path.ok)),
    )
