use Rattle.std.proofs.Common.{◌≡◌, ◌∷◌, ◌+◌, List, Bool, true, false, ap, sym, ◌∙◌, subst, drop}
use Rattle.std.specs.Prelude.{is_some}
use Rattle.std.proofs.lemmas.List.{drop_all, drop_more}
use Rattle.vk_model.specs.declared.command.Element.{Element}
use Rattle.vk_model.specs.Rules.Owners.{bad_pair}
use Rattle.vk_model.specs.Trace.PointViews.{point_of}
use Rattle.vk_history.specs.PointViews.{past}
use Rattle.vk_rules.specs.Inner.Owners.{Judges}
use Rattle.vk_rules.proofs.Judging.Elements.{Going, broken, unpaired, goes_on, ends}
use Rattle.vk_rules.proofs.owners.of_elements.Goals as goal

pub returns-then-is_some-clause-broken : goal.returns-then-is_some-clause-broken
returns-then-is_some-clause-broken c =
    let before_it = past c.args.history.now in
    let p = point_of c.args.point.now in
    let es = c.args.elements.now in
    let k = c.loop-index.index in
    let e = c.index-elements-index.result in
    let rest = drop (k + 1) es in
    let old = c.loop-index.changed in
    let new = c.unpaired_at.new.changed in
    let next : e ∷ rest ≡ drop k es = ap (λ (x : Element). x ∷ rest) c.index-elements-index.is ∙ sym (drop_more es k _ c.loop-index-test.true) in
    let some : is_some c.in_ok-found.found ≡ true = sym c.is_some.ensures ∙ c.if-is_some.true in
    some
    ∙ broken before_it p c.requires.ordered es c.requires.barrier old new e k rest
    (subst (λ (b : Bool). Judges (λ l w n. bad_pair before_it l w n e) before_it p e old new b) some c.in_ok-found.ensures.judges)
    (subst (λ (l : List Element). Going before_it p es old k l) (sym next) c.loop-index.invariant)

pub returns-then-is_some-clause-reported : goal.returns-then-is_some-clause-reported
returns-then-is_some-clause-reported c =
    let before_it = past c.args.history.now in
    let p = point_of c.args.point.now in
    let es = c.args.elements.now in
    let k = c.loop-index.index in
    let e = c.index-elements-index.result in
    let rest = drop (k + 1) es in
    let old = c.loop-index.changed in
    let next : e ∷ rest ≡ drop k es = ap (λ (x : Element). x ∷ rest) c.index-elements-index.is ∙ sym (drop_more es k _ c.loop-index-test.true) in
    unpaired before_it p c.requires.ordered es c.requires.barrier old e k rest c.in_ok-found.found c.in_ok-found.ensures.reported
    (subst (λ (l : List Element). Going before_it p es old k l) (sym next) c.loop-index.invariant)

pub loop-index-preserved : goal.loop-index-preserved
loop-index-preserved c =
    let before_it = past c.args.history.now in
    let p = point_of c.args.point.now in
    let es = c.args.elements.now in
    let k = c.loop-index.index in
    let e = c.index-elements-index.result in
    let rest = drop (k + 1) es in
    let old = c.loop-index.changed in
    let new = c.unpaired_at.new.changed in
    let next : e ∷ rest ≡ drop k es = ap (λ (x : Element). x ∷ rest) c.index-elements-index.is ∙ sym (drop_more es k _ c.loop-index-test.true) in
    let none : is_some c.in_ok-found.found ≡ false = sym c.is_some.ensures ∙ c.if-is_some.false in
    goes_on before_it p c.requires.ordered es c.requires.barrier old new e k rest
    (subst (λ (b : Bool). Judges (λ l w n. bad_pair before_it l w n e) before_it p e old new b) none c.in_ok-found.ensures.judges)
    (subst (λ (l : List Element). Going before_it p es old k l) (sym next) c.loop-index.invariant)

pub returns-clause-broken : goal.returns-clause-broken
returns-clause-broken c =
    let before_it = past c.args.history.now in
    let p = point_of c.args.point.now in
    let es = c.args.elements.now in
    ends before_it p c.requires.ordered es c.requires.barrier c.loop-index.changed c.loop-index.index
    (subst (λ (l : List Element). Going before_it p es c.loop-index.changed c.loop-index.index l) (drop_all c.loop-index.index es c.loop-index-test.false) c.loop-index.invariant)
