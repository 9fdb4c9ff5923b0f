use Rattle.std.proofs.Common.{◌≡◌, ◌&&◌, [], ℕ, List, Some, Bool, true, false, refl, ap, sym, ◌∙◌, subst, length, arith}
use Rattle.std.specs.Prelude.{slice_get, Contains}
use Rattle.std.proofs.lemmas.Bool.{and_from}
use Rattle.std.proofs.lemmas.Option.{slice_get_read, slice_get_within}
use Rattle.std.proofs.Math.Bool.{and-false}
use Rattle.vk_model.specs.Sync.Node.{Node}
use Rattle.vk_model.specs.Sync.Edge.{is_host}
use Rattle.vk_model.proofs.Lists.Members.{member_passes, none_passes_any}
use Rattle.vk_order.specs.declared.writes.First.{First}
use Rattle.vk_order.specs.NodeViews.{act_of, node_of, nodes_after}
use Rattle.vk_order.specs.Inner.Availability.{serves, makes_write_available, is_marked, is_after, HasSets, AreFirsts}
use Rattle.vk_order.proofs.NamedLemmas.{node_there}
use Rattle.vk_order.proofs.BeforeLemmas.{node_row}
use Rattle.vk_order.proofs.AvailabilityLemmas.{below_more}
use Rattle.vk_order.proofs.seen.is_way.Goals.{else-is_served-via-then-is_served+else-is_available_before, else-is_served-via-else-is_served}
use Rattle.vk_order.proofs.seen.is_way.Goals as goal

pub firsts-requires : goal.firsts-requires
firsts-requires c = λ s has. c.in_ok-sets.ensures.within s (subst (λ (l : List ℕ). Contains l s) c.as_slice.ensures.value has)

pub is_available_before-requires-clause-sets : goal.is_available_before-requires-clause-sets
is_available_before-requires-clause-sets c = λ s has. c.in_ok-sets.ensures.within s (subst (λ (l : List ℕ). Contains l s) c.as_slice-sets.ensures.value has)

pub is_available_before-requires-clause-within : goal.is_available_before-requires-clause-within
is_available_before-requires-clause-within c = λ f has.
    let low = c.in_ok-firsts.ensures.within f (subst (λ (l : List First). Contains l f) c.as_slice-list.ensures.value has) in
    let e = c.requires in
    omega arith

pub returns-then-is_available_before : goal.returns-then-is_available_before
returns-then-is_available_before c = λ in_time until kept.
    let rows = c.args.rows.now in
    let all = nodes_after [] rows in
    let k = c.loop-number.number in
    let row = c.index-rows-number.result in
    let write = c.args.write.now in
    let at : slice_get rows k ≡ Some row = slice_get_read rows (length rows) k row refl c.loop-number-test.true c.index-rows-number.is in
    let known : HasSets rows (makes_write_available write) c.as_slice.result.now = subst (λ (l : List ℕ). HasSets rows (makes_write_available write) l) (sym c.as_slice.ensures.value) c.in_ok-sets.ensures.sets in
    let has : HasSets rows (makes_write_available write) c.as_slice-sets.result.now = subst (λ (l : List ℕ). HasSets rows (makes_write_available write) l) (sym c.as_slice-sets.ensures.value) c.in_ok-sets.ensures.sets in
    let are : AreFirsts rows (is_marked all (makes_write_available write)) c.as_slice-list.result.now = subst (λ (l : List First). AreFirsts rows (is_marked all (makes_write_available write)) l) (sym c.as_slice-list.ensures.value) (c.in_ok-firsts.ensures.firsts known) in
    let served : serves in_time (is_host (act_of write.row.act)) c.args.read.now (node_of k row) ≡ true =
    ap (λ (t : Bool). serves in_time t c.args.read.now (node_of k row)) (sym c.is_host-by_host.ensures) ∙ sym (c.is_served_by-is_served.ensures in_time until kept at) ∙ c.if-is_served.true in
    let available : is_after all (makes_write_available write) (node_of k row) ≡ true = sym (c.is_available_before.ensures has are kept at) ∙ c.if-is_available_before.true in
    sym (member_passes (λ n. serves in_time (is_host (act_of write.row.act)) c.args.read.now n && is_after all (makes_write_available write) n) all (node_of k row) (node_there rows k row at)
    (and_from (serves in_time (is_host (act_of write.row.act)) c.args.read.now (node_of k row)) (is_after all (makes_write_available write) (node_of k row)) served available))

pub loop-number-preserved : goal.loop-number-preserved
loop-number-preserved c = λ in_time until kept.
    let rows = c.args.rows.now in
    let all = nodes_after [] rows in
    let k = c.loop-number.number in
    let row = c.index-rows-number.result in
    let write = c.args.write.now in
    let by_host = is_host (act_of write.row.act) in
    let at : slice_get rows k ≡ Some row = slice_get_read rows (length rows) k row refl c.loop-number-test.true c.index-rows-number.is in
    let known : HasSets rows (makes_write_available write) c.as_slice.result.now = subst (λ (l : List ℕ). HasSets rows (makes_write_available write) l) (sym c.as_slice.ensures.value) c.in_ok-sets.ensures.sets in
    let has : HasSets rows (makes_write_available write) c.as_slice-sets.result.now = subst (λ (l : List ℕ). HasSets rows (makes_write_available write) l) (sym c.as_slice-sets.ensures.value) c.in_ok-sets.ensures.sets in
    let are : AreFirsts rows (is_marked all (makes_write_available write)) c.as_slice-list.result.now = subst (λ (l : List First). AreFirsts rows (is_marked all (makes_write_available write)) l) (sym c.as_slice-list.ensures.value) (c.in_ok-firsts.ensures.firsts known) in
    let served : serves in_time (is_host (act_of write.row.act)) c.args.read.now (node_of k row) ≡ c.is_served_by-is_served.result =
    ap (λ (t : Bool). serves in_time t c.args.read.now (node_of k row)) (sym c.is_host-by_host.ensures) ∙ sym (c.is_served_by-is_served.ensures in_time until kept at) in
    let off : (serves in_time (is_host (act_of write.row.act)) c.args.read.now (node_of k row) && is_after all (makes_write_available write) (node_of k row)) ≡ false = elim c.else-is_served.branch [
      | else-is_served-via-then-is_served+else-is_available_before w ↦
          ap (λ (t : Bool). serves in_time (is_host (act_of write.row.act)) c.args.read.now (node_of k row) && t) (sym (w.is_available_before.ensures has are kept at) ∙ w.if-is_available_before.false)
          ∙ and-false (serves in_time (is_host (act_of write.row.act)) c.args.read.now (node_of k row))
      | else-is_served-via-else-is_served w ↦ ap (λ (t : Bool). t && is_after all (makes_write_available write) (node_of k row)) (served ∙ w.if-is_served.false)
    ] in
    below_more (λ j x. serves in_time (is_host (act_of write.row.act)) c.args.read.now (node_of j x) && is_after all (makes_write_available write) (node_of j x)) rows k row at off (c.loop-number.invariant in_time until kept)

pub returns : goal.returns
returns c = λ in_time until kept.
    let rows = c.args.rows.now in
    let all = nodes_after [] rows in
    let write = c.args.write.now in
    sym (none_passes_any (λ n. serves in_time (is_host (act_of write.row.act)) c.args.read.now n && is_after all (makes_write_available write) n) all
    (λ n cn.
    let found = node_row rows n n.number cn refl in
    ap (λ (m : Node). serves in_time (is_host (act_of write.row.act)) c.args.read.now m && is_after all (makes_write_available write) m) found.2
    ∙ c.loop-number.invariant in_time until kept n.number found.0 found.1 (let lt = slice_get_within rows n.number found.0 found.1 in let le = c.loop-number-test.false in omega arith)))
