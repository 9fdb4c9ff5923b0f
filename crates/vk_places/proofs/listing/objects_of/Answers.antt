use Rattle.std.proofs.Common.{◌∙◌, ◌<◌, ◌≤◌, length, ap, sym, append-nil, arith, None, Some}
use Rattle.vk_places.proofs.ListedItems.{objects_next, objects_all}
use Rattle.vk_places.proofs.listing.objects_of.Goals as goal
use Rattle.vk_places.proofs.listing.objects_of.Goals.{in-Some+in_ok-push, in_default}

pub loop-number-preserved : goal.loop-number-preserved
loop-number-preserved c =
    let owners = c.args.owners.now.entries in let os = c.args.memories.now.objects in let i = c.loop-number.number in let old = c.loop-number.objects.items in let new = c.match-object_of.objects.items in
    let lt : c.loop-number.number < length c.args.memories.now.objects = omega (arith, c.loop-number-test.true, c.next_number-number-end.ensures) in
    elim c.match-object_of.branch [
      | in-Some+in_ok-push w ↦ objects_next owners i os old new (Some w.in-Some.object) lt c.loop-number.invariant w.in-Some.ensures (ap (λ v. v.items) w.objects-is ∙ w.in_ok-push.ensures.items)
      | in_default w ↦ objects_next owners i os old new None lt c.loop-number.invariant w.in_default.ensures (ap (λ v. v.items) w.objects-is ∙ sym (append-nil old))
    ]

pub returns : goal.returns
returns c =
    let done : length c.args.memories.now.objects ≤ c.loop-number.number = omega (arith, c.loop-number-test.false, c.next_number-number-end.ensures) in
    objects_all c.args.owners.now.entries c.loop-number.number c.args.memories.now.objects c.loop-number.objects.items done c.loop-number.invariant
