use Rattle.std.proofs.Common.{◌<◌, length, refl, ap, ◌∙◌, arith, Some}
use Rattle.vk_map_cache.specs.Holdings.{Holdings, object_in}
use Rattle.vk_map_cache.specs.Inner.Objects.{all_held}
use Rattle.vk_map_cache.proofs.QueueLemmas.{Objects, object_anew, other_objects, object_in-more}
use Rattle.vk_map_cache.proofs.queue.QueueCache.add.Goals as goal

pub loop-self-preserved : goal.loop-self-preserved
loop-self-preserved c = λ number.
    ap (λ (o : Objects). object_in (all_held o) number) c.in_ok-push.ensures.items ∙ object_in-more c.loop-self.self-inside.objects.items number ∙ c.loop-self.invariant number

pub returns-clause-ok : goal.returns-clause-ok
returns-clause-ok c =
    let objects = c.loop-self.self-inside.objects.items in
    let named : c.args.memory < length objects = omega (arith, ap length c.as_slice.ensures.value, c.loop-self-test.false) in
    record {
      object = object_anew objects (all_held objects) refl c.args.memory (Some c.in_ok-object.object) named ∙ c.in_ok-object.ensures;
      others = λ number other.
          other_objects objects (all_held objects) refl c.args.memory (Some c.in_ok-object.object) named number other
          ∙ c.loop-self.invariant number ∙ ap (λ (h : Holdings). object_in h number) c.self.view_is;
    }
