use Rattle.std.proofs.Common.{subst, Option, Some}
use Rattle.vk_model.specs.declared.resource.Spot.{Spot}
use Rattle.vk_resources.specs.Inner.Steps.{FoundOr}
use Rattle.vk_resources.proofs.Sharing.{shared_ready, shared_put}
use Rattle.vk_resources.proofs.resources.Resources.make_shared.Goals as goal

pub put-requires : goal.put-requires
put-requires c =
    let found : FoundOr (Some c.in-Some.spot) c.args.self.now c.find.new.self c.args.id c.args.pool c.args.asked c.args.upper =
    subst (λ (o : Option Spot). FoundOr o c.args.self.now c.find.new.self c.args.id c.args.pool c.args.asked c.args.upper) c.in-Some.is c.in_ok-spot.ensures.found in
    record {
      ready = λ consistent.
          shared_ready c.args.self.now c.find.new.self c.args.id c.args.pool c.args.size c.args.asked c.args.upper c.args.shape c.in-Some.spot found c.requires.some c.requires.room c.requires.unplaced c.requires.unshaped (c.requires.elsewhere) consistent c.requires.shaped;
    }

pub returns-in_ok-put-in-Some-clause-made : goal.returns-in_ok-put-in-Some-clause-made
returns-in_ok-put-in-Some-clause-made c =
    let found : FoundOr (Some c.in-Some.spot) c.args.self.now c.find.new.self c.args.id c.args.pool c.args.asked c.args.upper =
    subst (λ (o : Option Spot). FoundOr o c.args.self.now c.find.new.self c.args.id c.args.pool c.args.asked c.args.upper) c.in-Some.is c.in_ok-spot.ensures.found in
    let put = c.in_ok-put-in-Some.ensures in
    (c.in-Some.spot, shared_put c.args.self.now c.find.new.self c.put.new.self put.memory put.backed c.find.ensures.consistent c.args.id c.args.pool c.args.size c.args.asked c.args.upper c.args.shape c.in-Some.spot c.requires.apart found c.find.ensures.grows put.put put.cache)
