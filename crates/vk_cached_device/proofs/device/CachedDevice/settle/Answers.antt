use Rattle.std.proofs.Common.{List, refl, ap, sym, ◌∙◌, subst}
use Rattle.std.specs.List.{fold}
use Rattle.vk_model.specs.Sync.Node.{Node}
use Rattle.vk_cache_laws.specs.LateRuns.{Late, late_after_node}
use Rattle.vk_offers.specs.IsHappenings.{IsHappenings}
use Rattle.vk_resources.specs.Held.{Held}
use Rattle.vk_resources.specs.Stretches.{place_at}
use Rattle.vk_availability.specs.AreLate.{AreLate}
use Rattle.vk_availability.specs.Happening.{Happens}
use Rattle.vk_cached_device.specs.declared.device.CachedDevice.{CachedDevice}
use Rattle.vk_cached_device.proofs.Settling.{walks_first, walks_on, number_fits}
use Rattle.vk_cached_device.proofs.device.CachedDevice.settle.Goals as goal

pub loop-event-init : goal.loop-event-init
loop-event-init c = record { same = refl; room = λ id. refl; walks = walks_first c.args.self.now }

pub take_next-requires : goal.take_next-requires
take_next-requires c =
    let r = c.requires in
    let w = c.loop-event.invariant.walks r.0 r.1 r.2 r.3 r.4 in
    (r.0, r.1, w.rest, w.happenings)

pub happen-requires : goal.happen-requires
happen-requires c =
    let r = c.requires in
    let w = c.loop-event.invariant.walks r.0 r.1 r.2 r.3 r.4 in
    record { number = number_fits c.loop-event.self.happenings c.take_next.new.self c.in-Some.event c.in-Some.ensures.some r.0 r.1 w.rest w.happenings r.4 }

pub loop-event-preserved : goal.loop-event-preserved
loop-event-preserved c = record {
  same = ap (λ (d : CachedDevice). record d { happenings = c.take_next.new.self; lags = c.happen.new.lags }) c.loop-event.invariant.same;
  room = λ id. c.happen.ensures.room id ∙ c.loop-event.invariant.room id;
  walks = λ past done left is few.
      let resources = c.resources.ensures ∙ ap (λ (d : CachedDevice). d.device.resources) c.loop-event.invariant.same in
      walks_on c.args.self.now.device.resources c.args.self.now.lags c.loop-event.self.lags c.happen.new.lags c.loop-event.self.happenings c.take_next.new.self c.in-Some.event c.in-Some.ensures.some
      (subst (λ (r : Held). Happens r c.loop-event.self.lags c.happen.new.lags c.in-Some.event) resources c.happen.ensures.happens) past done left (c.loop-event.invariant.walks past done left is few);
}

pub returns : goal.returns
returns c = record {
  same = ap (λ (d : CachedDevice). record d { happenings = c.take_next.new.self; lags = c.loop-event.self.lags }) c.loop-event.invariant.same;
  room = c.loop-event.invariant.room;
  taken = λ past done left is few.
      let w = c.loop-event.invariant.walks past done left is few in
      (c.in_default.ensures.none past done w.rest w.happenings).1;
  late = λ past done left late is few are.
      let w = c.loop-event.invariant.walks past done left is few in
      let l = w.late late are in
      let none = (c.in_default.ensures.none past done w.rest w.happenings).0 in
      let last = l.2 ∙ ap (λ (xs : List Node). fold (λ l n. late_after_node past n l) l.0 xs) none in
      λ b k place. ap (λ (f : Late). f b) last ∙ l.1 b k (ap (λ (d : CachedDevice). place_at d.device.resources b) (sym c.loop-event.invariant.same) ∙ place);
}
