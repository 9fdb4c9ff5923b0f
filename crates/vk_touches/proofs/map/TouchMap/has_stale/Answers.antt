use Rattle.std.proofs.Common.{arith, refl, rules, ◌≡◌, Bool, not}
use Rattle.std.specs.Prelude.{◌&&◌, is_some}
use Rattle.vk_touches.specs.TouchMaps.{with_write_alone}
use Rattle.vk_touches.specs.declared.touches.LastTouches.{LastTouches}
use Rattle.vk_touches.proofs.Searches.{found_by}
use Rattle.vk_touches.proofs.TouchMaps.{writes_len, found_in_writes}
use Rattle.vk_touches.proofs.map.TouchMap.has_stale.Goals as goal

abbrev is_stale : LastTouches → Bool
is_stale t = is_some t.write && not t.is_invalidated

pub find-requires-clause-within : goal.find-requires-clause-within
find-requires-clause-within c = omega (arith, writes_len c.self.invariant c.self.view_is)

pub returns : goal.returns
returns c =
    found_in_writes c.self.invariant c.self.view_is (λ k r t. r ≡ is_stale t) (λ k r w t m. m) c.args.low c.args.high c.is_some.result
    (found_by (λ r w. r ≡ is_stale (with_write_alone w)) c.self.inside.writes c.args.low c.args.high _ _ refl refl c.find.result c.find.ensures.within c.find.ensures.passes c.find.ensures.none c.is_some.result c.is_some.ensures (λ a h. search rules) (λ a h. search rules))
