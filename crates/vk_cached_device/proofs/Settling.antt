-- What happens is taken, one after another, and memory catches up with it.
use Rattle.std.proofs.Common.{◌≡◌, ℕ, ◌<◌, List, [], ◌∷◌, length, refl, ap, sym, ◌∙◌, subst, arith}
use Rattle.std.specs.List.{fold}
use Rattle.vk_model.specs.Trace.Point.{Past}
use Rattle.vk_model.specs.Sync.Node.{Node, nodes}
use Rattle.vk_model.specs.Run.Runs.{Name}
use Rattle.vk_cache_laws.specs.LateRuns.{Late, late_after_node}
use Rattle.vk_events.specs.declared.event.Event.{Event}
use Rattle.vk_events.specs.Happens.{IsEvent, is_finished}
use Rattle.vk_events.proofs.LeftNumbers.{left_below}
use Rattle.vk_offers.specs.declared.happenings.Happenings.{Happenings}
use Rattle.vk_offers.specs.IsHappenings.{IsHappenings}
use Rattle.vk_lag.specs.Lags.{Lags}
use Rattle.vk_resources.specs.Held.{Held}
use Rattle.vk_availability.specs.AreLate.{AreLate}
use Rattle.vk_availability.specs.Happening.{Happens}
use Rattle.vk_cached_device.specs.declared.device.CachedDevice.{CachedDevice}

-- what was taken so far of some that have happened, and what is left
pub record Walked (r : Held) (old new : Lags) (h : Happenings) (past : Past) (done : List Name) (left : List Node) : Type 0 where
  pub rest : List Node
  pub happenings : IsHappenings h past done rest
  pub late : (late : Late) → AreLate r old late → (so_far : Late) × AreLate r new so_far × (fold (λ l n. late_after_node past n l) late left ≡ fold (λ l n. late_after_node past n l) so_far rest)

abbrev pub Walks : CachedDevice → CachedDevice → Type 0
Walks old new = (past : Past) (done : List Name) (left : List Node) → IsHappenings old.happenings past done left → length (nodes past) < 4294967296 → Walked old.device.resources old.lags new.lags new.happenings past done left

pub walks_first : (d : CachedDevice) → Walks d d
walks_first d past done left is few = record { rest = left; happenings = is; late = λ late are. (late, are, refl) }

-- the next one
abbrev pub IsTaken : Happenings → Happenings → Event → Type 0
IsTaken h h' e = (past : Past) (done : List Name) (left : List Node) → IsHappenings h past done left → (n : Node) × (rest : List Node) × (left ≡ n ∷ rest) × IsEvent e (nodes past) n × IsHappenings h' past done rest

-- has a number of 32 bits
pub number_fits : (h h' : Happenings) (e : Event) → IsTaken h h' e → (past : Past) (done : List Name) (left : List Node) → IsHappenings h past done left → length (nodes past) < 4294967296 → e.number < 4294967296
number_fits h h' e taken past done left is few =
    let t = taken past done left is in
    let low : t.0.number < length (nodes past) = left_below h.events (nodes past) (is_finished past done) t.0 t.1 (subst (λ (xs : List Node). IsHappenings h past done xs) t.2 is).events in
    let same = t.3.number in
    omega arith

-- and memory catches up with it
pub walks_on : (r : Held) (old mid new : Lags) (h h' : Happenings) (e : Event) → IsTaken h h' e → Happens r mid new e → (past : Past) (done : List Name) (left : List Node) → Walked r old mid h past done left → Walked r old new h' past done left
walks_on r old mid new h h' e taken happens past done left w =
    let t = taken past done w.rest w.happenings in
    record {
      rest = t.1;
      happenings = t.4;
      late = λ late are.
          let l = w.late late are in
          (late_after_node past t.0 l.0, happens past t.0 l.0 t.3 l.1, l.2 ∙ ap (λ (xs : List Node). fold (λ l n. late_after_node past n l) l.0 xs) t.2);
    }
