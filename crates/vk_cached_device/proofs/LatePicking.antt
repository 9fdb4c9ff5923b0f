-- What caches do before an entry, pick by pick, and bytes by which memory is behind, one by one.
use Rattle.std.proofs.Common.{◌≡◌, ℕ, suc, List, [], ◌∷◌, ◌++◌, length, Bool, refl, ap, sym, ◌∙◌, subst, Option, Some, None}
use Rattle.std.specs.Prelude.{slice_get}
use Rattle.std.specs.List.{fold}
use Rattle.vk_model.specs.declared.entry.Entry.{Entry}
use Rattle.vk_model.specs.declared.entry.Entry.TheVariants as entry
use Rattle.vk_model.specs.Trace.Point.{Past}
use Rattle.vk_model.specs.Sync.Node.{Node}
use Rattle.vk_model.specs.World.Bytes.{Byte, resource_at}
use Rattle.vk_model.specs.Run.Runs.{Step, Stage}
use Rattle.vk_model.specs.Run.CachedRuns.{happening}
use Rattle.vk_model.specs.Run.Picks.{Choice, Take, Go, stepped, options, pick_of, held_after, held_after_step}
use Rattle.vk_laws.specs.DirectRuns.{HostMemory}
use Rattle.vk_laws.specs.WriteBacks.{frees_byte}
use Rattle.vk_cache_laws.specs.LateRuns.{LateByte, Late, caught_by, late_after_node, late_after_nodes, LateBytesAreThemselves}
use Rattle.vk_lag.specs.Lags.{late_at}
use Rattle.vk_availability.specs.AreLate.{late_byte}
use Rattle.vk_cached_device.specs.declared.device.CachedDevice.{CachedDevice}
use Rattle.vk_cached_device.specs.LedLate.{LedLate}
use Rattle.vk_cached_device.specs.Touching.{late_stepped, late_picks}

module _ (answer : List ℕ → ℕ → ℕ) (next : List ℕ → ℕ → List ℕ) where
  abbrev after_choice : ℕ → Stage → List ℕ → Entry → HostMemory × Late → Option Choice → HostMemory × Late
  after_choice fuel s held x l o = elim o [
    | None ↦ l
    | Some c ↦ elim c [
      | Go ↦ l
      | Take step ↦ late_picks answer next fuel (stepped step s) (held_after_step answer next step (held_after answer next held (length (options answer next s x)))) x (late_stepped answer next s step (held_after answer next held (length (options answer next s x))) l)
    ]
  ]

  picks_are : (fuel : ℕ) (s : Stage) (held : List ℕ) (x : Entry) (l : HostMemory × Late) → late_picks answer next (suc fuel) s held x l ≡ after_choice fuel s held x l (slice_get (options answer next s x) (pick_of answer next held (length (options answer next s x))))
  picks_are fuel s held x l = refl

  -- a step is picked
  pub late_step : (fuel : ℕ) (s : Stage) (held : List ℕ) (x : Entry) (l : HostMemory × Late) (step : Step) (n : ℕ) → n ≡ length (options answer next s x) → slice_get (options answer next s x) (pick_of answer next held n) ≡ Some (Take step)
      → late_picks answer next (suc fuel) s held x l ≡ late_picks answer next fuel (stepped step s) (held_after_step answer next step (held_after answer next held n)) x (late_stepped answer next s step (held_after answer next held n) l)
  late_step fuel s held x l step n size at =
      picks_are fuel s held x l ∙ ap (λ (o : Option Choice). after_choice fuel s held x l o) (ap (λ (m : ℕ). slice_get (options answer next s x) (pick_of answer next held m)) (sym size) ∙ at)
      ∙ ap (λ (m : ℕ). late_picks answer next fuel (stepped step s) (held_after_step answer next step (held_after answer next held m)) x (late_stepped answer next s step (held_after answer next held m) l)) (sym size)

  -- the entry is picked
  pub late_entry : (fuel : ℕ) (s : Stage) (held : List ℕ) (x : Entry) (l : HostMemory × Late) (n : ℕ) → n ≡ length (options answer next s x) → slice_get (options answer next s x) (pick_of answer next held n) ≡ Some Go → late_picks answer next (suc fuel) s held x l ≡ l
  late_entry fuel s held x l n size at = picks_are fuel s held x l ∙ ap (λ (o : Option Choice). after_choice fuel s held x l o) (ap (λ (m : ℕ). slice_get (options answer next s x) (pick_of answer next held m)) (sym size) ∙ at)

-- ---- the same bytes, one by one

pub nodes_alike : (past : Past) (ns : List Node) (a b : Late) → ((c : Byte) → a c ≡ b c) → (c : Byte) → fold (λ l n. late_after_node past n l) a ns c ≡ fold (λ l n. late_after_node past n l) b ns c
nodes_alike past [] a b same c = same c
nodes_alike past (n ∷ ns) a b same c = nodes_alike past ns (late_after_node past n a) (late_after_node past n b) (λ k. ap (λ (o : Option LateByte). caught_by n (frees_byte past n k) o) (same k)) c

pub late_alike : LateBytesAreThemselves → (t : List Entry) (steps : List Step) (s : Stage) (m : HostMemory) (late other : Late) (d : CachedDevice) → LedLate t steps s m late d → ((c : Byte) → late c ≡ other c) → LedLate t steps s m other d
late_alike law t steps s m late other d led same = record {
  led = led.led;
  works = led.works;
  run = law t steps s m m late other led.run (λ c. (refl, refl)) same;
  holds = led.holds;
  lags = λ c k place. sym (same c) ∙ led.lags c k place;
  room = led.room;
  waits = led.waits;
  counts = led.counts;
  happenings = led.happenings;
  few = led.few;
  writers = led.writers;
}
