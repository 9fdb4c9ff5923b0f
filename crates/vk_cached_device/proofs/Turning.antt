-- What a scheduler picks before an entry, turn by turn, where queues have caches.
use Rattle.std.proofs.Common.{◌≡◌, ℕ, ◌+◌, ◌<◌, List, [], ◌∷◌, ◌++◌, length, refl, ap, sym, ◌∙◌, subst, append-nil, append_assoc, IsTrue}
use Rattle.std.specs.Prelude.{Contains, slice_get, Some}
use Rattle.vk_model.specs.declared.entry.Entry.{Entry}
use Rattle.vk_model.specs.Run.Runs.{Name, Step, Stage}
use Rattle.vk_model.specs.Run.Picks.{most_picks}
use Rattle.vk_laws.specs.DirectRuns.{HostMemory}
use Rattle.vk_cache_laws.specs.LateRuns.{Late}
use Rattle.vk_sync.specs.declared.ready.Piece.{Piece}
use Rattle.vk_sync.specs.Ready.{ready}
use Rattle.vk_backing.specs.Passing.{parts_left}
use Rattle.vk_device.specs.declared.device.Device.{Device}
use Rattle.vk_device.specs.Led.{IsBefore}
use Rattle.vk_device.proofs.Picking.{Turn, shape, left_on, first_turn, first_shape, first_enough}
use Rattle.vk_cached_device.specs.declared.device.CachedDevice.{CachedDevice}
use Rattle.vk_cached_device.specs.LedLate.{LedLate, IsBeforeLate, MayRunLate, MayCopyLate}
use Rattle.vk_cached_device.specs.Touching.{late_picks, late_before_entry}

-- it is before the entry without caches of queues, too
abbrev pub plain_before : {t : List Entry} {steps : List Step} {s : Stage} {memory : HostMemory} {late : Late} {x : Entry} {xs : List Entry} {d : CachedDevice} → IsBeforeLate t steps s memory late x xs d → IsBefore t steps s x xs d.device
plain_before is = record { led = is.led.led; next = is.next; sound = is.sound }

module _ (answer : List ℕ → ℕ → ℕ) (next : List ℕ → ℕ → List ℕ) where
  -- the steps so far, and the stage that they lead to: what caches did after them has led here, and with what they do from here on it is all that they do
  pub record LedShape (t : List Entry) (steps : List Step) (s : Stage) (memory : HostMemory) (late : Late) (first : List ℕ) (x : Entry) (d : CachedDevice) (held : List ℕ) (l : List Step × List Name × List ℕ) : Type 0 where
    pub values : HostMemory × Late
    pub fuel : ℕ
    pub enough : left_on d.device < fuel
    pub rest : late_before_entry answer next s first x (memory, late) ≡ late_picks answer next fuel (record s { done = l.1; copied = l.2 }) held x values
    pub led : LedLate t (steps ++ l.0) (record s { done = l.1; copied = l.2 }) values.0 values.1 d

  -- before a turn: what was picked so far has led here
  pub record TurnLate (t : List Entry) (steps : List Step) (s : Stage) (memory : HostMemory) (late : Late) (d0 : CachedDevice) (first : List ℕ) (x : Entry) (d : CachedDevice) (held : List ℕ) : Type 0 where
    pub turn : Turn answer next t steps s d0.device first x d.device held
    pub by : LedShape t steps s memory late first x d held (shape answer next turn)

  -- whatever run has led to the device before
  abbrev pub TurnsLate : CachedDevice → List ℕ → Entry → CachedDevice → List ℕ → Type 0
  TurnsLate d0 first x d held = (t : List Entry) (steps : List Step) (s : Stage) (memory : HostMemory) (late : Late) (xs : List Entry) → IsBeforeLate t steps s memory late x xs d0 → TurnLate t steps s memory late d0 first x d held

  pub first_late : (d : CachedDevice) (held : List ℕ) (x : Entry) → TurnsLate d held x d held
  first_late d held x t steps s memory late xs is = record {
    turn = first_turn answer next d.device held x t steps s xs (plain_before is);
    by = subst (λ (l : List Step × List Name × List ℕ). LedShape t steps s memory late held x d held l) (sym (first_shape answer next d.device held x t steps s xs (plain_before is)))
        (record {
          values = (memory, late);
          fuel = most_picks answer next s;
          enough = first_enough answer next d.device x t steps s xs (plain_before is);
          rest = refl;
          led = subst (λ (l : List Step). LedLate t l s memory late d) (sym (append-nil steps)) is.led;
        });
  }

  module _ {t : List Entry} {steps : List Step} {s : Stage} {memory : HostMemory} {late : Late} {xs : List Entry} {d0 : CachedDevice} {first : List ℕ} {x : Entry} (is : IsBeforeLate t steps s memory late x xs d0) {d : CachedDevice} {held : List ℕ} (turn : TurnLate t steps s memory late d0 first x d held) where
    abbrev pub now : Stage
    now = record s { done = turn.turn.done; copied = turn.turn.copied }

    pub may_run_late : (piece : Piece) → Contains (ready d.device.offers.ready) piece → MayRunLate d piece
    may_run_late piece at = record { t = t; steps = steps ++ turn.turn.so_far; s = now; memory = turn.by.values.0; late = turn.by.values.1; led = turn.by.led; sound = is.sound; among = at }

    pub may_copy_late : (part : ℕ) → Contains (parts_left d.device.passes) part → MayCopyLate d part
    may_copy_late part at = record { t = t; steps = steps ++ turn.turn.so_far; s = now; memory = turn.by.values.0; late = turn.by.values.1; led = turn.by.led; among = at }
