-- An entry is applied to a device whose queues have caches.
use Rattle.std.proofs.Common.{◌≡◌, ℕ, ◌<◌, ◌≤◌, List, [], ◌∷◌, ◌++◌, length, Bool, true, false, refl, ap, sym, ◌∙◌, subst, arith, IsTrue, Option, Some, None}
use Rattle.std.specs.Prelude.{if◌then◌else◌}
use Rattle.std.specs.List.{fold}
use Rattle.vk_model.proofs.Lists.Truths.{clash}
use Rattle.vk_model.specs.declared.entry.Entry.{Entry}
use Rattle.vk_model.specs.declared.entry.Entry.TheVariants as entry
use Rattle.vk_model.specs.declared.resource.BufferInfo.{BufferInfo}
use Rattle.vk_model.specs.declared.resource.ImageInfo.{ImageInfo}
use Rattle.vk_model.specs.Trace.Order.{Front, host, after_entry}
use Rattle.vk_model.specs.Trace.Point.{Past, entries}
use Rattle.vk_model.specs.Sync.Node.{nodes}
use Rattle.vk_model.specs.Run.Runs.{Step, Stage, Apply, applied, may_go, are_atoms}
use Rattle.vk_model.specs.Run.CachedRuns.{happening}
use Rattle.vk_model.specs.World.Bytes.{Byte}
use Rattle.vk_laws.specs.DirectRuns.{HostMemory, cells_of, is_made, memory_after_entry}
use Rattle.vk_cache_laws.specs.LateRuns.{Late, LateRun, late_after_entry, late_after_nodes, late_after_node, EntriesGoOnLate, NewBytesAreNotLate, LateBytesAreThemselves}
use Rattle.vk_queues.specs.IsWaiting.{IsWaiting}
use Rattle.vk_offers.specs.IsHappenings.{IsHappenings}
use Rattle.vk_lag.specs.Lags.{Lags, resource_in}
use Rattle.vk_backing.specs.Passing.{Passing}
use Rattle.vk_resources.specs.declared.resources.Placed.{Placed}
use Rattle.vk_resources.specs.Held.{Held, placed, byte_at, host_at, IsThere, HasCell}
use Rattle.vk_resources.specs.Matches.{MatchesLive, Stands}
use Rattle.vk_resources.specs.Done.{HoldsNoneNew}
use Rattle.vk_availability.specs.AreLate.{AreLate}
use Rattle.vk_device.specs.declared.device.Device.{Device}
use Rattle.vk_device.specs.Becomes.{Becomes, HasBytes}
use Rattle.vk_device.specs.Inner.Clean.{IsClean}
use Rattle.vk_device.specs.Led.{Led}
use Rattle.vk_device.specs.Passes.{moved_by, parts_begun}
use Rattle.vk_device.proofs.Coming.{applied_front, applied_count, applied_done, stands_stay}
use Rattle.vk_device.proofs.Entering.{was_there, there_made, none_new, new_cell}
use Rattle.vk_cached_device.specs.declared.device.CachedDevice.{CachedDevice}
use Rattle.vk_cached_device.specs.LedLate.{LedLate, IsBeforeLate, AreWriters}
use Rattle.vk_cached_device.specs.Applies.{moved_at, late_when_applied}
use Rattle.vk_cached_device.specs.Inner.{Follows, Arrives, Advances, HasAdvanced, Settles}
use Rattle.vk_cached_device.proofs.Coming.{was_done}
use Rattle.vk_cached_device.proofs.Following.{late_follows, room_follows}
use Rattle.vk_cached_device.proofs.LatePicking.{nodes_alike, late_alike}

-- what an entry moves counts for late bytes where it begins a pass alone
same_moved : (p q : Passing) (x : Entry) (late : Late) (c : Byte) → late_after_entry (moved_by p x q) x late c ≡ late_after_entry (moved_at x q) x late c
same_moved p q (entry.Pass d) late c = refl
same_moved p q x late c = refl

module _ (t : List Entry) (steps : List Step) (s : Stage) (memory : HostMemory) (late : Late) (x : Entry) (xs : List Entry) (old : CachedDevice) (is : IsBeforeLate t steps s memory late x xs old) (may : IsTrue (may_go s x)) (clean : IsClean (host s.count x ∷ s.front.past))
    (atoms : List ℕ) (touched : IsTrue (are_atoms s.front.past x atoms)) (device : Device) (lags : Lags) where
  abbrev past : Past
  past = s.front.past

  abbrev begun : ℕ
  begun = parts_begun device.passes x

  abbrev e : Stage
  e = applied s (parts_begun device.passes x) x xs

  abbrev moved : List ℕ
  moved = moved_by old.device.passes x device.passes

  -- the device when the entry has been applied, and its points haven't come
  abbrev pub mid : CachedDevice
  mid = record old { device = device; lags = lags }

  module _ (led : Led t (steps ++ Apply atoms (parts_begun device.passes x) ∷ []) (applied s (parts_begun device.passes x) x xs) device) where
    pub arrives : Arrives t steps s x xs atoms mid
    arrives = record {
      before = old.device;
      was = is.led.led;
      next = is.next;
      sound = is.sound;
      led = led;
      waits = is.led.waits;
      counts = is.led.counts;
      happenings = is.led.happenings;
      few = is.led.few;
      writers = is.led.writers;
    }

    before : MatchesLive past old.device.resources
    before = is.led.led.matches.live

    after : MatchesLive (host s.count x ∷ past) device.resources
    after = (was_done t steps s x xs atoms mid arrives).matches.live

    module _ (becomes : Becomes old.device.resources device.resources (memory_after_entry past atoms moved x)) (bare : HoldsNoneNew old.device.resources device.resources) (new_bytes : NewBytesAreNotLate) (entries_go : EntriesGoOnLate) where
      -- new resources have what memory holds there
      abbrev pub between : HostMemory
      between = record { region = λ c. if is_made past c then memory.region c else byte_at device.resources c; host = λ c. if is_made past c then memory.host c else None }

      run_between : LateRun t steps s between late
      run_between = new_bytes t steps s memory between late is.sound.faultless is.led.run (λ c made_it. (sym (rw made_it refl), sym (rw made_it refl))) (λ c none. rw none refl)

      run_on : LateRun t (steps ++ Apply atoms begun ∷ []) e (memory_after_entry past atoms moved x between) (late_after_nodes s e (late_after_entry moved x late))
      run_on = entries_go t steps s between late x xs atoms begun moved is.sound.faultless run_between is.next may touched

      had : HasBytes old.device.resources between
      had c there = let made_it = there_made past old.device.resources before c there in let cell = is.led.holds c there in record { held = rw made_it cell.held; region = rw made_it cell.region }

      holds_on : HasBytes device.resources (memory_after_entry past atoms moved x between)
      holds_on c there = go (is_made past c) refl
        where
          go : (b : Bool) → is_made past c ≡ b → HasCell device.resources c (cells_of (memory_after_entry past atoms moved x between) c)
          go true made_it = becomes between had c (was_there s.count past x clean old.device.resources device.resources before after c made_it there) there
          go false none = let has = new_cell past moved device.resources x atoms c (cells_of between c) (record { held = rw none (sym none_held); region = rw none refl }) makes in record { held = has.held; region = has.region }
            where
              absent : IsThere old.device.resources c → ⊥
              absent at = clash (there_made past old.device.resources before c at) none

              none_held : host_at device.resources c ≡ None
              none_held = bare c there absent

              makes : (((i : ℕ) (y : BufferInfo) → x ≡ entry.Buffer i y → ⊥) → ((i : ℕ) (y : ImageInfo) → x ≡ entry.Image i y → ⊥) → ⊥)
              makes other image = none_new s.count past x clean device.resources after other image c there none

      module _ (follows : Follows x device old.lags lags) where
        late_on : AreLate device.resources lags (late_after_entry moved x late)
        late_on c k place =
            same_moved old.device.passes device.passes x late c
            ∙ late_follows s.count past x clean old.device.resources device.resources before after device refl old.lags lags follows late is.led.lags is.led.run.run.new c k place

        room_on : (id : ℕ) (p : Placed) → placed device.resources id ≡ Some p → p.size ≤ length (resource_in lags id)
        room_on = room_follows s.count past x clean old.device.resources device.resources before after device refl old.lags lags follows late is.led.lags is.led.run.run.new is.led.room

        module _ (works : device.failed ≡ false) (come new : CachedDevice) (advances : Advances mid come x) (settled : Settles come new) where
          come_to : HasAdvanced s e come
          come_to = advances.advanced t steps s xs atoms arrives

          late_come : AreLate come.device.resources come.lags (late_after_entry moved x late)
          late_come = subst (λ (l : Lags). AreLate come.device.resources l (late_after_entry moved x late)) (sym advances.lags) (subst (λ (d : Device). AreLate d.resources lags (late_after_entry moved x late)) (sym advances.device) late_on)

          room_come : (id : ℕ) (p : Placed) → placed come.device.resources id ≡ Some p → p.size ≤ length (resource_in new.lags id)
          room_come id p here =
              let had_room = room_on id p (ap (λ (d : Device). placed d.resources id) (sym advances.device) ∙ here) in
              let same = settled.room id in
              let lag = ap (λ (l : Lags). length (resource_in l id)) advances.lags in
              omega (arith, had_room, same, lag)

          pub led_on : LedLate t (steps ++ Apply atoms (parts_begun new.device.passes x) ∷ []) (applied s (parts_begun new.device.passes x) x xs) (memory_after_entry past atoms moved x between) (late_after_nodes s (applied s (parts_begun device.passes x) x xs) (late_after_entry moved x late)) new
          led_on = subst (λ (d : CachedDevice). LedLate t (steps ++ Apply atoms (parts_begun d.device.passes x) ∷ []) (applied s (parts_begun d.device.passes x) x xs) (memory_after_entry past atoms moved x between) (late_after_nodes s e (late_after_entry moved x late)) d) (sym settled.same)
              (subst (λ (c : Device). LedLate t (steps ++ Apply atoms (parts_begun c.passes x) ∷ []) (applied s (parts_begun c.passes x) x xs) (memory_after_entry past atoms moved x between) (late_after_nodes s e (late_after_entry moved x late)) (record come { device = c; happenings = new.happenings; lags = new.lags })) (sym advances.device) record {
                led = led;
                works = works;
                run = run_on;
                holds = holds_on;
                lags = subst (λ (c : Device). AreLate c.resources new.lags (late_after_nodes s e (late_after_entry moved x late))) advances.device
                    (subst (λ (c : CachedDevice). AreLate c.device.resources new.lags (late_after_nodes s e (late_after_entry moved x late))) settled.same
                    (settled.late e.front.past e.done (happening s e) (late_after_entry moved x late) come_to.happenings come_to.few late_come));
                room = λ id p here. room_come id p (ap (λ (d : Device). placed d.resources id) advances.device ∙ here);
                waits = come_to.waits;
                counts = come_to.counts;
                happenings = settled.taken e.front.past e.done (happening s e) come_to.happenings come_to.few;
                few = come_to.few;
                writers = come_to.writers;
              })

          -- in the words of an entry that was applied
          pub led_told : LateBytesAreThemselves → LedLate t (steps ++ Apply atoms (parts_begun new.device.passes x) ∷ []) (applied s (parts_begun new.device.passes x) x xs) (memory_after_entry past atoms moved x between) (late_when_applied s (parts_begun new.device.passes x) new.device.passes x xs late) new
          led_told law = late_alike law t (steps ++ Apply atoms (parts_begun new.device.passes x) ∷ []) (applied s (parts_begun new.device.passes x) x xs) (memory_after_entry past atoms moved x between) (late_after_nodes s (applied s (parts_begun device.passes x) x xs) (late_after_entry moved x late)) _ new led_on
              (λ c. subst (λ (d : Device). late_after_nodes s (applied s (parts_begun device.passes x) x xs) (late_after_entry moved x late) c ≡ late_when_applied s (parts_begun d.passes x) d.passes x xs late c) (sym (ap (λ (d : CachedDevice). d.device) settled.same ∙ advances.device))
              (nodes_alike (applied s (parts_begun device.passes x) x xs).front.past (happening s (applied s (parts_begun device.passes x) x xs)) (late_after_entry moved x late) (late_after_entry (moved_at x device.passes) x late) (same_moved old.device.passes device.passes x late) c))
