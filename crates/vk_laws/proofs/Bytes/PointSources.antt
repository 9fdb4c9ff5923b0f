-- What a point writes to a byte; a byte that it doesn't write is as it was, or undefined.
use Rattle.std.proofs.Common.{◌≡◌, ℕ, List, [], ◌∷◌, Bool, true, false, Option, Some, None, refl, ◌&&◌}
use Rattle.std.specs.Prelude.{◌==◌, ◌&&◌, option_map, if◌then◌else◌}
use Rattle.std.specs.List.{find, fold}
use Rattle.std.specs.Option.{option_or}
use Rattle.vk_model.specs.declared.entry.Entry.{Entry}
use Rattle.vk_model.specs.declared.entry.Entry.TheVariants as entry
use Rattle.vk_model.specs.declared.command.Cmd.{Cmd}
use Rattle.vk_model.specs.declared.command.Element.{Element}
use Rattle.vk_model.specs.declared.command.Element.TheVariants as element
use Rattle.vk_model.specs.declared.command.BufferElement.{BufferElement}
use Rattle.vk_model.specs.declared.command.ImageElement.{ImageElement}
use Rattle.vk_model.specs.World.Bytes.{Byte, World, resource_at, same_byte}
use Rattle.vk_model.specs.Trace.Objects.{is_exclusive, is_cached}
use Rattle.vk_model.specs.Trace.Point.{Past, Point, Action, Host, Wait, Run, Signal}
use Rattle.vk_model.specs.World.Ownership.{family_of, uses, elements_of, transfer, Transfer, Stays, Release, Acquire, Neither, is_transition}
use Rattle.vk_model.specs.World.ByteWrites.{Source, Value, From, ByteWrite, byte_writes}
use Rattle.vk_model.specs.World.Effect.{source_value, value_after as written_to_byte, after_writes, without, is_other, used, in_range, transitioned, after_buffer_element, after_image_element, after_element, after_command, after_host, after_action, written, reaches, world}
use Rattle.vk_laws.specs.Tasks.{host_value}

-- ---- what a byte is after a step it was before, or it's undefined

abbrev Weaker : (new old : Byte → Option ℕ) → Type 0
Weaker new old = (c : Byte) (v : ℕ) → new c ≡ Some v → old c ≡ Some v

without_weaker : (lost : Byte → Bool) (value : Byte → Option ℕ) → Weaker (without lost value) value
without_weaker lost value c v h = go (lost c) h
  where
    go : (b : Bool) → (if b then None else value c) ≡ Some v → value c ≡ Some v
    go true h = absurd cc
    go false h = h

used_weaker : (past : Past) (f r : ℕ) (w : World) → Weaker (used past f r w).value w.value
used_weaker past f r w c v h = go (is_exclusive past r) (is_other f (w.owner r)) refl refl h
  where
    go : (a b : Bool) → is_exclusive past r ≡ a → is_other f (w.owner r) ≡ b → (used past f r w).value c ≡ Some v → w.value c ≡ Some v
    go true true e g h = without_weaker (λ b. resource_at b == r) w.value c v (rw (e, g) at h)
    go true false e g h = rw (e, g) at h
    go false b e g h = rw e at h

transitioned_weaker : (e : ImageElement) (w : World) → Weaker (transitioned e w).value w.value
transitioned_weaker e w c v h = go (is_transition e) (e.old_layout == 0) refl refl h
  where
    go : (a b : Bool) → is_transition e ≡ a → (e.old_layout == 0) ≡ b → (transitioned e w).value c ≡ Some v → w.value c ≡ Some v
    go true true i g h = without_weaker (in_range e.image e.range) w.value c v (rw (i, g) at h)
    go true false i g h = rw (i, g) at h
    go false b i g h = rw i at h

buffer_weaker : (past : Past) (f : ℕ) (e : BufferElement) (t : Transfer) (w : World) → Weaker (after_buffer_element past f e t w).value w.value
buffer_weaker past f e Release w c v h = used_weaker past f e.buffer w c v h
buffer_weaker past f e Acquire w c v h = h
buffer_weaker past f e Stays w c v h = h
buffer_weaker past f e Neither w c v h = h

image_weaker : (past : Past) (f : ℕ) (e : ImageElement) (t : Transfer) (w : World) → Weaker (after_image_element past f e t w).value w.value
image_weaker past f e Stays w c v h = go (is_transition e) refl h
  where
    go : (a : Bool) → is_transition e ≡ a → (if a then transitioned e (used past f e.image w) else w).value c ≡ Some v → w.value c ≡ Some v
    go true i h = used_weaker past f e.image w c v (transitioned_weaker e (used past f e.image w) c v h)
    go false i h = h
image_weaker past f e Release w c v h = used_weaker past f e.image w c v h
image_weaker past f e Acquire w c v h = transitioned_weaker e w c v h
image_weaker past f e Neither w c v h = h

element_weaker : (past : Past) (f : ℕ) (w : World) (e : Element) → Weaker (after_element past f w e).value w.value
element_weaker past f w (element.Memory d) c v h = h
element_weaker past f w (element.Buffer e) c v h = buffer_weaker past f e (transfer f e.families) w c v h
element_weaker past f w (element.Image e) c v h = image_weaker past f e (transfer f e.families) w c v h

fold_weaker : {X : Type 0} (f : World → X → World) → ((w : World) (x : X) → Weaker (f w x).value w.value) → (xs : List X) (w : World) → Weaker (fold f w xs).value w.value
fold_weaker f step [] w c v h = h
fold_weaker f step (x ∷ xs) w c v h = step w x c v (fold_weaker f step xs (f w x) c v h)

-- ---- what a point writes to a byte

abbrev pub source_at : Past → Action → Byte → Option Source
source_at past (Host x) c = option_map Value (host_value x c)
source_at past (Run x) c = option_map (λ m. m.source) (find (λ m. same_byte m.to c) (byte_writes past x))
source_at past (Wait s) c = None
source_at past (Signal s) c = None

abbrev pub from_source : Option Source → (Byte → Option ℕ) → Byte → Option ℕ
from_source None value c = value c
from_source (Some s) value c = source_value value s

source_weaker : (s : Source) (new old : Byte → Option ℕ) (v : ℕ) → Weaker new old → source_value new s ≡ Some v → source_value old s ≡ Some v
source_weaker (Value n) new old v weak h = h
source_weaker (From b) new old v weak h = weak b v h

command_source : (past : Past) (f : ℕ) (x : Cmd) (w : World) (c : Byte) (v : ℕ) → (after_command past f x w).value c ≡ Some v → from_source (source_at past (Run x) c) w.value c ≡ Some v
command_source past f x w c v h =
    let ready : World = fold (λ v r. used past f r v) w (uses x) in
    let weak : Weaker ready.value w.value = fold_weaker (λ v r. used past f r v) (λ v r. used_weaker past f r v) (uses x) w in
    go (find (λ m. same_byte m.to c) (byte_writes past x)) ready.value weak
    (fold_weaker (after_element past f) (element_weaker past f) (elements_of x) (record ready { value = after_writes (byte_writes past x) ready.value }) c v h)
  where
    go : (o : Option ByteWrite) (ready : Byte → Option ℕ) → Weaker ready w.value → written_to_byte ready o c ≡ Some v → from_source (option_map (λ m. m.source) o) w.value c ≡ Some v
    go None ready weak h = weak c v h
    go (Some m) ready weak h = source_weaker m.source ready w.value v weak h

host_source : (past : Past) (x : Entry) (w : World) (c : Byte) (v : ℕ) → (after_host past x w).value c ≡ Some v → from_source (source_at past (Host x) c) w.value c ≡ Some v
host_source past (entry.Write b o bytes) w c v h = go (written b o bytes c) h
  where
    go : (o : Option ℕ) → option_or o (w.value c) ≡ Some v → from_source (option_map Value o) w.value c ≡ Some v
    go None h = h
    go (Some n) h = h
host_source past (entry.Flush b o n) w c v h = go (is_cached past b) refl h
  where
    go : (a : Bool) → is_cached past b ≡ a → (after_host past (entry.Flush b o n) w).value c ≡ Some v → w.value c ≡ Some v
    go true e h = rw e at h
    go false e h = rw e at h
host_source past (entry.Invalidate b o n) w c v h = go (is_cached past b) refl h
  where
    go : (a : Bool) → is_cached past b ≡ a → (after_host past (entry.Invalidate b o n) w).value c ≡ Some v → w.value c ≡ Some v
    go true e h = without_weaker (λ k. reaches b o n k && w.dirty k) w.value c v (rw e at h)
    go false e h = rw e at h
host_source past _ w c v h = h

pub point_source : (past : Past) (p : Point) (c : Byte) (v : ℕ) → (world (p ∷ past)).value c ≡ Some v → from_source (source_at past p.action c) (world past).value c ≡ Some v
point_source past p c v h = go p.action h
  where
    go : (d : Action) → (after_action past p.queue d (world past)).value c ≡ Some v → from_source (source_at past d c) (world past).value c ≡ Some v
    go (Host x) h = host_source past x (world past) c v h
    go (Run x) h = command_source past (family_of p.queue) x (world past) c v h
    go (Wait s) h = h
    go (Signal s) h = h
