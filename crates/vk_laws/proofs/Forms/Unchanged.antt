-- What uses by queue families and host entries leave as it is of the layouts and the owners.
use Rattle.std.proofs.Common.{◌≡◌, ℕ, List, [], ◌∷◌, Bool, true, false, refl, ◌∙◌}
use Rattle.std.specs.Prelude.{if◌then◌else◌}
use Rattle.std.specs.List.{fold}
use Rattle.vk_model.specs.declared.command.ImageElement.{ImageElement}
use Rattle.vk_model.specs.declared.entry.Entry.{Entry}
use Rattle.vk_model.specs.declared.entry.Entry.TheVariants as entry
use Rattle.vk_model.specs.World.Bytes.{World}
use Rattle.vk_model.specs.World.Effect.{used, after_host, flushed, invalidated, reaches, transitioned}
use Rattle.vk_model.specs.World.Ownership.{is_transition}
use Rattle.vk_model.specs.Trace.Objects.{is_exclusive, is_cached}
use Rattle.vk_model.specs.Trace.Point.{Past}

-- uses change no layout
pub used_layout : (past : Past) (f r : ℕ) (w : World) → (used past f r w).layout ≡ w.layout
used_layout past f r w = go (is_exclusive past r) refl
  where
    go : (b : Bool) → is_exclusive past r ≡ b → (used past f r w).layout ≡ w.layout
    go true e = rw e refl
    go false e = rw e refl

pub ready_layout : (past : Past) (f : ℕ) (rs : List ℕ) (w : World) → (fold (λ v r. used past f r v) w rs).layout ≡ w.layout
ready_layout past f [] w = refl
ready_layout past f (r ∷ rs) w = ready_layout past f rs (used past f r w) ∙ used_layout past f r w

-- a host entry changes no layout
pub host_layout : (past : Past) (x : Entry) (w : World) → (after_host past x w).layout ≡ w.layout
host_layout past (entry.Write b o bytes) w = refl
host_layout past (entry.Flush b o n) w = go (is_cached past b)
  where
    go : (c : Bool) → (if c then flushed (reaches b o n) w else w).layout ≡ w.layout
    go true = refl
    go false = refl
host_layout past (entry.Invalidate b o n) w = go (is_cached past b)
  where
    go : (c : Bool) → (if c then invalidated (reaches b o n) w else w).layout ≡ w.layout
    go true = refl
    go false = refl
host_layout past _ w = refl

-- and no owner
pub host_owner : (past : Past) (x : Entry) (w : World) → (after_host past x w).owner ≡ w.owner
host_owner past (entry.Write b o bytes) w = refl
host_owner past (entry.Flush b o n) w = go (is_cached past b)
  where
    go : (c : Bool) → (if c then flushed (reaches b o n) w else w).owner ≡ w.owner
    go true = refl
    go false = refl
host_owner past (entry.Invalidate b o n) w = go (is_cached past b)
  where
    go : (c : Bool) → (if c then invalidated (reaches b o n) w else w).owner ≡ w.owner
    go true = refl
    go false = refl
host_owner past _ w = refl

-- a transition changes no owner
pub transitioned_owner : (e : ImageElement) (w : World) (r : ℕ) → (transitioned e w).owner r ≡ w.owner r
transitioned_owner e w r = go (is_transition e) refl
  where
    go : (b : Bool) → is_transition e ≡ b → (transitioned e w).owner r ≡ w.owner r
    go true h = rw h refl
    go false h = rw h refl
