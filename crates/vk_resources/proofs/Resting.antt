-- An entry that asks for nothing by itself.
use Rattle.std.proofs.Common.{◌≡◌, ℕ, suc, [], ◌∷◌, Bool, false, ◌==◌, refl, ap, sym, ◌∙◌, arith, Option, Some, None}
use Rattle.std.specs.Prelude.{if◌then◌else◌, ⊤, is_some, option_map, option_and_then}
use Rattle.std.proofs.lemmas.Bool.{eqb-true, false_from_ne_true}
use Rattle.vk_model.specs.declared.entry.Entry.{Entry}
use Rattle.vk_model.specs.declared.entry.Entry.TheVariants as entry
use Rattle.vk_model.specs.Basics.{holds}
use Rattle.vk_model.specs.Trace.Point.{Past}
use Rattle.vk_model.specs.Trace.Order.{host}
use Rattle.vk_model.specs.Trace.Objects.{made_by, ended_by, live, image_in, resource_in, memory_in, pool_in}
use Rattle.vk_model.specs.Run.Caches as caches
use Rattle.vk_model.specs.Run.Caches.{Cell, queue_agent, dropped, dropped_if}
use Rattle.vk_model.specs.World.Bytes.{Byte}
use Rattle.vk_resources.specs.declared.applied.Applied.TheVariants as applied
use Rattle.vk_resources.specs.declared.resources.Placed.{Placed}
use Rattle.vk_resources.specs.Held.{Held, object_of, HasCell}
use Rattle.vk_resources.specs.Matches.{MatchesLive, Stands, in_pool, size_made, has_memory}
use Rattle.vk_resources.specs.Fits.{IsUnused, FitsEntry}
use Rattle.vk_resources.specs.Done.{DoneBy}
use Rattle.vk_resources.proofs.Matching.{unplaced, unowned, unshared, matches_same, stands_on}
use Rattle.vk_resources.proofs.Living.{live_new, live_same, not_live, grown}
use Rattle.vk_resources.proofs.Applying.{none_new}

-- an entry that is done nothing for
abbrev pub IsRest : Entry → Type 0
IsRest (entry.Memory i info) = ⊥
IsRest (entry.Buffer i info) = ⊥
IsRest (entry.Image i info) = ⊥
IsRest (entry.Pool p info) = ⊥
IsRest (entry.DropPool p) = ⊥
IsRest (entry.Free m) = ⊥
IsRest (entry.Destroy r) = ⊥
IsRest (entry.Write b o bytes) = ⊥
IsRest (entry.Read b o n) = ⊥
IsRest (entry.Flush b o n) = ⊥
IsRest (entry.Invalidate b o n) = ⊥
IsRest (entry.Map b) = ⊥
IsRest (entry.Unmap b) = ⊥
IsRest _ = ⊤

-- nothing is held of an object that is neither a resource nor a memory object
pub other_goes : (s : Held) (past : Past) (e i : ℕ) (x : Entry) → made_by x ≡ Some i → ended_by x ≡ [] → size_made x ≡ None → image_in x ≡ None → resource_in x ≡ None → memory_in x ≡ None → pool_in x ≡ None → has_memory x ≡ false → IsUnused past i → MatchesLive past s → MatchesLive (host e x ∷ past) s
other_goes s past e i x makes ends no_size no_image no_resource no_memory no_pool alone unused m =
    let none = not_live past i unused in
    grown (live past) (live (host e x ∷ past)) s s i x (record {
      now = live_new past e x i makes ends unused;
      fresh = none;
      size = ap (λ (o : Option Placed). option_map (λ (p : Placed). p.size) o) (unplaced (live past) s i m (ap (option_and_then size_made) none)) ∙ sym no_size;
      shaped = m.shapes i ∙ ap (option_and_then image_in) none ∙ sym no_image;
      places = λ b other. refl;
      shapes = λ b other. refl;
      object = ap is_some (unowned (live past) s i m (ap (λ (o : Option Entry). holds o has_memory) none)) ∙ sym alone;
      objects = λ j other. refl;
      lies = λ p r at is. let both : Some r ≡ None = sym is ∙ no_resource in absurd cc;
      bytes = λ number y is has. let both : Some y ≡ None = sym is ∙ no_memory in absurd cc;
      regions = λ j number has. refl;
      type_now = λ number t is has.
          let none_there : object_of s i ≡ None = unowned (live past) s i m (ap (λ (o : Option Entry). holds o has_memory) none) in
          let both : ◌≡◌ {A = Option ℕ} (Some number) None = sym has ∙ none_there in
          absurd cc;
      types = λ j number has. refl;
      info = m.pools i ∙ ap (option_and_then pool_in) none ∙ sym no_pool;
      infos = λ j other. refl;
      pooled = λ a has.
          let none_there = unshared (live past) s i m (ap (λ (o : Option Entry). holds o in_pool) none) in
          let both : ◌≡◌ {A = Option ℕ} (Some a) None = sym has ∙ none_there in
          absurd cc;
      allocations = λ j other. refl;
      whole = λ w. w;
      keeps = λ b r p other l. l;
    }) m

-- the cache of a queue isn't the host's
queue_drops : (s : Held) (q : ℕ) (c : Byte) (cell : Cell) → HasCell s c cell → HasCell s c (dropped (queue_agent q) cell)
queue_drops s q c cell has = go (cell.held (suc q))
  where
    go : (h : Option caches.Held) → HasCell s c (dropped_if (suc q) h cell)
    go None = has
    go (Some (caches.Clean v)) = record { held = ap (λ (t : Bool). if t then None else cell.held 0) (false_from_ne_true (0 == suc q) (λ h. let e = eqb-true 0 (suc q) h in omega (arith, e))) ∙ has.held; region = has.region }
    go (Some (caches.Dirty v)) = has

pub rest_done : (s : Held) (y : Entry) → IsRest y → (e : ℕ) (past : Past) → Stands past s → FitsEntry past y → DoneBy applied.Done e y past s s
rest_done s (entry.Semaphore i v) rest e past m fit = ((stands_on past e (entry.Semaphore i v) s s m (other_goes s past e i (entry.Semaphore i v) refl refl refl refl refl refl refl refl fit m.live), λ c cell there after has. has, none_new s s refl refl), λ b o n h. absurd cc)
rest_done s (entry.Event i) rest e past m fit = ((stands_on past e (entry.Event i) s s m (other_goes s past e i (entry.Event i) refl refl refl refl refl refl refl refl fit m.live), λ c cell there after has. has, none_new s s refl refl), λ b o n h. absurd cc)
rest_done s (entry.Signal v n) rest e past m fit = ((stands_on past e (entry.Signal v n) s s m (matches_same (live past) (live (host e (entry.Signal v n) ∷ past)) s (live_same past e (entry.Signal v n) refl refl) m.live), λ c cell there after has. has, none_new s s refl refl), λ b o n h. absurd cc)
rest_done s (entry.Wait ws) rest e past m fit = ((stands_on past e (entry.Wait ws) s s m (matches_same (live past) (live (host e (entry.Wait ws) ∷ past)) s (live_same past e (entry.Wait ws) refl refl) m.live), λ c cell there after has. has, none_new s s refl refl), λ b o n h. absurd cc)
rest_done s (entry.Submit q bs) rest e past m fit = ((stands_on past e (entry.Submit q bs) s s m (matches_same (live past) (live (host e (entry.Submit q bs) ∷ past)) s (live_same past e (entry.Submit q bs) refl refl) m.live), λ c cell there after has. queue_drops s q c cell has, none_new s s refl refl), λ b o n h. absurd cc)
rest_done s (entry.Memory i info) rest e past m fit = absurd rest
rest_done s (entry.Buffer i info) rest e past m fit = absurd rest
rest_done s (entry.Image i info) rest e past m fit = absurd rest
rest_done s (entry.Pool i info) rest e past m fit = absurd rest
rest_done s (entry.DropPool i) rest e past m fit = absurd rest
rest_done s (entry.Free i) rest e past m fit = absurd rest
rest_done s (entry.Destroy i) rest e past m fit = absurd rest
rest_done s (entry.Write b o bytes) rest e past m fit = absurd rest
rest_done s (entry.Read b o n) rest e past m fit = absurd rest
rest_done s (entry.Flush b o n) rest e past m fit = absurd rest
rest_done s (entry.Invalidate b o n) rest e past m fit = absurd rest
rest_done s (entry.Map b) rest e past m fit = absurd rest
rest_done s (entry.Unmap b) rest e past m fit = absurd rest
rest_done s _ rest e past m fit = absurd fit
