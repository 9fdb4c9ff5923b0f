-- A pool is made, and ends.
use Rattle.std.proofs.Common.{◌≡◌, ℕ, List, ◌∷◌, refl, ap, sym, ◌∙◌, subst, Option, Some, None}
use Rattle.std.specs.Prelude.{is_some, option_map, option_and_then}
use Rattle.vk_memory.specs.MemoryState.{MemoryState, region_of, type_of}
use Rattle.vk_model.specs.declared.entry.Entry.{Entry}
use Rattle.vk_model.specs.declared.entry.Entry.TheVariants as entry
use Rattle.vk_model.specs.declared.resource.ImageInfo.{ImageInfo}
use Rattle.vk_model.specs.declared.resource.PoolInfo.{PoolInfo}
use Rattle.vk_model.specs.Basics.{holds}
use Rattle.vk_model.specs.Trace.Point.{Past}
use Rattle.vk_model.specs.Trace.Order.{host}
use Rattle.vk_model.specs.Trace.Objects.{live, image_in}
use Rattle.vk_model.specs.Run.Caches.{Cell}
use Rattle.vk_model.specs.World.Bytes.{Byte}
use Rattle.vma_pools.specs.Pools.{Kept}
use Rattle.vma_pools.specs.State as pools
use Rattle.vma_pools.specs.State.{allocation_at, shared_place}
use Rattle.vk_backing.specs.declared.backing.Own.{Own}
use Rattle.vk_backing.specs.Backed.{number_in, pool_of, allocation_of, info_by, object_in}
use Rattle.vk_resources.specs.declared.applied.Applied.TheVariants as applied
use Rattle.vk_resources.specs.declared.resources.Placed.{Placed}
use Rattle.vk_resources.specs.Held.{Held, IsConsistent, placed, placed_in, shape_in, shape_of, object_of, HasCell}
use Rattle.vk_resources.specs.Matches.{MatchesLive, Stands, has_memory, size_made}
use Rattle.vk_resources.specs.Fits.{IsUnused, FitsEntry}
use Rattle.vk_resources.specs.Done.{DoneBy}
use Rattle.vk_resources.specs.Inner.Steps.{PoolMade}
use Rattle.vk_resources.proofs.Matching.{unplaced, unowned, stands_on}
use Rattle.vk_resources.proofs.Living.{live_new, not_live, Grows, grown}
use Rattle.vk_resources.proofs.Applying.{pool_keeps, no_info, no_allocation, none_new}

-- where only what backs ids has changed
rebacked : (old new : Held) → new.memory ≡ old.memory → new.resources ≡ old.resources → new.shapes ≡ old.shapes → new.cache ≡ old.cache → new ≡ record old { backed = new.backed }
rebacked old new memory resources shapes cache = rw (memory, resources, shapes, cache) refl

pub same_cells : (old new : Held) → new.memory ≡ old.memory → new.resources ≡ old.resources → new.shapes ≡ old.shapes → new.cache ≡ old.cache → (c : Byte) (cell : Cell) → HasCell old c cell → HasCell new c cell
same_cells old new memory resources shapes cache c cell has =
    subst (λ (h : Held). HasCell h c cell) (sym (rebacked old new memory resources shapes cache)) (record { held = has.held; region = has.region })

-- ---- a pool is made

module _ (old new : Held) (y : Entry) (i : ℕ) (info : PoolInfo) (is : y ≡ entry.Pool i info) (consistent : IsConsistent old) (made : PoolMade old new i info) where
  pool_grows : (past : Past) (e : ℕ) → MatchesLive past old → IsUnused past i → Grows (live past) (live (host e (entry.Pool i info) ∷ past)) old new i (entry.Pool i info)
  pool_grows past e m unused =
      let none = not_live past i unused in
      let places : (b : ℕ) → placed new b ≡ placed old b = λ b. ap (λ (s : List (ℕ × Placed)). placed_in s b) made.resources in
      let images : (b : ℕ) → shape_of new b ≡ shape_of old b = λ b. ap (λ (s : List (ℕ × ImageInfo)). shape_in s b) made.shapes in
      let objects : (j : ℕ) → object_of new j ≡ object_of old j = λ j. ap (λ (os : List (ℕ × Own)). object_in os j) made.makes.owned in
      let bare : object_of new i ≡ None = objects i ∙ unowned (live past) old i m (ap (λ (o : Option Entry). holds o has_memory) none) in
      let shares : (j : ℕ) → allocation_of new.backed j ≡ allocation_of old.backed j = λ j. ap (λ (ns : List (ℕ × ℕ)). number_in ns j) made.makes.allocations in
      record {
        now = live_new past e (entry.Pool i info) i refl refl unused;
        fresh = none;
        size = ap (λ (o : Option Placed). option_map (λ (p : Placed). p.size) o) (places i ∙ unplaced (live past) old i m (ap (option_and_then size_made) none));
        shaped = images i ∙ m.shapes i ∙ ap (option_and_then image_in) none;
        places = λ b other. places b;
        shapes = λ b other. images b;
        object = ap is_some bare;
        objects = λ j other. objects j;
        lies = λ p r at is. absurd cc;
        bytes = λ number y is has. absurd cc;
        regions = λ j number has. ap (λ (n : MemoryState). region_of n number) made.memory;
        type_now = λ number t is has. absurd cc;
        types = λ j number has. ap (λ (n : MemoryState). type_of n number) made.memory;
        info = made.makes.made_with;
        infos = made.makes.infos;
        pooled = λ a has. let both : ◌≡◌ {A = Option ℕ} (Some a) None = sym has ∙ shares i ∙ no_allocation past old i m unused in absurd cc;
        allocations = λ j other. shares j;
        whole = made.whole;
        keeps = λ b r p other l. pool_keeps old new b r p made.backed (number_stays past m unused r l.0 l.1) (λ n s lies. made.makes.keeps b n s lies) l;
      }
    where
      number_stays : (past : Past) → MatchesLive past old → IsUnused past i → (r n : ℕ) → pool_of old.backed r ≡ Some n → pool_of new.backed r ≡ pool_of old.backed r
      number_stays past m unused r n has = made.makes.others r (λ same.
          let k = consistent.0.backed_is.named r n has in
          let some : info_by old.backed r ≡ Some k.0.pool.info = ap (λ (o : Option ℕ). option_map (λ (k : Kept). k.pool.info) (option_and_then (pools.pool_at old.backed.pools) o)) has ∙ ap (λ (o : Option Kept). option_map (λ (k : Kept). k.pool.info) o) k.1 in
          let both : None ≡ Some k.0.pool.info = sym (no_info past old i m unused) ∙ ap (λ (j : ℕ). info_by old.backed j) (sym same) ∙ some in cc)

  pub pool_done : (e : ℕ) (past : Past) → Stands past old → FitsEntry past y → DoneBy applied.Done e y past old new
  pool_done e past m fit =
      let unused = (subst (λ (x : Entry). FitsEntry past x) is fit).0 in
      subst (λ (x : Entry). DoneBy applied.Done e x past old new) (sym is) (
        (
          stands_on past e (entry.Pool i info) old new m (grown (live past) (live (host e (entry.Pool i info) ∷ past)) old new i (entry.Pool i info) (pool_grows past e m.live unused) m.live),
          λ c cell there after has. same_cells old new made.memory made.resources made.shapes made.cache c cell has,
          none_new old new made.resources made.shapes,
        ),
        λ b o n h. absurd cc,
      )

-- it has no number yet
pub pool_absent : (s : Held) (y : Entry) (i : ℕ) (info : PoolInfo) → y ≡ entry.Pool i info → IsConsistent s → (past : Past) → MatchesLive past s → FitsEntry past y → pool_of s.backed i ≡ None
pool_absent s y i info is consistent past m fit = go (pool_of s.backed i) refl
  where
    unused : IsUnused past i
    unused = (subst (λ (x : Entry). FitsEntry past x) is fit).0

    go : (o : Option ℕ) → pool_of s.backed i ≡ o → o ≡ None
    go None e = refl
    go (Some n) e =
        let k = consistent.0.backed_is.named i n e in
        let some : info_by s.backed i ≡ Some k.0.pool.info = ap (λ (o : Option ℕ). option_map (λ (k : Kept). k.pool.info) (option_and_then (pools.pool_at s.backed.pools) o)) e ∙ ap (λ (o : Option Kept). option_map (λ (k : Kept). k.pool.info) o) k.1 in
        let both : None ≡ Some k.0.pool.info = sym (no_info past s i m unused) ∙ some in cc
