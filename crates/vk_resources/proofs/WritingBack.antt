-- The host's cache writes back what moves.
use Rattle.std.proofs.Common.{◌≡◌, ◌∙◌, ℕ, ◌+◌, ◌/◌, ◌<◌, [], ◌∷◌, List, length, take, Bool, true, false, ◌||◌, ◌&&◌, ◌==◌, Option, Some, None, refl, sym, ap, subst, arith, inl, inr}
use Rattle.std.specs.Prelude.{◌⊎◌, IsSome, get_or, if◌then◌else◌, is_some, nat_lt}
use Rattle.std.proofs.lemmas.Bool.{cases_eq, eq-eqb, ne_eqb, le-leb}
use Rattle.std.proofs.lemmas.List.{take_more}
use Rattle.vk_memory.specs.MemoryState.{MemoryState, region_of, type_of}
use Rattle.vk_model.specs.Basics.{among}
use Rattle.vk_model.specs.declared.command.Length.TheVariants as length_of
use Rattle.vk_model.specs.declared.resource.ImageInfo.{ImageInfo}
use Rattle.vk_model.specs.Run.Caches as caches
use Rattle.vk_model.specs.Run.Caches.{Cell, Clean, Dirty, written_back, written_back_if}
use Rattle.vk_model.specs.Trace.Point.{Past}
use Rattle.vk_model.specs.Trace.Objects.{live}
use Rattle.vk_model.specs.World.Bytes.{Byte, in_buffer, in_image, resource_at}
use Rattle.vk_model.specs.World.Effect.{in_atoms}
use Rattle.std.proofs.lemmas.List.Folds.{list_any-append}
use Rattle.vk_map_cache.specs.Holdings.{held_at, only_where}
use Rattle.vk_resources.specs.declared.resources.Placed.{Placed}
use Rattle.vk_resources.specs.Allocating.{allotted}
use Rattle.vk_resources.specs.Held.{Held, IsConsistent, HasCell, placed, placed_in, shape_of, shape_in, flat, host_at, byte_at, holding_in, is_cached_in, is_dirty}
use Rattle.vk_resources.specs.Matches.{Stands}
use Rattle.vk_resources.specs.PassSteps.{AreClean, WritesBack, is_of_any}
use Rattle.vk_resources.specs.Inner.Steps.{HasChanged, KeepsPlaces, MayReachTo, Reserves, cached_at, changed_of}
use Rattle.vk_resources.proofs.CachedBytes.{here_cached}
use Rattle.vk_resources.proofs.CachedRest.{written_back_settles}
use Rattle.vk_resources.proofs.Lying.{there_stays}
use Rattle.vk_resources.proofs.Matching.{flat_parts, keeps_stands}
use Rattle.vk_resources.proofs.Placing.{inside_of}
use Rattle.vk_resources.proofs.Remapping.{rebacked_matches}
use Rattle.vk_resources.proofs.RestThrough.{rest_same, rest_then}
use Rattle.vk_resources.specs.Rest.{KeepsRest}

-- ---- a byte that is written back

unheld : (cell : Cell) → cell.held 0 ≡ None → written_back 0 cell ≡ cell
unheld cell none = ap (λ (h : Option caches.Held). written_back_if 0 h cell) none

twice : (cell : Cell) → written_back 0 (written_back 0 cell) ≡ written_back 0 cell
twice cell = go (cell.held 0) refl
  where
    go : (h : Option caches.Held) → cell.held 0 ≡ h → written_back 0 (written_back_if 0 h cell) ≡ written_back_if 0 h cell
    go None is = ap (λ (x : Option caches.Held). written_back_if 0 x cell) is
    go (Some (Clean v)) is = ap (λ (x : Option caches.Held). written_back_if 0 x cell) is
    go (Some (Dirty v)) is = refl

-- of what isn't in cached memory the host's cache holds nothing
uncached : (s : Held) → IsConsistent s → (b k : ℕ) → cached_at s b ≡ None → host_at s (in_buffer b k) ≡ None
uncached s consistent b k none = go (placed s b) refl
  where
    go : (o : Option Placed) → placed s b ≡ o → holding_in s.cache o k ≡ None
    go None here = refl
    go (Some p) here = within (nat_lt k p.size)
      where
        held : (h : Option caches.Held) → held_at s.cache p.object (p.offset + k) ≡ h → h ≡ None
        held None is = refl
        held (Some x) is =
            let w = consistent.1.only p.object (p.offset + k) (subst IsSome (sym is) refl) in
            let typed : is_cached_in s.memory p ≡ true = ap (λ (n : ℕ). type_of s.memory n == 2) (sym w.object) ∙ w.cached in
            let f = sym (here_cached s b p here typed) ∙ none in absurd cc

        within : (v : Bool) → (if v then held_at s.cache p.object (p.offset + k) else None) ≡ None
        within true = held (held_at s.cache p.object (p.offset + k)) refl
        within false = refl

-- ---- one resource

pub may_flush : (s : Held) → IsConsistent s → (id : ℕ) (o : Option Placed) → o ≡ flat s id → is_some o ≡ true → MayReachTo (flat s id) 0 length_of.Whole
may_flush s consistent id None is some = absurd cc
may_flush s consistent id (Some p) is some =
    let parts = flat_parts (shape_of s id) (placed s id) p (sym is) in
    subst (λ (o : Option Placed). MayReachTo o 0 length_of.Whole) is (inside_of s.memory s.backed s.resources consistent.0 id p parts.1).some

module _ (s n : Held) (consistent : IsConsistent s) (id : ℕ) where
  written_if : (c : Byte) (cell : Cell) → HasCell s c cell → (o : Option caches.Held) → host_at s c ≡ o → o ≡ None → HasCell n c cell → HasCell n c (written_back 0 cell)
  written_if c cell has o is none to = subst (λ (x : Cell). HasCell n c x) (sym (unheld cell (has.held ∙ is ∙ none))) to

  pub flushed_back : HasChanged s n id (only_where (λ k. is_some (cached_at s id) && in_atoms 0 length_of.Whole k) (written_back 0)) → WritesBack (id ∷ []) s n
  flushed_back changed (in_buffer b k) cell there has = go (cases_eq b id)
    where
      new : HasCell n (in_buffer b k) (changed_of id (only_where (λ k. is_some (cached_at s id) && in_atoms 0 length_of.Whole k) (written_back 0)) (in_buffer b k) cell)
      new = changed.1 (in_buffer b k) cell there has

      test : Option Placed → Bool
      test o = is_some o && in_atoms 0 length_of.Whole k

      here : (o : Option Placed) → cached_at s id ≡ o → b ≡ id → HasCell n (in_buffer b k) (if test o then written_back 0 cell else cell) → HasCell n (in_buffer b k) (written_back 0 cell)
      here None is e h = written_if (in_buffer b k) cell has (host_at s (in_buffer b k)) refl (uncached s consistent b k (ap (cached_at s) e ∙ is)) h
      here (Some p) is e h = subst (λ (v : Bool). HasCell n (in_buffer b k) (if v then written_back 0 cell else cell)) (le-leb 0 (k / 64) (omega arith)) h

      go : (b ≡ id) ⊎ (b ≡ id → ⊥) → HasCell n (in_buffer b k) (if is_of_any (id ∷ []) (in_buffer b k) then written_back 0 cell else cell)
      go (inl e) =
          let mine : (id == b) ≡ true = eq-eqb id b (sym e) in
          let one : (b == id) ≡ true = eq-eqb b id e in
          let h = subst (λ (v : Bool). HasCell n (in_buffer b k) (if v then (if test (cached_at s id) then written_back 0 cell else cell) else cell)) mine new in
          subst (λ (v : Bool). HasCell n (in_buffer b k) (if v || false then written_back 0 cell else cell)) (sym one) (here (cached_at s id) refl e h)
      go (inr other) =
          let mine : (id == b) ≡ false = ne_eqb id b (λ e. other (sym e)) in
          let one : (b == id) ≡ false = ne_eqb b id other in
          subst (λ (v : Bool). HasCell n (in_buffer b k) (if v || false then written_back 0 cell else cell)) (sym one)
          (subst (λ (v : Bool). HasCell n (in_buffer b k) (if v then (if test (cached_at s id) then written_back 0 cell else cell) else cell)) mine new)
  flushed_back changed (in_image i l a x y p) cell there has = go (is_of_any (id ∷ []) (in_image i l a x y p))
    where
      new : HasCell n (in_image i l a x y p) cell
      new = changed.1 (in_image i l a x y p) cell there has

      go : (v : Bool) → HasCell n (in_image i l a x y p) (if v then written_back 0 cell else cell)
      go true = written_if (in_image i l a x y p) cell has None refl refl new
      go false = new

-- ---- one after another

-- of some resources so many have been written back
pub record WrittenSoFar (ids : List ℕ) (k : ℕ) (old now : Held) : Type 0 where
  pub resources : now.resources ≡ old.resources
  pub shapes : now.shapes ≡ old.shapes
  pub same : allotted now ≡ allotted old
  pub stands : (past : Past) → Stands past old → Stands past now
  pub written : WritesBack (take k ids) old now
  pub rest : KeepsRest old now (λ c. true)

pub written_first : (ids : List ℕ) (s : Held) → WrittenSoFar ids 0 s s
written_first ids s = record { resources = refl; shapes = refl; same = refl; stands = λ past m. m; written = λ c cell there has. has; rest = rest_same s (λ c. true) }

pub written_more : (ids : List ℕ) (k : ℕ) (old mid new : Held) → k < length ids → WrittenSoFar ids k old mid → KeepsPlaces mid new → WritesBack (get_or ids k 0 ∷ []) mid new → KeepsRest mid new (λ c. true) → WrittenSoFar ids (k + 1) old new
written_more ids k old mid new lt so keeps more rest = record { resources = keeps.resources ∙ so.resources; shapes = keeps.shapes ∙ so.shapes; same = keeps.same ∙ so.same; stands = λ past m. keeps_stands past mid new keeps (so.stands past m); written = written; rest = rest_then old mid new (λ c. true) so.same so.resources so.shapes so.rest rest }
  where
    id : ℕ
    id = get_or ids k 0

    both : (a b : Bool) (c : Byte) (cell : Cell) → HasCell new c (if b || false then written_back 0 (if a then written_back 0 cell else cell) else (if a then written_back 0 cell else cell)) → HasCell new c (if a || (b || false) then written_back 0 cell else cell)
    both true true c cell h = subst (λ (x : Cell). HasCell new c x) (twice cell) h
    both true false c cell h = h
    both false true c cell h = h
    both false false c cell h = h

    written : WritesBack (take (k + 1) ids) old new
    written c cell there has =
        let r = resource_at c in
        let at_mid = there_stays old mid c (ap (λ (l : List (ℕ × Placed)). placed_in l r) so.resources) (ap (λ (l : List (ℕ × ImageInfo)). shape_in l r) so.shapes) there in
        let h = more c (if among r (take k ids) then written_back 0 cell else cell) at_mid (so.written c cell there has) in
        let is : among r (take (k + 1) ids) ≡ (among r (take k ids) || ((r == id) || false)) = ap (λ (l : List ℕ). among r l) (take_more ids k 0 lt) ∙ list_any-append (λ y. r == y) (take k ids) (id ∷ []) in
        subst (λ (v : Bool). HasCell new c (if v then written_back 0 cell else cell)) (sym is) (both (among r (take k ids)) (r == id) c cell h)

-- what was written back is clean
pub written_clean : (ids : List ℕ) (old new : Held) → new.resources ≡ old.resources → new.shapes ≡ old.shapes → WritesBack ids old new → AreClean ids new
written_clean ids old new resources shapes written c there of =
    let r = resource_at c in
    let before = there_stays new old c (ap (λ (l : List (ℕ × Placed)). placed_in l r) (sym resources)) (ap (λ (l : List (ℕ × ImageInfo)). shape_in l r) (sym shapes)) there in
    let cell : Cell = record { region = byte_at old c; held = λ a. host_at old c } in
    let h : HasCell new c (written_back 0 cell) = subst (λ (v : Bool). HasCell new c (if v then written_back 0 cell else cell)) of (written c cell before (record { held = refl; region = refl })) in
    ap is_dirty (sym h.held) ∙ written_back_settles.clean cell

-- ---- places that are reserved

pub reserved_stands : (old new : Held) → Reserves old new → (past : Past) → Stands past old → Stands past new
reserved_stands old new r past m = record {
  live = rebacked_matches old new r.keeps.owned r.keeps.numbers r.keeps.allocations r.keeps.keeps r.keeps.infos r.resources r.shapes (λ k. ap (λ (x : MemoryState). length (region_of x k)) r.memory) (λ k. ap (λ (x : MemoryState). type_of x k) r.memory) r.backed r.whole (live past) m.live;
}
