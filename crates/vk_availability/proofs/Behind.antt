-- What becomes late as a piece runs is what memory becomes behind by.
use Rattle.std.proofs.Common.{◌≡◌, ℕ, ◌+◌, Bool, true, false, ◌&&◌, ◌==◌, Option, Some, None, refl, ap, sym, ◌∙◌}
use Rattle.std.specs.Prelude.{List, if◌then◌else◌, slice_index, is_some, option_map}
use Rattle.std.proofs.lemmas.Bool.{eqb-true}
use Rattle.vk_memory.specs.MemoryState.{MemoryState, region_of}
use Rattle.vk_model.specs.World.Bytes.{Byte, resource_at}
use Rattle.vk_model.specs.World.ByteWrites.{ByteWrite}
use Rattle.vk_model.specs.Run.CachedRuns.{write_to}
use Rattle.vk_cache_laws.specs.LateRuns.{late_after_write}
use Rattle.vk_transfer.specs.declared.stretches.Stretch.{Stretch}
use Rattle.vk_image_transfer.specs.Stretches.{is_among}
use Rattle.vk_resources.specs.declared.resources.Placed.{Placed}
use Rattle.vk_resources.specs.declared.stretches.Written.{Written}
use Rattle.vk_resources.specs.declared.resources.Spot.{Spot}
use Rattle.vk_resources.specs.Held.{Held, placed, shape_of, spot_of, place_in, byte_at}
use Rattle.vk_resources.specs.Stretches.{place_at}
use Rattle.vk_resources.proofs.Lying.{byte_lies}
use Rattle.vk_lag.specs.declared.late.Late as kept
use Rattle.vk_lag.specs.declared.late.Writer.{Writer}
use Rattle.vk_lag.specs.Lags.{Lags, late_at}
use Rattle.vk_availability.specs.Pieces.{late_by}
use Rattle.vk_availability.specs.AreLate.{late_byte, BecomesBehind}

first_true : (a b : Bool) → (a && b) ≡ true → a ≡ true
first_true true b e = refl
first_true false b e = absurd cc

-- a byte holds what its memory object has there
value_there : (s : Held) (p : Placed) (c : Byte) (k : ℕ) → placed s (resource_at c) ≡ Some p → place_at s c ≡ Some k → byte_at s c ≡ slice_index (region_of s.memory p.object) (p.offset + k)
value_there s p c k here at = byte_lies s c (record { place = p; at = k; here = here; is = sym (ap (λ (o : Option Placed). place_in (shape_of s (resource_at c)) o c) here) ∙ at })

pub becomes_behind : (s : Held) (old new : Lags) (written : Written) (w : Writer) (p : Placed) → placed s written.resource ≡ Some p
    → ((id k : ℕ) → late_at new id k ≡ late_by written.resource written.left (region_of s.memory p.object) p.offset w id k (late_at old id k)) → BecomesBehind s old new written w
becomes_behind s old new written w p here bytes ms m late n writes values of_node are c k at =
    go (write_to c ms) refl test refl ∙ ap late_byte (sym (bytes (resource_at c) k))
  where
    test : Bool
    test = written.resource == resource_at c && is_among written.left k

    value : ℕ
    value = slice_index (region_of s.memory p.object) (p.offset + k)

    given : Option kept.Late
    given = Some (record { writer = w; value = value })

    -- a byte that is written
    its : test ≡ true → m.region c ≡ value
    its e = values c k at ∙ value_there s p c k (ap (λ (i : ℕ). placed s i) (sym (eqb-true written.resource (resource_at c) (first_true _ _ e))) ∙ here) at

    mine : test ≡ true → Some (record { queue = n.point.queue; node = n.number; value = m.region c }) ≡ late_byte given
    mine e =
        ap (λ (q : ℕ). Some (record { queue = q; node = n.number; value = m.region c })) (sym of_node.queue) ∙ ap (λ (i : ℕ). Some (record { queue = w.queue; node = i; value = m.region c })) (sym of_node.node)
        ∙ ap (λ (v : ℕ). Some (record { queue = w.queue; node = w.node; value = v })) (its e)

    go : (o : Option ByteWrite) → write_to c ms ≡ o → (b : Bool) → test ≡ b → late_after_write n (m.region c) o (late c) ≡ late_byte (if b then given else late_at old (resource_at c) k)
    go None e true f = absurd (let no : is_some (write_to c ms) ≡ false = ap (λ (o : Option ByteWrite). is_some o) e in let yes : is_some (write_to c ms) ≡ true = writes.bytes c k at ∙ f in cc)
    go None e false f = are c k at
    go (Some x) e true f = mine f
    go (Some x) e false f = absurd (let yes : is_some (write_to c ms) ≡ true = ap (λ (o : Option ByteWrite). is_some o) e in let no : is_some (write_to c ms) ≡ false = writes.bytes c k at ∙ f in cc)

-- ---- where a resource lies

pub spot_here : (o : Option Placed) (z : Spot) (p : Placed) → Some z ≡ option_map spot_of o → o ≡ Some p → z ≡ spot_of p
spot_here None z p there here = absurd cc
spot_here (Some q) z p there here = let one : z ≡ spot_of q = cc in let two : q ≡ p = cc in one ∙ ap spot_of two

-- what becomes late of a region is late of the bytes there
pub late_there : (memory : MemoryState) (region : List ℕ) (z : Spot) (o : Option Placed) (p : Placed) → region ≡ region_of memory z.memory → Some z ≡ option_map spot_of o → o ≡ Some p → (r : ℕ) (left : List Stretch) (w : Writer) (id k : ℕ) (late : Option kept.Late)
    → late_by r left region z.offset w id k late ≡ late_by r left (region_of memory p.object) p.offset w id k late
late_there memory region z o p is there here r left w id k late =
    ap (λ (xs : List ℕ). late_by r left xs z.offset w id k late) is ∙ ap (λ (q : Spot). late_by r left (region_of memory q.memory) q.offset w id k late) (spot_here o z p there here)
