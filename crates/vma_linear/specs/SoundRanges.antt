-- The ranges of a linear block as a suballocator is seen.
use Rattle.std.specs.Prelude.{◌≡◌, ℕ, ◌+◌, ◌≤◌, List, [], ◌∷◌, Bool, true, false, not, ◌&&◌, nat_le, if◌then◌else◌, All, AllPairs, refl}
use Rattle.std.specs.List.{list_all, list_any}
use Rattle.std.proofs.Common.{arith}
use Rattle.std.proofs.lemmas.List.Elements.{All-nil, All-cons}
use Rattle.std.proofs.lemmas.List.Kept.{AllPairs-cons}
use Rattle.std.proofs.lemmas.Bool.{and_parts, or_parts, leb-true, not-true}
use Rattle.vk_model.specs.Basics.{some_pair}
use Rattle.vk_model.specs.Memory.Suballocation.{Taken, conflict, IsApart, IsSound}
use Rattle.vk_model.specs.Memory.Room.{Linear, all_taken}

-- Whether a range lies in a block of this size.
abbrev pub ends_in : ℕ → Taken → Bool
ends_in size t = nat_le (t.start + t.size) size

-- Whether two ranges conflict.
abbrev pub meets : Taken → Taken → Bool
meets t u = conflict t.kind t.start t.size u.kind u.start u.size

-- Whether each range lies in the block and no two conflict.
abbrev pub are_sound : ℕ → List Taken → Bool
are_sound size taken = list_all (ends_in size) taken && not (some_pair meets taken)

-- All ranges of a block. They are sound in each that there is; for other records there are none, since a suballocator's ranges are always sound.
abbrev pub sound_taken : Linear → List Taken
sound_taken b = if are_sound b.size (all_taken b) then all_taken b else []

-- ---- the law that a suballocator's ranges are sound

all_in : (size : ℕ) (ts : List Taken) → list_all (ends_in size) ts ≡ true → All (λ t. t.start + t.size ≤ size) ts
all_in size [] e = All-nil (λ t. t.start + t.size ≤ size)
all_in size (t ∷ ts) e =
    let both = and_parts (ends_in size t) (list_all (ends_in size) ts) e in
    All-cons (λ u. u.start + u.size ≤ size) t ts (leb-true (t.start + t.size) size both.0) (all_in size ts both.1)

none_meets : (t : Taken) (us : List Taken) → list_any (meets t) us ≡ false → All (IsApart t) us
none_meets t [] none = All-nil (IsApart t)
none_meets t (u ∷ us) none = let both = or_parts (meets t u) (list_any (meets t) us) none in All-cons (IsApart t) u us both.0 (none_meets t us both.1)

no_pair : (ts : List Taken) → some_pair meets ts ≡ false → AllPairs IsApart ts
no_pair [] e = λ i j d less there. absurd (omega arith)
no_pair (t ∷ ts) e =
    let both = or_parts (list_any (meets t) ts) (some_pair meets ts) e in
    AllPairs-cons IsApart t ts (none_meets t ts both.0) (no_pair ts both.1)

pub ranges_sound : (b : Linear) → IsSound b.size (sound_taken b)
ranges_sound b = go (are_sound b.size (all_taken b)) refl
  where
    go : (c : Bool) → are_sound b.size (all_taken b) ≡ c → IsSound b.size (if c then all_taken b else [])
    go true e =
        let both = and_parts (list_all (ends_in b.size) (all_taken b)) (not (some_pair meets (all_taken b))) e in
        record { inside = all_in b.size (all_taken b) both.0; apart = no_pair (all_taken b) (not-true (some_pair meets (all_taken b)) both.1) }
    go false e = record { inside = All-nil (λ t. t.start + t.size ≤ b.size); apart = λ i j d less there. absurd (omega arith) }
